-- What every solution of a plan binds.
use Rattle.std.specs.Prelude.{◌≡◌, ◌⊎◌, Bool, true, false, if◌then◌else◌, List, [], ◌++◌, refl}
use Rattle.std.proofs.Common.{sym, ap, ap₂, ◌∙◌, subst, inl, inr}
use Rattle.std.proofs.lemmas.Bool.{and_parts, cases_Bool}
use Rattle.std.specs.List.{list_all, filter, AllByRecursion}
use Rattle.rdf_meaning.specs.Terms.{RdfTriple}
use Rattle.query_meaning.specs.declared.tree.Tree.{Tree}
use Rattle.query_eval_meaning.specs.Mapping.{Mapping}
use Rattle.query_eval_meaning.specs.Leaf.{terms_of}
use Rattle.query_eval_meaning.specs.Eval.{join, left_join, passes_over, holds_over, eval}
use Rattle.query_eval_meaning.specs.EvalLaws.{eval-Leaf, eval-Join, eval-LeftJoin, eval-Union, eval-Filter}
use Rattle.query_eval_meaning.specs.Variables.{Binds, IsOver, variables_of, certain_of}
use Rattle.query_plan_meaning.specs.declared.star.Star.{Star}
use Rattle.query_plan_meaning.specs.Stars.{stars_leaf, star_in_width, stars_variables, stars_certain, plan_solutions}
use Rattle.query_plan_meaning.specs.Plans.{every_leaf}
use Rattle.query_plan_meaning.specs.PlanLaws.{every-Leaf, every-Join, every-LeftJoin, every-Union, every-Filter}
use Rattle.query_algebra_laws.specs.TreeInduction.{tree_induction}
use Rattle.query_algebra_laws.specs.TreeSolutions.{eval-over, eval-binds}
use Rattle.query_star_laws.specs.StarVariables.{stars-over, stars-bind}

-- nothing of a leaf that fails the test
abbrev pub guarded : {L : Type 0} → (L → Bool) → (L → List Mapping) → L → List Mapping
guarded ok leaves l = if ok l then leaves l else []

-- where every leaf passes the test, the others don't count
pub eval-guarded : {L : Type 0} (ok : L → Bool) (leaves : L → List Mapping) (t : Tree L) → every_leaf ok t ≡ true → eval leaves t ≡ eval (guarded ok leaves) t
eval-guarded {L} ok leaves =
    tree_induction (λ t. every_leaf ok t ≡ true → eval leaves t ≡ eval (guarded ok leaves) t)
    (λ l h. eval-Leaf leaves l ∙ passed l (sym (every-Leaf ok l) ∙ h) ∙ sym (eval-Leaf (guarded ok leaves) l))
    (λ a b p q h. let k = and_parts (every_leaf ok a) (every_leaf ok b) (sym (every-Join ok a b) ∙ h) in eval-Join leaves a b ∙ ap₂ join (p k.0) (q k.1) ∙ sym (eval-Join (guarded ok leaves) a b))
    (λ a b f p q h. let k = and_parts (every_leaf ok a) (every_leaf ok b) (sym (every-LeftJoin ok a b f) ∙ h) in eval-LeftJoin leaves a b f ∙ ap₂ (left_join (passes_over f)) (p k.0) (q k.1) ∙ sym (eval-LeftJoin (guarded ok leaves) a b f))
    (λ a b p q h. let k = and_parts (every_leaf ok a) (every_leaf ok b) (sym (every-Union ok a b) ∙ h) in eval-Union leaves a b ∙ ap₂ (λ (ms ns : List Mapping). ms ++ ns) (p k.0) (q k.1) ∙ sym (eval-Union (guarded ok leaves) a b))
    (λ f a p h. eval-Filter leaves f a ∙ ap (filter (holds_over f)) (p (sym (every-Filter ok f a) ∙ h)) ∙ sym (eval-Filter (guarded ok leaves) f a))
  where
    passed : (l : L) → ok l ≡ true → leaves l ≡ (if ok l then leaves l else [])
    passed l e = rw e refl

-- a plan's solutions bind its variables alone, to terms that stand in the triples
pub plan-over : (tree : Tree (List Star)) (g : List RdfTriple) → every_leaf (list_all star_in_width) tree ≡ true → AllByRecursion (IsOver (variables_of stars_variables tree) (terms_of g)) (plan_solutions tree g)
plan-over tree g w =
    subst (λ (ms : List Mapping). AllByRecursion (IsOver (variables_of stars_variables tree) (terms_of g)) ms) (sym (eval-guarded (list_all star_in_width) (stars_leaf g) tree w))
    (eval-over (guarded (list_all star_in_width) (stars_leaf g)) stars_variables (terms_of g) (λ l. at l (cases_Bool (list_all star_in_width l))) tree)
  where
    at : (l : List Star) → (list_all star_in_width l ≡ true) ⊎ (list_all star_in_width l ≡ false) → AllByRecursion (IsOver (stars_variables l) (terms_of g)) (if list_all star_in_width l then stars_leaf g l else [])
    at l (inl e) = rw e (stars-over g l e)
    at l (inr e) = rw e tt

-- and its certain variables
pub plan-bind : (tree : Tree (List Star)) (g : List RdfTriple) → AllByRecursion (Binds (certain_of stars_certain tree)) (plan_solutions tree g)
plan-bind tree g = eval-binds (stars_leaf g) stars_certain (λ l. stars-bind g l) tree
