-- The plan that follows the flow of each leaf comes from its query.
use Rattle.std.specs.Prelude.{◌≡◌, ◌⊎◌, Bool, true, false, if◌then◌else◌, not, ◌&&◌, List, [], ◌∷◌, ◌++◌, map, refl}
use Rattle.std.proofs.Common.{sym, ap, ap₂, ◌∙◌, subst, inl, inr}
use Rattle.std.proofs.lemmas.Bool.{and_parts, and_from, cases_Bool, or_parts}
use Rattle.std.specs.List.{list_any, list_all, AllByRecursion, IsDistinct}
use Rattle.bags.specs.Bag.{SameBag}
use Rattle.bags.specs.BagLaws.{same-refl}
use Rattle.rdf_meaning.specs.Terms.{RdfTriple, same_triple}
use Rattle.layout_meaning.specs.Facts.{CountsOf}
use Rattle.query_meaning.specs.declared.pattern.Pattern.{Pattern}
use Rattle.query_meaning.specs.declared.query.Query.{Query}
use Rattle.query_meaning.specs.declared.tree.Tree.{Tree}
use Rattle.query_eval_meaning.specs.Mapping.{Mapping}
use Rattle.query_eval_meaning.specs.Leaf.{leaf}
use Rattle.query_eval_meaning.specs.Eval.{eval, solutions}
use Rattle.query_eval_meaning.specs.Width.{slot_in_width, pattern_in_width}
use Rattle.query_plan_meaning.specs.declared.star.Star.{Star}
use Rattle.query_plan_meaning.specs.Stars.{stars_leaf, plan_solutions, star_in_width}
use Rattle.query_plan_meaning.specs.Plans.{every_leaf, star_fits, leaf_fits, ComesFrom}
use Rattle.query_plan_meaning.specs.Merged.{is_required_only, patterns_of, all_patterns}
use Rattle.query_algebra_laws.specs.LeavesJoin.{leaf-order}
use Rattle.query_algebra_laws.specs.TreeSolutions.{eval-same}
use Rattle.query_star_laws.specs.Merging.{stars-patterns}
use Rattle.query_star_laws.specs.PlanSolutions.{guarded, eval-guarded}
use Rattle.query_flow_meaning.specs.declared.step.Method.{Method}
use Rattle.query_flow_meaning.specs.declared.step.Method.TheVariants.{Direct, Reverse, Scan}
use Rattle.query_flow_meaning.specs.Flow.{Choice, same_number, flow_of}
use Rattle.query_flow_laws.proofs.Greedy.{flow_of-is, flow-takes, flow-each}
use Rattle.query_flow_meaning.specs.Planned.{star_by, star_of, planned_leaf, are_numbered_apart, is_ready, planned_tree, planned}
use Rattle.query_merging_meaning.specs.Merging.{is_single}
use Rattle.query_flow_laws.proofs.Leaves.{eval-with, expressions-with, every-with, every-more, every-any}

-- ---- numbers

all-apart : (p : Pattern) (ps : List Pattern) → list_any (same_number p) ps ≡ false → AllByRecursion (λ q. same_number p q ≡ false) ps
all-apart p [] e = tt
all-apart p (q ∷ ps) e = let h = or_parts (same_number p q) (list_any (same_number p) ps) e in (h.0, all-apart p ps h.1)

from_not : (b : Bool) → not b ≡ true → b ≡ false
from_not true e = cc
from_not false e = refl

pub apart-distinct : (ps : List Pattern) → are_numbered_apart ps ≡ true → IsDistinct same_number ps
unfolding IsDistinct
apart-distinct [] e = tt
apart-distinct (p ∷ ps) e =
    let h = and_parts (not (list_any (same_number p) ps)) (are_numbered_apart ps) e in
    (all-apart p ps (from_not (list_any (same_number p) ps) h.0), apart-distinct ps h.1)

-- ---- a star for each choice

own-pattern : (p : Pattern) (m : Method) → patterns_of (star_by p m).entity (star_by p m).side (star_by p m).body ≡ p ∷ []
own-pattern p Direct = refl
own-pattern p Reverse = refl
own-pattern p Scan = refl

own-patterns : (flow : List Choice) → all_patterns (map star_of flow) ≡ map (λ (c : Choice). c.pattern) flow
own-patterns [] = refl
own-patterns (c ∷ flow) = ap₂ (λ (x y : List Pattern). x ++ y) (own-pattern c.pattern c.method) (own-patterns flow)

required-by : (p : Pattern) (m : Method) → is_required_only (star_by p m).body ≡ true
required-by p Direct = refl
required-by p Reverse = refl
required-by p Scan = refl

single-by : (p : Pattern) (m : Method) → is_single (star_by p m) ≡ true
single-by p Direct = refl
single-by p Reverse = refl
single-by p Scan = refl

fits-by : (leaf : List Star) (p : Pattern) (m : Method) → star_fits leaf (star_by p m) ≡ true
fits-by leaf p Direct = refl
fits-by leaf p Reverse = refl
fits-by leaf p Scan = refl

width-by : (p : Pattern) (m : Method) → pattern_in_width p ≡ true → star_in_width (star_by p m) ≡ true
width-by p m h = at m
  where
    parts : (slot_in_width p.s ≡ true) × ((slot_in_width p.p && slot_in_width p.o) ≡ true)
    parts = and_parts (slot_in_width p.s) (slot_in_width p.p && slot_in_width p.o) h

    po : (slot_in_width p.p ≡ true) × (slot_in_width p.o ≡ true)
    po = and_parts (slot_in_width p.p) (slot_in_width p.o) parts.1

    at : (m : Method) → star_in_width (star_by p m) ≡ true
    at Direct = rw (parts.0, po.0, po.1) refl
    at Reverse = rw (parts.0, po.0, po.1) refl
    at Scan = rw (parts.0, po.0, po.1) refl

-- what every choice's star passes
all-by : (test : Star → Bool) (P : Pattern → Type 0) → ((p : Pattern) (m : Method) → P p → test (star_by p m) ≡ true) → (flow : List Choice) → AllByRecursion (λ c. P c.pattern) flow → list_all test (map star_of flow) ≡ true
all-by test P h [] all = refl
all-by test P h (c ∷ flow) all = and_from (test (star_of c)) (list_all test (map star_of flow)) (h c.pattern c.method all.0) (all-by test P h flow all.1)

each-choice : (P : Pattern → Type 0) → ((p : Pattern) → P p) → (flow : List Choice) → AllByRecursion (λ c. P c.pattern) flow
each-choice P h [] = tt
each-choice P h (c ∷ flow) = (h c.pattern, each-choice P h flow)

each-from : {X : Type 0} (p : X → Bool) (xs : List X) → list_all p xs ≡ true → AllByRecursion (λ x. p x ≡ true) xs
each-from p [] e = tt
each-from p (x ∷ xs) e = let h = and_parts (p x) (list_all p xs) e in (h.0, each-from p xs h.1)

pub width-of : (counts : CountsOf) (ps : List Pattern) → is_ready ps ≡ true → list_all star_in_width (planned_leaf counts ps) ≡ true
width-of counts ps e =
    let h = and_parts (are_numbered_apart ps) (list_all pattern_in_width ps) e in
    all-by star_in_width (λ p. pattern_in_width p ≡ true) width-by (flow_of counts ps)
    (flow-each (λ p. pattern_in_width p ≡ true) counts [] ps (flow_of counts ps) (flow_of-is counts ps) (each-from pattern_in_width ps h.1))

any-by : (test : Star → Bool) → ((p : Pattern) (m : Method) → test (star_by p m) ≡ true) → (counts : CountsOf) (ps : List Pattern) → list_all test (planned_leaf counts ps) ≡ true
any-by test h counts ps = all-by test (λ p. Unit {0}) (λ p m u. h p m) (flow_of counts ps) (each-choice (λ p. Unit {0}) (λ p. tt) (flow_of counts ps))

-- the stars of a leaf have its solutions
pub planned-leaf : (counts : CountsOf) (g : List RdfTriple) → IsDistinct same_triple g → (ps : List Pattern) → is_ready ps ≡ true → SameBag (stars_leaf g (planned_leaf counts ps)) (leaf ps g)
planned-leaf counts g d ps e =
    let h = and_parts (are_numbered_apart ps) (list_all pattern_in_width ps) e in
    let flow = flow_of counts ps in
    let same : leaf (all_patterns (map star_of flow)) g ≡ leaf ps g =
    ap (λ (qs : List Pattern). leaf qs g) (own-patterns flow)
    ∙ leaf-order (map (λ (c : Choice). c.pattern) flow) ps g (flow-takes counts [] ps (apart-distinct ps h.0) flow (flow_of-is counts ps)) in
    subst (λ (ms : List Mapping). SameBag (stars_leaf g (planned_leaf counts ps)) ms) same
    (stars-patterns g d (planned_leaf counts ps) (any-by (λ (s : Star). is_required_only s.body) required-by counts ps) (width-of counts ps e))

pub planned-solutions : (counts : CountsOf) (t : Tree (List Pattern)) → every_leaf is_ready t ≡ true → (g : List RdfTriple) → IsDistinct same_triple g → SameBag (plan_solutions (planned_tree counts t) g) (solutions t g)
planned-solutions counts t e g d =
    let stars : List Pattern → List Mapping = λ ps. stars_leaf g (planned_leaf counts ps) in
    let own : List Pattern → List Mapping = λ ps. leaf ps g in
    subst (λ (ms : List Mapping). SameBag ms (solutions t g)) (sym (eval-with (planned_leaf counts) (stars_leaf g) t ∙ eval-guarded is_ready stars t e))
    (subst (λ (ms : List Mapping). SameBag (eval (guarded is_ready stars) t) ms) (sym (eval-guarded is_ready own t e))
    (eval-same (guarded is_ready stars) (guarded is_ready own) (λ ps. at ps (cases_Bool (is_ready ps))) t))
  where
    at : (ps : List Pattern) → (is_ready ps ≡ true) ⊎ (is_ready ps ≡ false) → SameBag (if is_ready ps then stars_leaf g (planned_leaf counts ps) else []) (if is_ready ps then leaf ps g else [])
    at ps (inl h) = rw h (planned-leaf counts g d ps h)
    at ps (inr h) = rw h (same-refl [])

pub planned-width : (counts : CountsOf) (t : Tree (List Pattern)) → every_leaf is_ready t ≡ true → every_leaf (list_all star_in_width) (planned_tree counts t) ≡ true
planned-width counts t e = every-with (planned_leaf counts) (list_all star_in_width) t ∙ every-more is_ready (λ ps. list_all star_in_width (planned_leaf counts ps)) (width-of counts) t e

pub planned-comes : (counts : CountsOf) (q : Query) → every_leaf is_ready q.tree ≡ true → ComesFrom q (planned counts q)
planned-comes counts q e = record {
  names = refl;
  modifiers = refl;
  expressions = expressions-with (planned_leaf counts) q.tree;
  fits = every-with (planned_leaf counts) leaf_fits q.tree ∙ every-any (λ ps. leaf_fits (planned_leaf counts ps)) (λ ps. any-by (star_fits (planned_leaf counts ps)) (fits-by (planned_leaf counts ps)) counts ps) q.tree;
  in_width = planned-width counts q.tree e;
  solutions = planned-solutions counts q.tree e;
}

pub planned-single : (counts : CountsOf) (t : Tree (List Pattern)) → every_leaf (list_all is_single) (planned_tree counts t) ≡ true
planned-single counts t = every-with (planned_leaf counts) (list_all is_single) t ∙ every-any (λ ps. list_all is_single (planned_leaf counts ps)) (λ ps. any-by is_single single-by counts ps) t
