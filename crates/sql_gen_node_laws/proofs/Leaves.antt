-- Outs over solutions that are equal as bags, and a leaf of several stars.
use Rattle.std.specs.Prelude.{◌++◌, ◌+◌, ◌||◌, ◌∷◌, ◌≡◌, Bool, List, [], false, is_some, refl, true, ℕ}
use Rattle.std.proofs.Common.{◌∙◌, ◌⊎◌, ap, ap₂, inl, inr, subst, sym}
use Rattle.std.proofs.lemmas.Bool.{both_ways, cases_Bool, or_cases}
use Rattle.std.proofs.lemmas.List.Folds.{list_any-append}
use Rattle.std.specs.List.{AllByRecursion, list_all, list_any}
use Rattle.bags.specs.Bag.{SameBag, total}
use Rattle.bags.specs.BagLaws.{each-weaker, total-map}
use Rattle.layout_meaning.specs.Facts.{FactsOf, IdOf}
use Rattle.layout_standing_meaning.specs.Dictionary.{Entry, HasIds, has_term, id_of}
use Rattle.query_algebra_laws.specs.Joins.{join-assoc, join-nothing, same-join}
use Rattle.query_algebra_laws.specs.MappingLaws.{none-is}
use Rattle.query_eval_meaning.specs.Eval.{join}
use Rattle.query_eval_meaning.specs.EvalLaws.{eval-Leaf}
use Rattle.query_eval_meaning.specs.Leaf.{terms_of, with_term}
use Rattle.query_eval_meaning.specs.Mapping.{Mapping}
use Rattle.query_eval_meaning.specs.VariableLaws.{certain-Leaf, variables-Leaf}
use Rattle.query_eval_meaning.specs.Variables.{Binds, IsOver, Variables}
use Rattle.query_plan_meaning.specs.Stars.{plan_solutions, star_certain, star_in_width, star_sols, star_variables, stars_certain, stars_leaf, stars_variables}
use Rattle.query_plan_meaning.specs.declared.star.Star.{Star}
use Rattle.query_star_laws.specs.StarVariables.{stars-bind, stars-over}
use Rattle.rdf_meaning.specs.TermLaws.{same_term-is}
use Rattle.rdf_meaning.specs.Terms.{RdfTerm, RdfTriple, same_term}
use Rattle.sql_gen_node_laws.proofs.BothNodes.{join-of_outs, joined_out}
use Rattle.sql_gen_node_laws.proofs.Sides.{has-both}
use Rattle.sql_gen_out_laws.specs.Outs.{Out, StandsForNode, StandsOut}
use Rattle.sql_gen_step_laws.specs.Carried.{Carries, Ids, Over, carry}
use Rattle.sql_gen_step_laws.specs.StepSelects.{has}
use Rattle.sql_rows_meaning.specs.Tables.{Relation}
use Rattle.query_meaning.specs.declared.tree.Tree.TheVariants as trees

-- ---- terms that stand in the triples are known

with-term : (t u : RdfTerm) (ts : List RdfTerm) → list_any (same_term t) (with_term u ts) ≡ true → (same_term t u ≡ true) ⊎ (list_any (same_term t) ts ≡ true)
with-term t u ts e = go (cases_Bool (list_any (same_term u) ts)) e
  where
    go : (list_any (same_term u) ts ≡ true) ⊎ (list_any (same_term u) ts ≡ false) → list_any (same_term t) (with_term u ts) ≡ true → (same_term t u ≡ true) ⊎ (list_any (same_term t) ts ≡ true)
    go (inl h) e = inr (rw h at e)
    go (inr h) e = let k : (same_term t u || list_any (same_term t) ts) ≡ true = rw h at e in or_cases (same_term t u) (list_any (same_term t) ts) k

pub terms-known : (es : List Entry) (g : List RdfTriple) → AllByRecursion (HasIds es) g → (t : RdfTerm) → list_any (same_term t) (terms_of g) ≡ true → has_term es t ≡ true
terms-known es [] all t e = cc
terms-known es (x ∷ g) all t e =
    elim (with-term t x.s (with_term x.p (with_term x.o (terms_of g))) e) [
      | inl h ↦ moved x.s h all.0.subject
      | inr k ↦ elim (with-term t x.p (with_term x.o (terms_of g)) k) [
        | inl h ↦ moved x.p h all.0.predicate
        | inr l ↦ elim (with-term t x.o (terms_of g) l) [
          | inl h ↦ moved x.o h all.0.object
          | inr m ↦ terms-known es g all.1 t m
        ]
      ]
    ]
  where
    moved : (u : RdfTerm) → same_term t u ≡ true → has_term es u ≡ true → has_term es t ≡ true
    moved u h k = subst (λ (z : RdfTerm). has_term es z ≡ true) (sym (same_term-is t u h)) k

-- a mapping over a set of variables and the triples' terms is one over the list of these variables and known terms
pub over-known : (es : List Entry) (g : List RdfTriple) → AllByRecursion (HasIds es) g → (vs : List ℕ) (set : Variables) → ((v : ℕ) → has vs v ≡ set v) → (m : Mapping) → IsOver set (terms_of g) m → Over vs (has_term es) m
over-known es g all vs set same m o = record {
  bound = λ v e. none-is (m v) (go v e (cases_Bool (is_some (m v))));
  known_terms = λ v t e. terms-known es g all t (o.known v t e);
}
  where
    go : (v : ℕ) → has vs v ≡ false → (is_some (m v) ≡ true) ⊎ (is_some (m v) ≡ false) → is_some (m v) ≡ false
    go v e (inl h) = absurd (both_ways (has vs v) e (same v ∙ o.alone v h))
    go v e (inr h) = h

-- ---- equal bags

carries-same : (ids : Ids) (known : RdfTerm → Bool) (vs : List ℕ) (ms ns : List Mapping) (t : Relation) → Carries ids known vs ms t → SameBag ms ns → AllByRecursion (Over vs known) ns → Carries ids known vs ns t
carries-same ids known vs ms ns t c s over = record {
  columns = c.columns;
  rows = record { totals = λ g. c.rows.totals g ∙ total-map g (carry ids vs) ms ∙ s.totals (λ m. g (carry ids vs m)) ∙ sym (total-map g (carry ids vs) ns) };
  fits = over;
  below = c.below;
}

-- an out stands for whatever is the same bag, over the same variables
pub stands-same : (facts : FactsOf) (ids : List IdOf) (sols others : List RdfTriple → List Mapping) (refs : ℕ) (out : Out) (set : Variables) → StandsOut facts ids sols refs out → ((g : List RdfTriple) → SameBag (sols g) (others g)) →
    ((g : List RdfTriple) → AllByRecursion (Binds out.certain) (others g)) → ((v : ℕ) → has out.variables v ≡ set v) → ((g : List RdfTriple) → AllByRecursion (IsOver set (terms_of g)) (others g)) → StandsOut facts ids others refs out
stands-same facts ids sols others refs out set s same binds exact over = record {
  last_there = s.last_there;
  once = s.once;
  in_width = s.in_width;
  bound = binds;
  same_refs = s.same_refs;
  forms = s.forms;
  binds = s.binds;
  stands = λ name a layout tables g d.
      let st = s.stands name a layout tables g d in
      record {
        carries = λ t good. carries-same (id_of d.contents.terms) (has_term d.contents.terms) out.variables (sols g) (others g) _ (st.carries t good) (same g)
            (each-weaker (IsOver set (terms_of g)) (Over out.variables (has_term d.contents.terms)) (λ m o. over-known d.contents.terms g d.same_triples.ids out.variables set exact m o) (others g) (over g));
        apart = st.apart;
      };
}

-- ---- a leaf of several stars

stars-append : (g : List RdfTriple) (ss more : List Star) → SameBag (join (stars_leaf g ss) (stars_leaf g more)) (stars_leaf g (ss ++ more))
stars-append g [] more = join-nothing (stars_leaf g more)
stars-append g (s ∷ ss) more =
    let a = join-assoc (star_sols g s) (stars_leaf g ss) (stars_leaf g more) in
    let b = same-join (star_sols g s) (star_sols g s) (join (stars_leaf g ss) (stars_leaf g more)) (stars_leaf g (ss ++ more)) (record { totals = λ h. refl }) (stars-append g ss more) in
    record { totals = λ h. a.totals h ∙ b.totals h }

-- the stars of two lists, joined
pub join-of_leaves : (facts : FactsOf) (ids : List IdOf) (ss more : List Star) (x y : Out) (p q : ℕ) → list_all star_in_width (ss ++ more) ≡ true →
    StandsForNode facts ids (trees.Leaf ss) p x → StandsForNode facts ids (trees.Leaf more) q y → StandsForNode facts ids (trees.Leaf (ss ++ more)) (p + q + 0) (joined_out x y)
join-of_leaves facts ids ss more x y p q w sx sy = record {
  solutions = stands-same facts ids (λ g. join (plan_solutions (trees.Leaf ss) g) (plan_solutions (trees.Leaf more) g)) (plan_solutions (trees.Leaf (ss ++ more))) (p + q + 0) (joined_out x y) (stars_variables (ss ++ more))
      (join-of_outs facts ids x y (plan_solutions (trees.Leaf ss)) (plan_solutions (trees.Leaf more)) p q sx.solutions sy.solutions)
      (λ g. let s = stars-append g ss more in record {
        totals = λ h. ap (total h) (ap₂ join (eval-Leaf (stars_leaf g) ss) (eval-Leaf (stars_leaf g) more)) ∙ s.totals h ∙ sym (ap (total h) (eval-Leaf (stars_leaf g) (ss ++ more)));
      })
      (λ g. moved (λ (m : Mapping). Binds (joined_out x y).certain m) g (each-weaker (Binds (stars_certain (ss ++ more))) (Binds (joined_out x y).certain)
      (λ m b. record { bound = λ v l e. b.bound v l (sym (certain v) ∙ e) }) (stars_leaf g (ss ++ more)) (stars-bind g (ss ++ more))))
      variables
      (λ g. moved (IsOver (stars_variables (ss ++ more)) (terms_of g)) g (stars-over g (ss ++ more) w));
  variables = λ v. variables v ∙ sym (ap (λ (s : Variables). s v) (variables-Leaf stars_variables (ss ++ more)));
  certain = λ v. certain v ∙ sym (ap (λ (s : Variables). s v) (certain-Leaf stars_certain (ss ++ more)));
}
  where
    moved : (P : Mapping → Type 0) (g : List RdfTriple) → AllByRecursion P (stars_leaf g (ss ++ more)) → AllByRecursion P (plan_solutions (trees.Leaf (ss ++ more)) g)
    moved P g all = subst (AllByRecursion P) (sym (eval-Leaf (stars_leaf g) (ss ++ more))) all

    variables : (v : ℕ) → has (joined_out x y).variables v ≡ stars_variables (ss ++ more) v
    variables v =
        has-both x.variables y.variables v
        ∙ ap₂ (λ i j. i || j) (sx.variables v ∙ ap (λ (s : Variables). s v) (variables-Leaf stars_variables ss)) (sy.variables v ∙ ap (λ (s : Variables). s v) (variables-Leaf stars_variables more))
        ∙ sym (list_any-append (λ (s : Star). star_variables s v) ss more)

    certain : (v : ℕ) → (joined_out x y).certain v ≡ stars_certain (ss ++ more) v
    certain v =
        ap₂ (λ i j. i || j) (sx.certain v ∙ ap (λ (s : Variables). s v) (certain-Leaf stars_certain ss)) (sy.certain v ∙ ap (λ (s : Variables). s v) (certain-Leaf stars_certain more))
        ∙ sym (list_any-append (λ (s : Star). star_certain s v) ss more)
