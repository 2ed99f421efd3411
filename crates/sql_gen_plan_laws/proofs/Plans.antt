-- The plan that follows the flow of each leaf of a query may be compiled.
use Rattle.std.specs.Prelude.{◌≡◌, ◌≤◌, ℕ, Bool, true, ◌&&◌, nat_lt, nat_le, List, [], length, refl}
use Rattle.std.specs.List.{list_all}
use Rattle.std.proofs.Common.{sym, ap, ◌∙◌, subst, arith}
use Rattle.std.proofs.lemmas.Bool.{and_parts, and_from, ltb-true, lt-ltb}
use Rattle.layout_meaning.specs.Facts.{FactsOf, IdOf, CountsOf}
use Rattle.layout_facts_meaning.specs.Facts.{terms_named}
use Rattle.query_meaning.specs.declared.expression.TruthExpr.{TruthExpr}
use Rattle.query_meaning.specs.declared.pattern.Slot.{Slot}
use Rattle.query_meaning.specs.declared.pattern.Slot.TheVariants.{Var, Const}
use Rattle.query_meaning.specs.declared.pattern.Pattern.{Pattern}
use Rattle.query_meaning.specs.declared.query.Query.{Query}
use Rattle.query_meaning.specs.declared.tree.Tree.{Tree}
use Rattle.query_eval_meaning.specs.Mapping.{width}
use Rattle.query_eval_meaning.specs.Width.{slot_in_width, pattern_in_width}
use Rattle.query_algebra_laws.specs.TreeInduction.{tree_induction}
use Rattle.query_plan_meaning.specs.Plans.{expressions_of, every_leaf, ComesFrom}
use Rattle.query_plan_meaning.specs.PlanLaws.{every-Leaf, every-Join, every-LeftJoin, every-Union, every-Filter}
use Rattle.query_flow_meaning.specs.Planned.{are_numbered_apart, is_ready, planned}
use Rattle.query_flow_laws.proofs.Leaves.{every-more}
use Rattle.query_flow_laws.proofs.Planned.{planned-comes}
use Rattle.sparql_leaf_laws.proofs.Apart.{query-apart}
use Rattle.sparql_meaning.specs.Constants.{tree_constants, kept_once}
use Rattle.sparql_query_meaning.specs.Fragment.{OfFragment}
use Rattle.sparql_query_laws.specs.Connectives as written
use Rattle.sparql_query_laws.specs.Within.{slot_within, pattern_within, truth_within}
use Rattle.sparql_renumbering_laws.proofs.Fragment.{fragment_limits, fragment_names, fragment_numbered}
use Rattle.sql_gen_meaning.specs.Compilable.{AreColumns, is_shallow, Compilable}
use Rattle.sql_gen_plan_laws.proofs.Passing.{all-more, passes-leaves, passes-expressions}
use Rattle.sql_gen_plan_laws.proofs.Constants.{patterns-told}
use Rattle.sql_gen_plan_laws.proofs.Stars.{stars-told, stars-few, stars-plain}
use Rattle.sql_gen_plan_laws.proofs.Depth.{same-connectives}
use Rattle.sql_gen_plan_laws.proofs.Short.{modifiers-short}

-- ---- variables are below the width

module _ (n : ℕ) (few : n ≤ 64) where
  number-width : (v : ℕ) → nat_lt v n ≡ true → nat_lt v width ≡ true
  unfolding width
  number-width v h = let less = ltb-true v n h in lt-ltb v 64 (omega (arith, less, few))

  slot-width : (x : Slot) → slot_within n x ≡ true → slot_in_width x ≡ true
  slot-width (Var v) h = number-width v h
  slot-width (Const t) h = refl

  pattern-width : (p : Pattern) → pattern_within n p ≡ true → pattern_in_width p ≡ true
  pattern-width p h =
      let a = and_parts (slot_within n p.s) (slot_within n p.p && slot_within n p.o) h in
      let b = and_parts (slot_within n p.p) (slot_within n p.o) a.1 in
      and_from (slot_in_width p.s) (slot_in_width p.p && slot_in_width p.o) (slot-width p.s a.0)
      (and_from (slot_in_width p.p) (slot_in_width p.o) (slot-width p.p b.0) (slot-width p.o b.1))

  leaf-width : (ps : List Pattern) → list_all (pattern_within n) ps ≡ true → list_all pattern_in_width ps ≡ true
  leaf-width = all-more (pattern_within n) pattern_in_width pattern-width

-- ---- leaves are ready

-- two tests of each leaf
module _ {L : Type 0} (f g : L → Bool) where
  abbrev both : L → Bool
  both l = f l && g l

  abbrev Both : Tree L → Type 0
  Both t = every_leaf f t ≡ true → every_leaf g t ≡ true → every_leaf both t ≡ true

  two-trees : (a b : Tree L) → Both a → Both b → (every_leaf f a && every_leaf f b) ≡ true → (every_leaf g a && every_leaf g b) ≡ true → (every_leaf both a && every_leaf both b) ≡ true
  two-trees a b p q x y =
      let h = and_parts (every_leaf f a) (every_leaf f b) x in
      let k = and_parts (every_leaf g a) (every_leaf g b) y in
      and_from (every_leaf both a) (every_leaf both b) (p h.0 k.0) (q h.1 k.1)

  both-tests : (t : Tree L) → every_leaf f t ≡ true → every_leaf g t ≡ true → every_leaf (λ l. f l && g l) t ≡ true
  both-tests =
      tree_induction Both
      (λ l x y. every-Leaf both l ∙ and_from (f l) (g l) (sym (every-Leaf f l) ∙ x) (sym (every-Leaf g l) ∙ y))
      (λ a b p q x y. every-Join both a b ∙ two-trees a b p q (sym (every-Join f a b) ∙ x) (sym (every-Join g a b) ∙ y))
      (λ a b c p q x y. every-LeftJoin both a b c ∙ two-trees a b p q (sym (every-LeftJoin f a b c) ∙ x) (sym (every-LeftJoin g a b c) ∙ y))
      (λ a b p q x y. every-Union both a b ∙ two-trees a b p q (sym (every-Union f a b) ∙ x) (sym (every-Union g a b) ∙ y))
      (λ c a p x y. every-Filter both c a ∙ p (sym (every-Filter f c a) ∙ x) (sym (every-Filter g c a) ∙ y))

pub fragment-width : (q : Query) → OfFragment q → every_leaf (list_all pattern_in_width) q.tree ≡ true
fragment-width q f =
    let n : ℕ = length q.names in
    every-more (list_all (pattern_within n)) (list_all pattern_in_width) (leaf-width n (fragment_limits q f).names) q.tree
    (passes-leaves (pattern_within n) (truth_within n) q.tree (fragment_names q f).tree)

pub fragment-ready : (q : Query) → OfFragment q → every_leaf is_ready q.tree ≡ true
fragment-ready q f = both-tests are_numbered_apart (list_all pattern_in_width) q.tree (query-apart q (fragment_numbered q f)) (fragment-width q f)

pub fragment-comes : (counts : CountsOf) (q : Query) → OfFragment q → ComesFrom q (planned counts q)
fragment-comes counts q f = planned-comes counts q (fragment-ready q f)

-- ---- the plan

shallow : (e : TruthExpr) → nat_le (written.connectives e) 97 ≡ true → is_shallow e ≡ true
shallow e h = ap (λ (n : ℕ). nat_le n 97) (sym (same-connectives e)) ∙ h

pub planned-compilable : (counts : CountsOf) (facts : FactsOf) (ids : List IdOf) (q : Query) → OfFragment q → terms_named ids ≡ kept_once [] (tree_constants q.tree)
    → AreColumns facts.direct → AreColumns facts.reverse → Compilable (planned counts q) facts ids
planned-compilable counts facts ids q f named direct reverse =
    let comes = fragment-comes counts q f in
    let limits = fragment_limits q f in
    record {
      fits = comes.fits;
      in_width = comes.in_width;
      told = stars-told ids counts q.tree (patterns-told ids q.tree named);
      plain = stars-plain facts.spilled counts q.tree;
      few_arms = stars-few counts q.tree;
      direct = direct;
      reverse = reverse;
      shallow = subst (λ (es : List TruthExpr). list_all is_shallow es ≡ true) (sym comes.expressions)
          (all-more (λ e. nat_le (written.connectives e) 97) is_shallow shallow (expressions_of q.tree)
          (passes-expressions (λ (p : Pattern). true) (λ e. nat_le (written.connectives e) 97) q.tree limits.connectives));
      short = modifiers-short q limits (fragment_names q f);
    }
