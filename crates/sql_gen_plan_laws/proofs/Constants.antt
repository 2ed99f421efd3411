-- Ids that name the constants of a query name those of each pattern.
use Rattle.std.specs.Prelude.{◌≡◌, Bool, true, false, if◌then◌else◌, ◌&&◌, ◌||◌, List, [], ◌∷◌, ◌++◌, Option, refl}
use Rattle.std.specs.List.{list_any, list_all, flat_map, AllByRecursion}
use Rattle.std.proofs.Common.{sym, ap, ap₂, ◌∙◌, subst}
use Rattle.std.proofs.lemmas.Bool.{and_from, or_left, or_right}
use Rattle.std.proofs.lemmas.List.Folds.{list_any-append, list_all-append}
use Rattle.rdf_meaning.specs.Terms.{RdfTerm, same_term}
use Rattle.rdf_meaning.specs.TermLaws.{same_term-self, same_term_equiv}
use Rattle.layout_meaning.specs.Facts.{IdOf}
use Rattle.layout_facts_meaning.specs.Facts.{terms_named}
use Rattle.query_meaning.specs.declared.expression.TruthExpr.{TruthExpr}
use Rattle.query_meaning.specs.declared.pattern.Slot.{Slot}
use Rattle.query_meaning.specs.declared.pattern.Slot.TheVariants.{Var, Const}
use Rattle.query_meaning.specs.declared.pattern.Pattern.{Pattern}
use Rattle.query_meaning.specs.declared.tree.Tree.{Tree}
use Rattle.query_meaning.specs.declared.tree.Tree.TheVariants as trees
use Rattle.query_meaning.specs.declared.tree.Tree.TheOpen as layer
use Rattle.query_meaning.specs.declared.tree.Tree.TheFolds.{fold-roll-Tree}
use Rattle.query_meaning.specs.declared.tree.Tree.TheViews as views
use Rattle.query_algebra_laws.specs.TreeInduction.{tree_induction}
use Rattle.query_plan_meaning.specs.Plans.{every_leaf}
use Rattle.query_plan_meaning.specs.PlanLaws.{every-Leaf, every-Join, every-LeftJoin, every-Union, every-Filter}
use Rattle.sparql_meaning.specs.Constants.{slot_constants, pattern_constants, constants_step, tree_constants, kept_once}
use Rattle.sql_gen_meaning.specs.Compilable.{is_told}

abbrev Terms : Type 0
Terms = List RdfTerm

-- ---- terms that are kept once

abbrev added : Terms → RdfTerm → Terms
added kept t = if list_any (same_term t) kept then kept else kept ++ t ∷ []

added-keeps : (kept : Terms) (x t : RdfTerm) → list_any (same_term t) kept ≡ true → list_any (same_term t) (added kept x) ≡ true
added-keeps kept x t h = by (list_any (same_term x) kept)
  where
    by : (b : Bool) → list_any (same_term t) (if b then kept else kept ++ x ∷ []) ≡ true
    by true = h
    by false = list_any-append (same_term t) kept (x ∷ []) ∙ or_left _ _ h

added-has : (kept : Terms) (t : RdfTerm) → list_any (same_term t) (added kept t) ≡ true
added-has kept t = by (list_any (same_term t) kept) refl
  where
    by : (b : Bool) → list_any (same_term t) kept ≡ b → list_any (same_term t) (if b then kept else kept ++ t ∷ []) ≡ true
    by true e = e
    by false e = list_any-append (same_term t) kept (t ∷ []) ∙ or_right _ _ (or_left (same_term t t) false (same_term-self t))

once-keeps : (kept xs : Terms) (t : RdfTerm) → list_any (same_term t) kept ≡ true → list_any (same_term t) (kept_once kept xs) ≡ true
once-keeps kept [] t h = h
once-keeps kept (x ∷ xs) t h = once-keeps (added kept x) xs t (added-keeps kept x t h)

-- each term is among those that are kept
once-each : (kept xs : Terms) → AllByRecursion (λ t. list_any (same_term t) (kept_once kept xs) ≡ true) xs
once-each kept [] = tt
once-each kept (x ∷ xs) = (once-keeps (added kept x) xs x (added-has kept x), once-each (added kept x) xs)

-- ---- terms that ids name

abbrev pub names : List IdOf → RdfTerm → Bool
names ids t = list_any (λ (i : IdOf). same_term i.term t) ids

named-term : (ids : List IdOf) (t : RdfTerm) → list_any (same_term t) (terms_named ids) ≡ names ids t
named-term [] t = refl
named-term (i ∷ ids) t = ap₂ (λ (x y : Bool). x || y) (same_term_equiv.symm t i.term) (named-term ids t)

each-named : (ids : List IdOf) (xs : Terms) → AllByRecursion (λ t. list_any (same_term t) (terms_named ids) ≡ true) xs → list_all (names ids) xs ≡ true
each-named ids [] h = refl
each-named ids (x ∷ xs) h = and_from (names ids x) (list_all (names ids) xs) (sym (named-term ids x) ∙ h.0) (each-named ids xs h.1)

all-named : (ids : List IdOf) (xs : Terms) → terms_named ids ≡ kept_once [] xs → list_all (names ids) xs ≡ true
all-named ids xs e = each-named ids xs (subst (λ (ks : Terms). AllByRecursion (λ t. list_any (same_term t) ks ≡ true) xs) (sym e) (once-each [] xs))

-- ---- patterns

abbrev pub pattern_is_told : List IdOf → Pattern → Bool
pattern_is_told ids p = is_told ids p.s && (is_told ids p.p && is_told ids p.o)

alone : (b : Bool) → b ≡ (b && true)
alone true = refl
alone false = refl

module _ (ids : List IdOf) where
  slot-told : (x : Slot) → is_told ids x ≡ list_all (names ids) (slot_constants x)
  slot-told (Var v) = refl
  slot-told (Const t) = alone (names ids t)

  two-told : (x y : Bool) (xs ys : Terms) → x ≡ list_all (names ids) xs → y ≡ list_all (names ids) ys → (x && y) ≡ list_all (names ids) (xs ++ ys)
  two-told x y xs ys p q = ap₂ (λ (a b : Bool). a && b) p q ∙ sym (list_all-append (names ids) xs ys)

  pattern-told : (p : Pattern) → pattern_is_told ids p ≡ list_all (names ids) (pattern_constants p)
  pattern-told p =
      two-told (is_told ids p.s) (is_told ids p.p && is_told ids p.o) (slot_constants p.s) (slot_constants p.p ++ slot_constants p.o) (slot-told p.s)
      (two-told (is_told ids p.p) (is_told ids p.o) (slot_constants p.p) (slot_constants p.o) (slot-told p.p) (slot-told p.o))

  leaf-told : (ps : List Pattern) → list_all (pattern_is_told ids) ps ≡ list_all (names ids) (flat_map pattern_constants ps)
  leaf-told [] = refl
  leaf-told (p ∷ ps) = two-told (pattern_is_told ids p) (list_all (pattern_is_told ids) ps) (pattern_constants p) (flat_map pattern_constants ps) (pattern-told p) (leaf-told ps)

-- ---- trees

abbrev At : Tree (List Pattern) → Terms
At t = tree_constants t

constants-Leaf : (ps : List Pattern) → At (trees.Leaf ps) ≡ flat_map pattern_constants ps
constants-Leaf ps = ap tree_constants (sym (views.rolls-Leaf ps)) ∙ fold-roll-Tree (List Pattern) Terms constants_step (layer.Leaf ps)

constants-Join : (a b : Tree (List Pattern)) → At (trees.Join a b) ≡ At a ++ At b
constants-Join a b = ap tree_constants (sym (views.rolls-Join a b)) ∙ fold-roll-Tree (List Pattern) Terms constants_step (layer.Join a b)

constants-LeftJoin : (a b : Tree (List Pattern)) (c : Option TruthExpr) → At (trees.LeftJoin a b c) ≡ At a ++ At b
constants-LeftJoin a b c = ap tree_constants (sym (views.rolls-LeftJoin a b c)) ∙ fold-roll-Tree (List Pattern) Terms constants_step (layer.LeftJoin a b c)

constants-Union : (a b : Tree (List Pattern)) → At (trees.Union a b) ≡ At a ++ At b
constants-Union a b = ap tree_constants (sym (views.rolls-Union a b)) ∙ fold-roll-Tree (List Pattern) Terms constants_step (layer.Union a b)

constants-Filter : (c : TruthExpr) (a : Tree (List Pattern)) → At (trees.Filter c a) ≡ At a
constants-Filter c a = ap tree_constants (sym (views.rolls-Filter c a)) ∙ fold-roll-Tree (List Pattern) Terms constants_step (layer.Filter c a)

module _ (ids : List IdOf) where
  abbrev told : List Pattern → Bool
  told = list_all (pattern_is_told ids)

  abbrev Every : Tree (List Pattern) → Bool
  Every t = every_leaf told t

  named-tree : (t : Tree (List Pattern)) → every_leaf told t ≡ list_all (names ids) (tree_constants t)
  named-tree =
      tree_induction (λ t. every_leaf told t ≡ list_all (names ids) (tree_constants t))
      (λ l. every-Leaf told l ∙ leaf-told ids l ∙ ap (list_all (names ids)) (sym (constants-Leaf l)))
      (λ a b p q. every-Join told a b ∙ two-told ids (Every a) (Every b) (At a) (At b) p q ∙ ap (list_all (names ids)) (sym (constants-Join a b)))
      (λ a b c p q. every-LeftJoin told a b c ∙ two-told ids (Every a) (Every b) (At a) (At b) p q ∙ ap (list_all (names ids)) (sym (constants-LeftJoin a b c)))
      (λ a b p q. every-Union told a b ∙ two-told ids (Every a) (Every b) (At a) (At b) p q ∙ ap (list_all (names ids)) (sym (constants-Union a b)))
      (λ c a p. every-Filter told c a ∙ p ∙ ap (list_all (names ids)) (sym (constants-Filter c a)))

  pub patterns-told : (t : Tree (List Pattern)) → terms_named ids ≡ kept_once [] (tree_constants t) → every_leaf (list_all (pattern_is_told ids)) t ≡ true
  patterns-told t e = named-tree t ∙ all-named ids (tree_constants t) e
