-- What every query of the fragment keeps to.
use Rattle.std.specs.Prelude.{◌≡◌, ◌≤◌, ◌<◌, ◌⊎◌, ℕ, suc, Bool, true, false, ◌==◌, nat_lt, nat_le, List, [], ◌∷◌, map, length, refl}
use Rattle.std.specs.List.{AllByRecursion, IsDistinct}
use Rattle.std.proofs.Common.{sym, ap, ◌∙◌, subst, inl, inr, arith}
use Rattle.std.proofs.lemmas.Bool.{lt-ltb, ltb-true}
use Rattle.std.proofs.lemmas.List.{length-map}
use Rattle.std.proofs.lemmas.Option.{slice_get_within, slice_get-get_or}
use Rattle.query_meaning.specs.declared.pattern.Slot.{Slot}
use Rattle.query_meaning.specs.declared.pattern.Slot.TheVariants as slot
use Rattle.query_meaning.specs.declared.pattern.Pattern.{Pattern}
use Rattle.query_meaning.specs.declared.expression.TruthExpr.{TruthExpr}
use Rattle.query_meaning.specs.declared.modifiers.Key.{Key as SortKey}
use Rattle.query_meaning.specs.declared.query.Query.{Query}
use Rattle.sparql_query_meaning.specs.Limits.{all_limits, all_but_length_and_blocks}
use Rattle.sparql_query_meaning.specs.Fragment.{renumbered_slot, renumbered_pattern, renumbered_truth, renumbered_key, renumbered, Renumbers, OfFragment, of_text, of_longer_text, of_numbers}
use Rattle.sparql_translation_laws.specs.TreePatterns.{tree_patterns}
use Rattle.sparql_fragment_laws.specs.Within.{all_count, most_count}
use Rattle.sparql_fragment_laws.specs.Numbers.{NumberedFrom, query_numbered}
use Rattle.sparql_query_laws.specs.Within.{slot_within, pattern_within, truth_within}
use Rattle.sparql_query_laws.specs.Passing.{both_true}
use Rattle.sparql_query_laws.specs.Sound.{left_true, right_true}
use Rattle.sparql_query_laws.specs.Connectives.{connectives}
use Rattle.sparql_query_laws.specs.Names.{HasNames, query_has_names}
use Rattle.sparql_query_laws.specs.Limits.{HasLimits, query_limits}
use Rattle.sparql_renumbering_laws.proofs.Expressions.{truth_kept, depth_kept}
use Rattle.sparql_renumbering_laws.proofs.Trees.{patterns_same, passes_again}

-- ---- the numbers of patterns, and the bounds

numbered_again : (f : ℕ → ℕ) (n : ℕ) (ps : List Pattern) → NumberedFrom n ps → NumberedFrom n (map (renumbered_pattern f) ps)
numbered_again f n [] h = tt
numbered_again f n (p ∷ ps) h = (h.0, numbered_again f (suc n) ps h.1)

pub fragment_numbered : (q : Query) → OfFragment q → NumberedFrom 1 (tree_patterns q.tree)
fragment_numbered q (of_text bytes i) = query_numbered all_limits bytes q i
fragment_numbered q (of_longer_text bytes i) = query_numbered all_but_length_and_blocks bytes q i
fragment_numbered q (of_numbers bytes p f shown i r few s e) =
    subst (λ (x : Query). NumberedFrom 1 (tree_patterns x.tree)) (sym e)
    (subst (NumberedFrom 1) (sym (patterns_same f p.tree)) (numbered_again f 1 (tree_patterns p.tree) (query_numbered all_but_length_and_blocks bytes p i)))

deep_again : (f : ℕ → ℕ) (e : TruthExpr) → nat_le (connectives e) 97 ≡ true → nat_le (connectives (renumbered_truth f e)) 97 ≡ true
deep_again f e h = ap (λ (n : ℕ). nat_le n 97) (depth_kept f e) ∙ h

limits_again : (p q : Query) (f : ℕ → ℕ) (shown : List ℕ) → HasLimits p → length q.names ≤ 64 → HasLimits (renumbered f q.names shown p)
limits_again p q f shown h few = record {
  patterns = let n = ap length (patterns_same f p.tree) in let m = length-map (tree_patterns p.tree) (renumbered_pattern f) in let k = h.patterns in omega (arith, n, m, k);
  names = few;
  keys = let m = length-map p.modifiers.keys (renumbered_key f) in let k = h.keys in omega (arith, m, k);
  skip = h.skip;
  most = h.most;
  connectives = passes_again f (λ x. true) (λ x. true) (λ e. nat_le (connectives e) 97) (λ e. nat_le (connectives e) 97) (λ x k. refl) (deep_again f) p.tree h.connectives;
}

pub fragment_limits : (q : Query) → OfFragment q → HasLimits q
fragment_limits q (of_text bytes i) = query_limits all_limits all_count bytes q i
fragment_limits q (of_longer_text bytes i) = query_limits all_but_length_and_blocks most_count bytes q i
fragment_limits q (of_numbers bytes p f shown i r few s e) = subst HasLimits (sym e) (limits_again p q f shown (query_limits all_but_length_and_blocks most_count bytes p i) few)

-- ---- names

module _ (f : ℕ → ℕ) (old new : List (List ℕ)) (r : Renumbers f old new) where
  abbrev n : ℕ
  n = length old

  abbrev m : ℕ
  m = length new

  has_name : (v : ℕ) → v < n → f v < m
  has_name v h = let e = slice_get-get_or old v [] h in slice_get_within new (f v) _ (r.named v _ e)

  below : (v : ℕ) → nat_lt v n ≡ true → nat_lt (f v) m ≡ true
  below v h = lt-ltb (f v) m (has_name v (ltb-true v n h))

  slot_again : (x : Slot) → slot_within n x ≡ true → slot_within m (renumbered_slot f x) ≡ true
  slot_again (slot.Var v) h = below v h
  slot_again (slot.Const t) h = refl

  pattern_again : (x : Pattern) → pattern_within n x ≡ true → pattern_within m (renumbered_pattern f x) ≡ true
  pattern_again x h =
      let rest = right_true (slot_within n x.s) _ h in
      both_true (slot_again x.s (left_true (slot_within n x.s) _ h)) (both_true (slot_again x.p (left_true (slot_within n x.p) _ rest)) (slot_again x.o (right_true (slot_within n x.p) _ rest)))

  keys_again : (ks : List SortKey) → AllByRecursion (λ (x : SortKey). x.var < n) ks → AllByRecursion (λ (x : SortKey). x.var < m) (map (renumbered_key f) ks)
  keys_again [] h = tt
  keys_again (x ∷ ks) h = (has_name x.var h.0, keys_again ks h.1)

  shown_again : (vs : List ℕ) → AllByRecursion (λ v. v < n) vs → AllByRecursion (λ v. v < m) (map f vs)
  shown_again [] h = tt
  shown_again (v ∷ vs) h = (has_name v h.0, shown_again vs h.1)

  differs : (v w : ℕ) → v < n → w < n → (v == w) ≡ false → (f v == f w) ≡ false
  differs v w h k e = by (f v == f w) refl
    where
      by : (b : Bool) → (f v == f w) ≡ b → b ≡ false
      by true i = let same : f v ≡ f w = grind (arith, i) in let equal = r.apart v w h k same in absurd (grind (arith, equal, e))
      by false i = refl

  none_equal : (v : ℕ) (vs : List ℕ) → v < n → AllByRecursion (λ w. w < n) vs → AllByRecursion (λ w. (v == w) ≡ false) vs → AllByRecursion (λ w. (f v == w) ≡ false) (map f vs)
  none_equal v [] h k e = tt
  none_equal v (w ∷ vs) h k e = (differs v w h k.0 e.0, none_equal v vs h k.1 e.1)

  once_again : (vs : List ℕ) → AllByRecursion (λ v. v < n) vs → IsDistinct (λ x y. x == y) vs → IsDistinct (λ x y. x == y) (map f vs)
  unfolding IsDistinct
  once_again [] h d = tt
  once_again (v ∷ vs) h d = (none_equal v vs h.0 h.1 d.0, once_again vs h.1 d.1)

names_again : (p q : Query) (f : ℕ → ℕ) (shown : List ℕ) → HasNames p → Renumbers f p.names q.names → (shown ≡ map f p.modifiers.shown) ⊎ (shown ≡ []) → HasNames (renumbered f q.names shown p)
unfolding IsDistinct
names_again p q f shown h r s = record {
  tree = passes_again f (pattern_within (length p.names)) (pattern_within (length q.names)) (truth_within (length p.names)) (truth_within (length q.names)) (pattern_again f p.names q.names r)
      (truth_kept f (length p.names) (length q.names) (below f p.names q.names r)) p.tree h.tree;
  shown = elim s [
    | inl e ↦ subst (AllByRecursion (λ v. v < length q.names)) (sym e) (shown_again f p.names q.names r p.modifiers.shown h.shown)
    | inr e ↦ subst (AllByRecursion (λ v. v < length q.names)) (sym e) tt
  ];
  once = elim s [
    | inl e ↦ subst (IsDistinct (λ x y. x == y)) (sym e) (once_again f p.names q.names r p.modifiers.shown h.shown h.once)
    | inr e ↦ subst (IsDistinct (λ x y. x == y)) (sym e) tt
  ];
  keys = keys_again f p.names q.names r p.modifiers.keys h.keys;
}

pub fragment_names : (q : Query) → OfFragment q → HasNames q
fragment_names q (of_text bytes i) = query_has_names all_limits bytes q i
fragment_names q (of_longer_text bytes i) = query_has_names all_but_length_and_blocks bytes q i
fragment_names q (of_numbers bytes p f shown i r few s e) = subst HasNames (sym e) (names_again p q f shown (query_has_names all_but_length_and_blocks bytes p i) r s)
