-- A left join is its matches, and the mappings without one.
use Rattle.std.specs.Prelude.{◌≡◌, ℕ, ◌+◌, ◌<◌, ◌≤◌, ◌⊎◌, Bool, true, false, cond, List, [], ◌∷◌, ◌++◌, map, refl}
use Rattle.std.proofs.Common.{sym, ap, ap₂, ◌∙◌, arith, eqb, inl, inr}
use Rattle.std.proofs.Math.Path.{fun_ext}
use Rattle.std.proofs.lemmas.Bool.{ne_eqb, or_left, or_right, or_from, cases_Bool, cases_lt}
use Rattle.std.specs.List.{list_any, filter, AllByRecursion}
use Rattle.std.proofs.lemmas.List.Folds.{list_any-append}
use Rattle.bags.specs.Bag.{total, SameBag}
use Rattle.bags.specs.BagLaws.{total-same, total-each, total-plus, total-map, total-flat_map, total-filter, total-append, each-weaker}
use Rattle.query_eval_meaning.specs.Mapping.{Mapping, width}
use Rattle.query_eval_meaning.specs.Eval.{or_alone, found, left_join}
use Rattle.query_eval_meaning.specs.Variables.{IsNarrow}
use Rattle.query_eval_meaning.specs.Matches.{same_below, Match, matches_of, unmatched}
use Rattle.query_algebra_laws.specs.OneLeaf.{same_below-refl, same-at}
use Rattle.query_algebra_laws.specs.Joins.{total-or_alone}

same-mapping : (m k : Mapping) → IsNarrow m → IsNarrow k → same_below width m k ≡ true → m ≡ k
same-mapping m k nm nk e = fun_ext (λ v. at v (cases_lt v width))
  where
    at : (v : ℕ) → (v < width) ⊎ (width ≤ v) → m v ≡ k v
    at v (inl l) = same-at width m k e v l
    at v (inr l) = nm v l ∙ sym (nk v l)

abbrev pub one_of : Mapping → List Match → Bool
one_of a ms = list_any (λ (q : Match). same_below width q.left a) ms

abbrev pub paired : Mapping → List Mapping → List Match
paired b ms = map (λ (m : Mapping). record { left = b; merged = m }) ms

others-differ : (a b : Mapping) (ms : List Mapping) → same_below width b a ≡ false → one_of a (paired b ms) ≡ false
others-differ a b [] e = refl
others-differ a b (m ∷ ms) e = or_from _ _ e (others-differ a b ms e)

abbrev pub size : List Mapping → ℕ
size ms = total (λ (m : Mapping). 1) ms

nil_from : (ms : List Mapping) → eqb (size ms) 0 ≡ true → ms ≡ []
nil_from [] e = refl
nil_from (m ∷ ms) e = let h : eqb (1 + size ms) 0 ≡ true = e in let n : eqb (1 + size ms) 0 ≡ false = ne_eqb (1 + size ms) 0 (λ z. absurd (omega arith)) in cc

none-matched : (f : (Mapping → Bool)) (bs : List Mapping) (a : Mapping) → IsNarrow a → found f bs a ≡ [] → (xs : List Mapping) → AllByRecursion IsNarrow xs → one_of a (matches_of f xs bs) ≡ false
none-matched f bs a na e [] all = refl
none-matched f bs a na e (x ∷ xs) all =
    list_any-append (λ (q : Match). same_below width q.left a) (paired x (found f bs x)) (matches_of f xs bs)
    ∙ or_from _ _ (go (cases_Bool (same_below width x a))) (none-matched f bs a na e xs all.1)
  where
    go : (same_below width x a ≡ true) ⊎ (same_below width x a ≡ false) → one_of a (paired x (found f bs x)) ≡ false
    go (inl s) = ap (λ (ms : List Mapping). one_of a (paired x ms)) (ap (found f bs) (same-mapping x a all.0 na s) ∙ e)
    go (inr s) = others-differ a x (found f bs x) s

-- what has a match is found among the pairs
abbrev pub IsMatched : (Mapping → Bool) → List Mapping → List Match → Mapping → Type 0
IsMatched f bs ms a = eqb (size (found f bs a)) 0 ≡ false → one_of a ms ≡ true

self-matched : (a : Mapping) (ms : List Mapping) → eqb (size ms) 0 ≡ false → one_of a (paired a ms) ≡ true
self-matched a [] e = cc
self-matched a (m ∷ ms) e = or_left _ _ (same_below-refl width a)

each-matched : (f : (Mapping → Bool)) (bs xs : List Mapping) → AllByRecursion (IsMatched f bs (matches_of f xs bs)) xs
each-matched f bs [] = tt
each-matched f bs (x ∷ xs) =
    let test : Mapping → Match → Bool = λ a q. same_below width q.left a in (
      (λ e. list_any-append (test x) (paired x (found f bs x)) (matches_of f xs bs) ∙ or_left _ _ (self-matched x (found f bs x) e)),
      each-weaker (IsMatched f bs (matches_of f xs bs)) (IsMatched f bs (matches_of f (x ∷ xs) bs))
          (λ a h e. list_any-append (test a) (paired x (found f bs x)) (matches_of f xs bs) ∙ or_right _ _ (h e)) xs (each-matched f bs xs),
    )

-- a mapping of the left side: its matches, and itself where there is none
left-part : (f : (Mapping → Bool)) (bs xs : List Mapping) → AllByRecursion IsNarrow xs → (g : Mapping → ℕ) (a : Mapping) → IsNarrow a → IsMatched f bs (matches_of f xs bs) a →
    total g (or_alone a (found f bs a)) ≡ total g (found f bs a) + cond (unmatched (matches_of f xs bs) a) (g a) 0
left-part f bs xs narrow g a na h = total-or_alone g a (found f bs a) ∙ go (cases_Bool (eqb (size (found f bs a)) 0))
  where
    go : (eqb (size (found f bs a)) 0 ≡ true) ⊎ (eqb (size (found f bs a)) 0 ≡ false) → cond (eqb (size (found f bs a)) 0) (g a) (total g (found f bs a)) ≡ total g (found f bs a) + cond (unmatched (matches_of f xs bs) a) (g a) 0
    go (inl e) =
        let nil : found f bs a ≡ [] = nil_from (found f bs a) e in
        let z : total g (found f bs a) ≡ 0 = ap (total g) nil in
        rw (e, none-matched f bs a na nil xs narrow) (omega arith)
    go (inr e) = rw (e, h e) (omega arith)

pub left_join_split : (f : (Mapping → Bool)) (xs bs : List Mapping) → AllByRecursion IsNarrow xs →
    SameBag (left_join f xs bs) (map (λ (q : Match). q.merged) (matches_of f xs bs) ++ filter (unmatched (matches_of f xs bs)) xs)
left_join_split f xs bs narrow = record {
  totals = λ g.
      let ms = matches_of f xs bs in
      total-flat_map g (λ a. or_alone a (found f bs a)) xs
      ∙ total-each _ _ (λ a. IsNarrow a × IsMatched f bs ms a) (λ a p. left-part f bs xs narrow g a p.0 p.1) xs (both (IsMatched f bs ms) xs narrow (each-matched f bs xs))
      ∙ total-plus (λ a. total g (found f bs a)) (λ a. cond (unmatched ms a) (g a) 0) xs
      ∙ ap₂ (λ m n. m + n)
      (sym (total-map g (λ (q : Match). q.merged) ms ∙ total-flat_map (λ (q : Match). g q.merged) (λ a. paired a (found f bs a)) xs
      ∙ total-same _ _ (λ a. total-map (λ (q : Match). g q.merged) (λ (m : Mapping). record { left = a; merged = m }) (found f bs a)) xs))
      (sym (total-filter g (unmatched ms) xs))
      ∙ sym (total-append g (map (λ (q : Match). q.merged) ms) (filter (unmatched ms) xs));
}
  where
    both : (Q : Mapping → Type 0) (ys : List Mapping) → AllByRecursion IsNarrow ys → AllByRecursion Q ys → AllByRecursion (λ a. IsNarrow a × Q a) ys
    both Q [] p q = tt
    both Q (y ∷ ys) p q = ((p.0, q.0), both Q ys p.1 q.1)
