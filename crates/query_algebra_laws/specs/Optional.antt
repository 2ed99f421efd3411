-- An optional part moves into the side of a join that binds what it shares.
use Rattle.std.specs.Prelude.{◌≡◌, ℕ, zero, suc, Bool, true, false, cond, ◌&&◌, List, map, Option, Some, None, is_some, refl}
use Rattle.std.proofs.Common.{sym, ap, ap₂, ◌∙◌, eqb}
use Rattle.std.proofs.lemmas.Bool.{and_parts}
use Rattle.std.specs.List.{filter, AllByRecursion}
use Rattle.bags.specs.Bag.{total, SameBag}
use Rattle.bags.specs.BagLaws.{total-each, total-zero, total-map, total-flat_map, total-filter}
use Rattle.rdf_meaning.specs.Terms.{RdfTerm}
use Rattle.rdf_meaning.specs.TermLaws.{same_term-is}
use Rattle.query_eval_meaning.specs.Mapping.{Mapping, width, agree, agree_below, compatible, either, merge}
use Rattle.query_eval_meaning.specs.Eval.{join, or_alone, left_join}
use Rattle.query_eval_meaning.specs.Matches.{IsCovered}
use Rattle.query_algebra_laws.specs.Joins.{total-or_alone, merge-assoc, total-joined}

agree-joined : (x y b : Option RdfTerm) → (is_some x ≡ true → is_some b ≡ true → is_some y ≡ true) → agree x y ≡ true → agree (either x y) b ≡ agree y b
agree-joined None y b c e = refl
agree-joined (Some s) (Some t) b c e = ap (λ (u : RdfTerm). agree (Some u) b) (same_term-is s t e)
agree-joined (Some s) None None c e = refl
agree-joined (Some s) None (Some u) c e = let h : false ≡ true = c refl refl in cc

agree-inner : (x y b : Option RdfTerm) → (is_some x ≡ true → is_some b ≡ true → is_some y ≡ true) → agree x (either y b) ≡ agree x y
agree-inner x (Some t) b c = refl
agree-inner None None b c = refl
agree-inner (Some s) None None c = refl
agree-inner (Some s) None (Some u) c = let h : false ≡ true = c refl refl in cc

below-joined : (n : ℕ) (x y b : Mapping) → IsCovered x y b → agree_below n x y ≡ true → agree_below n (merge x y) b ≡ agree_below n y b
below-joined zero x y b c e = refl
below-joined (suc n) x y b c e =
    let h = and_parts (agree (x n) (y n)) (agree_below n x y) e in
    ap₂ (λ p q. p && q) (agree-joined (x n) (y n) (b n) (c n) h.0) (below-joined n x y b c h.1)

below-inner : (n : ℕ) (x y b : Mapping) → IsCovered x y b → agree_below n x (merge y b) ≡ agree_below n x y
below-inner zero x y b c = refl
below-inner (suc n) x y b c = ap₂ (λ p q. p && q) (agree-inner (x n) (y n) (b n) (c n)) (below-inner n x y b c)

abbrev pub found_with : List Mapping → Mapping → List Mapping
found_with bs a = filter (λ m. true) (map (merge a) (filter (compatible a) bs))

pub total-found_with : (k : Mapping → ℕ) (bs : List Mapping) (a : Mapping) → total k (found_with bs a) ≡ total (λ b. cond (compatible a b) (k (merge a b)) 0) bs
total-found_with k bs a = total-filter k (λ m. true) (map (merge a) (filter (compatible a) bs)) ∙ total-map k (merge a) (filter (compatible a) bs) ∙ total-filter (λ b. k (merge a b)) (compatible a) bs

nothing_kept : (b : Bool) → ◌≡◌ {A = ℕ} (cond b 0 0) 0
nothing_kept true = refl
nothing_kept false = refl

nothing_from : (b : Bool) (m n : ℕ) → m ≡ 0 → n ≡ 0 → cond b m n ≡ 0
nothing_from true m n p q = p
nothing_from false m n p q = q

one-pair : (g : Mapping → ℕ) (bs : List Mapping) (x y : Mapping) → AllByRecursion (IsCovered x y) bs →
    cond (compatible x y) (total g (or_alone (merge x y) (found_with bs (merge x y)))) 0 ≡ total (λ n. cond (compatible x n) (g (merge x n)) 0) (or_alone y (found_with bs y))
one-pair g bs x y c = go (compatible x y) refl
  where
    go : (t : Bool) → compatible x y ≡ t → cond t (total g (or_alone (merge x y) (found_with bs (merge x y)))) 0 ≡ total (λ n. cond (compatible x n) (g (merge x n)) 0) (or_alone y (found_with bs y))
    go true e =
        total-or_alone g (merge x y) (found_with bs (merge x y))
        ∙ ap₂ (λ m r. cond (eqb m 0) (g (merge x y)) r)
        (total-found_with (λ m. 1) bs (merge x y)
        ∙ total-each (λ b. cond (compatible (merge x y) b) 1 0) (λ b. cond (compatible y b) 1 0) (IsCovered x y) (λ b h. ap (λ t. cond t 1 0) (below-joined width x y b h e)) bs c
        ∙ sym (total-found_with (λ m. 1) bs y))
        (total-found_with g bs (merge x y)
        ∙ total-each (λ b. cond (compatible (merge x y) b) (g (merge (merge x y) b)) 0) (λ b. cond (compatible y b) (cond (compatible x (merge y b)) (g (merge x (merge y b))) 0) 0) (IsCovered x y)
        (λ b h. ap₂ (λ (t : Bool) (m : Mapping). cond t (g m) 0) (below-joined width x y b h e) (merge-assoc x y b)
        ∙ sym (ap (λ t. cond (compatible y b) (cond t (g (merge x (merge y b))) 0) 0) (below-inner width x y b h ∙ e))) bs c
        ∙ sym (total-found_with (λ n. cond (compatible x n) (g (merge x n)) 0) bs y))
        ∙ ap (λ n. cond (eqb (total (λ m. 1) (found_with bs y)) 0) n (total (λ n. cond (compatible x n) (g (merge x n)) 0) (found_with bs y))) (sym (ap (λ t. cond t (g (merge x y)) 0) e))
        ∙ sym (total-or_alone (λ n. cond (compatible x n) (g (merge x n)) 0) y (found_with bs y))
    go false e = sym (
        total-or_alone (λ n. cond (compatible x n) (g (merge x n)) 0) y (found_with bs y)
        ∙ nothing_from _ _ _ (ap (λ t. cond t (g (merge x y)) 0) e)
        (total-found_with (λ n. cond (compatible x n) (g (merge x n)) 0) bs y
        ∙ total-each (λ b. cond (compatible y b) (cond (compatible x (merge y b)) (g (merge x (merge y b))) 0) 0) (λ b. 0) (IsCovered x y)
        (λ b h. ap (λ t. cond (compatible y b) (cond t (g (merge x (merge y b))) 0) 0) (below-inner width x y b h ∙ e) ∙ nothing_kept (compatible y b)) bs c
        ∙ total-zero bs))

pub left_join_into : (xs ys bs : List Mapping) → AllByRecursion (λ x. AllByRecursion (λ y. AllByRecursion (IsCovered x y) bs) ys) xs → SameBag (left_join (λ m. true) (join xs ys) bs) (join xs (left_join (λ m. true) ys bs))
left_join_into xs ys bs c = record {
  totals = λ g.
      let H : Mapping → ℕ = λ m. total g (or_alone m (found_with bs m)) in
      total-flat_map g (λ a. or_alone a (found_with bs a)) (join xs ys)
      ∙ total-joined H xs ys
      ∙ total-each _ _ (λ x. AllByRecursion (λ y. AllByRecursion (IsCovered x y) bs) ys) (λ x cx.
      total-each _ _ (λ y. AllByRecursion (IsCovered x y) bs) (λ y cy. one-pair g bs x y cy) ys cx
      ∙ sym (total-flat_map (λ n. cond (compatible x n) (g (merge x n)) 0) (λ y. or_alone y (found_with bs y)) ys)) xs c
      ∙ sym (total-joined g xs (left_join (λ m. true) ys bs));
}
