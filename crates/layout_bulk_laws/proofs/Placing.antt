-- Items placed one after another on a side.
use Rattle.std.proofs.Common.{◌≡◌, ◌≤◌, ◌+◌, ℕ, Bool, true, false, List, [], ◌∷◌, ◌++◌, Some, refl, ap, arith}
use Rattle.std.specs.List.{AllByRecursion}
use Rattle.bags.specs.Bag.{total, SameBag}
use Rattle.bags.specs.BagLaws.{total-append, same-trans}
use Rattle.layout_meaning.specs.Columns.{candidates_of}
use Rattle.layout_meaning.specs.Side.{Item, items, is_held}
use Rattle.layout_meaning.specs.Sound.{one_if}
use Rattle.layout_meaning.specs.Rows.{SideOf, KeepsToNames, name_in, placed_in}
use Rattle.layout_meaning.proofs.Held.{held_after_placing}
use Rattle.layout_meaning.proofs.Names.{keeps-placed_in}
use Rattle.layout_standing_meaning.specs.Sides.{IsGoodSide}
use Rattle.layout_standing_meaning.proofs.Once.{same_item}
use Rattle.layout_standing_meaning.proofs.Steps.{good-placed, count-held, itself}
use Rattle.layout_bulk_meaning.specs.Bulk.{placed_all}

-- placing keeps the columns
pub columns-kept : (iri_of : ℕ → List ℕ) (s : SideOf) (xs : List Item) → (placed_all iri_of s xs).columns ≡ s.columns
columns-kept iri_of s [] = refl
columns-kept iri_of s (x ∷ xs) = columns-kept iri_of (placed_in s (iri_of x.pred) x) xs

pub good-all : (iri_of : ℕ → List ℕ) (s : SideOf) (xs : List Item) → IsGoodSide s → IsGoodSide (placed_all iri_of s xs)
good-all iri_of s [] g = g
good-all iri_of s (x ∷ xs) g = good-all iri_of (placed_in s (iri_of x.pred) x) xs (good-placed s (iri_of x.pred) x g)

pub keeps-all : (names : List (ℕ × List ℕ)) (iri_of : ℕ → List ℕ) (s : SideOf) (xs : List Item) → IsGoodSide s → KeepsToNames names s → AllByRecursion (λ (x : Item). name_in names x.pred ≡ Some (iri_of x.pred)) xs
    → KeepsToNames names (placed_all iri_of s xs)
keeps-all names iri_of s [] g k a = k
keeps-all names iri_of s (x ∷ xs) g k a =
    keeps-all names iri_of (placed_in s (iri_of x.pred) x) xs (good-placed s (iri_of x.pred) x g) (keeps-placed_in names s (iri_of x.pred) x (g.some (iri_of x.pred)) k a.0) a.1

-- no item stands twice
abbrev pub AreApart : List Item → Type 0
AreApart xs = (x : Item) → total (λ (y : Item). one_if (same_item y x)) xs ≤ 1

pub apart-same : (xs ys : List Item) → SameBag xs ys → AreApart ys → AreApart xs
apart-same xs ys same apart = λ x. (let e = same.totals (λ (y : Item). one_if (same_item y x)) in let o = apart x in omega arith)

free-first : (s : SideOf) (x : Item) (xs : List Item) → IsGoodSide s → AreApart (items s.state ++ x ∷ xs) → is_held x s.state ≡ false
free-first s x xs g apart = by (is_held x s.state) refl
  where
    f : Item → ℕ
    f y = one_if (same_item y x)

    by : (b : Bool) → is_held x s.state ≡ b → b ≡ false
    by false e = refl
    by true e =
        let a : total f (items s.state) ≡ one_if (is_held x s.state) = count-held s g x in
        let b : one_if (is_held x s.state) ≡ 1 = ap one_if e in
        let d : one_if (same_item x x) ≡ 1 = ap one_if (itself x) in
        let l : total f (items s.state ++ x ∷ xs) ≡ total f (items s.state) + (one_if (same_item x x) + total f xs) = total-append f (items s.state) (x ∷ xs) in
        let o : total f (items s.state ++ x ∷ xs) ≤ 1 = apart x in
        absurd (omega arith)

bag-more : (s : SideOf) (iri : List ℕ) (x : Item) (xs : List Item) → IsGoodSide s → is_held x s.state ≡ false → SameBag (items (placed_in s iri x).state ++ xs) (items s.state ++ x ∷ xs)
bag-more s iri x xs g free = record {
  totals = λ (f : Item → ℕ).
      let p : total f (items (placed_in s iri x).state) ≡ total f (items s.state) + f x = held_after_placing s.columns.count (candidates_of s.columns iri) x s.state f g.sound (g.first iri) free in
      let a = total-append f (items (placed_in s iri x).state) xs in
      let b : total f (items s.state ++ x ∷ xs) ≡ total f (items s.state) + (f x + total f xs) = total-append f (items s.state) (x ∷ xs) in
      omega arith;
}

-- a side holds what it held and the items, if none stands twice
pub bag-all : (iri_of : ℕ → List ℕ) (s : SideOf) (xs : List Item) → IsGoodSide s → AreApart (items s.state ++ xs) → SameBag (items (placed_all iri_of s xs).state) (items s.state ++ xs)
bag-all iri_of s [] g apart = record {
  totals = λ (f : Item → ℕ).
      let a : total f (items s.state ++ []) ≡ total f (items s.state) + 0 = total-append f (items s.state) [] in
      omega arith;
}
bag-all iri_of s (x ∷ xs) g apart =
    let more = bag-more s (iri_of x.pred) x xs g (free-first s x xs g apart) in
    same-trans
    (bag-all iri_of (placed_in s (iri_of x.pred) x) xs (good-placed s (iri_of x.pred) x g) (apart-same (items (placed_in s (iri_of x.pred) x).state ++ xs) (items s.state ++ x ∷ xs) more apart))
    more
