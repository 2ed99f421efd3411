-- Sides of runs.
use Rattle.std.proofs.Common.{◌≡◌, ℕ, ◌+◌, List, [], ◌∷◌, ◌++◌, Less, refl, sym, ap, ◌∙◌, arith, append_assoc, append-nil, subst}
use Rattle.std.specs.List.{AllByRecursion}
use Rattle.std.specs.Ordering.{nat_cmp}
use Rattle.std.specs.Map.{keys_of}
use Rattle.bags.specs.BagLaws.{each-append}
use Rattle.bags.specs.Sort.{sort}
use Rattle.layout_meaning.specs.Side.{Item, Entities, SideState}
use Rattle.layout_meaning.specs.Columns.{ColumnsOf}
use Rattle.layout_meaning.specs.Rows.{SideOf, placed_in}
use Rattle.layout_bulk_meaning.specs.Appended.{lists_in_rows, given_entities, appended_side, IsAbove}
use Rattle.layout_bulk_meaning.specs.Bulk.{by_entity, empty_side, placed_all, bulk_side}
use Rattle.layout_run_laws.specs.Runs.{StandBelow, joined, AreRuns, run_side, appended_runs, AppendAbove}
use Rattle.layout_run_laws.proofs.Keyed.{KeysBelow}
use Rattle.layout_run_laws.proofs.Sides.{glued_side, all-behind}
use Rattle.layout_run_laws.proofs.Numbered.{IsNumbered, all-numbered, all-keys}
use Rattle.layout_run_laws.proofs.Behind.{appended-glued}

-- ---- items below others

each-swap : {X Y : Type 0} (R : X → Y → Type 0) (xs : List X) (ys : List Y) → AllByRecursion (λ x. AllByRecursion (R x) ys) xs → AllByRecursion (λ y. AllByRecursion (λ x. R x y) xs) ys
each-swap R xs [] a = tt
each-swap R xs (y ∷ ys) a = (heads xs a, each-swap R xs ys (tails xs a))
  where
    heads : (xs : List _) → AllByRecursion (λ x. AllByRecursion (R x) (y ∷ ys)) xs → AllByRecursion (λ x. R x y) xs
    heads [] a = tt
    heads (x ∷ xs) a = (a.0.0, heads xs a.1)

    tails : (xs : List _) → AllByRecursion (λ x. AllByRecursion (R x) (y ∷ ys)) xs → AllByRecursion (λ x. AllByRecursion (R x) ys) xs
    tails [] a = tt
    tails (x ∷ xs) a = (a.0.1, tails xs a.1)

each-both : {X Y : Type 0} (R : X → Y → Type 0) (xs : List X) (ys zs : List Y) → AllByRecursion (λ x. AllByRecursion (R x) (ys ++ zs)) xs
    → AllByRecursion (λ x. AllByRecursion (R x) ys) xs × AllByRecursion (λ x. AllByRecursion (R x) zs) xs
each-both R [] ys zs a = (tt, tt)
each-both R (x ∷ xs) ys zs a = let ih = each-both R xs ys zs a.1 in let here = parts ys a.0 in ((here.0, ih.0), (here.1, ih.1))
  where
    parts : (ys : List _) → AllByRecursion (R x) (ys ++ zs) → AllByRecursion (R x) ys × AllByRecursion (R x) zs
    parts [] a = (tt, a)
    parts (y ∷ ys) a = let p = parts ys a.1 in ((a.0, p.0), p.1)

-- ---- the items of several runs placed together

columns-kept : (iri_of : ℕ → List ℕ) (s : SideOf) (xs : List Item) → (placed_all iri_of s xs).columns ≡ s.columns
columns-kept iri_of s [] = refl
columns-kept iri_of s (x ∷ xs) = columns-kept iri_of (placed_in s (iri_of x.pred) x) xs

placed-append : (iri_of : ℕ → List ℕ) (s : SideOf) (xs ys : List Item) → placed_all iri_of s (xs ++ ys) ≡ placed_all iri_of (placed_all iri_of s xs) ys
placed-append iri_of s [] ys = refl
placed-append iri_of s (x ∷ xs) ys = placed-append iri_of (placed_in s (iri_of x.pred) x) xs ys

module _ (columns : ColumnsOf) (iri_of : ℕ → List ℕ) where
  numbered : (xs : List Item) → IsNumbered (run_side columns iri_of xs).state
  numbered xs = all-numbered iri_of (empty_side columns) xs (record { low = tt; named = tt })

  -- a side of its own, with none behind it
  glued-none : (xs : List Item) → run_side columns iri_of xs ≡ glued_side (run_side columns iri_of xs).state (empty_side columns)
  glued-none xs =
      let s = (run_side columns iri_of xs).state in
      let next : s.next ≡ s.next + 0 = omega arith in
      ap (λ (c : ColumnsOf). record { columns = c; state = s }) (columns-kept iri_of (empty_side columns) xs)
      ∙ ap (λ (es : Entities). record { columns = columns; state = record { entities = es; lists = s.lists; next = s.next } }) (sym (append-nil s.entities))
      ∙ ap (λ (l : List (ℕ × List ℕ)). record { columns = columns; state = record { entities = s.entities ++ []; lists = l; next = s.next } }) (sym (append-nil s.lists))
      ∙ ap (λ (n : ℕ). record { columns = columns; state = record { entities = s.entities ++ []; lists = s.lists ++ []; next = n } }) next

  -- the keys of a side are entities of its items
  keys-below : (xs ys : List Item) → StandBelow xs ys → AllByRecursion (λ (y : Item). KeysBelow y.entity (run_side columns iri_of xs).state.entities) ys
  keys-below xs ys a = turn ys (each-swap (λ (x y : Item). nat_cmp x.entity y.entity ≡ Less) xs ys a)
    where
      turn : (ys : List Item) → AllByRecursion (λ (y : Item). AllByRecursion (λ (x : Item). nat_cmp x.entity y.entity ≡ Less) xs) ys → AllByRecursion (λ (y : Item). KeysBelow y.entity (run_side columns iri_of xs).state.entities) ys
      turn [] b = tt
      turn (y ∷ ys) b = (all-keys (λ k. nat_cmp k y.entity ≡ Less) iri_of (empty_side columns) xs tt b.0, turn ys b.1)

  both-runs : (xs ys : List Item) → StandBelow xs ys → run_side columns iri_of (xs ++ ys) ≡ glued_side (run_side columns iri_of xs).state (run_side columns iri_of ys)
  both-runs xs ys a =
      placed-append iri_of (empty_side columns) xs ys
      ∙ ap (λ (s : SideOf). placed_all iri_of s ys) (glued-none xs)
      ∙ all-behind iri_of (run_side columns iri_of xs).state (empty_side columns) ys (numbered xs).low (keys-below xs ys a)

  together : List Item → SideOf
  together xs = appended_side (empty_side columns) (run_side columns iri_of xs)

  one-more : (xs ys : List Item) → StandBelow xs ys → appended_side (appended_side (empty_side columns) (run_side columns iri_of xs)) (run_side columns iri_of ys) ≡ appended_side (empty_side columns) (run_side columns iri_of (xs ++ ys))
  one-more xs ys a =
      ap (λ (u : SideState). record { columns = columns; state = u }) (sym (appended-glued (empty_side columns).state (run_side columns iri_of xs).state (run_side columns iri_of ys).state (numbered xs)))
      ∙ ap (λ (u : SideOf). appended_side (empty_side columns) u) (sym (both-runs xs ys a))

  from-runs : (xs : List Item) (runs : List (List Item)) → StandBelow xs (joined runs) → AreRuns runs
      → appended_runs columns iri_of (appended_side (empty_side columns) (run_side columns iri_of xs)) runs ≡ appended_side (empty_side columns) (run_side columns iri_of (xs ++ joined runs))
  from-runs xs [] a h = ap (λ (l : List Item). appended_side (empty_side columns) (run_side columns iri_of l)) (sym (append-nil xs))
  from-runs xs (run ∷ runs) a h =
      let both = each-both (λ (x y : Item). nat_cmp x.entity y.entity ≡ Less) xs run (joined runs) a in
      ap (λ (s : SideOf). appended_runs columns iri_of s runs) (one-more xs run both.0)
      ∙ from-runs (xs ++ run) runs (each-append (λ (x : Item). AllByRecursion (λ (y : Item). nat_cmp x.entity y.entity ≡ Less) (joined runs)) xs run both.1 h.0) h.1
      ∙ ap (λ (l : List Item). appended_side (empty_side columns) (run_side columns iri_of l)) (append_assoc xs run (joined runs))

  -- runs placed apart and appended in order to an empty side are all items placed together and put behind an empty one
  pub runs-together : (runs : List (List Item)) → AreRuns runs → appended_runs columns iri_of (empty_side columns) runs ≡ appended_side (empty_side columns) (run_side columns iri_of (joined runs))
  runs-together runs h = from-runs [] runs tt h

  pub runs-bulk : (items : List Item) (runs : List (List Item)) → AreRuns runs → joined runs ≡ sort by_entity items → appended_runs columns iri_of (empty_side columns) runs ≡ bulk_side columns iri_of items
  runs-bulk items runs h e = runs-together runs h ∙ ap (λ (l : List Item). appended_side (empty_side columns) (run_side columns iri_of l)) e

  -- ---- above

  keys-given : (n : ℕ) (ents : Entities) → keys_of (given_entities n ents) ≡ keys_of ents
  keys-given n [] = refl
  keys-given n (en ∷ ents) = ap (λ (l : List ℕ). en.0 ∷ l) (keys-given (n + lists_in_rows en.1) ents)

  run-above : (xs ys : List Item) → StandBelow xs ys → IsAbove (appended_side (empty_side columns) (run_side columns iri_of xs)).state.entities (run_side columns iri_of ys).state.entities
  run-above xs ys a =
      rw (keys-given 0 (run_side columns iri_of xs).state.entities)
      (all-keys (λ k. AllByRecursion (λ f. nat_cmp k f ≡ Less) (keys_of (run_side columns iri_of ys).state.entities)) iri_of (empty_side columns) xs tt (turn xs a))
    where
      turn : (xs : List Item) → StandBelow xs ys → AllByRecursion (λ (x : Item). AllByRecursion (λ f. nat_cmp x.entity f ≡ Less) (keys_of (run_side columns iri_of ys).state.entities)) xs
      turn [] a = tt
      turn (x ∷ xs) a = (all-keys (λ f. nat_cmp x.entity f ≡ Less) iri_of (empty_side columns) ys tt a.0, turn xs a.1)

  above-from : (xs : List Item) (runs : List (List Item)) → StandBelow xs (joined runs) → AreRuns runs → AppendAbove columns iri_of (appended_side (empty_side columns) (run_side columns iri_of xs)) runs
  above-from xs [] a h = tt
  above-from xs (run ∷ runs) a h =
      let both = each-both (λ (x y : Item). nat_cmp x.entity y.entity ≡ Less) xs run (joined runs) a in (
        run-above xs run both.0,
        subst (λ (s : SideOf). AppendAbove columns iri_of s runs) (sym (one-more xs run both.0))
            (above-from (xs ++ run) runs (each-append (λ (x : Item). AllByRecursion (λ (y : Item). nat_cmp x.entity y.entity ≡ Less) (joined runs)) xs run both.1 h.0) h.1),
      )

  pub runs-above : (runs : List (List Item)) → AreRuns runs → AppendAbove columns iri_of (empty_side columns) runs
  runs-above runs h = above-from [] runs tt h
