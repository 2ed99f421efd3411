-- Steps on the rows of an entity and on the entities.
use Rattle.std.proofs.Common.{◌≡◌, ℕ, zero, suc, ◌<◌, IsSome, List, [], ◌∷◌, ◌++◌, Option, Some, None, take, drop, length, get_or, set, refl, sym, ap, ◌∙◌, arith}
use Rattle.std.proofs.Math.Seq.{drop-cons}
use Rattle.std.specs.Ordering.{nat_cmp}
use Rattle.std.specs.BTreeMap.{is_at}
use Rattle.std.specs.Map.{lookup, set_value, remove_entry}
use Rattle.layout_meaning.specs.Side.{Pair, first_free, put_at, put_or, place_new, put_by, with_rows}
use Rattle.layout_meaning.proofs.Maps.{remove-set}
use Rattle.primary_rows.proofs.CellSteps.{set-parts}

-- two reads of one place
pub same_read : {X : Type 0} (xs : List X) (i : ℕ) (x y : X) → i < length xs → x ≡ get_or xs i x → y ≡ get_or xs i y → x ≡ y
same_read [] i x y h a b = absurd (omega arith)
same_read (z ∷ zs) zero x y h a b = a ∙ sym b
same_read (z ∷ zs) (suc i) x y h a b = same_read zs i x y (omega arith) a b

-- the rows of which row number i has a first free column
pub placed_here : (width : ℕ) (columns : List ℕ) (pair : Pair) (rows : List (List (Option Pair))) (i c : ℕ) (row new : List (Option Pair)) (all : List (List (Option Pair)))
    → i < length rows → get_or rows i row ≡ row → first_free row columns ≡ Some c → new ≡ put_at row c (Some pair)
    → all ≡ take i rows ++ place_new width columns pair (drop i rows) → set rows i new ≡ all
placed_here width columns pair rows i c row new all within at free is whole =
    let here : drop i rows ≡ row ∷ drop (suc i) rows = drop-cons rows i row within ∙ ap (λ (r : List (Option Pair)). r ∷ drop (suc i) rows) at in
    let placed : place_new width columns pair (drop i rows) ≡ put_at row c (Some pair) ∷ drop (suc i) rows =
    ap (place_new width columns pair) here ∙ ap (λ (o : Option ℕ). put_or o row pair (drop (suc i) rows) (place_new width columns pair (drop (suc i) rows))) free in
    set-parts rows i new within ∙ ap (λ (r : List (Option Pair)). take i rows ++ r ∷ drop (suc i) rows) is ∙ sym (ap (λ (l : List (List (Option Pair))). take i rows ++ l) placed) ∙ sym whole

-- an entity that is there takes other rows
pub with_rows_set : (ents : List (ℕ × List (List (Option Pair)))) (e : ℕ) (new : List (List (Option Pair))) → IsSome (lookup (is_at (nat_cmp e)) ents) → 0 < length new → set_value (is_at (nat_cmp e)) ents new ≡ with_rows ents e new
with_rows_set ents e new there some = by (lookup (is_at (nat_cmp e)) ents) there new some
  where
    by : (o : Option (List (List (Option Pair)))) → IsSome o → (new : List (List (Option Pair))) → 0 < length new → set_value (is_at (nat_cmp e)) ents new ≡ put_by o ents e new
    by None there new some = cc
    by (Some old) there [] some = absurd (omega arith)
    by (Some old) there (r ∷ rs) some = refl

pub with_rows_remove : (ents : List (ℕ × List (List (Option Pair)))) (e : ℕ) (new : List (List (Option Pair))) → IsSome (lookup (is_at (nat_cmp e)) ents) → length new ≡ 0
    → remove_entry (is_at (nat_cmp e)) (set_value (is_at (nat_cmp e)) ents new) ≡ with_rows ents e new
with_rows_remove ents e new there none = remove-set e new ents ∙ by (lookup (is_at (nat_cmp e)) ents) there new none
  where
    by : (o : Option (List (List (Option Pair)))) → IsSome o → (new : List (List (Option Pair))) → length new ≡ 0 → remove_entry (is_at (nat_cmp e)) ents ≡ put_by o ents e new
    by None there new none = cc
    by (Some old) there [] none = refl
    by (Some old) there (r ∷ rs) none = absurd (omega arith)
