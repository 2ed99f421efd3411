-- What a step of placing or taking does, by cases.
use Rattle.std.proofs.Common.{◌≡◌, ℕ, ◌+◌, ◌≤◌, Bool, true, false, if◌then◌else◌, List, [], ◌∷◌, Option, Some, None, arith, refl}
use Rattle.layout_meaning.specs.Side.{Value, One, Many, Item, SideState, rows_of, elements_of, find, is_held, place_by, placed, left_over, take_by, taken}
use Rattle.std.specs.Set.{remove_key}
use Rattle.std.proofs.Common.{nat_eq}

next-place_by : (o : Option Value) (k : ℕ) (columns : List ℕ) (x : Item) (s : SideState) → (s.next ≤ (place_by o k columns x s).next) × ((place_by o k columns x s).next ≤ s.next + 1)
next-place_by None k columns x s = (omega arith, omega arith)
next-place_by (Some (One w)) k columns x s = (omega arith, omega arith)
next-place_by (Some (Many n)) k columns x s = (omega arith, omega arith)

pub next-placed : (k : ℕ) (columns : List ℕ) (x : Item) (s : SideState) → (s.next ≤ (placed k columns x s).next) × ((placed k columns x s).next ≤ s.next + 1)
next-placed k columns x s = by (is_held x s)
  where
    by : (b : Bool) → (s.next ≤ (if b then s else place_by (find x.pred (rows_of s.entities x.entity)) k columns x s).next) × ((if b then s else place_by (find x.pred (rows_of s.entities x.entity)) k columns x s).next ≤ s.next + 1)
    by true = (omega arith, omega arith)
    by false = next-place_by (find x.pred (rows_of s.entities x.entity)) k columns x s

next-left_over : (ys : List ℕ) (n : ℕ) (x : Item) (s : SideState) → (left_over ys n x s).next ≡ s.next
next-left_over [] n x s = refl
next-left_over (a ∷ []) n x s = refl
next-left_over (a ∷ b ∷ more) n x s = refl

pub next-take_by : (o : Option Value) (x : Item) (s : SideState) → (take_by o x s).next ≡ s.next
next-take_by None x s = refl
next-take_by (Some (One w)) x s = refl
next-take_by (Some (Many n)) x s = next-left_over (remove_key (nat_eq x.value) (elements_of s.lists n)) n x s

pub next-taken : (x : Item) (s : SideState) → (taken x s).next ≡ s.next
next-taken x s = by (is_held x s)
  where
    by : (b : Bool) → (if b then take_by (find x.pred (rows_of s.entities x.entity)) x s else s).next ≡ s.next
    by true = next-take_by (find x.pred (rows_of s.entities x.entity)) x s
    by false = refl

pub placed-held : (k : ℕ) (columns : List ℕ) (x : Item) (s : SideState) → is_held x s ≡ true → placed k columns x s ≡ s
placed-held k columns x s h = rw h refl

pub taken-free : (x : Item) (s : SideState) → is_held x s ≡ false → taken x s ≡ s
taken-free x s h = rw h refl
