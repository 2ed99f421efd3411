-- A side that stands can be read.
use Rattle.std.proofs.Common.{◌≡◌, ℕ, ◌+◌, ◌≤◌, ◌==◌, Bool, true, false, if◌then◌else◌, List, [], ◌∷◌, Option, Some, None, length, refl, ap, arith}
use Rattle.std.specs.List.{AllByRecursion}
use Rattle.std.specs.Ordering.{nat_cmp}
use Rattle.std.specs.BTreeMap.{is_at}
use Rattle.std.specs.Map.{lookup}
use Rattle.bags.specs.Bag.{total}
use Rattle.bags.specs.BagLaws.{each-weaker}
use Rattle.layout_meaning.specs.declared.value.Value.{Value}
use Rattle.layout_meaning.specs.declared.value.Value.TheVariants.{One, Many}
use Rattle.layout_meaning.specs.Columns.{ColumnsOf}
use Rattle.layout_meaning.specs.Side.{Pair, ValueLists, or_empty, elements_of}
use Rattle.layout_meaning.specs.Sound.{one_if, names, numbered, IsSoundList}
use Rattle.layout_meaning.specs.Rows.{NumberedRow}
use Rattle.layout_meaning.proofs.Maps.{at_itself}
use Rattle.layout_standing_meaning.specs.Dictionary.{Entry}
use Rattle.layout_standing_meaning.specs.Contents.{SideContents}
use Rattle.layout_standing_meaning.specs.Standing.{SideStands}
use Rattle.layout_standing_meaning.proofs.Each.{each-part}
use Rattle.layout_row_meaning.specs.Reading.{Gives, IsReadable}

-- the list of a number that is there has elements
several : (lists : ValueLists) (n : ℕ) → AllByRecursion (λ (l : ℕ × List ℕ). IsSoundList l.1) lists → 1 ≤ numbered n lists → 2 ≤ length (elements_of lists n)
several [] n sound h = absurd (omega arith)
several (l ∷ lists) n sound h = by (is_at (nat_cmp n) l.0) refl (several lists n sound.1)
  where
    other : is_at (nat_cmp n) l.0 ≡ false → (b : Bool) → (l.0 == n) ≡ b → one_if b + numbered n lists ≡ numbered n lists
    other t true e = let k : l.0 ≡ n = grind arith in let z : is_at (nat_cmp n) l.0 ≡ true = rw k (at_itself n) in cc
    other t false e = omega arith

    by : (b : Bool) → is_at (nat_cmp n) l.0 ≡ b → (1 ≤ numbered n lists → 2 ≤ length (elements_of lists n)) → 2 ≤ length (or_empty (if b then Some l.1 else lookup (is_at (nat_cmp n)) lists))
    by true t ih = sound.0.two
    by false t ih = let k = other t (l.0 == n) refl in ih (omega arith)

gives : (lists : ValueLists) → AllByRecursion (λ (l : ℕ × List ℕ). IsSoundList l.1) lists → (q : Option Pair) → ((n : ℕ) → names n q ≤ numbered n lists) → Gives lists q
gives lists sound None h = tt
gives lists sound (Some q) h = by q.value h
  where
    by : (v : Value) → ((n : ℕ) → names n (Some (record { pred = q.pred; value = v })) ≤ numbered n lists) → Gives lists (Some (record { pred = q.pred; value = v }))
    by (One x) h = omega arith
    by (Many n) h =
        let e : (n == n) ≡ true = grind arith in
        let k : one_if (n == n) ≡ 1 = ap one_if e in
        let a = h n in
        let b = several lists n sound (omega arith) in
        omega arith

pub readable : (columns : ColumnsOf) (es : List Entry) (s : SideContents) → SideStands columns es s → IsReadable columns.count s
readable columns es s st = record {
  wide = st.wide;
  given = each-weaker (λ (r : NumberedRow). (n : ℕ) → total (names n) r.pairs ≤ numbered n s.lists) (λ (r : NumberedRow). AllByRecursion (λ (q : Option Pair). Gives s.lists q) r.pairs)
      (λ (r : NumberedRow) (a : (n : ℕ) → total (names n) r.pairs ≤ numbered n s.lists).
      each-weaker (λ (q : Option Pair). (n : ℕ) → names n q ≤ numbered n s.lists) (λ (q : Option Pair). Gives s.lists q) (gives s.lists st.lists_sound) r.pairs
      (each-part names (λ (n : ℕ). numbered n s.lists) r.pairs a))
      s.rows (each-part (λ (n : ℕ) (r : NumberedRow). total (names n) r.pairs) (λ (n : ℕ). numbered n s.lists) s.rows (λ (n : ℕ). (let e = st.named_once n in omega arith)));
  lists_once = st.lists_once;
}
