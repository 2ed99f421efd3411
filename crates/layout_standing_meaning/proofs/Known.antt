-- Entities, predicates, values and elements are ids where each item's are.
use Rattle.std.proofs.Common.{◌≡◌, ℕ, zero, suc, ◌≤◌, ◌<◌, ◌==◌, ◌&&◌, Bool, true, false, List, [], ◌∷◌, map, Option, Some, None, length, refl, sym, ◌∙◌, arith, subst}
use Rattle.std.specs.Cmp.{first_so, second_so}
use Rattle.std.specs.List.{flat_map, AllByRecursion}
use Rattle.std.specs.Ordering.{nat_cmp}
use Rattle.std.specs.BTreeMap.{is_at}
use Rattle.std.specs.Map.{lookup}
use Rattle.bags.specs.Bag.{total}
use Rattle.bags.specs.BagLaws.{each-weaker}
use Rattle.layout_meaning.specs.declared.value.Value.{Value}
use Rattle.layout_meaning.specs.declared.value.Value.TheVariants.{One, Many}
use Rattle.layout_meaning.specs.Side.{Pair, Row, Item, ValueLists, or_empty, elements_of, values_of, all_free, pair_items}
use Rattle.layout_meaning.specs.Sound.{one_if, value_names, names, numbered, IsSoundList}
use Rattle.layout_meaning.specs.Rows.{NumberedRow}
use Rattle.layout_meaning.proofs.Maps.{at_true, at_itself}
use Rattle.layout_meaning.proofs.RowsKept.{All-found}
use Rattle.layout_meaning.proofs.Sums.{numbered-none, none-numbered}
use Rattle.layout_standing_meaning.specs.Dictionary.{Entry, is_id}
use Rattle.layout_standing_meaning.specs.Contents.{SideContents, said}
use Rattle.layout_standing_meaning.specs.Standing.{IsValue, IsPair}
use Rattle.layout_standing_meaning.proofs.Each.{each-two, each-unmap, each-part, picked}

-- the three ids of an item
abbrev pub is_known : List Entry → Item → Bool
is_known es x = is_id es x.entity && (is_id es x.pred && is_id es x.value)

-- the lists that pairs name are there, each once, and sound
pub record AreNamed (rows : List NumberedRow) (lists : ValueLists) : Type 0 where
  pub sound : AllByRecursion (λ (l : ℕ × List ℕ). IsSoundList l.1) lists
  pub once : (n : ℕ) → numbered n lists ≤ 1
  pub named : (n : ℕ) → total (λ (r : NumberedRow). total (names n) r.pairs) rows ≡ numbered n lists

pub found_list : (n : ℕ) (lists : ValueLists) → 1 ≤ numbered n lists → lookup (is_at (nat_cmp n)) lists ≡ Some (elements_of lists n)
found_list n lists l = by (lookup (is_at (nat_cmp n)) lists) refl
  where
    by : (o : Option (List ℕ)) → lookup (is_at (nat_cmp n)) lists ≡ o → o ≡ Some (or_empty o)
    by None t = let z : numbered n lists ≡ 0 = none-numbered n lists t in absurd (omega arith)
    by (Some xs) t = refl

sound_list : (n : ℕ) (lists : ValueLists) → AllByRecursion (λ (l : ℕ × List ℕ). IsSoundList l.1) lists → 1 ≤ numbered n lists → IsSoundList (elements_of lists n)
sound_list n lists sound l = All-found IsSoundList n (elements_of lists n) lists sound (found_list n lists l)

-- what stands in a pair has a value
abbrev HasValues : ValueLists → Option Pair → Type 0
HasValues lists None = Unit {0}
HasValues lists (Some q) = 0 < length (values_of lists q.value)

has_values : (lists : ValueLists) → AllByRecursion (λ (l : ℕ × List ℕ). IsSoundList l.1) lists → (o : Option Pair) → ((n : ℕ) → names n o ≤ numbered n lists) → HasValues lists o
has_values lists sound None h = tt
has_values lists sound (Some q) h = by q.value (λ (n : ℕ). h n)
  where
    by : (v : Value) → ((n : ℕ) → value_names n v ≤ numbered n lists) → 0 < length (values_of lists v)
    by (One v) h = omega arith
    by (Many n) h =
        let one : one_if (n == n) ≡ 1 = grind arith in
        let l : 1 ≤ numbered n lists = (let a = h n in omega arith) in
        let two : 2 ≤ length (elements_of lists n) = (sound_list n lists sound l).two in
        omega arith

-- what is known of the items of a pair
item_ids : (es : List Entry) (e p : ℕ) (vs : List ℕ) → 0 < length vs → AllByRecursion (λ (x : Item). is_known es x ≡ true) (map (λ v. record { entity = e; pred = p; value = v }) vs) → (is_id es e ≡ true) × (is_id es p ≡ true)
item_ids es e p [] l h = absurd (omega arith)
item_ids es e p (v ∷ vs) l h = (first_so _ _ h.0, first_so _ _ (second_so (is_id es e) _ h.0))

value_ids : (es : List Entry) (e p : ℕ) (vs : List ℕ) → AllByRecursion (λ (x : Item). is_known es x ≡ true) (map (λ v. record { entity = e; pred = p; value = v }) vs) → AllByRecursion (λ v. is_id es v ≡ true) vs
value_ids es e p [] h = tt
value_ids es e p (v ∷ vs) h = (second_so (is_id es p) _ (second_so (is_id es e) _ h.0), value_ids es e p vs h.1)

abbrev KnownPair : List Entry → ValueLists → ℕ → Option Pair → Type 0
KnownPair es lists e o = AllByRecursion (λ (x : Item). is_known es x ≡ true) (pair_items lists e o)

-- a pair, from its items
known_pair : (es : List Entry) (lists : ValueLists) (e : ℕ) (o : Option Pair) → HasValues lists o → KnownPair es lists e o → IsPair es o
known_pair es lists e None some h = tt
known_pair es lists e (Some q) some h = ((item_ids es e q.pred (values_of lists q.value) some h).1, by q.value (value_ids es e q.pred (values_of lists q.value) h))
  where
    by : (v : Value) → AllByRecursion (λ v. is_id es v ≡ true) (values_of lists v) → IsValue es v
    by (One v) h = h.0
    by (Many n) h = tt

-- a row's entity, from a pair that isn't free
known_entity : (es : List Entry) (lists : ValueLists) (e : ℕ) (r : Row) → all_free r ≡ false → AllByRecursion (HasValues lists) r → AllByRecursion (KnownPair es lists e) r → is_id es e ≡ true
known_entity es lists e [] full some h = cc
known_entity es lists e (None ∷ r) full some h = known_entity es lists e r full some.1 h.1
known_entity es lists e (Some q ∷ r) full some h = (item_ids es e q.pred (values_of lists q.value) some.0 h.0).0

-- each list stands under its number
own_list : (lists : ValueLists) → ((n : ℕ) → numbered n lists ≤ 1) → AllByRecursion (λ (l : ℕ × List ℕ). lookup (is_at (nat_cmp l.0)) lists ≡ Some l.1) lists
own_list [] once = tt
own_list (l ∷ ls) once = (
  rw (at_itself l.0) refl,
  each-weaker (λ (m : ℕ × List ℕ). lookup (is_at (nat_cmp m.0)) ls ≡ Some m.1) (λ (m : ℕ × List ℕ). lookup (is_at (nat_cmp m.0)) (l ∷ ls) ≡ Some m.1)
      (λ (m : ℕ × List ℕ) (h : lookup (is_at (nat_cmp m.0)) ls ≡ Some m.1). by m h (is_at (nat_cmp m.0) l.0) refl) ls (own_list ls (λ (n : ℕ). (let a = once n in omega arith))),
)
  where
    by : (m : ℕ × List ℕ) → lookup (is_at (nat_cmp m.0)) ls ≡ Some m.1 → (b : Bool) → is_at (nat_cmp m.0) l.0 ≡ b → lookup (is_at (nat_cmp m.0)) (l ∷ ls) ≡ Some m.1
    by m h false t = rw t h
    by m h true t =
        let k : l.0 ≡ m.0 = at_true m.0 l.0 t in
        let one : one_if (l.0 == m.0) ≡ 1 = grind arith in
        let a = once m.0 in
        let z : numbered m.0 ls ≡ 0 = omega arith in
        let none : lookup (is_at (nat_cmp m.0)) ls ≡ None = numbered-none m.0 ls z in
        absurd (no_some m.1 (sym none ∙ h))
      where
        no_some : (xs : List ℕ) → None ≡ Some xs → ⊥
        no_some xs e = cc

-- the ids of a side
pub record AreKnown (es : List Entry) (s : SideContents) : Type 0 where
  pub entities : AllByRecursion (λ (r : NumberedRow). is_id es r.entity ≡ true) s.rows
  pub pairs : AllByRecursion (λ (r : NumberedRow). AllByRecursion (IsPair es) r.pairs) s.rows
  pub elements : AllByRecursion (λ (l : ℕ × List ℕ). AllByRecursion (λ v. is_id es v ≡ true) l.1) s.lists

pub known_side : (es : List Entry) (s : SideContents) → AreNamed s.rows s.lists → AllByRecursion (λ (r : NumberedRow). all_free r.pairs ≡ false) s.rows
    → AllByRecursion (λ (x : Item). is_known es x ≡ true) (said s) → AreKnown es s
known_side es s named full known = record {
  entities = each-two (λ (r : NumberedRow). all_free r.pairs ≡ false) Good (λ (r : NumberedRow). is_id es r.entity ≡ true)
      (λ (r : NumberedRow) (f : all_free r.pairs ≡ false) (g : Good r). known_entity es s.lists r.entity r.pairs f g.0 g.1) s.rows full good;
  pairs = each-weaker Good (λ (r : NumberedRow). AllByRecursion (IsPair es) r.pairs)
      (λ (r : NumberedRow) (g : Good r). each-two (HasValues s.lists) (KnownPair es s.lists r.entity) (IsPair es) (known_pair es s.lists r.entity) r.pairs g.0 g.1) s.rows good;
  elements = each-weaker (λ (l : ℕ × List ℕ). (1 ≤ numbered l.0 s.lists) × (lookup (is_at (nat_cmp l.0)) s.lists ≡ Some l.1)) (λ (l : ℕ × List ℕ). AllByRecursion (λ v. is_id es v ≡ true) l.1)
      (λ (l : ℕ × List ℕ) (h : (1 ≤ numbered l.0 s.lists) × (lookup (is_at (nat_cmp l.0)) s.lists ≡ Some l.1)). subst (λ (o : Option (List ℕ)). AllByRecursion (λ v. is_id es v ≡ true) (or_empty o)) h.1 (listed l.0 h.0)) s.lists
      (each-weaker (λ (l : ℕ × List ℕ). lookup (is_at (nat_cmp l.0)) s.lists ≡ Some l.1) (λ (l : ℕ × List ℕ). (1 ≤ numbered l.0 s.lists) × (lookup (is_at (nat_cmp l.0)) s.lists ≡ Some l.1))
      (λ (l : ℕ × List ℕ) (h : lookup (is_at (nat_cmp l.0)) s.lists ≡ Some l.1). (there l h, h)) s.lists (own_list s.lists named.once));
}
  where
    Good : NumberedRow → Type 0
    Good r = AllByRecursion (HasValues s.lists) r.pairs × AllByRecursion (KnownPair es s.lists r.entity) r.pairs

    good : AllByRecursion Good s.rows
    good = each-two (λ (r : NumberedRow). (n : ℕ) → total (names n) r.pairs ≤ numbered n s.lists) (λ (r : NumberedRow). AllByRecursion (λ (x : Item). is_known es x ≡ true) (flat_map (pair_items s.lists r.entity) r.pairs)) Good
        (λ (r : NumberedRow) (a : (n : ℕ) → total (names n) r.pairs ≤ numbered n s.lists) (b : AllByRecursion (λ (x : Item). is_known es x ≡ true) (flat_map (pair_items s.lists r.entity) r.pairs)). (
          each-weaker (λ (o : Option Pair). (n : ℕ) → names n o ≤ numbered n s.lists) (HasValues s.lists) (has_values s.lists named.sound) r.pairs (each-part names (λ (n : ℕ). numbered n s.lists) r.pairs a),
          each-unmap (λ (x : Item). is_known es x ≡ true) (pair_items s.lists r.entity) r.pairs b,
        )) s.rows
        (each-part (λ (n : ℕ) (r : NumberedRow). total (names n) r.pairs) (λ (n : ℕ). numbered n s.lists) s.rows (λ (n : ℕ). (let a = named.named n in omega arith)))
        (each-unmap (λ (x : Item). is_known es x ≡ true) (λ (r : NumberedRow). flat_map (pair_items s.lists r.entity) r.pairs) s.rows known)

    there : (l : ℕ × List ℕ) → lookup (is_at (nat_cmp l.0)) s.lists ≡ Some l.1 → 1 ≤ numbered l.0 s.lists
    there l h = by (numbered l.0 s.lists) refl
      where
        no_some : (xs : List ℕ) → None ≡ Some xs → ⊥
        no_some xs e = cc

        by : (n : ℕ) → numbered l.0 s.lists ≡ n → 1 ≤ n
        by zero t = absurd (no_some l.1 (sym (numbered-none l.0 s.lists t) ∙ h))
        by (suc n) t = omega arith

    -- the pair that names a list knows its elements
    listed : (n : ℕ) → 1 ≤ numbered n s.lists → AllByRecursion (λ v. is_id es v ≡ true) (elements_of s.lists n)
    listed n l =
        picked Good (AllByRecursion (λ v. is_id es v ≡ true) (elements_of s.lists n)) (λ (r : NumberedRow). total (names n) r.pairs)
        (λ (r : NumberedRow) (g : Good r) (m : 0 < total (names n) r.pairs).
        picked (KnownPair es s.lists r.entity) (AllByRecursion (λ v. is_id es v ≡ true) (elements_of s.lists n)) (names n) (λ (o : Option Pair) (k : KnownPair es s.lists r.entity o) (z : 0 < names n o). by r.entity o k z) r.pairs g.1 m)
        s.rows good (let a = named.named n in omega arith)
      where
        value_by : (e p : ℕ) (v : Value) → AllByRecursion (λ (x : Item). is_known es x ≡ true) (map (λ w. record { entity = e; pred = p; value = w }) (values_of s.lists v)) → 0 < value_names n v → AllByRecursion (λ w. is_id es w ≡ true) (elements_of s.lists n)
        value_by e p (One v) k z = absurd (omega arith)
        value_by e p (Many m) k z = let f : m ≡ n = same (m == n) refl z in subst (λ (i : ℕ). AllByRecursion (λ w. is_id es w ≡ true) (elements_of s.lists i)) f (value_ids es e p (elements_of s.lists m) k)
          where
            same : (b : Bool) → (m == n) ≡ b → 0 < one_if b → m ≡ n
            same true t z = grind arith
            same false t z = absurd (omega arith)

        by : (e : ℕ) (o : Option Pair) → KnownPair es s.lists e o → 0 < names n o → AllByRecursion (λ v. is_id es v ≡ true) (elements_of s.lists n)
        by e None k z = absurd (omega arith)
        by e (Some q) k z = value_by e q.pred q.value k z
