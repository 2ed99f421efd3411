-- Steps of a side keep its lists in order.
use Rattle.std.proofs.Common.{◌≡◌, ℕ, ◌≤◌, Bool, true, false, if◌then◌else◌, cond, List, [], ◌∷◌, Option, Some, None, nat_eq, arith, refl, sym, subst, Ordering, Less, Equal, Greater}
use Rattle.std.specs.List.{AllByRecursion}
use Rattle.std.specs.Ordering.{nat_cmp, match_ordering}
use Rattle.std.specs.BTreeMap.{is_at, insert_entry}
use Rattle.std.specs.Map.{set_value, remove_entry}
use Rattle.std.specs.Set.{remove_key}
use Rattle.bags.specs.BagLaws.{each-weaker}
use Rattle.layout_meaning.specs.Columns.{candidates_of}
use Rattle.layout_meaning.specs.declared.value.Value.{Value}
use Rattle.layout_meaning.specs.declared.value.Value.TheVariants.{One, Many}
use Rattle.layout_meaning.specs.Side.{Item, ValueLists, SideState, rows_of, elements_of, find, is_held, place_by, placed, left_over, take_by, taken}
use Rattle.layout_meaning.specs.Rows.{SideOf}
use Rattle.layout_standing_meaning.specs.Sides.{SidesOf, both_placed, both_taken, turned, AreAsBefore}
use Rattle.layout_list_laws.specs.InOrder.{AreRising, AreInOrder}

abbrev FromOn : ℕ → ValueLists → Type 0
FromOn n ls = AllByRecursion (λ (m : ℕ × List ℕ). n ≤ m.0) ls

insert-from : (b n : ℕ) (w : List ℕ) (es : ValueLists) → b ≤ n → FromOn b es → FromOn b (insert_entry nat_cmp es n w)
insert-from b n w [] l h = (l, tt)
insert-from b n w (e ∷ es) l h = by (nat_cmp n e.0) (insert-from b n w es l h.1)
  where
    by : (o : Ordering) → FromOn b (insert_entry nat_cmp es n w) → FromOn b (match_ordering o ((n, w) ∷ e ∷ es) ((e.0, w) ∷ es) (e ∷ insert_entry nat_cmp es n w))
    by Less ih = (l, h)
    by Equal ih = (h.0, h.1)
    by Greater ih = (h.0, ih)

pub insert-rises : (n : ℕ) (w : List ℕ) (es : ValueLists) → AreRising es → AreRising (insert_entry nat_cmp es n w)
insert-rises n w [] r = (tt, tt)
insert-rises n w (e ∷ es) r = by (nat_cmp n e.0) refl (insert-rises n w es r.1)
  where
    by : (o : Ordering) → nat_cmp n e.0 ≡ o → AreRising (insert_entry nat_cmp es n w) → AreRising (match_ordering o ((n, w) ∷ e ∷ es) ((e.0, w) ∷ es) (e ∷ insert_entry nat_cmp es n w))
    by Less t ih =
        let l : n ≤ e.0 = grind arith in
        ((l, each-weaker (λ (m : ℕ × List ℕ). e.0 ≤ m.0) (λ (m : ℕ × List ℕ). n ≤ m.0) (λ (m : ℕ × List ℕ) (h : e.0 ≤ m.0). omega arith) es r.0), r)
    by Equal t ih = (r.0, r.1)
    by Greater t ih = let l : e.0 ≤ n = grind arith in (insert-from e.0 n w es l r.0, ih)

set-from : (b : ℕ) (test : ℕ → Bool) (w : List ℕ) (es : ValueLists) → FromOn b es → FromOn b (set_value test es w)
set-from b test w [] h = tt
set-from b test w (e ∷ es) h = by (test e.0) (set-from b test w es h.1)
  where
    by : (c : Bool) → FromOn b (set_value test es w) → FromOn b (cond c ((e.0, w) ∷ es) (e ∷ set_value test es w))
    by true ih = (h.0, h.1)
    by false ih = (h.0, ih)

set-rises : (test : ℕ → Bool) (w : List ℕ) (es : ValueLists) → AreRising es → AreRising (set_value test es w)
set-rises test w [] r = tt
set-rises test w (e ∷ es) r = by (test e.0) (set-rises test w es r.1)
  where
    by : (c : Bool) → AreRising (set_value test es w) → AreRising (cond c ((e.0, w) ∷ es) (e ∷ set_value test es w))
    by true ih = (r.0, r.1)
    by false ih = (set-from e.0 test w es r.0, ih)

remove-from : (b : ℕ) (test : ℕ → Bool) (es : ValueLists) → FromOn b es → FromOn b (remove_entry test es)
remove-from b test [] h = tt
remove-from b test (e ∷ es) h = by (test e.0) (remove-from b test es h.1)
  where
    by : (c : Bool) → FromOn b (remove_entry test es) → FromOn b (cond c es (e ∷ remove_entry test es))
    by true ih = h.1
    by false ih = (h.0, ih)

remove-rises : (test : ℕ → Bool) (es : ValueLists) → AreRising es → AreRising (remove_entry test es)
remove-rises test [] r = tt
remove-rises test (e ∷ es) r = by (test e.0) (remove-rises test es r.1)
  where
    by : (c : Bool) → AreRising (remove_entry test es) → AreRising (cond c es (e ∷ remove_entry test es))
    by true ih = r.1
    by false ih = (remove-from e.0 test es r.0, ih)

place_by-rises : (o : Option Value) (k : ℕ) (columns : List ℕ) (x : Item) (s : SideState) → AreRising s.lists → AreRising (place_by o k columns x s).lists
place_by-rises None k columns x s r = r
place_by-rises (Some (One w)) k columns x s r = insert-rises s.next (w ∷ x.value ∷ []) s.lists r
place_by-rises (Some (Many n)) k columns x s r = set-rises (is_at (nat_cmp n)) _ s.lists r

placed-rises : (k : ℕ) (columns : List ℕ) (x : Item) (s : SideState) → AreRising s.lists → AreRising (placed k columns x s).lists
placed-rises k columns x s r = by (is_held x s)
  where
    by : (b : Bool) → AreRising (if b then s else place_by (find x.pred (rows_of s.entities x.entity)) k columns x s).lists
    by true = r
    by false = place_by-rises (find x.pred (rows_of s.entities x.entity)) k columns x s r

left_over-rises : (ys : List ℕ) (n : ℕ) (x : Item) (s : SideState) → AreRising s.lists → AreRising (left_over ys n x s).lists
left_over-rises [] n x s r = set-rises (is_at (nat_cmp n)) [] s.lists r
left_over-rises (a ∷ []) n x s r = remove-rises (is_at (nat_cmp n)) s.lists r
left_over-rises (a ∷ b ∷ more) n x s r = set-rises (is_at (nat_cmp n)) (a ∷ b ∷ more) s.lists r

take_by-rises : (o : Option Value) (x : Item) (s : SideState) → AreRising s.lists → AreRising (take_by o x s).lists
take_by-rises None x s r = r
take_by-rises (Some (One w)) x s r = r
take_by-rises (Some (Many n)) x s r = left_over-rises (remove_key (nat_eq x.value) (elements_of s.lists n)) n x s r

taken-rises : (x : Item) (s : SideState) → AreRising s.lists → AreRising (taken x s).lists
taken-rises x s r = by (is_held x s)
  where
    by : (b : Bool) → AreRising (if b then take_by (find x.pred (rows_of s.entities x.entity)) x s else s).lists
    by true = take_by-rises (find x.pred (rows_of s.entities x.entity)) x s r
    by false = r

pub none-in_order : (s : SidesOf) → s.direct.state.lists ≡ [] → s.reverse.state.lists ≡ [] → AreInOrder s
none-in_order s d r = record { direct = subst AreRising (sym d) tt; reverse = subst AreRising (sym r) tt }

pub placed-in_order : (s : SidesOf) (iri : List ℕ) (x : Item) → AreInOrder s → AreInOrder (both_placed s iri x)
placed-in_order s iri x h = record {
  direct = placed-rises s.direct.columns.count (candidates_of s.direct.columns iri) x s.direct.state h.direct;
  reverse = placed-rises s.reverse.columns.count (candidates_of s.reverse.columns iri) (turned x) s.reverse.state h.reverse;
}

pub taken-in_order : (s : SidesOf) (x : Item) → AreInOrder s → AreInOrder (both_taken s x)
taken-in_order s x h = record {
  direct = taken-rises x s.direct.state h.direct;
  reverse = taken-rises (turned x) s.reverse.state h.reverse;
}

pub before-in_order : (s new : SidesOf) → AreAsBefore s new → AreInOrder s → AreInOrder new
before-in_order s new b h = record {
  direct = subst AreRising (sym b.direct_lists) h.direct;
  reverse = subst (λ (w : SideOf). AreRising w.state.lists) (sym b.reverse) h.reverse;
}
