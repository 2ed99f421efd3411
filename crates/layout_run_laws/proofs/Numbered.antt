-- The numbers of lists are below the next one, and the entities of a side are those of its items.
use Rattle.std.proofs.Common.{◌≡◌, ℕ, zero, suc, ◌+◌, ◌==◌, Bool, true, false, if◌then◌else◌, is_some, List, [], ◌∷◌, ◌++◌, replicate, Option, Some, None, Ordering, Less, Equal, Greater, refl, arith}
use Rattle.std.specs.List.{AllByRecursion}
use Rattle.std.specs.Ordering.{nat_cmp, match_ordering}
use Rattle.std.specs.BTreeMap.{is_at, insert_entry}
use Rattle.std.specs.Map.{lookup, set_value, remove_entry, keys_of}
use Rattle.std.proofs.lemmas.Map.{keys-set_value}
use Rattle.bags.specs.BagLaws.{each-weaker}
use Rattle.layout_meaning.specs.declared.value.Value.{Value}
use Rattle.layout_meaning.specs.declared.value.Value.TheVariants.{One, Many}
use Rattle.layout_meaning.specs.Side.{Pair, Row, Rows, Entities, Item, SideState, or_empty, rows_of, elements_of, find_in_row, find, all_free, write_in_row, write, put_at, first_free, first_of, put_or, place_new, put_by, with_rows, is_held, place_by, placed}
use Rattle.layout_meaning.specs.Columns.{candidates_of}
use Rattle.layout_meaning.specs.Rows.{SideOf, placed_in}
use Rattle.layout_meaning.proofs.RowsKept.{All-found, All-with_rows}
use Rattle.layout_bulk_meaning.specs.Bulk.{placed_all}
use Rattle.layout_run_laws.proofs.Keyed.{KeysBelow}
use Rattle.layout_run_laws.proofs.Sides.{keys-more}

abbrev pub ValueBelow : ℕ → Value → Type 0
ValueBelow n (One v) = Unit {0}
ValueBelow n (Many m) = nat_cmp m n ≡ Less

abbrev pub PairBelow : ℕ → Option Pair → Type 0
PairBelow n None = Unit {0}
PairBelow n (Some q) = ValueBelow n q.value

abbrev pub RowBelow : ℕ → Row → Type 0
RowBelow n r = AllByRecursion (PairBelow n) r

abbrev pub RowsBelow : ℕ → Rows → Type 0
RowsBelow n rs = AllByRecursion (RowBelow n) rs

abbrev pub EntitiesBelow : ℕ → Entities → Type 0
EntitiesBelow n ents = AllByRecursion (λ (en : ℕ × Rows). RowsBelow n en.1) ents

-- each list that is there or named has a number below the next one
pub record IsNumbered (s : SideState) : Type 0 where
  pub low : KeysBelow s.next s.lists
  pub named : EntitiesBelow s.next s.entities

-- ---- below a higher number

below_next : (m n : ℕ) → nat_cmp m n ≡ Less → nat_cmp m (n + 1) ≡ Less
below_next m n h = grind arith

value-more : (n : ℕ) (v : Value) → ValueBelow n v → ValueBelow (n + 1) v
value-more n (One v) h = tt
value-more n (Many m) h = below_next m n h

pair-more : (n : ℕ) (o : Option Pair) → PairBelow n o → PairBelow (n + 1) o
pair-more n None h = tt
pair-more n (Some q) h = value-more n q.value h

entities-more : (n : ℕ) (ents : Entities) → EntitiesBelow n ents → EntitiesBelow (n + 1) ents
entities-more n ents h =
    each-weaker (λ (en : ℕ × Rows). RowsBelow n en.1) (λ (en : ℕ × Rows). RowsBelow (n + 1) en.1)
    (λ en a. each-weaker (RowBelow n) (RowBelow (n + 1)) (λ r b. each-weaker (PairBelow n) (PairBelow (n + 1)) (pair-more n) r b) en.1 a) ents h

-- ---- rows after a change

below-put_at : (n : ℕ) (r : Row) (c : ℕ) (new : Option Pair) → RowBelow n r → PairBelow n new → RowBelow n (put_at r c new)
below-put_at n [] c new h p = tt
below-put_at n (o ∷ r) zero new h p = (p, h.1)
below-put_at n (o ∷ r) (suc c) new h p = (h.0, below-put_at n r c new h.1 p)

below-empty : (n k : ℕ) → RowBelow n (replicate k None)
below-empty n zero = tt
below-empty n (suc k) = (tt, below-empty n k)

below-place_new : (n k : ℕ) (cs : List ℕ) (pair : Pair) (rs : Rows) → RowsBelow n rs → ValueBelow n pair.value → RowsBelow n (place_new k cs pair rs)
below-place_new n k cs pair [] h p = (below-put_at n (replicate k None) (first_of cs) (Some pair) (below-empty n k) p, tt)
below-place_new n k cs pair (r ∷ rs) h p = by (first_free r cs) (below-place_new n k cs pair rs h.1 p)
  where
    by : (o : Option ℕ) → RowsBelow n (place_new k cs pair rs) → RowsBelow n (put_or o r pair rs (place_new k cs pair rs))
    by None ih = (h.0, ih)
    by (Some c) ih = (below-put_at n r c (Some pair) h.0 p, h.1)

below-write_in_row : (n p : ℕ) (new : Option Pair) (r : Row) → RowBelow n r → PairBelow n new → RowBelow n (write_in_row p new r)
below-write_in_row n p new [] h b = tt
below-write_in_row n p new (None ∷ r) h b = (tt, below-write_in_row n p new r h.1 b)
below-write_in_row n p new (Some q ∷ r) h b = by (q.pred == p) (below-write_in_row n p new r h.1 b)
  where
    by : (c : Bool) → RowBelow n (write_in_row p new r) → RowBelow n (if c then new ∷ r else Some q ∷ write_in_row p new r)
    by true ih = (b, h.1)
    by false ih = (h.0, ih)

below-write : (n p : ℕ) (new : Option Pair) (rs : Rows) → RowsBelow n rs → PairBelow n new → RowsBelow n (write p new rs)
below-write n p new [] h b = tt
below-write n p new (r ∷ rs) h b = by (is_some (find_in_row p r)) (all_free (write_in_row p new r)) (below-write n p new rs h.1 b)
  where
    by : (c d : Bool) → RowsBelow n (write p new rs) → RowsBelow n (if c then (if d then rs else write_in_row p new r ∷ rs) else r ∷ write p new rs)
    by true true ih = h.1
    by true false ih = (below-write_in_row n p new r h.0 b, h.1)
    by false d ih = (h.0, ih)

below-rows : (n e : ℕ) (ents : Entities) → EntitiesBelow n ents → RowsBelow n (rows_of ents e)
below-rows n e ents h = by (lookup (is_at (nat_cmp e)) ents) refl
  where
    by : (o : Option Rows) → lookup (is_at (nat_cmp e)) ents ≡ o → RowsBelow n (or_empty o)
    by None t = tt
    by (Some rs) t = All-found (RowsBelow n) e rs ents h t

below-with_rows : (n e : ℕ) (ents : Entities) (new : Rows) → EntitiesBelow n ents → RowsBelow n new → EntitiesBelow n (with_rows ents e new)
below-with_rows n e ents new h p = All-with_rows (RowsBelow n) ents e new h (λ l. p) (λ l. p)

-- ---- keys after a change

pub keys-insert : {X : Type 0} (P : ℕ → Type 0) (k : ℕ) (v : X) (es : List (ℕ × X)) → AllByRecursion P (keys_of es) → P k → AllByRecursion P (keys_of (insert_entry nat_cmp es k v))
keys-insert P k v [] h p = (p, tt)
keys-insert {X} P k v (e ∷ es) h p = by (nat_cmp k e.0) (keys-insert P k v es h.1 p)
  where
    by : (o : Ordering) → AllByRecursion P (keys_of (insert_entry nat_cmp es k v)) → AllByRecursion P (keys_of (match_ordering o ((k, v) ∷ e ∷ es) ((e.0, v) ∷ es) (e ∷ insert_entry nat_cmp es k v)))
    by Less ih = (p, h)
    by Equal ih = h
    by Greater ih = (h.0, ih)

keys-set : {X : Type 0} (P : ℕ → Type 0) (k : ℕ) (v : X) (es : List (ℕ × X)) → AllByRecursion P (keys_of es) → AllByRecursion P (keys_of (set_value (is_at (nat_cmp k)) es v))
keys-set P k v es h = rw (keys-set_value (is_at (nat_cmp k)) es v) h

keys-remove : {X : Type 0} (P : ℕ → Type 0) (k : ℕ) (es : List (ℕ × X)) → AllByRecursion P (keys_of es) → AllByRecursion P (keys_of (remove_entry (is_at (nat_cmp k)) es))
keys-remove P k [] h = tt
keys-remove {X} P k (e ∷ es) h = by (is_at (nat_cmp k) e.0) (keys-remove P k es h.1)
  where
    by : (b : Bool) → AllByRecursion P (keys_of (remove_entry (is_at (nat_cmp k)) es)) → AllByRecursion P (keys_of (if b then es else e ∷ remove_entry (is_at (nat_cmp k)) es))
    by true ih = h.1
    by false ih = (h.0, ih)

keys-with_rows : (P : ℕ → Type 0) (ents : Entities) (e : ℕ) (new : Rows) → AllByRecursion P (keys_of ents) → P e → AllByRecursion P (keys_of (with_rows ents e new))
keys-with_rows P ents e new h p = by (lookup (is_at (nat_cmp e)) ents) new
  where
    by : (o : Option Rows) (new : Rows) → AllByRecursion P (keys_of (put_by o ents e new))
    by None new = keys-insert P e new ents h p
    by (Some old) [] = keys-remove P e ents h
    by (Some old) (r ∷ rs) = keys-set P e (r ∷ rs) ents h

-- ---- after placing

below_itself : (n : ℕ) → nat_cmp n (n + 1) ≡ Less
below_itself n = grind arith

place_by-numbered : (k : ℕ) (columns : List ℕ) (x : Item) (s : SideState) → IsNumbered s → (o : Option Value) → IsNumbered (place_by o k columns x s)
place_by-numbered k columns x s h None = record {
  low = h.low;
  named = below-with_rows s.next x.entity s.entities (place_new k columns (record { pred = x.pred; value = One x.value }) (rows_of s.entities x.entity)) h.named
      (below-place_new s.next k columns (record { pred = x.pred; value = One x.value }) (rows_of s.entities x.entity) (below-rows s.next x.entity s.entities h.named) tt);
}
place_by-numbered k columns x s h (Some (One w)) = record {
  low = keys-insert (λ l. nat_cmp l (s.next + 1) ≡ Less) s.next (w ∷ x.value ∷ []) s.lists (keys-more s.next 1 s.lists h.low) (below_itself s.next);
  named = below-with_rows (s.next + 1) x.entity s.entities (write x.pred (Some (record { pred = x.pred; value = Many s.next })) (rows_of s.entities x.entity)) (entities-more s.next s.entities h.named)
      (below-write (s.next + 1) x.pred (Some (record { pred = x.pred; value = Many s.next })) (rows_of s.entities x.entity) (below-rows (s.next + 1) x.entity s.entities (entities-more s.next s.entities h.named)) (below_itself s.next));
}
place_by-numbered k columns x s h (Some (Many n)) = record {
  low = keys-set (λ l. nat_cmp l s.next ≡ Less) n (elements_of s.lists n ++ x.value ∷ []) s.lists h.low;
  named = h.named;
}

placed-numbered : (k : ℕ) (columns : List ℕ) (x : Item) (s : SideState) → IsNumbered s → IsNumbered (placed k columns x s)
placed-numbered k columns x s h = by (is_held x s) (place_by-numbered k columns x s h (find x.pred (rows_of s.entities x.entity)))
  where
    by : (b : Bool) → IsNumbered (place_by (find x.pred (rows_of s.entities x.entity)) k columns x s) → IsNumbered (if b then s else place_by (find x.pred (rows_of s.entities x.entity)) k columns x s)
    by true p = h
    by false p = p

place_by-keys : (P : ℕ → Type 0) (k : ℕ) (columns : List ℕ) (x : Item) (s : SideState) → AllByRecursion P (keys_of s.entities) → P x.entity → (o : Option Value) → AllByRecursion P (keys_of (place_by o k columns x s).entities)
place_by-keys P k columns x s h p None = keys-with_rows P s.entities x.entity (place_new k columns (record { pred = x.pred; value = One x.value }) (rows_of s.entities x.entity)) h p
place_by-keys P k columns x s h p (Some (One w)) = keys-with_rows P s.entities x.entity (write x.pred (Some (record { pred = x.pred; value = Many s.next })) (rows_of s.entities x.entity)) h p
place_by-keys P k columns x s h p (Some (Many n)) = h

placed-keys : (P : ℕ → Type 0) (k : ℕ) (columns : List ℕ) (x : Item) (s : SideState) → AllByRecursion P (keys_of s.entities) → P x.entity → AllByRecursion P (keys_of (placed k columns x s).entities)
placed-keys P k columns x s h p = by (is_held x s) (place_by-keys P k columns x s h p (find x.pred (rows_of s.entities x.entity)))
  where
    by : (b : Bool) → AllByRecursion P (keys_of (place_by (find x.pred (rows_of s.entities x.entity)) k columns x s).entities)
        → AllByRecursion P (keys_of (if b then s else place_by (find x.pred (rows_of s.entities x.entity)) k columns x s).entities)
    by true q = h
    by false q = q

pub all-numbered : (iri_of : ℕ → List ℕ) (s : SideOf) (xs : List Item) → IsNumbered s.state → IsNumbered (placed_all iri_of s xs).state
all-numbered iri_of s [] h = h
all-numbered iri_of s (x ∷ xs) h = all-numbered iri_of (placed_in s (iri_of x.pred) x) xs (placed-numbered s.columns.count (candidates_of s.columns (iri_of x.pred)) x s.state h)

-- what holds of the entities there and of those of the items
pub all-keys : (P : ℕ → Type 0) (iri_of : ℕ → List ℕ) (s : SideOf) (xs : List Item) → AllByRecursion P (keys_of s.state.entities) → AllByRecursion (λ (x : Item). P x.entity) xs → AllByRecursion P (keys_of (placed_all iri_of s xs).state.entities)
all-keys P iri_of s [] h a = h
all-keys P iri_of s (x ∷ xs) h a = all-keys P iri_of (placed_in s (iri_of x.pred) x) xs (placed-keys P s.columns.count (candidates_of s.columns (iri_of x.pred)) x s.state h a.0) a.1
