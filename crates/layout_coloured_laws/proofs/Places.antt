-- Sides on which an entity has one row.
use Rattle.std.proofs.Common.{◌≡◌, ◌<◌, ◌+◌, ◌==◌, ℕ, Bool, true, false, if◌then◌else◌, cond, List, [], ◌∷◌, Option, Some, None, length, refl, sym, ap, arith, subst}
use Rattle.std.specs.List.{AllByRecursion}
use Rattle.std.specs.Ordering.{nat_cmp}
use Rattle.std.specs.BTreeMap.{is_at}
use Rattle.std.specs.Map.{lookup}
use Rattle.bags.specs.Bag.{total}
use Rattle.layout_meaning.specs.declared.value.Value.{Value}
use Rattle.layout_meaning.specs.declared.value.Value.TheVariants.{One, Many}
use Rattle.layout_meaning.specs.Columns.{ColumnsOf, candidates_of}
use Rattle.layout_meaning.specs.Side.{Rows, Entities, Item, SideState, rows_of, or_empty, find, put_by, with_rows, write, place_new, is_held, place_by}
use Rattle.layout_meaning.specs.Rows.{SideOf, placed_in}
use Rattle.layout_meaning.proofs.Maps.{set_value-other, insert_entry-other, remove_entry-other}
use Rattle.layout_meaning.proofs.Undone.{rows-with_rows}
use Rattle.layout_bulk_meaning.specs.Appended.{lists_in, given_row, lists_in_rows, given_rows, given_entities}
use Rattle.layout_bulk_meaning.specs.Bulk.{placed_all}
use Rattle.layout_bulk_meaning.proofs.Turns.{turn-length}
use Rattle.layout_coloured_laws.proofs.Rows.{Apart, OneFits, new-fits, write-one}

rows-other : (ents : Entities) (e f : ℕ) (new : Rows) → (f ≡ e → ⊥) → rows_of (with_rows ents e new) f ≡ rows_of ents f
rows-other ents e f new differ = by (lookup (is_at (nat_cmp e)) ents) refl new
  where
    by : (o : Option Rows) → lookup (is_at (nat_cmp e)) ents ≡ o → (new : Rows) → rows_of (put_by o ents e new) f ≡ rows_of ents f
    by None t new = ap (λ (w : Option Rows). or_empty w) (insert_entry-other e f new ents differ t)
    by (Some old) t [] = ap (λ (w : Option Rows). or_empty w) (remove_entry-other e f ents differ)
    by (Some old) t (r ∷ rs) = ap (λ (w : Option Rows). or_empty w) (set_value-other e f (r ∷ rs) ents differ)

-- how an entity's predicates stand in their own columns
pub record OwnColumns (columns : ColumnsOf) (iri_of : ℕ → List ℕ) (col : ℕ → ℕ) (P : ℕ → Bool) : Type 0 where
  pub apart : Apart col P
  pub own : (p : ℕ) → P p ≡ true → candidates_of columns (iri_of p) ≡ col p ∷ []
  pub low : (p : ℕ) → P p ≡ true → col p < columns.count

here-fits : (columns : ColumnsOf) (iri_of : ℕ → List ℕ) (col : ℕ → ℕ) (P : ℕ → Bool) (x : Item) (s : SideState) → OwnColumns columns iri_of col P → P x.pred ≡ true → OneFits columns.count col P (rows_of s.entities x.entity)
    → (o : Option Value) → find x.pred (rows_of s.entities x.entity) ≡ o → OneFits columns.count col P (rows_of (place_by o columns.count (col x.pred ∷ []) x s).entities x.entity)
here-fits columns iri_of col P x s own in_p h None e =
    let k = new-fits columns.count col P (rows_of s.entities x.entity) (record { pred = x.pred; value = One x.value }) own.apart h in_p (own.low x.pred in_p) e in
    subst (OneFits columns.count col P) (sym (rows-with_rows s.entities x.entity (place_new columns.count (col x.pred ∷ []) (record { pred = x.pred; value = One x.value }) (rows_of s.entities x.entity)) k.1)) k.0
here-fits columns iri_of col P x s own in_p h (Some (One w)) e =
    let k = write-one columns.count col P (rows_of s.entities x.entity) (record { pred = x.pred; value = Many s.next }) (One w) h in_p e in
    subst (OneFits columns.count col P) (sym (rows-with_rows s.entities x.entity (write x.pred (Some (record { pred = x.pred; value = Many s.next })) (rows_of s.entities x.entity)) k.1)) k.0
here-fits columns iri_of col P x s own in_p h (Some (Many n)) e = h

there-same : (k : ℕ) (cs : List ℕ) (x : Item) (s : SideState) (e : ℕ) → (e ≡ x.entity → ⊥) → (o : Option Value) → rows_of (place_by o k cs x s).entities e ≡ rows_of s.entities e
there-same k cs x s e differ None = rows-other s.entities x.entity e _ differ
there-same k cs x s e differ (Some (One w)) = rows-other s.entities x.entity e _ differ
there-same k cs x s e differ (Some (Many n)) = refl

step-fits : (iri_of : ℕ → List ℕ) (col : ℕ → ℕ) (P : ℕ → Bool) (s : SideOf) (x : Item) (e : ℕ) → OwnColumns s.columns iri_of col P → (x.entity ≡ e → P x.pred ≡ true) → OneFits s.columns.count col P (rows_of s.state.entities e)
    → OneFits s.columns.count col P (rows_of (placed_in s (iri_of x.pred) x).state.entities e)
step-fits iri_of col P s x e own in_p h = by (is_held x s.state)
  where
    cs : List ℕ
    cs = candidates_of s.columns (iri_of x.pred)

    v : Option Value
    v = find x.pred (rows_of s.state.entities x.entity)

    same : x.entity ≡ e → OneFits s.columns.count col P (rows_of (place_by v s.columns.count cs x s.state).entities e)
    same k =
        let p = in_p k in
        let before : OneFits s.columns.count col P (rows_of s.state.entities x.entity) = subst (λ (n : ℕ). OneFits s.columns.count col P (rows_of s.state.entities n)) (sym k) h in
        let after : OneFits s.columns.count col P (rows_of (place_by v s.columns.count (col x.pred ∷ []) x s.state).entities x.entity) = here-fits s.columns iri_of col P x s.state own p before v refl in
        subst (λ (n : ℕ). OneFits s.columns.count col P (rows_of (place_by v s.columns.count cs x s.state).entities n)) k
        (subst (λ (l : List ℕ). OneFits s.columns.count col P (rows_of (place_by v s.columns.count l x s.state).entities x.entity)) (sym (own.own x.pred p)) after)

    go : (b : Bool) → (x.entity == e) ≡ b → OneFits s.columns.count col P (rows_of (place_by v s.columns.count cs x s.state).entities e)
    go true t = same (let k : x.entity ≡ e = grind arith in k)
    go false t = subst (OneFits s.columns.count col P) (sym (there-same s.columns.count cs x s.state e (λ k. absurd (grind arith)) v)) h

    by : (b : Bool) → OneFits s.columns.count col P (rows_of (if b then s.state else place_by v s.columns.count cs x s.state).entities e)
    by true = h
    by false = go (x.entity == e) refl

pub all-fit : (iri_of : ℕ → List ℕ) (col : ℕ → ℕ) (P : ℕ → Bool) (s : SideOf) (xs : List Item) (e : ℕ) → OwnColumns s.columns iri_of col P → AllByRecursion (λ (x : Item). x.entity ≡ e → P x.pred ≡ true) xs
    → OneFits s.columns.count col P (rows_of s.state.entities e) → OneFits s.columns.count col P (rows_of (placed_all iri_of s xs).state.entities e)
all-fit iri_of col P s [] e own a h = h
all-fit iri_of col P s (x ∷ xs) e own a h = all-fit iri_of col P (placed_in s (iri_of x.pred) x) xs e own a.1 (step-fits iri_of col P s x e own a.0 h)

-- rows keep their number when lists get other ones
pub given-length : (n : ℕ) (ents : Entities) (e : ℕ) → length (rows_of (given_entities n ents) e) ≡ length (rows_of ents e)
given-length n [] e = refl
given-length n (en ∷ ents) e = by (is_at (nat_cmp e) en.0) (given-length (n + lists_in_rows en.1) ents e)
  where
    by : (b : Bool) → length (rows_of (given_entities (n + lists_in_rows en.1) ents) e) ≡ length (rows_of ents e)
        → length (or_empty (cond b (Some (given_rows n en.1)) (lookup (is_at (nat_cmp e)) (given_entities (n + lists_in_rows en.1) ents)))) ≡ length (or_empty (cond b (Some en.1) (lookup (is_at (nat_cmp e)) ents)))
    by true ih = turn-length (total lists_in) given_row n en.1
    by false ih = ih
