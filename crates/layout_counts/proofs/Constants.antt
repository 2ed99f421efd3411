-- The triples of a term are the items of its id, and what is counted of a store.
use Rattle.std.proofs.Common.{◌≡◌, ℕ, ◌+◌, ◌==◌, ◌≤◌, Bool, true, false, cond, if◌then◌else◌, List, [], ◌∷◌, map, Some, length, refl, sym, ap, ◌∙◌, arith, subst}
use Rattle.std.specs.List.{AllByRecursion, IsDistinct}
use Rattle.std.specs.Ordering.{nat_cmp}
use Rattle.std.specs.BTreeMap.{is_at}
use Rattle.std.specs.Map.{lookup}
use Rattle.std.specs.Set.{distinct_count}
use Rattle.bags.specs.Bag.{total}
use Rattle.bags.specs.BagLaws.{same-refl, each-map, each-weaker, total-map, total-flat_map, total-each, total-same, total-zero, total-one_each}
use Rattle.rdf_meaning.specs.Terms.{RdfTerm, RdfTriple, same_term}
use Rattle.rdf_meaning.specs.TermLaws.{same_term-is, same_term-self}
use Rattle.layout_meaning.specs.Side.{Rows, Entities, Item, SideState, or_empty, rows_of, items}
use Rattle.layout_meaning.specs.Sound.{one_if}
use Rattle.layout_meaning.specs.Rows.{SideOf, items_of}
use Rattle.layout_meaning.specs.Facts.{CountOf}
use Rattle.layout_meaning.proofs.Maps.{at_true, at_itself}
use Rattle.layout_meaning.proofs.Sums.{total-frame}
use Rattle.layout_standing_meaning.specs.Dictionary.{id_of, entries_of}
use Rattle.layout_standing_meaning.specs.Contents.{contents_of, rows_said}
use Rattle.layout_standing_meaning.specs.Sides.{AreOnce, turned}
use Rattle.layout_standing_meaning.specs.Stored.{StoreOf, IsStore, IsItem, IsIdIn, term_at, triple_by, layout_of, tables_of, stored_triples}
use Rattle.layout_standing_meaning.proofs.Present.{there-id, term-there}
use Rattle.layout_standing_meaning.proofs.Steps.{each-bag_item}
use Rattle.layout_standing_meaning.proofs.Terms.{term_at-id}
use Rattle.layout_stats_laws.proofs.Says.{says}
use Rattle.layout_counts_meaning.specs.Counts.{count_of, distinct_at, counts_over, AreCounts}
use Rattle.layout_counts.proofs.Subjects.{items_in, own_items, distinct-entities}

-- ---- the items of one entity

alike_total : (e k : ℕ) (xs : List Item) → AllByRecursion (λ (x : Item). x.entity ≡ k) xs → total (λ (x : Item). one_if (x.entity == e)) xs ≡ (if k == e then total (λ (x : Item). 1) xs else 0)
alike_total e k [] a = by (k == e)
  where
    by : (b : Bool) → ◌≡◌ {A = ℕ} 0 (if b then 0 else 0)
    by true = refl
    by false = refl
alike_total e k (x ∷ xs) a = by (k == e) (ap (λ (n : ℕ). one_if (n == e)) a.0) (alike_total e k xs a.1)
  where
    by : (b : Bool) → one_if (x.entity == e) ≡ one_if b → total (λ (y : Item). one_if (y.entity == e)) xs ≡ (if b then total (λ (y : Item). 1) xs else 0)
        → one_if (x.entity == e) + total (λ (y : Item). one_if (y.entity == e)) xs ≡ (if b then 1 + total (λ (y : Item). 1) xs else 0)
    by true h ih = omega arith
    by false h ih = omega arith

none_else : (g : Rows → ℕ) (e : ℕ) (ents : Entities) → total (λ (en : ℕ × Rows). one_if (en.0 == e)) ents ≡ 0 → total (λ (en : ℕ × Rows). if en.0 == e then g en.1 else 0) ents ≡ 0
none_else g e ents z =
    total-frame (λ (en : ℕ × Rows). one_if (en.0 == e)) (λ (en : ℕ × Rows). if en.0 == e then g en.1 else 0) (λ (en : ℕ × Rows). 0) (λ (en : ℕ × Rows). by (en.0 == e) en.1) ents z
    ∙ total-zero ents
  where
    by : (b : Bool) (rows : Rows) → one_if b ≡ 0 → (if b then g rows else 0) ≡ 0
    by true rows z = absurd (omega arith)
    by false rows z = refl

found_rows : (g : Rows → ℕ) → g [] ≡ 0 → (e : ℕ) (ents : Entities) → AreOnce ents → total (λ (en : ℕ × Rows). if en.0 == e then g en.1 else 0) ents ≡ g (rows_of ents e)
found_rows g z e [] once = sym z
found_rows g z e (en ∷ ents) once = by (is_at (nat_cmp e) en.0) refl (found_rows g z e ents (λ (n : ℕ). (let l = once n in omega arith)))
  where
    by : (b : Bool) → is_at (nat_cmp e) en.0 ≡ b → total (λ (x : ℕ × Rows). if x.0 == e then g x.1 else 0) ents ≡ g (rows_of ents e)
        → (if en.0 == e then g en.1 else 0) + total (λ (x : ℕ × Rows). if x.0 == e then g x.1 else 0) ents ≡ g (or_empty (cond b (Some en.1) (lookup (is_at (nat_cmp e)) ents)))
    by true t ih =
        let k : en.0 ≡ e = at_true e en.0 t in
        let u : (en.0 == e) ≡ true = grind arith in
        let one : one_if (en.0 == e) ≡ 1 = ap one_if u in
        let rest : total (λ (x : ℕ × Rows). if x.0 == e then g x.1 else 0) ents ≡ 0 = none_else g e ents (let l = once e in omega arith) in
        let head : (if en.0 == e then g en.1 else 0) ≡ g en.1 = ap (λ (b : Bool). if b then g en.1 else 0) u in
        omega arith
    by false t ih =
        let u : (en.0 == e) ≡ false = other (en.0 == e) refl t in
        let head : (if en.0 == e then g en.1 else 0) ≡ 0 = ap (λ (b : Bool). if b then g en.1 else 0) u in
        omega arith
      where
        other : (c : Bool) → (en.0 == e) ≡ c → is_at (nat_cmp e) en.0 ≡ false → c ≡ false
        other false u t = refl
        other true u t =
            let k : e ≡ en.0 = grind arith in
            let v : is_at (nat_cmp e) en.0 ≡ true = subst (λ (n : ℕ). is_at (nat_cmp e) n ≡ true) k (at_itself e) in
            sym v ∙ t

entity-items : (s : SideState) → AreOnce s.entities → (e : ℕ) → total (λ (x : Item). one_if (x.entity == e)) (items s) ≡ total (λ (x : Item). 1) (items_of s e)
entity-items s once e =
    total-flat_map (λ (x : Item). one_if (x.entity == e)) (λ (en : ℕ × Rows). items_in s.lists en.0 en.1) s.entities
    ∙ total-same (λ (en : ℕ × Rows). total (λ (x : Item). one_if (x.entity == e)) (items_in s.lists en.0 en.1)) (λ (en : ℕ × Rows). if en.0 == e then total (λ (x : Item). 1) (items_in s.lists e en.1) else 0)
    (λ (en : ℕ × Rows). alike_total e en.0 (items_in s.lists en.0 en.1) (own_items s.lists en.0 en.1) ∙ by en (en.0 == e) refl) s.entities
    ∙ found_rows (λ (rows : Rows). total (λ (x : Item). 1) (items_in s.lists e rows)) refl e s.entities once
  where
    by : (en : ℕ × Rows) (b : Bool) → (en.0 == e) ≡ b → (if b then total (λ (x : Item). 1) (items_in s.lists en.0 en.1) else 0) ≡ (if b then total (λ (x : Item). 1) (items_in s.lists e en.1) else 0)
    by en false t = refl
    by en true t = let k : en.0 ≡ e = grind arith in ap (λ (n : ℕ). total (λ (x : Item). 1) (items_in s.lists n en.1)) k

-- ---- the id of a term

is-its_id : (ts : List RdfTerm) → IsDistinct same_term ts → (t : RdfTerm) (e : ℕ) → IsIdIn ts e → one_if (same_term (term_at ts e) t) ≡ one_if (e == id_of (entries_of ts) t)
is-its_id ts d t e i = ap one_if (by (same_term (term_at ts e) t) refl (e == id_of (entries_of ts) t) refl)
  where
    by : (b : Bool) → same_term (term_at ts e) t ≡ b → (c : Bool) → (e == id_of (entries_of ts) t) ≡ c → b ≡ c
    by true s true u = refl
    by false s false u = refl
    by true s false u =
        let k : e ≡ id_of (entries_of ts) t = sym (term_at-id ts e d i) ∙ ap (id_of (entries_of ts)) (same_term-is (term_at ts e) t s) in
        let v : (e == id_of (entries_of ts) t) ≡ true = grind arith in
        sym v ∙ u
    by false s true u =
        let k : e ≡ id_of (entries_of ts) t = grind arith in
        let l : 1 ≤ id_of (entries_of ts) t = (let a = i.0 in omega arith) in
        let w : term_at ts e ≡ t = ap (term_at ts) k ∙ term-there ts t (there-id 1 t ts l) in
        sym s ∙ ap (λ (x : RdfTerm). same_term x t) w ∙ same_term-self t

-- ---- what is counted of a store

pub subject-counted : (s : StoreOf) → IsStore s → (t : RdfTerm) (n : ℕ) → n ≡ total (λ (x : Item). 1) (items_of s.direct.state (id_of (entries_of s.terms) t)) → n ≡ (count_of (stored_triples s) t).as_subject
subject-counted s h t n e =
    e ∙ sym (entity-items s.direct.state h.sides.direct.once (id_of (entries_of s.terms) t))
    ∙ sym (total-each (λ (x : Item). one_if (same_term (term_at s.terms x.entity) t)) (λ (x : Item). one_if (x.entity == id_of (entries_of s.terms) t)) (IsItem s.terms)
    (λ (x : Item) (i : IsItem s.terms x). is-its_id s.terms h.distinct t x.entity i.entity) (items s.direct.state) h.each_item)
    ∙ sym (total-map (λ (u : RdfTriple). one_if (same_term u.s t)) (triple_by s.terms) (items s.direct.state))

pub object-counted : (s : StoreOf) → IsStore s → (t : RdfTerm) (n : ℕ) → n ≡ total (λ (x : Item). 1) (items_of s.reverse.state (id_of (entries_of s.terms) t)) → n ≡ (count_of (stored_triples s) t).as_object
object-counted s h t n e =
    e ∙ sym (entity-items s.reverse.state h.sides.reverse.once (id_of (entries_of s.terms) t))
    ∙ h.sides.same_items.totals (λ (x : Item). one_if (x.entity == id_of (entries_of s.terms) t))
    ∙ total-map (λ (x : Item). one_if (x.entity == id_of (entries_of s.terms) t)) turned (items s.direct.state)
    ∙ sym (total-each (λ (x : Item). one_if (same_term (term_at s.terms x.value) t)) (λ (x : Item). one_if (x.value == id_of (entries_of s.terms) t)) (IsItem s.terms)
    (λ (x : Item) (i : IsItem s.terms x). is-its_id s.terms h.distinct t x.value i.value) (items s.direct.state) h.each_item)
    ∙ sym (total-map (λ (u : RdfTriple). one_if (same_term u.o t)) (triple_by s.terms) (items s.direct.state))

map_map : {X Y Z : Type 0} (g : Y → Z) (f : X → Y) (xs : List X) → map g (map f xs) ≡ map (λ x. g (f x)) xs
map_map g f [] = refl
map_map {X} {Y} {Z} g f (x ∷ xs) = ap (λ (zs : List Z). g (f x) ∷ zs) (map_map g f xs)

pub subjects-counted : (s : StoreOf) → IsStore s → length s.direct.state.entities ≡ distinct_at (λ (u : RdfTriple). u.s) (stored_triples s)
subjects-counted s h =
    distinct-entities s.direct.columns.count s.direct.state s.terms (items s.direct.state) h.sides.direct.sound h.sides.direct.once h.distinct (same-refl (items s.direct.state))
    (each-weaker (IsItem s.terms) (λ (x : Item). IsIdIn s.terms x.entity) (λ (x : Item) (i : IsItem s.terms x). i.entity) (items s.direct.state) h.each_item)
    ∙ ap (distinct_count same_term) (sym (map_map (λ (u : RdfTriple). u.s) (triple_by s.terms) (items s.direct.state)))

pub objects-counted : (s : StoreOf) → IsStore s → length s.reverse.state.entities ≡ distinct_at (λ (u : RdfTriple). u.o) (stored_triples s)
objects-counted s h =
    distinct-entities s.reverse.columns.count s.reverse.state s.terms (map turned (items s.direct.state)) h.sides.reverse.sound h.sides.reverse.once h.distinct h.sides.same_items
    (each-bag_item (λ (x : Item). IsIdIn s.terms x.entity) (items s.reverse.state) (map turned (items s.direct.state)) h.sides.same_items
    (each-map (λ (x : Item). IsIdIn s.terms x.entity) turned (items s.direct.state) (each-weaker (IsItem s.terms) (λ (x : Item). IsIdIn s.terms x.value) (λ (x : Item) (i : IsItem s.terms x). i.value) (items s.direct.state) h.each_item)))
    ∙ ap (distinct_count same_term) (map_map (λ (x : Item). term_at s.terms x.entity) turned (items s.direct.state) ∙ sym (map_map (λ (u : RdfTriple). u.o) (triple_by s.terms) (items s.direct.state)))

pub triples-counted : (s : StoreOf) (n : ℕ) → n ≡ total (λ (x : Item). 1) (items s.direct.state) → n ≡ length (stored_triples s)
triples-counted s n e = e ∙ sym (total-map (λ (u : RdfTriple). 1) (triple_by s.terms) (items s.direct.state)) ∙ total-one_each (stored_triples s)

-- what is told of a term, from the sides that are seen
pub count-told : (s : StoreOf) → IsStore s → (t u : RdfTerm) (d r : SideOf) (id m n : ℕ) → u ≡ t → id ≡ id_of (entries_of s.terms) t → d ≡ s.direct → m ≡ total (λ (x : Item). 1) (items_of d.state id)
    → r ≡ s.reverse → n ≡ total (λ (x : Item). 1) (items_of r.state id) → record { term = u; as_subject = m; as_object = n } ≡ count_of (stored_triples s) t
count-told s h t u d r id m n e f dd me rr ne =
    let a : m ≡ (count_of (stored_triples s) t).as_subject = subject-counted s h t m (me ∙ (λ i. total (λ (x : Item). 1) (items_of (dd i).state (f i)))) in
    let b : n ≡ (count_of (stored_triples s) t).as_object = object-counted s h t n (ne ∙ (λ i. total (λ (x : Item). 1) (items_of (rr i).state (f i)))) in
    λ i. record { term = e i; as_subject = a i; as_object = b i }

pub counts-told : (s : StoreOf) → IsStore s → (terms : List RdfTerm) (d r : SideOf) (n a b : ℕ) (cs : List CountOf) → n ≡ total (λ (x : Item). 1) (items s.direct.state) → d ≡ s.direct → a ≡ length d.state.entities
    → r ≡ s.reverse → b ≡ length r.state.entities → cs ≡ map (count_of (stored_triples s)) terms
    → record { triples = n; subjects = a; objects = b; constants = cs } ≡ counts_over (stored_triples s) terms
counts-told s h terms d r n a b cs ne dd ae rr be ce =
    let m : n ≡ length (stored_triples s) = triples-counted s n ne in
    let u : a ≡ distinct_at (λ (x : RdfTriple). x.s) (stored_triples s) = ae ∙ ap (λ (x : SideOf). length x.state.entities) dd ∙ subjects-counted s h in
    let v : b ≡ distinct_at (λ (x : RdfTriple). x.o) (stored_triples s) = be ∙ ap (λ (x : SideOf). length x.state.entities) rr ∙ objects-counted s h in
    λ i. record { triples = m i; subjects = u i; objects = v i; constants = ce i }

-- ---- tables

pub tables-counted : (s : StoreOf) (terms : List RdfTerm) → IsStore s → AreCounts (layout_of s) (tables_of s) (stored_triples s) terms (counts_over (stored_triples s) terms)
tables-counted s terms h = record {
  contents = contents_of s.direct.state s.reverse.state s.terms;
  exact_tables = record {
    rows = rows_said (contents_of s.direct.state s.reverse.state s.terms);
    five = refl;
    direct = same-refl _;
    direct_lists = same-refl _;
    reverse = same-refl _;
    reverse_lists = same-refl _;
    terms = same-refl _;
  };
  same_triples = says s h;
  counted = refl;
}
