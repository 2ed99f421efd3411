-- The tables of a store stand for its triples.
use Rattle.std.proofs.Common.{◌≡◌, ℕ, ◌≤◌, ◌==◌, Bool, true, false, List, [], ◌∷◌, map, length, refl, sym, ap, ◌∙◌, arith, subst}
use Rattle.std.specs.List.{AllByRecursion, IsDistinct}
use Rattle.bags.specs.Bag.{total, SameBag}
use Rattle.bags.specs.BagLaws.{same-refl, total-map, each-weaker, each-map}
use Rattle.rdf_meaning.specs.Terms.{RdfTerm, RdfTriple, same_term, same_triple}
use Rattle.rdf_meaning.specs.TermLaws.{same_triple-is}
use Rattle.layout_meaning.specs.Side.{Row, Rows, Item, all_free, items}
use Rattle.layout_meaning.specs.Sound.{one_if, has_pred, names, AreSoundRows, RowKeeps}
use Rattle.layout_meaning.specs.Rows.{NumberedRow, SideOf, KeepsToNames, numbered_rows}
use Rattle.layout_standing_meaning.specs.Dictionary.{Entry, IsTriple, HasIds, is_id, id_of, names_of, entries_of}
use Rattle.layout_standing_meaning.specs.Contents.{said, side_contents, contents_of, rows_said, direct_item, reverse_item}
use Rattle.layout_standing_meaning.specs.Standing.{SideStands, AreTriples, StandsFor, candidates_at}
use Rattle.layout_standing_meaning.specs.Sides.{IsGoodSide, turned}
use Rattle.layout_standing_meaning.specs.Stored.{StoreOf, IsStore, IsItem, layout_of, tables_of, triple_by, stored_triples, term_at}
use Rattle.layout_standing_meaning.proofs.Each.{each-bag, total-below}
use Rattle.layout_standing_meaning.proofs.Numbered.{numbered-total, each-numbered, rows-once, no-gap, entity-once, said-is}
use Rattle.layout_standing_meaning.proofs.Known.{is_known, AreKnown, known_side}
use Rattle.layout_standing_meaning.proofs.Once.{same_item, said-once}
use Rattle.layout_standing_meaning.proofs.Terms.{entries, term_at-id, term_at-has, id-is_id}

-- one side
pub side_stands : (es : List Entry) (s : SideOf) → IsGoodSide s → KeepsToNames (names_of es) s
    → AllByRecursion (λ (x : Item). is_known es x ≡ true) (items s.state) → SideStands s.columns es (side_contents s.state)
side_stands es s good keeps known =
    record {
      wide = each-numbered (λ (e : ℕ) (r : Row). length r ≡ s.columns.count) s.state.entities
          (each-weaker (λ (en : ℕ × Rows). AreSoundRows s.columns.count en.1) (λ (en : ℕ × Rows). AllByRecursion (λ (r : Row). length r ≡ s.columns.count) en.1) (λ (en : ℕ × Rows) (h : AreSoundRows s.columns.count en.1). h.wide) s.state.entities good.sound.rows);
      entities = ids.entities;
      pairs = ids.pairs;
      elements = ids.elements;
      rows_once = rows-once s.state.entities good.once;
      no_gap = no-gap s.state.entities;
      rows_full = full;
      one_pair = λ (e p : ℕ). entity-once (total (has_pred p)) s.state.entities good.once
          (each-weaker (λ (en : ℕ × Rows). AreSoundRows s.columns.count en.1) (λ (en : ℕ × Rows). total (total (has_pred p)) en.1 ≤ 1) (λ (en : ℕ × Rows) (h : AreSoundRows s.columns.count en.1). h.once p) s.state.entities good.sound.rows) e;
      in_columns = each-numbered (λ (e : ℕ) (r : Row). RowKeeps (candidates_at s.columns es) r) s.state.entities keeps.rows;
      lists_sound = good.sound.lists;
      lists_once = good.sound.apart;
      named_once = named;
    }
  where
    full : AllByRecursion (λ (r : NumberedRow). all_free r.pairs ≡ false) (numbered_rows s.state.entities)
    full = each-numbered (λ (e : ℕ) (r : Row). all_free r ≡ false) s.state.entities
        (each-weaker (λ (en : ℕ × Rows). AreSoundRows s.columns.count en.1) (λ (en : ℕ × Rows). AllByRecursion (λ (r : Row). all_free r ≡ false) en.1) (λ (en : ℕ × Rows) (h : AreSoundRows s.columns.count en.1). h.full) s.state.entities good.sound.rows)

    named : (n : ℕ) → total (λ (r : NumberedRow). total (names n) r.pairs) (numbered_rows s.state.entities) ≡ total (λ (l : ℕ × List ℕ). one_if (l.0 == n)) s.state.lists
    named n = numbered-total (λ (e : ℕ) (r : Row). total (names n) r) s.state.entities ∙ good.sound.named n

    ids : AreKnown es (side_contents s.state)
    ids = known_side es (side_contents s.state) (record { sound = good.sound.lists; once = good.sound.apart; named = named }) full
        (subst (λ (l : List Item). AllByRecursion (λ (x : Item). is_known es x ≡ true) l) (sym (said-is s.state)) known)

-- the items of both sides are known
known_item : (ts : List RdfTerm) (x : Item) → IsItem ts x → is_known (entries_of ts) x ≡ true
known_item ts x h = rw (id-is_id ts x.entity h.entity, id-is_id ts x.pred h.pred, id-is_id ts x.value h.value) refl

known_turned : (ts : List RdfTerm) (x : Item) → IsItem ts x → is_known (entries_of ts) (turned x) ≡ true
known_turned ts x h = rw (id-is_id ts x.entity h.entity, id-is_id ts x.pred h.pred, id-is_id ts x.value h.value) refl

-- the item of an item's triple
back : (ts : List RdfTerm) → IsDistinct same_term ts → (x : Item) → IsItem ts x → direct_item (id_of (entries_of ts)) (triple_by ts x) ≡ x
back ts d x h =
    let a = term_at-id ts x.entity d h.entity in
    let b = term_at-id ts x.pred d h.pred in
    let c = term_at-id ts x.value d h.value in
    λ i. record { entity = a i; pred = b i; value = c i }

back_turned : (ts : List RdfTerm) → IsDistinct same_term ts → (x : Item) → IsItem ts x → reverse_item (id_of (entries_of ts)) (triple_by ts x) ≡ turned x
back_turned ts d x h =
    let a = term_at-id ts x.value d h.value in
    let b = term_at-id ts x.pred d h.pred in
    let c = term_at-id ts x.entity d h.entity in
    λ i. record { entity = a i; pred = b i; value = c i }

-- a map that undoes another where a fact holds
undone : {X Y Z : Type 0} (f : X → Y) (g : Y → Z) (h : X → Z) (P : X → Type 0) → ((x : X) → P x → g (f x) ≡ h x) → (xs : List X) → AllByRecursion P xs → map g (map f xs) ≡ map h xs
undone f g h P e [] a = refl
undone {X} {Y} {Z} f g h P e (x ∷ xs) a = ap (λ (z : Z). z ∷ map g (map f xs)) (e x a.0) ∙ ap (λ (l : List Z). h x ∷ l) (undone f g h P e xs a.1)

map-same : {X : Type 0} (xs : List X) → map (λ x. x) xs ≡ xs
map-same [] = refl
map-same {X} (x ∷ xs) = ap (λ (l : List X). x ∷ l) (map-same xs)

-- no triple is said twice
same_back : (ts : List RdfTerm) → IsDistinct same_term ts → (t : RdfTriple) (x : Item) → IsItem ts x → one_if (same_triple (triple_by ts x) t) ≤ one_if (same_item x (direct_item (id_of (entries_of ts)) t))
same_back ts d t x h = by (same_triple (triple_by ts x) t) refl
  where
    itself : (y : Item) → same_item y y ≡ true
    itself y = let a : (y.entity == y.entity) ≡ true = grind arith in let b : (y.pred == y.pred) ≡ true = grind arith in let c : (y.value == y.value) ≡ true = grind arith in rw (a, b, c) refl

    by : (b : Bool) → same_triple (triple_by ts x) t ≡ b → one_if b ≤ one_if (same_item x (direct_item (id_of (entries_of ts)) t))
    by false e = omega arith
    by true e =
        let k : triple_by ts x ≡ t = same_triple-is (triple_by ts x) t e in
        let m : direct_item (id_of (entries_of ts)) t ≡ x = ap (direct_item (id_of (entries_of ts))) (sym k) ∙ back ts d x h in
        let n : same_item x (direct_item (id_of (entries_of ts)) t) ≡ true = ap (same_item x) m ∙ itself x in
        let o : one_if (same_item x (direct_item (id_of (entries_of ts)) t)) ≡ 1 = ap one_if n in
        omega arith

pub stored_are_triples : (s : StoreOf) → IsStore s → ((x : Item) → total (λ (y : Item). one_if (same_item y x)) (items s.direct.state) ≤ 1) → AreTriples (stored_triples s)
stored_are_triples s h once = record {
  forms = each-map IsTriple (triple_by s.terms) (items s.direct.state) (each-weaker (IsItem s.terms) (λ (x : Item). IsTriple (triple_by s.terms x)) (λ (x : Item) (k : IsItem s.terms x). k.form) (items s.direct.state) h.each_item);
  once = λ (t : RdfTriple).
      (let a : total (λ (u : RdfTriple). one_if (same_triple u t)) (stored_triples s) ≡ total (λ (x : Item). one_if (same_triple (triple_by s.terms x) t)) (items s.direct.state)
      = total-map (λ (u : RdfTriple). one_if (same_triple u t)) (triple_by s.terms) (items s.direct.state) in
      let b : total (λ (x : Item). one_if (same_triple (triple_by s.terms x) t)) (items s.direct.state) ≤ total (λ (x : Item). one_if (same_item x (direct_item (id_of (entries_of s.terms)) t))) (items s.direct.state)
      = total-below (IsItem s.terms) (λ (x : Item). one_if (same_triple (triple_by s.terms x) t)) (λ (x : Item). one_if (same_item x (direct_item (id_of (entries_of s.terms)) t))) (same_back s.terms h.distinct t) (items s.direct.state) h.each_item in
      let c = once (direct_item (id_of (entries_of s.terms)) t) in
      omega arith);
}

-- the tables of a store stand for its triples
pub stands : (s : StoreOf) → IsStore s
    → StandsFor (layout_of s) (tables_of s) (stored_triples s)
stands s h = record {
  contents = contents_of s.direct.state s.reverse.state s.terms;
  exact_tables = record {
    rows = rows_said (contents_of s.direct.state s.reverse.state s.terms);
    five = refl;
    direct = same-refl _;
    direct_lists = same-refl _;
    reverse = same-refl _;
    reverse_lists = same-refl _;
    terms = same-refl _;
  };
  same_triples = record {
    own_terms = entries s.terms h.distinct h.forms;
    direct_side = direct;
    reverse_side = side_stands (entries_of s.terms) s.reverse h.sides.reverse h.reverse_names
        (each-bag (is_known (entries_of s.terms)) (items s.reverse.state) (map turned (items s.direct.state)) h.sides.same_items
        (each-map (λ (x : Item). is_known (entries_of s.terms) x ≡ true) turned (items s.direct.state) (each-weaker (IsItem s.terms) (λ (x : Item). is_known (entries_of s.terms) (turned x) ≡ true) (known_turned s.terms) (items s.direct.state) h.each_item)));
    triples = stored_are_triples s h (λ (x : Item). subst (λ (l : List Item). total (λ (y : Item). one_if (same_item y x)) l ≤ 1) (said-is s.direct.state) (said-once (side_contents s.direct.state) direct.lists_sound direct.one_pair x));
    ids = each-map (HasIds (entries_of s.terms)) (triple_by s.terms) (items s.direct.state)
        (each-weaker (IsItem s.terms) (λ (x : Item). HasIds (entries_of s.terms) (triple_by s.terms x))
        (λ (x : Item) (k : IsItem s.terms x). record { subject = term_at-has s.terms x.entity k.entity; predicate = term_at-has s.terms x.pred k.pred; object = term_at-has s.terms x.value k.value }) (items s.direct.state) h.each_item);
    direct_triples = subst (λ (l : List Item). SameBag l (map (direct_item (id_of (entries_of s.terms))) (stored_triples s))) (sym (said-is s.direct.state))
        (subst (λ (l : List Item). SameBag (items s.direct.state) l) (sym (undone (triple_by s.terms) (direct_item (id_of (entries_of s.terms))) (λ (x : Item). x) (IsItem s.terms) (back s.terms h.distinct) (items s.direct.state) h.each_item ∙ map-same (items s.direct.state))) (same-refl (items s.direct.state)));
    reverse_triples = subst (λ (l : List Item). SameBag l (map (reverse_item (id_of (entries_of s.terms))) (stored_triples s))) (sym (said-is s.reverse.state))
        (subst (λ (l : List Item). SameBag (items s.reverse.state) l) (sym (undone (triple_by s.terms) (reverse_item (id_of (entries_of s.terms))) turned (IsItem s.terms) (back_turned s.terms h.distinct) (items s.direct.state) h.each_item)) h.sides.same_items);
  };
}
  where
    direct : SideStands s.direct.columns (entries_of s.terms) (side_contents s.direct.state)
    direct = side_stands (entries_of s.terms) s.direct h.sides.direct h.direct_names
        (each-weaker (IsItem s.terms) (λ (x : Item). is_known (entries_of s.terms) x ≡ true) (known_item s.terms) (items s.direct.state) h.each_item)
