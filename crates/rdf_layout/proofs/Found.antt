-- Triples whose items are gathered.
use Rattle.std.proofs.Common.{◌≡◌, ◌≢◌, ℕ, ◌+◌, ◌≤◌, ◌<◌, ◌||◌, nat_le, nat_lt, Bool, true, false, if◌then◌else◌, List, [], ◌∷◌, ◌++◌, map, length, take, drop, get_or, All, Some, refl, sym, ap, ◌∙◌, arith, subst}
use Rattle.std.specs.List.{list_any, AllByRecursion}
use Rattle.std.proofs.lemmas.Bool.Decides.{nat_tests}
use Rattle.std.proofs.lemmas.List.{map_push}
use Rattle.bags.specs.Bag.{total, SameBag}
use Rattle.bags.specs.BagLaws.{same-refl, same-sym, same-trans, same-map, same-append, same-append_comm, same-length, total-one_each, each-weaker, each-map}
use Rattle.rdf_meaning.specs.Terms.{RdfTerm, RdfTriple, same_triple}
use Rattle.layout_meaning.specs.Columns.{ColumnsOf, candidates_of}
use Rattle.layout_meaning.specs.Side.{Item, items, is_held}
use Rattle.layout_meaning.specs.Sound.{one_if, IsSound}
use Rattle.layout_meaning.specs.Rows.{SideOf}
use Rattle.layout_meaning.proofs.Candidates.{AreCandidates, candidates, first-below}
use Rattle.layout_meaning.proofs.Changes.{next-placed}
use Rattle.value_lists.specs.declared.lists.Put.TheVariants.{Added}
use Rattle.value_lists.specs.Answers.{put_of}
use Rattle.layout_ids.specs.Noted.{HaveIds}
use Rattle.layout_sides.specs.Items.{item_of}
use Rattle.layout_sides.specs.declared.sides.IdTriple.{IdTriple}
use Rattle.layout_standing_meaning.specs.Dictionary.{IsTriple}
use Rattle.layout_standing_meaning.specs.Schemas.{LayoutOf}
use Rattle.layout_standing_meaning.specs.Sides.{SidesOf, AreSides, turned}
use Rattle.layout_standing_meaning.specs.Stored.{StoreOf, IsStore, IsItem, IsIdIn, sides_of, layout_of, triple_by, stored_triples, text_of_id}
use Rattle.layout_standing_meaning.specs.Changes.{with_terms, item_in, store_of, is_stored, stored_in}
use Rattle.layout_standing_meaning.proofs.Steps.{count-held, each-bag_item, sides-empty}
use Rattle.layout_standing_meaning.proofs.Terms.{term_at-id}
use Rattle.layout_standing_meaning.proofs.Present.{triple-there, terms-noted}
use Rattle.layout_standing_meaning.proofs.Growth.{placed-bag}
use Rattle.layout_standing_meaning.proofs.Changed.{stored-grown, held-in}
use Rattle.layout_store_laws.proofs.Same.{there-unchanged}
use Rattle.layout_list_laws.specs.InOrder.{AreInOrder}
use Rattle.layout_bulk_meaning.specs.Bulk.{bulk_side}
use Rattle.layout_bulk_laws.specs.BulkStore.{each_once, terms_of, bulk_items, bulk_sides, bulk_store, HaveCandidates}
use Rattle.layout_bulk_laws.specs.BulkLaws.{BulksAreStores, BulksHoldTheirItems, BulksAreInOrder}
use Rattle.layout_columns_meaning.specs.BulkColours.{AreColumnsFor}
use Rattle.layout_columns_meaning.specs.Layouts.{IsLayoutFor}
use Rattle.layout_columns_meaning.specs.Layouts.{ChoiceOf}
use Rattle.shredder.specs.declared.bulk.Placed.{Placed}
use Rattle.shredder.specs.Items as placed
use Rattle.rdf_layout.specs.declared.refusal.StoreRefusal.{StoreRefusal}
use Rattle.rdf_layout.specs.declared.refusal.StoreRefusal.TheVariants.{Triples, Terms, NoMemory}
use Rattle.rdf_layout.specs.Refused.{Refuses, HasRoom}
use Rattle.rdf_layout.specs.Bulk.{empty_sides, empty_store, ArePutInTurn, refusal_from}
use Rattle.rdf_layout.specs.Gathered.{is_item, is_among, turned_placed, AreItemsOf, AreStored, with_found, HasSpace, Gathers}
use Rattle.rdf_layout.proofs.Putting.{count-is, noted-item, noted-held, refused-book, is-full}
use Rattle.rdf_layout.proofs.Filling.{put-none, put-on, refusal-on, refused-on, once-more, seen-same, taken-on}

-- ---- what is found

any-counted : (p : Item → Bool) (xs : List Item) → list_any p xs ≡ nat_lt 0 (total (λ (y : Item). one_if (p y)) xs)
any-counted p [] = refl
any-counted p (x ∷ xs) = by (p x) (any-counted p xs)
  where
    more : (n : ℕ) → true ≡ nat_lt 0 (1 + n)
    more n = grind (arith, nat_tests)

    same : (n : ℕ) → nat_lt 0 n ≡ nat_lt 0 (0 + n)
    same n = ap (nat_lt 0) (let e : n ≡ 0 + n = omega arith in e)

    by : (b : Bool) → list_any p xs ≡ nat_lt 0 (total (λ (y : Item). one_if (p y)) xs) → (b || list_any p xs) ≡ nat_lt 0 (one_if b + total (λ (y : Item). one_if (p y)) xs)
    by true ih = more (total (λ (y : Item). one_if (p y)) xs)
    by false ih = ih ∙ same (total (λ (y : Item). one_if (p y)) xs)

among-held : (s : StoreOf) (terms : List RdfTerm) (xs : List Item) (x : Item) → AreItemsOf s terms xs → is_among xs x ≡ is_held x s.direct.state
among-held s terms xs x h =
    any-counted (λ (y : Item). is_item y x) xs
    ∙ ap (nat_lt 0) (h.same_items.totals (λ (y : Item). one_if (is_item y x)) ∙ count-held s.direct h.good.sides.direct x)
    ∙ by (is_held x s.direct.state)
  where
    by : (b : Bool) → nat_lt 0 (one_if b) ≡ b
    by true = refl
    by false = refl

count-found : (s : StoreOf) (terms : List RdfTerm) (xs : List Item) → AreItemsOf s terms xs → length xs ≡ length (stored_triples s)
count-found s terms xs h = same-length xs (items s.direct.state) h.same_items ∙ sym (total-one_each (items s.direct.state)) ∙ count-is s

-- ---- one triple more

noted-terms : (s : StoreOf) (t : RdfTriple) (terms new : List RdfTerm) (xs : List Item) → AreItemsOf s terms xs → new ≡ with_terms terms t → new ≡ with_terms s.terms t
noted-terms s t terms new xs h e = e ∙ ap (λ (l : List RdfTerm). with_terms l t) h.same_terms

found-there : (s : StoreOf) (t : RdfTriple) (terms new : List RdfTerm) (xs : List Item) (ids : IdTriple) (x : Item) → AreItemsOf s terms xs → IsTriple t → new ≡ with_terms terms t → HaveIds new t ids → x ≡ item_of ids → is_among xs x ≡ is_stored s t
found-there s t terms new xs ids x h form e k is =
    ap (is_among xs) is ∙ among-held s terms xs (item_of ids) h ∙ noted-held s t new ids h.good form (noted-terms s t terms new xs h e) k

pub found-again : (t : RdfTriple) (terms new : List RdfTerm) (xs : List Item) (ids : IdTriple) (x : Item) → IsTriple t → new ≡ with_terms terms t → HaveIds new t ids → x ≡ item_of ids → is_among xs x ≡ true
    → (s : StoreOf) → AreItemsOf s terms xs → xs ≡ with_found s t xs
found-again t terms new xs ids x form e k is there s h =
    let a : is_stored s t ≡ true = sym (found-there s t terms new xs ids x h form e k is) ∙ there in
    rw a refl

pub found-new : (t : RdfTriple) (terms new : List RdfTerm) (xs ys : List Item) (ids : IdTriple) (x : Item) → IsTriple t → new ≡ with_terms terms t → HaveIds new t ids → x ≡ item_of ids → is_among xs x ≡ false → ys ≡ xs ++ x ∷ []
    → (s : StoreOf) → AreItemsOf s terms xs → ys ≡ with_found s t xs
found-new t terms new xs ys ids x form e k is free made s h =
    let a : is_stored s t ≡ false = sym (found-there s t terms new xs ids x h form e k is) ∙ free in
    let b : x ≡ item_in (with_terms s.terms t) t = is ∙ noted-item s t new ids h.good form (noted-terms s t terms new xs h e) k in
    made ∙ ap (λ (y : Item). xs ++ y ∷ []) b ∙ ap (λ (c : Bool). if c then xs else xs ++ item_in (with_terms s.terms t) t ∷ []) (sym a)

true-false : (b : Bool) → b ≡ true → b ≡ false → ⊥
true-false b e f = cc

pub space-there : (t : RdfTriple) (terms new : List RdfTerm) (xs : List Item) (ids : IdTriple) (x : Item) → IsTriple t → new ≡ with_terms terms t → HaveIds new t ids → x ≡ item_of ids → is_among xs x ≡ true
    → (s : StoreOf) → AreItemsOf s terms xs → HasSpace s t
space-there t terms new xs ids x form e k is there s h = λ free. absurd (true-false (is_stored s t) (sym (found-there s t terms new xs ids x h form e k is) ∙ there) free)

pub space-new : (t : RdfTriple) (terms : List RdfTerm) (xs : List Item) → length xs < 1000000 → length (with_terms terms t) ≤ 4000000 → (s : StoreOf) → AreItemsOf s terms xs → HasSpace s t
space-new t terms xs few fits s h = λ free.
    let n = count-found s terms xs h in
    let m : length (with_terms terms t) ≡ length (with_terms s.terms t) = ap (λ (l : List RdfTerm). length (with_terms l t)) h.same_terms in
    ((omega arith), (omega arith))

pub refused-full : (t : RdfTriple) (terms new : List RdfTerm) (xs : List Item) (ids : IdTriple) (x : Item) → IsTriple t → new ≡ with_terms terms t → HaveIds new t ids → x ≡ item_of ids → is_among xs x ≡ false → 1000000 ≤ length xs
    → (s : StoreOf) → AreItemsOf s terms xs → Refuses Triples s t
refused-full t terms new xs ids x form e k is free full s h = (sym (found-there s t terms new xs ids x h form e k is) ∙ free, is-full s (length xs) full (count-found s terms xs h))

pub refused-terms : (t : RdfTriple) (terms : List RdfTerm) (xs : List Item) (e : StoreRefusal) (full : Bool) → length terms ≤ 4000000 → (e ≢ NoMemory → (e ≡ (if full then Triples else Terms)) × (4000000 < length (with_terms terms t)))
    → full ≡ nat_le 1000000 (length xs) → (s : StoreOf) → AreItemsOf s terms xs → Refuses e s t
refused-terms t terms xs e full few passes is s h =
    let n : length terms ≡ length s.terms = ap (λ (l : List RdfTerm). length l) h.same_terms in
    let m : length (with_terms terms t) ≡ length (with_terms s.terms t) = ap (λ (l : List RdfTerm). length (with_terms l t)) h.same_terms in
    refused-book s t e full (length xs) h.good (omega arith) (λ q. let p = passes q in let l = p.1 in (p.0, omega arith)) is (count-found s terms xs h)

-- ---- the terms grow

heads : (a b : RdfTriple) (us vs : List RdfTriple) → a ∷ us ≡ b ∷ vs → a ≡ b
heads a b us vs e = cc

tails : (a b : RdfTriple) (us vs : List RdfTriple) → a ∷ us ≡ b ∷ vs → us ≡ vs
tails a b us vs e = cc

each-same : (f g : Item → RdfTriple) (xs : List Item) → map f xs ≡ map g xs → AllByRecursion (λ (x : Item). f x ≡ g x) xs
each-same f g [] e = tt
each-same f g (x ∷ xs) e = (heads (f x) (g x) (map f xs) (map g xs) e, each-same f g xs (tails (f x) (g x) (map f xs) (map g xs) e))

same-each : (f g : Item → RdfTriple) (xs : List Item) → AllByRecursion (λ (x : Item). f x ≡ g x) xs → map f xs ≡ map g xs
same-each f g [] a = refl
same-each f g (x ∷ xs) a = λ i. a.0 i ∷ same-each f g xs a.1 i

grown : (s : StoreOf) (t : RdfTriple) (terms : List RdfTerm) (xs : List Item) → AreItemsOf s terms xs → IsTriple t → map (triple_by (with_terms s.terms t)) xs ≡ map (triple_by s.terms) xs
grown s t terms xs h form =
    same-each (triple_by (with_terms s.terms t)) (triple_by s.terms) xs
    (each-bag_item (λ (x : Item). triple_by (with_terms s.terms t) x ≡ triple_by s.terms x) xs (items s.direct.state) h.same_items
    (each-same (triple_by (with_terms s.terms t)) (triple_by s.terms) (items s.direct.state) (stored-grown s t h.good form)))

-- ---- a turn of the loop

of-gathers : (seen : List RdfTriple) (terms : List RdfTerm) (xs : List Item) (g : Gathers seen terms xs) → AreItemsOf g.store terms xs
of-gathers seen terms xs g = record { good = g.put.store; same_terms = g.same_terms; same_items = g.same_items }

room-of : (start s : StoreOf) (seen : List RdfTriple) (t : RdfTriple) → ArePutInTurn start seen s → HasSpace s t → put_of (is_stored s t) ≡ Added → HasRoom s t
room-of start s seen t h space = by (is_stored s t) space
  where
    by : (b : Bool) → (b ≡ false → (length (stored_triples s) < 1000000) × (length (with_terms s.terms t) ≤ 4000000)) → put_of b ≡ Added → HasRoom s t
    by true k e = cc
    by false k e =
        let r = k refl in
        record {
          triples = r.0;
          terms = r.1;
          direct = (let p = (next-placed s.direct.columns.count (candidates_of s.direct.columns t.p.text) (item_in (with_terms s.terms t) t) s.direct.state).1 in let l = h.direct_ids in let few = h.few in omega arith);
          reverse = (let p = (next-placed s.reverse.columns.count (candidates_of s.reverse.columns t.p.text) (turned (item_in (with_terms s.terms t) t)) s.reverse.state).1 in let l = h.reverse_ids in let few = h.few in omega arith);
        }

found-bag : (s : StoreOf) (t : RdfTriple) (terms : List RdfTerm) (xs ys : List Item) → AreItemsOf s terms xs → IsTriple t → ys ≡ with_found s t xs → SameBag ys (items (stored_in s t).direct.state)
found-bag s t terms xs ys h form made = by (is_stored s t) refl made
  where
    item : Item
    item = item_in (with_terms s.terms t) t

    by : (b : Bool) → is_stored s t ≡ b → ys ≡ (if b then xs else xs ++ item ∷ []) → SameBag ys (items (stored_in s t).direct.state)
    by true e m = subst (λ (w : StoreOf). SameBag ys (items w.direct.state)) (sym (there-unchanged s t h.good form e)) (subst (λ (l : List Item). SameBag l (items s.direct.state)) (sym m) h.same_items)
    by false e m =
        let placed : SameBag (items (stored_in s t).direct.state) (item ∷ items s.direct.state) = placed-bag (sides_of s) t.p.text item h.good.sides (held-in s t h.good form ∙ e) in
        subst (λ (l : List Item). SameBag l (items (stored_in s t).direct.state)) (sym m)
        (same-trans (same-append_comm xs (item ∷ []))
        (same-trans (same-append (item ∷ []) (item ∷ []) xs (items s.direct.state) (same-refl (item ∷ [])) h.same_items) (turn placed)))
      where
        turn : SameBag (items (stored_in s t).direct.state) (item ∷ items s.direct.state) → SameBag (item ∷ items s.direct.state) (items (stored_in s t).direct.state)
        turn p = record { totals = λ (g : Item → ℕ). sym (p.totals g) }

found-order : (start s : StoreOf) (seen : List RdfTriple) (t : RdfTriple) (terms new : List RdfTerm) (xs ys : List Item) → ArePutInTurn start seen s → AreItemsOf s terms xs → IsTriple t → new ≡ with_terms terms t → ys ≡ with_found s t xs
    → map (triple_by terms) xs ≡ each_once seen → map (triple_by new) ys ≡ each_once (seen ++ t ∷ [])
found-order start s seen t terms new xs ys load h form e made order =
    ap (λ (l : List RdfTerm). map (triple_by l) ys) (noted-terms s t terms new xs h e) ∙ by (is_stored s t) refl made ∙ sym (once-more seen t)
  where
    item : Item
    item = item_in (with_terms s.terms t) t

    before : map (triple_by s.terms) xs ≡ each_once seen
    before = ap (λ (l : List RdfTerm). map (triple_by l) xs) (sym h.same_terms) ∙ order

    after : map (triple_by (with_terms s.terms t)) xs ≡ each_once seen
    after = grown s t terms xs h form ∙ before

    by : (b : Bool) → is_stored s t ≡ b → ys ≡ (if b then xs else xs ++ item ∷ []) → map (triple_by (with_terms s.terms t)) ys ≡ (if list_any (same_triple t) (each_once seen) then each_once seen else each_once seen ++ t ∷ [])
    by true q m =
        let a : list_any (same_triple t) (each_once seen) ≡ true = seen-same start s seen t load ∙ q in
        ap (map (triple_by (with_terms s.terms t))) m ∙ after ∙ ap (λ (c : Bool). if c then each_once seen else each_once seen ++ t ∷ []) (sym a)
    by false q m =
        let a : list_any (same_triple t) (each_once seen) ≡ false = seen-same start s seen t load ∙ q in
        ap (map (triple_by (with_terms s.terms t))) m ∙ map_push (triple_by (with_terms s.terms t)) xs item
        ∙ ap (λ (l : List RdfTriple). l ++ triple_by (with_terms s.terms t) item ∷ []) after
        ∙ ap (λ (u : RdfTriple). each_once seen ++ u ∷ []) (triple-there (with_terms s.terms t) t (terms-noted s.terms t))
        ∙ ap (λ (c : Bool). if c then each_once seen else each_once seen ++ t ∷ []) (sym a)

pub gathers-on : (ts : List RdfTriple) (i : ℕ) (t : RdfTriple) (terms new : List RdfTerm) (xs ys : List Item) → i < length ts → t ≡ get_or ts i t → Gathers (take i ts) terms xs → IsTriple t → new ≡ with_terms terms t
    → ((s : StoreOf) → AreItemsOf s terms xs → ys ≡ with_found s t xs) → ((s : StoreOf) → AreItemsOf s terms xs → HasSpace s t) → Gathers (take (i + 1) ts) new ys
gathers-on ts i t terms new xs ys l e g form noted found space =
    let s : StoreOf = g.store in
    let h = of-gathers (take i ts) terms xs g in
    record {
      start = g.start;
      store = stored_in s t;
      put = put-on g.start s (stored_in s t) ts i t (put_of (is_stored s t)) l e g.put form refl (room-of g.start s (take i ts) t g.put (space s h)) refl;
      same_terms = noted-terms s t terms new xs h noted;
      same_items = found-bag s t terms xs ys h form (found s h);
      order = found-order g.start s (take i ts) t terms new xs ys g.put h form noted (found s h) g.order ∙ ap each_once (sym (taken-on ts i t l e));
    }

pub gathers-refusal : (ts : List RdfTriple) (i : ℕ) (t : RdfTriple) (terms : List RdfTerm) (xs : List Item) → i < length ts → t ≡ get_or ts i t → Gathers (take i ts) terms xs → ((s : StoreOf) → AreItemsOf s terms xs → HasSpace s t)
    → refusal_from [] ts ≡ refusal_from (take i ts) (drop i ts) → refusal_from [] ts ≡ refusal_from (take (i + 1) ts) (drop (i + 1) ts)
gathers-refusal ts i t terms xs l e g space before =
    let s : StoreOf = g.store in
    refusal-on g.start s ts i t (put_of (is_stored s t)) l e g.put refl (room-of g.start s (take i ts) t g.put (space s (of-gathers (take i ts) terms xs g))) before

pub gathers-refused : (ts : List RdfTriple) (i : ℕ) (t : RdfTriple) (terms : List RdfTerm) (xs : List Item) (r : StoreRefusal) → i < length ts → t ≡ get_or ts i t → Gathers (take i ts) terms xs → ((s : StoreOf) → AreItemsOf s terms xs → Refuses r s t)
    → refusal_from [] ts ≡ refusal_from (take i ts) (drop i ts) → r ≢ NoMemory → refusal_from [] ts ≡ Some r
gathers-refused ts i t terms xs r l e g refuses before n = refused-on g.start g.store ts i t r l e g.put (refuses g.store (of-gathers (take i ts) terms xs g)) before n

-- ---- nothing gathered yet

-- some layout
abbrev plain : ColumnsOf
plain = record { count = 1; hashes = 1; known = [] }

plain-sides : AreSides (empty_sides (record { direct = plain; reverse = plain }))
plain-sides = sides-empty (empty_sides (record { direct = plain; reverse = plain })) refl refl sound sound (λ iri. (some iri).some) (λ iri. (some iri).some) (λ iri. first-below 1 (candidates_of plain iri) (some iri)) (λ iri. first-below 1 (candidates_of plain iri) (some iri))
  where
    sound : IsSound 1 (record { entities = []; lists = []; next = 0 })
    sound = record { rows = tt; lists = tt; named = λ n. refl; apart = λ n. omega arith; below = λ n h. refl }

    none : All (λ (p : List ℕ × ℕ). p.1 < 1) []
    none = λ (i : ℕ) (z : List ℕ × ℕ) (h : i < 0). absurd (omega arith)

    some : (iri : List ℕ) → AreCandidates 1 (candidates_of plain iri)
    some iri = candidates plain iri (omega arith) (omega arith) none

pub gathers-none : (terms : List RdfTerm) (xs : List Item) → terms ≡ [] → xs ≡ [] → Gathers [] terms xs
gathers-none terms xs e f =
    let start : StoreOf = empty_store (record { direct = plain; reverse = plain }) in
    record {
      start = start;
      store = start;
      put = put-none (record { direct = plain; reverse = plain }) plain-sides;
      same_terms = e;
      same_items = subst (λ (l : List Item). SameBag l []) (sym f) (same-refl []);
      order = ap (map (triple_by terms)) f;
    }

-- ---- all gathered

item-back : (s : StoreOf) (x : Item) → IsStore s → IsItem s.terms x → item_in s.terms (triple_by s.terms x) ≡ x
item-back s x h k =
    let a = term_at-id s.terms x.entity h.distinct k.entity in
    let b = term_at-id s.terms x.pred h.distinct k.pred in
    let c = term_at-id s.terms x.value h.distinct k.value in
    λ i. record { entity = a i; pred = b i; value = c i }

items-back : (s : StoreOf) (xs : List Item) → IsStore s → AllByRecursion (IsItem s.terms) xs → map (item_in s.terms) (map (triple_by s.terms) xs) ≡ xs
items-back s [] h a = refl
items-back s (x ∷ xs) h a = λ i. item-back s x h a.0 i ∷ items-back s xs h a.1 i

pub gathered-stored : (seen : List RdfTriple) (terms : List RdfTerm) (xs : List Item) → Gathers seen terms xs → AreStored terms xs
gathered-stored seen terms xs g = record { store = g.store; held = of-gathers seen terms xs g }

pub gathered-terms : (seen : List RdfTriple) (terms : List RdfTerm) (xs : List Item) → Gathers seen terms xs → terms ≡ terms_of seen
gathered-terms seen terms xs g = g.same_terms ∙ g.put.terms

pub gathered-items : (seen : List RdfTriple) (terms : List RdfTerm) (xs : List Item) → Gathers seen terms xs → xs ≡ bulk_items seen
gathered-items seen terms xs g =
    let s : StoreOf = g.store in
    let each : AllByRecursion (IsItem s.terms) xs = each-bag_item (IsItem s.terms) xs (items s.direct.state) g.same_items g.put.store.each_item in
    let order : map (triple_by s.terms) xs ≡ each_once seen = ap (λ (l : List RdfTerm). map (triple_by l) xs) (sym g.same_terms) ∙ g.order in
    sym (items-back s xs g.put.store each) ∙ ap (map (item_in s.terms)) order ∙ ap (λ (l : List RdfTerm). map (item_in l) (each_once seen)) g.put.terms

-- the items of the reverse side
pub turned-items : (xs : List Placed) → map placed.item_of (map turned_placed xs) ≡ map turned (map placed.item_of xs)
turned-items [] = refl
turned-items (x ∷ xs) = ap (λ (l : List Item). turned (placed.item_of x) ∷ l) (turned-items xs)

-- ---- both sides of a bulk

pred-ids : (terms : List RdfTerm) (xs : List Item) → AreStored terms xs → AllByRecursion (λ (x : Item). IsIdIn terms x.pred) xs
pred-ids terms xs h =
    let s : StoreOf = h.store in
    let each : AllByRecursion (IsItem s.terms) xs = each-bag_item (IsItem s.terms) xs (items s.direct.state) h.held.same_items h.held.good.each_item in
    subst (λ (l : List RdfTerm). AllByRecursion (λ (x : Item). IsIdIn l x.pred) xs) (sym h.held.same_terms)
    (each-weaker (IsItem s.terms) (λ (x : Item). IsIdIn s.terms x.pred) (λ (x : Item) (k : IsItem s.terms x). k.pred) xs each)

pub direct-ids : (terms : List RdfTerm) (ps : List Placed) → AreStored terms (map placed.item_of ps) → AllByRecursion (λ (x : Item). IsIdIn terms x.pred) (map placed.item_of ps)
direct-ids terms ps h = pred-ids terms (map placed.item_of ps) h

pub reverse-ids : (terms : List RdfTerm) (ps : List Placed) → AreStored terms (map placed.item_of ps) → AllByRecursion (λ (x : Item). IsIdIn terms x.pred) (map placed.item_of (map turned_placed ps))
reverse-ids terms ps h =
    subst (λ (xs : List Item). AllByRecursion (λ (x : Item). IsIdIn terms x.pred) xs) (sym (turned-items ps))
    (each-map (λ (x : Item). IsIdIn terms x.pred) turned (map placed.item_of ps) (pred-ids terms (map placed.item_of ps) h))

-- both sides as they are made
pub sides-made : (terms : List RdfTerm) (ps qs : List Placed) (direct reverse : SideOf) → qs ≡ map turned_placed ps → direct ≡ bulk_side direct.columns (text_of_id terms) (map placed.item_of ps)
    → reverse ≡ bulk_side reverse.columns (text_of_id terms) (map placed.item_of qs)
    → record { direct = direct; reverse = reverse } ≡ bulk_sides (record { direct = direct.columns; reverse = reverse.columns }) terms (map placed.item_of ps)
sides-made terms ps qs direct reverse q d r =
    let e : reverse ≡ bulk_side reverse.columns (text_of_id terms) (map turned (map placed.item_of ps)) =
    r ∙ ap (λ (xs : List Item). bulk_side reverse.columns (text_of_id terms) xs) (ap (map placed.item_of) q ∙ turned-items ps) in
    λ i. record { direct = d i; reverse = e i }

made-store : (layout : LayoutOf) (terms : List RdfTerm) (xs : List Item) → BulksAreStores → HaveCandidates layout.direct → HaveCandidates layout.reverse → AreStored terms xs → IsStore (store_of terms (bulk_sides layout terms xs))
made-store layout terms xs law d r h =
    subst (λ (l : List RdfTerm). IsStore (store_of l (bulk_sides layout l xs))) (sym h.held.same_terms) (law layout h.store xs d r h.held.good h.held.same_items)

made-triples : (layout : LayoutOf) (terms : List RdfTerm) (xs : List Item) → BulksHoldTheirItems → HaveCandidates layout.direct → HaveCandidates layout.reverse → AreStored terms xs
    → SameBag (stored_triples (store_of terms (bulk_sides layout terms xs))) (map (triple_by terms) xs)
made-triples layout terms xs law d r h =
    let s : StoreOf = h.store in
    subst (λ (l : List RdfTerm). SameBag (stored_triples (store_of l (bulk_sides layout l xs))) (map (triple_by l) xs)) (sym h.held.same_terms)
    (same-trans (law layout s xs d r h.held.good h.held.same_items) (same-map (triple_by s.terms) (items s.direct.state) xs (same-sym h.held.same_items)))

-- what holds of them
pub record MadeSides (terms : List RdfTerm) (ps : List Placed) (sides : SidesOf) : Type 0 where
  pub made : sides ≡ bulk_sides (layout_of (store_of terms sides)) terms (map placed.item_of ps)
  pub store : IsStore (store_of terms sides)
  pub triples : SameBag (stored_triples (store_of terms sides)) (map (triple_by terms) (map placed.item_of ps))
  pub in_order : AreInOrder sides

pub made-sides : (terms : List RdfTerm) (ps qs : List Placed) (direct reverse : SideOf) → BulksAreStores → BulksHoldTheirItems → BulksAreInOrder → AreStored terms (map placed.item_of ps) → qs ≡ map turned_placed ps
    → direct ≡ bulk_side direct.columns (text_of_id terms) (map placed.item_of ps) → reverse ≡ bulk_side reverse.columns (text_of_id terms) (map placed.item_of qs)
    → HaveCandidates direct.columns → HaveCandidates reverse.columns → MadeSides terms ps (record { direct = direct; reverse = reverse })
made-sides terms ps qs direct reverse stores hold ordered h q d r a b =
    let layout : LayoutOf = record { direct = direct.columns; reverse = reverse.columns } in
    let sides : SidesOf = record { direct = direct; reverse = reverse } in
    let e : sides ≡ bulk_sides layout terms (map placed.item_of ps) = sides-made terms ps qs direct reverse q d r in
    record {
      made = e;
      store = subst (λ (w : SidesOf). IsStore (store_of terms w)) (sym e) (made-store layout terms (map placed.item_of ps) stores a b h);
      triples = subst (λ (w : SidesOf). SameBag (stored_triples (store_of terms w)) (map (triple_by terms) (map placed.item_of ps))) (sym e) (made-triples layout terms (map placed.item_of ps) hold a b h);
      in_order = subst AreInOrder (sym e) (ordered layout terms (map placed.item_of ps));
    }

-- the columns of both sides are those for their items
pub made-layout : (choice : ChoiceOf) (terms : List RdfTerm) (ps qs : List Placed) (direct reverse : SideOf) (greedy : Bool) (first second : ColumnsOf) → greedy ≡ choice.greedy → first ≡ choice.direct → second ≡ choice.reverse
    → qs ≡ map turned_placed ps → AreColumnsFor greedy first (text_of_id terms) (map placed.item_of ps) direct.columns → AreColumnsFor greedy second (text_of_id terms) (map placed.item_of qs) reverse.columns
    → IsLayoutFor choice terms (map placed.item_of ps) (layout_of (store_of terms (record { direct = direct; reverse = reverse })))
made-layout choice terms ps qs direct reverse greedy first second g f e q d r = record {
  direct = subst (λ (b : Bool). AreColumnsFor b choice.direct (text_of_id terms) (map placed.item_of ps) direct.columns) g
      (subst (λ (k : ColumnsOf). AreColumnsFor greedy k (text_of_id terms) (map placed.item_of ps) direct.columns) f d);
  reverse = subst (λ (b : Bool). AreColumnsFor b choice.reverse (text_of_id terms) (map turned (map placed.item_of ps)) reverse.columns) g
      (subst (λ (k : ColumnsOf). AreColumnsFor greedy k (text_of_id terms) (map turned (map placed.item_of ps)) reverse.columns) e
      (subst (λ (xs : List Item). AreColumnsFor greedy second (text_of_id terms) xs reverse.columns) (ap (map placed.item_of) q ∙ turned-items ps) r));
}

-- ---- the whole load

pub loaded-placed : (seen : List RdfTriple) (terms : List RdfTerm) (xs : List Item) (sides : SidesOf) → Gathers seen terms xs → sides ≡ bulk_sides (layout_of (store_of terms sides)) terms xs → store_of terms sides ≡ bulk_store (layout_of (store_of terms sides)) seen
loaded-placed seen terms xs sides g e =
    ap (store_of terms) e
    ∙ (λ i. store_of (gathered-terms seen terms xs g i) (bulk_sides (layout_of (store_of terms sides)) (gathered-terms seen terms xs g i) (gathered-items seen terms xs g i)))

pub loaded-for : (choice : ChoiceOf) (seen : List RdfTriple) (terms : List RdfTerm) (xs : List Item) (layout : LayoutOf) → Gathers seen terms xs → IsLayoutFor choice terms xs layout → IsLayoutFor choice (terms_of seen) (bulk_items seen) layout
loaded-for choice seen terms xs layout g h =
    subst (λ (l : List RdfTerm). IsLayoutFor choice l (bulk_items seen) layout) (gathered-terms seen terms xs g)
    (subst (λ (ys : List Item). IsLayoutFor choice terms ys layout) (gathered-items seen terms xs g) h)

pub loaded-triples : (seen : List RdfTriple) (terms : List RdfTerm) (xs : List Item) (s : StoreOf) → Gathers seen terms xs → SameBag (stored_triples s) (map (triple_by terms) xs) → SameBag (stored_triples s) (each_once seen)
loaded-triples seen terms xs s g h = subst (λ (ts : List RdfTriple). SameBag (stored_triples s) ts) g.order h

pub side-columns : (s : SideOf) (columns : ColumnsOf) (iri_of : ℕ → List ℕ) (xs : List Item) → s ≡ bulk_side columns iri_of xs → s.columns ≡ columns
side-columns s columns iri_of xs e = ap (λ (w : SideOf). w.columns) e
