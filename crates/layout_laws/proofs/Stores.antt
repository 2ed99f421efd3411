-- The store of changes is a store of the triples that are present.
use Rattle.std.proofs.Common.{◌≡◌, ℕ, Bool, true, false, if◌then◌else◌, List, [], ◌∷◌, ◌++◌, map, fold, append-nil, append_assoc, refl, sym, ◌∙◌, arith, subst}
use Rattle.std.specs.List.{AllByRecursion, IsDistinct}
use Rattle.bags.specs.Bag.{SameBag}
use Rattle.bags.specs.BagLaws.{same-refl, same-sym, same-trans, same-map, same-append, same-any, same-rest}
use Rattle.rdf_meaning.specs.Terms.{RdfTerm, RdfTriple, same_term, same_triple}
use Rattle.line_change_meaning.specs.declared.change.Change.{Change}
use Rattle.line_change_meaning.specs.declared.change.Change.TheVariants.{Add, Delete}
use Rattle.line_change_meaning.specs.Present.{named, bulk, is_present, present}
use Rattle.line_change_laws.proofs.Present.{present_members, present_added, present_deleted, adds_present}
use Rattle.layout_meaning.specs.Side.{Item, items}
use Rattle.layout_meaning.specs.Sound.{IsSound}
use Rattle.layout_standing_meaning.specs.Dictionary.{IsTriple}
use Rattle.layout_standing_meaning.specs.Schemas.{LayoutOf}
use Rattle.layout_standing_meaning.specs.Stored.{StoreOf, IsStore, IsItem, sides_of, triple_by, stored_triples}
use Rattle.layout_standing_meaning.specs.Changes.{item_in, store_of, is_stored, stored_in, taken_out}
use Rattle.layout_standing_meaning.proofs.Steps.{sides-empty}
use Rattle.layout_standing_meaning.proofs.Terms.{term_at-id}
use Rattle.layout_standing_meaning.proofs.Changed.{store-in, triples-in, store-out, triples-out}
use Rattle.layout_bulk_meaning.specs.Bulk.{empty_side}
use Rattle.layout_bulk_laws.specs.BulkStore.{each_once, terms_of, bulk_items, bulk_sides, bulk_store}
use Rattle.layout_bulk_laws.proofs.Bulks.{bulks_are_stores, bulks_hold}
use Rattle.layout_placed_meaning.specs.Placed.{changed_in, later_changes, placed_store}
use Rattle.layout_placed_laws.proofs.Steps.{parts, bulk-terms, fold-terms}
use Rattle.layout_laws.proofs.Columns.{HasCandidates}

-- a store that holds what is present after changes
pub record Holds (s : StoreOf) (changes : List Change) : Type 0 where
  pub good : IsStore s
  pub same : SameBag (stored_triples s) (present changes)

-- ---- one change more

stored-present : (s : StoreOf) (before : List Change) (t : RdfTriple) → SameBag (stored_triples s) (present before) → is_stored s t ≡ is_present before t
stored-present s before t same = same-any (same_triple t) (stored_triples s) (present before) same ∙ present_members before t

with-first : (t : RdfTriple) (xs ys : List RdfTriple) → SameBag xs ys → SameBag (t ∷ xs) (t ∷ ys)
with-first t xs ys h = same-append (t ∷ []) (t ∷ []) xs ys (same-refl (t ∷ [])) h

holds-next : (s : StoreOf) (before : List Change) (c : Change) → IsTriple (named c) → Holds s before → Holds (changed_in s c) (before ++ c ∷ [])
holds-next s before (Add t) form h = record {
  good = store-in s t h.good form;
  same = by (is_present before t) (subst (λ (b : Bool). SameBag (stored_triples (stored_in s t)) (if b then stored_triples s else t ∷ stored_triples s)) (stored-present s before t h.same) (triples-in s t h.good form)) (present_added before t);
}
  where
    by : (b : Bool) → SameBag (stored_triples (stored_in s t)) (if b then stored_triples s else t ∷ stored_triples s) → SameBag (present (before ++ Add t ∷ [])) (if b then present before else t ∷ present before)
        → SameBag (stored_triples (stored_in s t)) (present (before ++ Add t ∷ []))
    by true m k = same-trans m (same-trans h.same (same-sym k))
    by false m k = same-trans m (same-trans (with-first t (stored_triples s) (present before) h.same) (same-sym k))
holds-next s before (Delete t) form h = record {
  good = store-out s t h.good;
  same = by (is_present before t) (subst (λ (b : Bool). SameBag (if b then t ∷ stored_triples (taken_out s t) else stored_triples (taken_out s t)) (stored_triples s)) (stored-present s before t h.same) (triples-out s t h.good)) (present_deleted before t);
}
  where
    by : (b : Bool) → SameBag (if b then t ∷ stored_triples (taken_out s t) else stored_triples (taken_out s t)) (stored_triples s)
        → SameBag (if b then t ∷ present (before ++ Delete t ∷ []) else present (before ++ Delete t ∷ [])) (present before)
        → SameBag (stored_triples (taken_out s t)) (present (before ++ Delete t ∷ []))
    by true m k = same-rest t (stored_triples (taken_out s t)) (present (before ++ Delete t ∷ [])) (same-trans m (same-trans h.same (same-sym k)))
    by false m k = same-trans m (same-trans h.same (same-sym k))

abbrev pub AreForms : List Change → Type 0
AreForms changes = AllByRecursion (λ (c : Change). IsTriple (named c)) changes

holds-all : (s : StoreOf) (before changes : List Change) → AreForms changes → Holds s before → Holds (fold changed_in s changes) (before ++ changes)
holds-all s before [] forms h = subst (Holds s) (sym (append-nil before)) h
holds-all s before (c ∷ changes) forms h =
    subst (Holds (fold changed_in (changed_in s c) changes)) (append_assoc before (c ∷ []) changes) (holds-all (changed_in s c) (before ++ c ∷ []) changes forms.1 (holds-next s before c forms.0 h))

-- ---- the triples of a bulk, one by one

abbrev start : LayoutOf → StoreOf
start layout = record { terms = []; direct = empty_side layout.direct; reverse = empty_side layout.reverse }

sound : (k : ℕ) → IsSound k (record { entities = []; lists = []; next = 0 })
sound k = record { rows = tt; lists = tt; named = λ n. refl; apart = λ n. omega arith; below = λ n h. refl }

none-distinct : IsDistinct same_term []
unfolding IsDistinct
none-distinct = tt

start-holds : (layout : LayoutOf) → HasCandidates layout → Holds (start layout) []
start-holds layout h = record {
  good = record {
    sides = sides-empty (sides_of (start layout)) refl refl (sound layout.direct.count) (sound layout.reverse.count) h.direct.some h.reverse.some h.direct.first h.reverse.first;
    direct_names = record { rows = tt };
    reverse_names = record { rows = tt };
    distinct = none-distinct;
    forms = tt;
    each_item = tt;
  };
  same = same-refl [];
}

abbrev in_turn : LayoutOf → List RdfTriple → StoreOf
in_turn layout triples = fold changed_in (start layout) (map Add triples)

adds-forms : (triples : List RdfTriple) → AllByRecursion IsTriple triples → AreForms (map Add triples)
adds-forms [] a = tt
adds-forms (t ∷ triples) a = (a.0, adds-forms triples a.1)

turn-holds : (layout : LayoutOf) (triples : List RdfTriple) → HasCandidates layout → AllByRecursion IsTriple triples → Holds (in_turn layout triples) (map Add triples)
turn-holds layout triples h forms = holds-all (start layout) [] (map Add triples) (adds-forms triples forms) (start-holds layout h)

turn-terms : (layout : LayoutOf) (triples : List RdfTriple) → (in_turn layout triples).terms ≡ terms_of triples
turn-terms layout triples = fold-terms (start layout) (map Add triples) ∙ sym (bulk-terms [] triples)

-- ---- at once

item-back : (s : StoreOf) (x : Item) → IsStore s → IsItem s.terms x → item_in s.terms (triple_by s.terms x) ≡ x
item-back s x h k =
    let a = term_at-id s.terms x.entity h.distinct k.entity in
    let b = term_at-id s.terms x.pred h.distinct k.pred in
    let c = term_at-id s.terms x.value h.distinct k.value in
    λ i. record { entity = a i; pred = b i; value = c i }

items-back : (s : StoreOf) (xs : List Item) → IsStore s → AllByRecursion (IsItem s.terms) xs → map (item_in s.terms) (map (triple_by s.terms) xs) ≡ xs
items-back s [] h a = refl
items-back s (x ∷ xs) h a = λ i. item-back s x h a.0 i ∷ items-back s xs h a.1 i

once-stored : (layout : LayoutOf) (triples : List RdfTriple) → Holds (in_turn layout triples) (map Add triples) → SameBag (stored_triples (in_turn layout triples)) (each_once triples)
once-stored layout triples h = subst (SameBag (stored_triples (in_turn layout triples))) (adds_present triples) h.same

items-same : (layout : LayoutOf) (triples : List RdfTriple) → Holds (in_turn layout triples) (map Add triples) → SameBag (bulk_items triples) (items (in_turn layout triples).direct.state)
items-same layout triples h =
    let s = in_turn layout triples in
    let bag : SameBag (map (item_in s.terms) (each_once triples)) (map (item_in s.terms) (stored_triples s)) = same-map (item_in s.terms) (each_once triples) (stored_triples s) (same-sym (once-stored layout triples h)) in
    subst (λ (l : List RdfTerm). SameBag (map (item_in l) (each_once triples)) (items s.direct.state)) (turn-terms layout triples)
    (subst (SameBag (map (item_in s.terms) (each_once triples))) (items-back s (items s.direct.state) h.good h.good.each_item) bag)

bulk-holds : (layout : LayoutOf) (triples : List RdfTriple) → HasCandidates layout → AllByRecursion IsTriple triples → Holds (bulk_store layout triples) (map Add triples)
bulk-holds layout triples h forms =
    let s = in_turn layout triples in
    let held = turn-holds layout triples h forms in
    let same = items-same layout triples held in
    subst (λ (l : List RdfTerm). Holds (store_of l (bulk_sides layout l (bulk_items triples))) (map Add triples)) (turn-terms layout triples) (record {
      good = bulks_are_stores layout s (bulk_items triples) h.direct h.reverse held.good same;
      same = same-trans (bulks_hold layout s (bulk_items triples) h.direct h.reverse held.good same) held.same;
    })

-- ---- all changes

bulk-forms : (triples : List RdfTriple) → AreForms (map Add triples) → AllByRecursion IsTriple triples
bulk-forms [] a = tt
bulk-forms (t ∷ triples) a = (a.0, bulk-forms triples a.1)

front-forms : (xs ys : List Change) → AreForms (xs ++ ys) → AreForms xs × AreForms ys
front-forms [] ys a = (tt, a)
front-forms (x ∷ xs) ys a = let r = front-forms xs ys a.1 in ((a.0, r.0), r.1)

pub placed-holds : (layout : LayoutOf) (changes : List Change) → HasCandidates layout → AreForms changes → Holds (placed_store layout changes) changes
placed-holds layout changes h forms =
    let triples = map named (bulk changes) in
    let both = front-forms (map Add triples) (later_changes changes) (subst AreForms (sym (parts changes)) forms) in
    subst (Holds (placed_store layout changes)) (parts changes)
    (holds-all (bulk_store layout triples) (map Add triples) (later_changes changes) both.1 (bulk-holds layout triples h (bulk-forms triples both.0)))
