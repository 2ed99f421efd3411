-- The bulk, and the changes that are made one by one after it.
use Rattle.std.proofs.Common.{◌≡◌, suc, ◌+◌, ◌≤◌, List, [], ◌∷◌, ◌++◌, map, fold, length, append-nil, refl, sym, ap, ◌∙◌, arith}
use Rattle.std.proofs.lemmas.List.{length-append}
use Rattle.std.proofs.lemmas.List.Sums.{fold-append, take_while-cons}
use Rattle.rdf_meaning.specs.Terms.{RdfTerm, RdfTriple}
use Rattle.line_change_meaning.specs.declared.change.Change.{Change}
use Rattle.line_change_meaning.specs.declared.change.Change.TheVariants.{Add, Delete}
use Rattle.line_change_meaning.specs.Present.{named, is_no_delete, bulk}
use Rattle.layout_meaning.specs.Columns.{candidates_of}
use Rattle.layout_meaning.proofs.Changes.{next-placed, next-taken}
use Rattle.layout_standing_meaning.specs.Schemas.{LayoutOf}
use Rattle.layout_standing_meaning.specs.Sides.{turned}
use Rattle.layout_standing_meaning.specs.Stored.{StoreOf, layout_of}
use Rattle.layout_standing_meaning.specs.Changes.{with_terms, item_in}
use Rattle.layout_bulk_laws.specs.BulkStore.{bulk_store}
use Rattle.run_meaning.specs.Limits.{with_needed, terms_needed}
use Rattle.layout_placed_meaning.specs.Placed.{changed_in, later_changes, placed_store}
use Rattle.layout_placed_laws.proofs.BulkLists.{direct-ids, reverse-ids}

-- the bulk and the later changes
pub parts : (changes : List Change) → map Add (map named (bulk changes)) ++ later_changes changes ≡ changes
parts [] = refl
parts (Add t ∷ changes) =
    ap (λ (l : List Change). map Add (map named l) ++ later_changes changes) (take_while-cons is_no_delete (Add t) changes)
    ∙ ap (λ (l : List Change). Add t ∷ l) (parts changes)
parts (Delete t ∷ changes) = ap (λ (l : List Change). map Add (map named l) ++ Delete t ∷ changes) (take_while-cons is_no_delete (Delete t) changes)

-- the terms of a bulk are those that its additions need
pub bulk-terms : (terms : List RdfTerm) (triples : List RdfTriple) → fold with_terms terms triples ≡ fold with_needed terms (map Add triples)
bulk-terms terms [] = refl
bulk-terms terms (t ∷ triples) = bulk-terms (with_terms terms t) triples

-- what each change keeps
one-layout : (s : StoreOf) (c : Change) → layout_of (changed_in s c) ≡ layout_of s
one-layout s (Add t) = refl
one-layout s (Delete t) = refl

pub fold-layout : (s : StoreOf) (changes : List Change) → layout_of (fold changed_in s changes) ≡ layout_of s
fold-layout s [] = refl
fold-layout s (c ∷ changes) = fold-layout (changed_in s c) changes ∙ one-layout s c

one-terms : (s : StoreOf) (c : Change) → (changed_in s c).terms ≡ with_needed s.terms c
one-terms s (Add t) = refl
one-terms s (Delete t) = refl

pub fold-terms : (s : StoreOf) (changes : List Change) → (fold changed_in s changes).terms ≡ fold with_needed s.terms changes
fold-terms s [] = refl
fold-terms s (c ∷ changes) = fold-terms (changed_in s c) changes ∙ ap (λ (l : List RdfTerm). fold with_needed l changes) (one-terms s c)

pub store-terms : (layout : LayoutOf) (triples : List RdfTriple) (later : List Change) → (fold changed_in (bulk_store layout triples) later).terms ≡ terms_needed (map Add triples ++ later)
store-terms layout triples later =
    fold-terms (bulk_store layout triples) later
    ∙ ap (λ (l : List RdfTerm). fold with_needed l later) (bulk-terms [] triples)
    ∙ sym (fold-append with_needed [] (map Add triples) later)

-- each uses one list id at most
pub one-direct_id : (s : StoreOf) (c : Change) → (changed_in s c).direct.state.next ≤ s.direct.state.next + 1
one-direct_id s (Add t) = (next-placed s.direct.columns.count (candidates_of s.direct.columns t.p.text) (item_in (with_terms s.terms t) t) s.direct.state).1
one-direct_id s (Delete t) = let e = next-taken (item_in s.terms t) s.direct.state in omega (arith, e)

pub one-reverse_id : (s : StoreOf) (c : Change) → (changed_in s c).reverse.state.next ≤ s.reverse.state.next + 1
one-reverse_id s (Add t) = (next-placed s.reverse.columns.count (candidates_of s.reverse.columns t.p.text) (turned (item_in (with_terms s.terms t) t)) s.reverse.state).1
one-reverse_id s (Delete t) = let e = next-taken (turned (item_in s.terms t)) s.reverse.state in omega (arith, e)

pub fold-direct_id : (s : StoreOf) (changes : List Change) → (fold changed_in s changes).direct.state.next ≤ s.direct.state.next + length changes
fold-direct_id s [] = omega arith
fold-direct_id s (c ∷ changes) = let a = fold-direct_id (changed_in s c) changes in let b = one-direct_id s c in omega (arith, a, b)

pub fold-reverse_id : (s : StoreOf) (changes : List Change) → (fold changed_in s changes).reverse.state.next ≤ s.reverse.state.next + length changes
fold-reverse_id s [] = omega arith
fold-reverse_id s (c ∷ changes) = let a = fold-reverse_id (changed_in s c) changes in let b = one-reverse_id s c in omega (arith, a, b)

-- what holds of the store of all changes
pub placed-layout : (layout : LayoutOf) (changes : List Change) → layout_of (placed_store layout changes) ≡ layout
placed-layout layout changes = fold-layout (bulk_store layout (map named (bulk changes))) (later_changes changes)

pub placed-terms : (layout : LayoutOf) (changes : List Change) → (placed_store layout changes).terms ≡ terms_needed changes
placed-terms layout changes = store-terms layout (map named (bulk changes)) (later_changes changes) ∙ ap (λ (l : List Change). terms_needed l) (parts changes)

adds-length : (triples : List RdfTriple) → length (map Add triples) ≡ length triples
adds-length [] = refl
adds-length (t ∷ triples) = ap suc (adds-length triples)

parts-length : (changes : List Change) → length (map named (bulk changes)) + length (later_changes changes) ≡ length changes
parts-length changes =
    let a = adds-length (map named (bulk changes)) in
    let b = length-append (map Add (map named (bulk changes))) (later_changes changes) in
    let c : length (map Add (map named (bulk changes)) ++ later_changes changes) ≡ length changes = ap (λ (l : List Change). length l) (parts changes) in
    omega (arith, a, b, c)

pub placed-direct_ids : (layout : LayoutOf) (changes : List Change) → (placed_store layout changes).direct.state.next ≤ length changes
placed-direct_ids layout changes =
    let a = fold-direct_id (bulk_store layout (map named (bulk changes))) (later_changes changes) in
    let b = direct-ids layout (map named (bulk changes)) in
    let c = parts-length changes in
    omega (arith, a, b, c)

pub placed-reverse_ids : (layout : LayoutOf) (changes : List Change) → (placed_store layout changes).reverse.state.next ≤ length changes
placed-reverse_ids layout changes =
    let a = fold-reverse_id (bulk_store layout (map named (bulk changes))) (later_changes changes) in
    let b = reverse-ids layout (map named (bulk changes)) in
    let c = parts-length changes in
    omega (arith, a, b, c)

-- ---- what follows added triples

named-front : (triples : List RdfTriple) (rest : List Change) → bulk rest ≡ [] → map named (bulk (map Add triples ++ rest)) ≡ triples
named-front [] rest e = ap (λ (l : List Change). map named l) e
named-front (t ∷ triples) rest e =
    ap (λ (l : List Change). map named l) (take_while-cons is_no_delete (Add t) (map Add triples ++ rest)) ∙ ap (λ (l : List RdfTriple). t ∷ l) (named-front triples rest e)

later-front : (triples : List RdfTriple) (rest : List Change) → later_changes (map Add triples ++ rest) ≡ later_changes rest
later-front [] rest = refl
later-front (t ∷ triples) rest = later-front triples rest

behind : (layout : LayoutOf) (triples : List RdfTriple) (rest : List Change) → bulk rest ≡ [] → placed_store layout (map Add triples ++ rest) ≡ fold changed_in (bulk_store layout triples) (later_changes rest)
behind layout triples rest e = λ i. fold changed_in (bulk_store layout (named-front triples rest e i)) (later-front triples rest i)

pub nothing-behind : (layout : LayoutOf) (triples : List RdfTriple) → placed_store layout (map Add triples) ≡ bulk_store layout triples
nothing-behind layout triples = ap (λ (l : List Change). placed_store layout l) (sym (append-nil (map Add triples))) ∙ behind layout triples [] refl

pub deletion-behind : (layout : LayoutOf) (triples : List RdfTriple) (t : RdfTriple) (calls : List Change)
    → placed_store layout (map Add triples ++ Delete t ∷ calls) ≡ fold changed_in (bulk_store layout triples) (Delete t ∷ calls)
deletion-behind layout triples t calls = behind layout triples (Delete t ∷ calls) (take_while-cons is_no_delete (Delete t) calls)
