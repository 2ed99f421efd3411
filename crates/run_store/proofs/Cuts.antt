-- Changes that are cut one after another.
use Rattle.std.proofs.Common.{◌≡◌, List, [], ◌∷◌, ◌++◌, map, refl, sym, ap, ◌∙◌}
use Rattle.std.proofs.lemmas.List.Sums.{take_while-cons}
use Rattle.rdf_meaning.specs.Terms.{RdfTriple}
use Rattle.line_change_meaning.specs.declared.change.Change.{Change}
use Rattle.line_change_meaning.specs.declared.change.Change.TheVariants.{Add, Delete}
use Rattle.line_change_meaning.specs.Present.{named, is_no_delete, bulk}
use Rattle.layout_placed_meaning.specs.Placed.{later_changes}
use Rattle.run_store.specs.Cutting.{bulk_then, later_then}

bulk-behind : (t : RdfTriple) (front : List RdfTriple) (later : List Change) (c : Change) → bulk_then (t ∷ front) later c ≡ t ∷ bulk_then front later c
bulk-behind t front [] (Add u) = refl
bulk-behind t front [] (Delete u) = refl
bulk-behind t front (first ∷ later) c = refl

bulk-then : (done : List Change) (c : Change) → bulk_then (map named (bulk done)) (later_changes done) c ≡ map named (bulk (done ++ c ∷ []))
bulk-then [] (Add t) = ap (λ (l : List Change). map named l) (sym (take_while-cons is_no_delete (Add t) []))
bulk-then [] (Delete t) = ap (λ (l : List Change). map named l) (sym (take_while-cons is_no_delete (Delete t) []))
bulk-then (Add t ∷ done) c =
    ap (λ (l : List Change). bulk_then (map named l) (later_changes done) c) (take_while-cons is_no_delete (Add t) done)
    ∙ bulk-behind t (map named (bulk done)) (later_changes done) c
    ∙ ap (λ (l : List RdfTriple). t ∷ l) (bulk-then done c)
    ∙ ap (λ (l : List Change). map named l) (sym (take_while-cons is_no_delete (Add t) (done ++ c ∷ [])))
bulk-then (Delete t ∷ done) c =
    ap (λ (l : List Change). map named l) (take_while-cons is_no_delete (Delete t) done)
    ∙ ap (λ (l : List Change). map named l) (sym (take_while-cons is_no_delete (Delete t) (done ++ c ∷ [])))

later-then : (done : List Change) (c : Change) → later_then (later_changes done) c ≡ later_changes (done ++ c ∷ [])
later-then [] (Add t) = refl
later-then [] (Delete t) = refl
later-then (Add t ∷ done) c = later-then done c
later-then (Delete t ∷ done) c = refl

-- the next one is taken
pub bulk-on : (front new : List RdfTriple) (later done : List Change) (c : Change) → new ≡ bulk_then front later c → front ≡ map named (bulk done) → later ≡ later_changes done → new ≡ map named (bulk (done ++ c ∷ []))
bulk-on front new later done c e b l =
    e ∙ ap (λ (f : List RdfTriple). bulk_then f later c) b ∙ ap (λ (w : List Change). bulk_then (map named (bulk done)) w c) l ∙ bulk-then done c

pub later-on : (later new done : List Change) (c : Change) → new ≡ later_then later c → later ≡ later_changes done → new ≡ later_changes (done ++ c ∷ [])
later-on later new done c e l = e ∙ ap (λ (w : List Change). later_then w c) l ∙ later-then done c
