-- What is held after a change, and the limit that a change passes.
use Rattle.std.specs.Prelude.{Bool, ◌+◌, nat_lt, List, [], ◌∷◌, ◌++◌, length, if◌then◌else◌, Option, Some, None}
use Rattle.std.specs.List.{list_any}
use Rattle.indexmap.specs.IndexSet.{swap_remove_by}
use Rattle.rdf_meaning.specs.Terms.{RdfTriple, same_triple}
use Rattle.line_change_meaning.specs.declared.change.Change.{Change}
use Rattle.line_change_meaning.specs.declared.change.Change.TheVariants.{Add, Delete}
use Rattle.run_meaning.specs.declared.which.Which.{Which}
use Rattle.run_meaning.specs.declared.which.Which.TheVariants.{Terms, Triples}
use Rattle.run_meaning.specs.Limits.{with_needed, or_later}
use Rattle.rdf_triples.specs.Held.{Held}

abbrev pub nothing_held : Held
nothing_held = record { terms = []; triples = [] }

abbrev pub is_held : Held → RdfTriple → Bool
is_held held triple = list_any (same_triple triple) held.triples

-- an addition of a triple that isn't present
abbrev pub with_new : Held → RdfTriple → Held
with_new held triple = record { terms = with_needed held.terms (Add triple); triples = held.triples ++ triple ∷ [] }

-- the last triple takes the place of the one that goes
abbrev pub without : Held → RdfTriple → Held
without held triple = record { terms = held.terms; triples = swap_remove_by (same_triple triple) held.triples }

abbrev pub take_change : Held → Change → Held
take_change held (Add triple) = if is_held held triple then held else with_new held triple
take_change held (Delete triple) = without held triple

abbrev pub limit_of_new : Held → RdfTriple → Option Which
limit_of_new held triple =
    if nat_lt 1000000 (length held.triples + 1) then Some Triples
    else (if nat_lt 4000000 (length (with_needed held.terms (Add triple))) then Some Terms else None)

-- the limit that a change passes
abbrev pub limit_at : Held → Change → Option Which
limit_at held (Add triple) = if is_held held triple then None else limit_of_new held triple
limit_at held (Delete triple) = None

-- the first limit that the changes pass
abbrev pub limit_from : Held → List Change → Option Which
limit_from held [] = None
limit_from held (change ∷ changes) = or_later (limit_at held change) (limit_from (take_change held change) changes)
