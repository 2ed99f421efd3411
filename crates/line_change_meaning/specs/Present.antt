-- Which triples are present after a list of changes.
use Rattle.std.specs.Prelude.{Bool, true, false, if◌then◌else◌, List, [], ◌∷◌, ◌++◌, map, filter, fold, not, take_while}
use Rattle.std.specs.List.{list_any}
use Rattle.rdf_meaning.specs.Terms.{RdfTriple, same_triple}
use Rattle.line_change_meaning.specs.declared.change.Change.{Change}
use Rattle.line_change_meaning.specs.declared.change.Change.TheVariants.{Add, Delete}

-- the triple that a change names
abbrev pub named : Change → RdfTriple
named (Add triple) = triple
named (Delete triple) = triple

abbrev pub is_add : Change → Bool
is_add (Add triple) = true
is_add (Delete triple) = false

-- what a change says of a triple, where `said` was said of it before
abbrev pub says_of : RdfTriple → Bool → Change → Bool
says_of triple said change = if same_triple (named change) triple then is_add change else said

-- some change names the triple, and the last one that names it adds it
abbrev pub is_present : List Change → RdfTriple → Bool
is_present changes triple = fold (says_of triple) false changes

abbrev pub with_triple : List RdfTriple → RdfTriple → List RdfTriple
with_triple triples triple = if list_any (same_triple triple) triples then triples else triples ++ triple ∷ []

-- the triples that the changes name, each once, in order of first naming
abbrev pub all_named : List Change → List RdfTriple
all_named changes = fold with_triple [] (map named changes)

-- the triples that are present after the changes
abbrev pub present : List Change → List RdfTriple
present changes = filter (is_present changes) (all_named changes)

abbrev pub is_delete : Change → Bool
is_delete (Add triple) = false
is_delete (Delete triple) = true

abbrev pub is_no_delete : Change → Bool
is_no_delete change = not (is_delete change)

-- the changes before the first deletion
abbrev pub bulk : List Change → List Change
bulk changes = take_while is_no_delete changes
