-- What is cut of changes after one more.
use Rattle.std.specs.Prelude.{List, [], ◌∷◌, ◌++◌}
use Rattle.rdf_meaning.specs.Terms.{RdfTriple}
use Rattle.line_change_meaning.specs.declared.change.Change.{Change}
use Rattle.line_change_meaning.specs.declared.change.Change.TheVariants.{Add, Delete}

-- the bulk and the later changes after one more; once a deletion came, it is a later one
abbrev pub bulk_then : List RdfTriple → List Change → Change → List RdfTriple
bulk_then front [] (Add t) = front ++ t ∷ []
bulk_then front [] (Delete t) = front
bulk_then front (first ∷ later) change = front

abbrev pub later_then : List Change → Change → List Change
later_then [] (Add t) = []
later_then [] (Delete t) = Delete t ∷ []
later_then (first ∷ later) change = (first ∷ later) ++ change ∷ []
