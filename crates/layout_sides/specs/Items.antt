-- Triples of ids as items.
use Rattle.layout_meaning.specs.Side.{Item}
use Rattle.layout_sides.specs.declared.sides.IdTriple.{IdTriple}

-- the item of a triple on the direct side
abbrev pub item_of : IdTriple → Item
item_of t = record { entity = t.subject; pred = t.predicate; value = t.object }
