use Rattle.std.proofs.Common.{◌≡◌, take}
use Rattle.layout_standing_meaning.specs.Dictionary.{entries_of}
use Rattle.layout_facts_meaning.specs.Facts.{ids_told}
use Rattle.layout_facts.proofs.ids.ids_of.Given as goal

abbrev pub invariant-loop-at : goal.invariant-loop-at
invariant-loop-at l = l.pairs.items ≡ ids_told (entries_of l.book) (take l.at l.terms)
