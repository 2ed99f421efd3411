use Rattle.std.proofs.Common.{◌≡◌, take}
use Rattle.layout_standing_meaning.specs.Dictionary.{entries_of}
use Rattle.layout_standing_meaning.specs.Contents.{side_contents}
use Rattle.layout_facts_meaning.specs.Facts.{spilled_among}
use Rattle.layout_facts.specs.Kept.{AreIdsOf}
use Rattle.layout_facts.proofs.spilled.spilled_among.Given as goal

abbrev pub invariant-loop-at : goal.invariant-loop-at
invariant-loop-at l = record {
  kept_terms : l.kept.items ≡ spilled_among (entries_of l.book) (side_contents l.side.state) (take l.at l.preds);
  noted_ids : AreIdsOf (entries_of l.book) l.kept.items l.ids.keys;
}
