use Rattle.std.proofs.Common.{sym}
use Rattle.layout_standing_meaning.specs.Contents.{side_contents}
use Rattle.layout_facts.proofs.KeptIds.{on_both, pushed-some}
use Rattle.layout_facts.proofs.spilled.push_spilled.Goals as goal

pub returns-in-Some-clause-ids : goal.returns-in-Some-clause-ids
returns-in-Some-clause-ids c = on_both c.push_once.result
    (λ k n. (pushed-some c.args.book.now (side_contents c.args.side.now.state) c.args.t.now c.args.kept.now.items c.push_once.new.kept.items c.args.ids.now.keys c.push_once.new.ids.keys c.in-Some.id (sym c.in-Some.ensures) c.requires.ids k n).noted_ids)
    c.push_once.ensures.kept c.push_once.ensures.ids
