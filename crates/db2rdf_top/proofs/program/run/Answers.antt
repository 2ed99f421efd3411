use Rattle.std.proofs.Common.{map}
use Rattle.std.specs.Prelude.{string_bytes}
use Rattle.run_meaning.specs.Words.{command_of}
use Rattle.run_outcome_meaning.specs.Jobs.{job_asked}
use Rattle.db2rdf_top.proofs.Ends.{run_says, completes}
use Rattle.db2rdf_top.proofs.program.run.Goals as goal

pub returns-clause-says : goal.returns-clause-says
returns-clause-says g c =
    run_says (λ t. t.items) c.asked_text-text.result c.put_text-status.result c.tell.result (job_asked (command_of (map string_bytes c.args.words.now))) (g.F.Shelf.content c.args.shelf.now)
    (record { before = g.F.Shelf.faults c.args.shelf.now; after = g.F.Shelf.faults c.asked_text-text.new.shelf; out_before = g.O.Sink.faults c.args.out.now; out_after = g.O.Sink.faults c.put_text-status.new.out })
    (g.O.Sink.written c.args.out.now) (g.O.Sink.written c.put_text-status.new.out)
    c.asked_text-text.ensures c.put_text-status.ensures.put c.put_text-status.ensures.none c.tell.ensures.status

pub returns-clause-complete : goal.returns-clause-complete
returns-clause-complete g c =
    completes c.tell.result (job_asked (command_of (map string_bytes c.args.words.now))) (g.F.Shelf.content c.args.shelf.now)
    (record { before = g.F.Shelf.faults c.args.shelf.now; after = g.F.Shelf.faults c.asked_text-text.new.shelf; out_before = g.O.Sink.faults c.args.out.now; out_after = g.O.Sink.faults c.put_text-status.new.out })
    (g.O.Sink.written c.args.out.now) (g.O.Sink.written c.put_text-status.new.out) (c.commands_ask_once.ensures.once (command_of (map string_bytes c.args.words.now))) (
    run_says (λ t. t.items) c.asked_text-text.result c.put_text-status.result c.tell.result (job_asked (command_of (map string_bytes c.args.words.now))) (g.F.Shelf.content c.args.shelf.now)
    (record { before = g.F.Shelf.faults c.args.shelf.now; after = g.F.Shelf.faults c.asked_text-text.new.shelf; out_before = g.O.Sink.faults c.args.out.now; out_after = g.O.Sink.faults c.put_text-status.new.out })
    (g.O.Sink.written c.args.out.now) (g.O.Sink.written c.put_text-status.new.out)
    c.asked_text-text.ensures c.put_text-status.ensures.put c.put_text-status.ensures.none c.tell.ensures.status
    )
