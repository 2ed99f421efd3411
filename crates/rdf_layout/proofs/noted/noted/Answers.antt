use Rattle.std.proofs.Common.{Err, ◌∙◌, ap}
use Rattle.rdf_layout.proofs.Putting.{noted-passes}
use Rattle.rdf_layout.proofs.noted.noted.Goals as goal

pub returns-in-Err-clause-refused : goal.returns-in-Err-clause-refused
returns-in-Err-clause-refused c =
    rw c.of_book.ensures (noted-passes c.args.t.now c.args.book.now c.in-Err.refusal c.args.full (λ e. c.note.ensures.full (c.in-Err.is ∙ ap (λ r. Err r) e)))
