use Rattle.std.proofs.lemmas.Result.{on_ok_weaker}
use Rattle.layout_ids.proofs.Noting.{noted_term, full_term, room_term}
use Rattle.layout_ids.proofs.noted.note_term.Goals as goal

pub returns-clause-book : goal.returns-clause-book
returns-clause-book c = on_ok_weaker c.intern.result (noted_term c.args.book.now c.args.t.now c.intern.new.self) c.intern.ensures.book

pub returns-clause-room : goal.returns-clause-room
returns-clause-room c = on_ok_weaker c.intern.result (room_term c.args.book.now c.args.t.now c.requires.few) c.intern.ensures.refused

pub returns-clause-full : goal.returns-clause-full
returns-clause-full c = λ h. full_term c.args.book.now c.args.t.now (c.intern.ensures.full h)
