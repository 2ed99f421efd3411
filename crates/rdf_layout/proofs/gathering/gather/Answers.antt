use Rattle.std.proofs.Common.{◌∙◌, ◌<◌, ◌≤◌, nat_le, sym, ap, arith}
use Rattle.std.proofs.lemmas.Result.{err_from_is_err_and}
use Rattle.shredder.specs.Items.{item_of}
use Rattle.rdf_layout.proofs.Found.{found-again, found-new, space-there, space-new, refused-full, refused-terms}
use Rattle.rdf_layout.proofs.gathering.gather.Goals as goal

pub returns-in_err-ids-clause-refused : goal.returns-in_err-ids-clause-refused
returns-in_err-ids-clause-refused c =
    let p = err_from_is_err_and c.from_residual.result c.from_residual.ensures.1 in
    rw (p.1, p.2) (refused-terms c.args.t.now c.args.book.now c.args.found.now c.in_err-ids.field-0.0 (nat_le 1000000 c.count-full.result) c.requires.few c.in_err-ids.ensures.refused (ap (nat_le 1000000) c.count-full.ensures))

pub returns-then-has-clause-found : goal.returns-then-has-clause-found
returns-then-has-clause-found c =
    found-again c.args.t.now c.args.book.now c.noted.new.book c.args.found.now c.in_ok-ids.ids (item_of c.placed_of-item.result) c.has_forms.ensures c.in_ok-ids.ensures.book c.in_ok-ids.ensures.ids c.placed_of-item.ensures (sym c.has.ensures ∙ c.if-has.true)

pub returns-then-has-clause-room : goal.returns-then-has-clause-room
returns-then-has-clause-room c =
    space-there c.args.t.now c.args.book.now c.noted.new.book c.args.found.now c.in_ok-ids.ids (item_of c.placed_of-item.result) c.has_forms.ensures c.in_ok-ids.ensures.book c.in_ok-ids.ensures.ids c.placed_of-item.ensures (sym c.has.ensures ∙ c.if-has.true)

pub returns-then-full-clause-refused : goal.returns-then-full-clause-refused
returns-then-full-clause-refused c =
    refused-full c.args.t.now c.args.book.now c.noted.new.book c.args.found.now c.in_ok-ids.ids (item_of c.placed_of-item.result) c.has_forms.ensures c.in_ok-ids.ensures.book c.in_ok-ids.ensures.ids c.placed_of-item.ensures (sym c.has.ensures ∙ c.if-has.false)
    (let l : 1000000 ≤ c.count-full.result = c.if-full.true in omega (arith, c.count-full.ensures))

pub returns-clause-found : goal.returns-clause-found
returns-clause-found c =
    found-new c.args.t.now c.args.book.now c.noted.new.book c.args.found.now c.push.new.self c.in_ok-ids.ids (item_of c.placed_of-item.result) c.has_forms.ensures c.in_ok-ids.ensures.book c.in_ok-ids.ensures.ids c.placed_of-item.ensures (sym c.has.ensures ∙ c.if-has.false) c.in_ok-push.ensures

pub returns-clause-room : goal.returns-clause-room
returns-clause-room c =
    space-new c.args.t.now c.args.book.now c.args.found.now (let l : c.count-full.result < 1000000 = c.if-full.false in omega (arith, c.count-full.ensures)) c.in_ok-ids.ensures.room
