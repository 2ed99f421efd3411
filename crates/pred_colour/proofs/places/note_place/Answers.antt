use Rattle.std.proofs.Common.{◌∙◌, ◌||◌, ap, nat_eq}
use Rattle.std.proofs.lemmas.Result.{on_ok_weaker}
use Rattle.pred_colour.specs.GraphRows.{pred_at, stands_in}
use Rattle.pred_colour.proofs.Members.{tests_of_one_more}
use Rattle.pred_colour.proofs.places.note_place.Goals as goal

pub returns-in-Some-clause-stand : goal.returns-in-Some-clause-stand
returns-in-Some-clause-stand c =
    on_ok_weaker c.insert.result (λ h q. tests_of_one_more (λ j. nat_eq q (pred_at c.args.all.now j)) c.insert.new.self c.args.places.now c.in-Some.place h
    ∙ ap (λ p. stands_in c.args.all.now c.args.places.now q || nat_eq q p) c.in-Some.ensures.found) c.insert.ensures
