use Rattle.std.proofs.Common.{arith}
use Rattle.std.specs.Prelude.{string_bytes}
use Rattle.std.proofs.lemmas.Grind.{common_steps}
use Rattle.nt_lines.proofs.Pieces.{step_kept}
use Rattle.nt_lines.proofs.enclosed.text_at.Goals as goal

pub pieces-preserved : goal.pieces-preserved
pieces-preserved c =
    step_kept c.args.form (string_bytes c.pieces.text) (string_bytes c.push.new.self) c.in-Some.first.now c.in-Some.tail.now c.pieces.rest.now
    (c.in-Some-piece_at.c, c.in-Some-piece_at.count) _ _ c.pieces.invariant
    (grind (arith, common_steps)) (grind (arith, common_steps)) (grind (arith, common_steps)) (grind (arith, common_steps)) (grind (arith, common_steps)) (grind (arith, common_steps))
