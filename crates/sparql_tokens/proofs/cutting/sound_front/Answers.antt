use Rattle.std.proofs.Common.{◌∙◌}
use Rattle.sparql_tokens.proofs.CutLaws.{sound_whole}
use Rattle.sparql_tokens.proofs.cutting.sound_front.Goals as goal

pub returns-in-Ok : goal.returns-in-Ok
returns-in-Ok c = c.in-Ok.ensures.cases.0 ∙ sound_whole c.args.bytes.now c.in-Ok.ensures.cases.1
