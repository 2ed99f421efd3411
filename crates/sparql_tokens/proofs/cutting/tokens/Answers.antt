use Rattle.std.proofs.Common.{arith, ◌∙◌}
use Rattle.sparql_tokens.proofs.CutLaws.{size_chars, cut_whole}
use Rattle.sparql_tokens.proofs.cutting.tokens.Goals as goal

pub cut_chars-requires : goal.cut_chars-requires
cut_chars-requires c = omega (arith, size_chars _ c.sound_front-front.result.now c.sound_front-front.utf8 (c.as_slice.ensures.value ∙ c.in_ok-text.ensures), c.type_inv.front)

pub returns-clause-ok : goal.returns-clause-ok
returns-clause-ok c = cut_whole c.args.bytes.now c.sound_front-front.result.now _ _ c.sound_front-front.ensures (c.as_slice.ensures.value ∙ c.in_ok-text.ensures) c.in_ok-tokens.ensures.ok c.if-front-bytes.false
