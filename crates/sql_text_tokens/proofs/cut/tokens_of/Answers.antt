use Rattle.std.proofs.Common.{arith}
use Rattle.sql_text_tokens.specs.Pieces.{cut_passes, cut_takes, cut_ends, takes_within}
use Rattle.sql_text_tokens.proofs.cut.tokens_of.Goals as goal

pub loop-at-preserved-in-Blank : goal.loop-at-preserved-in-Blank
loop-at-preserved-in-Blank c = (cut_passes _ _ _ _ _ _ c.loop-at.invariant.0 c.behind-rest.ensures c.in_ok-next_piece.ensures.goes c.in-Blank.is, omega arith)

pub loop-at-preserved : goal.loop-at-preserved
loop-at-preserved c = (cut_takes _ _ _ _ _ _ _ _ _ _ c.loop-at.invariant.0 c.behind-rest.ensures c.in_ok-next_piece.ensures.goes c.in-Token.is c.in_ok-push-in-Token.ensures.ok, takes_within _ _ _ _ _ _ _ c.loop-at.invariant.1 c.behind-rest.ensures c.in_ok-next_piece.ensures.some c.in-Token.is)

pub returns : goal.returns
returns c = cut_ends _ _ _ _ c.loop-at.invariant.0 c.loop-at-test.false
