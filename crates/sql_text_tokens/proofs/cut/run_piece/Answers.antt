use Rattle.sql_text_tokens.specs.Pieces.{run_goes, run_some}
use Rattle.sql_text_tokens.specs.Runs.{run_all}
use Rattle.std.proofs.Common.{arith}
use Rattle.sql_text_tokens.proofs.cut.run_piece.Goals as goal

pub run_token-requires : goal.run_token-requires
run_token-requires c = rw c.run_len-len.ensures.value (run_all c.args.bytes.now)

pub returns-clause-goes : goal.returns-clause-goes
returns-clause-goes c = run_goes _ _ _ _ c.requires c.run_len-len.ensures.value c.in_ok-token.ensures

pub returns-clause-some : goal.returns-clause-some
returns-clause-some c = let k = run_some _ c.requires in (omega (arith, c.run_len-len.ensures.value), c.run_len-len.ensures.within)
