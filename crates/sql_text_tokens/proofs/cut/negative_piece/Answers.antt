use Rattle.std.proofs.Common.{arith}
use Rattle.sql_text_tokens.specs.Pieces.{joined_goes, minus_goes, negative_goes, negative_some, opened_some}
use Rattle.sql_text_tokens.proofs.cut.negative_piece.Goals as goal

pub behind-rest-requires : goal.behind-rest-requires
behind-rest-requires c = let k = opened_some _ _ c.requires in omega arith

pub returns-then-joined-clause-goes : goal.returns-then-joined-clause-goes
returns-then-joined-clause-goes c = joined_goes _ _ c.if-joined.true c.requires

pub returns-then-not-starts_with_digit-clause-goes : goal.returns-then-not-starts_with_digit-clause-goes
returns-then-not-starts_with_digit-clause-goes c = minus_goes _ _ _ _ c.requires c.behind-rest.ensures c.starts_with_digit.ensures c.if-not-starts_with_digit.true

pub returns-clause-goes : goal.returns-clause-goes
returns-clause-goes c = negative_goes _ _ _ _ _ _ c.if-joined.false c.requires c.behind-rest.ensures c.starts_with_digit.ensures c.if-not-starts_with_digit.false c.run_len-len.ensures.value c.int_token-token.ensures

pub returns-clause-some : goal.returns-clause-some
returns-clause-some c = negative_some _ _ _ c.requires c.behind-rest.ensures c.run_len-len.ensures.within
