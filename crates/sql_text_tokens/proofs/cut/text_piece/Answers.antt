use Rattle.std.proofs.Common.{arith}
use Rattle.sql_text_tokens.specs.Pieces.{endless_goes, no_utf8_goes, text_goes, text_some, opened_some}
use Rattle.sql_text_tokens.proofs.cut.text_piece.Goals as goal

pub behind-rest-requires : goal.behind-rest-requires
behind-rest-requires c = let k = opened_some _ _ c.requires in omega arith

pub returns-in_default-clause-goes : goal.returns-in_default-clause-goes
returns-in_default-clause-goes c = endless_goes _ _ _ _ c.requires c.behind-rest.ensures c.in_ok-content.ensures c.in_default.is

pub returns-in-Ok-clause-goes : goal.returns-in-Ok-clause-goes
returns-in-Ok-clause-goes c = text_goes _ _ _ _ _ _ _ _ c.requires c.behind-rest.ensures c.in_ok-content.ensures c.in-Some.is c.as_slice.ensures.value c.in-Ok.ensures.cases.1 c.in-Ok.ensures.cases.0 c.in_ok-text_of-in-Ok.ensures

pub returns-in-Ok-clause-some : goal.returns-in-Ok-clause-some
returns-in-Ok-clause-some c = text_some _ _ _ _ c.requires c.behind-rest.ensures c.in_ok-content.ensures c.in-Some.is

pub returns-clause-goes : goal.returns-clause-goes
returns-clause-goes c = no_utf8_goes _ _ _ _ _ _ c.requires c.behind-rest.ensures c.in_ok-content.ensures c.in-Some.is c.as_slice.ensures.value c.in-Err.ensures.cases.0
