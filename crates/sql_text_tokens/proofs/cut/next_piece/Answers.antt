use Rattle.sql_text_tokens.specs.Pieces.{blank_goes, sign_goes, nothing_goes, sign_some}
use Rattle.sql_text_tokens.proofs.cut.next_piece.Goals as goal

pub returns-in-Blank-clause-goes : goal.returns-in-Blank-clause-goes
returns-in-Blank-clause-goes c = blank_goes _ _ c.in-Blank.ensures

pub returns-in-Sign-clause-goes : goal.returns-in-Sign-clause-goes
returns-in-Sign-clause-goes c = sign_goes _ _ _ c.in-Sign.ensures

pub returns-in-Sign-clause-some : goal.returns-in-Sign-clause-some
returns-in-Sign-clause-some c = sign_some _ _ c.in-Sign.ensures

pub returns-in-Nothing-clause-goes : goal.returns-in-Nothing-clause-goes
returns-in-Nothing-clause-goes c = nothing_goes _ _ c.in-Nothing.ensures
