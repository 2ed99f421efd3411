use Rattle.sql_text_tokens.specs.Pieces.{opens_first}
use Rattle.sql_text_tokens.proofs.cut.opening.Goals as goal

pub returns : goal.returns
returns c = opens_first _ _ c.requires c.opening_of.ensures
