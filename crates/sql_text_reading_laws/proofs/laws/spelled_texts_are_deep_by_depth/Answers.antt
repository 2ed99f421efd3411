use Rattle.sql_text_reading_laws.specs.Depths.{spelled_texts_are_deep_by_depth}
use Rattle.sql_text_reading_laws.proofs.laws.spelled_texts_are_deep_by_depth.Goals as goal

pub returns : goal.returns
returns c = spelled_texts_are_deep_by_depth
