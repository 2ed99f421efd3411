use Rattle.std.proofs.Common.{sym, ◌∙◌}
use Rattle.table_text.proofs.NameLaws.{IsUtf8-name}
use Rattle.table_text.proofs.heads.name_text.Goals as goal

pub returns-in-Err : goal.returns-in-Err
returns-in-Err c = absurd (c.in-Err.ensures.cases.0 (IsUtf8-name c.args.bytes.now (sym c.is_name.ensures ∙ c.if-not-is_name.false)))
