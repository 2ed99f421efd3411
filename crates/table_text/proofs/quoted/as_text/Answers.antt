use Rattle.std.proofs.Common.{◌∙◌, sym, ap, Some}
use Rattle.table_text.proofs.Quotes.{utf8_kept, other_dropped}
use Rattle.table_text.proofs.quoted.as_text.Goals as goal

pub returns-in_ok-text_of-in-Ok : goal.returns-in_ok-text_of-in-Ok
returns-in_ok-text_of-in-Ok c =
    ap (λ t. Some t) (c.in_ok-text_of-in-Ok.ensures ∙ c.in-Ok.ensures.cases.0) ∙ sym (utf8_kept c.args.bytes.now c.args.bytes.now c.in-Ok.ensures.cases.1)

pub returns-in-Err : goal.returns-in-Err
returns-in-Err c = sym (other_dropped c.args.bytes.now c.args.bytes.now c.in-Err.ensures.cases.0)
