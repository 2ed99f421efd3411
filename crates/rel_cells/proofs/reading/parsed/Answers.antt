use Rattle.std.proofs.Common.{◌∙◌, ap, Some, FitsSigned}
use Rattle.std.specs.Int.{w128}
use Rattle.std.proofs.lemmas.Int.{to_z-of_z}
use Rattle.table_meaning.specs.IntLaws.{int_of-parsed, int_of-unparsed, IsUtf8-int_form}
use Rattle.rel_cells.proofs.reading.parsed.Goals as goal

pub returns-in-Ok-parse : goal.returns-in-Ok-parse
returns-in-Ok-parse c =
    let h = rw c.in-Ok.ensures.cases.0 at c.in-Ok-parse.ensures.value.0 in
    let fits : FitsSigned w128 c.in-Ok-parse.number = rw h.1 h.0.1 in
    ap (λ z. Some z) (to_z-of_z w128 c.in-Ok-parse.number fits) ∙ int_of-parsed c.args.text.now c.in-Ok-parse.number c.requires h.0.1 h.1

pub returns-in-Err-parse : goal.returns-in-Err-parse
returns-in-Err-parse c =
    let h = rw c.in-Ok.ensures.cases.0 at c.in-Err-parse.ensures.value.0 in
    int_of-unparsed c.args.text.now c.requires h

pub returns-in-Err : goal.returns-in-Err
returns-in-Err c = absurd (c.in-Err.ensures.cases.0 (IsUtf8-int_form c.args.text.now c.requires))
