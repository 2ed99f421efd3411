use Rattle.std.proofs.Common.{◌+◌, take, drop, ap, ◌∙◌, arith}
use Rattle.table_text.specs.Reading.{fields_of}
use Rattle.table_text.proofs.Cuts.{cut_at, cut_front, uncut, rest_from, fields_of-before, fields_of-alone}
use Rattle.table_text.proofs.fields.split_field.Goals as goal

pub returns-then-len-line-clause-fields : goal.returns-then-len-line-clause-fields
returns-then-len-line-clause-fields c = fields_of-alone c.args.line.now (uncut 9 c.args.line.now c.len_before-len.result c.len_before-len.ensures c.if-len-line.true)

pub returns-clause-fields : goal.returns-clause-fields
returns-clause-fields c =
    rw rest_from
    (ap fields_of (cut_at 9 c.args.line.now c.len_before-len.result c.len_before-len.ensures (omega arith))
    ∙ fields_of-before (take c.len_before-len.result c.args.line.now) (drop (c.len_before-len.result + 1) c.args.line.now) (cut_front 9 c.args.line.now c.len_before-len.result c.len_before-len.ensures))
