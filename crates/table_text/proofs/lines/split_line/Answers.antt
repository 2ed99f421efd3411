use Rattle.std.proofs.Common.{◌∷◌, [], ◌+◌, ◌∙◌, take, drop, sym, append_assoc, arith}
use Rattle.table_text.proofs.Cuts.{cut_at, cut_front, uncut, rest_from, lines_of-none}
use Rattle.table_text.proofs.lines.split_line.Goals as goal

pub returns-then-len-bytes-clause-cases : goal.returns-then-len-bytes-clause-cases
returns-then-len-bytes-clause-cases c = lines_of-none c.args.bytes.now (uncut 10 c.args.bytes.now c.len_before-len.result c.len_before-len.ensures c.if-len-bytes.true)

pub returns-clause-cases : goal.returns-clause-cases
returns-clause-cases c =
    rw rest_from (
      cut_front 10 c.args.bytes.now c.len_before-len.result c.len_before-len.ensures,
      cut_at 10 c.args.bytes.now c.len_before-len.result c.len_before-len.ensures (omega arith)
          ∙ sym (append_assoc (take c.len_before-len.result c.args.bytes.now) (10 ∷ []) (drop (c.len_before-len.result + 1) c.args.bytes.now)),
    )
