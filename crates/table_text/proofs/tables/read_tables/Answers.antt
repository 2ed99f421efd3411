use Rattle.std.proofs.Common.{◌≡◌, ◌<◌, length, sym, ap, ◌∙◌, subst, Some, None, true, false, map, arith}
use Rattle.std.specs.Cmp.{first_so}
use Rattle.std.specs.Str.{bytes_eq}
use Rattle.table_meaning.specs.Tables.{table_name, is_table_set}
use Rattle.table_text_meaning.specs.TableText.{sql_line, IsFirstBadLine}
use Rattle.table_text.specs.Reading.{step}
use Rattle.table_text.proofs.Meant.{meant_set}
use Rattle.table_text.proofs.ReadLaws.{ends_early, read_whole, line_is_bad, read_on}
use Rattle.table_text.proofs.tables.read_tables.Goals as goal

pub returns-in_default-split_line-clause-bad : goal.returns-in_default-split_line-clause-bad
returns-in_default-split_line-clause-bad c = λ n e.
    let same : c.lines.line ≡ n = cc in
    subst (IsFirstBadLine c.args.bytes.now) same
    (ends_early c.in-Some.version c.args.bytes.now c.lines.rest.now c.lines.tables.items c.lines.line c.lines.invariant.0 c.in_default-split_line.ensures.cases)

pub returns-then-eq-clause-read : goal.returns-then-eq-clause-read
returns-then-eq-clause-read c =
    let sql : bytes_eq c.in-Some-split_line.text.now sql_line ≡ true = rw c.as_slice.ensures at (sym c.eq.ensures ∙ c.if-eq.true) in
    rw c.in_ok-as_set.ensures
    (read_whole c.in-Some.version c.args.bytes.now c.lines.rest.now c.in-Some-split_line.text.now c.in-Some-split_line.after.now c.lines.tables.items c.lines.line c.lines.invariant.0 c.in-Some-split_line.ensures.cases.1 sql
    c.in_ok-meant.meant.items c.in_ok-meant.ensures)

pub as_set-requires : goal.as_set-requires
as_set-requires c = ap is_table_set c.in_ok-meant.ensures ∙ meant_set c.in-Some.version c.lines.tables.items ∙ first_so _ _ c.lines.invariant.0.set

pub returns-then-not-branch-clause-bad : goal.returns-then-not-branch-clause-bad
returns-then-not-branch-clause-bad c = λ n e.
    let same : c.lines.line ≡ n = cc in
    let other : bytes_eq c.in-Some-split_line.text.now sql_line ≡ false = rw c.as_slice.ensures at (sym c.eq.ensures ∙ c.if-eq.false) in
    let stops : step c.lines.tables.items c.in-Some-split_line.text.now ≡ None = rw c.if-not-branch.true at c.in_ok-add_line.ensures.step in
    subst (IsFirstBadLine c.args.bytes.now) same
    (line_is_bad c.in-Some.version c.args.bytes.now c.lines.rest.now c.in-Some-split_line.text.now c.in-Some-split_line.after.now c.lines.tables.items c.lines.line c.lines.invariant.0
    c.in-Some-split_line.ensures.cases.0 c.in-Some-split_line.ensures.cases.1 other stops)

pub lines-preserved : goal.lines-preserved
lines-preserved c =
    let goes : step c.lines.tables.items c.in-Some-split_line.text.now ≡ Some c.add_line.new.tables.items = rw c.if-not-branch.false at c.in_ok-add_line.ensures.step in
    let names : c.add_line.new.names ≡ map table_name c.add_line.new.tables.items = rw c.if-not-branch.false at c.in_ok-add_line.ensures.names in
    let shorter : length c.in-Some-split_line.after.now < length c.lines.rest.now = c.in-Some-split_line.ensures.shorter in (
      read_on c.in-Some.version c.args.bytes.now c.lines.rest.now c.in-Some-split_line.text.now c.in-Some-split_line.after.now c.lines.tables.items c.add_line.new.tables.items c.lines.line c.lines.invariant.0
          c.in-Some-split_line.ensures.cases.0 c.in-Some-split_line.ensures.cases.1 goes,
      names,
      omega (arith, c.lines.invariant.2),
    )
