use Rattle.std.proofs.Common.{◌≡◌, ◌++◌, ◌+◌, List, ℕ, length, true, subst, sym, ap, ◌∙◌, append_assoc, arith}
use Rattle.table_meaning.specs.CellText.{ended}
use Rattle.table_text_meaning.specs.declared.version.Version.TheVariants.{Second}
use Rattle.table_text_meaning.specs.Versions.{version_line}
use Rattle.table_meaning.specs.Tables.{NamedTable}
use Rattle.table_text.specs.Writing.{table_front, tables_front, tables_held}
use Rattle.table_text.proofs.HeldCells.{tables_held_none, tables_held_more, all_held}
use Rattle.table_text.proofs.Written.{started, gone_on, tables_front_more, tables_front_none, whole_text}
use Rattle.table_text.proofs.writer.write_all.Goals as goal

pub loop-t-init : goal.loop-t-init
loop-t-init g c =
    let tables : List NamedTable = g.T.TableSet.named_tables c.args.tables.now in
    (started c.args.into.now.items c.extend_from_slice.new.self.items (ended (version_line Second)) _ c.in_ok-extend_from_slice.ensures.items (tables_front_none tables), tables_held_none tables)

pub loop-t-preserved : goal.loop-t-preserved
loop-t-preserved g c =
    let tables : List NamedTable = g.T.TableSet.named_tables c.args.tables.now in (
      gone_on c.args.into.now.items (ended (version_line Second) ++ tables_front tables c.loop-t.t) (table_front tables c.loop-t.t) c.write_table.new.into.items c.loop-t.into.items (ended (version_line Second) ++ tables_front tables (c.loop-t.t + 1))
          c.loop-t.invariant.0.0 c.loop-t.invariant.0.1 c.in_ok-write_table.ensures.ok
          (ap (λ (t : List ℕ). ended (version_line Second) ++ t) (tables_front_more tables c.loop-t.t) ∙ sym (append_assoc (ended (version_line Second)) (tables_front tables c.loop-t.t) (table_front tables c.loop-t.t))),
      tables_held_more tables c.loop-t.t c.loop-t.invariant.1 c.in_ok-write_table.ensures.held,
    )

pub returns-clause-ok : goal.returns-clause-ok
returns-clause-ok g c =
    let tables : List NamedTable = g.T.TableSet.named_tables c.args.tables.now in
    let all : c.loop-t.t ≡ length tables = omega (arith, c.tables-t-end.ensures.count) in
    c.loop-t.invariant.0.0 ∙ ap (λ (n : ℕ). c.args.into.now.items ++ (ended (version_line Second) ++ tables_front tables n)) all
    ∙ ap (λ (t : List ℕ). c.args.into.now.items ++ t) (whole_text tables c.tables-t-end.ensures.set)

pub returns-clause-held : goal.returns-clause-held
returns-clause-held g c =
    let tables : List NamedTable = g.T.TableSet.named_tables c.args.tables.now in
    let all : c.loop-t.t ≡ length tables = omega (arith, c.tables-t-end.ensures.count) in
    all_held tables c.tables-t-end.ensures.set (subst (λ (n : ℕ). tables_held tables n ≡ true) all c.loop-t.invariant.1)
