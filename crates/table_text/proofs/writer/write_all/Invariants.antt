use Rattle.std.proofs.Common.{◌≡◌, ◌++◌, true}
use Rattle.rel_cells.specs.Fronts.{KeepsFront}
use Rattle.table_meaning.specs.CellText.{ended}
use Rattle.table_text_meaning.specs.declared.version.Version.TheVariants.{Second}
use Rattle.table_text_meaning.specs.Versions.{version_line}
use Rattle.table_text.specs.Writing.{tables_front, tables_held}
use Rattle.table_text.proofs.writer.write_all.Given as goal

abbrev pub invariant-loop-t : goal.invariant-loop-t
invariant-loop-t g l =
    ((l.into.items ≡ l.fn.into.items ++ (ended (version_line Second) ++ tables_front (g.T.TableSet.named_tables l.tables) l.t)) × KeepsFront l.fn.into.items l.into.items)
    × (tables_held (g.T.TableSet.named_tables l.tables) l.t ≡ true)
