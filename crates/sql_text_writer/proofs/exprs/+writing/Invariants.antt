use Rattle.std.proofs.Common.{◌≡◌, ◌++◌, drop, map, codes}
use Rattle.rel_cells.specs.Fronts.{KeepsFront}
use Rattle.sql_text_spelling_laws.specs.Pieces.{expr_piece, joined}
use Rattle.sql_text_writer.specs.Levels.{branches_piece}
use Rattle.sql_text_writer.specs.Lists.{left_of}
use Rattle.sql_text_writer.proofs.exprs.+writing.Given as goal

abbrev pub invariant-write_parts-loop-part : goal.invariant-write_parts-loop-part
invariant-write_parts-loop-part l =
    (l.initial.into.items ++ joined l.separator (map expr_piece l.parts) ≡ l.into.items ++ left_of l.before l.separator (map expr_piece (drop l.part-index l.parts))) × KeepsFront l.initial.into.items l.into.items

abbrev pub invariant-write_branches-loop-branch : goal.invariant-write_branches-loop-branch
invariant-write_branches-loop-branch l =
    (l.fn.into.items ++ (codes "CASE" ++ branches_piece l.branches) ≡ l.into.items ++ branches_piece (drop l.branch-index l.branches)) × KeepsFront l.fn.into.items l.into.items
