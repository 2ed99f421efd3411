use Rattle.std.proofs.Common.{◌≡◌, length}
use Rattle.std.specs.Prelude.{string_bytes}
use Rattle.line_meaning.specs.Reader.{onto, text_behind}
use Rattle.nt_lines.proofs.enclosed.text_at.Given as goal

abbrev pub invariant-pieces : goal.invariant-pieces
invariant-pieces l = onto (string_bytes l.text) (text_behind l.form 0 l.rest) ≡ text_behind l.form 0 l.chars

abbrev pub decreases-pieces : goal.decreases-pieces
decreases-pieces l = length l.rest
