use Rattle.std.proofs.Common.{◌≡◌, ◌≤◌, length}
use Rattle.line_meaning.specs.Reader.{without_last_dots}
use Rattle.nt_lines.proofs.label.without_last_dots.Given as goal

abbrev pub invariant-dots : goal.invariant-dots
invariant-dots l = (without_last_dots l.kept ≡ without_last_dots l.chars) × (length l.kept ≤ length l.chars)

abbrev pub decreases-dots : goal.decreases-dots
decreases-dots l = length l.kept
