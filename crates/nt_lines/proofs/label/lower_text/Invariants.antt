use Rattle.std.proofs.Common.{◌≡◌, take, map}
use Rattle.std.specs.Prelude.{string_bytes, encode_utf8_all}
use Rattle.line_meaning.specs.Characters.{lower}
use Rattle.nt_lines.proofs.label.lower_text.Given as goal

abbrev pub invariant-loop-c : goal.invariant-loop-c
invariant-loop-c l = string_bytes l.text ≡ encode_utf8_all (map lower (take l.c-index l.chars))
