use Rattle.std.proofs.Common.{◌≡◌, ◌++◌, take, true}
use Rattle.std.specs.Prelude.{string_bytes, encode_utf8_all}
use Rattle.std.specs.Str.{all_scalars}
use Rattle.nt_lines.proofs.label.push_chars.Given as goal

abbrev pub invariant-loop-c : goal.invariant-loop-c
invariant-loop-c l = (string_bytes l.text ≡ string_bytes l.initial.text ++ encode_utf8_all (take l.c-index l.chars)) × (all_scalars (take l.c-index l.chars) ≡ true)
