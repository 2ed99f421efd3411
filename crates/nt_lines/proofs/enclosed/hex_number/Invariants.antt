use Rattle.nt_lines.proofs.Numbers.{IsRead}
use Rattle.nt_lines.proofs.enclosed.hex_number.Given as goal

abbrev pub invariant-loop-digit : goal.invariant-loop-digit
invariant-loop-digit l = IsRead l.digits l.number l.digit-index
