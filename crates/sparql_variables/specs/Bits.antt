-- A set of variables as a number: its members are the places of the bits.
use Rattle.std.specs.Prelude.{ℕ, ◌^◌, not, ◌==◌, bit_and}
use Rattle.query_eval_meaning.specs.Variables.{Variables}

abbrev pub members : ℕ → Variables
members n v = not (bit_and n (2 ^ v) == 0)
