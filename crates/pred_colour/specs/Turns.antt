-- Turns and their order.
use Rattle.std.specs.Prelude.{ℕ, List, length}
use Rattle.std.specs.declared.cmp.Ordering.{Ordering}
use Rattle.std.specs.Ordering.{nat_cmp, ordering_then}
use Rattle.pred_colour.specs.declared.turns.Turn.{Turn}

abbrev pub turn_of : ℕ × List ℕ → Turn
turn_of e = record { pred = e.0; degree = length e.1 }

abbrev pub pred_of : Turn → ℕ
pred_of t = t.pred

abbrev pub turn_order : Turn → Turn → Ordering
turn_order a b = ordering_then (nat_cmp b.degree a.degree) (nat_cmp a.pred b.pred)
