use Rattle.std.proofs.Common.{◌≡◌, drop}
use Rattle.sql_bind_meaning.specs.Selects.{bound_key_order}
use Rattle.sql_engine_values.specs.Places.{picked}
use Rattle.sql_engine_selects.proofs.key_order.order_rows.Given as goal

abbrev pub invariant-loop-key : goal.invariant-loop-key
invariant-loop-key g l = bound_key_order l.keys (picked l.sources l.a) (picked l.sources l.b) ≡ bound_key_order (drop l.key-index l.keys) (picked l.sources l.a) (picked l.sources l.b)
