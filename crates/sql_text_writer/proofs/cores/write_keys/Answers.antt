use Rattle.std.proofs.Common.{◌++◌, List, ℕ, ap, refl}
use Rattle.rel_cells.specs.Fronts.{kept_same}
use Rattle.sql_text_writer.specs.Lists.{keys_at_first}
use Rattle.sql_text_writer.proofs.cores.write_keys.Goals as goal

pub loop-key-init : goal.loop-key-init
loop-key-init c = (ap (λ (z : List ℕ). c.args.into.now.items ++ z) (keys_at_first c.args.keys.now), kept_same c.args.into.now.items c.args.into.now.items refl)
