use Rattle.std.proofs.Common.{◌≡◌, ◌++◌, drop}
use Rattle.sql_gen_stars.specs.ArmItems.{arm_items}
use Rattle.sql_gen_stars.proofs.access.arm_items.Given as goal

-- the columns so far, and then those of the other arms
abbrev pub invariant-loop-arm : goal.invariant-loop-arm
invariant-loop-arm l = record {
  counted : l.number ≡ l.arm-index;
  made : arm_items 0 l.arms ≡ l.items ++ arm_items l.number (drop l.arm-index l.arms);
}
