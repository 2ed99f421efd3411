use Rattle.std.proofs.Common.{◌≡◌, true, map, take}
use Rattle.std.specs.List.{list_all}
use Rattle.query_plan_meaning.specs.Stars.{star_in_width}
use Rattle.query_flow_meaning.specs.Planned.{star_of}
use Rattle.exec_tree.proofs.stars.plan_leaf.Given as goal

abbrev pub invariant-loop-choice : goal.invariant-loop-choice
invariant-loop-choice l = (l.stars ≡ map star_of (take l.choice-index l.choice-items)) × (list_all star_in_width l.stars ≡ true)
