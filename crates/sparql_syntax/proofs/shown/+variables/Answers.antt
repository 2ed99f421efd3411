use Rattle.std.proofs.Common.{arith}
use Rattle.sparql_query_meaning.specs.Queries.{variables_of}
use Rattle.sparql_syntax.specs.Shown.{part_variables, joined_step}
use Rattle.sparql_syntax.proofs.shown.+variables.Goals as goal

pub note_elements-loop-element-preserved : goal.note_elements-loop-element-preserved
note_elements-loop-element-preserved t c =
    joined_step part_variables c.loop-element.seen c.note_element.new.seen _ c.args.elements.now c.loop-element.element-index c.element-item.result (omega (arith, c.loop-element-test.true)) c.element-item.is c.in_ok-note_element.ensures c.loop-element.invariant

pub note_groups-loop-group-preserved : goal.note_groups-loop-group-preserved
note_groups-loop-group-preserved t c =
    joined_step variables_of c.loop-group.seen c.note_group.new.seen _ c.args.groups.now c.loop-group.group-index c.group-item.result (omega (arith, c.loop-group-test.true)) c.group-item.is c.in_ok-note_group.ensures c.loop-group.invariant
