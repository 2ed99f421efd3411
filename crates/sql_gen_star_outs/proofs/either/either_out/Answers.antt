use Rattle.std.proofs.Common.{◌≡◌, ◌+◌, [], List, ℕ, length, ap, ap₂, ◌∙◌, slice_set}
use Rattle.layout_meaning.specs.Columns.{ColumnsOf}
use Rattle.query_plan_meaning.specs.declared.star.Star.{Star}
use Rattle.sparql_variables.specs.Bits.{members}
use Rattle.sql_gen_step_laws.specs.StepSelects.{both}
use Rattle.sql_gen_star_meaning.specs.declared.arm.Asked.{Asked}
use Rattle.sql_gen_star_meaning.specs.declared.arm.StarArm.{StarArm}
use Rattle.sql_gen_star_meaning.specs.Asked.{asked_vars}
use Rattle.sql_gen_either_laws.specs.EitherSteps.{left_vars, right_vars}
use Rattle.sql_gen_numbered_meaning.specs.declared.numbered.NumberedBody.{NumberedBody}
use Rattle.sql_gen_numbered_meaning.specs.declared.numbered.NumberedBody.TheVariants.{Access}
use Rattle.sql_gen_numbered_meaning.specs.NumberedStars.{numbered_either}
use Rattle.sql_gen_out_laws.specs.Outs.{Out}
use Rattle.sql_gen_star_out_laws.specs.StarOuts.{told_columns, told_id}
use Rattle.sql_gen_star_outs.proofs.StarParts.{arms-are, chain-last, chain-steps, chain-vars, either-out, second-last, second-length, second-steps, second-vars, united-steps}
use Rattle.sql_gen_star_outs.proofs.either.either_out.Goals as goal

pub returns : goal.returns
returns c = λ a b ls rs of_left of_right.
    let star : Star = c.args.star.now in
    let entity : Asked = c.asked_slot-entity.result in
    let spilled = c.has_one_arm.result in
    let vs : List ℕ = asked_vars entity [] in
    let left : List StarArm = c.in_ok-left.left in
    let right : List StarArm = c.in_ok-right.right in
    let all : List StarArm = c.in_ok-chained.field-0 in
    let held = c.in_ok-held.field-0 in
    let begun = c.in_ok-held.ensures in
    let first = c.in_ok-first.first in
    let second = c.in_ok-second.second in
    let bound : List ℕ = c.in_ok-asked_vars.field-0.items in
    let out : Out = record { steps = c.with_access.result.items; last = c.len-last.result; variables = c.from_vec-3.result; certain = members c.certain.result } in
    let ones = c.in_ok-first.ensures.steps ∙ chain-steps star.side vs left c.as_slice.result.now held.steps.items held.before held.bound.items c.as_slice.ensures begun.steps begun.last begun.bound in
    let first_last = c.in_ok-first.ensures.last ∙ chain-last star.side vs left c.as_slice.result.now held.steps.items held.before held.bound.items c.as_slice.ensures begun.steps begun.last begun.bound in
    let first_vars = c.in_ok-first.ensures.bound ∙ chain-vars star.side vs left c.as_slice.result.now held.steps.items held.before held.bound.items c.as_slice.ensures begun.steps begun.last begun.bound in
    let twos = c.in_ok-second.ensures.steps
    ∙ second-steps star.side vs bound left right c.as_slice-2.result.now c.as_slice-3.result.now c.in_ok-count.count first.steps.items c.in_ok-asked_vars.ensures c.as_slice-2.ensures c.as_slice-3.ensures c.in_ok-count.ensures ones in
    let second_last = c.in_ok-second.ensures.last
    ∙ second-last star.side vs bound left right c.as_slice-2.result.now c.as_slice-3.result.now c.in_ok-count.count first.steps.items c.in_ok-asked_vars.ensures c.as_slice-2.ensures c.as_slice-3.ensures c.in_ok-count.ensures ones in
    let second_vars = c.in_ok-second.ensures.bound
    ∙ second-vars star.side vs bound left right c.as_slice-2.result.now c.as_slice-3.result.now c.in_ok-count.count first.steps.items c.in_ok-asked_vars.ensures c.as_slice-2.ensures c.as_slice-3.ensures c.in_ok-count.ensures ones in
    let steps : out.steps ≡ numbered_either star.side spilled entity left right =
    c.with_access.ensures
    ∙ ap (λ (xs : List NumberedBody). slice_set xs 0 (Access star.side spilled entity all)) c.in_ok-push.ensures.items
    ∙ united-steps star.side spilled entity left right all first.before second.before c.from_vec.result c.from_vec-2.result second.steps.items twos c.in_ok-chained.ensures first_last second_last
    (c.from_vec.ensures ∙ first_vars) (c.from_vec-2.ensures ∙ second_vars) in
    let last : out.last ≡ 1 + length left + length right =
    c.len-last.ensures ∙ second.steps.ok.0
    ∙ second-length star.side vs bound left right c.as_slice-2.result.now c.as_slice-3.result.now c.in_ok-count.count first.steps.items c.in_ok-asked_vars.ensures c.as_slice-2.ensures c.as_slice-3.ensures c.in_ok-count.ensures ones second.steps.items twos in
    let variables : out.variables ≡ both (left_vars entity left) (right_vars entity left right) =
    c.from_vec-3.ensures ∙ c.in_ok-variables.ensures ∙ ap₂ both (c.as_slice-4.ensures.value ∙ first_vars) (c.as_slice-5.ensures.value ∙ second_vars) in
    let told : ColumnsOf = told_columns c.args.facts.now star.side in
    let lefts = c.in_ok-left.ensures ∙ arms-are (told_id c.args.ids.now) c.told_columns-columns.result.now told star.entity entity c.args.left.now a ls [] c.told_columns-columns.ensures c.asked_slot-entity.ensures of_left in
    let rights = c.in_ok-right.ensures ∙ arms-are (told_id c.args.ids.now) c.told_columns-columns.result.now told star.entity entity c.args.right.now b rs [] c.told_columns-columns.ensures c.asked_slot-entity.ensures of_right in
    either-out c.args.facts.now c.args.ids.now star spilled entity out c.has_one_arm.ensures c.asked_slot-entity.ensures c.certain.ensures (record { first = a; others = ls }) (record { first = b; others = rs }) left right lefts rights steps last variables
