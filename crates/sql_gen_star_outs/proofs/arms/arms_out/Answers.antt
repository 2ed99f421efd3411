use Rattle.std.proofs.Common.{◌≡◌, [], List, ℕ, ap, ◌∙◌, slice_set}
use Rattle.query_plan_meaning.specs.declared.star.Star.{Star}
use Rattle.sparql_variables.specs.Bits.{members}
use Rattle.sql_gen_star_meaning.specs.declared.arm.Asked.{Asked}
use Rattle.sql_gen_star_meaning.specs.declared.arm.StarArm.{StarArm}
use Rattle.sql_gen_star_meaning.specs.Asked.{asked_vars}
use Rattle.sql_gen_star_meaning.specs.Openings.{open_vars, openings_from}
use Rattle.sql_gen_numbered_meaning.specs.declared.numbered.NumberedBody.{NumberedBody}
use Rattle.sql_gen_numbered_meaning.specs.declared.numbered.NumberedBody.TheVariants.{Access}
use Rattle.sql_gen_numbered_meaning.specs.NumberedStars.{numbered_arms, numbered_last}
use Rattle.sql_gen_out_laws.specs.Outs.{Out}
use Rattle.sql_gen_star_out_laws.specs.StarOuts.{told_columns, told_id}
use Rattle.sql_gen_star_outs.proofs.StarParts.{arms-are, arms-out, chain-last, chain-steps, chain-vars}
use Rattle.sql_gen_star_outs.proofs.arms.arms_out.Goals as goal

pub returns : goal.returns
returns c = λ a ps is.
    let star : Star = c.args.star.now in
    let entity : Asked = c.asked_slot-entity.result in
    let spilled = c.has_one_arm.result in
    let vs : List ℕ = asked_vars entity [] in
    let arms : List StarArm = c.in_ok-arms.arms in
    let held = c.in_ok-held.field-0 in
    let begun = c.in_ok-held.ensures in
    let chain = c.in_ok-chain.chain in
    let out : Out = record { steps = c.with_access.result.items; last = chain.before; variables = c.from_vec.result; certain = members c.certain.result } in
    let steps : out.steps ≡ numbered_arms star.side spilled entity arms =
    c.with_access.ensures
    ∙ ap (λ (xs : List NumberedBody). slice_set xs 0 (Access star.side spilled entity arms))
    (c.in_ok-chain.ensures.steps ∙ chain-steps star.side vs arms c.as_slice.result.now held.steps.items held.before held.bound.items c.as_slice.ensures begun.steps begun.last begun.bound) in
    let last : out.last ≡ numbered_last 1 0 (openings_from 0 arms) =
    c.in_ok-chain.ensures.last ∙ chain-last star.side vs arms c.as_slice.result.now held.steps.items held.before held.bound.items c.as_slice.ensures begun.steps begun.last begun.bound in
    let variables : out.variables ≡ open_vars vs (openings_from 0 arms) =
    c.from_vec.ensures ∙ c.in_ok-chain.ensures.bound ∙ chain-vars star.side vs arms c.as_slice.result.now held.steps.items held.before held.bound.items c.as_slice.ensures begun.steps begun.last begun.bound in
    let those = c.in_ok-arms.ensures ∙ arms-are (told_id c.args.ids.now) c.told_columns-columns.result.now (told_columns c.args.facts.now star.side) star.entity entity c.args.required.now a ps c.args.optional.now
    c.told_columns-columns.ensures c.asked_slot-entity.ensures is in
    arms-out c.args.facts.now c.args.ids.now star spilled entity out c.has_one_arm.ensures c.asked_slot-entity.ensures c.certain.ensures a ps c.args.optional.now arms those steps last variables
