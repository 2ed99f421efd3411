use Rattle.std.proofs.Common.{◌<◌, ◌^◌, pos, List, length, sym, ap, ◌∙◌, subst}
use Rattle.std.proofs.lemmas.Result.{IfOk-weaker}
use Rattle.std.specs.List.{list_all}
use Rattle.table_meaning.specs.Ints.{is_wide_int}
use Rattle.layout_meaning.specs.Facts.{IdOf}
use Rattle.sql_gen_numbered_meaning.specs.declared.numbered.NumberedBody.{NumberedBody}
use Rattle.sql_gen.proofs.Compiled.{named, right}
use Rattle.sql_gen.proofs.compiling.compile.Goals as goal

-- src/compiling.rt
pub script-requires : goal.script-requires
script-requires c = named c.args.plan.now c.args.facts.now c.args.ids.now c.in_ok-out.out c.requires c.in_ok-out.ensures.out

pub returns : goal.returns
returns c =
    IfOk-weaker c.script.result _ _
    (λ s is. right c.args.plan.now c.args.facts.now c.args.ids.now c.in_ok-out.out s c.requires
    (ap (list_all (λ (i : IdOf). is_wide_int (pos i.id))) (sym (c.as_slice.ensures.value ∙ c.ids.view_is)) ∙ c.ids_are_wide.ensures)
    c.in_ok-out.ensures.out (subst (λ (steps : List NumberedBody). length steps < 2 ^ 64) c.as_slice-2.ensures.value c.steps_are_counted.ensures) is)
    c.script.ensures
