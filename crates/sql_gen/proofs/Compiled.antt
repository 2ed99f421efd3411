-- The script of the out of a plan's tree.
use Rattle.std.specs.Prelude.{◌≡◌, true, pos, ◌<◌, ◌^◌, List}
use Rattle.std.proofs.Common.{sym, subst}
use Rattle.std.specs.List.{list_all}
use Rattle.table_meaning.specs.Ints.{is_wide_int}
use Rattle.layout_meaning.specs.Facts.{FactsOf, IdOf}
use Rattle.query_plan_meaning.specs.declared.plan.Plan.{Plan}
use Rattle.query_merging_meaning.specs.Accesses.{accesses}
use Rattle.sql_meaning.specs.declared.script.Script.{Script}
use Rattle.sql_gen_meaning.specs.Compilable.{Compilable}
use Rattle.sql_gen_meaning.specs.RightScripts.{IsRightScript}
use Rattle.sql_gen_out_laws.specs.Outs.{Out as Told, count, StandsForNode}
use Rattle.sql_gen_outs.specs.Told.{out_of}
use Rattle.sql_gen_outs.specs.declared.out.Out.{Out}
use Rattle.sql_gen_script_laws.specs.Scripts.{script_of}
use Rattle.sql_gen_script_laws.proofs.Right.{scripts-right}
use Rattle.sql_gen_scripts.specs.Arms.{HaveNamedArms}
use Rattle.sql_gen_tree_laws.proofs.NamedArms.{tree-named}
use Rattle.sql_gen_tree_laws.proofs.TreeNodes.{plan-stands}
use Rattle.sql_gen.specs.TreeOuts.{IsOutFor}

module _ (plan : Plan) (facts : FactsOf) (ids : List IdOf) where
  -- its steps can be named
  pub named : (x : Out) → Compilable plan facts ids → IsOutFor facts ids x plan.tree → HaveNamedArms (out_of x).steps
  named x c h = subst (λ (o : Told). HaveNamedArms o.steps) (sym h.same) (tree-named facts ids plan.tree c.few_arms)

  -- and its script is right
  pub right : (x : Out) (s : Script) → Compilable plan facts ids → list_all (λ (i : IdOf). is_wide_int (pos i.id)) ids ≡ true → IsOutFor facts ids x plan.tree → count (out_of x) < 2 ^ 64 → s ≡ script_of (out_of x) plan.modifiers →
      IsRightScript plan facts ids s
  right x s c wide h few is =
      let stands : StandsForNode facts ids plan.tree (accesses facts plan.tree) (out_of x) = subst (λ (o : Told). StandsForNode facts ids plan.tree (accesses facts plan.tree) o) (sym h.same) (plan-stands plan facts ids c wide h.written) in
      subst (λ (t : Script). IsRightScript plan facts ids t) (sym is) (scripts-right plan facts ids (out_of x) few c.short stands)
