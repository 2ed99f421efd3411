-- A script under other aliases has the same columns or the same first fault, where these tell apart what the old ones do.
use Rattle.std.specs.Prelude.{◌≡◌, ℕ, ◌+◌, Bool, true, false, List, [], ◌∷◌, map, length, is_some, refl}
use Rattle.std.proofs.Common.{ap, ap₂, ◌∙◌, suc}
use Rattle.std.proofs.Math.Path.{fun_ext}
use Rattle.std.specs.List.{flat_map}
use Rattle.table_meaning.specs.declared.schema.Column.{Column}
use Rattle.sql_meaning.specs.declared.script.Script.{Script}
use Rattle.sql_meaning.specs.declared.script.Step.{Step}
use Rattle.sql_meaning.specs.declared.script.Core.{Core}
use Rattle.sql_rows_meaning.specs.declared.fault.Fault.{Fault}
use Rattle.sql_rows_meaning.specs.declared.fault.FaultKind.TheVariants.{Twice}
use Rattle.sql_rows_meaning.specs.declared.schema.NamedSchema.{NamedSchema}
use Rattle.sql_rows_meaning.specs.Faults.{Checked, and_then, unless, in_select}
use Rattle.sql_rows_meaning.specs.Scopes.{Schemas, with_schema, schemas_of}
use Rattle.sql_rows_meaning.specs.Binding.{check_body, check_step_body, check_steps, check_script}
use Rattle.sql_alias_laws.specs.Aliases.{Name, NewNames, realias_core, realias_step, realias_script, core_aliases, body_aliases, script_aliases, AreToldApart}
use Rattle.sql_alias_laws.specs.RenamedValues.{Within, within-left, within-right}
use Rattle.sql_alias_binding_laws.specs.BoundBodies.{body-bound}

abbrev step_aliases : Step → List Name
step_aliases s = body_aliases s.body

length-same : (f : NewNames) (cores : List Core) → length (map (realias_core f) cores) ≡ length cores
length-same f [] = refl
length-same f (c ∷ cores) = ap suc (length-same f cores)

module _ {f : NewNames} {names : List Name} (told : AreToldApart f names) where
  step-bound : (schemas : Schemas) (n : ℕ) (s : Step) → Within (body_aliases s.body) names → check_step_body schemas n (realias_step f s) ≡ check_step_body schemas n s
  step-bound schemas n s w = at (is_some (schemas s.name))
    where
      at : (b : Bool) →
          and_then (in_select n (unless b Twice (realias_step f s))) (λ (t : Step). check_body schemas n t.body.cores)
          ≡ and_then (in_select n (unless b Twice s)) (λ (t : Step). check_body schemas n t.body.cores)
      at true = refl
      at false = body-bound told schemas n s.body.cores w

  steps-bound : (n : ℕ) (schemas : Schemas) (steps : List Step) (last : List Core) → Within (flat_map step_aliases steps) names → Within (flat_map core_aliases last) names →
      check_steps n schemas (map (realias_step f) steps) (map (realias_core f) last) ≡ check_steps n schemas steps last
  steps-bound n schemas [] last w u = body-bound told schemas n last u
  steps-bound n schemas (s ∷ steps) last w u =
      ap₂ (λ (x : Checked Fault (List Column)) (g : List Column → Checked Fault (List Column)). and_then x g) (step-bound schemas n s (within-left (step_aliases s) (flat_map step_aliases steps) names w))
      (fun_ext (λ columns.
      ap (λ (m : ℕ). check_steps (n + m) (with_schema s.name columns schemas) (map (realias_step f) steps) (map (realias_core f) last)) (length-same f s.body.cores)
      ∙ steps-bound (n + length s.body.cores) (with_schema s.name columns schemas) steps last (within-right (step_aliases s) (flat_map step_aliases steps) names w) u))

  pub script-bound : (s : Script) → Within (script_aliases s) names → (schemas : List NamedSchema) → check_script (realias_script f s) schemas ≡ check_script s schemas
  script-bound s w schemas =
      let steps : List Name = flat_map step_aliases s.steps in
      steps-bound 1 (schemas_of schemas) s.steps s.last.cores (within-left steps (body_aliases s.last) names w) (within-right steps (body_aliases s.last) names w)
