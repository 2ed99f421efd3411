-- A body under other aliases has the same columns or the same first fault.
use Rattle.std.specs.Prelude.{◌≡◌, ℕ, ◌+◌, List, [], ◌∷◌, map, Some, None, refl}
use Rattle.std.proofs.Common.{ap₂}
use Rattle.std.proofs.Math.Path.{fun_ext}
use Rattle.std.specs.List.{flat_map}
use Rattle.table_meaning.specs.declared.schema.Column.{Column}
use Rattle.sql_meaning.specs.declared.script.Core.{Core}
use Rattle.sql_rows_meaning.specs.declared.fault.Fault.{Fault}
use Rattle.sql_rows_meaning.specs.declared.fault.FaultKind.{FaultKind}
use Rattle.sql_rows_meaning.specs.Faults.{Checked, and_then, in_select}
use Rattle.sql_rows_meaning.specs.Scopes.{Schemas}
use Rattle.sql_rows_meaning.specs.Binding.{check_others, check_body}
use Rattle.sql_alias_laws.specs.Aliases.{Name, NewNames, realias_core, core_aliases, AreToldApart}
use Rattle.sql_alias_laws.specs.RenamedValues.{Within, within-left, within-right}
use Rattle.sql_alias_binding_laws.specs.BoundSelects.{select-bound}

module _ {f : NewNames} {names : List Name} (told : AreToldApart f names) (schemas : Schemas) where
  others-bound : (n : ℕ) (first : List Column) (cores : List Core) → Within (flat_map core_aliases cores) names → check_others schemas n first (map (realias_core f) cores) ≡ check_others schemas n first cores
  others-bound n first [] w = refl
  others-bound n first (c ∷ cores) w =
      ap₂ (λ (x : Checked FaultKind (List Column)) (y : Checked Fault (List Column)). and_then (in_select n x) (λ _. y))
      (select-bound told schemas (Some first) c (within-left (core_aliases c) (flat_map core_aliases cores) names w))
      (others-bound (n + 1) first cores (within-right (core_aliases c) (flat_map core_aliases cores) names w))

  pub body-bound : (n : ℕ) (cores : List Core) → Within (flat_map core_aliases cores) names → check_body schemas n (map (realias_core f) cores) ≡ check_body schemas n cores
  body-bound n [] w = refl
  body-bound n (c ∷ cores) w =
      ap₂ (λ (x : Checked FaultKind (List Column)) (g : List Column → Checked Fault (List Column)). and_then (in_select n x) g)
      (select-bound told schemas None c (within-left (core_aliases c) (flat_map core_aliases cores) names w))
      (fun_ext (λ first. others-bound (n + 1) first cores (within-right (core_aliases c) (flat_map core_aliases cores) names w)))
