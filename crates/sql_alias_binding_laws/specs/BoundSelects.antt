-- A SELECT under other aliases has the same columns or the same first fault.
use Rattle.std.specs.Prelude.{◌≡◌, List, [], ◌∷◌, ◌++◌, map, Option, Some, None, refl, Ok}
use Rattle.std.proofs.Common.{ap, ap₂, ◌∙◌}
use Rattle.std.specs.List.{flat_map, list_any}
use Rattle.std.specs.Str.{bytes_eq}
use Rattle.table_meaning.specs.declared.schema.Column.{Column}
use Rattle.sql_meaning.specs.declared.expression.SqlExpr.{SqlExpr}
use Rattle.sql_meaning.specs.declared.script.Core.{Core}
use Rattle.sql_meaning.specs.declared.script.Item.{Item}
use Rattle.sql_meaning.specs.declared.script.SqlKey.{SqlKey}
use Rattle.sql_rows_meaning.specs.declared.fault.FaultKind.{FaultKind}
use Rattle.sql_rows_meaning.specs.declared.fault.FaultKind.TheVariants.{Twice}
use Rattle.sql_rows_meaning.specs.Faults.{Checked, and_then, unless}
use Rattle.sql_rows_meaning.specs.Scopes.{Scope, Schemas, Seen}
use Rattle.sql_rows_meaning.specs.Checks.{KindChecked}
use Rattle.sql_rows_meaning.specs.Binding.{check_joins, check_items, check_like, check_where, check_keys, check_select}
use Rattle.sql_alias_laws.specs.Aliases.{Name, NewNames, realias_join, realias_condition, realias_item, realias_key, realias_core, aliases, from_aliases, condition_aliases, join_aliases, core_aliases, AreToldApart}
use Rattle.sql_alias_laws.specs.RenamedValues.{Within, within-left, within-right}
use Rattle.sql_alias_binding_laws.specs.BothChecked.{both-same}
use Rattle.sql_alias_binding_laws.specs.BoundExpressions.{ScopesAgree, expression-bound, truth-bound}
use Rattle.sql_alias_binding_laws.specs.BoundSources.{SeenAgree, from-bound, joins-bound}

abbrev of_item : Item → Name
of_item i = i.name

abbrev item_aliases : Item → List Name
item_aliases i = aliases i.expr

abbrev key_aliases : SqlKey → List Name
key_aliases k = aliases k.expr

module _ {f : NewNames} {names : List Name} {scope moved : Scope} (agree : ScopesAgree f names scope moved) where
  -- an item behind these names, and the items behind it
  abbrev item_then : List Name → Name → KindChecked → Checked FaultKind (List Column) → Checked FaultKind (List Column)
  item_then before name kind rest =
      and_then kind (λ k. and_then (unless (list_any (bytes_eq name) before) Twice k) (λ k. and_then rest (λ columns. Ok (record { name = name; kind = k } ∷ columns))))

  items-bound : (before : List Name) (items : List Item) → Within (flat_map item_aliases items) names → check_items moved before (map (realias_item f) items) ≡ check_items scope before items
  items-bound before [] w = refl
  items-bound before (i ∷ items) w =
      ap₂ (item_then before i.name) (expression-bound agree i.expr (within-left (aliases i.expr) (flat_map item_aliases items) names w))
      (items-bound (i.name ∷ before) items (within-right (aliases i.expr) (flat_map item_aliases items) names w))

  where-bound : (condition : Option SqlExpr) → Within (condition_aliases condition) names → check_where moved (realias_condition f condition) ≡ check_where scope condition
  where-bound None w = refl
  where-bound (Some e) w = truth-bound agree e w

  keys-bound : (keys : List SqlKey) → Within (flat_map key_aliases keys) names → check_keys moved (map (realias_key f) keys) ≡ check_keys scope keys
  keys-bound [] w = refl
  keys-bound (k ∷ keys) w =
      ap₂ (λ (x y : KindChecked). and_then x (λ _. y)) (expression-bound agree k.expr (within-left (aliases k.expr) (flat_map key_aliases keys) names w))
      (keys-bound keys (within-right (aliases k.expr) (flat_map key_aliases keys) names w))

-- what stands behind the sources
abbrev behind : Option (List Column) → Checked FaultKind (List Column) → KindChecked → KindChecked → Checked FaultKind (List Column)
behind first items condition keys = and_then items (λ columns. and_then (check_like first columns) (λ columns. and_then condition (λ _. and_then keys (λ _. Ok columns))))

abbrev behind_sources : Option (List Column) → Core → Seen → Checked FaultKind (List Column)
behind_sources first c seen = behind first (check_items seen.scope [] c.items) (check_where seen.scope c.condition) (check_keys seen.scope c.keys)

module _ {f : NewNames} {names : List Name} (told : AreToldApart f names) (schemas : Schemas) where
  pub select-bound : (first : Option (List Column)) (c : Core) → Within (core_aliases c) names → check_select schemas first (realias_core f c) ≡ check_select schemas first c
  select-bound first c w =
      let items : List Name = flat_map item_aliases c.items in
      let joins : List Name = flat_map join_aliases c.joins in
      let keys : List Name = flat_map key_aliases c.keys in
      let w1 : Within items names = within-left items (from_aliases c.from ++ (joins ++ (condition_aliases c.condition ++ keys))) names w in
      let r1 = within-right items (from_aliases c.from ++ (joins ++ (condition_aliases c.condition ++ keys))) names w in
      let w2 : Within (from_aliases c.from) names = within-left (from_aliases c.from) (joins ++ (condition_aliases c.condition ++ keys)) names r1 in
      let r2 = within-right (from_aliases c.from) (joins ++ (condition_aliases c.condition ++ keys)) names r1 in
      let w3 : Within joins names = within-left joins (condition_aliases c.condition ++ keys) names r2 in
      let r3 = within-right joins (condition_aliases c.condition ++ keys) names r2 in
      let w4 : Within (condition_aliases c.condition) names = within-left (condition_aliases c.condition) keys names r3 in
      let w5 : Within keys names = within-right (condition_aliases c.condition) keys names r3 in
      both-same (λ (start : Seen). and_then (check_joins schemas c.joins start) (behind_sources first c))
      (λ (start : Seen). and_then (check_joins schemas (map (realias_join f) c.joins) start) (behind_sources first (realias_core f c)))
      (λ start moved h. both-same (behind_sources first c) (behind_sources first (realias_core f c)) (λ seen later k. rest w1 w4 w5 seen later k) (joins-bound told schemas c.joins w3 start moved h))
      (from-bound told schemas c.from w2)
    where
      rest : Within (flat_map item_aliases c.items) names → Within (condition_aliases c.condition) names → Within (flat_map key_aliases c.keys) names → (seen moved : Seen) → SeenAgree f names seen moved →
          behind_sources first (realias_core f c) moved ≡ behind_sources first c seen
      rest w1 w4 w5 seen moved h =
          ap (λ (x : Checked FaultKind (List Column)). behind first x (check_where moved.scope (realias_condition f c.condition)) (check_keys moved.scope (map (realias_key f) c.keys))) (items-bound h.scopes [] c.items w1)
          ∙ ap₂ (behind first (check_items seen.scope [] c.items)) (where-bound h.scopes c.condition w4) (keys-bound h.scopes c.keys w5)
