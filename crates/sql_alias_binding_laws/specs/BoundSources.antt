-- Sources and joins under other aliases let the same columns be named, or have the same first fault.
use Rattle.std.specs.Prelude.{◌≡◌, Bool, true, false, if◌then◌else◌, ◌||◌, List, [], ◌∷◌, map, Option, Some, None, refl, Ok, Err}
use Rattle.std.proofs.Common.{sym, ap, ap₂, ◌∙◌, subst}
use Rattle.std.specs.List.{flat_map, list_any}
use Rattle.std.specs.Str.{bytes_eq}
use Rattle.table_meaning.specs.declared.kind.Kind.{Kind}
use Rattle.table_meaning.specs.declared.schema.Column.{Column}
use Rattle.sql_meaning.specs.declared.expression.SqlExpr.{SqlExpr}
use Rattle.sql_meaning.specs.declared.script.Source.{Source}
use Rattle.sql_meaning.specs.declared.script.JoinTo.{JoinTo}
use Rattle.sql_rows_meaning.specs.declared.fault.FaultKind.{FaultKind}
use Rattle.sql_rows_meaning.specs.declared.fault.FaultKind.TheVariants.{NoTable, Twice}
use Rattle.sql_rows_meaning.specs.Faults.{Checked, and_then, unless, found}
use Rattle.sql_rows_meaning.specs.Scopes.{Schemas, kind_under, Seen, nothing_seen, with_alias}
use Rattle.sql_rows_meaning.specs.Checks.{KindChecked, check_truth}
use Rattle.sql_rows_meaning.specs.Binding.{check_source, check_from, check_join, check_joins}
use Rattle.sql_alias_laws.specs.Aliases.{Name, NewNames, realias, realias_source, realias_from, realias_join, aliases, from_aliases, join_aliases, AreToldApart}
use Rattle.sql_alias_laws.specs.RenamedValues.{Within, within-left, within-right, within-here}
use Rattle.sql_alias_binding_laws.specs.BothChecked.{BothChecked, both_fine, both_fault, both-then}
use Rattle.sql_alias_binding_laws.specs.BoundExpressions.{ScopesAgree, truth-bound}

-- the same columns, and an alias is taken where the old one is
pub record SeenAgree (f : NewNames) (names : List Name) (seen moved : Seen) : Type 0 where
  pub scopes : ScopesAgree f names seen.scope moved.scope
  pub taken : (a : Name) → list_any (bytes_eq a) names ≡ true → list_any (bytes_eq (f a)) moved.aliases ≡ list_any (bytes_eq a) seen.aliases

pub nothing-agrees : (f : NewNames) (names : List Name) → SeenAgree f names nothing_seen nothing_seen
nothing-agrees f names = record { scopes = record { same = λ a c known. refl }; taken = λ a known. refl }

module _ {f : NewNames} {names : List Name} (told : AreToldApart f names) where
  alias-agrees : (alias : Name) → list_any (bytes_eq alias) names ≡ true → (schema : List Column) (seen moved : Seen) → SeenAgree f names seen moved → SeenAgree f names (with_alias alias schema seen) (with_alias (f alias) schema moved)
  alias-agrees alias within schema seen moved h = record {
    scopes = record {
      same = λ a c known.
          ap (λ (b : Bool). if b then kind_under schema c else moved.scope (f a) c) (told.apart a alias known within)
          ∙ ap (λ (k : Option Kind). if bytes_eq a alias then kind_under schema c else k) (h.scopes.same a c known);
    };
    taken = λ a known. ap₂ (λ (x y : Bool). x || y) (told.apart a alias known within) (h.taken a known);
  }

  module _ (schemas : Schemas) where
    source-bound : (s : Source) → list_any (bytes_eq s.alias) names ≡ true → (seen moved : Seen) → SeenAgree f names seen moved →
        BothChecked (SeenAgree f names) (check_source schemas s seen) (check_source schemas (realias_source f s) moved)
    source-bound s within seen moved h = at (found NoTable (schemas s.table))
      where
        one : (b : Bool) (schema : List Column) → BothChecked {F = FaultKind} (SeenAgree f names) (unless b Twice (with_alias s.alias schema seen)) (unless b Twice (with_alias (f s.alias) schema moved))
        one true schema = both_fault Twice
        one false schema = both_fine (alias-agrees s.alias within schema seen moved h)

        at : (c : Checked FaultKind (List Column)) → BothChecked (SeenAgree f names)
            (and_then c (λ schema. unless (list_any (bytes_eq s.alias) seen.aliases) Twice (with_alias s.alias schema seen)))
            (and_then c (λ schema. unless (list_any (bytes_eq (f s.alias)) moved.aliases) Twice (with_alias (f s.alias) schema moved)))
        at (Ok schema) =
            subst (λ (b : Bool). BothChecked {F = FaultKind} (SeenAgree f names) (unless (list_any (bytes_eq s.alias) seen.aliases) Twice (with_alias s.alias schema seen)) (unless b Twice (with_alias (f s.alias) schema moved)))
            (sym (h.taken s.alias within)) (one (list_any (bytes_eq s.alias) seen.aliases) schema)
        at (Err e) = both_fault e

    pub from-bound : (from : Option Source) → Within (from_aliases from) names → BothChecked (SeenAgree f names) (check_from schemas from) (check_from schemas (realias_from f from))
    from-bound None w = both_fine (nothing-agrees f names)
    from-bound (Some s) w = source-bound s (within-here s.alias [] names w) nothing_seen nothing_seen (nothing-agrees f names)

    on-bound : (on : SqlExpr) → Within (aliases on) names → (more moved : Seen) → SeenAgree f names more moved →
        BothChecked (SeenAgree f names) (and_then (check_truth on more.scope) (λ k. Ok more)) (and_then (check_truth (realias on f) moved.scope) (λ k. Ok moved))
    on-bound on w more moved h =
        subst (λ (c : KindChecked). BothChecked {F = FaultKind} (SeenAgree f names) (and_then (check_truth on more.scope) (λ k. Ok more)) (and_then c (λ k. Ok moved))) (sym (truth-bound h.scopes on w)) (at (check_truth on more.scope))
      where
        at : (c : KindChecked) → BothChecked {F = FaultKind} (SeenAgree f names) (and_then c (λ k. Ok more)) (and_then c (λ k. Ok moved))
        at (Ok k) = both_fine h
        at (Err e) = both_fault e

    join-bound : (j : JoinTo) → Within (join_aliases j) names → (seen moved : Seen) → SeenAgree f names seen moved → BothChecked (SeenAgree f names) (check_join schemas j seen) (check_join schemas (realias_join f j) moved)
    join-bound j w seen moved h =
        both-then (λ (more : Seen). and_then (check_truth j.on more.scope) (λ k. Ok more)) (λ (more : Seen). and_then (check_truth (realias j.on f) more.scope) (λ k. Ok more))
        (on-bound j.on (within-right (j.source.alias ∷ []) (aliases j.on) names w))
        (source-bound j.source (within-here j.source.alias (aliases j.on) names w) seen moved h)

    pub joins-bound : (joins : List JoinTo) → Within (flat_map join_aliases joins) names → (seen moved : Seen) → SeenAgree f names seen moved →
        BothChecked (SeenAgree f names) (check_joins schemas joins seen) (check_joins schemas (map (realias_join f) joins) moved)
    joins-bound [] w seen moved h = both_fine h
    joins-bound (j ∷ joins) w seen moved h =
        both-then (check_joins schemas joins) (check_joins schemas (map (realias_join f) joins))
        (joins-bound joins (within-right (join_aliases j) (flat_map join_aliases joins) names w))
        (join-bound j (within-left (join_aliases j) (flat_map join_aliases joins) names w) seen moved h)
