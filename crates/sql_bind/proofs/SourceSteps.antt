-- One source of a SELECT, and what stands behind the items.
use Rattle.std.proofs.Common.{◌≡◌, Bool, true, false, List, [], ◌∷◌, Option, Some, None, Ok, Err, sym, ap, ◌∙◌}
use Rattle.std.specs.List.{list_any}
use Rattle.std.specs.Str.{bytes_eq}
use Rattle.table_meaning.specs.declared.kind.Kind.TheVariants.{Truth}
use Rattle.table_meaning.specs.declared.schema.Column.{Column}
use Rattle.sql_meaning.specs.declared.script.Core.{Core}
use Rattle.sql_meaning.specs.declared.script.Source.{Source}
use Rattle.sql_rows_meaning.specs.declared.fault.FaultKind.{FaultKind}
use Rattle.sql_rows_meaning.specs.declared.fault.FaultKind.TheVariants.{NoTable, Twice}
use Rattle.sql_rows_meaning.specs.declared.schema.NamedSchema.{NamedSchema}
use Rattle.sql_rows_meaning.specs.Faults.{Checked, and_then, unless, found}
use Rattle.sql_rows_meaning.specs.Scopes.{Scope, Schemas, Seen, with_alias, schemas_of}
use Rattle.sql_rows_meaning.specs.Checks.{KindChecked}
use Rattle.sql_rows_meaning.specs.Binding.{check_source, check_from, check_where, check_keys}
use Rattle.sql_bind_laws.specs.Places.{seen_of, or_no_columns, source_in, first_sources}
use Rattle.sql_bind.specs.Parts.{check_rest, IsAdded}

-- ---- a table or an earlier step

abbrev at_columns : Source → Seen → Option (List Column) → Checked FaultKind Seen
at_columns s seen o = and_then (found NoTable o) (λ schema. unless (list_any (bytes_eq s.alias) seen.aliases) Twice (with_alias s.alias schema seen))

abbrev at_alias : Seen → Bool → Checked FaultKind Seen
at_alias more b = unless b Twice more

pub source_missing : (schemas : Schemas) (s : Source) (seen : Seen) → schemas s.table ≡ None → check_source schemas s seen ≡ Err NoTable
source_missing schemas s seen h = ap (at_columns s seen) h

pub source_taken : (schemas : Schemas) (s : Source) (seen : Seen) (columns : List Column) → schemas s.table ≡ Some columns → list_any (bytes_eq s.alias) seen.aliases ≡ true → check_source schemas s seen ≡ Err Twice
source_taken schemas s seen columns h taken = ap (at_columns s seen) h ∙ ap (at_alias (with_alias s.alias columns seen)) taken

source-fine : (schemas : Schemas) (s : Source) (seen : Seen) (columns : List Column) → schemas s.table ≡ Some columns → list_any (bytes_eq s.alias) seen.aliases ≡ false → check_source schemas s seen ≡ Ok (with_alias s.alias columns seen)
source-fine schemas s seen columns h new = ap (at_columns s seen) h ∙ ap (at_alias (with_alias s.alias columns seen)) new

abbrev under_alias : Source → Option (List Column) → NamedSchema
under_alias s o = record { name = s.alias; schema = or_no_columns o }

abbrev all_seen : List NamedSchema → Checked FaultKind Seen
all_seen sources = Ok (seen_of sources)

pub source_added : (known : List NamedSchema) (s : Source) (before after : List NamedSchema) (columns : List Column) → schemas_of known s.table ≡ Some columns →
    list_any (bytes_eq s.alias) (seen_of before).aliases ≡ false → after ≡ record { name = s.alias; schema = columns } ∷ before → IsAdded known s before after
source_added known s before after columns h new is = record {
  checked = source-fine (schemas_of known) s (seen_of before) columns h new ∙ ap all_seen (sym is);
  source = is ∙ ap (λ (x : NamedSchema). x ∷ before) (sym (ap (under_alias s) h));
}

pub ruleset source_rules = (source_missing, source_taken, source_added)

-- ---- FROM

pub from_none : (schemas : Schemas) (from : Option Source) (sources : List NamedSchema) → from ≡ None → sources ≡ [] → check_from schemas from ≡ Ok (seen_of sources)
from_none schemas from sources none h = ap (check_from schemas) none ∙ ap all_seen (sym h)

pub sources_none : (known : List NamedSchema) (from : Option Source) (sources : List NamedSchema) → from ≡ None → sources ≡ [] → sources ≡ first_sources known from
sources_none known from sources none h = h ∙ ap (first_sources known) (sym none)

pub from_added : (known : List NamedSchema) (from : Option Source) (s : Source) (before after : List NamedSchema) → from ≡ Some s → before ≡ [] → IsAdded known s before after → check_from (schemas_of known) from ≡ Ok (seen_of after)
from_added known from s before after some h is =
    ap (check_from (schemas_of known)) some ∙ ap (λ (l : List NamedSchema). check_source (schemas_of known) s (seen_of l)) (sym h) ∙ is.checked

pub sources_added : (known : List NamedSchema) (from : Option Source) (s : Source) (before after : List NamedSchema) → from ≡ Some s → before ≡ [] → IsAdded known s before after → after ≡ first_sources known from
sources_added known from s before after some h is = is.source ∙ ap (λ (l : List NamedSchema). source_in known s ∷ l) h ∙ ap (first_sources known) (sym some)

pub from_stops : (schemas : Schemas) (from : Option Source) (s : Source) (before : List NamedSchema) (k : FaultKind) → from ≡ Some s → before ≡ [] → check_source schemas s (seen_of before) ≡ Err k → check_from schemas from ≡ Err k
from_stops schemas from s before k some h fault = ap (check_from schemas) some ∙ ap (λ (l : List NamedSchema). check_source schemas s (seen_of l)) (sym h) ∙ fault

pub ruleset from_rules = (from_none, sources_none, from_added, sources_added, from_stops)

-- ---- WHERE and the keys

abbrev at_where : Scope → Core → KindChecked → KindChecked
at_where scope c w = and_then w (λ _. check_keys scope c.keys)

pub rest_no_where : (scope : Scope) (c : Core) (k : FaultKind) → check_where scope c.condition ≡ Err k → check_rest scope c ≡ Err k
rest_no_where scope c k h = ap (at_where scope c) h

pub rest_keys : (scope : Scope) (c : Core) → check_where scope c.condition ≡ Ok Truth → check_rest scope c ≡ check_keys scope c.keys
rest_keys scope c h = ap (at_where scope c) h

pub ruleset rest_rules = (rest_no_where, rest_keys)
