-- Steps of WITH that are put behind others (this project's own).
use Rattle.std.specs.Prelude.{◌≡◌, ℕ, Bool, true, false, List}
use Rattle.std.specs.List.{list_any}
use Rattle.std.specs.Str.{bytes_eq}
use Rattle.rdf_meaning.specs.Terms.{RdfTerm}
use Rattle.query_eval_meaning.specs.Mapping.{Mapping}
use Rattle.sql_meaning.specs.declared.script.Step.{Step}
use Rattle.sql_rows_meaning.specs.Tables.{Relations}
use Rattle.sql_rows_meaning.specs.Rows.{after_steps}
use Rattle.sql_gen_step_laws.specs.Carried.{Name, Ids, Carries}

-- some step has this name
abbrev pub is_named : Name → List Step → Bool
is_named n steps = list_any (λ (s : Step). bytes_eq n s.name) steps

-- no step has the name of a base table
pub record IsApart (base : Name → Bool) (steps : List Step) : Type 0 where
  pub names : (n : Name) → base n ≡ true → is_named n steps ≡ false

-- the base tables are the given ones
abbrev pub SameBase : (Name → Bool) → Relations → Relations → Type 0
SameBase base given t = (n : Name) → base n ≡ true → t n ≡ given n

-- the steps give a table that carries the solutions, over all tables whose base tables are the given ones
pub record Stands (base : Name → Bool) (given : Relations) (ids : Ids) (known : RdfTerm → Bool) (vs : List ℕ) (ms : List Mapping) (steps : List Step) (last : Name) : Type 0 where
  pub carries : (t : Relations) → SameBase base given t → Carries ids known vs ms (after_steps steps t last)
  pub apart : IsApart base steps
