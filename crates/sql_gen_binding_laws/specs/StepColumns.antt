-- The columns of the compiler's steps, and of the table of terms.
use Rattle.std.specs.Prelude.{◌≡◌, ℕ, true, false, if◌then◌else◌, List, [], ◌∷◌, map}
use Rattle.std.specs.Str.{bytes_eq}
use Rattle.table_meaning.specs.declared.kind.Kind.TheVariants as kind
use Rattle.table_meaning.specs.declared.schema.Column.{Column}
use Rattle.sql_rows_meaning.specs.Scopes.{Scope, kind_under}
use Rattle.sql_gen_step_laws.specs.Carried.{Name, column, one}
use Rattle.sql_gen_step_laws.specs.StepSelects.{has}
use Rattle.sql_gen_term_laws.specs.TermTable.{id_name, class_name, number_name, text_name, aux_name, term_alias}

abbrev pub int_column : Name → Column
int_column name = record { name = name; kind = kind.Int }

abbrev pub text_column : Name → Column
text_column name = record { name = name; kind = kind.Text }

-- the ones, and then the numbers of each variable's term
abbrev pub step_schema : List ℕ → List Column
step_schema us = int_column one ∷ map (λ v. int_column (column v)) us

-- no variable stands twice
abbrev pub Once : List ℕ → Type 0
Once [] = Unit {0}
Once (v ∷ vs) = (has vs v ≡ false) × Once vs

abbrev pub term_schema : List Column
term_schema = int_column id_name ∷ int_column class_name ∷ int_column number_name ∷ text_column text_name ∷ text_column aux_name ∷ []

-- one more source in scope, under an alias
abbrev pub scope_with : Name → List Column → Scope → Scope
scope_with alias schema scope a c = if bytes_eq a alias then kind_under schema c else scope a c

-- the columns of the terms of these variables are in scope
abbrev pub TermsSeen : List ℕ → Scope → Type 0
TermsSeen us s = (u : ℕ) → has us u ≡ true → (c : Name) → s (term_alias u) c ≡ kind_under term_schema c
