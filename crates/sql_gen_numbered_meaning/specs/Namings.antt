-- Namings of steps (this project's own).
use Rattle.std.specs.Prelude.{◌≡◌, ℕ, ◌<◌, ◌==◌, Bool, false, List, [], ◌∷◌, ◌++◌, codes}
use Rattle.std.specs.Fmt.{decimal}
use Rattle.std.specs.List.{list_any}
use Rattle.std.specs.Str.{bytes_eq}
use Rattle.rdf_meaning.specs.declared.side.SideName.TheVariants.{Direct, Reverse}
use Rattle.sql_gen_step_laws.specs.Carried.{Name}
use Rattle.sql_gen_numbered_meaning.specs.Numbered.{primary_name, lists_name, terms_name}

-- the five tables
abbrev pub table_names : List Name
table_names = primary_name Direct ∷ lists_name Direct ∷ primary_name Reverse ∷ lists_name Reverse ∷ terms_name ∷ []

-- one of the five tables
abbrev pub is_table : Name → Bool
is_table n = list_any (bytes_eq n) table_names

-- the numbers below n have names of their own, which are none of the five tables'
pub record KeepsApart (n : ℕ) (name : ℕ → Name) : Type 0 where
  pub own : (i j : ℕ) → i < n → j < n → bytes_eq (name i) (name j) ≡ (i == j)
  pub no_table : (i : ℕ) → i < n → is_table (name i) ≡ false

-- the names that are written: s and the decimal number
abbrev pub step_name : ℕ → Name
step_name n = codes "s" ++ decimal n
