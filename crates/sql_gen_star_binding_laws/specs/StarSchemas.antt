-- What stands behind the steps of a star (this project's own).
use Rattle.std.specs.Prelude.{◌≡◌, ℕ, suc, ◌+◌, ◌<◌, ◌≤◌, false, List, [], ◌∷◌, is_some}
use Rattle.std.specs.Str.{bytes_eq}
use Rattle.sql_rows_meaning.specs.Scopes.{Schemas, with_schema}
use Rattle.sql_gen_step_laws.specs.Carried.{Name}
use Rattle.sql_gen_star_meaning.specs.declared.arm.Asked.{Asked}
use Rattle.sql_gen_star_meaning.specs.declared.arm.StarArm.{StarArm}
use Rattle.sql_gen_star_meaning.specs.Asked.{asked_vars}
use Rattle.sql_gen_star_meaning.specs.Openings.{Opening, openings_from, cells_of}
use Rattle.sql_gen_star_binding_laws.specs.StarColumns.{partial_schema}

-- a step for each arm, numbered from n on, where the variables vs are bound before
abbrev pub with_openings : (ℕ → Name) → ℕ → List ℕ → List Opening → Schemas → Schemas
with_openings name n vs [] s = s
with_openings name n vs (a ∷ arms) s = with_openings name (suc n) (asked_vars a.asked vs) arms (with_schema (name n) (partial_schema (asked_vars a.asked vs) (cells_of arms)) s)

-- the access step n, and a step for each arm
abbrev pub with_arms : (ℕ → Name) → ℕ → Asked → List StarArm → Schemas → Schemas
with_arms name n entity arms s =
    with_openings name (suc n) (asked_vars entity []) (openings_from 0 arms) (with_schema (name n) (partial_schema (asked_vars entity []) (cells_of (openings_from 0 arms))) s)

-- k steps from the number n on have names that nothing has yet, each a name of its own
pub record AreNew (name : ℕ → Name) (n k : ℕ) (s : Schemas) : Type 0 where
  pub free : (m : ℕ) → n ≤ m → m < n + k → is_some (s (name m)) ≡ false
  pub apart : (i j : ℕ) → n ≤ i → i < j → j < n + k → bytes_eq (name j) (name i) ≡ false
