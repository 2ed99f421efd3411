-- The numbered steps of a star under a naming are the star's steps.
use Rattle.std.specs.Prelude.{◌≡◌, ℕ, suc, ◌+◌, Bool, not, List, [], ◌∷◌, refl}
use Rattle.std.proofs.Common.{ap, ◌∙◌, arith}
use Rattle.rdf_meaning.specs.declared.side.SideName.{SideName}
use Rattle.sql_meaning.specs.declared.script.Core.{Core}
use Rattle.sql_meaning.specs.declared.script.Step.{Step}
use Rattle.sql_gen_step_laws.specs.Carried.{Name}
use Rattle.sql_gen_star_meaning.specs.declared.arm.Asked.{Asked}
use Rattle.sql_gen_star_meaning.specs.declared.arm.StarArm.{StarArm}
use Rattle.sql_gen_star_meaning.specs.Asked.{asked_vars}
use Rattle.sql_gen_star_meaning.specs.StarSelects.{access_core, open_core}
use Rattle.sql_gen_star_meaning.specs.Openings.{Opening, openings_from, access_arms, cells_of, opening_steps, last_name, arms_steps, arms_last}
use Rattle.sql_gen_numbered_meaning.specs.Numbered.{primary_name, lists_name, lone, written_from, written}
use Rattle.sql_gen_numbered_meaning.specs.NumberedStars.{numbered_openings, numbered_last, numbered_arms}

one-more : (n : ℕ) → n + 1 ≡ suc n
one-more n = omega arith

abbrev step_with : Name → Core → Step
step_with n c = record { name = n; body = lone c }

pub openings-written : (name : ℕ → Name) (side : SideName) (n before : ℕ) (vs : List ℕ) (arms : List Opening) → written_from name n (numbered_openings side n before vs arms) ≡ opening_steps name (lists_name side) n (name before) vs arms
openings-written name side n before vs [] = refl
openings-written name side n before vs (a ∷ arms) =
    ap (λ (ss : List Step). step_with (name n) (open_core (name before) (lists_name side) vs a.number (cells_of arms) a.asked) ∷ ss)
    (openings-written name side (n + 1) n (asked_vars a.asked vs) arms ∙ ap (λ m. opening_steps name (lists_name side) m (name n) (asked_vars a.asked vs) arms) (one-more n))

pub last-written : (name : ℕ → Name) (n before : ℕ) (arms : List Opening) → name (numbered_last n before arms) ≡ last_name name n (name before) arms
last-written name n before [] = refl
last-written name n before (a ∷ arms) = last-written name (n + 1) n arms ∙ ap (λ m. last_name name m (name n) arms) (one-more n)

-- the access step and the steps of all arms
pub arms-written : (name : ℕ → Name) (side : SideName) (spilled : Bool) (entity : Asked) (arms : List StarArm) → written name (numbered_arms side spilled entity arms) ≡ arms_steps name (primary_name side) (lists_name side) 0 (not spilled) entity arms
arms-written name side spilled entity arms =
    ap (λ (ss : List Step). step_with (name 0) (access_core (primary_name side) (not spilled) entity (access_arms arms) (cells_of (openings_from 0 arms))) ∷ ss)
    (openings-written name side 1 0 (asked_vars entity []) (openings_from 0 arms))

pub arms_last-written : (name : ℕ → Name) (arms : List StarArm) → name (numbered_last 1 0 (openings_from 0 arms)) ≡ arms_last name 0 arms
arms_last-written name arms = last-written name 1 0 (openings_from 0 arms)
