-- The numbered steps of a star (this project's own), numbered from 0.
use Rattle.std.specs.Prelude.{ℕ, ◌+◌, Bool, List, [], ◌∷◌, ◌++◌, length}
use Rattle.rdf_meaning.specs.declared.side.SideName.{SideName}
use Rattle.sql_gen_star_meaning.specs.declared.arm.Asked.{Asked}
use Rattle.sql_gen_star_meaning.specs.declared.arm.StarArm.{StarArm}
use Rattle.sql_gen_star_meaning.specs.Asked.{asked_vars}
use Rattle.sql_gen_star_meaning.specs.Openings.{Opening, openings_from, cells_of, open_vars}
use Rattle.sql_gen_numbered_meaning.specs.declared.numbered.NumberedBody.{NumberedBody}
use Rattle.sql_gen_numbered_meaning.specs.declared.numbered.NumberedBody.TheVariants.{Access, Pairs, Open, United}

-- a step for each arm: the first one has the number n and reads the step before, each other one that in front of it
abbrev pub numbered_openings : SideName → ℕ → ℕ → List ℕ → List Opening → List NumberedBody
numbered_openings side n before vs [] = []
numbered_openings side n before vs (a ∷ arms) = Open side before vs a.number (cells_of arms) a.asked ∷ numbered_openings side (n + 1) n (asked_vars a.asked vs) arms

-- the number of the last of them
abbrev pub numbered_last : ℕ → ℕ → List Opening → ℕ
numbered_last n before [] = before
numbered_last n before (a ∷ arms) = numbered_last (n + 1) n arms

-- arms whose predicates are constants: the access step, and a step for each arm
abbrev pub numbered_arms : SideName → Bool → Asked → List StarArm → List NumberedBody
numbered_arms side spilled entity arms = Access side spilled entity arms ∷ numbered_openings side 1 0 (asked_vars entity []) (openings_from 0 arms)

-- one arm whose predicate is a variable: the step of pairs, and the arm's
abbrev pub numbered_pairs : SideName → Asked → Asked → Asked → ℕ → List NumberedBody
numbered_pairs side entity predicate value columns =
    Pairs side entity predicate columns ∷ numbered_openings side 1 0 (asked_vars predicate (asked_vars entity [])) (record { number = 0; asked = value } ∷ [])

-- two lists of arms: one access step for both, the steps of the first list, those of the second, and both lists' rows
abbrev pub numbered_either : SideName → Bool → Asked → List StarArm → List StarArm → List NumberedBody
numbered_either side spilled entity left right =
    let bound : List ℕ = asked_vars entity [] in
    let first : List Opening = openings_from 0 left in
    let second : List Opening = openings_from (length left) right in
    Access side spilled entity (left ++ right)
    ∷ (numbered_openings side 1 0 bound first
    ++ (numbered_openings side (1 + length left) 0 bound second
    ++ United (numbered_last 1 0 first) (numbered_last (1 + length left) 0 second) (open_vars bound first) (open_vars bound second) ∷ []))
