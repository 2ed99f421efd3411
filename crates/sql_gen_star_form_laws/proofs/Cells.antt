-- The cells of the arms of a star.
use Rattle.std.proofs.Common.{◌≡◌, ℕ, suc, ◌+◌, ◌≤◌, List, [], ◌∷◌, length, refl, sym, subst, arith}
use Rattle.std.specs.List.{AllByRecursion}
use Rattle.sql_gen_star_meaning.specs.Partials.{AccessArm}
use Rattle.sql_gen_star_meaning.specs.declared.arm.StarArm.{StarArm}
use Rattle.sql_gen_star_meaning.specs.Openings.{openings_from, access_arm, access_arms, cells_of}
use Rattle.sql_gen_star_form_laws.specs.StarForms.{ArmFits, TwoDigits, CellFits}

pub cells-kept : (i : ℕ) (arms : List StarArm) → i + length arms ≤ 100 → AllByRecursion TwoDigits (cells_of (openings_from i arms))
cells-kept i [] l = tt
cells-kept i (a ∷ arms) l = (omega arith, cells-kept (suc i) arms (omega arith))

-- the arms stand in an access step from the number i on
cells-from : (access : ℕ → AccessArm) (i : ℕ) (arms : List StarArm) → ((j : ℕ) → access (i + j) ≡ access_arms arms j) → AllByRecursion (λ (a : StarArm). ArmFits (access_arm a)) arms → i + length arms ≤ 100 → AllByRecursion (CellFits access) (cells_of (openings_from i arms))
cells-from access i [] at all l = tt
cells-from access i (a ∷ arms) at all l =
    let here : access i ≡ access_arm a = subst (λ (m : ℕ). access m ≡ access_arm a) (nil i) (at 0) in
    (record { number = omega arith; arm = subst ArmFits (sym here) all.0 }, cells-from access (suc i) arms (λ j. subst (λ (m : ℕ). access m ≡ access_arms arms j) (next i j) (at (suc j))) all.1 (omega arith))
  where
    nil : (i : ℕ) → i + 0 ≡ i
    nil i = omega arith

    next : (i j : ℕ) → i + suc j ≡ suc i + j
    next i j = omega arith

zero-more : (j : ℕ) → 0 + j ≡ j
zero-more j = omega arith

pub cells-read : (arms : List StarArm) → AllByRecursion (λ (a : StarArm). ArmFits (access_arm a)) arms → length arms ≤ 100 → AllByRecursion (CellFits (access_arms arms)) (cells_of (openings_from 0 arms))
cells-read arms all l = cells-from (access_arms arms) 0 arms (λ j. subst (λ (m : ℕ). access_arms arms m ≡ access_arms arms j) (sym (zero-more j)) refl) all (omega arith)
