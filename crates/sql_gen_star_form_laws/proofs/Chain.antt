-- The steps of a star, one behind the other.
use Rattle.std.proofs.Common.{◌≡◌, ℕ, suc, ◌+◌, ◌≤◌, Bool, true, false, List, [], ◌∷◌, map, length, refl, arith}
use Rattle.std.proofs.lemmas.Bool.{and_from}
use Rattle.std.specs.List.{AllByRecursion}
use Rattle.table_meaning.specs.Names.{is_name}
use Rattle.sql_meaning.specs.declared.script.Core.{Core}
use Rattle.sql_meaning.specs.declared.script.Step.{Step}
use Rattle.sql_meaning.specs.Scripts.{total, all_of, is_primary, core_refs, step_refs}
use Rattle.sql_gen_step_laws.specs.Carried.{Name}
use Rattle.sql_gen_form_laws.specs.Fits.{AreVariables, CoreFits, step_fits}
use Rattle.sql_gen_form_laws.proofs.Bodies.{lone-body, body-fits, step-fits}
use Rattle.sql_gen_star_meaning.specs.declared.arm.Asked.{Asked}
use Rattle.sql_gen_star_meaning.specs.declared.arm.StarArm.{StarArm}
use Rattle.sql_gen_star_meaning.specs.Asked.{asked_vars}
use Rattle.sql_gen_star_meaning.specs.StarSelects.{access_core, open_core}
use Rattle.sql_gen_star_meaning.specs.Openings.{Opening, openings_from, access_arm, access_arms, cells_of, opening_steps, arms_steps}
use Rattle.sql_gen_star_form_laws.specs.StarForms.{AskedFits, ArmFits, TwoDigits, OpeningFits, StarArmFits, AreNames, AreNoPrimary}
use Rattle.sql_gen_star_form_laws.proofs.Access.{access-fits, access-refs, vars-below}
use Rattle.sql_gen_star_form_laws.proofs.Open.{open-fits, open-no_refs}
use Rattle.sql_gen_star_form_laws.proofs.Cells.{cells-read}

abbrev one_step : Name → Core → Step
one_step n c = record { name = n; body = record { cores = c ∷ [] } }

lone-fits : (n : Name) (c : Core) → is_name n ≡ true → CoreFits 4 c → step_fits (one_step n c) ≡ true
lone-fits n c p f = step-fits (one_step n c) p (body-fits 4 (record { cores = c ∷ [] }) (omega arith) (lone-body 4 c f))

kept-digits : (arms : List Opening) → AllByRecursion OpeningFits arms → AllByRecursion TwoDigits (cells_of arms)
kept-digits [] all = tt
kept-digits (a ∷ arms) all = (all.0.number, kept-digits arms all.1)

pub openings-fit : (name : ℕ → Name) (lists : Name) → is_name lists ≡ true → (n : ℕ) (before : Name) → is_name before ≡ true → (vs : List ℕ) → AreVariables vs → (arms : List Opening) → AllByRecursion OpeningFits arms → AreNames name n (length arms) →
    all_of step_fits (opening_steps name lists n before vs arms) ≡ true
openings-fit name lists q n before p vs wv [] all names = refl
openings-fit name lists q n before p vs wv (a ∷ arms) all names =
    let here : is_name (name n) ≡ true = names n (omega arith) (omega arith) in
    let c = open_core before lists vs a.number (cells_of arms) a.asked in
    and_from _ _ (lone-fits (name n) c here (open-fits before lists p q vs wv a.number all.0.number (cells_of arms) (kept-digits arms all.1) a.asked all.0.asked))
    (openings-fit name lists q (suc n) (name n) here (asked_vars a.asked vs) (vars-below a.asked all.0.asked vs wv) arms all.1 (λ m l k. names m (omega arith) (omega arith)))

no-more : (a b : ℕ) → a ≡ 0 → b ≡ 0 → a + 0 + b ≡ 0
no-more a b e f = omega arith

pub openings-no_refs : (name : ℕ → Name) (lists : Name) → is_primary lists ≡ false → (n : ℕ) (before : Name) → is_primary before ≡ false → (vs : List ℕ) (arms : List Opening) → AreNoPrimary name n (length arms) →
    total (map step_refs (opening_steps name lists n before vs arms)) ≡ 0
openings-no_refs name lists q n before p vs [] names = refl
openings-no_refs name lists q n before p vs (a ∷ arms) names =
    let here : is_primary (name n) ≡ false = names n (omega arith) (omega arith) in
    no-more (core_refs (open_core before lists vs a.number (cells_of arms) a.asked)) (total (map step_refs (opening_steps name lists (suc n) (name n) (asked_vars a.asked vs) arms)))
    (open-no_refs before lists p q vs a.number (cells_of arms) a.asked)
    (openings-no_refs name lists q (suc n) (name n) here (asked_vars a.asked vs) arms (λ m l k. names m (omega arith) (omega arith)))

-- ---- the arms of a star

pub openings-length : (i : ℕ) (arms : List StarArm) → length (openings_from i arms) ≡ length arms
openings-length i [] = refl
openings-length i (a ∷ arms) = let r = openings-length (suc i) arms in omega (arith, r)

openings-each : (i : ℕ) (arms : List StarArm) → AllByRecursion StarArmFits arms → i + length arms ≤ 100 → AllByRecursion OpeningFits (openings_from i arms)
openings-each i [] all l = tt
openings-each i (a ∷ arms) all l = (record { number = omega arith; asked = all.0.asked }, openings-each (suc i) arms all.1 (omega arith))

arms-each : (arms : List StarArm) → AllByRecursion StarArmFits arms → AllByRecursion (λ (a : StarArm). ArmFits (access_arm a)) arms
arms-each [] all = tt
arms-each (a ∷ arms) all = (all.0.arm, arms-each arms all.1)

pub arms-fit : (name : ℕ → Name) (primary lists : Name) → is_name primary ≡ true → is_name lists ≡ true → (n : ℕ) (first : Bool) (entity : Asked) → AskedFits entity → (arms : List StarArm) → AllByRecursion StarArmFits arms → length arms ≤ 100 →
    AreNames name n (1 + length arms) → all_of step_fits (arms_steps name primary lists n first entity arms) ≡ true
arms-fit name primary lists p q n first entity w arms all few names =
    let here : is_name (name n) ≡ true = names n (omega arith) (omega arith) in
    let same = openings-length 0 arms in
    and_from _ _ (lone-fits (name n) (access_core primary first entity (access_arms arms) (cells_of (openings_from 0 arms))) here (access-fits primary p first entity w (access_arms arms) (cells_of (openings_from 0 arms)) (cells-read arms (arms-each arms all) few)))
    (openings-fit name lists q (suc n) (name n) here (asked_vars entity []) (vars-below entity w [] tt) (openings_from 0 arms) (openings-each 0 arms all (omega arith)) (λ m l k. names m (omega arith) (omega (arith, same))))

one-in_all : (a b : ℕ) → a ≡ 1 → b ≡ 0 → a + 0 + b ≡ 1
one-in_all a b e f = omega arith

pub arms-one_ref : (name : ℕ → Name) (primary lists : Name) → is_primary primary ≡ true → is_primary lists ≡ false → (n : ℕ) (first : Bool) (entity : Asked) (arms : List StarArm) → AreNoPrimary name n (1 + length arms) →
    total (map step_refs (arms_steps name primary lists n first entity arms)) ≡ 1
arms-one_ref name primary lists p q n first entity arms names =
    let here : is_primary (name n) ≡ false = names n (omega arith) (omega arith) in
    let same = openings-length 0 arms in
    one-in_all (core_refs (access_core primary first entity (access_arms arms) (cells_of (openings_from 0 arms)))) (total (map step_refs (opening_steps name lists (suc n) (name n) (asked_vars entity []) (openings_from 0 arms))))
    (access-refs primary p first entity (access_arms arms) (cells_of (openings_from 0 arms)))
    (openings-no_refs name lists q (suc n) (name n) here (asked_vars entity []) (openings_from 0 arms) (λ m l k. names m (omega arith) (omega (arith, same))))
