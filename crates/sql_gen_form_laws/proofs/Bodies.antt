-- Bodies, steps and scripts of SELECTs that fit.
use Rattle.std.proofs.Common.{◌≡◌, ℕ, ◌≤◌, true, nat_le, List, [], ◌∷◌, map, refl, arith}
use Rattle.std.specs.Prelude.{max}
use Rattle.std.proofs.lemmas.Bool.{and_from, and_parts, le-leb, leb-true}
use Rattle.std.specs.List.{AllByRecursion}
use Rattle.table_meaning.specs.Names.{is_name}
use Rattle.sql_meaning.specs.declared.script.Body.{Body}
use Rattle.sql_meaning.specs.declared.script.Core.{Core}
use Rattle.sql_meaning.specs.declared.script.Step.{Step}
use Rattle.sql_meaning.specs.Scripts.{largest, all_of, most_levels, core_form, core_depth, is_plain, body_form, body_depth, step_form, step_depth, depth_of, is_writable}
use Rattle.sql_gen_form_laws.specs.Fits.{CoreFits, BodyFits, body_fits, step_fits}

both_below : (a b n : ℕ) → a ≤ n → b ≤ n → max a b ≤ n
both_below a b n l m = omega arith

pub core-more : (n m : ℕ) (c : Core) → n ≤ m → CoreFits n c → CoreFits m c
core-more n m c l p = record { form = p.form; depth = omega (arith, p.depth) }

each-form : (n : ℕ) (cs : List Core) → AllByRecursion (CoreFits n) cs → all_of core_form cs ≡ true
each-form n [] all = refl
each-form n (c ∷ cs) all = and_from _ _ all.0.form (each-form n cs all.1)

each-depth : (n : ℕ) (cs : List Core) → AllByRecursion (CoreFits n) cs → largest (map core_depth cs) ≤ n
each-depth n [] all = omega arith
each-depth n (c ∷ cs) all = both_below (core_depth c) (largest (map core_depth cs)) n all.0.depth (each-depth n cs all.1)

pub lone-body : (n : ℕ) (c : Core) → CoreFits n c → BodyFits n (record { cores = c ∷ [] })
lone-body n c p = record { form = p.form; depth = each-depth n (c ∷ []) (p, tt) }

-- one SELECT or more, all plain
pub plain-bodies : (n : ℕ) (c : Core) (cs : List Core) → AllByRecursion (CoreFits n) (c ∷ cs) → all_of is_plain (c ∷ cs) ≡ true → BodyFits n (record { cores = c ∷ cs })
plain-bodies n c [] all plain = lone-body n c all.0
plain-bodies n c (d ∷ cs) all plain = record { form = and_from _ _ (each-form n (c ∷ d ∷ cs) all) plain; depth = each-depth n (c ∷ d ∷ cs) all }

pub body-fits : (n : ℕ) (b : Body) → n ≤ most_levels → BodyFits n b → body_fits b ≡ true
body-fits n b l p = and_from _ _ p.form (le-leb _ most_levels (below (body_depth b) n most_levels p.depth l))
  where
    below : (a n m : ℕ) → a ≤ n → n ≤ m → a ≤ m
    below a n m p q = omega arith

pub step-fits : (s : Step) → is_name s.name ≡ true → body_fits s.body ≡ true → step_fits s ≡ true
step-fits s p e = let h = and_parts (body_form s.body) (nat_le (body_depth s.body) most_levels) e in and_from _ _ (and_from _ _ p h.0) h.1

-- ---- scripts

steps-parts : (ss : List Step) → all_of step_fits ss ≡ true → (all_of step_form ss ≡ true) × (largest (map step_depth ss) ≤ most_levels)
steps-parts [] e = (refl, omega arith)
steps-parts (s ∷ ss) e =
    let h = and_parts (step_fits s) (all_of step_fits ss) e in
    let k = and_parts (step_form s) (nat_le (step_depth s) most_levels) h.0 in
    let r = steps-parts ss h.1 in
    (and_from (step_form s) (all_of step_form ss) k.0 r.0, both_below (step_depth s) (largest (map step_depth ss)) most_levels (leb-true (step_depth s) most_levels k.1) r.1)

pub script-writable : (steps : List Step) (last : Body) → all_of step_fits steps ≡ true → body_fits last ≡ true → is_writable (record { steps = steps; last = last }) ≡ true
script-writable steps last e h =
    let r = steps-parts steps e in
    let k = and_parts (body_form last) (nat_le (body_depth last) most_levels) h in
    and_from (nat_le (depth_of (record { steps = steps; last = last })) most_levels) _
    (le-leb _ most_levels (both_below (largest (map step_depth steps)) (body_depth last) most_levels r.1 (leb-true (body_depth last) most_levels k.1))) (and_from (all_of step_form steps) (body_form last) r.0 k.0)
