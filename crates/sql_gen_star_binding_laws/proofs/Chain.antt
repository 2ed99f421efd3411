-- The steps of a star bind, one behind the other.
use Rattle.std.proofs.Common.{◌≡◌, ℕ, zero, suc, ◌+◌, ◌<◌, ◌≤◌, Bool, true, false, if◌then◌else◌, ◌==◌, List, [], ◌∷◌, length, Some, None, is_some, refl, sym, ap, ◌∙◌, subst, arith, bytes_eq}
use Rattle.std.specs.Prelude.{Ok}
use Rattle.std.proofs.lemmas.Bool.{eq-eqb, eqb-true, or_from, or_left, or_right, false_from_ne_true}
use Rattle.std.proofs.lemmas.Slice.Eq.{bytes_eq-Decides}
use Rattle.std.specs.List.{AllByRecursion}
use Rattle.table_meaning.specs.declared.schema.Column.{Column}
use Rattle.sql_meaning.specs.declared.script.Core.{Core}
use Rattle.sql_rows_meaning.specs.Faults.{in_select}
use Rattle.sql_rows_meaning.specs.Scopes.{Schemas, with_schema}
use Rattle.sql_rows_meaning.specs.Binding.{check_select, check_others, check_body}
use Rattle.layout_standing_meaning.specs.Schemas.{primary_schema, list_schema}
use Rattle.sql_gen_step_laws.specs.Carried.{Name}
use Rattle.sql_gen_step_laws.specs.StepSelects.{has}
use Rattle.sql_gen_binding_laws.specs.StepColumns.{step_schema, Once}
use Rattle.sql_gen_binding_laws.specs.StepBinds.{then_fine}
use Rattle.sql_gen_chain_binding_laws.specs.StepsBind.{StepsBind, no_step, one_step}
use Rattle.sql_gen_star_meaning.specs.declared.arm.Asked.{Asked}
use Rattle.sql_gen_star_meaning.specs.declared.arm.StarArm.{StarArm}
use Rattle.sql_gen_star_meaning.specs.Asked.{asked_vars}
use Rattle.sql_gen_star_meaning.specs.StarSelects.{access_core, open_core}
use Rattle.sql_gen_star_meaning.specs.Openings.{Opening, openings_from, access_arms, cells_of, opening_steps, last_name, arms_steps, arms_last, open_vars, AllAskable}
use Rattle.sql_gen_star_binding_laws.specs.StarColumns.{partial_schema}
use Rattle.sql_gen_star_binding_laws.specs.StarSchemas.{with_openings, with_arms, AreNew}
use Rattle.sql_gen_star_binding_laws.proofs.InSight.{no-cells}
use Rattle.sql_gen_star_binding_laws.proofs.Parts.{asked_once, entity_once}
use Rattle.sql_gen_star_binding_laws.proofs.AccessBinds.{access_fine}
use Rattle.sql_gen_star_binding_laws.proofs.OpenBinds.{open_fine}

lone_fine : (s : Schemas) (c : Core) (columns : List Column) → check_select s None c ≡ Ok columns → (n : ℕ) → check_body s n (c ∷ []) ≡ Ok columns
lone_fine s c columns e n = then_fine (in_select n (check_select s None c)) columns (λ first. check_others s (n + 1) first []) (ap (in_select n) e)

-- ---- names

-- what is there has another name than what isn't
other_name : (s : Schemas) (x y : Name) (columns : List Column) → s x ≡ Some columns → is_some (s y) ≡ false → bytes_eq x y ≡ false
other_name s x y columns e f = false_from_ne_true _ (λ t.
    let same : x ≡ y = (bytes_eq-Decides x y).0 t in
    let there : s y ≡ Some columns = subst (λ (z : Name). s z ≡ Some columns) same e in
    let no : true ≡ false = ap is_some (sym there) ∙ f in cc)

here : (s : Schemas) (n : Name) (columns : List Column) → with_schema n columns s n ≡ Some columns
here s n columns = ap (λ (b : Bool). if b then Some columns else s n) ((bytes_eq-Decides n n).1 refl)

still : (s : Schemas) (n x : Name) (columns : List Column) → bytes_eq x n ≡ false → with_schema n columns s x ≡ s x
still s n x columns e = ap (λ (b : Bool). if b then Some columns else s x) e

-- the steps behind the first are new over it
new-behind : (name : ℕ → Name) (n k : ℕ) (s : Schemas) (columns : List Column) → AreNew name n (suc k) s → AreNew name (suc n) k (with_schema (name n) columns s)
new-behind name n k s columns a = record {
  free = λ m l h. ap is_some (still s (name n) (name m) columns (a.apart n m (omega arith) (omega arith) (omega arith))) ∙ a.free m (omega arith) (omega arith);
  apart = λ i j l h u. a.apart i j (omega arith) h (omega arith);
}

first-free : (name : ℕ → Name) (n k : ℕ) (s : Schemas) → AreNew name n (suc k) s → is_some (s (name n)) ≡ false
first-free name n k s a = a.free n (omega arith) (omega arith)

-- ---- the steps of arms

pub openings_fine : (name : ℕ → Name) (lists : Name) (n : ℕ) (before : Name) (vs cells : List ℕ) (arms : List Opening) (s : Schemas) → s before ≡ Some (partial_schema vs cells) → s lists ≡ Some list_schema →
    Once vs → Once (cells_of arms) → ((j : ℕ) → has (cells_of arms) j ≡ true → has cells j ≡ true) → AllAskable vs arms → AreNew name n (length arms) s →
    StepsBind (opening_steps name lists n before vs arms) s (with_openings name n vs arms s)
openings_fine name lists n before vs cells [] s hb hl ov oc within ask new = no_step s
openings_fine name lists n before vs cells (a ∷ arms) s hb hl ov oc within ask new =
    let us = asked_vars a.asked vs in
    let kept = cells_of arms in
    let columns = partial_schema us kept in
    let c = open_core before lists vs a.number kept a.asked in
    let s1 : Schemas = with_schema (name n) columns s in
    let own : has (cells_of (a ∷ arms)) a.number ≡ true = or_left _ _ (eq-eqb a.number a.number refl) in
    let free = first-free name n (length arms) s new in
    let bound = open_fine s before lists vs cells hb hl ov a.number kept a.asked (within a.number own) (λ j h. within j (or_right _ _ h)) oc.1 ask.0 in
    let lists_stay : s1 lists ≡ Some list_schema = still s (name n) lists columns (other_name s lists (name n) list_schema hl free) ∙ hl in
    one_step (record { name = name n; body = record { cores = c ∷ [] } }) (opening_steps name lists (suc n) (name n) us arms) s (with_openings name (suc n) us arms s1) columns free (lone_fine s c columns bound)
    (openings_fine name lists (suc n) (name n) us kept arms s1 (here s (name n) columns) lists_stay (asked_once vs a.asked ov ask.0) oc.1 (λ j h. h) ask.1 (new-behind name n (length arms) s columns new))

-- the last one has no cell left
last_there : (name : ℕ → Name) (n : ℕ) (before : Name) (vs : List ℕ) (arms : List Opening) (s : Schemas) → s before ≡ Some (partial_schema vs (cells_of arms)) →
    with_openings name n vs arms s (last_name name n before arms) ≡ Some (partial_schema (open_vars vs arms) [])
last_there name n before vs [] s e = e
last_there name n before vs (a ∷ arms) s e =
    let columns = partial_schema (asked_vars a.asked vs) (cells_of arms) in
    last_there name (suc n) (name n) (asked_vars a.asked vs) arms (with_schema (name n) columns s) (here s (name n) columns)

as_step : (vs : List ℕ) → Some (partial_schema vs []) ≡ Some (step_schema vs)
as_step vs = ap (λ (cs : List Column). Some cs) (no-cells vs)

pub openings_there : (name : ℕ → Name) (n : ℕ) (before : Name) (vs : List ℕ) (a : Opening) (arms : List Opening) (s : Schemas) →
    with_openings name n vs (a ∷ arms) s (last_name name n before (a ∷ arms)) ≡ Some (step_schema (open_vars vs (a ∷ arms)))
openings_there name n before vs a arms s =
    let us = asked_vars a.asked vs in
    let columns = partial_schema us (cells_of arms) in
    last_there name (suc n) (name n) us arms (with_schema (name n) columns s) (here s (name n) columns) ∙ as_step (open_vars us arms)

-- what has another name stays
pub openings_keep : (name : ℕ → Name) (n : ℕ) (vs : List ℕ) (arms : List Opening) (s : Schemas) (x : Name) → ((m : ℕ) → n ≤ m → m < n + length arms → bytes_eq x (name m) ≡ false) → with_openings name n vs arms s x ≡ s x
openings_keep name n vs [] s x other = refl
openings_keep name n vs (a ∷ arms) s x other =
    let columns = partial_schema (asked_vars a.asked vs) (cells_of arms) in
    openings_keep name (suc n) (asked_vars a.asked vs) arms (with_schema (name n) columns s) x (λ m l h. other m (omega arith) (omega arith)) ∙ still s (name n) x columns (other n (omega arith) (omega arith))

-- ---- the access step and the steps of its arms

openings-length : (i : ℕ) (arms : List StarArm) → length (openings_from i arms) ≡ length arms
openings-length i [] = refl
openings-length i (a ∷ arms) = let r = openings-length (suc i) arms in omega (arith, r)

unlike : (i j : ℕ) → j < i → (i == j) ≡ false
unlike i j l = false_from_ne_true _ (λ e. let q : i ≡ j = eqb-true i j e in absurd (omega arith))

-- cells are numbered on
not_before : (i : ℕ) (arms : List StarArm) (j : ℕ) → j < i → has (cells_of (openings_from i arms)) j ≡ false
not_before i [] j l = refl
not_before i (a ∷ arms) j l = or_from _ _ (unlike i j l) (not_before (suc i) arms j (omega arith))

pub cells_once : (i : ℕ) (arms : List StarArm) → Once (cells_of (openings_from i arms))
cells_once i [] = tt
cells_once i (a ∷ arms) = (not_before (suc i) arms i (omega arith), cells_once (suc i) arms)

each_arm : (k : ℕ) (arms : List StarArm) → AllByRecursion (λ (b : StarArm). AllByRecursion (λ c. c < k) b.columns) arms → (i : ℕ) → AllByRecursion (λ c. c < k) (access_arms arms i).columns
each_arm k [] all i = tt
each_arm k (a ∷ arms) all zero = all.0
each_arm k (a ∷ arms) all (suc i) = each_arm k arms all.1 i

shorter : (name : ℕ → Name) (n k l : ℕ) (s : Schemas) → k ≡ l → AreNew name n k s → AreNew name n l s
shorter name n k l s e a = subst (λ (m : ℕ). AreNew name n m s) e a

pub arms_fine : (name : ℕ → Name) (primary lists : Name) (n k : ℕ) (s : Schemas) → s primary ≡ Some (primary_schema k) → s lists ≡ Some list_schema → (first : Bool) (entity : Asked) (arms : List StarArm) →
    AllByRecursion (λ (b : StarArm). AllByRecursion (λ c. c < k) b.columns) arms → AllAskable (asked_vars entity []) (openings_from 0 arms) → AreNew name n (suc (length arms)) s →
    StepsBind (arms_steps name primary lists n first entity arms) s (with_arms name n entity arms s)
arms_fine name primary lists n k s hp hl first entity arms columns ask new =
    let us = asked_vars entity [] in
    let cells = cells_of (openings_from 0 arms) in
    let own = partial_schema us cells in
    let c = access_core primary first entity (access_arms arms) cells in
    let s1 : Schemas = with_schema (name n) own s in
    let free = first-free name n (length arms) s new in
    let bound = access_fine s primary k hp first entity (access_arms arms) (each_arm k arms columns) cells (cells_once 0 arms) in
    let lists_stay : s1 lists ≡ Some list_schema = still s (name n) lists own (other_name s lists (name n) list_schema hl free) ∙ hl in
    one_step (record { name = name n; body = record { cores = c ∷ [] } }) (opening_steps name lists (suc n) (name n) us (openings_from 0 arms)) s (with_arms name n entity arms s) own free (lone_fine s c own bound)
    (openings_fine name lists (suc n) (name n) us cells (openings_from 0 arms) s1 (here s (name n) own) lists_stay (entity_once entity) (cells_once 0 arms) (λ j h. h) ask
    (shorter name (suc n) (length arms) (length (openings_from 0 arms)) s1 (sym (openings-length 0 arms)) (new-behind name n (length arms) s own new)))

pub arms_there : (name : ℕ → Name) (n : ℕ) (entity : Asked) (arms : List StarArm) (s : Schemas) →
    with_arms name n entity arms s (arms_last name n arms) ≡ Some (step_schema (open_vars (asked_vars entity []) (openings_from 0 arms)))
arms_there name n entity arms s =
    let us = asked_vars entity [] in
    let own = partial_schema us (cells_of (openings_from 0 arms)) in
    last_there name (suc n) (name n) us (openings_from 0 arms) (with_schema (name n) own s) (here s (name n) own) ∙ as_step (open_vars us (openings_from 0 arms))
