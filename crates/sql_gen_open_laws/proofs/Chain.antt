-- The steps of the arms, one after another.
use Rattle.std.proofs.Common.{◌≡◌, ℕ, zero, suc, ◌+◌, ◌^◌, ◌≤◌, ◌<◌, Bool, true, false, List, [], ◌∷◌, length, sym, refl, ap, ◌∙◌, subst, arith, ◌==◌, bytes_eq}
use Rattle.std.proofs.lemmas.Bool.{eq-eqb, or_left, or_right}
use Rattle.std.proofs.lemmas.List.{append-nil}
use Rattle.std.proofs.lemmas.Slice.Eq.{bytes_eq-Decides}
use Rattle.std.specs.List.{flat_map, AllByRecursion}
use Rattle.bags.specs.Bag.{SameBag}
use Rattle.table_meaning.specs.declared.cell.Cell.{Cell}
use Rattle.sql_meaning.specs.declared.script.Core.{Core}
use Rattle.sql_rows_meaning.specs.Tables.{Relation, Relations, with_relation}
use Rattle.sql_rows_meaning.specs.Selects.{select_rows}
use Rattle.sql_rows_meaning.specs.Rows.{body_names, body_relation, after_steps}
use Rattle.layout_meaning.specs.Side.{ValueLists}
use Rattle.layout_meaning.specs.Sound.{numbered}
use Rattle.layout_standing_meaning.specs.Contents.{SideContents, element_cells}
use Rattle.sql_gen_step_laws.specs.Carried.{Name, select_table}
use Rattle.sql_gen_step_laws.specs.StepSelects.{has}
use Rattle.layout_row_meaning.specs.Reading.{IsReadable}
use Rattle.sql_gen_star_meaning.specs.declared.arm.Asked.{Asked}
use Rattle.sql_gen_star_meaning.specs.Asked.{asked_vars, IsEntity}
use Rattle.sql_gen_star_meaning.specs.SideTables.{list_columns, HoldsSide}
use Rattle.sql_gen_star_meaning.specs.Partials.{Partial, HoldsPartials, access_partials, open_arm}
use Rattle.sql_gen_star_meaning.specs.StarSelects.{access_core, open_core}
use Rattle.sql_gen_star_meaning.specs.declared.arm.StarArm.{StarArm}
use Rattle.sql_gen_star_meaning.specs.Openings.{Opening, openings_from, access_arms, cells_of, opening_steps, last_name, arms_steps, arms_last, open_vars, AllAskable, open_all}
use Rattle.sql_gen_open_laws.proofs.AccessStep.{access_step}
use Rattle.sql_gen_open_laws.proofs.OpenStep.{open_step}

-- a body of one SELECT
pub one_core : (relations : Relations) (c : Core) → body_relation relations (record { cores = c ∷ [] }) ≡ select_table relations c
one_core relations c = ap (λ (rows : List (List Cell)). (let r : Relation = record { columns = body_names (c ∷ []); rows = rows } in r)) (append-nil (select_rows relations c))

pub own_relation : (name : Name) (t : Relation) (relations : Relations) → with_relation name t relations name ≡ t
own_relation name t relations = let same : bytes_eq name name ≡ true = (bytes_eq-Decides name name).1 refl in rw same refl

pub other_relation : (name n : Name) (t : Relation) (relations : Relations) → bytes_eq n name ≡ false → with_relation name t relations n ≡ relations n
other_relation name n t relations e = rw e refl

-- the lists of a side, under a name
pub record ListsAre (ls : ValueLists) (t : Relation) : Type 0 where
  pub columns : t.columns ≡ list_columns
  pub rows : SameBag t.rows (flat_map element_cells ls)

-- a step of one SELECT, under its name
step_holds : (name : Name) (c : Core) (relations : Relations) (ls : ValueLists) (vs cells : List ℕ) (ps : List Partial) → HoldsPartials ls vs cells ps (select_table relations c) →
    HoldsPartials ls vs cells ps (with_relation name (body_relation relations (record { cores = c ∷ [] })) relations name)
step_holds name c relations ls vs cells ps h = subst (HoldsPartials ls vs cells ps) (sym (own_relation name (body_relation relations (record { cores = c ∷ [] })) relations ∙ one_core relations c)) h

head_number : (a : Opening) (arms : List Opening) → has (cells_of (a ∷ arms)) a.number ≡ true
head_number a arms = or_left _ _ (eq-eqb a.number a.number refl)

no_cells : (cells : List ℕ) (j : ℕ) → has [] j ≡ true → has cells j ≡ true
no_cells cells j e = cc

open_chain : (name : ℕ → Name) (lists : Name) (bound : ℕ) → ((m : ℕ) → m < bound → bytes_eq lists (name m) ≡ false) → (ls : ValueLists) → ((n : ℕ) → numbered n ls ≤ 1) →
    (a : Opening) (arms : List Opening) (relations : Relations) (n : ℕ) (before : Name) (vs cells : List ℕ) (ps : List Partial) → n + length (a ∷ arms) ≤ bound →
    ListsAre ls (relations lists) → HoldsPartials ls vs cells ps (relations before) → ((j : ℕ) → has (cells_of (a ∷ arms)) j ≡ true → has cells j ≡ true) → AllAskable vs (a ∷ arms) →
    HoldsPartials ls (open_vars vs (a ∷ arms)) [] (open_all ls (a ∷ arms) ps) (after_steps (opening_steps name lists n before vs (a ∷ arms)) relations (last_name name n before (a ∷ arms)))
open_chain name lists bound fresh ls once a [] relations n before vs cells ps l la st sub ok =
    step_holds (name n) (open_core before lists vs a.number [] a.asked) relations ls (asked_vars a.asked vs) [] (flat_map (open_arm ls a.number a.asked) ps)
    (open_step relations before lists ls vs cells ps la.columns la.rows once st a.number [] a.asked (sub a.number (head_number a [])) (no_cells cells) ok.0)
open_chain name lists bound fresh ls once a (b ∷ arms) relations n before vs cells ps l la st sub ok =
    let kept = cells_of (b ∷ arms) in
    let made : Relation = body_relation relations (record { cores = open_core before lists vs a.number kept a.asked ∷ [] }) in
    open_chain name lists bound fresh ls once b arms (with_relation (name n) made relations) (suc n) (name n) (asked_vars a.asked vs) kept (flat_map (open_arm ls a.number a.asked) ps) (omega arith)
    (subst (ListsAre ls) (sym (other_relation (name n) lists made relations (fresh n (omega arith)))) la)
    (step_holds (name n) (open_core before lists vs a.number kept a.asked) relations ls (asked_vars a.asked vs) kept (flat_map (open_arm ls a.number a.asked) ps)
    (open_step relations before lists ls vs cells ps la.columns la.rows once st a.number kept a.asked (sub a.number (head_number a (b ∷ arms))) (λ j e. sub j (or_right (a.number == j) (has kept j) e)) ok.0))
    (λ j e. e) ok.1

pub lengths : (i : ℕ) (arms : List StarArm) → length (openings_from i arms) ≡ length arms
lengths i [] = refl
lengths i (a ∷ arms) = ap suc (lengths (suc i) arms)

pub columns_below : (k : ℕ) (arms : List StarArm) → AllByRecursion (λ (a : StarArm). AllByRecursion (λ c. c < k) a.columns) arms → (i : ℕ) → AllByRecursion (λ c. c < k) (access_arms arms i).columns
columns_below k [] all i = tt
columns_below k (a ∷ arms) all zero = all.0
columns_below k (a ∷ arms) all (suc i) = columns_below k arms all.1 i

-- the access step, and then all arms
pub arms_hold : (name : ℕ → Name) (primary lists : Name) (n : ℕ) (k : ℕ) (s : SideContents) (relations : Relations) → k < 2 ^ 64 → HoldsSide k s (relations primary) (relations lists) → IsReadable k s →
    (first : Bool) (entity : Asked) → IsEntity entity → (a : StarArm) (arms : List StarArm) → AllByRecursion (λ (b : StarArm). AllByRecursion (λ c. c < k) b.columns) (a ∷ arms) → AllAskable (asked_vars entity []) (openings_from 0 (a ∷ arms)) →
    ((m : ℕ) → m < n + length (a ∷ arms) + 1 → bytes_eq lists (name m) ≡ false) →
    HoldsPartials s.lists (open_vars (asked_vars entity []) (openings_from 0 (a ∷ arms))) [] (open_all s.lists (openings_from 0 (a ∷ arms)) (access_partials first entity (access_arms (a ∷ arms)) s.rows))
    (after_steps (arms_steps name primary lists n first entity (a ∷ arms)) relations (arms_last name n (a ∷ arms)))
arms_hold name primary lists n k s relations few st readable first entity ie a arms below ok fresh =
    let core : Core = access_core primary first entity (access_arms (a ∷ arms)) (cells_of (openings_from 0 (a ∷ arms))) in
    let made : Relation = body_relation relations (record { cores = core ∷ [] }) in
    let vs = asked_vars entity [] in
    let cells = cells_of (openings_from 0 (a ∷ arms)) in
    let ps = access_partials first entity (access_arms (a ∷ arms)) s.rows in
    let len : length (openings_from 1 arms) ≡ length arms = lengths 1 arms in
    let la : ListsAre s.lists (relations lists) = record { columns = st.list_names; rows = st.list_rows } in
    open_chain name lists (n + length (a ∷ arms) + 1) fresh s.lists readable.lists_once (record { number = 0; asked = a.asked }) (openings_from 1 arms) (with_relation (name n) made relations) (suc n) (name n) vs cells ps (omega arith)
    (subst (ListsAre s.lists) (sym (other_relation (name n) lists made relations (fresh n (omega arith)))) la)
    (step_holds (name n) core relations s.lists vs cells ps (access_step relations primary lists k s few st readable first entity ie (access_arms (a ∷ arms)) (columns_below k (a ∷ arms) below) cells))
    (λ j e. e) ok

-- the steps of arms over any step that holds their cells
pub openings_hold : (name : ℕ → Name) (lists : Name) (ls : ValueLists) (relations : Relations) → (relations lists).columns ≡ list_columns → SameBag (relations lists).rows (flat_map element_cells ls) → ((n : ℕ) → numbered n ls ≤ 1) →
    (a : Opening) (arms : List Opening) (n : ℕ) (before : Name) (vs cells : List ℕ) (ps : List Partial) → HoldsPartials ls vs cells ps (relations before) →
    ((j : ℕ) → has (cells_of (a ∷ arms)) j ≡ true → has cells j ≡ true) → AllAskable vs (a ∷ arms) → ((m : ℕ) → m < n + length (a ∷ arms) → bytes_eq lists (name m) ≡ false) →
    HoldsPartials ls (open_vars vs (a ∷ arms)) [] (open_all ls (a ∷ arms) ps) (after_steps (opening_steps name lists n before vs (a ∷ arms)) relations (last_name name n before (a ∷ arms)))
openings_hold name lists ls relations columns rows once a arms n before vs cells ps h sub ok fresh =
    open_chain name lists (n + length (a ∷ arms)) fresh ls once a arms relations n before vs cells ps (omega arith) (record { columns = columns; rows = rows }) h sub ok
