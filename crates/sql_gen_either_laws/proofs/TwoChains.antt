-- Two chains of steps over one access step.
use Rattle.std.proofs.Common.{◌≡◌, ℕ, suc, ◌+◌, ◌^◌, ◌≤◌, ◌<◌, ◌⊎◌, Bool, true, false, List, [], ◌∷◌, ◌++◌, length, sym, refl, ap, ◌∙◌, subst, arith, inl, inr, ◌==◌, bytes_eq}
use Rattle.std.proofs.lemmas.Bool.{or_left, or_right, or_cases}
use Rattle.std.specs.List.{AllByRecursion}
use Rattle.bags.specs.BagLaws.{each-append}
use Rattle.sql_meaning.specs.declared.script.Core.{Core}
use Rattle.sql_meaning.specs.declared.script.Step.{Step}
use Rattle.sql_rows_meaning.specs.Tables.{Relation, Relations, with_relation}
use Rattle.sql_rows_meaning.specs.Rows.{body_relation, after_steps}
use Rattle.layout_meaning.specs.Side.{ValueLists}
use Rattle.layout_standing_meaning.specs.Contents.{SideContents}
use Rattle.sql_gen_step_laws.specs.Carried.{Name}
use Rattle.sql_gen_step_laws.specs.StepSelects.{has}
use Rattle.sql_gen_chain_laws.specs.Chains.{is_named}
use Rattle.sql_gen_chain_laws.proofs.Behind.{after-append, after-other}
use Rattle.layout_row_meaning.specs.Reading.{IsReadable}
use Rattle.sql_gen_star_meaning.specs.declared.arm.Asked.{Asked}
use Rattle.sql_gen_star_meaning.specs.Asked.{asked_vars, IsEntity}
use Rattle.sql_gen_star_meaning.specs.SideTables.{HoldsSide}
use Rattle.sql_gen_star_meaning.specs.Partials.{Partial, HoldsPartials, access_partials}
use Rattle.sql_gen_star_meaning.specs.declared.arm.StarArm.{StarArm}
use Rattle.sql_gen_star_meaning.specs.Openings.{Opening, openings_from, access_arms, cells_of, opening_steps, last_name, AllAskable, open_all}
use Rattle.sql_gen_open_laws.proofs.AccessStep.{access_step}
use Rattle.sql_gen_open_laws.proofs.Chain.{ListsAre, one_core, own_relation, other_relation, lengths, columns_below, openings_hold}
use Rattle.sql_gen_either_laws.specs.EitherSteps.{both_core, left_steps, right_steps, left_last, right_last, left_vars, right_vars, united_number, united_step, two_chains, AreApart}

-- ---- the cells of each list are among those of both

pub cells_left : (i : ℕ) (left right : List StarArm) (j : ℕ) → has (cells_of (openings_from i left)) j ≡ true → has (cells_of (openings_from i (left ++ right))) j ≡ true
cells_left i [] right j e = cc
cells_left i (a ∷ left) right j e = go (or_cases (i == j) (has (cells_of (openings_from (suc i) left)) j) e) (cells_left (suc i) left right j)
  where
    go : ((i == j) ≡ true) ⊎ (has (cells_of (openings_from (suc i) left)) j ≡ true) → (has (cells_of (openings_from (suc i) left)) j ≡ true → has (cells_of (openings_from (suc i) (left ++ right))) j ≡ true) → has (cells_of (openings_from i ((a ∷ left) ++ right))) j ≡ true
    go (inl q) later = or_left (i == j) _ q
    go (inr q) later = or_right (i == j) _ (later q)

pub cells_right : (i : ℕ) (left right : List StarArm) (n : ℕ) → n ≡ i + length left → (j : ℕ) → has (cells_of (openings_from n right)) j ≡ true → has (cells_of (openings_from i (left ++ right))) j ≡ true
cells_right i [] right n q j e = let same : n ≡ i = omega arith in subst (λ (m : ℕ). has (cells_of (openings_from m right)) j ≡ true) same e
cells_right i (a ∷ left) right n q j e = or_right (i == j) _ (cells_right (suc i) left right n (omega arith) j e)

-- ---- names

chain_named : (name : ℕ → Name) (lists q : Name) (n : ℕ) (before : Name) (vs : List ℕ) (arms : List Opening) → ((m : ℕ) → n ≤ m → m < n + length arms → bytes_eq q (name m) ≡ false) → is_named q (opening_steps name lists n before vs arms) ≡ false
chain_named name lists q n before vs [] h = refl
chain_named name lists q n before vs (a ∷ arms) h =
    let e : bytes_eq q (name n) ≡ false = h n (omega arith) (omega arith) in
    rw e (chain_named name lists q (suc n) (name n) (asked_vars a.asked vs) arms (λ m l k. h m (omega arith) (omega arith)))

last_is : (name : ℕ → Name) (n : ℕ) (before : Name) (a : Opening) (arms : List Opening) → last_name name n before (a ∷ arms) ≡ name (n + length arms)
last_is name n before a [] = let same : n ≡ n + 0 = omega arith in ap name same
last_is name n before a (b ∷ arms) = let same : suc n + length arms ≡ n + length (b ∷ arms) = omega arith in last_is name (suc n) (name n) b arms ∙ ap name same

-- ---- both chains

pub record BothHold (ls : ValueLists) (us vs : List ℕ) (ps qs : List Partial) (t : Relations) (a b : Name) : Type 0 where
  pub left : HoldsPartials ls us [] ps (t a)
  pub right : HoldsPartials ls vs [] qs (t b)

-- what stands before the last step
abbrev pub before_union : (ℕ → Name) → Name → Name → ℕ → Bool → Asked → List StarArm → List StarArm → Relations → Relations
before_union name primary lists n first entity left right relations =
    after_steps (right_steps name lists n entity left right) (after_steps (left_steps name lists n entity left) (with_relation (name n) (body_relation relations (record { cores = both_core primary first entity left right ∷ [] })) relations))

pub chains_hold : (name : ℕ → Name) (primary lists : Name) (n : ℕ) (k : ℕ) (s : SideContents) (relations : Relations) → k < 2 ^ 64 → HoldsSide k s (relations primary) (relations lists) → IsReadable k s →
    (first : Bool) (entity : Asked) → IsEntity entity → (a : StarArm) (cs : List StarArm) (b : StarArm) (bs : List StarArm) →
    AllByRecursion (λ (c : StarArm). AllByRecursion (λ i. i < k) c.columns) (a ∷ cs) → AllByRecursion (λ (c : StarArm). AllByRecursion (λ i. i < k) c.columns) (b ∷ bs) →
    AllAskable (asked_vars entity []) (openings_from 0 (a ∷ cs)) → AllAskable (asked_vars entity []) (openings_from (length (a ∷ cs)) (b ∷ bs)) →
    ((m : ℕ) → m < united_number n (a ∷ cs) (b ∷ bs) + 1 → bytes_eq lists (name m) ≡ false) → AreApart name (united_number n (a ∷ cs) (b ∷ bs) + 1) →
    BothHold s.lists (left_vars entity (a ∷ cs)) (right_vars entity (a ∷ cs) (b ∷ bs))
    (open_all s.lists (openings_from 0 (a ∷ cs)) (access_partials first entity (access_arms ((a ∷ cs) ++ (b ∷ bs))) s.rows))
    (open_all s.lists (openings_from (length (a ∷ cs)) (b ∷ bs)) (access_partials first entity (access_arms ((a ∷ cs) ++ (b ∷ bs))) s.rows))
    (before_union name primary lists n first entity (a ∷ cs) (b ∷ bs) relations) (left_last name n (a ∷ cs)) (right_last name n (a ∷ cs) (b ∷ bs))
chains_hold name primary lists n k s relations few st readable first entity ie a cs b bs wa wb ka kb fresh apart =
    let L : List StarArm = a ∷ cs in
    let R : List StarArm = b ∷ bs in
    let us = asked_vars entity [] in
    let core : Core = both_core primary first entity L R in
    let cells = cells_of (openings_from 0 (L ++ R)) in
    let ps = access_partials first entity (access_arms (L ++ R)) s.rows in
    let made : Relation = body_relation relations (record { cores = core ∷ [] }) in
    let t0 : Relations = with_relation (name n) made relations in
    let xs : List Step = left_steps name lists n entity L in
    let t1 : Relations = after_steps xs t0 in
    let ys : List Step = right_steps name lists n entity L R in
    let t2 : Relations = after_steps ys t1 in
    let la : length (openings_from 1 cs) ≡ length cs = lengths 1 cs in
    let lb : length (openings_from (suc (length L)) bs) ≡ length bs = lengths (suc (length L)) bs in
    let lists0 : ListsAre s.lists (t0 lists) = subst (ListsAre s.lists) (sym (other_relation (name n) lists made relations (fresh n (omega arith)))) (record { columns = st.list_names; rows = st.list_rows }) in
    let access0 : HoldsPartials s.lists us cells ps (t0 (name n)) =
    subst (HoldsPartials s.lists us cells ps) (sym (own_relation (name n) made relations ∙ one_core relations core))
    (access_step relations primary lists k s few st readable first entity ie (access_arms (L ++ R)) (columns_below k (L ++ R) (each-append (λ (c : StarArm). AllByRecursion (λ i. i < k) c.columns) L R wa wb)) cells) in
    let left1 = openings_hold name lists s.lists t0 lists0.columns lists0.rows readable.lists_once (record { number = 0; asked = a.asked }) (openings_from 1 cs) (suc n) (name n) us cells ps access0 (cells_left 0 L R) ka
    (λ m l. fresh m (omega arith)) in
    let kept_lists : t1 lists ≡ t0 lists = after-other xs t0 lists (chain_named name lists lists (suc n) (name n) us (openings_from 0 L) (λ m i j. fresh m (omega arith))) in
    let kept_access : t1 (name n) ≡ t0 (name n) = after-other xs t0 (name n) (chain_named name lists (name n) (suc n) (name n) us (openings_from 0 L) (λ m i j. apart n m (omega arith) (omega arith))) in
    let lists1 : ListsAre s.lists (t1 lists) = subst (ListsAre s.lists) (sym kept_lists) lists0 in
    let access1 : HoldsPartials s.lists us cells ps (t1 (name n)) = subst (HoldsPartials s.lists us cells ps) (sym kept_access) access0 in
    let right2 = openings_hold name lists s.lists t1 lists1.columns lists1.rows readable.lists_once (record { number = length L; asked = b.asked }) (openings_from (suc (length L)) bs) (suc n + length L) (name n) us cells ps access1
    (cells_right 0 L R (length L) (omega arith)) kb (λ m l. fresh m (omega arith)) in
    let ended : left_last name n L ≡ name (suc n + length (openings_from 1 cs)) = last_is name (suc n) (name n) (record { number = 0; asked = a.asked }) (openings_from 1 cs) in
    let other : is_named (left_last name n L) ys ≡ false =
    subst (λ (q : Name). is_named q ys ≡ false) (sym ended) (chain_named name lists (name (suc n + length (openings_from 1 cs))) (suc n + length L) (name n) us (openings_from (length L) R) (λ m i j. apart (suc n + length (openings_from 1 cs)) m (omega arith) (omega arith))) in
    record {
      left = subst (HoldsPartials s.lists (left_vars entity L) [] (open_all s.lists (openings_from 0 L) ps)) (sym (after-other ys t1 (left_last name n L) other)) left1;
      right = right2;
    }

-- the last step, under its name
pub union_ends : (name : ℕ → Name) (primary lists : Name) (n : ℕ) (first : Bool) (entity : Asked) (left right : List StarArm) (relations : Relations) →
    after_steps (two_chains name primary lists n first entity left right) relations (name (united_number n left right)) ≡
    body_relation (before_union name primary lists n first entity left right relations) (united_step name n entity left right).body
union_ends name primary lists n first entity left right relations =
    let t0 : Relations = with_relation (name n) (body_relation relations (record { cores = both_core primary first entity left right ∷ [] })) relations in
    let xs : List Step = left_steps name lists n entity left in
    let ys : List Step = right_steps name lists n entity left right in
    let u : Step = united_step name n entity left right in
    let N : Name = name (united_number n left right) in
    ap (λ (t : Relations). t N) (after-append xs (ys ++ u ∷ []) t0)
    ∙ ap (λ (t : Relations). t N) (after-append ys (u ∷ []) (after_steps xs t0))
    ∙ own_relation N (body_relation (before_union name primary lists n first entity left right relations) u.body) (before_union name primary lists n first entity left right relations)
