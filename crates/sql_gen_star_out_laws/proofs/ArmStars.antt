-- A star whose predicates are constants.
use Rattle.std.specs.Prelude.{zero, ◌&&◌, ◌++◌, ◌+◌, ◌<◌, ◌==◌, ◌∷◌, ◌≡◌, ◌≤◌, ◌||◌, ◌^◌, if◌then◌else◌, nat_le, not, Bool, List, None, Ok, Some, [], false, is_some, length, map, refl, suc, true, ℕ}
use Rattle.std.proofs.Common.{◌∙◌, ap, ap₂, arith, length-append, subst, sym}
use Rattle.std.proofs.lemmas.Bool.{and_from, and_parts, eq-eqb, eqb-true, false_from_ne_true, leb-true}
use Rattle.std.specs.List.{AllByRecursion, list_all}
use Rattle.std.specs.Str.{bytes_eq}
use Rattle.bags.specs.BagLaws.{each-weaker}
use Rattle.rdf_meaning.specs.Terms.{RdfTriple}
use Rattle.rdf_meaning.specs.declared.side.SideName.{SideName}
use Rattle.rdf_meaning.specs.declared.side.SideName.TheVariants.{Direct, Reverse}
use Rattle.table_meaning.specs.Names.{is_name, body_words, source_words, order_words, value_words, test_words, case_words}
use Rattle.table_meaning.specs.Tables.{NamedTable}
use Rattle.table_meaning.specs.declared.schema.Column.{Column}
use Rattle.layout_meaning.specs.Columns.{ColumnsOf}
use Rattle.layout_meaning.specs.Facts.{FactsOf, IdOf}
use Rattle.layout_standing_meaning.specs.Dictionary.{has_term, id_of}
use Rattle.layout_standing_meaning.specs.Schemas.{LayoutOf, primary_schema}
use Rattle.layout_facts_meaning.specs.Facts.{HaveFacts}
use Rattle.query_meaning.specs.declared.pattern.Slot.{Slot}
use Rattle.query_meaning.specs.declared.pattern.Slot.TheVariants.{Var, Const}
use Rattle.query_eval_meaning.specs.Mapping.{Mapping, width}
use Rattle.query_eval_meaning.specs.Variables.{Binds, Variables}
use Rattle.query_eval_meaning.specs.Width.{slot_in_width}
use Rattle.query_plan_meaning.specs.declared.star.Arm.{Arm}
use Rattle.query_plan_meaning.specs.declared.star.Star.{Star}
use Rattle.query_plan_meaning.specs.declared.star.StarBody.TheVariants.{Both}
use Rattle.query_plan_meaning.specs.Plans.{is_constant}
use Rattle.query_plan_meaning.specs.Stars.{arm_in_width, arms_of, star_certain, star_sols, stars_certain}
use Rattle.query_star_laws.specs.StarVariables.{binds-less, star-binds}
use Rattle.sql_meaning.specs.declared.script.Core.{Core}
use Rattle.sql_meaning.specs.declared.script.Step.{Step}
use Rattle.sql_meaning.specs.Scripts.{all_of, core_refs, is_primary, step_refs, total}
use Rattle.sql_rows_meaning.specs.Rows.{after_steps}
use Rattle.sql_rows_meaning.specs.Scopes.{Schemas, with_schema}
use Rattle.sql_rows_meaning.specs.Tables.{Relations, relations_of}
use Rattle.sql_gen_meaning.specs.Compilable.{AreColumns, arm_is_told, is_told}
use Rattle.sql_gen_step_laws.specs.Carried.{Carries, Ids, Name}
use Rattle.sql_gen_step_laws.specs.StepSelects.{has}
use Rattle.sql_gen_binding_laws.specs.StepColumns.{Once, step_schema}
use Rattle.sql_gen_chain_laws.specs.Chains.{SameBase}
use Rattle.sql_gen_chain_binding_laws.specs.StepsBind.{StepsBind, one_step}
use Rattle.sql_gen_form_laws.specs.Fits.{AreVariables, CoreFits, step_fits}
use Rattle.sql_gen_form_laws.proofs.Bodies.{body-fits, lone-body, step-fits}
use Rattle.sql_gen_star_meaning.specs.declared.arm.Asked.{Asked}
use Rattle.sql_gen_star_meaning.specs.declared.arm.StarArm.{StarArm}
use Rattle.sql_gen_star_meaning.specs.Asked.{asked_slot, asked_vars}
use Rattle.sql_gen_star_meaning.specs.Openings.{AllAskable, AreReadable, Opening, access_arm, access_arms, arms_last, arms_steps, cells_of, last_name, open_vars, openings_from}
use Rattle.sql_gen_star_meaning.specs.Partials.{AccessArm}
use Rattle.sql_gen_star_meaning.specs.StarSelects.{access_core}
use Rattle.sql_gen_open_laws.proofs.Chain.{lengths}
use Rattle.sql_gen_star_solution_laws.specs.StarArms.{IsArm, IsConstant, entity_vars, first_arm, optional_arms, other_arms, required_arms, pred_columns, pred_number, star_arm}
use Rattle.sql_gen_star_laws.specs.StarSteps.{ArmsOf, IsStar, star_arms, star_last, star_steps, star_vars}
use Rattle.sql_gen_star_laws.proofs.Bound.{all_askable}
use Rattle.sql_gen_star_laws.proofs.StarCarries.{each_arm, star_carries, within}
use Rattle.sql_gen_star_fit_laws.specs.Fitting.{contents_of_side}
use Rattle.sql_gen_star_fit_laws.proofs.Fits.{is_star}
use Rattle.sql_gen_star_fit_laws.proofs.Readable.{both_readable}
use Rattle.sql_gen_star_form_laws.specs.StarForms.{ArmFits, AskedFits, ColumnFits}
use Rattle.sql_gen_star_form_laws.proofs.Access.{access-fits, access-refs, vars-below}
use Rattle.sql_gen_star_form_laws.proofs.Cells.{cells-read}
use Rattle.sql_gen_star_binding_laws.specs.StarColumns.{partial_schema}
use Rattle.sql_gen_star_binding_laws.proofs.AccessBinds.{access_fine}
use Rattle.sql_gen_star_binding_laws.proofs.InSight.{no-cells}
use Rattle.sql_gen_star_binding_laws.proofs.Parts.{entity_once}
use Rattle.sql_gen_numbered_meaning.proofs.Apart.{different}
use Rattle.sql_gen_numbered_meaning.proofs.Written.{written-apart}
use Rattle.sql_gen_numbered_meaning.specs.Namings.{KeepsApart, is_table}
use Rattle.sql_gen_numbered_meaning.specs.Numbered.{lists_name, primary_name, written, written_from}
use Rattle.sql_gen_numbered_meaning.specs.NumberedStars.{numbered_arms, numbered_last, numbered_openings}
use Rattle.sql_gen_out_laws.proofs.Chained.{no-primary}
use Rattle.sql_gen_out_laws.specs.Outs.{AreFree, BindsTo, HasTables, Out, StandsOut, count}
use Rattle.sql_gen_star_out_laws.specs.StarOuts.{arms_out, told_columns, told_id}
use Rattle.sql_gen_star_out_laws.proofs.Asked.{AreFine, IsAsked, columns-fine, lists-there, primary-there, side-there}
use Rattle.sql_gen_star_out_laws.proofs.Openings.{AllFit, itself, kept, last-opened, length-opened, lists-apart, lone-binds, opened-bind, opened-fit, opened-refs, opened-written}
use Rattle.sql_gen_star_out_laws.proofs.Told.{AreTold, columns-told, all-named, arms-same, slot-same, told-is, told-wide}
use Rattle.sql_gen_star_out_laws.proofs.Variables.{AreWide, arms-fit, once-opened, opened-below, slot-fits}

-- ---- cells

cell-below : (j i : ℕ) (arms : List StarArm) → j < i → has (cells_of (openings_from i arms)) j ≡ false
cell-below j i [] l = refl
cell-below j i (a ∷ arms) l = rw (false_from_ne_true (i == j) (λ e. let q : i ≡ j = eqb-true i j e in absurd (omega arith))) (cell-below j (suc i) arms (omega arith))

pub cells-once : (i : ℕ) (arms : List StarArm) → Once (cells_of (openings_from i arms))
cells-once i [] = tt
cells-once i (a ∷ arms) = (cell-below i (suc i) arms (omega arith), cells-once (suc i) arms)

-- the columns of the arms of an access step
pub access-within : (k : ℕ) (arms : List StarArm) → AllByRecursion (λ (b : StarArm). AllByRecursion (λ c. c < k) b.columns) arms → (i : ℕ) → AllByRecursion (λ c. c < k) (access_arms arms i).columns
access-within k [] all i = tt
access-within k (a ∷ arms) all zero = all.0
access-within k (a ∷ arms) all (suc i) = access-within k arms all.1 i

-- ---- names

pub primary-name : (side : SideName) → is_name (primary_name side) ≡ true
unfolding is_name body_words source_words order_words value_words test_words case_words
primary-name Direct = refl
primary-name Reverse = refl

pub is-primary : (side : SideName) → is_primary (primary_name side) ≡ true
is-primary Direct = refl
is-primary Reverse = refl

-- the name of the last step of a chain
pub last-is : (name : ℕ → Name) (n : ℕ) (before : Name) (a : Opening) (os : List Opening) → last_name name n before (a ∷ os) ≡ name (n + length os)
last-is name n before a [] = let z : n ≡ n + 0 = omega arith in ap name z
last-is name n before a (b ∷ os) = let q : suc n + length os ≡ n + suc (length os) = omega arith in last-is name (suc n) (name n) b os ∙ ap name q

-- ---- the access step

abbrev pub access-step : (name : ℕ → Name) (side : SideName) (first : Bool) (entity : Asked) (arms : ℕ → AccessArm) (cells : List ℕ) → Step
access-step name side first entity arms cells = record { name = name 0; body = record { cores = access_core (primary_name side) first entity arms cells ∷ [] } }

-- ---- what is asked of an access arm

pub arm-fits : (columns : ColumnsOf) → AreColumns columns → (ids : Ids) → AreWide ids → (asked : Asked) (a : Arm) → IsArm a → ArmFits (access_arm (star_arm columns ids asked a))
arm-fits columns fine ids wide asked a ok = by a.pred ok.constant
  where
    col : (cs : List ℕ) → AllByRecursion (λ c. c < columns.count) cs → AllByRecursion ColumnFits cs
    col [] all = tt
    col (c ∷ cs) all = (let l : c < columns.count = all.0 in let m : columns.count < 2 ^ 64 = fine.countable in less c columns.count (2 ^ 64) l m, col cs all.1)
      where
        less : (c k m : ℕ) → c < k → k < m → c + 1 < m
        less c k m l p = omega arith

    by : (q : Slot) → IsConstant q → ArmFits (record { pred = pred_number ids q; columns = pred_columns columns q })
    by (Var v) ok = absurd ok
    by (Const c) ok = record { number = wide c; some = fine.candidates c.text; columns = col _ (fine.within c.text) }

-- ---- the steps as they are written

arms-written : (name : ℕ → Name) (side : SideName) (spilled : Bool) (entity : Asked) (arms : List StarArm) →
    written name (numbered_arms side spilled entity arms) ≡ arms_steps name (primary_name side) (lists_name side) 0 (not spilled) entity arms
arms-written name side spilled entity arms =
    ap (λ (ss : List Step). access-step name side (not spilled) entity (access_arms arms) (cells_of (openings_from 0 arms)) ∷ ss) (opened-written name side 1 0 (asked_vars entity []) (openings_from 0 arms))

-- ---- what its solutions bind

pub certain-of : (star : Star) (g : List RdfTriple) → AllByRecursion (Binds (stars_certain (star ∷ []))) (star_sols g star)
certain-of star g = each-weaker (Binds (star_certain star)) (Binds (stars_certain (star ∷ []))) (λ m. binds-less (star_certain star) (stars_certain (star ∷ [])) (λ v h. one_of (star_certain star v) h) m) (star_sols g star) (star-binds g star)
  where
    one_of : (b : Bool) → (b || false) ≡ true → b ≡ true
    one_of true h = refl
    one_of false h = h

-- ---- lengths

length-optional : (columns : ColumnsOf) (ids : Ids) (qs : List Arm) → length (optional_arms columns ids qs) ≡ length qs
length-optional columns ids [] = refl
length-optional columns ids (a ∷ qs) = let r : length (optional_arms columns ids qs) ≡ length qs = length-optional columns ids qs in omega arith

pub length-arms : (columns : ColumnsOf) (ids : Ids) (vs : List ℕ) (qs ps : List Arm) → length (required_arms columns ids vs ps ++ optional_arms columns ids qs) ≡ length ps + length qs
length-arms columns ids vs qs [] = let r : length (optional_arms columns ids qs) ≡ length qs = length-optional columns ids qs in omega arith
length-arms columns ids vs qs (a ∷ ps) =
    let r : length (required_arms columns ids (asked_vars (asked_slot ids vs a.value) vs) ps ++ optional_arms columns ids qs) ≡ length ps + length qs = length-arms columns ids (asked_vars (asked_slot ids vs a.value) vs) qs ps in omega arith

-- the openings behind the first
abbrev pub cells_behind : List Opening → List Opening
cells_behind [] = []
cells_behind (a ∷ os) = os

pub length-behind : (os : List Opening) → 1 ≤ length os → 1 + length (cells_behind os) ≡ length os
length-behind [] l = absurd (omega arith)
length-behind (a ∷ os) l = omega arith

pub all-parts : {X : Type 0} (p : X → Bool) (xs ys : List X) → list_all p (xs ++ ys) ≡ true → (list_all p xs ≡ true) × (list_all p ys ≡ true)
all-parts p [] ys e = (refl, e)
all-parts p (x ∷ xs) ys e = let h = and_parts (p x) (list_all p (xs ++ ys)) e in let r = all-parts p xs ys h.1 in (and_from _ _ h.0 r.0, r.1)

-- ---- a star of constant predicates

module _ (facts : FactsOf) (ids : List IdOf) (fine : AreFine facts ids) (x : Slot) (side : SideName) (arms : ArmsOf) where
  abbrev star_is : Star
  star_is = record { entity = x; side = side; body = Both (arms.first ∷ arms.required) arms.optional }

  module _ (asked : IsAsked facts ids star_is) (constants : list_all (λ (a : Arm). is_constant a.pred) (arms_of star_is.body) ≡ true) where
    abbrev columns : ColumnsOf
    columns = told_columns facts side

    abbrev tid : Ids
    tid = told_id ids

    abbrev numbers : List StarArm
    numbers = star_arms columns tid x arms

    abbrev os : List Opening
    os = openings_from 0 numbers

    abbrev vs : List ℕ
    vs = entity_vars tid x

    abbrev out : Out
    out = arms_out facts ids star_is arms

    abbrev spilled : Bool
    spilled = nat_le (length (arms_of star_is.body)) 1

    below : (slot_in_width x ≡ true) × (list_all arm_in_width (arms_of star_is.body) ≡ true)
    below = and_parts _ _ asked.in_width

    pub a-star : (is : Ids) → IsStar is x arms
    a-star is = is_star is x arms below.0 below.1 constants (asked.fresh is)

    wide : AreWide tid
    wide = told-wide ids fine.wide

    entity-fits : AskedFits (asked_slot tid [] x)
    entity-fits = slot-fits tid wide [] x below.0

    few : length (arms_of star_is.body) ≤ 100
    few = leb-true _ 100 asked.few

    all-fit : AllFit os
    all-fit = arms-fit columns tid wide arms.optional (a-star tid).optional (arms.first ∷ arms.required) (a-star tid).required vs 0 (omega (arith, few, length-append (arms.first ∷ arms.required) arms.optional))

    ask : AllAskable vs os
    ask = all_askable columns tid arms.optional (arms.first ∷ arms.required) vs 0 (a-star tid).fresh

    within-all : AllByRecursion (λ (b : StarArm). AllByRecursion (λ c. c < columns.count) b.columns) numbers
    within-all = within columns tid x arms (a-star tid) (columns-fine facts ids fine side).within

    arm-all : AllByRecursion (λ (b : StarArm). ArmFits (access_arm b)) numbers
    arm-all = each_arm (λ (b : StarArm). ArmFits (access_arm b)) IsArm columns tid (λ q a ok. arm-fits columns (columns-fine facts ids fine side) tid wide q a ok) arms.optional (a-star tid).optional (arms.first ∷ arms.required) (a-star tid).required vs

    length-os : length os ≡ length numbers
    length-os = lengths 0 numbers

    counted : count out ≡ length numbers + 1
    counted = let r = length-opened side 1 0 vs os in omega (arith, r, length-os)

    abbrev access : (name : ℕ → Name) → Core
    access name = access_core (primary_name side) (not spilled) (asked_slot tid [] x) (access_arms numbers) (cells_of os)

    abbrev opened-first : Opening
    opened-first = record { number = 0; asked = (first_arm columns tid x arms.first).asked }

    below-count : (i : ℕ) → i < 1 + length os → i < count out
    below-count i l = omega (arith, counted, length-os)

    length-numbers : length numbers ≡ length (arms_of star_is.body)
    length-numbers = omega (arith, length-arms columns tid vs arms.optional (arms.first ∷ arms.required), length-append (arms.first ∷ arms.required) arms.optional)

    same-refs : (name : ℕ → Name) → KeepsApart (count out) name → total (map step_refs (written name out.steps)) ≡ 1
    same-refs name k =
        let e : core_refs (access name) ≡ 1 = access-refs (primary_name side) (is-primary side) (not spilled) (asked_slot tid [] x) (access_arms numbers) (cells_of os) in
        let r : total (map step_refs (written_from name 1 (numbered_openings side 1 0 vs os))) ≡ 0 = opened-refs name side 1 0 vs os (omega arith) (λ i u. no-primary (name i) (k.no_table i (below-count i u))) in
        omega arith

    forms : (name : ℕ → Name) → ((i : ℕ) → i < count out → is_name (name i) ≡ true) → all_of step_fits (written name out.steps) ≡ true
    forms name h =
        let f : CoreFits 4 (access name) = access-fits (primary_name side) (primary-name side) (not spilled) (asked_slot tid [] x) entity-fits (access_arms numbers) (cells_of os) (cells-read numbers arm-all (omega (arith, few, length-numbers))) in
        and_from _ _ (step-fits (access-step name side (not spilled) (asked_slot tid [] x) (access_arms numbers) (cells_of os)) (h 0 (omega (arith, counted))) (body-fits 4 _ (omega arith) (lone-body 4 (access name) f)))
        (opened-fit name side 1 0 vs os (omega arith) (λ i u. h i (below-count i u)) (vars-below (asked_slot tid [] x) entity-fits [] tt) all-fit)

    last-there : (name : ℕ → Name) → name (numbered_last 1 0 os) ≡ name out.last
    last-there name =
        let l : numbered_last 1 0 os ≡ 1 + length (cells_behind os) = last-opened 1 0 opened-first (cells_behind os) in
        let e : numbered_last 1 0 os ≡ length numbers = omega (arith, l, length-os, length-behind os (omega (arith, length-os))) in
        ap name e

    binds : (name : ℕ → Name) → KeepsApart (count out) name → (s : Schemas) → HasTables facts s → AreFree name 0 (count out) s → BindsTo (written name out.steps) s (name out.last) (step_schema out.variables)
    binds name k s ht free =
        let cols : List Column = partial_schema vs (cells_of os) in
        let bound = access_fine s (primary_name side) columns.count (primary-there facts s ht side) (not spilled) (asked_slot tid [] x) (access_arms numbers) (access-within columns.count numbers within-all) (cells_of os) (cells-once 0 numbers) in
        let after : Schemas = with_schema (name 0) cols s in
        let rest = opened-bind name side (count out) 1 0 vs (cells_of os) os k (omega (arith, counted, length-os)) (omega arith) after
        (ap (λ (b : Bool). if b then Some cols else s (name 0)) (itself (name 0)))
        (kept (lists_name side) (name 0) cols s (lists-apart side (name 0) (k.no_table 0 (omega (arith, counted)))) ∙ lists-there facts s ht side)
        (λ i u. ap is_some (kept (name (1 + i)) (name 0) cols s (k.own (1 + i) 0 (below-count (1 + i) (omega arith)) (omega (arith, counted)) ∙ later i)) ∙ ap (λ n. is_some (s (name n))) (moved i) ∙ free (1 + i) (below-count (1 + i) (omega arith)))
        (entity_once (asked_slot tid [] x)) (λ j h. h) (cells-once 0 numbers) ask (λ e. ap cells_of e) in
        record {
          after = rest.after;
          bind = one_step (access-step name side (not spilled) (asked_slot tid [] x) (access_arms numbers) (cells_of os)) _ s rest.after cols (free 0 (omega (arith, counted))) (lone-binds s (access name) cols bound) rest.bind;
          there = ap rest.after (sym (last-there name)) ∙ rest.there ∙ ap (λ (cs : List Column). Some cs) (no-cells out.variables);
        }
      where
        later : (i : ℕ) → (1 + i == 0) ≡ false
        later i = false_from_ne_true _ (λ e. let q : 1 + i ≡ 0 = eqb-true (1 + i) 0 e in absurd (omega arith))

        moved : (i : ℕ) → 1 + i ≡ 0 + (1 + i)
        moved i = omega arith

    told-parts : (is_told ids x ≡ true) × (list_all (arm_is_told ids) (arms_of star_is.body) ≡ true)
    told-parts = and_parts _ _ asked.told

    carries : (name : ℕ → Name) → KeepsApart (count out) name → (layout : LayoutOf) (tables : List NamedTable) (g : List RdfTriple) → (d : HaveFacts layout tables g ids facts) → (t : Relations) → SameBase is_table (relations_of tables) t →
        Carries (id_of d.contents.terms) (has_term d.contents.terms) out.variables (star_sols g star_is) (after_steps (written name out.steps) t (name out.last))
    carries name k layout tables g d t same =
        let st = side-there layout tables g ids facts d side t same in
        let eid : Ids = id_of d.contents.terms in
        let told : AreTold ids tid eid = told-is layout tables g ids facts d in
        let parts = all-parts (arm_is_told ids) (arms.first ∷ arms.required) arms.optional told-parts.1 in
        let e : star_arms columns tid x arms ≡ star_arms columns eid x arms = arms-same ids tid eid told columns x arms told-parts.0 parts.0 parts.1 in
        let q : asked_slot tid [] x ≡ asked_slot eid [] x = slot-same ids tid eid told [] x told-parts.0 in
        let readable = both_readable layout tables g ids facts d side x arms.first arms.required arms.optional asked.plain (all-named ids (arms_of star_is.body) told-parts.1) in
        let read = subst (λ (c : ColumnsOf). AreReadable (contents_of_side side d.contents) (not spilled) (first_arm c eid x arms.first) (other_arms c eid x arms.first arms.required arms.optional)) (columns-told layout tables g ids facts d side) readable in
        let fine_columns = columns-fine facts ids fine side in
        let whole = star_carries columns d.contents.terms (contents_of_side side d.contents) d.same_triples.own_terms st.stands side g st.says d.same_triples.ids x arms (a-star eid) (not spilled) read
        fine_columns.countable fine_columns.within name (primary_name side) (lists_name side) 0 t st.held (λ m l. lists-apart side (name m) (k.no_table m (omega (arith, counted, l, ap (λ (ns : List StarArm). length ns) e)))) in
        let Has : Asked → List StarArm → Type 0 =
        λ y ns. Carries eid (has_term d.contents.terms) (open_vars (asked_vars y []) (openings_from 0 ns)) (star_sols g star_is) (after_steps (arms_steps name (primary_name side) (lists_name side) 0 (not spilled) y ns) t (arms_last name 0 ns)) in
        let one : Has (asked_slot eid [] x) numbers = subst (λ (ns : List StarArm). Has (asked_slot eid [] x) ns) (sym e) whole in
        let two : Has (asked_slot tid [] x) numbers = subst (λ (y : Asked). Has y numbers) (sym q) one in
        let three = subst (λ (ss : List Step). Carries eid (has_term d.contents.terms) out.variables (star_sols g star_is) (after_steps ss t (arms_last name 0 numbers))) (sym (arms-written name side spilled (asked_slot tid [] x) numbers)) two in
        subst (λ (n : Name). Carries eid (has_term d.contents.terms) out.variables (star_sols g star_is) (after_steps (written name out.steps) t n)) (arms-last name) three
      where
        arms-last : (name : ℕ → Name) → arms_last name 0 numbers ≡ name (length numbers)
        arms-last name = let l : 1 + length (cells_behind os) ≡ length numbers = omega (arith, length-os, length-behind os (omega (arith, length-os))) in last-is name 1 (name 0) opened-first (cells_behind os) ∙ ap name l

    pub arms-stand : StandsOut facts ids (λ g. star_sols g star_is) 1 out
    arms-stand = record {
      last_there = omega (arith, counted);
      once = once-opened vs os (entity_once (asked_slot tid [] x)) ask;
      in_width = opened-below vs os (vars-below (asked_slot tid [] x) entity-fits [] tt) all-fit;
      bound = certain-of star_is;
      same_refs = same-refs;
      forms = λ name k h. forms name h;
      binds = binds;
      stands = λ name k layout tables g d. record { carries = λ t same. carries name k layout tables g d t same; apart = written-apart name (count out) 0 out.steps k (omega arith) };
    }
