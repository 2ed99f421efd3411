-- The steps of arms, one behind the other: as they are written, their sums and forms, and that they bind.
use Rattle.std.specs.Prelude.{◌&&◌, ◌++◌, ◌+◌, ◌<◌, ◌==◌, ◌∷◌, ◌≡◌, ◌≤◌, if◌then◌else◌, Bool, None, List, Ok, Some, [], false, is_some, length, map, refl, suc, true, zero, ℕ}
use Rattle.std.proofs.Common.{◌∙◌, ap, ap₂, arith, sym, subst}
use Rattle.std.proofs.lemmas.Bool.{and_from, both_ways, eq-eqb, eqb-true, false_from_ne_true, or_left, or_right}
use Rattle.std.proofs.lemmas.Slice.Eq.{bytes_eq-Decides}
use Rattle.std.specs.List.{AllByRecursion}
use Rattle.std.specs.Str.{bytes_eq}
use Rattle.rdf_meaning.specs.declared.side.SideName.{SideName}
use Rattle.rdf_meaning.specs.declared.side.SideName.TheVariants.{Direct, Reverse}
use Rattle.table_meaning.specs.Names.{is_name, body_words, source_words, order_words, value_words, test_words, case_words}
use Rattle.layout_meaning.specs.Facts.{FactsOf}
use Rattle.layout_standing_meaning.specs.Schemas.{list_schema}
use Rattle.sql_meaning.specs.declared.script.Body.{Body}
use Rattle.sql_meaning.specs.declared.script.Core.{Core}
use Rattle.sql_meaning.specs.declared.script.Step.{Step}
use Rattle.sql_meaning.specs.Scripts.{all_of, body_refs, core_refs, is_primary, most_levels, step_refs, total}
use Rattle.sql_rows_meaning.specs.Binding.{check_body, check_select}
use Rattle.sql_rows_meaning.specs.Scopes.{Schemas, with_schema}
use Rattle.sql_gen_step_laws.specs.Carried.{Name}
use Rattle.sql_gen_step_laws.specs.StepSelects.{has}
use Rattle.sql_gen_binding_laws.specs.StepColumns.{Once}
use Rattle.sql_gen_chain_binding_laws.specs.StepsBind.{StepsBind, no_step, one_step}
use Rattle.sql_gen_form_laws.specs.Fits.{AreVariables, CoreFits, step_fits}
use Rattle.sql_gen_form_laws.proofs.Bodies.{body-fits, lone-body, step-fits}
use Rattle.sql_gen_star_meaning.specs.declared.arm.Asked.{Asked}
use Rattle.sql_gen_star_meaning.specs.Asked.{Askable, asked_vars}
use Rattle.sql_gen_star_meaning.specs.Openings.{AllAskable, Opening, cells_of, last_name, open_vars, opening_steps}
use Rattle.sql_gen_star_meaning.specs.StarSelects.{open_core}
use Rattle.sql_gen_star_form_laws.specs.StarForms.{AskedFits, TwoDigits}
use Rattle.sql_gen_star_form_laws.proofs.Access.{vars-below}
use Rattle.sql_gen_star_form_laws.proofs.Open.{open-fits, open-no_refs}
use Rattle.sql_gen_star_binding_laws.specs.StarColumns.{partial_schema}
use Rattle.sql_gen_star_binding_laws.proofs.OpenBinds.{open_fine}
use Rattle.sql_gen_star_binding_laws.proofs.Parts.{asked_once}
use Rattle.sql_gen_numbered_meaning.specs.Namings.{KeepsApart, is_table}
use Rattle.sql_gen_numbered_meaning.specs.declared.numbered.NumberedBody.TheVariants.{Open}
use Rattle.sql_gen_out_laws.specs.Outs.{AreFree}
use Rattle.table_meaning.specs.declared.schema.Column.{Column}
use Rattle.sql_gen_numbered_meaning.specs.Numbered.{body_under, lists_name, written_from}
use Rattle.sql_gen_numbered_meaning.specs.NumberedStars.{numbered_last, numbered_openings}

-- ---- as they are written

pub opened-written : (name : ℕ → Name) (side : SideName) (n before : ℕ) (vs : List ℕ) (os : List Opening) →
    written_from name n (numbered_openings side n before vs os) ≡ opening_steps name (lists_name side) n (name before) vs os
opened-written name side n before vs [] = refl
opened-written name side n before vs (a ∷ os) =
    let here : Step = record { name = name n; body = body_under name (Open side before vs a.number (cells_of os) a.asked) } in
    let next : suc n ≡ n + 1 = omega arith in
    ap (λ (ss : List Step). here ∷ ss) (opened-written name side (n + 1) n (asked_vars a.asked vs) os ∙ ap (λ m. opening_steps name (lists_name side) m (name n) (asked_vars a.asked vs) os) (sym next))

pub length-opened : (side : SideName) (n before : ℕ) (vs : List ℕ) (os : List Opening) → length (numbered_openings side n before vs os) ≡ length os
length-opened side n before vs [] = refl
length-opened side n before vs (a ∷ os) = let r : length (numbered_openings side (n + 1) n (asked_vars a.asked vs) os) ≡ length os = length-opened side (n + 1) n (asked_vars a.asked vs) os in omega arith

-- the number of the last one
pub last-opened : (n before : ℕ) (a : Opening) (os : List Opening) → numbered_last n before (a ∷ os) ≡ n + length os
last-opened n before a [] = omega arith
last-opened n before a (b ∷ os) = let r : numbered_last (n + 1) n (b ∷ os) ≡ n + 1 + length os = last-opened (n + 1) n b os in omega arith

-- ---- they read no primary table

lists-other : (side : SideName) → is_primary (lists_name side) ≡ false
lists-other Direct = refl
lists-other Reverse = refl

pub opened-refs : (name : ℕ → Name) (side : SideName) (n before : ℕ) (vs : List ℕ) (os : List Opening) → before < n → ((i : ℕ) → i < n + length os → is_primary (name i) ≡ false) →
    total (map step_refs (written_from name n (numbered_openings side n before vs os))) ≡ 0
opened-refs name side n before vs [] l h = refl
opened-refs name side n before vs (a ∷ os) l h =
    let e : core_refs (open_core (name before) (lists_name side) vs a.number (cells_of os) a.asked) ≡ 0 = open-no_refs (name before) (lists_name side) (h before (omega arith)) (lists-other side) vs a.number (cells_of os) a.asked in
    let r : total (map step_refs (written_from name (n + 1) (numbered_openings side (n + 1) n (asked_vars a.asked vs) os))) ≡ 0 = opened-refs name side (n + 1) n (asked_vars a.asked vs) os (omega arith) (λ i u. h i (omega arith)) in
    omega arith

-- ---- their forms

lists-name : (side : SideName) → is_name (lists_name side) ≡ true
unfolding is_name body_words source_words order_words value_words test_words case_words
lists-name Direct = refl
lists-name Reverse = refl

-- what is asked of arms so that their steps have a text
abbrev pub AllFit : List Opening → Type 0
AllFit os = AllByRecursion (λ (a : Opening). TwoDigits a.number × AskedFits a.asked) os

numbers-fit : (os : List Opening) → AllFit os → AllByRecursion TwoDigits (cells_of os)
numbers-fit [] all = tt
numbers-fit (a ∷ os) all = (all.0.0, numbers-fit os all.1)

pub opened-fit : (name : ℕ → Name) (side : SideName) (n before : ℕ) (vs : List ℕ) (os : List Opening) → before < n → ((i : ℕ) → i < n + length os → is_name (name i) ≡ true) → AreVariables vs → AllFit os →
    all_of step_fits (written_from name n (numbered_openings side n before vs os)) ≡ true
opened-fit name side n before vs [] l h ok all = refl
opened-fit name side n before vs (a ∷ os) l h ok all =
    let c : Core = open_core (name before) (lists_name side) vs a.number (cells_of os) a.asked in
    let f : CoreFits 4 c = open-fits (name before) (lists_name side) (h before (omega arith)) (lists-name side) vs ok a.number all.0.0 (cells_of os) (numbers-fit os all.1) a.asked all.0.1 in
    let whole : Body = record { cores = c ∷ [] } in
    let step : Step = record { name = name n; body = whole } in
    let here : step_fits step ≡ true = step-fits step (h n (omega arith)) (body-fits 4 whole (omega arith) (lone-body 4 c f)) in
    and_from _ _ here (opened-fit name side (n + 1) n (asked_vars a.asked vs) os (omega arith) (λ i u. h i (omega arith)) (vars-below a.asked all.0.1 vs ok) all.1)

-- ---- they bind

-- no step is called as the table of lists
pub lists-apart : (side : SideName) (q : Name) → is_table q ≡ false → bytes_eq (lists_name side) q ≡ false
lists-apart side q h = false_from_ne_true _ (λ e. both_ways (is_table (lists_name side)) (ap is_table ((bytes_eq-Decides (lists_name side) q).0 e) ∙ h) (is-lists side))
  where
    is-lists : (side : SideName) → is_table (lists_name side) ≡ true
    is-lists Direct = refl
    is-lists Reverse = refl

-- the steps bind, and the last one's columns are those of all variables
pub record ChainBinds (steps : List Step) (t : Schemas) (last : Name) (vs : List ℕ) : Type 0 where
  pub after : Schemas
  pub bind : StepsBind steps t after
  pub there : after last ≡ Some (partial_schema vs [])

pub lone-binds : (t : Schemas) (c : Core) (columns : List Column) → check_select t None c ≡ Ok columns → (n : ℕ) → check_body t n (c ∷ []) ≡ Ok columns
lone-binds t c columns e n = rw e refl

pub itself : (n : Name) → bytes_eq n n ≡ true
itself n = (bytes_eq-Decides n n).1 refl

-- another name has the schema that it had
pub kept : (q p : Name) (columns : List Column) (t : Schemas) → bytes_eq q p ≡ false → with_schema p columns t q ≡ t q
kept q p columns t e = ap (λ (b : Bool). if b then Some columns else t q) e

-- behind a step that has the cells of these arms
pub opened-bind : (name : ℕ → Name) (side : SideName) (m n before : ℕ) (vs cells : List ℕ) (os : List Opening) → KeepsApart m name → n + length os ≤ m → before < n → (t : Schemas) →
    t (name before) ≡ Some (partial_schema vs cells) → t (lists_name side) ≡ Some list_schema → AreFree name n (length os) t → Once vs → ((j : ℕ) → has (cells_of os) j ≡ true → has cells j ≡ true) → Once (cells_of os) → AllAskable vs os → (os ≡ [] → cells ≡ []) →
    ChainBinds (written_from name n (numbered_openings side n before vs os)) t (name (numbered_last n before os)) (open_vars vs os)
opened-bind name side m n before vs cells [] apart l b t hb hl free once within ok ask none = record {
  after = t;
  bind = no_step t;
  there = hb ∙ ap (λ (cs : List ℕ). Some (partial_schema vs cs)) (none refl);
}
opened-bind name side m n before vs cells (a ∷ os) apart l b t hb hl free once within ok ask none =
    let c : Core = open_core (name before) (lists_name side) vs a.number (cells_of os) a.asked in
    let columns : List Column = partial_schema (asked_vars a.asked vs) (cells_of os) in
    let bound = open_fine t (name before) (lists_name side) vs cells hb hl once a.number (cells_of os) a.asked (within a.number (here_first a.number (cells_of os))) (λ j h. within j (there_more a.number (cells_of os) j h)) ok.1 ask.0 in
    let after : Schemas = with_schema (name n) columns t in
    let rest = opened-bind name side m (n + 1) n (asked_vars a.asked vs) (cells_of os) os apart (omega arith) (omega arith) after
    (ap (λ (b : Bool). if b then Some columns else t (name n)) (itself (name n)))
    (kept (lists_name side) (name n) columns t (lists-apart side (name n) (apart.no_table n (omega arith))) ∙ hl)
    (λ i u. ap is_some (kept (name (n + 1 + i)) (name n) columns t (apart.own (n + 1 + i) n (omega arith) (omega arith) ∙ later n i)) ∙ ap (λ k. is_some (t (name k))) (moved n i) ∙ free (1 + i) (omega arith))
    (asked_once vs a.asked once ask.0) (λ j h. h) ok.1 ask.1 (λ e. ap cells_of e) in
    record {
      after = rest.after;
      bind = one_step (record { name = name n; body = record { cores = c ∷ [] } }) _ t rest.after columns (ap (λ k. is_some (t (name k))) (plus_none n) ∙ free 0 (omega arith)) (lone-binds t c columns bound) rest.bind;
      there = rest.there;
    }
  where
    here_first : (i : ℕ) (is : List ℕ) → has (i ∷ is) i ≡ true
    here_first i is = or_left _ _ (eq-eqb i i refl)

    there_more : (i : ℕ) (is : List ℕ) (j : ℕ) → has is j ≡ true → has (i ∷ is) j ≡ true
    there_more i is j h = or_right _ _ h

    later : (n i : ℕ) → (n + 1 + i == n) ≡ false
    later n i = false_from_ne_true _ (λ e. let q : n + 1 + i ≡ n = eqb-true (n + 1 + i) n e in absurd (omega arith))

    moved : (n i : ℕ) → n + 1 + i ≡ n + (1 + i)
    moved n i = omega arith

    plus_none : (n : ℕ) → n ≡ n + 0
    plus_none n = omega arith
