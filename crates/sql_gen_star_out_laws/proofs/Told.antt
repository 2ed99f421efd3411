-- The ids that are told of a star's constants are those of the tables.
use Rattle.std.specs.Prelude.{◌&&◌, ◌++◌, ◌∷◌, ◌≡◌, Bool, List, [], false, length, map, pos, refl, true, ℕ}
use Rattle.std.proofs.Common.{◌∙◌, ◌⊎◌, ap, ap₂, inl, inr, subst, sym}
use Rattle.std.proofs.lemmas.Bool.{and_from, and_parts, cases_Bool, or_cases, or_left, or_right}
use Rattle.std.specs.List.{AllByRecursion, list_all, list_any}
use Rattle.rdf_meaning.specs.Terms.{RdfTerm, RdfTriple, same_term}
use Rattle.rdf_meaning.specs.TermLaws.{same_term-is, same_term-self}
use Rattle.rdf_meaning.specs.declared.side.SideName.{SideName}
use Rattle.rdf_meaning.specs.declared.side.SideName.TheVariants.{Direct, Reverse}
use Rattle.table_meaning.specs.Tables.{NamedTable}
use Rattle.table_meaning.specs.Ints.{is_wide_int}
use Rattle.layout_meaning.specs.Columns.{ColumnsOf}
use Rattle.layout_meaning.specs.Facts.{FactsOf, IdOf}
use Rattle.layout_standing_meaning.specs.Dictionary.{Entry, id_of}
use Rattle.layout_standing_meaning.specs.Schemas.{LayoutOf}
use Rattle.layout_facts_meaning.specs.Facts.{HaveFacts, ids_told, terms_named}
use Rattle.query_meaning.specs.declared.pattern.Slot.{Slot}
use Rattle.query_meaning.specs.declared.pattern.Slot.TheVariants.{Var, Const}
use Rattle.query_plan_meaning.specs.declared.star.Arm.{Arm}
use Rattle.sql_gen_meaning.specs.Compilable.{arm_is_told, is_told}
use Rattle.sql_gen_step_laws.specs.Carried.{Ids}
use Rattle.sql_gen_star_meaning.specs.declared.arm.Asked.{Asked}
use Rattle.sql_gen_star_meaning.specs.declared.arm.Asked.TheVariants.{Constant}
use Rattle.sql_gen_star_meaning.specs.declared.arm.StarArm.{StarArm}
use Rattle.sql_gen_star_meaning.specs.Asked.{asked_maybe, asked_slot, asked_vars}
use Rattle.sql_gen_star_solution_laws.specs.StarArms.{entity_vars, optional_arms, pred_number, required_arms, star_arm}
use Rattle.sql_gen_star_laws.specs.StarSteps.{ArmsOf, star_arms}
use Rattle.sql_gen_star_fit_laws.specs.Fitting.{columns_of_side, is_named, names_predicate}
use Rattle.sql_gen_star_out_laws.specs.StarOuts.{told_columns, told_id}
use Rattle.sql_gen_star_out_laws.proofs.Variables.{AreWide}

each-told : (es : List Entry) (ts : List RdfTerm) → AllByRecursion (λ (i : IdOf). i.id ≡ id_of es i.term) (ids_told es ts)
each-told es [] = tt
each-told es (t ∷ ts) = (refl, each-told es ts)

told-by : (es : List Entry) (ids : List IdOf) → AllByRecursion (λ (i : IdOf). i.id ≡ id_of es i.term) ids → (t : RdfTerm) → list_any (λ (i : IdOf). same_term i.term t) ids ≡ true → told_id ids t ≡ id_of es t
told-by es [] told t named = cc
told-by es (i ∷ ids) told t named = go (cases_Bool (same_term i.term t)) named (told-by es ids told.1 t)
  where
    go : (same_term i.term t ≡ true) ⊎ (same_term i.term t ≡ false) → list_any (λ (j : IdOf). same_term j.term t) (i ∷ ids) ≡ true → (list_any (λ (j : IdOf). same_term j.term t) ids ≡ true → told_id ids t ≡ id_of es t) →
        told_id (i ∷ ids) t ≡ id_of es t
    go (inl e) named rest = rw e (told.0 ∙ ap (id_of es) (same_term-is i.term t e))
    go (inr e) named rest = rw e (rest (rw e at named))

-- the ids that tables have are those of their terms
pub told-is : (layout : LayoutOf) (tables : List NamedTable) (g : List RdfTriple) (ids : List IdOf) (facts : FactsOf) → (d : HaveFacts layout tables g ids facts) → (t : RdfTerm) → list_any (λ (i : IdOf). same_term i.term t) ids ≡ true →
    told_id ids t ≡ id_of d.contents.terms t
told-is layout tables g ids facts d t named =
    told-by d.contents.terms ids (subst (λ (is : List IdOf). AllByRecursion (λ (i : IdOf). i.id ≡ id_of d.contents.terms i.term) is) (sym d.same_ids) (each-told d.contents.terms (terms_named ids))) t named

-- all ids that are told have a text
pub told-wide : (ids : List IdOf) → list_all (λ (i : IdOf). is_wide_int (pos i.id)) ids ≡ true → AreWide (told_id ids)
told-wide [] e t = refl
told-wide (i ∷ ids) e t = go (cases_Bool (same_term i.term t)) (told-wide ids h.1 t)
  where
    h : (is_wide_int (pos i.id) ≡ true) × (list_all (λ (j : IdOf). is_wide_int (pos j.id)) ids ≡ true)
    h = and_parts (is_wide_int (pos i.id)) (list_all (λ (j : IdOf). is_wide_int (pos j.id)) ids) e

    go : (same_term i.term t ≡ true) ⊎ (same_term i.term t ≡ false) → is_wide_int (pos (told_id ids t)) ≡ true → is_wide_int (pos (told_id (i ∷ ids) t)) ≡ true
    go (inl q) rest = rw q h.0
    go (inr q) rest = rw q rest

-- ---- a constant that is told is one of the terms that have ids

pub named-is : (ids : List IdOf) (y : Slot) → is_told ids y ≡ true → is_named ids y ≡ true
named-is ids (Var v) e = refl
named-is ids (Const t) e = find ids e
  where
    find : (is : List IdOf) → list_any (λ (i : IdOf). same_term i.term t) is ≡ true → list_any (same_term t) (terms_named is) ≡ true
    find [] e = cc
    find (i ∷ is) e = elim (or_cases (same_term i.term t) (list_any (λ (j : IdOf). same_term j.term t) is) e) [
      | inl h ↦ or_left _ _ (ap (same_term t) (same_term-is i.term t h) ∙ same_term-self t)
      | inr h ↦ or_right _ _ (find is h)
    ]

pub all-named : (ids : List IdOf) (arms : List Arm) → list_all (arm_is_told ids) arms ≡ true → list_all (names_predicate ids) arms ≡ true
all-named ids [] e = refl
all-named ids (a ∷ arms) e =
    let h = and_parts (arm_is_told ids a) (list_all (arm_is_told ids) arms) e in
    and_from _ _ (named-is ids a.pred (and_parts (is_told ids a.pred) (is_told ids a.value) h.0).0) (all-named ids arms h.1)

-- ---- what is asked by ids that are equal where they are told

-- equal ids of the constants that are told
abbrev pub AreTold : List IdOf → Ids → Ids → Type 0
AreTold ids a b = (t : RdfTerm) → list_any (λ (i : IdOf). same_term i.term t) ids ≡ true → a t ≡ b t

module _ (ids : List IdOf) (a b : Ids) (same : AreTold ids a b) where
  pub slot-same : (vs : List ℕ) (y : Slot) → is_told ids y ≡ true → asked_slot a vs y ≡ asked_slot b vs y
  slot-same vs (Var v) e = refl
  slot-same vs (Const t) e = ap Constant (same t e)

  maybe-same : (y : Slot) → is_told ids y ≡ true → asked_maybe a y ≡ asked_maybe b y
  maybe-same (Var v) e = refl
  maybe-same (Const t) e = ap Constant (same t e)

  pred-same : (y : Slot) → is_told ids y ≡ true → pred_number a y ≡ pred_number b y
  pred-same (Var v) e = refl
  pred-same (Const t) e = same t e

  required-same : (columns : ColumnsOf) (vs : List ℕ) (ps : List Arm) → list_all (arm_is_told ids) ps ≡ true → required_arms columns a vs ps ≡ required_arms columns b vs ps
  required-same columns vs [] e = refl
  required-same columns vs (p ∷ ps) e =
      let h = and_parts (arm_is_told ids p) (list_all (arm_is_told ids) ps) e in
      let k = and_parts (is_told ids p.pred) (is_told ids p.value) h.0 in
      let q : asked_slot a vs p.value ≡ asked_slot b vs p.value = slot-same vs p.value k.1 in
      ap₂ (λ (x : StarArm) (xs : List StarArm). x ∷ xs)
      (ap₂ (λ (n : ℕ) (x : Asked). star_arm_of n columns x p) (pred-same p.pred k.0) q)
      (required-same columns (asked_vars (asked_slot a vs p.value) vs) ps h.1 ∙ ap (λ (x : Asked). required_arms columns b (asked_vars x vs) ps) q)
    where
      star_arm_of : ℕ → ColumnsOf → Asked → Arm → StarArm
      star_arm_of n columns x p = record { pred = n; columns = (star_arm columns b x p).columns; asked = x }

  optional-same : (columns : ColumnsOf) (ps : List Arm) → list_all (arm_is_told ids) ps ≡ true → optional_arms columns a ps ≡ optional_arms columns b ps
  optional-same columns [] e = refl
  optional-same columns (p ∷ ps) e =
      let h = and_parts (arm_is_told ids p) (list_all (arm_is_told ids) ps) e in
      let k = and_parts (is_told ids p.pred) (is_told ids p.value) h.0 in
      ap₂ (λ (x : StarArm) (xs : List StarArm). x ∷ xs)
      (ap₂ (λ (n : ℕ) (x : Asked). star_arm_of n columns x p) (pred-same p.pred k.0) (maybe-same p.value k.1)) (optional-same columns ps h.1)
    where
      star_arm_of : ℕ → ColumnsOf → Asked → Arm → StarArm
      star_arm_of n columns x p = record { pred = n; columns = (star_arm columns b x p).columns; asked = x }

  pub arms-same : (columns : ColumnsOf) (x : Slot) (arms : ArmsOf) → is_told ids x ≡ true → list_all (arm_is_told ids) (arms.first ∷ arms.required) ≡ true → list_all (arm_is_told ids) arms.optional ≡ true →
      star_arms columns a x arms ≡ star_arms columns b x arms
  arms-same columns x arms ex e o =
      ap₂ (λ (xs ys : List StarArm). xs ++ ys)
      (ap (λ (y : Asked). required_arms columns a (asked_vars y []) (arms.first ∷ arms.required)) (slot-same [] x ex) ∙ required-same columns (entity_vars b x) (arms.first ∷ arms.required) e)
      (optional-same columns arms.optional o)

-- ---- columns

pub columns-told : (layout : LayoutOf) (tables : List NamedTable) (g : List RdfTriple) (ids : List IdOf) (facts : FactsOf) → HaveFacts layout tables g ids facts → (side : SideName) → columns_of_side side layout ≡ told_columns facts side
columns-told layout tables g ids facts d Direct = ap (λ (f : FactsOf). f.direct) (sym d.same_facts)
columns-told layout tables g ids facts d Reverse = ap (λ (f : FactsOf). f.reverse) (sym d.same_facts)
