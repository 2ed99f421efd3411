-- Arms that aren't spilled can be read from the rows of number 0.
use Rattle.std.proofs.Common.{◌≡◌, ℕ, suc, arith, ◌⊎◌, inl, inr, Bool, true, false, not, ◌||◌, nat_le, List, [], ◌∷◌, ◌++◌, length, sym, refl, ap, ◌∙◌, subst}
use Rattle.std.proofs.lemmas.Bool.{and_parts, or_cases, cases_Bool, lt-leb, both_ways}
use Rattle.std.specs.List.{list_any, list_all, AllByRecursion}
use Rattle.rdf_meaning.specs.Terms.{RdfTerm, RdfTriple, same_term}
use Rattle.rdf_meaning.specs.TermLaws.{same_term-is}
use Rattle.rdf_meaning.specs.declared.side.SideName.{SideName}
use Rattle.rdf_meaning.specs.declared.side.SideName.TheVariants.{Direct, Reverse}
use Rattle.table_meaning.specs.Tables.{NamedTable}
use Rattle.layout_meaning.specs.Facts.{FactsOf, IdOf}
use Rattle.layout_meaning.specs.Rows.{NumberedRow}
use Rattle.layout_standing_meaning.specs.Dictionary.{Entry, id_of}
use Rattle.layout_standing_meaning.specs.Schemas.{LayoutOf}
use Rattle.layout_standing_meaning.specs.Standing.{is_spilled_in}
use Rattle.layout_facts_meaning.specs.Facts.{HaveFacts, ids_told, terms_named}
use Rattle.layout_facts_laws.proofs.Spilled.{direct_listed, reverse_listed}
use Rattle.query_meaning.specs.declared.pattern.Slot.{Slot}
use Rattle.query_meaning.specs.declared.pattern.Slot.TheVariants.{Var, Const}
use Rattle.query_plan_meaning.specs.declared.star.Arm.{Arm}
use Rattle.query_plan_meaning.specs.declared.star.StarBody.TheVariants.{Both, Either}
use Rattle.query_plan_meaning.specs.Stars.{arms_of}
use Rattle.query_merging_meaning.specs.Merging.{spilled_on, is_constant_beside, is_plain_arm, is_plain_where_several}
use Rattle.sql_gen_star_meaning.specs.declared.arm.StarArm.{StarArm}
use Rattle.sql_gen_star_meaning.specs.Openings.{AreReadable}
use Rattle.sql_gen_star_solution_laws.specs.StarArms.{pred_number, entity_vars, first_arm, other_arms}
use Rattle.sql_gen_star_laws.proofs.StarCarries.{each_arm}
use Rattle.sql_gen_star_fit_laws.specs.Fitting.{reads_first, is_named, names_predicate, columns_of_side, contents_of_side}
use Rattle.sql_gen_star_fit_laws.proofs.Fits.{parted}

-- ---- a term that is named and isn't listed isn't spilled

each-told : (es : List Entry) (ts : List RdfTerm) → AllByRecursion (λ (i : IdOf). i.id ≡ id_of es i.term) (ids_told es ts)
each-told es [] = tt
each-told es (t ∷ ts) = (refl, each-told es ts)

named_plain : (es : List Entry) (spilled : List RdfTerm) (rows : List NumberedRow) (ids : List IdOf) → AllByRecursion (λ (i : IdOf). i.id ≡ id_of es i.term) ids →
    AllByRecursion (λ (i : IdOf). list_any (same_term i.term) spilled ≡ is_spilled_in i.id rows) ids → (t : RdfTerm) → list_any (same_term t) (terms_named ids) ≡ true → list_any (same_term t) spilled ≡ false →
    is_spilled_in (id_of es t) rows ≡ false
named_plain es spilled rows [] told listed t named beside = cc
named_plain es spilled rows (i ∷ ids) told listed t named beside =
    go (or_cases (same_term t i.term) (list_any (same_term t) (terms_named ids)) named) (λ q. named_plain es spilled rows ids told.1 listed.1 t q beside)
  where
    here : i.term ≡ t → is_spilled_in (id_of es t) rows ≡ false
    here e =
        ap (λ (u : RdfTerm). is_spilled_in (id_of es u) rows) (sym e) ∙ ap (λ (n : ℕ). is_spilled_in n rows) (sym told.0) ∙ sym listed.0
        ∙ ap (λ (u : RdfTerm). list_any (same_term u) spilled) e ∙ beside

    go : (same_term t i.term ≡ true) ⊎ (list_any (same_term t) (terms_named ids) ≡ true) → (list_any (same_term t) (terms_named ids) ≡ true → is_spilled_in (id_of es t) rows ≡ false) → is_spilled_in (id_of es t) rows ≡ false
    go (inl q) later = here (sym (same_term-is t i.term q))
    go (inr q) later = later q

not_true : (b : Bool) → not b ≡ true → b ≡ false
not_true true e = cc
not_true false e = refl

at_least_two : (n : ℕ) → nat_le (suc (suc n)) 1 ≡ false
at_least_two n = lt-leb (suc (suc n)) 1 (omega arith)

-- ---- over tables with these ids and facts

module _ (layout : LayoutOf) (tables : List NamedTable) (g : List RdfTriple) (ids : List IdOf) (facts : FactsOf) (h : HaveFacts layout tables g ids facts) where
  told : AllByRecursion (λ (i : IdOf). i.id ≡ id_of h.contents.terms i.term) ids
  told = subst (λ (l : List IdOf). AllByRecursion (λ (i : IdOf). i.id ≡ id_of h.contents.terms i.term) l) (sym h.same_ids) (each-told h.contents.terms (terms_named ids))

  term_plain : (side : SideName) (t : RdfTerm) → list_any (same_term t) (terms_named ids) ≡ true → list_any (same_term t) (spilled_on facts.spilled side) ≡ false →
      is_spilled_in (id_of h.contents.terms t) (contents_of_side side h.contents).rows ≡ false
  term_plain Direct t named beside = named_plain h.contents.terms facts.spilled.direct h.contents.direct.rows ids told (direct_listed layout tables g ids facts h) t named beside
  term_plain Reverse t named beside = named_plain h.contents.terms facts.spilled.reverse h.contents.reverse.rows ids told (reverse_listed layout tables g ids facts h) t named beside

  slot_plain : (side : SideName) (q : Slot) → is_constant_beside (spilled_on facts.spilled side) q ≡ true → is_named ids q ≡ true → is_spilled_in (pred_number (id_of h.contents.terms) q) (contents_of_side side h.contents).rows ≡ false
  slot_plain side (Var v) plain named = cc
  slot_plain side (Const t) plain named = term_plain side t named (not_true (list_any (same_term t) (spilled_on facts.spilled side)) plain)

  record IsPlainNamed (side : SideName) (a : Arm) : Type 0 where
    plain : is_plain_arm facts.spilled side a ≡ true
    named : names_predicate ids a ≡ true

  each_plain : (side : SideName) (arms : List Arm) → list_all (is_plain_arm facts.spilled side) arms ≡ true → list_all (names_predicate ids) arms ≡ true → AllByRecursion (IsPlainNamed side) arms
  each_plain side [] plain named = tt
  each_plain side (a ∷ arms) plain named =
      let p = and_parts (is_plain_arm facts.spilled side a) (list_all (is_plain_arm facts.spilled side) arms) plain in
      let n = and_parts (names_predicate ids a) (list_all (names_predicate ids) arms) named in
      (record { plain = p.0; named = n.0 }, each_plain side arms p.1 n.1)

  -- several arms that are plain
  plain_readable : (side : SideName) (x : Slot) (a : Arm) (required optional : List Arm) → AllByRecursion (IsPlainNamed side) (a ∷ required) → AllByRecursion (IsPlainNamed side) optional →
      AreReadable (contents_of_side side h.contents) true (first_arm (columns_of_side side layout) (id_of h.contents.terms) x a) (other_arms (columns_of_side side layout) (id_of h.contents.terms) x a required optional)
  plain_readable side x a required optional op oq =
      each_arm (λ (b : StarArm). is_spilled_in b.pred (contents_of_side side h.contents).rows ≡ false) (IsPlainNamed side) (columns_of_side side layout) (id_of h.contents.terms)
      (λ asked b k. slot_plain side b.pred k.plain k.named) optional oq (a ∷ required) op (entity_vars (id_of h.contents.terms) x)

  pub both_readable : (side : SideName) (x : Slot) (a : Arm) (required optional : List Arm) → is_plain_where_several facts.spilled (record { entity = x; side = side; body = Both (a ∷ required) optional }) ≡ true →
      list_all (names_predicate ids) (arms_of (Both (a ∷ required) optional)) ≡ true →
      AreReadable (contents_of_side side h.contents) (reads_first (Both (a ∷ required) optional)) (first_arm (columns_of_side side layout) (id_of h.contents.terms) x a) (other_arms (columns_of_side side layout) (id_of h.contents.terms) x a required optional)
  both_readable side x a required optional plain named = go (cases_Bool (nat_le (length (arms_of (Both (a ∷ required) optional))) 1))
    where
      lone : (ps qs : List Arm) → nat_le (length (arms_of (Both (a ∷ ps) qs))) 1 ≡ true → other_arms (columns_of_side side layout) (id_of h.contents.terms) x a ps qs ≡ []
      lone [] [] e = refl
      lone [] (b ∷ qs) e = absurd (both_ways _ (at_least_two (length qs)) e)
      lone (b ∷ ps) qs e = absurd (both_ways _ (at_least_two (length (ps ++ qs))) e)

      go : (nat_le (length (arms_of (Both (a ∷ required) optional))) 1 ≡ true) ⊎ (nat_le (length (arms_of (Both (a ∷ required) optional))) 1 ≡ false) →
          AreReadable (contents_of_side side h.contents) (reads_first (Both (a ∷ required) optional)) (first_arm (columns_of_side side layout) (id_of h.contents.terms) x a) (other_arms (columns_of_side side layout) (id_of h.contents.terms) x a required optional)
      go (inl e) = rw e (lone required optional e)
      go (inr e) =
          let p : list_all (is_plain_arm facts.spilled side) ((a ∷ required) ++ optional) ≡ true = sym (ap (λ (b : Bool). b || list_all (is_plain_arm facts.spilled side) ((a ∷ required) ++ optional)) e) ∙ plain in
          let r = parted (IsPlainNamed side) (a ∷ required) optional (each_plain side ((a ∷ required) ++ optional) p named) in
          rw e (plain_readable side x a required optional r.0 r.1)

  -- an Either star has several arms
  several : (a : Arm) (left : List Arm) (b : Arm) (right : List Arm) → nat_le (length (arms_of (Either (a ∷ left) (b ∷ right)))) 1 ≡ false
  several a [] b right = at_least_two (length right)
  several a (c ∷ left) b right = at_least_two (length (left ++ (b ∷ right)))

  pub either_readable : (side : SideName) (x : Slot) (a : Arm) (left : List Arm) (b : Arm) (right : List Arm) → is_plain_where_several facts.spilled (record { entity = x; side = side; body = Either (a ∷ left) (b ∷ right) }) ≡ true →
      list_all (names_predicate ids) (arms_of (Either (a ∷ left) (b ∷ right))) ≡ true →
      AreReadable (contents_of_side side h.contents) (reads_first (Either (a ∷ left) (b ∷ right))) (first_arm (columns_of_side side layout) (id_of h.contents.terms) x a) (other_arms (columns_of_side side layout) (id_of h.contents.terms) x a left [])
      × AreReadable (contents_of_side side h.contents) (reads_first (Either (a ∷ left) (b ∷ right))) (first_arm (columns_of_side side layout) (id_of h.contents.terms) x b) (other_arms (columns_of_side side layout) (id_of h.contents.terms) x b right [])
  either_readable side x a left b right plain named =
      let e = several a left b right in
      let p : list_all (is_plain_arm facts.spilled side) ((a ∷ left) ++ (b ∷ right)) ≡ true = sym (ap (λ (c : Bool). c || list_all (is_plain_arm facts.spilled side) ((a ∷ left) ++ (b ∷ right))) e) ∙ plain in
      let r = parted (IsPlainNamed side) (a ∷ left) (b ∷ right) (each_plain side ((a ∷ left) ++ (b ∷ right)) p named) in
      rw e (plain_readable side x a left [] r.0 tt, plain_readable side x b right [] r.1 tt)
