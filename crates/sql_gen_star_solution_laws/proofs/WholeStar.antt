-- Every choice of values, for each item of the first arm, is a solution of the star.
use Rattle.std.proofs.Common.{◌≡◌, ℕ, ◌⊎◌, Bool, true, false, cond, if◌then◌else◌, List, [], ◌∷◌, map, Option, Some, None, sym, refl, ap, ◌∙◌, inl, inr, ◌==◌}
use Rattle.std.proofs.lemmas.Bool.{cases_Bool}
use Rattle.std.specs.List.{flat_map, list_any, AllByRecursion}
use Rattle.bags.specs.Bag.{total, SameBag}
use Rattle.bags.specs.BagLaws.{total-same, total-map, total-flat_map, total-each, total-swap, total-cond, each-weaker}
use Rattle.rdf_meaning.specs.Terms.{RdfTerm, RdfTriple, same_term}
use Rattle.rdf_meaning.specs.TermLaws.{same_term-is, same_term_equiv}
use Rattle.rdf_meaning.specs.declared.side.SideName.{SideName}
use Rattle.rdf_meaning.specs.declared.side.SideName.TheVariants.{Direct, Reverse}
use Rattle.query_meaning.specs.declared.pattern.Slot.{Slot}
use Rattle.query_meaning.specs.declared.pattern.Slot.TheVariants.{Var, Const}
use Rattle.query_eval_meaning.specs.Mapping.{Mapping, nothing}
use Rattle.query_eval_meaning.specs.Leaf.{terms_of, with_term}
use Rattle.query_eval_meaning.specs.Width.{slot_in_width}
use Rattle.query_plan_meaning.specs.declared.star.Arm.{Arm}
use Rattle.query_plan_meaning.specs.Stars.{entity_of, entity_sols, both_sols}
use Rattle.query_algebra_laws.specs.MappingLaws.{set-same}
use Rattle.query_algebra_laws.specs.Assignments.{terms-apart}
use Rattle.query_algebra_laws.specs.OneLeaf.{total-one, each-stands, Stands}
use Rattle.query_star_laws.specs.Entities.{Tied}
use Rattle.query_star_laws.specs.StarLeaves.{var-sols}
use Rattle.layout_meaning.specs.Columns.{ColumnsOf}
use Rattle.layout_meaning.specs.Side.{Item}
use Rattle.layout_standing_meaning.specs.Dictionary.{Entry, AreEntries, HasIds, id_of, has_term}
use Rattle.layout_standing_meaning.specs.Contents.{SideContents, said, held_values}
use Rattle.layout_facts_laws.proofs.Ids.{told}
use Rattle.sql_gen_step_laws.specs.Carried.{Ids}
use Rattle.sql_gen_step_laws.specs.JoinStep.{Both, each-both}
use Rattle.sql_gen_star_meaning.specs.Asked.{IdMapping, unbound, accepts, then_bound, asked_slot}
use Rattle.sql_gen_star_meaning.specs.Partials.{entity_numbers}
use Rattle.sql_gen_star_meaning.specs.Openings.{fill, item_numbers}
use Rattle.sql_gen_star_number_laws.proofs.Sums.{item_term}
use Rattle.sql_gen_star_number_laws.proofs.Fill.{total-fill}
use Rattle.sql_gen_star_number_laws.proofs.ArmRows.{value_term, entity_term, if_three}
use Rattle.sql_gen_star_solution_laws.specs.StarArms.{IsArm, pred_number, required_vars, entity_vars, other_arms, first_arm, AllFresh, numbers_of, value_on, side_item}
use Rattle.sql_gen_star_solution_laws.proofs.Fits.{fit_slot}
use Rattle.sql_gen_star_solution_laws.proofs.StarSols.{Told, KnownTriple, Sound, slot_fits, each-fit, held_total, total-required, never_none, with_all, with_all-each, filled}

-- ---- the terms of known triples are known

each-with_term : (known : RdfTerm → Bool) (t : RdfTerm) (ts : List RdfTerm) → known t ≡ true → AllByRecursion (λ e. known e ≡ true) ts → AllByRecursion (λ e. known e ≡ true) (with_term t ts)
each-with_term known t ts k all = go (list_any (same_term t) ts)
  where
    go : (b : Bool) → AllByRecursion (λ e. known e ≡ true) (if b then ts else t ∷ ts)
    go true = all
    go false = (k, all)

pub each_known : (known : RdfTerm → Bool) (g : List RdfTriple) → AllByRecursion (KnownTriple known) g → AllByRecursion (λ e. known e ≡ true) (terms_of g)
each_known known [] all = tt
each_known known (t ∷ g) all =
    let ts = terms_of g in
    each-with_term known t.s (with_term t.p (with_term t.o ts)) all.0.subject
    (each-with_term known t.p (with_term t.o ts) all.0.predicate (each-with_term known t.o ts all.0.object (each_known known g all.1)))

stands_on : (side : SideName) (ts : List RdfTerm) (t : RdfTriple) → Stands ts t → list_any (same_term (entity_of side t)) ts ≡ true
stands_on Direct ts t h = h.s
stands_on Reverse ts t h = h.o

-- ---- the entity alone

pub nothing-sound : (known : RdfTerm → Bool) → Sound known [] nothing
nothing-sound known = record { shape = λ v. refl; known_terms = λ v t e. cc }

entity-fit : (x : Slot) (e : RdfTerm) → entity_sols x e ≡ fit_slot x e nothing
entity-fit (Var v) e = var-sols v e
entity-fit (Const c) e = refl

entity-tied : (x : Slot) (u : RdfTerm) → AllByRecursion (Tied x u) (fit_slot x u nothing)
entity-tied (Var v) u = (set-same v (Some u) nothing, tt)
entity-tied (Const c) u = go (cases_Bool (same_term c u))
  where
    go : (same_term c u ≡ true) ⊎ (same_term c u ≡ false) → AllByRecursion (Tied (Const c) u) (if same_term c u then nothing ∷ [] else [])
    go (inl e) = rw e (e, tt)
    go (inr e) = rw e tt

-- ---- tests change places

three_turned : (a b c : Bool) (n : ℕ) → cond a (cond b (cond c n 0) 0) 0 ≡ cond b (cond c (cond a n 0) 0) 0
three_turned true b c n = refl
three_turned false true true n = refl
three_turned false true false n = refl
three_turned false false c n = refl

same_entity : (V : RdfTerm → ℕ) (a e : RdfTerm) → cond (same_term a e) (V e) 0 ≡ cond (same_term a e) (V a) 0
same_entity V a e = go (cases_Bool (same_term a e))
  where
    go : (same_term a e ≡ true) ⊎ (same_term a e ≡ false) → cond (same_term a e) (V e) 0 ≡ cond (same_term a e) (V a) 0
    go (inl q) = ap (λ (u : RdfTerm). cond (same_term a e) (V u) 0) (sym (same_term-is a e q))
    go (inr q) = rw q refl

module _ (ids : Ids) (known : RdfTerm → Bool) (told : Told ids known) (side : SideName) (s : SideContents) (g : List RdfTriple) (f : SameBag (said s) (map (side_item side ids) g)) (all : AllByRecursion (KnownTriple known) g)
    (columns : ColumnsOf) (x : Slot) (xw : slot_in_width x ≡ true) (a : Arm) (ps qs : List Arm) (op : AllByRecursion IsArm (a ∷ ps)) (oq : AllByRecursion IsArm qs) (fresh : AllFresh ids (required_vars ids (entity_vars ids x) (a ∷ ps)) qs) (K : IdMapping → ℕ) where
  -- the sum over what an entity gives, in numbers
  one_entity : (e : RdfTerm) → known e ≡ true →
      total (λ n. K (numbers_of ids n)) (with_all g side e x (entity_sols x e) (a ∷ ps) qs) ≡
      total (λ (t : RdfTriple). cond (ids t.p == pred_number ids a.pred) (cond (same_term (entity_of side t) e) (entity_term s K (asked_slot ids [] x) (first_arm columns ids x a) (other_arms columns ids x a ps qs) (ids e) (ids (value_on side t))) 0) 0) g
  one_entity e ke =
      let A = first_arm columns ids x a in
      let rest = other_arms columns ids x a ps qs in
      let E = asked_slot ids [] x in
      let vs = entity_vars ids x in
      let p : ℕ = pred_number ids a.pred in
      let N : Mapping → ℕ = λ n. K (numbers_of ids n) in
      let V : ℕ → ℕ = λ v. value_term s K E A rest (ids e) v in
      let m0 : IdMapping = entity_numbers E (ids e) in
      let G : Option ℕ → ℕ = λ o. cond (accepts A.asked m0 o) (total K (fill s (ids e) rest (then_bound A.asked o m0))) 0 in
      let none : G None ≡ 0 = ap (λ (c : Bool). cond c (total K (fill s (ids e) rest (then_bound A.asked None m0))) 0) (never_none ids vs a.value m0) in
      let each : (m : Mapping) → Both (Sound known vs) (Tied x e) m → total N (with_all g side e x (m ∷ []) (a ∷ ps) qs) ≡ total K (fill s (ids e) (A ∷ rest) (numbers_of ids m)) =
      λ m h. sym (filled ids known told side s g f all columns x xw e ke K qs oq (a ∷ ps) op vs fresh m h.fst h.snd) in
      with_all-each N g side e x (a ∷ ps) qs (entity_sols x e)
      ∙ ap (λ (ms : List Mapping). total (λ m. total N (with_all g side e x (m ∷ []) (a ∷ ps) qs)) ms) (entity-fit x e)
      ∙ total-each _ _ (Both (Sound known vs) (Tied x e)) each (fit_slot x e nothing)
      (each-both (Sound known vs) (Tied x e) (fit_slot x e nothing) (each-fit ids known [] nothing (nothing-sound known) x e ke) (entity-tied x e))
      ∙ sym (slot_fits ids known told [] x nothing (nothing-sound known) e ke (λ n. total K (fill s (ids e) (A ∷ rest) n)))
      ∙ ap (λ (n : ℕ). cond (accepts E unbound (Some (ids e))) n 0)
      (total-fill K s (ids e) A rest m0 ∙ total-required G (held_values s (ids e) p) none ∙ held_total ids side s g f V (ids e) p)
      ∙ sym (total-cond (accepts E unbound (Some (ids e))) (λ (t : RdfTriple). cond (ids t.p == p) (cond (ids (entity_of side t) == ids e) (V (ids (value_on side t))) 0) 0) g)
      ∙ total-same _ _ (λ (t : RdfTriple). three_turned (accepts E unbound (Some (ids e))) (ids t.p == p) (ids (entity_of side t) == ids e) (V (ids (value_on side t)))
      ∙ ap (λ (c : Bool). cond (ids t.p == p) (cond c (cond (accepts E unbound (Some (ids e))) (V (ids (value_on side t))) 0) 0) 0) (told (entity_of side t) e ke)) g

  pub star_total : total K (flat_map (item_numbers s (asked_slot ids [] x) (first_arm columns ids x a) (other_arms columns ids x a ps qs)) (said s)) ≡ total (λ n. K (numbers_of ids n)) (both_sols g x side (a ∷ ps) qs)
  star_total =
      let A = first_arm columns ids x a in
      let rest = other_arms columns ids x a ps qs in
      let E = asked_slot ids [] x in
      let p : ℕ = pred_number ids a.pred in
      let ts = terms_of g in
      let ET : ℕ → ℕ → ℕ = entity_term s K E A rest in
      let V : RdfTriple → RdfTerm → ℕ = λ t e. ET (ids e) (ids (value_on side t)) in
      let one : (t : RdfTriple) → Stands ts t → total (λ e. cond (ids t.p == p) (cond (same_term (entity_of side t) e) (V t (entity_of side t)) 0) 0) ts ≡ cond (ids t.p == p) (V t (entity_of side t)) 0 =
      λ t st. total-cond (ids t.p == p) (λ e. cond (same_term (entity_of side t) e) (V t (entity_of side t)) 0) ts
      ∙ ap (λ (n : ℕ). cond (ids t.p == p) n 0)
      (total-same _ _ (λ e. ap (λ (b : Bool). cond b (V t (entity_of side t)) 0) (same_term_equiv.symm (entity_of side t) e)) ts
      ∙ total-one (entity_of side t) (V t (entity_of side t)) ts (terms-apart g) (stands_on side ts t st)) in
      total-flat_map K (item_numbers s E A rest) (said s)
      ∙ total-same _ _ (λ (i : Item). if_three (i.pred == A.pred) (accepts E unbound (Some i.entity)) (accepts A.asked (entity_numbers E i.entity) (Some i.value)) K (fill s i.entity rest (then_bound A.asked (Some i.value) (entity_numbers E i.entity)))) (said s)
      ∙ f.totals (item_term p ET)
      ∙ total-map (item_term p ET) (side_item side ids) g
      ∙ sym (total-flat_map (λ n. K (numbers_of ids n)) (λ e. with_all g side e x (entity_sols x e) (a ∷ ps) qs) ts
      ∙ total-each _ _ (λ e. known e ≡ true) (λ e ke. one_entity e ke
      ∙ total-same _ _ (λ (t : RdfTriple). ap (λ (n : ℕ). cond (ids t.p == p) n 0) (same_entity (V t) (entity_of side t) e)) g) ts (each_known known g all)
      ∙ total-swap (λ e t. cond (ids t.p == p) (cond (same_term (entity_of side t) e) (V t (entity_of side t)) 0) 0) ts g
      ∙ total-each _ _ (Stands ts) one g (each-stands g))

-- ---- over the ids of a dictionary

pub known_triples : (es : List Entry) (g : List RdfTriple) → AllByRecursion (HasIds es) g → AllByRecursion (KnownTriple (has_term es)) g
known_triples es g all = each-weaker (HasIds es) (KnownTriple (has_term es)) (λ t h. record { subject = h.subject; predicate = h.predicate; object = h.object }) g all

pub choices_solve : (es : List Entry) → AreEntries es → (side : SideName) (s : SideContents) (g : List RdfTriple) → SameBag (said s) (map (side_item side (id_of es)) g) → AllByRecursion (HasIds es) g →
    (columns : ColumnsOf) (x : Slot) → slot_in_width x ≡ true → (a : Arm) (required optional : List Arm) → AllByRecursion IsArm (a ∷ required) → AllByRecursion IsArm optional →
    AllFresh (id_of es) (required_vars (id_of es) (entity_vars (id_of es) x) (a ∷ required)) optional →
    SameBag (flat_map (item_numbers s (asked_slot (id_of es) [] x) (first_arm columns (id_of es) x a) (other_arms columns (id_of es) x a required optional)) (said s)) (map (numbers_of (id_of es)) (both_sols g x side (a ∷ required) optional))
choices_solve es h side s g f all columns x xw a required optional op oq fresh = record {
  totals = λ K. star_total (id_of es) (has_term es) (told es h) side s g f (known_triples es g all) columns x xw a required optional op oq fresh K
      ∙ sym (total-map K (numbers_of (id_of es)) (both_sols g x side (a ∷ required) optional));
}
