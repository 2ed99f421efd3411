-- With a variable predicate: each item that agrees is a solution.
use Rattle.std.proofs.Common.{◌≡◌, ℕ, ◌⊎◌, Bool, true, false, cond, if◌then◌else◌, ◌&&◌, ◌||◌, List, [], ◌∷◌, map, Some, None, sym, refl, ap, ◌∙◌, subst, arith, inl, inr}
use Rattle.std.proofs.Math.Path.{fun_ext}
use Rattle.std.proofs.lemmas.Bool.{cases_Bool, both_ways, and_from}
use Rattle.std.specs.List.{flat_map, AllByRecursion, IsDistinct}
use Rattle.bags.specs.Bag.{total, SameBag}
use Rattle.bags.specs.BagLaws.{total-map, total-flat_map, total-each}
use Rattle.rdf_meaning.specs.Terms.{RdfTerm, RdfTriple, same_triple}
use Rattle.rdf_meaning.specs.declared.side.SideName.{SideName}
use Rattle.rdf_meaning.specs.declared.side.SideName.TheVariants.{Direct, Reverse}
use Rattle.query_meaning.specs.declared.pattern.Slot.{Slot}
use Rattle.query_meaning.specs.declared.pattern.Pattern.{Pattern}
use Rattle.query_eval_meaning.specs.Mapping.{Mapping, nothing}
use Rattle.query_eval_meaning.specs.Leaf.{matches, leaf, bound, instance_is, slot_is, in_pattern, is_variable}
use Rattle.query_eval_meaning.specs.Width.{slot_in_width}
use Rattle.query_plan_meaning.specs.declared.star.Arm.{Arm}
use Rattle.query_plan_meaning.specs.Stars.{entity_of, arm_pattern, both_sols, arm_in_width}
use Rattle.query_algebra_laws.specs.OneLeaf.{leaf_one}
use Rattle.query_star_laws.specs.StarLeaves.{arm_below}
use Rattle.query_star_laws.specs.Merging.{star-leaf}
use Rattle.layout_meaning.specs.Side.{Item}
use Rattle.layout_standing_meaning.specs.Dictionary.{Entry, AreEntries, HasIds, id_of, has_term}
use Rattle.layout_standing_meaning.specs.Contents.{SideContents, said}
use Rattle.layout_facts_laws.proofs.Ids.{told}
use Rattle.sql_gen_step_laws.specs.Carried.{Ids}
use Rattle.sql_gen_star_meaning.specs.Asked.{IdMapping, unbound, accepts, then_bound, asked_vars}
use Rattle.sql_gen_star_meaning.specs.Partials.{entity_numbers}
use Rattle.sql_gen_star_meaning.specs.Openings.{pair_numbers}
use Rattle.sql_gen_star_solution_laws.specs.StarArms.{entity_vars, pair_entity, pair_predicate, pair_value, numbers_of, value_on, side_item}
use Rattle.sql_gen_star_solution_laws.proofs.Fits.{fit_slot, fit, total-fit, total-alone, bound-none, instance-there}
use Rattle.sql_gen_star_solution_laws.proofs.StarSols.{Told, KnownTriple, known_entity, known_value, Sound, slot_fits, each-fit}
use Rattle.sql_gen_star_solution_laws.proofs.WholeStar.{nothing-sound, known_triples}

-- ---- the order of the slots doesn't count

abbrev turned_pattern : Pattern → Pattern
turned_pattern p = record { number = p.number; s = p.o; p = p.p; o = p.s }

abbrev turned_triple : RdfTriple → RdfTriple
turned_triple t = record { s = t.o; p = t.p; o = t.s }

or_turned : (a b c : Bool) → (c || (b || a)) ≡ (a || (b || c))
or_turned true true true = refl
or_turned true true false = refl
or_turned true false true = refl
or_turned true false false = refl
or_turned false true true = refl
or_turned false true false = refl
or_turned false false true = refl
or_turned false false false = refl

and_turned : (a b c : Bool) → (c && (b && a)) ≡ (a && (b && c))
and_turned true true true = refl
and_turned true true false = refl
and_turned true false true = refl
and_turned true false false = refl
and_turned false true true = refl
and_turned false true false = refl
and_turned false false true = refl
and_turned false false false = refl

instance_turned : (m : Mapping) (p : Pattern) (t : RdfTriple) → instance_is m (turned_pattern p) (turned_triple t) ≡ instance_is m p t
instance_turned m p t = and_turned (slot_is m p.s t.s) (slot_is m p.p t.p) (slot_is m p.o t.o)

in_turned : (p : Pattern) (v : ℕ) → in_pattern v (turned_pattern p) ≡ in_pattern v p
in_turned p v = or_turned (is_variable v p.s) (is_variable v p.p) (is_variable v p.o)

-- a mapping of the pattern's variables alone, of which a triple is an instance, is what the triple binds
same_bound : (m : Mapping) (p : Pattern) (t : RdfTriple) → instance_is m p t ≡ true → ((v : ℕ) → in_pattern v p ≡ false → m v ≡ None) → m ≡ bound p t
same_bound m p t i out = fun_ext (λ v. go v (cases_Bool (in_pattern v p)))
  where
    go : (v : ℕ) → (in_pattern v p ≡ true) ⊎ (in_pattern v p ≡ false) → m v ≡ bound p t v
    go v (inl h) = instance-there m p t i v h
    go v (inr h) = out v h ∙ sym (bound-none p t v h)

bound_turned : (K : Mapping → ℕ) (p : Pattern) (t : RdfTriple) → cond (instance_is (bound p t) p t) (K (bound p t)) 0 ≡ cond (instance_is (bound (turned_pattern p) (turned_triple t)) (turned_pattern p) (turned_triple t)) (K (bound (turned_pattern p) (turned_triple t))) 0
bound_turned K p t = go (cases_Bool (instance_is B p t)) (cases_Bool (instance_is B' q u))
  where
    q : Pattern
    q = turned_pattern p

    u : RdfTriple
    u = turned_triple t

    B : Mapping
    B = bound p t

    B' : Mapping
    B' = bound (turned_pattern p) (turned_triple t)

    there : instance_is B p t ≡ true → B ≡ B'
    there i = same_bound B q u (instance_turned B p t ∙ i) (λ v h. bound-none p t v (sym (in_turned p v) ∙ h))

    back : instance_is B' q u ≡ true → B' ≡ B
    back j = same_bound B' p t (sym (instance_turned B' p t) ∙ j) (λ v h. bound-none q u v (in_turned p v ∙ h))

    go : (instance_is B p t ≡ true) ⊎ (instance_is B p t ≡ false) → (instance_is B' q u ≡ true) ⊎ (instance_is B' q u ≡ false) → cond (instance_is B p t) (K B) 0 ≡ cond (instance_is B' q u) (K B') 0
    go (inl i) (inl j) = ap (λ (b : Bool). cond b (K B) 0) i ∙ ap K (there i) ∙ sym (ap (λ (b : Bool). cond b (K B') 0) j)
    go (inl i) (inr j) =
        let k : instance_is B' q u ≡ true = subst (λ (m : Mapping). instance_is m q u ≡ true) (there i) (instance_turned B p t ∙ i) in
        absurd (both_ways (instance_is B' q u) j k)
    go (inr i) (inl j) =
        let k : instance_is B p t ≡ true = subst (λ (m : Mapping). instance_is m p t ≡ true) (back j) (sym (instance_turned B' p t) ∙ j) in
        absurd (both_ways (instance_is B p t) i k)
    go (inr i) (inr j) = ap (λ (b : Bool). cond b (K B) 0) i ∙ sym (ap (λ (b : Bool). cond b (K B') 0) j)

fit_turned : (K : Mapping → ℕ) (p : Pattern) (t : RdfTriple) → total K (fit (turned_pattern p) (turned_triple t) nothing) ≡ total K (fit p t nothing)
fit_turned K p t = total-fit K (turned_pattern p) (turned_triple t) nothing ∙ sym (bound_turned K p t) ∙ sym (total-fit K p t nothing)

-- the entity first, then the predicate, then the value
abbrev in_order : Slot → Arm → RdfTerm → RdfTerm → RdfTerm → List Mapping
in_order x a e p v = flat_map (fit_slot a.value v) (flat_map (fit_slot a.pred p) (fit_slot x e nothing))

order_fits : (K : Mapping → ℕ) (side : SideName) (x : Slot) (a : Arm) (t : RdfTriple) → total K (in_order x a (entity_of side t) t.p (value_on side t)) ≡ total K (fit (arm_pattern x side a) t nothing)
order_fits K Direct x a t = refl
order_fits K Reverse x a t = fit_turned K (arm_pattern x Reverse a) t

-- ---- one triple

if_three : (a b c : Bool) (K : IdMapping → ℕ) (n : IdMapping) → total K (if a && (b && c) then n ∷ [] else []) ≡ cond a (cond b (cond c (K n) 0) 0) 0
if_three true true true K n = omega arith
if_three true true false K n = refl
if_three true false c K n = refl
if_three false b c K n = refl

one_triple : (ids : Ids) (known : RdfTerm → Bool) → Told ids known → (side : SideName) (x : Slot) (a : Arm) (K : IdMapping → ℕ) (t : RdfTriple) → KnownTriple known t →
    total K (pair_numbers (pair_entity ids x) (pair_predicate ids x a) (pair_value ids x a) (side_item side ids t)) ≡ total (λ n. K (numbers_of ids n)) (matches (arm_pattern x side a) t)
one_triple ids known told side x a K t k =
    let e = entity_of side t in
    let v = value_on side t in
    let vs = entity_vars ids x in
    let P = pair_predicate ids x a in
    let us = asked_vars P vs in
    let V = pair_value ids x a in
    let N : Mapping → ℕ = λ n. K (numbers_of ids n) in
    let Q2 : IdMapping → ℕ = λ m. cond (accepts V m (Some (ids v))) (K (then_bound V (Some (ids v)) m)) 0 in
    let Q1 : IdMapping → ℕ = λ m. cond (accepts P m (Some (ids t.p))) (Q2 (then_bound P (Some (ids t.p)) m)) 0 in
    let ke : known e ≡ true = known_entity known side t k in
    let kv : known v ≡ true = known_value known side t k in
    let second : (m : Mapping) → Sound known us m → Q2 (numbers_of ids m) ≡ total N (fit_slot a.value v m) = λ m so. slot_fits ids known told us a.value m so v kv K in
    let first : (m : Mapping) → Sound known vs m → Q1 (numbers_of ids m) ≡ total (λ n. total N (fit_slot a.value v n)) (fit_slot a.pred t.p m) =
    λ m so. slot_fits ids known told vs a.pred m so t.p k.predicate Q2
    ∙ total-each _ _ (Sound known us) second (fit_slot a.pred t.p m) (each-fit ids known vs m so a.pred t.p k.predicate) in
    if_three (accepts (pair_entity ids x) unbound (Some (ids e))) (accepts P (entity_numbers (pair_entity ids x) (ids e)) (Some (ids t.p)))
    (accepts V (then_bound P (Some (ids t.p)) (entity_numbers (pair_entity ids x) (ids e))) (Some (ids v))) K (then_bound V (Some (ids v)) (then_bound P (Some (ids t.p)) (entity_numbers (pair_entity ids x) (ids e))))
    ∙ slot_fits ids known told [] x nothing (nothing-sound known) e ke Q1
    ∙ total-each _ _ (Sound known vs) first (fit_slot x e nothing) (each-fit ids known [] nothing (nothing-sound known) x e ke)
    ∙ sym (total-flat_map N (fit_slot a.value v) (flat_map (fit_slot a.pred t.p) (fit_slot x e nothing)) ∙ total-flat_map (λ n. total N (fit_slot a.value v n)) (fit_slot a.pred t.p) (fit_slot x e nothing))
    ∙ order_fits N side x a t
    ∙ sym (total-alone N (arm_pattern x side a) t)

pub pairs_solve : (es : List Entry) → AreEntries es → (side : SideName) (s : SideContents) (g : List RdfTriple) → IsDistinct same_triple g → SameBag (said s) (map (side_item side (id_of es)) g) → AllByRecursion (HasIds es) g →
    (x : Slot) → slot_in_width x ≡ true → (a : Arm) → arm_in_width a ≡ true →
    SameBag (flat_map (pair_numbers (pair_entity (id_of es) x) (pair_predicate (id_of es) x a) (pair_value (id_of es) x a)) (said s)) (map (numbers_of (id_of es)) (both_sols g x side (a ∷ []) []))
pairs_solve es h side s g distinct f all x xw a aw = record {
  totals = λ K.
      let ids = id_of es in
      let N : Mapping → ℕ = λ n. K (numbers_of ids n) in
      let pairs = pair_numbers (pair_entity ids x) (pair_predicate ids x a) (pair_value ids x a) in
      let p = arm_pattern x side a in
      let alone : SameBag (both_sols g x side (a ∷ []) []) (leaf (p ∷ []) g) = star-leaf g distinct x side (a ∷ []) refl xw (and_from (arm_in_width a) true aw refl) in
      total-flat_map K pairs (said s)
      ∙ f.totals (λ (i : Item). total K (pairs i))
      ∙ total-map (λ (i : Item). total K (pairs i)) (side_item side ids) g
      ∙ total-each _ _ (KnownTriple (has_term es)) (λ t k. one_triple ids (has_term es) (told es h) side x a K t k) g (known_triples es g all)
      ∙ sym (total-map K (numbers_of ids) (both_sols g x side (a ∷ []) [])
      ∙ alone.totals N
      ∙ (leaf_one p g distinct (arm_below x side a xw aw)).totals N
      ∙ total-flat_map N (matches p) g);
}
