-- What every solution of a star binds.
use Rattle.std.specs.Prelude.{◌≡◌, ℕ, ◌<◌, ◌≤◌, ◌⊎◌, Bool, true, false, ◌&&◌, ◌||◌, ◌==◌, List, [], ◌∷◌, ◌++◌, Option, Some, None, is_some, refl}
use Rattle.std.proofs.Common.{sym, ap, ◌∙◌, subst, arith, inl, inr}
use Rattle.std.proofs.lemmas.Bool.{and_parts, and_from, or_cases, or_left, or_right, cases_Bool, ltb-true, both_ways}
use Rattle.std.specs.List.{list_any, list_all, filter, AllByRecursion}
use Rattle.bags.specs.BagLaws.{each-append, each-flat_map, each-weaker, each-any, each-filter}
use Rattle.rdf_meaning.specs.Terms.{RdfTerm, RdfTriple, same_term}
use Rattle.query_meaning.specs.declared.pattern.Slot.{Slot}
use Rattle.query_meaning.specs.declared.pattern.Slot.TheVariants.{Var, Const}
use Rattle.query_meaning.specs.declared.pattern.Pattern.{Pattern}
use Rattle.query_eval_meaning.specs.Mapping.{Mapping, nothing, set, width, merge}
use Rattle.query_eval_meaning.specs.Leaf.{terms_of, is_variable, in_pattern, instance_is, bound, matches}
use Rattle.query_eval_meaning.specs.Eval.{join, left_join}
use Rattle.query_eval_meaning.specs.Variables.{Variables, Binds, IsOver, in_either}
use Rattle.rdf_meaning.specs.declared.side.SideName.{SideName}
use Rattle.rdf_meaning.specs.declared.side.SideName.TheVariants.{Direct, Reverse}
use Rattle.query_eval_meaning.specs.Width.{pattern_in_width, slot_in_width}
use Rattle.query_plan_meaning.specs.declared.star.Arm.{Arm}
use Rattle.query_plan_meaning.specs.declared.star.Star.{Star}
use Rattle.query_plan_meaning.specs.declared.star.StarBody.{StarBody}
use Rattle.query_plan_meaning.specs.declared.star.StarBody.TheVariants.{Both, Either}
use Rattle.query_plan_meaning.specs.Stars.{entity_of, arm_pattern, arm_sols, entity_sols, with_required, with_optional, both_sols, body_sols, star_sols, stars_leaf, arm_variables, arms_variables, body_variables, star_variables, stars_variables, body_certain, star_certain, stars_certain, arms_of, arm_in_width, star_in_width}
use Rattle.query_algebra_laws.specs.MappingLaws.{set-other, none-is}
use Rattle.query_algebra_laws.specs.OneLeaf.{pattern_below, bound-chosen, Chosen, each-stands, Stands}
use Rattle.query_algebra_laws.specs.TreeSolutions.{each-join, each-left_join, members, over-merge, binds-merge, binds-left}
use Rattle.query_star_laws.specs.StarLeaves.{var-sols, arm_below}
use Rattle.query_star_laws.specs.Entities.{pattern_sols}

-- ---- what one triple binds

chosen-alone : (ts : List RdfTerm) (b : Bool) (o : Option RdfTerm) → Chosen ts b o → is_some o ≡ true → b ≡ true
chosen-alone ts true o h e = refl
chosen-alone ts false o h e = let n : is_some o ≡ false = ap is_some h in absurd (both_ways (is_some o) n e)

chosen-bound : (ts : List RdfTerm) (b : Bool) (o : Option RdfTerm) → Chosen ts b o → b ≡ true → is_some o ≡ true
chosen-bound ts true o h e = ap is_some h.1
chosen-bound ts false o h e = cc

chosen-known : (ts : List RdfTerm) (b : Bool) (o : Option RdfTerm) → Chosen ts b o → (t : RdfTerm) → o ≡ Some t → list_any (same_term t) ts ≡ true
chosen-known ts true o h t e = let q : Some h.0 ≡ Some t = sym h.1 ∙ e in let same : h.0 ≡ t = cc in subst (λ (u : RdfTerm). list_any (same_term u) ts ≡ true) same h.2
chosen-known ts false o h t e = let q : None ≡ Some t = sym h ∙ e in cc

abbrev pub pattern_vars : Pattern → Variables
pattern_vars p v = in_pattern v p

bound-over : (ts : List RdfTerm) (p : Pattern) (t : RdfTriple) → Stands ts t → pattern_in_width p ≡ true → IsOver (pattern_vars p) ts (bound p t)
bound-over ts p t s below = record {
  narrow = λ v l. narrow v l (cases_Bool (is_some (bound p t v)));
  alone = λ v e. chosen-alone ts (in_pattern v p) (bound p t v) (chosen v) e;
  known = λ v u e. chosen-known ts (in_pattern v p) (bound p t v) (chosen v) u e;
}
  where
    chosen : (v : ℕ) → Chosen ts (in_pattern v p) (bound p t v)
    chosen v = bound-chosen ts p t s.s s.p s.o v

    narrow : (v : ℕ) → width ≤ v → (is_some (bound p t v) ≡ true) ⊎ (is_some (bound p t v) ≡ false) → bound p t v ≡ None
    narrow v l (inl e) = let m : v < width = pattern_below p below v (chosen-alone ts (in_pattern v p) (bound p t v) (chosen v) e) in absurd (omega arith)
    narrow v l (inr e) = none-is (bound p t v) e

bound-binds : (ts : List RdfTerm) (p : Pattern) (t : RdfTriple) → Stands ts t → Binds (pattern_vars p) (bound p t)
bound-binds ts p t s = record { bound = λ v l e. chosen-bound ts (in_pattern v p) (bound p t v) (bound-chosen ts p t s.s s.p s.o v) e }

each-matches : (P : Mapping → Type 0) (p : Pattern) (t : RdfTriple) → P (bound p t) → AllByRecursion P (matches p t)
each-matches P p t h = go (cases_Bool (instance_is (bound p t) p t))
  where
    go : (instance_is (bound p t) p t ≡ true) ⊎ (instance_is (bound p t) p t ≡ false) → AllByRecursion P (matches p t)
    go (inl e) = rw e (h, tt)
    go (inr e) = rw e tt

each-sols : (P : Mapping → Type 0) (g : List RdfTriple) (side : SideName) (e : RdfTerm) (p : Pattern) → ((t : RdfTriple) → Stands (terms_of g) t → P (bound p t)) → AllByRecursion P (pattern_sols g side e p)
each-sols P g side e p f =
    each-flat_map P (matches p) (filter (λ t. same_term (entity_of side t) e) g)
    (each-filter (λ t. AllByRecursion P (matches p t)) (λ t. same_term (entity_of side t) e) g
    (each-weaker (Stands (terms_of g)) (λ t. AllByRecursion P (matches p t)) (λ t s. each-matches P p t (f t s)) g (each-stands g)))

-- ---- more or fewer variables

pub over-more : (vs ws : Variables) (ts : List RdfTerm) → ((v : ℕ) → vs v ≡ true → ws v ≡ true) → (m : Mapping) → IsOver vs ts m → IsOver ws ts m
over-more vs ws ts f m p = record { narrow = p.narrow; alone = λ v e. f v (p.alone v e); known = p.known }

pub binds-less : (vs ws : Variables) → ((v : ℕ) → ws v ≡ true → vs v ≡ true) → (m : Mapping) → Binds vs m → Binds ws m
binds-less vs ws f m p = record { bound = λ v l e. p.bound v l (f v e) }

or_same : (a : Bool) → (a || a) ≡ a
or_same true = refl
or_same false = refl

over-closed : (vs : Variables) (ts : List RdfTerm) (a b : Mapping) → IsOver vs ts a → IsOver vs ts b → IsOver vs ts (merge a b)
over-closed vs ts a b p q = over-more (in_either vs vs) vs ts (λ v e. sym (or_same (vs v)) ∙ e) (merge a b) (over-merge vs vs ts a b p q)

-- ---- the entity alone

entity-over : (x : Slot) (ts : List RdfTerm) (e : RdfTerm) → slot_in_width x ≡ true → list_any (same_term e) ts ≡ true → AllByRecursion (IsOver (λ v. is_variable v x) ts) (entity_sols x e)
entity-over (Const c) ts e w h = go (cases_Bool (same_term c e))
  where
    empty : IsOver (λ v. false) ts nothing
    empty = record { narrow = λ v l. refl; alone = λ v q. cc; known = λ v t q. cc }

    go : (same_term c e ≡ true) ⊎ (same_term c e ≡ false) → AllByRecursion (IsOver (λ v. false) ts) (entity_sols (Const c) e)
    go (inl f) = rw f (empty, tt)
    go (inr f) = rw f tt
entity-over (Var x) ts e w h = subst (λ (ms : List Mapping). AllByRecursion (IsOver (λ v. v == x) ts) ms) (sym (var-sols x e))
    (record { narrow = λ v l. narrow v l; alone = λ v q. alone v (cases_Bool (v == x)) q; known = λ v t q. known v t (cases_Bool (v == x)) q }, tt)
  where
    narrow : (v : ℕ) → width ≤ v → set x (Some e) nothing v ≡ None
    narrow v l = let b : x < width = ltb-true x width w in set-other x v (Some e) nothing (λ q. absurd (omega arith))

    alone : (v : ℕ) → ((v == x) ≡ true) ⊎ ((v == x) ≡ false) → is_some (set x (Some e) nothing v) ≡ true → (v == x) ≡ true
    alone v (inl k) q = k
    alone v (inr k) q = let n : is_some (set x (Some e) nothing v) ≡ false = rw k refl in absurd (both_ways (is_some (set x (Some e) nothing v)) n q)

    known : (v : ℕ) (t : RdfTerm) → ((v == x) ≡ true) ⊎ ((v == x) ≡ false) → set x (Some e) nothing v ≡ Some t → list_any (same_term t) ts ≡ true
    known v t (inl k) q = let s : Some e ≡ Some t = rw k at q in let same : e ≡ t = cc in subst (λ (u : RdfTerm). list_any (same_term u) ts ≡ true) same h
    known v t (inr k) q = let s : None ≡ Some t = rw k at q in cc

entity-binds : (x : Slot) (e : RdfTerm) → AllByRecursion (Binds (λ v. is_variable v x)) (entity_sols x e)
entity-binds (Const c) e = go (cases_Bool (same_term c e))
  where
    go : (same_term c e ≡ true) ⊎ (same_term c e ≡ false) → AllByRecursion (Binds (λ v. false)) (entity_sols (Const c) e)
    go (inl f) = rw f (record { bound = λ v l q. cc }, tt)
    go (inr f) = rw f tt
entity-binds (Var x) e = subst (λ (ms : List Mapping). AllByRecursion (Binds (λ v. v == x)) ms) (sym (var-sols x e)) (record { bound = λ v l q. at v q }, tt)
  where
    at : (v : ℕ) → (v == x) ≡ true → is_some (set x (Some e) nothing v) ≡ true
    at v q = rw q refl

-- ---- arms

-- a variable of the arm's pattern is the entity's or one of the arm
arm-in : (x : Slot) (side : SideName) (a : Arm) (v : ℕ) → in_pattern v (arm_pattern x side a) ≡ true → (is_variable v x || arm_variables a v) ≡ true
arm-in x Direct a v e = e
arm-in x Reverse a v e = go (or_cases (is_variable v a.value) (is_variable v a.pred || is_variable v x) e)
  where
    late : (is_variable v a.pred ≡ true) ⊎ (is_variable v x ≡ true) → (is_variable v x || (is_variable v a.pred || is_variable v a.value)) ≡ true
    late (inl h) = or_right (is_variable v x) (is_variable v a.pred || is_variable v a.value) (or_left (is_variable v a.pred) (is_variable v a.value) h)
    late (inr h) = or_left (is_variable v x) (is_variable v a.pred || is_variable v a.value) h

    go : (is_variable v a.value ≡ true) ⊎ ((is_variable v a.pred || is_variable v x) ≡ true) → (is_variable v x || (is_variable v a.pred || is_variable v a.value)) ≡ true
    go (inl h) = or_right (is_variable v x) (is_variable v a.pred || is_variable v a.value) (or_right (is_variable v a.pred) (is_variable v a.value) h)
    go (inr h) = late (or_cases (is_variable v a.pred) (is_variable v x) h)

in-arm : (x : Slot) (side : SideName) (a : Arm) (v : ℕ) → arm_variables a v ≡ true → in_pattern v (arm_pattern x side a) ≡ true
in-arm x Direct a v e = or_right (is_variable v x) (is_variable v a.pred || is_variable v a.value) e
in-arm x Reverse a v e = go (or_cases (is_variable v a.pred) (is_variable v a.value) e)
  where
    go : (is_variable v a.pred ≡ true) ⊎ (is_variable v a.value ≡ true) → (is_variable v a.value || (is_variable v a.pred || is_variable v x)) ≡ true
    go (inl h) = or_right (is_variable v a.value) (is_variable v a.pred || is_variable v x) (or_left (is_variable v a.pred) (is_variable v x) h)
    go (inr h) = or_left (is_variable v a.value) (is_variable v a.pred || is_variable v x) h

arm-over : (vs : Variables) (g : List RdfTriple) (side : SideName) (e : RdfTerm) (x : Slot) (a : Arm) → slot_in_width x ≡ true → arm_in_width a ≡ true → ((v : ℕ) → (is_variable v x || arm_variables a v) ≡ true → vs v ≡ true) → AllByRecursion (IsOver vs (terms_of g)) (arm_sols g side e x a)
arm-over vs g side e x a w k f =
    each-sols (IsOver vs (terms_of g)) g side e (arm_pattern x side a)
    (λ t s. over-more (pattern_vars (arm_pattern x side a)) vs (terms_of g) (λ v h. f v (arm-in x side a v h)) (bound (arm_pattern x side a) t)
    (bound-over (terms_of g) (arm_pattern x side a) t s (arm_below x side a w k)))

arm-binds : (g : List RdfTriple) (side : SideName) (e : RdfTerm) (x : Slot) (a : Arm) → AllByRecursion (Binds (arm_variables a)) (arm_sols g side e x a)
arm-binds g side e x a =
    each-sols (Binds (arm_variables a)) g side e (arm_pattern x side a)
    (λ t s. binds-less (pattern_vars (arm_pattern x side a)) (arm_variables a) (λ v h. in-arm x side a v h) (bound (arm_pattern x side a) t) (bound-binds (terms_of g) (arm_pattern x side a) t s))

-- ---- stars: what all solutions are over

required-each : (P : Mapping → Type 0) → ((a b : Mapping) → P a → P b → P (merge a b)) → (g : List RdfTriple) (side : SideName) (e : RdfTerm) (x : Slot) (arms : List Arm) (ms : List Mapping) →
    AllByRecursion (λ a. AllByRecursion P (arm_sols g side e x a)) arms → AllByRecursion P ms → AllByRecursion P (with_required g side e x arms ms)
required-each P c g side e x [] ms arms all = all
required-each P c g side e x (a ∷ arms) ms each all =
    required-each P c g side e x arms (join ms (arm_sols g side e x a)) each.1 (each-join P P P c ms (arm_sols g side e x a) all each.0)

optional-each : (P : Mapping → Type 0) → ((a b : Mapping) → P a → P b → P (merge a b)) → (g : List RdfTriple) (side : SideName) (e : RdfTerm) (x : Slot) (arms : List Arm) (ms : List Mapping) →
    AllByRecursion (λ a. AllByRecursion P (arm_sols g side e x a)) arms → AllByRecursion P ms → AllByRecursion P (with_optional g side e x arms ms)
optional-each P c g side e x [] ms arms all = all
optional-each P c g side e x (a ∷ arms) ms each all =
    optional-each P c g side e x arms (left_join (λ m. true) ms (arm_sols g side e x a)) each.1 (each-left_join P P P (λ m. true) c (λ m h. h) ms (arm_sols g side e x a) all each.0)

arms-over : (vs : Variables) (g : List RdfTriple) (side : SideName) (e : RdfTerm) (x : Slot) (arms : List Arm) → slot_in_width x ≡ true → list_all arm_in_width arms ≡ true → ((v : ℕ) → (is_variable v x || arms_variables arms v) ≡ true → vs v ≡ true) →
    AllByRecursion (λ a. AllByRecursion (IsOver vs (terms_of g)) (arm_sols g side e x a)) arms
arms-over vs g side e x [] w k f = tt
arms-over vs g side e x (a ∷ arms) w k f =
    let h = and_parts (arm_in_width a) (list_all arm_in_width arms) k in (
      arm-over vs g side e x a w h.0 (λ v q. f v (first v (or_cases (is_variable v x) (arm_variables a v) q))),
      arms-over vs g side e x arms w h.1 (λ v q. f v (rest v (or_cases (is_variable v x) (arms_variables arms v) q))),
    )
  where
    first : (v : ℕ) → (is_variable v x ≡ true) ⊎ (arm_variables a v ≡ true) → (is_variable v x || (arm_variables a v || arms_variables arms v)) ≡ true
    first v (inl q) = or_left (is_variable v x) (arm_variables a v || arms_variables arms v) q
    first v (inr q) = or_right (is_variable v x) (arm_variables a v || arms_variables arms v) (or_left (arm_variables a v) (arms_variables arms v) q)

    rest : (v : ℕ) → (is_variable v x ≡ true) ⊎ (arms_variables arms v ≡ true) → (is_variable v x || (arm_variables a v || arms_variables arms v)) ≡ true
    rest v (inl q) = or_left (is_variable v x) (arm_variables a v || arms_variables arms v) q
    rest v (inr q) = or_right (is_variable v x) (arm_variables a v || arms_variables arms v) (or_right (arm_variables a v) (arms_variables arms v) q)

both-over : (vs : Variables) (g : List RdfTriple) (x : Slot) (side : SideName) (required optional : List Arm) → slot_in_width x ≡ true → list_all arm_in_width required ≡ true → list_all arm_in_width optional ≡ true →
    ((v : ℕ) → (is_variable v x || (arms_variables required v || arms_variables optional v)) ≡ true → vs v ≡ true) → AllByRecursion (IsOver vs (terms_of g)) (both_sols g x side required optional)
both-over vs g x side required optional w r o f =
    each-flat_map (IsOver vs (terms_of g)) (λ e. with_optional g side e x optional (with_required g side e x required (entity_sols x e))) (terms_of g)
    (each-weaker (λ e. list_any (same_term e) (terms_of g) ≡ true) (λ e. AllByRecursion (IsOver vs (terms_of g)) (with_optional g side e x optional (with_required g side e x required (entity_sols x e)))) (λ e h.
    optional-each (IsOver vs (terms_of g)) (over-closed vs (terms_of g)) g side e x optional (with_required g side e x required (entity_sols x e)) (arms-over vs g side e x optional w o (λ v q. f v (inner v (or_cases (is_variable v x) (arms_variables optional v) q))))
    (required-each (IsOver vs (terms_of g)) (over-closed vs (terms_of g)) g side e x required (entity_sols x e) (arms-over vs g side e x required w r (λ v q. f v (outer v (or_cases (is_variable v x) (arms_variables required v) q))))
    (each-weaker (IsOver (λ v. is_variable v x) (terms_of g)) (IsOver vs (terms_of g)) (over-more (λ v. is_variable v x) vs (terms_of g) (λ v q. f v (or_left (is_variable v x) (arms_variables required v || arms_variables optional v) q))) (entity_sols x e) (entity-over x (terms_of g) e w h))))
    (terms_of g) (members (terms_of g)))
  where
    outer : (v : ℕ) → (is_variable v x ≡ true) ⊎ (arms_variables required v ≡ true) → (is_variable v x || (arms_variables required v || arms_variables optional v)) ≡ true
    outer v (inl q) = or_left (is_variable v x) (arms_variables required v || arms_variables optional v) q
    outer v (inr q) = or_right (is_variable v x) (arms_variables required v || arms_variables optional v) (or_left (arms_variables required v) (arms_variables optional v) q)

    inner : (v : ℕ) → (is_variable v x ≡ true) ⊎ (arms_variables optional v ≡ true) → (is_variable v x || (arms_variables required v || arms_variables optional v)) ≡ true
    inner v (inl q) = or_left (is_variable v x) (arms_variables required v || arms_variables optional v) q
    inner v (inr q) = or_right (is_variable v x) (arms_variables required v || arms_variables optional v) (or_right (arms_variables required v) (arms_variables optional v) q)

all-append : {X : Type 0} (p : X → Bool) (xs ys : List X) → list_all p (xs ++ ys) ≡ true → (list_all p xs ≡ true) × (list_all p ys ≡ true)
all-append p [] ys e = (refl, e)
all-append p (x ∷ xs) ys e =
    let h = and_parts (p x) (list_all p (xs ++ ys)) e in
    let k = all-append p xs ys h.1 in
    (and_from (p x) (list_all p xs) h.0 k.0, k.1)

body-over : (g : List RdfTriple) (x : Slot) (side : SideName) (body : StarBody) → slot_in_width x ≡ true → list_all arm_in_width (arms_of body) ≡ true → AllByRecursion (IsOver (λ v. is_variable v x || body_variables body v) (terms_of g)) (body_sols g x side body)
body-over g x side (Both required optional) w k =
    let h = all-append arm_in_width required optional k in
    both-over (λ v. is_variable v x || (arms_variables required v || arms_variables optional v)) g x side required optional w h.0 h.1 (λ v e. e)
body-over g x side (Either left right) w k =
    let h = all-append arm_in_width left right k in
    let vs : Variables = λ v. is_variable v x || (arms_variables left v || arms_variables right v) in
    each-append (IsOver vs (terms_of g)) (both_sols g x side left []) (both_sols g x side right [])
    (both-over vs g x side left [] w h.0 refl (λ v q. first v (or_cases (is_variable v x) (arms_variables left v || false) q)))
    (both-over vs g x side right [] w h.1 refl (λ v q. second v (or_cases (is_variable v x) (arms_variables right v || false) q)))
  where
    no : (b : Bool) → (b || false) ≡ true → b ≡ true
    no true e = refl
    no false e = cc

    first : (v : ℕ) → (is_variable v x ≡ true) ⊎ ((arms_variables left v || false) ≡ true) → (is_variable v x || (arms_variables left v || arms_variables right v)) ≡ true
    first v (inl q) = or_left (is_variable v x) (arms_variables left v || arms_variables right v) q
    first v (inr q) = or_right (is_variable v x) (arms_variables left v || arms_variables right v) (or_left (arms_variables left v) (arms_variables right v) (no (arms_variables left v) q))

    second : (v : ℕ) → (is_variable v x ≡ true) ⊎ ((arms_variables right v || false) ≡ true) → (is_variable v x || (arms_variables left v || arms_variables right v)) ≡ true
    second v (inl q) = or_left (is_variable v x) (arms_variables left v || arms_variables right v) q
    second v (inr q) = or_right (is_variable v x) (arms_variables left v || arms_variables right v) (or_right (arms_variables left v) (arms_variables right v) (no (arms_variables right v) q))

-- a star's solutions bind its variables alone, to terms that stand in the triples
pub star-over : (g : List RdfTriple) (star : Star) → star_in_width star ≡ true → AllByRecursion (IsOver (star_variables star) (terms_of g)) (star_sols g star)
star-over g star e = let h = and_parts (slot_in_width star.entity) (list_all arm_in_width (arms_of star.body)) e in body-over g star.entity star.side star.body h.0 h.1

-- so do those of a leaf of stars
pub stars-over : (g : List RdfTriple) (stars : List Star) → list_all star_in_width stars ≡ true → AllByRecursion (IsOver (stars_variables stars) (terms_of g)) (stars_leaf g stars)
stars-over g [] e = (record { narrow = λ v l. refl; alone = λ v q. cc; known = λ v t q. cc }, tt)
stars-over g (star ∷ stars) e =
    let h = and_parts (star_in_width star) (list_all star_in_width stars) e in
    each-join (IsOver (star_variables star) (terms_of g)) (IsOver (stars_variables stars) (terms_of g)) (IsOver (stars_variables (star ∷ stars)) (terms_of g))
    (λ a b p q. over-merge (star_variables star) (stars_variables stars) (terms_of g) a b p q) (star_sols g star) (stars_leaf g stars) (star-over g star h.0) (stars-over g stars h.1)

-- ---- stars: what all solutions bind

required-binds : (vs : Variables) (g : List RdfTriple) (side : SideName) (e : RdfTerm) (x : Slot) (arms : List Arm) (ms : List Mapping) → AllByRecursion (Binds vs) ms → AllByRecursion (Binds (in_either vs (arms_variables arms))) (with_required g side e x arms ms)
required-binds vs g side e x [] ms all = each-weaker (Binds vs) (Binds (in_either vs (λ v. false))) (binds-less vs (in_either vs (λ v. false)) (λ v q. no (vs v) q)) ms all
  where
    no : (b : Bool) → (b || false) ≡ true → b ≡ true
    no true q = refl
    no false q = cc
required-binds vs g side e x (a ∷ arms) ms all =
    each-weaker (Binds (in_either (in_either vs (arm_variables a)) (arms_variables arms))) (Binds (in_either vs (arms_variables (a ∷ arms))))
    (binds-less (in_either (in_either vs (arm_variables a)) (arms_variables arms)) (in_either vs (arms_variables (a ∷ arms))) (λ v q. regroup (vs v) (arm_variables a v) (arms_variables arms v) q))
    (with_required g side e x arms (join ms (arm_sols g side e x a)))
    (required-binds (in_either vs (arm_variables a)) g side e x arms (join ms (arm_sols g side e x a))
    (each-join (Binds vs) (Binds (arm_variables a)) (Binds (in_either vs (arm_variables a))) (λ m b p q. binds-merge vs (arm_variables a) m b p q) ms (arm_sols g side e x a) all (arm-binds g side e x a)))
  where
    regroup : (p q r : Bool) → (p || (q || r)) ≡ true → ((p || q) || r) ≡ true
    regroup true q r h = refl
    regroup false q r h = h

optional-binds : (vs : Variables) (g : List RdfTriple) (side : SideName) (e : RdfTerm) (x : Slot) (arms : List Arm) (ms : List Mapping) → AllByRecursion (Binds vs) ms → AllByRecursion (Binds vs) (with_optional g side e x arms ms)
optional-binds vs g side e x [] ms all = all
optional-binds vs g side e x (a ∷ arms) ms all =
    optional-binds vs g side e x arms (left_join (λ m. true) ms (arm_sols g side e x a))
    (each-left_join (Binds vs) (Binds (arm_variables a)) (Binds vs) (λ m. true) (λ m b p q. binds-left vs m b p) (λ m h. h) ms (arm_sols g side e x a) all (arm-binds g side e x a))

both-binds : (g : List RdfTriple) (x : Slot) (side : SideName) (required optional : List Arm) → AllByRecursion (Binds (λ v. is_variable v x || arms_variables required v)) (both_sols g x side required optional)
both-binds g x side required optional =
    let vs : Variables = λ v. is_variable v x || arms_variables required v in
    each-flat_map (Binds vs) (λ e. with_optional g side e x optional (with_required g side e x required (entity_sols x e))) (terms_of g)
    (each-any (λ e. AllByRecursion (Binds vs) (with_optional g side e x optional (with_required g side e x required (entity_sols x e))))
    (λ e. optional-binds vs g side e x optional (with_required g side e x required (entity_sols x e)) (required-binds (λ v. is_variable v x) g side e x required (entity_sols x e) (entity-binds x e))) (terms_of g))

body-binds : (g : List RdfTriple) (x : Slot) (side : SideName) (body : StarBody) → AllByRecursion (Binds (λ v. is_variable v x || body_certain body v)) (body_sols g x side body)
body-binds g x side (Both required optional) = both-binds g x side required optional
body-binds g x side (Either left right) =
    let vs : Variables = λ v. is_variable v x || (arms_variables left v && arms_variables right v) in
    each-append (Binds vs) (both_sols g x side left []) (both_sols g x side right [])
    (each-weaker (Binds (λ v. is_variable v x || arms_variables left v)) (Binds vs) (binds-less (λ v. is_variable v x || arms_variables left v) vs (λ v q. first v (or_cases (is_variable v x) (arms_variables left v && arms_variables right v) q))) (both_sols g x side left []) (both-binds g x side left []))
    (each-weaker (Binds (λ v. is_variable v x || arms_variables right v)) (Binds vs) (binds-less (λ v. is_variable v x || arms_variables right v) vs (λ v q. second v (or_cases (is_variable v x) (arms_variables left v && arms_variables right v) q))) (both_sols g x side right []) (both-binds g x side right []))
  where
    first : (v : ℕ) → (is_variable v x ≡ true) ⊎ ((arms_variables left v && arms_variables right v) ≡ true) → (is_variable v x || arms_variables left v) ≡ true
    first v (inl q) = or_left (is_variable v x) (arms_variables left v) q
    first v (inr q) = or_right (is_variable v x) (arms_variables left v) (and_parts (arms_variables left v) (arms_variables right v) q).0

    second : (v : ℕ) → (is_variable v x ≡ true) ⊎ ((arms_variables left v && arms_variables right v) ≡ true) → (is_variable v x || arms_variables right v) ≡ true
    second v (inl q) = or_left (is_variable v x) (arms_variables right v) q
    second v (inr q) = or_right (is_variable v x) (arms_variables right v) (and_parts (arms_variables left v) (arms_variables right v) q).1

-- a star's solutions bind its certain variables
pub star-binds : (g : List RdfTriple) (star : Star) → AllByRecursion (Binds (star_certain star)) (star_sols g star)
star-binds g star = body-binds g star.entity star.side star.body

-- so do those of a leaf of stars
pub stars-bind : (g : List RdfTriple) (stars : List Star) → AllByRecursion (Binds (stars_certain stars)) (stars_leaf g stars)
stars-bind g [] = (record { bound = λ v l q. cc }, tt)
stars-bind g (star ∷ stars) =
    each-join (Binds (star_certain star)) (Binds (stars_certain stars)) (Binds (stars_certain (star ∷ stars)))
    (λ a b p q. binds-merge (star_certain star) (stars_certain stars) a b p q) (star_sols g star) (stars_leaf g stars) (star-binds g star) (stars-bind g stars)
