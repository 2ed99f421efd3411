-- A variable that stands once in a leaf isn't bound before, and arms that fit are a star.
use Rattle.std.proofs.Common.{◌≡◌, ℕ, ◌+◌, ◌≤◌, Bool, true, false, if◌then◌else◌, ◌||◌, ◌==◌, nat_le, List, [], ◌∷◌, ◌++◌, length, sym, refl, ap, ◌∙◌, subst, arith}
use Rattle.std.proofs.lemmas.Bool.{and_parts, eqb-true, eq-eqb}
use Rattle.std.specs.List.{list_all, AllByRecursion}
use Rattle.bags.specs.Bag.{total}
use Rattle.bags.specs.BagLaws.{total-append, each-weaker}
use Rattle.query_meaning.specs.declared.pattern.Slot.{Slot}
use Rattle.query_meaning.specs.declared.pattern.Slot.TheVariants.{Var, Const}
use Rattle.query_eval_meaning.specs.Width.{slot_in_width}
use Rattle.query_plan_meaning.specs.declared.star.Arm.{Arm}
use Rattle.query_plan_meaning.specs.declared.star.Star.{Star}
use Rattle.query_plan_meaning.specs.declared.star.StarBody.{StarBody}
use Rattle.query_plan_meaning.specs.declared.star.StarBody.TheVariants.{Both, Either}
use Rattle.query_plan_meaning.specs.Stars.{arms_of, arm_in_width}
use Rattle.query_plan_meaning.specs.Plans.{is_constant, count_in_slot, count_in_arm, count_in_star, stands_once, required_there, optional_of, constant_where_several, star_fits, leaf_fits}
use Rattle.sql_gen_step_laws.specs.Carried.{Ids}
use Rattle.sql_gen_step_laws.specs.StepSelects.{has}
use Rattle.sql_gen_star_meaning.specs.declared.arm.Asked.TheVariants.{Again, New}
use Rattle.sql_gen_star_meaning.specs.Asked.{asked_vars, asked_slot, asked_maybe}
use Rattle.sql_gen_star_solution_laws.specs.StarArms.{IsConstant, IsArm, required_vars, entity_vars, IsFresh, AllFresh}
use Rattle.sql_gen_star_solution_laws.proofs.StarSols.{has_last}
use Rattle.sql_gen_star_laws.specs.StarSteps.{ArmsOf, IsStar}
use Rattle.sql_gen_star_fit_laws.specs.Fitting.{IsFreshBody, HasFreshValues}

-- ---- bound variables, counted

abbrev one_if : Bool → ℕ
one_if b = if b then 1 else 0

abbrev held : List ℕ → ℕ → ℕ
held vs v = one_if (has vs v)

either_one : (p q : Bool) → one_if (p || q) ≤ one_if p + one_if q
either_one true q = omega arith
either_one false q = omega arith

last_held : (vs : List ℕ) (w v : ℕ) → held (vs ++ w ∷ []) v ≤ held vs v + count_in_slot v (Var w)
last_held vs w v = subst (λ (b : Bool). one_if b ≤ one_if (has vs v) + one_if (v == w)) (sym (has_last vs w v)) (either_one (has vs v) (v == w))

slot_held : (ids : Ids) (vs : List ℕ) (y : Slot) (v : ℕ) → held (asked_vars (asked_slot ids vs y) vs) v ≤ held vs v + count_in_slot v y
slot_held ids vs (Const c) v = omega arith
slot_held ids vs (Var w) v = go (has vs w)
  where
    go : (b : Bool) → held (asked_vars (if b then Again w else New w) vs) v ≤ held vs v + count_in_slot v (Var w)
    go true = omega arith
    go false = last_held vs w v

required_held : (ids : Ids) (vs : List ℕ) (ps : List Arm) (v : ℕ) → held (required_vars ids vs ps) v ≤ held vs v + total (count_in_arm v) ps
required_held ids vs [] v = omega arith
required_held ids vs (a ∷ ps) v =
    let r = required_held ids (asked_vars (asked_slot ids vs a.value) vs) ps v in
    let k = slot_held ids vs a.value v in
    sum (held (required_vars ids (asked_vars (asked_slot ids vs a.value) vs) ps) v) (held (asked_vars (asked_slot ids vs a.value) vs) v) (held vs v) (count_in_slot v a.pred) (count_in_slot v a.value) (total (count_in_arm v) ps) r k
  where
    sum : (x y h p q t : ℕ) → x ≤ y + t → y ≤ h + q → x ≤ h + ((p + q) + t)
    sum x y h p q t r k = omega arith

none_held : (b : Bool) (n : ℕ) → one_if b + n ≤ 1 → 1 ≤ n → b ≡ false
none_held true n l k = absurd (omega arith)
none_held false n l k = refl

-- ---- optional values

-- where its value is a variable, it is bound at most once
abbrev IsOnce : (ℕ → ℕ) → Slot → Type 0
IsOnce bound (Var v) = bound v ≤ 1
IsOnce bound (Const c) = ⊥

optional_fresh : (ids : Ids) (bound : ℕ → ℕ) (qs : List Arm) (vs : List ℕ) → ((v : ℕ) → held vs v + total (count_in_arm v) qs ≤ bound v) → AllByRecursion (λ (a : Arm). IsOnce bound a.value) qs → AllFresh ids vs qs
optional_fresh ids bound [] vs h once = tt
optional_fresh ids bound (a ∷ qs) vs h once = go a.value h once.0 (λ ws k. optional_fresh ids bound qs ws k once.1)
  where
    sum : (x h w p t b : ℕ) → x ≤ h + w → h + ((p + w) + t) ≤ b → x + t ≤ b
    sum x h w p t b k l = omega arith

    one : (h p w t b : ℕ) → h + ((p + w) + t) ≤ b → b ≤ 1 → w ≡ 1 → h + w ≤ 1
    one h p w t b l k e = omega arith

    some : (w : ℕ) → w ≡ 1 → 1 ≤ w
    some w e = omega arith

    go : (y : Slot) → ((v : ℕ) → held vs v + ((count_in_slot v a.pred + count_in_slot v y) + total (count_in_arm v) qs) ≤ bound v) → IsOnce bound y →
        ((ws : List ℕ) → ((v : ℕ) → held ws v + total (count_in_arm v) qs ≤ bound v) → AllFresh ids ws qs) → IsFresh vs y × AllFresh ids (asked_vars (asked_maybe ids y) vs) qs
    go (Const c) l o later = absurd o
    go (Var w) l o later =
        let self : count_in_slot w (Var w) ≡ 1 = ap one_if (eq-eqb w w refl) in (
          none_held (has vs w) (count_in_slot w (Var w)) (one (held vs w) (count_in_slot w a.pred) (count_in_slot w (Var w)) (total (count_in_arm w) qs) (bound w) (l w) o self) (some (count_in_slot w (Var w)) self),
          later (vs ++ w ∷ []) (λ v. sum (held (vs ++ w ∷ []) v) (held vs v) (count_in_slot v (Var w)) (count_in_slot v a.pred) (total (count_in_arm v) qs) (bound v) (last_held vs w v) (l v)),
        )

-- ---- a leaf

-- nothing stands in a star more often than in its leaf
abbrev Within : List Star → Star → Type 0
Within leaf star = (v : ℕ) → count_in_star v star ≤ total (count_in_star v) leaf

each_within : (leaf : List Star) → AllByRecursion (Within leaf) leaf
each_within [] = tt
each_within (s ∷ leaf) =
    (λ v. first (count_in_star v s) (total (count_in_star v) leaf), each-weaker (Within leaf) (Within (s ∷ leaf)) (λ r h v. more (count_in_star v r) (count_in_star v s) (total (count_in_star v) leaf) (h v)) leaf (each_within leaf))
  where
    first : (a t : ℕ) → a ≤ a + t
    first a t = omega arith

    more : (a b t : ℕ) → a ≤ t → a ≤ b + t
    more a b t l = omega arith

value_once : (leaf : List Star) (y : Slot) → stands_once leaf y ≡ true → IsOnce (λ v. total (count_in_star v) leaf) y
value_once leaf (Const c) e = cc
value_once leaf (Var v) e = let q : total (count_in_star v) leaf ≡ 1 = eqb-true (total (count_in_star v) leaf) 1 e in omega (arith, q)

values_once : (leaf : List Star) (qs : List Arm) → list_all (λ (a : Arm). stands_once leaf a.value) qs ≡ true → AllByRecursion (λ (a : Arm). IsOnce (λ v. total (count_in_star v) leaf) a.value) qs
values_once leaf [] e = tt
values_once leaf (a ∷ qs) e =
    let h = and_parts (stands_once leaf a.value) (list_all (λ (b : Arm). stands_once leaf b.value) qs) e in
    (value_once leaf a.value h.0, values_once leaf qs h.1)

body_fresh : (ids : Ids) (leaf : List Star) (x : Slot) (body : StarBody) → ((v : ℕ) → count_in_slot v x + total (count_in_arm v) (arms_of body) ≤ total (count_in_star v) leaf) → (star : Star) → star.body ≡ body → star_fits leaf star ≡ true → IsFreshBody ids x body
body_fresh ids leaf x (Either l r) below star is e = tt
body_fresh ids leaf x (Both ps qs) below star is e =
    let h = and_parts (required_there star.body) _ e in
    let k = and_parts (constant_where_several star.body) _ h.1 in
    let values : list_all (λ (a : Arm). stands_once leaf a.value) qs ≡ true = subst (λ (b : StarBody). list_all (λ (a : Arm). stands_once leaf a.value) (optional_of b) ≡ true) is k.1 in
    optional_fresh ids (λ v. total (count_in_star v) leaf) qs (required_vars ids (entity_vars ids x) ps)
    (λ v. sum (held (required_vars ids (entity_vars ids x) ps) v) (held (entity_vars ids x) v) (count_in_slot v x) (total (count_in_arm v) ps) (total (count_in_arm v) qs) (total (count_in_arm v) (ps ++ qs)) (total (count_in_star v) leaf)
    (required_held ids (entity_vars ids x) ps v) (slot_held ids [] x v) (total-append (count_in_arm v) ps qs) (below v))
    (values_once leaf qs values)
  where
    sum : (a b c p q t m : ℕ) → a ≤ b + p → b ≤ 0 + c → t ≡ p + q → c + t ≤ m → a + q ≤ m
    sum a b c p q t m l k e n = omega arith

stars_fresh : (ids : Ids) (leaf stars : List Star) → list_all (star_fits leaf) stars ≡ true → AllByRecursion (Within leaf) stars → AllByRecursion (HasFreshValues ids) stars
stars_fresh ids leaf [] e all = tt
stars_fresh ids leaf (s ∷ stars) e all =
    let h = and_parts (star_fits leaf s) (list_all (star_fits leaf) stars) e in
    (body_fresh ids leaf s.entity s.body all.0 s refl h.0, stars_fresh ids leaf stars h.1 all.1)

pub fresh_values : (ids : Ids) (leaf : List Star) → leaf_fits leaf ≡ true → AllByRecursion (HasFreshValues ids) leaf
fresh_values ids leaf e = stars_fresh ids leaf leaf e (each_within leaf)

-- ---- arms

constant_is : (y : Slot) → is_constant y ≡ true → IsConstant y
constant_is (Var v) e = cc
constant_is (Const c) e = tt

each_is : (arms : List Arm) → list_all arm_in_width arms ≡ true → list_all (λ (a : Arm). is_constant a.pred) arms ≡ true → AllByRecursion IsArm arms
each_is [] w e = tt
each_is (a ∷ arms) w e =
    let h = and_parts (arm_in_width a) (list_all arm_in_width arms) w in
    let k = and_parts (is_constant a.pred) (list_all (λ (b : Arm). is_constant b.pred) arms) e in
    (record { constant = constant_is a.pred k.0; below = h.0 }, each_is arms h.1 k.1)

pub parted : {X : Type 0} (P : X → Type 0) (xs ys : List X) → AllByRecursion P (xs ++ ys) → AllByRecursion P xs × AllByRecursion P ys
parted P [] ys all = (tt, all)
parted P (x ∷ xs) ys all = let r = parted P xs ys all.1 in ((all.0, r.0), r.1)

pub is_star : (ids : Ids) (x : Slot) (arms : ArmsOf) → slot_in_width x ≡ true → list_all arm_in_width ((arms.first ∷ arms.required) ++ arms.optional) ≡ true → list_all (λ (a : Arm). is_constant a.pred) ((arms.first ∷ arms.required) ++ arms.optional) ≡ true →
    AllFresh ids (required_vars ids (entity_vars ids x) (arms.first ∷ arms.required)) arms.optional → IsStar ids x arms
is_star ids x arms xw w e fresh =
    let r = parted IsArm (arms.first ∷ arms.required) arms.optional (each_is ((arms.first ∷ arms.required) ++ arms.optional) w e) in
    record { entity = xw; required = r.0; optional = r.1; fresh = fresh }

pub several : (body : StarBody) → constant_where_several body ≡ true → nat_le (length (arms_of body)) 1 ≡ false → list_all (λ (a : Arm). is_constant a.pred) (arms_of body) ≡ true
several body e few = sym (ap (λ (b : Bool). b || list_all (λ (a : Arm). is_constant a.pred) (arms_of body)) few) ∙ e
