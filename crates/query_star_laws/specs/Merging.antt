-- Stars of a leaf may be merged: required arms of one entity, an optional arm, and two sides of a union.
use Rattle.std.specs.Prelude.{◌≡◌, ℕ, ◌<◌, ◌≤◌, ◌⊎◌, Bool, true, false, ◌||◌, ◌==◌, List, [], ◌∷◌, ◌++◌, map, None, is_some, refl}
use Rattle.std.proofs.Common.{sym, ap, ◌∙◌, subst, inl, inr}
use Rattle.std.proofs.lemmas.Bool.{eqb-true, and_parts, and_from, or_cases, or_left, lt-ltb, cases_lt, both_ways}
use Rattle.std.specs.List.{list_all, AllByRecursion, IsDistinct}
use Rattle.bags.specs.Bag.{SameBag}
use Rattle.bags.specs.BagLaws.{same-refl, same-sym, same-trans, same-append, each-weaker}
use Rattle.rdf_meaning.specs.Terms.{RdfTerm, RdfTriple, same_triple}
use Rattle.query_meaning.specs.declared.pattern.Slot.{Slot}
use Rattle.query_meaning.specs.declared.pattern.Pattern.{Pattern}
use Rattle.query_eval_meaning.specs.Mapping.{Mapping, nothing, width}
use Rattle.query_eval_meaning.specs.Leaf.{terms_of, is_variable, leaf}
use Rattle.query_eval_meaning.specs.Eval.{join, left_join}
use Rattle.query_eval_meaning.specs.Variables.{Variables, IsNarrow, Binds, IsOver}
use Rattle.query_eval_meaning.specs.Matches.{IsCovered}
use Rattle.rdf_meaning.specs.declared.side.SideName.{SideName}
use Rattle.query_eval_meaning.specs.Width.{slot_in_width}
use Rattle.query_plan_meaning.specs.declared.star.Arm.{Arm}
use Rattle.query_plan_meaning.specs.declared.star.Star.{Star}
use Rattle.query_plan_meaning.specs.declared.star.StarBody.{StarBody}
use Rattle.query_plan_meaning.specs.declared.star.StarBody.TheVariants.{Both, Either}
use Rattle.query_plan_meaning.specs.Stars.{arm_pattern, both_sols, body_sols, star_sols, stars_leaf, arms_variables, star_variables, stars_variables, star_certain, left_joins, arms_of, arm_in_width, star_in_width}
use Rattle.query_algebra_laws.specs.Joins.{same-join, same-left_join, join-nothing_right, join-comm, join-assoc}
use Rattle.query_algebra_laws.specs.LeavesJoin.{leaf_append, leaf_nothing}
use Rattle.std.proofs.lemmas.List.{append_assoc, append-nil}
use Rattle.rdf_meaning.specs.Terms.{is_empty}
use Rattle.query_plan_meaning.specs.Merged.{both, one_arm, is_required_only, patterns_of, all_patterns}
use Rattle.query_algebra_laws.specs.Optional.{left_join_into}
use Rattle.query_star_laws.specs.StarLeaves.{both-left_joins}
use Rattle.query_star_laws.specs.StarVariables.{star-over, stars-over, star-binds, over-more}

-- ---- a star by itself

-- a star of required arms is the leaf of their patterns
pub star-leaf : (g : List RdfTriple) → IsDistinct same_triple g → (x : Slot) (side : SideName) (required : List Arm) → is_empty required ≡ false → slot_in_width x ≡ true → list_all arm_in_width required ≡ true →
    SameBag (both_sols g x side required []) (leaf (map (arm_pattern x side) required) g)
star-leaf g d x side required n w r = both-left_joins g d x side required [] n w r refl

pub either-leaves : (g : List RdfTriple) → IsDistinct same_triple g → (x : Slot) (side : SideName) (left right : List Arm) → is_empty left ≡ false → is_empty right ≡ false → slot_in_width x ≡ true → list_all arm_in_width left ≡ true → list_all arm_in_width right ≡ true →
    SameBag (body_sols g x side (Either left right)) (leaf (map (arm_pattern x side) left) g ++ leaf (map (arm_pattern x side) right) g)
either-leaves g d x side left right n m w l r =
    same-append (both_sols g x side left []) (leaf (map (arm_pattern x side) left) g) (both_sols g x side right []) (leaf (map (arm_pattern x side) right) g)
    (star-leaf g d x side left n w l) (star-leaf g d x side right m w r)

-- ---- a leaf of stars is a leaf of patterns

required-star : (g : List RdfTriple) → IsDistinct same_triple g → (x : Slot) (side : SideName) (body : StarBody) → is_required_only body ≡ true → slot_in_width x ≡ true → list_all arm_in_width (arms_of body) ≡ true → SameBag (body_sols g x side body) (leaf (patterns_of x side body) g)
required-star g d x side (Both [] optional) f w k = cc
required-star g d x side (Both (a ∷ required) []) f w k = star-leaf g d x side (a ∷ required) refl w (subst (λ (arms : List Arm). list_all arm_in_width arms ≡ true) (append-nil (a ∷ required)) k)
required-star g d x side (Both (a ∷ required) (b ∷ optional)) f w k = cc
required-star g d x side (Either left right) f w k = cc

-- stars of required arms alone are together the leaf of all their patterns
pub stars-patterns : (g : List RdfTriple) → IsDistinct same_triple g → (stars : List Star) → list_all (λ (s : Star). is_required_only s.body) stars ≡ true → list_all star_in_width stars ≡ true → SameBag (stars_leaf g stars) (leaf (all_patterns stars) g)
stars-patterns g d [] f w = subst (λ (ms : List Mapping). SameBag (nothing ∷ []) ms) (sym (leaf_nothing g)) (same-refl (nothing ∷ []))
stars-patterns g d (star ∷ stars) f w =
    let p = and_parts (is_required_only star.body) (list_all (λ (s : Star). is_required_only s.body) stars) f in
    let q = and_parts (star_in_width star) (list_all star_in_width stars) w in
    let r = and_parts (slot_in_width star.entity) (list_all arm_in_width (arms_of star.body)) q.0 in
    same-trans (same-join (star_sols g star) (leaf (patterns_of star.entity star.side star.body) g) (stars_leaf g stars) (leaf (all_patterns stars) g)
    (required-star g d star.entity star.side star.body p.0 r.0 r.1) (stars-patterns g d stars p.1 q.1))
    (same-sym (leaf_append (patterns_of star.entity star.side star.body) (all_patterns stars) g))

-- ---- a star may stand anywhere in its leaf

narrow-star : (g : List RdfTriple) (star : Star) → star_in_width star ≡ true → AllByRecursion IsNarrow (star_sols g star)
narrow-star g star w = each-weaker (IsOver (star_variables star) (terms_of g)) IsNarrow (λ m o. o.narrow) (star_sols g star) (star-over g star w)

narrow-stars : (g : List RdfTriple) (stars : List Star) → list_all star_in_width stars ≡ true → AllByRecursion IsNarrow (stars_leaf g stars)
narrow-stars g stars w = each-weaker (IsOver (stars_variables stars) (terms_of g)) IsNarrow (λ m o. o.narrow) (stars_leaf g stars) (stars-over g stars w)

pub star-first : (g : List RdfTriple) (before : List Star) (star : Star) (after : List Star) → list_all star_in_width before ≡ true → star_in_width star ≡ true →
    SameBag (stars_leaf g (before ++ star ∷ after)) (join (star_sols g star) (stars_leaf g (before ++ after)))
star-first g [] star after b w = same-refl (join (star_sols g star) (stars_leaf g after))
star-first g (r ∷ before) star after b w =
    let h = and_parts (star_in_width r) (list_all star_in_width before) b in
    let R = star_sols g r in
    let S = star_sols g star in
    let L = stars_leaf g (before ++ after) in
    same-trans (same-join R R (stars_leaf g (before ++ star ∷ after)) (join S L) (same-refl R) (star-first g before star after h.1 w))
    (same-trans (same-sym (join-assoc R S L))
    (same-trans (same-join (join R S) (join S R) L L (join-comm R S (narrow-star g r h.0) (narrow-star g star w)) (same-refl L))
    (join-assoc S R L)))

-- ---- required arms of one entity

all-front : {X : Type 0} (p : X → Bool) (xs ys : List X) → list_all p (xs ++ ys) ≡ true → (list_all p xs ≡ true) × (list_all p ys ≡ true)
all-front p [] ys e = (refl, e)
all-front p (x ∷ xs) ys e =
    let h = and_parts (p x) (list_all p (xs ++ ys)) e in
    let k = all-front p xs ys h.1 in
    (and_from (p x) (list_all p xs) h.0 k.0, k.1)

all-both : {X : Type 0} (p : X → Bool) (xs ys : List X) → list_all p xs ≡ true → list_all p ys ≡ true → list_all p (xs ++ ys) ≡ true
all-both p [] ys a b = b
all-both p (x ∷ xs) ys a b = let h = and_parts (p x) (list_all p xs) a in and_from (p x) (list_all p (xs ++ ys)) h.0 (all-both p xs ys h.1 b)

map-append : {X Y : Type 0} (f : X → Y) (xs ys : List X) → map f (xs ++ ys) ≡ map f xs ++ map f ys
map-append f [] ys = refl
map-append {X} {Y} f (x ∷ xs) ys = ap (λ (zs : List Y). f x ∷ zs) (map-append f xs ys)

not-empty : {X : Type 0} (xs ys : List X) → is_empty xs ≡ false → is_empty (xs ++ ys) ≡ false
not-empty [] ys e = cc
not-empty (x ∷ xs) ys e = refl

-- two stars of one entity are one star with the arms of both
pub arms-merge : (g : List RdfTriple) → IsDistinct same_triple g → (x : Slot) (side : SideName) (first second : List Arm) → is_empty first ≡ false → is_empty second ≡ false → slot_in_width x ≡ true → list_all arm_in_width first ≡ true → list_all arm_in_width second ≡ true →
    SameBag (join (both_sols g x side first []) (both_sols g x side second [])) (both_sols g x side (first ++ second) [])
arms-merge g d x side first second n m w a b =
    let ps = map (arm_pattern x side) first in
    let qs = map (arm_pattern x side) second in
    same-trans (same-join (both_sols g x side first []) (leaf ps g) (both_sols g x side second []) (leaf qs g) (star-leaf g d x side first n w a) (star-leaf g d x side second m w b))
    (same-trans (same-sym (leaf_append ps qs g))
    (subst (λ (rs : List Pattern). SameBag (leaf rs g) (both_sols g x side (first ++ second) [])) (map-append (arm_pattern x side) first second)
    (same-sym (star-leaf g d x side (first ++ second) (not-empty first second n) w (all-both arm_in_width first second a b)))))

-- in a leaf, the merged star stands at the place of the first
pub leaf-merge : (g : List RdfTriple) → IsDistinct same_triple g → (x : Slot) (side : SideName) (first second : List Arm) (before between after : List Star) → is_empty first ≡ false → is_empty second ≡ false →
    list_all star_in_width (before ++ both x side first [] ∷ (between ++ both x side second [] ∷ after)) ≡ true →
    SameBag (stars_leaf g (before ++ both x side first [] ∷ (between ++ both x side second [] ∷ after))) (stars_leaf g (before ++ both x side (first ++ second) [] ∷ (between ++ after)))
leaf-merge g d x side first second before between after n m w =
    let one = both x side first [] in
    let two = both x side second [] in
    let merged = both x side (first ++ second) [] in
    let h = all-front star_in_width before (one ∷ (between ++ two ∷ after)) w in
    let i = and_parts (star_in_width one) (list_all star_in_width (between ++ two ∷ after)) h.1 in
    let j = all-front star_in_width between (two ∷ after) i.1 in
    let k = and_parts (star_in_width two) (list_all star_in_width after) j.1 in
    let a = and_parts (slot_in_width x) (list_all arm_in_width (first ++ [])) i.0 in
    let b = and_parts (slot_in_width x) (list_all arm_in_width (second ++ [])) k.0 in
    let a1 = (all-front arm_in_width first [] a.1).0 in
    let b1 = (all-front arm_in_width second [] b.1).0 in
    let wm : star_in_width merged ≡ true = and_from (slot_in_width x) (list_all arm_in_width ((first ++ second) ++ [])) a.0 (all-both arm_in_width (first ++ second) [] (all-both arm_in_width first second a1 b1) refl) in
    let S = star_sols g one in
    let T = star_sols g two in
    let L = stars_leaf g ((before ++ between) ++ after) in
    let middle : SameBag (stars_leaf g (before ++ (between ++ two ∷ after))) (join T L) =
    subst (λ (ss : List Star). SameBag (stars_leaf g ss) (join T L)) (append_assoc before between (two ∷ after))
    (star-first g (before ++ between) two after (all-both star_in_width before between h.0 j.0) k.0) in
    let ends : SameBag (join (star_sols g merged) L) (stars_leaf g (before ++ merged ∷ (between ++ after))) =
    subst (λ (ss : List Star). SameBag (join (star_sols g merged) (stars_leaf g ss)) (stars_leaf g (before ++ merged ∷ (between ++ after)))) (sym (append_assoc before between after))
    (same-sym (star-first g before merged (between ++ after) h.0 wm)) in
    same-trans (star-first g before one (between ++ two ∷ after) h.0 i.0)
    (same-trans (same-join S S (stars_leaf g (before ++ (between ++ two ∷ after))) (join T L) (same-refl S) middle)
    (same-trans (same-sym (join-assoc S T L))
    (same-trans (same-join (join S T) (star_sols g merged) L L (arms-merge g d x side first second n m a.0 a1 b1) (same-refl L)) ends)))

-- ---- an optional arm

joins-append : (g : List RdfTriple) (ms : List Mapping) (ps : List Pattern) (p : Pattern) → left_joins g ms (ps ++ p ∷ []) ≡ left_join (λ m. true) (left_joins g ms ps) (leaf (p ∷ []) g)
joins-append g ms [] p = refl
joins-append g ms (q ∷ ps) p = joins-append g (left_join (λ m. true) ms (leaf (q ∷ []) g)) ps p

-- a left join of a star with a star of one arm is the star with one more optional arm
pub optional-merge : (g : List RdfTriple) → IsDistinct same_triple g → (x : Slot) (side : SideName) (required optional : List Arm) (a : Arm) → is_empty required ≡ false → slot_in_width x ≡ true → list_all arm_in_width required ≡ true → list_all arm_in_width optional ≡ true → arm_in_width a ≡ true →
    SameBag (left_join (λ m. true) (both_sols g x side required optional) (both_sols g x side (a ∷ []) [])) (both_sols g x side required (optional ++ a ∷ []))
optional-merge g d x side required optional a n w r o k =
    let ps = map (arm_pattern x side) required in
    let qs = map (arm_pattern x side) optional in
    let p = arm_pattern x side a in
    let one : list_all arm_in_width (a ∷ []) ≡ true = and_from (arm_in_width a) true k refl in
    same-trans (same-left_join (λ m. true) (both_sols g x side required optional) (left_joins g (leaf ps g) qs) (both_sols g x side (a ∷ []) []) (leaf (p ∷ []) g)
    (both-left_joins g d x side required optional n w r o) (star-leaf g d x side (a ∷ []) refl w one))
    (subst (λ (ms : List Mapping). SameBag ms (both_sols g x side required (optional ++ a ∷ []))) (joins-append g (leaf ps g) qs p)
    (subst (λ (rs : List Pattern). SameBag (left_joins g (leaf ps g) rs) (both_sols g x side required (optional ++ a ∷ []))) (map-append (arm_pattern x side) optional (a ∷ []))
    (same-sym (both-left_joins g d x side required (optional ++ a ∷ []) n w r (all-both arm_in_width optional (a ∷ []) o one)))))

is_some-none : (m : Mapping) (v : ℕ) → m v ≡ None → is_some (m v) ≡ true → ⊥
is_some-none m v n e = both_ways (is_some (m v)) (ap is_some n) e

-- what a solution of the rest shares with one of the arm is the entity, which each solution of the star binds
covered : (g : List RdfTriple) (x : Slot) (vs : Variables) (v : ℕ) (l y b : Mapping) → IsOver vs (terms_of g) l → vs v ≡ false → Binds (λ u. is_variable u x) y → IsOver (λ u. is_variable u x || (u == v)) (terms_of g) b → IsCovered l y b
covered g x vs v l y b ol f by ob u p q = at (cases_lt u width)
  where
    at : (u < width) ⊎ (width ≤ u) → is_some (y u) ≡ true
    at (inr k) = absurd (is_some-none b u (ob.narrow u k) q)
    at (inl k) = which (or_cases (is_variable u x) (u == v) (ob.alone u q))
      where
        which : (is_variable u x ≡ true) ⊎ ((u == v) ≡ true) → is_some (y u) ≡ true
        which (inl h) = by.bound u k h
        which (inr h) = let same : u ≡ v = eqb-true u v h in absurd (both_ways (vs u) (ap vs same ∙ f) (ol.alone u p))

-- in a leaf: the arm's predicate is constant, and its value is a variable that stands nowhere in the rest of the leaf
pub leaf-optional : (g : List RdfTriple) → IsDistinct same_triple g → (x : Slot) (side : SideName) (required optional : List Arm) (number : ℕ) (pred : RdfTerm) (v : ℕ) (before after : List Star) → is_empty required ≡ false →
    list_all star_in_width (before ++ both x side required optional ∷ after) ≡ true → v < width → stars_variables (before ++ after) v ≡ false →
    SameBag (left_join (λ m. true) (stars_leaf g (before ++ both x side required optional ∷ after)) (stars_leaf g (both x side (one_arm number pred v ∷ []) [] ∷ [])))
    (stars_leaf g (before ++ both x side required (optional ++ one_arm number pred v ∷ []) ∷ after))
leaf-optional g d x side required optional number pred v before after n w l f =
    let a = one_arm number pred v in
    let star = both x side required optional in
    let lone = both x side (a ∷ []) [] in
    let more = both x side required (optional ++ a ∷ []) in
    let h = all-front star_in_width before (star ∷ after) w in
    let i = and_parts (star_in_width star) (list_all star_in_width after) h.1 in
    let j = and_parts (slot_in_width x) (list_all arm_in_width (required ++ optional)) i.0 in
    let k = all-front arm_in_width required optional j.1 in
    let wa : arm_in_width a ≡ true = lt-ltb v width l in
    let wl : star_in_width lone ≡ true = and_from (slot_in_width x) (list_all arm_in_width (a ∷ [])) j.0 (and_from (arm_in_width a) true wa refl) in
    let wo : list_all arm_in_width (optional ++ a ∷ []) ≡ true = all-both arm_in_width optional (a ∷ []) k.1 (and_from (arm_in_width a) true wa refl) in
    let wm : star_in_width more ≡ true = and_from (slot_in_width x) (list_all arm_in_width (required ++ (optional ++ a ∷ []))) j.0 (all-both arm_in_width required (optional ++ a ∷ []) k.0 wo) in
    let wr : list_all star_in_width (before ++ after) ≡ true = all-both star_in_width before after h.0 i.1 in
    let S = star_sols g star in
    let L = stars_leaf g (before ++ after) in
    let B = star_sols g lone in
    let nS = narrow-star g star i.0 in
    let nL = narrow-stars g (before ++ after) wr in
    let turned : SameBag (stars_leaf g (before ++ star ∷ after)) (join L S) = same-trans (star-first g before star after h.0 i.0) (join-comm S L nS nL) in
    let alone : SameBag (stars_leaf g (lone ∷ [])) B = join-nothing_right B in
    let ob : AllByRecursion (IsOver (λ u. is_variable u x || (u == v)) (terms_of g)) B = each-weaker (IsOver (star_variables lone) (terms_of g)) (IsOver (λ u. is_variable u x || (u == v)) (terms_of g)) (over-more (star_variables lone) (λ u. is_variable u x || (u == v)) (terms_of g) (λ u q. own u q)) B (star-over g lone wl) in
    let cover : AllByRecursion (λ m. AllByRecursion (λ y. AllByRecursion (IsCovered m y) B) S) L =
    each-weaker (IsOver (stars_variables (before ++ after)) (terms_of g)) (λ m. AllByRecursion (λ y. AllByRecursion (IsCovered m y) B) S) (λ m om.
    each-weaker (Binds (star_certain star)) (λ y. AllByRecursion (IsCovered m y) B) (λ y by.
    each-weaker (IsOver (λ u. is_variable u x || (u == v)) (terms_of g)) (IsCovered m y) (λ b ob. covered g x (stars_variables (before ++ after)) v m y b om f (entity y by) ob) B ob) S (star-binds g star)) L (stars-over g (before ++ after) wr) in
    same-trans (same-left_join (λ m. true) (stars_leaf g (before ++ star ∷ after)) (join L S) (stars_leaf g (lone ∷ [])) B turned alone)
    (same-trans (left_join_into L S B cover)
    (same-trans (same-join L L (left_join (λ m. true) S B) (star_sols g more) (same-refl L) (optional-merge g d x side required optional a n j.0 k.0 k.1 wa))
    (same-trans (join-comm L (star_sols g more) nL (narrow-star g more wm))
    (same-sym (star-first g before more after h.0 wm)))))
  where
    own : (u : ℕ) → star_variables (both x side (one_arm number pred v ∷ []) []) u ≡ true → (is_variable u x || (u == v)) ≡ true
    own u q = at (is_variable u x) (u == v) q
      where
        at : (p r : Bool) → (p || ((r || false) || false)) ≡ true → (p || r) ≡ true
        at true r e = refl
        at false true e = refl
        at false false e = cc

    entity : (y : Mapping) → Binds (star_certain (both x side required optional)) y → Binds (λ u. is_variable u x) y
    entity y by = record { bound = λ u k h. by.bound u k (or_left (is_variable u x) (arms_variables required u) h) }

-- ---- a union

-- the solutions of two stars of required arms one after the other are those of one Either star
pub union-merge : (g : List RdfTriple) (x : Slot) (side : SideName) (left right : List Arm) →
    SameBag (stars_leaf g (both x side left [] ∷ []) ++ stars_leaf g (both x side right [] ∷ [])) (stars_leaf g (record { entity = x; side = side; body = Either left right } ∷ []))
union-merge g x side left right =
    let A = both_sols g x side left [] in
    let B = both_sols g x side right [] in
    same-trans (same-append (join A (nothing ∷ [])) A (join B (nothing ∷ [])) B (join-nothing_right A) (join-nothing_right B)) (same-sym (join-nothing_right (A ++ B)))
