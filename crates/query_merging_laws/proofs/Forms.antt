-- What the tests of merging tell of stars.
use Rattle.std.specs.Prelude.{◌≡◌, ◌⊎◌, Bool, true, false, not, ◌&&◌, nat_le, List, [], ◌∷◌, ◌++◌, length, Option, Some, None, is_none, refl}
use Rattle.std.proofs.Common.{sym, ap, subst, inl, inr}
use Rattle.std.proofs.lemmas.Bool.{eqb-true, and_parts, and_from, or_cases, or_left, or_right, true≢false}
use Rattle.std.specs.List.{list_all}
use Rattle.rdf_meaning.specs.Terms.{RdfTerm, is_empty}
use Rattle.rdf_meaning.specs.TermLaws.{same_term-is}
use Rattle.rdf_meaning.specs.declared.side.SideName.{SideName}
use Rattle.rdf_meaning.specs.declared.side.SideName.TheVariants.{Direct, Reverse}
use Rattle.layout_meaning.specs.Facts.{SpilledTerms}
use Rattle.query_meaning.specs.declared.pattern.Slot.{Slot}
use Rattle.query_meaning.specs.declared.pattern.Slot.TheVariants.{Var, Const}
use Rattle.query_plan_meaning.specs.declared.star.Arm.{Arm}
use Rattle.query_plan_meaning.specs.declared.star.Star.{Star}
use Rattle.query_plan_meaning.specs.declared.star.StarBody.{StarBody}
use Rattle.query_plan_meaning.specs.declared.star.StarBody.TheVariants.{Both, Either}
use Rattle.query_plan_meaning.specs.Stars.{arms_of, star_in_width}
use Rattle.query_plan_meaning.specs.Plans.{is_constant, optional_of, required_there, constant_where_several, star_fits, leaf_fits}
use Rattle.query_plan_meaning.specs.Merged.{both, is_required_only}
use Rattle.query_merging_meaning.specs.Merging.{spilled_on, is_constant_beside, is_plain_arm, is_plain, same_slot, same_side, same_entity, required_of, is_both, is_one_arm, is_single, is_plain_where_several}

-- ---- lists and options

pub all-front : {X : Type 0} (p : X → Bool) (xs ys : List X) → list_all p (xs ++ ys) ≡ true → (list_all p xs ≡ true) × (list_all p ys ≡ true)
all-front p [] ys e = (refl, e)
all-front p (x ∷ xs) ys e =
    let h = and_parts (p x) (list_all p (xs ++ ys)) e in
    let k = all-front p xs ys h.1 in
    (and_from (p x) (list_all p xs) h.0 k.0, k.1)

pub all-both : {X : Type 0} (p : X → Bool) (xs ys : List X) → list_all p xs ≡ true → list_all p ys ≡ true → list_all p (xs ++ ys) ≡ true
all-both p [] ys a b = b
all-both p (x ∷ xs) ys a b = let h = and_parts (p x) (list_all p xs) a in and_from (p x) (list_all p (xs ++ ys)) h.0 (all-both p xs ys h.1 b)

pub all-more : {X : Type 0} (p q : X → Bool) → ((x : X) → p x ≡ true → q x ≡ true) → (xs : List X) → list_all p xs ≡ true → list_all q xs ≡ true
all-more p q h [] e = refl
all-more p q h (x ∷ xs) e = let k = and_parts (p x) (list_all p xs) e in and_from (q x) (list_all q xs) (h x k.0) (all-more p q h xs k.1)

pub none_some : {X : Type 0} (x : X) → None ≡ Some x → ⊥
none_some x e = true≢false (ap is_none e)

abbrev from_some : {X : Type 0} → X → Option X → X
from_some d None = d
from_some d (Some x) = x

pub some_is : {X : Type 0} (x y : X) → Some x ≡ Some y → x ≡ y
some_is x y e = ap (from_some x) e

pub not-empty : {X : Type 0} (xs ys : List X) → is_empty xs ≡ false → is_empty (xs ++ ys) ≡ false
not-empty [] ys e = cc
not-empty (x ∷ xs) ys e = refl

pub from_not : (b : Bool) → not b ≡ true → b ≡ false
from_not true e = cc
from_not false e = refl

pub to_not : (b : Bool) → b ≡ false → not b ≡ true
to_not true e = cc
to_not false e = refl

-- ---- slots, sides and bodies

pub slot-is : (x y : Slot) → same_slot x y ≡ true → x ≡ y
slot-is (Var v) (Var w) e = ap (λ u. Var u) (eqb-true v w e)
slot-is (Var v) (Const t) e = cc
slot-is (Const s) (Var w) e = cc
slot-is (Const s) (Const t) e = ap (λ u. Const u) (same_term-is s t e)

pub side-is : (a b : SideName) → same_side a b ≡ true → a ≡ b
side-is Direct Direct e = refl
side-is Direct Reverse e = cc
side-is Reverse Direct e = cc
side-is Reverse Reverse e = refl

pub entity-is : (star other : Star) → same_entity star other ≡ true → (star.entity ≡ other.entity) × (star.side ≡ other.side)
entity-is star other e =
    let h = and_parts (same_slot star.entity other.entity) (same_side star.side other.side) e in
    (slot-is star.entity other.entity h.0, side-is star.side other.side h.1)

body-is : (b : StarBody) → is_required_only b ≡ true → b ≡ Both (required_of b) []
body-is (Both required []) e = refl
body-is (Both required (a ∷ arms)) e = let h = and_parts (not (is_empty required)) (is_empty (a ∷ arms)) e in let k : false ≡ true = h.1 in cc
body-is (Either left right) e = cc

some-required : (b : StarBody) → is_required_only b ≡ true → is_empty (required_of b) ≡ false
some-required (Both required optional) e = from_not (is_empty required) (and_parts (not (is_empty required)) (is_empty optional) e).0
some-required (Either left right) e = cc

-- a star of required arms alone
pub star-is : (star : Star) → is_required_only star.body ≡ true → star ≡ both star.entity star.side (required_of star.body) []
star-is star e = ap (λ (b : StarBody). record { entity = star.entity; side = star.side; body = b }) (body-is star.body e)

pub star-some : (star : Star) → is_required_only star.body ≡ true → is_empty (required_of star.body) ≡ false
star-some star e = some-required star.body e

body-both : (b : StarBody) → is_both b ≡ true → b ≡ Both (required_of b) (optional_of b)
body-both (Both required optional) e = refl
body-both (Either left right) e = cc

pub star-both : (star : Star) → is_both star.body ≡ true → star ≡ both star.entity star.side (required_of star.body) (optional_of star.body)
star-both star e = ap (λ (b : StarBody). record { entity = star.entity; side = star.side; body = b }) (body-both star.body e)

body-there : (b : StarBody) → is_both b ≡ true → required_there b ≡ true → is_empty (required_of b) ≡ false
body-there (Both required optional) e r = from_not (is_empty required) r
body-there (Either left right) e r = cc

pub star-there : (star : Star) → is_both star.body ≡ true → required_there star.body ≡ true → is_empty (required_of star.body) ≡ false
star-there star e r = body-there star.body e r

body-arms : (b : StarBody) → is_both b ≡ true → arms_of b ≡ required_of b ++ optional_of b
body-arms (Both required optional) e = refl
body-arms (Either left right) e = cc

pub plain-arms : (spilled : SpilledTerms) (star : Star) → is_both star.body ≡ true → is_plain spilled star ≡ true → list_all (is_plain_arm spilled star.side) (required_of star.body ++ optional_of star.body) ≡ true
plain-arms spilled star e p = subst (λ (arms : List Arm). list_all (is_plain_arm spilled star.side) arms ≡ true) (body-arms star.body e) p

-- ---- plain arms have constant predicates

constant-beside : (terms : List RdfTerm) (x : Slot) → is_constant_beside terms x ≡ true → is_constant x ≡ true
constant-beside terms (Var v) e = cc
constant-beside terms (Const t) e = refl

pub plain-constant : (spilled : SpilledTerms) (side : SideName) (arms : List Arm) → list_all (is_plain_arm spilled side) arms ≡ true → list_all (λ (a : Arm). is_constant a.pred) arms ≡ true
plain-constant spilled side arms = all-more (is_plain_arm spilled side) (λ (a : Arm). is_constant a.pred) (λ a e. constant-beside (spilled_on spilled side) a.pred e) arms

-- ---- what is said of the stars of a leaf

-- what holds of a leaf before and after merging
pub record IsGood (spilled : SpilledTerms) (stars : List Star) : Type 0 where
  pub fits : leaf_fits stars ≡ true
  pub below : list_all star_in_width stars ≡ true
  pub plain : list_all (is_plain_where_several spilled) stars ≡ true

-- required arms alone, in width, and plain where there are several
abbrev pub is_tidy : SpilledTerms → Star → Bool
is_tidy spilled star = is_required_only star.body && (star_in_width star && is_plain_where_several spilled star)

pub record Tidy (spilled : SpilledTerms) (star : Star) : Type 0 where
  pub alone : is_required_only star.body ≡ true
  pub below : star_in_width star ≡ true
  pub plain : is_plain_where_several spilled star ≡ true

pub tidy-is : (spilled : SpilledTerms) (star : Star) → is_tidy spilled star ≡ true → Tidy spilled star
tidy-is spilled star e =
    let h = and_parts (is_required_only star.body) (star_in_width star && is_plain_where_several spilled star) e in
    let k = and_parts (star_in_width star) (is_plain_where_several spilled star) h.1 in
    record { alone = h.0; below = k.0; plain = k.1 }

pub tidy-from : (spilled : SpilledTerms) (star : Star) → Tidy spilled star → is_tidy spilled star ≡ true
tidy-from spilled star t = and_from (is_required_only star.body) (star_in_width star && is_plain_where_several spilled star) t.alone (and_from (star_in_width star) (is_plain_where_several spilled star) t.below t.plain)

-- the test of constants from that of plain arms
pub constants-where-several : (spilled : SpilledTerms) (star : Star) → is_plain_where_several spilled star ≡ true → constant_where_several star.body ≡ true
constants-where-several spilled star e = at (or_cases (nat_le (length (arms_of star.body)) 1) (is_plain spilled star) e)
  where
    at : (nat_le (length (arms_of star.body)) 1 ≡ true) ⊎ (is_plain spilled star ≡ true) → constant_where_several star.body ≡ true
    at (inl h) = or_left (nat_le (length (arms_of star.body)) 1) (list_all (λ (a : Arm). is_constant a.pred) (arms_of star.body)) h
    at (inr h) = or_right (nat_le (length (arms_of star.body)) 1) (list_all (λ (a : Arm). is_constant a.pred) (arms_of star.body)) (plain-constant spilled star.side (arms_of star.body) h)

fits-both : (leaf : List Star) (x : Slot) (side : SideName) (required : List Arm) → is_empty required ≡ false → constant_where_several (Both required []) ≡ true → star_fits leaf (both x side required []) ≡ true
fits-both leaf x side required n c = and_from (not (is_empty required)) (constant_where_several (Both required []) && true) (to_not (is_empty required) n) (and_from (constant_where_several (Both required [])) true c refl)

tidy-fits : (spilled : SpilledTerms) (leaf : List Star) (star : Star) → is_tidy spilled star ≡ true → star_fits leaf star ≡ true
tidy-fits spilled leaf star e =
    let t = tidy-is spilled star e in
    let is = star-is star t.alone in
    subst (λ (s : Star). star_fits leaf s ≡ true) (sym is)
    (fits-both leaf star.entity star.side (required_of star.body) (star-some star t.alone)
    (subst (λ (s : Star). constant_where_several s.body ≡ true) is (constants-where-several spilled star t.plain)))

pub tidy-good : (spilled : SpilledTerms) (stars : List Star) → list_all (is_tidy spilled) stars ≡ true → IsGood spilled stars
tidy-good spilled stars e = record {
  fits = all-more (is_tidy spilled) (star_fits stars) (tidy-fits spilled stars) stars e;
  below = all-more (is_tidy spilled) star_in_width (λ s t. (tidy-is spilled s t).below) stars e;
  plain = all-more (is_tidy spilled) (is_plain_where_several spilled) (λ s t. (tidy-is spilled s t).plain) stars e;
}

-- ---- single stars are tidy

one-arm-is : (b : StarBody) → is_one_arm b ≡ true → (is_required_only b ≡ true) × (nat_le (length (arms_of b)) 1 ≡ true)
one-arm-is (Both [] optional) e = absurd (true≢false (sym e))
one-arm-is (Both (a ∷ []) []) e = (refl, refl)
one-arm-is (Both (a ∷ []) (b ∷ arms)) e = absurd (true≢false (sym e))
one-arm-is (Both (a ∷ b ∷ arms) optional) e = absurd (true≢false (sym e))
one-arm-is (Either left right) e = absurd (true≢false (sym e))

pub single-tidy : (spilled : SpilledTerms) (star : Star) → is_single star ≡ true → star_in_width star ≡ true → is_tidy spilled star ≡ true
single-tidy spilled star e w =
    let h = one-arm-is star.body e in
    tidy-from spilled star (record { alone = h.0; below = w; plain = or_left (nat_le (length (arms_of star.body)) 1) (is_plain spilled star) h.1 })

pub singles-tidy : (spilled : SpilledTerms) (stars : List Star) → list_all is_single stars ≡ true → list_all star_in_width stars ≡ true → list_all (is_tidy spilled) stars ≡ true
singles-tidy spilled [] e w = refl
singles-tidy spilled (star ∷ stars) e w =
    let h = and_parts (is_single star) (list_all is_single stars) e in
    let k = and_parts (star_in_width star) (list_all star_in_width stars) w in
    and_from (is_tidy spilled star) (list_all (is_tidy spilled) stars) (single-tidy spilled star h.0 k.0) (singles-tidy spilled stars h.1 k.1)
