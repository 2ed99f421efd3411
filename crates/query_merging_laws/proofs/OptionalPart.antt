-- The leaf with one more optional arm has the solutions of the left join.
use Rattle.std.specs.Prelude.{◌≡◌, ℕ, ◌+◌, ◌<◌, ◌⊎◌, Bool, true, false, if◌then◌else◌, ◌&&◌, ◌==◌, nat_le, nat_lt, List, [], ◌∷◌, ◌++◌, length, Option, Some, None, option_map, option_and_then, refl}
use Rattle.std.proofs.Common.{sym, ap, ap₂, ◌∙◌, subst, arith, inl, inr}
use Rattle.std.proofs.lemmas.Bool.{eqb-true, ltb-true, and_parts, and_from, or_parts, or_from, or_right, cases_Bool, both_ways}
use Rattle.std.specs.List.{list_any, list_all, IsDistinct}
use Rattle.bags.specs.Bag.{total, SameBag}
use Rattle.bags.specs.BagLaws.{same-sym, total-append}
use Rattle.rdf_meaning.specs.Terms.{RdfTerm, RdfTriple, same_triple, is_empty}
use Rattle.rdf_meaning.specs.declared.side.SideName.{SideName}
use Rattle.layout_meaning.specs.Facts.{SpilledTerms}
use Rattle.query_meaning.specs.declared.pattern.Slot.{Slot}
use Rattle.query_meaning.specs.declared.pattern.Slot.TheVariants.{Var, Const}
use Rattle.query_eval_meaning.specs.Mapping.{width}
use Rattle.query_eval_meaning.specs.Leaf.{is_variable}
use Rattle.query_eval_meaning.specs.Eval.{left_join}
use Rattle.query_eval_meaning.specs.Width.{slot_in_width}
use Rattle.query_plan_meaning.specs.declared.star.Arm.{Arm}
use Rattle.query_plan_meaning.specs.declared.star.Star.{Star}
use Rattle.query_plan_meaning.specs.declared.star.StarBody.{StarBody}
use Rattle.query_plan_meaning.specs.declared.star.StarBody.TheVariants.{Both, Either}
use Rattle.query_plan_meaning.specs.Stars.{stars_leaf, arms_of, arm_in_width, star_in_width, arm_variables, arms_variables, body_variables, star_variables, stars_variables}
use Rattle.query_plan_meaning.specs.Plans.{is_constant, count_in_slot, count_in_arm, count_in_star, stands_once, required_there, constant_where_several, optional_of, star_fits}
use Rattle.query_plan_meaning.specs.Merged.{both, one_arm}
use Rattle.query_star_laws.specs.Merging.{leaf-optional}
use Rattle.query_merging_meaning.specs.Merging.{spilled_on, is_constant_beside, is_plain_arm, is_plain, same_entity, required_of, is_both, lone_star, is_new_in, with_optional_arm, takes_arms_of, put_optional, with_optional_star, merged_optional, is_plain_where_several}
use Rattle.query_merging_laws.proofs.Forms.{all-front, all-both, all-more, none_some, some_is, from_not, to_not, entity-is, star-is, star-both, star-there, plain-arms, plain-constant, IsGood}
use Rattle.query_merging_laws.proofs.UnionSides.{IsLone, lone-is}

-- ---- where the arm goes

record IsTaken (spilled : SpilledTerms) (lone : Star) (a : Arm) (stars merged : List Star) : Type 0 where
  before : List Star
  after : List Star
  required : List Arm
  optional : List Arm
  was : stars ≡ before ++ both lone.entity lone.side required optional ∷ after
  now : merged ≡ before ++ both lone.entity lone.side required (optional ++ a ∷ []) ∷ after
  some : is_empty required ≡ false
  plain : list_all (is_plain_arm spilled lone.side) (required ++ optional) ≡ true

taken-here : (spilled : SpilledTerms) (lone : Star) (a : Arm) (star : Star) (stars merged : List Star) → takes_arms_of spilled star lone ≡ true → required_there star.body ≡ true → with_optional_arm star a ∷ stars ≡ merged → IsTaken spilled lone a (star ∷ stars) merged
taken-here spilled lone a star stars merged t r e =
    let h = and_parts (same_entity star lone) (is_plain spilled star && is_both star.body) t in
    let k = and_parts (is_plain spilled star) (is_both star.body) h.1 in
    let i = entity-is star lone h.0 in
    let req = required_of star.body in
    let opt = optional_of star.body in
    record {
      before = [];
      after = stars;
      required = req;
      optional = opt;
      was = ap (λ (s : Star). s ∷ stars) (star-both star k.1 ∙ ap₂ (λ (x : Slot) (side : SideName). both x side req opt) i.0 i.1);
      now = sym e ∙ ap₂ (λ (x : Slot) (side : SideName). both x side req (opt ++ a ∷ []) ∷ stars) i.0 i.1;
      some = star-there star k.1 r;
      plain = subst (λ (side : SideName). list_all (is_plain_arm spilled side) (req ++ opt) ≡ true) i.1 (plain-arms spilled star k.1 k.0);
    }

taken-later : (spilled : SpilledTerms) (lone : Star) (a : Arm) (star : Star) (stars more merged : List Star) → IsTaken spilled lone a stars more → star ∷ more ≡ merged → IsTaken spilled lone a (star ∷ stars) merged
taken-later spilled lone a star stars more merged t e = record {
  before = star ∷ t.before;
  after = t.after;
  required = t.required;
  optional = t.optional;
  was = ap (λ (ss : List Star). star ∷ ss) t.was;
  now = sym e ∙ ap (λ (ss : List Star). star ∷ ss) t.now;
  some = t.some;
  plain = t.plain;
}

taken-is : (spilled : SpilledTerms) (lone : Star) (a : Arm) (stars merged : List Star) → list_all (λ (s : Star). required_there s.body) stars ≡ true → put_optional spilled lone a stars ≡ Some merged → IsTaken spilled lone a stars merged
taken-is spilled lone a [] merged r e = absurd (none_some merged e)
taken-is spilled lone a (star ∷ stars) merged r e =
    let k = and_parts (required_there star.body) (list_all (λ (s : Star). required_there s.body) stars) r in
    at (takes_arms_of spilled star lone) refl k.0 (λ (more : List Star) (f : put_optional spilled lone a stars ≡ Some more). taken-is spilled lone a stars more k.1 f) e
  where
    later : (o : Option (List Star)) → put_optional spilled lone a stars ≡ o → ((more : List Star) → put_optional spilled lone a stars ≡ Some more → IsTaken spilled lone a stars more) →
        option_map (λ (more : List Star). star ∷ more) o ≡ Some merged → IsTaken spilled lone a (star ∷ stars) merged
    later None h rest f = absurd (none_some merged f)
    later (Some more) h rest f = taken-later spilled lone a star stars more merged (rest more h) (some_is (star ∷ more) merged f)

    at : (b : Bool) → takes_arms_of spilled star lone ≡ b → required_there star.body ≡ true → ((more : List Star) → put_optional spilled lone a stars ≡ Some more → IsTaken spilled lone a stars more) →
        (if b then Some (with_optional_arm star a ∷ stars) else option_map (λ (more : List Star). star ∷ more) (put_optional spilled lone a stars)) ≡ Some merged → IsTaken spilled lone a (star ∷ stars) merged
    at true h there rest f = taken-here spilled lone a star stars merged h there (some_is (with_optional_arm star a ∷ stars) merged f)
    at false h there rest f = later (put_optional spilled lone a stars) refl rest f

-- ---- the whole rule

record IsPart (spilled : SpilledTerms) (stars part merged : List Star) : Type 0 where
  x : Slot
  side : SideName
  number : ℕ
  pred : RdfTerm
  v : ℕ
  before : List Star
  after : List Star
  required : List Arm
  optional : List Arm
  lone : part ≡ both x side (one_arm number pred v ∷ []) [] ∷ []
  was : stars ≡ before ++ both x side required optional ∷ after
  now : merged ≡ before ++ both x side required (optional ++ one_arm number pred v ∷ []) ∷ after
  some : is_empty required ≡ false
  plain : list_all (is_plain_arm spilled side) (required ++ optional) ≡ true
  own : is_plain_arm spilled side (one_arm number pred v) ≡ true
  absent : stars_variables stars v ≡ false

record IsArmOf (stars : List Star) (p o : Slot) : Type 0 where
  pred : RdfTerm
  v : ℕ
  pred_is : p ≡ Const pred
  value_is : o ≡ Var v
  absent : stars_variables stars v ≡ false

arm-of : (stars : List Star) (terms : List RdfTerm) (p o : Slot) → is_constant_beside terms p ≡ true → is_new_in stars o ≡ true → IsArmOf stars p o
arm-of stars terms (Var w) o e f = absurd (both_ways false refl e)
arm-of stars terms (Const t) (Var v) e f = record { pred = t; v = v; pred_is = refl; value_is = refl; absent = from_not (stars_variables stars v) f }
arm-of stars terms (Const t) (Const u) e f = absurd (both_ways false refl f)

part-of : (spilled : SpilledTerms) (stars part merged : List Star) (star : Star) (a : Arm) → IsLone spilled part star → required_of star.body ≡ a ∷ [] → is_new_in stars a.value ≡ true → IsTaken spilled star a stars merged → IsPart spilled stars part merged
part-of spilled stars part merged star a h r n t =
    let form : star ≡ both star.entity star.side (a ∷ []) [] = star-is star h.form ∙ ap (λ (arms : List Arm). both star.entity star.side arms []) r in
    let plain : list_all (is_plain_arm spilled star.side) (a ∷ []) ≡ true = subst (λ (s : Star). is_plain spilled s ≡ true) form h.plain in
    let own : is_plain_arm spilled star.side a ≡ true = (and_parts (is_plain_arm spilled star.side a) true plain).0 in
    let i = arm-of stars (spilled_on spilled star.side) a.pred a.value own n in
    let is : a ≡ one_arm a.pattern i.pred i.v = ap₂ (λ (p o : Slot). record { pattern = a.pattern; pred = p; value = o }) i.pred_is i.value_is in
    record {
      x = star.entity;
      side = star.side;
      number = a.pattern;
      pred = i.pred;
      v = i.v;
      before = t.before;
      after = t.after;
      required = t.required;
      optional = t.optional;
      lone = h.alone ∙ ap (λ (s : Star). s ∷ []) form ∙ ap (λ (b : Arm). both star.entity star.side (b ∷ []) [] ∷ []) is;
      was = t.was;
      now = t.now ∙ ap (λ (b : Arm). t.before ++ both star.entity star.side t.required (t.optional ++ b ∷ []) ∷ t.after) is;
      some = t.some;
      plain = t.plain;
      own = subst (λ (b : Arm). is_plain_arm spilled star.side b ≡ true) is own;
      absent = i.absent;
    }

part-is : (spilled : SpilledTerms) (stars part merged : List Star) → list_all (λ (s : Star). required_there s.body) stars ≡ true → merged_optional spilled stars part ≡ Some merged → IsPart spilled stars part merged
part-is spilled stars part merged r e = at (lone_star spilled part) refl e
  where
    test : (star : Star) (a : Arm) → IsLone spilled part star → required_of star.body ≡ a ∷ [] → (b : Bool) → is_new_in stars a.value ≡ b → (if b then put_optional spilled star a stars else None) ≡ Some merged → IsPart spilled stars part merged
    test star a h k true n f = part-of spilled stars part merged star a h k n (taken-is spilled star a stars merged r f)
    test star a h k false n f = absurd (none_some merged f)

    arms : (star : Star) (rs : List Arm) → IsLone spilled part star → required_of star.body ≡ rs → with_optional_star spilled stars star rs ≡ Some merged → IsPart spilled stars part merged
    arms star [] h k f = absurd (none_some merged f)
    arms star (a ∷ []) h k f = test star a h k (is_new_in stars a.value) refl f
    arms star (a ∷ b ∷ rs) h k f = absurd (none_some merged f)

    at : (o : Option Star) → lone_star spilled part ≡ o → option_and_then (λ (lone : Star). with_optional_star spilled stars lone (required_of lone.body)) o ≡ Some merged → IsPart spilled stars part merged
    at None h f = absurd (none_some merged f)
    at (Some star) h f = arms star (required_of star.body) (lone-is spilled part star h) refl f

-- ---- the solutions

any-less : {X : Type 0} (p : X → Bool) (xs : List X) (y : X) (ys : List X) → list_any p (xs ++ y ∷ ys) ≡ false → list_any p (xs ++ ys) ≡ false
any-less p [] y ys e = (or_parts (p y) (list_any p ys) e).1
any-less p (x ∷ xs) y ys e = let h = or_parts (p x) (list_any p (xs ++ y ∷ ys)) e in or_from (p x) (list_any p (xs ++ ys)) h.0 (any-less p xs y ys h.1)

good-there : (spilled : SpilledTerms) (stars : List Star) → IsGood spilled stars → list_all (λ (s : Star). required_there s.body) stars ≡ true
good-there spilled stars good =
    all-more (star_fits stars) (λ (s : Star). required_there s.body)
    (λ s e. (and_parts (required_there s.body) (constant_where_several s.body && list_all (λ (a : Arm). stands_once stars a.value) (optional_of s.body)) e).0) stars good.fits

variable-below : (x : Slot) (side : SideName) (number : ℕ) (pred : RdfTerm) (v : ℕ) → list_all star_in_width (both x side (one_arm number pred v ∷ []) [] ∷ []) ≡ true → nat_lt v width ≡ true
variable-below x side number pred v e =
    let a = and_parts (star_in_width (both x side (one_arm number pred v ∷ []) [])) true e in
    let b = and_parts (slot_in_width x) (list_all arm_in_width (one_arm number pred v ∷ [])) a.0 in
    let c = and_parts (arm_in_width (one_arm number pred v)) true b.1 in
    c.0

pub merged_optional-same : (g : List RdfTriple) → IsDistinct same_triple g → (spilled : SpilledTerms) (stars part merged : List Star) → IsGood spilled stars → list_all star_in_width part ≡ true → merged_optional spilled stars part ≡ Some merged →
    SameBag (stars_leaf g merged) (left_join (λ m. true) (stars_leaf g stars) (stars_leaf g part))
merged_optional-same g d spilled stars part merged good w e =
    let p = part-is spilled stars part merged (good-there spilled stars good) e in
    let star = both p.x p.side p.required p.optional in
    let more = both p.x p.side p.required (p.optional ++ one_arm p.number p.pred p.v ∷ []) in
    let lone = both p.x p.side (one_arm p.number p.pred p.v ∷ []) [] in
    let below : list_all star_in_width (p.before ++ star ∷ p.after) ≡ true = subst (λ (ss : List Star). list_all star_in_width ss ≡ true) p.was good.below in
    let less : p.v < width = ltb-true p.v width (variable-below p.x p.side p.number p.pred p.v (subst (λ (ss : List Star). list_all star_in_width ss ≡ true) p.lone w)) in
    let absent : stars_variables (p.before ++ p.after) p.v ≡ false = any-less (λ (s : Star). star_variables s p.v) p.before star p.after (subst (λ (ss : List Star). stars_variables ss p.v ≡ false) p.was p.absent) in
    let law : SameBag (left_join (λ m. true) (stars_leaf g (p.before ++ star ∷ p.after)) (stars_leaf g (lone ∷ []))) (stars_leaf g (p.before ++ more ∷ p.after)) =
    leaf-optional g d p.x p.side p.required p.optional p.number p.pred p.v p.before p.after p.some below less absent in
    subst (λ (ss : List Star). SameBag (stars_leaf g ss) (left_join (λ m. true) (stars_leaf g stars) (stars_leaf g part))) (sym p.now)
    (subst (λ (ss : List Star). SameBag (stars_leaf g (p.before ++ more ∷ p.after)) (left_join (λ m. true) (stars_leaf g ss) (stars_leaf g part))) (sym p.was)
    (subst (λ (ss : List Star). SameBag (stars_leaf g (p.before ++ more ∷ p.after)) (left_join (λ m. true) (stars_leaf g (p.before ++ star ∷ p.after)) (stars_leaf g ss))) (sym p.lone) (same-sym law)))

-- ---- how often variables stand there

absent-slot : (v : ℕ) (x : Slot) → is_variable v x ≡ false → count_in_slot v x ≡ 0
absent-slot v x e = rw e refl

absent-arms : (v : ℕ) (arms : List Arm) → arms_variables arms v ≡ false → total (count_in_arm v) arms ≡ 0
absent-arms v [] e = refl
absent-arms v (a ∷ arms) e =
    let h = or_parts (arm_variables a v) (arms_variables arms v) e in
    let k = or_parts (is_variable v a.pred) (is_variable v a.value) h.0 in
    let p : count_in_slot v a.pred ≡ 0 = absent-slot v a.pred k.0 in
    let o : count_in_slot v a.value ≡ 0 = absent-slot v a.value k.1 in
    let r : total (count_in_arm v) arms ≡ 0 = absent-arms v arms h.1 in
    omega arith

absent-body : (v : ℕ) (b : StarBody) → body_variables b v ≡ false → total (count_in_arm v) (arms_of b) ≡ 0
absent-body v (Both required optional) e =
    let h = or_parts (arms_variables required v) (arms_variables optional v) e in
    let a : total (count_in_arm v) required ≡ 0 = absent-arms v required h.0 in
    let b : total (count_in_arm v) optional ≡ 0 = absent-arms v optional h.1 in
    let c : total (count_in_arm v) (required ++ optional) ≡ total (count_in_arm v) required + total (count_in_arm v) optional = total-append (count_in_arm v) required optional in
    omega arith
absent-body v (Either left right) e =
    let h = or_parts (arms_variables left v) (arms_variables right v) e in
    let a : total (count_in_arm v) left ≡ 0 = absent-arms v left h.0 in
    let b : total (count_in_arm v) right ≡ 0 = absent-arms v right h.1 in
    let c : total (count_in_arm v) (left ++ right) ≡ total (count_in_arm v) left + total (count_in_arm v) right = total-append (count_in_arm v) left right in
    omega arith

absent-stars : (v : ℕ) (stars : List Star) → stars_variables stars v ≡ false → total (count_in_star v) stars ≡ 0
absent-stars v [] e = refl
absent-stars v (star ∷ stars) e =
    let h = or_parts (star_variables star v) (stars_variables stars v) e in
    let k = or_parts (is_variable v star.entity) (body_variables star.body v) h.0 in
    let a : count_in_slot v star.entity ≡ 0 = absent-slot v star.entity k.0 in
    let b : total (count_in_arm v) (arms_of star.body) ≡ 0 = absent-body v star.body k.1 in
    let c : total (count_in_star v) stars ≡ 0 = absent-stars v stars h.1 in
    omega arith

-- one arm more, and no more than that
counted-more : (w : ℕ) (x : Slot) (side : SideName) (required optional : List Arm) (a : Arm) (before after : List Star) →
    total (count_in_star w) (before ++ both x side required (optional ++ a ∷ []) ∷ after) ≡ count_in_arm w a + total (count_in_star w) (before ++ both x side required optional ∷ after)
counted-more w x side required optional a before after =
    let f = count_in_arm w in
    let s = count_in_star w in
    let i : total s (before ++ both x side required (optional ++ a ∷ []) ∷ after) ≡ total s before + (count_in_slot w x + total f (required ++ (optional ++ a ∷ [])) + total s after) = total-append s before (both x side required (optional ++ a ∷ []) ∷ after) in
    let j : total s (before ++ both x side required optional ∷ after) ≡ total s before + (count_in_slot w x + total f (required ++ optional) + total s after) = total-append s before (both x side required optional ∷ after) in
    let k : total f (required ++ (optional ++ a ∷ [])) ≡ total f required + total f (optional ++ a ∷ []) = total-append f required (optional ++ a ∷ []) in
    let l : total f (optional ++ a ∷ []) ≡ total f optional + (f a + 0) = total-append f optional (a ∷ []) in
    let m : total f (required ++ optional) ≡ total f required + total f optional = total-append f required optional in
    omega arith

-- ---- the leaf fits

stands-kept : (stars merged : List Star) (number : ℕ) (pred : RdfTerm) (v : ℕ) → stars_variables stars v ≡ false →
    ((w : ℕ) → total (count_in_star w) merged ≡ count_in_arm w (one_arm number pred v) + total (count_in_star w) stars) → (x : Slot) → stands_once stars x ≡ true → stands_once merged x ≡ true
stands-kept stars merged number pred v absent more (Const t) e = e
stands-kept stars merged number pred v absent more (Var w) e = at (cases_Bool (w == v))
  where
    none : total (count_in_star v) stars ≡ 0
    none = absent-stars v stars absent

    one : total (count_in_star w) stars ≡ 1
    one = eqb-true (total (count_in_star w) stars) 1 e

    at : ((w == v) ≡ true) ⊎ ((w == v) ≡ false) → (total (count_in_star w) merged == 1) ≡ true
    at (inl h) = absurd (let k : total (count_in_star w) stars ≡ 0 = ap (λ (u : ℕ). total (count_in_star u) stars) (eqb-true w v h) ∙ none in let o : total (count_in_star w) stars ≡ 1 = one in omega arith)
    at (inr h) =
        let zero_more : count_in_arm w (one_arm number pred v) ≡ 0 = rw h refl in
        let same : total (count_in_star w) merged ≡ 1 = more w ∙ ap₂ (λ (m n : ℕ). m + n) zero_more one in
        ap (λ (n : ℕ). n == 1) same

new-stands : (stars merged : List Star) (number : ℕ) (pred : RdfTerm) (v : ℕ) → stars_variables stars v ≡ false →
    ((w : ℕ) → total (count_in_star w) merged ≡ count_in_arm w (one_arm number pred v) + total (count_in_star w) stars) → stands_once merged (Var v) ≡ true
new-stands stars merged number pred v absent more =
    let one : count_in_arm v (one_arm number pred v) ≡ 1 = own in
    let none : total (count_in_star v) stars ≡ 0 = absent-stars v stars absent in
    ap (λ (n : ℕ). n == 1) (more v ∙ ap₂ (λ (m n : ℕ). m + n) one none)
  where
    self : (v == v) ≡ true
    self = grind arith

    own : count_in_arm v (one_arm number pred v) ≡ 1
    own = rw self refl

star-fits-kept : (stars merged : List Star) → ((x : Slot) → stands_once stars x ≡ true → stands_once merged x ≡ true) → (star : Star) → star_fits stars star ≡ true → star_fits merged star ≡ true
star-fits-kept stars merged kept star e =
    let h = and_parts (required_there star.body) (constant_where_several star.body && list_all (λ (a : Arm). stands_once stars a.value) (optional_of star.body)) e in
    let k = and_parts (constant_where_several star.body) (list_all (λ (a : Arm). stands_once stars a.value) (optional_of star.body)) h.1 in
    and_from (required_there star.body) (constant_where_several star.body && list_all (λ (a : Arm). stands_once merged a.value) (optional_of star.body)) h.0
    (and_from (constant_where_several star.body) (list_all (λ (a : Arm). stands_once merged a.value) (optional_of star.body)) k.0
    (all-more (λ (a : Arm). stands_once stars a.value) (λ (a : Arm). stands_once merged a.value) (λ a f. kept a.value f) (optional_of star.body) k.1))

pub part-good : (spilled : SpilledTerms) (x : Slot) (side : SideName) (required optional : List Arm) (number : ℕ) (pred : RdfTerm) (v : ℕ) (before after : List Star) →
    IsGood spilled (before ++ both x side required optional ∷ after) → is_empty required ≡ false → list_all (is_plain_arm spilled side) (required ++ optional) ≡ true → is_plain_arm spilled side (one_arm number pred v) ≡ true →
    stars_variables (before ++ both x side required optional ∷ after) v ≡ false → nat_lt v width ≡ true → IsGood spilled (before ++ both x side required (optional ++ one_arm number pred v ∷ []) ∷ after)
part-good spilled x side required optional number pred v before after good n p o absent l =
    let a = one_arm number pred v in
    let star = both x side required optional in
    let new = both x side required (optional ++ a ∷ []) in
    let stars = before ++ star ∷ after in
    let merged = before ++ new ∷ after in
    let more : (w : ℕ) → total (count_in_star w) merged ≡ count_in_arm w a + total (count_in_star w) stars = λ w. counted-more w x side required optional a before after in
    let kept : (y : Slot) → stands_once stars y ≡ true → stands_once merged y ≡ true = stands-kept stars merged number pred v absent more in
    let arms = required ++ (optional ++ a ∷ []) in
    let pa = all-front (is_plain_arm spilled side) required optional p in
    let plain : list_all (is_plain_arm spilled side) arms ≡ true =
    all-both (is_plain_arm spilled side) required (optional ++ a ∷ []) pa.0 (all-both (is_plain_arm spilled side) optional (a ∷ []) pa.1 (and_from (is_plain_arm spilled side a) true o refl)) in
    let f = all-front (star_fits stars) before (star ∷ after) good.fits in
    let fs = and_parts (star_fits stars star) (list_all (star_fits stars) after) f.1 in
    let sf = and_parts (required_there star.body) (constant_where_several star.body && list_all (λ (b : Arm). stands_once stars b.value) optional) fs.0 in
    let sk = and_parts (constant_where_several star.body) (list_all (λ (b : Arm). stands_once stars b.value) optional) sf.1 in
    let values : list_all (λ (b : Arm). stands_once merged b.value) (optional ++ a ∷ []) ≡ true =
    all-both (λ (b : Arm). stands_once merged b.value) optional (a ∷ [])
    (all-more (λ (b : Arm). stands_once stars b.value) (λ (b : Arm). stands_once merged b.value) (λ b h. kept b.value h) optional sk.1)
    (and_from (stands_once merged (Var v)) true (new-stands stars merged number pred v absent more) refl) in
    let constant : constant_where_several (Both required (optional ++ a ∷ [])) ≡ true = or_right (nat_le (length arms) 1) (list_all (λ (b : Arm). is_constant b.pred) arms) (plain-constant spilled side arms plain) in
    let newfits : star_fits merged new ≡ true =
    and_from (required_there (Both required (optional ++ a ∷ []))) (constant_where_several (Both required (optional ++ a ∷ [])) && list_all (λ (b : Arm). stands_once merged b.value) (optional ++ a ∷ [])) (to_not (is_empty required) n)
    (and_from (constant_where_several (Both required (optional ++ a ∷ []))) (list_all (λ (b : Arm). stands_once merged b.value) (optional ++ a ∷ [])) constant values) in
    let w = all-front star_in_width before (star ∷ after) good.below in
    let ws = and_parts (star_in_width star) (list_all star_in_width after) w.1 in
    let wx = and_parts (slot_in_width x) (list_all arm_in_width (required ++ optional)) ws.0 in
    let wa = all-front arm_in_width required optional wx.1 in
    let neww : star_in_width new ≡ true =
    and_from (slot_in_width x) (list_all arm_in_width arms) wx.0 (all-both arm_in_width required (optional ++ a ∷ []) wa.0 (all-both arm_in_width optional (a ∷ []) wa.1 (and_from (arm_in_width a) true l refl))) in
    let q = all-front (is_plain_where_several spilled) before (star ∷ after) good.plain in
    let qs = and_parts (is_plain_where_several spilled star) (list_all (is_plain_where_several spilled) after) q.1 in
    let newp : is_plain_where_several spilled new ≡ true = or_right (nat_le (length arms) 1) (is_plain spilled new) plain in
    record {
      fits = all-both (star_fits merged) before (new ∷ after) (all-more (star_fits stars) (star_fits merged) (star-fits-kept stars merged kept) before f.0)
          (and_from (star_fits merged new) (list_all (star_fits merged) after) newfits (all-more (star_fits stars) (star_fits merged) (star-fits-kept stars merged kept) after fs.1));
      below = all-both star_in_width before (new ∷ after) w.0 (and_from (star_in_width new) (list_all star_in_width after) neww ws.1);
      plain = all-both (is_plain_where_several spilled) before (new ∷ after) q.0 (and_from (is_plain_where_several spilled new) (list_all (is_plain_where_several spilled) after) newp qs.1);
    }

pub merged_optional-good : (spilled : SpilledTerms) (stars part merged : List Star) → IsGood spilled stars → list_all star_in_width part ≡ true → merged_optional spilled stars part ≡ Some merged → IsGood spilled merged
merged_optional-good spilled stars part merged good w e =
    let p = part-is spilled stars part merged (good-there spilled stars good) e in
    subst (λ (ss : List Star). IsGood spilled ss) (sym p.now)
    (part-good spilled p.x p.side p.required p.optional p.number p.pred p.v p.before p.after (subst (λ (ss : List Star). IsGood spilled ss) p.was good) p.some p.plain p.own
    (subst (λ (ss : List Star). stars_variables ss p.v ≡ false) p.was p.absent)
    (variable-below p.x p.side p.number p.pred p.v (subst (λ (ss : List Star). list_all star_in_width ss ≡ true) p.lone w)))
