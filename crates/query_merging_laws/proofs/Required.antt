-- The merged leaf has the solutions of the leaf.
use Rattle.std.specs.Prelude.{◌≡◌, ◌⊎◌, true, false, if◌then◌else◌, not, ◌&&◌, nat_le, List, [], ◌∷◌, ◌++◌, length, fold, refl}
use Rattle.std.proofs.Common.{sym, ap₂, ◌∙◌, subst, inl, inr}
use Rattle.std.proofs.lemmas.Bool.{and_parts, and_from, cases_Bool, or_right}
use Rattle.std.proofs.lemmas.List.{append_assoc, append-nil}
use Rattle.std.specs.List.{list_all, IsDistinct}
use Rattle.bags.specs.Bag.{SameBag}
use Rattle.bags.specs.BagLaws.{same-refl, same-sym, same-trans}
use Rattle.rdf_meaning.specs.Terms.{RdfTriple, same_triple, is_empty}
use Rattle.rdf_meaning.specs.declared.side.SideName.{SideName}
use Rattle.layout_meaning.specs.Facts.{SpilledTerms}
use Rattle.query_meaning.specs.declared.pattern.Slot.{Slot}
use Rattle.query_eval_meaning.specs.Eval.{join}
use Rattle.query_eval_meaning.specs.Width.{slot_in_width}
use Rattle.query_plan_meaning.specs.declared.star.Arm.{Arm}
use Rattle.query_plan_meaning.specs.declared.star.Star.{Star}
use Rattle.query_plan_meaning.specs.Stars.{star_sols, stars_leaf, arm_in_width, star_in_width}
use Rattle.query_plan_meaning.specs.Merged.{both, is_required_only}
use Rattle.query_algebra_laws.specs.Joins.{same-join, join-assoc, join-nothing}
use Rattle.query_star_laws.specs.Merging.{leaf-merge}
use Rattle.query_merging_meaning.specs.Merging.{is_plain_arm, is_plain, same_entity, required_of, are_one, with_arms_of, put, merged_leaf}
use Rattle.query_merging_laws.proofs.Forms.{all-front, all-both, all-more, not-empty, to_not, entity-is, star-is, star-some, is_tidy, tidy-is, tidy-from}

-- ---- leaves one after the other

pub stars-append : (g : List RdfTriple) (xs ys : List Star) → SameBag (stars_leaf g (xs ++ ys)) (join (stars_leaf g xs) (stars_leaf g ys))
stars-append g [] ys = same-sym (join-nothing (stars_leaf g ys))
stars-append g (x ∷ xs) ys =
    same-trans (same-join (star_sols g x) (star_sols g x) (stars_leaf g (xs ++ ys)) (join (stars_leaf g xs) (stars_leaf g ys)) (same-refl (star_sols g x)) (stars-append g xs ys))
    (same-sym (join-assoc (star_sols g x) (stars_leaf g xs) (stars_leaf g ys)))

pub same-before : (g : List RdfTriple) (xs ys zs : List Star) → SameBag (stars_leaf g xs) (stars_leaf g ys) → SameBag (stars_leaf g (xs ++ zs)) (stars_leaf g (ys ++ zs))
same-before g xs ys zs s =
    same-trans (stars-append g xs zs)
    (same-trans (same-join (stars_leaf g xs) (stars_leaf g ys) (stars_leaf g zs) (stars_leaf g zs) s (same-refl (stars_leaf g zs)))
    (same-sym (stars-append g ys zs)))

-- ---- two stars that are one

record AreOne (spilled : SpilledTerms) (star other : Star) : Type 0 where
  first : star ≡ both star.entity star.side (required_of star.body) []
  second : other ≡ both star.entity star.side (required_of other.body) []
  some : is_empty (required_of star.body) ≡ false
  more : is_empty (required_of other.body) ≡ false
  plain : is_plain spilled star ≡ true
  plain_too : is_plain spilled other ≡ true

one-is : (spilled : SpilledTerms) (star other : Star) → are_one spilled star other ≡ true → AreOne spilled star other
one-is spilled star other e =
    let h = and_parts (same_entity star other) ((is_plain spilled star && is_plain spilled other) && (is_required_only star.body && is_required_only other.body)) e in
    let k = and_parts (is_plain spilled star && is_plain spilled other) (is_required_only star.body && is_required_only other.body) h.1 in
    let p = and_parts (is_plain spilled star) (is_plain spilled other) k.0 in
    let r = and_parts (is_required_only star.body) (is_required_only other.body) k.1 in
    let x = entity-is star other h.0 in
    record {
      first = star-is star r.0;
      second = star-is other r.1 ∙ ap₂ (λ (y : Slot) (side : SideName). both y side (required_of other.body) []) (sym x.0) (sym x.1);
      some = star-some star r.0;
      more = star-some other r.1;
      plain = p.0;
      plain_too = p.1;
    }

-- ---- a star is put

put-same : (g : List RdfTriple) → IsDistinct same_triple g → (spilled : SpilledTerms) (stars : List Star) (new : Star) → list_all star_in_width (stars ++ new ∷ []) ≡ true →
    SameBag (stars_leaf g (put spilled stars new)) (stars_leaf g (stars ++ new ∷ []))
put-same g d spilled [] new w = same-refl (stars_leaf g (new ∷ []))
put-same g d spilled (star ∷ stars) new w =
    let k = and_parts (star_in_width star) (list_all star_in_width (stars ++ new ∷ [])) w in
    go (cases_Bool (are_one spilled star new)) (put-same g d spilled stars new k.1)
  where
    joined : AreOne spilled star new → SameBag (stars_leaf g (with_arms_of star new ∷ stars)) (stars_leaf g (star ∷ (stars ++ new ∷ [])))
    joined a =
        let x = star.entity in
        let side = star.side in
        let first = required_of star.body in
        let second = required_of new.body in
        let one : list_all star_in_width (both x side first [] ∷ (stars ++ new ∷ [])) ≡ true = subst (λ (s : Star). list_all star_in_width (s ∷ (stars ++ new ∷ [])) ≡ true) a.first w in
        let two : list_all star_in_width (both x side first [] ∷ (stars ++ both x side second [] ∷ [])) ≡ true = subst (λ (s : Star). list_all star_in_width (both x side first [] ∷ (stars ++ s ∷ [])) ≡ true) a.second one in
        let law : SameBag (stars_leaf g (both x side first [] ∷ (stars ++ both x side second [] ∷ []))) (stars_leaf g (with_arms_of star new ∷ (stars ++ []))) =
        leaf-merge g d x side first second [] stars [] a.some a.more two in
        let ended : SameBag (stars_leaf g (both x side first [] ∷ (stars ++ both x side second [] ∷ []))) (stars_leaf g (with_arms_of star new ∷ stars)) =
        subst (λ (ss : List Star). SameBag (stars_leaf g (both x side first [] ∷ (stars ++ both x side second [] ∷ []))) (stars_leaf g (with_arms_of star new ∷ ss))) (append-nil stars) law in
        let back : SameBag (stars_leaf g (both x side first [] ∷ (stars ++ new ∷ []))) (stars_leaf g (with_arms_of star new ∷ stars)) =
        subst (λ (s : Star). SameBag (stars_leaf g (both x side first [] ∷ (stars ++ s ∷ []))) (stars_leaf g (with_arms_of star new ∷ stars))) (sym a.second) ended in
        same-sym (subst (λ (s : Star). SameBag (stars_leaf g (s ∷ (stars ++ new ∷ []))) (stars_leaf g (with_arms_of star new ∷ stars))) (sym a.first) back)

    go : (are_one spilled star new ≡ true) ⊎ (are_one spilled star new ≡ false) → SameBag (stars_leaf g (put spilled stars new)) (stars_leaf g (stars ++ new ∷ [])) →
        SameBag (stars_leaf g (if are_one spilled star new then with_arms_of star new ∷ stars else star ∷ put spilled stars new)) (stars_leaf g (star ∷ (stars ++ new ∷ [])))
    go (inl h) rest = rw h (joined (one-is spilled star new h))
    go (inr h) rest = rw h (same-join (star_sols g star) (star_sols g star) (stars_leaf g (put spilled stars new)) (stars_leaf g (stars ++ new ∷ [])) (same-refl (star_sols g star)) rest)

-- ---- what is put stays tidy

joined-tidy : (spilled : SpilledTerms) (x : Slot) (side : SideName) (first second : List Arm) → is_tidy spilled (both x side first []) ≡ true → is_tidy spilled (both x side second []) ≡ true → is_empty first ≡ false →
    is_plain spilled (both x side first []) ≡ true → is_plain spilled (both x side second []) ≡ true → is_tidy spilled (both x side (first ++ second) []) ≡ true
joined-tidy spilled x side first second e f n p q =
    let t = tidy-is spilled (both x side first []) e in
    let u = tidy-is spilled (both x side second []) f in
    let a = and_parts (slot_in_width x) (list_all arm_in_width (first ++ [])) t.below in
    let b = and_parts (slot_in_width x) (list_all arm_in_width (second ++ [])) u.below in
    let arms : list_all arm_in_width ((first ++ second) ++ []) ≡ true = all-both arm_in_width (first ++ second) [] (all-both arm_in_width first second (all-front arm_in_width first [] a.1).0 (all-front arm_in_width second [] b.1).0) refl in
    let plain : list_all (is_plain_arm spilled side) ((first ++ second) ++ []) ≡ true =
    all-both (is_plain_arm spilled side) (first ++ second) [] (all-both (is_plain_arm spilled side) first second (all-front (is_plain_arm spilled side) first [] p).0 (all-front (is_plain_arm spilled side) second [] q).0) refl in
    tidy-from spilled (both x side (first ++ second) []) (record {
      alone = and_from (not (is_empty (first ++ second))) true (to_not (is_empty (first ++ second)) (not-empty first second n)) refl;
      below = and_from (slot_in_width x) (list_all arm_in_width ((first ++ second) ++ [])) a.0 arms;
      plain = or_right (nat_le (length ((first ++ second) ++ [])) 1) (is_plain spilled (both x side (first ++ second) [])) plain;
    })

one-tidy : (spilled : SpilledTerms) (star new : Star) → AreOne spilled star new → is_tidy spilled star ≡ true → is_tidy spilled new ≡ true → is_tidy spilled (with_arms_of star new) ≡ true
one-tidy spilled star new a e f =
    joined-tidy spilled star.entity star.side (required_of star.body) (required_of new.body)
    (subst (λ (s : Star). is_tidy spilled s ≡ true) a.first e) (subst (λ (s : Star). is_tidy spilled s ≡ true) a.second f) a.some
    (subst (λ (s : Star). is_plain spilled s ≡ true) a.first a.plain) (subst (λ (s : Star). is_plain spilled s ≡ true) a.second a.plain_too)

put-tidy : (spilled : SpilledTerms) (stars : List Star) (new : Star) → list_all (is_tidy spilled) stars ≡ true → is_tidy spilled new ≡ true → list_all (is_tidy spilled) (put spilled stars new) ≡ true
put-tidy spilled [] new e f = and_from (is_tidy spilled new) true f refl
put-tidy spilled (star ∷ stars) new e f =
    let k = and_parts (is_tidy spilled star) (list_all (is_tidy spilled) stars) e in
    go (cases_Bool (are_one spilled star new)) k.0 k.1 (put-tidy spilled stars new k.1 f)
  where
    go : (are_one spilled star new ≡ true) ⊎ (are_one spilled star new ≡ false) → is_tidy spilled star ≡ true → list_all (is_tidy spilled) stars ≡ true → list_all (is_tidy spilled) (put spilled stars new) ≡ true →
        list_all (is_tidy spilled) (if are_one spilled star new then with_arms_of star new ∷ stars else star ∷ put spilled stars new) ≡ true
    go (inl h) t ts rest = rw h (and_from (is_tidy spilled (with_arms_of star new)) (list_all (is_tidy spilled) stars) (one-tidy spilled star new (one-is spilled star new h) t f) ts)
    go (inr h) t ts rest = rw h (and_from (is_tidy spilled star) (list_all (is_tidy spilled) (put spilled stars new)) t rest)

-- ---- a whole leaf

tidy-below : (spilled : SpilledTerms) (stars : List Star) → list_all (is_tidy spilled) stars ≡ true → list_all star_in_width stars ≡ true
tidy-below spilled stars = all-more (is_tidy spilled) star_in_width (λ s t. (tidy-is spilled s t).below) stars

fold-same : (g : List RdfTriple) → IsDistinct same_triple g → (spilled : SpilledTerms) (stars done : List Star) → list_all (is_tidy spilled) done ≡ true → list_all (is_tidy spilled) stars ≡ true →
    SameBag (stars_leaf g (fold (put spilled) done stars)) (stars_leaf g (done ++ stars))
fold-same g d spilled [] done e f = subst (λ (ss : List Star). SameBag (stars_leaf g done) (stars_leaf g ss)) (sym (append-nil done)) (same-refl (stars_leaf g done))
fold-same g d spilled (star ∷ stars) done e f =
    let k = and_parts (is_tidy spilled star) (list_all (is_tidy spilled) stars) f in
    let one : list_all star_in_width (done ++ star ∷ []) ≡ true = all-both star_in_width done (star ∷ []) (tidy-below spilled done e) (and_from (star_in_width star) true (tidy-is spilled star k.0).below refl) in
    same-trans (fold-same g d spilled stars (put spilled done star) (put-tidy spilled done star e k.0) k.1)
    (subst (λ (ss : List Star). SameBag (stars_leaf g (put spilled done star ++ stars)) (stars_leaf g ss)) (append_assoc done (star ∷ []) stars)
    (same-before g (put spilled done star) (done ++ star ∷ []) stars (put-same g d spilled done star one)))

fold-tidy : (spilled : SpilledTerms) (stars done : List Star) → list_all (is_tidy spilled) done ≡ true → list_all (is_tidy spilled) stars ≡ true → list_all (is_tidy spilled) (fold (put spilled) done stars) ≡ true
fold-tidy spilled [] done e f = e
fold-tidy spilled (star ∷ stars) done e f =
    let k = and_parts (is_tidy spilled star) (list_all (is_tidy spilled) stars) f in
    fold-tidy spilled stars (put spilled done star) (put-tidy spilled done star e k.0) k.1

pub merged_leaf-same : (g : List RdfTriple) → IsDistinct same_triple g → (spilled : SpilledTerms) (stars : List Star) → list_all (is_tidy spilled) stars ≡ true → SameBag (stars_leaf g (merged_leaf spilled stars)) (stars_leaf g stars)
merged_leaf-same g d spilled stars e = fold-same g d spilled stars [] refl e

pub merged_leaf-tidy : (spilled : SpilledTerms) (stars : List Star) → list_all (is_tidy spilled) stars ≡ true → list_all (is_tidy spilled) (merged_leaf spilled stars) ≡ true
merged_leaf-tidy spilled stars e = fold-tidy spilled stars [] refl e
