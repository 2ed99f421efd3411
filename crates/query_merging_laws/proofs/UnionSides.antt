-- The merged leaf of a union has the solutions of both sides.
use Rattle.std.specs.Prelude.{◌≡◌, Bool, true, false, if◌then◌else◌, not, ◌&&◌, nat_le, List, [], ◌∷◌, ◌++◌, length, Option, Some, None, option_and_then, refl}
use Rattle.std.proofs.Common.{sym, ap, ap₂, ◌∙◌, subst}
use Rattle.std.proofs.lemmas.Bool.{and_parts, and_from, or_right}
use Rattle.std.specs.List.{list_all}
use Rattle.bags.specs.Bag.{SameBag}
use Rattle.rdf_meaning.specs.Terms.{RdfTriple, is_empty}
use Rattle.rdf_meaning.specs.declared.side.SideName.{SideName}
use Rattle.layout_meaning.specs.Facts.{SpilledTerms}
use Rattle.query_meaning.specs.declared.pattern.Slot.{Slot}
use Rattle.query_eval_meaning.specs.Width.{slot_in_width}
use Rattle.query_plan_meaning.specs.declared.star.Arm.{Arm}
use Rattle.query_plan_meaning.specs.declared.star.Star.{Star}
use Rattle.query_plan_meaning.specs.declared.star.StarBody.TheVariants.{Either}
use Rattle.query_plan_meaning.specs.Stars.{stars_leaf, arm_in_width, star_in_width}
use Rattle.query_plan_meaning.specs.Plans.{is_constant, required_there, constant_where_several, star_fits}
use Rattle.query_plan_meaning.specs.Merged.{both, is_required_only}
use Rattle.query_star_laws.specs.Merging.{union-merge}
use Rattle.query_merging_meaning.specs.Merging.{is_plain_arm, is_plain, same_entity, required_of, lone_star, either_of, merged_union, is_plain_where_several}
use Rattle.query_merging_laws.proofs.Forms.{all-front, all-both, none_some, some_is, to_not, entity-is, star-is, star-some, plain-constant, IsGood}

-- ---- a leaf of one star

pub record IsLone (spilled : SpilledTerms) (stars : List Star) (star : Star) : Type 0 where
  pub alone : stars ≡ star ∷ []
  pub plain : is_plain spilled star ≡ true
  pub form : is_required_only star.body ≡ true

pub lone-is : (spilled : SpilledTerms) (stars : List Star) (star : Star) → lone_star spilled stars ≡ Some star → IsLone spilled stars star
lone-is spilled [] star e = absurd (none_some star e)
lone-is spilled (a ∷ []) star e = at (is_plain spilled a && is_required_only a.body) refl e
  where
    at : (b : Bool) → (is_plain spilled a && is_required_only a.body) ≡ b → (if b then Some a else None) ≡ Some star → IsLone spilled (a ∷ []) star
    at true h f =
        let k = and_parts (is_plain spilled a) (is_required_only a.body) h in
        let same : a ≡ star = some_is a star f in
        subst (λ (s : Star). IsLone spilled (a ∷ []) s) same (record { alone = refl; plain = k.0; form = k.1 })
    at false h f = absurd (none_some star f)
lone-is spilled (a ∷ b ∷ stars) star e = absurd (none_some star e)

-- ---- two of them

record AreSides (spilled : SpilledTerms) (left right merged : List Star) : Type 0 where
  x : Slot
  side : SideName
  first : List Arm
  second : List Arm
  one : left ≡ both x side first [] ∷ []
  two : right ≡ both x side second [] ∷ []
  now : merged ≡ record { entity = x; side = side; body = Either first second } ∷ []
  some : is_empty first ≡ false
  more : is_empty second ≡ false
  plain : list_all (is_plain_arm spilled side) (first ++ second) ≡ true

sides-of : (spilled : SpilledTerms) (left right merged : List Star) (star other : Star) → IsLone spilled left star → IsLone spilled right other → same_entity star other ≡ true → either_of star other ≡ merged → AreSides spilled left right merged
sides-of spilled left right merged star other h k e now =
    let i = entity-is star other e in
    let a = star-is star h.form in
    let b : other ≡ both star.entity star.side (required_of other.body) [] = star-is other k.form ∙ ap₂ (λ (y : Slot) (side : SideName). both y side (required_of other.body) []) (sym i.0) (sym i.1) in
    let p : list_all (is_plain_arm spilled star.side) (required_of star.body ++ []) ≡ true = subst (λ (s : Star). is_plain spilled s ≡ true) a h.plain in
    let q : list_all (is_plain_arm spilled star.side) (required_of other.body ++ []) ≡ true = subst (λ (s : Star). is_plain spilled s ≡ true) b k.plain in
    record {
      x = star.entity;
      side = star.side;
      first = required_of star.body;
      second = required_of other.body;
      one = h.alone ∙ ap (λ (s : Star). s ∷ []) a;
      two = k.alone ∙ ap (λ (s : Star). s ∷ []) b;
      now = sym now;
      some = star-some star h.form;
      more = star-some other k.form;
      plain = all-both (is_plain_arm spilled star.side) (required_of star.body) (required_of other.body) (all-front (is_plain_arm spilled star.side) (required_of star.body) [] p).0 (all-front (is_plain_arm spilled star.side) (required_of other.body) [] q).0;
    }

sides-are : (spilled : SpilledTerms) (left right merged : List Star) → merged_union spilled left right ≡ Some merged → AreSides spilled left right merged
sides-are spilled left right merged e = at (lone_star spilled left) (lone_star spilled right) refl refl e
  where
    test : (star other : Star) → IsLone spilled left star → IsLone spilled right other → (b : Bool) → same_entity star other ≡ b → (if b then Some (either_of star other) else None) ≡ Some merged → AreSides spilled left right merged
    test star other h k true i f = sides-of spilled left right merged star other h k i (some_is (either_of star other) merged f)
    test star other h k false i f = absurd (none_some merged f)

    at : (a b : Option Star) → lone_star spilled left ≡ a → lone_star spilled right ≡ b →
        option_and_then (λ (star : Star). option_and_then (λ (other : Star). if same_entity star other then Some (either_of star other) else None) b) a ≡ Some merged → AreSides spilled left right merged
    at None b h k f = absurd (none_some merged f)
    at (Some star) None h k f = absurd (none_some merged f)
    at (Some star) (Some other) h k f = test star other (lone-is spilled left star h) (lone-is spilled right other k) (same_entity star other) refl f

pub merged_union-same : (g : List RdfTriple) (spilled : SpilledTerms) (left right merged : List Star) → merged_union spilled left right ≡ Some merged → SameBag (stars_leaf g merged) (stars_leaf g left ++ stars_leaf g right)
merged_union-same g spilled left right merged e =
    let s = sides-are spilled left right merged e in
    let law = union-merge g s.x s.side s.first s.second in
    let back : SameBag (stars_leaf g (record { entity = s.x; side = s.side; body = Either s.first s.second } ∷ [])) (stars_leaf g (both s.x s.side s.first [] ∷ []) ++ stars_leaf g (both s.x s.side s.second [] ∷ [])) =
    record { totals = λ h. sym (law.totals h) } in
    subst (λ (ss : List Star). SameBag (stars_leaf g ss) (stars_leaf g left ++ stars_leaf g right)) (sym s.now)
    (subst (λ (ss : List Star). SameBag (stars_leaf g (record { entity = s.x; side = s.side; body = Either s.first s.second } ∷ [])) (stars_leaf g ss ++ stars_leaf g right)) (sym s.one)
    (subst (λ (ss : List Star). SameBag (stars_leaf g (record { entity = s.x; side = s.side; body = Either s.first s.second } ∷ [])) (stars_leaf g (both s.x s.side s.first [] ∷ []) ++ stars_leaf g ss)) (sym s.two) back))

either-good : (spilled : SpilledTerms) (x : Slot) (side : SideName) (first second : List Arm) → is_empty first ≡ false → is_empty second ≡ false → list_all (is_plain_arm spilled side) (first ++ second) ≡ true →
    list_all star_in_width (both x side first [] ∷ []) ≡ true → list_all star_in_width (both x side second [] ∷ []) ≡ true → IsGood spilled (record { entity = x; side = side; body = Either first second } ∷ [])
either-good spilled x side first second n m p u v =
    let star : Star = record { entity = x; side = side; body = Either first second } in
    let a = and_parts (slot_in_width x) (list_all arm_in_width (first ++ [])) (and_parts (star_in_width (both x side first [])) true u).0 in
    let b = and_parts (slot_in_width x) (list_all arm_in_width (second ++ [])) (and_parts (star_in_width (both x side second [])) true v).0 in
    let w : star_in_width star ≡ true = and_from (slot_in_width x) (list_all arm_in_width (first ++ second)) a.0 (all-both arm_in_width first second (all-front arm_in_width first [] a.1).0 (all-front arm_in_width second [] b.1).0) in
    let there : required_there (Either first second) ≡ true = and_from (not (is_empty first)) (not (is_empty second)) (to_not (is_empty first) n) (to_not (is_empty second) m) in
    let constant : constant_where_several (Either first second) ≡ true = or_right (nat_le (length (first ++ second)) 1) (list_all (λ (a : Arm). is_constant a.pred) (first ++ second)) (plain-constant spilled side (first ++ second) p) in
    let fits : star_fits (star ∷ []) star ≡ true = and_from (required_there (Either first second)) (constant_where_several (Either first second) && true) there (and_from (constant_where_several (Either first second)) true constant refl) in
    record {
      fits = and_from (star_fits (star ∷ []) star) true fits refl;
      below = and_from (star_in_width star) true w refl;
      plain = and_from (is_plain_where_several spilled star) true (or_right (nat_le (length (first ++ second)) 1) (is_plain spilled star) p) refl;
    }

pub merged_union-good : (spilled : SpilledTerms) (left right merged : List Star) → merged_union spilled left right ≡ Some merged → list_all star_in_width left ≡ true → list_all star_in_width right ≡ true → IsGood spilled merged
merged_union-good spilled left right merged e u v =
    let s = sides-are spilled left right merged e in
    subst (λ (ss : List Star). IsGood spilled ss) (sym s.now)
    (either-good spilled s.x s.side s.first s.second s.some s.more s.plain
    (subst (λ (ss : List Star). list_all star_in_width ss ≡ true) s.one u) (subst (λ (ss : List Star). list_all star_in_width ss ≡ true) s.two v))
