-- The out of a star stands for the leaf of that star.
use Rattle.std.specs.Prelude.{◌&&◌, ◌++◌, ◌+◌, ◌∷◌, ◌≡◌, ◌≤◌, ◌||◌, if◌then◌else◌, nat_le, Bool, List, [], false, length, refl, suc, true, ℕ}
use Rattle.std.proofs.Common.{◌∙◌, ap, ap₂, arith, length-append, sym, subst}
use Rattle.std.proofs.lemmas.Bool.{and_from, and_parts, both_ways, lt-leb}
use Rattle.std.specs.List.{AllByRecursion, list_all}
use Rattle.bags.specs.Bag.{SameBag}
use Rattle.bags.specs.BagLaws.{each-weaker}
use Rattle.rdf_meaning.specs.Terms.{RdfTriple}
use Rattle.rdf_meaning.specs.declared.side.SideName.{SideName}
use Rattle.rdf_meaning.specs.declared.side.SideName.TheVariants.{Direct, Reverse}
use Rattle.layout_meaning.specs.Facts.{FactsOf, IdOf}
use Rattle.query_meaning.specs.declared.pattern.Slot.{Slot}
use Rattle.query_meaning.specs.declared.pattern.Slot.TheVariants.{Var, Const}
use Rattle.query_meaning.specs.declared.tree.Tree.TheVariants as trees
use Rattle.query_algebra_laws.specs.Joins.{join-nothing_right}
use Rattle.query_eval_meaning.specs.EvalLaws.{eval-Leaf}
use Rattle.query_eval_meaning.specs.Leaf.{is_variable, terms_of}
use Rattle.query_eval_meaning.specs.Mapping.{Mapping}
use Rattle.query_eval_meaning.specs.VariableLaws.{certain-Leaf, variables-Leaf}
use Rattle.query_eval_meaning.specs.Variables.{Binds, IsOver, Variables}
use Rattle.query_merging_meaning.specs.Accesses.{columns_on, star_accesses}
use Rattle.query_plan_meaning.specs.declared.star.Arm.{Arm}
use Rattle.query_plan_meaning.specs.declared.star.Star.{Star}
use Rattle.query_plan_meaning.specs.declared.star.StarBody.{StarBody}
use Rattle.query_plan_meaning.specs.declared.star.StarBody.TheVariants.{Both, Either}
use Rattle.query_plan_meaning.specs.Plans.{constant_where_several, is_constant, leaf_fits, star_fits, required_there}
use Rattle.query_plan_meaning.specs.Stars.{arm_variables, arms_of, arms_variables, plan_solutions, star_in_width, star_sols, star_variables, stars_certain, stars_leaf, stars_variables}
use Rattle.query_star_laws.specs.StarVariables.{stars-bind, stars-over}
use Rattle.query_merging_meaning.specs.Merging.{is_plain_where_several}
use Rattle.sql_gen_meaning.specs.Compilable.{has_few_arms, star_is_told}
use Rattle.sql_gen_node_laws.proofs.Leaves.{stands-same}
use Rattle.sql_gen_node_laws.proofs.Sides.{has-both}
use Rattle.sql_gen_out_laws.specs.Outs.{Out, StandsForNode, StandsOut}
use Rattle.sql_gen_step_laws.specs.Carried.{Ids}
use Rattle.sql_gen_step_laws.specs.StepSelects.{has}
use Rattle.sql_gen_star_meaning.specs.Openings.{open_vars, openings_from}
use Rattle.sql_gen_star_meaning.specs.Asked.{asked_slot, asked_vars}
use Rattle.sql_gen_star_solution_laws.specs.StarArms.{entity_vars, pair_entity, pair_predicate}
use Rattle.sql_gen_star_laws.specs.StarSteps.{ArmsOf}
use Rattle.sql_gen_either_laws.specs.EitherSteps.{Half, arms_in, half_numbers}
use Rattle.sql_gen_star_fit_laws.specs.Fitting.{HasFreshValues}
use Rattle.sql_gen_star_fit_laws.proofs.Fits.{fresh_values, several}
use Rattle.sql_gen_star_out_laws.specs.StarOuts.{arms_out, either_out, pairs_out, star_out, told_columns, told_id}
use Rattle.sql_gen_star_out_laws.proofs.ArmStars.{a-star, arms-stand}
use Rattle.sql_gen_star_out_laws.proofs.Asked.{AreFine, IsAsked}
use Rattle.sql_gen_star_out_laws.proofs.EitherStars.{either-stand, left-star, right-star}
use Rattle.sql_gen_star_out_laws.proofs.PairStars.{pairs-stand}
use Rattle.sql_gen_star_out_laws.proofs.Variables.{arms-has, slot-has}

or_false : (b : Bool) → (b || false) ≡ b
or_false true = refl
or_false false = refl

-- an out of a star's solutions and variables
pub star-node : (facts : FactsOf) (ids : List IdOf) (star : Star) (refs : ℕ) (out : Out) → StandsOut facts ids (λ g. star_sols g star) refs out → star_in_width star ≡ true → ((v : ℕ) → has out.variables v ≡ star_variables star v) →
    out.certain ≡ stars_certain (star ∷ []) → StandsForNode facts ids (trees.Leaf (star ∷ [])) refs out
star-node facts ids star refs out s wide exact certain = record {
  solutions = stands-same facts ids (λ g. star_sols g star) (λ g. plan_solutions (trees.Leaf (star ∷ [])) g) refs out (stars_variables (star ∷ [])) s bag binds
      (λ v. exact v ∙ sym (or_false (star_variables star v))) over;
  variables = λ v. exact v ∙ sym (or_false (star_variables star v)) ∙ ap (λ (vs : Variables). vs v) (sym (variables-Leaf stars_variables (star ∷ [])));
  certain = λ v. ap (λ (vs : Variables). vs v) certain ∙ ap (λ (vs : Variables). vs v) (sym (certain-Leaf stars_certain (star ∷ [])));
}
  where
    leaf_is : (g : List RdfTriple) → plan_solutions (trees.Leaf (star ∷ [])) g ≡ stars_leaf g (star ∷ [])
    leaf_is g = eval-Leaf (stars_leaf g) (star ∷ [])

    bag : (g : List RdfTriple) → SameBag (star_sols g star) (plan_solutions (trees.Leaf (star ∷ [])) g)
    bag g = let k = join-nothing_right (star_sols g star) in subst (SameBag (star_sols g star)) (sym (leaf_is g)) (record { totals = λ h. sym (k.totals h) })

    binds : (g : List RdfTriple) → AllByRecursion (Binds out.certain) (plan_solutions (trees.Leaf (star ∷ [])) g)
    binds g = subst (λ (vs : Variables). AllByRecursion (Binds vs) (plan_solutions (trees.Leaf (star ∷ [])) g)) (sym certain)
        (subst (AllByRecursion (Binds (stars_certain (star ∷ [])))) (sym (leaf_is g)) (stars-bind g (star ∷ [])))

    over : (g : List RdfTriple) → AllByRecursion (IsOver (stars_variables (star ∷ [])) (terms_of g)) (plan_solutions (trees.Leaf (star ∷ [])) g)
    over g = subst (AllByRecursion (IsOver (stars_variables (star ∷ [])) (terms_of g))) (sym (leaf_is g)) (stars-over g (star ∷ []) (and_from (star_in_width star) true wide refl))

-- ---- one or several arms of a Both star

at_least_two : (n : ℕ) → nat_le (suc (suc n)) 1 ≡ false
at_least_two n = lt-leb (suc (suc n)) 1 (omega arith)

abbrev constant_arms : List Arm → Bool
constant_arms arms = list_all (λ (a : Arm). is_constant a.pred) arms

-- several arms
many : (a : Arm) (ps qs : List Arm) → nat_le (length ((a ∷ ps) ++ qs)) 1 ≡ false → constant_where_several (Both (a ∷ ps) qs) ≡ true → constant_arms ((a ∷ ps) ++ qs) ≡ true
many a ps qs few e = several (Both (a ∷ ps) qs) e few

all-constant : (a : Arm) (ps qs : List Arm) → is_constant a.pred ≡ true → constant_where_several (Both (a ∷ ps) qs) ≡ true → constant_arms ((a ∷ ps) ++ qs) ≡ true
all-constant a [] [] c e = and_from _ true c refl
all-constant a [] (q ∷ qs) c e = many a [] (q ∷ qs) (at_least_two (length qs)) e
all-constant a (p ∷ ps) qs c e = many a (p ∷ ps) qs (at_least_two (length (ps ++ qs))) e

module _ (facts : FactsOf) (ids : List IdOf) (fine : AreFine facts ids) where
  arms-node : (x : Slot) (side : SideName) (arms : ArmsOf) → (let star : Star = record { entity = x; side = side; body = Both (arms.first ∷ arms.required) arms.optional } in
      IsAsked facts ids star → constant_arms (arms_of star.body) ≡ true → StandsForNode facts ids (trees.Leaf (star ∷ [])) (star_accesses facts star) (arms_out facts ids star arms))
  arms-node x side arms asked constants =
      let star : Star = record { entity = x; side = side; body = Both (arms.first ∷ arms.required) arms.optional } in
      let is = a-star facts ids fine x side arms asked constants (told_id ids) in
      let one : star_accesses facts star ≡ 1 = ap (λ (b : Bool). if b then 1 else columns_on facts side) constants in
      star-node facts ids star (star_accesses facts star) (arms_out facts ids star arms)
      (subst (λ n. StandsOut facts ids (λ g. star_sols g star) n (arms_out facts ids star arms)) (sym one) (arms-stand facts ids fine x side arms asked constants)) asked.in_width
      (λ v. arms-has (told_columns facts side) (told_id ids) arms.optional is.optional (arms.first ∷ arms.required) is.required 0 (entity_vars (told_id ids) x) v
      ∙ ap (λ (b : Bool). b || (arms_variables (arms.first ∷ arms.required) v || arms_variables arms.optional v)) (slot-has (told_id ids) [] x v))
      refl

  counted : (side : SideName) → columns_on facts side ≡ (told_columns facts side).count
  counted Direct = refl
  counted Reverse = refl

  pairs-node : (x : Slot) (side : SideName) (number w : ℕ) (value : Slot) → (let a : Arm = record { pattern = number; pred = Var w; value = value } in let star : Star = record { entity = x; side = side; body = Both (a ∷ []) [] } in
      IsAsked facts ids star → StandsForNode facts ids (trees.Leaf (star ∷ [])) (star_accesses facts star) (pairs_out facts ids star a))
  pairs-node x side number w value asked =
      let a : Arm = record { pattern = number; pred = Var w; value = value } in
      let star : Star = record { entity = x; side = side; body = Both (a ∷ []) [] } in
      star-node facts ids star (star_accesses facts star) (pairs_out facts ids star a)
      (subst (λ n. StandsOut facts ids (λ g. star_sols g star) n (pairs_out facts ids star a)) (sym (counted side)) (pairs-stand facts ids fine x side number w value asked)) asked.in_width
      (λ v.
      slot-has (told_id ids) (asked_vars (pair_predicate (told_id ids) x a) (entity_vars (told_id ids) x)) value v
      ∙ ap (λ (b : Bool). b || is_variable v value) (slot-has (told_id ids) (entity_vars (told_id ids) x) (Var w) v ∙ ap (λ (b : Bool). b || is_variable v (Var w)) (slot-has (told_id ids) [] x v))
      ∙ turned (is_variable v x) (is_variable v (Var w)) (is_variable v value))
      refl
    where
      turned : (p q r : Bool) → ((p || q) || r) ≡ (p || (((q || r) || false) || false))
      turned true q r = refl
      turned false q r = sym (or_false ((q || r) || false) ∙ or_false (q || r))

  first-node : (q : Slot) (number : ℕ) (value x : Slot) (side : SideName) (ps qs : List Arm) → (let a : Arm = record { pattern = number; pred = q; value = value } in let star : Star = record { entity = x; side = side; body = Both (a ∷ ps) qs } in
      IsAsked facts ids star → StandsForNode facts ids (trees.Leaf (star ∷ [])) (star_accesses facts star) (star_out facts ids star))
  first-node (Const c) number value x side ps qs asked =
      arms-node x side (record { first = record { pattern = number; pred = Const c; value = value }; required = ps; optional = qs }) asked
      (all-constant (record { pattern = number; pred = Const c; value = value }) ps qs refl asked.constant)
  first-node (Var w) number value x side [] [] asked = pairs-node x side number w value asked
  first-node (Var w) number value x side [] (q ∷ qs) asked =
      let e : false ≡ true = many (record { pattern = number; pred = Var w; value = value }) [] (q ∷ qs) (at_least_two (length qs)) asked.constant in cc
  first-node (Var w) number value x side (p ∷ ps) qs asked =
      let e : false ≡ true = many (record { pattern = number; pred = Var w; value = value }) (p ∷ ps) qs (at_least_two (length (ps ++ qs))) asked.constant in cc

  either-node : (x : Slot) (side : SideName) (l r : Half) → (let star : Star = record { entity = x; side = side; body = Either (arms_in l) (arms_in r) } in
      IsAsked facts ids star → StandsForNode facts ids (trees.Leaf (star ∷ [])) (star_accesses facts star) (either_out facts ids star l r))
  either-node x side l r asked =
      let star : Star = record { entity = x; side = side; body = Either (arms_in l) (arms_in r) } in
      let tid = told_id ids in
      let columns = told_columns facts side in
      let constants : constant_arms (arms_of star.body) ≡ true = several (Either (arms_in l) (arms_in r)) asked.constant (many_halves l r) in
      let one : star_accesses facts star ≡ 1 = ap (λ (b : Bool). if b then 1 else columns_on facts side) constants in
      let ls = left-star facts ids fine x side l r asked constants tid in
      let rs = right-star facts ids fine x side l r asked constants tid in
      star-node facts ids star (star_accesses facts star) (either_out facts ids star l r)
      (subst (λ n. StandsOut facts ids (λ g. star_sols g star) n (either_out facts ids star l r)) (sym one) (either-stand facts ids fine x side l r asked constants)) asked.in_width
      (λ v.
      has-both (open_vars (entity_vars tid x) (openings_from 0 (half_numbers columns tid x l))) (open_vars (entity_vars tid x) (openings_from (length (half_numbers columns tid x l)) (half_numbers columns tid x r))) v
      ∙ ap₂ (λ (b c : Bool). b || c) (arms-has columns tid [] tt (arms_in l) ls.required 0 (entity_vars tid x) v) (arms-has columns tid [] tt (arms_in r) rs.required (length (half_numbers columns tid x l)) (entity_vars tid x) v)
      ∙ ap (λ (b : Bool). (b || (arms_variables (arms_in l) v || false)) || (b || (arms_variables (arms_in r) v || false))) (slot-has tid [] x v)
      ∙ joined (is_variable v x) (arms_variables (arms_in l) v) (arms_variables (arms_in r) v))
      refl
    where
      joined : (p q r : Bool) → ((p || (q || false)) || (p || (r || false))) ≡ (p || (q || r))
      joined true q r = refl
      joined false q r = ap₂ (λ (b c : Bool). b || c) (or_false q) (or_false r)

      many_halves : (l r : Half) → nat_le (length (arms_in l ++ arms_in r)) 1 ≡ false
      many_halves l r = let e : length (l.others ++ (r.first ∷ r.others)) ≡ length l.others + suc (length r.others) = length-append l.others (r.first ∷ r.others) in more (length l.others + suc (length r.others)) (length (l.others ++ (r.first ∷ r.others))) e (omega arith)
        where
          more : (n m : ℕ) → m ≡ n → 1 ≤ n → nat_le (suc m) 1 ≡ false
          more n m e l = lt-leb (suc m) 1 (omega arith)

  body-node : (x : Slot) (side : SideName) (body : StarBody) → (let star : Star = record { entity = x; side = side; body = body } in IsAsked facts ids star → StandsForNode facts ids (trees.Leaf (star ∷ [])) (star_accesses facts star) (star_out facts ids star))
  body-node x side (Both [] qs) asked = let e : false ≡ true = asked.there in cc
  body-node x side (Both (a ∷ ps) qs) asked = first-node a.pred a.pattern a.value x side ps qs asked
  body-node x side (Either [] rs) asked = let e : false ≡ true = asked.there in cc
  body-node x side (Either (a ∷ ls) []) asked = let e : false ≡ true = asked.there in cc
  body-node x side (Either (a ∷ ls) (b ∷ rs)) asked = either-node x side (record { first = a; others = ls }) (record { first = b; others = rs }) asked

  -- every star of which this is asked
  pub star-stands : (star : Star) → IsAsked facts ids star → StandsForNode facts ids (trees.Leaf (star ∷ [])) (star_accesses facts star) (star_out facts ids star)
  star-stands star asked = body-node star.entity star.side star.body asked

-- ---- the stars of a leaf

each-asked : (facts : FactsOf) (ids : List IdOf) (leaf stars : List Star) → list_all (star_fits leaf) stars ≡ true → ((is : Ids) → AllByRecursion (HasFreshValues is) stars) → list_all star_in_width stars ≡ true →
    list_all (star_is_told ids) stars ≡ true → list_all (is_plain_where_several facts.spilled) stars ≡ true → list_all has_few_arms stars ≡ true → AllByRecursion (IsAsked facts ids) stars
each-asked facts ids leaf [] fits fresh wide told plain few = tt
each-asked facts ids leaf (s ∷ stars) fits fresh wide told plain few =
    let f = and_parts (star_fits leaf s) _ fits in
    let g = and_parts (required_there s.body) _ f.0 in
    let h = and_parts (constant_where_several s.body) _ g.1 in
    let w = and_parts (star_in_width s) _ wide in
    let t = and_parts (star_is_told ids s) _ told in
    let p = and_parts (is_plain_where_several facts.spilled s) _ plain in
    let q = and_parts (has_few_arms s) _ few in
    (record { there = g.0; constant = h.0; fresh = λ is. (fresh is).0; in_width = w.0; told = t.0; plain = p.0; few = q.0 }, each-asked facts ids leaf stars f.1 (λ is. (fresh is).1) w.1 t.1 p.1 q.1)

-- the stars of a leaf that fits and may be compiled
pub leaf-asked : (facts : FactsOf) (ids : List IdOf) (leaf : List Star) → leaf_fits leaf ≡ true → list_all star_in_width leaf ≡ true → list_all (star_is_told ids) leaf ≡ true →
    list_all (is_plain_where_several facts.spilled) leaf ≡ true → list_all has_few_arms leaf ≡ true → AllByRecursion (IsAsked facts ids) leaf
leaf-asked facts ids leaf fits wide told plain few = each-asked facts ids leaf leaf fits (λ is. fresh_values is leaf fits) wide told plain few

pub stars-stand : (facts : FactsOf) (ids : List IdOf) → AreFine facts ids → (leaf : List Star) → leaf_fits leaf ≡ true → list_all star_in_width leaf ≡ true → list_all (star_is_told ids) leaf ≡ true →
    list_all (is_plain_where_several facts.spilled) leaf ≡ true → list_all has_few_arms leaf ≡ true → AllByRecursion (λ (star : Star). StandsForNode facts ids (trees.Leaf (star ∷ [])) (star_accesses facts star) (star_out facts ids star)) leaf
stars-stand facts ids fine leaf fits wide told plain few =
    each-weaker (IsAsked facts ids) (λ (star : Star). StandsForNode facts ids (trees.Leaf (star ∷ [])) (star_accesses facts star) (star_out facts ids star)) (λ star asked. star-stands facts ids fine star asked) leaf
    (leaf-asked facts ids leaf fits wide told plain few)
