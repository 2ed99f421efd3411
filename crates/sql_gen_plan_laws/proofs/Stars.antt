-- What the stars of a planned tree pass.
use Rattle.std.specs.Prelude.{◌≡◌, Bool, true, ◌&&◌, List, [], ◌∷◌, map, refl}
use Rattle.std.specs.List.{list_all, AllByRecursion}
use Rattle.std.proofs.Common.{◌∙◌}
use Rattle.std.proofs.lemmas.Bool.{and_parts, and_from}
use Rattle.layout_meaning.specs.Facts.{SpilledTerms, IdOf, CountsOf}
use Rattle.query_meaning.specs.declared.pattern.Pattern.{Pattern}
use Rattle.query_meaning.specs.declared.tree.Tree.{Tree}
use Rattle.query_plan_meaning.specs.declared.star.Star.{Star}
use Rattle.query_plan_meaning.specs.Plans.{every_leaf}
use Rattle.query_merging_meaning.specs.Merging.{is_plain_where_several}
use Rattle.query_flow_meaning.specs.declared.step.Method.{Method}
use Rattle.query_flow_meaning.specs.declared.step.Method.TheVariants.{Direct, Reverse, Scan}
use Rattle.query_flow_meaning.specs.Flow.{Choice, flow_of}
use Rattle.query_flow_meaning.specs.Planned.{star_by, star_of, planned_leaf, planned_tree}
use Rattle.query_flow_laws.proofs.Greedy.{flow_of-is, flow-each}
use Rattle.query_flow_laws.proofs.Leaves.{every-with, every-more, every-any}
use Rattle.sql_gen_meaning.specs.Compilable.{is_told, star_is_told, has_few_arms}
use Rattle.sql_gen_plan_laws.proofs.Constants.{pattern_is_told}

-- ---- from patterns to stars

each-from : {X : Type 0} (p : X → Bool) (xs : List X) → list_all p xs ≡ true → AllByRecursion (λ x. p x ≡ true) xs
each-from p [] e = tt
each-from p (x ∷ xs) e = let h = and_parts (p x) (list_all p xs) e in (h.0, each-from p xs h.1)

module _ (own : Pattern → Bool) (test : Star → Bool) (h : (p : Pattern) (m : Method) → own p ≡ true → test (star_by p m) ≡ true) where
  choices-pass : (flow : List Choice) → AllByRecursion (λ c. own c.pattern ≡ true) flow → list_all test (map star_of flow) ≡ true
  choices-pass [] all = refl
  choices-pass (c ∷ flow) all = and_from (test (star_of c)) (list_all test (map star_of flow)) (h c.pattern c.method all.0) (choices-pass flow all.1)

  leaf-passes : (counts : CountsOf) (ps : List Pattern) → list_all own ps ≡ true → list_all test (planned_leaf counts ps) ≡ true
  leaf-passes counts ps e = choices-pass (flow_of counts ps) (flow-each (λ p. own p ≡ true) counts [] ps (flow_of counts ps) (flow_of-is counts ps) (each-from own ps e))

  -- a test of stars that follows from one of their patterns
  pub stars-pass : (counts : CountsOf) (t : Tree (List Pattern)) → every_leaf (list_all own) t ≡ true → every_leaf (list_all test) (planned_tree counts t) ≡ true
  stars-pass counts t e = every-with (planned_leaf counts) (list_all test) t ∙ every-more (list_all own) (λ ps. list_all test (planned_leaf counts ps)) (leaf-passes counts) t e

any-pattern : (ps : List Pattern) → list_all (λ (p : Pattern). true) ps ≡ true
any-pattern [] = refl
any-pattern (p ∷ ps) = any-pattern ps

-- a test that all stars of one arm pass
all-stars : (test : Star → Bool) → ((p : Pattern) (m : Method) → test (star_by p m) ≡ true) → (counts : CountsOf) (t : Tree (List Pattern)) → every_leaf (list_all test) (planned_tree counts t) ≡ true
all-stars test h counts t = stars-pass (λ p. true) test (λ p m e. h p m) counts t (every-any (list_all (λ (p : Pattern). true)) any-pattern t)

-- ---- the tests of plans that may be compiled

told-by : (ids : List IdOf) (p : Pattern) (m : Method) → pattern_is_told ids p ≡ true → star_is_told ids (star_by p m) ≡ true
told-by ids p m h = at m
  where
    parts : (is_told ids p.s ≡ true) × ((is_told ids p.p && is_told ids p.o) ≡ true)
    parts = and_parts (is_told ids p.s) (is_told ids p.p && is_told ids p.o) h

    more : (is_told ids p.p ≡ true) × (is_told ids p.o ≡ true)
    more = and_parts (is_told ids p.p) (is_told ids p.o) parts.1

    at : (m : Method) → star_is_told ids (star_by p m) ≡ true
    at Direct = and_from _ _ parts.0 (and_from _ true (and_from _ _ more.0 more.1) refl)
    at Reverse = and_from _ _ more.1 (and_from _ true (and_from _ _ more.0 parts.0) refl)
    at Scan = and_from _ _ parts.0 (and_from _ true (and_from _ _ more.0 more.1) refl)

few-by : (p : Pattern) (m : Method) → has_few_arms (star_by p m) ≡ true
few-by p Direct = refl
few-by p Reverse = refl
few-by p Scan = refl

plain-by : (spilled : SpilledTerms) (p : Pattern) (m : Method) → is_plain_where_several spilled (star_by p m) ≡ true
plain-by spilled p Direct = refl
plain-by spilled p Reverse = refl
plain-by spilled p Scan = refl

pub stars-told : (ids : List IdOf) (counts : CountsOf) (t : Tree (List Pattern)) → every_leaf (list_all (pattern_is_told ids)) t ≡ true → every_leaf (list_all (star_is_told ids)) (planned_tree counts t) ≡ true
stars-told ids = stars-pass (pattern_is_told ids) (star_is_told ids) (told-by ids)

pub stars-few : (counts : CountsOf) (t : Tree (List Pattern)) → every_leaf (list_all has_few_arms) (planned_tree counts t) ≡ true
stars-few = all-stars has_few_arms few-by

pub stars-plain : (spilled : SpilledTerms) (counts : CountsOf) (t : Tree (List Pattern)) → every_leaf (list_all (is_plain_where_several spilled)) (planned_tree counts t) ≡ true
stars-plain spilled = all-stars (is_plain_where_several spilled) (plain-by spilled)
