-- Merged plans: stars of one entity become one, where none of their predicates is spilled (this project's own).
use Rattle.std.specs.Prelude.{Bool, true, false, if◌then◌else◌, not, ◌&&◌, ◌||◌, ◌==◌, nat_le, List, [], ◌∷◌, ◌++◌, length, fold, Option, Some, None, option_map, option_and_then}
use Rattle.std.specs.List.{list_any, list_all}
use Rattle.rdf_meaning.specs.Terms.{RdfTerm, same_term, is_empty}
use Rattle.rdf_meaning.specs.declared.side.SideName.{SideName}
use Rattle.rdf_meaning.specs.declared.side.SideName.TheVariants.{Direct, Reverse}
use Rattle.layout_meaning.specs.Facts.{SpilledTerms}
use Rattle.query_meaning.specs.declared.expression.TruthExpr.{TruthExpr}
use Rattle.query_meaning.specs.declared.pattern.Slot.{Slot}
use Rattle.query_meaning.specs.declared.pattern.Slot.TheVariants.{Var, Const}
use Rattle.query_meaning.specs.declared.tree.Tree.{Tree, fold-Tree}
use Rattle.query_meaning.specs.declared.tree.Tree.TheVariants as trees
use Rattle.query_meaning.specs.declared.tree.Tree.TheOpen.{Tree-F, Leaf, Join, LeftJoin, Union, Filter}
use Rattle.query_plan_meaning.specs.declared.star.Arm.{Arm}
use Rattle.query_plan_meaning.specs.declared.star.Star.{Star}
use Rattle.query_plan_meaning.specs.declared.star.StarBody.{StarBody}
use Rattle.query_plan_meaning.specs.declared.star.StarBody.TheVariants.{Both, Either}
use Rattle.query_plan_meaning.specs.declared.plan.Plan.{Plan}
use Rattle.query_plan_meaning.specs.Stars.{arms_of, stars_variables}
use Rattle.query_plan_meaning.specs.Plans.{optional_of}
use Rattle.query_plan_meaning.specs.Merged.{both, is_required_only}

-- ---- plain stars

abbrev pub spilled_on : SpilledTerms → SideName → List RdfTerm
spilled_on spilled Direct = spilled.direct
spilled_on spilled Reverse = spilled.reverse

-- a constant that isn't one of these terms
abbrev pub is_constant_beside : List RdfTerm → Slot → Bool
is_constant_beside terms (Const t) = not (list_any (same_term t) terms)
is_constant_beside terms (Var v) = false

-- the predicate is a constant that isn't spilled on the side
abbrev pub is_plain_arm : SpilledTerms → SideName → Arm → Bool
is_plain_arm spilled side a = is_constant_beside (spilled_on spilled side) a.pred

abbrev pub is_plain : SpilledTerms → Star → Bool
is_plain spilled star = list_all (is_plain_arm spilled star.side) (arms_of star.body)

abbrev pub same_slot : Slot → Slot → Bool
same_slot (Var v) (Var w) = v == w
same_slot (Const s) (Const t) = same_term s t
same_slot _ _ = false

abbrev pub same_side : SideName → SideName → Bool
same_side Direct Direct = true
same_side Reverse Reverse = true
same_side _ _ = false

-- on one entity and one side
abbrev pub same_entity : Star → Star → Bool
same_entity star other = same_slot star.entity other.entity && same_side star.side other.side

abbrev pub required_of : StarBody → List Arm
required_of (Both required optional) = required
required_of (Either left right) = []

abbrev pub is_both : StarBody → Bool
is_both (Both required optional) = true
is_both (Either left right) = false

-- ---- the stars of a leaf

-- both are plain and of required arms alone, on one entity and one side
abbrev pub are_one : SpilledTerms → Star → Star → Bool
are_one spilled star other =
    same_entity star other && ((is_plain spilled star && is_plain spilled other) && (is_required_only star.body && is_required_only other.body))

-- with the required arms of the other behind its own
abbrev pub with_arms_of : Star → Star → Star
with_arms_of star other = both star.entity star.side (required_of star.body ++ required_of other.body) []

-- into the first star with which it is one, or behind all
abbrev pub put : SpilledTerms → List Star → Star → List Star
put spilled [] new = new ∷ []
put spilled (star ∷ stars) new = if are_one spilled star new then with_arms_of star new ∷ stars else star ∷ put spilled stars new

abbrev pub merged_leaf : SpilledTerms → List Star → List Star
merged_leaf spilled stars = fold (put spilled) [] stars

-- ---- an optional part

-- the one star of a leaf, where it is plain and of required arms alone
abbrev pub lone_star : SpilledTerms → List Star → Option Star
lone_star spilled [] = None
lone_star spilled (star ∷ []) = if is_plain spilled star && is_required_only star.body then Some star else None
lone_star spilled (star ∷ other ∷ stars) = None

-- a variable that stands nowhere in the leaf
abbrev pub is_new_in : List Star → Slot → Bool
is_new_in stars (Var v) = not (stars_variables stars v)
is_new_in stars (Const t) = false

abbrev pub with_optional_arm : Star → Arm → Star
with_optional_arm star a = both star.entity star.side (required_of star.body) (optional_of star.body ++ a ∷ [])

-- a plain Both star on the entity and side of the other
abbrev pub takes_arms_of : SpilledTerms → Star → Star → Bool
takes_arms_of spilled star other = same_entity star other && (is_plain spilled star && is_both star.body)

-- the arm goes into the first star that takes it
abbrev pub put_optional : SpilledTerms → Star → Arm → List Star → Option (List Star)
put_optional spilled lone a [] = None
put_optional spilled lone a (star ∷ stars) =
    if takes_arms_of spilled star lone then Some (with_optional_arm star a ∷ stars) else option_map (λ (more : List Star). star ∷ more) (put_optional spilled lone a stars)

-- a lone star of one arm, whose value is a variable that stands nowhere in the leaf
abbrev pub with_optional_star : SpilledTerms → List Star → Star → List Arm → Option (List Star)
with_optional_star spilled stars lone [] = None
with_optional_star spilled stars lone (a ∷ []) = if is_new_in stars a.value then put_optional spilled lone a stars else None
with_optional_star spilled stars lone (a ∷ b ∷ arms) = None

abbrev pub merged_optional : SpilledTerms → List Star → List Star → Option (List Star)
merged_optional spilled stars part = option_and_then (λ (lone : Star). with_optional_star spilled stars lone (required_of lone.body)) (lone_star spilled part)

-- ---- a union

abbrev pub either_of : Star → Star → List Star
either_of star other = record { entity = star.entity; side = star.side; body = Either (required_of star.body) (required_of other.body) } ∷ []

-- two lone stars on one entity and one side
abbrev pub merged_union : SpilledTerms → List Star → List Star → Option (List Star)
merged_union spilled left right =
    option_and_then (λ (star : Star). option_and_then (λ (other : Star). if same_entity star other then Some (either_of star other) else None) (lone_star spilled right)) (lone_star spilled left)

-- ---- trees

abbrev pub leaf_step : {L : Type 0} → Tree-F L (Option L) → Option L
leaf_step (Leaf l) = Some l
leaf_step (Join a b) = None
leaf_step (LeftJoin a b c) = None
leaf_step (Union a b) = None
leaf_step (Filter c a) = None

-- the leaf that the whole tree is
abbrev pub leaf_of : {L : Type 0} → Tree L → Option L
leaf_of {L} = fold-Tree L (Option L) leaf_step

-- what becomes of two trees that are leaves
abbrev pub of_leaves : {L : Type 0} → (L → L → Option L) → Tree L → Tree L → Option L
of_leaves {L} merge a b = option_and_then (λ (l : L). option_and_then (λ (m : L). merge l m) (leaf_of b)) (leaf_of a)

abbrev pub leaf_or : {L : Type 0} → Option L → Tree L → Tree L
leaf_or (Some l) t = trees.Leaf l
leaf_or None t = t

abbrev pub left_join_merged : SpilledTerms → Tree (List Star) → Tree (List Star) → Option TruthExpr → Tree (List Star)
left_join_merged spilled a b None = leaf_or (of_leaves (merged_optional spilled) a b) (trees.LeftJoin a b None)
left_join_merged spilled a b (Some c) = trees.LeftJoin a b (Some c)

-- what becomes of a node whose parts are merged: a left join with a condition stays
abbrev pub merged_step : SpilledTerms → Tree-F (List Star) (Tree (List Star)) → Tree (List Star)
merged_step spilled (Leaf l) = trees.Leaf (merged_leaf spilled l)
merged_step spilled (Join a b) = trees.Join a b
merged_step spilled (LeftJoin a b c) = left_join_merged spilled a b c
merged_step spilled (Union a b) = leaf_or (of_leaves (merged_union spilled) a b) (trees.Union a b)
merged_step spilled (Filter c a) = trees.Filter c a

-- from the leaves up
abbrev pub merged_tree : SpilledTerms → Tree (List Star) → Tree (List Star)
merged_tree spilled = fold-Tree (List Star) (Tree (List Star)) (merged_step spilled)

abbrev pub merged : SpilledTerms → Plan → Plan
merged spilled plan = record { names = plan.names; tree = merged_tree spilled plan.tree; modifiers = plan.modifiers }

-- ---- before and after

abbrev pub is_one_item : {X : Type 0} → List X → Bool
is_one_item [] = false
is_one_item (x ∷ []) = true
is_one_item (x ∷ y ∷ xs) = false

abbrev pub is_one_arm : StarBody → Bool
is_one_arm (Both required optional) = is_one_item required && is_empty optional
is_one_arm (Either left right) = false

-- one required arm and no other
abbrev pub is_single : Star → Bool
is_single star = is_one_arm star.body

-- several arms are all plain
abbrev pub is_plain_where_several : SpilledTerms → Star → Bool
is_plain_where_several spilled star = nat_le (length (arms_of star.body)) 1 || is_plain spilled star
