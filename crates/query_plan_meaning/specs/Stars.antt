-- The solutions of stars (this project's own: one look at an entity answers several triple patterns of SPARQL 1.1 Query, section 18.3).
use Rattle.std.specs.Prelude.{Bool, true, if◌then◌else◌, ◌&&◌, ◌||◌, List, [], ◌∷◌, ◌++◌}
use Rattle.std.specs.List.{flat_map, filter, list_any, list_all}
use Rattle.rdf_meaning.specs.Terms.{RdfTerm, RdfTriple, same_term}
use Rattle.rdf_meaning.specs.declared.side.SideName.{SideName}
use Rattle.rdf_meaning.specs.declared.side.SideName.TheVariants.{Direct, Reverse}
use Rattle.query_meaning.specs.declared.pattern.Slot.{Slot}
use Rattle.query_meaning.specs.declared.pattern.Pattern.{Pattern}
use Rattle.query_meaning.specs.declared.tree.Tree.{Tree}
use Rattle.query_eval_meaning.specs.Mapping.{Mapping, nothing}
use Rattle.query_eval_meaning.specs.Leaf.{is_variable, slot_is, bind_slot, leaf, matches, terms_of}
use Rattle.query_eval_meaning.specs.Width.{slot_in_width}
use Rattle.query_eval_meaning.specs.Eval.{join, left_join, eval}
use Rattle.query_eval_meaning.specs.Variables.{Variables, in_both, in_either}
use Rattle.query_plan_meaning.specs.declared.star.Arm.{Arm}
use Rattle.query_plan_meaning.specs.declared.star.Star.{Star}
use Rattle.query_plan_meaning.specs.declared.star.StarBody.{StarBody}
use Rattle.query_plan_meaning.specs.declared.star.StarBody.TheVariants.{Both, Either}

-- the entity of a triple on a side
abbrev pub entity_of : SideName → RdfTriple → RdfTerm
entity_of Direct t = t.s
entity_of Reverse t = t.o

-- the triple pattern that an arm stands for
abbrev pub arm_pattern : Slot → SideName → Arm → Pattern
arm_pattern entity Direct a = record { number = a.pattern; s = entity; p = a.pred; o = a.value }
arm_pattern entity Reverse a = record { number = a.pattern; s = a.value; p = a.pred; o = entity }

-- what the triples of one entity give an arm: every choice of predicate and value that agrees with constants and repeated variables
abbrev pub arm_sols : List RdfTriple → SideName → RdfTerm → Slot → Arm → List Mapping
arm_sols g side e entity a = flat_map (matches (arm_pattern entity side a)) (filter (λ t. same_term (entity_of side t) e) g)

-- the entity alone
abbrev pub entity_sols : Slot → RdfTerm → List Mapping
entity_sols entity e = if slot_is (bind_slot entity e nothing) entity e then bind_slot entity e nothing ∷ [] else []

-- with a choice for each arm
abbrev pub with_required : List RdfTriple → SideName → RdfTerm → Slot → List Arm → List Mapping → List Mapping
with_required g side e entity [] ms = ms
with_required g side e entity (a ∷ arms) ms = with_required g side e entity arms (join ms (arm_sols g side e entity a))

-- with a choice for each arm that the entity has, which else stays unbound
abbrev pub with_optional : List RdfTriple → SideName → RdfTerm → Slot → List Arm → List Mapping → List Mapping
with_optional g side e entity [] ms = ms
with_optional g side e entity (a ∷ arms) ms = with_optional g side e entity arms (left_join (λ m. true) ms (arm_sols g side e entity a))

-- for each entity that has all required arms, every choice
abbrev pub both_sols : List RdfTriple → Slot → SideName → List Arm → List Arm → List Mapping
both_sols g entity side required optional =
    flat_map (λ e. with_optional g side e entity optional (with_required g side e entity required (entity_sols entity e))) (terms_of g)

abbrev pub body_sols : List RdfTriple → Slot → SideName → StarBody → List Mapping
body_sols g entity side (Both required optional) = both_sols g entity side required optional
body_sols g entity side (Either left right) = both_sols g entity side left [] ++ both_sols g entity side right []

abbrev pub star_sols : List RdfTriple → Star → List Mapping
star_sols g star = body_sols g star.entity star.side star.body

-- a leaf of stars means their join
abbrev pub stars_leaf : List RdfTriple → List Star → List Mapping
stars_leaf g [] = nothing ∷ []
stars_leaf g (star ∷ stars) = join (star_sols g star) (stars_leaf g stars)

-- the solutions of a plan's tree
abbrev pub plan_solutions : Tree (List Star) → List RdfTriple → List Mapping
plan_solutions tree g = eval (stars_leaf g) tree

-- one OPTIONAL of one pattern after another
abbrev pub left_joins : List RdfTriple → List Mapping → List Pattern → List Mapping
left_joins g ms [] = ms
left_joins g ms (p ∷ ps) = left_joins g (left_join (λ m. true) ms (leaf (p ∷ []) g)) ps

-- ---- variables

abbrev pub arms_of : StarBody → List Arm
arms_of (Both required optional) = required ++ optional
arms_of (Either left right) = left ++ right

abbrev pub arm_in_width : Arm → Bool
arm_in_width a = slot_in_width a.pred && slot_in_width a.value

abbrev pub star_in_width : Star → Bool
star_in_width star = slot_in_width star.entity && list_all arm_in_width (arms_of star.body)

abbrev pub arm_variables : Arm → Variables
arm_variables a v = is_variable v a.pred || is_variable v a.value

abbrev pub arms_variables : List Arm → Variables
arms_variables arms v = list_any (λ a. arm_variables a v) arms

abbrev pub body_variables : StarBody → Variables
body_variables (Both required optional) = in_either (arms_variables required) (arms_variables optional)
body_variables (Either left right) = in_either (arms_variables left) (arms_variables right)

-- the entity and all arms
abbrev pub star_variables : Star → Variables
star_variables star v = is_variable v star.entity || body_variables star.body v

abbrev pub stars_variables : List Star → Variables
stars_variables stars v = list_any (λ s. star_variables s v) stars

abbrev pub body_certain : StarBody → Variables
body_certain (Both required optional) = arms_variables required
body_certain (Either left right) = in_both (arms_variables left) (arms_variables right)

-- the entity, and the required arms or what stands in both lists
abbrev pub star_certain : Star → Variables
star_certain star v = is_variable v star.entity || body_certain star.body v

abbrev pub stars_certain : List Star → Variables
stars_certain stars v = list_any (λ s. star_certain s v) stars
