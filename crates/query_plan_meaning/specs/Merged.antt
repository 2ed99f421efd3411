-- Stars that are merged (this project's own).
use Rattle.std.specs.Prelude.{ℕ, Bool, false, not, ◌&&◌, List, [], map}
use Rattle.std.specs.List.{flat_map}
use Rattle.rdf_meaning.specs.Terms.{RdfTerm, is_empty}
use Rattle.rdf_meaning.specs.declared.side.SideName.{SideName}
use Rattle.query_meaning.specs.declared.pattern.Slot.{Slot}
use Rattle.query_meaning.specs.declared.pattern.Slot.TheVariants.{Var, Const}
use Rattle.query_meaning.specs.declared.pattern.Pattern.{Pattern}
use Rattle.query_plan_meaning.specs.declared.star.Arm.{Arm}
use Rattle.query_plan_meaning.specs.declared.star.Star.{Star}
use Rattle.query_plan_meaning.specs.declared.star.StarBody.{StarBody}
use Rattle.query_plan_meaning.specs.declared.star.StarBody.TheVariants.{Both, Either}
use Rattle.query_plan_meaning.specs.Stars.{arm_pattern}

abbrev pub both : Slot → SideName → List Arm → List Arm → Star
both x side required optional = record { entity = x; side = side; body = Both required optional }

-- an arm whose predicate is a constant and whose value is a variable
abbrev pub one_arm : ℕ → RdfTerm → ℕ → Arm
one_arm number pred v = record { pattern = number; pred = Const pred; value = Var v }

-- some required arm, and no other
abbrev pub is_required_only : StarBody → Bool
is_required_only (Both required optional) = not (is_empty required) && is_empty optional
is_required_only (Either left right) = false

-- the patterns of a star's required arms
abbrev pub patterns_of : Slot → SideName → StarBody → List Pattern
patterns_of x side (Both required optional) = map (arm_pattern x side) required
patterns_of x side (Either left right) = []

abbrev pub all_patterns : List Star → List Pattern
all_patterns stars = flat_map (λ (s : Star). patterns_of s.entity s.side s.body) stars
