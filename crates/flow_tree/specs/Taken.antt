-- The choices that are left after some were taken (this project's own).
use Rattle.std.specs.Prelude.{Bool, not, List, [], ◌∷◌, Option, Some, None}
use Rattle.std.specs.List.{list_any, filter}
use Rattle.layout_meaning.specs.Facts.{CountsOf}
use Rattle.query_meaning.specs.declared.pattern.Pattern.{Pattern}
use Rattle.query_eval_meaning.specs.Variables.{Variables}
use Rattle.query_flow_meaning.specs.declared.step.Method.TheVariants.{Scan}
use Rattle.query_flow_meaning.specs.Flow.{Choice, same_number, least_from}

-- one of these choices is of the pattern's number
abbrev pub is_taken : List Choice → Pattern → Bool
is_taken taken p = list_any (λ (c : Choice). same_number c.pattern p) taken

-- the other patterns
abbrev pub left_by : List Choice → List Pattern → List Pattern
left_by taken ps = filter (λ (p : Pattern). not (is_taken taken p)) ps

-- the least choice of some patterns, where these variables are bound
abbrev pub least_choice : CountsOf → Variables → List Pattern → Option Choice
least_choice counts vs [] = None
least_choice counts vs (p ∷ ps) = Some (least_from counts vs (record { pattern = p; method = Scan }) (p ∷ ps))
