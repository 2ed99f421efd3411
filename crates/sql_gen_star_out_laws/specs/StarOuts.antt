-- The out of a star (this project's own): its numbered steps, by the ids that are told of its constants.
use Rattle.std.specs.Prelude.{ℕ, ◌+◌, if◌then◌else◌, nat_le, List, [], ◌∷◌, ◌++◌, length}
use Rattle.rdf_meaning.specs.Terms.{RdfTerm, same_term}
use Rattle.rdf_meaning.specs.declared.side.SideName.{SideName}
use Rattle.rdf_meaning.specs.declared.side.SideName.TheVariants.{Direct, Reverse}
use Rattle.layout_meaning.specs.Columns.{ColumnsOf}
use Rattle.layout_meaning.specs.Facts.{FactsOf, IdOf}
use Rattle.query_meaning.specs.declared.pattern.Slot.{Slot}
use Rattle.query_meaning.specs.declared.pattern.Slot.TheVariants.{Var, Const}
use Rattle.query_plan_meaning.specs.declared.star.Arm.{Arm}
use Rattle.query_plan_meaning.specs.declared.star.Star.{Star}
use Rattle.query_plan_meaning.specs.declared.star.StarBody.{StarBody}
use Rattle.query_plan_meaning.specs.declared.star.StarBody.TheVariants.{Both, Either}
use Rattle.query_plan_meaning.specs.Stars.{arms_of, stars_certain}
use Rattle.sql_gen_step_laws.specs.Carried.{Ids}
use Rattle.sql_gen_star_meaning.specs.declared.arm.StarArm.{StarArm}
use Rattle.sql_gen_star_meaning.specs.Asked.{asked_slot}
use Rattle.sql_gen_star_solution_laws.specs.StarArms.{pair_entity, pair_predicate, pair_value}
use Rattle.sql_gen_star_laws.specs.StarSteps.{ArmsOf, star_arms, star_vars, pair_all_vars}
use Rattle.sql_gen_either_laws.specs.EitherSteps.{Half, half_numbers, either_vars}
use Rattle.sql_gen_numbered_meaning.specs.NumberedStars.{numbered_arms, numbered_pairs, numbered_either}
use Rattle.sql_gen_out_laws.specs.Outs.{Out}

-- the id that is told of a term, or 0
abbrev pub told_id : List IdOf → Ids
told_id [] t = 0
told_id (i ∷ ids) t = if same_term i.term t then i.id else told_id ids t

-- the columns that are told of a side
abbrev pub told_columns : FactsOf → SideName → ColumnsOf
told_columns facts Direct = facts.direct
told_columns facts Reverse = facts.reverse

-- no steps
abbrev pub no_out : Star → Out
no_out star = record { steps = []; last = 0; variables = []; certain = stars_certain (star ∷ []) }

-- arms whose predicates are constants: all rows are read for one arm, and for several those of number 0
abbrev pub arms_out : FactsOf → List IdOf → Star → ArmsOf → Out
arms_out facts ids star arms =
    let numbers : List StarArm = star_arms (told_columns facts star.side) (told_id ids) star.entity arms in
    record {
      steps = numbered_arms star.side (nat_le (length (arms_of star.body)) 1) (asked_slot (told_id ids) [] star.entity) numbers;
      last = length numbers;
      variables = star_vars (told_columns facts star.side) (told_id ids) star.entity arms;
      certain = stars_certain (star ∷ []);
    }

-- one arm whose predicate is a variable
abbrev pub pairs_out : FactsOf → List IdOf → Star → Arm → Out
pairs_out facts ids star a = record {
  steps = numbered_pairs star.side (pair_entity (told_id ids) star.entity) (pair_predicate (told_id ids) star.entity a) (pair_value (told_id ids) star.entity a) (told_columns facts star.side).count;
  last = 1;
  variables = pair_all_vars (told_id ids) star.entity a;
  certain = stars_certain (star ∷ []);
}

-- two lists of arms
abbrev pub either_out : FactsOf → List IdOf → Star → Half → Half → Out
either_out facts ids star left right =
    let first : List StarArm = half_numbers (told_columns facts star.side) (told_id ids) star.entity left in
    let second : List StarArm = half_numbers (told_columns facts star.side) (told_id ids) star.entity right in
    record {
      steps = numbered_either star.side (nat_le (length (arms_of star.body)) 1) (asked_slot (told_id ids) [] star.entity) first second;
      last = 1 + length first + length second;
      variables = either_vars (told_columns facts star.side) (told_id ids) star.entity left right;
      certain = stars_certain (star ∷ []);
    }

abbrev pub first_out_by : FactsOf → List IdOf → Star → Arm → List Arm → List Arm → Slot → Out
first_out_by facts ids star a required optional (Var v) = pairs_out facts ids star a
first_out_by facts ids star a required optional (Const c) = arms_out facts ids star (record { first = a; required = required; optional = optional })

abbrev pub body_out : FactsOf → List IdOf → Star → StarBody → Out
body_out facts ids star (Both [] optional) = no_out star
body_out facts ids star (Both (a ∷ required) optional) = first_out_by facts ids star a required optional a.pred
body_out facts ids star (Either [] right) = no_out star
body_out facts ids star (Either (a ∷ left) []) = no_out star
body_out facts ids star (Either (a ∷ left) (b ∷ right)) = either_out facts ids star (record { first = a; others = left }) (record { first = b; others = right })

-- each star has a required arm, and an Either star one on each side; a predicate that is a variable stands alone
abbrev pub star_out : FactsOf → List IdOf → Star → Out
star_out facts ids star = body_out facts ids star star.body
