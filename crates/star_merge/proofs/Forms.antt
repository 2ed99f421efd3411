-- Plain stars, by the form of their body.
use Rattle.std.specs.Prelude.{◌≡◌, ◌&&◌, List, ◌++◌}
use Rattle.std.proofs.Common.{ap, ◌∙◌}
use Rattle.std.proofs.lemmas.List.Folds.{list_all-append}
use Rattle.std.specs.List.{list_all}
use Rattle.layout_meaning.specs.Facts.{SpilledTerms}
use Rattle.query_plan_meaning.specs.declared.star.Arm.{Arm}
use Rattle.query_plan_meaning.specs.declared.star.Star.{Star}
use Rattle.query_plan_meaning.specs.declared.star.StarBody.{StarBody}
use Rattle.query_plan_meaning.specs.declared.star.StarBody.TheVariants.{Both, Either}
use Rattle.query_plan_meaning.specs.Stars.{arms_of}
use Rattle.query_merging_meaning.specs.Merging.{is_plain_arm, is_plain}

pub plain_both : (spilled : SpilledTerms) (star : Star) (required optional : List Arm) → star.body ≡ Both required optional → is_plain spilled star ≡ (list_all (is_plain_arm spilled star.side) required && list_all (is_plain_arm spilled star.side) optional)
plain_both spilled star required optional is = ap (λ (b : StarBody). list_all (is_plain_arm spilled star.side) (arms_of b)) is ∙ list_all-append (is_plain_arm spilled star.side) required optional

pub plain_either : (spilled : SpilledTerms) (star : Star) (left right : List Arm) → star.body ≡ Either left right → is_plain spilled star ≡ (list_all (is_plain_arm spilled star.side) left && list_all (is_plain_arm spilled star.side) right)
plain_either spilled star left right is = ap (λ (b : StarBody). list_all (is_plain_arm spilled star.side) (arms_of b)) is ∙ list_all-append (is_plain_arm spilled star.side) left right

pub ruleset plain_laws = (plain_both, plain_either)
