use Rattle.std.proofs.Common.{◌≡◌, ℤ, Some, None, to_z, of_z, FitsSigned, to_z-of_z, false, true, ap, ◌∙◌, sym, rules}
use Rattle.std.specs.Int.{w32, w64, w128}
use Rattle.rdf_value_meaning.specs.Moments.{seconds_of_text, fraction_and_zone, minutes_of_zone, instant_of_text, instant_by, instant_with}
use Rattle.rdf_terms.proofs.Moments.{shown, without_seconds, without_fraction, with_zone, without_zone, by_parts}
use Rattle.rdf_terms.proofs.moment.instant_of.Goals as goal

pub returns-in_err-seconds : goal.returns-in_err-seconds
returns-in_err-seconds c =
    let front = c.split_at.result.0.now in
    let back = c.split_at.result.1.now in
    let cut = shown c.args.text.now front back c.min.result c.min.ensures c.split_at.ensures.front c.split_at.ensures.back in
    let none : None ≡ seconds_of_text front = c.in_err-seconds.ensures in
    c.from_residual.ensures ∙ sym (cut ∙ without_seconds (seconds_of_text front) (fraction_and_zone back) (sym none))

pub returns-in_err-fraction : goal.returns-in_err-fraction
returns-in_err-fraction c =
    let front = c.split_at.result.0.now in
    let back = c.split_at.result.1.now in
    let cut = shown c.args.text.now front back c.min.result c.min.ensures c.split_at.ensures.front c.split_at.ensures.back in
    c.from_residual-in_err-fraction.ensures ∙ sym (cut ∙ without_fraction (seconds_of_text front) (fraction_and_zone back) c.in_err-fraction.ensures)

pub returns-in_err-minutes : goal.returns-in_err-minutes
returns-in_err-minutes c =
    let front = c.split_at.result.0.now in
    let back = c.split_at.result.1.now in
    let cut = shown c.args.text.now front back c.min.result c.min.ensures c.split_at.ensures.front c.split_at.ensures.back in
    let fraction = c.in_ok-fraction.fraction.now in
    let zone = c.in_ok-fraction.zone.now in
    let none : None ≡ minutes_of_zone zone = c.in_err-minutes.ensures in
    c.from_residual-in_err-minutes.ensures
    ∙ sym (cut ∙ with_zone (seconds_of_text front) (fraction_and_zone back) fraction zone c.in_ok-fraction.ensures ∙ without_zone (seconds_of_text front) (minutes_of_zone zone) fraction (sym none))

pub returns-then-not-is_fine : goal.returns-then-not-is_fine
returns-then-not-is_fine c =
    let front = c.split_at.result.0.now in
    let back = c.split_at.result.1.now in
    let cut = shown c.args.text.now front back c.min.result c.min.ensures c.split_at.ensures.front c.split_at.ensures.back in
    let fraction = c.in_ok-fraction.fraction.now in
    let zone = c.in_ok-fraction.zone.now in
    sym (cut ∙ with_zone (seconds_of_text front) (fraction_and_zone back) fraction zone c.in_ok-fraction.ensures
    ∙ by_parts (seconds_of_text front) (minutes_of_zone zone) fraction c.in_ok-seconds.seconds c.in_ok-minutes.minutes false
    (sym c.in_ok-seconds.ensures) (sym c.in_ok-minutes.ensures) (sym c.is_fine.ensures ∙ c.if-not-is_fine.true))

pub returns : goal.returns
returns c =
    let front = c.split_at.result.0.now in
    let back = c.split_at.result.1.now in
    let cut = shown c.args.text.now front back c.min.result c.min.ensures c.split_at.ensures.front c.split_at.ensures.back in
    let fraction = c.in_ok-fraction.fraction.now in
    let zone = c.in_ok-fraction.zone.now in
    let fits : FitsSigned w128 c.nanoseconds.result = search rules in
    let seconds_fit : FitsSigned w64 c.in_ok-seconds.seconds = search rules in
    let minutes_fit : FitsSigned w32 c.in_ok-minutes.minutes = search rules in
    let plain = rw (to_z-of_z seconds_fit, to_z-of_z minutes_fit, c.billionths.ensures.value) at c.nanoseconds.ensures in
    let given = by_parts (seconds_of_text front) (minutes_of_zone zone) fraction c.in_ok-seconds.seconds c.in_ok-minutes.minutes true
    (sym c.in_ok-seconds.ensures) (sym c.in_ok-minutes.ensures) (sym c.is_fine.ensures ∙ c.if-not-is_fine.false) in
    ap (λ (n : ℤ). Some n) (to_z-of_z fits ∙ plain) ∙ sym (cut ∙ with_zone (seconds_of_text front) (fraction_and_zone back) fraction zone c.in_ok-fraction.ensures ∙ given)
