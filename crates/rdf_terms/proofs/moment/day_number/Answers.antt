use Rattle.std.proofs.Common.{◌≡◌, ℤ, pos, Option, Some, w32, to_z, of_z, FitsSigned, to_z-of_z, ap, ◌∙◌, sym, arith, rules}
use Rattle.jiff_core.specs.Date.{epoch_day}
use Rattle.jiff_core.proofs.SignedLemmas.{signed_casts}
use Rattle.rdf_terms.proofs.Moments.{found}
use Rattle.rdf_terms.proofs.moment.day_number.Goals as goal

pub returns : goal.returns
returns c =
    let date = c.in-Ok.date in
    let ymd = c.in-Ok.ensures.value in
    let number = c.to_unix_epoch_day.ensures.value in
    let fits : FitsSigned w32 c.to_unix_epoch_day.result = search rules in
    let day_is : c.to_unix_epoch_day.result ≡ epoch_day date = number ∙ ap epoch_day c.to_plain.ensures in
    ap (λ (n : ℤ). Some n) (to_z-of_z fits ∙ day_is)
    ∙ sym (found c.args.year c.args.month c.args.day date
    (omega (arith, signed_casts, ymd.0)) (omega (arith, signed_casts, ymd.1)) (omega (arith, signed_casts, ymd.2)) (omega arith) (omega arith))
