use Rattle.std.proofs.Common.{◌%◌, ℕ, nat_eq, subst, sym, ap, ◌∙◌}
use Rattle.bit_sets.specs.Places.{IsAt, IsGap}
use Rattle.bit_sets.proofs.Found.{has_at, has_gap}
use Rattle.std.proofs.lemmas.Nat.Bits.{bit_at-zero}
use Rattle.bit_sets.proofs.queries.word_of.Goals as goal

pub returns-in-Ok : goal.returns-in-Ok
returns-in-Ok c = λ n e.
    let words = c.args.words.now in
    has_at words n c.in-Ok.place (0, 0) c.requires.rising (subst (λ (b : ℕ). IsAt b words c.in-Ok.place) (sym e) c.in-Ok.ensures)

pub returns-in-Err : goal.returns-in-Err
returns-in-Err c = λ n e.
    let words = c.args.words.now in
    has_gap words n c.in-Err.place (subst (λ (b : ℕ). IsGap b words c.in-Err.place) (sym e) c.in-Err.ensures) ∙ ap (λ (x : ℕ). nat_eq x 1) (sym (bit_at-zero (n % 64)))
