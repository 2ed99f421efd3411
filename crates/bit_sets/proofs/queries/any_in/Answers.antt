use Rattle.std.proofs.Common.{Bool, ℕ, nat_eq, add-one, refl, sym, ◌∙◌}
use Rattle.std.specs.List.{list_any}
use Rattle.bit_sets.specs.Blocks.{numbers_in}
use Rattle.bit_sets.proofs.Shared.{met_in, met_more}
use Rattle.bit_sets.proofs.queries.any_in.Goals as goal

pub loop-block-init : goal.loop-block-init
unfolding numbers_in
loop-block-init c = refl

pub returns-then-met : goal.returns-then-met
returns-then-met c =
    let p : ℕ → Bool = λ n. list_any (nat_eq n) (numbers_in c.args.others.now) in
    sym (met_in p c.args.words.now c.loop-block.block-index (0, 0) c.loop-block-test.true (sym c.any_of_word-met.ensures ∙ c.if-met.true))

pub loop-block-preserved : goal.loop-block-preserved
loop-block-preserved c =
    let p : ℕ → Bool = λ n. list_any (nat_eq n) (numbers_in c.args.others.now) in
    rw add-one (met_more p c.args.words.now c.loop-block.block-index (0, 0) c.loop-block-test.true c.loop-block.invariant (sym c.any_of_word-met.ensures ∙ c.if-met.false))
