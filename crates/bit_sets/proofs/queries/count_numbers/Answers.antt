use Rattle.std.proofs.Common.{◌+◌, ℕ, get_or, add-one, ap₂, refl, sym, ◌∙◌, arith}
use Rattle.bit_sets.specs.Blocks.{numbers_in}
use Rattle.bit_sets.proofs.Counted.{length_more, few_numbers}
use Rattle.bit_sets.proofs.queries.count_numbers.Goals as goal

pub loop-word-init : goal.loop-word-init
unfolding numbers_in
loop-word-init c = refl

pub overflow_add-count : goal.overflow_add-count
overflow_add-count c =
    let words = c.args.words.now in
    let i = c.loop-word.word-index in
    let block = (get_or words i (0, 0)).0 in
    omega (arith, c.loop-word.invariant, c.count_of_word-count.ensures block, few_numbers words i (0, 0) c.requires c.loop-word-test.true)

pub loop-word-preserved : goal.loop-word-preserved
loop-word-preserved c =
    let words = c.args.words.now in
    let i = c.loop-word.word-index in
    let block = (get_or words i (0, 0)).0 in
    rw add-one (ap₂ (λ (a b : ℕ). a + b) c.loop-word.invariant (c.count_of_word-count.ensures block) ∙ sym (length_more words i (0, 0) c.loop-word-test.true))
