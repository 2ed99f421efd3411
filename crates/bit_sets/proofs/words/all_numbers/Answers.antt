use Rattle.std.proofs.Common.{◌++◌, ℕ, List, get_or, add-one, ap, ◌∙◌, sym, arith}
use Rattle.std.proofs.lemmas.List.{take_all}
use Rattle.bit_sets.specs.Blocks.{numbers_of, numbers_in}
use Rattle.bit_sets.proofs.Members.{numbers_more}
use Rattle.bit_sets.proofs.Rising.{block_at, numbers_rise}
use Rattle.bit_sets.proofs.words.all_numbers.Goals as goal

pub loop-block-init : goal.loop-block-init
unfolding numbers_in
loop-block-init c = c.new-numbers.ensures.items

pub push_numbers-requires : goal.push_numbers-requires
push_numbers-requires c = block_at c.args.words.now c.loop-block.block-index (0, 0) c.requires.blocks c.loop-block-test.true

pub loop-block-preserved : goal.loop-block-preserved
loop-block-preserved c =
    let i = c.loop-block.block-index in
    rw add-one (c.in_ok-push_numbers.ensures ∙ ap (λ (ns : List ℕ). ns ++ numbers_of (get_or c.args.words.now i (0, 0))) c.loop-block.invariant ∙ sym (numbers_more c.args.words.now i (0, 0) c.loop-block-test.true))

pub returns-clause-value : goal.returns-clause-value
returns-clause-value c = c.loop-block.invariant ∙ ap numbers_in (take_all _ _ (omega arith))

pub returns-clause-rising : goal.returns-clause-rising
returns-clause-rising c = numbers_rise c.args.words.now c.requires.rising

pub returns-in_err-push_numbers-clause-rising : goal.returns-in_err-push_numbers-clause-rising
returns-in_err-push_numbers-clause-rising c = numbers_rise c.args.words.now c.requires.rising
