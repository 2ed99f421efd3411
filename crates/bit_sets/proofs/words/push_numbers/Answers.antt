use Rattle.std.proofs.Common.{◌≡◌, ◌++◌, [], ℕ, List, append_assoc, append-nil, ap, ◌∙◌, sym, arith}
use Rattle.std.proofs.Math.Facts.{Fits-lt-pow}
use Rattle.bit_sets.specs.Blocks.{numbers_of}
use Rattle.bit_sets.proofs.Lowest.{numbers_lowest, numbers_none, lowest_smaller, without_lowest}
use Rattle.bit_sets.proofs.words.push_numbers.Goals as goal

pub loop-left-smaller : goal.loop-left-smaller
loop-left-smaller c = lowest_smaller c.loop-left.left (omega arith) (Fits-lt-pow c.loop-left.auto.left-fits)

pub loop-left-preserved : goal.loop-left-preserved
loop-left-preserved c =
    let before = c.loop-left.numbers.items in
    let left = c.loop-left.left in
    let rest = numbers_of (c.args.block, without_lowest left) in
    ap (λ (xs : List ℕ). xs ++ rest) c.in_ok-push.ensures.items
    ∙ append_assoc before _ rest
    ∙ ap (λ (xs : List ℕ). before ++ xs) (sym (numbers_lowest c.args.block left (omega arith) (Fits-lt-pow c.loop-left.auto.left-fits)))
    ∙ c.loop-left.invariant

pub returns : goal.returns
returns c =
    let before = c.loop-left.numbers.items in
    let none : numbers_of (c.args.block, c.loop-left.left) ≡ [] = ap (λ (w : ℕ). numbers_of (c.args.block, w)) c.loop-left-test.false ∙ numbers_none c.args.block in
    sym (append-nil before) ∙ ap (λ (xs : List ℕ). before ++ xs) (sym none) ∙ c.loop-left.invariant
