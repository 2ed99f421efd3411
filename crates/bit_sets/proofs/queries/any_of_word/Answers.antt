use Rattle.std.proofs.Common.{Bool, ℕ, nat_eq, sym}
use Rattle.std.specs.List.{list_any}
use Rattle.bit_sets.specs.Blocks.{numbers_in}
use Rattle.bit_sets.proofs.Shared.{met}
use Rattle.bit_sets.proofs.queries.any_of_word.Goals as goal

pub returns : goal.returns
returns c =
    let p : ℕ → Bool = λ n. list_any (nat_eq n) (numbers_in c.args.words.now) in
    sym (met p c.args.block c.word_of-there.result.0 c.word_of-there.ensures c.args.word c.ranges.word.fits)
