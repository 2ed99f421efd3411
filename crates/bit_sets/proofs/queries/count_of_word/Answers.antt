use Rattle.std.proofs.Common.{sym}
use Rattle.bit_sets.proofs.Counted.{length_of}
use Rattle.bit_sets.proofs.queries.count_of_word.Goals as goal

pub returns : goal.returns
returns c = λ block. sym (length_of block c.args.word c.ranges.word.fits)
