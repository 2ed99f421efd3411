use Rattle.std.proofs.Common.{◌≡◌, map, length, string_bytes}
use Rattle.run_meaning.specs.Words.{split_options, none_given}
use Rattle.run_words.proofs.words.split_options.Given as goal

abbrev pub invariant-options : goal.invariant-options
invariant-options l = split_options l.given (map string_bytes l.rest) ≡ split_options none_given (map string_bytes l.words)

abbrev pub decreases-options : goal.decreases-options
decreases-options l = length l.rest
