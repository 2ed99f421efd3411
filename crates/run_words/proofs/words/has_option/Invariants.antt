use Rattle.std.proofs.Common.{◌≡◌, map, length, string_bytes}
use Rattle.std.specs.List.{list_any}
use Rattle.run_meaning.specs.Words.{is_option}
use Rattle.run_words.proofs.words.has_option.Given as goal

abbrev pub invariant-words : goal.invariant-words
invariant-words l = list_any is_option (map string_bytes l.rest) ≡ list_any is_option (map string_bytes l.words)

abbrev pub decreases-words : goal.decreases-words
decreases-words l = length l.rest
