use Rattle.std.proofs.Common.{map, string_bytes, rules}
use Rattle.run_meaning.specs.Words.{split_options, none_given}
use Rattle.run_words.proofs.Options.{next_option}
use Rattle.run_words.proofs.words.split_options.Goals as goal

pub options-preserved : goal.options-preserved
options-preserved c =
    next_option string_bytes c.options.rest.now c.in-Some.behind.now c.in-Some-split_first.others.now c.in-Some.word.now c.in-Some-split_first.value.now c.options.given c.in-Some-2.more
    (split_options none_given (map string_bytes c.args.words.now)) c.in-Some.ensures.cases.0 c.in-Some-split_first.ensures.cases.0 (search rules) (search rules) c.options.invariant
