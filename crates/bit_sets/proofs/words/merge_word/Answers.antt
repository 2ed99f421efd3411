use Rattle.bit_sets.proofs.Merged.{front_words, merged_both, merged_new, words_back, words_front}
use Rattle.bit_sets.proofs.words.merge_word.Goals as goal
use Rattle.std.proofs.Common.{◌∙◌}

pub place_of-requires : goal.place_of-requires
place_of-requires c = words_back c.args.words.now.items c.args.rest.now c.requires.words

pub returns-in_err-extend_from_slice-in-Ok-clause-words : goal.returns-in_err-extend_from_slice-in-Ok-clause-words
returns-in_err-extend_from_slice-in-Ok-clause-words c = rw c.in_err-extend_from_slice-in-Ok.ensures.items (words_front c.args.words.now.items c.args.rest.now c.requires.words)

pub returns-in_err-extend_from_slice-in-Err-clause-words : goal.returns-in_err-extend_from_slice-in-Err-clause-words
returns-in_err-extend_from_slice-in-Err-clause-words c = rw c.in_err-extend_from_slice-in-Err.ensures.items (words_front c.args.words.now.items c.args.rest.now c.requires.words)

pub returns-in_err-push-in-Ok-clause-words : goal.returns-in_err-push-in-Ok-clause-words
returns-in_err-push-in-Ok-clause-words c = rw (c.in_err-push-in-Ok.ensures.items ∙ c.in_ok-extend_from_slice-in-Ok.ensures.items) (front_words c.args.words.now.items c.args.rest.now c.in-Ok.place c.requires.words)

pub returns-in_err-push-in-Err-clause-words : goal.returns-in_err-push-in-Err-clause-words
returns-in_err-push-in-Err-clause-words c = rw (c.in_err-push-in-Err.ensures.items ∙ c.in_ok-extend_from_slice-in-Err.ensures.items) (front_words c.args.words.now.items c.args.rest.now c.in-Err.place c.requires.words)

pub returns-in_ok-push-in-Ok-clause-merged : goal.returns-in_ok-push-in-Ok-clause-merged
returns-in_ok-push-in-Ok-clause-merged c =
    merged_both c.args.words.now.items c.args.rest.now c.extend_from_slice.new.self.items c.push.new.self.items c.in-Ok.place c.args.block c.args.word
    c.requires.words c.in-Ok.ensures c.in_ok-extend_from_slice-in-Ok.ensures.items c.in_ok-push-in-Ok.ensures.items

pub returns-in_ok-push-in-Ok-clause-words : goal.returns-in_ok-push-in-Ok-clause-words
returns-in_ok-push-in-Ok-clause-words c =
    let merged = merged_both c.args.words.now.items c.args.rest.now c.extend_from_slice.new.self.items c.push.new.self.items c.in-Ok.place c.args.block c.args.word
    c.requires.words c.in-Ok.ensures c.in_ok-extend_from_slice-in-Ok.ensures.items c.in_ok-push-in-Ok.ensures.items in
    words_front _ _ merged.rising

pub returns-in_ok-push-in-Err-clause-merged : goal.returns-in_ok-push-in-Err-clause-merged
returns-in_ok-push-in-Err-clause-merged c =
    merged_new c.args.words.now.items c.args.rest.now c.extend_from_slice-in-Err.new.self.items c.push-in-Err.new.self.items c.in-Err.place c.args.block c.args.word
    c.requires.words c.requires.below c.requires.block c.in-Err.ensures c.in_ok-extend_from_slice-in-Err.ensures.items c.in_ok-push-in-Err.ensures.items

pub returns-in_ok-push-in-Err-clause-words : goal.returns-in_ok-push-in-Err-clause-words
returns-in_ok-push-in-Err-clause-words c =
    let merged = merged_new c.args.words.now.items c.args.rest.now c.extend_from_slice-in-Err.new.self.items c.push-in-Err.new.self.items c.in-Err.place c.args.block c.args.word
    c.requires.words c.requires.below c.requires.block c.in-Err.ensures c.in_ok-extend_from_slice-in-Err.ensures.items c.in_ok-push-in-Err.ensures.items in
    words_front _ _ merged.rising
