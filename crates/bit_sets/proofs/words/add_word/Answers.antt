use Rattle.std.proofs.Common.{◌≡◌, ◌||◌, ℕ, List, nat_eq, ap, ◌∙◌, subst}
use Rattle.std.specs.List.{list_any}
use Rattle.bit_sets.specs.Blocks.{numbers_of, numbers_in}
use Rattle.bit_sets.specs.Places.{IsAt, IsGap}
use Rattle.bit_sets.proofs.Members.{has_set, has_insert}
use Rattle.bit_sets.proofs.Rising.{words_set, words_insert}
use Rattle.bit_sets.proofs.words.add_word.Goals as goal

pub returns-in-Ok-clause-words : goal.returns-in-Ok-clause-words
returns-in-Ok-clause-words c = words_set c.args.words.now.items c.in-Ok.place c.index_mut.result.now _ c.index_mut.ensures.value c.requires.words

pub returns-in-Ok-clause-added : goal.returns-in-Ok-clause-added
returns-in-Ok-clause-added c = λ n.
    let items = c.args.words.now.items in
    let there = c.index_mut.result.now in
    let at = subst (λ (es : List (ℕ × ℕ)). IsAt c.args.block es c.in-Ok.place) c.as_slice.ensures.value c.in-Ok.ensures in
    let block : there.0 ≡ c.args.block = ap (λ (e : ℕ × ℕ). e.0) c.index_mut.ensures.value ∙ at.here there in
    has_set n items c.in-Ok.place there c.args.word at.within c.index_mut.ensures.value ∙ ap (λ (b : ℕ). list_any (nat_eq n) (numbers_in items) || list_any (nat_eq n) (numbers_of (b, c.args.word))) block

pub returns-in-Ok-insert-clause-words : goal.returns-in-Ok-insert-clause-words
returns-in-Ok-insert-clause-words c =
    let gap = subst (λ (es : List (ℕ × ℕ)). IsGap c.args.block es c.in-Err.place) c.as_slice.ensures.value c.in-Err.ensures in
    rw c.in-Ok-insert.ensures.items (words_insert c.args.words.now.items c.in-Err.place c.args.block c.args.word c.requires.words gap c.requires.block)

pub returns-in-Ok-insert-clause-added : goal.returns-in-Ok-insert-clause-added
returns-in-Ok-insert-clause-added c = λ n. rw c.in-Ok-insert.ensures.items (has_insert n c.args.words.now.items c.in-Err.place (c.args.block, c.args.word))
