use Rattle.std.proofs.Common.{◌≡◌, ◌∷◌, ◌++◌, ◌+◌, ◌||◌, ℕ, Bool, List, nat_eq, get_or, take, drop, add-one, ap, ◌∙◌, subst, sym}
use Rattle.std.specs.List.{list_any}
use Rattle.std.proofs.lemmas.List.{drop_more}
use Rattle.bit_sets.specs.Blocks.{numbers_of, numbers_in, AreWords}
use Rattle.bit_sets.proofs.Members.{has_more, or_assoc, or_nothing}
use Rattle.bit_sets.proofs.Merged.{below_next, block_next, rejoined, words_after, words_back}
use Rattle.bit_sets.proofs.words.merge_words.Goals as goal

pub loop-block-init : goal.loop-block-init
unfolding numbers_in
loop-block-init c =
    let old = c.args.words.now.items in
    let parted : c.split_off.new.self.items ++ c.as_slice-rest.result.now ≡ old = rejoined old c.split_off.new.self.items c.as_slice-rest.result.now c.args.place c.in_ok-tail.ensures.items (c.as_slice-rest.ensures.value ∙ c.in_ok-tail.ensures.tail) in
    record {
      rest = subst AreWords (sym parted) c.requires.words;
      others = subst (λ (es : List (ℕ × ℕ)). AreWords (es ++ c.args.others.now)) (sym c.in_ok-tail.ensures.items) c.requires.others;
      added = λ n. ap (λ (es : List (ℕ × ℕ)). list_any (nat_eq n) (numbers_in es)) parted ∙ sym (or_nothing (list_any (nat_eq n) (numbers_in old)));
    }

pub merge_word-requires-clause-block : goal.merge_word-requires-clause-block
merge_word-requires-clause-block c =
    let others = c.args.others.now in
    let i = c.loop-block.block-index in
    let words = c.loop-block.words.items in
    block_next words (drop (i + 1) others) (get_or others i (0, 0)) (subst (λ (es : List (ℕ × ℕ)). AreWords (words ++ es)) (drop_more others i (0, 0) c.loop-block-test.true) c.loop-block.invariant.others)

pub merge_word-requires-clause-below : goal.merge_word-requires-clause-below
merge_word-requires-clause-below c =
    let others = c.args.others.now in
    let i = c.loop-block.block-index in
    let words = c.loop-block.words.items in
    below_next words (drop (i + 1) others) (get_or others i (0, 0)) (subst (λ (es : List (ℕ × ℕ)). AreWords (words ++ es)) (drop_more others i (0, 0) c.loop-block-test.true) c.loop-block.invariant.others)

pub loop-block-preserved : goal.loop-block-preserved
loop-block-preserved c =
    let others = c.args.others.now in
    let i = c.loop-block.block-index in
    let words = c.loop-block.words.items in
    let first = get_or others i (0, 0) in
    let left = drop (i + 1) others in
    let next : AreWords (words ++ first ∷ left) = subst (λ (es : List (ℕ × ℕ)). AreWords (words ++ es)) (drop_more others i (0, 0) c.loop-block-test.true) c.loop-block.invariant.others in
    let merged = c.in_ok-rest.ensures.merged in
    record {
      rest = merged.rising;
      others = words_after c.merge_word.new.words.items left first c.merge_word.ensures.words merged.below (words_back words (first ∷ left) next);
      added = λ n.
          let old = list_any (nat_eq n) (numbers_in c.args.words.now.items) in
          let here = list_any (nat_eq n) (numbers_of first) in
          rw add-one (merged.added n
          ∙ ap (λ (b : Bool). b || here) (c.loop-block.invariant.added n)
          ∙ sym (or_assoc old (list_any (nat_eq n) (numbers_in (take i others))) here)
          ∙ ap (λ (b : Bool). old || b) (sym (has_more n others i (0, 0) c.loop-block-test.true)));
    }
