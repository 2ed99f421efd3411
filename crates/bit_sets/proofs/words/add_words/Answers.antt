use Rattle.std.proofs.Common.{◌≡◌, ◌||◌, ℕ, Bool, List, nat_eq, get_or, take, add-one, ap, ◌∙◌, subst, sym}
use Rattle.std.specs.List.{list_any}
use Rattle.std.proofs.lemmas.Result.{on_ok_weaker}
use Rattle.bit_sets.specs.Blocks.{numbers_of, numbers_in}
use Rattle.bit_sets.specs.Places.{IsAt, IsGap}
use Rattle.bit_sets.proofs.Members.{has_more, has_set, or_assoc, or_nothing}
use Rattle.bit_sets.proofs.Merged.{has_rest, words_before}
use Rattle.bit_sets.proofs.Rising.{words_set}
use Rattle.bit_sets.proofs.words.add_words.Goals as goal

pub loop-i-init : goal.loop-i-init
unfolding numbers_in
loop-i-init c = record { words = c.requires.words; added = λ n. sym (or_nothing (list_any (nat_eq n) (numbers_in c.args.words.now.items))) }

pub merge_words-requires-clause-others : goal.merge_words-requires-clause-others
merge_words-requires-clause-others c =
    let others = c.args.others.now in
    let i = c.loop-i.i in
    let gap = subst (λ (es : List (ℕ × ℕ)). IsGap (get_or others i (0, 0)).0 es c.in-Err.place) c.as_slice.ensures.value c.in-Err.ensures in
    words_before c.loop-i.words.items others c.in-Err.place i c.loop-i.invariant.words c.requires.others c.loop-i-test.true gap

pub returns-in-Err-clause-added : goal.returns-in-Err-clause-added
returns-in-Err-clause-added c =
    let words = c.loop-i.words.items in
    on_ok_weaker c.merge_words.result
    (λ added n. added n ∙ has_rest n c.args.others.now c.loop-i.i (list_any (nat_eq n) (numbers_in c.args.words.now.items)) (list_any (nat_eq n) (numbers_in words)) (c.loop-i.invariant.added n))
    c.merge_words.ensures.added

pub loop-i-preserved : goal.loop-i-preserved
loop-i-preserved c =
    let others = c.args.others.now in
    let i = c.loop-i.i in
    let items = c.loop-i.words.items in
    let there = c.index_mut.result.now in
    let other = get_or others i (0, 0) in
    record {
      words = words_set items c.in-Ok.place there _ c.index_mut.ensures.value c.loop-i.invariant.words;
      added = λ n.
          let old = list_any (nat_eq n) (numbers_in c.args.words.now.items) in
          let here = list_any (nat_eq n) (numbers_of other) in
          let at = subst (λ (es : List (ℕ × ℕ)). IsAt other.0 es c.in-Ok.place) c.as_slice.ensures.value c.in-Ok.ensures in
          let block : there.0 ≡ other.0 = ap (λ (e : ℕ × ℕ). e.0) c.index_mut.ensures.value ∙ at.here there in
          rw add-one (has_set n items c.in-Ok.place there other.1 at.within c.index_mut.ensures.value
          ∙ ap (λ (b : ℕ). list_any (nat_eq n) (numbers_in items) || list_any (nat_eq n) (numbers_of (b, other.1))) block
          ∙ ap (λ (b : Bool). b || here) (c.loop-i.invariant.added n)
          ∙ sym (or_assoc old (list_any (nat_eq n) (numbers_in (take i others))) here)
          ∙ ap (λ (b : Bool). old || b) (sym (has_more n others i (0, 0) c.loop-i-test.true)));
    }
