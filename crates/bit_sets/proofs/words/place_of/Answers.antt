use Rattle.std.proofs.Common.{rules, ℕ}
use Rattle.std.proofs.lemmas.List.Sorted.{answers_always}
use Rattle.bit_sets.proofs.Searched.{searched}
use Rattle.bit_sets.proofs.words.place_of.Goals as goal

pub returns : goal.returns
returns c =
    let facts = c.binary_search_by_key.ensures in
    searched c.args.words.now c.requires.rising c.args.block c.binary_search_by_key.result facts.bound (facts.position (λ (e : ℕ × ℕ). e.0) (answers_always _ _ _ (λ f a r g called. search rules)))
