-- The answer over a store's triples is the one over what is present.
use Rattle.std.proofs.Common.{◌≡◌, ℕ, List, ap, ◌∙◌}
use Rattle.bags.specs.Bag.{SameBag}
use Rattle.bags.specs.BagLaws.{same-any}
use Rattle.line_change_meaning.specs.declared.change.Change.{Change}
use Rattle.line_change_meaning.specs.Present.{present}
use Rattle.rdf_meaning.specs.Terms.{RdfTriple, same_triple}
use Rattle.layout_standing_meaning.specs.Stored.{StoreOf, stored_triples}
use Rattle.query_meaning.specs.declared.query.Query.{Query}
use Rattle.query_eval_meaning.specs.Answer.{Row, ordered_answer}
use Rattle.query_eval_meaning.specs.AnswerText.{answer_text}
use Rattle.query_eval_meaning.specs.Eval.{answer_of}
use Rattle.query_data_laws.specs.SameTriples.{HasSameTriples}
use Rattle.query_data_laws.specs.Solutions.{same-answer}
use Rattle.run_query_meaning.specs.Answering.{query_text, shown_names}

pub present_text : (s : StoreOf) (changes : List Change) (q : Query) (text : List ℕ) → SameBag (stored_triples s) (present changes) → text ≡ query_text q (stored_triples s) → text ≡ query_text q (present changes)
present_text s changes q text same e = e ∙ ap (λ (rows : List Row). answer_text (shown_names q) rows) (same-answer q (stored_triples s) (present changes) (record { members = λ t. same-any (same_triple t) (stored_triples s) (present changes) same }))
