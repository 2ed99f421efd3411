use Rattle.std.proofs.Common.{◌≡◌, ℕ, true, List}
use Rattle.layout_standing_meaning.specs.Dictionary.{Entry, AreEntries, is_id}
use Rattle.layout_facts_laws.proofs.Ids.{zero-none}
use Rattle.layout_table_laws.proofs.Found.{found}
use Rattle.layout_table_laws.proofs.ids_are_terms.Goals as goal

pub returns-clause-terms : goal.returns-clause-terms
returns-clause-terms c = λ (es : List Entry) (h : AreEntries es) (n : ℕ) (there : is_id es n ≡ true). found es n h.own_term there

pub returns-clause-zero : goal.returns-clause-zero
returns-clause-zero c = λ (es : List Entry) (h : AreEntries es). zero-none es h.least
