use Rattle.std.proofs.Common.{◌<◌, ℕ, List, All, length, subst}
use Rattle.layout_meaning.specs.Columns.{ColumnsOf, candidates_of}
use Rattle.layout_meaning.specs.Side.{first_of}
use Rattle.layout_meaning.proofs.Candidates.{candidates, first-below}
use Rattle.pred_columns.proofs.columns.Columns.count.Goals as goal

pub returns-clause-some : goal.returns-clause-some
returns-clause-some c = λ (iri : List ℕ).
    let k : ColumnsOf = record { count = c.self.inside.count; hashes = c.self.inside.hashes; known = c.self.inside.known.entries } in
    subst (λ (n : ColumnsOf). 0 < length (candidates_of n iri)) c.self.view_is (candidates k iri c.self.invariant.low c.self.invariant.some_hash c.self.invariant.below).some

pub returns-clause-first : goal.returns-clause-first
returns-clause-first c = λ (iri : List ℕ).
    let k : ColumnsOf = record { count = c.self.inside.count; hashes = c.self.inside.hashes; known = c.self.inside.known.entries } in
    subst (λ (n : ColumnsOf). first_of (candidates_of n iri) < n.count) c.self.view_is (first-below k.count (candidates_of k iri) (candidates k iri c.self.invariant.low c.self.invariant.some_hash c.self.invariant.below))

pub returns-clause-within : goal.returns-clause-within
returns-clause-within c = λ (iri : List ℕ).
    let k : ColumnsOf = record { count = c.self.inside.count; hashes = c.self.inside.hashes; known = c.self.inside.known.entries } in
    subst (λ (n : ColumnsOf). All (λ c. c < n.count) (candidates_of n iri)) c.self.view_is (candidates k iri c.self.invariant.low c.self.invariant.some_hash c.self.invariant.below).below
