use Rattle.std.proofs.Common.{◌≡◌, ◌∙◌, ◌<◌, sym, ap, subst, List, ℕ, Option, All, nat_eq}
use Rattle.std.specs.List.{IsDistinct}
use Rattle.layout_meaning.specs.Columns.{ColumnsOf, candidates_of, chosen, hash_columns}
use Rattle.layout_meaning.proofs.Candidates.{candidates}
use Rattle.pred_columns.proofs.columns.Columns.candidates.Goals as goal

pub returns-in-Some-clause-distinct : goal.returns-in-Some-clause-distinct
returns-in-Some-clause-distinct c =
    let k : ColumnsOf = record { count = c.self.inside.count; hashes = c.self.inside.hashes; known = c.self.inside.known.entries } in
    let e : candidates_of k c.args.iri.now ≡ c.one.result.items = ap (λ (o : Option ℕ). chosen o (hash_columns k.count c.args.iri.now k.hashes)) (sym c.in-Some.ensures.value) ∙ sym c.one.ensures in
    subst (λ (xs : List ℕ). IsDistinct nat_eq xs) e (candidates k c.args.iri.now c.self.invariant.low c.self.invariant.some_hash c.self.invariant.below).distinct

pub returns-in-Some-clause-below : goal.returns-in-Some-clause-below
returns-in-Some-clause-below c =
    let k : ColumnsOf = record { count = c.self.inside.count; hashes = c.self.inside.hashes; known = c.self.inside.known.entries } in
    let e : candidates_of k c.args.iri.now ≡ c.one.result.items = ap (λ (o : Option ℕ). chosen o (hash_columns k.count c.args.iri.now k.hashes)) (sym c.in-Some.ensures.value) ∙ sym c.one.ensures in
    subst (λ (n : ColumnsOf). All (λ c. c < n.count) c.one.result.items) c.self.view_is (subst (λ (xs : List ℕ). All (λ c. c < k.count) xs) e (candidates k c.args.iri.now c.self.invariant.low c.self.invariant.some_hash c.self.invariant.below).below)

pub returns-in-None-clause-distinct : goal.returns-in-None-clause-distinct
returns-in-None-clause-distinct c =
    let k : ColumnsOf = record { count = c.self.inside.count; hashes = c.self.inside.hashes; known = c.self.inside.known.entries } in
    let e : candidates_of k c.args.iri.now ≡ c.hashed.result.items =
    ap (λ (o : Option ℕ). chosen o (hash_columns k.count c.args.iri.now k.hashes)) (sym c.in-None.ensures.value) ∙ ap (λ (bs : List ℕ). hash_columns k.count bs k.hashes) (sym c.bytes.ensures.value) ∙ sym c.hashed.ensures in
    subst (λ (xs : List ℕ). IsDistinct nat_eq xs) e (candidates k c.args.iri.now c.self.invariant.low c.self.invariant.some_hash c.self.invariant.below).distinct

pub returns-in-None-clause-below : goal.returns-in-None-clause-below
returns-in-None-clause-below c =
    let k : ColumnsOf = record { count = c.self.inside.count; hashes = c.self.inside.hashes; known = c.self.inside.known.entries } in
    let e : candidates_of k c.args.iri.now ≡ c.hashed.result.items =
    ap (λ (o : Option ℕ). chosen o (hash_columns k.count c.args.iri.now k.hashes)) (sym c.in-None.ensures.value) ∙ ap (λ (bs : List ℕ). hash_columns k.count bs k.hashes) (sym c.bytes.ensures.value) ∙ sym c.hashed.ensures in
    subst (λ (n : ColumnsOf). All (λ c. c < n.count) c.hashed.result.items) c.self.view_is (subst (λ (xs : List ℕ). All (λ c. c < k.count) xs) e (candidates k c.args.iri.now c.self.invariant.low c.self.invariant.some_hash c.self.invariant.below).below)
