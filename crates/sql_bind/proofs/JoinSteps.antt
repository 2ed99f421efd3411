-- The joins of a SELECT, one by one.
use Rattle.std.proofs.Common.{◌≡◌, ℕ, ◌+◌, ◌<◌, List, [], ◌∷◌, ◌++◌, length, drop, get_or, Ok, Err, sym, ap, ◌∙◌}
use Rattle.table_meaning.specs.declared.kind.Kind.{Kind}
use Rattle.sql_meaning.specs.declared.script.JoinTo.{JoinTo}
use Rattle.sql_rows_meaning.specs.declared.fault.FaultKind.{FaultKind}
use Rattle.sql_rows_meaning.specs.declared.schema.NamedSchema.{NamedSchema}
use Rattle.sql_rows_meaning.specs.Faults.{Checked, and_then}
use Rattle.sql_rows_meaning.specs.Scopes.{Schemas, Seen, schemas_of}
use Rattle.sql_rows_meaning.specs.Checks.{KindChecked, check_truth}
use Rattle.sql_rows_meaning.specs.Binding.{check_source, check_join, check_joins}
use Rattle.sql_bind_meaning.specs.declared.script.BoundJoin.{BoundJoin}
use Rattle.sql_bind_laws.specs.Places.{place, places_of, seen_of, number_of, source_in, all_sources, place_joins}
use Rattle.sql_bind_names.specs.Newest.{scope_in}
use Rattle.sql_bind.specs.Parts.{IsAdded}
use Rattle.sql_bind.proofs.Fronts.{at-front, append-one}

abbrev with_seen : Seen → KindChecked → Checked FaultKind Seen
with_seen seen c = and_then c (λ k. Ok seen)

abbrev join_over : List NamedSchema → JoinTo → List NamedSchema → BoundJoin
join_over known j sources = record { left = j.left; relation = number_of known j.source.table; on = place j.on (places_of sources) }

joined : (schemas : Schemas) (j : JoinTo) (seen more : Seen) → check_source schemas j.source seen ≡ Ok more → check_join schemas j seen ≡ and_then (check_truth j.on more.scope) (λ k. Ok more)
joined schemas j seen more h = ap (λ (c : Checked FaultKind Seen). and_then c (λ more. and_then (check_truth j.on more.scope) (λ k. Ok more))) h

-- what the check of a join gives, where its source is added
truth-after : (known : List NamedSchema) (j : JoinTo) (sources more : List NamedSchema) (c : KindChecked) → IsAdded known j.source sources more → check_truth j.on (scope_in more) ≡ c →
    check_join (schemas_of known) j (seen_of sources) ≡ and_then c (λ k. Ok (seen_of more))
truth-after known j sources more c is truth = joined (schemas_of known) j (seen_of sources) (seen_of more) is.checked ∙ ap (with_seen (seen_of more)) truth

pub joins_next : (known : List NamedSchema) (all : List JoinTo) (i : ℕ) (j : JoinTo) (sources more : List NamedSchema) (x : Checked FaultKind Seen) (k : Kind) → i < length all → j ≡ get_or all i j →
    x ≡ check_joins (schemas_of known) (drop i all) (seen_of sources) → IsAdded known j.source sources more → check_truth j.on (scope_in more) ≡ Ok k → x ≡ check_joins (schemas_of known) (drop (i + 1) all) (seen_of more)
joins_next known all i j sources more x k within is was source on =
    was ∙ ap (λ (l : List JoinTo). check_joins (schemas_of known) l (seen_of sources)) (at-front all i j within is)
    ∙ ap (λ (c : Checked FaultKind Seen). and_then c (check_joins (schemas_of known) (drop (i + 1) all))) (truth-after known j sources more (Ok k) source on)

pub joins_no_source : (schemas : Schemas) (all : List JoinTo) (i : ℕ) (j : JoinTo) (seen : Seen) (x : Checked FaultKind Seen) (e : FaultKind) → i < length all → j ≡ get_or all i j →
    x ≡ check_joins schemas (drop i all) seen → check_source schemas j.source seen ≡ Err e → x ≡ Err e
joins_no_source schemas all i j seen x e within is was missing =
    was ∙ ap (λ (l : List JoinTo). check_joins schemas l seen) (at-front all i j within is)
    ∙ ap (λ (c : Checked FaultKind Seen). and_then (and_then c (λ more. and_then (check_truth j.on more.scope) (λ k. Ok more))) (check_joins schemas (drop (i + 1) all))) missing

pub joins_no_truth : (known : List NamedSchema) (all : List JoinTo) (i : ℕ) (j : JoinTo) (sources more : List NamedSchema) (x : Checked FaultKind Seen) (e : FaultKind) → i < length all → j ≡ get_or all i j →
    x ≡ check_joins (schemas_of known) (drop i all) (seen_of sources) → IsAdded known j.source sources more → check_truth j.on (scope_in more) ≡ Err e → x ≡ Err e
joins_no_truth known all i j sources more x e within is was source on =
    was ∙ ap (λ (l : List JoinTo). check_joins (schemas_of known) l (seen_of sources)) (at-front all i j within is)
    ∙ ap (λ (c : Checked FaultKind Seen). and_then c (check_joins (schemas_of known) (drop (i + 1) all))) (truth-after known j sources more (Err e) source on)

pub sources_next : (known : List NamedSchema) (all : List JoinTo) (i : ℕ) (j : JoinTo) (sources more x : List NamedSchema) → i < length all → j ≡ get_or all i j →
    x ≡ all_sources known sources (drop i all) → IsAdded known j.source sources more → x ≡ all_sources known more (drop (i + 1) all)
sources_next known all i j sources more x within is was source =
    was ∙ ap (all_sources known sources) (at-front all i j within is) ∙ ap (λ (l : List NamedSchema). all_sources known l (drop (i + 1) all)) (sym source.source)

pub placed_next : (known : List NamedSchema) (all : List JoinTo) (i : ℕ) (j : JoinTo) (sources more : List NamedSchema) (x bound : List BoundJoin) (b : BoundJoin) → i < length all → j ≡ get_or all i j →
    x ≡ bound ++ place_joins known sources (drop i all) → IsAdded known j.source sources more →
    b ≡ record { left = j.left; relation = number_of known j.source.table; on = place j.on (places_of more) } → x ≡ (bound ++ b ∷ []) ++ place_joins known more (drop (i + 1) all)
placed_next known all i j sources more x bound b within is was source made =
    let first : join_over known j (source_in known j.source ∷ sources) ≡ b = ap (join_over known j) (sym source.source) ∙ sym made in
    was ∙ ap (λ (l : List JoinTo). bound ++ place_joins known sources l) (at-front all i j within is)
    ∙ ap (λ (c : BoundJoin). bound ++ c ∷ place_joins known (source_in known j.source ∷ sources) (drop (i + 1) all)) first
    ∙ ap (λ (l : List NamedSchema). bound ++ b ∷ place_joins known l (drop (i + 1) all)) (sym source.source)
    ∙ append-one bound b (place_joins known more (drop (i + 1) all))

pub ruleset join_rules = (joins_next, joins_no_source, joins_no_truth, sources_next, placed_next)
