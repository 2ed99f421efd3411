-- The keys of a SELECT, one by one.
use Rattle.std.proofs.Common.{◌≡◌, ℕ, ◌+◌, ◌<◌, List, [], ◌∷◌, ◌++◌, length, take, drop, get_or, Ok, Err, refl, sym, ap, ◌∙◌}
use Rattle.std.proofs.lemmas.List.{take_more}
use Rattle.table_meaning.specs.declared.kind.Kind.{Kind}
use Rattle.sql_meaning.specs.declared.script.SqlKey.{SqlKey}
use Rattle.sql_rows_meaning.specs.declared.fault.FaultKind.{FaultKind}
use Rattle.sql_rows_meaning.specs.Faults.{and_then}
use Rattle.sql_rows_meaning.specs.Scopes.{Scope}
use Rattle.sql_rows_meaning.specs.Checks.{KindChecked, check}
use Rattle.sql_rows_meaning.specs.Binding.{check_keys}
use Rattle.sql_bind_meaning.specs.declared.script.BoundKey.{BoundKey}
use Rattle.sql_bind_laws.specs.Places.{Places, place, place_keys}
use Rattle.sql_bind.proofs.Fronts.{at-front}

pub keys_next : (scope : Scope) (all : List SqlKey) (i : ℕ) (x : SqlKey) (w : KindChecked) (k : Kind) → i < length all → x ≡ get_or all i x → w ≡ check_keys scope (drop i all) → check x.expr scope ≡ Ok k → w ≡ check_keys scope (drop (i + 1) all)
keys_next scope all i x w k within is was kind = was ∙ ap (check_keys scope) (at-front all i x within is) ∙ ap (λ (c : KindChecked). and_then c (λ _. check_keys scope (drop (i + 1) all))) kind

pub keys_fault : (scope : Scope) (all : List SqlKey) (i : ℕ) (x : SqlKey) (w : KindChecked) (e : FaultKind) → i < length all → x ≡ get_or all i x → w ≡ check_keys scope (drop i all) → check x.expr scope ≡ Err e → w ≡ Err e
keys_fault scope all i x w e within is was fault = was ∙ ap (check_keys scope) (at-front all i x within is) ∙ ap (λ (c : KindChecked). and_then c (λ _. check_keys scope (drop (i + 1) all))) fault

pub placed_more : (places : Places) (all : List SqlKey) (i : ℕ) (x : SqlKey) → i < length all → x ≡ get_or all i x →
    place_keys places (take (i + 1) all) ≡ place_keys places (take i all) ++ record { expr = place x.expr places; down = x.down } ∷ []
placed_more places all i x within is =
    let taken : take (i + 1) all ≡ take i all ++ x ∷ [] = take_more all i x within ∙ ap (λ (z : SqlKey). take i all ++ z ∷ []) (sym is) in
    ap (place_keys places) taken ∙ mapped (take i all)
  where
    mapped : (keys : List SqlKey) → place_keys places (keys ++ x ∷ []) ≡ place_keys places keys ++ record { expr = place x.expr places; down = x.down } ∷ []
    mapped [] = refl
    mapped (k ∷ keys) = ap (λ (l : List BoundKey). record { expr = place k.expr places; down = k.down } ∷ l) (mapped keys)

pub ruleset steps = (keys_next, keys_fault, placed_more)
