-- The modifiers of a query of the fragment are short.
use Rattle.std.specs.Prelude.{◌≡◌, ◌≤◌, ◌<◌, ℕ, Bool, true, false, ◌||◌, ◌==◌, List, [], ◌∷◌, length, Option, Some, None, refl}
use Rattle.std.specs.List.{list_any, AllByRecursion}
use Rattle.std.proofs.Common.{arith}
use Rattle.std.proofs.lemmas.Bool.{false≢true, eqb-true}
use Rattle.std.proofs.lemmas.Map.Steps.{length-le_from_distinct_below}
use Rattle.bags.specs.BagLaws.{each-weaker}
use Rattle.query_meaning.specs.declared.modifiers.Key.{Key}
use Rattle.query_meaning.specs.declared.query.Query.{Query}
use Rattle.query_eval_meaning.specs.Mapping.{width}
use Rattle.sparql_query_laws.specs.Limits.{HasLimits}
use Rattle.sparql_query_laws.specs.Names.{HasNames}
use Rattle.sparql_query_laws.specs.Sound.{MostShort}
use Rattle.sql_gen_meaning.specs.Compilable.{IsShortBound, AreShort}

below-found : (n : ℕ) (vs : List ℕ) (v : ℕ) → AllByRecursion (λ w. w < n) vs → list_any (λ w. v == w) vs ≡ true → v < n
below-found n [] v h e = absurd (false≢true e)
below-found n (w ∷ vs) v h e = by (v == w) refl e (λ k. below-found n vs v h.1 k)
  where
    by : (b : Bool) → (v == w) ≡ b → (b || list_any (λ u. v == u) vs) ≡ true → (list_any (λ u. v == u) vs ≡ true → v < n) → v < n
    by true i k f = let same = eqb-true v w i in let less = h.0 in omega (arith, same, less)
    by false i k f = f k

short-bound : (most : Option ℕ) → MostShort most → IsShortBound most
short-bound None h = tt
short-bound (Some n) h = h

below-width : (n v : ℕ) → n ≤ 64 → v < n → v < width
unfolding width
below-width n v few less = omega (arith, few, less)

below-few : (n v : ℕ) → n ≤ 64 → v < n → v < 64
below-few n v few less = omega (arith, few, less)

pub modifiers-short : (q : Query) → HasLimits q → HasNames q → AreShort q.modifiers
modifiers-short q limits names =
    let n : ℕ = length q.names in
    record {
      few = length-le_from_distinct_below q.modifiers.shown 64 names.once (λ v h. below-few n v limits.names (below-found n q.modifiers.shown v names.shown h));
      distinct = names.once;
      in_width = each-weaker (λ v. v < n) (λ v. v < width) (λ v h. below-width n v limits.names h) q.modifiers.shown names.shown;
      keys_in_width = each-weaker (λ (k : Key). k.var < n) (λ (k : Key). k.var < width) (λ k h. below-width n k.var limits.names h) q.modifiers.keys names.keys;
      skip = limits.skip;
      most = short-bound q.modifiers.most limits.most;
    }
