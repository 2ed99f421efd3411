-- The candidate columns of a predicate: there are some, they are distinct, and each is a column.
use Rattle.std.proofs.Common.{◌≡◌, ℕ, zero, suc, ◌<◌, Bool, true, false, List, [], ◌∷◌, ◌++◌, Option, None, Some, All, length, if◌then◌else◌, nat_eq, refl, subst, arith}
use Rattle.std.specs.Option.{IfSome}
use Rattle.std.specs.Map.{lookup}
use Rattle.std.specs.List.{list_any, IsDistinct}
use Rattle.std.specs.Cmp.{nat_eq_equiv}
use Rattle.std.specs.Cmp.Lexicographic.{pointwise}
use Rattle.std.proofs.lemmas.Map.Entries.{All-lookup}
use Rattle.std.proofs.lemmas.Map.Keys.{IsDistinct-push}
use Rattle.std.proofs.lemmas.List.Elements.{All-push}
use Rattle.std.proofs.lemmas.List.{length_push}
use Rattle.layout_meaning.specs.Side.{first_of}
use Rattle.layout_meaning.specs.Columns.{ColumnsOf, hash_columns, hash_column, with_new, known_column, chosen, candidates_of}

distinct-with_new : (xs : List ℕ) (x : ℕ) → IsDistinct nat_eq xs → IsDistinct nat_eq (with_new xs x)
distinct-with_new xs x h = by (list_any (nat_eq x) xs) refl
  where
    by : (b : Bool) → list_any (nat_eq x) xs ≡ b → IsDistinct nat_eq (if b then xs else xs ++ x ∷ [])
    by true t = h
    by false t = IsDistinct-push nat_eq_equiv xs x h t

nothing_distinct : IsDistinct nat_eq []
unfolding IsDistinct
nothing_distinct = tt

one_distinct : (x : ℕ) → IsDistinct nat_eq (x ∷ [])
unfolding IsDistinct
one_distinct x = (tt, tt)

pub distinct-hash_columns : (k : ℕ) (iri : List ℕ) (j : ℕ) → IsDistinct nat_eq (hash_columns k iri j)
distinct-hash_columns k iri zero = nothing_distinct
distinct-hash_columns k iri (suc j) = distinct-with_new (hash_columns k iri j) (hash_column k iri j) (distinct-hash_columns k iri j)

below-with_new : (k : ℕ) (xs : List ℕ) (x : ℕ) → x < k → All (λ c. c < k) xs → All (λ c. c < k) (with_new xs x)
below-with_new k xs x l h = by (list_any (nat_eq x) xs)
  where
    by : (b : Bool) → All (λ c. c < k) (if b then xs else xs ++ x ∷ [])
    by true = h
    by false = All-push (λ c. c < k) xs x h l

pub below-hash_columns : (k : ℕ) (iri : List ℕ) (j : ℕ) → 0 < k → All (λ c. c < k) (hash_columns k iri j)
below-hash_columns k iri zero l = λ (i : ℕ) (d : ℕ) (h : i < 0). absurd (omega arith)
below-hash_columns k iri (suc j) l = below-with_new k (hash_columns k iri j) (hash_column k iri j) (omega arith) (below-hash_columns k iri j l)

some-with_new : (xs : List ℕ) (x : ℕ) → 0 < length (with_new xs x)
some-with_new [] x = omega arith
some-with_new (y ∷ ys) x = by (list_any (nat_eq x) (y ∷ ys))
  where
    by : (b : Bool) → 0 < length (if b then y ∷ ys else (y ∷ ys) ++ x ∷ [])
    by true = omega arith
    by false = omega (arith, length_push (y ∷ ys) x)

pub some-hash_columns : (k : ℕ) (iri : List ℕ) (j : ℕ) → 0 < j → 0 < length (hash_columns k iri j)
some-hash_columns k iri zero l = absurd (omega arith)
some-hash_columns k iri (suc j) l = some-with_new (hash_columns k iri j) (hash_column k iri j)

-- what holds of the candidates of an IRI
pub record AreCandidates (k : ℕ) (columns : List ℕ) : Type 0 where
  pub some : 0 < length columns
  pub distinct : IsDistinct nat_eq columns
  pub below : All (λ c. c < k) columns

-- the first of them is a column
pub first-below : (k : ℕ) (columns : List ℕ) → AreCandidates k columns → first_of columns < k
first-below k [] h = absurd (let a = h.some in omega arith)
first-below k (c ∷ columns) h = h.below 0 0 (omega arith)

known_below : (k : ℕ) (test : List ℕ → Bool) (es : List (List ℕ × ℕ)) (c : ℕ) → All (λ (p : List ℕ × ℕ). p.1 < k) es → lookup test es ≡ Some c → c < k
known_below k test es c all e = subst (λ (o : Option ℕ). IfSome o (λ c. c < k)) e (All-lookup (λ c. c < k) test es all)

pub candidates : (c : ColumnsOf) (iri : List ℕ) → 0 < c.count → 0 < c.hashes → All (λ (p : List ℕ × ℕ). p.1 < c.count) c.known → AreCandidates c.count (candidates_of c iri)
candidates c iri count hashes known = by (known_column c.known iri) refl
  where
    by : (o : Option ℕ) → known_column c.known iri ≡ o → AreCandidates c.count (chosen o (hash_columns c.count iri c.hashes))
    by None e = record { some = some-hash_columns c.count iri c.hashes hashes; distinct = distinct-hash_columns c.count iri c.hashes; below = below-hash_columns c.count iri c.hashes count }
    by (Some d) e = record { some = omega arith; distinct = one_distinct d; below = All-push (λ x. x < c.count) [] d (λ (i : ℕ) (z : ℕ) (h : i < 0). absurd (omega arith)) (known_below c.count (pointwise nat_eq iri) c.known d known e) }
