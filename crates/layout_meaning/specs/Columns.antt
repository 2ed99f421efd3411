-- The candidate columns of a predicate: this project's own.
use Rattle.std.specs.Prelude.{ℕ, zero, suc, ◌*◌, ◌%◌, ◌^◌, bit_xor, List, [], ◌∷◌, ◌++◌, fold, Option, Some, None, nat_eq, if◌then◌else◌}
use Rattle.std.specs.List.{list_any}
use Rattle.std.specs.Cmp.Lexicographic.{pointwise}
use Rattle.std.specs.Map.{lookup}

-- a count of columns, a count of hashes, and the columns that are known of some IRIs
pub record ColumnsOf : Type 0 where
  pub count : ℕ
  pub hashes : ℕ
  pub known : List (List ℕ × ℕ)

-- one step of FNV-1a of 64 bits: the byte goes in, then the state is multiplied
abbrev pub fnv_step : ℕ → ℕ → ℕ
fnv_step state byte = (bit_xor state byte * 0x00000100000001b3) % 2 ^ 64

-- FNV-1a of 64 bits
abbrev pub fnv : List ℕ → ℕ
fnv bytes = fold fnv_step 0xcbf29ce484222325 bytes

-- the column of the hash with this number, out of k: the number goes in as a byte before those of the IRI
abbrev pub hash_column : ℕ → List ℕ → ℕ → ℕ
hash_column k iri j = fnv (j ∷ iri) % k

-- the list with x last, unless it is there
abbrev pub with_new : List ℕ → ℕ → List ℕ
with_new xs x = if list_any (nat_eq x) xs then xs else xs ++ x ∷ []

-- the columns of the first hashes, repeats dropped
abbrev pub hash_columns : ℕ → List ℕ → ℕ → List ℕ
hash_columns k iri zero = []
hash_columns k iri (suc j) = with_new (hash_columns k iri j) (hash_column k iri j)

-- the column that is known of an IRI
abbrev pub known_column : List (List ℕ × ℕ) → List ℕ → Option ℕ
known_column known iri = lookup (pointwise nat_eq iri) known

-- a known column alone, or else the others
abbrev pub chosen : Option ℕ → List ℕ → List ℕ
chosen None others = others
chosen (Some c) others = c ∷ []

-- the columns in which a predicate with this IRI may stand, the first choice first
abbrev pub candidates_of : ColumnsOf → List ℕ → List ℕ
candidates_of c iri = chosen (known_column c.known iri) (hash_columns c.count iri c.hashes)
