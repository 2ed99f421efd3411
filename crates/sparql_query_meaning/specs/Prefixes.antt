-- Declarations of prefixes (SPARQL 1.1 Query, section 4.1.1): PREFIX, a name without a local part, and an IRI.
use Rattle.std.specs.Prelude.{ℕ, Bool, if◌then◌else◌, List, [], ◌∷◌, Option, Some, None, is_some}
use Rattle.std.specs.Str.{bytes_eq}
use Rattle.sparql_meaning.specs.declared.token.TokenKind.{TokenKind}
use Rattle.sparql_meaning.specs.declared.token.TokenKind.TheVariants as k
use Rattle.sparql_meaning.specs.declared.word.Word.TheVariants as w

-- a prefix and the IRI that it stands for
pub record Declared : Type 0 where
  pub prefix : List ℕ
  pub iri : List ℕ

-- the latest declaration is the first
abbrev pub iri_of : List Declared → List ℕ → Option (List ℕ)
iri_of [] p = None
iri_of (d ∷ ds) p = if bytes_eq d.prefix p then Some d.iri else iri_of ds p

abbrev pub is_declared : List Declared → List ℕ → Bool
is_declared ds p = is_some (iri_of ds p)

-- what of a declaration was read
pub data Declaring : Type 0 where
  nothing : Declaring
  begun : Declaring
  named : List ℕ → Declaring

-- behind this token
abbrev pub declaring : Declaring → TokenKind → Declaring
declaring nothing (k.Word w.Prefix) = begun
declaring nothing t = nothing
declaring begun (k.Named p []) = named p
declaring begun t = nothing
declaring (named p) t = nothing

-- a declaration counts from its IRI on
abbrev pub declared : Declaring → TokenKind → List Declared → List Declared
declared (named p) (k.Iri i) ds = record { prefix = p; iri = i } ∷ ds
declared d t ds = ds
