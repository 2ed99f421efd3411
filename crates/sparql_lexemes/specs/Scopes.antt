-- A map of prefixes stands for the declarations that were read.
use Rattle.std.proofs.Common.{ℕ, ◌≡◌, List, [], ◌∷◌, Option, Some, ap, ◌∙◌, cond, sym, subst}
use Rattle.std.specs.Str.{bytes_eq}
use Rattle.std.specs.Map.{lookup}
use Rattle.std.specs.Prelude.{Result, OnOk}
use Rattle.sparql_meaning.specs.declared.token.TokenKind.{TokenKind}
use Rattle.sparql_meaning.specs.declared.token.TokenKind.TheVariants as k
use Rattle.sparql_query_meaning.specs.Prefixes.{Declared, iri_of, named, declared}
use Rattle.sparql_lexemes.specs.declared.scope.Declaring.{Declaring as Read}
use Rattle.sparql_lexemes.specs.declared.scope.Declaring.TheVariants as r
use Rattle.sparql_lexemes.specs.Declarings.{declaring_of}

abbrev pub declaration : List ℕ → List ℕ → Declared
declaration p i = record { prefix = p; iri = i }

-- the map gives each prefix the IRI of its latest declaration
pub data StandFor (iris : List (List ℕ × List ℕ)) (ds : List Declared) : Type 0 where
  stand_for : ((p : List ℕ) → lookup (bytes_eq p) iris ≡ iri_of ds p) → StandFor iris ds

pub none_declared : (iris : List (List ℕ × List ℕ)) → iris ≡ [] → StandFor iris []
none_declared iris e = stand_for (λ p. ap (lookup (bytes_eq p)) e)

pub stands : {iris : List (List ℕ × List ℕ)} {ds : List Declared} → StandFor iris ds → (p : List ℕ) → lookup (bytes_eq p) iris ≡ iri_of ds p
stands (stand_for h) = h

pub one_more : (p i : List ℕ) (old new : List (List ℕ × List ℕ)) → ((q : List ℕ) → lookup (bytes_eq q) new ≡ cond (bytes_eq p q) (Some i) (lookup (bytes_eq q) old))
    → (ds : List Declared) → StandFor old ds → StandFor new (declaration p i ∷ ds)
one_more p i old new h ds s = stand_for (λ q. h q ∙ ap (λ (x : Option (List ℕ)). cond (bytes_eq p q) (Some i) x) (stands s q))

pub ruleset prefix_paths = (none_declared)

-- an IRI ends a declaration
pub ends_declaration : {X E : Type 0} (x : Result X E) (d : Read) (t : TokenKind) (p i p' i' : List ℕ) (old new : List (List ℕ × List ℕ)) → d ≡ r.Named p → t ≡ k.Iri i → p' ≡ p → i' ≡ i
    → OnOk x ((ds : List Declared) → StandFor old ds → StandFor new (declaration p' i' ∷ ds)) → OnOk x ((ds : List Declared) → StandFor old ds → StandFor new (declared (declaring_of d) t ds))
ends_declaration x d t p i p' i' old new e f g j h =
    let q : declared (declaring_of d) t ≡ (λ ds. declaration p' i' ∷ ds) =
    ap (λ (z : Read). declared (declaring_of z) t) e ∙ ap (λ (z : TokenKind). declared (named p) z) f ∙ ap (λ (z : List ℕ). λ (ds : List Declared). declaration z i ∷ ds) (sym g) ∙ ap (λ (z : List ℕ). λ (ds : List Declared). declaration p' z ∷ ds) (sym j) in
    subst (λ (z : List Declared → List Declared). OnOk x ((ds : List Declared) → StandFor old ds → StandFor new (z ds))) (sym q) h
