-- What a loop over tokens keeps: the lexemes so far, and then those of the tokens that are left.
use Rattle.std.proofs.Common.{ℕ, ◌≡◌, List, [], ◌∷◌, ◌++◌, sym, ap, ◌∙◌, subst, append_assoc, length, arith, Option, Some, None}
use Rattle.std.proofs.lemmas.List.{append-nil}
use Rattle.sparql_meaning.specs.declared.token.Token.{Token}
use Rattle.sparql_meaning.specs.declared.token.TokenKind.{TokenKind}
use Rattle.sparql_meaning.specs.declared.token.TokenKind.TheVariants as k
use Rattle.sparql_grammar_meaning.specs.declared.lexeme.Lexeme.{Lexeme}
use Rattle.sparql_query_meaning.specs.Prefixes.{Declared, iri_of, Declaring, nothing, declaring, declared}
use Rattle.sparql_query_meaning.specs.Lexemes.{named_by, names_from, names, base_of, or_nothing, named_lexeme, lexeme, lexemes_from, lexemes}
use Rattle.sparql_lexemes.specs.Scopes.{StandFor}

pub data Along (ts : List Token) (made : List Lexeme) (d : Declaring) (iris : List (List ℕ × List ℕ)) (ns : List (List ℕ)) (rest : List Token) : Type 0 where
  along : (ds : List Declared) → StandFor iris ds → made ++ lexemes_from d ds ns rest ≡ lexemes ts → names_from ns rest ≡ names ts → Along ts made d iris ns rest

pub begun : (ts : List Token) (made : List Lexeme) (d : Declaring) (iris : List (List ℕ × List ℕ)) (ns : List (List ℕ)) → made ≡ [] → d ≡ nothing → StandFor iris [] → ns ≡ [] → Along ts made d iris ns ts
begun ts made d iris ns m e s n =
    along [] s (ap (λ (l : List Lexeme). l ++ lexemes_from d [] ns ts) m ∙ ap (λ (x : Declaring). lexemes_from x [] ns ts) e ∙ ap (λ (l : List (List ℕ)). lexemes_from nothing [] l ts) n)
    (ap (λ (l : List (List ℕ)). names_from l ts) n)

-- the lexeme of a token, by the declarations that a map stands for
pub data IsLexeme (iris : List (List ℕ × List ℕ)) (ns : List (List ℕ)) (t : TokenKind) (x : Lexeme) : Type 0 where
  is_lexeme : ((ds : List Declared) → StandFor iris ds → x ≡ lexeme ds ns t) → IsLexeme iris ns t x

-- the lexeme of a name
pub data IsNamed (iris : List (List ℕ × List ℕ)) (prefix local : List ℕ) (x : Lexeme) : Type 0 where
  is_named : ((ds : List Declared) → StandFor iris ds → x ≡ named_lexeme (base_of ds prefix) local) → IsNamed iris prefix local x

pub named_there : (iris : List (List ℕ × List ℕ)) (prefix local base : List ℕ) (o : Option (List ℕ)) (x : Lexeme) → o ≡ Some base → ((ds : List Declared) → StandFor iris ds → o ≡ iri_of ds prefix) → x ≡ named_lexeme base local → IsNamed iris prefix local x
named_there iris prefix local base o x e h i = is_named (λ ds s. i ∙ ap (λ (z : Option (List ℕ)). named_lexeme (or_nothing z) local) (sym e ∙ h ds s))

pub named_nowhere : (iris : List (List ℕ × List ℕ)) (prefix local : List ℕ) (o : Option (List ℕ)) (x : Lexeme) → o ≡ None → ((ds : List Declared) → StandFor iris ds → o ≡ iri_of ds prefix) → x ≡ named_lexeme [] local → IsNamed iris prefix local x
named_nowhere iris prefix local o x e h i = is_named (λ ds s. i ∙ ap (λ (z : Option (List ℕ)). named_lexeme (or_nothing z) local) (sym e ∙ h ds s))

-- the other tokens have the same lexeme whatever is declared
pub plain_lexeme : (iris : List (List ℕ × List ℕ)) (ns : List (List ℕ)) (t : TokenKind) (x : Lexeme) → ((ds : List Declared) → x ≡ lexeme ds ns t) → IsLexeme iris ns t x
plain_lexeme iris ns t x h = is_lexeme (λ ds s. h ds)

pub name_lexeme : (iris : List (List ℕ × List ℕ)) (ns : List (List ℕ)) (prefix local : List ℕ) (x : Lexeme) → IsNamed iris prefix local x → IsLexeme iris ns (k.Named prefix local) x
name_lexeme iris ns prefix local x (is_named h) = is_lexeme h

pub the_lexeme : {iris : List (List ℕ × List ℕ)} {ns : List (List ℕ)} {t : TokenKind} {x : Lexeme} → IsLexeme iris ns t x → (ds : List Declared) → StandFor iris ds → x ≡ lexeme ds ns t
the_lexeme (is_lexeme h) = h

pub step : (ts rest after : List Token) (t : Token) (made more : List Lexeme) (x : Lexeme) (d d' e : Declaring) (iris iris' later : List (List ℕ × List ℕ)) (ns ms last : List (List ℕ))
    → Along ts made d iris ns rest → rest ≡ t ∷ after → d' ≡ d → iris' ≡ iris → ms ≡ named_by ns t.kind → IsLexeme iris' ms t.kind x → more ≡ made ++ x ∷ [] → e ≡ declaring d' t.kind
    → ((ds : List Declared) → StandFor iris' ds → StandFor later (declared d' t.kind ds)) → last ≡ ms → Along ts more e later last after
step ts rest after t made more x d d' e iris iris' later ns ms last (along ds s whole all) r g f n l m i j k =
    let s' : StandFor iris' ds = subst (λ (z : List (List ℕ × List ℕ)). StandFor z ds) (sym f) s in
    let ns' : last ≡ named_by ns t.kind = k ∙ n in
    let next : Lexeme → List Lexeme = λ z. made ++ z ∷ lexemes_from (declaring d t.kind) (declared d t.kind ds) (named_by ns t.kind) after in
    let q : x ≡ lexeme ds (named_by ns t.kind) t.kind = the_lexeme l ds s' ∙ ap (λ (z : List (List ℕ)). lexeme ds z t.kind) n in
    along (declared d' t.kind ds) (j ds s')
    (ap (λ (z : List Lexeme). z ++ lexemes_from e (declared d' t.kind ds) last after) m ∙ append_assoc made (x ∷ []) (lexemes_from e (declared d' t.kind ds) last after)
    ∙ ap (λ (z : Declaring). made ++ x ∷ lexemes_from z (declared d' t.kind ds) last after) i
    ∙ ap (λ (z : Declaring). made ++ x ∷ lexemes_from (declaring z t.kind) (declared z t.kind ds) last after) g
    ∙ ap (λ (z : List (List ℕ)). made ++ x ∷ lexemes_from (declaring d t.kind) (declared d t.kind ds) z after) ns' ∙ ap next q
    ∙ ap (λ (z : List Token). made ++ lexemes_from d ds ns z) (sym r) ∙ whole)
    (ap (λ (z : List (List ℕ)). names_from z after) ns' ∙ ap (names_from ns) (sym r) ∙ all)

pub ended : (ts rest : List Token) (made : List Lexeme) (d : Declaring) (iris : List (List ℕ × List ℕ)) (ns : List (List ℕ)) → Along ts made d iris ns rest → length rest ≡ 0 → made ≡ lexemes ts
ended ts [] made d iris ns (along ds s whole all) e = sym (append-nil made) ∙ whole
ended ts (t ∷ rest) made d iris ns a e = absurd (omega arith)

pub names_ended : (ts rest : List Token) (made : List Lexeme) (d : Declaring) (iris : List (List ℕ × List ℕ)) (ns : List (List ℕ)) → Along ts made d iris ns rest → length rest ≡ 0 → ns ≡ names ts
names_ended ts [] made d iris ns (along ds s whole all) e = all
names_ended ts (t ∷ rest) made d iris ns a e = absurd (omega arith)

pub ruleset lexed_paths = (begun, step, ended, names_ended)
