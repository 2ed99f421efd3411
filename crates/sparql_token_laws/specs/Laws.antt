-- What the token that is found at a place, and the cut of a text, have to do with the tokens that are spelled there.
use Rattle.std.specs.Prelude.{◌≡◌, ◌≤◌, ◌⊎◌, ℕ, List, ◌++◌, length, Some, None, Ok, Err}
use Rattle.sparql_meaning.specs.declared.token.TokenKind.{TokenKind}
use Rattle.sparql_meaning.specs.declared.token.Token.{Token}
use Rattle.sparql_meaning.specs.declared.token.Found.{Found}
use Rattle.sparql_meaning.specs.Tokens.{token_at}
use Rattle.sparql_meaning.specs.Cut.{cut}
use Rattle.sparql_token_laws.specs.Forms.{Spells}
use Rattle.sparql_token_laws.specs.Cuts.{IsCut, BreaksAt}

-- no front of the text that spells a token is longer than what is found, and one that is as long spells the kind that is found
abbrev pub NoneIsLonger : Type 0
NoneIsLonger = (cs : List ℕ) (f : Found) → token_at cs ≡ Some f → (kind : TokenKind) (front back : List ℕ) → Spells kind front → cs ≡ front ++ back
    → (length front ≤ f.chars) × (length front ≡ f.chars → kind ≡ f.kind)

-- where none is found, no front of the text spells a token
abbrev pub NoneIsSpelled : Type 0
NoneIsSpelled = (cs : List ℕ) → token_at cs ≡ None → (kind : TokenKind) (front back : List ℕ) → Spells kind front → cs ≡ front ++ back → ⊥

-- what is found is spelled in front of the text
abbrev pub FoundIsSpelled : Type 0
FoundIsSpelled = (cs : List ℕ) (f : Found) → token_at cs ≡ Some f → (front : List ℕ) × (back : List ℕ) × Spells f.kind front × (length front ≡ f.chars) × (cs ≡ front ++ back)

-- the computed cut is one by longest tokens, and where there is none a bad place is answered
abbrev pub CutIsRight : Type 0
CutIsRight = (bytes : List ℕ) → ((ts : List Token) → cut bytes ≡ Ok ts → IsCut bytes ts) × ((bad : ℕ) → cut bytes ≡ Err bad → BreaksAt bytes bad)

-- and no other, and the first bad place
abbrev pub CutIsOnly : Type 0
CutIsOnly = (bytes : List ℕ) → ((ts : List Token) → IsCut bytes ts → cut bytes ≡ Ok ts) × ((bad : ℕ) → BreaksAt bytes bad → cut bytes ≡ Err bad)

-- a text is cut, or breaks at a place
abbrev pub EachIsCutOrBreaks : Type 0
EachIsCutOrBreaks = (bytes : List ℕ) → ((ts : List Token) × IsCut bytes ts) ⊎ ((bad : ℕ) × BreaksAt bytes bad)

abbrev pub OneCut : Type 0
OneCut = (bytes : List ℕ) (ts us : List Token) → IsCut bytes ts → IsCut bytes us → ts ≡ us

abbrev pub OneBadPlace : Type 0
OneBadPlace = (bytes : List ℕ) (m n : ℕ) → BreaksAt bytes m → BreaksAt bytes n → m ≡ n

abbrev pub NeverBoth : Type 0
NeverBoth = (bytes : List ℕ) (ts : List Token) (bad : ℕ) → IsCut bytes ts → BreaksAt bytes bad → ⊥
