-- A text cut into its tokens (SPARQL 1.1 Query, section 19): each is the longest one at its place, and blanks and comments stand between.
use Rattle.std.specs.Prelude.{◌≡◌, ◌≤◌, ◌⊎◌, ℕ, ◌+◌, Bool, true, false, not, ◌==◌, List, [], ◌∷◌, ◌++◌, length, take, IsUtf8, chars}
use Rattle.std.specs.Char.{len_utf8}
use Rattle.std.specs.Str.{IsValidUpTo}
use Rattle.line_meaning.specs.Grammar.{Each}
use Rattle.sparql_meaning.specs.declared.token.TokenKind.{TokenKind}
use Rattle.sparql_meaning.specs.declared.token.Token.{Token}
use Rattle.sparql_meaning.specs.Classes.{is_blank, ends_line}
use Rattle.sparql_meaning.specs.Cut.{size}
use Rattle.sparql_token_laws.specs.Forms.{Spells}

-- in a text of these two parts the front spells such a token, and no longer front spells any
pub record IsLongest (kind : TokenKind) (front back : List ℕ) : Type 0 where
  pub spelled : Spells kind front
  pub longest : (other : TokenKind) (written behind : List ℕ) → Spells other written → front ++ back ≡ written ++ behind → length written ≤ length front

-- what a comment consists of behind its `#`
abbrev pub in_line : ℕ → Bool
in_line c = not (ends_line c)

-- a line or the text ends here
abbrev pub LineEnds : List ℕ → Type 0
LineEnds [] = Unit {0}
LineEnds (c ∷ cs) = ends_line c ≡ true

abbrev pub placed : TokenKind → ℕ → ℕ → Token
placed kind from to = record { kind = kind; from = from; to = to }

-- from a byte on, characters are cut into tokens, up to another byte from which on the rest stands
pub data Cuts : ℕ → List ℕ → List Token → ℕ → List ℕ → Type 0 where
  cut_done : {at : ℕ} {cs : List ℕ} → Cuts at cs [] at cs
  cut_blank : {at end c : ℕ} {cs rest : List ℕ} {ts : List Token} → is_blank c ≡ true → Cuts (at + len_utf8 c) cs ts end rest → Cuts at (c ∷ cs) ts end rest
  cut_comment : {at end : ℕ} {rest : List ℕ} {ts : List Token} (comment back : List ℕ) → Each in_line comment → LineEnds back
      → Cuts (at + size (35 ∷ comment)) back ts end rest → Cuts at (35 ∷ (comment ++ back)) ts end rest
  cut_token : {at end : ℕ} {rest : List ℕ} {ts : List Token} (kind : TokenKind) (front back : List ℕ) → IsLongest kind front back
      → Cuts (at + size front) back ts end rest → Cuts at (front ++ back) (placed kind at (at + size front) ∷ ts) end rest

-- the tokens of a whole text
pub record IsCut (bytes : List ℕ) (ts : List Token) : Type 0 where
  pub is_text : IsUtf8 bytes
  pub end : ℕ
  pub cuts : Cuts 0 (chars bytes) ts end []

-- a character that is no blank and begins no comment, where no token is spelled
abbrev pub NothingBegins : List ℕ → Type 0
NothingBegins [] = ⊥
NothingBegins (c ∷ cs) = (is_blank c ≡ false) × ((c == 35) ≡ false) × ((kind : TokenKind) (front back : List ℕ) → Spells kind front → c ∷ cs ≡ front ++ back → ⊥)

-- as far as the text is UTF-8
abbrev pub IsSoundTo : List ℕ → ℕ → Type 0
IsSoundTo bytes n = (IsUtf8 bytes × (n ≡ length bytes)) ⊎ IsValidUpTo bytes n

-- The first bad place of a text: what stands before it is cut, and nothing begins there, or it is the first byte that breaks UTF-8.
pub record BreaksAt (bytes : List ℕ) (bad : ℕ) : Type 0 where
  pub sound : ℕ
  pub tokens : List Token
  pub rest : List ℕ
  pub is_sound : IsSoundTo bytes sound
  pub cuts : Cuts 0 (chars (take sound bytes)) tokens bad rest
  pub breaks : (IsValidUpTo bytes sound × (rest ≡ [])) ⊎ NothingBegins rest
