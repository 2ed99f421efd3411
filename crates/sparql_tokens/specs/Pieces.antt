-- What the steps of the cutter say.
use Rattle.std.specs.Prelude.{ℕ, ◌+◌, ◌==◌, ◌≡◌, ◌<◌, ◌≤◌, false, if◌then◌else◌, List, [], ◌∷◌, ◌++◌, Option, Some, None, Result, Ok, Err}
use Rattle.sparql_meaning.specs.declared.token.Found.{Found}
use Rattle.sparql_meaning.specs.declared.token.Token.{Token}
use Rattle.sparql_meaning.specs.Classes.{is_blank}
use Rattle.sparql_tokens.specs.declared.cutting.TokenRefusal.{TokenRefusal}
use Rattle.sparql_tokens.specs.declared.cutting.TokenRefusal.TheVariants as refusal
use Rattle.sparql_meaning.specs.declared.token.Quoting.{Quoting}
use Rattle.sparql_meaning.specs.declared.token.Escape.{Escape}
use Rattle.sparql_meaning.specs.Tokens.{escape_in, stands}

abbrev pub longer : Option Escape → Option Escape
longer None = None
longer (Some e) = Some (record { value = e.value; chars = 1 + e.chars })

abbrev pub piece : Quoting → ℕ → List ℕ → Option Escape
piece form c cs = if c == 92 then longer (escape_in form cs) else (if stands form c then Some (record { value = c; chars = 1 }) else None)

-- a token of at most so many characters
abbrev pub IsWithin : ℕ → Option Found → Type 0
IsWithin n None = Unit {0}
IsWithin n (Some f) = (0 < f.chars) × (f.chars ≤ n)

-- neither a blank nor a comment begins here
abbrev pub StartsToken : List ℕ → Type 0
StartsToken [] = Unit {0}
StartsToken (c ∷ cs) = (is_blank c ≡ false) × (c ≡ 35 → ⊥)

-- what a refusal says of a cut
abbrev pub IsBadCut : Result (List Token) ℕ → TokenRefusal → Type 0
IsBadCut cut (refusal.Bad at) = cut ≡ Err at
IsBadCut cut refusal.NoMemory = Unit {0}

-- tokens, and then those of the rest
abbrev pub before : List Token → Result (List Token) ℕ → Result (List Token) ℕ
before ts (Ok us) = Ok (ts ++ us)
before ts (Err bad) = Err bad
