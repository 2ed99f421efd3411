-- What may be answered for the text of a query, by what the cutter promises.
use Rattle.std.specs.Prelude.{◌≡◌, ◌⊎◌, ℕ, List, Result, Ok, Err, IfOk, IfErr}
use Rattle.std.proofs.Common.{ap, inl, inr, refl}
use Rattle.sparql_meaning.specs.declared.token.Token.{Token}
use Rattle.sparql_meaning.specs.Cut.{cut}
use Rattle.sparql_token_laws.specs.Cuts.{IsCut, BreaksAt}
use Rattle.sparql_token_laws.specs.Laws.{CutIsRight, CutIsOnly}
use Rattle.sparql_tokens.specs.Pieces.{IsBadCut}
use Rattle.sparql_tokens.specs.declared.cutting.TokenRefusal.{TokenRefusal}
use Rattle.sparql_tokens.specs.declared.cutting.TokenRefusal.TheVariants.{Bad, NoMemory}

abbrev pub Answer : Type 0
Answer = Result (List Token) TokenRefusal

-- what the cutter promises of its answer
abbrev pub Allowed : List ℕ → Answer → Type 0
Allowed bytes answer = IfOk answer (λ ts. cut bytes ≡ Ok ts) × IfErr answer (IsBadCut (cut bytes))

-- a refusal names the first bad place
abbrev pub IsBadPlace : List ℕ → TokenRefusal → Type 0
IsBadPlace bytes (Bad at) = BreaksAt bytes at
IsBadPlace bytes NoMemory = Unit {0}

abbrev pub AnswersAreCuts : Type 0
AnswersAreCuts = (bytes : List ℕ) (answer : Answer) → Allowed bytes answer → IfOk answer (λ ts. IsCut bytes ts) × IfErr answer (IsBadPlace bytes)

abbrev pub CutsAreAnswered : Type 0
CutsAreAnswered = (bytes : List ℕ) (ts : List Token) (answer : Answer) → IsCut bytes ts → Allowed bytes answer → (answer ≡ Ok ts) ⊎ (answer ≡ Err NoMemory)

abbrev pub BadPlacesAreAnswered : Type 0
BadPlacesAreAnswered = (bytes : List ℕ) (bad : ℕ) (answer : Answer) → BreaksAt bytes bad → Allowed bytes answer → (answer ≡ Err (Bad bad)) ⊎ (answer ≡ Err NoMemory)

-- by the laws that the computed cut is the one by longest tokens
pub answers_are_cuts : CutIsRight → AnswersAreCuts
answers_are_cuts right bytes (Ok ts) a = ((right bytes).0 ts a.0, tt)
answers_are_cuts right bytes (Err (Bad at)) a = (tt, (right bytes).1 at a.1)
answers_are_cuts right bytes (Err NoMemory) a = (tt, tt)

abbrev Computed : Type 0
Computed = Result (List Token) ℕ

same_ok : (ts us : List Token) (o : Computed) → o ≡ Ok ts → o ≡ Ok us → us ≡ ts
same_ok ts us o a b = cc

same_err : (m n : ℕ) (o : Computed) → o ≡ Err m → o ≡ Err n → n ≡ m
same_err m n o a b = cc

not_both : (ts : List Token) (bad : ℕ) (o : Computed) → o ≡ Ok ts → o ≡ Err bad → ⊥
not_both ts bad o a b = absurd cc

pub cuts_are_answered : CutIsOnly → CutsAreAnswered
cuts_are_answered only bytes ts (Ok us) c a = inl (ap (λ (x : List Token). Ok x) (same_ok ts us (cut bytes) ((only bytes).0 ts c) a.0))
cuts_are_answered only bytes ts (Err (Bad at)) c a = absurd (not_both ts at (cut bytes) ((only bytes).0 ts c) a.1)
cuts_are_answered only bytes ts (Err NoMemory) c a = inr refl

pub bad_places_are_answered : CutIsOnly → BadPlacesAreAnswered
bad_places_are_answered only bytes bad (Ok us) b a = absurd (not_both us bad (cut bytes) a.0 ((only bytes).1 bad b))
bad_places_are_answered only bytes bad (Err (Bad at)) b a = inl (ap (λ (x : ℕ). Err (Bad x)) (same_err bad at (cut bytes) ((only bytes).1 bad b) a.1))
bad_places_are_answered only bytes bad (Err NoMemory) b a = inr refl
