-- Each text is cut in one way, or has one first bad place.
use Rattle.std.proofs.Common.{◌≡◌, ◌⊎◌, inl, inr, ℕ, List, refl}
use Rattle.std.specs.Prelude.{Result, Ok, Err}
use Rattle.sparql_meaning.specs.declared.token.Token.{Token}
use Rattle.sparql_meaning.specs.Cut.{cut}
use Rattle.sparql_token_laws.specs.Cuts.{IsCut, BreaksAt}
use Rattle.sparql_token_laws.specs.Laws.{EachIsCutOrBreaks, OneCut, OneBadPlace, NeverBoth}
use Rattle.sparql_token_laws.proofs.WholeCut.{cut_is_right, cut_is_only}

abbrev Outcome : Type 0
Outcome = Result (List Token) ℕ

by_outcome : (bytes : List ℕ) (o : Outcome) → cut bytes ≡ o → ((ts : List Token) × IsCut bytes ts) ⊎ ((bad : ℕ) × BreaksAt bytes bad)
by_outcome bytes (Ok ts) h = inl (ts, (cut_is_right bytes).0 ts h)
by_outcome bytes (Err bad) h = inr (bad, (cut_is_right bytes).1 bad h)

pub each_is_cut_or_breaks : EachIsCutOrBreaks
each_is_cut_or_breaks bytes = by_outcome bytes (cut bytes) refl

same_ok : (ts us : List Token) (o : Outcome) → o ≡ Ok ts → o ≡ Ok us → ts ≡ us
same_ok ts us o a b = cc

same_err : (m n : ℕ) (o : Outcome) → o ≡ Err m → o ≡ Err n → m ≡ n
same_err m n o a b = cc

not_both : (ts : List Token) (bad : ℕ) (o : Outcome) → o ≡ Ok ts → o ≡ Err bad → ⊥
not_both ts bad o a b = absurd cc

pub one_cut : OneCut
one_cut bytes ts us a b = same_ok ts us (cut bytes) ((cut_is_only bytes).0 ts a) ((cut_is_only bytes).0 us b)

pub one_bad_place : OneBadPlace
one_bad_place bytes m n a b = same_err m n (cut bytes) ((cut_is_only bytes).1 m a) ((cut_is_only bytes).1 n b)

pub never_both : NeverBoth
never_both bytes ts bad a b = not_both ts bad (cut bytes) ((cut_is_only bytes).0 ts a) ((cut_is_only bytes).1 bad b)
