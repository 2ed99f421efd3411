-- Tokens by their places.
use Rattle.std.proofs.Common.{ℕ, zero, suc, ◌≡◌, ◌-◌, List, [], ◌∷◌, length, Option, None, Some, refl, sym, ap, ◌∙◌, arith, slice_get}
use Rattle.sparql_meaning.specs.declared.token.Token.{Token}
use Rattle.sparql_meaning.specs.declared.token.TokenKind.{TokenKind}
use Rattle.sparql_query_meaning.specs.Queries.{place_behind, kind_behind, kind_before}

pub place_there : (bytes : List ℕ) (ts : List Token) (n : ℕ) (t : Token) → slice_get ts n ≡ Some t → t.from ≡ place_behind bytes ts n
place_there bytes [] n t h = absurd cc
place_there bytes (x ∷ ts) zero t h = let e : x ≡ t = cc in sym (ap (λ (z : Token). z.from) e)
place_there bytes (x ∷ ts) (suc n) t h = place_there bytes ts n t h

pub place_end : (bytes : List ℕ) (ts : List Token) (n : ℕ) → slice_get ts n ≡ None → length bytes ≡ place_behind bytes ts n
place_end bytes [] n h = refl
place_end bytes (x ∷ ts) zero h = absurd cc
place_end bytes (x ∷ ts) (suc n) h = place_end bytes ts n h

pub kind_there : (ts : List Token) (n : ℕ) (t : Token) → slice_get ts n ≡ Some t → Some t.kind ≡ kind_behind ts n
kind_there [] n t h = absurd cc
kind_there (x ∷ ts) zero t h = let e : x ≡ t = cc in sym (ap (λ (z : Token). Some z.kind) e)
kind_there (x ∷ ts) (suc n) t h = kind_there ts n t h

pub kind_end : (ts : List Token) (n : ℕ) → slice_get ts n ≡ None → None ≡ kind_behind ts n
kind_end [] n h = refl
kind_end (x ∷ ts) zero h = absurd cc
kind_end (x ∷ ts) (suc n) h = kind_end ts n h

pub none_before : (ts : List Token) (n : ℕ) → n ≡ 0 → None ≡ kind_before ts n
none_before ts zero h = refl
none_before ts (suc n) h = absurd (omega arith)

pub some_before : (ts : List Token) (n : ℕ) (o : Option TokenKind) → (n ≡ 0 → ⊥) → o ≡ kind_behind ts (n - 1) → o ≡ kind_before ts n
some_before ts zero o h e = absurd (h refl)
some_before ts (suc n) o h e = e ∙ ap (kind_behind ts) (let i : suc n - 1 ≡ n = omega arith in i)

pub ruleset before_paths = (none_before, some_before)
