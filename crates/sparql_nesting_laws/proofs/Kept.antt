-- What the tokens of a shape and its symbols keep, each walk over it keeps.
use Rattle.std.specs.Prelude.{◌≡◌, ℕ, ◌+◌, max, Bool, true, false, refl}
use Rattle.std.proofs.Common.{sym, ap, subst, arith}
use Rattle.grammar_meaning.specs.Grammar.{Node}
use Rattle.sparql_grammar_meaning.specs.declared.lexeme.Lexeme.{Lexeme}
use Rattle.sparql_grammar_meaning.specs.Grammar.{Kind, Symbol}
use Rattle.sparql_query_meaning.specs.Limits.{one_if}
use Rattle.sparql_walk_laws.specs.Shapes.{Leaves, Shape, empty, both, either, several}
use Rattle.sparql_walk_laws.specs.Walks.{Walks, walk_empty, walk_token, walk_symbol, walk_both, walk_left, walk_right, walk_several}
use Rattle.sparql_query_laws.specs.Passing.{both_true}
use Rattle.sparql_query_laws.specs.Sound.{left_true, right_true}
use Rattle.sparql_query_laws.specs.Counts.{fits}
use Rattle.sparql_nesting_laws.specs.Nesting.{begins_with, nesting}
use Rattle.sparql_nesting_laws.proofs.Spots.{Spot, Moved}

pub unopened_pair : (b : Bool) (n m : ℕ) → b ≡ false → max n (one_if b + m) ≡ max n m
unopened_pair b n m h = let e : one_if b ≡ 0 = ap one_if h in omega (arith, e)

module _ (opens : Lexeme → Bool) (Owes : Symbol → Spot → Spot → ℕ → Type 0) (k : Kind → Bool) (y : Symbol → Bool) (shut : (a : Kind) (x : Lexeme) → Leaves a x → k a ≡ true → opens x ≡ false) where
  pub unopened : (f : Shape) (c d : Spot) (m : Node Lexeme ℕ) → fits k y f ≡ true → Walks Moved Owes f c d m → begins_with opens m ≡ false
  unopened f c d m e walk_empty = refl
  unopened f c d m e (walk_token {a = a} {x = x} l h) = shut a x l e
  unopened f c d m e (walk_symbol h) = refl
  unopened f c d m e (walk_both x z) = refl
  unopened f c d m e (walk_left {f = g} {g = g'} x) = unopened g c d m (left_true (fits k y g) (fits k y g') e) x
  unopened f c d m e (walk_right {f = g} {g = g'} x) = unopened g' c d m (right_true (fits k y g) (fits k y g') e) x
  unopened f c d m e (walk_several {f = g} x) = unopened (either (both g (several g)) empty) c d m (both_true (both_true e e) refl) x

  module _ (P : Spot → Spot → ℕ → Type 0) (here : (c : Spot) → P c c 0) (more : (c d e : Spot) (n m : ℕ) → P c d n → P d e m → P c e (max n m))
      (step : (a : Kind) (c d : Spot) (x : Lexeme) → Leaves a x → k a ≡ true → Moved c x d → P c d 0) (owed : (z : Symbol) (c d : Spot) (n : ℕ) → y z ≡ true → Owes z c d n → P c d n) where
    pub kept : (f : Shape) (c d : Spot) (m : Node Lexeme ℕ) → fits k y f ≡ true → Walks Moved Owes f c d m → P c d (nesting opens m)
    kept f c d m e walk_empty = here c
    kept f c d m e (walk_token {a = a} {x = x} l h) = step a c d x l e h
    kept f c d m e (walk_symbol {s = z} {x = n} h) = owed z c d n e h
    kept f c d m e (walk_both {f = g} {g = g'} {d = a} {n = n} {m = n'} x z) =
        subst (P c d) (sym (unopened_pair (begins_with opens n) (nesting opens n) (nesting opens n') (unopened g c a n (left_true (fits k y g) (fits k y g') e) x)))
        (more c a d (nesting opens n) (nesting opens n') (kept g c a n (left_true (fits k y g) (fits k y g') e) x) (kept g' a d n' (right_true (fits k y g) (fits k y g') e) z))
    kept f c d m e (walk_left {f = g} {g = g'} x) = kept g c d m (left_true (fits k y g) (fits k y g') e) x
    kept f c d m e (walk_right {f = g} {g = g'} x) = kept g' c d m (right_true (fits k y g) (fits k y g') e) x
    kept f c d m e (walk_several {f = g} x) = kept (either (both g (several g)) empty) c d m (both_true (both_true e e) refl) x
