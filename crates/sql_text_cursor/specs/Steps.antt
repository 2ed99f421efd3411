-- The steps of readers: tokens, and what they begin.
use Rattle.std.proofs.Common.{Bool, true, false, IsTrue, List, [], ◌∷◌, ◌++◌, ◌≡◌, ℕ, length, refl}
use Rattle.std.proofs.lemmas.Bool.{eq-eqb}
use Rattle.grammar_meaning.specs.Grammar.{Form, Nil, Leaf, Made}
use Rattle.grammar_meaning.specs.Outcome.{Begins, Got, or, implies, first, NotBegun, every_of}
use Rattle.grammar_meaning.specs.Laws.{mp, and_both}
use Rattle.grammar_meaning.specs.Exact.{got_one, broke_none}
use Rattle.grammar_meaning.specs.Parts.{got_some, got_skip, got_wide}
use Rattle.grammar_path_laws.specs.Paths.{here, in_some, in_wide}
use Rattle.sql_meaning.specs.Kinds.{Kind, a_mark, a_name, kind, code, is, among, kinds, each}
use Rattle.sql_meaning.specs.Tokens.{placed}
use Rattle.sql_meaning.specs.Grammar.{Symbol, Tree, Limit, mark, name, grammar}
use Rattle.sql_meaning.specs.declared.token.Mark.{Mark}
use Rattle.sql_meaning.specs.declared.token.Token.TheVariants as t
use Rattle.sql_meaning.specs.declared.token.Placed.{Placed}
use Rattle.sql_text_cursor.specs.Table.{look, empty, begins, after, NoneOf, SomeOf, not_begun}
use Rattle.sql_text_cursor.specs.Outcomes.{reading, got, Fault, fault_at, handed, Gets, Stops, MayGet, MayStop, may_after}
use Rattle.sql_text_cursor.specs.declared.refusal.Refusal.{Refusal}
use Rattle.sql_text_cursor.specs.declared.refusal.Refusal.TheVariants.{Syntax}

abbrev pub starts : Form Symbol Kind → Kind → Bool
starts f k = first empty (λ z. among (begins z)) f k

-- a token of the kinds begins no text of the form
pub apart : (c : Limit) (ks : List Kind) (f : Form Symbol Kind) (ts : List Placed) → IsTrue (every_of kinds (λ k. implies (among ks k) (implies (starts f k) false))) → SomeOf ks ts → NotBegun (grammar c) (look c) f ts
apart c ks f [] h s = absurd s
apart c ks f (p ∷ ps) h s = mp (among ks (kind p.token)) (implies (starts f (kind p.token)) false) (each (λ k. implies (among ks k) (implies (starts f k) false)) h (kind p.token)) s

not_both : (a b : Bool) → IsTrue (implies a b) → b ≡ false → IsTrue (implies a false)
not_both true b h k = cc
not_both false b h k = refl

-- where no token of the kinds is in front, no text of the form begins
pub absent : (c : Limit) (ks : List Kind) (f : Form Symbol Kind) (ts : List Placed) → IsTrue (every_of kinds (λ k. implies (starts f k) (among ks k))) → NoneOf ks ts → NotBegun (grammar c) (look c) f ts
absent c ks f [] h s = tt
absent c ks f (p ∷ ps) h s = not_both (starts f (kind p.token)) (among ks (kind p.token)) (each (λ k. implies (starts f k) (among ks k)) h (kind p.token)) s

-- a token of some kinds is one of more kinds
pub ahead : (c : Limit) (ks d : List Kind) (ts : List Placed) → IsTrue (every_of kinds (λ k. implies (among ks k) (among d k))) → SomeOf ks ts → Begins (grammar c) (among d) ts
ahead c ks d [] h s = absurd s
ahead c ks d (p ∷ ps) h s = mp (among ks (kind p.token)) (among d (kind p.token)) (each (λ k. implies (among ks k) (among d k)) h (kind p.token)) s

-- a kind is itself
pub itself : (a : Kind) → IsTrue (is a a)
itself a = eq-eqb (code a) (code a) refl

-- a mark in front of a form, and one at its end
pub the : (c : Limit) (m : Mark) (at : ℕ) (us : List Placed) → Got (grammar c) (among []) (mark m) (placed at (t.Mark m) ∷ us) (Leaf (placed at (t.Mark m))) us
the c m at us = got_one {G = grammar c} (among []) (is (a_mark m)) (placed at (t.Mark m)) us (itself (a_mark m))

pub last : (c : Limit) (e : List Kind) (m : Mark) (at : ℕ) (us : List Placed) → Got (grammar c) (among e) (mark m) (placed at (t.Mark m) ∷ us) (Leaf (placed at (t.Mark m))) us
last c e m at us = got_one {G = grammar c} (among e) (is (a_mark m)) (placed at (t.Mark m)) us (itself (a_mark m))

pub the_name : (c : Limit) (s : List ℕ) (at : ℕ) (us : List Placed) → Got (grammar c) (among []) name (placed at (t.Name s) ∷ us) (Leaf (placed at (t.Name s))) us
the_name c s at us = got_one {G = grammar c} (among []) (is a_name) (placed at (t.Name s)) us refl

or_there : (b : Bool) → IsTrue b → IsTrue (or b false)
or_there b h = rw h refl

-- a mark is one of its kind
pub begins_mark : (c : Limit) (m : Mark) (at : ℕ) (us : List Placed) → Begins (grammar c) (among (a_mark m ∷ [])) (placed at (t.Mark m) ∷ us)
begins_mark c m at us = or_there (is (a_mark m) (a_mark m)) (itself (a_mark m))

-- where no token is in front that begins a symbol
pub none_stops : (s : Symbol) (ts : List Placed) → IsTrue (implies (empty s) false) → NoneOf (begins s) ts → Stops s ts (Syntax (length ts))
none_stops s ts k h = fault_at ts (λ c i. broke_none (look c) (among (after s)) k (not_begun c s ts h))

or_first : (a b : Bool) → IsTrue (implies a (or a b))
or_first true b = refl
or_first false b = refl

-- marks and names that have to be in front
pub mark_none : (m : Mark) (ts : List Placed) → NoneOf (a_mark m ∷ []) ts → Fault [] (mark m) ts (Syntax (length ts))
mark_none m ts h = fault_at ts (λ c i. broke_none (look c) (among []) refl (by c ts h))
  where
    by : (c : Limit) (ts : List Placed) → NoneOf (a_mark m ∷ []) ts → NotBegun (grammar c) (look c) (mark m) ts
    by c [] h = tt
    by c (p ∷ ps) h = not_both (is (a_mark m) (kind p.token)) (or (is (a_mark m) (kind p.token)) false) (or_first (is (a_mark m) (kind p.token)) false) h

pub name_none : (ts : List Placed) → NoneOf (a_name ∷ []) ts → Fault [] name ts (Syntax (length ts))
name_none ts h = fault_at ts (λ c i. broke_none (look c) (among []) refl (absent c (a_name ∷ []) name ts refl h))

-- a part that may be left out
pub every_from : {p : Kind → Bool} (ks : List Kind) → ((k : Kind) → IsTrue (p k)) → IsTrue (every_of ks p)
every_from [] h = refl
every_from {p = p} (k ∷ ks) h = and_both (p k) (every_of ks p) (h k) (every_from ks h)

or_second : (a b x : Bool) → IsTrue (implies a b) → IsTrue (implies a (or x b))
or_second a b true h = no_more a
  where
    no_more : (a : Bool) → IsTrue (implies a true)
    no_more true = refl
    no_more false = refl
or_second a b false h = h

or_same : (a b x : Bool) → IsTrue (implies a b) → IsTrue (implies (or x a) (or x b))
or_same a b true h = refl
or_same a b false h = h

left_of : (ks js : List Kind) (k : Kind) → IsTrue (implies (among ks k) (among (ks ++ js) k))
left_of [] js k = refl
left_of (a ∷ ks) js k = or_same (among ks k) (among (ks ++ js) k) (is a k) (left_of ks js k)

self : (b : Bool) → IsTrue (implies b b)
self true = refl
self false = refl

right_of : (ks js : List Kind) (k : Kind) → IsTrue (implies (among js k) (among (ks ++ js) k))
right_of [] js k = self (among js k)
right_of (a ∷ ks) js k = or_second (among js k) (among (ks ++ js) k) (is a k) (right_of ks js k)

begun : (c : Limit) (s : Symbol) (ts : List Placed) → SomeOf (begins s) ts → Begins (grammar c) (among (may_after s)) ts
begun c s ts h = ahead c (begins s) (may_after s) ts (every_from kinds (left_of (begins s) (after s))) h

pub may_some : (s : Symbol) (ts us : List Placed) (x : Tree) → SomeOf (begins s) ts → Gets s ts x us → MayGet s ts (Made x) us
may_some s ts us x h a = reading (λ c k. got_some (begun c s ts h) (got_wide (look c) (every_from kinds (right_of (begins s) (after s))) (got a c k)))

pub may_none : (s : Symbol) (ts : List Placed) → IsTrue (implies (empty s) false) → NoneOf (begins s) ts → MayGet s ts Nil ts
may_none s ts k h = reading (λ c i. got_skip (look c) (among (may_after s)) k (not_begun c s ts h))

pub may_stops : (s : Symbol) (ts : List Placed) (r : Refusal) → SomeOf (begins s) ts → Stops s ts r → MayStop s ts r
may_stops s ts r h a = handed (λ c k. in_some (begun c s ts h) (in_wide (look c) (every_from kinds (right_of (begins s) (after s))) here)) a

-- no token of a kind, and none of others
pub none_both : (k : Kind) (ks : List Kind) (ts : List Placed) → NoneOf (k ∷ []) ts → NoneOf ks ts → NoneOf (k ∷ ks) ts
none_both k ks [] h i = tt
none_both k ks (p ∷ ps) h i = by (is k (kind p.token)) (among ks (kind p.token)) h i
  where
    by : (a b : Bool) → or a false ≡ false → b ≡ false → or a b ≡ false
    by true b h i = h
    by false b h i = i
