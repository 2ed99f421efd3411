-- What is read, walked through token by token: a walk goes from place to place, and each symbol on the way keeps what it owes.
use Rattle.std.proofs.Common.{ap, subst}
use Rattle.std.specs.Prelude.{Bool, IsTrue, List, ◌∷◌, ◌≡◌, refl}
use Rattle.grammar_meaning.specs.Grammar.{Form, nothing, one, call, ◌⨾◌, ◌∣◌, many, Node, Nil, Leaf, Pair, Made, Grammar, Reads, read_nothing, read_one, read_rule, read_both, read_left, read_right, read_many}
use Rattle.sparql_grammar_meaning.specs.declared.lexeme.Lexeme.{Lexeme}
use Rattle.sparql_grammar_meaning.specs.Grammar.{Kind, kind, is, rule, Symbol}
use Rattle.sparql_walk_laws.specs.Shapes.{Leaves, leaf_is, Shape, empty, token, symbol, both, either, several, form, shape, rule_form}

-- the grammar with other trees
abbrev pub making : {X : Type 0} → (Symbol → Node Lexeme X → X) → Grammar
making {X} build = record { Symbol = Symbol; Kind = Kind; Token = Lexeme; Tree = X; kind = kind; rule = rule; build = build }

-- a walk over a shape, from a place to a place, and what it read
pub data Walks {C X : Type 0} (Step : C → Lexeme → C → Type 0) (Owes : Symbol → C → C → X → Type 0) : Shape → C → C → Node Lexeme X → Type 0 where
  walk_empty : {c : C} → Walks Step Owes empty c c Nil
  walk_token : {a : Kind} {c d : C} {x : Lexeme} → Leaves a x → Step c x d → Walks Step Owes (token a) c d (Leaf x)
  walk_symbol : {s : Symbol} {c d : C} {x : X} → Owes s c d x → Walks Step Owes (symbol s) c d (Made x)
  walk_both : {f g : Shape} {c d e : C} {n m : Node Lexeme X} → Walks Step Owes f c d n → Walks Step Owes g d e m → Walks Step Owes (both f g) c e (Pair n m)
  walk_left : {f g : Shape} {c d : C} {n : Node Lexeme X} → Walks Step Owes f c d n → Walks Step Owes (either f g) c d n
  walk_right : {f g : Shape} {c d : C} {n : Node Lexeme X} → Walks Step Owes g c d n → Walks Step Owes (either f g) c d n
  walk_several : {f : Shape} {c d : C} {n : Node Lexeme X} → Walks Step Owes (either (both f (several f)) empty) c d n → Walks Step Owes (several f) c d n

-- a step to what is left
pub record Stepped {C : Type 0} (Step : C → Lexeme → C → Type 0) (left : C → List Lexeme) (c : C) (x : Lexeme) (xs : List Lexeme) : Type 0 where
  pub to : C
  pub step : Step c x to
  pub rest : left to ≡ xs

-- a walk to what is left
pub record Walked {C X : Type 0} (Step : C → Lexeme → C → Type 0) (Owes : Symbol → C → C → X → Type 0) (left : C → List Lexeme) (f : Shape) (c : C) (n : Node Lexeme X) (us : List Lexeme) : Type 0 where
  pub to : C
  pub walk : Walks Step Owes f c to n
  pub rest : left to ≡ us

-- ---- a form is made in one way

abbrev one_form : (Kind → Bool) → Form Symbol Kind
one_form p = one p

abbrev call_form : Symbol → Form Symbol Kind
call_form x = call x

same_one : (p q : Kind → Bool) → one_form p ≡ one_form q → p ≡ q
same_one p q h = cc

same_call : (x y : Symbol) → call_form x ≡ call_form y → x ≡ y
same_call x y h = cc

same_first : {f g h k : Form Symbol Kind} → f ⨾ g ≡ h ⨾ k → f ≡ h
same_first e = cc

same_second : {f g h k : Form Symbol Kind} → f ⨾ g ≡ h ⨾ k → g ≡ k
same_second e = cc

same_left : {f g h k : Form Symbol Kind} → f ∣ g ≡ h ∣ k → f ≡ h
same_left e = cc

same_right : {f g h k : Form Symbol Kind} → f ∣ g ≡ h ∣ k → g ≡ k
same_right e = cc

same_many : {f g : Form Symbol Kind} → many f ≡ many g → f ≡ g
same_many e = cc

module _ {C X : Type 0} (build : Symbol → Node Lexeme X → X) (Step : C → Lexeme → C → Type 0) (Owes : Symbol → C → C → X → Type 0) (left : C → List Lexeme) (next : (c : C) (x : Lexeme) (xs : List Lexeme) → left c ≡ x ∷ xs → Stepped Step left c x xs)
    (keeps : (s : Symbol) (c d : C) (n : Node Lexeme X) → Walks Step Owes (shape s) c d n → Owes s c d (build s n)) where
  at_symbol : (s : Symbol) (c : C) (n : Node Lexeme X) (us : List Lexeme) → Walked Step Owes left (shape s) c n us → Walked Step Owes left (symbol s) c (Made (build s n)) us
  at_symbol s c n us w = record { to = w.to; walk = walk_symbol (keeps s c w.to n w.walk); rest = w.rest }

  -- what is read is walked through
  walked_form : (f : Shape) (v : Form Symbol Kind) (c : C) (ts us : List Lexeme) (n : Node Lexeme X) → v ≡ form f → left c ≡ ts → Reads (making build) v ts n us → Walked Step Owes left f c n us
  walked_form empty v c ts us n i e read_nothing = record { to = c; walk = walk_empty; rest = e }
  walked_form (token a) v c ts us n i e (read_one {p = p} {t = x} h) =
      let y = next c x us e in
      record { to = y.to; walk = walk_token (leaf_is a x (subst (λ (q : Kind → Bool). IsTrue (q (kind x))) (same_one p (is a) i) h)) y.step; rest = y.rest }
  walked_form (symbol x) v c ts us n i e (read_rule {s = s} {n = m} r) =
      subst (λ (z : Symbol). Walked Step Owes left (symbol z) c n us) (same_call s x i) (at_symbol s c m us (walked_form (shape s) (rule s) c ts us m (rule_form s) e r))
  walked_form (both f g) v c ts us n i e (read_both {f = f'} {g = g'} {us = ws} {n = m} {m = k} a b) =
      let x = walked_form f f' c ts ws m (same_first i) e a in
      let y = walked_form g g' x.to ws us k (same_second i) x.rest b in
      record { to = y.to; walk = walk_both x.walk y.walk; rest = y.rest }
  walked_form (either f g) v c ts us n i e (read_left {f = f'} a) = let x = walked_form f f' c ts us n (same_left i) e a in record { to = x.to; walk = walk_left x.walk; rest = x.rest }
  walked_form (either f g) v c ts us n i e (read_right {g = g'} a) = let x = walked_form g g' c ts us n (same_right i) e a in record { to = x.to; walk = walk_right x.walk; rest = x.rest }
  walked_form (several f) v c ts us n i e (read_many {f = f'} a) =
      let x = walked_form (either (both f (several f)) empty) ((f' ⨾ many f') ∣ nothing) c ts us n (ap (λ (z : Form Symbol Kind). (z ⨾ many z) ∣ nothing) (same_many i)) e a in
      record { to = x.to; walk = walk_several x.walk; rest = x.rest }
  walked_form f v c ts us n i e r = absurd cc

  pub walked : (s : Symbol) (c : C) (us : List Lexeme) (n : Node Lexeme X) → Reads (making build) (call s) (left c) n us → Walked Step Owes left (symbol s) c n us
  walked s c us n r = walked_form (symbol s) (call s) c (left c) us n refl refl r
