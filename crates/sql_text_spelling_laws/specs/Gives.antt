-- Tokens of a form, wherever they stand and whatever follows, where expressions stand inside fewer than 1,024 others.
use Rattle.std.specs.Prelude.{Bool, List, [], ◌∷◌, ◌++◌, map, IsTrue}
use Rattle.std.proofs.Common.{◌≡◌, ◌∙◌, sym, subst, append_assoc}
use Rattle.grammar_meaning.specs.Grammar.{Form, one, call, ◌⨾◌, ◌∣◌, many, maybe, Nil, Leaf, Pair, Made, Reads, read_nothing, read_one, read_rule, read_both, read_left, read_right, read_many}
use Rattle.sql_meaning.specs.Kinds.{Kind, kind}
use Rattle.sql_meaning.specs.Grammar.{Symbol, Tree, Parsed, shallow, rule, limited, build}
use Rattle.sql_meaning.specs.Canon.{Tokens, all_tokens}
use Rattle.sql_meaning.specs.declared.token.Token.{Token}
use Rattle.sql_meaning.specs.declared.token.Placed.{Placed}
use Rattle.sql_text_spelling_laws.specs.Induction.{Each}

abbrev pub token_of : Placed → Token
token_of p = p.token

abbrev pub bare : List Placed → Tokens
bare ps = map token_of ps

-- the form is read at the front, with these tokens left behind it
pub record Got (f : Form Symbol Kind) (good : Parsed → Type 0) (ps : List Placed) (us : Tokens) : Type 0 where
  pub node : Parsed
  pub rest : List Placed
  pub reads : Reads shallow f ps node rest
  pub left : bare rest ≡ us
  pub fine : good node

-- the tokens are read by the form as a node of this sort
pub record Gives (f : Form Symbol Kind) (good : Parsed → Type 0) (ts : Tokens) : Type 0 where
  pub from : (ps : List Placed) (us : Tokens) → bare ps ≡ ts ++ us → Got f good ps us

pub data IsNil : Parsed → Type 0 where
  is_nil : IsNil Nil

pub data IsLeaf (t : Token) : Parsed → Type 0 where
  is_leaf : {p : Placed} → p.token ≡ t → IsLeaf t (Leaf p)

pub data Both (P Q : Parsed → Type 0) : Parsed → Type 0 where
  both : {a b : Parsed} → P a → Q b → Both P Q (Pair a b)

pub data IsMade (x : Tree) : Parsed → Type 0 where
  is_made : IsMade x (Made x)

pub as_also : {f : Form Symbol Kind} {P Q : Parsed → Type 0} {ts : Tokens} → ((n : Parsed) → P n → Q n) → Gives f P ts → Gives f Q ts
as_also turn g = record { from = λ ps us e. let r = g.from ps us e in record { node = r.node; rest = r.rest; reads = r.reads; left = r.left; fine = turn r.node r.fine } }

pub on_tokens : {f : Form Symbol Kind} {P : Parsed → Type 0} {ts us : Tokens} → ts ≡ us → Gives f P ts → Gives f P us
on_tokens {f} {P} e g = subst (λ (z : Tokens). Gives f P z) e g

one_got : (p : Kind → Bool) (y : Token) → IsTrue (p (kind y)) → (ps : List Placed) (us : Tokens) → bare ps ≡ y ∷ us → Got (one p) (IsLeaf y) ps us
one_got p y h [] us e = cc
one_got p y h (q ∷ qs) us e =
    let first : q.token ≡ y = cc in
    let left : bare qs ≡ us = cc in
    record { node = Leaf q; rest = qs; reads = read_one (subst (λ (z : Token). IsTrue (p (kind z))) (sym first) h); left = left; fine = is_leaf first }

pub gives_one : (p : Kind → Bool) (y : Token) → IsTrue (p (kind y)) → Gives (one p) (IsLeaf y) (y ∷ [])
gives_one p y h = record { from = λ ps us e. one_got p y h ps us e }

both_got : {f g : Form Symbol Kind} {P Q : Parsed → Type 0} (ts us : Tokens) → Gives f P ts → Gives g Q us → (ps : List Placed) (vs : Tokens) → bare ps ≡ (ts ++ us) ++ vs → Got (f ⨾ g) (Both P Q) ps vs
both_got ts us a b ps vs e =
    let r = a.from ps (us ++ vs) (e ∙ append_assoc ts us vs) in
    let s = b.from r.rest vs r.left in
    record { node = Pair r.node s.node; rest = s.rest; reads = read_both r.reads s.reads; left = s.left; fine = both r.fine s.fine }

infixr 40 ◌then◌
pub ◌then◌ : {f g : Form Symbol Kind} {P Q : Parsed → Type 0} {ts us : Tokens} → Gives f P ts → Gives g Q us → Gives (f ⨾ g) (Both P Q) (ts ++ us)
◌then◌ {ts = ts} {us = us} a b = record { from = λ ps vs e. both_got ts us a b ps vs e }

pub gives_left : {f g : Form Symbol Kind} {P : Parsed → Type 0} {ts : Tokens} → Gives f P ts → Gives (f ∣ g) P ts
gives_left a = record { from = λ ps us e. let r = a.from ps us e in record { node = r.node; rest = r.rest; reads = read_left r.reads; left = r.left; fine = r.fine } }

pub gives_right : {f g : Form Symbol Kind} {P : Parsed → Type 0} {ts : Tokens} → Gives g P ts → Gives (f ∣ g) P ts
gives_right a = record { from = λ ps us e. let r = a.from ps us e in record { node = r.node; rest = r.rest; reads = read_right r.reads; left = r.left; fine = r.fine } }

pub gives_call : (s : Symbol) (x : Tree) {P : Parsed → Type 0} {ts : Tokens} → ((n : Parsed) → P n → build s n ≡ x) → Gives (rule limited s) P ts → Gives (call s) (IsMade x) ts
gives_call s x made a = record { from = λ ps us e. let r = a.from ps us e in record { node = Made (build s r.node); rest = r.rest; reads = read_rule r.reads; left = r.left; fine = subst (λ (z : Tree). IsMade x (Made z)) (sym (made r.node r.fine)) is_made } }

-- an optional part that isn't there
pub gives_none : {f : Form Symbol Kind} → Gives (maybe f) IsNil []
gives_none = record { from = λ ps us e. record { node = Nil; rest = ps; reads = read_right read_nothing; left = e; fine = is_nil } }

pub gives_no_more : {f : Form Symbol Kind} → Gives (many f) IsNil []
gives_no_more = record { from = λ ps us e. record { node = Nil; rest = ps; reads = read_many (read_right read_nothing); left = e; fine = is_nil } }

pub gives_more : {f : Form Symbol Kind} {P Q : Parsed → Type 0} {ts us : Tokens} → Gives f P ts → Gives (many f) Q us → Gives (many f) (Both P Q) (ts ++ us)
gives_more {ts = ts} {us = us} a b = record { from = λ ps vs e. let r = both_got ts us a b ps vs e in record { node = r.node; rest = r.rest; reads = read_many (read_left r.reads); left = r.left; fine = r.fine } }

-- what a list of parts has inside
pub record Collects {A : Type 0} (inside : Parsed → List A) (P : A → Parsed → Type 0) : Type 0 where
  pub none : inside Nil ≡ []
  pub some : (x : A) (xs : List A) (n k : Parsed) → P x n → inside k ≡ xs → inside (Pair n k) ≡ x ∷ xs

-- a list of parts
pub gives_many : {A : Type 0} {f : Form Symbol Kind} (written : A → Tokens) (inside : Parsed → List A) (P : A → Parsed → Type 0) → Collects inside P
    → (xs : List A) → Each (λ x. Gives f (P x) (written x)) xs → Gives (many f) (λ n. inside n ≡ xs) (all_tokens (map written xs))
gives_many written inside P c [] all = as_also (λ n p. nil p) gives_no_more
  where
    nil : {n : Parsed} → IsNil n → inside n ≡ []
    nil is_nil = c.none
gives_many written inside P c (x ∷ xs) all = as_also (λ n p. pair p) (gives_more all.0 (gives_many written inside P c xs all.1))
  where
    pair : {n : Parsed} → Both (P x) (λ k. inside k ≡ xs) n → inside n ≡ x ∷ xs
    pair (both {a = a} {b = b} p q) = c.some x xs a b p q
