-- What a reader of a symbol answers, exactly, and what is in front of it.
use Rattle.std.proofs.Common.{Bool, true, false, IsTrue, List, [], ◌∷◌, ◌≡◌, length, refl, ap, subst, sym, ◌∙◌, Some}
use Rattle.std.proofs.lemmas.Bool.{ne_eqb}
use Rattle.grammar_meaning.specs.Grammar.{Form, call, ◌⨾◌, many, Node, Leaf, Made, Reads}
use Rattle.grammar_meaning.specs.Outcome.{Begins, Got, Broke, NotBegun, implies, or, first, every_of, at}
use Rattle.grammar_meaning.specs.Laws.{mp}
use Rattle.grammar_meaning.specs.Exact.{got_one}
use Rattle.grammar_meaning.specs.Parts.{BreaksFirst}
use Rattle.sparql_grammar_meaning.specs.declared.lexeme.Lexeme.{Lexeme}
use Rattle.sparql_grammar_meaning.specs.declared.lexeme.Lexeme.TheVariants as l
use Rattle.sparql_grammar_meaning.specs.declared.lexeme.Sign.{Sign}
use Rattle.sparql_grammar_meaning.specs.Grammar.{Kind, sign, kind, code, sign_code, is, among, Symbol, mark, grammar, Tree}
use Rattle.sparql_grammar_meaning.specs.Table.{look, begins, after, kinds, listed, each}
use Rattle.sparql_cursor.specs.declared.refusal.Refusal.{Refusal}
use Rattle.sparql_cursor.specs.declared.refusal.Refusal.TheVariants.{NoMemory, Syntax}

-- the symbol reads the tree up to us
pub data Gets (s : Symbol) (ts : List Lexeme) (x : Tree) (us : List Lexeme) : Type 0 where
  gets : Got grammar (among (after s)) (call s) ts (Made x) us → Gets s ts x us

-- the symbol is broken at us
pub data Breaks (s : Symbol) (ts us : List Lexeme) : Type 0 where
  breaks : Broke grammar (among (after s)) (call s) ts us → Breaks s ts us

pub got : {s : Symbol} {ts us : List Lexeme} {x : Tree} → Gets s ts x us → Got grammar (among (after s)) (call s) ts (Made x) us
got (gets a) = a

pub broke : {s : Symbol} {ts us : List Lexeme} → Breaks s ts us → Broke grammar (among (after s)) (call s) ts us
broke (breaks a) = a

-- what a refusal says of the tokens
pub data Stops (s : Symbol) (ts : List Lexeme) : Refusal → Type 0 where
  stops_memory : Stops s ts NoMemory
  stops_at : (us : List Lexeme) → Breaks s ts us → Stops s ts (Syntax (length us))

-- a refusal is handed on
pub handed : {s z : Symbol} {ts us : List Lexeme} {r : Refusal} → ((ws : List Lexeme) → Breaks s ts ws → Breaks z us ws) → Stops s ts r → Stops z us r
handed f stops_memory = stops_memory
handed f (stops_at ws a) = stops_at ws (f ws a)

-- no token of the kind is in front
abbrev pub IsNot : Kind → List Lexeme → Type 0
IsNot a [] = Unit {0}
IsNot a (t ∷ ts) = is a (kind t) ≡ false

-- no token of the kinds is in front
abbrev pub NoneOf : List Kind → List Lexeme → Type 0
NoneOf ks [] = Unit {0}
NoneOf ks (t ∷ ts) = among ks (kind t) ≡ false

-- a token of the kinds is in front
abbrev pub SomeOf : List Kind → List Lexeme → Type 0
SomeOf ks [] = ⊥
SomeOf ks (t ∷ ts) = IsTrue (among ks (kind t))

-- the tokens are a text of the symbol that means the tree, and nothing else
pub data IsText (s : Symbol) (ts : List Lexeme) (x : Tree) : Type 0 where
  is_text : Reads grammar (call s) ts (Made x) [] → ((n : Node Lexeme Tree) → Reads grammar (call s) ts n [] → n ≡ Made x) → IsText s ts x

-- the tokens are no text of the symbol, and the refusal names the first one with which they begin none
pub data Rejects (s : Symbol) (ts : List Lexeme) : Refusal → Type 0 where
  rejects_memory : Rejects s ts NoMemory
  rejects_at : (us : List Lexeme) → BreaksFirst grammar (call s) ts us → Rejects s ts (Syntax (length us))

pub or_false : (b : Bool) → or b false ≡ b
or_false true = refl
or_false false = refl

-- a form that begins with one of these kinds doesn't begin here
pub not_first : (ks : List Kind) (f : Form Symbol Kind) → ((k : Kind) → first look.empty look.begins f k ≡ among ks k) → (ts : List Lexeme) → NoneOf ks ts → NotBegun grammar look f ts
not_first ks f same [] h = tt
not_first ks f same (t ∷ ts) h = subst (λ b. IsTrue (implies b false)) (sym (same (kind t) ∙ h)) refl

pub not_kind : (a : Kind) (ts : List Lexeme) → IsNot a ts → NotBegun grammar look (mark a) ts
not_kind a [] h = tt
not_kind a (t ∷ ts) h = subst (λ b. IsTrue (implies b false)) (sym h) refl

-- a sequence that opens with a token
pub not_then : (a : Kind) (f : Form Symbol Kind) (ts : List Lexeme) → IsNot a ts → NotBegun grammar look (mark a ⨾ f) ts
not_then a f [] h = tt
not_then a f (t ∷ ts) h = subst (λ b. IsTrue (implies (or b false) false)) (sym h) refl

-- repeated sequences that open with a token
pub not_again : (a : Kind) (f : Form Symbol Kind) (ts : List Lexeme) → IsNot a ts → NotBegun grammar look ((mark a ⨾ f) ⨾ many (mark a ⨾ f)) ts
not_again a f [] h = tt
not_again a f (t ∷ ts) h = subst (λ b. IsTrue (implies (or (or b false) false) false)) (sym h) refl

pub not_begun : (s : Symbol) (ts : List Lexeme) → NoneOf (begins s) ts → NotBegun grammar look (call s) ts
not_begun s [] h = tt
not_begun s (t ∷ ts) h = subst (λ b. IsTrue (implies b false)) (sym h) refl

-- a token of the first kinds is in front, so the form doesn't begin here
pub apart : (ks : List Kind) (f : Form Symbol Kind) (ts : List Lexeme) → IsTrue (every_of kinds (λ k. implies (among ks k) (implies (first look.empty look.begins f k) false))) → SomeOf ks ts → NotBegun grammar look f ts
apart ks f [] c h = tt
apart ks f (t ∷ ts) c h = mp (among ks (kind t)) (implies (first look.empty look.begins f (kind t)) false) (each (λ k. implies (among ks k) (implies (first look.empty look.begins f k) false)) c (kind t)) h

pub ahead : (ks ds : List Kind) (ts : List Lexeme) → IsTrue (every_of kinds (λ k. implies (among ks k) (among ds k))) → SomeOf ks ts → Begins grammar (among ds) ts
ahead ks ds [] c h = h
ahead ks ds (t ∷ ts) c h = mp (among ks (kind t)) (among ds (kind t)) (each (λ k. implies (among ks k) (among ds k)) c (kind t)) h

-- one token of the kind
pub token : (e : List Kind) (a : Kind) (x : Lexeme) (ts : List Lexeme) → IsTrue (is a (kind x)) → Got grammar (among e) (mark a) (x ∷ ts) (Leaf x) ts
token e a x ts h = got_one {G = grammar} (among e) (is a) x ts h

-- a sign is known by its code
some_same : (a b : Sign) → Some (sign a) ≡ Some (sign b) → a ≡ b
some_same a b h = cc

sign_known : (a b : Sign) → sign_code a ≡ sign_code b → a ≡ b
sign_known a b h = some_same a b (sym (listed (sign a)) ∙ ap (λ n. at kinds n) h ∙ listed (sign b))

-- two signs that aren't the same have different codes
pub sign_apart : (a b : Sign) → (a ≡ b → ⊥) → is (sign a) (sign b) ≡ false
sign_apart a b h = ne_eqb (sign_code a) (sign_code b) (λ k. h (sign_known a b k))

pub ruleset sign_paths = (sign_apart)
