-- How far a form reads, exactly: what a reader owes of each form and symbol.
use Rattle.std.specs.Prelude.{Bool, true, false, IsTrue, List, [], ◌∷◌, ◌≡◌, ◌≤◌, ◌⊎◌, length, ℕ, zero, suc}
use Rattle.std.proofs.Common.{Option, Some, None}
use Rattle.grammar_meaning.specs.Grammar.{Form, nothing, one, call, ◌⨾◌, ◌∣◌, many, Node, Grammar, Reads, Front}

-- the first token is of one of the kinds
abbrev pub Begins : (G : Grammar) → (G.Kind → Bool) → List G.Token → Type 0
Begins G e [] = ⊥
Begins G e (t ∷ ts) = IsTrue (e (G.kind t))

-- of the front of ts the form reads n up to us and nothing else, but for shorter texts behind which a token of e stands,
-- and no front of it goes beyond us
pub record Most (G : Grammar) (e : G.Kind → Bool) (f : Form G.Symbol G.Kind) (ts : List G.Token) (n : Node G.Token G.Tree) (us : List G.Token) : Type 0 where
  pub only : (m : Node G.Token G.Tree) (ws : List G.Token) → Reads G f ts m ws → ((m ≡ n) × (ws ≡ us)) ⊎ Begins G e ws
  pub within : (ws : List G.Token) → Front G f ts ws → length us ≤ length ws

-- it reads only texts behind which a token of e stands, and no front of it goes beyond us
pub record Lags (G : Grammar) (e : G.Kind → Bool) (f : Form G.Symbol G.Kind) (ts us : List G.Token) : Type 0 where
  pub only : (m : Node G.Token G.Tree) (ws : List G.Token) → Reads G f ts m ws → Begins G e ws
  pub within : (ws : List G.Token) → Front G f ts ws → length us ≤ length ws

-- the form reads n up to us
pub record Got (G : Grammar) (e : G.Kind → Bool) (f : Form G.Symbol G.Kind) (ts : List G.Token) (n : Node G.Token G.Tree) (us : List G.Token) : Type 0 where
  pub reads : Reads G f ts n us
  pub most : Most G e f ts n us

-- the tokens before us are a front of the form, and with the next one they are none
pub record Broke (G : Grammar) (e : G.Kind → Bool) (f : Form G.Symbol G.Kind) (ts us : List G.Token) : Type 0 where
  pub front : Front G f ts us
  pub lags : Lags G e f ts us

-- tests of forms, for a table of what begins a symbol and of which symbols read the empty text
abbrev pub or : Bool → Bool → Bool
or true b = true
or false b = b

abbrev pub and : Bool → Bool → Bool
and true b = b
and false b = false

abbrev pub implies : Bool → Bool → Bool
implies true b = b
implies false b = true

abbrev pub nullable : {S K : Type 0} → (S → Bool) → Form S K → Bool
nullable empty nothing = true
nullable empty (one p) = false
nullable empty (call s) = empty s
nullable empty (f ⨾ g) = and (nullable empty f) (nullable empty g)
nullable empty (f ∣ g) = or (nullable empty f) (nullable empty g)
nullable empty (many f) = true

abbrev pub first : {S K : Type 0} → (S → Bool) → (S → K → Bool) → Form S K → K → Bool
first empty begins nothing k = false
first empty begins (one p) k = p k
first empty begins (call s) k = begins s k
first empty begins (f ⨾ g) k = or (first empty begins f k) (and (nullable empty f) (first empty begins g k))
first empty begins (f ∣ g) k = or (first empty begins f k) (first empty begins g k)
first empty begins (many f) k = first empty begins f k

pub record Lookahead (G : Grammar) : Type 0 where
  pub empty : G.Symbol → Bool
  pub begins : G.Symbol → G.Kind → Bool
  pub every : (G.Kind → Bool) → Bool
  pub each : (p : G.Kind → Bool) → IsTrue (every p) → (k : G.Kind) → IsTrue (p k)
  pub empty_right : (s : G.Symbol) → IsTrue (implies (nullable empty (G.rule s)) (empty s))
  pub begins_right : (s : G.Symbol) → IsTrue (every (λ k. implies (first empty begins (G.rule s) k) (begins s k)))

-- a token behind which a part may end and begin the next one is none, and may end what they make
abbrev pub fits : (G : Grammar) → Lookahead G → (G.Kind → Bool) → (G.Kind → Bool) → Form G.Symbol G.Kind → Bool
fits G L e d g = L.every (λ k. implies (e k) (and (implies (first L.empty L.begins g k) false) (implies (nullable L.empty g) (d k))))

-- no text of the form begins here
abbrev pub NotBegun : (G : Grammar) → Lookahead G → Form G.Symbol G.Kind → List G.Token → Type 0
NotBegun G L f [] = Unit {0}
NotBegun G L f (t ∷ ts) = IsTrue (implies (first L.empty L.begins f (G.kind t)) false)

-- a test at each kind of a list
abbrev pub every_of : {K : Type 0} → List K → (K → Bool) → Bool
every_of [] p = true
every_of (k ∷ ks) p = and (p k) (every_of ks p)

abbrev pub at : {K : Type 0} → List K → ℕ → Option K
at [] n = None
at (k ∷ ks) zero = Some k
at (k ∷ ks) (suc n) = at ks n
