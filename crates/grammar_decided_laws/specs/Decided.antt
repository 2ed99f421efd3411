-- Grammars in which the next token decides what is read.
-- This project's own: the test is that of LL(1) grammars.
use Rattle.std.specs.Prelude.{Bool, true, false, IsTrue, ◌≡◌, ◌⊎◌}
use Rattle.grammar_meaning.specs.Grammar.{Form, nothing, one, call, ◌⨾◌, ◌∣◌, many, Grammar}
use Rattle.grammar_meaning.specs.Outcome.{or, and, implies, nullable, first, Lookahead}

-- the kinds of tokens that may stand behind a shorter text of the form and go on with it
abbrev pub goes_on : {S K : Type 0} → (S → Bool) → (S → K → Bool) → (S → K → Bool) → Form S K → K → Bool
goes_on empty begins after nothing k = false
goes_on empty begins after (one p) k = false
goes_on empty begins after (call s) k = after s k
goes_on empty begins after (f ⨾ g) k = or (goes_on empty begins after g k) (and (nullable empty g) (or (first empty begins g k) (goes_on empty begins after f k)))
goes_on empty begins after (f ∣ g) k =
    or (or (goes_on empty begins after f k) (goes_on empty begins after g k)) (or (and (nullable empty f) (first empty begins g k)) (and (nullable empty g) (first empty begins f k)))
goes_on empty begins after (many f) k = or (goes_on empty begins after f k) (first empty begins f k)

-- no kind passes both tests
abbrev pub is_apart : {K : Type 0} → ((K → Bool) → Bool) → (K → Bool) → (K → Bool) → Bool
is_apart every p q = every (λ k. implies (p k) (implies (q k) false))

-- In a sequence no token that goes on with the first part begins the second; in a choice no token begins both parts, and
-- one part at most reads the empty text; what is repeated reads some tokens, and none that goes on with it begins it.
abbrev pub is_decided : {S K : Type 0} → ((K → Bool) → Bool) → (S → Bool) → (S → K → Bool) → (S → K → Bool) → Form S K → Bool
is_decided every empty begins after nothing = true
is_decided every empty begins after (one p) = true
is_decided every empty begins after (call s) = true
is_decided every empty begins after (f ⨾ g) =
    and (is_decided every empty begins after f) (and (is_decided every empty begins after g) (is_apart every (goes_on empty begins after f) (first empty begins g)))
is_decided every empty begins after (f ∣ g) =
    and (is_decided every empty begins after f) (and (is_decided every empty begins after g)
    (and (implies (nullable empty f) (implies (nullable empty g) false)) (is_apart every (first empty begins f) (first empty begins g))))
is_decided every empty begins after (many f) =
    and (is_decided every empty begins after f) (and (implies (nullable empty f) false) (is_apart every (goes_on empty begins after f) (first empty begins f)))

-- the grammar with other rules
abbrev pub with_rules : (G : Grammar) → (G.Symbol → Form G.Symbol G.Kind) → Grammar
with_rules G r = record { Symbol = G.Symbol; Kind = G.Kind; Token = G.Token; Tree = G.Tree; kind = G.kind; rule = r; build = G.build }

-- a form that reads nothing, and has the empty front alone
abbrev pub refuses_all : {S K : Type 0} → Form S K
refuses_all = one (λ k. false)

-- Tables of a grammar that show that the next token decides, tested against its rules; and other rules, by which some
-- symbols that read some tokens read nothing at all.
pub record Decided (G : Grammar) (r : G.Symbol → Form G.Symbol G.Kind) : Type 0 where
  pub empty : G.Symbol → Bool
  pub begins : G.Symbol → G.Kind → Bool
  pub after : G.Symbol → G.Kind → Bool
  pub every : (G.Kind → Bool) → Bool
  pub each : (p : G.Kind → Bool) → IsTrue (every p) → (k : G.Kind) → IsTrue (p k)
  pub all : (p : G.Kind → Bool) → ((k : G.Kind) → IsTrue (p k)) → IsTrue (every p)
  pub empty_right : (s : G.Symbol) → IsTrue (implies (nullable empty (G.rule s)) (empty s))
  pub begins_right : (s : G.Symbol) → IsTrue (every (λ k. implies (first empty begins (G.rule s) k) (begins s k)))
  pub empty_less : (s : G.Symbol) → IsTrue (implies (nullable empty (r s)) (empty s))
  pub begins_less : (s : G.Symbol) → IsTrue (every (λ k. implies (first empty begins (r s) k) (begins s k)))
  pub after_right : (s : G.Symbol) → IsTrue (every (λ k. implies (goes_on empty begins after (G.rule s) k) (after s k)))
  pub decided : (s : G.Symbol) → IsTrue (is_decided every empty begins after (G.rule s))
  pub cut : (s : G.Symbol) → (r s ≡ G.rule s) ⊎ ((r s ≡ refuses_all) × IsTrue (implies (empty s) false))

abbrev pub look : {G : Grammar} {r : G.Symbol → Form G.Symbol G.Kind} → Decided G r → Lookahead G
look D = record { empty = D.empty; begins = D.begins; every = D.every; each = D.each; empty_right = D.empty_right; begins_right = D.begins_right }

abbrev pub look_less : {G : Grammar} {r : G.Symbol → Form G.Symbol G.Kind} → Decided G r → Lookahead (with_rules G r)
look_less D = record { empty = D.empty; begins = D.begins; every = D.every; each = D.each; empty_right = D.empty_less; begins_right = D.begins_less }
