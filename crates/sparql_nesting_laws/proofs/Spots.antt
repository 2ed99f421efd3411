-- Places in a text, and the steps between them.
use Rattle.std.specs.Prelude.{◌≡◌, ◌≤◌, ℕ, max, Bool, List, [], ◌∷◌, refl}
use Rattle.std.proofs.Common.{ap, ◌∙◌, subst, arith}
use Rattle.sparql_meaning.specs.declared.token.Token.{Token}
use Rattle.sparql_grammar_meaning.specs.declared.lexeme.Lexeme.{Lexeme}
use Rattle.sparql_query_meaning.specs.Lexemes.{named_by, lexeme, lexemes_from}
use Rattle.sparql_query_meaning.specs.Limits.{State, goes_on, state_after, next_kind}
use Rattle.sparql_walk_laws.specs.Walks.{Stepped}
use Rattle.sparql_query_laws.specs.Effects.{goes_by, after_by, groups_by, depth_by, Effect, effect_by, after_is, effect, effect_is}
use Rattle.sparql_query_laws.specs.Places.{same_first, same_rest, no_first}
use Rattle.sparql_query_laws.specs.Limits.{no_tokens}
use Rattle.sparql_nesting_laws.specs.Nesting.{depth_reached, groups_reached}

pub record Spot : Type 0 where
  pub state : State
  pub tokens : List Token

-- whether a tag or `^^` is next
abbrev pub goes : Spot → Bool
goes c = goes_on (next_kind c.tokens)

abbrev pub left : Spot → List Lexeme
left c = lexemes_from c.state.declaring c.state.prefixes c.state.names c.tokens

abbrev pub depth_from : Spot → ℕ
depth_from c = depth_reached c.state c.tokens

abbrev pub groups_from : Spot → ℕ
groups_from c = groups_reached c.state c.tokens

pub record Moved (c : Spot) (x : Lexeme) (d : Spot) : Type 0 where
  pub role : d.state.role ≡ after_by c.state.role c.state.groups x (goes d)
  pub groups : d.state.groups ≡ groups_by c.state.groups x
  pub goes : goes_on (next_kind c.tokens) ≡ goes_by x
  pub depth : depth_from c ≡ max (depth_by c.state.role x) (depth_from d)
  pub opened : groups_from c ≡ max c.state.groups (groups_from d)

module _ (st : State) (t : Token) (ts : List Token) where
  abbrev here : Spot
  here = record { state = st; tokens = t ∷ ts }

  abbrev there : Spot
  there = record { state = state_after st t.kind (next_kind ts); tokens = ts }

  abbrev seen : Lexeme
  seen = lexeme st.prefixes (named_by st.names t.kind) t.kind

  same_effect : effect st.role st.groups st.keys t.kind (next_kind ts) ≡ effect_by st.role st.groups st.keys seen (goes_on (next_kind ts))
  same_effect = effect_is st.role st.groups st.keys st.prefixes (named_by st.names t.kind) t.kind (next_kind ts)

  moved : Moved here seen there
  moved = record {
    role = after_is st t.kind (next_kind ts) ∙ ap (λ (e : Effect). e.role) same_effect;
    groups = ap (λ (e : Effect). e.groups) same_effect;
    goes = ap (λ (e : Effect). e.goes) same_effect;
    depth = ap (λ (e : Effect). max e.depth (depth_from there)) same_effect;
    opened = refl;
  }

  stepped : (x : Lexeme) (xs : List Lexeme) → left here ≡ x ∷ xs → Stepped Moved left here x xs
  stepped x xs e = record { to = there; step = subst (λ (z : Lexeme). Moved here z there) (same_first e) moved; rest = same_rest e }

abbrev with_tokens : Spot → List Token → Spot
with_tokens c ts = record { state = c.state; tokens = ts }

pub step : (c : Spot) (x : Lexeme) (xs : List Lexeme) → left c ≡ x ∷ xs → Stepped Moved left c x xs
step c x xs e = go c.tokens e
  where
    go : (ts : List Token) → left (with_tokens c ts) ≡ x ∷ xs → Stepped Moved left (with_tokens c ts) x xs
    go [] h = absurd (no_first h)
    go (t ∷ ts) h = stepped c.state t ts x xs h

-- behind the last token
pub ended : (c : Spot) → left c ≡ [] → c.tokens ≡ []
ended c h = no_tokens c.state.declaring c.state.prefixes c.state.names c.tokens h

pub least : (c : Spot) → c.state.groups ≤ groups_from c
least c = go c.tokens
  where
    go : (ts : List Token) → c.state.groups ≤ groups_reached c.state ts
    go [] = omega arith
    go (t ∷ ts) = omega arith
