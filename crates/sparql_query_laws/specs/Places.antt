-- Places in a text without a fault, and the steps between them.
use Rattle.std.specs.Prelude.{◌≡◌, ℕ, ◌+◌, ◌≤◌, Bool, true, ◌&&◌, nat_lt, List, [], ◌∷◌, None, refl}
use Rattle.std.proofs.Common.{ap, ◌∙◌, subst}
use Rattle.std.proofs.lemmas.Bool.{ltb-false}
use Rattle.sparql_meaning.specs.declared.token.Token.{Token}
use Rattle.sparql_meaning.specs.declared.token.TokenKind.{TokenKind}
use Rattle.sparql_grammar_meaning.specs.declared.lexeme.Lexeme.{Lexeme}
use Rattle.sparql_query_meaning.specs.declared.refusal.QueryLimit.{QueryLimit}
use Rattle.sparql_query_meaning.specs.declared.refusal.QueryLimit.TheVariants as limits
use Rattle.sparql_query_meaning.specs.Lexemes.{named_by, lexeme, lexemes_from}
use Rattle.sparql_query_meaning.specs.Limits.{State, nothing_yet, goes_on, one_if, completes, state_after, next_kind, passed, fault_from, depth_of}
use Rattle.sparql_fragment_laws.specs.Within.{state_behind, counted_now, quiet_now, quiet_later, not_passed, nothing_passed}
use Rattle.sparql_walk_laws.specs.Walks.{Stepped}
use Rattle.sparql_query_laws.specs.Effects.{goes_by, after_by, groups_by, keys_by, depth_by, Effect, effect_by, after_is, effect, effect_is}

pub record At : Type 0 where
  pub counts : QueryLimit → Bool
  pub deep : counts limits.Depth ≡ true
  pub state : State
  pub tokens : List Token
  pub quiet : fault_from counts state tokens ≡ None

-- whether a tag or `^^` is next
abbrev pub goes : At → Bool
goes c = goes_on (next_kind c.tokens)

abbrev pub left : At → List Lexeme
left c = lexemes_from c.state.declaring c.state.prefixes c.state.names c.tokens

pub record Moved (c : At) (x : Lexeme) (d : At) : Type 0 where
  pub role : d.state.role ≡ after_by c.state.role c.state.groups x (goes d)
  pub patterns : d.state.patterns ≡ c.state.patterns + one_if (completes c.state.role d.state.role)
  pub groups : d.state.groups ≡ groups_by c.state.groups x
  pub keys : d.state.keys ≡ keys_by c.state.role c.state.keys x
  pub depth : depth_by c.state.role x ≤ 48
  pub goes : goes_on (next_kind c.tokens) ≡ goes_by x
  pub behind : state_behind c.state c.tokens ≡ state_behind d.state d.tokens

-- the depth isn't passed
pub depth_passed : (counts : QueryLimit → Bool) → counts limits.Depth ≡ true → (before after : State) (t : TokenKind) → passed counts before after t ≡ [] → depth_of before.role t ≤ 48
depth_passed counts deep before after t none =
    let patterns = not_passed _ limits.Patterns _ none in
    let keys = not_passed _ limits.Keys _ patterns.1 in
    let names = not_passed _ limits.Variables _ keys.1 in
    let groups = not_passed _ limits.Groups _ names.1 in
    let blocks = not_passed _ limits.Blocks _ groups.1 in
    let depth = not_passed (counts limits.Depth && nat_lt 48 (depth_of before.role t)) limits.Depth _ blocks.1 in
    ltb-false 48 (depth_of before.role t) (counted_now (counts limits.Depth) (nat_lt 48 (depth_of before.role t)) depth.0 deep)

pub same_first : {x y : Lexeme} {xs ys : List Lexeme} → x ∷ xs ≡ y ∷ ys → x ≡ y
same_first h = cc

pub same_rest : {x y : Lexeme} {xs ys : List Lexeme} → x ∷ xs ≡ y ∷ ys → xs ≡ ys
same_rest h = cc

pub no_first : {x : Lexeme} {xs : List Lexeme} → [] ≡ x ∷ xs → ⊥
no_first h = cc

module _ (counts : QueryLimit → Bool) (deep : counts limits.Depth ≡ true) (st : State) (t : Token) (ts : List Token) (quiet : fault_from counts st (t ∷ ts) ≡ None) where
  abbrev here : At
  here = record { counts = counts; deep = deep; state = st; tokens = t ∷ ts; quiet = quiet }

  nothing : passed counts st (state_after st t.kind (next_kind ts)) t.kind ≡ []
  nothing = nothing_passed counts st t.kind (next_kind ts) (quiet_now _ _ quiet)

  abbrev there : At
  there = record {
    counts = counts;
    deep = deep;
    state = state_after st t.kind (next_kind ts);
    tokens = ts;
    quiet = quiet_later _ _ quiet;
  }

  abbrev seen : Lexeme
  seen = lexeme st.prefixes (named_by st.names t.kind) t.kind

  same_effect : effect st.role st.groups st.keys t.kind (next_kind ts) ≡ effect_by st.role st.groups st.keys seen (goes_on (next_kind ts))
  same_effect = effect_is st.role st.groups st.keys st.prefixes (named_by st.names t.kind) t.kind (next_kind ts)

  moved : Moved here seen there
  moved = record {
    role = after_is st t.kind (next_kind ts) ∙ ap (λ (e : Effect). e.role) same_effect;
    patterns = refl;
    groups = ap (λ (e : Effect). e.groups) same_effect;
    keys = ap (λ (e : Effect). e.keys) same_effect;
    depth = subst (λ (n : ℕ). n ≤ 48) (ap (λ (e : Effect). e.depth) same_effect) (depth_passed counts deep st (state_after st t.kind (next_kind ts)) t.kind nothing);
    goes = ap (λ (e : Effect). e.goes) same_effect;
    behind = refl;
  }

  stepped : (x : Lexeme) (xs : List Lexeme) → left here ≡ x ∷ xs → Stepped Moved left here x xs
  stepped x xs e = record { to = there; step = subst (λ (z : Lexeme). Moved here z there) (same_first e) moved; rest = same_rest e }

abbrev with_tokens : (c : At) (ts : List Token) → fault_from c.counts c.state ts ≡ None → At
with_tokens c ts quiet = record { counts = c.counts; deep = c.deep; state = c.state; tokens = ts; quiet = quiet }

pub step : (c : At) (x : Lexeme) (xs : List Lexeme) → left c ≡ x ∷ xs → Stepped Moved left c x xs
step c x xs e = go c.tokens c.quiet e
  where
    go : (ts : List Token) (quiet : fault_from c.counts c.state ts ≡ None) → left (with_tokens c ts quiet) ≡ x ∷ xs → Stepped Moved left (with_tokens c ts quiet) x xs
    go [] quiet h = absurd (no_first h)
    go (t ∷ ts) quiet h = stepped c.counts c.deep c.state t ts quiet x xs h

abbrev pub first_place : (counts : QueryLimit → Bool) → counts limits.Depth ≡ true → (ts : List Token) → fault_from counts nothing_yet ts ≡ None → At
first_place counts deep ts quiet = record { counts = counts; deep = deep; state = nothing_yet; tokens = ts; quiet = quiet }
