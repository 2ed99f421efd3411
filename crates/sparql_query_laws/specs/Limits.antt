-- What the counts and limits of a text say of its query.
use Rattle.std.specs.Prelude.{◌≡◌, ◌≤◌, ◌<◌, ◌^◌, ℕ, suc, ◌+◌, Bool, true, false, nat_le, List, [], ◌∷◌, length, None, Result, Ok, refl}
use Rattle.std.proofs.Common.{sym, ap, ◌∙◌, subst, arith}
use Rattle.grammar_meaning.specs.Grammar.{Made, Reads, call}
use Rattle.query_meaning.specs.declared.pattern.Pattern.{Pattern}
use Rattle.query_meaning.specs.declared.query.Group.{Group}
use Rattle.query_meaning.specs.declared.query.Query.{Query}
use Rattle.sparql_meaning.specs.declared.token.Token.{Token}
use Rattle.sparql_meaning.specs.declared.token.TokenKind.{TokenKind}
use Rattle.sparql_meaning.specs.declared.token.TokenKind.TheVariants as k
use Rattle.sparql_meaning.specs.declared.token.Mark.TheVariants as m
use Rattle.sparql_meaning.specs.Cut.{cut}
use Rattle.sparql_meaning.specs.Translation.{whole, group, translated}
use Rattle.sparql_grammar_meaning.specs.Grammar.{Query_, build, grammar, a_query, Written, group_of}
use Rattle.sparql_query_meaning.specs.declared.refusal.QueryLimit.{QueryLimit}
use Rattle.sparql_query_meaning.specs.declared.refusal.QueryLimit.TheVariants as limits
use Rattle.sparql_query_meaning.specs.Prefixes.{Declared, Declaring}
use Rattle.sparql_query_meaning.specs.Lexemes.{lexemes_from, lexemes, names}
use Rattle.sparql_query_meaning.specs.Limits.{State, nothing_yet, one_if, blocks_after, state_after, next_kind, fault_from}
use Rattle.sparql_query_meaning.specs.Queries.{numbered_group, syntax_of, IsQueryWithin, is_query}
use Rattle.sparql_translation_laws.specs.GroupInduction.{every_group}
use Rattle.sparql_translation_laws.specs.TreePatterns.{tree_patterns, gathered_patterns, patterns-whole}
use Rattle.sparql_fragment_laws.specs.Within.{CountsMost, state_behind, names_behind, within_text, few_names}
use Rattle.sparql_fragment_laws.specs.Numbers.{Numbers, number_in, Counted, counted, counted_group}
use Rattle.sparql_walk_laws.specs.Shapes.{symbol}
use Rattle.sparql_walk_laws.specs.Walks.{walk_symbol, walked}
use Rattle.sparql_query_laws.specs.Connectives.{connectives}
use Rattle.sparql_query_laws.specs.Passing.{tree_passes, translated_passes}
use Rattle.sparql_query_laws.specs.Sound.{MostShort}
use Rattle.sparql_query_laws.specs.Names.{cut_is_short}
use Rattle.sparql_query_laws.specs.Places.{At, left, step, first_place, Moved}
use Rattle.sparql_query_laws.specs.Counts.{Owes, owes, W, WrittenDone, WrittenAt, written_at, AtFirst, depth_tests, group_sized, keeps}

-- ---- the counts, as equations

abbrev pub is_open_brace : TokenKind → Bool
is_open_brace (k.Mark m.OpenBrace) = true
is_open_brace t = false

-- how many tokens are `{`
abbrev pub opened : List Token → ℕ
opened [] = 0
opened (t ∷ ts) = one_if (is_open_brace t.kind) + opened ts

-- behind the last token the counts are those of the query
pub record CountsAre (ts : List Token) (q : Query) : Type 0 where
  pub patterns : (state_behind nothing_yet ts).patterns ≡ length (tree_patterns q.tree)
  pub keys : (state_behind nothing_yet ts).keys ≡ length q.modifiers.keys
  pub names : (state_behind nothing_yet ts).names ≡ q.names
  pub blocks : (state_behind nothing_yet ts).blocks ≡ opened ts
  -- each one is closed
  pub groups : (state_behind nothing_yet ts).groups ≡ 0

blocks_step : (n : ℕ) (t : TokenKind) → blocks_after n t ≡ n + one_if (is_open_brace t)
blocks_step n (k.Mark m.OpenBrace) = refl
blocks_step n t = omega arith

blocks_behind : (st : State) (ts : List Token) → (state_behind st ts).blocks ≡ st.blocks + opened ts
blocks_behind st [] = omega arith
blocks_behind st (t ∷ ts) =
    let later = blocks_behind (state_after st t.kind (next_kind ts)) ts in
    let one = blocks_step st.blocks t.kind in
    omega (arith, later, one)

numbers_length : (n m : ℕ) (ps : List Pattern) → Numbers n ps m → n + length ps ≡ m
numbers_length n m [] h = omega (arith, h)
numbers_length n m (p ∷ ps) h = let e = numbers_length (suc n) m ps h.1 in omega (arith, e)

all_patterns : (g : Group) (size : ℕ) → (number_in g 1).after ≡ 1 + size → length (tree_patterns (whole (group (numbered_group g)))) ≡ size
all_patterns g size e =
    let all = numbers_length 1 (number_in g 1).after (gathered_patterns (group (number_in g 1).made)) (counted_group g (every_group Counted counted g) 1) in
    let same = ap length (patterns-whole (group (numbered_group g))) in
    omega (arith, all, same, e)

pub no_tokens : (d : Declaring) (ds : List Declared) (ns : List (List ℕ)) (ts : List Token) → lexemes_from d ds ns ts ≡ [] → ts ≡ []
no_tokens d ds ns [] h = refl
no_tokens d ds ns (t ∷ ts) h = absurd cc

-- what is read of a text, with the counts behind it
pub record ReadDone (ts : List Token) (w : Written) : Type 0 where
  pub to : At
  pub state : state_behind nothing_yet ts ≡ to.state
  pub groups : to.state.groups ≡ 0
  pub done : WrittenDone w to

at_first : (c : At) → c.state ≡ nothing_yet → AtFirst c
at_first c e = record {
  role = ap (λ (st : State). st.role) e;
  groups = ap (λ (st : State). st.groups) e;
  patterns = ap (λ (st : State). st.patterns) e;
  keys = ap (λ (st : State). st.keys) e;
}

done_by : (c d : At) (w : Written) → WrittenAt c d (a_query w) → c.state ≡ nothing_yet → WrittenDone w d
done_by c d w (written_at h) e = h (at_first c e)

read_by : (ts : List Token) (c d : At) (w : Written) → c.state ≡ nothing_yet → c.tokens ≡ ts → left d ≡ [] → W (symbol Query_) c d (Made (a_query w)) → ReadDone ts w
read_by ts c d w e f rest (walk_symbol (owes paced h)) =
    let ended = no_tokens d.state.declaring d.state.prefixes d.state.names d.tokens rest in
    record {
      to = d;
      state = sym (ap (λ (st : State). state_behind st c.tokens) e ∙ ap (state_behind nothing_yet) f) ∙ paced.later.behind ∙ ap (state_behind d.state) ended;
      groups = sym paced.later.groups ∙ ap (λ (st : State). st.groups) e;
      done = done_by c d w h e;
    }

read_done : (counts : QueryLimit → Bool) → counts limits.Depth ≡ true → (ts : List Token) (w : Written) → fault_from counts nothing_yet ts ≡ None → Reads grammar (call Query_) (lexemes ts) (Made (a_query w)) [] → ReadDone ts w
read_done counts deep ts w quiet r =
    let start : At = first_place counts deep ts quiet in
    let all = walked build Moved Owes left step keeps Query_ start [] (Made (a_query w)) r in
    read_by ts start all.to w refl refl all.rest all.walk

pub same_tokens : {xs ys : List Token} {c : Result (List Token) ℕ} → c ≡ Ok xs → c ≡ Ok ys → xs ≡ ys
same_tokens {xs = xs} {ys = ys} h k = let e : Ok xs ≡ Ok ys = sym h ∙ k in cc

counts_of : (ts : List Token) (w : Written) → ReadDone ts w → CountsAre ts (translated (syntax_of (names ts) w))
counts_of ts w r =
    let g : Group = group_of w.elements in
    let sized = group_sized w.elements r.done.sized in
    record {
      patterns = ap (λ (st : State). st.patterns) r.state ∙ r.done.patterns ∙ sym (all_patterns g r.done.sized.size (sized.adds 1));
      keys = ap (λ (st : State). st.keys) r.state ∙ r.done.keys;
      names = names_behind nothing_yet ts;
      blocks = blocks_behind nothing_yet ts ∙ (let z : 0 + opened ts ≡ opened ts = omega arith in z);
      groups = ap (λ (st : State). st.groups) r.state ∙ r.groups;
    }

pub query_counts : (counts : QueryLimit → Bool) → counts limits.Depth ≡ true → (bytes : List ℕ) (ts : List Token) (q : Query) → IsQueryWithin counts bytes q → cut bytes ≡ Ok ts → CountsAre ts q
query_counts counts deep bytes ts q (is_query us w long cut quiet reads e) c =
    subst (λ (z : List Token). CountsAre z q) (same_tokens cut c) (subst (CountsAre us) (sym e) (counts_of us w (read_done counts deep us w quiet reads)))

-- ---- the limits

pub record HasLimits (q : Query) : Type 0 where
  pub patterns : length (tree_patterns q.tree) ≤ 48
  pub names : length q.names ≤ 64
  pub keys : length q.modifiers.keys ≤ 64
  pub skip : q.modifiers.skip < 10 ^ 18
  pub most : MostShort q.modifiers.most
  -- 96 of them from 48 brackets and `!`, and one more for a group's conditions together
  pub connectives : tree_passes (λ (p : Pattern). true) (λ e. nat_le (connectives e) 97) q.tree ≡ true

written_limits : (counts : QueryLimit → Bool) → CountsMost counts → (ts : List Token) (w : Written) → fault_from counts nothing_yet ts ≡ None → Reads grammar (call Query_) (lexemes ts) (Made (a_query w)) []
    → length (names ts) ≤ 64 → HasLimits (translated (syntax_of (names ts) w))
written_limits counts most ts w quiet reads few =
    let r = read_done counts most.depth ts w quiet reads in
    let exact = counts_of ts w r in
    let within = within_text counts ts quiet in
    let short = cut_is_short ts w reads in
    record {
      patterns = let n = exact.patterns in let b = within.patterns most.patterns in omega (arith, n, b);
      names = few;
      keys = let n = exact.keys in let b = within.keys most.keys in omega (arith, n, b);
      skip = short.skip;
      most = short.most;
      connectives = translated_passes depth_tests w.elements r.done.sized.passes;
    }

pub query_limits : (counts : QueryLimit → Bool) → CountsMost counts → (bytes : List ℕ) (q : Query) → IsQueryWithin counts bytes q → HasLimits q
query_limits counts most bytes q (is_query ts w long cut quiet reads e) =
    let few = few_names counts most bytes q (is_query ts w long cut quiet reads e) in
    subst HasLimits (sym e) (written_limits counts most ts w quiet reads (subst (λ (x : Query). length x.names ≤ 64) e few))
