-- How deep a query nests, in its expressions and in its groups: by the grammar, and as the limits count along its text.
use Rattle.std.specs.Prelude.{◌≡◌, ◌≤◌, ℕ, ◌+◌, max, Bool, true, false, List, [], ◌∷◌}
use Rattle.grammar_meaning.specs.Grammar.{call, Node, Nil, Leaf, Pair, Made, Reads}
use Rattle.query_meaning.specs.declared.query.Query.{Query}
use Rattle.sparql_meaning.specs.declared.token.Token.{Token}
use Rattle.sparql_grammar_meaning.specs.declared.lexeme.Sign.TheVariants as s
use Rattle.sparql_grammar_meaning.specs.declared.lexeme.Lexeme.{Lexeme}
use Rattle.sparql_grammar_meaning.specs.declared.lexeme.Lexeme.TheVariants as l
use Rattle.sparql_grammar_meaning.specs.Grammar.{Symbol, Query_, Key_}
use Rattle.sparql_query_meaning.specs.declared.refusal.QueryLimit.{QueryLimit}
use Rattle.sparql_query_meaning.specs.declared.refusal.QueryLimit.TheVariants as limits
use Rattle.sparql_query_meaning.specs.Lexemes.{lexemes}
use Rattle.sparql_query_meaning.specs.Limits.{one_if, State, nothing_yet, state_after, next_kind, depth_of}
use Rattle.sparql_query_meaning.specs.Queries.{IsQueryWithin}
use Rattle.sparql_walk_laws.specs.Walks.{making}

-- ---- by the grammar, whose symbols make depths in place of trees

-- in an expression
abbrev pub opens_part : Lexeme → Bool
opens_part (l.Sign s.OpenBracket) = true
opens_part (l.Sign s.Bang) = true
opens_part x = false

abbrev pub opens_group : Lexeme → Bool
opens_group (l.Sign s.OpenBrace) = true
opens_group x = false

abbrev pub begins_with : (Lexeme → Bool) → Node Lexeme ℕ → Bool
begins_with opens (Leaf x) = opens x
begins_with opens n = false

-- What stands behind a token that opens is one deeper: what it opens ends where its rule ends. Of what stands side by side the deepest
-- counts.
abbrev pub nesting : (Lexeme → Bool) → Node Lexeme ℕ → ℕ
nesting opens Nil = 0
nesting opens (Leaf x) = 0
nesting opens (Made n) = n
nesting opens (Pair n m) = max (nesting opens n) (one_if (begins_with opens n) + nesting opens m)

-- the brackets of a key of the order are no part of an expression
abbrev pub expression_depth : Symbol → Node Lexeme ℕ → ℕ
expression_depth Key_ n = 0
expression_depth y n = nesting opens_part n

abbrev pub group_depth : Symbol → Node Lexeme ℕ → ℕ
group_depth y n = nesting opens_group n

-- ---- along the tokens

-- the greatest depth at a token
abbrev pub depth_reached : State → List Token → ℕ
depth_reached st [] = 0
depth_reached st (t ∷ ts) = max (depth_of st.role t.kind) (depth_reached (state_after st t.kind (next_kind ts)) ts)

-- the greatest number of groups that are open at once
abbrev pub groups_reached : State → List Token → ℕ
groups_reached st [] = st.groups
groups_reached st (t ∷ ts) = max st.groups (groups_reached (state_after st t.kind (next_kind ts)) ts)

-- ---- the depths that are counted are those of the grammar

-- the tokens are a query that nests so deep, in whichever way the grammar reads them
pub record NestsTo (depth : Symbol → Node Lexeme ℕ → ℕ) (ts : List Token) (n : ℕ) : Type 0 where
  pub is : Reads (making depth) (call Query_) (lexemes ts) (Made n) []
  pub only : (m : ℕ) → Reads (making depth) (call Query_) (lexemes ts) (Made m) [] → m ≡ n

pub record DepthsAre (ts : List Token) : Type 0 where
  pub expressions : NestsTo expression_depth ts (depth_reached nothing_yet ts)
  pub groups : NestsTo group_depth ts (groups_reached nothing_yet ts)

-- ---- the limits

-- brackets and `!` open at once
abbrev pub most_depth : ℕ
most_depth = 48

-- groups open at once
abbrev pub most_groups : ℕ
most_groups = 24

-- with the limit on the depth of expressions left out
abbrev pub without_depth : (QueryLimit → Bool) → QueryLimit → Bool
without_depth counts limits.Depth = false
without_depth counts q = counts q

-- with the limit on open groups left out
abbrev pub without_groups : (QueryLimit → Bool) → QueryLimit → Bool
without_groups counts limits.Groups = false
without_groups counts q = counts q

pub record NestsWithin (depth : Symbol → Node Lexeme ℕ → ℕ) (ts : List Token) (most : ℕ) : Type 0 where
  pub reached : ℕ
  pub reads : Reads (making depth) (call Query_) (lexemes ts) (Made reached) []
  pub few : reached ≤ most

-- a text is a query where the limit counts just where it is one without the limit, and nests no deeper
pub record LimitIs (counts others : QueryLimit → Bool) (depth : Symbol → Node Lexeme ℕ → ℕ) (most : ℕ) (bytes : List ℕ) (ts : List Token) : Type 0 where
  pub keeps : (q : Query) → IsQueryWithin counts bytes q → IsQueryWithin others bytes q × NestsWithin depth ts most
  pub only : (q : Query) → IsQueryWithin others bytes q → NestsWithin depth ts most → IsQueryWithin counts bytes q

pub record LimitsAre (counts : QueryLimit → Bool) (bytes : List ℕ) (ts : List Token) : Type 0 where
  pub depth : counts limits.Depth ≡ true → LimitIs counts (without_depth counts) expression_depth most_depth bytes ts
  pub groups : counts limits.Groups ≡ true → LimitIs counts (without_groups counts) group_depth most_groups bytes ts
