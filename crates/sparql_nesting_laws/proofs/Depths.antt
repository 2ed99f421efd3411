-- Each query nests as deep as the limits count, in its expressions and in its groups.
use Rattle.std.specs.Prelude.{◌≡◌, ℕ, Bool, List, [], Ok}
use Rattle.std.proofs.Common.{subst}
use Rattle.grammar_meaning.specs.Grammar.{call, Node, Made, Reads}
use Rattle.query_meaning.specs.declared.query.Query.{Query}
use Rattle.sparql_meaning.specs.declared.token.Token.{Token}
use Rattle.sparql_meaning.specs.Cut.{cut}
use Rattle.sparql_grammar_meaning.specs.declared.lexeme.Lexeme.{Lexeme}
use Rattle.sparql_grammar_meaning.specs.Grammar.{Symbol, Query_, Read, build, grammar}
use Rattle.sparql_query_meaning.specs.declared.refusal.QueryLimit.{QueryLimit}
use Rattle.sparql_query_meaning.specs.Lexemes.{lexemes}
use Rattle.sparql_query_meaning.specs.Limits.{nothing_yet}
use Rattle.sparql_query_meaning.specs.Queries.{IsQueryWithin, is_query}
use Rattle.sparql_walk_laws.specs.Walks.{making}
use Rattle.sparql_query_laws.specs.Limits.{same_tokens}
use Rattle.sparql_nesting_laws.specs.Nesting.{expression_depth, group_depth, depth_reached, groups_reached, NestsTo, DepthsAre}
use Rattle.sparql_nesting_laws.proofs.Again.{made_again}
use Rattle.sparql_nesting_laws.proofs.Groups.{groups_only}
use Rattle.sparql_nesting_laws.proofs.Expressions.{depth_only}

module _ (depth : Symbol → Node Lexeme ℕ → ℕ) (ts : List Token) (n : ℕ) (only : (m : ℕ) → Reads (making depth) (call Query_) (lexemes ts) (Made m) [] → m ≡ n) where
  nests_to : (x : Read) → Reads grammar (call Query_) (lexemes ts) x [] → NestsTo depth ts n
  nests_to x r =
      let y = made_again build depth Query_ (lexemes ts) [] x r in
      record { is = subst (λ (m : ℕ). Reads (making depth) (call Query_) (lexemes ts) (Made m) []) (only y.tree y.reads) y.reads; only = only }

depths_are : (ts : List Token) (x : Read) → Reads grammar (call Query_) (lexemes ts) x [] → DepthsAre ts
depths_are ts x r = record {
  expressions = nests_to expression_depth ts (depth_reached nothing_yet ts) (depth_only ts) x r;
  groups = nests_to group_depth ts (groups_reached nothing_yet ts) (groups_only ts) x r;
}

pub query_depths : (counts : QueryLimit → Bool) (bytes : List ℕ) (ts : List Token) (q : Query) → IsQueryWithin counts bytes q → cut bytes ≡ Ok ts → DepthsAre ts
query_depths counts bytes ts q (is_query us w long cut quiet reads e) c = subst DepthsAre (same_tokens cut c) (depths_are us (Made _) reads)
