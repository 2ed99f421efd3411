-- The grammar with one symbol for what a comparison or a truth is made of: a value, a test, or a truth in brackets. In it the next
-- token decides what is read.
use Rattle.std.specs.Prelude.{Bool, IsTrue, List, [], ◌∷◌}
use Rattle.std.proofs.Common.{refl, inl}
use Rattle.grammar_meaning.specs.Grammar.{Form, call, ◌⨾◌, ◌∣◌, maybe, Leaf, Pair, Made, Nil, Grammar}
use Rattle.grammar_meaning.specs.Outcome.{implies, nullable, first, every_of}
use Rattle.grammar_meaning.specs.Laws.{and_both}
use Rattle.grammar_decided_laws.specs.Decided.{goes_on, is_decided, Decided}
use Rattle.rdf_meaning.specs.Terms.{iri as iri_term}
use Rattle.query_meaning.specs.declared.expression.ValueExpr.TheVariants as v
use Rattle.query_meaning.specs.declared.expression.TruthExpr.TheVariants as t
use Rattle.sparql_grammar_meaning.specs.declared.lexeme.Lexeme.{Lexeme}
use Rattle.sparql_grammar_meaning.specs.declared.lexeme.Sign.TheVariants as s
use Rattle.sparql_grammar_meaning.specs.Grammar.{Kind, sign, test, variable, kind, among, Symbol, Query_, Compared_, Rel_, Prim_, Atom_, Iri_, Literal_, Fun_, Test_, Truth_, Operator_, Value_, mark, word, rule, Tree, nothing_made, an_iri, a_literal, a_value, a_truth, Read, tree_of, value_in, truth_in, with_tail, tail_in, build}
use Rattle.sparql_grammar_meaning.specs.Table.{empty, begins, after, kinds, each}

-- an operand with or without an operator, or one behind `!`
abbrev pub relation : Form Symbol Kind
relation = (call Atom_ ⨾ maybe (call Operator_)) ∣ (word s.Bang ⨾ call Atom_)

abbrev pub operand : Form Symbol Kind
operand = mark variable ∣ call Iri_ ∣ call Literal_ ∣ call Fun_ ∣ call Test_ ∣ (word s.OpenBracket ⨾ call Truth_ ⨾ word s.CloseBracket)

abbrev pub merged_rule : Symbol → Form Symbol Kind
merged_rule Rel_ = relation
merged_rule Compared_ = relation
merged_rule Prim_ = relation
merged_rule Atom_ = operand
merged_rule x = rule x

abbrev pub related : Read → Tree
related (Pair (Leaf bang) x) = a_truth (t.Not (truth_in x))
related (Pair x Nil) = tree_of x
related (Pair x tail) = a_truth (with_tail (value_in x) (tail_in tail))
related x = nothing_made

abbrev pub as_value : Tree → Tree
as_value (an_iri i) = a_value (v.Const (iri_term i))
as_value (a_literal term) = a_value (v.Const term)
as_value x = x

abbrev pub in_operand : Read → Tree
in_operand (Pair opening (Pair x close)) = tree_of x
in_operand (Made x) = as_value x
in_operand x = a_value (value_in x)

abbrev pub merged_build : Symbol → Read → Tree
merged_build Rel_ n = related n
merged_build Compared_ n = related n
merged_build Prim_ n = related n
merged_build Atom_ n = in_operand n
merged_build x n = build x n

abbrev pub merged : Grammar
merged = record { Symbol = Symbol; Kind = Kind; Token = Lexeme; Tree = Tree; kind = kind; rule = merged_rule; build = merged_build }

-- ---- the next token decides

abbrev pub begin : Symbol → List Kind
begin Compared_ = begins Rel_
begin Prim_ = begins Rel_
begin Atom_ = sign s.Bound ∷ sign s.SameTerm ∷ test ∷ begins Value_
begin x = begins x

abbrev pub behind : Symbol → List Kind
behind Prim_ = after Rel_
behind Atom_ = after Value_
behind x = after x

abbrev pub begin_by : Symbol → Kind → Bool
begin_by x = among (begin x)

abbrev pub behind_by : Symbol → Kind → Bool
behind_by x = among (behind x)

pub every_kind : (p : Kind → Bool) → ((k : Kind) → IsTrue (p k)) → (ks : List Kind) → IsTrue (every_of ks p)
every_kind p h [] = refl
every_kind p h (k ∷ ks) = and_both (p k) (every_of ks p) (h k) (every_kind p h ks)

pub empty_right : (x : Symbol) → IsTrue (implies (nullable empty (merged_rule x)) (empty x))
empty_right Query_ = refl
empty_right x = refl

pub begins_right : (x : Symbol) → IsTrue (every_of kinds (λ k. implies (first empty begin_by (merged_rule x) k) (begin_by x k)))
begins_right Query_ = refl
begins_right x = refl

pub after_right : (x : Symbol) → IsTrue (every_of kinds (λ k. implies (goes_on empty begin_by behind_by (merged_rule x) k) (behind_by x k)))
after_right Query_ = refl
after_right x = refl

pub decided : (x : Symbol) → IsTrue (is_decided (every_of kinds) empty begin_by behind_by (merged_rule x))
decided Query_ = refl
decided x = refl

abbrev pub tables : Decided merged merged_rule
tables = record {
  empty = empty;
  begins = begin_by;
  after = behind_by;
  every = every_of kinds;
  each = each;
  all = λ p h. every_kind p h kinds;
  empty_right = empty_right;
  begins_right = begins_right;
  empty_less = empty_right;
  begins_less = begins_right;
  after_right = after_right;
  decided = decided;
  cut = λ x. inl refl;
}
