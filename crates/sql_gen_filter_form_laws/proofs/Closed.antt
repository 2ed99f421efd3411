-- What holds of an expression of a kind and a depth, where it holds of the parts: the kinds of SQL that filters are built of.
use Rattle.std.specs.Prelude.{◌≡◌, ℕ, ◌+◌, ◌≤◌, Bool, true, nat_lt, List, [], ◌∷◌, pos}
use Rattle.std.specs.List.{AllByRecursion}
use Rattle.rdf_meaning.specs.Terms.{RdfTerm}
use Rattle.rdf_meaning.specs.declared.text.KnownDatatype.TheVariants.{String}
use Rattle.rdf_meaning.specs.Known.{known_bytes}
use Rattle.table_meaning.specs.declared.kind.Kind.{Kind}
use Rattle.table_meaning.specs.declared.kind.Kind.TheVariants as kind
use Rattle.sql_meaning.specs.declared.expression.SqlExpr.{SqlExpr}
use Rattle.sql_meaning.specs.declared.expression.SqlExpr.TheVariants as sql
use Rattle.sql_meaning.specs.declared.expression.Branch.{Branch}
use Rattle.query_eval_meaning.specs.Expressions.{lang_string}
use Rattle.sql_gen_filter_meaning.specs.Columns.{ValueSql, variable_value, constant_value}

-- it holds of each of the four columns
pub record OfColumns (Q : Kind → ℕ → SqlExpr → Type 0) (n : ℕ) (a : ValueSql) : Type 0 where
  pub class : Q kind.Int n a.class
  pub number : Q kind.Int n a.number
  pub text : Q kind.Text n a.text
  pub aux : Q kind.Text n a.aux

pub record OfBranch (Q : Kind → ℕ → SqlExpr → Type 0) (k : Kind) (n : ℕ) (b : Branch) : Type 0 where
  pub test : Q kind.Truth n b.test
  pub value : Q k n b.value

pub record Closed (Q : Kind → ℕ → SqlExpr → Type 0) (variable : ℕ → Bool) (constant : RdfTerm → Bool) : Type 0 where
  pub more : (k : Kind) (n m : ℕ) (e : SqlExpr) → n ≤ m → Q k n e → Q k m e
  pub variables : (v : ℕ) → variable v ≡ true → OfColumns Q 1 (variable_value v)
  pub constants : (t : RdfTerm) → constant t ≡ true → OfColumns Q 1 (constant_value t)
  pub number : (n : ℕ) → nat_lt n 10 ≡ true → Q kind.Int 1 (sql.Int (pos n))
  pub empty_text : Q kind.Text 1 (sql.Text [])
  pub string_type : Q kind.Text 1 (sql.Text (known_bytes String))
  pub lang_type : Q kind.Text 1 (sql.Text lang_string)
  pub truth : (b : Bool) → Q kind.Truth 1 (sql.Truth b)
  pub null : (k : Kind) → Q k 1 (sql.Null k)
  pub equal : (k : Kind) (n : ℕ) (a b : SqlExpr) → Q k n a → Q k n b → Q kind.Truth (n + 1) (sql.Equal a b)
  pub less : (k : Kind) (n : ℕ) (a b : SqlExpr) → Q k n a → Q k n b → Q kind.Truth (n + 1) (sql.Less a b)
  pub all : (n : ℕ) (e f : SqlExpr) (es : List SqlExpr) → AllByRecursion (Q kind.Truth n) (e ∷ f ∷ es) → Q kind.Truth (n + 1) (sql.All (e ∷ f ∷ es))
  pub any : (n : ℕ) (e f : SqlExpr) (es : List SqlExpr) → AllByRecursion (Q kind.Truth n) (e ∷ f ∷ es) → Q kind.Truth (n + 1) (sql.Any (e ∷ f ∷ es))
  pub negation : (n : ℕ) (e : SqlExpr) → Q kind.Truth n e → Q kind.Truth (n + 1) (sql.Not e)
  pub is_null : (k : Kind) (n : ℕ) (e : SqlExpr) → Q k n e → Q kind.Truth (n + 1) (sql.IsNull e)
  pub choice : (k : Kind) (n : ℕ) (b : Branch) (bs : List Branch) (last : SqlExpr) → AllByRecursion (OfBranch Q k n) (b ∷ bs) → Q k n last → Q k (n + 1) (sql.Case (b ∷ bs) last)
