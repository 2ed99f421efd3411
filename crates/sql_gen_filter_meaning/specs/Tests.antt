-- Tests of values as SQL (SPARQL 1.1 Query, sections 17.2.2, 17.3 and 17.4): true, false, or null for an error.
use Rattle.std.specs.Prelude.{ℕ, true, false, List, [], ◌∷◌, map, pos}
use Rattle.table_meaning.specs.declared.kind.Kind.TheVariants as kind
use Rattle.sql_meaning.specs.declared.expression.SqlExpr.{SqlExpr}
use Rattle.sql_meaning.specs.declared.expression.SqlExpr.TheVariants as sql
use Rattle.query_meaning.specs.declared.expression.CompareOp.{CompareOp}
use Rattle.query_meaning.specs.declared.expression.CompareOp.TheVariants as op
use Rattle.query_meaning.specs.declared.expression.TermTest.{TermTest}
use Rattle.query_meaning.specs.declared.expression.TermTest.TheVariants as test
use Rattle.sql_gen_term_laws.specs.TermTable.{class_name, term_alias}
use Rattle.sql_gen_filter_meaning.specs.Columns.{ValueSql, branch, class_is, literal_sql}

-- null as a truth
abbrev pub null_truth : SqlExpr
null_truth = sql.Equal (sql.Null kind.Int) (sql.Int (pos 0))

-- OR of any number of parts
abbrev pub some_of : List SqlExpr → SqlExpr
some_of [] = sql.Truth false
some_of (e ∷ []) = e
some_of (e ∷ f ∷ es) = sql.Any (e ∷ f ∷ es)

abbrev pub class_in : List ℕ → SqlExpr → SqlExpr
class_in ns c = some_of (map (class_is c) ns)

-- the classes of terms that have a value: numbers, booleans, dates with a time
abbrev pub classes_by_number : List ℕ
classes_by_number = 3 ∷ 4 ∷ 9 ∷ []

-- the class of plain strings
abbrev pub classes_by_text : List ℕ
classes_by_text = 5 ∷ []

-- both are of one class, which is one of these
abbrev pub both_in : List ℕ → ValueSql → ValueSql → SqlExpr
both_in ns a b = sql.All (sql.Equal a.class b.class ∷ class_in ns a.class ∷ [])

abbrev pub some_error : ValueSql → ValueSql → SqlExpr
some_error a b = sql.Any (sql.IsNull a.class ∷ sql.IsNull b.class ∷ [])

abbrev pub both_literals : ValueSql → ValueSql → SqlExpr
both_literals a b = sql.All (literal_sql a ∷ literal_sql b ∷ [])

-- one term has one class, one text and one second text
abbrev pub same_sql : ValueSql → ValueSql → SqlExpr
same_sql a b = sql.All (sql.Equal a.class b.class ∷ sql.Equal a.text b.text ∷ sql.Equal a.aux b.aux ∷ [])

-- `=`: by value where both are of one class that has values, else by the term; two other literals are an error
abbrev pub equal_sql : ValueSql → ValueSql → SqlExpr
equal_sql a b =
    sql.Case
    (branch (some_error a b) null_truth
    ∷ branch (both_in classes_by_number a b) (sql.Equal a.number b.number)
    ∷ branch (both_in classes_by_text a b) (sql.Equal a.text b.text)
    ∷ branch (same_sql a b) (sql.Truth true)
    ∷ branch (both_literals a b) null_truth
    ∷ [])
    (sql.Truth false)

-- `<`: by value where both are of one class that has values, else an error
abbrev pub less_sql : ValueSql → ValueSql → SqlExpr
less_sql a b =
    sql.Case
    (branch (both_in classes_by_number a b) (sql.Less a.number b.number)
    ∷ branch (both_in classes_by_text a b) (sql.Less a.text b.text)
    ∷ [])
    null_truth

abbrev pub compare_sql : CompareOp → ValueSql → ValueSql → SqlExpr
compare_sql op.Equal a b = equal_sql a b
compare_sql op.NotEqual a b = sql.Not (equal_sql a b)
compare_sql op.Less a b = less_sql a b
compare_sql op.Greater a b = less_sql b a
compare_sql op.LessEqual a b = sql.Not (less_sql b a)
compare_sql op.GreaterEqual a b = sql.Not (less_sql a b)

abbrev pub kind_sql : TermTest → ValueSql → SqlExpr
kind_sql test.Iri a = class_is a.class 2
kind_sql test.Blank a = class_is a.class 1
kind_sql test.Literal a = literal_sql a

-- the effective boolean value: numbers and booleans, strings and tagged literals, literals out of their form; else an error
abbrev pub effective_sql : ValueSql → SqlExpr
effective_sql a =
    sql.Case
    (branch (class_in (3 ∷ 4 ∷ []) a.class) (sql.Not (sql.Equal a.number (sql.Int (pos 0))))
    ∷ branch (class_in (5 ∷ 6 ∷ []) a.class) (sql.Not (sql.Equal a.text (sql.Text [])))
    ∷ branch (class_in (8 ∷ []) a.class) (sql.Truth false)
    ∷ [])
    null_truth

-- a variable is bound where it has a class
abbrev pub bound_sql : ℕ → SqlExpr
bound_sql v = sql.Not (sql.IsNull (sql.Name (term_alias v) class_name))
