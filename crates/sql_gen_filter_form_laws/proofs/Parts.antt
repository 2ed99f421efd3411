-- Values and tests of values: at most four levels for a column, nine for a test.
use Rattle.std.proofs.Common.{◌≡◌, ℕ, ◌+◌, ◌≤◌, arith, Bool, true, false, List, [], ◌∷◌, pos, nat_lt, refl}
use Rattle.std.specs.List.{AllByRecursion}
use Rattle.rdf_meaning.specs.Terms.{RdfTerm}
use Rattle.rdf_meaning.specs.declared.text.KnownDatatype.TheVariants.{String}
use Rattle.rdf_meaning.specs.Known.{known_bytes}
use Rattle.table_meaning.specs.declared.kind.Kind.{Kind}
use Rattle.table_meaning.specs.declared.kind.Kind.TheVariants as kind
use Rattle.sql_meaning.specs.declared.expression.SqlExpr.{SqlExpr}
use Rattle.sql_meaning.specs.declared.expression.SqlExpr.TheVariants as sql
use Rattle.query_meaning.specs.declared.expression.CompareOp.{CompareOp}
use Rattle.query_meaning.specs.declared.expression.CompareOp.TheVariants as op
use Rattle.query_meaning.specs.declared.expression.TermTest.{TermTest}
use Rattle.query_meaning.specs.declared.expression.TermTest.TheVariants as test
use Rattle.query_eval_meaning.specs.Expressions.{lang_string}
use Rattle.sql_gen_step_laws.specs.StepSelects.{every}
use Rattle.sql_gen_term_laws.specs.TermTable.{class_name, term_alias}
use Rattle.sql_gen_filter_meaning.specs.declared.given.Accepted.{Accepted}
use Rattle.sql_gen_filter_meaning.specs.declared.given.Accepted.TheVariants.{NotBlank, Literals}
use Rattle.sql_gen_filter_meaning.specs.declared.given.SourceText.{SourceText}
use Rattle.sql_gen_filter_meaning.specs.declared.given.SourceText.TheVariants.{Own, Tag, Datatype, Empty, StringType}
use Rattle.sql_gen_filter_meaning.specs.declared.given.Given.{Given}
use Rattle.sql_gen_filter_meaning.specs.declared.given.Given.TheVariants.{Itself, PlainString, Iri, Never}
use Rattle.sql_gen_filter_meaning.specs.Columns.{ValueSql, branch, when, class_is, literal_sql}
use Rattle.sql_gen_filter_meaning.specs.Chains.{accepted_sql, if_tagged, source_sql, made_value, given_value}
use Rattle.sql_gen_filter_meaning.specs.Tests.{null_truth, some_of, class_in, both_in, classes_by_number, classes_by_text, some_error, both_literals, same_sql, equal_sql, less_sql, compare_sql, kind_sql, effective_sql, bound_sql}
use Rattle.sql_gen_filter_form_laws.proofs.Closed.{OfColumns, Closed}

module _ {Q : Kind → ℕ → SqlExpr → Type 0} {variable : ℕ → Bool} {constant : RdfTerm → Bool} (c : Closed Q variable constant) where
  -- ---- lists of tests

  each-more : (n m : ℕ) → n ≤ m → (es : List SqlExpr) → AllByRecursion (Q kind.Truth n) es → AllByRecursion (Q kind.Truth m) es
  each-more n m l [] all = tt
  each-more n m l (e ∷ es) all = (c.more kind.Truth n m e l all.0, each-more n m l es all.1)

  pub some-holds : (n : ℕ) (es : List SqlExpr) → AllByRecursion (Q kind.Truth n) es → Q kind.Truth (n + 1) (some_of es)
  some-holds n [] all = c.more kind.Truth 1 (n + 1) (sql.Truth false) (omega arith) (c.truth false)
  some-holds n (e ∷ []) all = c.more kind.Truth n (n + 1) e (omega arith) all.0
  some-holds n (e ∷ f ∷ es) all = c.any n e f es all

  pub every-holds : (n : ℕ) (es : List SqlExpr) → AllByRecursion (Q kind.Truth n) es → Q kind.Truth (n + 1) (every es)
  every-holds n [] all = c.more kind.Truth 1 (n + 1) (sql.Truth true) (omega arith) (c.truth true)
  every-holds n (e ∷ []) all = c.more kind.Truth n (n + 1) e (omega arith) all.0
  every-holds n (e ∷ f ∷ es) all = c.all n e f es all

  null-holds : (n : ℕ) → 2 ≤ n → Q kind.Truth n null_truth
  null-holds n l = c.more kind.Truth 2 n null_truth l (c.equal kind.Int 1 (sql.Null kind.Int) (sql.Int (pos 0)) (c.null kind.Int) (c.number 0 refl))

  -- a number of one digit at a later level
  digit-holds : (n d : ℕ) → 1 ≤ n → nat_lt d 10 ≡ true → Q kind.Int n (sql.Int (pos d))
  digit-holds n d l h = c.more kind.Int 1 n (sql.Int (pos d)) l (c.number d h)

  is-holds : (n : ℕ) → 1 ≤ n → (a : ValueSql) → OfColumns Q n a → (d : ℕ) → nat_lt d 10 ≡ true → Q kind.Truth (n + 1) (class_is a.class d)
  is-holds n l a p d h = c.equal kind.Int n a.class (sql.Int (pos d)) p.class (digit-holds n d l h)

  over-holds : (n : ℕ) → 1 ≤ n → (a : ValueSql) → OfColumns Q n a → (d : ℕ) → nat_lt d 10 ≡ true → Q kind.Truth (n + 1) (sql.Less (sql.Int (pos d)) a.class)
  over-holds n l a p d h = c.less kind.Int n (sql.Int (pos d)) a.class (digit-holds n d l h) p.class

  -- ---- values

  pub columns-more : (n m : ℕ) (a : ValueSql) → n ≤ m → OfColumns Q n a → OfColumns Q m a
  columns-more n m a l p = record {
    class = c.more kind.Int n m a.class l p.class;
    number = c.more kind.Int n m a.number l p.number;
    text = c.more kind.Text n m a.text l p.text;
    aux = c.more kind.Text n m a.aux l p.aux;
  }

  when-holds : (k : Kind) (t e : SqlExpr) → Q kind.Truth 3 t → Q k 3 e → Q k 4 (when t e k)
  when-holds k t e p q = c.choice k 3 (branch t e) [] (sql.Null k) (record { test = p; value = q }, tt) (c.more k 1 3 (sql.Null k) (omega arith) (c.null k))

  accepted-holds : (which : Accepted) (a : ValueSql) → OfColumns Q 1 a → Q kind.Truth 3 (accepted_sql which a)
  accepted-holds NotBlank a p = c.more kind.Truth 2 3 (sql.Less (sql.Int (pos 1)) a.class) (omega arith) (over-holds 1 (omega arith) a p 1 refl)
  accepted-holds Literals a p = c.more kind.Truth 2 3 (literal_sql a) (omega arith) (over-holds 1 (omega arith) a p 2 refl)

  tagged-holds : (a : ValueSql) (e f : SqlExpr) → OfColumns Q 1 a → Q kind.Text 1 e → Q kind.Text 1 f → Q kind.Text 3 (if_tagged a e f)
  tagged-holds a e f p q r =
      c.choice kind.Text 2 (branch (class_is a.class 6) e) [] f (record { test = is-holds 1 (omega arith) a p 6 refl; value = c.more kind.Text 1 2 e (omega arith) q }, tt) (c.more kind.Text 1 2 f (omega arith) r)

  source-holds : (text : SourceText) (a : ValueSql) → OfColumns Q 1 a → Q kind.Text 3 (source_sql text a)
  source-holds Own a p = c.more kind.Text 1 3 a.text (omega arith) p.text
  source-holds Tag a p = tagged-holds a a.aux (sql.Text []) p p.aux c.empty_text
  source-holds Datatype a p = tagged-holds a (sql.Text lang_string) a.aux p c.lang_type p.aux
  source-holds Empty a p = c.more kind.Text 1 3 (sql.Text []) (omega arith) c.empty_text
  source-holds StringType a p = c.more kind.Text 1 3 (sql.Text (known_bytes String)) (omega arith) c.string_type

  made-holds : (t : SqlExpr) (class : ℕ) (text : SqlExpr) (aux : List ℕ) → Q kind.Truth 3 t → nat_lt class 10 ≡ true → Q kind.Text 3 text → Q kind.Text 1 (sql.Text aux) → OfColumns Q 4 (made_value t class text aux)
  made-holds t class text aux p d q r = record {
    class = when-holds kind.Int t (sql.Int (pos class)) p (digit-holds 3 class (omega arith) d);
    number = c.more kind.Int 1 4 (sql.Null kind.Int) (omega arith) (c.null kind.Int);
    text = when-holds kind.Text t text p q;
    aux = when-holds kind.Text t (sql.Text aux) p (c.more kind.Text 1 3 (sql.Text aux) (omega arith) r);
  }

  null-column : (k : Kind) → Q k 4 (sql.Null k)
  null-column k = c.more k 1 4 (sql.Null k) (omega arith) (c.null k)

  pub given-holds : (g : Given) (a : ValueSql) → OfColumns Q 1 a → OfColumns Q 4 (given_value g a)
  given-holds Itself a p = columns-more 1 4 a (omega arith) p
  given-holds (PlainString which text) a p = made-holds (accepted_sql which a) 5 (source_sql text a) (known_bytes String) (accepted-holds which a p) refl (source-holds text a p) c.string_type
  given-holds (Iri which text) a p = made-holds (accepted_sql which a) 2 (source_sql text a) [] (accepted-holds which a p) refl (source-holds text a p) c.empty_text
  given-holds Never a p = record { class = null-column kind.Int; number = null-column kind.Int; text = null-column kind.Text; aux = null-column kind.Text }

  -- ---- tests of values

  four : 1 ≤ 4
  four = omega arith

  is5 : (a : ValueSql) → OfColumns Q 4 a → (d : ℕ) → nat_lt d 10 ≡ true → Q kind.Truth 5 (class_is a.class d)
  is5 a p d h = is-holds 4 four a p d h

  classes5 : (a b : ValueSql) → OfColumns Q 4 a → OfColumns Q 4 b → Q kind.Truth 5 (sql.Equal a.class b.class)
  classes5 a b p q = c.equal kind.Int 4 a.class b.class p.class q.class

  both-holds : (ns : List ℕ) (a b : ValueSql) → OfColumns Q 4 a → OfColumns Q 4 b → Q kind.Truth 6 (class_in ns a.class) → Q kind.Truth 7 (both_in ns a b)
  both-holds ns a b p q r = c.all 6 (sql.Equal a.class b.class) (class_in ns a.class) [] (c.more kind.Truth 5 6 (sql.Equal a.class b.class) (omega arith) (classes5 a b p q), (r, tt))

  numbers-hold : (a b : ValueSql) → OfColumns Q 4 a → OfColumns Q 4 b → Q kind.Truth 7 (both_in classes_by_number a b)
  numbers-hold a b p q = both-holds classes_by_number a b p q (some-holds 5 (class_is a.class 3 ∷ class_is a.class 4 ∷ class_is a.class 9 ∷ []) (is5 a p 3 refl, (is5 a p 4 refl, (is5 a p 9 refl, tt))))

  texts-hold : (a b : ValueSql) → OfColumns Q 4 a → OfColumns Q 4 b → Q kind.Truth 7 (both_in classes_by_text a b)
  texts-hold a b p q = both-holds classes_by_text a b p q (some-holds 5 (class_is a.class 5 ∷ []) (is5 a p 5 refl, tt))

  pub same-holds : (a b : ValueSql) → OfColumns Q 4 a → OfColumns Q 4 b → Q kind.Truth 6 (same_sql a b)
  same-holds a b p q =
      c.all 5 (sql.Equal a.class b.class) (sql.Equal a.text b.text) (sql.Equal a.aux b.aux ∷ [])
      (classes5 a b p q, (c.equal kind.Text 4 a.text b.text p.text q.text, (c.equal kind.Text 4 a.aux b.aux p.aux q.aux, tt)))

  literal5 : (a : ValueSql) → OfColumns Q 4 a → Q kind.Truth 5 (literal_sql a)
  literal5 a p = over-holds 4 four a p 2 refl

  up : (n : ℕ) (e : SqlExpr) → n ≤ 7 → Q kind.Truth n e → Q kind.Truth 7 e
  up n e l p = c.more kind.Truth n 7 e l p

  pub equal-holds : (a b : ValueSql) → OfColumns Q 4 a → OfColumns Q 4 b → Q kind.Truth 8 (equal_sql a b)
  equal-holds a b p q =
      c.choice kind.Truth 7 (branch (some_error a b) null_truth)
      (branch (both_in classes_by_number a b) (sql.Equal a.number b.number) ∷ branch (both_in classes_by_text a b) (sql.Equal a.text b.text) ∷ branch (same_sql a b) (sql.Truth true) ∷ branch (both_literals a b) null_truth ∷ [])
      (sql.Truth false) (
        record {
          test = up 6 (some_error a b) (omega arith) (c.any 5 (sql.IsNull a.class) (sql.IsNull b.class) [] (c.is_null kind.Int 4 a.class p.class, (c.is_null kind.Int 4 b.class q.class, tt)));
          value = null-holds 7 (omega arith);
        },
        (
          record { test = numbers-hold a b p q; value = up 5 (sql.Equal a.number b.number) (omega arith) (c.equal kind.Int 4 a.number b.number p.number q.number) },
          (
            record { test = texts-hold a b p q; value = up 5 (sql.Equal a.text b.text) (omega arith) (c.equal kind.Text 4 a.text b.text p.text q.text) },
            (
              record { test = up 6 (same_sql a b) (omega arith) (same-holds a b p q); value = up 1 (sql.Truth true) (omega arith) (c.truth true) },
              (record { test = up 6 (both_literals a b) (omega arith) (c.all 5 (literal_sql a) (literal_sql b) [] (literal5 a p, (literal5 b q, tt))); value = null-holds 7 (omega arith) }, tt),
            ),
          ),
        ),
      )
      (up 1 (sql.Truth false) (omega arith) (c.truth false))

  less-holds : (a b : ValueSql) → OfColumns Q 4 a → OfColumns Q 4 b → Q kind.Truth 8 (less_sql a b)
  less-holds a b p q =
      c.choice kind.Truth 7 (branch (both_in classes_by_number a b) (sql.Less a.number b.number)) (branch (both_in classes_by_text a b) (sql.Less a.text b.text) ∷ []) null_truth (
        record { test = numbers-hold a b p q; value = up 5 (sql.Less a.number b.number) (omega arith) (c.less kind.Int 4 a.number b.number p.number q.number) },
        (record { test = texts-hold a b p q; value = up 5 (sql.Less a.text b.text) (omega arith) (c.less kind.Text 4 a.text b.text p.text q.text) }, tt),
      )
      (null-holds 7 (omega arith))

  one-more : (e : SqlExpr) → Q kind.Truth 8 e → Q kind.Truth 9 e
  one-more e p = c.more kind.Truth 8 9 e (omega arith) p

  pub compare-holds : (o : CompareOp) (a b : ValueSql) → OfColumns Q 4 a → OfColumns Q 4 b → Q kind.Truth 9 (compare_sql o a b)
  compare-holds op.Equal a b p q = one-more (equal_sql a b) (equal-holds a b p q)
  compare-holds op.NotEqual a b p q = c.negation 8 (equal_sql a b) (equal-holds a b p q)
  compare-holds op.Less a b p q = one-more (less_sql a b) (less-holds a b p q)
  compare-holds op.Greater a b p q = one-more (less_sql b a) (less-holds b a q p)
  compare-holds op.LessEqual a b p q = c.negation 8 (less_sql b a) (less-holds b a q p)
  compare-holds op.GreaterEqual a b p q = c.negation 8 (less_sql a b) (less-holds a b p q)

  pub kind-holds : (t : TermTest) (a : ValueSql) → OfColumns Q 4 a → Q kind.Truth 5 (kind_sql t a)
  kind-holds test.Iri a p = is5 a p 2 refl
  kind-holds test.Blank a p = is5 a p 1 refl
  kind-holds test.Literal a p = literal5 a p

  pub effective-holds : (a : ValueSql) → OfColumns Q 4 a → Q kind.Truth 8 (effective_sql a)
  effective-holds a p =
      c.choice kind.Truth 7 (branch (class_in (3 ∷ 4 ∷ []) a.class) (sql.Not (sql.Equal a.number (sql.Int (pos 0)))))
      (branch (class_in (5 ∷ 6 ∷ []) a.class) (sql.Not (sql.Equal a.text (sql.Text []))) ∷ branch (class_in (8 ∷ []) a.class) (sql.Truth false) ∷ []) null_truth (
        record {
          test = up 6 (class_in (3 ∷ 4 ∷ []) a.class) (omega arith) (some-holds 5 (class_is a.class 3 ∷ class_is a.class 4 ∷ []) (is5 a p 3 refl, (is5 a p 4 refl, tt)));
          value = up 6 (sql.Not (sql.Equal a.number (sql.Int (pos 0)))) (omega arith) (c.negation 5 (sql.Equal a.number (sql.Int (pos 0))) (c.equal kind.Int 4 a.number (sql.Int (pos 0)) p.number (digit-holds 4 0 four refl)));
        },
        (
          record {
            test = up 6 (class_in (5 ∷ 6 ∷ []) a.class) (omega arith) (some-holds 5 (class_is a.class 5 ∷ class_is a.class 6 ∷ []) (is5 a p 5 refl, (is5 a p 6 refl, tt)));
            value = up 6 (sql.Not (sql.Equal a.text (sql.Text []))) (omega arith) (c.negation 5 (sql.Equal a.text (sql.Text [])) (c.equal kind.Text 4 a.text (sql.Text []) p.text (c.more kind.Text 1 4 (sql.Text []) four c.empty_text)));
          },
          (record { test = up 6 (class_in (8 ∷ []) a.class) (omega arith) (some-holds 5 (class_is a.class 8 ∷ []) (is5 a p 8 refl, tt)); value = up 1 (sql.Truth false) (omega arith) (c.truth false) }, tt),
        ),
      )
      (null-holds 7 (omega arith))

  pub bound-holds : (v : ℕ) → variable v ≡ true → Q kind.Truth 3 (bound_sql v)
  bound-holds v h = let p = c.variables v h in
      c.negation 2 (sql.IsNull (sql.Name (term_alias v) class_name)) (c.is_null kind.Int 1 (sql.Name (term_alias v) class_name) p.class)
