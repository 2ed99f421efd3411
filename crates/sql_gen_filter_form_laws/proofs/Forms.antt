-- Where constants and variables can be written, each part has the form of the grammar and isn't too deep.
use Rattle.std.proofs.Common.{◌≡◌, ℕ, ℤ, ◌^◌, ◌≤◌, arith, true, ◌&&◌, nat_lt, List, [], ◌∷◌, length, refl, pos, Option, Some, None}
use Rattle.std.specs.List.{AllByRecursion}
use Rattle.std.specs.Str.{is_utf8, chars}
use Rattle.std.proofs.lemmas.Bool.{and_parts, lt-ltb, ltb-true}
use Rattle.rdf_meaning.specs.Terms.{RdfTerm}
use Rattle.rdf_meaning.specs.declared.kind.TermKind.{TermKind}
use Rattle.rdf_meaning.specs.declared.kind.TermKind.TheVariants.{Iri, Blank, Tagged, Typed}
use Rattle.rdf_meaning.specs.declared.text.KnownDatatype.TheVariants.{String}
use Rattle.rdf_meaning.specs.Known.{known_bytes}
use Rattle.rdf_value_meaning.specs.Values.{value_of, class_of, class_of_kind}
use Rattle.table_meaning.specs.Ints.{is_wide_int}
use Rattle.table_meaning.specs.declared.kind.Kind.{Kind}
use Rattle.table_meaning.specs.declared.kind.Kind.TheVariants as kind
use Rattle.sql_meaning.specs.declared.expression.SqlExpr.{SqlExpr}
use Rattle.sql_meaning.specs.declared.expression.Branch.{Branch}
use Rattle.query_eval_meaning.specs.Expressions.{lang_string}
use Rattle.query_eval_meaning.specs.Mapping.{width}
use Rattle.sql_gen_term_laws.specs.TermTable.{class_name, number_name, text_name, aux_name, term_alias}
use Rattle.sql_gen_form_laws.specs.Fits.{ExprFits, BranchFits}
use Rattle.sql_gen_form_laws.proofs.Expressions.{fits-more, name-fits, int-fits, text-fits, truth-fits, null-fits, equal-fits, less-fits, not-fits, is_null-fits, all-fits, any-fits, case-fits}
use Rattle.sql_gen_form_laws.proofs.Names.{term-name, class-name, number-name, text-name, aux-name}
use Rattle.sql_gen_filter_meaning.specs.Columns.{variable_value, constant_value, number_sql}
use Rattle.sql_gen_filter_laws.proofs.Terms.{typed_passes}
use Rattle.sql_gen_filter_form_laws.specs.Written.{is_variable, is_written_number, is_written_term}
use Rattle.sql_gen_filter_form_laws.proofs.Closed.{OfColumns, OfBranch, Closed}

class_wide : (k : TermKind) (text aux : List ℕ) → is_wide_int (pos (class_of_kind k text aux)) ≡ true
class_wide Iri text aux = refl
class_wide Blank text aux = refl
class_wide Tagged text aux = refl
class_wide Typed text aux = typed_passes (λ n. is_wide_int (pos n)) refl refl refl refl refl refl text aux

digit_wide : (n : ℕ) → nat_lt n 10 ≡ true → is_wide_int (pos n) ≡ true
digit_wide n h = lt-ltb n (2 ^ 127) (omega (arith, ltb-true n 10 h))

number_fits : (o : Option ℤ) → is_written_number o ≡ true → ExprFits 1 (number_sql o)
number_fits None h = null-fits 0 kind.Int
number_fits (Some n) h = int-fits 0 n h

empty_utf8 : is_utf8 [] ≡ true
unfolding is_utf8 chars
empty_utf8 = refl

string_utf8 : is_utf8 (known_bytes String) ≡ true
unfolding is_utf8 chars lib.Utf8.encode
string_utf8 = refl

lang_utf8 : is_utf8 lang_string ≡ true
unfolding is_utf8 chars lib.Utf8.encode
lang_utf8 = refl

variable_fits : (v : ℕ) → is_variable v ≡ true → OfColumns (λ k n e. ExprFits n e) 1 (variable_value v)
variable_fits v h = let p = term-name v (ltb-true v width h) in record {
  class = name-fits 0 (term_alias v) class_name p class-name;
  number = name-fits 0 (term_alias v) number_name p number-name;
  text = name-fits 0 (term_alias v) text_name p text-name;
  aux = name-fits 0 (term_alias v) aux_name p aux-name;
}

constant_fits : (t : RdfTerm) → is_written_term t ≡ true → OfColumns (λ k n e. ExprFits n e) 1 (constant_value t)
constant_fits t h =
    let p = and_parts (is_utf8 t.text) (is_utf8 t.aux && is_written_number (value_of t)) h in
    let q = and_parts (is_utf8 t.aux) (is_written_number (value_of t)) p.1 in record {
      class = int-fits 0 (pos (class_of t)) (class_wide t.kind t.text t.aux);
      number = number_fits (value_of t) q.1;
      text = text-fits 0 t.text p.0;
      aux = text-fits 0 t.aux q.0;
    }

branches_fit : (k : Kind) (n : ℕ) (bs : List Branch) → AllByRecursion (OfBranch (λ k n e. ExprFits n e) k n) bs → AllByRecursion (BranchFits n) bs
branches_fit k n [] h = tt
branches_fit k n (b ∷ bs) h = (record { test = h.0.test; value = h.0.value }, branches_fit k n bs h.1)

two_long : (e f : SqlExpr) (es : List SqlExpr) → 2 ≤ length (e ∷ f ∷ es)
two_long e f es = omega arith

pub forms_hold : Closed (λ k n e. ExprFits n e) is_variable is_written_term
forms_hold = record {
  more = λ k n m e l p. fits-more n m e l p;
  variables = variable_fits;
  constants = constant_fits;
  number = λ n h. int-fits 0 (pos n) (digit_wide n h);
  empty_text = text-fits 0 [] empty_utf8;
  string_type = text-fits 0 (known_bytes String) string_utf8;
  lang_type = text-fits 0 lang_string lang_utf8;
  truth = λ b. truth-fits 0 b;
  null = λ k. null-fits 0 k;
  equal = λ k n a b p q. equal-fits n a b p q;
  less = λ k n a b p q. less-fits n a b p q;
  all = λ n e f es h. all-fits n (e ∷ f ∷ es) (two_long e f es) h;
  any = λ n e f es h. any-fits n (e ∷ f ∷ es) (two_long e f es) h;
  negation = λ n e p. not-fits n e p;
  is_null = λ k n e p. is_null-fits n e p;
  choice = λ k n b bs last h q. case-fits n (b ∷ bs) last (omega arith) (branches_fit k n (b ∷ bs) h) q;
}
