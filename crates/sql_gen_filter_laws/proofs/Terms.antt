-- What classes and values of terms say.
use Rattle.std.proofs.Common.{◌≡◌, ℕ, ℤ, pos, Bool, true, false, not, if◌then◌else◌, ◌&&◌, ◌||◌, ◌==◌, List, refl, sym, ap, ◌∙◌, Option, Some, None, is_some}
use Rattle.std.specs.Bool.{one_answer}
use Rattle.std.specs.Str.{bytes_eq}
use Rattle.std.specs.Ordering.{is_lt, int_cmp}
use Rattle.query_eval_meaning.specs.Expressions.{is_literal, literal_kind, kind_passes}
use Rattle.query_meaning.specs.declared.expression.TermTest.TheVariants as test
use Rattle.std.proofs.lemmas.Bool.{and_parts, and_from, eqb-true, eq-eqb}
use Rattle.std.proofs.lemmas.Slice.Eq.{bytes_eq-Decides}
use Rattle.rdf_meaning.specs.declared.kind.TermKind.TheVariants.{Iri, Blank, Tagged, Typed}
use Rattle.rdf_meaning.specs.declared.kind.TermKind.{TermKind}
use Rattle.rdf_meaning.specs.Terms.{RdfTerm, same_term}
use Rattle.rdf_meaning.specs.TermLaws.{same_term-Decides}
use Rattle.rdf_value_meaning.specs.declared.form.Form.{Form}
use Rattle.rdf_value_meaning.specs.declared.form.Form.TheVariants.{AnyText, Truth, DecimalNumber, WholeNumber, Moment}
use Rattle.rdf_value_meaning.specs.Datatypes.{form_of}
use Rattle.rdf_value_meaning.specs.Numbers.{Numeral, integer_numeral, decimal_numeral, is_in_width, value_of_numeral}
use Rattle.rdf_value_meaning.specs.Moments.{instant_of_text}
use Rattle.rdf_value_meaning.specs.OrderLaws.{kind_of_class}
use Rattle.rdf_value_meaning.specs.Values.{Rank, has_value, class_of, value_of, class_of_kind, rank_of_kind, rank_of_typed, rank_of_form, rank_of_numeral, rank_of_truth, rank_of_instant, numeral_in, truth_of_text}

-- ---- ranks of literals with a datatype

-- what holds of each rank that such a literal can have
module _ (P : Rank → Bool) (number : (n : ℤ) → P (3, Some n) ≡ true) (truth : (b : Bool) → P (4, Some (pos (if b then 1 else 0))) ≡ true) (instant : (n : ℤ) → P (9, Some n) ≡ true)
    (string : P (5, None) ≡ true) (unknown : P (7, None) ≡ true) (unformed : P (8, None) ≡ true) where
  picked : (b : Bool) (r s : Rank) → P r ≡ true → P s ≡ true → P (if b then r else s) ≡ true
  picked true r s h k = h
  picked false r s h k = k

  numeral : (n : Option Numeral) → P (rank_of_numeral n) ≡ true
  numeral None = unformed
  numeral (Some n) = picked (is_in_width n) (3, Some (value_of_numeral n)) (7, None) (number (value_of_numeral n)) unknown

  truth_rank : (b : Option Bool) → P (rank_of_truth b) ≡ true
  truth_rank None = unformed
  truth_rank (Some b) = truth b

  instant_rank : (n : Option ℤ) → P (rank_of_instant n) ≡ true
  instant_rank None = unknown
  instant_rank (Some n) = instant n

  form_rank : (form : Form) (text : List ℕ) → P (rank_of_form form text) ≡ true
  form_rank AnyText text = string
  form_rank Truth text = truth_rank (truth_of_text text)
  form_rank DecimalNumber text = numeral (decimal_numeral text)
  form_rank (WholeNumber range) text = numeral (numeral_in range (integer_numeral text))
  form_rank Moment text = instant_rank (instant_of_text text)

  pub typed_rank : (form : Option Form) (text : List ℕ) → P (rank_of_typed form text) ≡ true
  typed_rank None text = unknown
  typed_rank (Some form) text = form_rank form text

-- the class of a literal with a datatype passes a test that these six classes pass
pub typed_passes : (p : ℕ → Bool) → p 3 ≡ true → p 4 ≡ true → p 5 ≡ true → p 7 ≡ true → p 8 ≡ true → p 9 ≡ true → (text aux : List ℕ) → p (class_of_kind Typed text aux) ≡ true
typed_passes p p3 p4 p5 p7 p8 p9 text aux = typed_rank (λ r. p r.0) (λ n. p3) (λ b. p4) (λ n. p9) p5 p7 p8 (form_of aux) text

-- a class that has values has a value
abbrev fits : Rank → Bool
fits r = not (has_value r.0) || is_some r.1

kind_fits : (k : TermKind) (text aux : List ℕ) → fits (rank_of_kind k text aux) ≡ true
kind_fits Iri text aux = refl
kind_fits Blank text aux = refl
kind_fits Tagged text aux = refl
kind_fits Typed text aux = typed_rank fits (λ n. refl) (λ b. refl) (λ n. refl) refl refl refl (form_of aux) text

some_there : (v : Option ℤ) → is_some v ≡ true → (n : ℤ) × (v ≡ Some n)
some_there (Some n) e = (n, refl)
some_there None e = cc

pub has_number : (t : RdfTerm) → has_value (class_of t) ≡ true → (n : ℤ) × (value_of t ≡ Some n)
has_number t e = some_there (value_of t) (so (has_value (class_of t)) (is_some (value_of t)) e (kind_fits t.kind t.text t.aux))
  where
    so : (b c : Bool) → b ≡ true → (not b || c) ≡ true → c ≡ true
    so true c e h = h
    so false c e h = cc

-- ---- the same term

class_and_texts : (a b : RdfTerm) → (class_of a == class_of b && (bytes_eq a.text b.text && bytes_eq a.aux b.aux)) ≡ true → a ≡ b
class_and_texts a b e =
    let p = and_parts (class_of a == class_of b) _ e in
    let q = and_parts (bytes_eq a.text b.text) _ p.1 in
    let class : class_of a ≡ class_of b = eqb-true _ _ p.0 in
    let text : a.text ≡ b.text = (bytes_eq-Decides a.text b.text).0 q.0 in
    let aux : a.aux ≡ b.aux = (bytes_eq-Decides a.aux b.aux).0 q.1 in
    let moved : class_of_kind b.kind a.text a.aux ≡ class_of_kind b.kind b.text b.aux = λ i. class_of_kind b.kind (text i) (aux i) in
    let kind : a.kind ≡ b.kind = kind_of_class a.kind b.kind a.text a.aux (class ∙ sym moved) in
    λ i. record { kind = kind i; text = text i; aux = aux i }

texts_and_class : (a b : RdfTerm) → a ≡ b → (class_of a == class_of b && (bytes_eq a.text b.text && bytes_eq a.aux b.aux)) ≡ true
texts_and_class a b e =
    and_from _ _ (eq-eqb _ _ (ap class_of e)) (and_from _ _ ((bytes_eq-Decides a.text b.text).1 (ap (λ (t : RdfTerm). t.text) e)) ((bytes_eq-Decides a.aux b.aux).1 (ap (λ (t : RdfTerm). t.aux) e)))

pub same_by_class : (a b : RdfTerm) → (class_of a == class_of b && (bytes_eq a.text b.text && bytes_eq a.aux b.aux)) ≡ same_term a b
same_by_class a b = one_answer {P = a ≡ b} _ (same_term a b) (class_and_texts a b, texts_and_class a b) (same_term-Decides a b)

-- ---- kinds

pub literal_by_class : (t : RdfTerm) → is_lt (int_cmp (pos 2) (pos (class_of t))) ≡ is_literal t
literal_by_class t = go t.kind t.text t.aux
  where
    go : (k : TermKind) (text aux : List ℕ) → is_lt (int_cmp (pos 2) (pos (class_of_kind k text aux))) ≡ literal_kind k
    go Iri text aux = refl
    go Blank text aux = refl
    go Tagged text aux = refl
    go Typed text aux = typed_passes (λ n. is_lt (int_cmp (pos 2) (pos n))) refl refl refl refl refl refl text aux

pub from_not : (b : Bool) → not b ≡ true → b ≡ false
from_not true e = cc
from_not false e = refl

pub iri_by_class : (t : RdfTerm) → (class_of t == 2) ≡ kind_passes test.Iri t.kind
iri_by_class t = go t.kind t.text t.aux
  where
    go : (k : TermKind) (text aux : List ℕ) → (class_of_kind k text aux == 2) ≡ kind_passes test.Iri k
    go Iri text aux = refl
    go Blank text aux = refl
    go Tagged text aux = refl
    go Typed text aux = from_not _ (typed_passes (λ n. not (n == 2)) refl refl refl refl refl refl text aux)

pub blank_by_class : (t : RdfTerm) → (class_of t == 1) ≡ kind_passes test.Blank t.kind
blank_by_class t = go t.kind t.text t.aux
  where
    go : (k : TermKind) (text aux : List ℕ) → (class_of_kind k text aux == 1) ≡ kind_passes test.Blank k
    go Iri text aux = refl
    go Blank text aux = refl
    go Tagged text aux = refl
    go Typed text aux = from_not _ (typed_passes (λ n. not (n == 1)) refl refl refl refl refl refl text aux)

pub literal_by_kind : (t : RdfTerm) → is_literal t ≡ kind_passes test.Literal t.kind
literal_by_kind t = go t.kind
  where
    go : (k : TermKind) → literal_kind k ≡ kind_passes test.Literal k
    go Iri = refl
    go Blank = refl
    go Tagged = refl
    go Typed = refl
