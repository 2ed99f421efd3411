-- The order of terms and of places: total, and of which ties are equal.
use Rattle.std.specs.Prelude.{◌≡◌, ℕ, ℤ, Bool, true, false, if◌then◌else◌, ◌==◌, ◌||◌, List, Option, Some, None, refl}
use Rattle.std.specs.Cmp.{IsTotalOrder}
use Rattle.std.specs.Cmp.Lexicographic.{slice_cmp, options_total}
use Rattle.std.proofs.Common.{sym, ap, ◌∙◌}
use Rattle.std.proofs.lemmas.Cmp.{nat_cmp_total, int_cmp_total, nat_list_cmp_total, on_total, then_total}
use Rattle.std.proofs.lemmas.Map.Lookups.{CmpEqualImpliesEq, exact_unsigned, exact_bytes}
use Rattle.std.specs.declared.cmp.Ordering.{Ordering}
use Rattle.std.specs.declared.cmp.Ordering.TheVariants.{Less, Equal, Greater}
use Rattle.std.specs.Ordering.{nat_cmp, int_cmp, ordering_then}
use Rattle.rdf_meaning.specs.declared.kind.TermKind.{TermKind}
use Rattle.rdf_meaning.specs.declared.kind.TermKind.TheVariants.{Iri, Blank, Tagged, Typed}
use Rattle.rdf_meaning.specs.Terms.{RdfTerm}
use Rattle.rdf_value_meaning.specs.declared.form.Form.{Form}
use Rattle.rdf_value_meaning.specs.declared.form.Form.TheVariants.{AnyText, Truth, DecimalNumber, WholeNumber, Moment}
use Rattle.rdf_value_meaning.specs.Datatypes.{form_of}
use Rattle.rdf_value_meaning.specs.Numbers.{Numeral, integer_numeral, decimal_numeral, is_in_width, value_of_numeral}
use Rattle.rdf_value_meaning.specs.Moments.{instant_of_text}
use Rattle.rdf_value_meaning.specs.Values.{Rank, has_value, class_of, value_of, class_of_kind, truth_of_text, numeral_in, rank_of_numeral, rank_of_truth, rank_of_instant, rank_of_form, rank_of_typed}
use Rattle.std.specs.Option.{option_cmp}
use Rattle.rdf_value_meaning.specs.TermOrder.{term_order, place_order}

-- ---- total

pub term_order_total : IsTotalOrder term_order
term_order_total =
    then_total (on_total class_of nat_cmp_total) (then_total (on_total value_of (options_total int_cmp_total))
    (then_total (on_total (λ (t : RdfTerm). t.text) nat_list_cmp_total) (on_total (λ (t : RdfTerm). t.aux) nat_list_cmp_total)))

pub place_order_total : IsTotalOrder place_order
place_order_total = options_total term_order_total

-- ---- ties

-- the classes of literals with a datatype
abbrev is_typed_class : ℕ → Bool
is_typed_class n = has_value n || n == 5 || n == 7 || n == 8

picked : (b : Bool) (r s : Rank) → is_typed_class r.0 ≡ true → is_typed_class s.0 ≡ true → is_typed_class (if b then r else s).0 ≡ true
picked true r s h k = h
picked false r s h k = k

numeral_class : (n : Option Numeral) → is_typed_class (rank_of_numeral n).0 ≡ true
numeral_class None = refl
numeral_class (Some n) = picked (is_in_width n) (3, Some (value_of_numeral n)) (7, None) refl refl

truth_class : (b : Option Bool) → is_typed_class (rank_of_truth b).0 ≡ true
truth_class None = refl
truth_class (Some b) = refl

instant_class : (n : Option ℤ) → is_typed_class (rank_of_instant n).0 ≡ true
instant_class None = refl
instant_class (Some n) = refl

form_class : (form : Form) (text : List ℕ) → is_typed_class (rank_of_form form text).0 ≡ true
form_class AnyText text = refl
form_class Truth text = truth_class (truth_of_text text)
form_class DecimalNumber text = numeral_class (decimal_numeral text)
form_class (WholeNumber range) text = numeral_class (numeral_in range (integer_numeral text))
form_class Moment text = instant_class (instant_of_text text)

typed_class : (form : Option Form) (text : List ℕ) → is_typed_class (rank_of_typed form text).0 ≡ true
typed_class None text = refl
typed_class (Some form) text = form_class form text

not_typed : (text aux : List ℕ) (n : ℕ) → class_of_kind Typed text aux ≡ n → is_typed_class n ≡ false → ⊥
not_typed text aux n e f = let h : is_typed_class n ≡ true = ap is_typed_class (sym e) ∙ typed_class (form_of aux) text in cc

-- the class tells the kind
pub kind_of_class : (j k : TermKind) (text aux : List ℕ) → class_of_kind j text aux ≡ class_of_kind k text aux → j ≡ k
kind_of_class Iri Iri text aux e = refl
kind_of_class Blank Blank text aux e = refl
kind_of_class Tagged Tagged text aux e = refl
kind_of_class Typed Typed text aux e = refl
kind_of_class Iri Blank text aux e = cc
kind_of_class Iri Tagged text aux e = cc
kind_of_class Blank Iri text aux e = cc
kind_of_class Blank Tagged text aux e = cc
kind_of_class Tagged Iri text aux e = cc
kind_of_class Tagged Blank text aux e = cc
kind_of_class Typed Iri text aux e = absurd (not_typed text aux 2 e refl)
kind_of_class Typed Blank text aux e = absurd (not_typed text aux 1 e refl)
kind_of_class Typed Tagged text aux e = absurd (not_typed text aux 6 e refl)
kind_of_class Iri Typed text aux e = absurd (not_typed text aux 2 (sym e) refl)
kind_of_class Blank Typed text aux e = absurd (not_typed text aux 1 (sym e) refl)
kind_of_class Tagged Typed text aux e = absurd (not_typed text aux 6 (sym e) refl)

tied_parts : (a b : Ordering) → ordering_then a b ≡ Equal → (a ≡ Equal) × (b ≡ Equal)
tied_parts Less b e = cc
tied_parts Equal b e = (refl, e)
tied_parts Greater b e = cc

-- terms that tie are equal
pub term_order_ties : CmpEqualImpliesEq term_order
term_order_ties a b e =
    let c = tied_parts (nat_cmp (class_of a) (class_of b)) _ e in
    let v = tied_parts (option_cmp int_cmp (value_of a) (value_of b)) _ c.1 in
    let t = tied_parts (slice_cmp nat_cmp a.text b.text) _ v.1 in
    let text : a.text ≡ b.text = exact_bytes a.text b.text t.0 in
    let aux : a.aux ≡ b.aux = exact_bytes a.aux b.aux t.1 in
    let class : class_of a ≡ class_of b = exact_unsigned (class_of a) (class_of b) c.0 in
    let moved : class_of_kind b.kind a.text a.aux ≡ class_of_kind b.kind b.text b.aux = λ i. class_of_kind b.kind (text i) (aux i) in
    let kind : a.kind ≡ b.kind = kind_of_class a.kind b.kind a.text a.aux (class ∙ sym moved) in
    λ i. record { kind = kind i; text = text i; aux = aux i }

pub place_order_ties : CmpEqualImpliesEq place_order
place_order_ties None None e = refl
place_order_ties None (Some b) e = cc
place_order_ties (Some a) None e = cc
place_order_ties (Some a) (Some b) e = ap (λ (t : RdfTerm). Some t) (term_order_ties a b e)
