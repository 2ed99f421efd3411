-- A value stands with the classes that have values, and with no other.
use Rattle.std.proofs.Common.{◌≡◌, ℕ, ℤ, Bool, true, false, List, Option, Some, None, ◌↔◌, refl, sym, ◌∙◌, if◌then◌else◌}
use Rattle.std.specs.Prelude.{is_some}
use Rattle.rdf_meaning.specs.declared.kind.TermKind.{TermKind}
use Rattle.rdf_meaning.specs.declared.kind.TermKind.TheVariants.{Iri, Blank, Tagged, Typed}
use Rattle.rdf_value_meaning.specs.declared.form.Form.{Form}
use Rattle.rdf_value_meaning.specs.declared.form.Form.TheVariants.{AnyText, Truth, DecimalNumber, WholeNumber, Moment}
use Rattle.rdf_value_meaning.specs.Datatypes.{form_of}
use Rattle.rdf_value_meaning.specs.Numbers.{Numeral, integer_numeral, decimal_numeral, is_in_width, value_of_numeral}
use Rattle.rdf_value_meaning.specs.Moments.{instant_of_text}
use Rattle.rdf_value_meaning.specs.Values.{Rank, has_value, truth_of_text, numeral_in, rank_of_numeral, rank_of_truth, rank_of_instant, rank_of_form, rank_of_typed, rank_of_kind}

abbrev IsValued : Rank → Type 0
IsValued r = is_some r.1 ≡ has_value r.0

picked : (b : Bool) (r s : Rank) → IsValued r → IsValued s → IsValued (if b then r else s)
picked true r s h k = h
picked false r s h k = k

valued_numeral : (n : Option Numeral) → IsValued (rank_of_numeral n)
valued_numeral None = refl
valued_numeral (Some n) = picked (is_in_width n) (3, Some (value_of_numeral n)) (7, None) refl refl

valued_truth : (b : Option Bool) → IsValued (rank_of_truth b)
valued_truth None = refl
valued_truth (Some b) = refl

valued_instant : (n : Option ℤ) → IsValued (rank_of_instant n)
valued_instant None = refl
valued_instant (Some n) = refl

valued_form : (form : Form) (text : List ℕ) → IsValued (rank_of_form form text)
valued_form AnyText text = refl
valued_form Truth text = valued_truth (truth_of_text text)
valued_form DecimalNumber text = valued_numeral (decimal_numeral text)
valued_form (WholeNumber range) text = valued_numeral (numeral_in range (integer_numeral text))
valued_form Moment text = valued_instant (instant_of_text text)

valued_typed : (form : Option Form) (text : List ℕ) → IsValued (rank_of_typed form text)
valued_typed None text = refl
valued_typed (Some form) text = valued_form form text

valued : (kind : TermKind) (text aux : List ℕ) → IsValued (rank_of_kind kind text aux)
valued Iri text aux = refl
valued Blank text aux = refl
valued Tagged text aux = refl
valued Typed text aux = valued_typed (form_of aux) text

pub some_value : (kind : TermKind) (text aux : List ℕ) → (is_some (rank_of_kind kind text aux).1 ≡ true) ↔ (has_value (rank_of_kind kind text aux).0 ≡ true)
some_value kind text aux = let e = valued kind text aux in (λ h. sym e ∙ h, λ h. e ∙ h)
