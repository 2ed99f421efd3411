-- Classes and values of terms (this project's own, over the datatypes of XML Schema 1.1, part 2).
use Rattle.std.specs.Prelude.{ℕ, ℤ, pos, Bool, ◌||◌, ◌==◌, if◌then◌else◌, List, Option, Some, None, true, false, codes}
use Rattle.std.specs.Str.{bytes_eq}
use Rattle.rdf_meaning.specs.declared.kind.TermKind.TheVariants.{Iri, Blank, Tagged, Typed}
use Rattle.rdf_meaning.specs.declared.kind.TermKind.{TermKind}
use Rattle.rdf_meaning.specs.Terms.{RdfTerm}
use Rattle.rdf_value_meaning.specs.declared.form.Range.{Range}
use Rattle.rdf_value_meaning.specs.declared.form.Form.{Form}
use Rattle.rdf_value_meaning.specs.declared.form.Form.TheVariants.{AnyText, Truth, DecimalNumber, WholeNumber, Moment}
use Rattle.rdf_value_meaning.specs.Datatypes.{form_of, is_in_range}
use Rattle.rdf_value_meaning.specs.Numbers.{Numeral, integer_numeral, decimal_numeral, is_in_width, whole_part, value_of_numeral}
use Rattle.rdf_value_meaning.specs.Moments.{instant_of_text}

-- a class, and the value where there is one
abbrev pub Rank : Type 0
Rank = ℕ × Option ℤ

-- the four texts of xsd:boolean
abbrev pub truth_of_text : List ℕ → Option Bool
truth_of_text text =
    if bytes_eq text (codes "true") || bytes_eq text (codes "1") then Some true
    else (if bytes_eq text (codes "false") || bytes_eq text (codes "0") then Some false else None)

abbrev pub rank_of_truth : Option Bool → Rank
rank_of_truth None = (8, None)
rank_of_truth (Some truth) = (4, Some (pos (if truth then 1 else 0)))

abbrev pub rank_of_numeral : Option Numeral → Rank
rank_of_numeral None = (8, None)
rank_of_numeral (Some n) = if is_in_width n then (3, Some (value_of_numeral n)) else (7, None)

-- the number where it is in the range, of any length
abbrev pub numeral_in : Range → Option Numeral → Option Numeral
numeral_in range None = None
numeral_in range (Some n) = if is_in_range range (whole_part n) then Some n else None

abbrev pub rank_of_instant : Option ℤ → Rank
rank_of_instant None = (7, None)
rank_of_instant (Some nanoseconds) = (9, Some nanoseconds)

abbrev pub rank_of_form : Form → List ℕ → Rank
rank_of_form AnyText text = (5, None)
rank_of_form Truth text = rank_of_truth (truth_of_text text)
rank_of_form DecimalNumber text = rank_of_numeral (decimal_numeral text)
rank_of_form (WholeNumber range) text = rank_of_numeral (numeral_in range (integer_numeral text))
rank_of_form Moment text = rank_of_instant (instant_of_text text)

abbrev pub rank_of_typed : Option Form → List ℕ → Rank
rank_of_typed None text = (7, None)
rank_of_typed (Some form) text = rank_of_form form text

abbrev pub rank_of_kind : TermKind → List ℕ → List ℕ → Rank
rank_of_kind Blank text aux = (1, None)
rank_of_kind Iri text aux = (2, None)
rank_of_kind Typed text aux = rank_of_typed (form_of aux) text
rank_of_kind Tagged text aux = (6, None)

abbrev pub rank_of : RdfTerm → Rank
rank_of t = rank_of_kind t.kind t.text t.aux

-- the class of a term with these parts
abbrev pub class_of_kind : TermKind → List ℕ → List ℕ → ℕ
class_of_kind kind text aux = (rank_of_kind kind text aux).0

-- 1 blank node, 2 IRI, 3 number, 4 boolean, 5 string, 6 tagged literal, 7 no value is known,
-- 8 out of its datatype's form or range, 9 date and time
abbrev pub class_of : RdfTerm → ℕ
class_of t = (rank_of t).0

-- the classes of terms that have a value
abbrev pub has_value : ℕ → Bool
has_value class = class == 3 || class == 4 || class == 9

-- a number in units of 10^-9, a boolean as 1 or 0, a date and time in nanoseconds from 1970-01-01T00:00:00 UTC
abbrev pub value_of : RdfTerm → Option ℤ
value_of t = (rank_of t).1
