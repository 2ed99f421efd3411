-- The datatypes that have values (XML Schema 1.1, part 2: string, boolean, decimal, integer and the types derived from it, dateTime).
use Rattle.std.specs.Prelude.{ℕ, ℤ, pos, neg_ℤ, ◌-◌, ◌^◌, Bool, true, ◌&&◌, int_le, List, [], ◌∷◌, Option, Some, None, option_map}
use Rattle.std.specs.List.{find}
use Rattle.std.specs.Str.{bytes_eq}
use Rattle.rdf_meaning.specs.declared.text.KnownDatatype.{KnownDatatype}
use Rattle.rdf_meaning.specs.declared.text.KnownDatatype.TheVariants.{String, Boolean, Decimal, Integer, Long, Int, Short, Byte, UnsignedLong, UnsignedInt, UnsignedShort, UnsignedByte, NonNegativeInteger, PositiveInteger, NonPositiveInteger, NegativeInteger, DateTime}
use Rattle.rdf_meaning.specs.Known.{known_bytes}
use Rattle.rdf_value_meaning.specs.declared.form.Range.{Range}
use Rattle.rdf_value_meaning.specs.declared.form.Form.{Form}
use Rattle.rdf_value_meaning.specs.declared.form.Form.TheVariants.{AnyText, Truth, DecimalNumber, WholeNumber, Moment}

-- ---- ranges of whole numbers

abbrev pub all_whole : Range
all_whole = record { least = None; greatest = None }

abbrev pub from_least : ℤ → Range
from_least low = record { least = Some low; greatest = None }

abbrev pub to_greatest : ℤ → Range
to_greatest high = record { least = None; greatest = Some high }

abbrev pub from_to : ℤ → ℤ → Range
from_to low high = record { least = Some low; greatest = Some high }

-- the numbers of so many bits, one of which is the sign
abbrev pub signed_bits : ℕ → Range
signed_bits bits = from_to (neg_ℤ (pos (2 ^ (bits - 1)))) (pos (2 ^ (bits - 1) - 1))

-- the numbers of so many bits without a sign
abbrev pub unsigned_bits : ℕ → Range
unsigned_bits bits = from_to (pos 0) (pos (2 ^ bits - 1))

abbrev pub is_from : Option ℤ → ℤ → Bool
is_from None n = true
is_from (Some low) n = int_le low n

abbrev pub is_up_to : Option ℤ → ℤ → Bool
is_up_to None n = true
is_up_to (Some high) n = int_le n high

abbrev pub is_in_range : Range → ℤ → Bool
is_in_range range n = is_from range.least n && is_up_to range.greatest n

-- ---- the table

-- the form of a datatype
abbrev pub Entry : Type 0
Entry = KnownDatatype × Form

abbrev pub datatypes : List Entry
datatypes =
    (String, AnyText)
    ∷ (Integer, WholeNumber all_whole)
    ∷ (Decimal, DecimalNumber)
    ∷ (Boolean, Truth)
    ∷ (DateTime, Moment)
    ∷ (Long, WholeNumber (signed_bits 64))
    ∷ (Int, WholeNumber (signed_bits 32))
    ∷ (Short, WholeNumber (signed_bits 16))
    ∷ (Byte, WholeNumber (signed_bits 8))
    ∷ (UnsignedLong, WholeNumber (unsigned_bits 64))
    ∷ (UnsignedInt, WholeNumber (unsigned_bits 32))
    ∷ (UnsignedShort, WholeNumber (unsigned_bits 16))
    ∷ (UnsignedByte, WholeNumber (unsigned_bits 8))
    ∷ (NonNegativeInteger, WholeNumber (from_least (pos 0)))
    ∷ (PositiveInteger, WholeNumber (from_least (pos 1)))
    ∷ (NonPositiveInteger, WholeNumber (to_greatest (pos 0)))
    ∷ (NegativeInteger, WholeNumber (to_greatest (neg_ℤ (pos 1))))
    ∷ []

-- the form of the datatype with an IRI, where the table has it
abbrev pub form_of : List ℕ → Option Form
form_of iri = option_map (λ (e : Entry). e.1) (find (λ (e : Entry). bytes_eq iri (known_bytes e.0)) datatypes)
