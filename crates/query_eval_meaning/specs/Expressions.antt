-- What an expression gives over a solution (SPARQL 1.1 Query, section 17; the truth tables of section 17.2).
-- This project's own: equality and order of values of other types than numbers, booleans, strings, and dates with a time, as said below.
use Rattle.std.specs.Prelude.{ℕ, ℤ, pos, Bool, true, false, not, ◌&&◌, ◌||◌, ◌==◌, if◌then◌else◌, List, [], ◌∷◌, map, Option, Some, None, is_some, codes}
use Rattle.std.specs.declared.cmp.Ordering.{Ordering}
use Rattle.std.specs.Ordering.{is_lt, is_eq, nat_cmp, int_cmp, int_eq}
use Rattle.std.specs.Cmp.Lexicographic.{slice_cmp}
use Rattle.rdf_meaning.specs.declared.kind.TermKind.{TermKind}
use Rattle.rdf_meaning.specs.declared.kind.TermKind.TheVariants.{Iri, Blank, Tagged, Typed}
use Rattle.rdf_meaning.specs.declared.text.KnownDatatype.TheVariants.{String}
use Rattle.rdf_meaning.specs.Known.{known_bytes}
use Rattle.rdf_meaning.specs.Terms.{RdfTerm, iri, typed, same_term, is_empty}
use Rattle.rdf_value_meaning.specs.Values.{class_of, value_of, has_value}
use Rattle.std.specs.Option.{option_cmp}
use Rattle.query_meaning.specs.declared.expression.CompareOp.{CompareOp}
use Rattle.query_meaning.specs.declared.expression.CompareOp.TheVariants as op
use Rattle.query_meaning.specs.declared.expression.TermTest.{TermTest}
use Rattle.query_meaning.specs.declared.expression.TermTest.TheVariants as test
use Rattle.query_meaning.specs.declared.expression.ValueExpr.{ValueExpr, fold-ValueExpr}
use Rattle.query_meaning.specs.declared.expression.ValueExpr.TheOpen as value
use Rattle.query_meaning.specs.declared.expression.ValueExpr.TheOpen.{ValueExpr-F}
use Rattle.query_meaning.specs.declared.expression.TruthExpr.{TruthExpr, fold-TruthExpr}
use Rattle.query_meaning.specs.declared.expression.TruthExpr.TheOpen as truth
use Rattle.query_meaning.specs.declared.expression.TruthExpr.TheOpen.{TruthExpr-F}
use Rattle.query_eval_meaning.specs.Mapping.{Mapping}

-- a term, or none for an error
abbrev pub Value : Type 0
Value = Option RdfTerm

-- true, false, or none for an error
abbrev pub Truth : Type 0
Truth = Option Bool

-- ---- three values (section 17.2)

abbrev pub not3 : Truth → Truth
not3 None = None
not3 (Some b) = Some (not b)

-- false where one side is false, else an error where one is, else true
abbrev pub and3 : Truth → Truth → Truth
and3 (Some false) y = Some false
and3 (Some true) y = y
and3 None (Some false) = Some false
and3 None y = None

-- true where one side is true, else an error where one is, else false
abbrev pub or3 : Truth → Truth → Truth
or3 (Some true) y = Some true
or3 (Some false) y = y
or3 None (Some true) = Some true
or3 None y = None

abbrev pub all3 : List Truth → Truth
all3 [] = Some true
all3 (x ∷ xs) = and3 x (all3 xs)

abbrev pub any3 : List Truth → Truth
any3 [] = Some false
any3 (x ∷ xs) = or3 x (any3 xs)

-- an error counts as not true
abbrev pub is_true : Truth → Bool
is_true None = false
is_true (Some b) = b

-- ---- values (section 17.4.2); an error of the argument is an error

abbrev pub on_value : {X : Type 0} → (RdfTerm → Option X) → Value → Option X
on_value f None = None
on_value f (Some t) = f t

abbrev pub on_values : {X : Type 0} → (RdfTerm → RdfTerm → Option X) → Value → Value → Option X
on_values f a b = on_value (λ s. on_value (f s) b) a

-- a plain string
abbrev pub string_of : List ℕ → RdfTerm
string_of text = typed text (known_bytes String)

-- the text of an IRI or a literal
abbrev pub str_by_kind : TermKind → List ℕ → Value
str_by_kind Iri text = Some (string_of text)
str_by_kind Blank text = None
str_by_kind Tagged text = Some (string_of text)
str_by_kind Typed text = Some (string_of text)

abbrev pub str_of : RdfTerm → Value
str_of t = str_by_kind t.kind t.text

-- the tag of a literal, or the empty text
abbrev pub lang_by_kind : TermKind → List ℕ → Value
lang_by_kind Iri aux = None
lang_by_kind Blank aux = None
lang_by_kind Tagged aux = Some (string_of aux)
lang_by_kind Typed aux = Some (string_of [])

abbrev pub lang_of : RdfTerm → Value
lang_of t = lang_by_kind t.kind t.aux

-- the datatype of a tagged literal (RDF 1.1 Concepts, section 3.3)
abbrev pub lang_string : List ℕ
lang_string = codes "http://www.w3.org/1999/02/22-rdf-syntax-ns#langString"

-- the datatype of a literal
abbrev pub datatype_by_kind : TermKind → List ℕ → Value
datatype_by_kind Iri aux = None
datatype_by_kind Blank aux = None
datatype_by_kind Tagged aux = Some (iri lang_string)
datatype_by_kind Typed aux = Some (iri aux)

abbrev pub datatype_of : RdfTerm → Value
datatype_of t = datatype_by_kind t.kind t.aux

abbrev pub value_step : ValueExpr-F (Mapping → Value) → Mapping → Value
value_step (value.Var v) m = m v
value_step (value.Const t) m = Some t
value_step (value.Str e) m = on_value str_of (e m)
value_step (value.Lang e) m = on_value lang_of (e m)
value_step (value.Datatype e) m = on_value datatype_of (e m)

-- the term that a value expression gives, or an error
abbrev pub value_over : ValueExpr → Mapping → Value
value_over = fold-ValueExpr (Mapping → Value) value_step

-- ---- tests of terms

abbrev pub is_nonzero : Option ℤ → Bool
is_nonzero None = false
is_nonzero (Some n) = not (int_eq n (pos 0))

-- numbers and booleans: not zero; strings and tagged literals: not empty; out of its datatype's form or range: false; else an error
abbrev pub effective_by_class : ℕ → Option ℤ → List ℕ → Truth
effective_by_class class number text =
    if class == 3 || class == 4 then Some (is_nonzero number)
    else (if class == 5 || class == 6 then Some (not (is_empty text)) else (if class == 8 then Some false else None))

-- the effective boolean value (section 17.2.2)
abbrev pub effective : RdfTerm → Truth
effective t = effective_by_class (class_of t) (value_of t) t.text

-- terms that have a value, and strings
abbrev pub has_order : ℕ → Bool
has_order class = has_value class || class == 5

-- both are of one class, whose terms are compared by value
abbrev pub compared_by_value : RdfTerm → RdfTerm → Bool
compared_by_value a b = class_of a == class_of b && has_order (class_of a)

-- strings by their bytes, other terms by their value
abbrev pub value_cmp : RdfTerm → RdfTerm → Ordering
value_cmp a b = if class_of a == 5 then slice_cmp nat_cmp a.text b.text else option_cmp int_cmp (value_of a) (value_of b)

abbrev pub literal_kind : TermKind → Bool
literal_kind Iri = false
literal_kind Blank = false
literal_kind Tagged = true
literal_kind Typed = true

abbrev pub is_literal : RdfTerm → Bool
is_literal t = literal_kind t.kind

-- by value where both have one; else the same term is equal, two other literals are an error, and all else is unequal
abbrev pub equal_terms : RdfTerm → RdfTerm → Truth
equal_terms a b =
    if compared_by_value a b then Some (is_eq (value_cmp a b))
    else (if same_term a b then Some true else (if is_literal a && is_literal b then None else Some false))

-- by value where both have one, else an error
abbrev pub less_terms : RdfTerm → RdfTerm → Truth
less_terms a b = if compared_by_value a b then Some (is_lt (value_cmp a b)) else None

abbrev pub compare : CompareOp → Value → Value → Truth
compare op.Equal a b = on_values equal_terms a b
compare op.NotEqual a b = not3 (on_values equal_terms a b)
compare op.Less a b = on_values less_terms a b
compare op.Greater a b = on_values less_terms b a
compare op.LessEqual a b = not3 (on_values less_terms b a)
compare op.GreaterEqual a b = not3 (on_values less_terms a b)

abbrev pub kind_passes : TermTest → TermKind → Bool
kind_passes test.Iri Iri = true
kind_passes test.Blank Blank = true
kind_passes test.Literal kind = literal_kind kind
kind_passes _ _ = false

abbrev pub truth_step : TruthExpr-F (Mapping → Truth) → Mapping → Truth
truth_step (truth.Value e) m = on_value effective (value_over e m)
truth_step (truth.Bound v) m = Some (is_some (m v))
truth_step (truth.Compare c a b) m = compare c (value_over a m) (value_over b m)
truth_step (truth.OneOf e es) m = any3 (map (λ d. on_values equal_terms (value_over e m) (value_over d m)) es)
truth_step (truth.SameTerm a b) m = on_values (λ s t. Some (same_term s t)) (value_over a m) (value_over b m)
truth_step (truth.Is t e) m = on_value (λ s. Some (kind_passes t s.kind)) (value_over e m)
truth_step (truth.Not e) m = not3 (e m)
truth_step (truth.All es) m = all3 (map (λ e. e m) es)
truth_step (truth.Any es) m = any3 (map (λ e. e m) es)

-- whether an expression is true, false or an error
abbrev pub truth_over : TruthExpr → Mapping → Truth
truth_over = fold-TruthExpr (Mapping → Truth) truth_step
