-- Comparing cells four by four is comparing terms.
use Rattle.std.specs.Prelude.{◌≡◌, ◌⊎◌, ℕ, ℤ, zero, suc, ◌==◌, Bool, true, false, if◌then◌else◌, List, [], ◌∷◌, ◌++◌, map, Option, Some, None, pos, refl}
use Rattle.std.proofs.Common.{ap, ap₂, ◌∙◌, inl, inr, arith, ◌<◌, ◌≤◌}
use Rattle.std.proofs.lemmas.Bool.{cases_lt, lt-ltb, le-ltb, eq-eqb, ne_eqb}
use Rattle.std.specs.List.{flat_map}
use Rattle.std.specs.declared.cmp.Ordering.{Ordering}
use Rattle.std.specs.declared.cmp.Ordering.TheVariants.{Less, Equal, Greater}
use Rattle.std.specs.Ordering.{nat_cmp, int_cmp, ordering_then}
use Rattle.std.specs.Cmp.Lexicographic.{slice_cmp}
use Rattle.bags.specs.Sort.{by_items, turned, first_flag, rest_flags}
use Rattle.rdf_meaning.specs.declared.kind.TermKind.{TermKind}
use Rattle.rdf_meaning.specs.declared.kind.TermKind.TheVariants.{Iri, Blank, Tagged, Typed}
use Rattle.rdf_meaning.specs.Terms.{RdfTerm}
use Rattle.rdf_value_meaning.specs.declared.form.Form.{Form}
use Rattle.rdf_value_meaning.specs.declared.form.Form.TheVariants.{AnyText, Truth, DecimalNumber, WholeNumber, Moment}
use Rattle.rdf_value_meaning.specs.Datatypes.{form_of}
use Rattle.rdf_value_meaning.specs.Numbers.{Numeral, integer_numeral, decimal_numeral, is_in_width, value_of_numeral}
use Rattle.rdf_value_meaning.specs.Moments.{instant_of_text}
use Rattle.rdf_value_meaning.specs.Values.{Rank, truth_of_text, rank_of_truth, rank_of_numeral, numeral_in, rank_of_instant, rank_of_form, rank_of_typed, class_of_kind, class_of, value_of}
use Rattle.std.specs.Option.{option_cmp}
use Rattle.rdf_value_meaning.specs.TermOrder.{term_order, place_order}
use Rattle.query_meaning.specs.declared.modifiers.Key.{Key}
use Rattle.query_eval_meaning.specs.Answer.{Row}
use Rattle.table_meaning.specs.declared.cell.Cell.{Cell}
use Rattle.table_meaning.specs.declared.cell.Cell.TheVariants.{Null, Int}
use Rattle.sql_meaning.specs.declared.script.SqlKey.{SqlKey}
use Rattle.sql_rows_meaning.specs.Cells.{cell_order}
use Rattle.sql_gen_term_laws.specs.TermTable.{value_cell, number_cell, text_cell, aux_cell}
use Rattle.sql_gen_last_laws.specs.LastSelect.{four_keys}

-- the class of a key: 0, where that is written for an unbound variable
abbrev pub class_key_cell : Bool → Option RdfTerm → Cell
class_key_cell sure None = if sure then Null else Int (pos 0)
class_key_cell sure (Some t) = Int (pos (class_of t))

-- one place of a row, as the cells of keys
abbrev pub four : Bool → Option RdfTerm → List Cell
four sure x = class_key_cell sure x ∷ number_cell x ∷ text_cell x ∷ aux_cell x ∷ []

-- a row, as the cells of keys
abbrev pub keyed : List Bool → Row → List Cell
keyed sures [] = []
keyed sures (x ∷ row) = four (first_flag sures) x ++ keyed (rest_flags sures) row

abbrev pub four_flags : List Bool → List Bool
four_flags [] = []
four_flags (d ∷ downs) = d ∷ d ∷ d ∷ d ∷ four_flags downs

same_numbers : (m n : ℕ) → int_cmp (pos m) (pos n) ≡ nat_cmp m n
same_numbers m n = go (cases_lt m n) (cases_lt n m)
  where
    go : (m < n) ⊎ (n ≤ m) → (n < m) ⊎ (m ≤ n) → int_cmp (pos m) (pos n) ≡ nat_cmp m n
    go (inl l) h = rw (lt-ltb m n l) refl
    go (inr g) (inl h) = rw (le-ltb m n g, lt-ltb n m h, ne_eqb m n (λ e. absurd (omega arith))) refl
    go (inr g) (inr h) = rw (le-ltb m n g, le-ltb n m h, eq-eqb m n (omega arith)) refl

value_order : (x y : Option ℤ) → cell_order (value_cell x) (value_cell y) ≡ option_cmp int_cmp x y
value_order None None = refl
value_order None (Some b) = refl
value_order (Some a) None = refl
value_order (Some a) (Some b) = refl

four_then : (d : Bool) (a b c e r : Ordering) →
    ordering_then (turned d a) (ordering_then (turned d b) (ordering_then (turned d c) (ordering_then (turned d e) r))) ≡ ordering_then (turned d (ordering_then a (ordering_then b (ordering_then c e)))) r
four_then d Less b c e r = less d
  where
    less : (d : Bool) → ordering_then (turned d Less) (ordering_then (turned d b) (ordering_then (turned d c) (ordering_then (turned d e) r))) ≡ ordering_then (turned d Less) r
    less true = refl
    less false = refl
four_then d Greater b c e r = greater d
  where
    greater : (d : Bool) → ordering_then (turned d Greater) (ordering_then (turned d b) (ordering_then (turned d c) (ordering_then (turned d e) r))) ≡ ordering_then (turned d Greater) r
    greater true = refl
    greater false = refl
four_then true Equal Less c e r = refl
four_then true Equal Greater c e r = refl
four_then true Equal Equal Less e r = refl
four_then true Equal Equal Greater e r = refl
four_then true Equal Equal Equal e r = refl
four_then false Equal Less c e r = refl
four_then false Equal Greater c e r = refl
four_then false Equal Equal Less e r = refl
four_then false Equal Equal Greater e r = refl
four_then false Equal Equal Equal e r = refl

-- four cells of two terms, each turned alike
term_place : (d : Bool) (s t : RdfTerm) (r : Ordering) →
    ordering_then (turned d (cell_order (Int (pos (class_of s))) (Int (pos (class_of t))))) (ordering_then (turned d (cell_order (value_cell (value_of s)) (value_cell (value_of t))))
    (ordering_then (turned d (slice_cmp nat_cmp s.text t.text)) (ordering_then (turned d (slice_cmp nat_cmp s.aux t.aux)) r))) ≡ ordering_then (turned d (term_order s t)) r
term_place d s t r =
    ap₂ (λ (a b : Ordering). ordering_then (turned d a) (ordering_then (turned d b) (ordering_then (turned d (slice_cmp nat_cmp s.text t.text)) (ordering_then (turned d (slice_cmp nat_cmp s.aux t.aux)) r))))
    (same_numbers (class_of s) (class_of t)) (value_order (value_of s) (value_of t))
    ∙ four_then d (nat_cmp (class_of s) (class_of t)) (option_cmp int_cmp (value_of s) (value_of t)) (slice_cmp nat_cmp s.text t.text) (slice_cmp nat_cmp s.aux t.aux) r

below_all : (d : Bool) (x y : Ordering) → ordering_then (turned d Less) x ≡ ordering_then (turned d Less) y
below_all true x y = refl
below_all false x y = refl

above_all : (d : Bool) (x y : Ordering) → ordering_then (turned d Greater) x ≡ ordering_then (turned d Greater) y
above_all true x y = refl
above_all false x y = refl

all_equal : (d : Bool) (x y : Ordering) → x ≡ y → ordering_then (turned d Equal) (ordering_then (turned d Equal) (ordering_then (turned d Equal) (ordering_then (turned d Equal) x))) ≡ ordering_then (turned d Equal) y
all_equal true x y e = e
all_equal false x y e = e

-- ---- classes begin with 1

abbrev is_rising : ℕ → Bool
is_rising n = if n == 0 then false else true

picked : (b : Bool) (r s : Rank) → is_rising r.0 ≡ true → is_rising s.0 ≡ true → is_rising (if b then r else s).0 ≡ true
picked true r s h k = h
picked false r s h k = k

numeral_class : (n : Option Numeral) → is_rising (rank_of_numeral n).0 ≡ true
numeral_class None = refl
numeral_class (Some n) = picked (is_in_width n) (3, Some (value_of_numeral n)) (7, None) refl refl

truth_class : (b : Option Bool) → is_rising (rank_of_truth b).0 ≡ true
truth_class None = refl
truth_class (Some b) = refl

instant_class : (n : Option ℤ) → is_rising (rank_of_instant n).0 ≡ true
instant_class None = refl
instant_class (Some n) = refl

form_class : (form : Form) (text : List ℕ) → is_rising (rank_of_form form text).0 ≡ true
form_class AnyText text = refl
form_class Truth text = truth_class (truth_of_text text)
form_class DecimalNumber text = numeral_class (decimal_numeral text)
form_class (WholeNumber range) text = numeral_class (numeral_in range (integer_numeral text))
form_class Moment text = instant_class (instant_of_text text)

typed_class : (form : Option Form) (text : List ℕ) → is_rising (rank_of_typed form text).0 ≡ true
typed_class None text = refl
typed_class (Some form) text = form_class form text

kind_class : (k : TermKind) (text aux : List ℕ) → is_rising (class_of_kind k text aux) ≡ true
kind_class Blank text aux = refl
kind_class Iri text aux = refl
kind_class Tagged text aux = refl
kind_class Typed text aux = typed_class (form_of aux) text

pub class-positive : (t : RdfTerm) → 0 < class_of t
class-positive t = go (class_of t) (kind_class t.kind t.text t.aux)
  where
    go : (n : ℕ) → is_rising n ≡ true → 0 < n
    go zero e = cc
    go (suc n) e = omega arith

none_none : (b : Bool) → cell_order (class_key_cell b None) (class_key_cell b None) ≡ Equal
none_none true = refl
none_none false = refl

none_some : (b : Bool) (t : RdfTerm) → cell_order (class_key_cell b None) (Int (pos (class_of t))) ≡ Less
none_some true t = refl
none_some false t = same_numbers 0 (class_of t) ∙ rw (lt-ltb 0 (class_of t) (class-positive t)) refl

some_none : (b : Bool) (t : RdfTerm) → cell_order (Int (pos (class_of t))) (class_key_cell b None) ≡ Greater
some_none true t = refl
some_none false t =
    let l : 0 < class_of t = class-positive t in
    same_numbers (class_of t) 0 ∙ rw (le-ltb (class_of t) 0 (omega arith), ne_eqb (class_of t) 0 (λ e. absurd (omega arith))) refl

-- ---- rows

four_place : (b d : Bool) (x y : Option RdfTerm) (r : Ordering) →
    ordering_then (turned d (cell_order (class_key_cell b x) (class_key_cell b y))) (ordering_then (turned d (cell_order (number_cell x) (number_cell y)))
    (ordering_then (turned d (cell_order (text_cell x) (text_cell y))) (ordering_then (turned d (cell_order (aux_cell x) (aux_cell y))) r))) ≡ ordering_then (turned d (place_order x y)) r
four_place b d None None r = rw (none_none b) (all_equal d r r refl)
four_place b d None (Some t) r = rw (none_some b t) (below_all d _ _)
four_place b d (Some s) None r = rw (some_none b s) (above_all d _ _)
four_place b d (Some s) (Some t) r = term_place d s t r

pub places-order : (sures downs : List Bool) (r s : Row) → by_items cell_order (four_flags downs) (keyed sures r) (keyed sures s) ≡ by_items place_order downs r s
places-order sures downs [] [] = refl
places-order sures downs [] (y ∷ s) = refl
places-order sures downs (x ∷ r) [] = refl
places-order sures [] (x ∷ r) (y ∷ s) =
    four_place (first_flag sures) false x y (by_items cell_order [] (keyed (rest_flags sures) r) (keyed (rest_flags sures) s)) ∙ ap (ordering_then (turned false (place_order x y))) (places-order (rest_flags sures) [] r s)
places-order sures (d ∷ downs) (x ∷ r) (y ∷ s) =
    four_place (first_flag sures) d x y (by_items cell_order (four_flags downs) (keyed (rest_flags sures) r) (keyed (rest_flags sures) s)) ∙ ap (ordering_then (turned d (place_order x y))) (places-order (rest_flags sures) downs r s)

pub flags-are : (certain : List ℕ) (ks : List Key) → map (λ (k : SqlKey). k.down) (flat_map (four_keys certain) ks) ≡ four_flags (map (λ (k : Key). k.down) ks)
flags-are certain [] = refl
flags-are certain (k ∷ ks) = ap (λ (ds : List Bool). k.down ∷ k.down ∷ k.down ∷ k.down ∷ ds) (flags-are certain ks)
