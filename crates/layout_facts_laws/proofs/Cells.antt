-- What cells are read back as.
use Rattle.std.proofs.Common.{◌≡◌, ℕ, zero, suc, ◌==◌, Bool, true, false, if◌then◌else◌, List, [], ◌∷◌, ◌++◌, map, pos, negsuc, Option, Some, None, refl, ap, ◌∙◌, subst}
use Rattle.std.proofs.lemmas.Bool.{false_from_ne_true, eqb-true}
use Rattle.std.specs.List.{flat_map}
use Rattle.bags.specs.Bag.{SameBag}
use Rattle.bags.specs.BagLaws.{same-map}
use Rattle.rdf_meaning.specs.declared.kind.TermKind.{TermKind}
use Rattle.rdf_meaning.specs.declared.kind.TermKind.TheVariants.{Iri, Blank, Tagged, Typed}
use Rattle.rdf_value_meaning.specs.Values.{class_of_kind}
use Rattle.rdf_value_meaning.specs.OrderLaws.{kind_of_class}
use Rattle.table_meaning.specs.declared.cell.Cell.{Cell}
use Rattle.table_meaning.specs.declared.cell.Cell.TheVariants.{Null, Int, Text, Truth}
use Rattle.layout_meaning.specs.declared.value.Value.{Value}
use Rattle.layout_meaning.specs.declared.value.Value.TheVariants.{One, Many}
use Rattle.layout_meaning.specs.Side.{Pair, Row, ValueLists}
use Rattle.layout_meaning.specs.Rows.{NumberedRow}
use Rattle.layout_standing_meaning.specs.Dictionary.{Entry}
use Rattle.layout_standing_meaning.specs.Contents.{pair_cells, row_cells, element_cells, term_cells}

-- what a map made is told by what undoes it
map-back : {X Y : Type 0} (f : X → Y) (g : Y → X) → ((x : X) → g (f x) ≡ x) → (xs : List X) → map g (map f xs) ≡ xs
map-back f g back [] = refl
map-back f g back (x ∷ xs) = λ i. back x i ∷ map-back f g back xs i

pub undone : {X Y : Type 0} (f : X → Y) (g : Y → X) → ((x : X) → g (f x) ≡ x) → (xs ys : List X) → SameBag (map f xs) (map f ys) → SameBag xs ys
undone {X} f g back xs ys same =
    subst (λ (l : List X). SameBag l ys) (map-back f g back xs) (subst (SameBag (map g (map f xs))) (map-back f g back ys) (same-map g (map f xs) (map f ys) same))

abbrev number_in : Cell → ℕ
number_in Null = 0
number_in (Int (pos n)) = n
number_in (Int (negsuc n)) = n
number_in (Text t) = 0
number_in (Truth b) = 0

abbrev text_in : Cell → List ℕ
text_in Null = []
text_in (Int n) = []
text_in (Text t) = t
text_in (Truth b) = []

abbrev cell_at : List Cell → ℕ → Cell
cell_at [] n = Null
cell_at (c ∷ cells) zero = c
cell_at (c ∷ cells) (suc n) = cell_at cells n

-- ---- terms

abbrev kind_of : ℕ → TermKind
kind_of class = if class == 1 then Blank else (if class == 2 then Iri else (if class == 6 then Tagged else Typed))

typed-kind : (n : ℕ) → (n ≡ 1 → ⊥) → (n ≡ 2 → ⊥) → (n ≡ 6 → ⊥) → kind_of n ≡ Typed
typed-kind n a b c =
    let one : (n == 1) ≡ false = false_from_ne_true _ (λ e. a (eqb-true n 1 e)) in
    let two : (n == 2) ≡ false = false_from_ne_true _ (λ e. b (eqb-true n 2 e)) in
    let six : (n == 6) ≡ false = false_from_ne_true _ (λ e. c (eqb-true n 6 e)) in
    rw (one, two, six) refl

kind-back : (kind : TermKind) (text aux : List ℕ) → kind_of (class_of_kind kind text aux) ≡ kind
kind-back Iri text aux = refl
kind-back Blank text aux = refl
kind-back Tagged text aux = refl
kind-back Typed text aux =
    typed-kind (class_of_kind Typed text aux)
    (λ e. let no : Typed ≡ Blank = kind_of_class Typed Blank text aux e in cc)
    (λ e. let no : Typed ≡ Iri = kind_of_class Typed Iri text aux e in cc)
    (λ e. let no : Typed ≡ Tagged = kind_of_class Typed Tagged text aux e in cc)

abbrev pub entry_in : List Cell → Entry
entry_in cells = record { id = number_in (cell_at cells 0); term = record { kind = kind_of (number_in (cell_at cells 1)); text = text_in (cell_at cells 3); aux = text_in (cell_at cells 4) } }

pub entry-back : (e : Entry) → entry_in (term_cells e) ≡ e
entry-back e = ap (λ (kind : TermKind). let f : Entry = record { id = e.id; term = record { kind = kind; text = e.term.text; aux = e.term.aux } } in f) (kind-back e.term.kind e.term.text e.term.aux)

-- ---- rows

abbrev value_in : Cell → Value
value_in Null = One 0
value_in (Int (pos n)) = One n
value_in (Int (negsuc n)) = Many n
value_in (Text t) = One 0
value_in (Truth b) = One 0

abbrev pair_in : Cell → Cell → Option Pair
pair_in Null v = None
pair_in (Int (pos p)) v = Some (record { pred = p; value = value_in v })
pair_in (Int (negsuc n)) v = None
pair_in (Text t) v = None
pair_in (Truth b) v = None

abbrev pairs_in : List Cell → Row
pairs_in [] = []
pairs_in (c ∷ []) = []
pairs_in (c ∷ v ∷ cells) = pair_in c v ∷ pairs_in cells

pairs-back : (r : Row) → pairs_in (flat_map pair_cells r) ≡ r
pairs-back [] = refl
pairs-back (None ∷ r) = ap (λ (l : Row). None ∷ l) (pairs-back r)
pairs-back (Some q ∷ r) = by q.value (pairs-back r)
  where
    by : (v : Value) → pairs_in (flat_map pair_cells r) ≡ r → pairs_in (flat_map pair_cells (Some (record { pred = q.pred; value = v }) ∷ r)) ≡ Some (record { pred = q.pred; value = v }) ∷ r
    by (One n) ih = ap (λ (l : Row). Some (record { pred = q.pred; value = One n }) ∷ l) ih
    by (Many n) ih = ap (λ (l : Row). Some (record { pred = q.pred; value = Many n }) ∷ l) ih

abbrev rest_of : List Cell → List Cell
rest_of [] = []
rest_of (c ∷ cells) = cells

abbrev pub row_in : List Cell → NumberedRow
row_in cells = record { entity = number_in (cell_at cells 0); spill = number_in (cell_at cells 1); pairs = pairs_in (rest_of (rest_of cells)) }

pub row-back : (r : NumberedRow) → row_in (row_cells r) ≡ r
row-back r = ap (λ (pairs : Row). let q : NumberedRow = record { entity = r.entity; spill = r.spill; pairs = pairs } in q) (pairs-back r.pairs)

-- ---- elements of lists, each with its list's number

abbrev pub numbered_elements : ValueLists → List (ℕ × ℕ)
numbered_elements lists = flat_map (λ (l : ℕ × List ℕ). map (λ (v : ℕ). (l.0, v)) l.1) lists

abbrev element_in : List Cell → ℕ × ℕ
element_in cells = (number_in (cell_at cells 0), number_in (cell_at cells 1))

append-map : {X Y : Type 0} (f : X → Y) (xs ys : List X) → map f (xs ++ ys) ≡ map f xs ++ map f ys
append-map f [] ys = refl
append-map {X} {Y} f (x ∷ xs) ys = ap (λ (l : List Y). f x ∷ l) (append-map f xs ys)

elements-of_list : (n : ℕ) (vs : List ℕ) → map element_in (element_cells (n, vs)) ≡ map (λ (v : ℕ). (n, v)) vs
elements-of_list n [] = refl
elements-of_list n (v ∷ vs) = ap (λ (l : List (ℕ × ℕ)). (n, v) ∷ l) (elements-of_list n vs)

elements-back : (lists : ValueLists) → map element_in (flat_map element_cells lists) ≡ numbered_elements lists
elements-back [] = refl
elements-back (l ∷ lists) =
    append-map element_in (element_cells l) (flat_map element_cells lists)
    ∙ ap (λ (a : List (ℕ × ℕ)). a ++ map element_in (flat_map element_cells lists)) (elements-of_list l.0 l.1)
    ∙ ap (λ (a : List (ℕ × ℕ)). map (λ (v : ℕ). (l.0, v)) l.1 ++ a) (elements-back lists)

pub elements-undone : (xs ys : ValueLists) → SameBag (flat_map element_cells xs) (flat_map element_cells ys) → SameBag (numbered_elements xs) (numbered_elements ys)
elements-undone xs ys same =
    subst (λ (l : List (ℕ × ℕ)). SameBag l (numbered_elements ys)) (elements-back xs)
    (subst (SameBag (map element_in (flat_map element_cells xs))) (elements-back ys) (same-map element_in (flat_map element_cells xs) (flat_map element_cells ys) same))
