-- The columns of a layout give each predicate a column to go to.
use Rattle.std.proofs.Common.{◌≡◌, ◌≤◌, ◌<◌, ℕ, nat_eq, Bool, true, false, if◌then◌else◌, All, List, [], ◌∷◌, map, Some, Less, refl, sym, ◌∙◌, arith, subst}
use Rattle.std.specs.List.{AllByRecursion}
use Rattle.std.specs.List.Sorted.{IsStrictlySortedBy}
use Rattle.std.specs.Map.{keys_of}
use Rattle.std.proofs.lemmas.List.Elements.{All-from_recursion}
use Rattle.bags.specs.BagLaws.{each-map}
use Rattle.rdf_meaning.specs.Terms.{RdfTerm}
use Rattle.rdf_meaning.specs.declared.side.SideName.{SideName}
use Rattle.rdf_meaning.specs.declared.side.SideName.TheVariants.{Direct, Reverse}
use Rattle.colouring_file_meaning.specs.ColourLines.{ColourOf, columns_on, same_side, AreFit}
use Rattle.run_meaning.specs.declared.command.Layout.{Layout}
use Rattle.run_meaning.specs.declared.command.Layout.TheVariants.{Colour, Hash, File}
use Rattle.run_meaning.specs.declared.command.Options.{Options}
use Rattle.run_command_laws.specs.Ranges.{AreInRange}
use Rattle.layout_meaning.specs.Columns.{ColumnsOf, candidates_of}
use Rattle.layout_meaning.specs.Side.{Item}
use Rattle.layout_meaning.proofs.Candidates.{candidates, first-below}
use Rattle.layout_standing_meaning.specs.Schemas.{LayoutOf}
use Rattle.layout_standing_meaning.specs.Sides.{turned}
use Rattle.layout_standing_meaning.specs.Stored.{text_of_id}
use Rattle.layout_bulk_laws.specs.BulkStore.{HaveCandidates}
use Rattle.pred_colour_meaning.specs.Interference.{Graph, has}
use Rattle.pred_colour_meaning.specs.Colouring.{rank, column_of, is_taken, IsLeastFree, IsColouring}
use Rattle.pred_colour_meaning.proofs.Ranks.{apart}
use Rattle.pred_colour_meaning.proofs.Steps.{at_itself, at_other, each_has, key_of_column}
use Rattle.layout_columns_meaning.specs.BulkColours.{AreKnown, AreBulkColours, AreColumnsFor}
use Rattle.layout_columns_meaning.specs.Layouts.{ChoiceOf, IsLayoutFor}
use Rattle.layout_placed_meaning.specs.Chosen.{known_on, known_by, choice_of}

-- ---- each colour is below the count

head-column : (x : ℕ × ℕ) (xs : List (ℕ × ℕ)) → column_of (x ∷ xs) x.0 ≡ Some x.1
head-column x xs = rw (at_itself x.0) refl

tail-column : (x : ℕ × ℕ) (xs : List (ℕ × ℕ)) (q : ℕ) → nat_eq q x.0 ≡ false → column_of (x ∷ xs) q ≡ column_of xs q
tail-column x xs q e = rw (at_other q x.0 e) refl

each-below : (g : Graph) (k : ℕ) (xs : List (ℕ × ℕ)) → IsStrictlySortedBy (rank g) (keys_of xs) → ((q c : ℕ) → column_of xs q ≡ Some c → c < k) → AllByRecursion (λ (x : ℕ × ℕ). x.1 < k) xs
unfolding IsStrictlySortedBy
each-below g k [] s h = tt
each-below g k (x ∷ xs) s h = (h x.0 x.1 (head-column x xs), each-below g k xs s.1 rest)
  where
    turn : (m n : ℕ) → nat_eq m n ≡ false → nat_eq n m ≡ false
    turn m n e = grind arith

    rest : (q c : ℕ) → column_of xs q ≡ Some c → c < k
    rest q c e =
        let before : rank g x.0 q ≡ Less = each_has (λ z. rank g x.0 z ≡ Less) (keys_of xs) q s.0 (key_of_column xs q c e) in
        h q c (tail-column x xs q (turn x.0 q (apart g x.0 q before)) ∙ e)

colours-below : (g : Graph) (k : ℕ) (colours : List (ℕ × ℕ)) → IsColouring g k colours → AllByRecursion (λ (x : ℕ × ℕ). x.1 < k) colours
colours-below g k colours a = each-below g k colours a.ordered below
  where
    below : (q c : ℕ) → column_of colours q ≡ Some c → c < k
    below q c e =
        let m : has q (keys_of g) ≡ true = each_has (λ p. has p (keys_of g) ≡ true) (keys_of colours) q a.among (key_of_column colours q c e) in
        let free : IsLeastFree (is_taken g colours q) k (Some c) = subst (IsLeastFree (is_taken g colours q) k) e (a.least q m) in
        free.0

abbrev AreBelow : ℕ → List (List ℕ × ℕ) → Type 0
AreBelow k known = AllByRecursion (λ (p : List ℕ × ℕ). p.1 < k) known

known-below : (greedy : Bool) (chosen : ColumnsOf) (iri_of : ℕ → List ℕ) (items : List Item) (known : List (List ℕ × ℕ)) → AreBelow chosen.count chosen.known → AreKnown greedy chosen iri_of items known → AreBelow chosen.count known
known-below false chosen iri_of items known b h = subst (AreBelow chosen.count) (sym h) b
known-below true chosen iri_of items known b h = bulk_below h
  where
    bulk_below : AreBulkColours chosen.count iri_of items known → AreBelow chosen.count known
    bulk_below a =
        subst (AreBelow chosen.count) (sym a.named)
        (each-map (λ (p : List ℕ × ℕ). p.1 < chosen.count) (λ (c : ℕ × ℕ). (iri_of c.0, c.1)) a.colours (colours-below a.graph chosen.count a.colours a.coloured))

-- ---- columns that fit give each predicate a column

-- some columns and some hashes, and what is known is below the count
pub record AreFitColumns (columns : ColumnsOf) : Type 0 where
  pub count : 0 < columns.count
  pub hashes : 0 < columns.hashes
  pub known : AreBelow columns.count columns.known

have_candidates : (columns : ColumnsOf) → AreFitColumns columns → HaveCandidates columns
have_candidates columns h = record {
  some = λ iri. (candidates columns iri h.count h.hashes all).some;
  first = λ iri. first-below columns.count (candidates_of columns iri) (candidates columns iri h.count h.hashes all);
}
  where
    all : All (λ (p : List ℕ × ℕ). p.1 < columns.count) columns.known
    all = All-from_recursion (λ (p : List ℕ × ℕ). p.1 < columns.count) columns.known h.known

columns-fit : (greedy : Bool) (chosen : ColumnsOf) (iri_of : ℕ → List ℕ) (items : List Item) (columns : ColumnsOf) → AreFitColumns chosen → AreColumnsFor greedy chosen iri_of items columns → AreFitColumns columns
columns-fit greedy chosen iri_of items columns h a = record {
  count = subst (λ n. 0 < n) (sym a.count) h.count;
  hashes = subst (λ n. 0 < n) (sym a.hashes) h.hashes;
  known = subst (λ n. AreBelow n columns.known) (sym a.count) (known-below greedy chosen iri_of items columns.known h.known a.known);
}

pub record HasCandidates (layout : LayoutOf) : Type 0 where
  pub direct : HaveCandidates layout.direct
  pub reverse : HaveCandidates layout.reverse

layout-candidates : (choice : ChoiceOf) (terms : List RdfTerm) (items : List Item) (layout : LayoutOf) → AreFitColumns choice.direct → AreFitColumns choice.reverse → IsLayoutFor choice terms items layout → HasCandidates layout
layout-candidates choice terms items layout d r h = record {
  direct = have_candidates layout.direct (columns-fit choice.greedy choice.direct (text_of_id terms) items layout.direct d h.direct);
  reverse = have_candidates layout.reverse (columns-fit choice.greedy choice.reverse (text_of_id terms) (map turned items) layout.reverse r h.reverse);
}

-- ---- what options choose fits

same_name : (a b : SideName) → same_side a b ≡ true → b ≡ a
same_name Direct Direct e = refl
same_name Direct Reverse e = cc
same_name Reverse Direct e = cc
same_name Reverse Reverse e = refl

on-below : (direct reverse : ℕ) (side : SideName) (colours : List ColourOf) → AllByRecursion (λ (c : ColourOf). c.column < columns_on direct reverse c.side) colours → AreBelow (columns_on direct reverse side) (known_on side colours)
on-below direct reverse side [] a = tt
on-below direct reverse side (colour ∷ colours) a = by (same_side side colour.side) refl (on-below direct reverse side colours a.1)
  where
    by : (b : Bool) → same_side side colour.side ≡ b → AreBelow (columns_on direct reverse side) (known_on side colours)
        → AreBelow (columns_on direct reverse side) (if b then (colour.iri, colour.column) ∷ known_on side colours else known_on side colours)
    by true e ih = (subst (λ (name : SideName). colour.column < columns_on direct reverse name) (same_name side colour.side e) a.0, ih)
    by false e ih = ih

by-below : (layout : Layout) (direct reverse : ℕ) (side : SideName) (colours : List ColourOf) → AreFit direct reverse colours → AreBelow (columns_on direct reverse side) (known_by layout side colours)
by-below Colour direct reverse side colours fit = tt
by-below Hash direct reverse side colours fit = tt
by-below (File name) direct reverse side colours fit = on-below direct reverse side colours fit.below

above_none : (n : ℕ) → 1 ≤ n → 0 < n
above_none n h = omega arith

pub chosen-candidates : (options : Options) (colours : List ColourOf) (terms : List RdfTerm) (items : List Item) (layout : LayoutOf) → AreInRange options → AreFit options.columns options.reverse colours
    → IsLayoutFor (choice_of options colours) terms items layout → HasCandidates layout
chosen-candidates options colours terms items layout r fit h =
    layout-candidates (choice_of options colours) terms items layout
    (record { count = above_none options.columns r.columns.0; hashes = above_none options.hashes r.hashes.0; known = by-below options.layout options.columns options.reverse Direct colours fit })
    (record { count = above_none options.reverse r.reverse.0; hashes = above_none options.hashes r.hashes.0; known = by-below options.layout options.columns options.reverse Reverse colours fit }) h
