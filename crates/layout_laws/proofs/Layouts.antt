-- The layout of a bulk under a choice.
use Rattle.std.proofs.Common.{◌≡◌, ℕ, Bool, true, false, List, map, sym, ap, ◌∙◌}
use Rattle.rdf_meaning.specs.Terms.{RdfTerm}
use Rattle.line_change_meaning.specs.declared.change.Change.{Change}
use Rattle.line_change_meaning.specs.Present.{named, bulk}
use Rattle.run_meaning.specs.declared.command.Options.{Options}
use Rattle.colouring_file_meaning.specs.ColourLines.{ColourOf}
use Rattle.layout_meaning.specs.Columns.{ColumnsOf}
use Rattle.layout_meaning.specs.Side.{Item}
use Rattle.layout_standing_meaning.specs.Schemas.{LayoutOf}
use Rattle.layout_standing_meaning.specs.Sides.{turned}
use Rattle.layout_standing_meaning.specs.Stored.{text_of_id}
use Rattle.layout_bulk_laws.specs.BulkStore.{terms_of, bulk_items}
use Rattle.layout_columns_meaning.specs.BulkColours.{AreKnown, AreBulkColours, AreColumnsFor, entities_of}
use Rattle.layout_columns_meaning.specs.Layouts.{ChoiceOf, IsLayoutFor}
use Rattle.layout_placed_meaning.specs.Chosen.{IsLayoutOf, choice_of}
use Rattle.layout_laws.proofs.Graphs.{one_colouring}

coloured : (k : ℕ) (iri_of : ℕ → List ℕ) (items : List Item) (a b : List (List ℕ × ℕ)) → AreBulkColours k iri_of items a → AreBulkColours k iri_of items b → a ≡ b
coloured k iri_of items a b x y =
    x.named
    ∙ ap (map (λ (c : ℕ × ℕ). (iri_of c.0, c.1))) (one_colouring k (entities_of items) x.graph y.graph x.colours y.colours x.interferes y.interferes x.coloured y.coloured)
    ∙ sym y.named

known : (greedy : Bool) (chosen : ColumnsOf) (iri_of : ℕ → List ℕ) (items : List Item) (a b : List (List ℕ × ℕ)) → AreKnown greedy chosen iri_of items a → AreKnown greedy chosen iri_of items b → a ≡ b
known false chosen iri_of items a b x y = x ∙ sym y
known true chosen iri_of items a b x y = coloured chosen.count iri_of items a b x y

columns : (greedy : Bool) (chosen : ColumnsOf) (iri_of : ℕ → List ℕ) (items : List Item) (a b : ColumnsOf) → AreColumnsFor greedy chosen iri_of items a → AreColumnsFor greedy chosen iri_of items b → a ≡ b
columns greedy chosen iri_of items a b x y =
    let m = x.count ∙ sym y.count in
    let n = x.hashes ∙ sym y.hashes in
    let c = known greedy chosen iri_of items a.known b.known x.known y.known in
    λ i. record { count = m i; hashes = n i; known = c i }

pub one_layout : (choice : ChoiceOf) (terms : List RdfTerm) (items : List Item) (a b : LayoutOf) → IsLayoutFor choice terms items a → IsLayoutFor choice terms items b → a ≡ b
one_layout choice terms items a b x y =
    let iri_of : ℕ → List ℕ = text_of_id terms in
    let d = columns choice.greedy choice.direct iri_of items a.direct b.direct x.direct y.direct in
    let r = columns choice.greedy choice.reverse iri_of (map turned items) a.reverse b.reverse x.reverse y.reverse in
    λ i. record { direct = d i; reverse = r i }

pub one_chosen : (options : Options) (colours : List ColourOf) (changes : List Change) (a b : LayoutOf) → IsLayoutOf options colours changes a → IsLayoutOf options colours changes b → a ≡ b
one_chosen options colours changes a b x y = one_layout (choice_of options colours) (terms_of (map named (bulk changes))) (bulk_items (map named (bulk changes))) a b x y
