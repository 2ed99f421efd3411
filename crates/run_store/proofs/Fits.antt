-- Changes that were cut and placed, and what options choose.
use Rattle.std.proofs.Common.{◌≡◌, ℕ, ◌+◌, ◌<◌, ◌^◌, Bool, true, false, if◌then◌else◌, List, [], ◌∷◌, ◌++◌, map, fold, length, length-append, None, refl, ap, ◌∙◌, arith, subst}
use Rattle.std.specs.Prelude.{Result, Ok, Err, IfOk}
use Rattle.std.specs.Global.{Vec}
use Rattle.bags.specs.Bag.{SameBag}
use Rattle.rdf_meaning.specs.Terms.{RdfTriple}
use Rattle.line_change_meaning.specs.declared.change.Change.{Change}
use Rattle.line_change_meaning.specs.declared.change.Change.TheVariants.{Add}
use Rattle.line_change_meaning.specs.Present.{named, bulk, present}
use Rattle.layout_standing_meaning.specs.Stored.{StoreOf, IsStore, layout_of, tables_of, stored_triples}
use Rattle.layout_standing_meaning.proofs.Stands.{stands}
use Rattle.layout_bulk_laws.specs.BulkStore.{terms_of, bulk_items, bulk_store}
use Rattle.layout_columns_meaning.specs.Layouts.{ChoiceOf, IsLayoutFor}
use Rattle.layout_placed_meaning.specs.Placed.{changed_in, later_changes}
use Rattle.layout_placed_meaning.specs.RunStores.{IsRunStore}
use Rattle.layout_placed_meaning.specs.Chosen.{known_on, known_by, is_coloured, choice_of, IsBulkLayout}
use Rattle.layout_placed_laws.proofs.Steps.{parts}
use Rattle.layout_placed_laws.proofs.Same.{same-standing}
use Rattle.run_command_laws.specs.Ranges.{AreInRange}
use Rattle.run_meaning.specs.declared.command.Layout.{Layout}
use Rattle.run_meaning.specs.declared.command.Layout.TheVariants.{Colour, Hash, File}
use Rattle.run_meaning.specs.declared.command.Options.{Options}
use Rattle.rdf_meaning.specs.declared.side.SideName.{SideName}
use Rattle.rdf_meaning.specs.declared.side.SideName.TheVariants.{Direct, Reverse}
use Rattle.pred_columns.specs.Refusal.{known_of}
use Rattle.colouring_file_meaning.specs.ColourLines.{ColourOf, same_side, AreFit}
use Rattle.colouring_file.specs.Colours.{colour_of}
use Rattle.colouring_file.specs.declared.colours.ColourLine.{ColourLine}
use Rattle.layout_choice.specs.Chosen.{pair_of, pairs_on, choice_made, refusal_chosen}
use Rattle.layout_choice.specs.Fit.{AreCounts, FitColoursAreTaken, OtherWaysAreTaken}
use Rattle.rdf_triples.specs.declared.refusal.LoadRefusal.{LoadRefusal}
use Rattle.run_store.specs.Ways.{way_for}

-- both parts of what was cut
pub whole : (changes later : List Change) (triples : List RdfTriple) → triples ≡ map named (bulk changes) → later ≡ later_changes changes → map Add triples ++ later ≡ changes
whole changes later triples b l = ap (λ (ts : List RdfTriple). map Add ts ++ later) b ∙ ap (λ (cs : List Change). map Add (map named (bulk changes)) ++ cs) l ∙ parts changes

adds-length : (triples : List RdfTriple) → length (map Add triples) ≡ length triples
adds-length [] = refl
adds-length (t ∷ triples) = omega (arith, adds-length triples)

pub cut-few : (changes later : List Change) (triples : List RdfTriple) → triples ≡ map named (bulk changes) → later ≡ later_changes changes → length changes < 2 ^ 62 → length triples + length later < 2 ^ 62
cut-few changes later triples b l few =
    let e : length (map Add triples ++ later) ≡ length changes = ap (λ (cs : List Change). length cs) (whole changes later triples b l) in
    omega (arith, e, length-append (map Add triples) later, adds-length triples, few)

-- what was cut and placed is the store of the changes
run-store-by : (options : Options) (colours : List ColourOf) (choice : ChoiceOf) (changes later : List Change) (triples : List RdfTriple) (s : StoreOf) → choice ≡ choice_of options colours
    → triples ≡ map named (bulk changes) → later ≡ later_changes changes → IsLayoutFor choice (terms_of triples) (bulk_items triples) (layout_of s)
    → s ≡ fold changed_in (bulk_store (layout_of s) triples) later → IsStore s → SameBag (stored_triples s) (present (map Add triples ++ later)) → IsRunStore options colours changes s
run-store-by options colours choice changes later triples s e b l h placed store same = record {
  chosen = subst (λ (ts : List RdfTriple). IsBulkLayout options colours ts (layout_of s)) b (subst (λ (c : ChoiceOf). IsLayoutFor c (terms_of triples) (bulk_items triples) (layout_of s)) e h);
  placed = placed ∙ ap (λ (ts : List RdfTriple). fold changed_in (bulk_store (layout_of s) ts) later) b
      ∙ ap (λ (cs : List Change). fold changed_in (bulk_store (layout_of s) (map named (bulk changes))) cs) l;
  triples = held;
  stands = same-standing (layout_of s) (tables_of s) (stored_triples s) (present changes) held (stands s store);
}
  where
    held : SameBag (stored_triples s) (present changes)
    held = subst (λ (cs : List Change). SameBag (stored_triples s) (present cs)) (whole changes later triples b l) same

pub run-store : (options : Options) (colours : List ColourOf) (choice : ChoiceOf) (changes later : List Change) (triples : List RdfTriple) (r : Result StoreOf LoadRefusal) → choice ≡ choice_of options colours
    → triples ≡ map named (bulk changes) → later ≡ later_changes changes → IfOk r (λ (s : StoreOf). IsLayoutFor choice (terms_of triples) (bulk_items triples) (layout_of s))
    → IfOk r (λ (s : StoreOf). s ≡ fold changed_in (bulk_store (layout_of s) triples) later) → IfOk r IsStore → IfOk r (λ (s : StoreOf). SameBag (stored_triples s) (present (map Add triples ++ later)))
    → IfOk r (IsRunStore options colours changes)
run-store options colours choice changes later triples (Ok s) e b l h placed store same = run-store-by options colours choice changes later triples s e b l h placed store same
run-store options colours choice changes later triples (Err x) e b l h placed store same = tt

-- ---- what options choose

known-is : (side : SideName) (lines : List ColourLine) → map known_of (pairs_on side lines) ≡ known_on side (map colour_of lines)
known-is side [] = refl
known-is side (line ∷ lines) = by (same_side side line.side) (known-is side lines)
  where
    by : (b : Bool) → map known_of (pairs_on side lines) ≡ known_on side (map colour_of lines)
        → map known_of (if b then pair_of line ∷ pairs_on side lines else pairs_on side lines) ≡ (if b then (line.iri, line.column) ∷ known_on side (map colour_of lines) else known_on side (map colour_of lines))
    by true ih = ap (λ (l : List (List ℕ × ℕ)). (line.iri, line.column) ∷ l) ih
    by false ih = ih

pub choice-is : (options : Options) (lines : Vec ColourLine) → choice_made options.columns options.reverse options.hashes (way_for options.layout lines) ≡ choice_of options (map colour_of lines.items)
choice-is options lines = by options.layout
  where
    by : (l : Layout)
        → choice_made options.columns options.reverse options.hashes (way_for l lines)
        ≡ record {
          direct = record { count = options.columns; hashes = options.hashes; known = known_by l Direct (map colour_of lines.items) };
          reverse = record { count = options.reverse; hashes = options.hashes; known = known_by l Reverse (map colour_of lines.items) };
          greedy = is_coloured l;
        }
    by Colour = refl
    by Hash = refl
    by (File name) = λ i. record {
      direct = record { count = options.columns; hashes = options.hashes; known = known-is Direct lines.items i };
      reverse = record { count = options.reverse; hashes = options.hashes; known = known-is Reverse lines.items i };
      greedy = false;
    }

-- options in range and lines that fit them are not refused
pub not-refused : (options : Options) (lines : Vec ColourLine) → AreInRange options → AreFit options.columns options.reverse (map colour_of lines.items) → FitColoursAreTaken → OtherWaysAreTaken
    → refusal_chosen options.columns options.reverse options.hashes (way_for options.layout lines) ≡ None
not-refused options lines r fit given others = by options.layout
  where
    counts : AreCounts options.columns options.reverse options.hashes
    counts = record {
      some_direct = r.columns.0;
      few_direct = r.columns.1;
      some_reverse = r.reverse.0;
      few_reverse = r.reverse.1;
      some_hash = r.hashes.0;
      few_hashes = r.hashes.1;
    }

    by : (l : Layout) → refusal_chosen options.columns options.reverse options.hashes (way_for l lines) ≡ None
    by Colour = (others options.columns options.reverse options.hashes counts).1
    by Hash = (others options.columns options.reverse options.hashes counts).0
    by (File name) = given options.columns options.reverse options.hashes lines counts fit
