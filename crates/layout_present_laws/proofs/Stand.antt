-- The tables of changes stand for what is present.
use Rattle.std.proofs.Common.{List, map, subst}
use Rattle.std.specs.List.{AllByRecursion}
use Rattle.line_change_meaning.specs.declared.change.Change.{Change}
use Rattle.line_change_meaning.specs.Present.{named, bulk, present}
use Rattle.run_meaning.specs.declared.command.Options.{Options}
use Rattle.colouring_file_meaning.specs.ColourLines.{ColourOf, AreFit}
use Rattle.run_command_laws.specs.Ranges.{AreInRange}
use Rattle.layout_standing_meaning.specs.Dictionary.{IsTriple}
use Rattle.layout_standing_meaning.specs.Schemas.{LayoutOf}
use Rattle.layout_standing_meaning.specs.Standing.{StandsFor}
use Rattle.layout_standing_meaning.specs.Stored.{IsStore, tables_of, stored_triples}
use Rattle.layout_standing_meaning.proofs.Stands.{stands}
use Rattle.layout_bulk_laws.specs.BulkStore.{HaveCandidates, terms_of, bulk_items}
use Rattle.layout_facts_laws.proofs.Order.{same-stands}
use Rattle.layout_placed_meaning.specs.Placed.{placed_store, placed_tables}
use Rattle.layout_placed_meaning.specs.Chosen.{IsLayoutOf}
use Rattle.layout_placed_laws.proofs.Steps.{placed-layout}
use Rattle.layout_laws.proofs.Columns.{chosen-candidates}
use Rattle.layout_laws.proofs.Stores.{Holds, placed-holds}

abbrev pub AreForms : List Change → Type 0
AreForms changes = AllByRecursion (λ (change : Change). IsTriple (named change)) changes

pub placed-good : (layout : LayoutOf) (changes : List Change) → HaveCandidates layout.direct → HaveCandidates layout.reverse → AreForms changes → IsStore (placed_store layout changes)
placed-good layout changes d r forms = (placed-holds layout changes (record { direct = d; reverse = r }) forms).good

held-stands : (layout : LayoutOf) (changes : List Change) → Holds (placed_store layout changes) changes → StandsFor layout (placed_tables layout changes) (present changes)
held-stands layout changes h =
    let s = placed_store layout changes in
    same-stands layout (tables_of s) (stored_triples s) (present changes) (subst (λ (l : LayoutOf). StandsFor l (tables_of s) (stored_triples s)) (placed-layout layout changes) (stands s h.good)) h.same

pub placed-stands : (layout : LayoutOf) (changes : List Change) → HaveCandidates layout.direct → HaveCandidates layout.reverse → AreForms changes → StandsFor layout (placed_tables layout changes) (present changes)
placed-stands layout changes d r forms = held-stands layout changes (placed-holds layout changes (record { direct = d; reverse = r }) forms)

pub chosen-stands : (options : Options) (colours : List ColourOf) (changes : List Change) (layout : LayoutOf) → AreInRange options → AreFit options.columns options.reverse colours → AreForms changes → IsLayoutOf options colours changes layout
    → StandsFor layout (placed_tables layout changes) (present changes)
chosen-stands options colours changes layout r fit forms chosen =
    held-stands layout changes (placed-holds layout changes (chosen-candidates options colours (terms_of (map named (bulk changes))) (bulk_items (map named (bulk changes))) layout r fit chosen) forms)
