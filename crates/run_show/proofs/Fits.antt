-- What is shown of the store of a run.
use Rattle.std.proofs.Common.{ℕ, ◌≤◌, List, ap, ◌∙◌, subst, arith}
use Rattle.bags.specs.Bag.{SameBag}
use Rattle.rdf_meaning.specs.Terms.{RdfTriple}
use Rattle.line_change_meaning.specs.declared.change.Change.{Change}
use Rattle.line_change_meaning.specs.Present.{present}
use Rattle.colouring_file_meaning.specs.ColourLines.{ColourOf}
use Rattle.table_meaning.specs.Tables.{NamedTable}
use Rattle.layout_meaning.specs.Facts.{FactsOf, IdOf}
use Rattle.layout_standing_meaning.specs.Schemas.{LayoutOf}
use Rattle.layout_standing_meaning.specs.Standing.{StandsFor}
use Rattle.layout_standing_meaning.specs.Stored.{StoreOf, layout_of, tables_of, stored_triples}
use Rattle.layout_facts_meaning.specs.Facts.{HaveFacts}
use Rattle.layout_facts_laws.proofs.Order.{same-says}
use Rattle.layout_placed_meaning.specs.RunStores.{IsRunStore}
use Rattle.query_meaning.specs.declared.query.Query.{Query}
use Rattle.sql_meaning.specs.declared.script.Script.{Script}
use Rattle.run_meaning.specs.declared.command.Options.{Options}
use Rattle.run_command_laws.specs.Ranges.{AreInRange}
use Rattle.run_show_meaning.specs.Scripts.{IsScriptFor}
use Rattle.run_show_meaning.specs.Showing.{IsShown, showing}
use Rattle.run_show.specs.Shown.{IsStoreShown, shown_text}

-- ---- columns

pub direct_few : (options : Options) (colours : List ColourOf) (changes : List Change) (s : StoreOf) → AreInRange options → IsRunStore options colours changes s → s.direct.columns.count ≤ 32
direct_few options colours changes s range run = omega (arith, run.chosen.direct.count, range.columns.1)

pub reverse_few : (options : Options) (colours : List ColourOf) (changes : List Change) (s : StoreOf) → AreInRange options → IsRunStore options colours changes s → s.reverse.columns.count ≤ 32
reverse_few options colours changes s range run = omega (arith, run.chosen.reverse.count, range.reverse.1)

-- ---- the order of the triples changes nothing

same-told : (layout : LayoutOf) (tables : List NamedTable) (g h : List RdfTriple) (ids : List IdOf) (facts : FactsOf) → SameBag g h → HaveFacts layout tables g ids facts → HaveFacts layout tables h ids facts
same-told layout tables g h ids facts same told = record {
  contents = told.contents;
  exact_tables = told.exact_tables;
  same_triples = same-says layout told.contents g h same told.same_triples;
  same_ids = told.same_ids;
  same_facts = told.same_facts;
}

same-script : (layout : LayoutOf) (tables : List NamedTable) (g h : List RdfTriple) (q : Query) (script : Script) → SameBag g h → IsScriptFor layout tables g q script → IsScriptFor layout tables h q script
same-script layout tables g h q script same is = record {
  ids = is.ids;
  facts = is.facts;
  constants = is.constants;
  told = same-told layout tables g h is.ids is.facts same is.told;
  writable = is.writable;
  binds = is.binds;
  right = is.right;
}

-- ---- what is shown

pub shown_fit : (options : Options) (colours : List ColourOf) (changes : List Change) (q : Query) (s : StoreOf) (text : List ℕ) → IsRunStore options colours changes s → IsStoreShown s q text → IsShown options (showing colours changes q) text
shown_fit options colours changes q s text run shown = record {
  layout = layout_of s;
  chosen = run.chosen;
  stands = subst (λ (w : StoreOf). StandsFor (layout_of s) (tables_of w) (present changes)) run.placed run.stands;
  script = shown.script;
  is_script = subst (λ (w : StoreOf). IsScriptFor (layout_of s) (tables_of w) (present changes) q shown.script) run.placed
      (same-script (layout_of s) (tables_of s) (stored_triples s) (present changes) q shown.script run.triples shown.is_script);
  written = shown.written ∙ ap (λ (w : StoreOf). shown_text (tables_of w) shown.script) run.placed;
}
