-- What is asked of a star of a plan that may be compiled, and its side over tables with the facts that are told.
use Rattle.std.specs.Prelude.{◌&&◌, ◌++◌, ◌∷◌, ◌≡◌, ◌<◌, ◌^◌, ◌+◌, List, Some, [], map, pos, refl, true, ℕ}
use Rattle.std.proofs.Common.{ap, subst, sym}
use Rattle.std.specs.List.{AllByRecursion, list_all}
use Rattle.bags.specs.Bag.{SameBag}
use Rattle.rdf_meaning.specs.Terms.{RdfTriple}
use Rattle.rdf_meaning.specs.declared.side.SideName.{SideName}
use Rattle.rdf_meaning.specs.declared.side.SideName.TheVariants.{Direct, Reverse}
use Rattle.table_meaning.specs.Tables.{NamedTable}
use Rattle.table_meaning.specs.Ints.{is_wide_int}
use Rattle.layout_meaning.specs.Columns.{ColumnsOf}
use Rattle.layout_meaning.specs.Facts.{FactsOf, IdOf}
use Rattle.layout_standing_meaning.specs.Contents.{SideContents, said}
use Rattle.layout_standing_meaning.specs.Dictionary.{HasIds, AreEntries, id_of}
use Rattle.layout_standing_meaning.specs.Schemas.{LayoutOf, list_schema, primary_schema}
use Rattle.layout_standing_meaning.specs.Standing.{SideStands}
use Rattle.layout_facts_meaning.specs.Facts.{HaveFacts}
use Rattle.query_plan_meaning.specs.declared.star.Star.{Star}
use Rattle.query_plan_meaning.specs.Plans.{constant_where_several, required_there}
use Rattle.query_plan_meaning.specs.Stars.{star_in_width}
use Rattle.sql_rows_meaning.specs.Scopes.{Schemas}
use Rattle.sql_rows_meaning.specs.Tables.{Relations, relations_of}
use Rattle.query_merging_meaning.specs.Merging.{is_plain_where_several}
use Rattle.sql_gen_meaning.specs.Compilable.{AreColumns, has_few_arms, star_is_told}
use Rattle.sql_gen_step_laws.specs.Carried.{Ids}
use Rattle.sql_gen_chain_laws.specs.Chains.{SameBase}
use Rattle.sql_gen_star_meaning.specs.SideTables.{HoldsSide}
use Rattle.sql_gen_open_laws.proofs.SidesHeld.{held_direct, held_reverse}
use Rattle.sql_gen_star_solution_laws.specs.StarArms.{side_item}
use Rattle.sql_gen_star_fit_laws.specs.Fitting.{HasFreshValues, columns_of_side, contents_of_side}
use Rattle.sql_gen_numbered_meaning.specs.Namings.{is_table}
use Rattle.sql_gen_numbered_meaning.specs.Numbered.{lists_name, primary_name}
use Rattle.sql_gen_out_laws.specs.Outs.{HasTables}
use Rattle.sql_gen_star_out_laws.specs.StarOuts.{told_columns}
use Rattle.sql_gen_star_out_laws.proofs.Told.{columns-told}

-- a star of a leaf that fits, is in width, and may be compiled
pub record IsAsked (facts : FactsOf) (ids : List IdOf) (star : Star) : Type 0 where
  pub there : required_there star.body ≡ true
  pub constant : constant_where_several star.body ≡ true
  pub fresh : (is : Ids) → HasFreshValues is star
  pub in_width : star_in_width star ≡ true
  pub told : star_is_told ids star ≡ true
  pub plain : is_plain_where_several facts.spilled star ≡ true
  pub few : has_few_arms star ≡ true

-- columns of both sides, and ids that have texts
pub record AreFine (facts : FactsOf) (ids : List IdOf) : Type 0 where
  pub direct : AreColumns facts.direct
  pub reverse : AreColumns facts.reverse
  pub wide : list_all (λ (i : IdOf). is_wide_int (pos i.id)) ids ≡ true

pub columns-fine : (facts : FactsOf) (ids : List IdOf) → AreFine facts ids → (side : SideName) → AreColumns (told_columns facts side)
columns-fine facts ids f Direct = f.direct
columns-fine facts ids f Reverse = f.reverse

-- the schemas of a side's tables
pub primary-there : (facts : FactsOf) (t : Schemas) → HasTables facts t → (side : SideName) → t (primary_name side) ≡ Some (primary_schema (told_columns facts side).count)
primary-there facts t h Direct = h (primary_name Direct) refl
primary-there facts t h Reverse = h (primary_name Reverse) refl

pub lists-there : (facts : FactsOf) (t : Schemas) → HasTables facts t → (side : SideName) → t (lists_name side) ≡ Some list_schema
lists-there facts t h Direct = h (lists_name Direct) refl
lists-there facts t h Reverse = h (lists_name Reverse) refl

-- a side over tables with these facts
pub record SideThere (columns : ColumnsOf) (layout : LayoutOf) (tables : List NamedTable) (g : List RdfTriple) (ids : List IdOf) (facts : FactsOf) (d : HaveFacts layout tables g ids facts) (side : SideName) (t : Relations) : Type 0 where
  pub stands : SideStands columns d.contents.terms (contents_of_side side d.contents)
  pub says : SameBag (said (contents_of_side side d.contents)) (map (side_item side (id_of d.contents.terms)) g)
  pub held : HoldsSide columns.count (contents_of_side side d.contents) (t (primary_name side)) (t (lists_name side))

layout-side : (layout : LayoutOf) (tables : List NamedTable) (g : List RdfTriple) (ids : List IdOf) (facts : FactsOf) → (d : HaveFacts layout tables g ids facts) → (side : SideName) → (t : Relations) → SameBase is_table (relations_of tables) t →
    SideThere (columns_of_side side layout) layout tables g ids facts d side t
layout-side layout tables g ids facts d Direct t same = record {
  stands = d.same_triples.direct_side;
  says = d.same_triples.direct_triples;
  held = moved (held_direct layout d.contents tables d.exact_tables);
}
  where
    moved : HoldsSide layout.direct.count d.contents.direct (relations_of tables (primary_name Direct)) (relations_of tables (lists_name Direct)) → HoldsSide layout.direct.count d.contents.direct (t (primary_name Direct)) (t (lists_name Direct))
    moved h = rw (same (primary_name Direct) refl, same (lists_name Direct) refl) h
layout-side layout tables g ids facts d Reverse t same = record {
  stands = d.same_triples.reverse_side;
  says = d.same_triples.reverse_triples;
  held = moved (held_reverse layout d.contents tables d.exact_tables);
}
  where
    moved : HoldsSide layout.reverse.count d.contents.reverse (relations_of tables (primary_name Reverse)) (relations_of tables (lists_name Reverse)) → HoldsSide layout.reverse.count d.contents.reverse (t (primary_name Reverse)) (t (lists_name Reverse))
    moved h = rw (same (primary_name Reverse) refl, same (lists_name Reverse) refl) h

pub side-there : (layout : LayoutOf) (tables : List NamedTable) (g : List RdfTriple) (ids : List IdOf) (facts : FactsOf) → (d : HaveFacts layout tables g ids facts) → (side : SideName) → (t : Relations) → SameBase is_table (relations_of tables) t →
    SideThere (told_columns facts side) layout tables g ids facts d side t
side-there layout tables g ids facts d side t same =
    subst (λ (c : ColumnsOf). SideThere c layout tables g ids facts d side t) (columns-told layout tables g ids facts d side) (layout-side layout tables g ids facts d side t same)
