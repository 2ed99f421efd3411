-- The columns of a body whose first SELECT has an item: at least one, with distinct names.
use Rattle.std.proofs.Common.{◌≡◌, ℕ, ◌+◌, Bool, true, false, List, [], ◌∷◌, length, Option, None, Ok, refl, sym, ap, subst}
use Rattle.std.specs.Prelude.{not, ◌||◌, nat_le}
use Rattle.std.proofs.lemmas.Bool.{and_from, false_from_ne_true, both_ways}
use Rattle.std.proofs.lemmas.Slice.Eq.{bytes_eq-Decides}
use Rattle.std.specs.List.{list_any, AllByRecursion}
use Rattle.std.specs.Str.{bytes_eq}
use Rattle.rdf_meaning.specs.Terms.{is_empty}
use Rattle.table_meaning.specs.declared.schema.Column.{Column}
use Rattle.table_meaning.specs.Schemas.{is_schema, are_distinct, column_names}
use Rattle.sql_meaning.specs.declared.script.Item.{Item}
use Rattle.sql_meaning.specs.declared.script.Core.{Core}
use Rattle.sql_rows_meaning.specs.Faults.{in_select}
use Rattle.sql_rows_meaning.specs.Scopes.{Scope, Schemas}
use Rattle.sql_rows_meaning.specs.Binding.{check_items, check_select, check_others, check_body}
use Rattle.sql_rows_laws.specs.KindLaws.{went, fine-same}
use Rattle.sql_rows_laws.specs.SelectLaws.{item-is, select-is}
use Rattle.sql_rows_laws.specs.ScriptLaws.{in_select-is, others-first}
use Rattle.sql_bind.specs.Bound.{has_items}

-- a column with a name that is none of these
abbrev IsNew : List (List ℕ) → Column → Type 0
IsNew names c = list_any (bytes_eq c.name) names ≡ false

not_left : (a b : Bool) → (a || b) ≡ false → a ≡ false
not_left true b h = h
not_left false b h = refl

not_right : (a b : Bool) → (a || b) ≡ false → b ≡ false
not_right true b h = cc
not_right false b h = h

apart-turned : (x y : List ℕ) → bytes_eq x y ≡ false → bytes_eq y x ≡ false
apart-turned x y h = false_from_ne_true (bytes_eq y x) (λ e. both_ways (bytes_eq x y) h ((bytes_eq-Decides x y).1 (sym ((bytes_eq-Decides y x).0 e))))

-- none has this name
none-named : (name : List ℕ) (names : List (List ℕ)) (columns : List Column) → AllByRecursion (IsNew (name ∷ names)) columns → list_any (bytes_eq name) (column_names columns) ≡ false
none-named name names [] all = refl
none-named name names (c ∷ columns) all =
    let here : bytes_eq name c.name ≡ false = apart-turned c.name name (not_left (bytes_eq c.name name) (list_any (bytes_eq c.name) names) all.0) in
    rw (here, none-named name names columns all.1) refl

fewer-names : (name : List ℕ) (names : List (List ℕ)) (columns : List Column) → AllByRecursion (IsNew (name ∷ names)) columns → AllByRecursion (IsNew names) columns
fewer-names name names [] all = tt
fewer-names name names (c ∷ columns) all = (not_right (bytes_eq c.name name) (list_any (bytes_eq c.name) names) all.0, fewer-names name names columns all.1)

-- none has one of these names, and no two have one name
record AreNew (names : List (List ℕ)) (columns : List Column) : Type 0 where
  new : AllByRecursion (IsNew names) columns
  distinct : are_distinct (column_names columns) ≡ true

items-new : (scope : Scope) (names : List (List ℕ)) (items : List Item) (columns : List Column) → check_items scope names items ≡ Ok columns → AreNew names columns
items-new scope names [] columns h = subst (AreNew names) (fine-same [] columns h) (record { new = tt; distinct = refl })
items-new scope names (i ∷ items) columns h =
    let it = item-is scope names i items columns h in
    let rest = items-new scope (i.name ∷ names) items it.rest it.others in
    subst (AreNew names) it.whole (record {
      new = (it.new, fewer-names i.name names it.rest rest.new);
      distinct = and_from (not (list_any (bytes_eq i.name) (column_names it.rest))) (are_distinct (column_names it.rest)) (ap not (none-named i.name names it.rest rest.new)) rest.distinct;
    })

some-items : (scope : Scope) (names : List (List ℕ)) (items : List Item) (columns : List Column) → nat_le 1 (length items) ≡ true → check_items scope names items ≡ Ok columns → is_empty columns ≡ false
some-items scope names [] columns l h = cc
some-items scope names (i ∷ items) columns l h = let it = item-is scope names i items columns h in ap is_empty (sym it.whole)

select-schema : (schemas : Schemas) (first : Option (List Column)) (c : Core) (columns : List Column) → nat_le 1 (length c.items) ≡ true → check_select schemas first c ≡ Ok columns → is_schema columns ≡ true
select-schema schemas first c columns l h =
    let s = select-is schemas first c columns h in
    and_from (not (is_empty columns)) (are_distinct (column_names columns)) (ap not (some-items s.seen.scope [] c.items columns l s.items)) (items-new s.seen.scope [] c.items columns s.items).distinct

pub body_schema : (schemas : Schemas) (n : ℕ) (cores : List Core) (columns : List Column) → has_items cores ≡ true → check_body schemas n cores ≡ Ok columns → is_schema columns ≡ true
body_schema schemas n [] columns f h = cc
body_schema schemas n (c ∷ cores) columns f h =
    let w = went (in_select n (check_select schemas None c)) (λ first. check_others schemas (n + 1) first cores) columns h in
    subst (λ (cs : List Column). is_schema cs ≡ true) (others-first schemas (n + 1) w.what cores columns w.later) (select-schema schemas None c w.what f (in_select-is n (check_select schemas None c) w.what w.first))

-- the names of a body's columns differ
pub body_names_differ : (schemas : Schemas) (n : ℕ) (cores : List Core) (columns : List Column) → check_body schemas n cores ≡ Ok columns → are_distinct (column_names columns) ≡ true
body_names_differ schemas n [] columns h = ap (λ (cs : List Column). are_distinct (column_names cs)) (sym (fine-same [] columns h))
body_names_differ schemas n (c ∷ cores) columns h =
    let w = went (in_select n (check_select schemas None c)) (λ first. check_others schemas (n + 1) first cores) columns h in
    let s = select-is schemas None c w.what (in_select-is n (check_select schemas None c) w.what w.first) in
    subst (λ (cs : List Column). are_distinct (column_names cs) ≡ true) (others-first schemas (n + 1) w.what cores columns w.later) (items-new s.seen.scope [] c.items w.what s.items).distinct
