-- Heads: what is spelled is read, and what is read is spelled.
use Rattle.std.proofs.Common.{◌≡◌, ◌⊎◌, inl, inr, ℕ, ◌-◌, true, false, cond, List, [], ◌∷◌, ◌++◌, length, take, drop, map, refl, sym, ap, subst, ◌∙◌, append_assoc, arith}
use Rattle.std.specs.Prelude.{Option, Some, None, codes, if◌then◌else◌}
use Rattle.std.specs.Cmp.{first_so, second_so}
use Rattle.std.specs.List.{list_all}
use Rattle.std.specs.Str.{bytes_eq}
use Rattle.std.proofs.Math.Seq.{take-append_seam, drop-append_seam}
use Rattle.std.proofs.lemmas.Bool.{cases_Bool, false≢true}
use Rattle.std.proofs.lemmas.List.{take-append-drop, length-append}
use Rattle.std.proofs.lemmas.List.Folds.{list_all-append}
use Rattle.std.proofs.lemmas.Slice.Eq.{bytes_eq-Decides}
use Rattle.table_meaning.specs.declared.kind.Kind.{Kind}
use Rattle.table_meaning.specs.declared.kind.Kind.TheVariants as kinds
use Rattle.table_meaning.specs.declared.schema.Column.{Column}
use Rattle.table_meaning.specs.CellText.{tabbed}
use Rattle.table_meaning.specs.Names.{is_name}
use Rattle.table_meaning.specs.Schemas.{is_schema}
use Rattle.table_text_meaning.specs.TableText.{is_truth, is_plain_column, column_text, kind_mark}
use Rattle.table_text.specs.Reading.{◌>>=◌, before, fields_of, is_other, column_as, column_of, columns_of, schema_of, head_in, head_of, name_of, or_else}
use Rattle.table_text.proofs.TextLaws.{chosen, bind_some, before_some}
use Rattle.table_text.proofs.CellLaws.{name_other, tab_stops}
use Rattle.table_text.proofs.RowLaws.{fields_of-tabbed, tabbed-fields_of}

-- a column of this name and kind
abbrev made : List ℕ → Kind → Column
made name kind = record { name = name; kind = kind }

front_length : (name mark : List ℕ) → length (name ++ mark) - length mark ≡ length name
front_length name mark = omega (arith, length-append name mark)

column_as-spelled : (mark : List ℕ) (kind : Kind) (name : List ℕ) → is_name name ≡ true → column_as mark kind (name ++ mark) ≡ Some (made name kind)
column_as-spelled mark kind name named =
    let same : bytes_eq mark mark ≡ true = (bytes_eq-Decides mark mark).1 refl in
    rw (front_length name mark, drop-append_seam name mark, take-append_seam name mark, same, named) refl

column_as-spells : (mark : List ℕ) (kind : Kind) (field : List ℕ) (column : Column) → column_as mark kind field ≡ Some column
    → (field ≡ column.name ++ mark) × (is_name column.name ≡ true) × (column.kind ≡ kind)
column_as-spells mark kind field column h = by (cases_Bool (bytes_eq (drop (length field - length mark) field) mark))
  where
    by : (bytes_eq (drop (length field - length mark) field) mark ≡ true) ⊎ (bytes_eq (drop (length field - length mark) field) mark ≡ false)
        → (field ≡ column.name ++ mark) × (is_name column.name ≡ true) × (column.kind ≡ kind)
    by (inl e) =
        let name : List ℕ = take (length field - length mark) field in
        let h' : (name_of name >>= (λ n. Some (made n kind))) ≡ Some column = subst (λ q. cond q (name_of name >>= (λ n. Some (made n kind))) None ≡ Some column) e h in
        let x = bind_some (name_of name) (λ n. Some (made n kind)) column h' in
        let named = chosen (is_name name) name x.0 x.1 in
        let is : made x.0 kind ≡ column = (chosen true (made x.0 kind) column x.2).1 in
        let whole : field ≡ name ++ mark = sym (take-append-drop (length field - length mark) field) ∙ ap (λ (t : List ℕ). name ++ t) ((bytes_eq-Decides _ mark).0 e) in
        subst (λ (c : Column). (field ≡ c.name ++ mark) × (is_name c.name ≡ true) × (c.kind ≡ kind)) is
        (whole ∙ ap (λ (t : List ℕ). t ++ mark) named.1, subst (λ (t : List ℕ). is_name t ≡ true) named.1 named.0, refl)
    by (inr e) =
        let none : cond false (name_of (take (length field - length mark) field) >>= (λ n. Some (made n kind))) None ≡ Some column =
        subst (λ q. cond q (name_of (take (length field - length mark) field) >>= (λ n. Some (made n kind))) None ≡ Some column) e h in
        cc

column_of-spelled : (name : List ℕ) (kind : Kind) → is_plain_column (made name kind) ≡ true → column_of (column_text (made name kind)) ≡ Some (made name kind)
unfolding column_of
column_of-spelled name kinds.Int plain = ap (λ o. or_else o (column_as (codes ":text") kinds.Text (name ++ codes ":int"))) (column_as-spelled (codes ":int") kinds.Int name (first_so _ _ plain))
column_of-spelled name kinds.Text plain =
    let long : length (name ++ codes ":text") - 4 ≡ length (name ++ 58 ∷ []) = omega (arith, length-append name (codes ":text"), length-append name (58 ∷ [])) in
    let split : name ++ codes ":text" ≡ (name ++ 58 ∷ []) ++ codes "text" = sym (append_assoc name (58 ∷ []) (codes "text")) in
    let back : drop (length (name ++ codes ":text") - 4) (name ++ codes ":text") ≡ codes "text" = rw (long, split) (drop-append_seam (name ++ 58 ∷ []) (codes "text")) in
    let other : column_as (codes ":int") kinds.Int (name ++ codes ":text") ≡ None = rw back refl in
    ap (λ o. or_else o (column_as (codes ":text") kinds.Text (name ++ codes ":text"))) other ∙ column_as-spelled (codes ":text") kinds.Text name (first_so _ _ plain)
column_of-spelled name kinds.Truth plain = absurd (false≢true (second_so (is_name name) false plain))

or_else_some : {X : Type 0} (a b : Option X) (x : X) → or_else a b ≡ Some x → (a ≡ Some x) ⊎ (b ≡ Some x)
or_else_some None b x h = inr h
or_else_some (Some y) b x h = inl h

abbrev pub SpellsColumn : List ℕ → Column → Type 0
SpellsColumn field column = (field ≡ column_text column) × (is_plain_column column ≡ true)

of_kind : (field mark : List ℕ) (kind : Kind) (column : Column) → kind_mark kind ≡ mark → is_truth kind ≡ false → (field ≡ column.name ++ mark) × (is_name column.name ≡ true) × (column.kind ≡ kind) → SpellsColumn field column
of_kind field mark kind column marks plain s =
    let truth : is_truth column.kind ≡ false = ap is_truth s.2 ∙ plain in
    (s.0 ∙ ap (λ (m : List ℕ). column.name ++ m) (sym (ap kind_mark s.2 ∙ marks)), rw (s.1, truth) refl)

column_of-spells : (field : List ℕ) (column : Column) → column_of field ≡ Some column → SpellsColumn field column
unfolding column_of
column_of-spells field column h = by (or_else_some (column_as (codes ":int") kinds.Int field) (column_as (codes ":text") kinds.Text field) column h)
  where
    by : (column_as (codes ":int") kinds.Int field ≡ Some column) ⊎ (column_as (codes ":text") kinds.Text field ≡ Some column) → SpellsColumn field column
    by (inl e) = of_kind field (codes ":int") kinds.Int column refl refl (column_as-spells (codes ":int") kinds.Int field column e)
    by (inr e) = of_kind field (codes ":text") kinds.Text column refl refl (column_as-spells (codes ":text") kinds.Text field column e)

columns_of-spelled : (columns : List Column) → list_all is_plain_column columns ≡ true → columns_of (map column_text columns) ≡ Some columns
columns_of-spelled [] plain = refl
columns_of-spelled (column ∷ columns) plain =
    let first : column_of (column_text column) ≡ Some column = column_of-spelled column.name column.kind (first_so _ _ plain) in
    let others : columns_of (map column_text columns) ≡ Some columns = columns_of-spelled columns (second_so (is_plain_column column) _ plain) in
    rw (first, others) refl

abbrev pub SpellsColumns : List (List ℕ) → List Column → Type 0
SpellsColumns fields columns = (fields ≡ map column_text columns) × (list_all is_plain_column columns ≡ true)

columns_of-spells : (fields : List (List ℕ)) (columns : List Column) → columns_of fields ≡ Some columns → SpellsColumns fields columns
columns_of-spells [] columns h = subst (SpellsColumns []) (chosen true [] columns h).1 (refl, refl)
columns_of-spells (field ∷ fields) columns h =
    let x = bind_some (column_of field) (λ column. before (column ∷ []) (columns_of fields)) columns h in
    let y = before_some x.0 (columns_of fields) columns x.2 in
    let first : SpellsColumn field x.0 = column_of-spells field x.0 x.1 in
    let others : SpellsColumns fields y.0 = columns_of-spells fields y.0 y.1 in
    subst (SpellsColumns (field ∷ fields)) y.2
    (ap (λ (f : List ℕ). f ∷ fields) first.0 ∙ ap (λ (fs : List (List ℕ)). column_text x.0 ∷ fs) others.0, rw (first.1, others.1) refl)

mark_other : (kind : Kind) → list_all (is_other 9) (kind_mark kind) ≡ true
mark_other kinds.Int = refl
mark_other kinds.Text = refl
mark_other kinds.Truth = refl

columns_other : (columns : List Column) → list_all is_plain_column columns ≡ true → list_all (list_all (is_other 9)) (map column_text columns) ≡ true
columns_other [] plain = refl
columns_other (column ∷ columns) plain =
    let name : list_all (is_other 9) column.name ≡ true = name_other 9 tab_stops column.name (first_so _ _ (first_so _ _ plain)) in
    let mark = mark_other column.kind in
    let first : list_all (is_other 9) (column_text column) ≡ true = list_all-append (is_other 9) column.name (kind_mark column.kind) ∙ rw (name, mark) refl in
    let others = columns_other columns (second_so (is_plain_column column) _ plain) in
    rw (first, others) refl

-- what follows `table` and a tab
pub head_of-spelled : (name : List ℕ) (columns : List Column) → is_name name ≡ true → is_schema columns ≡ true → list_all is_plain_column columns ≡ true
    → head_of (tabbed (name ∷ map column_text columns)) ≡ Some (name, columns)
unfolding head_of
head_of-spelled name columns named schema plain =
    let clean : list_all (is_other 9) name ≡ true = name_other 9 tab_stops name named in
    let pieces : list_all (list_all (is_other 9)) (name ∷ map column_text columns) ≡ true = (let others = columns_other columns plain in rw (clean, others) refl) in
    let read = columns_of-spelled columns plain in
    ap head_in (fields_of-tabbed name (map column_text columns) pieces) ∙ rw (named, read, schema) refl

pub head_of-spells : (rest : List ℕ) (name : List ℕ) (columns : List Column) → head_of rest ≡ Some (name, columns)
    → (rest ≡ tabbed (name ∷ map column_text columns)) × (is_name name ≡ true) × (is_schema columns ≡ true) × (list_all is_plain_column columns ≡ true)
unfolding head_of
head_of-spells rest name columns h = by (fields_of rest) refl h
  where
    by : (fields : List (List ℕ)) → fields_of rest ≡ fields → head_in fields ≡ Some (name, columns)
        → (rest ≡ tabbed (name ∷ map column_text columns)) × (is_name name ≡ true) × (is_schema columns ≡ true) × (list_all is_plain_column columns ≡ true)
    by [] is h' = cc
    by (field ∷ fields) is h' =
        let x = bind_some (name_of field) (λ n. schema_of fields >>= (λ cs. Some (n, cs))) (name, columns) h' in
        let named = chosen (is_name field) field x.0 x.1 in
        let y = bind_some (schema_of fields) (λ cs. Some (x.0, cs)) (name, columns) x.2 in
        let z = bind_some (columns_of fields) (λ cs. if is_schema cs then Some cs else None) y.0 y.1 in
        let schema = chosen (is_schema z.0) z.0 y.0 z.2 in
        let pair = (chosen true (x.0, y.0) (name, columns) y.2).1 in
        let s : SpellsColumns fields z.0 = columns_of-spells fields z.0 z.1 in
        let cs : z.0 ≡ columns = schema.1 ∙ ap (λ (p : List ℕ × List Column). p.1) pair in
        let n : field ≡ name = named.1 ∙ ap (λ (p : List ℕ × List Column). p.0) pair in (
          sym (tabbed-fields_of rest) ∙ ap tabbed (is ∙ ap (λ (f : List ℕ). f ∷ fields) n ∙ ap (λ (fs : List (List ℕ)). name ∷ fs) (s.0 ∙ ap (map column_text) cs)),
          subst (λ (f : List ℕ). is_name f ≡ true) n named.0,
          subst (λ (c : List Column). is_schema c ≡ true) cs schema.0,
          subst (λ (c : List Column). list_all is_plain_column c ≡ true) cs s.1,
        )
