-- A SELECT under other aliases has the same rows, where these tell apart what the old ones do.
use Rattle.std.specs.Prelude.{◌≡◌, Bool, true, false, if◌then◌else◌, List, [], ◌∷◌, ◌++◌, map, Option, Some, None, refl}
use Rattle.std.proofs.Common.{sym, ap, ap₂, ◌∙◌, subst}
use Rattle.std.specs.List.{flat_map, filter, list_any}
use Rattle.std.specs.Str.{bytes_eq}
use Rattle.std.specs.declared.cmp.Ordering.{Ordering}
use Rattle.std.specs.Ordering.{is_le}
use Rattle.bags.specs.Sort.{sort, insert_sorted, by_items}
use Rattle.table_meaning.specs.declared.cell.Cell.{Cell}
use Rattle.table_meaning.specs.Tables.{NamedTable}
use Rattle.sql_meaning.specs.declared.expression.SqlExpr.{SqlExpr}
use Rattle.sql_meaning.specs.declared.script.Script.{Script}
use Rattle.sql_meaning.specs.declared.script.Step.{Step}
use Rattle.sql_meaning.specs.declared.script.Body.{Body}
use Rattle.sql_meaning.specs.declared.script.Core.{Core}
use Rattle.sql_meaning.specs.declared.script.Item.{Item}
use Rattle.sql_meaning.specs.declared.script.Source.{Source}
use Rattle.sql_meaning.specs.declared.script.JoinTo.{JoinTo}
use Rattle.sql_meaning.specs.declared.script.SqlKey.{SqlKey}
use Rattle.sql_rows_meaning.specs.Cells.{cell_order}
use Rattle.sql_rows_meaning.specs.Values.{Sight, is_true, value_of}
use Rattle.sql_rows_meaning.specs.Tables.{Relation, Relations, cell_under, with_relation, relations_of}
use Rattle.sql_rows_meaning.specs.Sources.{nothing_in_sight, with_row, with_source, where_true, or_nulls, joined_to, all_joined, first_rows}
use Rattle.sql_rows_meaning.specs.Selects.{passed, key_cells, key_order, item_cells, unrepeated, dropped, kept, sorted_sights, select_rows}
use Rattle.sql_rows_meaning.specs.Rows.{body_names, body_rows, body_relation, after_steps, script_rows}
use Rattle.sql_alias_meaning.specs.Each.{Each, none, next}
use Rattle.sql_alias_laws.specs.Aliases.{Name, NewNames, realias, realias_source, realias_from, realias_join, realias_condition, realias_item, realias_key, realias_core, realias_body, realias_step, realias_script, aliases, from_aliases, condition_aliases, join_aliases, core_aliases, body_aliases, script_aliases, AreToldApart}
use Rattle.sql_alias_laws.specs.RenamedValues.{Agree, Within, within-left, within-right, within-here, value-renamed}

-- ---- lists whose members stand in a relation

each-append : {A B : Type 0} {R : A → B → Type 0} {xs xs' : List A} {ys ys' : List B} → Each R xs ys → Each R xs' ys' → Each R (xs ++ xs') (ys ++ ys')
each-append none g = g
each-append (next r e) g = next r (each-append e g)

each-equal : {A B C : Type 0} {R : A → B → Type 0} (g : A → C) (h : B → C) → ((x : A) (y : B) → R x y → g x ≡ h y) → {xs : List A} {ys : List B} → Each R xs ys → map g xs ≡ map h ys
each-equal g h same none = refl
each-equal {A} {B} {C} {R} g h same (next {x} {y} {xs} {ys} r e) = ap₂ (λ (c : C) (cs : List C). c ∷ cs) (same x y r) (each-equal g h same e)

each-flat : {A B C D : Type 0} {R : A → B → Type 0} {S : C → D → Type 0} (g : A → List C) (h : B → List D) → ((x : A) (y : B) → R x y → Each S (g x) (h y)) → {xs : List A} {ys : List B} → Each R xs ys → Each S (flat_map g xs) (flat_map h ys)
each-flat g h same none = none
each-flat g h same (next {x} {y} {xs} {ys} r e) = each-append (same x y r) (each-flat g h same e)

each-filter : {A B : Type 0} {R : A → B → Type 0} (p : A → Bool) (q : B → Bool) → ((x : A) (y : B) → R x y → q y ≡ p x) → {xs : List A} {ys : List B} → Each R xs ys → Each R (filter p xs) (filter q ys)
each-filter p q same none = none
each-filter {A} {B} {R} p q same (next {x} {y} {xs} {ys} r e) =
    let rest : Each R (filter p xs) (filter q ys) = each-filter p q same e in
    subst (λ (b : Bool). Each R (filter p (x ∷ xs)) (if b then y ∷ filter q ys else filter q ys)) (sym (same x y r)) (at (p x) r rest)
  where
    at : (b : Bool) → R x y → Each R (filter p xs) (filter q ys) → Each R (if b then x ∷ filter p xs else filter p xs) (if b then y ∷ filter q ys else filter q ys)
    at true r rest = next r rest
    at false r rest = rest

each-insert : {A B : Type 0} {R : A → B → Type 0} (cmp : A → A → Ordering) (cmp' : B → B → Ordering) → ((x x' : A) (y y' : B) → R x y → R x' y' → cmp' y y' ≡ cmp x x') → {x : A} {y : B} → R x y → {xs : List A} {ys : List B} → Each R xs ys →
    Each R (insert_sorted cmp x xs) (insert_sorted cmp' y ys)
each-insert cmp cmp' same r none = next r none
each-insert {A} {B} {R} cmp cmp' same {x} {y} r (next {x = x'} {y = y'} {xs} {ys} q e) =
    let rest : Each R (insert_sorted cmp x xs) (insert_sorted cmp' y ys) = each-insert cmp cmp' same r e in
    subst (λ (o : Ordering). Each R (insert_sorted cmp x (x' ∷ xs)) (if is_le o then y ∷ y' ∷ ys else y' ∷ insert_sorted cmp' y ys)) (sym (same x x' y y' r q)) (at (is_le (cmp x x')) r q e rest)
  where
    at : (b : Bool) → R x y → R x' y' → Each R xs ys → Each R (insert_sorted cmp x xs) (insert_sorted cmp' y ys) → Each R (if b then x ∷ x' ∷ xs else x' ∷ insert_sorted cmp x xs) (if b then y ∷ y' ∷ ys else y' ∷ insert_sorted cmp' y ys)
    at true r q e rest = next r (next q e)
    at false r q e rest = next q rest

each-sort : {A B : Type 0} {R : A → B → Type 0} (cmp : A → A → Ordering) (cmp' : B → B → Ordering) → ((x x' : A) (y y' : B) → R x y → R x' y' → cmp' y y' ≡ cmp x x') → {xs : List A} {ys : List B} → Each R xs ys → Each R (sort cmp xs) (sort cmp' ys)
each-sort cmp cmp' same none = none
each-sort cmp cmp' same (next r e) = each-insert cmp cmp' same r (each-sort cmp cmp' same e)

-- ---- one SELECT

module _ {f : NewNames} {names : List Name} (told : AreToldApart f names) where
  row-agrees : (alias : Name) → list_any (bytes_eq alias) names ≡ true → (columns : List Name) (row : List Cell) (sight moved : Sight) → Agree f names sight moved → Agree f names (with_row alias columns row sight) (with_row (f alias) columns row moved)
  row-agrees alias within columns row sight moved h = record {
    same = λ a c known.
        ap (λ (b : Bool). if b then cell_under columns row c else moved (f a) c) (told.apart a alias known within)
        ∙ ap (λ (x : Cell). if bytes_eq a alias then cell_under columns row c else x) (h.same a c known);
  }

  rows-agree : (alias : Name) → list_any (bytes_eq alias) names ≡ true → (columns : List Name) (rows : List (List Cell)) (sight moved : Sight) → Agree f names sight moved →
      Each (Agree f names) (map (λ row. with_row alias columns row sight) rows) (map (λ row. with_row (f alias) columns row moved) rows)
  rows-agree alias within columns [] sight moved h = none
  rows-agree alias within columns (row ∷ rows) sight moved h = next (row-agrees alias within columns row sight moved h) (rows-agree alias within columns rows sight moved h)

  where-agrees : (e : SqlExpr) → Within (aliases e) names → {xs ys : List Sight} → Each (Agree f names) xs ys → Each (Agree f names) (where_true e xs) (where_true (realias e f) ys)
  where-agrees e w = each-filter (λ sight. is_true (value_of e sight)) (λ sight. is_true (value_of (realias e f) sight)) (λ x y h. ap is_true (value-renamed h e w))

  module _ (relations : Relations) where
    nulls-agree : (s : Source) → list_any (bytes_eq s.alias) names ≡ true → (sight moved : Sight) → Agree f names sight moved → {xs ys : List Sight} → Each (Agree f names) xs ys →
        Each (Agree f names) (or_nulls relations s sight xs) (or_nulls relations (realias_source f s) moved ys)
    nulls-agree s within sight moved h none = next (row-agrees s.alias within (relations s.table).columns [] sight moved h) none
    nulls-agree s within sight moved h (next r e) = next r e

    join-agrees : (j : JoinTo) → Within (join_aliases j) names → (sight moved : Sight) → Agree f names sight moved → Each (Agree f names) (joined_to relations j sight) (joined_to relations (realias_join f j) moved)
    join-agrees j w sight moved h = at j.left
      where
        alias : list_any (bytes_eq j.source.alias) names ≡ true
        alias = within-here j.source.alias (aliases j.on) names w

        found : Each (Agree f names) (where_true j.on (with_source relations j.source sight)) (where_true (realias j.on f) (with_source relations (realias_source f j.source) moved))
        found = where-agrees j.on (within-right (j.source.alias ∷ []) (aliases j.on) names w) (rows-agree j.source.alias alias (relations j.source.table).columns (relations j.source.table).rows sight moved h)

        at : (b : Bool) →
            Each (Agree f names) (if b then or_nulls relations j.source sight (where_true j.on (with_source relations j.source sight)) else where_true j.on (with_source relations j.source sight))
            (if b then or_nulls relations (realias_source f j.source) moved (where_true (realias j.on f) (with_source relations (realias_source f j.source) moved)) else where_true (realias j.on f) (with_source relations (realias_source f j.source) moved))
        at true = nulls-agree j.source alias sight moved h found
        at false = found

    joins-agree : (joins : List JoinTo) → Within (flat_map join_aliases joins) names → {xs ys : List Sight} → Each (Agree f names) xs ys → Each (Agree f names) (all_joined relations joins xs) (all_joined relations (map (realias_join f) joins) ys)
    joins-agree [] w e = e
    joins-agree (j ∷ joins) w e =
        joins-agree joins (within-right (join_aliases j) (flat_map join_aliases joins) names w)
        (each-flat (joined_to relations j) (joined_to relations (realias_join f j)) (λ x y h. join-agrees j (within-left (join_aliases j) (flat_map join_aliases joins) names w) x y h) e)

    nothing-agrees : Agree f names nothing_in_sight nothing_in_sight
    nothing-agrees = record { same = λ a c known. refl }

    first-agrees : (from : Option Source) → Within (from_aliases from) names → Each (Agree f names) (first_rows relations from) (first_rows relations (realias_from f from))
    first-agrees None w = next nothing-agrees none
    first-agrees (Some s) w = rows-agree s.alias (within-here s.alias [] names w) (relations s.table).columns (relations s.table).rows nothing_in_sight nothing_in_sight nothing-agrees

    passed-agrees : (condition : Option SqlExpr) → Within (condition_aliases condition) names → {xs ys : List Sight} → Each (Agree f names) xs ys → Each (Agree f names) (passed condition xs) (passed (realias_condition f condition) ys)
    passed-agrees None w e = e
    passed-agrees (Some c) w e = where-agrees c w e

    keys-agree : (keys : List SqlKey) → Within (flat_map (λ (k : SqlKey). aliases k.expr) keys) names → (x y : Sight) → Agree f names x y → key_cells (map (realias_key f) keys) y ≡ key_cells keys x
    keys-agree [] w x y h = refl
    keys-agree (k ∷ keys) w x y h =
        ap₂ (λ (c : Cell) (cs : List Cell). c ∷ cs) (value-renamed h k.expr (within-left (aliases k.expr) (flat_map (λ (k : SqlKey). aliases k.expr) keys) names w))
        (keys-agree keys (within-right (aliases k.expr) (flat_map (λ (k : SqlKey). aliases k.expr) keys) names w) x y h)

    downs-agree : (keys : List SqlKey) → map (λ (k : SqlKey). k.down) (map (realias_key f) keys) ≡ map (λ (k : SqlKey). k.down) keys
    downs-agree [] = refl
    downs-agree (k ∷ keys) = ap (λ (l : List Bool). k.down ∷ l) (downs-agree keys)

    order-agrees : (keys : List SqlKey) → Within (flat_map (λ (k : SqlKey). aliases k.expr) keys) names → (x x' y y' : Sight) → Agree f names x y → Agree f names x' y' → key_order (map (realias_key f) keys) y y' ≡ key_order keys x x'
    order-agrees keys w x x' y y' h k =
        ap (λ (downs : List Bool). by_items cell_order downs (key_cells (map (realias_key f) keys) y) (key_cells (map (realias_key f) keys) y')) (downs-agree keys)
        ∙ ap₂ (by_items cell_order (map (λ (k : SqlKey). k.down) keys)) (keys-agree keys w x y h) (keys-agree keys w x' y' k)

    items-agree : (items : List Item) → Within (flat_map (λ (i : Item). aliases i.expr) items) names → (x y : Sight) → Agree f names x y → item_cells items x ≡ item_cells (map (realias_item f) items) y
    items-agree [] w x y h = refl
    items-agree (i ∷ items) w x y h =
        ap₂ (λ (c : Cell) (cs : List Cell). c ∷ cs) (sym (value-renamed h i.expr (within-left (aliases i.expr) (flat_map (λ (i : Item). aliases i.expr) items) names w)))
        (items-agree items (within-right (aliases i.expr) (flat_map (λ (i : Item). aliases i.expr) items) names w) x y h)

    pub select-renamed : (c : Core) → Within (core_aliases c) names → select_rows relations (realias_core f c) ≡ select_rows relations c
    select-renamed c w =
        let items : List Name = flat_map (λ (i : Item). aliases i.expr) c.items in
        let joins : List Name = flat_map join_aliases c.joins in
        let keys : List Name = flat_map (λ (k : SqlKey). aliases k.expr) c.keys in
        let w1 : Within items names = within-left items (from_aliases c.from ++ (joins ++ (condition_aliases c.condition ++ keys))) names w in
        let r1 = within-right items (from_aliases c.from ++ (joins ++ (condition_aliases c.condition ++ keys))) names w in
        let w2 : Within (from_aliases c.from) names = within-left (from_aliases c.from) (joins ++ (condition_aliases c.condition ++ keys)) names r1 in
        let r2 = within-right (from_aliases c.from) (joins ++ (condition_aliases c.condition ++ keys)) names r1 in
        let w3 : Within joins names = within-left joins (condition_aliases c.condition ++ keys) names r2 in
        let r3 = within-right joins (condition_aliases c.condition ++ keys) names r2 in
        let w4 : Within (condition_aliases c.condition) names = within-left (condition_aliases c.condition) keys names r3 in
        let w5 : Within keys names = within-right (condition_aliases c.condition) keys names r3 in
        let sorted : Each (Agree f names) (sorted_sights relations c) (sorted_sights relations (realias_core f c)) =
        each-sort (key_order c.keys) (key_order (map (realias_key f) c.keys)) (order-agrees c.keys w5) (passed-agrees c.condition w4 (joins-agree c.joins w3 (first-agrees c.from w2))) in
        ap (λ (rows : List (List Cell)). kept c.most (dropped c.skip (unrepeated c.distinct rows)))
        (sym (each-equal (item_cells c.items) (item_cells (map (realias_item f) c.items)) (items-agree c.items w1) sorted))

    cores-renamed : (cores : List Core) → Within (flat_map core_aliases cores) names → flat_map (select_rows relations) (map (realias_core f) cores) ≡ flat_map (select_rows relations) cores
    cores-renamed [] w = refl
    cores-renamed (c ∷ cores) w =
        ap₂ (λ (x y : List (List Cell)). x ++ y) (select-renamed c (within-left (core_aliases c) (flat_map core_aliases cores) names w)) (cores-renamed cores (within-right (core_aliases c) (flat_map core_aliases cores) names w))

    pub body-renamed : (b : Body) → Within (body_aliases b) names → body_rows relations (realias_body f b) ≡ body_rows relations b
    body-renamed b w = cores-renamed b.cores w

  names-renamed : (cores : List Core) → body_names (map (realias_core f) cores) ≡ body_names cores
  names-renamed [] = refl
  names-renamed (c ∷ cores) = items c.items
    where
      items : (is : List Item) → map (λ (i : Item). i.name) (map (realias_item f) is) ≡ map (λ (i : Item). i.name) is
      items [] = refl
      items (i ∷ is) = ap (λ (l : List Name). i.name ∷ l) (items is)

  steps-renamed : (steps : List Step) (relations : Relations) → Within (flat_map (λ (t : Step). body_aliases t.body) steps) names → after_steps (map (realias_step f) steps) relations ≡ after_steps steps relations
  steps-renamed [] relations w = refl
  steps-renamed (s ∷ steps) relations w =
      let columns = names-renamed s.body.cores in
      let rows = body-renamed relations s.body (within-left (body_aliases s.body) (flat_map (λ (t : Step). body_aliases t.body) steps) names w) in
      let same : body_relation relations (realias_body f s.body) ≡ body_relation relations s.body = λ i. record { columns = columns i; rows = rows i } in
      ap (λ (r : Relation). after_steps (map (realias_step f) steps) (with_relation s.name r relations)) same
      ∙ steps-renamed steps (with_relation s.name (body_relation relations s.body) relations) (within-right (body_aliases s.body) (flat_map (λ (t : Step). body_aliases t.body) steps) names w)

  pub script-renamed : (s : Script) → Within (script_aliases s) names → (tables : List NamedTable) → script_rows (realias_script f s) tables ≡ script_rows s tables
  script-renamed s w tables =
      let steps : List Name = flat_map (λ (t : Step). body_aliases t.body) s.steps in
      ap (λ (r : Relations). body_rows r (realias_body f s.last)) (steps-renamed s.steps (relations_of tables) (within-left steps (body_aliases s.last) names w))
      ∙ body-renamed (after_steps s.steps (relations_of tables)) s.last (within-right steps (body_aliases s.last) names w)
