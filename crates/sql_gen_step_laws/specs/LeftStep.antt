-- An optional join of two steps.
use Rattle.std.proofs.Common.{◌≡◌, ℕ, ◌+◌, ◌<◌, ◌⊎◌, Bool, true, false, cond, if◌then◌else◌, List, [], ◌∷◌, map, Option, Some, None, sym, refl, ap, ap₂, ◌∙◌, arith, eqb, inl, inr, pos}
use Rattle.std.proofs.lemmas.Bool.{cases_Bool}
use Rattle.std.specs.List.{filter, flat_map, AllByRecursion}
use Rattle.std.proofs.lemmas.Bool.{ne_eqb}
use Rattle.query_eval_meaning.specs.Mapping.{Mapping, agree, width, compatible, merge}
use Rattle.query_eval_meaning.specs.Eval.{left_join, or_alone}
use Rattle.rdf_meaning.specs.Terms.{RdfTerm}
use Rattle.bags.specs.Bag.{total}
use Rattle.bags.specs.BagLaws.{total-same, total-map, total-flat_map, total-filter, total-each, each-append, each-map, each-flat_map, each-weaker, each-filter}
use Rattle.table_meaning.specs.declared.cell.Cell.{Cell}
use Rattle.table_meaning.specs.declared.cell.Cell.TheVariants.{Null}
use Rattle.sql_meaning.specs.declared.script.Source.{Source}
use Rattle.sql_rows_meaning.specs.Values.{Sight, value_of, is_true, first_cell}
use Rattle.sql_rows_meaning.specs.Tables.{Relations}
use Rattle.sql_rows_meaning.specs.Sources.{with_row, nothing_in_sight, or_nulls}
use Rattle.sql_rows_meaning.specs.Selects.{select_rows, item_cells}
use Rattle.sql_rows_meaning.specs.ValueLaws.{value_of-Name, value_of-First, value_of-Int}
use Rattle.sql_gen_step_laws.specs.Carried.{Name, column, one, Ids, id_cell, carry, columns_of, Over, Numbers, Carries, Binds, select_table}
use Rattle.sql_gen_step_laws.specs.Lookups.{cell_under_carry}
use Rattle.sql_gen_step_laws.specs.PlainSelects.{plain_rows}
use Rattle.sql_gen_step_laws.specs.StepSelects.{left_alias, right_alias, cell_of, every, has, shared_sql, shared, merged_sql, one_item, variable_item, both, join_core}
use Rattle.sql_gen_step_laws.specs.StepTests.{pair_env, carried_env, every_true, shared_true, compatible_is}
use Rattle.sql_gen_step_laws.specs.JoinStep.{total-carried, list_all-map, items_carry, item_columns, in-both, merge-over, Both, each-both}
use Rattle.sql_gen_step_laws.specs.UnionStep.{wider}

-- what holds of a list of found items, or of one alone
pub total-or_alone : (g : Mapping → ℕ) (a : Mapping) (ms : List Mapping) → total g (or_alone a ms) ≡ cond (eqb (total (λ (m : Mapping). 1) ms) 0) (g a) (total g ms)
total-or_alone g a [] = omega arith
total-or_alone g a (m ∷ ms) = rw (ne_eqb (1 + total (λ m. 1) ms) 0 (λ e. absurd (omega arith))) refl

pub total-or_nulls : (h : Sight → ℕ) (relations : Relations) (s : Source) (env : Sight) (es : List Sight) →
    total h (or_nulls relations s env es) ≡ cond (eqb (total (λ (e : Sight). 1) es) 0) (h (with_row s.alias (relations s.table).columns [] env)) (total h es)
total-or_nulls h relations s env [] = omega arith
total-or_nulls h relations s env (e ∷ es) = rw (ne_eqb (1 + total (λ e. 1) es) 0 (λ e. absurd (omega arith))) refl

-- the env of a row that finds nothing
abbrev pub alone_env : List Name → List Name → List Cell → Sight
alone_env left_columns right_columns left = pair_env left_columns right_columns left []

total-left_rows : (g : List Cell → ℕ) (relations : Relations) (a b : Name) (vs ws certain : List ℕ) →
    let on = every (map (shared_sql certain) (shared vs ws)) in
    let items = one_item ∷ map (variable_item (merged_sql vs ws)) (both vs ws) in
    let D : List Name → List Name → (Sight → ℕ) → List Cell → ℕ = λ ka kb k ra. total (λ rb. cond (is_true (value_of on (pair_env ka kb ra rb))) (k (pair_env ka kb ra rb)) 0) (relations b).rows in
    total g (select_rows relations (join_core true a b vs ws certain)) ≡
    total (λ ra. cond (eqb (D (relations a).columns (relations b).columns (λ e. 1) ra) 0) (g (item_cells items (alone_env (relations a).columns (relations b).columns ra))) (D (relations a).columns (relations b).columns (λ e. g (item_cells items e)) ra)) (relations a).rows
total-left_rows g relations a b vs ws certain =
    let items = one_item ∷ map (variable_item (merged_sql vs ws)) (both vs ws) in
    let on = every (map (shared_sql certain) (shared vs ws)) in
    let source : Source = record { table = b; alias = right_alias } in
    let left : List Cell → Sight = λ ra. with_row left_alias (relations a).columns ra nothing_in_sight in
    let found : Sight → List Sight = λ env. filter (λ e. is_true (value_of on e)) (map (λ rb. with_row right_alias (relations b).columns rb env) (relations b).rows) in
    let each : (k : Sight → ℕ) (ra : List Cell) → total k (found (left ra)) ≡ total (λ rb. cond (is_true (value_of on (pair_env (relations a).columns (relations b).columns ra rb))) (k (pair_env (relations a).columns (relations b).columns ra rb)) 0) (relations b).rows =
    λ k ra. total-filter k (λ e. is_true (value_of on e)) (map (λ rb. with_row right_alias (relations b).columns rb (left ra)) (relations b).rows)
    ∙ total-map (λ e. cond (is_true (value_of on e)) (k e) 0) (λ rb. with_row right_alias (relations b).columns rb (left ra)) (relations b).rows in
    ap (total g) (plain_rows relations (join_core true a b vs ws certain) refl refl refl refl)
    ∙ total-map g (item_cells items) (flat_map (λ env. or_nulls relations source env (found env)) (map left (relations a).rows))
    ∙ total-flat_map (λ e. g (item_cells items e)) (λ env. or_nulls relations source env (found env)) (map left (relations a).rows)
    ∙ total-map (λ env. total (λ e. g (item_cells items e)) (or_nulls relations source env (found env))) left (relations a).rows
    ∙ total-same _ _ (λ ra. total-or_nulls (λ e. g (item_cells items e)) relations source (left ra) (found (left ra))
    ∙ ap₂ (λ m n. cond (eqb m 0) (g (item_cells items (alone_env (relations a).columns (relations b).columns ra))) n) (each (λ e. 1) ra) (each (λ e. g (item_cells items e)) ra)) (relations a).rows

-- the items over a row that found nothing
first_null : (ids : Ids) (x : Option RdfTerm) → first_cell (id_cell ids x ∷ Null ∷ []) ≡ id_cell ids x
first_null ids (Some t) = refl
first_null ids None = refl

alone_value : (ids : Ids) (known : RdfTerm → Bool) (vs ws : List ℕ) (a : Mapping) → Over vs known a → (v : ℕ) →
    value_of (merged_sql vs ws v) (alone_env (columns_of vs) (columns_of ws) (carry ids vs a)) ≡ id_cell ids (a v)
alone_value ids known vs ws a f v = go (cases_Bool (has vs v)) (cases_Bool (has ws v))
  where
    env : Sight
    env = alone_env (columns_of vs) (columns_of ws) (carry ids vs a)

    left : value_of (cell_of left_alias v) (alone_env (columns_of vs) (columns_of ws) (carry ids vs a)) ≡ id_cell ids (a v)
    left = value_of-Name left_alias (column v) (alone_env (columns_of vs) (columns_of ws) (carry ids vs a)) ∙ cell_under_carry ids known vs a v f

    go : (has vs v ≡ true) ⊎ (has vs v ≡ false) → (has ws v ≡ true) ⊎ (has ws v ≡ false) → value_of (merged_sql vs ws v) (alone_env (columns_of vs) (columns_of ws) (carry ids vs a)) ≡ id_cell ids (a v)
    go (inl e) (inl h) = rw (e, h) (value_of-First (cell_of left_alias v ∷ cell_of right_alias v ∷ []) (alone_env (columns_of vs) (columns_of ws) (carry ids vs a))
        ∙ ap₂ (λ x y. first_cell (x ∷ y ∷ [])) left (value_of-Name right_alias (column v) (alone_env (columns_of vs) (columns_of ws) (carry ids vs a))) ∙ first_null ids (a v))
    go (inl e) (inr h) = rw (e, h) left
    go (inr e) h = rw (e, f.bound v e) (value_of-Name right_alias (column v) (alone_env (columns_of vs) (columns_of ws) (carry ids vs a)))

alone_cells : (ids : Ids) (known : RdfTerm → Bool) (vs ws us : List ℕ) (a : Mapping) → Over vs known a →
    item_cells (map (variable_item (merged_sql vs ws)) us) (alone_env (columns_of vs) (columns_of ws) (carry ids vs a)) ≡ map (λ v. id_cell ids (a v)) us
alone_cells ids known vs ws [] a f = refl
alone_cells ids known vs ws (u ∷ us) a f = ap₂ (λ (x : Cell) (xs : List Cell). x ∷ xs) (alone_value ids known vs ws a f u) (alone_cells ids known vs ws us a f)

each-or_alone : (P : Mapping → Type 0) (a : Mapping) (ms : List Mapping) → P a → AllByRecursion P ms → AllByRecursion P (or_alone a ms)
each-or_alone P a [] p all = (p, tt)
each-or_alone P a (m ∷ ms) p all = all

left-over : (known : RdfTerm → Bool) (vs ws : List ℕ) (ls rs : List Mapping) → AllByRecursion (Over vs known) ls → AllByRecursion (Over ws known) rs → AllByRecursion (Over (both vs ws) known) (left_join (λ m. true) ls rs)
left-over known vs ws ls rs f g =
    let P = Over (both vs ws) known in
    each-flat_map P (λ a. or_alone a (filter (λ m. true) (map (merge a) (filter (compatible a) rs)))) ls
    (each-weaker (Over vs known) (λ a. AllByRecursion P (or_alone a (filter (λ m. true) (map (merge a) (filter (compatible a) rs)))))
    (λ a fa. each-or_alone P a _ (wider known vs (both vs ws) (λ v e. (in-both vs ws v e).0) a fa)
    (each-filter P (λ m. true) _ (each-map P (merge a) (filter (compatible a) rs)
    (each-weaker (Over ws known) (λ b. P (merge a b)) (λ b gb. merge-over known vs ws a b fa gb) (filter (compatible a) rs) (each-filter (Over ws known) (compatible a) rs g)))))
    ls f)

total-left : (g : Mapping → ℕ) (ls rs : List Mapping) → total g (left_join (λ m. true) ls rs) ≡
    total (λ a. cond (eqb (total (λ b. cond (compatible a b) 1 0) rs) 0) (g a) (total (λ b. cond (compatible a b) (g (merge a b)) 0) rs)) ls
total-left g ls rs =
    let ms : Mapping → List Mapping = λ a. filter (λ m. true) (map (merge a) (filter (compatible a) rs)) in
    let each : (k : Mapping → ℕ) (a : Mapping) → total k (ms a) ≡ total (λ b. cond (compatible a b) (k (merge a b)) 0) rs =
    λ k a. total-filter k (λ m. true) (map (merge a) (filter (compatible a) rs)) ∙ total-map k (merge a) (filter (compatible a) rs) ∙ total-filter (λ b. k (merge a b)) (compatible a) rs in
    total-flat_map g (λ a. or_alone a (ms a)) ls
    ∙ total-same _ _ (λ a. total-or_alone g a (ms a) ∙ ap₂ (λ m n. cond (eqb m 0) (g a) n) (each (λ m. 1) a) (each g a)) ls

pub left_join_step : (ids : Ids) (known : RdfTerm → Bool) → Numbers ids known → (relations : Relations) (a b : Name) (vs ws : List ℕ) (certain : List ℕ) (ls rs : List Mapping) →
    Carries ids known vs ls (relations a) → Carries ids known ws rs (relations b) → AllByRecursion (Binds certain) ls → AllByRecursion (Binds certain) rs →
    Carries ids known (both vs ws) (left_join (λ m. true) ls rs) (select_table relations (join_core true a b vs ws certain))
left_join_step ids known n relations a b vs ws certain ls rs ca cb bl br = record {
  columns = ap (λ (xs : List Name). one ∷ xs) (item_columns (merged_sql vs ws) (both vs ws));
  rows = record {
    totals = λ g.
        let us = both vs ws in
        let items = one_item ∷ map (variable_item (merged_sql vs ws)) us in
        let on = every (map (shared_sql certain) (shared vs ws)) in
        let D : List Name → List Name → (Sight → ℕ) → List Cell → ℕ = λ ka kb k ra. total (λ rb. cond (is_true (value_of on (pair_env ka kb ra rb))) (k (pair_env ka kb ra rb)) 0) (relations b).rows in
        let W : List Name → List Name → List Cell → ℕ = λ ka kb ra. cond (eqb (D ka kb (λ e. 1) ra) 0) (g (item_cells items (alone_env ka kb ra))) (D ka kb (λ e. g (item_cells items e)) ra) in
        let kv = columns_of vs in
        let kw = columns_of ws in
        let tests : (x y : Mapping) → Both (Over vs known) (Binds certain) x → Both (Over ws known) (Binds certain) y → is_true (value_of on (carried_env ids vs ws x y)) ≡ compatible x y =
        λ x y p q. every_true (map (shared_sql certain) (shared vs ws)) (carried_env ids vs ws x y)
        ∙ list_all-map (λ e. is_true (value_of e (carried_env ids vs ws x y))) (λ v. agree (x v) (y v)) (shared_sql certain) (λ v. shared_true ids known n certain vs ws x y p.fst q.fst p.snd q.snd v) (shared vs ws)
        ∙ compatible_is known vs ws x y p.fst q.fst ca.below in
        let found : (x : Mapping) → Both (Over vs known) (Binds certain) x → (k : Sight → ℕ) (h : Mapping → ℕ) → ((y : Mapping) → Over ws known y → k (carried_env ids vs ws x y) ≡ h (merge x y)) →
        D kv kw k (carry ids vs x) ≡ total (λ y. cond (compatible x y) (h (merge x y)) 0) rs =
        λ x p k h e. total-carried ids known ws rs (relations b) (λ rb. cond (is_true (value_of on (pair_env kv kw (carry ids vs x) rb))) (k (pair_env kv kw (carry ids vs x) rb)) 0) cb
        ∙ total-each _ _ (Both (Over ws known) (Binds certain)) (λ y q. ap₂ (λ (c : Bool) (m : ℕ). cond c m 0) (tests x y p q) (e y q.fst)) rs (each-both _ _ rs cb.fits br) in
        total-left_rows g relations a b vs ws certain
        ∙ ap₂ (λ (ka kb : List Name). total (W ka kb) (relations a).rows) ca.columns cb.columns
        ∙ total-carried ids known vs ls (relations a) (W kv kw) ca
        ∙ total-each _ _ (Both (Over vs known) (Binds certain)) (λ x p.
        ap₂ (λ m k. cond (eqb m 0) (g (item_cells items (alone_env kv kw (carry ids vs x)))) k)
        (found x p (λ e. 1) (λ m. 1) (λ y f. refl))
        (found x p (λ e. g (item_cells items e)) (λ m. g (carry ids us m)) (λ y f. ap g (items_carry ids known vs ws us x y p.fst f)))
        ∙ ap (λ r. cond (eqb (total (λ y. cond (compatible x y) 1 0) rs) 0) (g r) (total (λ y. cond (compatible x y) (g (carry ids us (merge x y))) 0) rs))
        (ap₂ (λ (c : Cell) (cs : List Cell). c ∷ cs) (value_of-Int (pos 1) (alone_env kv kw (carry ids vs x))) (alone_cells ids known vs ws us x p.fst))) ls (each-both _ _ ls ca.fits bl)
        ∙ sym (total-left (λ m. g (carry ids us m)) ls rs)
        ∙ sym (total-map g (carry ids us) (left_join (λ m. true) ls rs));
  };
  fits = left-over known vs ws ls rs ca.fits cb.fits;
  below = each-append (λ v. v < width) vs (filter (λ w. if has vs w then false else true) ws) ca.below (each-filter (λ v. v < width) (λ w. if has vs w then false else true) ws cb.below);
}
