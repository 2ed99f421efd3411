-- A join of two steps carries the join of what they carry.
use Rattle.std.proofs.Common.{◌≡◌, ℕ, ◌<◌, ◌⊎◌, Bool, true, false, cond, if◌then◌else◌, ◌&&◌, ◌||◌, List, [], ◌∷◌, map, Option, Some, None, sym, refl, ap, ap₂, ◌∙◌, inl, inr, ◌==◌, pos}
use Rattle.std.proofs.lemmas.Bool.{eqb-true, or_parts, cases_Bool}
use Rattle.std.proofs.lemmas.List.Folds.{list_any-append}
use Rattle.std.specs.List.{list_all, filter, flat_map, AllByRecursion}
use Rattle.query_eval_meaning.specs.Mapping.{Mapping, agree, width, compatible, either, merge}
use Rattle.query_eval_meaning.specs.Eval.{join}
use Rattle.rdf_meaning.specs.Terms.{RdfTerm}
use Rattle.bags.specs.Bag.{total}
use Rattle.bags.specs.BagLaws.{total-same, total-map, total-flat_map, total-filter, total-each, each-append, each-map, each-flat_map, each-weaker, each-filter}
use Rattle.table_meaning.specs.declared.cell.Cell.{Cell}
use Rattle.sql_meaning.specs.declared.script.Item.{Item}
use Rattle.sql_meaning.specs.declared.expression.SqlExpr.{SqlExpr}
use Rattle.sql_rows_meaning.specs.Values.{Sight, value_of, is_true}
use Rattle.sql_rows_meaning.specs.Tables.{Relation, Relations}
use Rattle.sql_rows_meaning.specs.Sources.{with_row, nothing_in_sight}
use Rattle.sql_rows_meaning.specs.Selects.{select_rows, item_cells}
use Rattle.sql_rows_meaning.specs.ValueLaws.{value_of-Int}
use Rattle.sql_gen_step_laws.specs.Carried.{Name, column, one, Ids, id_cell, carry, columns_of, Over, Numbers, Carries, Binds, select_table}
use Rattle.sql_gen_step_laws.specs.PlainSelects.{plain_rows}
use Rattle.sql_gen_step_laws.specs.StepSelects.{left_alias, right_alias, every, has, shared_sql, shared, merged_sql, one_item, variable_item, both, join_core}
use Rattle.sql_gen_step_laws.specs.StepTests.{pair_env, carried_env, every_true, shared_true, merged_value, compatible_is}

-- the sum over a core of two sources, over whichever rows and columns they have
pub total-pairs_of_rows : (g : List Cell → ℕ) (relations : Relations) (a b : Name) (vs ws certain : List ℕ) →
    total g (select_rows relations (join_core false a b vs ws certain)) ≡
    total (λ ra. total (λ rb.
    let env = pair_env (relations a).columns (relations b).columns ra rb in
    cond (is_true (value_of (every (map (shared_sql certain) (shared vs ws))) env)) (g (item_cells (one_item ∷ map (variable_item (merged_sql vs ws)) (both vs ws)) env)) 0) (relations b).rows) (relations a).rows
total-pairs_of_rows g relations a b vs ws certain =
    let items = one_item ∷ map (variable_item (merged_sql vs ws)) (both vs ws) in
    let on = every (map (shared_sql certain) (shared vs ws)) in
    let left : List Cell → Sight = λ ra. with_row left_alias (relations a).columns ra nothing_in_sight in
    let found : Sight → List Sight = λ env. filter (λ e. is_true (value_of on e)) (map (λ rb. with_row right_alias (relations b).columns rb env) (relations b).rows) in
    ap (total g) (plain_rows relations (join_core false a b vs ws certain) refl refl refl refl)
    ∙ total-map g (item_cells items) (flat_map found (map left (relations a).rows))
    ∙ total-flat_map (λ e. g (item_cells items e)) found (map left (relations a).rows)
    ∙ total-map (λ env. total (λ e. g (item_cells items e)) (found env)) left (relations a).rows
    ∙ total-same _ _ (λ ra.
    total-filter (λ e. g (item_cells items e)) (λ e. is_true (value_of on e)) (map (λ rb. with_row right_alias (relations b).columns rb (left ra)) (relations b).rows)
    ∙ total-map (λ e. cond (is_true (value_of on e)) (g (item_cells items e)) 0) (λ rb. with_row right_alias (relations b).columns rb (left ra)) (relations b).rows) (relations a).rows

-- rows that carry mappings, under a sum
pub total-carried : (ids : Ids) (known : RdfTerm → Bool) (vs : List ℕ) (ms : List Mapping) (t : Relation) (g : List Cell → ℕ) → Carries ids known vs ms t → total g t.rows ≡ total (λ m. g (carry ids vs m)) ms
total-carried ids known vs ms t g c = c.rows.totals g ∙ total-map g (carry ids vs) ms

pub list_all-map : (p : SqlExpr → Bool) (q : ℕ → Bool) (f : ℕ → SqlExpr) → ((v : ℕ) → p (f v) ≡ q v) → (vs : List ℕ) → list_all p (map f vs) ≡ list_all q vs
list_all-map p q f e [] = refl
list_all-map p q f e (v ∷ vs) = ap₂ (λ x y. x && y) (e v) (list_all-map p q f e vs)

-- the items carry the merge
merged_cells : (ids : Ids) (known : RdfTerm → Bool) (vs ws us : List ℕ) (a b : Mapping) → Over vs known a → Over ws known b →
    item_cells (map (variable_item (merged_sql vs ws)) us) (carried_env ids vs ws a b) ≡ map (λ v. id_cell ids (merge a b v)) us
merged_cells ids known vs ws [] a b f g = refl
merged_cells ids known vs ws (u ∷ us) a b f g = ap₂ (λ (x : Cell) (xs : List Cell). x ∷ xs) (merged_value ids known vs ws a b f g u) (merged_cells ids known vs ws us a b f g)

pub items_carry : (ids : Ids) (known : RdfTerm → Bool) (vs ws us : List ℕ) (a b : Mapping) → Over vs known a → Over ws known b →
    item_cells (one_item ∷ map (variable_item (merged_sql vs ws)) us) (carried_env ids vs ws a b) ≡ carry ids us (merge a b)
items_carry ids known vs ws us a b f g = ap₂ (λ (x : Cell) (xs : List Cell). x ∷ xs) (value_of-Int (pos 1) (carried_env ids vs ws a b)) (merged_cells ids known vs ws us a b f g)

pub item_columns : (f : ℕ → SqlExpr) (us : List ℕ) → map (λ (i : Item). i.name) (map (variable_item f) us) ≡ map column us
item_columns f [] = refl
item_columns f (u ∷ us) = ap (λ (xs : List Name). column u ∷ xs) (item_columns f us)

has-filter : (vs ws : List ℕ) (v : ℕ) → has vs v ≡ false → has ws v ≡ true → has (filter (λ w. if has vs w then false else true) ws) v ≡ true
has-filter vs [] v e h = h
has-filter vs (w ∷ ws) v e h = go (cases_Bool (has vs w)) (cases_Bool (w == v)) (has-filter vs ws v e)
  where
    rest : ((w == v) ≡ false) → has ws v ≡ true
    rest q = let k : ((w == v) || has ws v) ≡ true = h in rw q at k

    go : (has vs w ≡ true) ⊎ (has vs w ≡ false) → ((w == v) ≡ true) ⊎ ((w == v) ≡ false) → (has ws v ≡ true → has (filter (λ w. if has vs w then false else true) ws) v ≡ true) → has (filter (λ w. if has vs w then false else true) (w ∷ ws)) v ≡ true
    go (inl x) (inl q) r = let same : w ≡ v = eqb-true w v q in let no : has vs v ≡ true = rw (← same) x in cc
    go (inl x) (inr q) r = rw x (r (rest q))
    go (inr x) (inl q) r = rw (x, q) refl
    go (inr x) (inr q) r = rw (x, q) (r (rest q))

-- a variable of neither side
pub in-both : (vs ws : List ℕ) (v : ℕ) → has (both vs ws) v ≡ false → (has vs v ≡ false) × (has ws v ≡ false)
in-both vs ws v e = (h.0, go h.0 h.1 (cases_Bool (has ws v)))
  where
    h : (has vs v ≡ false) × (has (filter (λ w. if has vs w then false else true) ws) v ≡ false)
    h = or_parts (has vs v) _ (sym (list_any-append (λ w. w == v) vs (filter (λ w. if has vs w then false else true) ws)) ∙ e)

    go : has vs v ≡ false → has (filter (λ w. if has vs w then false else true) ws) v ≡ false → (has ws v ≡ true) ⊎ (has ws v ≡ false) → has ws v ≡ false
    go e n (inl h) = let k = has-filter vs ws v e h in cc
    go e n (inr h) = h

pub merge-over : (known : RdfTerm → Bool) (vs ws : List ℕ) (a b : Mapping) → Over vs known a → Over ws known b → Over (both vs ws) known (merge a b)
merge-over known vs ws a b f g = record {
  bound = λ v e. let h = in-both vs ws v e in rw (f.bound v h.0, g.bound v h.1) refl;
  known_terms = λ v t. pick v t (a v) (f.known_terms v);
}
  where
    pick : (v : ℕ) (t : RdfTerm) (x : Option RdfTerm) → ((t : RdfTerm) → x ≡ Some t → known t ≡ true) → either x (b v) ≡ Some t → known t ≡ true
    pick v t (Some s) p e = p t e
    pick v t None p e = g.known_terms v t e

join-over : (known : RdfTerm → Bool) (vs ws : List ℕ) (ls rs : List Mapping) → AllByRecursion (Over vs known) ls → AllByRecursion (Over ws known) rs → AllByRecursion (Over (both vs ws) known) (join ls rs)
join-over known vs ws ls rs f g =
    each-flat_map (Over (both vs ws) known) (λ a. map (merge a) (filter (compatible a) rs)) ls
    (each-weaker (Over vs known) (λ a. AllByRecursion (Over (both vs ws) known) (map (merge a) (filter (compatible a) rs)))
    (λ a fa. each-map (Over (both vs ws) known) (merge a) (filter (compatible a) rs)
    (each-weaker (Over ws known) (λ b. Over (both vs ws) known (merge a b)) (λ b gb. merge-over known vs ws a b fa gb) (filter (compatible a) rs) (each-filter (Over ws known) (compatible a) rs g)))
    ls f)

pub total-joined : (g : Mapping → ℕ) (ls rs : List Mapping) → total g (join ls rs) ≡ total (λ a. total (λ b. cond (compatible a b) (g (merge a b)) 0) rs) ls
total-joined g ls rs =
    total-flat_map g (λ a. map (merge a) (filter (compatible a) rs)) ls
    ∙ total-same _ _ (λ a. total-map g (merge a) (filter (compatible a) rs) ∙ total-filter (λ b. g (merge a b)) (compatible a) rs) ls

pub record Both (P Q : Mapping → Type 0) (m : Mapping) : Type 0 where
  pub fst : P m
  pub snd : Q m

pub each-both : (P Q : Mapping → Type 0) (ms : List Mapping) → AllByRecursion P ms → AllByRecursion Q ms → AllByRecursion (Both P Q) ms
each-both P Q [] a b = tt
each-both P Q (m ∷ ms) a b = (record { fst = a.0; snd = b.0 }, each-both P Q ms a.1 b.1)

pub join_step : (ids : Ids) (known : RdfTerm → Bool) → Numbers ids known → (relations : Relations) (a b : Name) (vs ws : List ℕ) (certain : List ℕ) (ls rs : List Mapping) →
    Carries ids known vs ls (relations a) → Carries ids known ws rs (relations b) → AllByRecursion (Binds certain) ls → AllByRecursion (Binds certain) rs →
    Carries ids known (both vs ws) (join ls rs) (select_table relations (join_core false a b vs ws certain))
join_step ids known n relations a b vs ws certain ls rs ca cb bl br = record {
  columns = ap (λ (xs : List Name). one ∷ xs) (item_columns (merged_sql vs ws) (both vs ws));
  rows = record {
    totals = λ g.
        let items = one_item ∷ map (variable_item (merged_sql vs ws)) (both vs ws) in
        let on = every (map (shared_sql certain) (shared vs ws)) in
        let K : Sight → ℕ = λ env. cond (is_true (value_of on env)) (g (item_cells items env)) 0 in
        let at : (x y : Mapping) → Both (Over vs known) (Binds certain) x → Both (Over ws known) (Binds certain) y → K (carried_env ids vs ws x y) ≡ cond (compatible x y) (g (carry ids (both vs ws) (merge x y))) 0 =
        λ x y p q. ap₂ (λ (c : Bool) (r : List Cell). cond c (g r) 0)
        (every_true (map (shared_sql certain) (shared vs ws)) (carried_env ids vs ws x y)
        ∙ list_all-map (λ e. is_true (value_of e (carried_env ids vs ws x y))) (λ v. agree (x v) (y v)) (shared_sql certain) (λ v. shared_true ids known n certain vs ws x y p.fst q.fst p.snd q.snd v) (shared vs ws)
        ∙ compatible_is known vs ws x y p.fst q.fst ca.below)
        (items_carry ids known vs ws (both vs ws) x y p.fst q.fst) in
        total-pairs_of_rows g relations a b vs ws certain
        ∙ ap₂ (λ (ka kb : List Name). total (λ ra. total (λ rb. K (pair_env ka kb ra rb)) (relations b).rows) (relations a).rows) ca.columns cb.columns
        ∙ total-carried ids known vs ls (relations a) (λ ra. total (λ rb. K (pair_env (columns_of vs) (columns_of ws) ra rb)) (relations b).rows) ca
        ∙ total-same _ _ (λ x. total-carried ids known ws rs (relations b) (λ rb. K (pair_env (columns_of vs) (columns_of ws) (carry ids vs x) rb)) cb) ls
        ∙ total-each _ _ (Both (Over vs known) (Binds certain)) (λ x p. total-each _ _ (Both (Over ws known) (Binds certain)) (λ y q. at x y p q) rs (each-both _ _ rs cb.fits br)) ls (each-both _ _ ls ca.fits bl)
        ∙ sym (total-joined (λ m. g (carry ids (both vs ws) m)) ls rs)
        ∙ sym (total-map g (carry ids (both vs ws)) (join ls rs));
  };
  fits = join-over known vs ws ls rs ca.fits cb.fits;
  below = each-append (λ v. v < width) vs (filter (λ w. if has vs w then false else true) ws) ca.below (each-filter (λ v. v < width) (λ w. if has vs w then false else true) ws cb.below);
}
