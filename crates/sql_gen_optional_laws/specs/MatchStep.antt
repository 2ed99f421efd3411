-- The pairs that fit and of which the condition is true.
use Rattle.std.proofs.Common.{◌≡◌, ℕ, ◌⊎◌, Bool, true, false, cond, if◌then◌else◌, List, [], ◌∷◌, ◌++◌, map, sym, refl, ap, ap₂, ◌∙◌, inl, inr, pos}
use Rattle.std.proofs.lemmas.Bool.{cases_Bool}
use Rattle.std.proofs.lemmas.List.{map-append}
use Rattle.std.specs.List.{filter, flat_map, AllByRecursion}
use Rattle.query_eval_meaning.specs.Expressions.{Truth as Truth3, is_true as holds}
use Rattle.query_eval_meaning.specs.Mapping.{Mapping, agree, compatible, merge}
use Rattle.query_eval_meaning.specs.Eval.{found}
use Rattle.rdf_meaning.specs.Terms.{RdfTerm}
use Rattle.bags.specs.Bag.{total, SameBag}
use Rattle.bags.specs.BagLaws.{total-same, total-map, total-flat_map, total-filter, total-each, each-map, each-flat_map, each-weaker, each-filter}
use Rattle.table_meaning.specs.declared.cell.Cell.{Cell}
use Rattle.sql_meaning.specs.declared.script.Item.{Item}
use Rattle.sql_meaning.specs.declared.expression.SqlExpr.{SqlExpr}
use Rattle.sql_rows_meaning.specs.Values.{Sight, value_of, is_true, first_cell}
use Rattle.sql_rows_meaning.specs.Tables.{Relations}
use Rattle.sql_rows_meaning.specs.Sources.{with_row, nothing_in_sight, all_joined}
use Rattle.sql_rows_meaning.specs.Selects.{item_cells}
use Rattle.sql_rows_meaning.specs.ValueLaws.{value_of-Name, value_of-First, value_of-Int}
use Rattle.sql_gen_step_laws.specs.Carried.{Name, column, one, Ids, id_cell, carry, columns_of, Over, Numbers, Carries, Binds, select_table}
use Rattle.sql_gen_step_laws.specs.PlainSelects.{plain_rows}
use Rattle.sql_gen_step_laws.specs.StepSelects.{left_alias, right_alias, cell_of, every, has, shared_sql, shared, merged_sql, one_item, variable_item, both}
use Rattle.sql_gen_step_laws.specs.StepTests.{pair_env, carried_env, every_true, shared_true, merged_value, compatible_is, value-left}
use Rattle.sql_gen_step_laws.specs.JoinStep.{total-carried, list_all-map, item_columns, merge-over, Both, each-both}
use Rattle.sql_gen_term_laws.specs.TermTable.{term_columns, HasTerms, number_test, no_test, term_alias, term_joins, with_terms}
use Rattle.sql_gen_term_laws.specs.TermJoin.{has_term_of}
use Rattle.sql_gen_term_laws.specs.TermChain.{Keeps, keeps-trans, keeps-term, keeps-terms, Finds, number-finds, no-finds, terms-chain, shows_terms}
use Rattle.sql_gen_term_laws.specs.Filters.{Means}
use Rattle.sql_gen_term_laws.specs.FilterStep.{holds_is}
use Rattle.query_eval_meaning.specs.Matches.{Match, matches_of}
use Rattle.sql_gen_optional_laws.specs.MatchRows.{kept, either_test, kept_item, matches_core, match_cells, OverBoth, Matches}

-- a mapping of each side
pub record Two : Type 0 where
  pub left : Mapping
  pub right : Mapping

abbrev pub joined : Two → Mapping
joined p = merge p.left p.right

abbrev pub fitting : List Mapping → List Mapping → List Two
fitting ls rs = flat_map (λ x. map (λ (y : Mapping). record { left = x; right = y }) (filter (compatible x) rs)) ls

-- what both rows show stays as it is while they stay in sight
kept_value : (vs ws : List ℕ) (v : ℕ) (env env' : Sight) → Keeps env env' → value_of (merged_sql vs ws v) env' ≡ value_of (merged_sql vs ws v) env
kept_value vs ws v env env' k = go (cases_Bool (has vs v)) (cases_Bool (has ws v))
  where
    l : value_of (cell_of left_alias v) env' ≡ value_of (cell_of left_alias v) env
    l = value_of-Name left_alias (column v) env' ∙ k.left (column v) ∙ sym (value_of-Name left_alias (column v) env)

    r : value_of (cell_of right_alias v) env' ≡ value_of (cell_of right_alias v) env
    r = value_of-Name right_alias (column v) env' ∙ k.right (column v) ∙ sym (value_of-Name right_alias (column v) env)

    go : (has vs v ≡ true) ⊎ (has vs v ≡ false) → (has ws v ≡ true) ⊎ (has ws v ≡ false) → value_of (merged_sql vs ws v) env' ≡ value_of (merged_sql vs ws v) env
    go (inl e) (inl h) = rw (e, h) (value_of-First (cell_of left_alias v ∷ cell_of right_alias v ∷ []) env' ∙ ap₂ (λ x y. first_cell (x ∷ y ∷ [])) l r ∙ sym (value_of-First (cell_of left_alias v ∷ cell_of right_alias v ∷ []) env))
    go (inl e) (inr h) = rw (e, h) l
    go (inr e) h = rw e r

merged_seen : (ids : Ids) (known : RdfTerm → Bool) (vs ws : List ℕ) (x y : Mapping) → Over vs known x → Over ws known y → (env : Sight) → Keeps (carried_env ids vs ws x y) env → (v : ℕ) → value_of (merged_sql vs ws v) env ≡ id_cell ids (merge x y v)
merged_seen ids known vs ws x y f g env k v = kept_value vs ws v (carried_env ids vs ws x y) env k ∙ merged_value ids known vs ws x y f g v

-- the row of the number that either side has
either-finds : (ids : Ids) (known : RdfTerm → Bool) (vs ws : List ℕ) (x y : Mapping) → Over vs known x → Over ws known y → (env : Sight) → Keeps (carried_env ids vs ws x y) env → (v : ℕ) (row : List Cell) →
    is_true (value_of (either_test vs ws v) (with_row (term_alias v) term_columns row env)) ≡ has_term_of ids (merge x y v) row
either-finds ids known vs ws x y f g env k v row = go (cases_Bool (has vs v)) (cases_Bool (has ws v))
  where
    next : Sight
    next = with_row (term_alias v) term_columns row env

    found : is_true (value_of (number_test (merged_sql vs ws) v) next) ≡ has_term_of ids (merge x y v) row
    found = number-finds ids (merge x y) (merged_sql vs ws) v row env (merged_seen ids known vs ws x y f g next (keeps-trans (carried_env ids vs ws x y) env next k (keeps-term v term_columns row env)) v)

    go : (has vs v ≡ true) ⊎ (has vs v ≡ false) → (has ws v ≡ true) ⊎ (has ws v ≡ false) → is_true (value_of (either_test vs ws v) next) ≡ has_term_of ids (merge x y v) row
    go (inl e) h = ap (λ (b : Bool). is_true (value_of (if b then number_test (merged_sql vs ws) v else if has ws v then number_test (merged_sql vs ws) v else no_test v) next)) e ∙ found
    go (inr e) (inl h) = ap₂ (λ (b c : Bool). is_true (value_of (if b then number_test (merged_sql vs ws) v else if c then number_test (merged_sql vs ws) v else no_test v) next)) e h ∙ found
    go (inr e) (inr h) =
        ap₂ (λ (b c : Bool). is_true (value_of (if b then number_test (merged_sql vs ws) v else if c then number_test (merged_sql vs ws) v else no_test v) next)) e h
        ∙ no-finds ids v row next ∙ rw (f.bound v e, g.bound v h) refl

-- each part over its own variables
pub record OverTwo (vs ws : List ℕ) (known : RdfTerm → Bool) (p : Two) : Type 0 where
  pub left : Over vs known p.left
  pub right : Over ws known p.right

over_fitting : (known : RdfTerm → Bool) (vs ws : List ℕ) (ls rs : List Mapping) → AllByRecursion (Over vs known) ls → AllByRecursion (Over ws known) rs → AllByRecursion (OverTwo vs ws known) (fitting ls rs)
over_fitting known vs ws ls rs f g =
    let P = OverTwo vs ws known in
    each-flat_map P (λ x. map (λ (y : Mapping). record { left = x; right = y }) (filter (compatible x) rs)) ls
    (each-weaker (Over vs known) (λ x. AllByRecursion P (map (λ (y : Mapping). record { left = x; right = y }) (filter (compatible x) rs)))
    (λ x fx. each-map P (λ (y : Mapping). record { left = x; right = y }) (filter (compatible x) rs)
    (each-weaker (Over ws known) (λ y. P (record { left = x; right = y })) (λ y gy. record { left = fx; right = gy }) (filter (compatible x) rs) (each-filter (Over ws known) (compatible x) rs g)))
    ls f)

finds_two : (ids : Ids) (known : RdfTerm → Bool) (vs ws : List ℕ) (p : Two) → OverTwo vs ws known p → Finds (either_test vs ws) ids known (joined p) (carried_env ids vs ws p.left p.right)
finds_two ids known vs ws p o = record {
  finds = either-finds ids known vs ws p.left p.right o.left o.right;
  knows_terms = (merge-over known vs ws p.left p.right o.left o.right).known_terms;
}

-- the two rows in sight, for each fitting pair
pub pairs_in_sight : (ids : Ids) (known : RdfTerm → Bool) → Numbers ids known → (relations : Relations) (a b : Name) (vs ws certain : List ℕ) (ls rs : List Mapping) →
    Carries ids known vs ls (relations a) → Carries ids known ws rs (relations b) → AllByRecursion (Binds certain) ls → AllByRecursion (Binds certain) rs →
    let on = every (map (shared_sql certain) (shared vs ws)) in
    SameBag (flat_map (λ env. filter (λ e. is_true (value_of on e)) (map (λ rb. with_row right_alias (relations b).columns rb env) (relations b).rows)) (map (λ ra. with_row left_alias (relations a).columns ra nothing_in_sight) (relations a).rows))
    (map (λ (p : Two). carried_env ids vs ws p.left p.right) (fitting ls rs))
pairs_in_sight ids known n relations a b vs ws certain ls rs ca cb bl br = record {
  totals = λ g.
      let on = every (map (shared_sql certain) (shared vs ws)) in
      let left : List Cell → Sight = λ ra. with_row left_alias (relations a).columns ra nothing_in_sight in
      let found : Sight → List Sight = λ env. filter (λ e. is_true (value_of on e)) (map (λ rb. with_row right_alias (relations b).columns rb env) (relations b).rows) in
      let K : Sight → ℕ = λ env. cond (is_true (value_of on env)) (g env) 0 in
      let kv = columns_of vs in
      let kw = columns_of ws in
      let E : Two → Sight = λ p. carried_env ids vs ws p.left p.right in
      let tests : (x y : Mapping) → Both (Over vs known) (Binds certain) x → Both (Over ws known) (Binds certain) y → is_true (value_of on (carried_env ids vs ws x y)) ≡ compatible x y =
      λ x y p q. every_true (map (shared_sql certain) (shared vs ws)) (carried_env ids vs ws x y)
      ∙ list_all-map (λ e. is_true (value_of e (carried_env ids vs ws x y))) (λ v. agree (x v) (y v)) (shared_sql certain) (λ v. shared_true ids known n certain vs ws x y p.fst q.fst p.snd q.snd v) (shared vs ws)
      ∙ compatible_is known vs ws x y p.fst q.fst ca.below in
      total-flat_map g found (map left (relations a).rows)
      ∙ total-map (λ env. total g (found env)) left (relations a).rows
      ∙ total-same _ _ (λ ra.
      total-filter g (λ e. is_true (value_of on e)) (map (λ rb. with_row right_alias (relations b).columns rb (left ra)) (relations b).rows)
      ∙ total-map K (λ rb. with_row right_alias (relations b).columns rb (left ra)) (relations b).rows) (relations a).rows
      ∙ ap₂ (λ (ka kb : List Name). total (λ ra. total (λ rb. K (pair_env ka kb ra rb)) (relations b).rows) (relations a).rows) ca.columns cb.columns
      ∙ total-carried ids known vs ls (relations a) (λ ra. total (λ rb. K (pair_env kv kw ra rb)) (relations b).rows) ca
      ∙ total-each _ _ (Both (Over vs known) (Binds certain)) (λ x p.
      total-carried ids known ws rs (relations b) (λ rb. K (pair_env kv kw (carry ids vs x) rb)) cb
      ∙ total-each _ _ (Both (Over ws known) (Binds certain)) (λ y q. ap (λ (c : Bool). cond c (g (carried_env ids vs ws x y)) 0) (tests x y p q)) rs (each-both _ _ rs cb.fits br)) ls (each-both _ _ ls ca.fits bl)
      ∙ sym (total-map g E (fitting ls rs)
      ∙ total-flat_map (λ p. g (E p)) (λ x. map (λ (y : Mapping). record { left = x; right = y }) (filter (compatible x) rs)) ls
      ∙ total-same _ _ (λ x. total-map (λ p. g (E p)) (λ (y : Mapping). record { left = x; right = y }) (filter (compatible x) rs) ∙ total-filter (λ y. g (carried_env ids vs ws x y)) (compatible x) rs) ls);
}

-- ---- the items

merged_cells : (ids : Ids) (known : RdfTerm → Bool) (vs ws us : List ℕ) (x y : Mapping) → Over vs known x → Over ws known y → (env : Sight) → Keeps (carried_env ids vs ws x y) env → item_cells (map (variable_item (merged_sql vs ws)) us) env ≡ map (λ v. id_cell ids (merge x y v)) us
merged_cells ids known vs ws [] x y f g env k = refl
merged_cells ids known vs ws (u ∷ us) x y f g env k = ap₂ (λ (c : Cell) (cs : List Cell). c ∷ cs) (merged_seen ids known vs ws x y f g env k u) (merged_cells ids known vs ws us x y f g env k)

left_cells : (ids : Ids) (known : RdfTerm → Bool) (vs ws us : List ℕ) (x y : Mapping) → Over vs known x → (env : Sight) → Keeps (carried_env ids vs ws x y) env → item_cells (map kept_item us) env ≡ map (λ v. id_cell ids (x v)) us
left_cells ids known vs ws [] x y f env k = refl
left_cells ids known vs ws (u ∷ us) x y f env k = ap₂ (λ (c : Cell) (cs : List Cell). c ∷ cs)
    (value_of-Name left_alias (column u) env ∙ k.left (column u) ∙ sym (value_of-Name left_alias (column u) (carried_env ids vs ws x y)) ∙ value-left ids known vs ws x y f u)
    (left_cells ids known vs ws us x y f env k)

kept_columns : (vs : List ℕ) → map (λ (i : Item). i.name) (map kept_item vs) ≡ map kept vs
kept_columns [] = refl
kept_columns (v ∷ vs) = ap (λ (ns : List Name). kept v ∷ ns) (kept_columns vs)

-- ---- the matches

total-matches : (f : Mapping → Bool) (ls rs : List Mapping) (h : Match → ℕ) → total h (matches_of f ls rs) ≡ total (λ (p : Two). cond (f (joined p)) (h (record { left = p.left; merged = joined p })) 0) (fitting ls rs)
total-matches f ls rs h =
    total-flat_map h (λ a. map (λ m. record { left = a; merged = m }) (found f rs a)) ls
    ∙ total-same _ _ (λ a.
    total-map h (λ (m : Mapping). record { left = a; merged = m }) (found f rs a)
    ∙ total-filter (λ m. h (record { left = a; merged = m })) f (map (merge a) (filter (compatible a) rs))
    ∙ total-map (λ m. cond (f m) (h (record { left = a; merged = m })) 0) (merge a) (filter (compatible a) rs)) ls
    ∙ sym (total-flat_map (λ (p : Two). cond (f (joined p)) (h (record { left = p.left; merged = joined p })) 0) (λ x. map (λ (y : Mapping). record { left = x; right = y }) (filter (compatible x) rs)) ls
    ∙ total-same _ _ (λ x. total-map (λ (p : Two). cond (f (joined p)) (h (record { left = p.left; merged = joined p })) 0) (λ (y : Mapping). record { left = x; right = y }) (filter (compatible x) rs)) ls)

over_matches : (known : RdfTerm → Bool) (f : Mapping → Bool) (vs ws : List ℕ) (ls rs : List Mapping) → AllByRecursion (Over vs known) ls → AllByRecursion (Over ws known) rs → AllByRecursion (OverBoth vs (both vs ws) known) (matches_of f ls rs)
over_matches known f vs ws ls rs fl fr =
    let P = OverBoth vs (both vs ws) known in
    each-flat_map P (λ a. map (λ m. record { left = a; merged = m }) (found f rs a)) ls
    (each-weaker (Over vs known) (λ a. AllByRecursion P (map (λ m. record { left = a; merged = m }) (found f rs a)))
    (λ a fa. each-map P (λ (m : Mapping). record { left = a; merged = m }) (found f rs a)
    (each-filter (λ m. P (record { left = a; merged = m })) f (map (merge a) (filter (compatible a) rs))
    (each-map (λ m. P (record { left = a; merged = m })) (merge a) (filter (compatible a) rs)
    (each-weaker (Over ws known) (λ b. P (record { left = a; merged = merge a b })) (λ b gb. record { left = fa; merged = merge-over known vs ws a b fa gb }) (filter (compatible a) rs) (each-filter (Over ws known) (compatible a) rs fr)))))
    ls fl)

pub match_step : (ids : Ids) (known : RdfTerm → Bool) → Numbers ids known → (relations : Relations) (a b terms : Name) → HasTerms ids known (relations terms) → (vs ws us certain : List ℕ) (ls rs : List Mapping) →
    Carries ids known vs ls (relations a) → Carries ids known ws rs (relations b) → AllByRecursion (Binds certain) ls → AllByRecursion (Binds certain) rs →
    (condition : SqlExpr) (truth : Mapping → Truth3) → Means us condition truth →
    Matches ids known vs (both vs ws) (matches_of (λ m. holds (truth m)) ls rs) (select_table relations (matches_core a b terms vs ws us certain condition))
match_step ids known n relations a b terms st vs ws us certain ls rs ca cb bl br condition truth means = record {
  columns = ap (λ (ns : List Name). one ∷ ns) (map-append (λ (i : Item). i.name) (map (variable_item (merged_sql vs ws)) (both vs ws)) (map kept_item vs) ∙ ap₂ (λ (ms ns : List Name). ms ++ ns) (item_columns (merged_sql vs ws) (both vs ws)) (kept_columns vs));
  rows = record {
    totals = λ g.
        let items = one_item ∷ map (variable_item (merged_sql vs ws)) (both vs ws) ++ map kept_item vs in
        let on = every (map (shared_sql certain) (shared vs ws)) in
        let f : Mapping → Bool = λ m. holds (truth m) in
        let start = flat_map (λ env. filter (λ e. is_true (value_of on e)) (map (λ rb. with_row right_alias (relations b).columns rb env) (relations b).rows)) (map (λ ra. with_row left_alias (relations a).columns ra nothing_in_sight) (relations a).rows) in
        let envs = all_joined relations (term_joins terms (either_test vs ws) us) start in
        let E : Two → Sight = λ p. carried_env ids vs ws p.left p.right in
        let env : Two → Sight = λ p. with_terms ids us (joined p) (E p) in
        let over = over_fitting known vs ws ls rs ca.fits cb.fits in
        let bag : SameBag envs (map env (fitting ls rs)) =
        terms-chain joined relations terms ids known st (either_test vs ws) us (fitting ls rs) start E
        (each-weaker (OverTwo vs ws known) (λ p. Finds (either_test vs ws) ids known (joined p) (E p)) (finds_two ids known vs ws) (fitting ls rs) over)
        (pairs_in_sight ids known n relations a b vs ws certain ls rs ca cb bl br) in
        ap (total g) (plain_rows relations (matches_core a b terms vs ws us certain condition) refl refl refl refl)
        ∙ total-map g (item_cells items) (filter (λ e. is_true (value_of condition e)) envs)
        ∙ total-filter (λ e. g (item_cells items e)) (λ e. is_true (value_of condition e)) envs
        ∙ bag.totals (λ e. cond (is_true (value_of condition e)) (g (item_cells items e)) 0)
        ∙ total-map (λ e. cond (is_true (value_of condition e)) (g (item_cells items e)) 0) env (fitting ls rs)
        ∙ total-each _ _ (OverTwo vs ws known) (λ p o. ap₂ (λ (b : Bool) (r : List Cell). cond b (g r) 0)
        (ap is_true (means (joined p) (env p) (shows_terms ids us (joined p) (E p))) ∙ holds_is (truth (joined p)))
        (let k = keeps-terms ids us (joined p) (E p) in
        ap₂ (λ (c : Cell) (cs : List Cell). c ∷ cs) (value_of-Int (pos 1) (env p))
        (map-append (λ (i : Item). value_of i.expr (env p)) (map (variable_item (merged_sql vs ws)) (both vs ws)) (map kept_item vs)
        ∙ ap₂ (λ (cs ds : List Cell). cs ++ ds) (merged_cells ids known vs ws (both vs ws) p.left p.right o.left o.right (env p) k) (left_cells ids known vs ws vs p.left p.right o.left (env p) k)))) (fitting ls rs) over
        ∙ sym (total-matches f ls rs (λ q. g (match_cells ids vs (both vs ws) q)))
        ∙ sym (total-map g (match_cells ids vs (both vs ws)) (matches_of f ls rs));
  };
  fits = over_matches known (λ m. holds (truth m)) vs ws ls rs ca.fits cb.fits;
}
