-- A filter over the pairs keeps those that pass.
use Rattle.std.proofs.Common.{◌≡◌, ℕ, ◌⊎◌, Bool, true, false, cond, List, [], ◌∷◌, ◌++◌, map, sym, refl, ap, ap₂, ◌∙◌, subst, inl, inr, pos}
use Rattle.std.proofs.lemmas.Bool.{cases_Bool, or_left, or_right, eq-eqb}
use Rattle.std.proofs.lemmas.List.{map-append}
use Rattle.std.proofs.lemmas.List.Elements.{filter-append}
use Rattle.std.specs.List.{filter}
use Rattle.query_eval_meaning.specs.Expressions.{Truth as Truth3, is_true as holds}
use Rattle.query_eval_meaning.specs.Mapping.{Mapping, compatible, merge}
use Rattle.query_eval_meaning.specs.Eval.{found}
use Rattle.query_eval_meaning.specs.Matches.{Match, matches_of}
use Rattle.rdf_meaning.specs.Terms.{RdfTerm}
use Rattle.bags.specs.Bag.{total, SameBag}
use Rattle.bags.specs.BagLaws.{total-map, total-filter, total-each, each-weaker, each-filter}
use Rattle.table_meaning.specs.declared.cell.Cell.{Cell}
use Rattle.sql_meaning.specs.declared.script.Item.{Item}
use Rattle.sql_meaning.specs.declared.expression.SqlExpr.{SqlExpr}
use Rattle.table_meaning.specs.declared.kind.Kind.TheVariants as kind
use Rattle.sql_rows_meaning.specs.Values.{Sight, value_of, is_true}
use Rattle.sql_rows_meaning.specs.Tables.{Relations}
use Rattle.sql_rows_meaning.specs.Sources.{with_row, nothing_in_sight, all_joined}
use Rattle.sql_rows_meaning.specs.Selects.{item_cells}
use Rattle.sql_rows_meaning.specs.ValueLaws.{value_of-Name, value_of-Int, value_of-Null}
use Rattle.sql_gen_step_laws.specs.Carried.{Name, column, one, Ids, id_cell, select_table}
use Rattle.sql_gen_step_laws.specs.PlainSelects.{plain_rows}
use Rattle.sql_gen_step_laws.specs.StepSelects.{left_alias, cell_of, has, one_item, variable_item, own_sql}
use Rattle.sql_gen_step_laws.specs.JoinStep.{item_columns}
use Rattle.sql_gen_term_laws.specs.TermTable.{HasTerms, own_test, term_alias, term_columns, term_joins, with_terms}
use Rattle.sql_gen_term_laws.specs.TermChain.{Keeps, keeps-trans, keeps-term, keeps-terms, Finds, number-finds, no-finds, terms-chain, shows_terms}
use Rattle.sql_gen_term_laws.specs.TermJoin.{has_term_of}
use Rattle.sql_gen_term_laws.specs.Filters.{Means}
use Rattle.sql_gen_term_laws.specs.FilterStep.{holds_is}
use Rattle.sql_gen_optional_laws.specs.MatchRows.{kept, match_columns, match_cells, OverBoth, Matches}
use Rattle.sql_gen_optional_laws.specs.OptionalStep.{merged_at, kept_at, match_env}
use Rattle.sql_gen_matched_laws.specs.PassedSelect.{still_item, passed_core}

-- ---- a pair in sight

merged_seen : (ids : Ids) (known : RdfTerm → Bool) (vs us : List ℕ) (q : Match) → OverBoth vs us known q → (env : Sight) → Keeps (match_env ids vs us q) env → (v : ℕ) → value_of (own_sql us v) env ≡ id_cell ids (q.merged v)
merged_seen ids known vs us q o env k v = go (cases_Bool (has us v))
  where
    go : (has us v ≡ true) ⊎ (has us v ≡ false) → value_of (own_sql us v) env ≡ id_cell ids (q.merged v)
    go (inl e) = rw e (value_of-Name left_alias (column v) env ∙ k.left (column v) ∙ merged_at ids vs us q v e)
    go (inr e) = rw (e, o.merged.bound v e) (value_of-Null kind.Int env)

finds_pair : (ids : Ids) (known : RdfTerm → Bool) (vs us : List ℕ) (q : Match) → OverBoth vs us known q → Finds (own_test us) ids known q.merged (match_env ids vs us q)
finds_pair ids known vs us q o = record { finds = found; knows_terms = o.merged.known_terms }
  where
    found : (env : Sight) → Keeps (match_env ids vs us q) env → (u : ℕ) (row : List Cell) → is_true (value_of (own_test us u) (with_row (term_alias u) term_columns row env)) ≡ has_term_of ids (q.merged u) row
    found env k u row = go (cases_Bool (has us u))
      where
        next : Sight
        next = with_row (term_alias u) term_columns row env

        still : Keeps (match_env ids vs us q) next
        still = keeps-trans (match_env ids vs us q) env next k (keeps-term u term_columns row env)

        go : (has us u ≡ true) ⊎ (has us u ≡ false) → is_true (value_of (own_test us u) next) ≡ has_term_of ids (q.merged u) row
        go (inl e) = rw e (number-finds ids q.merged (cell_of left_alias) u row env (value_of-Name left_alias (column u) next ∙ still.left (column u) ∙ merged_at ids vs us q u e))
        go (inr e) = rw (e, o.merged.bound u e) (no-finds ids u row next)

merged_cells : (ids : Ids) (known : RdfTerm → Bool) (vs us ws : List ℕ) (q : Match) → OverBoth vs us known q → (env : Sight) → Keeps (match_env ids vs us q) env → item_cells (map (variable_item (own_sql us)) ws) env ≡ map (λ v. id_cell ids (q.merged v)) ws
merged_cells ids known vs us [] q o env k = refl
merged_cells ids known vs us (w ∷ ws) q o env k = ap₂ (λ (c : Cell) (cs : List Cell). c ∷ cs) (merged_seen ids known vs us q o env k w) (merged_cells ids known vs us ws q o env k)

still_cells : (ids : Ids) (vs us ws : List ℕ) (q : Match) (env : Sight) → Keeps (match_env ids vs us q) env → ((v : ℕ) → has ws v ≡ true → has vs v ≡ true) → item_cells (map still_item ws) env ≡ map (λ v. id_cell ids (q.left v)) ws
still_cells ids vs us [] q env k within = refl
still_cells ids vs us (w ∷ ws) q env k within = ap₂ (λ (c : Cell) (cs : List Cell). c ∷ cs)
    (value_of-Name left_alias (kept w) env ∙ k.left (kept w) ∙ kept_at ids vs us q w (within w (or_left _ _ (eq-eqb w w refl))))
    (still_cells ids vs us ws q env k (λ v h. within v (or_right _ _ h)))

still_columns : (vs : List ℕ) → map (λ (i : Item). i.name) (map still_item vs) ≡ map kept vs
still_columns [] = refl
still_columns (v ∷ vs) = ap (λ (ns : List Name). kept v ∷ ns) (still_columns vs)

pair_bag : (ids : Ids) (known : RdfTerm → Bool) (relations : Relations) (m : Name) (vs us : List ℕ) (qs : List Match) → Matches ids known vs us qs (relations m) →
    SameBag (map (λ row. with_row left_alias (relations m).columns row nothing_in_sight) (relations m).rows) (map (match_env ids vs us) qs)
pair_bag ids known relations m vs us qs c = record {
  totals = λ g.
      total-map g (λ row. with_row left_alias (relations m).columns row nothing_in_sight) (relations m).rows
      ∙ ap (λ (k : List Name). total (λ row. g (with_row left_alias k row nothing_in_sight)) (relations m).rows) c.columns
      ∙ c.rows.totals (λ row. g (with_row left_alias (match_columns vs us) row nothing_in_sight))
      ∙ total-map (λ row. g (with_row left_alias (match_columns vs us) row nothing_in_sight)) (match_cells ids vs us) qs
      ∙ sym (total-map g (match_env ids vs us) qs);
}

-- ---- the SELECT

abbrev passing : (Mapping → Truth3) → Match → Bool
passing truth q = holds (truth q.merged)

filter_pairs : (ids : Ids) (known : RdfTerm → Bool) (relations : Relations) (m terms : Name) → HasTerms ids known (relations terms) → (vs us ts : List ℕ) (qs : List Match) → Matches ids known vs us qs (relations m) →
    (condition : SqlExpr) (truth : Mapping → Truth3) → Means ts condition truth →
    Matches ids known vs us (filter (passing truth) qs) (select_table relations (passed_core m terms vs us ts condition))
filter_pairs ids known relations m terms st vs us ts qs c condition truth means = record {
  columns = ap (λ (ns : List Name). one ∷ ns) (map-append (λ (i : Item). i.name) (map (variable_item (own_sql us)) us) (map still_item vs) ∙ ap₂ (λ (ms ns : List Name). ms ++ ns) (item_columns (own_sql us) us) (still_columns vs));
  rows = record {
    totals = λ g.
        let items = one_item ∷ map (variable_item (own_sql us)) us ++ map still_item vs in
        let start = map (λ row. with_row left_alias (relations m).columns row nothing_in_sight) (relations m).rows in
        let envs = all_joined relations (term_joins terms (own_test us) ts) start in
        let env : Match → Sight = λ q. with_terms ids ts q.merged (match_env ids vs us q) in
        let bag : SameBag envs (map env qs) =
        terms-chain (λ (q : Match). q.merged) relations terms ids known st (own_test us) ts qs start (match_env ids vs us)
        (each-weaker (OverBoth vs us known) (λ q. Finds (own_test us) ids known q.merged (match_env ids vs us q)) (finds_pair ids known vs us) qs c.fits)
        (pair_bag ids known relations m vs us qs c) in
        ap (total g) (plain_rows relations (passed_core m terms vs us ts condition) refl refl refl refl)
        ∙ total-map g (item_cells items) (filter (λ e. is_true (value_of condition e)) envs)
        ∙ total-filter (λ e. g (item_cells items e)) (λ e. is_true (value_of condition e)) envs
        ∙ bag.totals (λ e. cond (is_true (value_of condition e)) (g (item_cells items e)) 0)
        ∙ total-map (λ e. cond (is_true (value_of condition e)) (g (item_cells items e)) 0) env qs
        ∙ total-each _ _ (OverBoth vs us known) (λ q o. ap₂ (λ (b : Bool) (r : List Cell). cond b (g r) 0)
        (ap is_true (means q.merged (env q) (shows_terms ids ts q.merged (match_env ids vs us q))) ∙ holds_is (truth q.merged))
        (let k = keeps-terms ids ts q.merged (match_env ids vs us q) in
        ap₂ (λ (c : Cell) (cs : List Cell). c ∷ cs) (value_of-Int (pos 1) (env q))
        (map-append (λ (i : Item). value_of i.expr (env q)) (map (variable_item (own_sql us)) us) (map still_item vs)
        ∙ ap₂ (λ (cs ds : List Cell). cs ++ ds) (merged_cells ids known vs us us q o (env q) k) (still_cells ids vs us vs q (env q) k (λ v h. h))))) qs c.fits
        ∙ sym (total-filter (λ q. g (match_cells ids vs us q)) (passing truth) qs)
        ∙ sym (total-map g (match_cells ids vs us) (filter (passing truth) qs));
  };
  fits = each-filter (OverBoth vs us known) (passing truth) qs c.fits;
}

-- ---- the pairs that pass are the matches

abbrev beside : Mapping → Mapping → Match
beside a m = record { left = a; merged = m }

those_passing : (truth : Mapping → Truth3) (a : Mapping) (ms : List Mapping) → filter (passing truth) (map (beside a) (filter (λ m. true) ms)) ≡ map (beside a) (filter (λ m. holds (truth m)) ms)
those_passing truth a [] = refl
those_passing truth a (m ∷ ms) = go (cases_Bool (holds (truth m))) (those_passing truth a ms)
  where
    go : (holds (truth m) ≡ true) ⊎ (holds (truth m) ≡ false) → filter (passing truth) (map (beside a) (filter (λ m. true) ms)) ≡ map (beside a) (filter (λ m. holds (truth m)) ms) →
        filter (passing truth) (map (beside a) (filter (λ m. true) (m ∷ ms))) ≡ map (beside a) (filter (λ m. holds (truth m)) (m ∷ ms))
    go (inl e) r = rw e (ap (λ (qs : List Match). beside a m ∷ qs) r)
    go (inr e) r = rw e r

same_matches : (truth : Mapping → Truth3) (ls rs : List Mapping) → filter (passing truth) (matches_of (λ m. true) ls rs) ≡ matches_of (λ m. holds (truth m)) ls rs
same_matches truth [] rs = refl
same_matches truth (a ∷ ls) rs =
    filter-append (passing truth) (map (beside a) (found (λ m. true) rs a)) (matches_of (λ m. true) ls rs)
    ∙ ap₂ (λ (xs ys : List Match). xs ++ ys) (those_passing truth a (map (merge a) (filter (compatible a) rs))) (same_matches truth ls rs)

pub filter_matches : (ids : Ids) (known : RdfTerm → Bool) (relations : Relations) (m terms : Name) → HasTerms ids known (relations terms) → (vs us ts : List ℕ) (ls rs : List Mapping) →
    Matches ids known vs us (matches_of (λ m. true) ls rs) (relations m) → (condition : SqlExpr) (truth : Mapping → Truth3) → Means ts condition truth →
    Matches ids known vs us (matches_of (λ m. holds (truth m)) ls rs) (select_table relations (passed_core m terms vs us ts condition))
filter_matches ids known relations m terms st vs us ts ls rs c condition truth means =
    subst (λ (qs : List Match). Matches ids known vs us qs (select_table relations (passed_core m terms vs us ts condition))) (same_matches truth ls rs)
    (filter_pairs ids known relations m terms st vs us ts (matches_of (λ m. true) ls rs) c condition truth means)
