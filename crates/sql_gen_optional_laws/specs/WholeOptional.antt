-- Both steps of an optional join with a condition.
use Rattle.std.proofs.Common.{◌≡◌, ℕ, Bool, false, if◌then◌else◌, List, sym, refl, ap, subst, bytes_eq}
use Rattle.std.proofs.lemmas.Slice.Eq.{bytes_eq-Decides}
use Rattle.std.specs.List.{AllByRecursion}
use Rattle.query_eval_meaning.specs.Expressions.{Truth as Truth3, is_true as holds}
use Rattle.query_eval_meaning.specs.Mapping.{Mapping}
use Rattle.query_eval_meaning.specs.Eval.{left_join}
use Rattle.rdf_meaning.specs.Terms.{RdfTerm}
use Rattle.sql_meaning.specs.declared.expression.SqlExpr.{SqlExpr}
use Rattle.sql_rows_meaning.specs.Tables.{Relation, Relations, with_relation}
use Rattle.sql_rows_meaning.specs.Rows.{body_relation}
use Rattle.sql_gen_step_laws.specs.Carried.{Name, Ids, Numbers, Carries, Binds, select_table}
use Rattle.sql_gen_step_laws.specs.StepSelects.{both}
use Rattle.sql_gen_term_laws.specs.TermTable.{HasTerms}
use Rattle.sql_gen_term_laws.specs.Filters.{Means}
use Rattle.query_eval_meaning.specs.Matches.{matches_of}
use Rattle.sql_gen_optional_laws.specs.MatchRows.{matches_core, optional_body, Matches}
use Rattle.sql_gen_optional_laws.specs.MatchStep.{match_step}
use Rattle.sql_gen_optional_laws.specs.OptionalStep.{optional_step}

pub whole_optional : (ids : Ids) (known : RdfTerm → Bool) → Numbers ids known → (relations : Relations) (a b terms : Name) → HasTerms ids known (relations terms) → (vs ws us certain mine : List ℕ) (ls rs : List Mapping) →
    Carries ids known vs ls (relations a) → Carries ids known ws rs (relations b) → AllByRecursion (Binds certain) ls → AllByRecursion (Binds certain) rs → AllByRecursion (Binds mine) ls →
    (condition : SqlExpr) (truth : Mapping → Truth3) → Means us condition truth → (m : Name) → bytes_eq a m ≡ false →
    Carries ids known (both vs ws) (left_join (λ m. holds (truth m)) ls rs)
    (body_relation (with_relation m (select_table relations (matches_core a b terms vs ws us certain condition)) relations) (optional_body a m vs ws mine))
whole_optional ids known n relations a b terms st vs ws us certain mine ls rs ca cb bl br bm condition truth means m apart =
    let table : Relation = select_table relations (matches_core a b terms vs ws us certain condition) in
    let here : with_relation m table relations m ≡ table = ap (λ (x : Bool). if x then table else relations m) ((bytes_eq-Decides m m).1 refl) in
    let there : with_relation m table relations a ≡ relations a = ap (λ (x : Bool). if x then table else relations a) apart in
    optional_step ids known n (with_relation m table relations) a m vs ws mine ls rs (λ m. holds (truth m))
    (subst (Carries ids known vs ls) (sym there) ca) cb.fits cb.below
    (subst (Matches ids known vs (both vs ws) (matches_of (λ m. holds (truth m)) ls rs)) (sym here) (match_step ids known n relations a b terms st vs ws us certain ls rs ca cb bl br condition truth means))
    bm
