use Rattle.std.specs.Prelude.{◌+◌, Ok}
use Rattle.std.proofs.Common.{subst, sym, ◌≡◌, true}
use Rattle.table_meaning.specs.declared.kind.Kind.TheVariants as kind
use Rattle.sql_meaning.specs.declared.expression.SqlExpr.{SqlExpr}
use Rattle.query_eval_meaning.specs.Expressions.{truth_over}
use Rattle.sql_rows_meaning.specs.Checks.{check}
use Rattle.sql_gen_term_laws.specs.Filters.{Means}
use Rattle.sql_gen_form_laws.specs.Fits.{ExprFits}
use Rattle.sql_gen_filter_meaning.specs.Connectives.{connectives, names_term_columns}
use Rattle.sql_gen_filter_laws.proofs.Whole.{filter_means}
use Rattle.sql_gen_filter_form_laws.proofs.Whole.{filter_holds}
use Rattle.sql_gen_filter_form_laws.proofs.TruthKinds.{kinds_hold}
use Rattle.sql_gen_filter_form_laws.proofs.Forms.{forms_hold}
use Rattle.sql_gen_filter_form_laws.proofs.Columns.{columns_hold}
use Rattle.filter_sql.proofs.Nodes.{if_ok}
use Rattle.filter_sql.proofs.visitor.filter_sql.Goals as goal

pub returns-clause-means : goal.returns-clause-means
returns-clause-means c =
    let e = c.args.e.now in
    if_ok c.fold_expr.result (λ x p us h. subst (λ (s : SqlExpr). Means us s (truth_over e)) (sym p.sql) (filter_means us e h)) c.fold_expr.ensures.out

pub returns-clause-kind : goal.returns-clause-kind
returns-clause-kind c =
    let e = c.args.e.now in
    if_ok c.fold_expr.result (λ x p us h s seen. subst (λ (y : SqlExpr). check y s ≡ Ok kind.Truth) (sym p.sql) (filter_holds (kinds_hold us s seen) e h)) c.fold_expr.ensures.out

pub returns-clause-columns : goal.returns-clause-columns
returns-clause-columns c =
    let e = c.args.e.now in
    if_ok c.fold_expr.result (λ x p us h. subst (λ (s : SqlExpr). names_term_columns us s ≡ true) (sym p.sql) (filter_holds (columns_hold us) e h)) c.fold_expr.ensures.out

pub returns-clause-fits : goal.returns-clause-fits
returns-clause-fits c =
    let e = c.args.e.now in
    if_ok c.fold_expr.result (λ x p. subst (λ (s : SqlExpr). ExprFits (9 + connectives e) s) (sym p.sql) (filter_holds forms_hold e p.written)) c.fold_expr.ensures.out
