-- Each part names the columns of terms alone.
use Rattle.std.proofs.Common.{◌≡◌, ℕ, ℤ, Bool, true, ◌&&◌, ◌==◌, bytes_eq, List, [], ◌∷◌, map, refl, sym, ap, ◌∙◌, pos, inl, inr, Option, Some, None}
use Rattle.std.specs.List.{list_any, AllByRecursion}
use Rattle.std.proofs.lemmas.Bool.{and_from, or_cases, or_left, or_right, eqb-true}
use Rattle.std.proofs.lemmas.Slice.Eq.{bytes_eq-Decides}
use Rattle.rdf_meaning.specs.declared.text.KnownDatatype.TheVariants.{String}
use Rattle.rdf_meaning.specs.Known.{known_bytes}
use Rattle.rdf_value_meaning.specs.Values.{value_of, class_of}
use Rattle.table_meaning.specs.declared.kind.Kind.{Kind}
use Rattle.table_meaning.specs.declared.kind.Kind.TheVariants as kind
use Rattle.sql_meaning.specs.declared.expression.SqlExpr.{SqlExpr}
use Rattle.sql_meaning.specs.declared.expression.Branch.{Branch, fold-Branch}
use Rattle.sql_meaning.specs.Levels.{fold_name, fold_int, fold_text, fold_truth, fold_null, fold_equal, fold_less, fold_all, fold_any, fold_not, fold_is_null, fold_case, fold_branch}
use Rattle.sql_meaning.specs.Scripts.{all_of}
use Rattle.query_eval_meaning.specs.Expressions.{lang_string}
use Rattle.sql_gen_step_laws.specs.Carried.{Name}
use Rattle.sql_gen_step_laws.specs.StepSelects.{has}
use Rattle.sql_gen_term_laws.specs.TermTable.{class_name, number_name, text_name, aux_name, term_alias}
use Rattle.sql_gen_filter_meaning.specs.Columns.{number_sql}
use Rattle.sql_gen_filter_meaning.specs.Leaves.{any_term}
use Rattle.sql_gen_filter_meaning.specs.Connectives.{is_term_column, columns_step, branch_columns, names_term_columns}
use Rattle.sql_gen_filter_form_laws.proofs.Closed.{OfBranch, Closed}

alias_among : (us : List ℕ) (v : ℕ) → has us v ≡ true → list_any (λ u. bytes_eq (term_alias v) (term_alias u)) us ≡ true
alias_among [] v e = cc
alias_among (u ∷ us) v e = elim (or_cases (u == v) (has us v) e) [
  | inl p ↦ or_left (bytes_eq (term_alias v) (term_alias u)) _ ((bytes_eq-Decides (term_alias v) (term_alias u)).1 (ap term_alias (sym (eqb-true u v p))))
  | inr p ↦ or_right (bytes_eq (term_alias v) (term_alias u)) _ (alias_among us v p)
]

module _ (us : List ℕ) where
  abbrev Names : Kind → ℕ → SqlExpr → Type 0
  Names k n e = names_term_columns us e ≡ true

  each_name : (es : List SqlExpr) → AllByRecursion (λ e. names_term_columns us e ≡ true) es → all_of (λ (b : Bool). b) (map (names_term_columns us) es) ≡ true
  each_name [] h = refl
  each_name (e ∷ es) h = and_from _ _ h.0 (each_name es h.1)

  branches_name : (k : Kind) (n : ℕ) (bs : List Branch) → AllByRecursion (OfBranch Names k n) bs → all_of (λ (b : Bool). b) (map (fold-Branch Bool Bool (columns_step us) branch_columns) bs) ≡ true
  branches_name k n [] h = refl
  branches_name k n (b ∷ bs) h = and_from _ _ (fold_branch (columns_step us) branch_columns b ∙ and_from _ _ h.0.test h.0.value) (branches_name k n bs h.1)

  column_named : (v : ℕ) (column : Name) → has us v ≡ true → is_term_column column ≡ true → (list_any (λ u. bytes_eq (term_alias v) (term_alias u)) us && is_term_column column) ≡ true
  column_named v column h c = and_from _ _ (alias_among us v h) c

  number_named : (o : Option ℤ) → names_term_columns us (number_sql o) ≡ true
  number_named None = fold_null (columns_step us) branch_columns kind.Int
  number_named (Some n) = fold_int (columns_step us) branch_columns n

  pub columns_hold : Closed Names (has us) any_term
  columns_hold = record {
    more = λ k n m e l p. p;
    variables = λ v h. record {
      class = fold_name (columns_step us) branch_columns (term_alias v) class_name ∙ column_named v class_name h refl;
      number = fold_name (columns_step us) branch_columns (term_alias v) number_name ∙ column_named v number_name h refl;
      text = fold_name (columns_step us) branch_columns (term_alias v) text_name ∙ column_named v text_name h refl;
      aux = fold_name (columns_step us) branch_columns (term_alias v) aux_name ∙ column_named v aux_name h refl;
    };
    constants = λ t h. record {
      class = fold_int (columns_step us) branch_columns (pos (class_of t));
      number = number_named (value_of t);
      text = fold_text (columns_step us) branch_columns t.text;
      aux = fold_text (columns_step us) branch_columns t.aux;
    };
    number = λ n h. fold_int (columns_step us) branch_columns (pos n);
    empty_text = fold_text (columns_step us) branch_columns [];
    string_type = fold_text (columns_step us) branch_columns (known_bytes String);
    lang_type = fold_text (columns_step us) branch_columns lang_string;
    truth = λ b. fold_truth (columns_step us) branch_columns b;
    null = λ k. fold_null (columns_step us) branch_columns k;
    equal = λ k n a b p q. fold_equal (columns_step us) branch_columns a b ∙ and_from _ _ p q;
    less = λ k n a b p q. fold_less (columns_step us) branch_columns a b ∙ and_from _ _ p q;
    all = λ n e f es h. fold_all (columns_step us) branch_columns (e ∷ f ∷ es) ∙ each_name (e ∷ f ∷ es) h;
    any = λ n e f es h. fold_any (columns_step us) branch_columns (e ∷ f ∷ es) ∙ each_name (e ∷ f ∷ es) h;
    negation = λ n e p. fold_not (columns_step us) branch_columns e ∙ p;
    is_null = λ k n e p. fold_is_null (columns_step us) branch_columns e ∙ p;
    choice = λ k n b bs last h q. fold_case (columns_step us) branch_columns (b ∷ bs) last ∙ and_from _ _ (branches_name k n (b ∷ bs) h) q;
  }
