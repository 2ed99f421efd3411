-- Where the columns of the terms are seen, each part has its kind.
use Rattle.std.proofs.Common.{◌≡◌, ℕ, ℤ, true, List, [], ◌∷◌, ◌++◌, map, refl, ap, ap₂, ◌∙◌, pos, Option, Some, None}
use Rattle.std.specs.Prelude.{Ok}
use Rattle.std.specs.List.{list_all, AllByRecursion}
use Rattle.rdf_meaning.specs.declared.text.KnownDatatype.TheVariants.{String}
use Rattle.rdf_meaning.specs.Known.{known_bytes}
use Rattle.rdf_value_meaning.specs.Values.{value_of, class_of}
use Rattle.table_meaning.specs.declared.kind.Kind.{Kind}
use Rattle.table_meaning.specs.declared.kind.Kind.TheVariants as kind
use Rattle.sql_meaning.specs.declared.expression.SqlExpr.{SqlExpr}
use Rattle.sql_meaning.specs.declared.expression.Branch.{Branch}
use Rattle.query_eval_meaning.specs.Expressions.{lang_string}
use Rattle.sql_rows_meaning.specs.declared.fault.FaultKind.{FaultKind}
use Rattle.sql_rows_meaning.specs.Faults.{Checked, and_then, all_fine}
use Rattle.sql_rows_meaning.specs.Scopes.{Scope}
use Rattle.sql_rows_meaning.specs.Checks.{KindChecked, BranchKinds, same_kind, check, compared, all_truths, case_kind}
use Rattle.sql_rows_meaning.specs.CheckLaws.{branch_kinds, branch_kinds-is, check-Int, check-Text, check-Truth, check-Null, check-Equal, check-Less, check-All, check-Any, check-Not, check-Case}
use Rattle.sql_gen_step_laws.specs.StepSelects.{has}
use Rattle.sql_gen_term_laws.specs.TermTable.{class_name, number_name, text_name, aux_name, term_alias}
use Rattle.sql_gen_binding_laws.specs.StepColumns.{TermsSeen}
use Rattle.sql_gen_binding_laws.specs.StepBinds.{name_fine, null_fine, tests_fine}
use Rattle.sql_gen_filter_meaning.specs.Columns.{number_sql}
use Rattle.sql_gen_filter_meaning.specs.Leaves.{any_term}
use Rattle.sql_gen_filter_form_laws.proofs.Closed.{OfBranch, Closed}

compared_same : (k : Kind) → compared (Ok k) (Ok k) ≡ Ok kind.Truth
compared_same kind.Int = refl
compared_same kind.Text = refl
compared_same kind.Truth = refl

same_self : (k : Kind) → same_kind k k ≡ true
same_self kind.Int = refl
same_self kind.Text = refl
same_self kind.Truth = refl

abbrev kinds : Kind → BranchKinds
kinds k = record { test = kind.Truth; value = k }

values_same : (k : Kind) (bs : List Branch) → list_all (same_kind k) (map (λ (b : BranchKinds). b.value) (map (λ (b : Branch). kinds k) bs) ++ k ∷ []) ≡ true
values_same k [] = rw (same_self k) refl
values_same k (b ∷ bs) = rw (same_self k) (values_same k bs)

tests_same : (k : Kind) (bs : List Branch) → list_all (same_kind kind.Truth) (map (λ (b : BranchKinds). b.test) (map (λ (b : Branch). kinds k) bs)) ≡ true
tests_same k [] = refl
tests_same k (b ∷ bs) = tests_same k bs

module _ (us : List ℕ) (s : Scope) (seen : TermsSeen us s) where
  abbrev Has : Kind → ℕ → SqlExpr → Type 0
  Has k n e = check e s ≡ Ok k

  branch_fine : (k : Kind) (n : ℕ) (b : Branch) → OfBranch Has k n b → branch_kinds b s ≡ Ok (kinds k)
  branch_fine k n b p = branch_kinds-is b s ∙ ap₂ (λ (c d : KindChecked). and_then c (λ k. and_then d (λ l. Ok (record { test = k; value = l })))) p.test p.value

  branches_fine : (k : Kind) (n : ℕ) (bs : List Branch) → AllByRecursion (OfBranch Has k n) bs → all_fine (map (λ b. branch_kinds b s) bs) ≡ Ok (map (λ (b : Branch). kinds k) bs)
  branches_fine k n [] h = refl
  branches_fine k n (b ∷ bs) h =
      ap₂ (λ (c : Checked FaultKind BranchKinds) (cs : Checked FaultKind (List BranchKinds)). and_then c (λ x. and_then cs (λ xs. Ok (x ∷ xs)))) (branch_fine k n b h.0) (branches_fine k n bs h.1)

  case_fine : (k : Kind) (b : Branch) (bs : List Branch) → case_kind (map (λ (b : Branch). kinds k) (b ∷ bs)) k ≡ Ok k
  case_fine k b bs = rw (tests_same k bs, values_same k bs) refl

  number_fine : (o : Option ℤ) → check (number_sql o) s ≡ Ok kind.Int
  number_fine None = check-Null kind.Int s
  number_fine (Some n) = check-Int n s

  pub kinds_hold : Closed Has (has us) any_term
  kinds_hold = record {
    more = λ k n m e l p. p;
    variables = λ v h. record {
      class = name_fine (term_alias v) class_name s kind.Int (seen v h class_name);
      number = name_fine (term_alias v) number_name s kind.Int (seen v h number_name);
      text = name_fine (term_alias v) text_name s kind.Text (seen v h text_name);
      aux = name_fine (term_alias v) aux_name s kind.Text (seen v h aux_name);
    };
    constants = λ t h. record { class = check-Int (pos (class_of t)) s; number = number_fine (value_of t); text = check-Text t.text s; aux = check-Text t.aux s };
    number = λ n h. check-Int (pos n) s;
    empty_text = check-Text [] s;
    string_type = check-Text (known_bytes String) s;
    lang_type = check-Text lang_string s;
    truth = λ b. check-Truth b s;
    null = λ k. check-Null k s;
    equal = λ k n a b p q. check-Equal a b s ∙ ap₂ compared p q ∙ compared_same k;
    less = λ k n a b p q. check-Less a b s ∙ ap₂ compared p q ∙ compared_same k;
    all = λ n e f es h. check-All (e ∷ f ∷ es) s ∙ tests_fine s (e ∷ f ∷ es) h;
    any = λ n e f es h. check-Any (e ∷ f ∷ es) s ∙ tests_fine s (e ∷ f ∷ es) h;
    negation = λ n e p. check-Not e s ∙ ap (λ (c : KindChecked). and_then c (λ k. all_truths (k ∷ []))) p;
    is_null = λ k n e p. null_fine s e k p;
    choice = λ k n b bs last h q.
        check-Case (b ∷ bs) last s ∙ ap₂ (λ (c : KindChecked) (cs : Checked FaultKind (List BranchKinds)). and_then cs (λ xs. and_then c (case_kind xs))) q (branches_fine k n (b ∷ bs) h)
        ∙ case_fine k b bs;
  }
