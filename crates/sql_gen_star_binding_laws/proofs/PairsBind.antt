-- The SELECTs of pairs bind.
use Rattle.std.proofs.Common.{◌≡◌, ℕ, zero, suc, ◌+◌, ◌<◌, ◌≤◌, Bool, true, false, if◌then◌else◌, ◌==◌, List, [], ◌∷◌, ◌++◌, Option, Some, None, refl, ap, ◌∙◌, arith}
use Rattle.std.specs.Prelude.{Ok}
use Rattle.std.specs.List.{AllByRecursion}
use Rattle.bags.specs.BagLaws.{each-append}
use Rattle.table_meaning.specs.declared.kind.Kind.TheVariants as kind
use Rattle.table_meaning.specs.declared.schema.Column.{Column}
use Rattle.sql_meaning.specs.declared.expression.SqlExpr.TheVariants as sql
use Rattle.sql_rows_meaning.specs.Faults.{in_select}
use Rattle.sql_rows_meaning.specs.Scopes.{Scope, Schemas, Seen}
use Rattle.sql_rows_meaning.specs.Checks.{check}
use Rattle.sql_rows_meaning.specs.Binding.{check_from, check_like, check_select, check_others, check_body}
use Rattle.layout_standing_meaning.specs.Schemas.{primary_schema}
use Rattle.sql_gen_step_laws.specs.Carried.{Name}
use Rattle.sql_gen_binding_laws.specs.StepColumns.{Once}
use Rattle.sql_gen_binding_laws.specs.StepBinds.{then_fine, equal_fine, null_fine, IsTest}
use Rattle.sql_gen_star_meaning.specs.declared.arm.Asked.{Asked}
use Rattle.sql_gen_star_meaning.specs.declared.arm.Asked.TheVariants.{Constant, Again, New, Maybe}
use Rattle.sql_gen_star_meaning.specs.Asked.{asked_vars, IsPredicate}
use Rattle.sql_gen_star_meaning.specs.StarSelects.{star_alias, entry_sql, entity_tests}
use Rattle.sql_gen_star_meaning.specs.PairSelects.{pred_sql, val_sql, pred_tests, pair_sql, pair_core, pair_cores, pairs_body}
use Rattle.sql_gen_star_binding_laws.specs.StarColumns.{partial_schema}
use Rattle.sql_gen_star_binding_laws.proofs.Parts.{partials_bind, same_self, not_fine, where_fine, asked_once, entity_once}
use Rattle.sql_gen_star_binding_laws.proofs.AccessBinds.{primary_scope, entry_fine, entity_fine, pred_fine, val_fine}

preds_fine : (k c : ℕ) → c < k → (a : Asked) → AllByRecursion (IsTest (primary_scope k)) (pred_tests c a)
preds_fine k c l (Constant n) = tt
preds_fine k c l (Again v) = (equal_fine (primary_scope k) (pred_sql c) entry_sql (pred_fine k c l) (entry_fine k), tt)
preds_fine k c l (New v) = (not_fine (primary_scope k) (sql.IsNull (pred_sql c)) (null_fine (primary_scope k) (pred_sql c) kind.Int (pred_fine k c l)), tt)
preds_fine k c l (Maybe v) = tt

pair-sql_fine : (k c : ℕ) → c < k → (a : Asked) (v : ℕ) → check (pair_sql c a v) (primary_scope k) ≡ Ok kind.Int
pair-sql_fine k c l (Constant n) v = entry_fine k
pair-sql_fine k c l (Again w) v = entry_fine k
pair-sql_fine k c l (New w) v = go (v == w)
  where
    go : (b : Bool) → check (if b then pred_sql c else entry_sql) (primary_scope k) ≡ Ok kind.Int
    go true = pred_fine k c l
    go false = entry_fine k
pair-sql_fine k c l (Maybe w) v = entry_fine k

-- the variables of entity and predicate, each once
pair_vars_once : (entity predicate : Asked) → IsPredicate entity predicate → Once (asked_vars predicate (asked_vars entity []))
pair_vars_once entity (Constant n) ok = absurd ok
pair_vars_once entity (Again v) ok = asked_once (asked_vars entity []) (Again v) (entity_once entity) ok
pair_vars_once entity (New v) ok = asked_once (asked_vars entity []) (New v) (entity_once entity) ok
pair_vars_once entity (Maybe v) ok = absurd ok

abbrev pair_schema : Asked → Asked → List Column
pair_schema entity predicate = partial_schema (asked_vars predicate (asked_vars entity [])) (0 ∷ [])

pair_fine : (schemas : Schemas) (first : Option (List Column)) (primary : Name) (k : ℕ) → schemas primary ≡ Some (primary_schema k) → (entity predicate : Asked) → IsPredicate entity predicate → (c : ℕ) → c < k →
    check_like first (pair_schema entity predicate) ≡ Ok (pair_schema entity predicate) → check_select schemas first (pair_core primary entity predicate c) ≡ Ok (pair_schema entity predicate)
pair_fine schemas first primary k hp entity predicate ok c l like =
    let s : Scope = primary_scope k in
    let us = asked_vars predicate (asked_vars entity []) in
    let start : Seen = record { aliases = star_alias ∷ []; scope = s } in
    let from : check_from schemas (Some (record { table = primary; alias = star_alias })) ≡ Ok start = rw hp refl in
    let items = partials_bind s (pair_sql c predicate) (val_sql c) us (0 ∷ []) (λ u h. pair-sql_fine k c l predicate u) (λ i h. val_fine k c l) (pair_vars_once entity predicate ok) (refl, tt) in
    let test = where_fine s (entity_tests entity ++ pred_tests c predicate) (each-append (IsTest s) (entity_tests entity) (pred_tests c predicate) (entity_fine k entity) (preds_fine k c l predicate)) in
    rw from (rw items (rw like (rw test refl)))

others_fine : (schemas : Schemas) (m : ℕ) (primary : Name) (k : ℕ) → schemas primary ≡ Some (primary_schema k) → (entity predicate : Asked) → IsPredicate entity predicate → (n c : ℕ) → c + n ≤ k →
    check_others schemas m (pair_schema entity predicate) (pair_cores primary entity predicate n c) ≡ Ok (pair_schema entity predicate)
others_fine schemas m primary k hp entity predicate ok zero c l = refl
others_fine schemas m primary k hp entity predicate ok (suc n) c l =
    let cs = pair_schema entity predicate in
    let like : check_like (Some cs) cs ≡ Ok cs = rw (same_self cs) refl in
    then_fine (in_select m (check_select schemas (Some cs) (pair_core primary entity predicate c))) cs (λ _. check_others schemas (m + 1) cs (pair_cores primary entity predicate n (suc c)))
    (ap (in_select m) (pair_fine schemas (Some cs) primary k hp entity predicate ok c (omega arith) like))
    ∙ others_fine schemas (m + 1) primary k hp entity predicate ok n (suc c) (omega arith)

pub pairs_fine : (schemas : Schemas) (m : ℕ) (primary : Name) (k : ℕ) → 0 < k → schemas primary ≡ Some (primary_schema k) → (entity predicate : Asked) → IsPredicate entity predicate →
    check_body schemas m (pairs_body primary entity predicate k).cores ≡ Ok (partial_schema (asked_vars predicate (asked_vars entity [])) (0 ∷ []))
pairs_fine schemas m primary zero some hp entity predicate ok = absurd (omega arith)
pairs_fine schemas m primary (suc n) some hp entity predicate ok =
    let cs = pair_schema entity predicate in
    then_fine (in_select m (check_select schemas None (pair_core primary entity predicate 0))) cs (λ first. check_others schemas (m + 1) first (pair_cores primary entity predicate n 1))
    (ap (in_select m) (pair_fine schemas None primary (suc n) hp entity predicate ok 0 (omega arith) refl))
    ∙ others_fine schemas (m + 1) primary (suc n) hp entity predicate ok n 1 (omega arith)
