-- The SELECTs of pairs.
use Rattle.std.proofs.Common.{◌≡◌, ℕ, zero, suc, ◌+◌, ◌<◌, ◌≤◌, ◌^◌, Bool, true, false, if◌then◌else◌, ◌==◌, [], ◌∷◌, ◌++◌, map, refl, arith}
use Rattle.std.proofs.lemmas.Bool.{and_from}
use Rattle.std.specs.List.{AllByRecursion}
use Rattle.bags.specs.BagLaws.{each-append}
use Rattle.table_meaning.specs.Names.{is_name}
use Rattle.sql_meaning.specs.declared.expression.SqlExpr.TheVariants as sql
use Rattle.sql_meaning.specs.Scripts.{total, all_of, is_plain, is_primary, core_refs, body_refs}
use Rattle.sql_gen_step_laws.specs.Carried.{Name}
use Rattle.sql_gen_step_laws.specs.StepSelects.{variable_item}
use Rattle.sql_gen_form_laws.specs.Fits.{ExprFits, CoreFits, BodyFits}
use Rattle.sql_gen_form_laws.proofs.Expressions.{fits-more, name-fits, equal-fits, not-fits, is_null-fits}
use Rattle.sql_gen_form_laws.proofs.Bodies.{plain-bodies}
use Rattle.sql_gen_star_meaning.specs.declared.arm.Asked.{Asked}
use Rattle.sql_gen_star_meaning.specs.declared.arm.Asked.TheVariants.{Constant, Again, New, Maybe}
use Rattle.sql_gen_star_meaning.specs.Asked.{asked_vars}
use Rattle.sql_gen_star_meaning.specs.SideTables.{pred_name, val_name}
use Rattle.sql_gen_star_meaning.specs.StarSelects.{star_alias, where_every, entry_sql, entity_tests, cell_item}
use Rattle.sql_gen_star_meaning.specs.PairSelects.{pred_sql, val_sql, pred_tests, pair_sql, pair_core, pair_cores, pairs_body}
use Rattle.sql_gen_star_form_laws.specs.StarForms.{AskedFits, ColumnFits}
use Rattle.sql_gen_star_form_laws.proofs.StarNames.{pred-name, val-name, star-name}
use Rattle.sql_gen_star_form_laws.proofs.Access.{partial-items, where-fits, vars-below, entry-fits, entities-fit, one-table, one-ref}

pred-fits : (c : ℕ) → ColumnFits c → ExprFits 1 (pred_sql c)
pred-fits c l = name-fits 0 star_alias (pred_name c) star-name (pred-name c l)

preds-fit : (c : ℕ) → ColumnFits c → (a : Asked) → AllByRecursion (ExprFits 3) (pred_tests c a)
preds-fit c l (Constant n) = tt
preds-fit c l (Again v) = (fits-more 2 3 (sql.Equal (pred_sql c) entry_sql) (omega arith) (equal-fits 1 (pred_sql c) entry_sql (pred-fits c l) entry-fits), tt)
preds-fit c l (New v) = (not-fits 2 (sql.IsNull (pred_sql c)) (is_null-fits 1 (pred_sql c) (pred-fits c l)), tt)
preds-fit c l (Maybe v) = tt

pair-sql_fits : (c : ℕ) → ColumnFits c → (a : Asked) (v : ℕ) → ExprFits 4 (pair_sql c a v)
pair-sql_fits c l (Constant n) v = fits-more 1 4 entry_sql (omega arith) entry-fits
pair-sql_fits c l (Again w) v = fits-more 1 4 entry_sql (omega arith) entry-fits
pair-sql_fits c l (New w) v = go (v == w)
  where
    go : (b : Bool) → ExprFits 4 (if b then pred_sql c else entry_sql)
    go true = fits-more 1 4 (pred_sql c) (omega arith) (pred-fits c l)
    go false = fits-more 1 4 entry_sql (omega arith) entry-fits
pair-sql_fits c l (Maybe w) v = fits-more 1 4 entry_sql (omega arith) entry-fits

pair-fits : (primary : Name) → is_name primary ≡ true → (entity predicate : Asked) → AskedFits entity → AskedFits predicate → (c : ℕ) → ColumnFits c → CoreFits 4 (pair_core primary entity predicate c)
pair-fits primary p entity predicate we wp c l =
    let us = asked_vars predicate (asked_vars entity []) in
    one-table primary p (map (variable_item (pair_sql c predicate)) us ++ map (cell_item (val_sql c)) (0 ∷ []))
    (partial-items 3 (pair_sql c predicate) (val_sql c) us (0 ∷ []) (λ v k. pair-sql_fits c l predicate v) (vars-below predicate wp (asked_vars entity []) (vars-below entity we [] tt))
    ((omega arith, name-fits 3 star_alias (val_name c) star-name (val-name c l)), tt))
    (where_every (entity_tests entity ++ pred_tests c predicate)) (where-fits 3 (entity_tests entity ++ pred_tests c predicate) (each-append (ExprFits 3) (entity_tests entity) (pred_tests c predicate) (entities-fit entity we) (preds-fit c l predicate)))

each-fits : (primary : Name) → is_name primary ≡ true → (entity predicate : Asked) → AskedFits entity → AskedFits predicate → (n c : ℕ) → c + n < 2 ^ 64 → AllByRecursion (CoreFits 4) (pair_cores primary entity predicate n c)
each-fits primary p entity predicate we wp zero c l = tt
each-fits primary p entity predicate we wp (suc n) c l = (pair-fits primary p entity predicate we wp c (omega arith), each-fits primary p entity predicate we wp n (suc c) (omega arith))

each-plain : (primary : Name) (entity predicate : Asked) (n c : ℕ) → all_of is_plain (pair_cores primary entity predicate n c) ≡ true
each-plain primary entity predicate zero c = refl
each-plain primary entity predicate (suc n) c = and_from true _ refl (each-plain primary entity predicate n (suc c))

pub pairs-fit : (primary : Name) → is_name primary ≡ true → (entity predicate : Asked) → AskedFits entity → AskedFits predicate → (k : ℕ) → 1 ≤ k → k < 2 ^ 64 → BodyFits 4 (pairs_body primary entity predicate k)
pairs-fit primary p entity predicate we wp zero some few = absurd (omega arith)
pairs-fit primary p entity predicate we wp (suc n) some few =
    plain-bodies 4 (pair_core primary entity predicate 0) (pair_cores primary entity predicate n 1) (each-fits primary p entity predicate we wp (suc n) 0 (omega arith)) (each-plain primary entity predicate (suc n) 0)

refs-from : (primary : Name) → is_primary primary ≡ true → (entity predicate : Asked) (n c : ℕ) → total (map core_refs (pair_cores primary entity predicate n c)) ≡ n
refs-from primary p entity predicate zero c = refl
refs-from primary p entity predicate (suc n) c =
    sum (core_refs (pair_core primary entity predicate c)) (total (map core_refs (pair_cores primary entity predicate n (suc c)))) n (one-ref (is_primary primary) p) (refs-from primary p entity predicate n (suc c))
  where
    sum : (a b n : ℕ) → a ≡ 1 → b ≡ n → a + b ≡ suc n
    sum a b n e f = omega arith

pub pairs-refs : (primary : Name) → is_primary primary ≡ true → (entity predicate : Asked) (k : ℕ) → body_refs (pairs_body primary entity predicate k) ≡ k
pairs-refs primary p entity predicate k = refs-from primary p entity predicate k 0
