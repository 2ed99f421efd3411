-- A compiled script is its own text read again, binds, and gives its own rows.
use Rattle.std.proofs.Common.{◌≡◌, ℕ, true, List, [], ◌++◌, subst, refl, sym, ap, ◌∙◌}
use Rattle.std.proofs.lemmas.Bool.{and_parts}
use Rattle.std.specs.Prelude.{Option, Some, None, Ok, Err, is_some, nat_le}
use Rattle.table_meaning.specs.Tables.{NamedTable, RowTable}
use Rattle.table_meaning.specs.declared.cell.Cell.{Cell}
use Rattle.table_meaning.specs.declared.schema.Column.{Column}
use Rattle.query_eval_meaning.specs.Answer.{Row}
use Rattle.sql_meaning.specs.declared.script.Script.{Script}
use Rattle.sql_meaning.specs.Scripts.{depth_of, is_writable, most_levels, script_form}
use Rattle.sql_meaning.specs.Texts.{SpellsOnly}
use Rattle.sql_meaning.specs.Canon.{canon}
use Rattle.sql_text.specs.Refuses.{Refuses}
use Rattle.sql_text.specs.declared.refusal.SqlRefusal.TheVariants as sql
use Rattle.sql_text_round_trip_laws.specs.RoundTrip.{canonical_spellings_are_not_refused, canonical_spellings_spell_their_script_only}
use Rattle.sql_rows_meaning.specs.declared.fault.Fault.{Fault}
use Rattle.sql_rows_meaning.specs.Binding.{check_script}
use Rattle.sql_rows_meaning.specs.Scopes.{schemas_in}
use Rattle.sql_rows_meaning.specs.Rows.{script_rows}
use Rattle.sql_gen_answer_meaning.specs.Decode.{decode}
use Rattle.sql_bind.specs.declared.refusal.BindRefusal.{BindRefusal}
use Rattle.sql_bind.specs.Refusals.{fault_of}
use Rattle.run_script.specs.Rows.{AreRowsOf}

-- ---- the text

pub read_same : (s x : Script) (text : List ℕ) → is_writable s ≡ true → text ≡ [] ++ canon s → SpellsOnly text x → x ≡ s
read_same s x text h e k = canonical_spellings_spell_their_script_only s x h (subst (λ (bs : List ℕ). SpellsOnly bs x) e k)

pub never_deep : (s : Script) (text : List ℕ) → is_writable s ≡ true → text ≡ [] ++ canon s → Refuses text sql.Deep → ⊥
never_deep s text h e r = let q : sql.Deep ≡ sql.NoMemory = canonical_spellings_are_not_refused s sql.Deep h (subst (λ (bs : List ℕ). Refuses bs sql.Deep) e r) in cc

pub never_broken : (s : Script) (text : List ℕ) (at : ℕ) → is_writable s ≡ true → text ≡ [] ++ canon s → Refuses text (sql.Syntax at) → ⊥
never_broken s text at h e r = let q : sql.Syntax at ≡ sql.NoMemory = canonical_spellings_are_not_refused s (sql.Syntax at) h (subst (λ (bs : List ℕ). Refuses bs (sql.Syntax at)) e r) in cc

-- ---- binding

-- a script that can be written has the forms of the dialect
pub writable_form : (script : Script) → is_writable script ≡ true → script_form script ≡ true
writable_form script h = (and_parts (nat_le (depth_of script) most_levels) (script_form script) h).1

-- a script that binds has no fault
pub no_fault : (script : Script) (tables : List NamedTable) (columns : List Column) (e : BindRefusal) → check_script script (schemas_in tables) ≡ Ok columns
    → ((f : Fault) → fault_of e ≡ Some f → check_script script (schemas_in tables) ≡ Err f) → fault_of e ≡ None
no_fault script tables columns e binds first = by (fault_of e) refl
  where
    by : (o : Option Fault) → fault_of e ≡ o → fault_of e ≡ None
    by None is = is
    by (Some f) is = let q : Ok columns ≡ Err f = sym binds ∙ first f is in cc

-- the same script binds in the same way
pub same_bound : (script again : Script) (tables : List NamedTable) (columns : List Column) → again ≡ script → check_script script (schemas_in tables) ≡ Ok columns → check_script again (schemas_in tables) ≡ Ok columns
same_bound script again tables columns e h = ap (λ (s : Script). check_script s (schemas_in tables)) e ∙ h

-- ---- rows

pub own_columns : (script : Script) (tables : List NamedTable) (columns : List Column) (rows : RowTable) → check_script script (schemas_in tables) ≡ Ok columns → AreRowsOf script tables rows → rows.schema ≡ columns
own_columns script tables columns rows h are = let q : Ok rows.schema ≡ Ok columns = sym are.bound ∙ h in cc

pub own_rows : (script again : Script) (tables : List NamedTable) (rows : RowTable) → again ≡ script → AreRowsOf again tables rows → is_some (decode (script_rows script tables)) ≡ true → is_some (decode rows.rows) ≡ true
own_rows script again tables rows e are h = ap (λ (rs : List (List Cell)). is_some (decode rs)) are.rows ∙ ap (λ (s : Script). is_some (decode (script_rows s tables))) e ∙ h

pub own_answer : (script again : Script) (tables : List NamedTable) (rows : RowTable) (answer : List Row) → again ≡ script → AreRowsOf again tables rows → decode rows.rows ≡ Some answer → decode (script_rows script tables) ≡ Some answer
own_answer script again tables rows answer e are h = ap (λ (s : Script). decode (script_rows s tables)) (sym e) ∙ ap decode (sym are.rows) ∙ h
