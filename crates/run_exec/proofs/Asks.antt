-- What the parts of a text ask for.
use Rattle.std.proofs.Common.{◌≡◌, ℕ, ◌-◌, List, length, take, drop, subst}
use Rattle.std.proofs.lemmas.List.{take_rest}
use Rattle.std.specs.Prelude.{Err}
use Rattle.table_meaning.specs.Tables.{NamedTable}
use Rattle.table_text_meaning.specs.TableText.{TablesRead}
use Rattle.sql_meaning.specs.Texts.{SpellsOnly}
use Rattle.sql_meaning.specs.declared.script.Script.{Script}
use Rattle.sql_text.specs.declared.refusal.SqlRefusal.{SqlRefusal}
use Rattle.sql_text.specs.declared.refusal.SqlRefusal.TheVariants as refusal
use Rattle.sql_text.specs.Refuses as told
use Rattle.sql_text.specs.Refuses.{Refuses}
use Rattle.run_meaning.specs.declared.fault.SqlFault.TheVariants as fault
use Rattle.run_meaning.specs.declared.status.Status.{Status}
use Rattle.run_meaning.specs.declared.status.Status.TheVariants.{BadSql}
use Rattle.run_exec_meaning.specs.Running.{SqlAsks, ScriptAsks, judged_script, reads_script, is_deep, breaks, has_tables}
use Rattle.run_files_meaning.specs.Refusal.{RefusedAs}
use Rattle.run_files_meaning.proofs.Takes.{refused_map}

deep : (sql : List ℕ) → Refuses sql refusal.Deep → (tables : List NamedTable) → SqlAsks tables sql (Err (BadSql fault.Deep))
deep sql (told.is_deep h) tables = is_deep h

broken : (sql : List ℕ) (at : ℕ) → Refuses sql (refusal.Syntax at) → (tables : List NamedTable) → SqlAsks tables sql (Err (BadSql (fault.Syntax at)))
broken sql at (told.breaks_at _ h) tables = breaks at h

-- the end of a text, which has all its bytes from a place on
abbrev end_from : List ℕ → ℕ → List ℕ
end_from text at = take (length text - at) (drop at text)

same_end : (text : List ℕ) (at : ℕ) (r s : SqlRefusal) → Refuses (end_from text at) r → r ≡ s → Refuses (drop at text) s
same_end text at r s h e = subst (λ (x : SqlRefusal). Refuses (drop at text) x) e (subst (λ (bs : List ℕ). Refuses bs r) (take_rest text at) h)

pub deep_asks : (text : List ℕ) (at : ℕ) (r : SqlRefusal) → Refuses (end_from text at) r → r ≡ refusal.Deep → (tables : List NamedTable) → SqlAsks tables (drop at text) (Err (BadSql fault.Deep))
deep_asks text at r h e = deep (drop at text) (same_end text at r refusal.Deep h e)

pub broken_asks : (text : List ℕ) (at place : ℕ) (r : SqlRefusal) → Refuses (end_from text at) r → r ≡ refusal.Syntax place
    → (tables : List NamedTable) → SqlAsks tables (drop at text) (Err (BadSql (fault.Syntax place)))
broken_asks text at place r h e = broken (drop at text) place (same_end text at r (refusal.Syntax place) h e)

pub parts_ask : (text : List ℕ) (tables : List NamedTable) (at : ℕ) (script : Script) → TablesRead text tables at → SpellsOnly (drop at text) script → ScriptAsks text (judged_script tables script)
parts_ask text tables at script r s = has_tables tables at (judged_script tables script) r (reads_script script s)

pub sql_refused : (text : List ℕ) (tables : List NamedTable) (at : ℕ) (status : Status) → TablesRead text tables at
    → RefusedAs status (λ s. (ts : List NamedTable) → SqlAsks ts (drop at text) (Err s)) → RefusedAs status (λ s. ScriptAsks text (Err s))
sql_refused text tables at status r =
    refused_map status (λ s. (ts : List NamedTable) → SqlAsks ts (drop at text) (Err s)) (λ s. ScriptAsks text (Err s)) (λ s a. has_tables tables at (Err s) r (a tables))
