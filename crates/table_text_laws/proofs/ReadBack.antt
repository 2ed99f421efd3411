-- The text of tables is read as they are, by the laws that a text spells one list of tables at most, and that a text which is read has no
-- first bad line.
use Rattle.std.proofs.Common.{ℕ, List, ◌++◌, ◌≡◌, length, ap, inl, inr, refl}
use Rattle.std.specs.Prelude.{Ok, Err}
use Rattle.std.proofs.Math.Seq.{take-append_seam}
use Rattle.table_meaning.specs.Tables.{NamedTable}
use Rattle.table_text_meaning.specs.declared.version.Version.TheVariants.{Second}
use Rattle.table_text.specs.Laws.{OneReading, NeverBoth}
use Rattle.table_text.specs.declared.refusal.TableRefusal.TheVariants.{NoMemory, Bad}
use Rattle.table_text.specs.declared.tables.ReadTables.{ReadTables}
use Rattle.table_text_laws.specs.RoundTrip.{whole_text, WrittenTablesAreRead, WrittenTablesAreReadBack}

pub read_as_written : WrittenTablesAreRead
read_as_written tables sql set = record { version = Second; written = tables; spelled = set; place = refl; text = take-append_seam (whole_text tables) sql; meant = refl }

same_read : (a : ReadTables) (tables : List NamedTable) (at : ℕ) → a.tables ≡ tables → a.sql_at ≡ at → a ≡ record { tables = tables; sql_at = at }
same_read a tables at h k = λ i. record { tables = h i; sql_at = k i }

pub read_back : OneReading → NeverBoth → WrittenTablesAreReadBack
read_back one apart tables sql (Ok read) set good bad =
    let same = one (whole_text tables ++ sql) read.tables tables read.sql_at (length (whole_text tables)) good (read_as_written tables sql set) in
    inl (ap Ok (same_read read tables (length (whole_text tables)) same.0 same.1))
read_back one apart tables sql (Err NoMemory) set good bad = inr refl
read_back one apart tables sql (Err (Bad line)) set good bad = absurd (apart (whole_text tables ++ sql) tables (length (whole_text tables)) line (read_as_written tables sql set) (bad line refl))
