-- One text is read in one way, or has one first bad line.
use Rattle.std.specs.Prelude.{◌≡◌, ◌⊎◌, ℕ, List}
use Rattle.table_meaning.specs.Tables.{NamedTable}
use Rattle.table_text_meaning.specs.TableText.{TablesRead, IsFirstBadLine}

-- one list of tables at most is read, with one place of the SQL
abbrev pub OneReading : Type 0
OneReading = (bytes : List ℕ) (a b : List NamedTable) (m n : ℕ) → TablesRead bytes a m → TablesRead bytes b n → (a ≡ b) × (m ≡ n)

-- a text that is read has no first bad line
abbrev pub NeverBoth : Type 0
NeverBoth = (bytes : List ℕ) (tables : List NamedTable) (at line : ℕ) → TablesRead bytes tables at → IsFirstBadLine bytes line → ⊥

-- one line at most is the first bad one
abbrev pub OneBadLine : Type 0
OneBadLine = (bytes : List ℕ) (k l : ℕ) → IsFirstBadLine bytes k → IsFirstBadLine bytes l → k ≡ l

-- each text is read, or has a first bad line
abbrev pub ReadOrBad : Type 0
ReadOrBad = (bytes : List ℕ) → ((tables : List NamedTable) × (at : ℕ) × TablesRead bytes tables at) ⊎ ((line : ℕ) × IsFirstBadLine bytes line)
