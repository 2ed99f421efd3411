-- Where the SQL begins.
use Rattle.std.specs.Prelude.{◌≡◌, ℕ, ◌≤◌, List, length, take}
use Rattle.std.proofs.Common.{ap, ◌∙◌, sym, arith}
use Rattle.std.proofs.lemmas.List.{length-take}
use Rattle.table_meaning.specs.Tables.{NamedTable}
use Rattle.table_text_meaning.specs.TableText.{TablesRead}

-- no further than the text goes
pub sql_within : (bytes : List ℕ) (tables : List NamedTable) (at : ℕ) → TablesRead bytes tables at → at ≤ length bytes
sql_within bytes tables at r =
    let whole : length (take at bytes) ≡ at = ap (λ (bs : List ℕ). length bs) r.text ∙ sym r.place in
    let taken = length-take at bytes in
    omega arith
