-- A further row of the last table.
use Rattle.std.proofs.Common.{◌≡◌, ℕ, zero, suc, ◌+◌, List, [], ◌∷◌, ◌++◌, length, get_or, map, refl, sym, ap, ◌∙◌, arith}
use Rattle.std.specs.Prelude.{Option, Some, None}
use Rattle.std.proofs.Math.ListN.{set}
use Rattle.table_meaning.specs.declared.cell.Cell.{Cell}
use Rattle.table_meaning.specs.Tables.{NamedTable, table_name}
use Rattle.table_text.specs.Reading.{◌>>=◌, before, with_row, with_cells, cells_of, fields_of}

-- the last table with a further row, where its cells are read
abbrev Grown : List NamedTable → ℕ → NamedTable → Option (List Cell) → Option (List NamedTable)
Grown tables n t cells = with_cells t cells >>= (λ new. Some (set tables n new))

past : (t : NamedTable) (tables : List NamedTable) (n : ℕ) (o : Option NamedTable) → before (t ∷ []) (o >>= (λ new. Some (set tables n new))) ≡ (o >>= (λ new. Some (set (t ∷ tables) (suc n) new)))
past t tables n None = refl
past t tables n (Some new) = refl

grown : (tables : List NamedTable) (n : ℕ) (line : List ℕ) (t : NamedTable) → n + 1 ≡ length tables → t ≡ get_or tables n t → with_row tables line ≡ Grown tables n t (cells_of t.schema (fields_of line))
grown [] n line t count is = absurd (omega arith)
grown (u ∷ []) zero line t count is = ap (λ (x : NamedTable). with_cells x (cells_of x.schema (fields_of line)) >>= (λ new. Some (new ∷ []))) (sym is)
grown (u ∷ []) (suc n) line t count is = absurd (omega arith)
grown (u ∷ v ∷ tables) zero line t count is = absurd (omega arith)
grown (u ∷ v ∷ tables) (suc n) line t count is =
    ap (before (u ∷ [])) (grown (v ∷ tables) n line t (omega arith) is) ∙ past u (v ∷ tables) n (with_cells t (cells_of t.schema (fields_of line)))

pub row_some : (tables : List NamedTable) (n : ℕ) (line : List ℕ) (t new : NamedTable) (cells : List Cell) → n + 1 ≡ length tables → t ≡ get_or tables n t → Some cells ≡ cells_of t.schema (fields_of line)
    → new ≡ record { name = t.name; schema = t.schema; rows = t.rows ++ cells ∷ [] } → with_row tables line ≡ Some (set tables n new)
row_some tables n line t new cells count is read as_new = grown tables n line t count is ∙ ap (Grown tables n t) (sym read) ∙ ap (λ (x : NamedTable). Some (set tables n x)) (sym as_new)

pub row_none : (tables : List NamedTable) (n : ℕ) (line : List ℕ) (t : NamedTable) → n + 1 ≡ length tables → t ≡ get_or tables n t → None ≡ cells_of t.schema (fields_of line) → with_row tables line ≡ None
row_none tables n line t count is read = grown tables n line t count is ∙ ap (Grown tables n t) (sym read)

pub names_kept : (tables : List NamedTable) (n : ℕ) (t new : NamedTable) → t ≡ get_or tables n t → new.name ≡ t.name → map table_name (set tables n new) ≡ map table_name tables
names_kept [] n t new is same = refl
names_kept (u ∷ tables) zero t new is same = ap (λ (x : List ℕ). x ∷ map table_name tables) (same ∙ ap table_name is)
names_kept (u ∷ tables) (suc n) t new is same = ap (λ (xs : List (List ℕ)). u.name ∷ xs) (names_kept tables n t new is same)
