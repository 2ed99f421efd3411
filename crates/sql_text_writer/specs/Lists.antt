-- Pieces with something between them, while they are written.
use Rattle.std.specs.Prelude.{◌≡◌, List, [], ◌∷◌, ◌++◌, codes, map}
use Rattle.std.proofs.Common.{◌∙◌, ap, refl, append_assoc, sym}
use Rattle.sql_meaning.specs.declared.script.SqlKey.{SqlKey}
use Rattle.sql_text_spelling_laws.specs.Pieces.{Bytes, behind, joined, key_piece, order_piece}

-- what is left to write, where this stands before the next piece
abbrev pub left_of : Bytes → Bytes → List Bytes → Bytes
left_of before separator [] = []
left_of before separator (piece ∷ pieces) = before ++ (piece ++ left_of separator separator pieces)

left_behind : (separator : Bytes) (pieces : List Bytes) → left_of separator separator pieces ≡ behind separator pieces
left_behind separator [] = refl
left_behind separator (piece ∷ pieces) = ap (λ (z : Bytes). separator ++ (piece ++ z)) (left_behind separator pieces) ∙ sym (append_assoc separator piece (behind separator pieces))

-- before the first piece nothing stands
pub left_at_first : (separator : Bytes) (pieces : List Bytes) → joined separator pieces ≡ left_of [] separator pieces
left_at_first separator [] = refl
left_at_first separator (piece ∷ pieces) = ap (λ (z : Bytes). piece ++ z) (sym (left_behind separator pieces))

-- the same of keys
pub keys_at_first : (ks : List SqlKey) → order_piece ks ≡ left_of (codes " ORDER BY ") (codes ", ") (map key_piece ks)
keys_at_first [] = refl
keys_at_first (k ∷ ks) = ap (λ (z : Bytes). codes " ORDER BY " ++ (key_piece k ++ z)) (sym (left_behind (codes ", ") (map key_piece ks)))
