-- What is written is the canonical spelling.
use Rattle.std.specs.Prelude.{◌≡◌, IsTrue, nat_le, List, ℕ, ◌++◌, drop, length}
use Rattle.std.proofs.Common.{◌∙◌, ap, sym, subst}
use Rattle.std.proofs.Math.Seq.{drop-append_seam}
use Rattle.std.specs.Cmp.{second_so}
use Rattle.sql_meaning.specs.Canon.{canon}
use Rattle.sql_meaning.specs.Scripts.{is_writable, depth_of, most_levels}
use Rattle.sql_meaning.specs.declared.script.Script.{Script}
use Rattle.sql_meaning.specs.Texts.{Spells}
use Rattle.sql_text_spelling_laws.specs.Pieces.{script_piece}
use Rattle.sql_text_spelling_laws.specs.Scripts.{pieces_are_canonical}
use Rattle.sql_text_spelling_laws.specs.Spelled.{writable_scripts_are_spelled}

pub written : (s : Script) → IsTrue (is_writable s) → canon s ≡ script_piece s
written s h = pieces_are_canonical s (second_so (nat_le (depth_of s) most_levels) _ h)

-- what stands behind the old text spells the script
pub spelled_behind : (old now : List ℕ) (s : Script) → IsTrue (is_writable s) → now ≡ old ++ canon s → Spells (drop (length old) now) s
spelled_behind old now s h e =
    subst (λ (z : List ℕ). Spells z s) (sym (ap (λ (z : List ℕ). drop (length old) z) e ∙ drop-append_seam old (canon s))) (writable_scripts_are_spelled s h)
