-- The pieces of expressions by their first level.
use Rattle.std.specs.Prelude.{◌≡◌, Bool, List, [], ◌∷◌, ◌++◌, ℕ, ℤ, codes, map}
use Rattle.std.proofs.Common.{◌∙◌, ap, refl, sym, append_assoc}
use Rattle.table_meaning.specs.declared.kind.Kind.{Kind}
use Rattle.table_meaning.specs.Ints.{int_text}
use Rattle.sql_meaning.specs.Marks.{mark_bytes}
use Rattle.sql_meaning.specs.Canon.{kind_mark}
use Rattle.sql_meaning.specs.Levels.{fold_name, fold_int, fold_text, fold_truth, fold_null, fold_equal, fold_less, fold_all, fold_any, fold_not, fold_is_null, fold_case, fold_first, fold_branch}
use Rattle.sql_meaning.specs.declared.expression.SqlExpr.{SqlExpr}
use Rattle.sql_meaning.specs.declared.expression.SqlExpr.TheVariants as v
use Rattle.sql_meaning.specs.declared.expression.Branch.{Branch, fold-Branch}
use Rattle.sql_text_spelling_laws.specs.Pieces.{Bytes, behind, quoted_text, truth_piece, pair_piece, list_piece, expr_piece, expr_step, branch_step}

abbrev pub branch_piece : Branch → Bytes
branch_piece b = codes " WHEN " ++ (expr_piece b.test ++ (codes " THEN " ++ expr_piece b.value))

pub level_name : (a c : List ℕ) → expr_piece (v.Name a c) ≡ a ++ (codes "." ++ c)
level_name a c = fold_name expr_step branch_step a c

pub level_int : (n : ℤ) → expr_piece (v.Int n) ≡ int_text n
level_int n = fold_int expr_step branch_step n

pub level_text : (s : List ℕ) → expr_piece (v.Text s) ≡ quoted_text s
level_text s = fold_text expr_step branch_step s

pub level_truth : (b : Bool) → expr_piece (v.Truth b) ≡ truth_piece b
level_truth b = fold_truth expr_step branch_step b

pub level_null : (k : Kind) → expr_piece (v.Null k) ≡ codes "CAST(NULL AS " ++ (mark_bytes (kind_mark k) ++ codes ")")
level_null k = fold_null expr_step branch_step k

pub level_equal : (a b : SqlExpr) → expr_piece (v.Equal a b) ≡ pair_piece (expr_piece a) (codes " = ") (expr_piece b)
level_equal a b = fold_equal expr_step branch_step a b

pub level_less : (a b : SqlExpr) → expr_piece (v.Less a b) ≡ pair_piece (expr_piece a) (codes " < ") (expr_piece b)
level_less a b = fold_less expr_step branch_step a b

pub level_all : (es : List SqlExpr) → expr_piece (v.All es) ≡ list_piece (codes "(") (codes " AND ") (map expr_piece es)
level_all es = fold_all expr_step branch_step es

pub level_any : (es : List SqlExpr) → expr_piece (v.Any es) ≡ list_piece (codes "(") (codes " OR ") (map expr_piece es)
level_any es = fold_any expr_step branch_step es

pub level_not : (a : SqlExpr) → expr_piece (v.Not a) ≡ codes "(NOT " ++ (expr_piece a ++ codes ")")
level_not a = fold_not expr_step branch_step a

pub level_is_null : (a : SqlExpr) → expr_piece (v.IsNull a) ≡ codes "(" ++ (expr_piece a ++ codes " IS NULL)")
level_is_null a = fold_is_null expr_step branch_step a

-- the branches of CASE, one behind the other
abbrev pub branches_piece : List Branch → Bytes
branches_piece [] = []
branches_piece (b ∷ bs) = branch_piece b ++ branches_piece bs

branches : (bs : List Branch) → behind (codes " ") (map (fold-Branch Bytes Bytes expr_step branch_step) bs) ≡ branches_piece bs
branches [] = refl
branches (b ∷ bs) = let h = fold_branch expr_step branch_step b in let k = branches bs in ap (λ (z : Bytes). (codes " " ++ z) ++ behind (codes " ") (map (fold-Branch Bytes Bytes expr_step branch_step) bs)) h ∙ ap (λ (z : Bytes). branch_piece b ++ z) k

pub level_case : (bs : List Branch) (a : SqlExpr) → expr_piece (v.Case bs a) ≡ codes "CASE" ++ (branches_piece bs ++ (codes " ELSE " ++ (expr_piece a ++ codes " END")))
level_case bs a = fold_case expr_step branch_step bs a ∙ ap (λ (z : Bytes). codes "CASE" ++ (z ++ (codes " ELSE " ++ (expr_piece a ++ codes " END")))) (branches bs)

pub level_first : (es : List SqlExpr) → expr_piece (v.First es) ≡ list_piece (codes "COALESCE(") (codes ", ") (map expr_piece es)
level_first es = fold_first expr_step branch_step es

pub ruleset piece_levels = (level_name, level_int, level_text, level_truth, level_null, level_equal, level_less, level_all, level_any, level_not, level_is_null, level_case, level_first)

-- CASE with its branches is written, and then the rest
pub case_written : (old mid now : Bytes) (e last : SqlExpr) (bs : List Branch) → e ≡ v.Case bs last → mid ≡ old ++ (codes "CASE" ++ branches_piece bs) → now ≡ mid ++ (codes " ELSE " ++ (expr_piece last ++ codes " END")) → now ≡ old ++ expr_piece e
case_written old mid now e last bs is front rest =
    rest ∙ ap (λ (z : Bytes). z ++ (codes " ELSE " ++ (expr_piece last ++ codes " END"))) front
    ∙ append_assoc old (codes "CASE" ++ branches_piece bs) (codes " ELSE " ++ (expr_piece last ++ codes " END"))
    ∙ ap (λ (z : Bytes). old ++ z) (sym (ap expr_piece is ∙ level_case bs last))
