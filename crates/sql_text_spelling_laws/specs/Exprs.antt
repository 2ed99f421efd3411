-- The pieces of expressions.
use Rattle.std.specs.Prelude.{Bool, true, false, ◌&&◌, nat_le, List, [], ◌∷◌, ◌++◌, ℕ, ℤ, codes, map, length, Some}
use Rattle.std.specs.Cmp.{first_so, second_so}
use Rattle.std.proofs.Common.{◌≡◌, ◌∙◌, sym, ap, subst, refl, append_assoc}
use Rattle.table_meaning.specs.Names.{is_name}
use Rattle.table_meaning.specs.declared.kind.Kind.{Kind}
use Rattle.table_meaning.specs.declared.kind.Kind.TheVariants as kinds
use Rattle.sql_meaning.specs.Marks.{mark_bytes}
use Rattle.sql_meaning.specs.Canon.{Tokens, the, name_tokens, between, in_brackets, kind_mark, expr_tokens, spaced, gap}
use Rattle.sql_meaning.specs.Canon as canon
use Rattle.sql_meaning.specs.Scripts.{all_of, expr_form, form_step, branch_form}
use Rattle.sql_meaning.specs.Levels.{fold_name, fold_int, fold_text, fold_truth, fold_null, fold_equal, fold_less, fold_all, fold_any, fold_not, fold_is_null, fold_case, fold_first, fold_branch}
use Rattle.sql_meaning.specs.declared.token.Mark.{Mark}
use Rattle.sql_meaning.specs.declared.token.Mark.TheVariants as m
use Rattle.sql_meaning.specs.declared.token.Token.TheVariants as t
use Rattle.sql_meaning.specs.declared.expression.SqlExpr.{SqlExpr}
use Rattle.sql_meaning.specs.declared.expression.SqlExpr.TheVariants as v
use Rattle.sql_meaning.specs.declared.expression.Branch.{Branch, fold-Branch}
use Rattle.sql_text_spelling_laws.specs.Induction.{Each, OfBranch, every_expr}
use Rattle.sql_text_spelling_laws.specs.Pieces.{Bytes, joined, expr_piece, expr_step, branch_step}
use Rattle.sql_text_spelling_laws.specs.Blocks.{Block, Blocks, GoesOn, of_token, word, two, by_word, by_comma, bracketed, called, listed, chained, same_bytes}

-- an expression is spelled by its piece
abbrev pub IsPiece : SqlExpr → Type 0
IsPiece e = expr_form e ≡ true → Block (expr_tokens e) (expr_piece e)

-- by equations for tokens and bytes
made : (e : SqlExpr) (ts : Tokens) (bs : Bytes) → expr_tokens e ≡ ts → expr_piece e ≡ bs → Block ts bs → Block (expr_tokens e) (expr_piece e)
made e ts bs p q b = subst (λ (us : Tokens). Block us (expr_piece e)) (sym p) (subst (λ (cs : Bytes). Block ts cs) (sym q) b)

name_tail : (g a c rest : Bytes) → (g ++ a) ++ (46 ∷ (c ++ rest)) ≡ g ++ ((a ++ (46 ∷ c)) ++ rest)
name_tail g a c rest = append_assoc g a (46 ∷ (c ++ rest)) ∙ ap (λ (z : Bytes). g ++ z) (sym (append_assoc a (46 ∷ c) rest))

dotted : (a c : List ℕ) → is_name a ≡ true → is_name c ≡ true → Block (name_tokens a ++ (the m.Dot ++ name_tokens c)) (a ++ (codes "." ++ c))
dotted a c h k = record { head = t.Name a; end = t.Name c; whole = λ x us. name_tail (gap x (t.Name a)) a c (spaced (Some (t.Name c)) us); front = refl; back = refl; good = rw (h, k) refl }

piece_name : (a c : List ℕ) → IsPiece (v.Name a c)
piece_name a c h =
    let k : (is_name a && is_name c) ≡ true = sym (fold_name form_step branch_form a c) ∙ h in
    made (v.Name a c) _ _ (fold_name canon.expr_step canon.branch_step a c) (fold_name expr_step branch_step a c) (dotted a c (first_so _ _ k) (second_so (is_name a) _ k))

piece_int : (n : ℤ) → IsPiece (v.Int n)
piece_int n h = made (v.Int n) _ _ (fold_int canon.expr_step canon.branch_step n) (fold_int expr_step branch_step n) (of_token (t.Int n) refl refl (sym (fold_int form_step branch_form n) ∙ h))

piece_text : (s : List ℕ) → IsPiece (v.Text s)
piece_text s h = made (v.Text s) _ _ (fold_text canon.expr_step canon.branch_step s) (fold_text expr_step branch_step s) (of_token (t.Text s) refl refl (sym (fold_text form_step branch_form s) ∙ h))

piece_truth : (b : Bool) → IsPiece (v.Truth b)
piece_truth true h = made (v.Truth true) _ _ (fold_truth canon.expr_step canon.branch_step true) (fold_truth expr_step branch_step true) (word m.True refl refl)
piece_truth false h = made (v.Truth false) _ _ (fold_truth canon.expr_step canon.branch_step false) (fold_truth expr_step branch_step false) (word m.False refl refl)

kind_word : (k : Kind) → Block (the (kind_mark k)) (mark_bytes (kind_mark k))
kind_word kinds.Int = word m.Int refl refl
kind_word kinds.Text = word m.Text refl refl
kind_word kinds.Truth = word m.Truth refl refl

piece_null : (k : Kind) → IsPiece (v.Null k)
piece_null k h =
    made (v.Null k) _ _ (fold_null canon.expr_step canon.branch_step k) (fold_null expr_step branch_step k)
    (called m.Cast _ _ refl refl refl (by_word m.As refl refl (the m.Null) (the (kind_mark k)) (mark_bytes m.Null) (mark_bytes (kind_mark k)) (word m.Null refl refl) (kind_word k)))

-- brackets round two parts
pair : (sign : Bytes) (x : Mark) → GoesOn x sign → (ts us : Tokens) (bs cs : Bytes) → Block ts bs → Block us cs → Block (in_brackets (ts ++ (the x ++ us))) (codes "(" ++ (bs ++ (sign ++ (cs ++ codes ")"))))
pair sign x on ts us bs cs b c =
    same_bytes _ _ _ (ap (λ (z : Bytes). 40 ∷ z) (append_assoc bs (sign ++ cs) (41 ∷ []) ∙ ap (λ (z : Bytes). bs ++ z) (append_assoc sign cs (41 ∷ []))))
    (bracketed (ts ++ (the x ++ us)) (bs ++ (sign ++ cs)) (on ts us bs cs b c))

piece_equal : (a b : SqlExpr) → IsPiece a → IsPiece b → IsPiece (v.Equal a b)
piece_equal a b p q h =
    let k : (expr_form a && expr_form b) ≡ true = sym (fold_equal form_step branch_form a b) ∙ h in
    made (v.Equal a b) _ _ (fold_equal canon.expr_step canon.branch_step a b) (fold_equal expr_step branch_step a b)
    (pair (codes " = ") m.Equal (by_word m.Equal refl refl) (expr_tokens a) (expr_tokens b) (expr_piece a) (expr_piece b) (p (first_so _ _ k)) (q (second_so (expr_form a) _ k)))

piece_less : (a b : SqlExpr) → IsPiece a → IsPiece b → IsPiece (v.Less a b)
piece_less a b p q h =
    let k : (expr_form a && expr_form b) ≡ true = sym (fold_less form_step branch_form a b) ∙ h in
    made (v.Less a b) _ _ (fold_less canon.expr_step canon.branch_step a b) (fold_less expr_step branch_step a b)
    (pair (codes " < ") m.Less (by_word m.Less refl refl) (expr_tokens a) (expr_tokens b) (expr_piece a) (expr_piece b) (p (first_so _ _ k)) (q (second_so (expr_form a) _ k)))

parts : (es : List SqlExpr) → all_of (λ b. b) (map expr_form es) ≡ true → Each IsPiece es → Blocks (map expr_tokens es) (map expr_piece es)
parts [] h all = tt
parts (e ∷ es) h all = (all.0 (first_so _ _ h), parts es (second_so (expr_form e) _ h) all.1)

-- at least two parts with a mark between them
list : (es : List SqlExpr) (x : Mark) (separator : Bytes) → GoesOn x separator → (nat_le 2 (length (map expr_form es)) && all_of (λ b. b) (map expr_form es)) ≡ true → Each IsPiece es → Block (between x (map expr_tokens es)) (joined separator (map expr_piece es))
list [] x separator on h all = absurd (let z : false ≡ true = h in cc)
list (e ∷ es) x separator on h all = listed x separator on (expr_tokens e) (expr_piece e) (map expr_tokens es) (map expr_piece es) (parts (e ∷ es) (second_so (nat_le 2 (length (map expr_form (e ∷ es)))) _ h) all)

piece_all : (es : List SqlExpr) → Each IsPiece es → IsPiece (v.All es)
piece_all es all h =
    made (v.All es) _ _ (fold_all canon.expr_step canon.branch_step es) (fold_all expr_step branch_step es)
    (bracketed _ _ (list es m.And (codes " AND ") (by_word m.And refl refl) (sym (fold_all form_step branch_form es) ∙ h) all))

piece_any : (es : List SqlExpr) → Each IsPiece es → IsPiece (v.Any es)
piece_any es all h =
    made (v.Any es) _ _ (fold_any canon.expr_step canon.branch_step es) (fold_any expr_step branch_step es)
    (bracketed _ _ (list es m.Or (codes " OR ") (by_word m.Or refl refl) (sym (fold_any form_step branch_form es) ∙ h) all))

piece_first : (es : List SqlExpr) → Each IsPiece es → IsPiece (v.First es)
piece_first es all h =
    made (v.First es) _ _ (fold_first canon.expr_step canon.branch_step es) (fold_first expr_step branch_step es)
    (called m.Coalesce _ _ refl refl refl (list es m.Comma (codes ", ") by_comma (sym (fold_first form_step branch_form es) ∙ h) all))

piece_not : (a : SqlExpr) → IsPiece a → IsPiece (v.Not a)
piece_not a p h =
    made (v.Not a) _ _ (fold_not canon.expr_step canon.branch_step a) (fold_not expr_step branch_step a)
    (bracketed _ _ (two (the m.Not) (expr_tokens a) (mark_bytes m.Not) (expr_piece a) (word m.Not refl refl) (p (sym (fold_not form_step branch_form a) ∙ h))))

piece_is_null : (a : SqlExpr) → IsPiece a → IsPiece (v.IsNull a)
piece_is_null a p h =
    made (v.IsNull a) _ _ (fold_is_null canon.expr_step canon.branch_step a) (fold_is_null expr_step branch_step a)
    (same_bytes _ _ _ (ap (λ (z : Bytes). 40 ∷ z) (append_assoc (expr_piece a) (codes " IS NULL") (41 ∷ [])))
    (bracketed _ _ (two (expr_tokens a) (the m.Is ++ the m.Null) (expr_piece a) (codes "IS NULL") (p (sym (fold_is_null form_step branch_form a) ∙ h))
    (two (the m.Is) (the m.Null) (mark_bytes m.Is) (mark_bytes m.Null) (word m.Is refl refl) (word m.Null refl refl)))))

branch_block : (b : Branch) → OfBranch IsPiece b → fold-Branch Bool Bool form_step branch_form b ≡ true → Block (fold-Branch Tokens Tokens canon.expr_step canon.branch_step b) (fold-Branch Bytes Bytes expr_step branch_step b)
branch_block b p h =
    let k : (expr_form b.test && expr_form b.value) ≡ true = sym (fold_branch form_step branch_form b) ∙ h in
    let block = two (the m.When) (expr_tokens b.test ++ (the m.Then ++ expr_tokens b.value)) (mark_bytes m.When) (expr_piece b.test ++ (codes " THEN " ++ expr_piece b.value)) (word m.When refl refl)
    (by_word m.Then refl refl (expr_tokens b.test) (expr_tokens b.value) (expr_piece b.test) (expr_piece b.value) (p.0 (first_so _ _ k)) (p.1 (second_so (expr_form b.test) _ k))) in
    subst (λ (us : Tokens). Block us (fold-Branch Bytes Bytes expr_step branch_step b)) (sym (fold_branch canon.expr_step canon.branch_step b))
    (subst (λ (cs : Bytes). Block (the m.When ++ (expr_tokens b.test ++ (the m.Then ++ expr_tokens b.value))) cs) (sym (fold_branch expr_step branch_step b)) block)

branches : (bs : List Branch) → all_of (λ b. b) (map (fold-Branch Bool Bool form_step branch_form) bs) ≡ true → Each (OfBranch IsPiece) bs
    → Blocks (map (fold-Branch Tokens Tokens canon.expr_step canon.branch_step) bs) (map (fold-Branch Bytes Bytes expr_step branch_step) bs)
branches [] h all = tt
branches (b ∷ bs) h all = (branch_block b all.0 (first_so _ _ h), branches bs (second_so (fold-Branch Bool Bool form_step branch_form b) _ h) all.1)

piece_case : (bs : List Branch) (last : SqlExpr) → Each (OfBranch IsPiece) bs → IsPiece last → IsPiece (v.Case bs last)
piece_case bs last all p h =
    let forms : List Bool = map (fold-Branch Bool Bool form_step branch_form) bs in
    let k : (nat_le 1 (length forms) && all_of (λ b. b) forms && expr_form last) ≡ true = sym (fold_case form_step branch_form bs last) ∙ h in
    let front = first_so (nat_le 1 (length forms) && all_of (λ b. b) forms) _ k in
    made (v.Case bs last) _ _ (fold_case canon.expr_step canon.branch_step bs last) (fold_case expr_step branch_step bs last)
    (two _ _ _ _ (chained (the m.Case) (mark_bytes m.Case) _ _ (word m.Case refl refl) (branches bs (second_so (nat_le 1 (length forms)) _ front) all))
    (two (the m.Else) _ (mark_bytes m.Else) _ (word m.Else refl refl)
    (two (expr_tokens last) (the m.End) (expr_piece last) (mark_bytes m.End) (p (second_so (nat_le 1 (length forms) && all_of (λ b. b) forms) _ k)) (word m.End refl refl))))

pub expr_block : (e : SqlExpr) → IsPiece e
expr_block = every_expr IsPiece (record {
  name = piece_name;
  int = piece_int;
  text = piece_text;
  truth = piece_truth;
  null = piece_null;
  equal = piece_equal;
  less = piece_less;
  all = piece_all;
  any = piece_any;
  not = piece_not;
  is_null = piece_is_null;
  case = piece_case;
  first = piece_first;
})
