-- The tokens of a script read as the script.
use Rattle.std.specs.Prelude.{Bool, true, false, if◌then◌else◌, ◌&&◌, nat_le, List, [], ◌∷◌, ◌++◌, ℕ, ℤ, ◌+◌, max, length, map, IsTrue}
use Rattle.std.specs.Cmp.{first_so, second_so}
use Rattle.std.proofs.Common.{◌≡◌, ◌∙◌, sym, ap, subst, refl, append_assoc}
use Rattle.std.proofs.lemmas.Bool.{false≢true}
use Rattle.table_meaning.specs.declared.kind.Kind.{Kind as ColumnKind}
use Rattle.table_meaning.specs.declared.kind.Kind.TheVariants as column
use Rattle.grammar_meaning.specs.Grammar.{one, call, ◌⨾◌, ◌∣◌, many, Pair}
use Rattle.sql_meaning.specs.Kinds.{a_mark, a_name, a_count, an_int, a_text, kind, is, is_count, among}
use Rattle.sql_meaning.specs.Grammar.{Expr, Simple, NullOf, Inner, More, Cases, Branches, OneBranch, Firsts}
use Rattle.sql_meaning.specs.Grammar.{mark, name, separator_mark, forms, rule, limited, an_expr, expr_list, a_branch, branch_list, Parsed, build, parts_in, branches_in, compared, constant, token_kind}
use Rattle.sql_meaning.specs.Canon.{Tokens, the, name_tokens, each_behind, all_tokens, in_brackets, kind_mark, expr_tokens}
use Rattle.sql_meaning.specs.Canon as canon
use Rattle.sql_meaning.specs.Scripts.{all_of, expr_form, form_step, branch_form, expr_depth, depth_step, branch_depth, largest}
use Rattle.sql_meaning.specs.Levels.{fold_name, fold_int, fold_text, fold_truth, fold_null, fold_equal, fold_less, fold_all, fold_any, fold_not, fold_is_null, fold_case, fold_first, fold_branch}
use Rattle.sql_meaning.specs.declared.token.Mark.{Mark}
use Rattle.sql_meaning.specs.declared.token.Mark.TheVariants as m
use Rattle.sql_meaning.specs.declared.token.Separator.{Separator}
use Rattle.sql_meaning.specs.declared.token.Separator.TheVariants as sep
use Rattle.sql_meaning.specs.declared.token.Token.{Token}
use Rattle.sql_meaning.specs.declared.token.Token.TheVariants as t
use Rattle.sql_meaning.specs.declared.expression.SqlExpr.{SqlExpr}
use Rattle.sql_meaning.specs.declared.expression.SqlExpr.TheVariants as v
use Rattle.sql_meaning.specs.declared.expression.Branch.{Branch, fold-Branch}
use Rattle.sql_text_spelling_laws.specs.Induction.{Each, OfBranch, every_expr}
use Rattle.sql_text_spelling_laws.specs.Fits.{Fits, fits_left, fits_right, fits_inside, fits_here}
use Rattle.sql_text_spelling_laws.specs.Gives.{Gives, Both, both, IsLeaf, is_leaf, IsMade, is_made, on_tokens, gives_one, ◌then◌, gives_left, gives_right, gives_call, gives_many, Collects}

-- an expression of the right form is read from its tokens, inside so many others that its parts are within the levels
abbrev pub IsRead : SqlExpr → Type 0
IsRead e = expr_form e ≡ true → (n : ℕ) → Fits n (expr_depth e) → Gives (call (Expr n)) (IsMade (an_expr e)) (expr_tokens e)

pub gives_mark : (x : Mark) → IsTrue (is (a_mark x) (a_mark x)) → Gives (mark x) (IsLeaf (t.Mark x)) (the x)
gives_mark x h = gives_one (is (a_mark x)) (t.Mark x) h

pub gives_name : (s : List ℕ) → Gives name (IsLeaf (t.Name s)) (name_tokens s)
gives_name s = gives_one (is a_name) (t.Name s) refl

-- an expression of one of the forms
formed : (e : SqlExpr) (n : ℕ) (ts : Tokens) {P : Parsed → Type 0} → Fits n (expr_depth e) → expr_tokens e ≡ ts → ((x : Parsed) → P x → build (Expr n) x ≡ an_expr e) → Gives (forms (n + 1)) P ts → Gives (call (Expr n)) (IsMade (an_expr e)) (expr_tokens e)
formed e n ts {P} fits same made g = on_tokens (sym same) (gives_call (Expr n) (an_expr e) made (by (limited n) (fits_here n e fits)))
  where
    by : (b : Bool) → b ≡ true → Gives (if b then forms (n + 1) else one (λ k. false)) P ts
    by true h = g
    by false h = absurd (false≢true h)

same_tree : (n : ℕ) {e : SqlExpr} {x : Parsed} → IsMade (an_expr e) x → build (Expr n) x ≡ an_expr e
same_tree n is_made = refl

-- a leaf but for nulls
simple : (e : SqlExpr) (n : ℕ) (ts : Tokens) {P : Parsed → Type 0} → Fits n (expr_depth e) → expr_tokens e ≡ ts → ((x : Parsed) → P x → build Simple x ≡ an_expr e) → Gives (rule limited Simple) P ts → Gives (call (Expr n)) (IsMade (an_expr e)) (expr_tokens e)
simple e n ts fits same made g = formed e n ts fits same (λ x p. same_tree n p) (gives_left (gives_call Simple (an_expr e) made g))

name_built : {a c : List ℕ} {x : Parsed} → Both (IsLeaf (t.Name a)) (Both (IsLeaf (t.Mark m.Dot)) (IsLeaf (t.Name c))) x → build Simple x ≡ an_expr (v.Name a c)
name_built (both (is_leaf h) (both (is_leaf d) (is_leaf k))) = rw (h, k) refl

constant_built : {y : Token} {e : SqlExpr} {x : Parsed} → constant y ≡ e → IsLeaf y x → build Simple x ≡ an_expr e
constant_built c (is_leaf h) = ap (λ z. an_expr (constant z)) h ∙ ap an_expr c

read_name : (a c : List ℕ) → IsRead (v.Name a c)
read_name a c h n fits = simple (v.Name a c) n _ fits (fold_name canon.expr_step canon.branch_step a c) (λ x p. name_built p) (gives_left (gives_name a then gives_mark m.Dot refl then gives_name c))

number_kind : (n : ℤ) → IsTrue (among (a_count ∷ an_int ∷ []) (kind (t.Int n)))
number_kind n = by (is_count n) refl
  where
    by : (b : Bool) → is_count n ≡ b → IsTrue (among (a_count ∷ an_int ∷ []) (kind (t.Int n)))
    by true e = rw e refl
    by false e = rw e refl

read_int : (i : ℤ) → IsRead (v.Int i)
read_int i h n fits = simple (v.Int i) n _ fits (fold_int canon.expr_step canon.branch_step i) (λ x p. constant_built refl p) (gives_right (gives_left (gives_one (among (a_count ∷ an_int ∷ [])) (t.Int i) (number_kind i))))

read_text : (s : List ℕ) → IsRead (v.Text s)
read_text s h n fits = simple (v.Text s) n _ fits (fold_text canon.expr_step canon.branch_step s) (λ x p. constant_built refl p) (gives_right (gives_right (gives_left (gives_one (is a_text) (t.Text s) refl))))

read_truth : (b : Bool) → IsRead (v.Truth b)
read_truth true h n fits = simple (v.Truth true) n _ fits (fold_truth canon.expr_step canon.branch_step true) (λ x p. constant_built refl p) (gives_right (gives_right (gives_right (gives_left (gives_mark m.True refl)))))
read_truth false h n fits = simple (v.Truth false) n _ fits (fold_truth canon.expr_step canon.branch_step false) (λ x p. constant_built refl p) (gives_right (gives_right (gives_right (gives_right (gives_mark m.False refl)))))

kind_given : (k : ColumnKind) → Gives (mark m.Int ∣ (mark m.Text ∣ mark m.Truth)) (IsLeaf (t.Mark (kind_mark k))) (the (kind_mark k))
kind_given column.Int = gives_left (gives_mark m.Int refl)
kind_given column.Text = gives_right (gives_left (gives_mark m.Text refl))
kind_given column.Truth = gives_right (gives_right (gives_mark m.Truth refl))

kind_back : (k : ColumnKind) → token_kind (t.Mark (kind_mark k)) ≡ k
kind_back column.Int = refl
kind_back column.Text = refl
kind_back column.Truth = refl

null_built : {k : ColumnKind} {x : Parsed} → Both (IsLeaf (t.Mark m.Cast)) (Both (IsLeaf (t.Mark m.Open)) (Both (IsLeaf (t.Mark m.Null)) (Both (IsLeaf (t.Mark m.As)) (Both (IsLeaf (t.Mark (kind_mark k))) (IsLeaf (t.Mark m.Close)))))) x → build NullOf x ≡ an_expr (v.Null k)
null_built {k} (both c (both o (both n (both a (both (is_leaf h) b))))) = ap (λ z. an_expr (v.Null (token_kind z))) h ∙ ap (λ z. an_expr (v.Null z)) (kind_back k)

read_null : (k : ColumnKind) → IsRead (v.Null k)
read_null k h n fits =
    formed (v.Null k) n _ fits (fold_null canon.expr_step canon.branch_step k) (λ x p. same_tree n p)
    (gives_right (gives_left (gives_call NullOf (an_expr (v.Null k)) (λ x p. null_built p)
    (gives_mark m.Cast refl then gives_mark m.Open refl then gives_mark m.Null refl then gives_mark m.As refl then kind_given k then gives_mark m.Close refl))))

-- what stands in brackets

abbrev Bracketed : SqlExpr → Parsed → Type 0
Bracketed e = Both (IsLeaf (t.Mark m.Open)) (Both (IsMade (an_expr e)) (IsLeaf (t.Mark m.Close)))

bracket_built : (n : ℕ) {e : SqlExpr} {x : Parsed} → Bracketed e x → build (Expr n) x ≡ an_expr e
bracket_built n (both (is_leaf o) (both is_made (is_leaf c))) = refl

in_bracket : (e : SqlExpr) (n : ℕ) (ts : Tokens) {P : Parsed → Type 0} → Fits n (expr_depth e) → expr_tokens e ≡ in_brackets ts → ((x : Parsed) → P x → build (Inner (n + 1)) x ≡ an_expr e) → Gives (rule limited (Inner (n + 1))) P ts → Gives (call (Expr n)) (IsMade (an_expr e)) (expr_tokens e)
in_bracket e n ts fits same made g =
    formed e n _ fits same (λ x p. bracket_built n p) (gives_right (gives_right (gives_left (gives_mark m.Open refl then gives_call (Inner (n + 1)) (an_expr e) made g then gives_mark m.Close refl))))

equal_built : (n : ℕ) {a b : SqlExpr} {x : Parsed} → Both (IsMade (an_expr a)) (Both (IsLeaf (t.Mark m.Equal)) (IsMade (an_expr b))) x → build (Inner n) x ≡ an_expr (v.Equal a b)
equal_built n {a} {b} (both is_made (both (is_leaf o) is_made)) = ap (λ z. an_expr (compared z a b)) o

less_built : (n : ℕ) {a b : SqlExpr} {x : Parsed} → Both (IsMade (an_expr a)) (Both (IsLeaf (t.Mark m.Less)) (IsMade (an_expr b))) x → build (Inner n) x ≡ an_expr (v.Less a b)
less_built n {a} {b} (both is_made (both (is_leaf o) is_made)) = ap (λ z. an_expr (compared z a b)) o

read_equal : (a b : SqlExpr) → IsRead a → IsRead b → IsRead (v.Equal a b)
read_equal a b p q h n fits =
    let k : (expr_form a && expr_form b) ≡ true = sym (fold_equal form_step branch_form a b) ∙ h in
    let inside = fits_inside n _ _ (fold_equal depth_step branch_depth a b) fits in
    in_bracket (v.Equal a b) n _ fits (fold_equal canon.expr_step canon.branch_step a b) (λ x r. equal_built (n + 1) r)
    (gives_right (p (first_so _ _ k) (n + 1) (fits_left (n + 1) (expr_depth a) (expr_depth b) inside) then gives_left (gives_mark m.Equal refl then q (second_so (expr_form a) _ k) (n + 1) (fits_right (n + 1) (expr_depth a) (expr_depth b) inside))))

read_less : (a b : SqlExpr) → IsRead a → IsRead b → IsRead (v.Less a b)
read_less a b p q h n fits =
    let k : (expr_form a && expr_form b) ≡ true = sym (fold_less form_step branch_form a b) ∙ h in
    let inside = fits_inside n _ _ (fold_less depth_step branch_depth a b) fits in
    in_bracket (v.Less a b) n _ fits (fold_less canon.expr_step canon.branch_step a b) (λ x r. less_built (n + 1) r)
    (gives_right (p (first_so _ _ k) (n + 1) (fits_left (n + 1) (expr_depth a) (expr_depth b) inside) then gives_right (gives_left (gives_mark m.Less refl then q (second_so (expr_form a) _ k) (n + 1) (fits_right (n + 1) (expr_depth a) (expr_depth b) inside)))))

not_built : (n : ℕ) {a : SqlExpr} {x : Parsed} → Both (IsLeaf (t.Mark m.Not)) (IsMade (an_expr a)) x → build (Inner n) x ≡ an_expr (v.Not a)
not_built n (both (is_leaf o) is_made) = refl

read_not : (a : SqlExpr) → IsRead a → IsRead (v.Not a)
read_not a p h n fits =
    in_bracket (v.Not a) n _ fits (fold_not canon.expr_step canon.branch_step a) (λ x r. not_built (n + 1) r) (gives_left (gives_mark m.Not refl then p (sym (fold_not form_step branch_form a) ∙ h) (n + 1) (fits_inside n _ _ (fold_not depth_step branch_depth a) fits)))

is_null_built : (n : ℕ) {a : SqlExpr} {x : Parsed} → Both (IsMade (an_expr a)) (Both (IsLeaf (t.Mark m.Is)) (IsLeaf (t.Mark m.Null))) x → build (Inner n) x ≡ an_expr (v.IsNull a)
is_null_built n (both is_made (both (is_leaf o) (is_leaf k))) = refl

read_is_null : (a : SqlExpr) → IsRead a → IsRead (v.IsNull a)
read_is_null a p h n fits =
    in_bracket (v.IsNull a) n _ fits (fold_is_null canon.expr_step canon.branch_step a) (λ x r. is_null_built (n + 1) r)
    (gives_right (p (sym (fold_is_null form_step branch_form a) ∙ h) (n + 1) (fits_inside n _ _ (fold_is_null depth_step branch_depth a) fits) then gives_right (gives_right (gives_right (gives_right (gives_mark m.Is refl then gives_mark m.Null refl))))))

-- lists

-- each behind a mark
pub behind_mark : {A : Type 0} (x : Mark) (written : A → Tokens) (xs : List A) → all_tokens (map (λ y. the x ++ written y) xs) ≡ each_behind x (map written xs)
behind_mark x written [] = refl
behind_mark x written (y ∷ ys) = ap (λ (z : Tokens). (the x ++ written y) ++ z) (behind_mark x written ys)

abbrev Behind : Mark → SqlExpr → Parsed → Type 0
Behind x e = Both (IsLeaf (t.Mark x)) (IsMade (an_expr e))

parts_collect : (x : Mark) → Collects parts_in (Behind x)
parts_collect x = record { none = refl; some = some }
  where
    some : (e : SqlExpr) (es : List SqlExpr) (n k : Parsed) → Behind x e n → parts_in k ≡ es → parts_in (Pair n k) ≡ e ∷ es
    some e es n k (both (is_leaf o) is_made) r = ap (λ z. e ∷ z) r

each_part : (x : Mark) → IsTrue (is (a_mark x) (a_mark x)) → (n : ℕ) (es : List SqlExpr) → all_of (λ b. b) (map expr_form es) ≡ true → Fits n (largest (map expr_depth es)) → Each IsRead es
    → Each (λ e. Gives (mark x ⨾ call (Expr n)) (Behind x e) (the x ++ expr_tokens e)) es
each_part x same n [] h fits all = tt
each_part x same n (e ∷ es) h fits all =
    let more : ℕ = largest (map expr_depth es) in
    (gives_mark x same then all.0 (first_so _ _ h) n (fits_left n (expr_depth e) more fits), each_part x same n es (second_so (expr_form e) _ h) (fits_right n (expr_depth e) more fits) all.1)

more_parts : (x : Mark) → IsTrue (is (a_mark x) (a_mark x)) → (n : ℕ) (es : List SqlExpr) → all_of (λ b. b) (map expr_form es) ≡ true → Fits n (largest (map expr_depth es)) → Each IsRead es
    → Gives (many (mark x ⨾ call (Expr n))) (λ k. parts_in k ≡ es) (each_behind x (map expr_tokens es))
more_parts x same n es h fits all = on_tokens (behind_mark x expr_tokens es) (gives_many (λ e. the x ++ expr_tokens e) parts_in (Behind x) (parts_collect x) es (each_part x same n es h fits all))

more_built : (s : Separator) (n : ℕ) {y : Token} {e : SqlExpr} {es : List SqlExpr} {x : Parsed} → Both (IsLeaf y) (Both (IsMade (an_expr e)) (λ k. parts_in k ≡ es)) x → build (More s n) x ≡ expr_list s (e ∷ es)
more_built s n {e = e} (both (is_leaf o) (both is_made r)) = ap (λ z. expr_list s (e ∷ z)) r

-- all parts behind the first
read_more : (s : Separator) → IsTrue (is (a_mark (separator_mark s)) (a_mark (separator_mark s))) → (n : ℕ) (e : SqlExpr) (es : List SqlExpr) → all_of (λ b. b) (map expr_form (e ∷ es)) ≡ true → Fits n (largest (map expr_depth (e ∷ es))) → Each IsRead (e ∷ es)
    → Gives (call (More s n)) (IsMade (expr_list s (e ∷ es))) (each_behind (separator_mark s) (map expr_tokens (e ∷ es)))
read_more s same n e es h fits all =
    let more : ℕ = largest (map expr_depth es) in
    gives_call (More s n) (expr_list s (e ∷ es)) (λ x r. more_built s n r)
    (gives_mark (separator_mark s) same then all.0 (first_so _ _ h) n (fits_left n (expr_depth e) more fits) then more_parts (separator_mark s) same n es (second_so (expr_form e) _ h) (fits_right n (expr_depth e) more fits) all.1)

all_built : (n : ℕ) {e : SqlExpr} {es : List SqlExpr} {x : Parsed} → Both (IsMade (an_expr e)) (IsMade (expr_list sep.And es)) x → build (Inner n) x ≡ an_expr (v.All (e ∷ es))
all_built n (both is_made is_made) = refl

any_built : (n : ℕ) {e : SqlExpr} {es : List SqlExpr} {x : Parsed} → Both (IsMade (an_expr e)) (IsMade (expr_list sep.Or es)) x → build (Inner n) x ≡ an_expr (v.Any (e ∷ es))
any_built n (both is_made is_made) = refl

read_all : (es : List SqlExpr) → Each IsRead es → IsRead (v.All es)
read_all [] all h n fits = absurd (false≢true (sym (fold_all form_step branch_form []) ∙ h))
read_all (e ∷ []) all h n fits = absurd (false≢true (sym (fold_all form_step branch_form (e ∷ [])) ∙ h))
read_all (e ∷ d ∷ es) all h n fits =
    let inside = fits_inside n _ _ (fold_all depth_step branch_depth (e ∷ d ∷ es)) fits in
    let more : ℕ = largest (map expr_depth (d ∷ es)) in
    let k : all_of (λ b. b) (map expr_form (e ∷ d ∷ es)) ≡ true = second_so (nat_le 2 (length (map expr_form (e ∷ d ∷ es)))) _ (sym (fold_all form_step branch_form (e ∷ d ∷ es)) ∙ h) in
    in_bracket (v.All (e ∷ d ∷ es)) n _ fits (fold_all canon.expr_step canon.branch_step (e ∷ d ∷ es)) (λ x r. all_built (n + 1) r)
    (gives_right (all.0 (first_so _ _ k) (n + 1) (fits_left (n + 1) (expr_depth e) more inside) then gives_right (gives_right (gives_left (read_more sep.And refl (n + 1) d es (second_so (expr_form e) _ k) (fits_right (n + 1) (expr_depth e) more inside) all.1)))))

read_any : (es : List SqlExpr) → Each IsRead es → IsRead (v.Any es)
read_any [] all h n fits = absurd (false≢true (sym (fold_any form_step branch_form []) ∙ h))
read_any (e ∷ []) all h n fits = absurd (false≢true (sym (fold_any form_step branch_form (e ∷ [])) ∙ h))
read_any (e ∷ d ∷ es) all h n fits =
    let inside = fits_inside n _ _ (fold_any depth_step branch_depth (e ∷ d ∷ es)) fits in
    let more : ℕ = largest (map expr_depth (d ∷ es)) in
    let k : all_of (λ b. b) (map expr_form (e ∷ d ∷ es)) ≡ true = second_so (nat_le 2 (length (map expr_form (e ∷ d ∷ es)))) _ (sym (fold_any form_step branch_form (e ∷ d ∷ es)) ∙ h) in
    in_bracket (v.Any (e ∷ d ∷ es)) n _ fits (fold_any canon.expr_step canon.branch_step (e ∷ d ∷ es)) (λ x r. any_built (n + 1) r)
    (gives_right (all.0 (first_so _ _ k) (n + 1) (fits_left (n + 1) (expr_depth e) more inside) then gives_right (gives_right (gives_right (gives_left (read_more sep.Or refl (n + 1) d es (second_so (expr_form e) _ k) (fits_right (n + 1) (expr_depth e) more inside) all.1))))))

first_built : (n : ℕ) {e : SqlExpr} {es : List SqlExpr} {x : Parsed} → Both (IsLeaf (t.Mark m.Coalesce)) (Both (IsLeaf (t.Mark m.Open)) (Both (IsMade (an_expr e)) (Both (IsMade (expr_list sep.Comma es)) (IsLeaf (t.Mark m.Close))))) x → build (Firsts n) x ≡ an_expr (v.First (e ∷ es))
first_built n (both c (both o (both is_made (both is_made b)))) = refl

read_first : (es : List SqlExpr) → Each IsRead es → IsRead (v.First es)
read_first [] all h n fits = absurd (false≢true (sym (fold_first form_step branch_form []) ∙ h))
read_first (e ∷ []) all h n fits = absurd (false≢true (sym (fold_first form_step branch_form (e ∷ [])) ∙ h))
read_first (e ∷ d ∷ es) all h n fits =
    let inside = fits_inside n _ _ (fold_first depth_step branch_depth (e ∷ d ∷ es)) fits in
    let more : ℕ = largest (map expr_depth (d ∷ es)) in
    let k : all_of (λ b. b) (map expr_form (e ∷ d ∷ es)) ≡ true = second_so (nat_le 2 (length (map expr_form (e ∷ d ∷ es)))) _ (sym (fold_first form_step branch_form (e ∷ d ∷ es)) ∙ h) in
    let behind : Tokens = each_behind m.Comma (map expr_tokens (d ∷ es)) in
    formed (v.First (e ∷ d ∷ es)) n _ fits (fold_first canon.expr_step canon.branch_step (e ∷ d ∷ es)) (λ x p. same_tree n p)
    (gives_right (gives_right (gives_right (gives_right (gives_call (Firsts (n + 1)) (an_expr (v.First (e ∷ d ∷ es))) (λ x r. first_built (n + 1) r)
    (on_tokens (ap (λ (z : Tokens). the m.Coalesce ++ (the m.Open ++ z)) (sym (append_assoc (expr_tokens e) behind (the m.Close))))
    (gives_mark m.Coalesce refl then gives_mark m.Open refl then all.0 (first_so _ _ k) (n + 1) (fits_left (n + 1) (expr_depth e) more inside) then read_more sep.Comma refl (n + 1) d es (second_so (expr_form e) _ k) (fits_right (n + 1) (expr_depth e) more inside) all.1 then gives_mark m.Close refl)))))))

-- CASE

abbrev branch_tokens : Branch → Tokens
branch_tokens b = the m.When ++ (expr_tokens b.test ++ (the m.Then ++ expr_tokens b.value))

abbrev depth_branch : Branch → ℕ
depth_branch b = fold-Branch ℕ ℕ depth_step branch_depth b

abbrev IsBranch : Branch → Parsed → Type 0
IsBranch b = IsMade (a_branch b)

branch_built : (n : ℕ) {b : Branch} {x : Parsed} → Both (IsLeaf (t.Mark m.When)) (Both (IsMade (an_expr b.test)) (Both (IsLeaf (t.Mark m.Then)) (IsMade (an_expr b.value)))) x → build (OneBranch n) x ≡ a_branch b
branch_built n (both w (both is_made (both d is_made))) = refl

read_branch : (n : ℕ) (b : Branch) → OfBranch IsRead b → fold-Branch Bool Bool form_step branch_form b ≡ true → Fits n (depth_branch b) → Gives (call (OneBranch n)) (IsBranch b) (branch_tokens b)
read_branch n b p h fits =
    let inside : Fits n (max (expr_depth b.test) (expr_depth b.value)) = subst (λ (d : ℕ). Fits n d) (fold_branch depth_step branch_depth b) fits in
    let k : (expr_form b.test && expr_form b.value) ≡ true = sym (fold_branch form_step branch_form b) ∙ h in
    gives_call (OneBranch n) (a_branch b) (λ x r. branch_built n r) (gives_mark m.When refl then p.0 (first_so _ _ k) n (fits_left n (expr_depth b.test) (expr_depth b.value) inside) then gives_mark m.Then refl then p.1 (second_so (expr_form b.test) _ k) n (fits_right n (expr_depth b.test) (expr_depth b.value) inside))

branches_collect : Collects branches_in IsBranch
branches_collect = record { none = refl; some = some }
  where
    some : (b : Branch) (bs : List Branch) (n k : Parsed) → IsBranch b n → branches_in k ≡ bs → branches_in (Pair n k) ≡ b ∷ bs
    some b bs n k is_made r = ap (λ z. b ∷ z) r

each_branch : (n : ℕ) (bs : List Branch) → all_of (λ b. b) (map (fold-Branch Bool Bool form_step branch_form) bs) ≡ true → Fits n (largest (map depth_branch bs)) → Each (OfBranch IsRead) bs → Each (λ b. Gives (call (OneBranch n)) (IsBranch b) (branch_tokens b)) bs
each_branch n [] h fits all = tt
each_branch n (b ∷ bs) h fits all =
    let more : ℕ = largest (map depth_branch bs) in
    (read_branch n b all.0 (first_so _ _ h) (fits_left n (depth_branch b) more fits), each_branch n bs (second_so (fold-Branch Bool Bool form_step branch_form b) _ h) (fits_right n (depth_branch b) more fits) all.1)

branches_built : (n : ℕ) {b : Branch} {bs : List Branch} {x : Parsed} → Both (IsBranch b) (λ k. branches_in k ≡ bs) x → build (Branches n) x ≡ branch_list (b ∷ bs)
branches_built n {b} (both is_made r) = ap (λ z. branch_list (b ∷ z)) r

read_branches : (n : ℕ) (b : Branch) (bs : List Branch) → all_of (λ b. b) (map (fold-Branch Bool Bool form_step branch_form) (b ∷ bs)) ≡ true → Fits n (largest (map depth_branch (b ∷ bs))) → Each (OfBranch IsRead) (b ∷ bs) → Gives (call (Branches n)) (IsMade (branch_list (b ∷ bs))) (all_tokens (map branch_tokens (b ∷ bs)))
read_branches n b bs h fits all =
    let each = each_branch n (b ∷ bs) h fits all in
    gives_call (Branches n) (branch_list (b ∷ bs)) (λ x r. branches_built n r) (each.0 then gives_many branch_tokens branches_in IsBranch branches_collect bs each.1)

same_branches : (bs : List Branch) → map (fold-Branch Tokens Tokens canon.expr_step canon.branch_step) bs ≡ map branch_tokens bs
same_branches [] = refl
same_branches (b ∷ bs) = let h = fold_branch canon.expr_step canon.branch_step b in let k = same_branches bs in cc

case_built : (n : ℕ) {bs : List Branch} {e : SqlExpr} {x : Parsed} → Both (IsLeaf (t.Mark m.Case)) (Both (IsMade (branch_list bs)) (Both (IsLeaf (t.Mark m.Else)) (Both (IsMade (an_expr e)) (IsLeaf (t.Mark m.End))))) x → build (Cases n) x ≡ an_expr (v.Case bs e)
case_built n (both c (both is_made (both d (both is_made z)))) = refl

read_case : (bs : List Branch) (last : SqlExpr) → Each (OfBranch IsRead) bs → IsRead last → IsRead (v.Case bs last)
read_case [] last all p h n fits = absurd (false≢true (sym (fold_case form_step branch_form [] last) ∙ h))
read_case (b ∷ bs) last all p h n fits =
    let inside = fits_inside n _ _ (fold_case depth_step branch_depth (b ∷ bs) last) fits in
    let deepest : ℕ = largest (map depth_branch (b ∷ bs)) in
    let forms : List Bool = map (fold-Branch Bool Bool form_step branch_form) (b ∷ bs) in
    let k : (nat_le 1 (length forms) && all_of (λ b. b) forms && expr_form last) ≡ true = sym (fold_case form_step branch_form (b ∷ bs) last) ∙ h in
    let front = first_so (nat_le 1 (length forms) && all_of (λ b. b) forms) _ k in
    formed (v.Case (b ∷ bs) last) n _ fits (fold_case canon.expr_step canon.branch_step (b ∷ bs) last ∙ ap (λ z. the m.Case ++ (all_tokens z ++ (the m.Else ++ (expr_tokens last ++ the m.End)))) (same_branches (b ∷ bs))) (λ x r. same_tree n r)
    (gives_right (gives_right (gives_right (gives_left (gives_call (Cases (n + 1)) (an_expr (v.Case (b ∷ bs) last)) (λ x r. case_built (n + 1) r)
    (gives_mark m.Case refl then read_branches (n + 1) b bs (second_so (nat_le 1 (length forms)) _ front) (fits_left (n + 1) deepest (expr_depth last) inside) all then gives_mark m.Else refl
    then p (second_so (nat_le 1 (length forms) && all_of (λ b. b) forms) _ k) (n + 1) (fits_right (n + 1) deepest (expr_depth last) inside) then gives_mark m.End refl))))))

pub expr_read : (e : SqlExpr) → IsRead e
expr_read = every_expr IsRead (record {
  name = read_name;
  int = read_int;
  text = read_text;
  truth = read_truth;
  null = read_null;
  equal = read_equal;
  less = read_less;
  all = read_all;
  any = read_any;
  not = read_not;
  is_null = read_is_null;
  case = read_case;
  first = read_first;
})
