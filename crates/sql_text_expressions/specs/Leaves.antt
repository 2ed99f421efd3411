-- The steps of the readers of leaves.
use Rattle.std.proofs.Common.{Bool, true, false, IsTrue, List, [], ◌∷◌, ◌≡◌, ℕ, ℤ, length, refl, subst, Option, Some, None}
use Rattle.grammar_meaning.specs.Grammar.{Form, call, ◌⨾◌, ◌∣◌, Leaf, Made}
use Rattle.grammar_meaning.specs.Outcome.{Got}
use Rattle.grammar_meaning.specs.Exact.{got_one, got_call, got_then, broke_none}
use Rattle.grammar_meaning.specs.Parts.{got_left_only, got_right_only}
use Rattle.grammar_path_laws.specs.Paths.{here, in_call, in_first, in_rest, in_left}
use Rattle.table_meaning.specs.declared.kind.Kind.{Kind as ColumnKind}
use Rattle.table_meaning.specs.declared.kind.Kind.TheVariants as column
use Rattle.sql_meaning.specs.Kinds.{Kind, a_mark, a_count, an_int, a_text, kind, is, among}
use Rattle.sql_meaning.specs.Tokens.{placed}
use Rattle.sql_meaning.specs.Grammar.{Symbol, Simple, NullOf, Limit, an_expr, kinded, mark, name, number, string, grammar}
use Rattle.sql_meaning.specs.declared.token.Mark.{Mark}
use Rattle.sql_meaning.specs.declared.token.Mark.TheVariants as m
use Rattle.sql_meaning.specs.declared.token.Token.{Token}
use Rattle.sql_meaning.specs.declared.token.Token.TheVariants as t
use Rattle.sql_meaning.specs.declared.token.Placed.{Placed}
use Rattle.sql_meaning.specs.declared.expression.SqlExpr.{SqlExpr}
use Rattle.sql_meaning.specs.declared.expression.SqlExpr.TheVariants as v
use Rattle.sql_text_cursor.specs.Table.{look, NoneOf, leaf_kinds}
use Rattle.sql_text_cursor.specs.Outcomes.{First, first_is, Reading, reading, Fault, fault_memory, fault_at, handed, Gets, Stops}
use Rattle.sql_text_cursor.specs.Steps.{apart, absent, the, the_name, none_stops}
use Rattle.sql_text_cursor.specs.Tests.{of_int, none_left}
use Rattle.sql_text_cursor.specs.declared.refusal.Refusal.{Refusal}
use Rattle.sql_text_cursor.specs.declared.refusal.Refusal.TheVariants.{Syntax}

-- the truth that a mark writes
abbrev pub truth_of : Mark → Option Bool
truth_of m.True = Some true
truth_of m.False = Some false
truth_of _ = None

abbrev pub truth_in : Option Bool → Option SqlExpr
truth_in (Some b) = Some (v.Truth b)
truth_in None = None

-- the constant that a token writes
abbrev pub constant_in : Token → Option SqlExpr
constant_in (t.Int n) = Some (v.Int n)
constant_in (t.Text s) = Some (v.Text s)
constant_in (t.Mark k) = truth_in (truth_of k)
constant_in (t.Name s) = None
constant_in t.Broken = None

abbrev pub column_form : Form Symbol Kind
column_form = name ⨾ mark m.Dot ⨾ name

abbrev pub truth_form : Form Symbol Kind
truth_form = mark m.True ∣ mark m.False

int_there : (n : ℤ) → IsTrue (among (a_count ∷ an_int ∷ []) (kind (t.Int n)))
int_there n = of_int n (among (a_count ∷ an_int ∷ [])) true refl refl

int_read : (n : ℤ) (at : ℕ) (us : List Placed) → Gets Simple (placed at (t.Int n) ∷ us) (an_expr (v.Int n)) us
int_read n at us = reading (λ c h. got_call Simple (got_right_only (look c) refl (apart c (a_count ∷ an_int ∷ []) column_form (placed at (t.Int n) ∷ us) refl (int_there n))
    (got_left_only (look c) refl (apart c (a_count ∷ an_int ∷ []) (string ∣ truth_form) (placed at (t.Int n) ∷ us) refl (int_there n))
    (got_one {G = grammar c} (among []) (among (a_count ∷ an_int ∷ [])) (placed at (t.Int n)) us (int_there n)))))

text_read : (s : List ℕ) (at : ℕ) (us : List Placed) → Gets Simple (placed at (t.Text s) ∷ us) (an_expr (v.Text s)) us
text_read s at us = reading (λ c h. got_call Simple (got_right_only (look c) refl refl (got_right_only (look c) refl refl (got_left_only (look c) refl refl (got_one {G = grammar c} (among []) (is a_text) (placed at (t.Text s)) us refl)))))

true_read : (at : ℕ) (us : List Placed) → Gets Simple (placed at (t.Mark m.True) ∷ us) (an_expr (v.Truth true)) us
true_read at us = reading (λ c h. got_call Simple (got_right_only (look c) refl refl (got_right_only (look c) refl refl (got_right_only (look c) refl refl (got_left_only (look c) refl refl (the c m.True at us))))))

false_read : (at : ℕ) (us : List Placed) → Gets Simple (placed at (t.Mark m.False) ∷ us) (an_expr (v.Truth false)) us
false_read at us = reading (λ c h. got_call Simple (got_right_only (look c) refl refl (got_right_only (look c) refl refl (got_right_only (look c) refl refl (got_right_only (look c) refl refl (the c m.False at us))))))

some_of : {A : Type 0} (x y : A) → Some x ≡ Some y → x ≡ y
some_of x y h = cc

-- a constant
pub simple_constant : (ts us : List Placed) (x : Token) (e : SqlExpr) → First ts x us → constant_in x ≡ Some e → Gets Simple ts (an_expr e) us
simple_constant ts us x e (first_is at) h = by x h
  where
    is_read : (d : SqlExpr) (y : Token) → Some d ≡ Some e → Gets Simple (placed at y ∷ us) (an_expr d) us → Gets Simple (placed at y ∷ us) (an_expr e) us
    is_read d y k a = subst (λ (z : SqlExpr). Gets Simple (placed at y ∷ us) (an_expr z) us) (some_of d e k) a

    truth : (k : Mark) → truth_in (truth_of k) ≡ Some e → Gets Simple (placed at (t.Mark k) ∷ us) (an_expr e) us
    truth m.True h = is_read (v.Truth true) (t.Mark m.True) h (true_read at us)
    truth m.False h = is_read (v.Truth false) (t.Mark m.False) h (false_read at us)
    truth _ h = cc

    by : (y : Token) → constant_in y ≡ Some e → Gets Simple (placed at y ∷ us) (an_expr e) us
    by (t.Int n) h = is_read (v.Int n) (t.Int n) h (int_read n at us)
    by (t.Text s) h = is_read (v.Text s) (t.Text s) h (text_read s at us)
    by (t.Mark k) h = truth k h
    by (t.Name s) h = cc
    by t.Broken h = cc

-- a column of a source
pub simple_column : (ts us vs ws : List Placed) (a b : List ℕ) → First ts (t.Name a) us → First us (t.Mark m.Dot) vs → First vs (t.Name b) ws → Gets Simple ts (an_expr (v.Name a b)) ws
simple_column ts us vs ws a b (first_is i) (first_is j) (first_is k) =
    reading (λ c h. got_call Simple (got_left_only (look c) refl refl (got_then (look c) refl (the_name c a i _) (got_then (look c) refl (the c m.Dot j _) (the_name c b k ws)))))

-- what begins neither a number, a text nor a truth
no_constant : (c : Limit) (ts us : List Placed) (x : Token) → First ts x us → constant_in x ≡ None → NoneOf (a_count ∷ an_int ∷ a_text ∷ a_mark m.True ∷ a_mark m.False ∷ []) ts
no_constant c ts us x (first_is at) h = by x h
  where
    truth : (k : Mark) → truth_in (truth_of k) ≡ None → among (a_count ∷ an_int ∷ a_text ∷ a_mark m.True ∷ a_mark m.False ∷ []) (a_mark k) ≡ false
    truth m.True h = cc
    truth m.False h = cc
    truth _ h = refl

    by : (y : Token) → constant_in y ≡ None → among (a_count ∷ an_int ∷ a_text ∷ a_mark m.True ∷ a_mark m.False ∷ []) (kind y) ≡ false
    by (t.Int n) h = cc
    by (t.Text s) h = cc
    by (t.Mark k) h = truth k h
    by (t.Name s) h = refl
    by t.Broken h = refl

pub simple_name_stops : (ts us : List Placed) (x : Token) (r : Refusal) → First ts x us → constant_in x ≡ None → Fault [] name ts r → Stops Simple ts r
simple_name_stops ts us x r f h a =
    handed (λ c k. in_call Simple (in_left (look c) refl (absent c (a_count ∷ an_int ∷ a_text ∷ a_mark m.True ∷ a_mark m.False ∷ []) (number ∣ (string ∣ truth_form)) ts refl (no_constant c ts us x f h)) (in_first (look c) refl here))) a

pub simple_dot_stops : (ts us : List Placed) (s : List ℕ) (r : Refusal) → First ts (t.Name s) us → Fault [] (mark m.Dot) us r → Stops Simple ts r
simple_dot_stops ts us s r (first_is i) a = handed (λ c k. in_call Simple (in_left (look c) refl refl (in_rest (look c) refl (the_name c s i _) (in_first (look c) refl here)))) a

pub simple_second_stops : (ts us vs : List Placed) (s : List ℕ) (r : Refusal) → First ts (t.Name s) us → First us (t.Mark m.Dot) vs → Fault [] name vs r → Stops Simple ts r
simple_second_stops ts us vs s r (first_is i) (first_is j) a =
    handed (λ c k. in_call Simple (in_left (look c) refl refl (in_rest (look c) refl (the_name c s i _) (in_rest (look c) refl (the c m.Dot j _) here)))) a

pub simple_nothing : (ts : List Placed) → ts ≡ [] → Stops Simple ts (Syntax (length ts))
simple_nothing ts e = none_stops Simple ts refl (none_left leaf_kinds ts e)

pub ruleset simple_steps = (fault_memory, simple_constant, simple_column, simple_name_stops, simple_dot_stops, simple_second_stops, simple_nothing)

-- the kind that a mark names
abbrev pub kind_of : Mark → Option ColumnKind
kind_of m.Int = Some column.Int
kind_of m.Text = Some column.Text
kind_of m.Truth = Some column.Truth
kind_of _ = None

abbrev pub kind_form : Form Symbol Kind
kind_form = mark m.Int ∣ (mark m.Text ∣ mark m.Truth)

-- a kind's name is in front
pub data KindAt : List Placed → ColumnKind → List Placed → Type 0 where
  kind_at : {ts us : List Placed} {k : ColumnKind} (x : Mark) → First ts (t.Mark x) us → kind_of x ≡ Some k → KindAt ts k us

abbrev pub kind_in : Token → Option ColumnKind
kind_in (t.Mark x) = kind_of x
kind_in (t.Name s) = None
kind_in (t.Int n) = None
kind_in (t.Text s) = None
kind_in t.Broken = None

pub kind_found : (ts us : List Placed) (x : Token) (k : ColumnKind) → First ts x us → kind_in x ≡ Some k → KindAt ts k us
kind_found ts us (t.Mark x) k f h = kind_at x f h
kind_found ts us (t.Name s) k f h = cc
kind_found ts us (t.Int n) k f h = cc
kind_found ts us (t.Text s) k f h = cc
kind_found ts us t.Broken k f h = cc

no_kind : (ts us : List Placed) (x : Token) → First ts x us → kind_in x ≡ None → NoneOf (a_mark m.Int ∷ a_mark m.Text ∷ a_mark m.Truth ∷ []) ts
no_kind ts us x (first_is at) h = by x h
  where
    three : (k : Mark) → kind_of k ≡ None → among (a_mark m.Int ∷ a_mark m.Text ∷ a_mark m.Truth ∷ []) (a_mark k) ≡ false
    three m.Int h = cc
    three m.Text h = cc
    three m.Truth h = cc
    three _ h = refl

    by : (y : Token) → kind_in y ≡ None → among (a_mark m.Int ∷ a_mark m.Text ∷ a_mark m.Truth ∷ []) (kind y) ≡ false
    by (t.Mark k) h = three k h
    by (t.Name s) h = refl
    by (t.Int n) h = of_int n (among (a_mark m.Int ∷ a_mark m.Text ∷ a_mark m.Truth ∷ [])) false refl refl
    by (t.Text s) h = refl
    by t.Broken h = refl

kind_fault : (ts : List Placed) → NoneOf (a_mark m.Int ∷ a_mark m.Text ∷ a_mark m.Truth ∷ []) ts → Fault [] kind_form ts (Syntax (length ts))
kind_fault ts h = fault_at ts (λ c i. broke_none (look c) (among []) refl (absent c (a_mark m.Int ∷ a_mark m.Text ∷ a_mark m.Truth ∷ []) kind_form ts refl h))

pub kind_none : (ts us : List Placed) (x : Token) → First ts x us → kind_in x ≡ None → Fault [] kind_form ts (Syntax (length ts))
kind_none ts us x f h = kind_fault ts (no_kind ts us x f h)

pub kind_nothing : (ts : List Placed) → ts ≡ [] → Fault [] kind_form ts (Syntax (length ts))
kind_nothing ts e = kind_fault ts (none_left (a_mark m.Int ∷ a_mark m.Text ∷ a_mark m.Truth ∷ []) ts e)

pub ruleset kind_steps = (kind_found, kind_none, kind_nothing)

-- CAST ( NULL AS, up to what is left
pub data CastAt : List Placed → List Placed → Type 0 where
  cast_at : {ts us vs ws xs : List Placed} → First ts (t.Mark m.Cast) us → First us (t.Mark m.Open) vs → First vs (t.Mark m.Null) ws → First ws (t.Mark m.As) xs → CastAt ts xs

int_kind_read : (c : Limit) (i : ℕ) (us : List Placed) → Got (grammar c) (among []) kind_form (placed i (t.Mark m.Int) ∷ us) (Leaf (placed i (t.Mark m.Int))) us
int_kind_read c i us = got_left_only (look c) refl refl (the c m.Int i us)

text_kind_read : (c : Limit) (i : ℕ) (us : List Placed) → Got (grammar c) (among []) kind_form (placed i (t.Mark m.Text) ∷ us) (Leaf (placed i (t.Mark m.Text))) us
text_kind_read c i us = got_right_only (look c) refl refl (got_left_only (look c) refl refl (the c m.Text i us))

truth_kind_read : (c : Limit) (i : ℕ) (us : List Placed) → Got (grammar c) (among []) kind_form (placed i (t.Mark m.Truth) ∷ us) (Leaf (placed i (t.Mark m.Truth))) us
truth_kind_read c i us = got_right_only (look c) refl refl (got_right_only (look c) refl refl (the c m.Truth i us))

-- the whole, from the kind's reading on
null_with : (i j k l n o : ℕ) (us : List Placed) (x : Mark) → ((c : Limit) (vs : List Placed) → Got (grammar c) (among []) kind_form (placed n (t.Mark x) ∷ vs) (Leaf (placed n (t.Mark x))) vs)
    → Reading [] (call NullOf) (placed i (t.Mark m.Cast) ∷ placed j (t.Mark m.Open) ∷ placed k (t.Mark m.Null) ∷ placed l (t.Mark m.As) ∷ placed n (t.Mark x) ∷ placed o (t.Mark m.Close) ∷ us) (Made (an_expr (v.Null (kinded (Leaf (placed n (t.Mark x))))))) us
null_with i j k l n o us x a = reading (λ c h. got_call NullOf (got_then (look c) refl (the c m.Cast i _) (got_then (look c) refl (the c m.Open j _) (got_then (look c) refl (the c m.Null k _) (got_then (look c) refl (the c m.As l _) (got_then (look c) refl (a c _) (the c m.Close o us)))))))

some_kind : (x y : ColumnKind) → Some x ≡ Some y → x ≡ y
some_kind x y h = cc

pub null_got : (ts us vs ws : List Placed) (k : ColumnKind) → CastAt ts us → KindAt us k vs → First vs (t.Mark m.Close) ws → Gets NullOf ts (an_expr (v.Null k)) ws
null_got ts us vs ws k (cast_at (first_is i) (first_is j) (first_is l) (first_is n)) (kind_at x (first_is o) h) (first_is p) = by x h
  where
    same : (y : Mark) (z : ColumnKind) → Some z ≡ Some k → Gets NullOf (placed i (t.Mark m.Cast) ∷ placed j (t.Mark m.Open) ∷ placed l (t.Mark m.Null) ∷ placed n (t.Mark m.As) ∷ placed o (t.Mark y) ∷ placed p (t.Mark m.Close) ∷ ws) (an_expr (v.Null z)) ws → Gets NullOf (placed i (t.Mark m.Cast) ∷ placed j (t.Mark m.Open) ∷ placed l (t.Mark m.Null) ∷ placed n (t.Mark m.As) ∷ placed o (t.Mark y) ∷ placed p (t.Mark m.Close) ∷ ws) (an_expr (v.Null k)) ws
    same y z e a = subst (λ (q : ColumnKind). Gets NullOf (placed i (t.Mark m.Cast) ∷ placed j (t.Mark m.Open) ∷ placed l (t.Mark m.Null) ∷ placed n (t.Mark m.As) ∷ placed o (t.Mark y) ∷ placed p (t.Mark m.Close) ∷ ws) (an_expr (v.Null q)) ws) (some_kind z k e) a

    by : (y : Mark) → kind_of y ≡ Some k → Gets NullOf (placed i (t.Mark m.Cast) ∷ placed j (t.Mark m.Open) ∷ placed l (t.Mark m.Null) ∷ placed n (t.Mark m.As) ∷ placed o (t.Mark y) ∷ placed p (t.Mark m.Close) ∷ ws) (an_expr (v.Null k)) ws
    by m.Int e = same m.Int column.Int e (null_with i j l n o p ws m.Int (λ c vs. int_kind_read c o vs))
    by m.Text e = same m.Text column.Text e (null_with i j l n o p ws m.Text (λ c vs. text_kind_read c o vs))
    by m.Truth e = same m.Truth column.Truth e (null_with i j l n o p ws m.Truth (λ c vs. truth_kind_read c o vs))
    by _ e = cc

-- where CAST ( NULL AS breaks
pub cast_stops : (ts : List Placed) (r : Refusal) → Fault [] (mark m.Cast) ts r → Stops NullOf ts r
cast_stops ts r a = handed (λ c h. in_call NullOf (in_first (look c) refl here)) a

pub cast_open_stops : (ts us : List Placed) (r : Refusal) → First ts (t.Mark m.Cast) us → Fault [] (mark m.Open) us r → Stops NullOf ts r
cast_open_stops ts us r (first_is i) a = handed (λ c h. in_call NullOf (in_rest (look c) refl (the c m.Cast i _) (in_first (look c) refl here))) a

pub cast_null_stops : (ts us vs : List Placed) (r : Refusal) → First ts (t.Mark m.Cast) us → First us (t.Mark m.Open) vs → Fault [] (mark m.Null) vs r → Stops NullOf ts r
cast_null_stops ts us vs r (first_is i) (first_is j) a = handed (λ c h. in_call NullOf (in_rest (look c) refl (the c m.Cast i _) (in_rest (look c) refl (the c m.Open j _) (in_first (look c) refl here)))) a

pub cast_as_stops : (ts us vs ws : List Placed) (r : Refusal) → First ts (t.Mark m.Cast) us → First us (t.Mark m.Open) vs → First vs (t.Mark m.Null) ws → Fault [] (mark m.As) ws r → Stops NullOf ts r
cast_as_stops ts us vs ws r (first_is i) (first_is j) (first_is k) a =
    handed (λ c h. in_call NullOf (in_rest (look c) refl (the c m.Cast i _) (in_rest (look c) refl (the c m.Open j _) (in_rest (look c) refl (the c m.Null k _) (in_first (look c) refl here))))) a

pub null_kind_stops : (ts us : List Placed) (r : Refusal) → CastAt ts us → Fault [] kind_form us r → Stops NullOf ts r
null_kind_stops ts us r (cast_at (first_is i) (first_is j) (first_is k) (first_is l)) a =
    handed (λ c h. in_call NullOf (in_rest (look c) refl (the c m.Cast i _) (in_rest (look c) refl (the c m.Open j _) (in_rest (look c) refl (the c m.Null k _) (in_rest (look c) refl (the c m.As l _) (in_first (look c) refl here)))))) a

close_with : (i j k l n : ℕ) (us : List Placed) (x : Mark) (r : Refusal) → ((c : Limit) → Got (grammar c) (among []) kind_form (placed n (t.Mark x) ∷ us) (Leaf (placed n (t.Mark x))) us) → Fault [] (mark m.Close) us r
    → Stops NullOf (placed i (t.Mark m.Cast) ∷ placed j (t.Mark m.Open) ∷ placed k (t.Mark m.Null) ∷ placed l (t.Mark m.As) ∷ placed n (t.Mark x) ∷ us) r
close_with i j k l n us x r a b =
    handed (λ c h. in_call NullOf (in_rest (look c) refl (the c m.Cast i _) (in_rest (look c) refl (the c m.Open j _) (in_rest (look c) refl (the c m.Null k _) (in_rest (look c) refl (the c m.As l _) (in_rest (look c) refl (a c) here)))))) b

pub null_close_stops : (ts us vs : List Placed) (k : ColumnKind) (r : Refusal) → CastAt ts us → KindAt us k vs → Fault [] (mark m.Close) vs r → Stops NullOf ts r
null_close_stops ts us vs k r (cast_at (first_is i) (first_is j) (first_is l) (first_is n)) (kind_at x (first_is o) h) a = by x h
  where
    by : (y : Mark) → kind_of y ≡ Some k → Stops NullOf (placed i (t.Mark m.Cast) ∷ placed j (t.Mark m.Open) ∷ placed l (t.Mark m.Null) ∷ placed n (t.Mark m.As) ∷ placed o (t.Mark y) ∷ vs) r
    by m.Int e = close_with i j l n o vs m.Int r (λ c. int_kind_read c o vs) a
    by m.Text e = close_with i j l n o vs m.Text r (λ c. text_kind_read c o vs) a
    by m.Truth e = close_with i j l n o vs m.Truth r (λ c. truth_kind_read c o vs) a
    by _ e = cc

pub ruleset cast_steps = (fault_memory, cast_at, cast_stops, cast_open_stops, cast_null_stops, cast_as_stops)

pub ruleset null_steps = (fault_memory, null_got, null_kind_stops, null_close_stops)
