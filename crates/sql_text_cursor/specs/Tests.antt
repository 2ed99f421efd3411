-- Tests of the first token.
use Rattle.std.proofs.Common.{Bool, true, false, IsTrue, List, [], ◌∷◌, ◌≡◌, ℕ, ℤ, refl, subst, sym, ap, ◌∙◌, Some, ◌⊎◌, inl, inr}
use Rattle.std.proofs.lemmas.Bool.{eqb-true, eq-eqb}
use Rattle.grammar_meaning.specs.Outcome.{or, at}
use Rattle.sql_meaning.specs.Kinds.{Kind, a_mark, a_name, a_count, an_int, a_text, broken, kind, code, is_count, is, kinds, listed}
use Rattle.sql_meaning.specs.declared.token.Mark.{Mark}
use Rattle.sql_meaning.specs.declared.token.Token.{Token}
use Rattle.sql_meaning.specs.declared.token.Token.TheVariants as t
use Rattle.sql_meaning.specs.declared.token.Placed.{Placed}
use Rattle.sql_text_cursor.specs.Table.{NoneOf, SomeOf}
use Rattle.sql_text_cursor.specs.Outcomes.{First, first_is, fault_memory}
use Rattle.sql_text_cursor.specs.Steps.{mark_none, name_none}

pub first_of : (ts us : List Placed) (p : Placed) → ts ≡ p ∷ us → First ts p.token us
first_of ts us p e = subst (λ (l : List Placed). First l p.token us) (sym e) (first_is p.at)

-- a number is a count or another int
pub int_kind : (n : ℤ) → (kind (t.Int n) ≡ a_count) ⊎ (kind (t.Int n) ≡ an_int)
int_kind n = by (is_count n) refl
  where
    by : (b : Bool) → is_count n ≡ b → (kind (t.Int n) ≡ a_count) ⊎ (kind (t.Int n) ≡ an_int)
    by true e = inl (rw e refl)
    by false e = inr (rw e refl)

-- a test that both pass
pub of_int : (n : ℤ) (p : Kind → Bool) (b : Bool) → p a_count ≡ b → p an_int ≡ b → p (kind (t.Int n)) ≡ b
of_int n p b h k = elim (int_kind n) [ inl e ↦ ap p e ∙ h | inr e ↦ ap p e ∙ k ]

some_of : {A : Type 0} (x y : A) → Some x ≡ Some y → x ≡ y
some_of x y h = cc

-- kinds with one code are one kind
pub kind_of : (a b : Kind) → is a b ≡ true → a ≡ b
kind_of a b h = some_of a b (sym (listed a) ∙ ap (λ n. at kinds n) (eqb-true (code a) (code b) h) ∙ listed b)

mark_of : (m k : Mark) → a_mark m ≡ a_mark k → m ≡ k
mark_of m k h = cc

pub mark_same : (m k : Mark) → k ≡ m → is (a_mark m) (a_mark k) ≡ true
mark_same m k h = subst (λ j. is (a_mark m) (a_mark j) ≡ true) (sym h) (eq-eqb (code (a_mark m)) (code (a_mark m)) refl)

pub mark_other : (m k : Mark) → (k ≡ m → ⊥) → is (a_mark m) (a_mark k) ≡ false
mark_other m k h = by (is (a_mark m) (a_mark k)) refl
  where
    by : (b : Bool) → is (a_mark m) (a_mark k) ≡ b → is (a_mark m) (a_mark k) ≡ false
    by true e = absurd (h (sym (mark_of m k (kind_of (a_mark m) (a_mark k) e))))
    by false e = e

apart_from : (a b : Kind) → (a ≡ b → ⊥) → is a b ≡ false
apart_from a b h = by (is a b) refl
  where
    by : (x : Bool) → is a b ≡ x → is a b ≡ false
    by true e = absurd (h (kind_of a b e))
    by false e = e

no_count : (m : Mark) → a_mark m ≡ a_count → ⊥
no_count m h = cc

no_int : (m : Mark) → a_mark m ≡ an_int → ⊥
no_int m h = cc

pub int_no_mark : (m : Mark) (n : ℤ) → is (a_mark m) (kind (t.Int n)) ≡ false
int_no_mark m n = of_int n (is (a_mark m)) false (apart_from (a_mark m) a_count (no_count m)) (apart_from (a_mark m) an_int (no_int m))

no_name : (m : Mark) → a_mark m ≡ a_name → ⊥
no_name m h = cc

no_text : (m : Mark) → a_mark m ≡ a_text → ⊥
no_text m h = cc

no_broken : (m : Mark) → a_mark m ≡ broken → ⊥
no_broken m h = cc

pub name_no_mark : (m : Mark) (s : List ℕ) → is (a_mark m) (kind (t.Name s)) ≡ false
name_no_mark m s = apart_from (a_mark m) a_name (no_name m)

pub text_no_mark : (m : Mark) (s : List ℕ) → is (a_mark m) (kind (t.Text s)) ≡ false
text_no_mark m s = apart_from (a_mark m) a_text (no_text m)

pub broken_no_mark : (m : Mark) → is (a_mark m) (kind t.Broken) ≡ false
broken_no_mark m = apart_from (a_mark m) broken (no_broken m)

pub int_no_name : (n : ℤ) → is a_name (kind (t.Int n)) ≡ false
int_no_name n = of_int n (is a_name) false refl refl

pub mark_no_name : (m : Mark) → is a_name (kind (t.Mark m)) ≡ false
mark_no_name m = apart_from a_name (a_mark m) (λ h. no_name m (sym h))

pub ruleset kind_tests = (mark_same, mark_other, int_no_mark, name_no_mark, text_no_mark, broken_no_mark, int_no_name, mark_no_name)

-- no token, or one of another kind
pub none_left : (ks : List Kind) (ts : List Placed) → ts ≡ [] → NoneOf ks ts
none_left ks ts e = subst (λ (l : List Placed). NoneOf ks l) (sym e) tt

or_false : (b : Bool) → b ≡ false → or b false ≡ false
or_false b h = rw h refl

or_true : (b : Bool) → b ≡ true → IsTrue (or b false)
or_true b h = rw h refl

pub other_kind : (k : Kind) (ts us : List Placed) (x : Token) → First ts x us → is k (kind x) ≡ false → NoneOf (k ∷ []) ts
other_kind k ts us x (first_is at) h = or_false (is k (kind x)) h

-- the token of a kind
pub mark_there : (m : Mark) (x : Token) → is (a_mark m) (kind x) ≡ true → x ≡ t.Mark m
mark_there m x h = by x (kind_of (a_mark m) (kind x) h)
  where
    by : (x : Token) → a_mark m ≡ kind x → x ≡ t.Mark m
    by (t.Mark k) e = ap (λ j. t.Mark j) (sym (mark_of m k e))
    by (t.Name s) e = cc
    by (t.Int n) e = elim (int_kind n) [ inl k ↦ absurd (no_count m (e ∙ k)) | inr k ↦ absurd (no_int m (e ∙ k)) ]
    by (t.Text s) e = cc
    by t.Broken e = cc

pub mark_first : (m : Mark) (ts us : List Placed) (x : Token) → First ts x us → is (a_mark m) (kind x) ≡ true → First ts (t.Mark m) us
mark_first m ts us x f h = subst (λ (y : Token). First ts y us) (mark_there m x h) f

pub stands_there : (m : Mark) (ts us : List Placed) → First ts (t.Mark m) us → SomeOf (a_mark m ∷ []) ts
stands_there m ts us (first_is at) = or_true (is (a_mark m) (a_mark m)) (eq-eqb (code (a_mark m)) (code (a_mark m)) refl)

pub ruleset token_tests = (none_left, other_kind, mark_first, stands_there)

pub ruleset read_tests = (fault_memory, mark_none, name_none)
