-- What a text's tokens hold: names of the dialect, ints within 128 bits and texts of UTF-8.
use Rattle.std.specs.Prelude.{Bool, true, false, IsTrue, if◌then◌else◌, ◌&&◌, List, [], ◌∷◌, ◌≡◌, ℕ, ℤ, pos, negsuc, take, nat_lt, Option, Some, None}
use Rattle.std.specs.Str.{is_utf8}
use Rattle.std.specs.Str.Parse.{signed_digits_value}
use Rattle.std.specs.Cmp.{second_so}
use Rattle.std.proofs.Common.{refl, subst, ◌∙◌, inl, inr}
use Rattle.std.proofs.lemmas.Str.{is_utf8-from_IsUtf8}
use Rattle.rdf_meaning.specs.Characters.{is_letter}
use Rattle.table_meaning.specs.Ints.{is_wide_int, is_int_form, int_of}
use Rattle.table_meaning.specs.Names.{is_name}
use Rattle.grammar_meaning.specs.Grammar.{Form, nothing, ◌⨾◌, ◌∣◌, many, Reads, read_nothing, read_one, read_rule, read_both, read_left, read_right, read_many}
use Rattle.sql_meaning.specs.Marks.{word_of}
use Rattle.sql_meaning.specs.Kinds.{Kind, a_name, a_count, an_int, kind, is}
use Rattle.sql_meaning.specs.Grammar.{Symbol, Limit, Parsed, rule, grammar, token_name, token_count}
use Rattle.sql_meaning.specs.Tokens.{run_len, begins_with, word_token, int_token, run_token, Cut, cut_end, cut_blank, cut_sign, cut_run, cut_negative, cut_text, cut_joined, cut_minus, cut_endless, cut_no_utf8, cut_nothing}
use Rattle.sql_meaning.specs.declared.token.Mark.{Mark}
use Rattle.sql_meaning.specs.declared.token.Token.{Token}
use Rattle.sql_meaning.specs.declared.token.Token.TheVariants as t
use Rattle.sql_meaning.specs.declared.token.Placed.{Placed}
use Rattle.sql_text_cursor.specs.Tests.{kind_of, int_kind}

abbrev pub token_form : Token → Bool
token_form (t.Mark m) = true
token_form (t.Name s) = is_name s
token_form (t.Int n) = is_wide_int n
token_form (t.Text s) = is_utf8 s
token_form t.Broken = true

abbrev pub HaveForms : List Placed → Type 0
HaveForms [] = Unit {0}
HaveForms (p ∷ ps) = (token_form p.token ≡ true) × HaveForms ps

-- an int that a text is, is within 128 bits
wide_of : (bs : List ℕ) (n : ℤ) → int_of bs ≡ Some n → is_wide_int n ≡ true
unfolding int_of
wide_of bs n h = by (is_int_form bs && is_wide_int (signed_digits_value 10 bs)) refl h
  where
    same : (x y : ℤ) → Some x ≡ Some y → x ≡ y
    same x y e = cc

    by : (b : Bool) → (is_int_form bs && is_wide_int (signed_digits_value 10 bs)) ≡ b → (if b then Some (signed_digits_value 10 bs) else None) ≡ Some n → is_wide_int n ≡ true
    by true e k = subst (λ (z : ℤ). is_wide_int z ≡ true) (same (signed_digits_value 10 bs) n k) (second_so (is_int_form bs) _ e)
    by false e k = absurd cc

int_form : (bs : List ℕ) → token_form (int_token (int_of bs)) ≡ true
int_form bs = by (int_of bs) refl
  where
    by : (o : Option ℤ) → int_of bs ≡ o → token_form (int_token o) ≡ true
    by (Some n) e = wide_of bs n e
    by None e = refl

word_form : (bs : List ℕ) (o : Option Mark) → token_form (word_token bs o) ≡ true
word_form bs (Some m) = refl
word_form bs None = by (is_name bs) refl
  where
    by : (b : Bool) → is_name bs ≡ b → token_form (if b then t.Name bs else t.Broken) ≡ true
    by true e = e
    by false e = refl

run_form : (bs : List ℕ) → token_form (run_token bs) ≡ true
run_form bs = by (begins_with is_letter bs)
  where
    by : (b : Bool) → token_form (if b then word_token bs (word_of bs) else int_token (int_of bs)) ≡ true
    by true = word_form bs (word_of bs)
    by false = int_form bs

pub cut_forms : {n : ℕ} {a : Bool} {bs : List ℕ} {ts : List Placed} → Cut n a bs ts → HaveForms ts
cut_forms cut_end = tt
cut_forms (cut_blank h c) = cut_forms c
cut_forms (cut_sign h c) = (refl, cut_forms c)
cut_forms (cut_run {b = b} {bs = bs} h c) = (run_form (take (run_len (b ∷ bs)) (b ∷ bs)), cut_forms c)
cut_forms (cut_negative {b = b} {bs = bs} h k c) = (int_form (b ∷ take (run_len bs) bs), cut_forms c)
cut_forms (cut_text {q = q} h e u c) = (is_utf8-from_IsUtf8 q.content u, cut_forms c)
cut_forms (cut_joined h k) = (refl, tt)
cut_forms (cut_minus h k) = (refl, tt)
cut_forms (cut_endless h e) = (refl, tt)
cut_forms (cut_no_utf8 h e u) = (refl, tt)
cut_forms (cut_nothing h) = (refl, tt)

-- what is left of them has them
pub left_forms : (c : Limit) (f : Form Symbol Kind) (ts us : List Placed) (n : Parsed) → Reads (grammar c) f ts n us → HaveForms ts → HaveForms us
left_forms c f ts us n read_nothing h = h
left_forms c f ts us n (read_one k) h = h.1
left_forms c f ts us n (read_rule {s = s} {n = m} r) h = left_forms c (rule c s) ts us m r h
left_forms c f ts us n (read_both {f = f'} {g = g} {us = ws} {n = m} {m = m'} a b) h = left_forms c g ws us m' b (left_forms c f' ts ws m a h)
left_forms c f ts us n (read_left {f = f'} a) h = left_forms c f' ts us n a h
left_forms c f ts us n (read_right {g = g} a) h = left_forms c g ts us n a h
left_forms c f ts us n (read_many {f = f'} a) h = left_forms c ((f' ⨾ many f') ∣ nothing) ts us n a h

-- the name of a name, and the number of a count
other_int : (a : Kind) (n : ℤ) → a_name ≡ kind (t.Int n) → ⊥
other_int a n h = elim (int_kind n) [ inl e ↦ no_name_count (h ∙ e) | inr e ↦ no_name_int (h ∙ e) ]
  where
    no_name_count : a_name ≡ a_count → ⊥
    no_name_count e = cc

    no_name_int : a_name ≡ an_int → ⊥
    no_name_int e = cc

named : (x : Token) → a_name ≡ kind x → token_form x ≡ true → is_name (token_name x) ≡ true
named (t.Name s) e h = h
named (t.Mark m) e h = absurd cc
named (t.Int n) e h = absurd (other_int a_name n e)
named (t.Text s) e h = absurd cc
named t.Broken e h = absurd cc

pub name_form : (x : Token) → IsTrue (is a_name (kind x)) → token_form x ≡ true → is_name (token_name x) ≡ true
name_form x k h = named x (kind_of a_name (kind x) k) h

count_int : (n : ℤ) → a_count ≡ kind (t.Int n) → nat_lt (token_count (t.Int n)) 1000000000000000000 ≡ true
count_int (pos n) e = by (nat_lt n 1000000000000000000) refl e
  where
    by : (b : Bool) → nat_lt n 1000000000000000000 ≡ b → a_count ≡ (if b then a_count else an_int) → nat_lt n 1000000000000000000 ≡ true
    by true i j = i
    by false i j = absurd cc
count_int (negsuc n) e = absurd cc

counted : (x : Token) → a_count ≡ kind x → nat_lt (token_count x) 1000000000000000000 ≡ true
counted (t.Int n) e = count_int n e
counted (t.Name s) e = absurd cc
counted (t.Mark m) e = absurd cc
counted (t.Text s) e = absurd cc
counted t.Broken e = absurd cc

pub count_small : (x : Token) → IsTrue (is a_count (kind x)) → nat_lt (token_count x) 1000000000000000000 ≡ true
count_small x k = counted x (kind_of a_count (kind x) k)
