-- A text of the form of an int spells the number that is read, and no other text does.
use Rattle.std.specs.Prelude.{◌≡◌, FitsSigned, ℕ, ℤ, pos, negsuc, neg_ℤ, ◌+◌, ◌*◌, ◌/◌, ◌%◌, ◌^◌, ◌<◌, ◌≤◌, ◌⊎◌, Bool, true, false, ◌&&◌, ◌||◌, not, nat_le, nat_lt, List, [], ◌∷◌, ◌++◌, length, Some, None, refl}
use Rattle.std.specs.Cmp.{first_so, second_so}
use Rattle.std.specs.Char.{digit_value}
use Rattle.std.specs.Fmt.{decimal}
use Rattle.std.specs.Int.{IsInRange, w128}
use Rattle.std.specs.List.{list_all}
use Rattle.std.specs.Str.Parse.{AllDigits, digits_value, digits_value_after, signed_digits_value, IsNumeral, without_leading_sign}
use Rattle.std.specs.Str.{IsAscii, IsUtf8}
use Rattle.std.proofs.Common.{sym, ap, ◌∙◌, subst, suc, zero, get_or, cond, eqb, inl, inr, append_assoc, append-nil, arith, lit<}
use Rattle.std.proofs.lemmas.Bool.{cases_Bool, false≢true, not-true, ltb-true, lt-ltb, leb-true, le-leb, eqb-true, ne_eqb}
use Rattle.std.proofs.lemmas.Fmt.{decimal_digit, decimal_step_wide, decimal_by_steps_wide, decimal_is_IsNumeral_wide, IsAscii-from_digits}
use Rattle.std.proofs.lemmas.List.Folds.{list_all-append}
use Rattle.std.proofs.lemmas.Str.{digit_value_digit, IsUtf8-from_ascii}
use Rattle.std.proofs.lemmas.Str.Parse.{IsDigitsTest, IsNumeralModel, numerals_by_value, digit_from_value}
use Rattle.rdf_meaning.specs.Characters.{is_digit}
use Rattle.table_meaning.specs.Ints.{is_wide_int, int_text, SpellsInt, is_digits, begins_with_zero, is_int_form, int_of}

digit_range : (c : ℕ) → is_digit c ≡ true → IsInRange 48 57 c
digit_range c h = (leb-true 48 c (first_so _ _ h), leb-true c 57 (second_so (nat_le 48 c) _ h))

range_digit : (c : ℕ) → IsInRange 48 57 c → is_digit c ≡ true
range_digit c r = let low : nat_le 48 c ≡ true = le-leb 48 c r.0 in rw low (le-leb c 57 r.1)

digits_test : IsDigitsTest (λ ds. list_all is_digit ds ≡ true)
digits_test = record {
  empty = refl;
  parts = λ c cs h. (digit_range c (first_so _ _ h), second_so (is_digit c) _ h);
  more = λ c cs r h. (let d : is_digit c ≡ true = range_digit c r in rw d h);
}

own : IsNumeralModel (λ ds. list_all is_digit ds ≡ true) (digits_value 10)
own = numerals_by_value _ digits_test

le_value_after : (n : ℕ) (ds : List ℕ) → n ≤ digits_value_after 10 n ds
le_value_after n [] = omega arith
le_value_after n (c ∷ cs) = omega (arith, le_value_after (n * 10 + digit_value c) cs)

decimal_value_after : (n : ℕ) (ds : List ℕ) → 0 < n → AllDigits 10 ds → digits_value_after 10 n ds < 10 ^ 64 → decimal (digits_value_after 10 n ds) ≡ decimal n ++ ds
decimal_value_after n [] some d small = sym (append-nil (decimal n))
decimal_value_after n (c ∷ cs) some d small =
    let m : ℕ = n * 10 + digit_value c in
    let k = digit_value_digit c (digit_from_value c d.0) in
    let front : m / 10 ≡ n = omega (arith, d.0) in
    let end : 48 + m % 10 ≡ c = omega (arith, d.0) in
    decimal_value_after m cs (omega arith) d.1 small
    ∙ ap (λ (x : List ℕ). x ++ cs) (decimal_step_wide m (omega arith) (omega (arith, le_value_after m cs)) ∙ (λ i. decimal (front i) ++ (end i ∷ [])))
    ∙ append_assoc (decimal n) (c ∷ []) cs

-- digits without a zero in front are those of their value
decimal_value_digits : (ds : List ℕ) → AllDigits 10 ds → 0 < length ds → (get_or ds 0 0 ≡ 48 → length ds ≡ 1) → digits_value 10 ds < 10 ^ 64 → decimal (digits_value 10 ds) ≡ ds
decimal_value_digits [] d some lead small = absurd (omega arith)
decimal_value_digits (c ∷ []) d some lead small =
    let k = digit_value_digit c (digit_from_value c d.0) in
    decimal_digit (0 * 10 + digit_value c) (omega (arith, d.0)) ∙ ap (λ x. x ∷ []) (omega arith)
decimal_value_digits (c ∷ e ∷ cs) d some lead small =
    let k = digit_value_digit c (digit_from_value c d.0) in
    let no : c ≡ 48 → ⊥ = λ z. omega (arith, lead z) in
    let is : 48 + (0 * 10 + digit_value c) ≡ c = omega arith in
    decimal_value_after (0 * 10 + digit_value c) (e ∷ cs) (omega arith) d.1 small
    ∙ ap (λ (x : List ℕ). x ++ (e ∷ cs)) (decimal_digit (0 * 10 + digit_value c) (omega (arith, d.0)) ∙ ap (λ x. x ∷ []) is)

zero_alone : (c : ℕ) (cs : List ℕ) → is_digits (c ∷ cs) ≡ true → c ≡ 48 → length (c ∷ cs) ≡ 1
zero_alone c [] h e = omega arith
zero_alone c (d ∷ ds) h e = absurd (false≢true (second_so (list_all is_digit (d ∷ ds)) false (subst (λ x. is_digits (x ∷ d ∷ ds) ≡ true) e h)))

digits_spell : (ds : List ℕ) → is_digits ds ≡ true → digits_value 10 ds < 10 ^ 64 → decimal (digits_value 10 ds) ≡ ds
digits_spell [] h small = absurd (false≢true h)
digits_spell (c ∷ cs) h small =
    let all : list_all is_digit (c ∷ cs) ≡ true = (let d : is_digit c ≡ true = first_so _ _ h in rw d (first_so _ _ (second_so (is_digit c) _ h))) in
    decimal_value_digits (c ∷ cs) (own.to (c ∷ cs) all) (omega arith) (zero_alone c cs h) small

-- what decimal digits look like
abbrev Formed : ℕ → List ℕ → Type 0
Formed n ds = (is_digits ds ≡ true) × (0 < n → begins_with_zero ds ≡ false)

one_digit : (n : ℕ) → n < 10 → Formed n ((48 + n) ∷ [])
one_digit n small =
    let d : is_digit (48 + n) ≡ true = range_digit (48 + n) (omega arith, omega arith) in
    (rw d ((or_true (not (eqb (48 + n) 48)))), λ some. ne_eqb (48 + n) 48 (λ e. omega arith))
  where
    or_true : (b : Bool) → (b || true) ≡ true
    or_true true = refl
    or_true false = refl

more_digits : (n : ℕ) (ds : List ℕ) → 10 ≤ n → Formed (n / 10) ds → Formed n (ds ++ ((48 + n % 10) ∷ []))
more_digits n [] large f = absurd (false≢true f.0)
more_digits n (c ∷ cs) large f =
    let lead : begins_with_zero (c ∷ cs) ≡ false = f.1 (omega arith) in
    let first : is_digit c ≡ true = first_so _ _ f.0 in
    let all : list_all is_digit cs ≡ true = first_so _ _ (second_so (is_digit c) _ f.0) in
    let last : is_digit (48 + n % 10) ≡ true = range_digit (48 + n % 10) (omega arith, omega arith) in
    (rw (first, list_all-append is_digit cs ((48 + n % 10) ∷ []), all, last, lead) refl, λ some. lead)

decimal_formed : (n : ℕ) → n < 10 ^ 64 → Formed n (decimal n)
decimal_formed = decimal_by_steps_wide Formed one_digit more_digits

-- digits alone, read with a sign that may stand in front
unsigned : (ds : List ℕ) → is_digits ds ≡ true → (is_int_form ds ≡ true) × (signed_digits_value 10 ds ≡ pos (digits_value 10 ds))
unsigned [] h = absurd (false≢true h)
unsigned (c ∷ cs) h =
    let low : 48 ≤ c = (digit_range c (first_so _ _ h)).0 in
    let minus : eqb c 45 ≡ false = ne_eqb c 45 (λ e. omega arith) in
    let plus : eqb c 43 ≡ false = ne_eqb c 43 (λ e. omega arith) in
    (rw minus h, rw (minus, plus) refl)

negative : (m : ℕ) → neg_ℤ (pos (suc m)) ≡ negsuc m
negative m = refl

-- the number that a text spells is read
pub int_of-spelled : (text : List ℕ) (z : ℤ) → SpellsInt text z → int_of text ≡ Some z
unfolding int_of
int_of-spelled text (pos n) s =
    let small : n < 10 ^ 64 = omega (arith, ltb-true n (2 ^ 127) s.1) in
    let form = unsigned (decimal n) (decimal_formed n small).0 in
    let value : signed_digits_value 10 (decimal n) ≡ pos n = form.1 ∙ ap pos (decimal_is_IsNumeral_wide n small).1 in
    rw (s.0, form.0, value, s.1) refl
int_of-spelled text (negsuc n) s =
    let small : suc n < 10 ^ 64 = omega (arith, ltb-true n (2 ^ 127) s.1) in
    let form = decimal_formed (suc n) small in
    let value : neg_ℤ (pos (digits_value 10 (decimal (suc n)))) ≡ negsuc n = ap (λ m. neg_ℤ (pos m)) (decimal_is_IsNumeral_wide (suc n) small).1 in
    let lead : begins_with_zero (decimal (suc n)) ≡ false = form.1 (omega arith) in
    rw (s.0, form.0, lead, value, s.1) refl

-- a choice with a value was taken
chosen : {X : Type 0} (b : Bool) (x y : X) → cond b (Some x) None ≡ Some y → (b ≡ true) × (x ≡ y)
chosen true x y h = (refl, cc)
chosen false x y h = cc

narrow : (z : ℤ) (n : ℕ) → z ≡ pos n → is_wide_int z ≡ true → n < 10 ^ 64
narrow z n e wide = let w : nat_lt n (2 ^ 127) ≡ true = subst (λ t. is_wide_int t ≡ true) e wide in omega (arith, ltb-true n (2 ^ 127) w)

-- `-` before digits that are no zero
minus_spells : (ds : List ℕ) (n : ℕ) → digits_value 10 ds ≡ n → is_digits ds ≡ true → begins_with_zero ds ≡ false → is_wide_int (neg_ℤ (pos n)) ≡ true → 45 ∷ ds ≡ int_text (neg_ℤ (pos n))
minus_spells ds zero e digits lead wide =
    let same : 48 ∷ [] ≡ ds = sym (decimal_digit 0 (lit< tt)) ∙ ap decimal (sym e) ∙ digits_spell ds digits (rw e (lit< tt)) in
    absurd (false≢true (sym lead ∙ ap begins_with_zero (sym same)))
minus_spells ds (suc n) e digits lead wide =
    let small : suc n < 10 ^ 64 = omega (arith, ltb-true n (2 ^ 127) wide) in
    ap (λ (x : List ℕ). 45 ∷ x) (sym (digits_spell ds digits (rw e small)) ∙ ap decimal e)

read_spells : (b : ℕ) (bs : List ℕ) → (b ≡ 45) ⊎ (eqb b 45 ≡ false) → is_int_form (b ∷ bs) ≡ true → is_wide_int (signed_digits_value 10 (b ∷ bs)) ≡ true → b ∷ bs ≡ int_text (signed_digits_value 10 (b ∷ bs))
read_spells b bs (inl e) form wide =
    let form' : is_int_form (45 ∷ bs) ≡ true = subst (λ x. is_int_form (x ∷ bs) ≡ true) e form in
    let wide' : is_wide_int (signed_digits_value 10 (45 ∷ bs)) ≡ true = subst (λ x. is_wide_int (signed_digits_value 10 (x ∷ bs)) ≡ true) e wide in
    rw e (minus_spells bs (digits_value 10 bs) refl (first_so _ _ form') (not-true _ (second_so (is_digits bs) _ form')) wide')
read_spells b bs (inr other) form wide =
    let digits : is_digits (b ∷ bs) ≡ true = rw other at form in
    let plain = unsigned (b ∷ bs) digits in
    let small : digits_value 10 (b ∷ bs) < 10 ^ 64 = narrow _ _ plain.1 wide in
    rw plain.1 (sym (digits_spell (b ∷ bs) digits small))

minus_cases : (b : ℕ) → (b ≡ 45) ⊎ (eqb b 45 ≡ false)
minus_cases b = by (cases_Bool (eqb b 45))
  where
    by : (eqb b 45 ≡ true) ⊎ (eqb b 45 ≡ false) → (b ≡ 45) ⊎ (eqb b 45 ≡ false)
    by (inl e) = inl (eqb-true b 45 e)
    by (inr e) = inr e

-- a text spells the number that is read
pub int_of-spells : (text : List ℕ) (z : ℤ) → int_of text ≡ Some z → SpellsInt text z
unfolding int_of
int_of-spells [] z h = cc
int_of-spells (b ∷ bs) z h =
    let taken = chosen (is_int_form (b ∷ bs) && is_wide_int (signed_digits_value 10 (b ∷ bs))) (signed_digits_value 10 (b ∷ bs)) z h in
    let form : is_int_form (b ∷ bs) ≡ true = first_so _ _ taken.0 in
    let wide : is_wide_int (signed_digits_value 10 (b ∷ bs)) ≡ true = second_so (is_int_form (b ∷ bs)) _ taken.0 in
    (read_spells b bs (minus_cases b) form wide ∙ ap int_text taken.1, subst (λ t. is_wide_int t ≡ true) taken.1 wide)

pub is_wide_int-fits : (z : ℤ) → FitsSigned w128 z → is_wide_int z ≡ true
is_wide_int-fits (pos n) f = lt-ltb n (2 ^ 127) (f.sfits)
is_wide_int-fits (negsuc n) f = lt-ltb n (2 ^ 127) (f.sfits)

pub FitsSigned-wide : (z : ℤ) → is_wide_int z ≡ true → FitsSigned w128 z
FitsSigned-wide (pos n) h = record { sfits = ltb-true n (2 ^ 127) h }
FitsSigned-wide (negsuc n) h = record { sfits = ltb-true n (2 ^ 127) h }

numeral : (ds : List ℕ) → is_digits ds ≡ true → IsNumeral 10 ds
numeral [] h = absurd (false≢true h)
numeral (c ∷ cs) h =
    let all : list_all is_digit (c ∷ cs) ≡ true = (let d : is_digit c ≡ true = first_so _ _ h in rw d (first_so _ _ (second_so (is_digit c) _ h))) in
    (omega arith, own.to (c ∷ cs) all)

minus_digits : (b : ℕ) (bs : List ℕ) → b ≡ 45 → is_int_form (b ∷ bs) ≡ true → is_digits bs ≡ true
minus_digits b bs e form = first_so _ _ (subst (λ x. is_int_form (x ∷ bs) ≡ true) e form)

-- digits behind a sign are a numeral
form_numeral : (b : ℕ) (bs : List ℕ) → (b ≡ 45) ⊎ (eqb b 45 ≡ false) → is_int_form (b ∷ bs) ≡ true → IsNumeral 10 (without_leading_sign (b ∷ bs))
form_numeral b bs (inl e) form = rw e (numeral bs (minus_digits b bs e form))
form_numeral b bs (inr other) form =
    let digits : is_digits (b ∷ bs) ≡ true = rw other at form in
    let low : 48 ≤ b = (digit_range b (first_so _ _ digits)).0 in
    let plus : eqb b 43 ≡ false = ne_eqb b 43 (λ e. omega arith) in
    rw (other, plus) (numeral (b ∷ bs) digits)

ascii_minus : (ds : List ℕ) → IsAscii ds → IsAscii (45 ∷ ds)
ascii_minus ds a zero = omega arith
ascii_minus ds a (suc i) = a i

form_ascii : (b : ℕ) (bs : List ℕ) → (b ≡ 45) ⊎ (eqb b 45 ≡ false) → is_int_form (b ∷ bs) ≡ true → IsAscii (b ∷ bs)
form_ascii b bs (inl e) form = subst (λ x. IsAscii (x ∷ bs)) (sym e) (ascii_minus bs (IsAscii-from_digits bs (numeral bs (minus_digits b bs e form)).1))
form_ascii b bs (inr other) form = let digits : is_digits (b ∷ bs) ≡ true = rw other at form in IsAscii-from_digits (b ∷ bs) (numeral (b ∷ bs) digits).1

-- an int is text
pub IsUtf8-int_form : (text : List ℕ) → is_int_form text ≡ true → IsUtf8 text
IsUtf8-int_form [] form = absurd (false≢true form)
IsUtf8-int_form (b ∷ bs) form = IsUtf8-from_ascii (b ∷ bs) (form_ascii b bs (minus_cases b) form)

-- what a parser of 128 bits reads of a text in the form of an int
pub int_of-parsed : (text : List ℕ) (z : ℤ) → is_int_form text ≡ true → FitsSigned w128 (signed_digits_value 10 text) → z ≡ signed_digits_value 10 text → Some z ≡ int_of text
unfolding int_of
int_of-parsed text z form fits is = rw (is, form, is_wide_int-fits (signed_digits_value 10 text) fits) refl

-- and where it reads nothing
pub int_of-unparsed : (text : List ℕ) → is_int_form text ≡ true → ¬ (IsNumeral 10 (without_leading_sign text) × FitsSigned w128 (signed_digits_value 10 text)) → None ≡ int_of text
unfolding int_of
int_of-unparsed [] form never = absurd (false≢true form)
int_of-unparsed (b ∷ bs) form never = by (cases_Bool (is_wide_int (signed_digits_value 10 (b ∷ bs))))
  where
    by : (is_wide_int (signed_digits_value 10 (b ∷ bs)) ≡ true) ⊎ (is_wide_int (signed_digits_value 10 (b ∷ bs)) ≡ false) → None ≡ int_of (b ∷ bs)
    by (inl wide) = absurd (never (form_numeral b bs (minus_cases b) form, FitsSigned-wide _ wide))
    by (inr wide) = rw (form, wide) refl

-- what is read as an int has the form of one
pub int_of-form : (text : List ℕ) (z : ℤ) → int_of text ≡ Some z → is_int_form text ≡ true
unfolding int_of
int_of-form text z h = first_so _ _ (chosen (is_int_form text && is_wide_int (signed_digits_value 10 text)) (signed_digits_value 10 text) z h).0
