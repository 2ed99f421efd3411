-- Labels of data files: they are legal, and no two are confused.
use Rattle.std.proofs.Common.{◌≡◌, ◌<◌, ◌≤◌, ◌^◌, ◌%◌, ◌+◌, ℕ, Bool, true, false, eqb, ◌||◌, List, [], ◌∷◌, ◌++◌, refl, sym, ap, ◌∙◌, subst, arith, append_assoc, lit<}
use Rattle.std.specs.Fmt.{decimal}
use Rattle.std.specs.Cmp.{first_so, second_so}
use Rattle.std.specs.Str.{IsUtf8, IsAscii, chars}
use Rattle.std.proofs.lemmas.Bool.Decides.{nat_tests}
use Rattle.std.proofs.lemmas.Fmt.{decimal_by_steps, decimal_injective, IsAscii-decimal}
use Rattle.std.proofs.lemmas.Str.{IsAscii-append, IsUtf8-append, chars-append, chars-IsAscii, IsUtf8-from_ascii}
use Rattle.std.proofs.lemmas.Str.Ascii.{IsAscii-nil, IsAscii-cons}
use Rattle.rdf_meaning.specs.Characters.{is_label_start, is_digit, is_name_mark}
use Rattle.rdf_meaning.specs.Terms.{RdfTerm, is_label_of, is_label, goes_on_as_label}
use Rattle.line_meaning.specs.Labels.{label_in}
use Rattle.line_meaning.specs.Grammar.{Each}
use Rattle.line_laws.specs.LineLaws.{LabelsAreLegal, LabelsStayApart}
use Rattle.line_laws.proofs.Fronts.{each_push}
use Rattle.line_laws.proofs.Back.{or_parts, no_dot}

digit_of : (d : ℕ) → d < 10 → is_digit (48 + d) ≡ true
digit_of d lt = grind (arith, nat_tests)

digits_each : (n : ℕ) → n < 2 ^ 64 → Each is_digit (decimal n)
digits_each n lt = decimal_by_steps (λ m ds. Each is_digit ds) one more n lt
  where
    one : (m : ℕ) → m < 10 → Each is_digit ((48 + m) ∷ [])
    one m l = (digit_of m l, tt)

    more : (m : ℕ) (ds : List ℕ) → 10 ≤ m → Each is_digit ds → Each is_digit (ds ++ (48 + m % 10) ∷ [])
    more m ds l h = each_push is_digit ds (48 + m % 10) h (digit_of (m % 10) (omega arith))

-- what may begin a label may stand in one
first_goes : (c : ℕ) (cs : List ℕ) → (is_label_start c || is_digit c) ≡ true → goes_on_as_label cs ≡ true → goes_on_as_label (c ∷ cs) ≡ true
first_goes c cs s e = rw (no_dot c s, or_parts (is_label_start c) (eqb c 45) (is_digit c) (is_name_mark c) s, e) refl

digit_starts : (s : Bool) (c : ℕ) → is_digit c ≡ true → (s || is_digit c) ≡ true
digit_starts true c e = refl
digit_starts false c e = e

digits_go : (ds cs : List ℕ) → Each is_digit ds → goes_on_as_label cs ≡ true → goes_on_as_label (ds ++ cs) ≡ true
digits_go [] cs h e = e
digits_go (d ∷ ds) cs h e = first_goes d (ds ++ cs) (digit_starts (is_label_start d) d h.0) (digits_go ds cs h.1 e)

label_goes : (cs : List ℕ) → is_label_of cs ≡ true → goes_on_as_label cs ≡ true
label_goes [] e = cc
label_goes (c ∷ cs) e = first_goes c cs (first_so (is_label_start c || is_digit c) (goes_on_as_label cs) e) (second_so (is_label_start c || is_digit c) (goes_on_as_label cs) e)

-- the characters of a label of file n
pub legal_chars : (n : ℕ) (cs : List ℕ) → n < 2 ^ 64 → is_label_of cs ≡ true → is_label_of (102 ∷ (decimal n ++ 98 ∷ cs)) ≡ true
legal_chars n cs lt e = digits_go (decimal n) (98 ∷ cs) (digits_each n lt) (first_goes 98 cs refl (label_goes cs e))

before_label : ℕ → List ℕ
before_label n = 102 ∷ (decimal n ++ 98 ∷ [])

before_ascii : (n : ℕ) → n < 2 ^ 64 → IsAscii (before_label n)
unfolding before_label
before_ascii n lt = IsAscii-cons 102 (decimal n ++ 98 ∷ []) (lit< tt) (IsAscii-append (decimal n) (98 ∷ []) (IsAscii-decimal n lt) (IsAscii-cons 98 [] (lit< tt) IsAscii-nil))

label_parts : (n : ℕ) (label : List ℕ) → label_in n label ≡ before_label n ++ label
unfolding before_label
label_parts n label = ap (λ (t : List ℕ). 102 ∷ t) (sym (append_assoc (decimal n) (98 ∷ []) label))

label_chars : (n : ℕ) (label : List ℕ) → n < 2 ^ 64 → chars (label_in n label) ≡ 102 ∷ (decimal n ++ 98 ∷ chars label)
label_chars n label lt =
    ap (λ (t : List ℕ). chars t) (label_parts n label) ∙ chars-append (before_label n) label (IsUtf8-from_ascii (before_label n) (before_ascii n lt))
    ∙ ap (λ (t : List ℕ). t ++ chars label) (chars-IsAscii (before_label n) (before_ascii n lt)) ∙ sym (label_parts n (chars label))

label_utf8 : (n : ℕ) (label : List ℕ) → n < 2 ^ 64 → IsUtf8 label → IsUtf8 (label_in n label)
label_utf8 n label lt u = rw (label_parts n label) (IsUtf8-append (before_label n) label (IsUtf8-from_ascii (before_label n) (before_ascii n lt)) u)

pub legal : LabelsAreLegal
unfolding is_label
legal n label lt u e = (label_utf8 n label lt u, rw (label_chars n label lt) (legal_chars n (chars label) lt e))

-- the first `b` ends the number
split_digits : (ds es a b : List ℕ) → Each is_digit ds → Each is_digit es → ds ++ 98 ∷ a ≡ es ++ 98 ∷ b → (ds ≡ es) × (a ≡ b)
split_digits [] [] a b h k e = (refl, cc)
split_digits [] (y ∷ es) a b h k e = let at : 98 ≡ y = cc in let d : is_digit 98 ≡ true = subst (λ (c : ℕ). is_digit c ≡ true) (sym at) k.0 in cc
split_digits (x ∷ ds) [] a b h k e = let at : x ≡ 98 = cc in let d : is_digit 98 ≡ true = subst (λ (c : ℕ). is_digit c ≡ true) at h.0 in cc
split_digits (x ∷ ds) (y ∷ es) a b h k e =
    let at : x ≡ y = cc in
    let more = split_digits ds es a b h.1 k.1 cc in
    (rw (at, more.0) refl, more.1)

pub apart : LabelsStayApart
apart m n a b lm ln e =
    let texts : label_in m a ≡ label_in n b = ap (λ (t : RdfTerm). t.text) e in
    let s = split_digits (decimal m) (decimal n) a b (digits_each m lm) (digits_each n ln) cc in
    (decimal_injective m n lm ln s.0, s.1)
