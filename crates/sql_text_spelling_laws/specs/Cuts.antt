-- What the tokens of a spelling are cut as.
use Rattle.std.specs.Prelude.{Bool, true, false, not, ◌||◌, ◌&&◌, ◌==◌, nat_le, if◌then◌else◌, List, [], ◌∷◌, ◌++◌, ℕ, ℤ, pos, negsuc, suc, ◌+◌, ◌^◌, ◌<◌, length, take, drop, Option, Some, None, bytes_eq}
use Rattle.std.specs.List.{list_all}
use Rattle.std.specs.Str.{is_utf8}
use Rattle.std.specs.Cmp.{first_so, second_so}
use Rattle.std.specs.Char.{digit_value}
use Rattle.std.specs.Fmt.{decimal}
use Rattle.std.specs.Str.Parse.{AllDigits}
use Rattle.std.proofs.Common.{◌≡◌, ◌∙◌, sym, ap, subst, refl, arith, ◌⊎◌, inl, inr}
use Rattle.std.proofs.Math.Seq.{take-append_seam, drop-append_seam}
use Rattle.std.proofs.lemmas.Bool.{eqb-true, ltb-true, le-leb, false≢true}
use Rattle.std.proofs.lemmas.Str.{IsUtf8-from_is_utf8}
use Rattle.std.proofs.lemmas.Str.Parse.{digit_from_value}
use Rattle.std.proofs.lemmas.Fmt.{decimal_is_IsNumeral_wide}
use Rattle.std.proofs.lemmas.Slice.Eq.{bytes_eq-Decides}
use Rattle.rdf_meaning.specs.Characters.{is_letter, is_digit}
use Rattle.table_meaning.specs.Ints.{is_wide_int, int_text, int_of}
use Rattle.table_meaning.specs.IntLaws.{int_of-spelled}
use Rattle.table_meaning.specs.Names.{is_name, body_words, source_words, order_words, value_words, test_words, case_words, begins_with_letter}
use Rattle.sql_meaning.specs.Kinds.{Kind, each, a_mark}
use Rattle.sql_meaning.specs.Marks.{mark_bytes, word_of, words, mark_among}
use Rattle.sql_meaning.specs.Tokens.{is_blank, is_run_byte, run_len, begins_with, quoted, longer, holding, int_token, run_token, opening_of, placed, Cut, cut_end, cut_blank, cut_sign, cut_run, cut_negative, cut_text}
use Rattle.sql_meaning.specs.Canon.{Tokens, token_bytes, doubled, is_mark, is_open, is_close, is_caller, has_gap, spaced}
use Rattle.sql_meaning.specs.declared.token.Mark.{Mark}
use Rattle.sql_meaning.specs.declared.token.Mark.TheVariants as m
use Rattle.sql_meaning.specs.declared.token.Token.{Token}
use Rattle.sql_meaning.specs.declared.token.Token.TheVariants as t
use Rattle.sql_meaning.specs.declared.token.Placed.{Placed}
use Rattle.sql_meaning.specs.declared.token.Opening.TheVariants.{Run}
use Rattle.sql_text_spelling_laws.specs.Blocks.{is_spellable}

-- a byte that goes on with a word, a number or a text
abbrev is_more : ℕ → Bool
is_more b = is_run_byte b || b == 39

-- the token is a word or a number
abbrev pub is_run : Token → Bool
is_run (t.Mark x) = begins_with is_letter (mark_bytes x)
is_run (t.Name s) = true
is_run (t.Int n) = true
is_run _ = false

abbrev is_number : Token → Bool
is_number (t.Int n) = true
is_number _ = false

record IsWord (x : Mark) : Type 0 where
  runs : list_all is_run_byte (mark_bytes x) ≡ true
  letter : begins_with is_letter (mark_bytes x) ≡ true
  found : word_of (mark_bytes x) ≡ Some x
  shut : is_open (t.Mark x) ≡ false

record IsSign (x : Mark) : Type 0 where
  cuts : (n : ℕ) (a : Bool) (rest : List ℕ) (ts : List Placed) → Cut (n + length (mark_bytes x)) (is_run (t.Mark x)) rest ts → Cut n a (mark_bytes x ++ rest) (placed n (t.Mark x) ∷ ts)

-- a mark is a word or a sign
view : (x : Mark) → IsWord x ⊎ IsSign x
view m.With = inl (record { runs = refl; letter = refl; found = refl; shut = refl })
view m.As = inl (record { runs = refl; letter = refl; found = refl; shut = refl })
view m.Union = inl (record { runs = refl; letter = refl; found = refl; shut = refl })
view m.All = inl (record { runs = refl; letter = refl; found = refl; shut = refl })
view m.Select = inl (record { runs = refl; letter = refl; found = refl; shut = refl })
view m.Distinct = inl (record { runs = refl; letter = refl; found = refl; shut = refl })
view m.From = inl (record { runs = refl; letter = refl; found = refl; shut = refl })
view m.Where = inl (record { runs = refl; letter = refl; found = refl; shut = refl })
view m.Order = inl (record { runs = refl; letter = refl; found = refl; shut = refl })
view m.By = inl (record { runs = refl; letter = refl; found = refl; shut = refl })
view m.Limit = inl (record { runs = refl; letter = refl; found = refl; shut = refl })
view m.Offset = inl (record { runs = refl; letter = refl; found = refl; shut = refl })
view m.Join = inl (record { runs = refl; letter = refl; found = refl; shut = refl })
view m.Left = inl (record { runs = refl; letter = refl; found = refl; shut = refl })
view m.On = inl (record { runs = refl; letter = refl; found = refl; shut = refl })
view m.Desc = inl (record { runs = refl; letter = refl; found = refl; shut = refl })
view m.True = inl (record { runs = refl; letter = refl; found = refl; shut = refl })
view m.False = inl (record { runs = refl; letter = refl; found = refl; shut = refl })
view m.Cast = inl (record { runs = refl; letter = refl; found = refl; shut = refl })
view m.Null = inl (record { runs = refl; letter = refl; found = refl; shut = refl })
view m.Int = inl (record { runs = refl; letter = refl; found = refl; shut = refl })
view m.Text = inl (record { runs = refl; letter = refl; found = refl; shut = refl })
view m.Truth = inl (record { runs = refl; letter = refl; found = refl; shut = refl })
view m.And = inl (record { runs = refl; letter = refl; found = refl; shut = refl })
view m.Or = inl (record { runs = refl; letter = refl; found = refl; shut = refl })
view m.Not = inl (record { runs = refl; letter = refl; found = refl; shut = refl })
view m.Is = inl (record { runs = refl; letter = refl; found = refl; shut = refl })
view m.Case = inl (record { runs = refl; letter = refl; found = refl; shut = refl })
view m.When = inl (record { runs = refl; letter = refl; found = refl; shut = refl })
view m.Then = inl (record { runs = refl; letter = refl; found = refl; shut = refl })
view m.Else = inl (record { runs = refl; letter = refl; found = refl; shut = refl })
view m.End = inl (record { runs = refl; letter = refl; found = refl; shut = refl })
view m.Coalesce = inl (record { runs = refl; letter = refl; found = refl; shut = refl })
view m.Open = inr (record { cuts = λ n a rest ts c. cut_sign refl c })
view m.Close = inr (record { cuts = λ n a rest ts c. cut_sign refl c })
view m.Comma = inr (record { cuts = λ n a rest ts c. cut_sign refl c })
view m.Dot = inr (record { cuts = λ n a rest ts c. cut_sign refl c })
view m.Equal = inr (record { cuts = λ n a rest ts c. cut_sign refl c })
view m.Less = inr (record { cuts = λ n a rest ts c. cut_sign refl c })

-- numbers and their bytes

digit_is : (c : ℕ) → digit_value c < 10 → is_digit c ≡ true
digit_is c h = let r = digit_from_value c h in let low : nat_le 48 c ≡ true = le-leb 48 c r.0 in rw low (le-leb c 57 r.1)

digit_runs : (c : ℕ) → is_digit c ≡ true → is_run_byte c ≡ true
digit_runs c h = grind arith

digit_no_letter : (c : ℕ) → is_digit c ≡ true → is_letter c ≡ false
digit_no_letter c h = grind arith

run_opens : (b : ℕ) → is_run_byte b ≡ true → opening_of b ≡ Run
run_opens b h = let no : is_blank b ≡ false = grind arith in rw (no, h) refl

digits_run : (ds : List ℕ) → AllDigits 10 ds → list_all is_run_byte ds ≡ true
digits_run [] d = refl
digits_run (c ∷ cs) d = rw (digit_runs c (digit_is c d.0)) (digits_run cs d.1)

record IsDigits (ds : List ℕ) : Type 0 where
  runs : list_all is_run_byte ds ≡ true
  some : 0 < length ds
  digit : begins_with is_digit ds ≡ true
  letter : begins_with is_letter ds ≡ false

decimal_digits : (n : ℕ) → n < 10 ^ 64 → IsDigits (decimal n)
decimal_digits n small = let d = (decimal_is_IsNumeral_wide n small).0 in by (decimal n) d.0 d.1
  where
    by : (ds : List ℕ) → 0 < length ds → AllDigits 10 ds → IsDigits ds
    by [] some d = absurd (omega (arith, some))
    by (c ∷ cs) some d = let k = digit_is c d.0 in record { runs = digits_run (c ∷ cs) d; some = some; digit = k; letter = digit_no_letter c k }

-- a run before bytes that don't go on with it

run_len_seam : (bs rest : List ℕ) → list_all is_run_byte bs ≡ true → begins_with is_more rest ≡ false → run_len (bs ++ rest) ≡ length bs
run_len_seam [] [] h k = refl
run_len_seam [] (b ∷ rest) h k = let no : is_run_byte b ≡ false = or_left (is_run_byte b) (b == 39) k in rw no refl
  where
    or_left : (a c : Bool) → (a || c) ≡ false → a ≡ false
    or_left true c e = absurd (let z : true ≡ false = e in cc)
    or_left false c e = refl
run_len_seam (b ∷ bs) rest h k = let yes : is_run_byte b ≡ true = first_so _ _ h in rw yes (ap (λ n. suc n) (run_len_seam bs rest (second_so (is_run_byte b) _ h) k))

run_cut : (bs rest : List ℕ) (n : ℕ) (a : Bool) (ts : List Placed) → 0 < length bs → list_all is_run_byte bs ≡ true → begins_with is_more rest ≡ false
    → Cut (n + length bs) true rest ts → Cut n a (bs ++ rest) (placed n (run_token bs) ∷ ts)
run_cut [] rest n a ts some h k c = absurd (omega (arith, some))
run_cut (b ∷ bs) rest n a ts some h k c =
    let len : run_len (b ∷ bs ++ rest) ≡ length (b ∷ bs) = run_len_seam (b ∷ bs) rest h k in
    let taken : take (run_len (b ∷ bs ++ rest)) (b ∷ bs ++ rest) ≡ b ∷ bs = ap (λ j. take j (b ∷ bs ++ rest)) len ∙ take-append_seam (b ∷ bs) rest in
    let left : drop (run_len (b ∷ bs ++ rest)) (b ∷ bs ++ rest) ≡ rest = ap (λ j. drop j (b ∷ bs ++ rest)) len ∙ drop-append_seam (b ∷ bs) rest in
    let c' : Cut (n + run_len (b ∷ bs ++ rest)) true (drop (run_len (b ∷ bs ++ rest)) (b ∷ bs ++ rest)) ts =
    subst (λ (j : ℕ). Cut (n + j) true (drop (run_len (b ∷ bs ++ rest)) (b ∷ bs ++ rest)) ts) (sym len) (subst (λ (l : List ℕ). Cut (n + length (b ∷ bs)) true l ts) (sym left) c) in
    subst (λ (l : List ℕ). Cut n a (b ∷ bs ++ rest) (placed n (run_token l) ∷ ts)) taken (cut_run (run_opens b (first_so _ _ h)) c')

word_made : (x : Mark) → IsWord x → run_token (mark_bytes x) ≡ t.Mark x
word_made x w = rw (w.letter, w.found) refl

-- a name is no capital word

same : (xs ys : List ℕ) → bytes_eq xs ys ≡ true → xs ≡ ys
same xs ys h = grind (arith, bytes_eq-Decides)

among_is : (ms : List Mark) (bs : List ℕ) (x : Mark) → mark_among ms bs ≡ Some x → mark_bytes x ≡ bs
among_is [] bs x h = cc
among_is (y ∷ ms) bs x h = by (bytes_eq (mark_bytes y) bs) refl (among_is ms bs x)
  where
    by : (b : Bool) → bytes_eq (mark_bytes y) bs ≡ b → (mark_among ms bs ≡ Some x → mark_bytes x ≡ bs) → mark_bytes x ≡ bs
    by true e later = let k : Some y ≡ Some x = sym (rw e refl) ∙ h in let j : y ≡ x = cc in ap mark_bytes (sym j) ∙ same (mark_bytes y) bs e
    by false e later = later (sym (rw e refl) ∙ h)

abbrev names_none : Kind → Bool
names_none (a_mark x) = not (is_name (mark_bytes x))
names_none _ = true

mark_no_name : (x : Mark) → is_name (mark_bytes x) ≡ false
unfolding is_name body_words source_words order_words value_words test_words case_words
mark_no_name x = not_true (is_name (mark_bytes x)) (each names_none refl (a_mark x))
  where
    not_true : (b : Bool) → not b ≡ true → b ≡ false
    not_true true h = sym h
    not_true false h = refl

name_no_word : (s : List ℕ) → is_name s ≡ true → word_of s ≡ None
name_no_word s h = by (word_of s) refl
  where
    by : (o : Option Mark) → word_of s ≡ o → word_of s ≡ None
    by None e = e
    by (Some x) e = absurd (false≢true (sym (mark_no_name x) ∙ ap is_name (among_is words s x e) ∙ h))

record NameParts (s : List ℕ) : Type 0 where
  letter : begins_with is_letter s ≡ true
  runs : list_all is_run_byte s ≡ true
  some : 0 < length s

name_parts : (s : List ℕ) → is_name s ≡ true → NameParts s
unfolding is_name
name_parts [] h = absurd (false≢true h)
name_parts (b ∷ bs) h = record { letter = first_so _ _ h; runs = first_so _ _ (second_so (begins_with_letter (b ∷ bs)) _ h); some = omega arith }

name_made : (s : List ℕ) → is_name s ≡ true → run_token s ≡ t.Name s
name_made s h = rw ((name_parts s h).letter, name_no_word s h, h) refl

int_made : (n : ℤ) → is_wide_int n ≡ true → int_token (int_of (int_text n)) ≡ t.Int n
int_made n h = ap int_token (int_of-spelled (int_text n) n (refl, h))

-- a text in quotes

quoted_seam : (s rest : List ℕ) → begins_with is_more rest ≡ false → quoted false ((doubled s ++ (39 ∷ [])) ++ rest) ≡ Some (record { content = s; taken = length (doubled s ++ (39 ∷ [])) })
quoted_seam [] [] k = refl
quoted_seam [] (b ∷ rest) k = let no : (b == 39) ≡ false = or_right (is_run_byte b) (b == 39) k in rw no refl
  where
    or_right : (a c : Bool) → (a || c) ≡ false → c ≡ false
    or_right true c e = absurd (let z : true ≡ false = e in cc)
    or_right false c e = e
quoted_seam (b ∷ bs) rest k = by (b == 39) refl (quoted_seam bs rest k)
  where
    by : (q : Bool) → (b == 39) ≡ q → quoted false ((doubled bs ++ (39 ∷ [])) ++ rest) ≡ Some (record { content = bs; taken = length (doubled bs ++ (39 ∷ [])) })
        → quoted false ((doubled (b ∷ bs) ++ (39 ∷ [])) ++ rest) ≡ Some (record { content = b ∷ bs; taken = length (doubled (b ∷ bs) ++ (39 ∷ [])) })
    by true e ih = let is : b ≡ 39 = eqb-true b 39 e in rw e (ap (λ o. longer (holding 39 o)) ih ∙ ap (λ c. Some (record { content = c ∷ bs; taken = suc (suc (length (doubled bs ++ (39 ∷ [])))) })) (sym is))
    by false e ih = rw (e, e) (ap (λ o. holding b o) ih)

text_cut : (s rest : List ℕ) (n : ℕ) (a : Bool) (ts : List Placed) → is_utf8 s ≡ true → begins_with is_more rest ≡ false
    → Cut (n + length (token_bytes (t.Text s))) false rest ts → Cut n a (token_bytes (t.Text s) ++ rest) (placed n (t.Text s) ∷ ts)
text_cut s rest n a ts u k c =
    let inner : List ℕ = doubled s ++ (39 ∷ []) in
    cut_text {q = record { content = s; taken = length inner }} refl (quoted_seam s rest k) (IsUtf8-from_is_utf8 s u)
    (subst (λ (l : List ℕ). Cut (n + suc (length inner)) false l ts) (sym (drop-append_seam inner rest)) c)

-- a token before bytes that don't go on with it
token_cut : (y : Token) (rest : List ℕ) (n : ℕ) (a : Bool) (ts : List Placed) → is_spellable y ≡ true → (is_number y ≡ true → a ≡ false) → (is_open y ≡ false → begins_with is_more rest ≡ false)
    → Cut (n + length (token_bytes y)) (is_run y) rest ts → Cut n a (token_bytes y ++ rest) (placed n y ∷ ts)
token_cut (t.Mark x) rest n a ts good number shut c = by (view x)
  where
    by : IsWord x ⊎ IsSign x → Cut n a (mark_bytes x ++ rest) (placed n (t.Mark x) ∷ ts)
    by (inl w) =
        let some : 0 < length (mark_bytes x) = letters (mark_bytes x) w.letter in
        subst (λ (y : Token). Cut n a (mark_bytes x ++ rest) (placed n y ∷ ts)) (word_made x w)
        (run_cut (mark_bytes x) rest n a ts some w.runs (shut w.shut) (subst (λ (b : Bool). Cut (n + length (mark_bytes x)) b rest ts) w.letter c))
      where
        letters : (bs : List ℕ) → begins_with is_letter bs ≡ true → 0 < length bs
        letters [] h = absurd (false≢true h)
        letters (b ∷ bs) h = omega arith
    by (inr s) = s.cuts n a rest ts c
token_cut (t.Name s) rest n a ts good number shut c =
    let p = name_parts s good in
    subst (λ (y : Token). Cut n a (s ++ rest) (placed n y ∷ ts)) (name_made s good) (run_cut s rest n a ts p.some p.runs (shut refl) c)
token_cut (t.Int (pos k)) rest n a ts good number shut c =
    let small : k < 10 ^ 64 = omega (arith, ltb-true k (2 ^ 127) good) in
    let d = decimal_digits k small in
    let is : run_token (decimal k) ≡ t.Int (pos k) = rw d.letter (int_made (pos k) good) in
    subst (λ (y : Token). Cut n a (decimal k ++ rest) (placed n y ∷ ts)) is (run_cut (decimal k) rest n a ts d.some d.runs (shut refl) c)
token_cut (t.Int (negsuc k)) rest n a ts good number shut c =
    let small : suc k < 10 ^ 64 = omega (arith, ltb-true k (2 ^ 127) good) in
    let ds : List ℕ = decimal (suc k) in
    let d = decimal_digits (suc k) small in
    let len : run_len (ds ++ rest) ≡ length ds = run_len_seam ds rest d.runs (shut refl) in
    let taken : take (run_len (ds ++ rest)) (ds ++ rest) ≡ ds = ap (λ j. take j (ds ++ rest)) len ∙ take-append_seam ds rest in
    let left : drop (run_len (ds ++ rest)) (ds ++ rest) ≡ rest = ap (λ j. drop j (ds ++ rest)) len ∙ drop-append_seam ds rest in
    let c' : Cut (n + suc (run_len (ds ++ rest))) true (drop (run_len (ds ++ rest)) (ds ++ rest)) ts =
    subst (λ (j : ℕ). Cut (n + suc j) true (drop (run_len (ds ++ rest)) (ds ++ rest)) ts) (sym len) (subst (λ (l : List ℕ). Cut (n + suc (length ds)) true l ts) (sym left) c) in
    let is : int_token (int_of (45 ∷ take (run_len (ds ++ rest)) (ds ++ rest))) ≡ t.Int (negsuc k) = ap (λ (l : List ℕ). int_token (int_of (45 ∷ l))) taken ∙ int_made (negsuc k) good in
    subst (λ (b : Bool). Cut n b (45 ∷ (ds ++ rest)) (placed n (t.Int (negsuc k)) ∷ ts)) (sym (number refl))
    (subst (λ (y : Token). Cut n false (45 ∷ (ds ++ rest)) (placed n y ∷ ts)) is (cut_negative refl (digit_seam ds d.digit) c'))
  where
    digit_seam : (ds : List ℕ) → begins_with is_digit ds ≡ true → begins_with is_digit (ds ++ rest) ≡ true
    digit_seam [] h = absurd (false≢true h)
    digit_seam (e ∷ es) h = h
token_cut (t.Text s) rest n a ts good number shut c = text_cut s rest n a ts good (shut refl) c
token_cut t.Broken rest n a ts good number shut c = absurd (false≢true good)

-- where no space stands, a sign does

abbrev is_sign : Token → Bool
is_sign y = is_close y || is_mark m.Open y

no_gap : (a b c d : Bool) → not (a || b || c && d) ≡ false → (a ≡ true) ⊎ ((b || d) ≡ true)
no_gap true b c d h = inl refl
no_gap false true c d h = inr refl
no_gap false false true true h = inr refl
no_gap false false true false h = absurd (false≢true (sym h))
no_gap false false false d h = absurd (false≢true (sym h))

abbrev not_more : List ℕ → Bool
not_more [] = false
not_more (b ∷ bs) = not (is_more b)

abbrev sign_stops : Kind → Bool
sign_stops (a_mark x) = not (is_sign (t.Mark x)) || not_more (mark_bytes x)
sign_stops _ = true

implied : (a b : Bool) → (not a || b) ≡ true → a ≡ true → b ≡ true
implied true b h k = h
implied false b h k = absurd (false≢true k)

stops : (bs rest : List ℕ) → not_more bs ≡ true → begins_with is_more (bs ++ rest) ≡ false
stops [] rest h = absurd (false≢true h)
stops (b ∷ bs) rest h = by (is_more b) h
  where
    by : (c : Bool) → not c ≡ true → c ≡ false
    by true e = sym e
    by false e = refl

sign_first : (y : Token) (rest : List ℕ) → is_sign y ≡ true → begins_with is_more (token_bytes y ++ rest) ≡ false
sign_first (t.Mark x) rest h = stops (mark_bytes x) rest (implied (is_sign (t.Mark x)) (not_more (mark_bytes x)) (each sign_stops refl (a_mark x)) h)
sign_first (t.Name s) rest h = absurd (false≢true h)
sign_first (t.Int n) rest h = absurd (false≢true h)
sign_first (t.Text s) rest h = absurd (false≢true h)
sign_first t.Broken rest h = absurd (false≢true h)

abbrev open_is_no_run : Kind → Bool
open_is_no_run (a_mark x) = not (is_open (t.Mark x)) || not (is_run (t.Mark x))
open_is_no_run _ = true

open_no_run : (x : Token) → is_open x ≡ true → is_run x ≡ false
open_no_run (t.Mark x) h = by (is_run (t.Mark x)) (implied (is_open (t.Mark x)) (not (is_run (t.Mark x))) (each open_is_no_run refl (a_mark x)) h)
  where
    by : (c : Bool) → not c ≡ true → c ≡ false
    by true e = sym e
    by false e = refl
open_no_run (t.Name s) h = absurd (false≢true h)
open_no_run (t.Int n) h = absurd (false≢true h)
open_no_run (t.Text s) h = refl
open_no_run t.Broken h = refl

number_no_sign : (y : Token) → is_number y ≡ true → is_sign y ≡ true → ⊥
number_no_sign (t.Mark x) h k = false≢true h
number_no_sign (t.Name s) h k = false≢true h
number_no_sign (t.Int n) h k = false≢true k
number_no_sign (t.Text s) h k = false≢true h
number_no_sign t.Broken h k = false≢true h

-- what stands behind a token doesn't go on with it
rest_stops : (y : Token) (ys : Tokens) → is_open y ≡ false → begins_with is_more (spaced (Some y) ys) ≡ false
rest_stops y [] h = refl
rest_stops y (z ∷ zs) h = by (has_gap y z) refl
  where
    told : has_gap y z ≡ false → is_sign z ≡ true
    told e = from (no_gap (is_open y) (is_close z) (is_caller y) (is_mark m.Open z) e)
      where
        from : (is_open y ≡ true) ⊎ (is_sign z ≡ true) → is_sign z ≡ true
        from (inl o) = absurd (false≢true (sym h ∙ o))
        from (inr s) = s

    by : (b : Bool) → has_gap y z ≡ b → begins_with is_more (spaced (Some y) (z ∷ zs)) ≡ false
    by true e = rw e refl
    by false e = rw e (sign_first z (spaced (Some z) zs) (told e))

abbrev after : Option Token → Bool
after None = false
after (Some x) = is_run x

-- the place of a token behind another
abbrev pub start : Option Token → Token → ℕ → ℕ
start None y n = n
start (Some x) y n = if has_gap x y then n + 1 else n

-- the tokens with the places where they are spelled
abbrev pub laid : ℕ → Option Token → Tokens → List Placed
laid n x [] = []
laid n x (y ∷ ys) = placed (start x y n) y ∷ laid (start x y n + length (token_bytes y)) (Some y) ys

cut_here : (y : Token) (ys : Tokens) (n : ℕ) (a : Bool) → is_spellable y ≡ true → (is_number y ≡ true → a ≡ false) → Cut (n + length (token_bytes y)) (is_run y) (spaced (Some y) ys) (laid (n + length (token_bytes y)) (Some y) ys)
    → Cut n a (token_bytes y ++ spaced (Some y) ys) (placed n y ∷ laid (n + length (token_bytes y)) (Some y) ys)
cut_here y ys n a good number c = token_cut y (spaced (Some y) ys) n a (laid (n + length (token_bytes y)) (Some y) ys) good number (λ o. rest_stops y ys o) c

pub spaced_cut : (x : Option Token) (ts : Tokens) (n : ℕ) → list_all is_spellable ts ≡ true → Cut n (after x) (spaced x ts) (laid n x ts)
spaced_cut x [] n h = cut_end
spaced_cut None (y ∷ ys) n h = cut_here y ys n false (first_so _ _ h) (λ k. refl) (spaced_cut (Some y) ys (n + length (token_bytes y)) (second_so (is_spellable y) _ h))
spaced_cut (Some x) (y ∷ ys) n h = by (has_gap x y) refl (λ k. spaced_cut (Some y) ys k (second_so (is_spellable y) _ h))
  where
    good : is_spellable y ≡ true
    good = first_so _ _ h

    number : has_gap x y ≡ false → is_number y ≡ true → is_run x ≡ false
    number e k = from (no_gap (is_open x) (is_close y) (is_caller x) (is_mark m.Open y) e)
      where
        from : (is_open x ≡ true) ⊎ (is_sign y ≡ true) → is_run x ≡ false
        from (inl o) = open_no_run x o
        from (inr s) = absurd (number_no_sign y k s)

    by : (b : Bool) → has_gap x y ≡ b → ((k : ℕ) → Cut k (is_run y) (spaced (Some y) ys) (laid k (Some y) ys)) → Cut n (is_run x) (spaced (Some x) (y ∷ ys)) (laid n (Some x) (y ∷ ys))
    by true e next = rw e (cut_blank refl (cut_here y ys (n + 1) false good (λ k. refl) (next (n + 1 + length (token_bytes y)))))
    by false e next = rw e (cut_here y ys n (is_run x) good (number e) (next (n + length (token_bytes y))))
