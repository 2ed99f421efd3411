-- Spelled characters of IRIs and texts.
use Rattle.std.proofs.Common.{◌≡◌, ◌<◌, ◌≤◌, ℕ, ◌+◌, ◌*◌, ◌/◌, ◌%◌, ◌⊎◌, inl, inr, Bool, true, false, cond, eqb, List, [], ◌∷◌, ◌++◌, refl, sym, ap, ◌∙◌, arith, append-nil, lit<, ltb}
use Rattle.std.specs.Prelude.{Some, None, codes, nat_lt}
use Rattle.std.specs.Cmp.{first_so, second_so}
use Rattle.std.specs.List.{flat_map}
use Rattle.std.specs.Str.{IsAscii, IsUtf8, chars, all_scalars}
use Rattle.std.specs.Char.{digit_value}
use Rattle.std.proofs.Math.Utf8.{scalar, low_scalar, encode, encodes}
use Rattle.std.proofs.lemmas.Bool.Decides.{nat_tests, Decides-eqb}
use Rattle.std.proofs.lemmas.Str.{encodes-append, encodes-IsAscii, encodes-chars, scalars-chars, chars-encodes}
use Rattle.std.proofs.lemmas.Grind.{flat_map-append}
use Rattle.std.proofs.lemmas.Str.Ascii.{IsAscii-nil, IsAscii-cons}
use Rattle.rdf_meaning.specs.Spelling.{is_escaped, hex_digit, spelled_iri_byte, spelled_text_byte}
use Rattle.line_meaning.specs.declared.enclosure.Enclosure.TheVariants.{Iri, Text}
use Rattle.line_meaning.specs.Characters.{hex_from, is_scalar}
use Rattle.line_meaning.specs.Grammar.{SpellsCharacter, SpellsCharacters}

-- a hexadecimal digit is read as its number
digit_back : (n : ℕ) → n < 16 → digit_value (hex_digit n) ≡ n
digit_back n lt = grind (arith, nat_tests)

escaped_small : (c : ℕ) → is_escaped c ≡ true → c < 128
escaped_small c e = grind (arith, nat_tests)

high_raw : (c : ℕ) → 128 ≤ c → is_escaped c ≡ false
high_raw c le = grind (arith, nat_tests)

low_so : (c : ℕ) → nat_lt c 128 ≡ true → c < 128
low_so c e = grind (arith, nat_tests)

high_so : (c : ℕ) → nat_lt c 128 ≡ false → 128 ≤ c
high_so c e = grind (arith, nat_tests)

not_low : (c : ℕ) → 128 ≤ c → nat_lt c 128 ≡ false
not_low c le = grind (arith, nat_tests)

low_true : (d : ℕ) → d < 16 → nat_lt d 16 ≡ true
low_true d lt = grind (arith, nat_tests)

-- bytes of ASCII
abbrev pub Small : List ℕ → Type 0
Small [] = Unit {0}
Small (b ∷ bs) = (b < 128) × Small bs

pub small_ascii : (bs : List ℕ) → Small bs → IsAscii bs
small_ascii [] s = IsAscii-nil
small_ascii (b ∷ bs) s = IsAscii-cons b bs s.0 (small_ascii bs s.1)

small_scalars : (bs : List ℕ) → Small bs → all_scalars bs ≡ true
small_scalars [] s = refl
small_scalars (b ∷ bs) s = rw (low_scalar b (omega arith), small_scalars bs s.1) refl

scalars_append : (xs ys : List ℕ) → all_scalars xs ≡ true → all_scalars ys ≡ true → all_scalars (xs ++ ys) ≡ true
scalars_append [] ys a b = b
scalars_append (x ∷ xs) ys a b = rw (first_so (scalar x) (all_scalars xs) a) (scalars_append xs ys (second_so (scalar x) (all_scalars xs) a) b)

encode_small : (c : ℕ) → c < 128 → encode c ≡ c ∷ []
encode_small c lt = sym (append-nil (encode c)) ∙ encodes-IsAscii (c ∷ []) (small_ascii (c ∷ []) (lt, tt))

high_or_low : (c : ℕ) → (c < 128) ⊎ (128 ≤ c)
high_or_low c = by_test (nat_lt c 128) refl
  where
    by_test : (b : Bool) → nat_lt c 128 ≡ b → (c < 128) ⊎ (128 ≤ c)
    by_test true e = inl (low_so c e)
    by_test false e = inr (high_so c e)

-- a way of writing characters that changes none beyond ASCII
module _ (f : ℕ → List ℕ) (small : (c : ℕ) → c < 128 → Small (f c)) (high : (c : ℕ) → 128 ≤ c → f c ≡ c ∷ []) where
  by_size : (x y : Bool) (c : ℕ)
      → flat_map f (cond x ((192 + c / 64) ∷ (128 + c % 64) ∷ []) (cond y ((224 + c / 4096) ∷ (128 + c / 64 % 64) ∷ (128 + c % 64) ∷ []) ((240 + c / 262144) ∷ (128 + c / 4096 % 64) ∷ (128 + c / 64 % 64) ∷ (128 + c % 64) ∷ [])))
      ≡ cond x ((192 + c / 64) ∷ (128 + c % 64) ∷ []) (cond y ((224 + c / 4096) ∷ (128 + c / 64 % 64) ∷ (128 + c % 64) ∷ []) ((240 + c / 262144) ∷ (128 + c / 4096 % 64) ∷ (128 + c / 64 % 64) ∷ (128 + c % 64) ∷ []))
  by_size true y c = rw (high (192 + c / 64) (omega arith), high (128 + c % 64) (omega arith)) refl
  by_size false true c = rw (high (224 + c / 4096) (omega arith), high (128 + c / 64 % 64) (omega arith), high (128 + c % 64) (omega arith)) refl
  by_size false false c =
      rw (high (240 + c / 262144) (omega arith), high (128 + c / 4096 % 64) (omega arith), high (128 + c / 64 % 64) (omega arith), high (128 + c % 64) (omega arith)) refl

  bytes_kept : (c : ℕ) → 128 ≤ c → flat_map f (encode c) ≡ encode c
  unfolding encode
  bytes_kept c le = rw (not_low c le) (by_size (ltb c 2048) (ltb c 65536) c)

  one_char : (c : ℕ) → flat_map f (encode c) ≡ encodes (f c)
  one_char c = by_half (high_or_low c)
    where
      by_half : (c < 128) ⊎ (128 ≤ c) → flat_map f (encode c) ≡ encodes (f c)
      by_half (inl lt) = ap (λ (t : List ℕ). flat_map f t) (encode_small c lt) ∙ append-nil (f c) ∙ sym (encodes-IsAscii (f c) (small_ascii (f c) (small c lt)))
      by_half (inr le) = bytes_kept c le ∙ sym (append-nil (encode c)) ∙ ap (λ (t : List ℕ). encodes t) (sym (high c le))

  all_chars : (cs : List ℕ) → flat_map f (encodes cs) ≡ encodes (flat_map f cs)
  all_chars [] = refl
  all_chars (c ∷ cs) =
      flat_map-append f (encode c) (encodes cs) ∙ ap (λ (t : List ℕ). t ++ flat_map f (encodes cs)) (one_char c)
      ∙ ap (λ (t : List ℕ). encodes (f c) ++ t) (all_chars cs) ∙ sym (encodes-append (f c) (flat_map f cs))

  one_scalar : (c : ℕ) → scalar c ≡ true → all_scalars (f c) ≡ true
  one_scalar c s = by_half (high_or_low c)
    where
      by_half : (c < 128) ⊎ (128 ≤ c) → all_scalars (f c) ≡ true
      by_half (inl lt) = small_scalars (f c) (small c lt)
      by_half (inr le) = rw (high c le, s) refl

  flat_scalars : (cs : List ℕ) → all_scalars cs ≡ true → all_scalars (flat_map f cs) ≡ true
  flat_scalars [] s = refl
  flat_scalars (c ∷ cs) s =
      scalars_append (f c) (flat_map f cs) (one_scalar c (first_so (scalar c) (all_scalars cs) s)) (flat_scalars cs (second_so (scalar c) (all_scalars cs) s))

  spelled_is : (text : List ℕ) → IsUtf8 text → flat_map f text ≡ encodes (flat_map f (chars text))
  spelled_is text u = ap (λ (t : List ℕ). flat_map f t) (sym (encodes-chars text u)) ∙ all_chars (chars text)

  pub spelled_utf8 : (text : List ℕ) → IsUtf8 text → IsUtf8 (flat_map f text)
  spelled_utf8 text u = (flat_map f (chars text), (flat_scalars (chars text) (scalars-chars text u), sym (spelled_is text u)))

  -- its characters are the written characters of the text
  pub spelled_chars : (text : List ℕ) → IsUtf8 text → chars (flat_map f text) ≡ flat_map f (chars text)
  spelled_chars text u =
      ap (λ (t : List ℕ). chars t) (spelled_is text u) ∙ chars-encodes (flat_map f (chars text)) (flat_scalars (chars text) (scalars-chars text u))

-- IRIs
hex_small : (n : ℕ) → n < 16 → hex_digit n < 128
hex_small n lt = grind (arith, nat_tests)

small_scalar : (c : ℕ) → c < 128 → is_scalar c ≡ true
small_scalar c lt = grind (arith, nat_tests)

pub iri_small : (c : ℕ) → c < 128 → Small (spelled_iri_byte c)
iri_small c lt = by_test (is_escaped c)
  where
    by_test : (b : Bool) → Small (cond b (codes "\\u00" ++ (hex_digit (c / 16) ∷ hex_digit (c % 16) ∷ [])) (c ∷ []))
    by_test true = (lit< tt, (lit< tt, (lit< tt, (lit< tt, (hex_small (c / 16) (omega arith), (hex_small (c % 16) (omega arith), tt))))))
    by_test false = (lt, tt)

pub iri_high : (c : ℕ) → 128 ≤ c → spelled_iri_byte c ≡ c ∷ []
iri_high c le = rw (high_raw c le) refl

step_with : (v n d : ℕ) (cs : List ℕ) → v ≡ d → d < 16 → cond (nat_lt v 16) (hex_from (n * 16 + v) cs) None ≡ hex_from (n * 16 + d) cs
step_with v n d cs e lt = rw (e, low_true d lt) refl

hex_step : (n c d : ℕ) (cs : List ℕ) → digit_value c ≡ d → d < 16 → hex_from n (c ∷ cs) ≡ hex_from (n * 16 + d) cs
hex_step n c d cs e lt = step_with (digit_value c) n d cs e lt

number_back : (c : ℕ) → c < 128 → hex_from 0 (48 ∷ 48 ∷ hex_digit (c / 16) ∷ hex_digit (c % 16) ∷ []) ≡ Some c
number_back c lt =
    let high : c / 16 < 16 = omega arith in
    let low : c % 16 < 16 = omega arith in
    let sum : (0 * 16 + c / 16) * 16 + c % 16 ≡ c = omega arith in
    hex_step 0 (hex_digit (c / 16)) (c / 16) (hex_digit (c % 16) ∷ []) (digit_back (c / 16) high) high
    ∙ hex_step (0 * 16 + c / 16) (hex_digit (c % 16)) (c % 16) [] (digit_back (c % 16) low) low
    ∙ ap (λ (x : ℕ). Some x) sum

iri_cases : (b : Bool) (c : ℕ) → is_escaped c ≡ b → SpellsCharacter Iri (cond b (codes "\\u00" ++ (hex_digit (c / 16) ∷ hex_digit (c % 16) ∷ [])) (c ∷ [])) c
iri_cases true c e = inr (inr (record {
  mark = 117;
  digits = 48 ∷ 48 ∷ hex_digit (c / 16) ∷ hex_digit (c % 16) ∷ [];
  count = refl;
  number = number_back c (escaped_small c e);
  scalar = small_scalar c (escaped_small c e);
  whole = refl;
}))
iri_cases false c e = inl (record { raw = rw e refl; whole = refl })

pub iri_spelled : (cs : List ℕ) → SpellsCharacters Iri (flat_map spelled_iri_byte cs) cs
iri_spelled [] = refl
iri_spelled (c ∷ cs) = (spelled_iri_byte c, flat_map spelled_iri_byte cs, refl, iri_cases (is_escaped c) c refl, iri_spelled cs)

-- texts
text_small_cases : (a b d e g : Bool) (c : ℕ) → c < 128
    → Small (cond a (codes "\\t") (cond b (codes "\\n") (cond d (codes "\\r") (cond e (codes "\\\"") (cond g (codes "\\\\") (c ∷ []))))))
text_small_cases true b d e g c lt = (lit< tt, (lit< tt, tt))
text_small_cases false true d e g c lt = (lit< tt, (lit< tt, tt))
text_small_cases false false true e g c lt = (lit< tt, (lit< tt, tt))
text_small_cases false false false true g c lt = (lit< tt, (lit< tt, tt))
text_small_cases false false false false true c lt = (lit< tt, (lit< tt, tt))
text_small_cases false false false false false c lt = (lt, tt)

pub text_small : (c : ℕ) → c < 128 → Small (spelled_text_byte c)
text_small c lt = text_small_cases (eqb c 9) (eqb c 10) (eqb c 13) (eqb c 34) (eqb c 92) c lt

differs : (c d : ℕ) → d < c → eqb c d ≡ false
differs c d lt = grind (arith, nat_tests)

pub text_high : (c : ℕ) → 128 ≤ c → spelled_text_byte c ≡ c ∷ []
text_high c le = rw (differs c 9 (omega arith), differs c 10 (omega arith), differs c 13 (omega arith), differs c 34 (omega arith), differs c 92 (omega arith)) refl

text_cases : (a b d e g : Bool) (c : ℕ) → eqb c 9 ≡ a → eqb c 10 ≡ b → eqb c 13 ≡ d → eqb c 34 ≡ e → eqb c 92 ≡ g
    → SpellsCharacter Text (cond a (codes "\\t") (cond b (codes "\\n") (cond d (codes "\\r") (cond e (codes "\\\"") (cond g (codes "\\\\") (c ∷ [])))))) c
text_cases true b d e g c ta tb td te tg = let at : c ≡ 9 = (Decides-eqb c 9).0 ta in rw at (inr (inl (record { letter = 116; short = refl; whole = refl })))
text_cases false true d e g c ta tb td te tg = let at : c ≡ 10 = (Decides-eqb c 10).0 tb in rw at (inr (inl (record { letter = 110; short = refl; whole = refl })))
text_cases false false true e g c ta tb td te tg = let at : c ≡ 13 = (Decides-eqb c 13).0 td in rw at (inr (inl (record { letter = 114; short = refl; whole = refl })))
text_cases false false false true g c ta tb td te tg = let at : c ≡ 34 = (Decides-eqb c 34).0 te in rw at (inr (inl (record { letter = 34; short = refl; whole = refl })))
text_cases false false false false true c ta tb td te tg = let at : c ≡ 92 = (Decides-eqb c 92).0 tg in rw at (inr (inl (record { letter = 92; short = refl; whole = refl })))
text_cases false false false false false c ta tb td te tg = inl (record { raw = rw (te, tg, tb, td) refl; whole = refl })

pub text_spelled : (cs : List ℕ) → SpellsCharacters Text (flat_map spelled_text_byte cs) cs
text_spelled [] = refl
text_spelled (c ∷ cs) = (spelled_text_byte c, flat_map spelled_text_byte cs, refl, text_cases (eqb c 9) (eqb c 10) (eqb c 13) (eqb c 34) (eqb c 92) c refl refl refl refl refl, text_spelled cs)
