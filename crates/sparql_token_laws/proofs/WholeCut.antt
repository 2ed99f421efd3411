-- The cut of a whole text.
use Rattle.std.proofs.Common.{◌≡◌, ◌≤◌, ◌<◌, ℕ, zero, suc, ◌+◌, ◌⊎◌, inl, inr, Bool, true, false, cond, eqb, List, [], ◌∷◌, ◌++◌, length, take, refl, sym, ap, ◌∙◌, subst, arith}
use Rattle.std.specs.Prelude.{Result, Ok, Err, chars, encode_utf8_all, IsUtf8, nat_le}
use Rattle.std.specs.Str.{IsValidUpTo, is_utf8}
use Rattle.std.specs.Str.Lossy.{valid_len_up_to, utf8_valid_len}
use Rattle.std.specs.Char.{len_utf8}
use Rattle.std.proofs.lemmas.Bool.Decides.{nat_tests}
use Rattle.std.proofs.lemmas.List.{length-append, take_all, length-take-le}
use Rattle.std.proofs.lemmas.Str.{encodes-append, encodes-chars, IsUtf8-nil, IsUtf8-from_is_utf8, is_utf8-from_IsUtf8, utf8_valid_len_le, utf8_valid_len-IsUtf8, utf8_valid_len-IsValidUpTo}
use Rattle.sparql_meaning.specs.declared.token.Token.{Token}
use Rattle.sparql_meaning.specs.Cut.{size, sound_front, cut_from, cut_sound, cut}
use Rattle.sparql_token_laws.specs.Cuts.{Cuts, cut_done, cut_blank, cut_comment, cut_token, IsCut, NothingBegins, IsSoundTo, BreaksAt}
use Rattle.sparql_token_laws.specs.Laws.{CutIsRight, CutIsOnly}
use Rattle.sparql_token_laws.proofs.Basics.{chosen_or}
use Rattle.sparql_token_laws.proofs.Places.{size_on}
use Rattle.sparql_token_laws.proofs.CutOnly.{prepended, computed, all_prepended, bad_prepended, stops}
use Rattle.sparql_token_laws.proofs.CutRight.{Right, right}

-- ---- as far as the text is UTF-8

valid_by : (bytes : List ℕ) (n : ℕ) (b : Bool) → is_utf8 (take (suc n) bytes) ≡ b → IsUtf8 (take (valid_len_up_to bytes n) bytes) → IsUtf8 (take (cond b (suc n) (valid_len_up_to bytes n)) bytes)
valid_by bytes n true e u = IsUtf8-from_is_utf8 (take (suc n) bytes) e
valid_by bytes n false e u = u

valid_front : (bytes : List ℕ) (n : ℕ) → IsUtf8 (take (valid_len_up_to bytes n) bytes)
valid_front bytes zero = IsUtf8-nil
valid_front bytes (suc n) = valid_by bytes n (is_utf8 (take (suc n) bytes)) refl (valid_front bytes n)

equal_or_less : (m n : ℕ) → m ≤ suc n → (m ≡ suc n) ⊎ (m ≤ n)
equal_or_less m n l = by (eqb m (suc n)) refl
  where
    by : (b : Bool) → eqb m (suc n) ≡ b → (m ≡ suc n) ⊎ (m ≤ n)
    by true e = inl (grind (arith, nat_tests))
    by false e = inr (grind (arith, nat_tests))

longest_by : (bytes : List ℕ) (n m : ℕ) (b : Bool) → is_utf8 (take (suc n) bytes) ≡ b → cond b (suc n) (valid_len_up_to bytes n) < m → m ≤ suc n → IsUtf8 (take m bytes) → (valid_len_up_to bytes n < m → m ≤ n → ⊥) → ⊥
longest_by bytes n m true e j k u shorter = omega (arith, j, k)
longest_by bytes n m false e j k u shorter = elim (equal_or_less m n k) [
  | inl i ↦ (let w : is_utf8 (take (suc n) bytes) ≡ true = is_utf8-from_IsUtf8 (take (suc n) bytes) (subst (λ (x : ℕ). IsUtf8 (take x bytes)) i u) in absurd cc)
  | inr i ↦ shorter j i
]

valid_longest : (bytes : List ℕ) (n m : ℕ) → valid_len_up_to bytes n < m → m ≤ n → IsUtf8 (take m bytes) → ⊥
valid_longest bytes zero m l k u = omega (arith, l, k)
valid_longest bytes (suc n) m l k u = longest_by bytes n m (is_utf8 (take (suc n) bytes)) refl l k u (λ j i. valid_longest bytes n m j i u)

whole_front : (bytes : List ℕ) (n : ℕ) → length bytes ≤ n → take n bytes ≡ bytes
whole_front bytes n l = take_all n bytes l

valid_to : (bytes : List ℕ) → (IsUtf8 bytes → ⊥) → IsValidUpTo bytes (utf8_valid_len bytes)
unfolding utf8_valid_len
valid_to bytes broken = record { short = by (utf8_valid_len_le bytes) refl; front = front; longest = longest }
  where
    front : IsUtf8 (take (valid_len_up_to bytes (length bytes)) bytes)
    front = valid_front bytes (length bytes)

    by : utf8_valid_len bytes ≤ length bytes → utf8_valid_len bytes ≡ valid_len_up_to bytes (length bytes) → valid_len_up_to bytes (length bytes) < length bytes
    by l e = below (eqb (valid_len_up_to bytes (length bytes)) (length bytes)) refl
      where
        below : (b : Bool) → eqb (valid_len_up_to bytes (length bytes)) (length bytes) ≡ b → valid_len_up_to bytes (length bytes) < length bytes
        below true i =
            let j : valid_len_up_to bytes (length bytes) ≡ length bytes = grind (arith, nat_tests) in
            absurd (broken (subst IsUtf8 (whole_front bytes (valid_len_up_to bytes (length bytes)) (omega (arith, j))) front))
        below false i = grind (arith, nat_tests)

    longest : (m : ℕ) → valid_len_up_to bytes (length bytes) < m → IsUtf8 (take m bytes) → ⊥
    longest m l u = within (nat_le m (length bytes)) refl
      where
        within : (b : Bool) → nat_le m (length bytes) ≡ b → ⊥
        within true i = valid_longest bytes (length bytes) m l (grind (arith, nat_tests)) u
        within false i = let j : length bytes ≤ m = grind (arith, nat_tests) in broken (subst IsUtf8 (whole_front bytes m j) u)

text_or_not : (bytes : List ℕ) (b : Bool) → is_utf8 bytes ≡ b → IsUtf8 bytes ⊎ (IsUtf8 bytes → ⊥)
text_or_not bytes true e = inl (IsUtf8-from_is_utf8 bytes e)
text_or_not bytes false e = inr (λ u. let w = is_utf8-from_IsUtf8 bytes u in absurd cc)

is_text : (bytes : List ℕ) → IsUtf8 bytes ⊎ (IsUtf8 bytes → ⊥)
is_text bytes = text_or_not bytes (is_utf8 bytes) refl

sound_len : (bytes : List ℕ) (n : ℕ) → IsSoundTo bytes n → utf8_valid_len bytes ≡ n
sound_len bytes n (inl s) = utf8_valid_len-IsUtf8 bytes s.0 ∙ sym s.1
sound_len bytes n (inr s) = utf8_valid_len-IsValidUpTo bytes n s

is_sound : (bytes : List ℕ) → IsSoundTo bytes (utf8_valid_len bytes)
is_sound bytes = elim (is_text bytes) [ inl u ↦ inl (u, utf8_valid_len-IsUtf8 bytes u) | inr u ↦ inr (valid_to bytes u) ]

all_test : (bytes : List ℕ) (n : ℕ) → n ≡ length bytes → eqb n (length bytes) ≡ true
all_test bytes n e = grind (arith, nat_tests)

short_test : (bytes : List ℕ) (n : ℕ) → n < length bytes → eqb n (length bytes) ≡ false
short_test bytes n e = grind (arith, nat_tests)

-- ---- how far a cut goes

size_append : (xs ys : List ℕ) → size (xs ++ ys) ≡ size xs + size ys
size_append xs ys = ap length (encodes-append xs ys) ∙ length-append (encode_utf8_all xs) (encode_utf8_all ys)

goes_to : (at end : ℕ) (cs rest : List ℕ) (ts : List Token) → Cuts at cs ts end rest → at + size cs ≡ end + size rest
goes_to _ _ _ _ _ cut_done = refl
goes_to at end _ rest ts (cut_blank {c = c} {cs = cs} b a) = omega (arith, goes_to (at + len_utf8 c) end cs rest ts a, size_on c cs)
goes_to at end _ rest ts (cut_comment comment back e l a) = omega (arith, goes_to (at + size (35 ∷ comment)) end back rest ts a, size_append (35 ∷ comment) back)
goes_to at end _ rest _ (cut_token {ts = ts} kind front back l a) = omega (arith, goes_to (at + size front) end back rest ts a, size_append front back)

-- a cut of all that is UTF-8 goes to where that ends
to_its_end : (bytes : List ℕ) (n end : ℕ) (ts : List Token) → n ≤ length bytes → IsUtf8 (take n bytes) → Cuts 0 (chars (take n bytes)) ts end [] → end ≡ n
to_its_end bytes n end ts l u a = omega (arith, goes_to 0 end (chars (take n bytes)) [] ts a, ap length (encodes-chars (take n bytes) u), length-take-le n bytes l)

-- ---- the computed cut

abbrev computed_cut : List ℕ → Result (List Token) ℕ
computed_cut bytes = cut_from false 0 0 (chars (sound_front bytes))

ok_right : (bytes : List ℕ) (ts us : List Token) → computed_cut bytes ≡ Ok us → cut_sound bytes (utf8_valid_len bytes) (Ok us) ≡ Ok ts → IsCut bytes ts
ok_right bytes ts us e h = elim (chosen_or (eqb (utf8_valid_len bytes) (length bytes)) (Ok us) (Err (utf8_valid_len bytes)) (Ok ts) h) [
  | inl i ↦ by (is_sound bytes) i.0 (let j = i.1 in cc)
  | inr i ↦ (let j = i.1 in absurd cc)
]
  where
    by : IsSoundTo bytes (utf8_valid_len bytes) → eqb (utf8_valid_len bytes) (length bytes) ≡ true → us ≡ ts → IsCut bytes ts
    by (inr s) i j = let k = short_test bytes (utf8_valid_len bytes) s.short in absurd cc
    by (inl s) i j =
        let w : sound_front bytes ≡ bytes = whole_front bytes (utf8_valid_len bytes) (omega (arith, s.1)) in
        let r : Right 0 (chars bytes) (Ok ts) = subst (λ (x : List ℕ). Right 0 (chars x) (Ok ts)) w (subst (λ (o : Result (List Token) ℕ). Right 0 (chars (sound_front bytes)) o) (e ∙ ap (λ (x : List Token). Ok x) j) (right 0 (chars (sound_front bytes)))) in
        record { is_text = s.0; end = r.0; cuts = r.1 }

whole_right : (bytes : List ℕ) (ts : List Token) (o : Result (List Token) ℕ) → computed_cut bytes ≡ o → cut_sound bytes (utf8_valid_len bytes) o ≡ Ok ts → IsCut bytes ts
whole_right bytes ts (Ok us) e h = ok_right bytes ts us e h
whole_right bytes ts (Err bad) e h = absurd cc

broken_right : (bytes : List ℕ) (bad : ℕ) (us : List Token) → computed_cut bytes ≡ Ok us → cut_sound bytes (utf8_valid_len bytes) (Ok us) ≡ Err bad → BreaksAt bytes bad
broken_right bytes bad us e h = elim (chosen_or (eqb (utf8_valid_len bytes) (length bytes)) (Ok us) (Err (utf8_valid_len bytes)) (Err bad) h) [
  | inl i ↦ (let j = i.1 in absurd cc)
  | inr i ↦ by (is_sound bytes) i.0 (let j = i.1 in cc)
]
  where
    by : IsSoundTo bytes (utf8_valid_len bytes) → eqb (utf8_valid_len bytes) (length bytes) ≡ false → utf8_valid_len bytes ≡ bad → BreaksAt bytes bad
    by (inl s) i j = let k = all_test bytes (utf8_valid_len bytes) s.1 in absurd cc
    by (inr s) i j =
        let r : Right 0 (chars (sound_front bytes)) (Ok us) = subst (λ (o : Result (List Token) ℕ). Right 0 (chars (sound_front bytes)) o) e (right 0 (chars (sound_front bytes))) in
        let n : r.0 ≡ bad = to_its_end bytes (utf8_valid_len bytes) r.0 us (utf8_valid_len_le bytes) s.front r.1 ∙ j in
        record {
          sound = utf8_valid_len bytes;
          tokens = us;
          rest = [];
          is_sound = inr s;
          cuts = subst (λ (x : ℕ). Cuts 0 (chars (sound_front bytes)) us x []) n r.1;
          breaks = inl (s, refl);
        }

bad_right : (bytes : List ℕ) (bad : ℕ) (o : Result (List Token) ℕ) → computed_cut bytes ≡ o → cut_sound bytes (utf8_valid_len bytes) o ≡ Err bad → BreaksAt bytes bad
bad_right bytes bad (Ok us) e h = broken_right bytes bad us e h
bad_right bytes bad (Err at) e h =
    let same : at ≡ bad = cc in
    let r : Right 0 (chars (sound_front bytes)) (Err bad) = subst (λ (o : Result (List Token) ℕ). Right 0 (chars (sound_front bytes)) o) (e ∙ ap (λ (x : ℕ). Err x) same) (right 0 (chars (sound_front bytes))) in
    record { sound = utf8_valid_len bytes; tokens = r.0; rest = r.1; is_sound = is_sound bytes; cuts = r.2; breaks = inr r.3 }

pub cut_is_right : CutIsRight
unfolding cut
cut_is_right bytes = (λ ts h. whole_right bytes ts (computed_cut bytes) refl h, λ bad h. bad_right bytes bad (computed_cut bytes) refl h)

-- ---- and the only one

only_cut : (bytes : List ℕ) (ts : List Token) → IsCut bytes ts → cut_sound bytes (utf8_valid_len bytes) (computed_cut bytes) ≡ Ok ts
only_cut bytes ts a =
    let n : utf8_valid_len bytes ≡ length bytes = utf8_valid_len-IsUtf8 bytes a.is_text in
    let w : sound_front bytes ≡ bytes = whole_front bytes (utf8_valid_len bytes) (omega (arith, n)) in
    let c : computed_cut bytes ≡ Ok ts = ap (λ (x : List ℕ). cut_from false 0 0 (chars x)) w ∙ computed 0 a.end (chars bytes) [] ts a.cuts ∙ all_prepended ts in
    let t : eqb (utf8_valid_len bytes) (length bytes) ≡ true = all_test bytes (utf8_valid_len bytes) n in
    ap (cut_sound bytes (utf8_valid_len bytes)) c ∙ rw t refl

only_bad : (bytes : List ℕ) (bad : ℕ) → BreaksAt bytes bad → cut_sound bytes (utf8_valid_len bytes) (computed_cut bytes) ≡ Err bad
only_bad bytes bad a = by a.breaks
  where
    n : utf8_valid_len bytes ≡ a.sound
    n = sound_len bytes a.sound a.is_sound

    c : computed_cut bytes ≡ cut_from false 0 0 (chars (take a.sound bytes))
    c = ap (λ (i : ℕ). cut_from false 0 0 (chars (take i bytes))) n

    by : (IsValidUpTo bytes a.sound × (a.rest ≡ [])) ⊎ NothingBegins a.rest → cut_sound bytes (utf8_valid_len bytes) (computed_cut bytes) ≡ Err bad
    by (inl s) =
        let k : Cuts 0 (chars (take a.sound bytes)) a.tokens bad [] = subst (λ (x : List ℕ). Cuts 0 (chars (take a.sound bytes)) a.tokens bad x) s.1 a.cuts in
        let d : computed_cut bytes ≡ Ok a.tokens = c ∙ computed 0 bad (chars (take a.sound bytes)) [] a.tokens k ∙ all_prepended a.tokens in
        let e : bad ≡ a.sound = to_its_end bytes a.sound bad a.tokens (omega (arith, s.0.short)) s.0.front k in
        let t : eqb (utf8_valid_len bytes) (length bytes) ≡ false = short_test bytes (utf8_valid_len bytes) (omega (arith, n, s.0.short)) in
        ap (cut_sound bytes (utf8_valid_len bytes)) d ∙ rw t (ap (λ (x : ℕ). Err x) (n ∙ sym e))
    by (inr s) =
        let d : computed_cut bytes ≡ Err bad =
        c ∙ computed 0 bad (chars (take a.sound bytes)) a.rest a.tokens a.cuts ∙ ap (prepended a.tokens) (stops bad a.rest s) ∙ bad_prepended a.tokens bad in
        ap (cut_sound bytes (utf8_valid_len bytes)) d

pub cut_is_only : CutIsOnly
unfolding cut
cut_is_only bytes = (λ ts a. only_cut bytes ts a, λ bad a. only_bad bytes bad a)
