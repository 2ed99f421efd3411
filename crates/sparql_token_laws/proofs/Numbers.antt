-- Numbers: what is spelled is found.
use Rattle.std.proofs.Common.{◌≡◌, ◌≤◌, ◌<◌, ℕ, zero, suc, ◌+◌, ◌⊎◌, inl, inr, Bool, true, false, cond, eqb, List, [], ◌∷◌, ◌++◌, length, take, drop, refl, sym, ap, ◌∙◌, arith, ◌||◌, append_assoc}
use Rattle.std.specs.Prelude.{Option, Some, None, encode_utf8_all}
use Rattle.std.proofs.lemmas.Bool.Decides.{nat_tests}
use Rattle.std.proofs.lemmas.List.{length-append}
use Rattle.std.proofs.Math.Seq.{drop-append_seam}
use Rattle.rdf_meaning.specs.Characters.{is_digit}
use Rattle.line_meaning.specs.Grammar.{Each}
use Rattle.sparql_meaning.specs.declared.token.TokenKind.{TokenKind}
use Rattle.sparql_meaning.specs.declared.token.TokenKind.TheVariants as k
use Rattle.sparql_meaning.specs.declared.token.Found.{Found}
use Rattle.sparql_meaning.specs.Tokens.{sign_len, digits_len, exponent_len, with_point, without_point, number_behind, number_at}
use Rattle.sparql_token_laws.specs.Forms.{AtLeastOne, IsSign, IsExponent, SpellsInteger, SpellsDecimal, SpellsDouble}
use Rattle.sparql_token_laws.proofs.Basics.{Covers, Exceeds, apart, run_covers, run_is, front_taken}

abbrev integer : List ℕ → TokenKind
integer t = k.Integer t

abbrev decimal : List ℕ → TokenKind
decimal t = k.Decimal t

abbrev double : List ℕ → TokenKind
double t = k.Double t

above : (n : ℕ) → 0 < n → eqb n 0 ≡ false
above n l = grind (arith, nat_tests)

-- whole digits alone are covered, whatever follows
point_covers : (w fr ex at : ℕ) (cs : List ℕ) → 0 < w → Covers (integer (encode_utf8_all (take at cs))) at (with_point w fr ex at cs)
point_covers w zero zero at cs l = rw (above w l, above (w + 0) (omega (arith, l))) (omega arith, λ s. refl)
point_covers w zero (suc ex) at cs l = rw (above (w + 0) (omega (arith, l)), above (suc ex) (omega arith)) (omega arith, λ s. absurd (omega (arith, s)))
point_covers w (suc fr) zero at cs l = rw (above (w + suc fr) (omega (arith, l)), above (suc fr) (omega arith)) (omega arith, λ s. absurd (omega (arith, s)))
point_covers w (suc fr) (suc ex) at cs l = rw (above (w + suc fr) (omega (arith, l)), above (suc ex) (omega arith)) (omega arith, λ s. absurd (omega (arith, s)))

pointless_covers : (w ex at : ℕ) (cs : List ℕ) → 0 < w → Covers (integer (encode_utf8_all (take at cs))) at (without_point w ex at cs)
pointless_covers w zero at cs l = rw (above w l) (omega arith, λ s. refl)
pointless_covers w (suc ex) at cs l = rw (above w l, above (suc ex) (omega arith)) (omega arith, λ s. absurd (omega (arith, s)))

behind_covers : (at w : ℕ) (rest cs : List ℕ) → 0 < w → Covers (integer (encode_utf8_all (take at cs))) at (number_behind at w rest cs)
behind_covers at w [] cs l = pointless_covers w 0 at cs l
behind_covers at w (c ∷ rest) cs l = by (eqb c 46)
  where
    by : (b : Bool) → Covers (integer (encode_utf8_all (take at cs))) at (cond b (with_point w (digits_len rest) (exponent_len (drop (digits_len rest) rest)) at cs) (without_point w (exponent_len (c ∷ rest)) at cs))
    by true = point_covers w (digits_len rest) (exponent_len (drop (digits_len rest) rest)) at cs l
    by false = pointless_covers w (exponent_len (c ∷ rest)) at cs l

fraction_covers : (w fr ex at : ℕ) (cs : List ℕ) → 0 < fr → Covers (decimal (encode_utf8_all (take (at + 1 + fr) cs))) (at + 1 + fr) (with_point w fr ex at cs)
fraction_covers w fr zero at cs l = rw (above (w + fr) (omega (arith, l)), above fr l) (omega arith, λ s. refl)
fraction_covers w fr (suc ex) at cs l = rw (above (w + fr) (omega (arith, l)), above (suc ex) (omega arith)) (omega arith, λ s. absurd (omega (arith, s)))

power_covers : (w fr ex at : ℕ) (cs : List ℕ) → 0 < w + fr → 0 < ex → Covers (double (encode_utf8_all (take (at + 1 + fr + ex) cs))) (at + 1 + fr + ex) (with_point w fr ex at cs)
power_covers w fr ex at cs l x = rw (above (w + fr) l, above ex x) (omega arith, λ s. refl)

pointless_power_covers : (w ex at : ℕ) (cs : List ℕ) → 0 < w → 0 < ex → Covers (double (encode_utf8_all (take (at + ex) cs))) (at + ex) (without_point w ex at cs)
pointless_power_covers w ex at cs l x = rw (above w l, above ex x) (omega arith, λ s. refl)

-- what covers a longer front covers what is spelled
pub covers_less : (kind : List ℕ → TokenKind) (n : ℕ) (written rest : List ℕ) (o : Option Found) → length written ≤ n → Covers (kind (encode_utf8_all (take n (written ++ rest)))) n o → Covers (kind (encode_utf8_all written)) (length written) o
covers_less kind n written rest None l c = absurd c
covers_less kind n written rest (Some f) l c = (
  omega (arith, l, c.0),
  λ same.
      let e : length written ≡ n = omega (arith, l, c.0, same) in
      let g : n ≡ f.chars = sym e ∙ same in
      ap (λ (t : List ℕ). kind (encode_utf8_all t)) (sym (front_taken written rest n e)) ∙ c.1 g,
)

-- ---- signs and exponents

pub signed : (sign cs : List ℕ) (c : ℕ) → IsSign sign → eqb c 43 ≡ false → eqb c 45 ≡ false → sign_len (sign ++ c ∷ cs) ≡ length sign
signed sign cs c (inl h) p m = rw (h, p, m) refl
signed sign cs c (inr (inl h)) p m = rw h refl
signed sign cs c (inr (inr h)) p m = rw h refl

signed_digits : (sign digits rest : List ℕ) → IsSign sign → AtLeastOne is_digit digits → sign_len (sign ++ (digits ++ rest)) ≡ length sign
signed_digits sign [] rest s d = absurd d
signed_digits sign (c ∷ cs) rest s d = signed sign (cs ++ rest) c s (apart is_digit c 43 d.0 refl) (apart is_digit c 45 d.0 refl)

each_of : (p : ℕ → Bool) (cs : List ℕ) → AtLeastOne p cs → Each p cs
each_of p [] d = absurd d
each_of p (c ∷ cs) d = d

some_of : (p : ℕ → Bool) (cs : List ℕ) → AtLeastOne p cs → 0 < length cs
some_of p [] d = absurd d
some_of p (c ∷ cs) d = omega arith

number_is : (sign cs : List ℕ) → sign_len (sign ++ cs) ≡ length sign
    → number_at (sign ++ cs) ≡ number_behind (length sign + digits_len cs) (digits_len cs) (drop (length sign + digits_len cs) (sign ++ cs)) (sign ++ cs)
unfolding number_at
number_is sign cs s = rw (s, drop-append_seam sign cs) refl

pub integer_covers : (text written rest : List ℕ) → SpellsInteger text written → Covers (k.Integer text) (length written) (number_at (written ++ rest))
integer_covers text written rest h =
    let n = digits_len (h.whole_digits ++ rest) in
    let l : length h.whole_digits ≤ n = run_covers is_digit h.whole_digits rest (each_of is_digit h.whole_digits h.digits) in
    let z = some_of is_digit h.whole_digits h.digits in
    let w : written ++ rest ≡ h.sign ++ (h.whole_digits ++ rest) = ap (λ (t : List ℕ). t ++ rest) h.whole ∙ append_assoc h.sign h.whole_digits rest in
    let m : length written ≤ length h.sign + n = omega (arith, l, ap length h.whole, length-append h.sign h.whole_digits) in
    let at = length h.sign + n in
    let is : number_at (written ++ rest) ≡ number_behind at n (drop at (h.sign ++ (h.whole_digits ++ rest))) (h.sign ++ (h.whole_digits ++ rest)) =
    ap number_at w ∙ number_is h.sign (h.whole_digits ++ rest) (signed_digits h.sign h.whole_digits rest h.is_sign h.digits) in
    rw (is, h.text_is) (covers_less integer at written rest _ m (rw w (behind_covers at n (drop at (h.sign ++ (h.whole_digits ++ rest))) (h.sign ++ (h.whole_digits ++ rest)) (omega (arith, l, z)))))

drop_two : (a b c : List ℕ) → drop (length a + length b) (a ++ (b ++ c)) ≡ c
drop_two a b c = ap (λ (n : ℕ). drop n (a ++ (b ++ c))) (sym (length-append a b)) ∙ ap (drop (length (a ++ b))) (sym (append_assoc a b c)) ∙ drop-append_seam (a ++ b) c

signed_point : (sign whole later : List ℕ) → IsSign sign → Each is_digit whole → sign_len (sign ++ (whole ++ 46 ∷ later)) ≡ length sign
signed_point sign [] later s d = signed sign later 46 s refl refl
signed_point sign (c ∷ cs) later s d = signed sign (cs ++ 46 ∷ later) c s (apart is_digit c 43 d.0 refl) (apart is_digit c 45 d.0 refl)

point_is : (sign whole later : List ℕ) → IsSign sign → Each is_digit whole
    → number_at (sign ++ (whole ++ 46 ∷ later)) ≡ with_point (length whole) (digits_len later) (exponent_len (drop (digits_len later) later)) (length sign + length whole) (sign ++ (whole ++ 46 ∷ later))
point_is sign whole later s d =
    let cs = sign ++ (whole ++ 46 ∷ later) in
    let n : digits_len (whole ++ 46 ∷ later) ≡ length whole = run_is is_digit whole (46 ∷ later) d refl in
    number_is sign (whole ++ 46 ∷ later) (signed_point sign whole later s d)
    ∙ ap (λ (k : ℕ). number_behind (length sign + k) k (drop (length sign + k) cs) cs) n
    ∙ ap (λ (t : List ℕ). number_behind (length sign + length whole) (length whole) t cs) (drop_two sign whole (46 ∷ later))

pub decimal_covers : (text written rest : List ℕ) → SpellsDecimal text written → Covers (k.Decimal text) (length written) (number_at (written ++ rest))
decimal_covers text written rest h =
    let later = h.fraction ++ rest in
    let cs = h.sign ++ (h.whole_digits ++ 46 ∷ later) in
    let fr = digits_len later in
    let l : length h.fraction ≤ fr = run_covers is_digit h.fraction rest (each_of is_digit h.fraction h.fraction_digits) in
    let z = some_of is_digit h.fraction h.fraction_digits in
    let w : written ++ rest ≡ cs =
    ap (λ (t : List ℕ). t ++ rest) h.whole ∙ append_assoc h.sign (h.whole_digits ++ 46 ∷ h.fraction) rest ∙ ap (λ (t : List ℕ). h.sign ++ t) (append_assoc h.whole_digits (46 ∷ h.fraction) rest) in
    let at = length h.sign + length h.whole_digits in
    let m : length written ≤ at + 1 + fr = omega (arith, l, ap length h.whole, length-append h.sign (h.whole_digits ++ 46 ∷ h.fraction), length-append h.whole_digits (46 ∷ h.fraction)) in
    let is : number_at (written ++ rest) ≡ with_point (length h.whole_digits) fr (exponent_len (drop fr later)) at cs = ap number_at w ∙ point_is h.sign h.whole_digits later h.is_sign h.digits in
    rw (is, h.text_is) (covers_less decimal (at + 1 + fr) written rest _ m (rw w (fraction_covers (length h.whole_digits) fr (exponent_len (drop fr later)) at cs (omega (arith, l, z)))))

mark_test : (mark : ℕ) → (mark ≡ 101) ⊎ (mark ≡ 69) → (eqb mark 101 || eqb mark 69) ≡ true
mark_test mark (inl h) = rw h refl
mark_test mark (inr h) = rw h refl

exponent_covers : (exponent rest : List ℕ) → IsExponent exponent → length exponent ≤ exponent_len (exponent ++ rest)
unfolding exponent_len
exponent_covers exponent rest h =
    let s : sign_len (h.sign ++ (h.power ++ rest)) ≡ length h.sign = signed_digits h.sign h.power rest h.is_sign h.digits in
    let l : length h.power ≤ digits_len (h.power ++ rest) = run_covers is_digit h.power rest (each_of is_digit h.power h.digits) in
    let z = some_of is_digit h.power h.digits in
    let n : eqb (digits_len (h.power ++ rest)) 0 ≡ false = above (digits_len (h.power ++ rest)) (omega (arith, l, z)) in
    let t : (eqb h.mark 101 || eqb h.mark 69) ≡ true = mark_test h.mark h.is_mark in
    rw (h.whole, append_assoc h.sign h.power rest, s, drop-append_seam h.sign (h.power ++ rest), n, t) (omega (arith, l, length-append h.sign h.power))

no_digits : (exponent rest : List ℕ) → IsExponent exponent → digits_len (exponent ++ rest) ≡ 0
no_digits exponent rest h = rw h.whole (by h.is_mark)
  where
    by : (h.mark ≡ 101) ⊎ (h.mark ≡ 69) → digits_len (h.mark ∷ ((h.sign ++ h.power) ++ rest)) ≡ 0
    by (inl e) = rw e refl
    by (inr e) = rw e refl

exponent_long : (exponent : List ℕ) → IsExponent exponent → 0 < length exponent
exponent_long exponent h = omega (arith, ap length h.whole)

no_point : (at w : ℕ) (exponent rest cs : List ℕ) → IsExponent exponent → number_behind at w (exponent ++ rest) cs ≡ without_point w (exponent_len (exponent ++ rest)) at cs
no_point at w exponent rest cs h = rw h.whole (by h.is_mark)
  where
    by : (h.mark ≡ 101) ⊎ (h.mark ≡ 69) → number_behind at w (h.mark ∷ ((h.sign ++ h.power) ++ rest)) cs ≡ without_point w (exponent_len (h.mark ∷ ((h.sign ++ h.power) ++ rest))) at cs
    by (inl e) = rw e refl
    by (inr e) = rw e refl

whole_double : (text written sign mantissa exponent rest : List ℕ) → IsSign sign → AtLeastOne is_digit mantissa → IsExponent exponent → text ≡ encode_utf8_all written → written ≡ sign ++ (mantissa ++ exponent)
    → Covers (k.Double text) (length written) (number_at (written ++ rest))
whole_double text written sign mantissa exponent rest s d x t h =
    let later = exponent ++ rest in
    let cs = sign ++ (mantissa ++ later) in
    let at = length sign + length mantissa in
    let ex = exponent_len later in
    let l : length exponent ≤ ex = exponent_covers exponent rest x in
    let z = exponent_long exponent x in
    let w : written ++ rest ≡ cs = ap (λ (u : List ℕ). u ++ rest) h ∙ append_assoc sign (mantissa ++ exponent) rest ∙ ap (λ (u : List ℕ). sign ++ u) (append_assoc mantissa exponent rest) in
    let n : digits_len (mantissa ++ later) ≡ length mantissa = run_is is_digit mantissa later (each_of is_digit mantissa d) (no_digits exponent rest x) in
    let is : number_at (written ++ rest) ≡ without_point (length mantissa) ex at cs =
    ap number_at w ∙ number_is sign (mantissa ++ later) (signed_digits sign mantissa later s d)
    ∙ ap (λ (k : ℕ). number_behind (length sign + k) k (drop (length sign + k) cs) cs) n
    ∙ ap (λ (u : List ℕ). number_behind at (length mantissa) u cs) (drop_two sign mantissa later)
    ∙ no_point at (length mantissa) exponent rest cs x in
    let m : length written ≤ at + ex = omega (arith, l, ap length h, length-append sign (mantissa ++ exponent), length-append mantissa exponent) in
    rw (is, t) (covers_less double (at + ex) written rest _ m (rw w (pointless_power_covers (length mantissa) ex at cs (some_of is_digit mantissa d) (omega (arith, l, z)))))

one_side : (a b : List ℕ) → AtLeastOne is_digit a ⊎ AtLeastOne is_digit b → 0 < length a + length b
one_side a b (inl h) = let z = some_of is_digit a h in omega (arith, z)
one_side a b (inr h) = let z = some_of is_digit b h in omega (arith, z)

point_double : (text written sign whole fraction exponent rest : List ℕ) → IsSign sign → Each is_digit whole → Each is_digit fraction → (AtLeastOne is_digit whole ⊎ AtLeastOne is_digit fraction) → IsExponent exponent
    → text ≡ encode_utf8_all written → written ≡ sign ++ ((whole ++ 46 ∷ fraction) ++ exponent) → Covers (k.Double text) (length written) (number_at (written ++ rest))
point_double text written sign whole fraction exponent rest s d e o x t h =
    let later = fraction ++ (exponent ++ rest) in
    let cs = sign ++ (whole ++ 46 ∷ later) in
    let at = length sign + length whole in
    let ex = exponent_len (exponent ++ rest) in
    let l : length exponent ≤ ex = exponent_covers exponent rest x in
    let z = exponent_long exponent x in
    let w : written ++ rest ≡ cs =
    ap (λ (u : List ℕ). u ++ rest) h ∙ append_assoc sign ((whole ++ 46 ∷ fraction) ++ exponent) rest
    ∙ ap (λ (u : List ℕ). sign ++ u) (append_assoc (whole ++ 46 ∷ fraction) exponent rest ∙ append_assoc whole (46 ∷ fraction) (exponent ++ rest)) in
    let n : digits_len later ≡ length fraction = run_is is_digit fraction (exponent ++ rest) e (no_digits exponent rest x) in
    let is : number_at (written ++ rest) ≡ with_point (length whole) (length fraction) ex at cs =
    ap number_at w ∙ point_is sign whole later s d
    ∙ ap (λ (k : ℕ). with_point (length whole) k (exponent_len (drop k later)) at cs) n
    ∙ ap (λ (u : List ℕ). with_point (length whole) (length fraction) (exponent_len u) at cs) (drop-append_seam fraction (exponent ++ rest)) in
    let m : length written ≤ at + 1 + length fraction + ex = omega (arith, l, ap length h, length-append sign ((whole ++ 46 ∷ fraction) ++ exponent), length-append (whole ++ 46 ∷ fraction) exponent, length-append whole (46 ∷ fraction)) in
    rw (is, t) (covers_less double (at + 1 + length fraction + ex) written rest _ m (rw w (power_covers (length whole) (length fraction) ex at cs (one_side whole fraction o) (omega (arith, l, z)))))

pub double_covers : (text written rest : List ℕ) → SpellsDouble text written → Covers (k.Double text) (length written) (number_at (written ++ rest))
double_covers text written rest h = elim h.is_mantissa [
  | inl d ↦ whole_double text written h.sign h.mantissa h.exponent rest h.is_sign d h.is_exponent h.text_is h.whole
  | inr d ↦ point_double text written h.sign d.0 d.1 h.exponent rest h.is_sign d.2 d.3 d.4 h.is_exponent h.text_is (h.whole ∙ ap (λ (u : List ℕ). h.sign ++ (u ++ h.exponent)) d.5)
]

-- ---- a mark is shorter than a number that begins with it

point_long : (fr ex at : ℕ) (cs : List ℕ) → Exceeds (at + 1) (with_point 0 fr ex at cs)
point_long zero ex at cs = tt
point_long (suc fr) zero at cs = rw (above (0 + suc fr) (omega arith), above (suc fr) (omega arith)) (omega arith)
point_long (suc fr) (suc ex) at cs = rw (above (0 + suc fr) (omega arith), above (suc ex) (omega arith)) (omega arith)

pub dot_long : (rest : List ℕ) → Exceeds 1 (number_at (46 ∷ rest))
unfolding number_at
dot_long rest = point_long (digits_len rest) (exponent_len (drop (digits_len rest) rest)) 0 (46 ∷ rest)

exceeds : (kind : TokenKind) (n m : ℕ) (o : Option Found) → n < m → Covers kind m o → Exceeds n o
exceeds kind n m None l c = absurd c
exceeds kind n m (Some f) l c = omega (arith, l, c.0)

exceeds_less : (o : Option Found) → Exceeds 2 o → Exceeds 1 o
exceeds_less None x = tt
exceeds_less (Some f) x = omega (arith, x)

behind_long : (n : ℕ) (later cs : List ℕ) → Exceeds 1 (number_behind (1 + n) n later cs)
behind_long (suc n) later cs = exceeds (integer (encode_utf8_all (take (1 + suc n) cs))) 1 (1 + suc n) (number_behind (1 + suc n) (suc n) later cs) (omega arith) (behind_covers (1 + suc n) (suc n) later cs (omega arith))
behind_long zero [] cs = tt
behind_long zero (c ∷ later) cs = by (eqb c 46)
  where
    by : (b : Bool) → Exceeds 1 (cond b (with_point 0 (digits_len later) (exponent_len (drop (digits_len later) later)) 1 cs) (without_point 0 (exponent_len (c ∷ later)) 1 cs))
    by true = exceeds_less (with_point 0 (digits_len later) (exponent_len (drop (digits_len later) later)) 1 cs) (point_long (digits_len later) (exponent_len (drop (digits_len later) later)) 1 cs)
    by false = tt

pub sign_long : (c : ℕ) (rest : List ℕ) → (c ≡ 43) ⊎ (c ≡ 45) → Exceeds 1 (number_at (c ∷ rest))
unfolding number_at
sign_long c rest (inl e) = rw e (behind_long (digits_len rest) (drop (1 + digits_len rest) (43 ∷ rest)) (43 ∷ rest))
sign_long c rest (inr e) = rw e (behind_long (digits_len rest) (drop (1 + digits_len rest) (45 ∷ rest)) (45 ∷ rest))
