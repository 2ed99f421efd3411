-- Numbers: what is found is spelled.
use Rattle.std.proofs.Common.{◌≡◌, ℕ, ◌+◌, ◌⊎◌, inl, inr, Bool, true, false, eqb, List, [], ◌∷◌, ◌++◌, length, take, drop, refl, sym, ap, ◌∙◌, subst, arith, ◌||◌, ◌&&◌, not, append_assoc}
use Rattle.std.specs.Prelude.{Some, None, encode_utf8_all}
use Rattle.std.proofs.lemmas.List.{length-append}
use Rattle.std.proofs.Math.Seq.{drop-append_seam}
use Rattle.rdf_meaning.specs.Characters.{is_digit}
use Rattle.line_meaning.specs.Grammar.{Each}
use Rattle.sparql_meaning.specs.declared.token.TokenKind.{TokenKind}
use Rattle.sparql_meaning.specs.declared.token.TokenKind.TheVariants as k
use Rattle.sparql_meaning.specs.declared.token.Found.{Found}
use Rattle.sparql_meaning.specs.Tokens.{sign_len, digits_len, exponent_len, number, with_point, without_point, number_behind, number_at}
use Rattle.sparql_token_laws.specs.Forms.{Spells, AtLeastOne, IsSign, IsExponent}
use Rattle.sparql_token_laws.proofs.Basics.{Stands, Front, run_front, chosen_or, both_true, either_true, is_same, whole_taken, some_same, none_some}

-- a front of so many characters, where there are any
abbrev Perhaps : (List ℕ → Type 0) → ℕ → List ℕ → Type 0
Perhaps P n cs = (n ≡ 0) ⊎ Front P n cs

sign_by : (c : ℕ) (cs : List ℕ) → (p m : Bool) → eqb c 43 ≡ p → eqb c 45 ≡ m → Front IsSign (sign_len (c ∷ cs)) (c ∷ cs)
sign_by c cs true m e h = record { written = 43 ∷ []; behind = cs; fine = inr (inl refl); count = rw e refl; whole = ap (λ (x : ℕ). x ∷ cs) (is_same c 43 e) }
sign_by c cs false true e h = record { written = 45 ∷ []; behind = cs; fine = inr (inr refl); count = rw (e, h) refl; whole = ap (λ (x : ℕ). x ∷ cs) (is_same c 45 h) }
sign_by c cs false false e h = record { written = []; behind = c ∷ cs; fine = inl refl; count = rw (e, h) refl; whole = refl }

sign_front : (cs : List ℕ) → Front IsSign (sign_len cs) cs
sign_front [] = record { written = []; behind = []; fine = inl refl; count = refl; whole = refl }
sign_front (c ∷ cs) = sign_by c cs (eqb c 43) (eqb c 45) refl refl

dropped : (cs written behind : List ℕ) (n : ℕ) → n ≡ length written → cs ≡ written ++ behind → drop n cs ≡ behind
dropped cs written behind n l w = ap (λ (i : ℕ). drop i cs) l ∙ ap (λ (t : List ℕ). drop (length written) t) w ∙ drop-append_seam written behind

at_least : (p : ℕ → Bool) (cs : List ℕ) → not (eqb (length cs) 0) ≡ true → Each p cs → AtLeastOne p cs
at_least p [] n e = absurd cc
at_least p (c ∷ cs) n e = e

exponent_mark : (c : ℕ) → (eqb c 101 || eqb c 69) ≡ true → (c ≡ 101) ⊎ (c ≡ 69)
exponent_mark c h = elim (either_true (eqb c 101) (eqb c 69) h) [ inl e ↦ inl (is_same c 101 e) | inr e ↦ inr (is_same c 69 e) ]

exponent_front : (cs : List ℕ) → Perhaps IsExponent (exponent_len cs) cs
unfolding exponent_len
exponent_front [] = inl refl
exponent_front (c ∷ cs) = by ((eqb c 101 || eqb c 69) && not (eqb (digits_len (drop (sign_len cs) cs)) 0)) refl
  where
    s : Front IsSign (sign_len cs) cs
    s = sign_front cs

    left : drop (sign_len cs) cs ≡ s.behind
    left = dropped cs s.written s.behind (sign_len cs) s.count s.whole

    by : (b : Bool) → ((eqb c 101 || eqb c 69) && not (eqb (digits_len (drop (sign_len cs) cs)) 0)) ≡ b → Perhaps IsExponent (exponent_len (c ∷ cs)) (c ∷ cs)
    by false e = inl (rw e refl)
    by true e =
        let b = both_true (eqb c 101 || eqb c 69) (not (eqb (digits_len (drop (sign_len cs) cs)) 0)) e in
        let d : Front (Each is_digit) (digits_len s.behind) s.behind = run_front is_digit s.behind in
        let n : digits_len (drop (sign_len cs) cs) ≡ length d.written = ap digits_len left ∙ d.count in
        let l : exponent_len (c ∷ cs) ≡ 1 + sign_len cs + digits_len (drop (sign_len cs) cs) = rw e refl in
        inr (record {
          written = c ∷ (s.written ++ d.written);
          behind = d.behind;
          fine = record {
            mark = c;
            sign = s.written;
            power = d.written;
            is_mark = exponent_mark c b.0;
            is_sign = s.fine;
            digits = at_least is_digit d.written (ap (λ (i : ℕ). not (eqb i 0)) (sym n) ∙ b.1) d.fine;
            whole = refl;
          };
          count = omega (arith, l, n, s.count, length-append s.written d.written);
          whole = ap (λ (t : List ℕ). c ∷ t) (s.whole ∙ ap (λ (t : List ℕ). s.written ++ t) d.whole ∙ sym (append_assoc s.written d.written d.behind));
        })

-- the number that is found stands in front
number_stands_by : (kind : List ℕ → TokenKind) (n : ℕ) (cs written behind : List ℕ) (f : Found) → number kind n cs ≡ Some f → n ≡ length written → cs ≡ written ++ behind → Spells (kind (encode_utf8_all written)) written → Stands cs f
number_stands_by kind n cs written behind f h l w s =
    let t : take n cs ≡ written = whole_taken cs written behind n l w in
    let g : (record { kind = kind (encode_utf8_all (take n cs)); chars = n }) ≡ f = some_same _ f h in
    subst (λ (x : Found). Stands cs x) g (record {
      written = written;
      behind = behind;
      spelled = subst (λ (u : List ℕ). Spells (kind (encode_utf8_all u)) written) (sym t) s;
      count = l;
      whole = w;
    })

-- a sign, whole digits and what follows
record NumberFront (cs : List ℕ) (at whole : ℕ) (later : List ℕ) : Type 0 where
  sign : List ℕ
  digits : List ℕ
  is_sign : IsSign sign
  each : Each is_digit digits
  many : whole ≡ length digits
  far : at ≡ length sign + length digits
  all : cs ≡ sign ++ (digits ++ later)

integer_found : (cs later : List ℕ) (at whole : ℕ) (f : Found) → NumberFront cs at whole later → not (eqb whole 0) ≡ true → number (λ t. k.Integer t) at cs ≡ Some f → Stands cs f
integer_found cs later at whole f a n h = number_stands_by (λ t. k.Integer t) at cs (a.sign ++ a.digits) later f h (omega (arith, a.far, length-append a.sign a.digits)) (a.all ∙ sym (append_assoc a.sign a.digits later))
    (record { sign = a.sign; whole_digits = a.digits; is_sign = a.is_sign; digits = at_least is_digit a.digits (ap (λ (i : ℕ). not (eqb i 0)) (sym a.many) ∙ n) a.each; text_is = refl; whole = refl })

is_some : (n : ℕ) → eqb n 0 ≡ false → not (eqb n 0) ≡ true
is_some n e = rw e refl

without_found : (cs later : List ℕ) (whole ex at : ℕ) (f : Found) → NumberFront cs at whole later → Perhaps IsExponent ex later → without_point whole ex at cs ≡ Some f → Stands cs f
without_found cs later whole ex at f a x h = elim (chosen_or (eqb whole 0) None _ (Some f) h) [
  | inl e ↦ absurd (none_some f e.1)
  | inr e ↦ elim (chosen_or (eqb ex 0) _ _ (Some f) e.1) [
    | inl i ↦ integer_found cs later at whole f a (is_some whole e.0) i.1
    | inr i ↦ by (is_some whole e.0) i.0 i.1 x
  ]
]
  where
    by : not (eqb whole 0) ≡ true → eqb ex 0 ≡ false → number (λ t. k.Double t) (at + ex) cs ≡ Some f → Perhaps IsExponent ex later → Stands cs f
    by n z g (inl e) = let y : eqb ex 0 ≡ true = rw e refl in absurd cc
    by n z g (inr e) =
        let w : cs ≡ (a.sign ++ (a.digits ++ e.written)) ++ e.behind =
        a.all ∙ ap (λ (t : List ℕ). a.sign ++ t) (ap (λ (t : List ℕ). a.digits ++ t) e.whole ∙ sym (append_assoc a.digits e.written e.behind)) ∙ sym (append_assoc a.sign (a.digits ++ e.written) e.behind) in
        number_stands_by (λ t. k.Double t) (at + ex) cs (a.sign ++ (a.digits ++ e.written)) e.behind f g (omega (arith, a.far, e.count, length-append a.sign (a.digits ++ e.written), length-append a.digits e.written)) w
        (record {
          sign = a.sign;
          mantissa = a.digits;
          exponent = e.written;
          is_sign = a.is_sign;
          is_mantissa = inl (at_least is_digit a.digits (ap (λ (i : ℕ). not (eqb i 0)) (sym a.many) ∙ n) a.each);
          is_exponent = e.fine;
          text_is = refl;
          whole = refl;
        })

one_side : (whole fraction : List ℕ) → Each is_digit whole → Each is_digit fraction → not (eqb (length whole + length fraction) 0) ≡ true → AtLeastOne is_digit whole ⊎ AtLeastOne is_digit fraction
one_side (c ∷ whole) fraction d e n = inl d
one_side [] (c ∷ fraction) d e n = inr e
one_side [] [] d e n = absurd cc

with_found : (cs rest : List ℕ) (whole at : ℕ) (f : Found) → NumberFront cs at whole (46 ∷ rest) → with_point whole (digits_len rest) (exponent_len (drop (digits_len rest) rest)) at cs ≡ Some f → Stands cs f
with_found cs rest whole at f a h = elim (chosen_or (not (eqb (whole + digits_len rest) 0) && not (eqb (exponent_len later) 0)) _ _ (Some f) h) [
  | inl e ↦ (let b = both_true (not (eqb (whole + digits_len rest) 0)) (not (eqb (exponent_len later) 0)) e.0 in power b.0 b.1 e.1 (exponent_front later))
  | inr e ↦ elim (chosen_or (not (eqb (digits_len rest) 0)) _ _ (Some f) e.1) [
    | inl i ↦ fraction i.0 i.1
    | inr i ↦ elim (chosen_or (not (eqb whole 0)) _ _ (Some f) i.1) [
      | inl j ↦ integer_found cs (46 ∷ rest) at whole f a j.0 j.1
      | inr j ↦ absurd (none_some f j.1)
    ]
  ]
]
  where
    later : List ℕ
    later = drop (digits_len rest) rest

    d : Front (Each is_digit) (digits_len rest) rest
    d = run_front is_digit rest

    left : later ≡ d.behind
    left = dropped rest d.written d.behind (digits_len rest) d.count d.whole

    points : cs ≡ a.sign ++ ((a.digits ++ 46 ∷ d.written) ++ d.behind)
    points = a.all ∙ ap (λ (t : List ℕ). a.sign ++ t) (ap (λ (t : List ℕ). a.digits ++ 46 ∷ t) d.whole ∙ sym (append_assoc a.digits (46 ∷ d.written) d.behind))

    fraction : not (eqb (digits_len rest) 0) ≡ true → number (λ t. k.Decimal t) (at + 1 + digits_len rest) cs ≡ Some f → Stands cs f
    fraction n g =
        number_stands_by (λ t. k.Decimal t) (at + 1 + digits_len rest) cs (a.sign ++ (a.digits ++ 46 ∷ d.written)) d.behind f g
        (omega (arith, a.far, d.count, length-append a.sign (a.digits ++ 46 ∷ d.written), length-append a.digits (46 ∷ d.written))) (points ∙ sym (append_assoc a.sign (a.digits ++ 46 ∷ d.written) d.behind))
        (record {
          sign = a.sign;
          whole_digits = a.digits;
          fraction = d.written;
          is_sign = a.is_sign;
          digits = a.each;
          fraction_digits = at_least is_digit d.written (ap (λ (i : ℕ). not (eqb i 0)) (sym d.count) ∙ n) d.fine;
          text_is = refl;
          whole = refl;
        })

    power : not (eqb (whole + digits_len rest) 0) ≡ true → not (eqb (exponent_len later) 0) ≡ true → number (λ t. k.Double t) (at + 1 + digits_len rest + exponent_len later) cs ≡ Some f → Perhaps IsExponent (exponent_len later) later → Stands cs f
    power n z g (inl e) = let y : not (eqb (exponent_len later) 0) ≡ false = rw e refl in absurd cc
    power n z g (inr e) =
        let s : whole + digits_len rest ≡ length a.digits + length d.written = omega (arith, a.many, d.count) in
        let w : cs ≡ (a.sign ++ ((a.digits ++ 46 ∷ d.written) ++ e.written)) ++ e.behind =
        points ∙ ap (λ (t : List ℕ). a.sign ++ ((a.digits ++ 46 ∷ d.written) ++ t)) (sym left ∙ e.whole)
        ∙ ap (λ (t : List ℕ). a.sign ++ t) (sym (append_assoc (a.digits ++ 46 ∷ d.written) e.written e.behind))
        ∙ sym (append_assoc a.sign ((a.digits ++ 46 ∷ d.written) ++ e.written) e.behind) in
        number_stands_by (λ t. k.Double t) (at + 1 + digits_len rest + exponent_len later) cs (a.sign ++ ((a.digits ++ 46 ∷ d.written) ++ e.written)) e.behind f g
        (omega (arith, a.far, d.count, e.count, length-append a.sign ((a.digits ++ 46 ∷ d.written) ++ e.written), length-append (a.digits ++ 46 ∷ d.written) e.written, length-append a.digits (46 ∷ d.written))) w
        (record {
          sign = a.sign;
          mantissa = a.digits ++ 46 ∷ d.written;
          exponent = e.written;
          is_sign = a.is_sign;
          is_mantissa = inr (a.digits, d.written, a.each, d.fine, one_side a.digits d.written a.each d.fine (ap (λ (i : ℕ). not (eqb i 0)) (sym s) ∙ n), refl);
          is_exponent = e.fine;
          text_is = refl;
          whole = refl;
        })

behind_found : (cs later : List ℕ) (at whole : ℕ) (f : Found) → NumberFront cs at whole later → number_behind at whole later cs ≡ Some f → Stands cs f
behind_found cs [] at whole f a h = without_found cs [] whole 0 at f a (inl refl) h
behind_found cs (c ∷ rest) at whole f a h = elim (chosen_or (eqb c 46) _ _ (Some f) h) [
  | inl e ↦ with_found cs rest whole at f (subst (λ (x : ℕ). NumberFront cs at whole (x ∷ rest)) (is_same c 46 e.0) a) e.1
  | inr e ↦ without_found cs (c ∷ rest) whole (exponent_len (c ∷ rest)) at f a (exponent_front (c ∷ rest)) e.1
]

pub number_stands : (cs : List ℕ) (f : Found) → number_at cs ≡ Some f → Stands cs f
unfolding number_at
number_stands cs f h =
    let s : Front IsSign (sign_len cs) cs = sign_front cs in
    let left : drop (sign_len cs) cs ≡ s.behind = dropped cs s.written s.behind (sign_len cs) s.count s.whole in
    let d : Front (Each is_digit) (digits_len s.behind) s.behind = run_front is_digit s.behind in
    let n : digits_len (drop (sign_len cs) cs) ≡ length d.written = ap digits_len left ∙ d.count in
    let whole : cs ≡ s.written ++ (d.written ++ d.behind) = s.whole ∙ ap (λ (t : List ℕ). s.written ++ t) d.whole in
    let all : cs ≡ (s.written ++ d.written) ++ d.behind = whole ∙ sym (append_assoc s.written d.written d.behind) in
    let far : sign_len cs + digits_len (drop (sign_len cs) cs) ≡ length s.written + length d.written = omega (arith, s.count, n) in
    let later : drop (sign_len cs + digits_len (drop (sign_len cs) cs)) cs ≡ d.behind =
    dropped cs (s.written ++ d.written) d.behind (sign_len cs + digits_len (drop (sign_len cs) cs)) (omega (arith, far, length-append s.written d.written)) all in
    behind_found cs d.behind (sign_len cs + digits_len (drop (sign_len cs) cs)) (digits_len (drop (sign_len cs) cs)) f
    (record { sign = s.written; digits = d.written; is_sign = s.fine; each = d.fine; many = n; far = far; all = whole })
    (ap (λ (t : List ℕ). number_behind (sign_len cs + digits_len (drop (sign_len cs) cs)) (digits_len (drop (sign_len cs) cs)) t cs) (sym later) ∙ h)
