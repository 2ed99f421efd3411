-- Texts between marks: what is found is what is spelled.
use Rattle.std.proofs.Common.{◌≡◌, ◌≤◌, ℕ, zero, suc, ◌+◌, inl, inr, Bool, true, false, cond, eqb, List, [], ◌∷◌, ◌++◌, length, drop, refl, sym, ap, ◌∙◌, subst, arith, ◌||◌, ◌&&◌, not, append_assoc}
use Rattle.std.specs.Prelude.{Option, Some, None, encode_utf8, encode_utf8_all}
use Rattle.std.proofs.lemmas.Bool.Decides.{Decides-eqb, nat_tests}
use Rattle.std.proofs.lemmas.List.{length-append}
use Rattle.std.proofs.Math.Seq.{drop-append_seam}
use Rattle.line_meaning.specs.Grammar.{Each}
use Rattle.sparql_meaning.specs.declared.token.Quoting.{Quoting}
use Rattle.sparql_meaning.specs.declared.token.Quoting.TheVariants as q
use Rattle.sparql_meaning.specs.declared.token.Escape.{Escape}
use Rattle.sparql_meaning.specs.declared.token.Body.{Body}
use Rattle.sparql_meaning.specs.Classes.{is_text_part, is_hex}
use Rattle.sparql_meaning.specs.Tokens.{hex_number, is_scalar, short_escape, escape_at, starts_with, closing, has_short_escapes, stands, may_stand_for, behind, allowed, escape_chars, escaped, escape_in, body_from, body_at}
use Rattle.sparql_token_laws.specs.Forms.{SpellsCharacter, SpellsBody, hex_from, may_be_coded, IsCodeMark}
use Rattle.sparql_token_laws.proofs.Escapes.{hex_back, scalar_small, escape, escape_in_sound}
use Rattle.sparql_token_laws.proofs.Basics.{chosen_or, is_same, apart, both_true}

-- ---- where the closing marks stand

pub starts_is : (as_ cs : List ℕ) → starts_with as_ cs ≡ true → cs ≡ as_ ++ drop (length as_) cs
starts_is [] cs h = refl
starts_is (a ∷ as_) [] h = absurd cc
starts_is (a ∷ as_) (c ∷ cs) h =
    let b = both_true (eqb a c) (starts_with as_ cs) h in
    let same : a ≡ c = is_same a c b.0 in
    ap (λ (x : ℕ). x ∷ cs) (sym same) ∙ ap (λ (t : List ℕ). a ∷ t) (starts_is as_ cs b.1)

pub starts_self : (as_ rest : List ℕ) → starts_with as_ (as_ ++ rest) ≡ true
starts_self [] rest = refl
starts_self (a ∷ as_) rest = let s : eqb a a ≡ true = (Decides-eqb a a).1 refl in rw (s, starts_self as_ rest) refl

pub starts_same : (as_ front rest : List ℕ) → length as_ ≤ length front → starts_with as_ (front ++ rest) ≡ starts_with as_ front
starts_same [] front rest l = refl
starts_same (a ∷ as_) [] rest l = absurd (omega arith)
starts_same (a ∷ as_) (c ∷ front) rest l = ap (λ (b : Bool). eqb a c && b) (starts_same as_ front rest (omega (arith, l)))

and_false : (a b c : Bool) → (a && b) ≡ false → (b ≡ false → c ≡ false) → (a && c) ≡ false
and_false true b c h f = f h
and_false false b c h f = refl

starts_less : (as_ front rest : List ℕ) → starts_with as_ (front ++ rest) ≡ false → starts_with as_ front ≡ false
starts_less [] front rest h = absurd cc
starts_less (a ∷ as_) [] rest h = refl
starts_less (a ∷ as_) (c ∷ front) rest h = and_false (eqb a c) (starts_with as_ (front ++ rest)) (starts_with as_ front) h (λ k. starts_less as_ front rest k)

-- ---- bodies

-- a body in front
pub record BodyAt (form : Quoting) (cs : List ℕ) (b : Body) : Type 0 where
  pub written : List ℕ
  pub rest : List ℕ
  pub meant : List ℕ
  pub spelled : SpellsBody form written meant
  pub text_is : b.text ≡ encode_utf8_all meant
  pub count : b.chars ≡ length written
  pub whole : cs ≡ written ++ rest

abbrev body : List ℕ → ℕ → Body
body t n = record { text = t; chars = n }

behind_some : (text : List ℕ) (n : ℕ) (o : Option Body) (b : Body) → behind text n o ≡ Some b → (a : Body) × (o ≡ Some a) × (body (text ++ a.text) (n + a.chars) ≡ b)
behind_some text n None b h = absurd cc
behind_some text n (Some a) b h = (a, refl, cc)

closed_sound : (form : Quoting) (cs : List ℕ) (b : Body) → starts_with (closing form) cs ≡ true → body [] (length (closing form)) ≡ b → BodyAt form cs b
closed_sound form cs b t same = record {
  written = closing form;
  rest = drop (length (closing form)) cs;
  meant = [];
  spelled = refl;
  text_is = sym (ap (λ (x : Body). x.text) same);
  count = sym (ap (λ (x : Body). x.chars) same);
  whole = starts_is (closing form) cs t;
}

-- a character, and then a body
one_sound : (form : Quoting) (c n : ℕ) (front cs later : List ℕ) (a b : Body) → starts_with (closing form) cs ≡ false → SpellsCharacter form front c → n ≡ length front → cs ≡ front ++ later → BodyAt form later a
    → body (encode_utf8 c ++ a.text) (n + a.chars) ≡ b → BodyAt form cs b
one_sound form c n front cs later a b f s l w r same =
    let whole : cs ≡ (front ++ r.written) ++ r.rest = w ∙ ap (λ (t : List ℕ). front ++ t) r.whole ∙ sym (append_assoc front r.written r.rest) in
    record {
      written = front ++ r.written;
      rest = r.rest;
      meant = c ∷ r.meant;
      spelled = (front, r.written, refl, starts_less (closing form) (front ++ r.written) r.rest (ap (starts_with (closing form)) (sym whole) ∙ f), s, r.spelled);
      text_is = sym (ap (λ (x : Body). x.text) same) ∙ ap (λ (t : List ℕ). encode_utf8 c ++ t) r.text_is;
      count = sym (ap (λ (x : Body). x.chars) same) ∙ (let k = r.count in let j = length-append front r.written in omega arith);
      whole = whole;
    }

escaped_some : (form : Quoting) (o : Option Escape) (cs : List ℕ) (b : Body) → escaped o (body_from form (escape_chars o) cs) ≡ Some b
    → (e : Escape) × (o ≡ Some e) × (behind (encode_utf8 e.value) (1 + e.chars) (body_from form e.chars cs) ≡ Some b)
escaped_some form None cs b h = absurd cc
escaped_some form (Some e) cs b h = (e, refl, h)

drop_front : (front rest cs : List ℕ) (n : ℕ) → n ≡ length front → cs ≡ front ++ rest → drop n cs ≡ rest
drop_front front rest cs n l w = ap (λ (k : ℕ). drop k cs) l ∙ ap (λ (t : List ℕ). drop (length front) t) w ∙ drop-append_seam front rest

sound_step : (form : Quoting) (c : ℕ) (cs : List ℕ) (b : Body) → ((n : ℕ) (a : Body) → body_from form n cs ≡ Some a → BodyAt form (drop n cs) a)
    → body_from form 0 (c ∷ cs) ≡ Some b → BodyAt form (c ∷ cs) b
sound_step form c cs b ih h = elim (chosen_or (starts_with (closing form) (c ∷ cs)) _ _ (Some b) h) [
  | inl k ↦ closed_sound form (c ∷ cs) b k.0 (let x = k.1 in cc)
  | inr k ↦ elim (chosen_or (eqb c 92) _ _ (Some b) k.1) [
    | inl j ↦
        (let e = escaped_some form (escape_in form cs) cs b j.1 in
        let s = escape_in_sound form cs e.0 e.1 in
        let a = behind_some (encode_utf8 e.0.value) (1 + e.0.chars) (body_from form e.0.chars cs) b e.2 in
        let d : drop e.0.chars cs ≡ s.rest = drop_front s.front s.rest cs e.0.chars s.count s.whole in
        one_sound form e.0.value (1 + e.0.chars) (92 ∷ s.front) (c ∷ cs) s.rest a.0 b k.0 s.spelled (omega (arith, s.count))
        (ap (λ (x : ℕ). x ∷ cs) (is_same c 92 j.0) ∙ ap (λ (t : List ℕ). 92 ∷ t) s.whole) (subst (λ (t : List ℕ). BodyAt form t a.0) d (ih e.0.chars a.0 a.1)) a.2)
    | inr j ↦ elim (chosen_or (stands form c) _ _ (Some b) j.1) [
      | inl i ↦
          (let a = behind_some (encode_utf8 c) 1 (body_from form 0 cs) b i.1 in
          one_sound form c 1 (c ∷ []) (c ∷ cs) cs a.0 b k.0 (inl (record { raw = i.0; whole = refl })) refl refl (ih 0 a.0 a.1) a.2)
      | inr i ↦ (let x = i.1 in absurd cc)
    ]
  ]
]

body_sound : (form : Quoting) (n : ℕ) (cs : List ℕ) (b : Body) → body_from form n cs ≡ Some b → BodyAt form (drop n cs) b
body_sound form zero [] b h = absurd cc
body_sound form (suc n) [] b h = absurd cc
body_sound form zero (c ∷ cs) b h = sound_step form c cs b (λ n a k. body_sound form n cs a k) h
body_sound form (suc n) (c ∷ cs) b h = body_sound form n cs b h

pub body_found : (form : Quoting) (cs : List ℕ) (b : Body) → body_at form cs ≡ Some b → BodyAt form cs b
unfolding body_at
body_found form cs b h = body_sound form 0 cs b h

-- ---- what is spelled is found

pub closing_first : (form : Quoting) (written meant : List ℕ) → SpellsBody form written meant → length (closing form) ≤ length written
closing_first form written [] s = omega (arith, ap length s)
closing_first form written (c ∷ cs) s = let i = closing_first form s.1 cs s.5 in omega (arith, ap length s.2, length-append s.0 s.1, i)

pub character_long : (form : Quoting) (front : List ℕ) (c : ℕ) → SpellsCharacter form front c → 1 ≤ length front
character_long form front c (inl s) = omega (arith, ap length s.whole)
character_long form front c (inr (inl s)) = omega (arith, ap length s.whole)
character_long form front c (inr (inr s)) = omega (arith, ap length s.whole)

back_not_raw : (form : Quoting) → stands form 92 ≡ false
back_not_raw q.Iri = refl
back_not_raw (q.Text quote) = and_back (eqb 92 quote)
  where
    and_back : (b : Bool) → not (((b || true) || false) || false) ≡ false
    and_back true = refl
    and_back false = refl
back_not_raw (q.Long quote) = refl

passes : (form : Quoting) (front later : List ℕ) → body_from form (length front) (front ++ later) ≡ body_from form 0 later
passes form [] later = refl
passes form (c ∷ cs) later = passes form cs later

opened : (form : Quoting) (c : ℕ) (cs : List ℕ) → starts_with (closing form) (c ∷ cs) ≡ false
    → body_from form 0 (c ∷ cs) ≡ cond (eqb c 92) (escaped (escape_in form cs) (body_from form (escape_chars (escape_in form cs)) cs)) (cond (stands form c) (behind (encode_utf8 c) 1 (body_from form 0 cs)) None)
opened form c cs h = rw h refl

raw_back : (form : Quoting) (c : ℕ) (later : List ℕ) → stands form c ≡ true → starts_with (closing form) (c ∷ later) ≡ false → body_from form 0 (c ∷ later) ≡ behind (encode_utf8 c) 1 (body_from form 0 later)
raw_back form c later r h = let n : eqb c 92 ≡ false = apart (stands form) c 92 r (back_not_raw form) in opened form c later h ∙ rw (n, r) refl

escape_back : (form : Quoting) (front later : List ℕ) (c : ℕ) → escape_in form (front ++ later) ≡ Some (escape c (length front)) → starts_with (closing form) (92 ∷ (front ++ later)) ≡ false
    → body_from form 0 (92 ∷ (front ++ later)) ≡ behind (encode_utf8 c) (suc (length front)) (body_from form 0 later)
escape_back form front later c e h =
    let n : 1 + length front ≡ suc (length front) = omega arith in
    opened form 92 (front ++ later) h
    ∙ ap (λ (o : Option Escape). escaped o (body_from form (escape_chars o) (front ++ later))) e
    ∙ ap (λ (o : Option Body). behind (encode_utf8 c) (1 + length front) o) (passes form front later)
    ∙ ap (λ (k : ℕ). behind (encode_utf8 c) k (body_from form 0 later)) n

no_letter : (p : ℕ) (l c : ℕ) → short_escape l ≡ c → (c ≡ 0 → ⊥) → short_escape p ≡ 0 → eqb l p ≡ false
no_letter p l c s z n = by (eqb l p) refl
  where
    by : (b : Bool) → eqb l p ≡ b → b ≡ false
    by false e = refl
    by true e = absurd (z (sym s ∙ ap short_escape (is_same l p e) ∙ n))

zero_false : (c : ℕ) → (c ≡ 0 → ⊥) → not (eqb c 0) ≡ true
zero_false zero h = absurd (h refl)
zero_false (suc c) h = let e : eqb (suc c) 0 ≡ false = grind (arith, nat_tests) in rw e refl

short_fits : (form : Quoting) (c : ℕ) → has_short_escapes form ≡ true → may_stand_for form (escape c 1) ≡ true
short_fits q.Iri c h = absurd cc
short_fits (q.Text quote) c h = refl
short_fits (q.Long quote) c h = refl

short_back : (form : Quoting) (l c : ℕ) (later : List ℕ) → has_short_escapes form ≡ true → short_escape l ≡ c → (c ≡ 0 → ⊥) → escape_in form (l ∷ later) ≡ Some (escape c 1)
unfolding escape_at
short_back form l c later h s z =
    let u = no_letter 117 l c s z refl in
    let w = no_letter 85 l c s z refl in
    let n : not (eqb c 0) ≡ true = zero_false c z in
    rw (u, w, h, s, n) (rw (short_fits form c h) refl)

code_fits : (form : Quoting) (c n : ℕ) → may_be_coded form c ≡ true → may_stand_for form (escape c n) ≡ true
code_fits q.Iri c n h = h
code_fits (q.Text quote) c n h = by (eqb n 1)
  where
    by : (b : Bool) → (b || is_text_part quote c) ≡ true
    by true = refl
    by false = h
code_fits (q.Long quote) c n h = refl

coded_back : (form : Quoting) (short : Bool) (mark c : ℕ) (digits later : List ℕ) → IsCodeMark mark (length digits) → Each is_hex digits → hex_from 0 digits ≡ c → is_scalar c ≡ true
    → escape_at short (mark ∷ (digits ++ later)) ≡ Some (escape c (suc (length digits)))
unfolding escape_at
coded_back form short mark c digits later (inl m) x n s =
    let h : hex_number 4 0 (digits ++ later) ≡ Some c = ap (λ (k : ℕ). hex_number k 0 (digits ++ later)) (sym m.1) ∙ hex_back digits later 0 x (omega (arith, n, scalar_small c s)) ∙ ap (λ (v : ℕ). Some v) n in
    let l : suc (length digits) ≡ 5 = ap suc m.1 in
    rw (m.0, h, s, l) refl
coded_back form short mark c digits later (inr m) x n s =
    let h : hex_number 8 0 (digits ++ later) ≡ Some c = ap (λ (k : ℕ). hex_number k 0 (digits ++ later)) (sym m.1) ∙ hex_back digits later 0 x (omega (arith, n, scalar_small c s)) ∙ ap (λ (v : ℕ). Some v) n in
    let l : suc (length digits) ≡ 9 = ap suc m.1 in
    rw (m.0, h, s, l) refl

one_back : (form : Quoting) (front later : List ℕ) (c : ℕ) → SpellsCharacter form front c → starts_with (closing form) (front ++ later) ≡ false
    → body_from form 0 (front ++ later) ≡ behind (encode_utf8 c) (length front) (body_from form 0 later)
one_back form front later c (inl s) h =
    let h' : starts_with (closing form) (c ∷ later) ≡ false = ap (λ (t : List ℕ). starts_with (closing form) (t ++ later)) (sym s.whole) ∙ h in
    rw s.whole (raw_back form c later s.raw h')
one_back form front later c (inr (inl s)) h =
    let h' : starts_with (closing form) (92 ∷ s.letter ∷ later) ≡ false = ap (λ (t : List ℕ). starts_with (closing form) (t ++ later)) (sym s.whole) ∙ h in
    rw s.whole (escape_back form (s.letter ∷ []) later c (short_back form s.letter c later s.in_text s.short s.some) h')
one_back form front later c (inr (inr s)) h =
    let h' : starts_with (closing form) (92 ∷ s.mark ∷ (s.digits ++ later)) ≡ false = ap (λ (t : List ℕ). starts_with (closing form) (t ++ later)) (sym s.whole) ∙ h in
    let e : escape_in form (s.mark ∷ (s.digits ++ later)) ≡ Some (escape c (suc (length s.digits))) =
    ap (allowed form) (coded_back form (has_short_escapes form) s.mark c s.digits later s.count s.hex s.number s.scalar) ∙ rw (code_fits form c (suc (length s.digits)) s.fits) refl in
    rw s.whole (escape_back form (s.mark ∷ s.digits) later c e h')

closes : (form : Quoting) (rest : List ℕ) → body_from form 0 (closing form ++ rest) ≡ Some (body [] (length (closing form)))
closes q.Iri rest = refl
closes (q.Text quote) rest = rw (starts_self (quote ∷ []) rest) refl
closes (q.Long quote) rest = rw (starts_self (quote ∷ quote ∷ quote ∷ []) rest) refl

body_back : (form : Quoting) (written meant rest : List ℕ) → SpellsBody form written meant → body_from form 0 (written ++ rest) ≡ Some (body (encode_utf8_all meant) (length written))
body_back form written [] rest s = rw s (closes form rest)
body_back form written (c ∷ cs) rest s =
    let i = body_back form s.1 cs rest s.5 in
    let opens : starts_with (closing form) (written ++ rest) ≡ false = starts_same (closing form) written rest (closing_first form written (c ∷ cs) s) ∙ s.3 in
    let w : written ++ rest ≡ s.0 ++ (s.1 ++ rest) = ap (λ (t : List ℕ). t ++ rest) s.2 ∙ append_assoc s.0 s.1 rest in
    let l : length s.0 + length s.1 ≡ length written = omega (arith, ap length s.2, length-append s.0 s.1) in
    ap (body_from form 0) w
    ∙ one_back form s.0 (s.1 ++ rest) c s.4 (ap (starts_with (closing form)) (sym w) ∙ opens)
    ∙ ap (λ (o : Option Body). behind (encode_utf8 c) (length s.0) o) i
    ∙ ap (λ (n : ℕ). Some (body (encode_utf8_all (c ∷ cs)) n)) l

pub body_spelled : (form : Quoting) (written meant rest : List ℕ) → SpellsBody form written meant → body_at form (written ++ rest) ≡ Some (body (encode_utf8_all meant) (length written))
unfolding body_at
body_spelled form written meant rest s = body_back form written meant rest s
