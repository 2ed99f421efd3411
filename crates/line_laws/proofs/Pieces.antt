-- Texts between marks: what is read is what is spelled.
use Rattle.std.proofs.Common.{◌≡◌, ◌≤◌, ℕ, zero, suc, ◌+◌, inl, inr, Bool, true, false, cond, eqb, List, [], ◌∷◌, ◌++◌, length, take, drop, refl, sym, ap, ◌∙◌, subst, arith, append_assoc}
use Rattle.std.specs.Prelude.{Option, Some, None, encode_utf8, encode_utf8_all, nat_le}
use Rattle.std.proofs.Math.Numerals.{add-one}
use Rattle.std.proofs.lemmas.Bool.Decides.{Decides-eqb, nat_tests}
use Rattle.std.proofs.lemmas.List.{length-take-le, length-append}
use Rattle.std.proofs.Math.Seq.{take-append_seam}
use Rattle.line_meaning.specs.declared.enclosure.Enclosure.{Enclosure}
use Rattle.line_meaning.specs.declared.enclosure.Enclosure.TheVariants.{Iri, Text}
use Rattle.line_meaning.specs.Characters.{close_of, stands_raw, short_escape, hex_from, is_scalar, digits_of_mark}
use Rattle.line_meaning.specs.Grammar.{SpellsCharacter, SpellsCharacters}
use Rattle.line_meaning.specs.Reader.{◌>>=◌, scalar_of, code_at, with_count, coded_at, escape_at, piece_at, onto, text_behind}
use Rattle.line_laws.proofs.Fronts.{bind_some, chosen, parts}

with_some : (n : ℕ) (o : Option ℕ) (piece : ℕ × ℕ) → with_count n o ≡ Some piece → (o ≡ Some piece.0) × (piece.1 ≡ n)
with_some n None piece e = cc
with_some n (Some c) piece e = let same : (c, n) ≡ piece = cc in (ap (λ (p : ℕ × ℕ). Some p.0) same, sym (ap (λ (p : ℕ × ℕ). p.1) same))

code_cases : (b : Bool) (o : Option ℕ) (c : ℕ) → cond b (scalar_of o) None ≡ Some c → (b ≡ true) × (o ≡ Some c) × (is_scalar c ≡ true)
code_cases false o c e = cc
code_cases true None c e = cc
code_cases true (Some d) c e = let h = chosen (is_scalar d) d c e in (refl, ap (λ (x : ℕ). Some x) h.1, subst (λ (x : ℕ). is_scalar x ≡ true) h.1 h.0)

le_true : (n m : ℕ) → nat_le n m ≡ true → n ≤ m
le_true n m e = grind (arith, nat_tests)

code_some : (n : ℕ) (ds : List ℕ) (c : ℕ) → code_at n ds ≡ Some c → (n ≤ length ds) × (hex_from 0 (take n ds) ≡ Some c) × (is_scalar c ≡ true)
unfolding code_at
code_some n ds c e = let h = code_cases (nat_le n (length ds)) (hex_from 0 (take n ds)) c e in (le_true n (length ds) h.0, h.1, h.2)

mark_cases : (o : Option ℕ) (form : Enclosure) (m : ℕ) (ds : List ℕ) (piece : ℕ × ℕ) → digits_of_mark m ≡ o → coded_at form m ds o ≡ Some piece
    → SpellsCharacter form (92 ∷ take piece.1 (m ∷ ds)) piece.0
mark_cases None form m ds piece d e =
    let h = with_some 1 (short_escape form m) piece e in
    rw h.1 (inr (inl (record { letter = m; short = h.0; whole = refl })))
mark_cases (Some n) form m ds piece d e =
    let h = with_some (n + 1) (code_at n ds) piece e in
    let k = code_some n ds piece.0 h.0 in
    rw (h.1, add-one) (inr (inr (record {
      mark = m;
      digits = take n ds;
      count = d ∙ ap (λ (x : ℕ). Some x) (sym (length-take-le n ds k.0));
      number = k.1;
      scalar = k.2;
      whole = refl;
    })))

escape_sound : (form : Enclosure) (cs : List ℕ) (piece : ℕ × ℕ) → escape_at form cs ≡ Some piece → SpellsCharacter form (92 ∷ take piece.1 cs) piece.0
unfolding escape_at
escape_sound form [] piece e = cc
escape_sound form (m ∷ ds) piece e = mark_cases (digits_of_mark m) form m ds piece refl e

back_cases : (b : Bool) (form : Enclosure) (c : ℕ) (cs : List ℕ) (piece : ℕ × ℕ) → eqb c 92 ≡ b
    → cond b (escape_at form cs) (cond (stands_raw form c) (Some (c, 0)) None) ≡ Some piece → SpellsCharacter form (c ∷ take piece.1 cs) piece.0
back_cases true form c cs piece t e = let at : c ≡ 92 = (Decides-eqb c 92).0 t in rw at (escape_sound form cs piece e)
back_cases false form c cs piece t e = let h = chosen (stands_raw form c) (c, 0) piece e in rw (← h.1) (inl (record { raw = h.0; whole = refl }))

piece_sound : (form : Enclosure) (c : ℕ) (cs : List ℕ) (piece : ℕ × ℕ) → piece_at form c cs ≡ Some piece → SpellsCharacter form (c ∷ take piece.1 cs) piece.0
unfolding piece_at
piece_sound form c cs piece e = back_cases (eqb c 92) form c cs piece refl e

onto_some : (front : List ℕ) (o : Option (List ℕ × List ℕ)) (x : List ℕ × List ℕ) → onto front o ≡ Some x → (y : List ℕ × List ℕ) × (o ≡ Some y) × ((front ++ y.0, y.1) ≡ x)
onto_some front None x e = cc
onto_some front (Some y) x e = (y, refl, cc)

-- a text up to the mark that closes it
pub record Found (form : Enclosure) (cs : List ℕ) (x : List ℕ × List ℕ) : Type 0 where
  pub inner : List ℕ
  pub meant : List ℕ
  pub spelled : SpellsCharacters form inner meant
  pub text_is : x.0 ≡ encode_utf8_all meant
  pub whole : cs ≡ inner ++ close_of form ∷ x.1

close_cases : (b : Bool) (form : Enclosure) (c : ℕ) (cs : List ℕ) (x : List ℕ × List ℕ) → ((m : ℕ) (y : List ℕ × List ℕ) → text_behind form m cs ≡ Some y → Found form (drop m cs) y)
    → eqb c (close_of form) ≡ b → cond b (Some ([], cs)) (piece_at form c cs >>= λ piece. onto (encode_utf8 piece.0) (text_behind form piece.1 cs)) ≡ Some x → Found form (c ∷ cs) x
close_cases true form c cs x ih t e =
    let at : c ≡ close_of form = (Decides-eqb c (close_of form)).0 t in
    let same : ([], cs) ≡ x = cc in
    rw (← same) (record { inner = []; meant = []; spelled = refl; text_is = refl; whole = ap (λ (d : ℕ). d ∷ cs) at })
close_cases false form c cs x ih t e =
    let p = bind_some (piece_at form c cs) (λ piece. onto (encode_utf8 piece.0) (text_behind form piece.1 cs)) x e in
    let o = onto_some (encode_utf8 p.0.0) (text_behind form p.0.1 cs) x p.2 in
    let r = ih p.0.1 o.0 o.1 in
    rw (← o.2) (record {
      inner = (c ∷ take p.0.1 cs) ++ r.inner;
      meant = p.0.0 ∷ r.meant;
      spelled = (c ∷ take p.0.1 cs, r.inner, refl, piece_sound form c cs p.0 p.1, r.spelled);
      text_is = ap (λ (t : List ℕ). encode_utf8 p.0.0 ++ t) r.text_is;
      whole = ap (λ (t : List ℕ). c ∷ t) (parts p.0.1 cs ∙ ap (λ (t : List ℕ). take p.0.1 cs ++ t) r.whole ∙ sym (append_assoc (take p.0.1 cs) r.inner (close_of form ∷ o.0.1)));
    })

pub sound_text : (form : Enclosure) (n : ℕ) (cs : List ℕ) (x : List ℕ × List ℕ) → text_behind form n cs ≡ Some x → Found form (drop n cs) x
sound_text form zero [] x e = cc
sound_text form (suc n) [] x e = cc
sound_text form zero (c ∷ cs) x e = close_cases (eqb c (close_of form)) form c cs x (λ m y h. sound_text form m cs y h) refl e
sound_text form (suc n) (c ∷ cs) x e = sound_text form n cs x e

pub not_same : (c d : ℕ) → (c ≡ d → ⊥) → eqb c d ≡ false
not_same c d h = by_test (eqb c d) refl
  where
    by_test : (b : Bool) → eqb c d ≡ b → eqb c d ≡ false
    by_test true e = absurd (h ((Decides-eqb c d).0 e))
    by_test false e = e

raw_differs : (form : Enclosure) (c d : ℕ) → stands_raw form c ≡ true → stands_raw form d ≡ false → eqb c d ≡ false
raw_differs form c d r n = not_same c d (λ e. let k : stands_raw form d ≡ true = subst (λ (x : ℕ). stands_raw form x ≡ true) e r in cc)

close_not_raw : (form : Enclosure) → stands_raw form (close_of form) ≡ false
close_not_raw Iri = refl
close_not_raw Text = refl

back_not_raw : (form : Enclosure) → stands_raw form 92 ≡ false
back_not_raw Iri = refl
back_not_raw Text = refl

back_not_close : (form : Enclosure) → eqb 92 (close_of form) ≡ false
back_not_close Iri = refl
back_not_close Text = refl

unmarked : (form : Enclosure) (l c : ℕ) → short_escape form l ≡ Some c → digits_of_mark l ≡ None
unmarked Iri l c e = cc
unmarked Text l c e = rw (not_same l 117 (λ u. let k = subst (λ (x : ℕ). short_escape Text x ≡ Some c) u e in cc), not_same l 85 (λ u. let k = subst (λ (x : ℕ). short_escape Text x ≡ Some c) u e in cc)) refl

passes : (form : Enclosure) (front later : List ℕ) → text_behind form (length front) (front ++ later) ≡ text_behind form 0 later
passes form [] later = refl
passes form (c ∷ cs) later = passes form cs later

le_is_true : (n m : ℕ) → n ≤ m → nat_le n m ≡ true
le_is_true n m h = grind (arith, nat_tests)

fits_front : (digits later : List ℕ) → nat_le (length digits) (length (digits ++ later)) ≡ true
fits_front digits later = le_is_true (length digits) (length (digits ++ later)) (omega (arith, length-append digits later))

code_back : (digits later : List ℕ) (c : ℕ) → hex_from 0 digits ≡ Some c → is_scalar c ≡ true → code_at (length digits) (digits ++ later) ≡ Some c
unfolding code_at
code_back digits later c e s =
    let fits : nat_le (length digits) (length (digits ++ later)) ≡ true = fits_front digits later in
    rw (fits, take-append_seam digits later, e, s) refl

escape_back : (form : Enclosure) (l : ℕ) (later : List ℕ) (c : ℕ) → short_escape form l ≡ Some c → escape_at form (l ∷ later) ≡ Some (c, 1)
unfolding escape_at
escape_back form l later c e = rw (unmarked form l c e, e) refl

code_escape_back : (form : Enclosure) (mark : ℕ) (digits later : List ℕ) (c : ℕ) → digits_of_mark mark ≡ Some (length digits) → hex_from 0 digits ≡ Some c → is_scalar c ≡ true
    → escape_at form (mark ∷ (digits ++ later)) ≡ Some (c, length digits + 1)
unfolding escape_at
code_escape_back form mark digits later c d e s = rw (d, code_back digits later c e s) refl

raw_back : (form : Enclosure) (c : ℕ) (later : List ℕ) → stands_raw form c ≡ true → piece_at form c later ≡ Some (c, 0)
unfolding piece_at
raw_back form c later r = rw (raw_differs form c 92 r (back_not_raw form), r) refl

escaped_back : (form : Enclosure) (later : List ℕ) → piece_at form 92 later ≡ escape_at form later
unfolding piece_at
escaped_back form later = refl

one_more : (form : Enclosure) (front later : List ℕ) (c : ℕ) → SpellsCharacter form front c → text_behind form 0 (front ++ later) ≡ onto (encode_utf8 c) (text_behind form 0 later)
one_more form front later c (inl h) = rw (h.whole, raw_differs form c (close_of form) h.raw (close_not_raw form), raw_back form c later h.raw) refl
one_more form front later c (inr (inl h)) = rw (h.whole, back_not_close form, escaped_back form (h.letter ∷ later), escape_back form h.letter later c h.short) refl
one_more form front later c (inr (inr h)) =
    rw (h.whole, back_not_close form, escaped_back form (h.mark ∷ (h.digits ++ later)), code_escape_back form h.mark h.digits later c h.count h.number h.scalar, add-one)
    (ap (λ (o : Option (List ℕ × List ℕ)). onto (encode_utf8 c) o) (passes form h.digits later))

closes : (form : Enclosure) (rest : List ℕ) → text_behind form 0 (close_of form ∷ rest) ≡ Some ([], rest)
closes Iri rest = refl
closes Text rest = refl

pub complete_text : (form : Enclosure) (inner meant rest : List ℕ) → SpellsCharacters form inner meant → text_behind form 0 (inner ++ close_of form ∷ rest) ≡ Some (encode_utf8_all meant, rest)
complete_text form inner [] rest s = rw s (closes form rest)
complete_text form inner (c ∷ cs) rest s =
    rw (s.2, append_assoc) (one_more form s.0 (s.1 ++ close_of form ∷ rest) c s.3 ∙ ap (λ (o : Option (List ℕ × List ℕ)). onto (encode_utf8 c) o) (complete_text form s.1 cs rest s.4))
