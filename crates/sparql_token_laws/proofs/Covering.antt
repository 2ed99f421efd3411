-- What is spelled in front of a text is covered by the token that is found there.
use Rattle.std.proofs.Common.{◌≡◌, ◌≤◌, ◌<◌, ℕ, zero, suc, ◌+◌, ◌⊎◌, inl, inr, Bool, true, false, cond, eqb, List, [], ◌∷◌, ◌++◌, length, take, drop, refl, sym, ap, ◌∙◌, subst, arith, ◌||◌, append_assoc}
use Rattle.std.specs.Prelude.{Option, Some, None, encode_utf8_all}
use Rattle.std.proofs.lemmas.Bool.Decides.{nat_tests}
use Rattle.std.proofs.lemmas.List.{length-append}
use Rattle.std.proofs.Math.Seq.{take-append_seam, drop-append_seam}
use Rattle.rdf_meaning.specs.Characters.{is_digit, is_letter, is_base}
use Rattle.line_meaning.specs.Grammar.{Each}
use Rattle.sparql_meaning.specs.declared.token.TokenKind.{TokenKind}
use Rattle.sparql_meaning.specs.declared.token.TokenKind.TheVariants as k
use Rattle.sparql_meaning.specs.declared.token.Mark.{Mark}
use Rattle.sparql_meaning.specs.declared.token.Mark.TheVariants as m
use Rattle.sparql_meaning.specs.declared.token.Quoting.TheVariants as q
use Rattle.sparql_meaning.specs.declared.token.Found.{Found}
use Rattle.sparql_meaning.specs.declared.token.Body.{Body}
use Rattle.sparql_meaning.specs.Classes.{is_start, is_part, is_word_part}
use Rattle.sparql_meaning.specs.declared.word.Word.{Word}
use Rattle.sparql_meaning.specs.Words.{word_of}
use Rattle.sparql_meaning.specs.Tokens.{head, starts_with, body_at, iri_of, text_of, long_text_of, quoted_at, variable_len, variable_at, named_at, to_colon, name_or_word, number_at, mark_at, or_else, token_at}
use Rattle.sparql_token_laws.specs.Forms.{AtLeastOne, IsSign, IsMantissa, Spells, SpellsBody, Encloses, SpellsText, SpellsLongText, SpellsVariable, SpellsBlank, SpellsNamed, SpellsTag, SpellsWord, SpellsInteger, SpellsDecimal, SpellsDouble, mark_text, GoesOn}
use Rattle.sparql_token_laws.proofs.Basics.{Covers, Exceeds, apart, either_true, both_true, or_right}
use Rattle.sparql_token_laws.proofs.Bodies.{BodyAt, character_long, body_found, body_spelled, starts_self, starts_same, closing_first}
use Rattle.sparql_token_laws.proofs.Runs.{variable_covers, word_covers, marks_cover, no_zero}
use Rattle.sparql_token_laws.proofs.Names.{blank_covers, named_covers, prefix_found, part_of_base, colon_on, one_more_some}
use Rattle.sparql_token_laws.proofs.Numbers.{dot_long, sign_long, integer_covers, decimal_covers, double_covers}
use Rattle.sparql_token_laws.proofs.Tags.{tag_covers}

or_covers : (kind : TokenKind) (n : ℕ) (o g : Option Found) → Covers kind n o → Covers kind n (or_else o g)
or_covers kind n None g c = absurd c
or_covers kind n (Some f) g c = c

-- ---- texts between marks

iri_covers : (text written rest : List ℕ) → Encloses q.Iri (60 ∷ []) text written → Covers (k.Iri text) (length written) (token_at (written ++ rest))
unfolding token_at
iri_covers text written rest h = rw (h.whole, h.text_is, body_spelled q.Iri h.body h.meant rest h.spelled) (omega arith, λ s. refl)

two_then_one : (a : ℕ) (cs : List ℕ) → starts_with (a ∷ a ∷ []) cs ≡ true → starts_with (a ∷ []) cs ≡ true
two_then_one a [] h = absurd cc
two_then_one a (c ∷ cs) h = let b = both_true (eqb a c) (starts_with (a ∷ []) cs) h in rw b.0 refl

empty_covers : (o : Option Body) → Covers (k.Text []) 2 (long_text_of o)
empty_covers None = (omega arith, λ s. refl)
empty_covers (Some b) = (omega arith, λ s. absurd (omega (arith, s)))

no_quote : (quote : ℕ) (body meant rest : List ℕ) → SpellsBody (q.Text quote) body meant → starts_with (quote ∷ quote ∷ []) (body ++ rest) ≡ true → meant ≡ []
no_quote quote body [] rest s h = refl
no_quote quote body (c ∷ cs) rest s h =
    let l : 1 ≤ length body = closing_first (q.Text quote) body (c ∷ cs) s in
    let t : starts_with (quote ∷ []) body ≡ true = sym (starts_same (quote ∷ []) body rest l) ∙ two_then_one quote (body ++ rest) h in
    let f : starts_with (quote ∷ []) body ≡ false = s.3 in
    absurd cc

quoted_covers : (quote : ℕ) (body meant rest : List ℕ) → SpellsBody (q.Text quote) body meant → Covers (k.Text (encode_utf8_all meant)) (suc (length body)) (quoted_at quote (body ++ rest))
unfolding quoted_at
quoted_covers quote body meant rest s = by (starts_with (quote ∷ quote ∷ []) (body ++ rest)) refl
  where
    by : (b : Bool) → starts_with (quote ∷ quote ∷ []) (body ++ rest) ≡ b
        → Covers (k.Text (encode_utf8_all meant)) (suc (length body)) (cond b (long_text_of (body_at (q.Long quote) (drop 2 (body ++ rest)))) (text_of (body_at (q.Text quote) (body ++ rest))))
    by false h = rw (body_spelled (q.Text quote) body meant rest s) (omega arith, λ e. refl)
    by true h =
        let z : meant ≡ [] = no_quote quote body meant rest s h in
        let t : SpellsBody (q.Text quote) body [] = subst (λ (x : List ℕ). SpellsBody (q.Text quote) body x) z s in
        let l : length body ≡ 1 = ap length t in
        rw (z, l) (empty_covers (body_at (q.Long quote) (drop 2 (body ++ rest))))

text_covers : (text written rest : List ℕ) → SpellsText text written → Covers (k.Text text) (length written) (token_at (written ++ rest))
unfolding token_at
text_covers text written rest (quote, inl e, h) = rw (h.whole, h.text_is, e) (quoted_covers 34 h.body h.meant rest (subst (λ (x : ℕ). SpellsBody (q.Text x) h.body h.meant) e h.spelled))
text_covers text written rest (quote, inr e, h) = rw (h.whole, h.text_is, e) (quoted_covers 39 h.body h.meant rest (subst (λ (x : ℕ). SpellsBody (q.Text x) h.body h.meant) e h.spelled))

long_covers : (quote : ℕ) (body meant rest : List ℕ) → SpellsBody (q.Long quote) body meant → Covers (k.LongText (encode_utf8_all meant)) (suc (suc (suc (length body)))) (quoted_at quote (quote ∷ quote ∷ (body ++ rest)))
unfolding quoted_at
long_covers quote body meant rest s =
    rw (starts_self (quote ∷ quote ∷ []) (body ++ rest), body_spelled (q.Long quote) body meant rest s) (omega arith, λ e. refl)

long_text_covers : (text written rest : List ℕ) → SpellsLongText text written → Covers (k.LongText text) (length written) (token_at (written ++ rest))
unfolding token_at
long_text_covers text written rest (quote, inl e, h) = rw (h.whole, h.text_is, e) (long_covers 34 h.body h.meant rest (subst (λ (x : ℕ). SpellsBody (q.Long x) h.body h.meant) e h.spelled))
long_text_covers text written rest (quote, inr e, h) = rw (h.whole, h.text_is, e) (long_covers 39 h.body h.meant rest (subst (λ (x : ℕ). SpellsBody (q.Long x) h.body h.meant) e h.spelled))

-- ---- names

variables_cover : (text written rest : List ℕ) → SpellsVariable text written → Covers (k.Variable text) (length written) (token_at (written ++ rest))
unfolding token_at
variables_cover text written rest h = elim h.is_mark [
  | inl e ↦ rw (h.whole, h.text_is, e) (or_covers _ _ (variable_at (h.first ∷ (h.others ++ rest))) _ (variable_covers h.first h.others rest h.begins h.goes_on))
  | inr e ↦ rw (h.whole, h.text_is, e) (or_covers _ _ (variable_at (h.first ∷ (h.others ++ rest))) _ (variable_covers h.first h.others rest h.begins h.goes_on))
]

blanks_cover : (text written rest : List ℕ) → SpellsBlank text written → Covers (k.Blank text) (length written) (token_at (written ++ rest))
unfolding token_at
blanks_cover text written rest h = rw (h.whole, h.text_is, h.fine.whole) (blank_covers h.fine.begin h.fine.others rest h.fine.begins h.fine.goes_on)

tags_cover : (text written rest : List ℕ) → SpellsTag text written → Covers (k.Tag text) (length written) (token_at (written ++ rest))
unfolding token_at
tags_cover text written rest h = rw (h.whole, h.text_is, append_assoc h.first h.others rest) (tag_covers h.first h.others rest h.letters h.parts)

base_at : (c : ℕ) (cs : List ℕ) → is_base c ≡ true → token_at (c ∷ cs) ≡ name_or_word (c ∷ cs) (to_colon (c ∷ cs))
unfolding token_at
base_at c cs b =
    let a1 : eqb c 60 ≡ false = apart is_base c 60 b refl in
    let a2 : eqb c 34 ≡ false = apart is_base c 34 b refl in
    let a3 : eqb c 39 ≡ false = apart is_base c 39 b refl in
    let a4 : eqb c 63 ≡ false = apart is_base c 63 b refl in
    let a5 : eqb c 36 ≡ false = apart is_base c 36 b refl in
    let a6 : eqb c 64 ≡ false = apart is_base c 64 b refl in
    let a7 : eqb c 58 ≡ false = apart is_base c 58 b refl in
    let a8 : eqb c 95 ≡ false = apart is_base c 95 b refl in
    rw (a1, a2, a3, a4, a5, a6, a7, a8, b) refl

named_at_base : (begin : ℕ) (others later : List ℕ) → is_base begin ≡ true → GoesOn false others others
    → token_at (begin ∷ (others ++ 58 ∷ later)) ≡ named_at (begin ∷ others) later
named_at_base begin others later b g =
    let cs = begin ∷ (others ++ 58 ∷ later) in
    let front = begin ∷ others in
    let t : take (length front) cs ≡ front = take-append_seam front (58 ∷ later) in
    let n : length front + 1 ≡ length (front ++ 58 ∷ []) = sym (length-append front (58 ∷ [])) in
    let d : drop (length front + 1) cs ≡ later = ap (λ (k : ℕ). drop k cs) n ∙ ap (drop (length (front ++ 58 ∷ []))) (sym (append_assoc front (58 ∷ []) later)) ∙ drop-append_seam (front ++ 58 ∷ []) later in
    base_at begin (others ++ 58 ∷ later) b
    ∙ ap (name_or_word cs) (prefix_found begin others later (part_of_base begin b) g)
    ∙ ap (λ (x : List ℕ). named_at x (drop (length front + 1) cs)) t
    ∙ ap (named_at front) d

colon_at : (cs : List ℕ) → token_at (58 ∷ cs) ≡ named_at [] cs
unfolding token_at
colon_at cs = refl

nameds_cover : (prefix name written rest : List ℕ) → SpellsNamed prefix name written → Covers (k.Named prefix name) (length written) (token_at (written ++ rest))
nameds_cover prefix name written rest h =
    let c = named_covers h.front h.back h.text rest h.is_local in
    let w : written ++ rest ≡ h.front ++ 58 ∷ (h.back ++ rest) = ap (λ (t : List ℕ). t ++ rest) h.whole ∙ append_assoc h.front (58 ∷ h.back) rest in
    let l : length written ≡ length h.front + suc (length h.back) = ap length h.whole ∙ length-append h.front (58 ∷ h.back) in
    let at : token_at (h.front ++ 58 ∷ (h.back ++ rest)) ≡ named_at h.front (h.back ++ rest) = elim h.is_prefix [
      | inl e ↦ rw e (colon_at (h.back ++ rest))
      | inr e ↦ rw e.whole (named_at_base e.begin e.others (h.back ++ rest) e.begins e.goes_on)
    ] in
    rw (w, l, at, h.prefix_is, h.name_is) c

-- ---- words

base_of_letter : (c : ℕ) → is_letter c ≡ true → is_base c ≡ true
base_of_letter c l = rw l refl

part_of_word : (c : ℕ) → is_word_part c ≡ true → is_part c ≡ true
part_of_word c h = elim (either_true (is_letter c || is_digit c) (eqb c 95) h) [
  | inl e ↦ elim (either_true (is_letter c) (is_digit c) e)
      [ inl f ↦ part_of_base c (base_of_letter c f) | inr f ↦ (let z = or_right (is_start c) (is_digit c) f in rw z refl) ]
  | inr e ↦ (let z = or_right (is_base c) (eqb c 95) e in rw z refl)
]

run_before_colon : (front rest : List ℕ) (n : ℕ) → Each is_word_part front → to_colon (front ++ rest) ≡ Some n → length front ≤ n
run_before_colon [] rest n e h = omega arith
run_before_colon (c ∷ cs) rest n e h =
    let o = one_more_some (to_colon (cs ++ rest)) n (sym (colon_on c (cs ++ rest) (part_of_word c e.0)) ∙ h) in
    let i = run_before_colon cs rest o.0 e.1 o.1 in
    omega (arith, i, o.2)

taken_long : (front rest : List ℕ) (n : ℕ) → length front ≤ n → length front ≤ length (take n (front ++ rest))
taken_long [] rest n l = omega arith
taken_long (c ∷ cs) rest zero l = absurd (omega (arith, l))
taken_long (c ∷ cs) rest (suc n) l = let i = taken_long cs rest n (omega (arith, l)) in omega (arith, i)

pub word_of_letter : (c : ℕ) → is_letter c ≡ true → is_word_part c ≡ true
word_of_letter c l = rw l refl

named_longer : (kind : TokenKind) (n : ℕ) (prefix cs : List ℕ) → n ≤ length prefix → Covers kind n (named_at prefix cs)
unfolding named_at
named_longer kind n prefix cs l = (omega (arith, l), λ s. absurd (omega (arith, l, s)))

words_cover_by : (first : ℕ) (others rest : List ℕ) (o : Option ℕ) → is_letter first ≡ true → Each is_word_part others → to_colon (first ∷ (others ++ rest)) ≡ o
    → Covers (k.Word (word_of (first ∷ others))) (suc (length others)) (name_or_word (first ∷ (others ++ rest)) o)
words_cover_by first others rest None l e h = rw l (word_covers first others rest (word_of_letter first l) e)
words_cover_by first others rest (Some n) l e h =
    let r : suc (length others) ≤ n = run_before_colon (first ∷ others) rest n (word_of_letter first l, e) h in
    named_longer _ _ (take n (first ∷ (others ++ rest))) (drop (n + 1) (first ∷ (others ++ rest))) (taken_long (first ∷ others) rest n r)

words_cover : (w : Word) (written rest : List ℕ) → SpellsWord w written → Covers (k.Word w) (length written) (token_at (written ++ rest))
words_cover w written rest h =
    let e : w ≡ word_of (h.first ∷ h.others) = h.word_is ∙ ap word_of h.whole in
    rw (e, h.whole, base_at h.first (h.others ++ rest) (base_of_letter h.first h.begins)) (words_cover_by h.first h.others rest (to_colon (h.first ∷ (h.others ++ rest))) h.begins h.goes_on refl)

-- ---- numbers

-- a sign, a full stop or a digit
abbrev BeginsNumber : ℕ → Type 0
BeginsNumber c = (is_digit c ≡ true) ⊎ ((c ≡ 43) ⊎ ((c ≡ 45) ⊎ (c ≡ 46)))

no_base : (c : ℕ) → is_digit c ≡ true → is_base c ≡ false
no_base c d = grind (arith, nat_tests)

number_first : (c : ℕ) (cs : List ℕ) → BeginsNumber c → token_at (c ∷ cs) ≡ or_else (number_at (c ∷ cs)) (mark_at (c ∷ cs))
unfolding token_at
number_first c cs (inl b) =
    let a1 : eqb c 60 ≡ false = apart is_digit c 60 b refl in
    let a2 : eqb c 34 ≡ false = apart is_digit c 34 b refl in
    let a3 : eqb c 39 ≡ false = apart is_digit c 39 b refl in
    let a4 : eqb c 63 ≡ false = apart is_digit c 63 b refl in
    let a5 : eqb c 36 ≡ false = apart is_digit c 36 b refl in
    let a6 : eqb c 64 ≡ false = apart is_digit c 64 b refl in
    let a7 : eqb c 58 ≡ false = apart is_digit c 58 b refl in
    let a8 : eqb c 95 ≡ false = apart is_digit c 95 b refl in
    let a9 : is_base c ≡ false = no_base c b in
    rw (a1, a2, a3, a4, a5, a6, a7, a8, a9) refl
number_first c cs (inr (inl e)) = rw e refl
number_first c cs (inr (inr (inl e))) = rw e refl
number_first c cs (inr (inr (inr e))) = rw e refl

-- a text that begins so
abbrev NumberFront : List ℕ → Type 0
NumberFront cs = (c : ℕ) × (rest : List ℕ) × (cs ≡ c ∷ rest) × BeginsNumber c

front_of : (sign cs : List ℕ) → IsSign sign → NumberFront cs → NumberFront (sign ++ cs)
front_of sign cs (inl h) f = rw h f
front_of sign cs (inr (inl h)) f = (43, cs, ap (λ (t : List ℕ). t ++ cs) h, inr (inl refl))
front_of sign cs (inr (inr h)) f = (45, cs, ap (λ (t : List ℕ). t ++ cs) h, inr (inr (inl refl)))

front_digits : (digits cs : List ℕ) → AtLeastOne is_digit digits → NumberFront (digits ++ cs)
front_digits [] cs d = absurd d
front_digits (c ∷ digits) cs d = (c, digits ++ cs, refl, inl d.0)

front_point : (digits cs : List ℕ) → Each is_digit digits → NumberFront (digits ++ 46 ∷ cs)
front_point [] cs d = (46, cs, refl, inr (inr (inr refl)))
front_point (c ∷ digits) cs d = (c, digits ++ 46 ∷ cs, refl, inl d.0)

number_token : (kind : TokenKind) (n : ℕ) (cs : List ℕ) → NumberFront cs → Covers kind n (number_at cs) → Covers kind n (token_at cs)
number_token kind n cs f c =
    let e : token_at cs ≡ or_else (number_at cs) (mark_at cs) = ap token_at f.2 ∙ number_first f.0 f.1 f.3 ∙ ap (λ (t : List ℕ). or_else (number_at t) (mark_at t)) (sym f.2) in
    rw e (or_covers kind n (number_at cs) (mark_at cs) c)

integers_cover : (text written rest : List ℕ) → SpellsInteger text written → Covers (k.Integer text) (length written) (token_at (written ++ rest))
integers_cover text written rest h =
    let w : written ++ rest ≡ h.sign ++ (h.whole_digits ++ rest) = ap (λ (t : List ℕ). t ++ rest) h.whole ∙ append_assoc h.sign h.whole_digits rest in
    number_token _ _ (written ++ rest) (rw w (front_of h.sign (h.whole_digits ++ rest) h.is_sign (front_digits h.whole_digits rest h.digits))) (integer_covers text written rest h)

decimals_cover : (text written rest : List ℕ) → SpellsDecimal text written → Covers (k.Decimal text) (length written) (token_at (written ++ rest))
decimals_cover text written rest h =
    let w : written ++ rest ≡ h.sign ++ (h.whole_digits ++ 46 ∷ (h.fraction ++ rest)) =
    ap (λ (t : List ℕ). t ++ rest) h.whole ∙ append_assoc h.sign (h.whole_digits ++ 46 ∷ h.fraction) rest ∙ ap (λ (t : List ℕ). h.sign ++ t) (append_assoc h.whole_digits (46 ∷ h.fraction) rest) in
    number_token _ _ (written ++ rest) (rw w (front_of h.sign (h.whole_digits ++ 46 ∷ (h.fraction ++ rest)) h.is_sign (front_point h.whole_digits (h.fraction ++ rest) h.digits))) (decimal_covers text written rest h)

front_mantissa : (mantissa cs : List ℕ) → IsMantissa mantissa → NumberFront (mantissa ++ cs)
front_mantissa mantissa cs (inl d) = front_digits mantissa cs d
front_mantissa mantissa cs (inr d) = rw (d.5, append_assoc d.0 (46 ∷ d.1) cs) (front_point d.0 (d.1 ++ cs) d.2)

doubles_cover : (text written rest : List ℕ) → SpellsDouble text written → Covers (k.Double text) (length written) (token_at (written ++ rest))
doubles_cover text written rest h =
    let w : written ++ rest ≡ h.sign ++ (h.mantissa ++ (h.exponent ++ rest)) =
    ap (λ (t : List ℕ). t ++ rest) h.whole ∙ append_assoc h.sign (h.mantissa ++ h.exponent) rest ∙ ap (λ (t : List ℕ). h.sign ++ t) (append_assoc h.mantissa h.exponent rest) in
    number_token _ _ (written ++ rest) (rw w (front_of h.sign (h.mantissa ++ (h.exponent ++ rest)) h.is_sign (front_mantissa h.mantissa (h.exponent ++ rest) h.is_mantissa))) (double_covers text written rest h)

-- ---- marks

mark_behind : (kind : TokenKind) (n : ℕ) (o g : Option Found) → Exceeds n o → Covers kind n g → Covers kind n (or_else o g)
mark_behind kind n None g x c = c
mark_behind kind n (Some f) g x c = (omega (arith, x), λ s. absurd (omega (arith, x, s)))

-- an IRI that begins with a character which doesn't close it
iri_long : (n : ℕ) (cs : List ℕ) (o : Option Body) → body_at q.Iri cs ≡ o → (n ≡ 1) ⊎ ((n ≡ 2) × ((rest : List ℕ) × (cs ≡ 61 ∷ rest))) → Exceeds n (iri_of o)
iri_long n cs None h x = tt
iri_long n cs (Some b) h x = by x
  where
    b_at : BodyAt q.Iri cs b
    b_at = body_found q.Iri cs b h

    two : (body meant behind rest : List ℕ) → SpellsBody q.Iri body meant → 61 ∷ rest ≡ body ++ behind → 2 ≤ length body
    two body [] behind rest s e = let z : 61 ∷ rest ≡ 62 ∷ behind = e ∙ ap (λ (t : List ℕ). t ++ behind) s in let y : 61 ≡ 62 = ap head z in absurd (omega (arith, y))
    two body (c ∷ meant) behind rest s e =
        let l : 1 ≤ length s.1 = closing_first q.Iri s.1 meant s.5 in
        let m : 1 ≤ length s.0 = character_long q.Iri s.0 c s.4 in
        omega (arith, l, m, ap length s.2, length-append s.0 s.1)

    by : (n ≡ 1) ⊎ ((n ≡ 2) × ((rest : List ℕ) × (cs ≡ 61 ∷ rest))) → n < 1 + b.chars
    by (inl e) = let l : 1 ≤ length b_at.written = closing_first q.Iri b_at.written b_at.meant b_at.spelled in omega (arith, e, l, b_at.count)
    by (inr e) = let l : 2 ≤ length b_at.written = two b_at.written b_at.meant b_at.rest e.1.0 b_at.spelled (sym e.1.1 ∙ b_at.whole) in omega (arith, e.0, l, b_at.count)

variable_long : (cs : List ℕ) → Exceeds 1 (variable_at cs)
unfolding variable_at
variable_long cs = by (variable_len cs)
  where
    by : (n : ℕ) → Exceeds 1 (cond (eqb n 0) None (Some (record { kind = k.Variable (encode_utf8_all (take n cs)); chars = 1 + n })))
    by zero = tt
    by (suc n) = rw (no_zero n) (omega arith)

less_covers : (rest : List ℕ) → Covers (k.Mark m.Less) 1 (token_at (60 ∷ rest))
unfolding token_at
less_covers rest = mark_behind _ 1 (iri_of (body_at q.Iri rest)) (mark_at (60 ∷ rest)) (iri_long 1 rest (body_at q.Iri rest) refl (inl refl)) (marks_cover m.Less rest)

less_equal_covers : (rest : List ℕ) → Covers (k.Mark m.LessEqual) 2 (token_at (60 ∷ 61 ∷ rest))
unfolding token_at
less_equal_covers rest = mark_behind _ 2 (iri_of (body_at q.Iri (61 ∷ rest))) (mark_at (60 ∷ 61 ∷ rest)) (iri_long 2 (61 ∷ rest) (body_at q.Iri (61 ∷ rest)) refl (inr (refl, (rest, refl)))) (marks_cover m.LessEqual rest)

question_covers : (rest : List ℕ) → Covers (k.Mark m.Question) 1 (token_at (63 ∷ rest))
unfolding token_at
question_covers rest = mark_behind _ 1 (variable_at rest) (mark_at (63 ∷ rest)) (variable_long rest) (marks_cover m.Question rest)

numbered : (c : ℕ) (kind : TokenKind) (rest : List ℕ) → BeginsNumber c → Exceeds 1 (number_at (c ∷ rest)) → Covers kind 1 (mark_at (c ∷ rest)) → Covers kind 1 (token_at (c ∷ rest))
numbered c kind rest b x m = rw (number_first c rest b) (mark_behind kind 1 (number_at (c ∷ rest)) (mark_at (c ∷ rest)) x m)

other : (c : ℕ) (mark : Mark) (n : ℕ) (rest : List ℕ) → token_at (c ∷ rest) ≡ mark_at (c ∷ rest) → Covers (k.Mark mark) n (mark_at (c ∷ rest)) → Covers (k.Mark mark) n (token_at (c ∷ rest))
other c mark n rest e m = rw e m

marks_are_covered : (mark : Mark) (rest : List ℕ) → Covers (k.Mark mark) (length (mark_text mark)) (token_at (mark_text mark ++ rest))
unfolding token_at number_at
marks_are_covered m.OpenBrace rest = marks_cover m.OpenBrace rest
marks_are_covered m.CloseBrace rest = marks_cover m.CloseBrace rest
marks_are_covered m.OpenBracket rest = marks_cover m.OpenBracket rest
marks_are_covered m.CloseBracket rest = marks_cover m.CloseBracket rest
marks_are_covered m.OpenSquare rest = marks_cover m.OpenSquare rest
marks_are_covered m.CloseSquare rest = marks_cover m.CloseSquare rest
marks_are_covered m.Dot rest = numbered 46 (k.Mark m.Dot) rest (inr (inr (inr refl))) (dot_long rest) (marks_cover m.Dot rest)
marks_are_covered m.Semicolon rest = marks_cover m.Semicolon rest
marks_are_covered m.Comma rest = marks_cover m.Comma rest
marks_are_covered m.Star rest = marks_cover m.Star rest
marks_are_covered m.Slash rest = marks_cover m.Slash rest
marks_are_covered m.Plus rest = numbered 43 (k.Mark m.Plus) rest (inr (inl refl)) (sign_long 43 rest (inl refl)) (marks_cover m.Plus rest)
marks_are_covered m.Minus rest = numbered 45 (k.Mark m.Minus) rest (inr (inr (inl refl))) (sign_long 45 rest (inr refl)) (marks_cover m.Minus rest)
marks_are_covered m.Equal rest = marks_cover m.Equal rest
marks_are_covered m.NotEqual rest = marks_cover m.NotEqual rest
marks_are_covered m.Less rest = less_covers rest
marks_are_covered m.Greater rest = marks_cover m.Greater rest
marks_are_covered m.LessEqual rest = less_equal_covers rest
marks_are_covered m.GreaterEqual rest = marks_cover m.GreaterEqual rest
marks_are_covered m.Not rest = marks_cover m.Not rest
marks_are_covered m.And rest = marks_cover m.And rest
marks_are_covered m.Or rest = marks_cover m.Or rest
marks_are_covered m.Pipe rest = marks_cover m.Pipe rest
marks_are_covered m.Caret rest = marks_cover m.Caret rest
marks_are_covered m.TwoCarets rest = marks_cover m.TwoCarets rest
marks_are_covered m.Question rest = question_covers rest

-- ---- all kinds

pub covers : (kind : TokenKind) (written rest : List ℕ) → Spells kind written → Covers kind (length written) (token_at (written ++ rest))
covers (k.Iri text) written rest h = iri_covers text written rest h
covers (k.Named prefix name) written rest h = nameds_cover prefix name written rest h
covers (k.Variable text) written rest h = variables_cover text written rest h
covers (k.Text text) written rest h = text_covers text written rest h
covers (k.LongText text) written rest h = long_text_covers text written rest h
covers (k.Tag text) written rest h = tags_cover text written rest h
covers (k.Blank text) written rest h = blanks_cover text written rest h
covers (k.Integer text) written rest h = integers_cover text written rest h
covers (k.Decimal text) written rest h = decimals_cover text written rest h
covers (k.Double text) written rest h = doubles_cover text written rest h
covers (k.Word word) written rest h = words_cover word written rest h
covers (k.Mark mark) written rest h = rw h (marks_are_covered mark rest)

pub none_spelled : (cs : List ℕ) → token_at cs ≡ None → (kind : TokenKind) (front back : List ℕ) → Spells kind front → cs ≡ front ++ back → ⊥
none_spelled cs e kind front back h w = subst (λ (o : Option Found). Covers kind (length front) o) (ap token_at (sym w) ∙ e) (covers kind front back h)

pub none_longer : (cs : List ℕ) (f : Found) → token_at cs ≡ Some f → (kind : TokenKind) (front back : List ℕ) → Spells kind front → cs ≡ front ++ back → (length front ≤ f.chars) × (length front ≡ f.chars → kind ≡ f.kind)
none_longer cs f e kind front back h w = subst (λ (o : Option Found). Covers kind (length front) o) (ap token_at (sym w) ∙ e) (covers kind front back h)
