-- Names: what is found is spelled.
use Rattle.std.proofs.Common.{◌≡◌, ℕ, zero, suc, ◌+◌, inl, inr, Bool, true, false, eqb, List, [], ◌∷◌, ◌++◌, length, take, drop, refl, sym, ap, ◌∙◌, subst, arith, ◌||◌, ◌&&◌, not, append_assoc}
use Rattle.std.specs.Prelude.{Option, Some, None, encode_utf8_all}
use Rattle.std.specs.List.{filter}
use Rattle.std.proofs.Math.Seq.{drop-append_seam}
use Rattle.std.proofs.lemmas.List.{length-append}
use Rattle.rdf_meaning.specs.Characters.{is_digit, is_letter, is_base}
use Rattle.sparql_meaning.specs.declared.token.TokenKind.TheVariants as k
use Rattle.sparql_meaning.specs.declared.token.Found.{Found}
use Rattle.sparql_meaning.specs.Classes.{is_start, is_part, is_word_part, is_hex, is_kept}
use Rattle.sparql_meaning.specs.Tokens.{head, escaped_len, name_from, name_len, label_len, blank_at, local_len, is_no_backslash, local_text, named_at, one_more, to_colon, word_at, name_or_word}
use Rattle.sparql_token_laws.specs.Forms.{stands_in_name, GoesOn, name_ends, part, full_stop, percent, backslash, BeginsLocal, IsLocal, IsPrefix, begins_label}
use Rattle.sparql_token_laws.proofs.Basics.{Stands, either_true, both_true, chosen_or, is_same, whole_taken, some_same, none_some}
use Rattle.sparql_token_laws.proofs.Runs.{word_stands}
use Rattle.sparql_token_laws.proofs.Names.{part_on, dot_on, percent_on, kept_on, text_kept, label_len_is, colon_on, part_of_base, one_more_some}

-- a name in front, at its longest
pub record NameFront (local : Bool) (cs : List ℕ) : Type 0 where
  pub written : List ℕ
  pub behind : List ℕ
  pub text : List ℕ
  pub goes_on : GoesOn local written text
  pub count : name_from local 0 cs ≡ length written
  pub whole : cs ≡ written ++ behind

empty_front : (local : Bool) (cs : List ℕ) → name_from local 0 cs ≡ 0 → NameFront local cs
empty_front local cs n = record { written = []; behind = cs; text = []; goes_on = name_ends; count = n; whole = refl }

dot_front : (local : Bool) (cs written behind text : List ℕ) → GoesOn local written text → name_from local 0 cs ≡ length written → cs ≡ written ++ behind → NameFront local (46 ∷ cs)
dot_front local cs [] behind text g n w = empty_front local (46 ∷ cs) (rw n refl)
dot_front local cs (c ∷ written) behind text g n w = record {
  written = 46 ∷ c ∷ written;
  behind = behind;
  text = 46 ∷ text;
  goes_on = full_stop g;
  count = (let d = dot_on local (length written) cs (omega (arith, n)) in omega (arith, d, n));
  whole = ap (λ (t : List ℕ). 46 ∷ t) w;
}

part_front : (local : Bool) (c : ℕ) (cs : List ℕ) → stands_in_name local c ≡ true → NameFront local cs → NameFront local (c ∷ cs)
part_front local c cs s a = record {
  written = c ∷ a.written;
  behind = a.behind;
  text = c ∷ a.text;
  goes_on = part s a.goes_on;
  count = omega (arith, part_on local c cs s, a.count);
  whole = ap (λ (t : List ℕ). c ∷ t) a.whole;
}

percent_front : (c d : ℕ) (cs : List ℕ) → (t : Bool) → (is_hex c && is_hex d) ≡ t → NameFront true cs → NameFront true (37 ∷ c ∷ d ∷ cs)
percent_front c d cs false e a = empty_front true (37 ∷ c ∷ d ∷ cs) (rw e refl)
percent_front c d cs true e a = let b = both_true (is_hex c) (is_hex d) e in record {
  written = 37 ∷ c ∷ d ∷ a.written;
  behind = a.behind;
  text = 37 ∷ c ∷ d ∷ a.text;
  goes_on = percent b.0 b.1 a.goes_on;
  count = omega (arith, percent_on c d cs b.0 b.1, a.count);
  whole = ap (λ (t : List ℕ). 37 ∷ c ∷ d ∷ t) a.whole;
}

kept_front : (c : ℕ) (cs : List ℕ) → (t : Bool) → is_kept c ≡ t → NameFront true cs → NameFront true (92 ∷ c ∷ cs)
kept_front c cs false e a = empty_front true (92 ∷ c ∷ cs) (rw e refl)
kept_front c cs true e a = record {
  written = 92 ∷ c ∷ a.written;
  behind = a.behind;
  text = c ∷ a.text;
  goes_on = backslash e a.goes_on;
  count = omega (arith, kept_on c cs e, a.count);
  whole = ap (λ (t : List ℕ). 92 ∷ c ∷ t) a.whole;
}

no_and : (a : Bool) → (a && false) ≡ false
no_and true = refl
no_and false = refl

percents : (cs : List ℕ) → ((n : ℕ) → NameFront true (drop n cs)) → NameFront true (37 ∷ cs)
percents [] a = empty_front true (37 ∷ []) refl
percents (c ∷ []) a = empty_front true (37 ∷ c ∷ []) (let e : (is_hex c && is_hex 0) ≡ false = no_and (is_hex c) in rw e refl)
percents (c ∷ d ∷ cs) a = percent_front c d cs (is_hex c && is_hex d) refl (a 2)

backslashes : (cs : List ℕ) → ((n : ℕ) → NameFront true (drop n cs)) → NameFront true (92 ∷ cs)
backslashes [] a = empty_front true (92 ∷ []) refl
backslashes (c ∷ cs) a = kept_front c cs (is_kept c) refl (a 1)

local_none : (c : ℕ) → stands_in_name true c ≡ false → (is_part c || (true && eqb c 58)) ≡ false
local_none c s = s

plain_none : (c : ℕ) → stands_in_name false c ≡ false → (is_part c || (false && eqb c 58)) ≡ false
plain_none c s = rw s refl

escaped_front : (local : Bool) (c : ℕ) (cs : List ℕ) → eqb c 46 ≡ false → stands_in_name local c ≡ false → ((n : ℕ) → NameFront local (drop n cs)) → (p s : Bool) → eqb c 37 ≡ p → eqb c 92 ≡ s → NameFront local (c ∷ cs)
escaped_front false c cs d n a p s e h = let m = plain_none c n in empty_front false (c ∷ cs) (rw (d, m) refl)
escaped_front true c cs d n a true s e h = subst (λ (x : ℕ). NameFront true (x ∷ cs)) (sym (is_same c 37 e)) (percents cs a)
escaped_front true c cs d n a false true e h = subst (λ (x : ℕ). NameFront true (x ∷ cs)) (sym (is_same c 92 h)) (backslashes cs a)
escaped_front true c cs d n a false false e h = let m = local_none c n in empty_front true (c ∷ cs) (rw (d, m, e, h) refl)

name_step : (local : Bool) (c : ℕ) (cs : List ℕ) → ((n : ℕ) → NameFront local (drop n cs)) → (d s : Bool) → eqb c 46 ≡ d → stands_in_name local c ≡ s → NameFront local (c ∷ cs)
name_step local c cs a true s e h =
    let b = a 0 in
    subst (λ (x : ℕ). NameFront local (x ∷ cs)) (sym (is_same c 46 e)) (dot_front local cs b.written b.behind b.text b.goes_on b.count b.whole)
name_step local c cs a false true e h = part_front local c cs h (a 0)
name_step local c cs a false false e h = escaped_front local c cs e h a (eqb c 37) (eqb c 92) refl refl

name_behind : (local : Bool) (n : ℕ) (cs : List ℕ) → NameFront local (drop n cs)
name_behind local zero [] = empty_front local [] refl
name_behind local (suc n) [] = empty_front local [] refl
name_behind local zero (c ∷ cs) = name_step local c cs (λ n. name_behind local n cs) (eqb c 46) (stands_in_name local c) refl refl
name_behind local (suc n) (c ∷ cs) = name_behind local n cs

name_front : (local : Bool) (cs : List ℕ) → NameFront local cs
name_front local cs = name_behind local 0 cs

-- a name without escapes stands for itself
goes_same : (local : Bool) (cs text : List ℕ) → local ≡ false → GoesOn local cs text → GoesOn local cs cs
goes_same local _ _ l name_ends = name_ends
goes_same local _ _ l (part {cs = cs} {text = text} s g) = part s (goes_same local cs text l g)
goes_same local _ _ l (full_stop {c = c} {cs = cs} {text = text} g) = full_stop (goes_same local (c ∷ cs) text l g)
goes_same local _ _ l (percent s t g) = absurd cc
goes_same local _ _ l (backslash s g) = absurd cc

-- ---- blank nodes

abbrev blank_found : ℕ → List ℕ → Found
blank_found n cs = record { kind = k.Blank (encode_utf8_all (take n cs)); chars = 2 + n }

blank_stands_by : (c : ℕ) (cs : List ℕ) (f : Found) → begins_label c ≡ true → blank_found (label_len (c ∷ cs)) (c ∷ cs) ≡ f → Stands (95 ∷ 58 ∷ c ∷ cs) f
blank_stands_by c cs f b g =
    let a = name_front false cs in
    let l : label_len (c ∷ cs) ≡ suc (length a.written) = label_len_is c cs b ∙ ap suc a.count in
    let t : take (length a.written) cs ≡ a.written = whole_taken cs a.written a.behind (length a.written) refl a.whole in
    rw (← g, l, t) (record {
      written = 95 ∷ 58 ∷ c ∷ a.written;
      behind = a.behind;
      spelled = record {
        label = c ∷ a.written;
        fine = record { begin = c; others = a.written; begins = b; goes_on = goes_same false a.written a.text refl a.goes_on; whole = refl };
        text_is = refl;
        whole = refl;
      };
      count = omega arith;
      whole = ap (λ (t : List ℕ). 95 ∷ 58 ∷ c ∷ t) a.whole;
    })

label_some : (cs : List ℕ) (f : Found) → not (eqb (label_len cs) 0) ≡ true → blank_found (label_len cs) cs ≡ f → Stands (95 ∷ 58 ∷ cs) f
label_some [] f n g = absurd cc
label_some (c ∷ cs) f n g = by (begins_label c) refl
  where
    by : (b : Bool) → begins_label c ≡ b → Stands (95 ∷ 58 ∷ c ∷ cs) f
    by true e = blank_stands_by c cs f e g
    by false e = let z : not (eqb (label_len (c ∷ cs)) 0) ≡ false = rw e refl in absurd cc

pub blank_stands : (cs : List ℕ) (f : Found) → blank_at cs ≡ Some f → Stands (95 ∷ cs) f
unfolding blank_at
blank_stands [] f h = absurd (none_some f h)
blank_stands (c ∷ cs) f h = elim (chosen_or (eqb c 58 && not (eqb (label_len cs) 0)) (Some (blank_found (label_len cs) cs)) None (Some f) h) [
  | inl e ↦
      (let b = both_true (eqb c 58) (not (eqb (label_len cs) 0)) e.0 in
      subst (λ (x : ℕ). Stands (95 ∷ x ∷ cs) f) (sym (is_same c 58 b.0)) (label_some cs f b.1 (some_same (blank_found (label_len cs) cs) f e.1)))
  | inr e ↦ absurd (none_some f e.1)
]

-- ---- names with a prefix

-- a local name in front
record LocalFront (cs : List ℕ) : Type 0 where
  written : List ℕ
  behind : List ℕ
  text : List ℕ
  is_local : IsLocal text written
  count : local_len cs ≡ length written
  text_is : local_text cs ≡ encode_utf8_all text
  whole : cs ≡ written ++ behind

narrow : (a b d e f g : Bool) → (a || b || d || g) ≡ true → (g ≡ true → (e || f) ≡ true) → (a || b || d || e || f) ≡ true
narrow true b d e f g h x = refl
narrow false true d e f g h x = refl
narrow false false true e f g h x = refl
narrow false false false e f g h x = x h

escape_begins : (c : ℕ) (cs : List ℕ) → not (eqb (escaped_len (c ∷ cs)) 0) ≡ true → (eqb c 37 || eqb c 92) ≡ true
escape_begins c cs n = by (eqb c 37) (eqb c 92) refl refl
  where
    by : (p s : Bool) → eqb c 37 ≡ p → eqb c 92 ≡ s → (eqb c 37 || eqb c 92) ≡ true
    by true s e h = rw e refl
    by false true e h = rw (e, h) refl
    by false false e h = let z : not (eqb (escaped_len (c ∷ cs)) 0) ≡ false = rw (e, h) refl in absurd cc

abbrev begins_local : ℕ → List ℕ → Bool
begins_local c cs = is_start c || eqb c 58 || is_digit c || not (eqb (escaped_len (c ∷ cs)) 0)

is_local_by : (c : ℕ) (cs written behind text : List ℕ) → begins_local c cs ≡ true → GoesOn true written text → c ∷ cs ≡ written ++ behind → IsLocal text written
is_local_by c cs [] behind text b g w = inl (refl, sym (text_kept true [] text g))
is_local_by c cs (d ∷ written) behind text b g w =
    let same : c ≡ d = ap head w in
    inr (subst (λ (x : ℕ). BeginsLocal (x ∷ written)) same (narrow (is_start c) (eqb c 58) (is_digit c) (eqb c 37) (eqb c 92) (not (eqb (escaped_len (c ∷ cs)) 0)) b (escape_begins c cs)), g)

local_len_on : (c : ℕ) (cs : List ℕ) → begins_local c cs ≡ true → local_len (c ∷ cs) ≡ name_from true 0 (c ∷ cs)
unfolding name_len
local_len_on c cs b = rw b refl

local_front : (cs : List ℕ) → LocalFront cs
local_front [] = record { written = []; behind = []; text = []; is_local = inl (refl, refl); count = refl; text_is = refl; whole = refl }
local_front (c ∷ cs) = by (begins_local c cs) refl
  where
    by : (b : Bool) → begins_local c cs ≡ b → LocalFront (c ∷ cs)
    by true e =
        let a = name_front true (c ∷ cs) in
        let l : local_len (c ∷ cs) ≡ length a.written = local_len_on c cs e ∙ a.count in
        let t : take (local_len (c ∷ cs)) (c ∷ cs) ≡ a.written = whole_taken (c ∷ cs) a.written a.behind (local_len (c ∷ cs)) l a.whole in
        record {
          written = a.written;
          behind = a.behind;
          text = a.text;
          is_local = is_local_by c cs a.written a.behind a.text e a.goes_on a.whole;
          count = l;
          text_is = ap (λ (t : List ℕ). encode_utf8_all (filter is_no_backslash t)) t ∙ ap encode_utf8_all (text_kept true a.written a.text a.goes_on);
          whole = a.whole;
        }
    by false e =
        let l : local_len (c ∷ cs) ≡ 0 = rw e refl in
        record { written = []; behind = c ∷ cs; text = []; is_local = inl (refl, refl); count = l; text_is = ap (λ (n : ℕ). encode_utf8_all (filter is_no_backslash (take n (c ∷ cs)))) l; whole = refl }

pub named_stands : (prefix cs : List ℕ) (f : Found) → IsPrefix prefix → named_at prefix cs ≡ Some f → Stands (prefix ++ 58 ∷ cs) f
unfolding named_at
named_stands prefix cs f p h =
    let a = local_front cs in
    let g = some_same (record { kind = k.Named (encode_utf8_all prefix) (local_text cs); chars = length prefix + 1 + local_len cs }) f h in
    let w : prefix ++ 58 ∷ cs ≡ (prefix ++ 58 ∷ a.written) ++ a.behind = ap (λ (t : List ℕ). prefix ++ 58 ∷ t) a.whole ∙ sym (append_assoc prefix (58 ∷ a.written) a.behind) in
    subst (λ (x : Found). Stands (prefix ++ 58 ∷ cs) x) g (record {
      written = prefix ++ 58 ∷ a.written;
      behind = a.behind;
      spelled = record { front = prefix; back = a.written; text = a.text; is_prefix = p; is_local = a.is_local; prefix_is = refl; name_is = a.text_is; whole = refl };
      count = omega (arith, a.count, length-append prefix (58 ∷ a.written));
      whole = w;
    })

-- what stands before the first colon, where it is a name
record ColonFront (n : ℕ) (cs : List ℕ) : Type 0 where
  written : List ℕ
  behind : List ℕ
  goes_on : GoesOn false written written
  count : n ≡ length written
  whole : cs ≡ written ++ 58 ∷ behind

colon_dot_front : (n : ℕ) (cs written behind : List ℕ) → not (eqb (head cs) 58) ≡ true → GoesOn false written written → n ≡ length written → cs ≡ written ++ 58 ∷ behind → ColonFront (1 + n) (46 ∷ cs)
colon_dot_front n cs [] behind h g e w = let z : not (eqb (head cs) 58) ≡ false = rw w refl in absurd cc
colon_dot_front n cs (c ∷ written) behind h g e w = record { written = 46 ∷ c ∷ written; behind = behind; goes_on = full_stop g; count = omega (arith, e); whole = ap (λ (t : List ℕ). 46 ∷ t) w }

colon_step : (n c : ℕ) (cs : List ℕ) → (is_part c || (eqb c 46 && not (eqb (head cs) 58))) ≡ true → ColonFront n cs → ColonFront (1 + n) (c ∷ cs)
colon_step n c cs t a = elim (either_true (is_part c) (eqb c 46 && not (eqb (head cs) 58)) t) [
  | inl s ↦ record { written = c ∷ a.written; behind = a.behind; goes_on = part s a.goes_on; count = omega (arith, a.count); whole = ap (λ (t : List ℕ). c ∷ t) a.whole }
  | inr s ↦
      (let b = both_true (eqb c 46) (not (eqb (head cs) 58)) s in
      subst (λ (x : ℕ). ColonFront (1 + n) (x ∷ cs)) (sym (is_same c 46 b.0)) (colon_dot_front n cs a.written a.behind b.1 a.goes_on a.count a.whole))
]

colon_front : (cs : List ℕ) (n : ℕ) → to_colon cs ≡ Some n → ColonFront n cs
colon_front [] n h = absurd (none_some n h)
colon_front (c ∷ cs) n h = elim (chosen_or (eqb c 58) (Some 0) _ (Some n) h) [
  | inl e ↦ record { written = []; behind = cs; goes_on = name_ends; count = sym (some_same 0 n e.1); whole = ap (λ (x : ℕ). x ∷ cs) (is_same c 58 e.0) }
  | inr e ↦ elim (chosen_or (is_part c || (eqb c 46 && not (eqb (head cs) 58))) (one_more (to_colon cs)) None (Some n) e.1) [
    | inl i ↦ (let o = one_more_some (to_colon cs) n i.1 in subst (λ (x : ℕ). ColonFront x (c ∷ cs)) o.2 (colon_step o.0 c cs i.0 (colon_front cs o.0 o.1)))
    | inr i ↦ absurd (none_some n i.1)
  ]
]

prefixed_stands : (c n : ℕ) (cs : List ℕ) (f : Found) → is_base c ≡ true → to_colon (c ∷ cs) ≡ Some n → named_at (take n (c ∷ cs)) (drop (n + 1) (c ∷ cs)) ≡ Some f → Stands (c ∷ cs) f
prefixed_stands c n cs f b t h =
    let o = one_more_some (to_colon cs) n (sym (colon_on c cs (part_of_base c b)) ∙ t) in
    let a = colon_front cs o.0 o.1 in
    let front = c ∷ a.written in
    let w : c ∷ cs ≡ front ++ 58 ∷ a.behind = ap (λ (t : List ℕ). c ∷ t) a.whole in
    let l : n ≡ length front = omega (arith, o.2, a.count) in
    let taken : take n (c ∷ cs) ≡ front = whole_taken (c ∷ cs) front (58 ∷ a.behind) n l w in
    let m : n + 1 ≡ length (front ++ 58 ∷ []) = omega (arith, l, length-append front (58 ∷ [])) in
    let dropped : drop (n + 1) (c ∷ cs) ≡ a.behind =
    ap (λ (i : ℕ). drop i (c ∷ cs)) m ∙ ap (drop (length (front ++ 58 ∷ []))) (w ∙ sym (append_assoc front (58 ∷ []) a.behind)) ∙ drop-append_seam (front ++ 58 ∷ []) a.behind in
    let at : named_at front a.behind ≡ Some f = ap (named_at front) (sym dropped) ∙ ap (λ (t : List ℕ). named_at t (drop (n + 1) (c ∷ cs))) (sym taken) ∙ h in
    subst (λ (t : List ℕ). Stands t f) (sym w) (named_stands front a.behind f (inr (record { begin = c; others = a.written; begins = b; goes_on = a.goes_on; whole = refl })) at)

pub named_or_word_stands : (c : ℕ) (cs : List ℕ) (f : Found) (o : Option ℕ) → is_base c ≡ true → (is_letter c ≡ true → is_word_part c ≡ true) → to_colon (c ∷ cs) ≡ o → name_or_word (c ∷ cs) o ≡ Some f → Stands (c ∷ cs) f
named_or_word_stands c cs f (Some n) b l t h = prefixed_stands c n cs f b t h
named_or_word_stands c cs f None b l t h = elim (chosen_or (is_letter c) (word_at (c ∷ cs)) None (Some f) h) [
  | inl e ↦ word_stands c cs f e.0 (l e.0) e.1
  | inr e ↦ absurd (none_some f e.1)
]
