-- Tags: what is spelled is found.
use Rattle.std.proofs.Common.{◌≡◌, ◌≤◌, ◌<◌, ℕ, suc, ◌+◌, inl, inr, Bool, true, false, cond, eqb, List, [], ◌∷◌, ◌++◌, length, take, drop, map, refl, sym, ap, ◌∙◌, arith, ◌||◌, ◌&&◌, not, append_assoc}
use Rattle.std.specs.Prelude.{encode_utf8_all}
use Rattle.std.specs.List.{prefix_len}
use Rattle.std.specs.Char.{to_ascii_lowercase}
use Rattle.std.specs.Str.{IsAscii}
use Rattle.std.proofs.Math.Numerals.{one-add}
use Rattle.std.proofs.lemmas.Str.{encodes-IsAscii}
use Rattle.std.proofs.lemmas.Str.Ascii.{IsAscii-nil, IsAscii-cons}
use Rattle.std.proofs.lemmas.Bool.Decides.{nat_tests}
use Rattle.std.proofs.lemmas.List.{length-append}
use Rattle.rdf_meaning.specs.Characters.{is_digit, is_letter, is_small_letter}
use Rattle.rdf_meaning.specs.Terms.{goes_on_as_tag, is_tag}
use Rattle.line_meaning.specs.Grammar.{Each}
use Rattle.sparql_meaning.specs.declared.token.TokenKind.TheVariants as k
use Rattle.sparql_meaning.specs.Tokens.{head, is_tag_part, later_tag_len, first_tag_len, tag_tail_len, tag_len, tag_at}
use Rattle.sparql_token_laws.specs.Forms.{AtLeastOne, LaterParts, no_part, one_part}
use Rattle.std.proofs.Math.Seq.{drop-append_seam}
use Rattle.sparql_token_laws.proofs.Basics.{Covers, chosen_or, both_true, is_same, front_taken, run_covers, run_is}

abbrev small : ℕ → ℕ
small = to_ascii_lowercase

-- a part's letters and digits
part_small : (c : ℕ) → is_tag_part c ≡ true → (eqb (small c) 45 ≡ false) × ((is_small_letter (small c) || (true && is_digit (small c))) ≡ true)
part_small c e = (grind (arith, nat_tests), grind (arith, nat_tests))

letter_small : (c : ℕ) → is_letter c ≡ true → (eqb (small c) 45 ≡ false) × ((is_small_letter (small c) || (false && is_digit (small c))) ≡ true)
letter_small c e = (grind (arith, nat_tests), grind (arith, nat_tests))

later_part : (c : ℕ) (cs : List ℕ) (some : Bool) → is_tag_part c ≡ true → goes_on_as_tag false true (map small (take (later_tag_len cs) cs)) ≡ true → goes_on_as_tag false some (map small (take (later_tag_len (c ∷ cs)) (c ∷ cs))) ≡ true
later_part c cs some t i = let p = part_small c t in rw (t, one-add, p.0, p.1) i

later_dash : (c : ℕ) (cs : List ℕ) → is_tag_part c ≡ false → eqb c 45 ≡ true → is_tag_part (head cs) ≡ true → goes_on_as_tag false false (map small (take (later_tag_len cs) cs)) ≡ true
    → (some : Bool) → some ≡ true → goes_on_as_tag false some (map small (take (later_tag_len (c ∷ cs)) (c ∷ cs))) ≡ true
later_dash c cs t d h i some s = let e : c ≡ 45 = is_same c 45 d in rw (e, h, s, one-add) i

later_stop : (c : ℕ) (cs : List ℕ) (some : Bool) → is_tag_part c ≡ false → (eqb c 45 && is_tag_part (head cs)) ≡ false → some ≡ true → goes_on_as_tag false some (map small (take (later_tag_len (c ∷ cs)) (c ∷ cs))) ≡ true
later_stop c cs some t d s = rw (t, d) s

only_some : (some t : Bool) → (some || t) ≡ true → t ≡ false → some ≡ true
only_some true t s e = refl
only_some false true s e = absurd cc
only_some false false s e = absurd cc

both_cases : (c : ℕ) (cs : List ℕ) (some : Bool) → (some || is_tag_part (head (c ∷ cs))) ≡ true → ((b : Bool) → (b || is_tag_part (head cs)) ≡ true → goes_on_as_tag false b (map small (take (later_tag_len cs) cs)) ≡ true)
    → (t d : Bool) → is_tag_part c ≡ t → (eqb c 45 && is_tag_part (head cs)) ≡ d → goes_on_as_tag false some (map small (take (later_tag_len (c ∷ cs)) (c ∷ cs))) ≡ true
both_cases c cs some s i true d t e = later_part c cs some t (i true refl)
both_cases c cs some s i false true t e =
    let b = both_true (eqb c 45) (is_tag_part (head cs)) e in
    later_dash c cs t b.0 b.1 (i false b.1) some (only_some some (is_tag_part c) s t)
both_cases c cs some s i false false t e = later_stop c cs some t e (only_some some (is_tag_part c) s t)

later_fits : (cs : List ℕ) (some : Bool) → (some || is_tag_part (head cs)) ≡ true → goes_on_as_tag false some (map small (take (later_tag_len cs) cs)) ≡ true
later_fits [] some s = only_some some false s refl
later_fits (c ∷ cs) some s = both_cases c cs some s (λ b e. later_fits cs b e) (is_tag_part c) (eqb c 45 && is_tag_part (head cs)) refl refl

-- letters, and then later parts
first_letter : (c : ℕ) (cs : List ℕ) (some : Bool) → is_letter c ≡ true → goes_on_as_tag true true (map small (take (first_tag_len cs + tag_tail_len (drop (first_tag_len cs) cs)) cs)) ≡ true
    → goes_on_as_tag true some (map small (take (first_tag_len (c ∷ cs) + tag_tail_len (drop (first_tag_len (c ∷ cs)) (c ∷ cs))) (c ∷ cs))) ≡ true
first_letter c cs some t i =
    let p = letter_small c t in
    let n = prefix_len is_letter cs in
    let l : prefix_len is_letter (c ∷ cs) ≡ suc n = rw t (omega arith) in
    let e : suc n + tag_tail_len (drop n cs) ≡ suc (n + tag_tail_len (drop n cs)) = omega arith in
    rw (l, e, p.0, p.1) i

no_letter_len : (c : ℕ) (cs : List ℕ) → is_letter c ≡ false → prefix_len is_letter (c ∷ cs) ≡ 0
no_letter_len c cs t = rw t refl

first_dash : (c : ℕ) (cs : List ℕ) (some : Bool) → is_letter c ≡ false → eqb c 45 ≡ true → some ≡ true
    → goes_on_as_tag true some (map small (take (first_tag_len (c ∷ cs) + tag_tail_len (drop (first_tag_len (c ∷ cs)) (c ∷ cs))) (c ∷ cs))) ≡ true
first_dash c cs some t d s = let e : c ≡ 45 = is_same c 45 d in rw (e, s) (by (is_tag_part (head cs)) refl)
  where
    by : (b : Bool) → is_tag_part (head cs) ≡ b → goes_on_as_tag true true (map small (take (0 + cond (is_tag_part (head cs)) (1 + later_tag_len cs) 0) (45 ∷ cs))) ≡ true
    by true h = let z : 0 + (1 + later_tag_len cs) ≡ suc (later_tag_len cs) = omega arith in rw (h, z) (later_fits cs false h)
    by false h = rw h refl

first_stop : (c : ℕ) (cs : List ℕ) (some : Bool) → is_letter c ≡ false → eqb c 45 ≡ false → some ≡ true
    → goes_on_as_tag true some (map small (take (first_tag_len (c ∷ cs) + tag_tail_len (drop (first_tag_len (c ∷ cs)) (c ∷ cs))) (c ∷ cs))) ≡ true
first_stop c cs some t d s = rw (t, d) s

first_cases : (c : ℕ) (cs : List ℕ) (some : Bool) → (some || is_letter c) ≡ true → goes_on_as_tag true true (map small (take (first_tag_len cs + tag_tail_len (drop (first_tag_len cs) cs)) cs)) ≡ true
    → (t d : Bool) → is_letter c ≡ t → eqb c 45 ≡ d → goes_on_as_tag true some (map small (take (first_tag_len (c ∷ cs) + tag_tail_len (drop (first_tag_len (c ∷ cs)) (c ∷ cs))) (c ∷ cs))) ≡ true
first_cases c cs some s i true d t e = first_letter c cs some t i
first_cases c cs some s i false true t e = first_dash c cs some t e (only_some some (is_letter c) s t)
first_cases c cs some s i false false t e = first_stop c cs some t e (only_some some (is_letter c) s t)

first_fits : (cs : List ℕ) (some : Bool) → (some || is_letter (head cs)) ≡ true → goes_on_as_tag true some (map small (take (first_tag_len cs + tag_tail_len (drop (first_tag_len cs) cs)) cs)) ≡ true
first_fits [] some s = only_some some false s refl
first_fits (c ∷ cs) some s = first_cases c cs some s (first_fits cs true refl) (is_letter c) (eqb c 45) refl refl

-- ---- how long

part_on : (c : ℕ) (cs : List ℕ) → is_tag_part c ≡ true → later_tag_len (c ∷ cs) ≡ suc (later_tag_len cs)
part_on c cs t = rw t (omega arith)

parts_on : (part cs : List ℕ) → Each is_tag_part part → later_tag_len (part ++ cs) ≡ length part + later_tag_len cs
parts_on [] cs e = omega arith
parts_on (c ∷ part) cs e = let i = parts_on part cs e.1 in omega (arith, i, part_on c (part ++ cs) e.0)

each_part : (p : ℕ → Bool) (cs : List ℕ) → AtLeastOne p cs → Each p cs
each_part p [] d = absurd d
each_part p (c ∷ cs) d = d

dash_on : (part cs : List ℕ) → AtLeastOne is_tag_part part → later_tag_len (45 ∷ (part ++ cs)) ≡ suc (later_tag_len (part ++ cs))
dash_on [] cs d = absurd d
dash_on (c ∷ part) cs d = let e = d.0 in rw e (omega arith)

later_covers : (others rest : List ℕ) → LaterParts others → length others ≤ later_tag_len (others ++ rest)
later_covers _ rest no_part = omega arith
later_covers _ rest (one_part part more d p) =
    let i = later_covers more rest p in
    let w : (part ++ more) ++ rest ≡ part ++ (more ++ rest) = append_assoc part more rest in
    omega (arith, i, ap (λ (t : List ℕ). later_tag_len (45 ∷ t)) w, dash_on part (more ++ rest) d, parts_on part (more ++ rest) (each_part is_tag_part part d), length-append part more)

tag_covers_len : (first others rest : List ℕ) → AtLeastOne is_letter first → LaterParts others → length (first ++ others) ≤ first_tag_len (first ++ (others ++ rest)) + tag_tail_len (drop (first_tag_len (first ++ (others ++ rest))) (first ++ (others ++ rest)))
tag_covers_len first _ rest d no_part = let l = run_covers is_letter first rest (each_part is_letter first d) in omega (arith, l, length-append first [])
tag_covers_len first _ rest d (one_part part more e p) =
    let others = 45 ∷ (part ++ more) in
    let n : prefix_len is_letter (first ++ (others ++ rest)) ≡ length first = run_is is_letter first (others ++ rest) (each_part is_letter first d) refl in
    let i = later_covers others rest (one_part part more e p) in
    rw (n, drop-append_seam first (others ++ rest)) (omega (arith, i, length-append first others))

-- ---- lower case

small_ascii : (c : ℕ) → is_tag_part c ≡ true → small c < 128
small_ascii c e = grind (arith, nat_tests)

abbrev tagged : ℕ → Bool
tagged c = is_tag_part c || eqb c 45

tagged_ascii : (c : ℕ) → tagged c ≡ true → small c < 128
tagged_ascii c e = grind (arith, nat_tests)

all_ascii : (cs : List ℕ) → Each tagged cs → IsAscii (map small cs)
all_ascii [] e = IsAscii-nil
all_ascii (c ∷ cs) e = IsAscii-cons (small c) (map small cs) (tagged_ascii c e.0) (all_ascii cs e.1)

-- what the lower case of a tag is made of stands in tags
fits_tagged : (first some : Bool) (cs : List ℕ) → goes_on_as_tag first some (map small cs) ≡ true → IsAscii (map small cs)
fits_tagged first some [] h = IsAscii-nil
fits_tagged first some (c ∷ cs) h = elim (chosen_or (eqb (small c) 45) (some && goes_on_as_tag false false (map small cs)) ((is_small_letter (small c) || (not first && is_digit (small c))) && goes_on_as_tag first true (map small cs)) true h) [
  | inl e ↦ (let b = both_true some (goes_on_as_tag false false (map small cs)) e.1 in
      let s : small c ≡ 45 = is_same (small c) 45 e.0 in IsAscii-cons (small c) (map small cs) (omega (arith, s)) (fits_tagged false false cs b.1))
  | inr e ↦ (let b = both_true (is_small_letter (small c) || (not first && is_digit (small c))) (goes_on_as_tag first true (map small cs)) e.1 in
      IsAscii-cons (small c) (map small cs) (letter_or_digit (small c) first b.0) (fits_tagged first true cs b.1))
]
  where
    letter_or_digit : (d : ℕ) (f : Bool) → (is_small_letter d || (not f && is_digit d)) ≡ true → d < 128
    letter_or_digit d true e = grind (arith, nat_tests)
    letter_or_digit d false e = grind (arith, nat_tests)

head_letter : (first later : List ℕ) → AtLeastOne is_letter first → is_letter (head (first ++ later)) ≡ true
head_letter [] later d = absurd d
head_letter (c ∷ cs) later d = d.0

pub tag_covers : (first others rest : List ℕ) → AtLeastOne is_letter first → LaterParts others
    → Covers (k.Tag (encode_utf8_all (map small (first ++ others)))) (suc (length (first ++ others))) (tag_at (first ++ (others ++ rest)))
unfolding tag_at tag_len
tag_covers first others rest d p =
    let cs = first ++ (others ++ rest) in
    let n = first_tag_len cs + tag_tail_len (drop (first_tag_len cs) cs) in
    let l : length (first ++ others) ≤ n = tag_covers_len first others rest d p in
    let f : is_tag (map small (take n cs)) ≡ true = first_fits cs false (head_letter first (others ++ rest) d) in
    let u : encode_utf8_all (map small (take n cs)) ≡ map small (take n cs) = encodes-IsAscii (map small (take n cs)) (fits_tagged true false (take n cs) f) in
    let w : is_tag (encode_utf8_all (map small (take n cs))) ≡ true = ap is_tag u ∙ f in
    rw w (
      omega (arith, l),
      λ same.
          let j : length (first ++ others) ≡ n = omega (arith, same) in
          ap (λ (t : List ℕ). k.Tag (encode_utf8_all (map small t))) (sym (front_taken (first ++ others) rest n j) ∙ ap (take n) (append_assoc first others rest)),
    )
