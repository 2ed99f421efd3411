-- Terms and lines that are spelled are read.
use Rattle.std.proofs.Common.{◌≡◌, ℕ, suc, ◌+◌, ◌⊎◌, inl, inr, Bool, true, false, cond, eqb, not, ◌&&◌, ◌||◌, List, [], ◌∷◌, ◌++◌, drop, map, reverse, refl, sym, ap, ◌∙◌, subst, arith, append_assoc}
use Rattle.std.specs.Prelude.{Some, encode_utf8_all}
use Rattle.std.specs.List.{prefix_len}
use Rattle.std.specs.Cmp.{first_so, second_so}
use Rattle.std.proofs.Math.Seq.{drop-append_seam}
use Rattle.std.proofs.lemmas.Bool.Decides.{nat_tests}
use Rattle.std.proofs.lemmas.List.{reverse-append, reverse-reverse}
use Rattle.std.proofs.lemmas.Str.{encodes-IsAscii}
use Rattle.rdf_meaning.specs.declared.text.KnownDatatype.TheVariants.{String}
use Rattle.rdf_meaning.specs.Known.{known_bytes}
use Rattle.rdf_meaning.specs.Characters.{is_label_part, is_label_start, is_digit, is_name_mark, is_small_letter}
use Rattle.rdf_meaning.specs.Terms.{RdfTerm, typed, tagged, is_label_of, goes_on_as_label, is_tag, goes_on_as_tag, is_empty}
use Rattle.line_meaning.specs.declared.enclosure.Enclosure.TheVariants.{Iri, Text}
use Rattle.line_meaning.specs.Characters.{is_tag_part, lower}
use Rattle.line_meaning.specs.Grammar.{Each, Encloses, SpellsBlank, SpellsSubject, SpellsLiteral, SpellsObject}
use Rattle.line_meaning.specs.Reader.{text_at, is_label_or_dot, is_dot, without_last_dots, label_run, label_at, blank_at, starts, subject_at, tag_run, tagged_at, typed_at, literal_of, literal_at, object_at}
use Rattle.line_laws.proofs.Fronts.{past, before, each_push}
use Rattle.line_laws.proofs.Pieces.{complete_text, not_same}
use Rattle.line_laws.proofs.Tokens.{iri_back, iri_term_back, small_tag}

drop_one_more : (n x : ℕ) (xs : List ℕ) → drop (1 + n) (x ∷ xs) ≡ drop n xs
drop_one_more n x xs = let e : 1 + n ≡ suc n = omega arith in ap (λ k. drop k (x ∷ xs)) e

last_dot : (xs : List ℕ) → without_last_dots (xs ++ 46 ∷ []) ≡ without_last_dots xs
last_dot xs = rw (reverse-append xs (46 ∷ [])) (ap (λ (t : List ℕ). reverse t) (drop_one_more (prefix_len is_dot (reverse xs)) 46 (reverse xs)))

last_other : (xs : List ℕ) (c : ℕ) → is_dot c ≡ false → without_last_dots (xs ++ c ∷ []) ≡ xs ++ c ∷ []
last_other xs c e =
    let r : reverse (xs ++ c ∷ []) ≡ c ∷ reverse xs = reverse-append xs (c ∷ []) in
    let kept : drop (prefix_len is_dot (c ∷ reverse xs)) (c ∷ reverse xs) ≡ c ∷ reverse xs = rw e refl in
    ap (λ (t : List ℕ). reverse (drop (prefix_len is_dot t) t)) r ∙ ap (λ (t : List ℕ). reverse t) (kept ∙ sym r) ∙ reverse-reverse (xs ++ c ∷ [])

or_right : (a b : Bool) → b ≡ true → (a || b) ≡ true
or_right true b e = refl
or_right false b e = e

or_left : (a b : Bool) → a ≡ true → (a || b) ≡ true
or_left true b e = refl
or_left false b e = cc

pub or_parts : (s m d n : Bool) → (s || d) ≡ true → (s || m || d || n) ≡ true
or_parts true m d n e = refl
or_parts false true d n e = refl
or_parts false false true n e = refl
or_parts false false false n e = cc

-- one character inside a label
goes_cases : (b : Bool) (c : ℕ) (cs : List ℕ) → eqb c 46 ≡ b → cond b (not (is_empty cs) && goes_on_as_label cs) (is_label_part c && goes_on_as_label cs) ≡ true
    → (is_label_or_dot c ≡ true) × (goes_on_as_label cs ≡ true)
goes_cases true c cs t e = (or_right (is_label_part c) (eqb c 46) t, second_so (not (is_empty cs)) (goes_on_as_label cs) e)
goes_cases false c cs t e = (or_left (is_label_part c) (eqb c 46) (first_so (is_label_part c) (goes_on_as_label cs) e), second_so (is_label_part c) (goes_on_as_label cs) e)

goes_each : (cs : List ℕ) → goes_on_as_label cs ≡ true → Each is_label_or_dot cs
goes_each [] e = tt
goes_each (c ∷ cs) e = let h = goes_cases (eqb c 46) c cs refl e in (h.0, goes_each cs h.1)

label_each : (cs : List ℕ) → is_label_of cs ≡ true → Each is_label_or_dot cs
label_each [] e = cc
label_each (c ∷ cs) e =
    let first = first_so (is_label_start c || is_digit c) (goes_on_as_label cs) e in
    (or_left (is_label_part c) (eqb c 46) (or_parts (is_label_start c) (eqb c 45) (is_digit c) (is_name_mark c) first), goes_each cs (second_so (is_label_start c || is_digit c) (goes_on_as_label cs) e))

-- the last character
record Ended (cs : List ℕ) : Type 0 where
  front : List ℕ
  last : ℕ
  whole : cs ≡ front ++ last ∷ []
  other : is_dot last ≡ false

alone : (b : Bool) (c : ℕ) → eqb c 46 ≡ b → cond b (not (is_empty {X = ℕ} []) && goes_on_as_label []) (is_label_part c && goes_on_as_label []) ≡ true → eqb c 46 ≡ false
alone true c t e = cc
alone false c t e = t

goes_ended : (cs : List ℕ) → goes_on_as_label cs ≡ true → (cs ≡ []) ⊎ Ended cs
goes_ended [] e = inl refl
goes_ended (c ∷ cs) e = by_rest (goes_ended cs (goes_cases (eqb c 46) c cs refl e).1)
  where
    by_rest : (cs ≡ []) ⊎ Ended cs → (c ∷ cs ≡ []) ⊎ Ended (c ∷ cs)
    by_rest (inl none) =
        inr (record { front = []; last = c; whole = ap (λ (t : List ℕ). c ∷ t) none; other = alone (eqb c 46) c refl (subst (λ (t : List ℕ). goes_on_as_label (c ∷ t) ≡ true) none e) })
    by_rest (inr h) = inr (record { front = c ∷ h.front; last = h.last; whole = ap (λ (t : List ℕ). c ∷ t) h.whole; other = h.other })

-- a label doesn't begin with a full stop
pub no_dot : (c : ℕ) → (is_label_start c || is_digit c) ≡ true → eqb c 46 ≡ false
no_dot c first = not_same c 46 (λ at. let k : (is_label_start 46 || is_digit 46) ≡ true = subst (λ (x : ℕ). (is_label_start x || is_digit x) ≡ true) at first in cc)

label_kept : (label : List ℕ) → is_label_of label ≡ true → without_last_dots label ≡ label
label_kept [] e = cc
label_kept (c ∷ cs) e = by_rest (goes_ended cs (second_so (is_label_start c || is_digit c) (goes_on_as_label cs) e))
  where
    first : (is_label_start c || is_digit c) ≡ true
    first = first_so (is_label_start c || is_digit c) (goes_on_as_label cs) e

    by_rest : (cs ≡ []) ⊎ Ended cs → without_last_dots (c ∷ cs) ≡ c ∷ cs
    by_rest (inl none) = rw none (last_other [] c (no_dot c first))
    by_rest (inr h) = rw h.whole (last_other (c ∷ h.front) h.last h.other)

-- what may stand behind a term: a blank, an IRI, or a full stop that ends a triple
pub data EndsTerm (rest : List ℕ) : Type 0 where
  at_space : (more : List ℕ) → rest ≡ 32 ∷ more → EndsTerm rest
  at_tab : (more : List ℕ) → rest ≡ 9 ∷ more → EndsTerm rest
  at_iri : (more : List ℕ) → rest ≡ 60 ∷ more → EndsTerm rest
  at_dot : (more : List ℕ) → rest ≡ 46 ∷ more → prefix_len is_label_or_dot more ≡ 0 → EndsTerm rest

run_stops : (label rest : List ℕ) → is_label_of label ≡ true → prefix_len is_label_or_dot rest ≡ 0 → label_run (label ++ rest) ≡ label
run_stops label rest e z = ap (λ (t : List ℕ). without_last_dots t) (before is_label_or_dot label rest (label_each label e) z) ∙ label_kept label e

run_dot : (label more : List ℕ) → is_label_of label ≡ true → prefix_len is_label_or_dot more ≡ 0 → label_run (label ++ 46 ∷ more) ≡ label
run_dot label more e z =
    let g : label ++ 46 ∷ more ≡ (label ++ 46 ∷ []) ++ more = sym (append_assoc label (46 ∷ []) more) in
    ap (λ (t : List ℕ). label_run t) g
    ∙ ap (λ (t : List ℕ). without_last_dots t) (before is_label_or_dot (label ++ 46 ∷ []) more (each_push is_label_or_dot label 46 (label_each label e) refl) z)
    ∙ last_dot label ∙ label_kept label e

run_back : (label rest : List ℕ) → is_label_of label ≡ true → EndsTerm rest → label_run (label ++ rest) ≡ label
run_back label rest e (at_space more w) = run_stops label rest e (rw w refl)
run_back label rest e (at_tab more w) = run_stops label rest e (rw w refl)
run_back label rest e (at_iri more w) = run_stops label rest e (rw w refl)
run_back label rest e (at_dot more w z) = rw w (run_dot label more e z)

label_back : (label rest : List ℕ) → is_label_of label ≡ true → EndsTerm rest → label_at (label ++ rest) ≡ Some (encode_utf8_all label, rest)
unfolding label_at
label_back label rest e ends = rw (run_back label rest e ends, e, drop-append_seam label rest) refl

blank_back : (n : ℕ) (w rest : List ℕ) (t : RdfTerm) → SpellsBlank n w t → EndsTerm rest → blank_at n (w ++ rest) ≡ Some (t, rest)
unfolding blank_at
blank_back n w rest t h ends = rw (h.whole, label_back h.label rest h.fine ends, h.term) refl

iri_starts : (w text rest : List ℕ) → Encloses Iri w text → starts 60 (w ++ rest) ≡ true
iri_starts w text rest h = rw h.whole refl

blank_starts : (n : ℕ) (w rest : List ℕ) (t : RdfTerm) → SpellsBlank n w t → starts 60 (w ++ rest) ≡ false
blank_starts n w rest t h = rw h.whole refl

pub subject_back : (n : ℕ) (w rest : List ℕ) (t : RdfTerm) → SpellsSubject n w t → EndsTerm rest → subject_at n (w ++ rest) ≡ Some (t, rest)
unfolding subject_at
subject_back n w rest t (inl h) ends = rw (iri_starts w h.text rest h.enclosed) (iri_term_back w rest t h)
subject_back n w rest t (inr h) ends = rw (blank_starts n w rest t h) (blank_back n w rest t h ends)

literal_text : (w text more : List ℕ) → Encloses Text w text → literal_at (w ++ more) ≡ literal_of text more
unfolding literal_at text_at
literal_text w text more h = rw (h.whole, append_assoc h.inner (34 ∷ []) more, h.text_is, complete_text Text h.inner h.meant more h.spelled) refl

plain_end : (text rest : List ℕ) → EndsTerm rest → literal_of text rest ≡ Some (typed text (known_bytes String), rest)
unfolding literal_of
plain_end text rest (at_space more w) = rw w refl
plain_end text rest (at_tab more w) = rw w refl
plain_end text rest (at_iri more w) = rw w refl
plain_end text rest (at_dot more w z) = rw w refl

no_tag : (rest : List ℕ) → EndsTerm rest → prefix_len is_tag_part rest ≡ 0
no_tag rest (at_space more w) = rw w refl
no_tag rest (at_tab more w) = rw w refl
no_tag rest (at_iri more w) = rw w refl
no_tag rest (at_dot more w z) = rw w refl

dash_part : (c : ℕ) → eqb (lower c) 45 ≡ true → is_tag_part c ≡ true
dash_part c e = grind (arith, nat_tests)

letter_part : (c : ℕ) → is_small_letter (lower c) ≡ true → is_tag_part c ≡ true
letter_part c e = grind (arith, nat_tests)

digit_part : (c : ℕ) → is_digit (lower c) ≡ true → is_tag_part c ≡ true
digit_part c e = grind (arith, nat_tests)

some_part : (l n d : Bool) (c : ℕ) → is_small_letter (lower c) ≡ l → is_digit (lower c) ≡ d → (l || (n && d)) ≡ true → is_tag_part c ≡ true
some_part true n d c el ed e = letter_part c el
some_part false true true c el ed e = digit_part c ed
some_part false true false c el ed e = cc
some_part false false d c el ed e = cc

tag_dash : (b first some : Bool) (c : ℕ) (cs : List ℕ) → ((f g : Bool) → goes_on_as_tag f g (map lower cs) ≡ true → Each is_tag_part cs) → eqb (lower c) 45 ≡ b
    → cond b (some && goes_on_as_tag false false (map lower cs)) ((is_small_letter (lower c) || (not first && is_digit (lower c))) && goes_on_as_tag first true (map lower cs)) ≡ true
    → Each is_tag_part (c ∷ cs)
tag_dash true first some c cs ih t h = (dash_part c t, ih false false (second_so some (goes_on_as_tag false false (map lower cs)) h))
tag_dash false first some c cs ih t h =
    let one = first_so (is_small_letter (lower c) || (not first && is_digit (lower c))) (goes_on_as_tag first true (map lower cs)) h in (
      some_part (is_small_letter (lower c)) (not first) (is_digit (lower c)) c refl refl one,
      ih first true (second_so (is_small_letter (lower c) || (not first && is_digit (lower c))) (goes_on_as_tag first true (map lower cs)) h),
    )

tag_each : (first some : Bool) (cs : List ℕ) → goes_on_as_tag first some (map lower cs) ≡ true → Each is_tag_part cs
tag_each first some [] e = tt
tag_each first some (c ∷ cs) e = tag_dash (eqb (lower c) 45) first some c cs (λ f g h. tag_each f g cs h) refl e

tag_back : (text tag rest : List ℕ) → is_tag (map lower tag) ≡ true → EndsTerm rest → tagged_at text (tag ++ rest) ≡ Some (tagged text (map lower tag), rest)
unfolding tagged_at
tag_back text tag rest e ends =
    let each = tag_each true false tag e in
    let z = no_tag rest ends in
    let run : tag_run (tag ++ rest) ≡ map lower tag =
    ap (λ (t : List ℕ). encode_utf8_all (map lower t)) (before is_tag_part tag rest each z) ∙ encodes-IsAscii (map lower tag) (small_tag tag each) in
    rw (run, e, past is_tag_part tag rest each z) refl

tag_end : (text tag rest : List ℕ) → is_tag (map lower tag) ≡ true → EndsTerm rest → literal_of text (64 ∷ (tag ++ rest)) ≡ Some (tagged text (map lower tag), rest)
unfolding literal_of
tag_end text tag rest e ends = tag_back text tag rest e ends

type_end : (text back datatype rest : List ℕ) → Encloses Iri back datatype → literal_of text (94 ∷ 94 ∷ (back ++ rest)) ≡ Some (typed text datatype, rest)
unfolding literal_of typed_at
type_end text back datatype rest h = rw (iri_back back datatype rest h) refl

literal_back : (w rest : List ℕ) (t : RdfTerm) → SpellsLiteral w t → EndsTerm rest → literal_at (w ++ rest) ≡ Some (t, rest)
literal_back w rest t (inl h) ends = rw h.term (literal_text w h.text rest h.enclosed ∙ plain_end h.text rest ends)
literal_back w rest t (inr (inl h)) ends =
    rw (h.term, h.whole, append_assoc h.front (64 ∷ h.tag) rest) (literal_text h.front h.text (64 ∷ (h.tag ++ rest)) h.enclosed ∙ tag_end h.text h.tag rest h.fine ends)
literal_back w rest t (inr (inr h)) ends =
    rw (h.term, h.whole, append_assoc h.front (94 ∷ 94 ∷ h.back) rest)
    (literal_text h.front h.text (94 ∷ 94 ∷ (h.back ++ rest)) h.enclosed ∙ type_end h.text h.back h.datatype rest h.typed_by)

text_starts : (w text rest : List ℕ) → Encloses Text w text → starts 34 (w ++ rest) ≡ true
text_starts w text rest h = rw h.whole refl

literal_starts : (w rest : List ℕ) (t : RdfTerm) → SpellsLiteral w t → starts 34 (w ++ rest) ≡ true
literal_starts w rest t (inl h) = text_starts w h.text rest h.enclosed
literal_starts w rest t (inr (inl h)) = rw (h.whole, append_assoc h.front (64 ∷ h.tag) rest) (text_starts h.front h.text (64 ∷ (h.tag ++ rest)) h.enclosed)
literal_starts w rest t (inr (inr h)) = rw (h.whole, append_assoc h.front (94 ∷ 94 ∷ h.back) rest) (text_starts h.front h.text (94 ∷ 94 ∷ (h.back ++ rest)) h.enclosed)

subject_starts : (n : ℕ) (w rest : List ℕ) (t : RdfTerm) → SpellsSubject n w t → starts 34 (w ++ rest) ≡ false
subject_starts n w rest t (inl h) = rw h.enclosed.whole refl
subject_starts n w rest t (inr h) = rw h.whole refl

pub object_back : (n : ℕ) (w rest : List ℕ) (t : RdfTerm) → SpellsObject n w t → EndsTerm rest → object_at n (w ++ rest) ≡ Some (t, rest)
unfolding object_at
object_back n w rest t (inl h) ends = rw (subject_starts n w rest t h) (subject_back n w rest t h ends)
object_back n w rest t (inr h) ends = rw (literal_starts w rest t h) (literal_back w rest t h ends)
