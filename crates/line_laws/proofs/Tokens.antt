-- Terms at the front: what is read is what is spelled.
use Rattle.std.proofs.Common.{◌≡◌, ℕ, ◌<◌, ◌⊎◌, inl, inr, Bool, true, false, cond, eqb, List, [], ◌∷◌, ◌++◌, length, take, drop, map, reverse, refl, sym, ap, ◌∙◌, subst, arith, append_assoc}
use Rattle.std.specs.Prelude.{Some, encode_utf8_all}
use Rattle.std.specs.List.{prefix_len}
use Rattle.std.proofs.Math.Seq.{drop-append_seam}
use Rattle.std.proofs.lemmas.Bool.Decides.{Decides-eqb, nat_tests}
use Rattle.std.proofs.lemmas.List.{reverse-append, reverse-reverse}
use Rattle.std.specs.Str.{IsAscii}
use Rattle.std.proofs.lemmas.Str.{encodes-IsAscii}
use Rattle.std.proofs.lemmas.Str.Ascii.{IsAscii-nil, IsAscii-cons}
use Rattle.rdf_meaning.specs.declared.text.KnownDatatype.TheVariants.{String}
use Rattle.rdf_meaning.specs.Known.{known_bytes}
use Rattle.rdf_meaning.specs.Terms.{RdfTerm, iri, typed, tagged, is_label_of, is_tag}
use Rattle.line_meaning.specs.declared.enclosure.Enclosure.{Enclosure}
use Rattle.line_meaning.specs.declared.enclosure.Enclosure.TheVariants.{Iri, Text}
use Rattle.line_meaning.specs.Characters.{close_of, is_tag_part, lower}
use Rattle.line_meaning.specs.Labels.{blank_in}
use Rattle.line_meaning.specs.Grammar.{Each, Encloses, open_of, SpellsIri, SpellsBlank, SpellsSubject, SpellsLiteral, SpellsObject}
use Rattle.line_meaning.specs.Reader.{after_char, text_at, iri_at, iri_term_at, is_label_or_dot, is_dot, without_last_dots, label_run, label_at, blank_at, starts, subject_at, tag_run, tagged_at, typed_at, literal_of, literal_at, object_at}
use Rattle.line_laws.proofs.Fronts.{bind_some, map_some, chosen, front_passes, parts, after_char_is}
use Rattle.line_laws.proofs.Pieces.{Found, sound_text, complete_text}

-- what stands at the front, and what follows it
pub record Front (P : List ℕ → Type 0) (cs rest : List ℕ) : Type 0 where
  pub written : List ℕ
  pub is : P written
  pub whole : cs ≡ written ++ rest

text_front : (form : Enclosure) (cs : List ℕ) (x : List ℕ × List ℕ) → text_at form cs ≡ Some x → Found form cs x
unfolding text_at
text_front form cs x e = sound_text form 0 cs x e

-- a text with its marks, behind the first of which it was found
enclosed_by : (form : Enclosure) (cs inner : List ℕ) (x : List ℕ × List ℕ) → cs ≡ open_of form ∷ inner → Found form inner x → Front (λ w. Encloses form w x.0) cs x.1
enclosed_by form cs inner x opens f = record {
  written = open_of form ∷ (f.inner ++ close_of form ∷ []);
  is = record { inner = f.inner; meant = f.meant; spelled = f.spelled; text_is = f.text_is; whole = refl };
  whole = opens ∙ ap (λ (t : List ℕ). open_of form ∷ t) (f.whole ∙ sym (append_assoc f.inner (close_of form ∷ []) x.1));
}

pub iri_front : (cs : List ℕ) (x : List ℕ × List ℕ) → iri_at cs ≡ Some x → Front (λ w. Encloses Iri w x.0) cs x.1
unfolding iri_at
iri_front cs x e =
    let a = bind_some (after_char 60 cs) (λ inner. text_at Iri inner) x e in
    enclosed_by Iri cs a.0 x (after_char_is 60 cs a.0 a.1) (text_front Iri a.0 x a.2)

pub iri_back : (w text rest : List ℕ) → Encloses Iri w text → iri_at (w ++ rest) ≡ Some (text, rest)
unfolding iri_at text_at
iri_back w text rest h = rw (h.whole, append_assoc h.inner (62 ∷ []) rest, h.text_is) (complete_text Iri h.inner h.meant rest h.spelled)

pub iri_term_front : (cs : List ℕ) (x : RdfTerm × List ℕ) → iri_term_at cs ≡ Some x → Front (λ w. SpellsIri w x.0) cs x.1
iri_term_front cs x e =
    let m = map_some (λ (y : List ℕ × List ℕ). (iri y.0, y.1)) (iri_at cs) x e in
    let f = iri_front cs m.0 m.1 in
    rw (← m.2) (record { written = f.written; is = record { text = m.0.0; enclosed = f.is; term = refl }; whole = f.whole })

pub iri_term_back : (w rest : List ℕ) (t : RdfTerm) → SpellsIri w t → iri_term_at (w ++ rest) ≡ Some (t, rest)
iri_term_back w rest t h = rw (iri_back w h.text rest h.enclosed, h.term) refl

-- full stops that stand last are cut, and nothing else
dots_cut : (cs : List ℕ) → (dots : List ℕ) × (cs ≡ without_last_dots cs ++ dots)
dots_cut cs =
    let n = prefix_len is_dot (reverse cs) in (
      reverse (take n (reverse cs)),
      sym (reverse-reverse cs) ∙ ap (λ (t : List ℕ). reverse t) (parts n (reverse cs)) ∙ reverse-append (take n (reverse cs)) (drop n (reverse cs)),
    )

-- a label is a front
run_front : (cs : List ℕ) → cs ≡ label_run cs ++ drop (length (label_run cs)) cs
run_front cs =
    let k = prefix_len is_label_or_dot cs in
    let d = dots_cut (take k cs) in
    let later = d.0 ++ drop k cs in
    let e : cs ≡ label_run cs ++ later = parts k cs ∙ ap (λ (t : List ℕ). t ++ drop k cs) d.1 ∙ append_assoc (label_run cs) d.0 (drop k cs) in
    let same : drop (length (label_run cs)) cs ≡ later = ap (λ (t : List ℕ). drop (length (label_run cs)) t) e ∙ drop-append_seam (label_run cs) later in
    e ∙ ap (λ (t : List ℕ). label_run cs ++ t) (sym same)

pub blank_front : (n : ℕ) (cs : List ℕ) (x : RdfTerm × List ℕ) → blank_at n cs ≡ Some x → Front (λ w. SpellsBlank n w x.0) cs x.1
unfolding blank_at label_at
blank_front n cs x e =
    let a = bind_some (after_char 95 cs) _ x e in
    let b = bind_some (after_char 58 a.0) _ x a.2 in
    let l = bind_some (label_at b.0) (λ label. Some (blank_in n label.0, label.1)) x b.2 in
    let run = label_run b.0 in
    let h = chosen (is_label_of run) (encode_utf8_all run, drop (length run) b.0) l.0 l.1 in
    let last : Some (blank_in n l.0.0, l.0.1) ≡ Some x = l.2 in
    let same : (blank_in n l.0.0, l.0.1) ≡ x = cc in
    rw (← same, ← h.1) (record {
      written = 95 ∷ 58 ∷ run;
      is = record { label = run; fine = h.0; whole = refl; term = refl };
      whole = after_char_is 95 cs a.0 a.1 ∙ ap (λ (t : List ℕ). 95 ∷ t) (after_char_is 58 a.0 b.0 b.1 ∙ ap (λ (t : List ℕ). 58 ∷ t) (run_front b.0));
    })

subject_cases : (n : ℕ) (b : Bool) (cs : List ℕ) (x : RdfTerm × List ℕ) → cond b (iri_term_at cs) (blank_at n cs) ≡ Some x → Front (λ w. SpellsSubject n w x.0) cs x.1
subject_cases n true cs x e = let f = iri_term_front cs x e in record { written = f.written; is = inl f.is; whole = f.whole }
subject_cases n false cs x e = let f = blank_front n cs x e in record { written = f.written; is = inr f.is; whole = f.whole }

pub subject_front : (n : ℕ) (cs : List ℕ) (x : RdfTerm × List ℕ) → subject_at n cs ≡ Some x → Front (λ w. SpellsSubject n w x.0) cs x.1
unfolding subject_at
subject_front n cs x e = subject_cases n (starts 60 cs) cs x e

small_part : (c : ℕ) → is_tag_part c ≡ true → lower c < 128
small_part c e = grind (arith, nat_tests)

pub small_tag : (cs : List ℕ) → Each is_tag_part cs → IsAscii (map lower cs)
small_tag [] e = IsAscii-nil
small_tag (c ∷ cs) e = IsAscii-cons (lower c) (map lower cs) (small_part c e.0) (small_tag cs e.1)

run_is : (cs : List ℕ) → tag_run cs ≡ map lower (take (prefix_len is_tag_part cs) cs)
run_is cs = encodes-IsAscii (map lower (take (prefix_len is_tag_part cs) cs)) (small_tag (take (prefix_len is_tag_part cs) cs) (front_passes is_tag_part cs))

-- what follows the text of a literal
pub record TagFollows (text cs : List ℕ) (x : RdfTerm × List ℕ) : Type 0 where
  pub tag : List ℕ
  pub fine : is_tag (map lower tag) ≡ true
  pub whole : cs ≡ 64 ∷ (tag ++ x.1)
  pub term : x.0 ≡ tagged text (map lower tag)

pub record TypeFollows (text cs : List ℕ) (x : RdfTerm × List ℕ) : Type 0 where
  pub back : List ℕ
  pub datatype : List ℕ
  pub typed_by : Encloses Iri back datatype
  pub whole : cs ≡ 94 ∷ 94 ∷ (back ++ x.1)
  pub term : x.0 ≡ typed text datatype

pub record NothingFollows (text cs : List ℕ) (x : RdfTerm × List ℕ) : Type 0 where
  pub rest : x.1 ≡ cs
  pub term : x.0 ≡ typed text (known_bytes String)

abbrev Follows : (text cs : List ℕ) (x : RdfTerm × List ℕ) → Type 0
Follows text cs x = NothingFollows text cs x ⊎ (TagFollows text cs x ⊎ TypeFollows text cs x)

tag_follows : (text cs : List ℕ) (x : RdfTerm × List ℕ) → tagged_at text cs ≡ Some x → TagFollows text (64 ∷ cs) x
unfolding tagged_at
tag_follows text cs x e =
    let k = prefix_len is_tag_part cs in
    let h = chosen (is_tag (tag_run cs)) (tagged text (tag_run cs), drop k cs) x e in
    let fine : is_tag (map lower (take k cs)) ≡ true = subst (λ (t : List ℕ). is_tag t ≡ true) (run_is cs) h.0 in
    rw (← h.1) (record { tag = take k cs; fine = fine; whole = ap (λ (t : List ℕ). 64 ∷ t) (parts k cs); term = ap (λ (t : List ℕ). tagged text t) (run_is cs) })

type_follows : (text cs : List ℕ) (x : RdfTerm × List ℕ) → typed_at text cs ≡ Some x → TypeFollows text (94 ∷ cs) x
unfolding typed_at
type_follows text cs x e =
    let a = bind_some (after_char 94 cs) _ x e in
    let b = bind_some (iri_at a.0) (λ datatype. Some (typed text datatype.0, datatype.1)) x a.2 in
    let f = iri_front a.0 b.0 b.1 in
    let last : Some (typed text b.0.0, b.0.1) ≡ Some x = b.2 in
    let same : (typed text b.0.0, b.0.1) ≡ x = cc in
    rw (← same) (record {
      back = f.written;
      datatype = b.0.0;
      typed_by = f.is;
      whole = ap (λ (t : List ℕ). 94 ∷ t) (after_char_is 94 cs a.0 a.1 ∙ ap (λ (t : List ℕ). 94 ∷ t) f.whole);
      term = refl;
    })

end_cases : (a b : Bool) (text : List ℕ) (c : ℕ) (cs : List ℕ) (x : RdfTerm × List ℕ) → eqb c 64 ≡ a → eqb c 94 ≡ b
    → cond a (tagged_at text cs) (cond b (typed_at text cs) (Some (typed text (known_bytes String), c ∷ cs))) ≡ Some x → Follows text (c ∷ cs) x
end_cases true b text c cs x ea eb e = let at : c ≡ 64 = (Decides-eqb c 64).0 ea in rw at (inr (inl (tag_follows text cs x e)))
end_cases false true text c cs x ea eb e = let at : c ≡ 94 = (Decides-eqb c 94).0 eb in rw at (inr (inr (type_follows text cs x e)))
end_cases false false text c cs x ea eb e = let same : (typed text (known_bytes String), c ∷ cs) ≡ x = cc in rw (← same) (inl (record { rest = refl; term = refl }))

literal_follows : (text cs : List ℕ) (x : RdfTerm × List ℕ) → literal_of text cs ≡ Some x → Follows text cs x
unfolding literal_of
literal_follows text [] x e = let same : (typed text (known_bytes String), []) ≡ x = cc in rw (← same) (inl (record { rest = refl; term = refl }))
literal_follows text (c ∷ cs) x e = end_cases (eqb c 64) (eqb c 94) text c cs x refl refl e

literal_cases : (cs : List ℕ) (x : RdfTerm × List ℕ) (text mid : List ℕ) → Front (λ w. Encloses Text w text) cs mid → Follows text mid x → Front (λ w. SpellsLiteral w x.0) cs x.1
literal_cases cs x text mid f (inl h) = record {
  written = f.written;
  is = inl (record { text = text; enclosed = f.is; term = h.term });
  whole = f.whole ∙ ap (λ (t : List ℕ). f.written ++ t) (sym h.rest);
}
literal_cases cs x text mid f (inr (inl h)) = record {
  written = f.written ++ 64 ∷ h.tag;
  is = inr (inl (record { front = f.written; text = text; tag = h.tag; enclosed = f.is; fine = h.fine; whole = refl; term = h.term }));
  whole = f.whole ∙ ap (λ (t : List ℕ). f.written ++ t) h.whole ∙ sym (append_assoc f.written (64 ∷ h.tag) x.1);
}
literal_cases cs x text mid f (inr (inr h)) = record {
  written = f.written ++ 94 ∷ 94 ∷ h.back;
  is = inr (inr (record { front = f.written; back = h.back; text = text; datatype = h.datatype; enclosed = f.is; typed_by = h.typed_by; whole = refl; term = h.term }));
  whole = f.whole ∙ ap (λ (t : List ℕ). f.written ++ t) h.whole ∙ sym (append_assoc f.written (94 ∷ 94 ∷ h.back) x.1);
}

pub literal_front : (cs : List ℕ) (x : RdfTerm × List ℕ) → literal_at cs ≡ Some x → Front (λ w. SpellsLiteral w x.0) cs x.1
unfolding literal_at
literal_front cs x e =
    let a = bind_some (after_char 34 cs) _ x e in
    let b = bind_some (text_at Text a.0) (λ text. literal_of text.0 text.1) x a.2 in
    let f = enclosed_by Text cs a.0 b.0 (after_char_is 34 cs a.0 a.1) (text_front Text a.0 b.0 b.1) in
    literal_cases cs x b.0.0 b.0.1 f (literal_follows b.0.0 b.0.1 x b.2)

object_cases : (n : ℕ) (b : Bool) (cs : List ℕ) (x : RdfTerm × List ℕ) → cond b (literal_at cs) (subject_at n cs) ≡ Some x → Front (λ w. SpellsObject n w x.0) cs x.1
object_cases n true cs x e = let f = literal_front cs x e in record { written = f.written; is = inr f.is; whole = f.whole }
object_cases n false cs x e = let f = subject_front n cs x e in record { written = f.written; is = inl f.is; whole = f.whole }

pub object_front : (n : ℕ) (cs : List ℕ) (x : RdfTerm × List ℕ) → object_at n cs ≡ Some x → Front (λ w. SpellsObject n w x.0) cs x.1
unfolding object_at
object_front n cs x e = object_cases n (starts 34 cs) cs x e
