-- Lines: what is read is what is spelled.
use Rattle.std.proofs.Common.{◌≡◌, ℕ, inl, inr, Bool, true, false, cond, eqb, List, [], ◌∷◌, ◌++◌, take, refl, sym, ap, ◌∙◌, subst, append_assoc}
use Rattle.std.specs.Prelude.{Option, Some, None, option_map}
use Rattle.std.specs.List.{prefix_len}
use Rattle.std.specs.Str.{is_utf8, chars}
use Rattle.std.proofs.lemmas.Str.{IsUtf8-from_is_utf8}
use Rattle.std.proofs.lemmas.Bool.Decides.{Decides-eqb}
use Rattle.rdf_meaning.specs.Terms.{RdfTriple}
use Rattle.line_meaning.specs.Characters.{is_blank}
use Rattle.line_meaning.specs.Lines.{Reading, Nothing, Adds, Deletes}
use Rattle.line_meaning.specs.Grammar.{Each, SpellsTriple, IsComment, SpellsMarked, CharactersRead}
use Rattle.line_meaning.specs.Reader.{◌>>=◌, after_blanks, after_char, subject_at, iri_term_at, object_at, triple_at, is_end, last_triple, after_gap, marked, content, chars_reading, reading_of}
use Rattle.line_laws.specs.LineLaws.{IsSound}
use Rattle.line_laws.proofs.Fronts.{bind_some, map_some, chosen, front_passes, parts, after_char_is}
use Rattle.line_laws.proofs.Tokens.{Front, subject_front, iri_term_front, object_front}

gap : List ℕ → List ℕ
gap cs = take (prefix_len is_blank cs) cs

gap_blank : (cs : List ℕ) → Each is_blank (gap cs)
unfolding gap
gap_blank cs = front_passes is_blank cs

gap_parts : (cs : List ℕ) → cs ≡ gap cs ++ after_blanks cs
unfolding gap
gap_parts cs = parts (prefix_len is_blank cs) cs

pub regroup : (a b c d e f rest : List ℕ) → (a ++ (b ++ (c ++ (d ++ (e ++ (f ++ 46 ∷ [])))))) ++ rest ≡ a ++ (b ++ (c ++ (d ++ (e ++ (f ++ 46 ∷ rest)))))
regroup a b c d e f rest = simp append_assoc

pub triple_front : (n : ℕ) (cs : List ℕ) (x : RdfTriple × List ℕ) → triple_at n cs ≡ Some x → Front (λ w. SpellsTriple n w x.0) cs x.1
unfolding triple_at
triple_front n cs x e =
    let s = bind_some (subject_at n cs) _ x e in
    let p = bind_some (iri_term_at (after_blanks s.0.1)) _ x s.2 in
    let o = bind_some (object_at n (after_blanks p.0.1)) _ x p.2 in
    let d = bind_some (after_char 46 (after_blanks o.0.1)) (λ rest. Some (record { s = s.0.0; p = p.0.0; o = o.0.0 }, rest)) x o.2 in
    let sf = subject_front n cs s.0 s.1 in
    let pf = iri_term_front (after_blanks s.0.1) p.0 p.1 in
    let of = object_front n (after_blanks p.0.1) o.0 o.1 in
    let df = after_char_is 46 (after_blanks o.0.1) d.0 d.1 in
    let triple : RdfTriple = record { s = s.0.0; p = p.0.0; o = o.0.0 } in
    let last : Some (triple, d.0) ≡ Some x = d.2 in
    let same : (triple, d.0) ≡ x = cc in
    rw (← same) (record {
      written = sf.written ++ (gap s.0.1 ++ (pf.written ++ (gap p.0.1 ++ (of.written ++ (gap o.0.1 ++ 46 ∷ [])))));
      is = record {
        s = sf.written;
        after_s = gap s.0.1;
        p = pf.written;
        after_p = gap p.0.1;
        o = of.written;
        after_o = gap o.0.1;
        subject = sf.is;
        after_s_blank = gap_blank s.0.1;
        predicate = pf.is;
        after_p_blank = gap_blank p.0.1;
        object = of.is;
        after_o_blank = gap_blank o.0.1;
        whole = refl;
      };
      whole = sf.whole ∙ ap (λ (t : List ℕ). sf.written ++ t) (gap_parts s.0.1 ∙ ap (λ (t : List ℕ). gap s.0.1 ++ t) (pf.whole ∙ ap (λ (t : List ℕ). pf.written ++ t)
          (gap_parts p.0.1 ∙ ap (λ (t : List ℕ). gap p.0.1 ++ t) (of.whole ∙ ap (λ (t : List ℕ). of.written ++ t) (gap_parts o.0.1 ∙ ap (λ (t : List ℕ). gap o.0.1 ++ t) df)))))
          ∙ sym (regroup sf.written (gap s.0.1) pf.written (gap p.0.1) of.written (gap o.0.1) d.0);
    })

pub end_is : (cs : List ℕ) → is_end cs ≡ true → IsComment cs
end_is [] e = inl refl
end_is (c ∷ cs) e = let at : c ≡ 35 = (Decides-eqb c 35).0 e in inr (cs, ap (λ (d : ℕ). d ∷ cs) at)

-- a triple that goes to the end of a line
record Last (n : ℕ) (cs : List ℕ) (triple : RdfTriple) : Type 0 where
  body : List ℕ
  after : List ℕ
  comment : List ℕ
  spelled : SpellsTriple n body triple
  after_blank : Each is_blank after
  is_comment : IsComment comment
  whole : cs ≡ body ++ (after ++ comment)

last_front : (n : ℕ) (cs : List ℕ) (triple : RdfTriple) → last_triple n cs ≡ Some triple → Last n cs triple
unfolding last_triple
last_front n cs triple e =
    let b = bind_some (triple_at n cs) _ triple e in
    let h = chosen (is_end (after_blanks b.0.1)) b.0.0 triple b.2 in
    let f = triple_front n cs b.0 b.1 in
    rw (← h.1) (record {
      body = f.written;
      after = gap b.0.1;
      comment = after_blanks b.0.1;
      spelled = f.is;
      after_blank = gap_blank b.0.1;
      is_comment = end_is (after_blanks b.0.1) h.0;
      whole = f.whole ∙ ap (λ (t : List ℕ). f.written ++ t) (gap_parts b.0.1);
    })

record Gap (cs rest : List ℕ) : Type 0 where
  first : ℕ
  others : List ℕ
  first_blank : is_blank first ≡ true
  others_blank : Each is_blank others
  whole : cs ≡ first ∷ (others ++ rest)

gap_front : (cs rest : List ℕ) → after_gap cs ≡ Some rest → Gap cs rest
unfolding after_gap
gap_front [] rest e = cc
gap_front (c ∷ cs) rest e =
    let h = chosen (is_blank c) (after_blanks cs) rest e in
    rw (← h.1) (record { first = c; others = gap cs; first_blank = h.0; others_blank = gap_blank cs; whole = ap (λ (t : List ℕ). c ∷ t) (gap_parts cs) })

mark_front : (n : ℕ) (letter : ℕ) (before cs : List ℕ) (triple : RdfTriple) → Each is_blank before → (after_gap cs >>= last_triple n) ≡ Some triple → SpellsMarked n letter (before ++ letter ∷ cs) triple
mark_front n letter before cs triple b e =
    let g = bind_some (after_gap cs) (last_triple n) triple e in
    let gp = gap_front cs g.0 g.1 in
    let l = last_front n g.0 triple g.2 in (
      letter ∷ gp.first ∷ gp.others,
      record { first = gp.first; others = gp.others; first_blank = gp.first_blank; others_blank = gp.others_blank; whole = refl },
      record {
        before = before;
        body = l.body;
        after = l.after;
        comment = l.comment;
        before_blank = b;
        spelled = l.spelled;
        after_blank = l.after_blank;
        is_comment = l.is_comment;
        whole = ap (λ (t : List ℕ). before ++ letter ∷ t) (gp.whole ∙ ap (λ (t : List ℕ). gp.first ∷ (gp.others ++ t)) l.whole);
      },
    )

marked_add : (n : ℕ) (before cs : List ℕ) (r : Reading) → Each is_blank before → marked n Adds cs ≡ Some r → CharactersRead n (before ++ 65 ∷ cs) r
marked_add n before cs r b e =
    let m = map_some Adds (after_gap cs >>= last_triple n) r e in
    rw (← m.2) (inr (mark_front n 65 before cs m.0 b m.1))

marked_delete : (n : ℕ) (before cs : List ℕ) (r : Reading) → Each is_blank before → marked n Deletes cs ≡ Some r → CharactersRead n (before ++ 68 ∷ cs) r
marked_delete n before cs r b e =
    let m = map_some Deletes (after_gap cs >>= last_triple n) r e in
    rw (← m.2) (mark_front n 68 before cs m.0 b m.1)

plain_add : (n : ℕ) (before cs : List ℕ) (r : Reading) → Each is_blank before → option_map Adds (last_triple n cs) ≡ Some r → CharactersRead n (before ++ cs) r
plain_add n before cs r b e =
    let m = map_some Adds (last_triple n cs) r e in
    let l = last_front n cs m.0 m.1 in
    rw (← m.2) (inl (record {
      before = before;
      body = l.body;
      after = l.after;
      comment = l.comment;
      before_blank = b;
      spelled = l.spelled;
      after_blank = l.after_blank;
      is_comment = l.is_comment;
      whole = ap (λ (t : List ℕ). before ++ t) l.whole;
    }))

comment_line : (n : ℕ) (before cs : List ℕ) (r : Reading) → Each is_blank before → Some Nothing ≡ Some r → CharactersRead n (before ++ 35 ∷ cs) r
comment_line n before cs r b e =
    let same : Nothing ≡ r = cc in
    rw (← same) (record { before = before; comment = 35 ∷ cs; before_blank = b; is_comment = inr (cs, refl); whole = refl })

content_cases : (n : ℕ) (x y z : Bool) (before : List ℕ) (c : ℕ) (cs : List ℕ) (r : Reading) → Each is_blank before → eqb c 35 ≡ x → eqb c 65 ≡ y → eqb c 68 ≡ z
    → cond x (Some Nothing) (cond y (marked n Adds cs) (cond z (marked n Deletes cs) (option_map Adds (last_triple n (c ∷ cs))))) ≡ Some r → CharactersRead n (before ++ c ∷ cs) r
content_cases n true y z before c cs r b ex ey ez e = let at : c ≡ 35 = (Decides-eqb c 35).0 ex in rw at (comment_line n before cs r b e)
content_cases n false true z before c cs r b ex ey ez e = let at : c ≡ 65 = (Decides-eqb c 65).0 ey in rw at (marked_add n before cs r b e)
content_cases n false false true before c cs r b ex ey ez e = let at : c ≡ 68 = (Decides-eqb c 68).0 ez in rw at (marked_delete n before cs r b e)
content_cases n false false false before c cs r b ex ey ez e = plain_add n before (c ∷ cs) r b e

content_front : (n : ℕ) (before cs : List ℕ) (r : Reading) → Each is_blank before → content n cs ≡ Some r → CharactersRead n (before ++ cs) r
unfolding content
content_front n before [] r b e =
    let same : Nothing ≡ r = cc in
    rw (← same) (record { before = before; comment = []; before_blank = b; is_comment = inl refl; whole = refl })
content_front n before (c ∷ cs) r b e = content_cases n (eqb c 35) (eqb c 65) (eqb c 68) before c cs r b refl refl refl e

pub sound : IsSound
unfolding reading_of
sound n line r e =
    let h = by_text (is_utf8 line) (chars_reading n (chars line)) e in (
      IsUtf8-from_is_utf8 line h.0,
      subst (λ (t : List ℕ). CharactersRead n t r) (sym (gap_parts (chars line))) (content_front n (gap (chars line)) (after_blanks (chars line)) r (gap_blank (chars line)) h.1),
    )
  where
    by_text : (b : Bool) (o : Option Reading) → cond b o None ≡ Some r → (b ≡ true) × (o ≡ Some r)
    by_text true o e = (refl, e)
    by_text false o e = cc
