-- Lines that are spelled are read.
use Rattle.std.proofs.Common.{◌≡◌, ℕ, ◌⊎◌, inl, inr, Bool, true, false, eqb, ◌||◌, List, [], ◌∷◌, ◌++◌, refl, ap, ◌∙◌, append_assoc}
use Rattle.std.specs.Prelude.{Option, Some, option_map}
use Rattle.std.specs.List.{prefix_len}
use Rattle.std.specs.Str.{chars}
use Rattle.std.proofs.lemmas.Bool.Decides.{Decides-eqb}
use Rattle.std.proofs.lemmas.Str.{is_utf8-from_IsUtf8}
use Rattle.rdf_meaning.specs.Terms.{RdfTerm, RdfTriple}
use Rattle.line_meaning.specs.Characters.{is_blank}
use Rattle.line_meaning.specs.Lines.{Reading, Nothing, Adds, Deletes}
use Rattle.line_meaning.specs.Grammar.{Each, SpellsIri, SpellsSubject, SpellsLiteral, SpellsObject, SpellsTriple, IsComment, SpellsChange, IsMark, CharactersRead}
use Rattle.line_meaning.specs.Reader.{◌>>=◌, is_label_or_dot, triple_at, is_end, last_triple, after_gap, content, chars_reading, reading_of}
use Rattle.line_laws.specs.LineLaws.{IsComplete}
use Rattle.line_laws.proofs.Fronts.{past}
use Rattle.line_laws.proofs.Tokens.{iri_term_back}
use Rattle.line_laws.proofs.Back.{EndsTerm, at_space, at_tab, at_iri, at_dot, subject_back, object_back}
use Rattle.line_laws.proofs.LinesRead.{regroup}

blank_is : (c : ℕ) → is_blank c ≡ true → (c ≡ 32) ⊎ (c ≡ 9)
blank_is c e = by_space (eqb c 32) refl e
  where
    by_space : (b : Bool) → eqb c 32 ≡ b → (b || eqb c 9) ≡ true → (c ≡ 32) ⊎ (c ≡ 9)
    by_space true t h = inl ((Decides-eqb c 32).0 t)
    by_space false t h = inr ((Decides-eqb c 9).0 h)

-- behind blanks a term ends, where it ends without them
ends_gap : (gap rest : List ℕ) → Each is_blank gap → EndsTerm rest → EndsTerm (gap ++ rest)
ends_gap [] rest e ends = ends
ends_gap (c ∷ cs) rest e ends = by_kind (blank_is c e.0)
  where
    by_kind : (c ≡ 32) ⊎ (c ≡ 9) → EndsTerm ((c ∷ cs) ++ rest)
    by_kind (inl at) = at_space (cs ++ rest) (ap (λ (d : ℕ). d ∷ (cs ++ rest)) at)
    by_kind (inr at) = at_tab (cs ++ rest) (ap (λ (d : ℕ). d ∷ (cs ++ rest)) at)

iri_blank : (w rest : List ℕ) (t : RdfTerm) → SpellsIri w t → prefix_len is_blank (w ++ rest) ≡ 0
iri_blank w rest t h = rw h.enclosed.whole refl

iri_ends : (w rest : List ℕ) (t : RdfTerm) → SpellsIri w t → EndsTerm (w ++ rest)
iri_ends w rest t h = at_iri ((h.enclosed.inner ++ 62 ∷ []) ++ rest) (ap (λ (x : List ℕ). x ++ rest) h.enclosed.whole)

subject_blank : (n : ℕ) (w rest : List ℕ) (t : RdfTerm) → SpellsSubject n w t → prefix_len is_blank (w ++ rest) ≡ 0
subject_blank n w rest t (inl h) = iri_blank w rest t h
subject_blank n w rest t (inr h) = rw h.whole refl

literal_blank : (w rest : List ℕ) (t : RdfTerm) → SpellsLiteral w t → prefix_len is_blank (w ++ rest) ≡ 0
literal_blank w rest t (inl h) = rw h.enclosed.whole refl
literal_blank w rest t (inr (inl h)) = rw (h.whole, h.enclosed.whole) refl
literal_blank w rest t (inr (inr h)) = rw (h.whole, h.enclosed.whole) refl

object_blank : (n : ℕ) (w rest : List ℕ) (t : RdfTerm) → SpellsObject n w t → prefix_len is_blank (w ++ rest) ≡ 0
object_blank n w rest t (inl h) = subject_blank n w rest t h
object_blank n w rest t (inr h) = literal_blank w rest t h

triple_back : (n : ℕ) (w rest : List ℕ) (triple : RdfTriple) → SpellsTriple n w triple → prefix_len is_label_or_dot rest ≡ 0 → triple_at n (w ++ rest) ≡ Some (triple, rest)
unfolding triple_at
triple_back n w rest triple h z =
    let dot : EndsTerm (46 ∷ rest) = at_dot rest refl z in
    let y = h.after_o ++ 46 ∷ rest in
    let x = h.after_p ++ (h.o ++ y) in
    let so = subject_back n h.s (h.after_s ++ (h.p ++ x)) triple.s h.subject (ends_gap h.after_s (h.p ++ x) h.after_s_blank (iri_ends h.p x triple.p h.predicate)) in
    let gs = past is_blank h.after_s (h.p ++ x) h.after_s_blank (iri_blank h.p x triple.p h.predicate) in
    let po = iri_term_back h.p x triple.p h.predicate in
    let gp = past is_blank h.after_p (h.o ++ y) h.after_p_blank (object_blank n h.o y triple.o h.object) in
    let oo = object_back n h.o y triple.o h.object (ends_gap h.after_o (46 ∷ rest) h.after_o_blank dot) in
    let go = past is_blank h.after_o (46 ∷ rest) h.after_o_blank refl in
    rw (h.whole, regroup h.s h.after_s h.p h.after_p h.o h.after_o rest, so, gs, po, gp, oo, go) refl

pub comment_blank : (comment : List ℕ) → IsComment comment → prefix_len is_blank comment ≡ 0
comment_blank comment (inl e) = rw e refl
comment_blank comment (inr h) = rw h.1 refl

pub comment_ends : (comment : List ℕ) → IsComment comment → is_end comment ≡ true
comment_ends comment (inl e) = rw e refl
comment_ends comment (inr h) = rw h.1 refl

tail_no_label : (after comment : List ℕ) → Each is_blank after → IsComment comment → prefix_len is_label_or_dot (after ++ comment) ≡ 0
tail_no_label [] comment e (inl h) = rw h refl
tail_no_label [] comment e (inr h) = rw h.1 refl
tail_no_label (c ∷ cs) comment e k = by_kind (blank_is c e.0)
  where
    by_kind : (c ≡ 32) ⊎ (c ≡ 9) → prefix_len is_label_or_dot ((c ∷ cs) ++ comment) ≡ 0
    by_kind (inl at) = rw at refl
    by_kind (inr at) = rw at refl

last_back : (n : ℕ) (w after comment : List ℕ) (triple : RdfTriple) → SpellsTriple n w triple → Each is_blank after → IsComment comment → last_triple n (w ++ (after ++ comment)) ≡ Some triple
unfolding last_triple
last_back n w after comment triple h a k =
    rw (triple_back n w (after ++ comment) triple h (tail_no_label after comment a k), past is_blank after comment a (comment_blank comment k), comment_ends comment k) refl

gap_back : (first : ℕ) (others rest : List ℕ) → is_blank first ≡ true → Each is_blank others → prefix_len is_blank rest ≡ 0 → after_gap (first ∷ (others ++ rest)) ≡ Some rest
unfolding after_gap
gap_back first others rest f o z = rw (f, past is_blank others rest o z) refl

triple_blank : (n : ℕ) (w rest : List ℕ) (triple : RdfTriple) → SpellsTriple n w triple → prefix_len is_blank (w ++ rest) ≡ 0
triple_blank n w rest triple h = rw (h.whole, append_assoc h.s _ rest) (subject_blank n h.s _ triple.s h.subject)

-- a change behind a mark
marked_back : (n : ℕ) (letter : ℕ) (mark cs : List ℕ) (triple : RdfTriple) (m : IsMark letter mark) (h : SpellsChange n mark cs triple)
    → (after_gap (m.first ∷ (m.others ++ (h.body ++ (h.after ++ h.comment)))) >>= last_triple n) ≡ Some triple
marked_back n letter mark cs triple m h =
    rw (gap_back m.first m.others (h.body ++ (h.after ++ h.comment)) m.first_blank m.others_blank (triple_blank n h.body (h.after ++ h.comment) triple h.spelled))
    (last_back n h.body h.after h.comment triple h.spelled h.after_blank h.is_comment)

content_add : (n : ℕ) (cs : List ℕ) (triple : RdfTriple) → (after_gap cs >>= last_triple n) ≡ Some triple → content n (65 ∷ cs) ≡ Some (Adds triple)
unfolding content
content_add n cs triple e = ap (λ (o : Option RdfTriple). option_map Adds o) e

content_delete : (n : ℕ) (cs : List ℕ) (triple : RdfTriple) → (after_gap cs >>= last_triple n) ≡ Some triple → content n (68 ∷ cs) ≡ Some (Deletes triple)
unfolding content
content_delete n cs triple e = ap (λ (o : Option RdfTriple). option_map Deletes o) e

content_iri : (n : ℕ) (cs : List ℕ) → content n (60 ∷ cs) ≡ option_map Adds (last_triple n (60 ∷ cs))
unfolding content
content_iri n cs = refl

content_blank : (n : ℕ) (cs : List ℕ) → content n (95 ∷ cs) ≡ option_map Adds (last_triple n (95 ∷ cs))
unfolding content
content_blank n cs = refl

content_comment : (n : ℕ) (comment : List ℕ) → IsComment comment → content n comment ≡ Some Nothing
unfolding content
content_comment n comment (inl e) = rw e refl
content_comment n comment (inr h) = rw h.1 refl

-- a triple without a mark goes to the last case
content_subject : (n : ℕ) (s rest : List ℕ) (t : RdfTerm) → SpellsSubject n s t → content n (s ++ rest) ≡ option_map Adds (last_triple n (s ++ rest))
content_subject n s rest t (inl h) = rw h.enclosed.whole (content_iri n ((h.enclosed.inner ++ 62 ∷ []) ++ rest))
content_subject n s rest t (inr h) = rw h.whole (content_blank n (58 ∷ (h.label ++ rest)))

content_plain : (n : ℕ) (w rest : List ℕ) (triple : RdfTriple) → SpellsTriple n w triple → content n (w ++ rest) ≡ option_map Adds (last_triple n (w ++ rest))
content_plain n w rest triple h = rw (h.whole, append_assoc h.s _ rest) (content_subject n h.s _ triple.s h.subject)

characters_back : (n : ℕ) (cs : List ℕ) (r : Reading) → CharactersRead n cs r → chars_reading n cs ≡ Some r
characters_back n cs Nothing h =
    rw (h.whole, past is_blank h.before h.comment h.before_blank (comment_blank h.comment h.is_comment)) (content_comment n h.comment h.is_comment)
characters_back n cs (Adds triple) (inl h) =
    rw (h.whole, past is_blank h.before (h.body ++ (h.after ++ h.comment)) h.before_blank (triple_blank n h.body (h.after ++ h.comment) triple h.spelled))
    (content_plain n h.body (h.after ++ h.comment) triple h.spelled ∙ ap (λ (o : Option RdfTriple). option_map Adds o) (last_back n h.body h.after h.comment triple h.spelled h.after_blank h.is_comment))
characters_back n cs (Adds triple) (inr x) =
    let m = x.1 in
    let h = x.2 in
    let back = marked_back n 65 x.0 cs triple m h in
    let mark : x.0 ++ (h.body ++ (h.after ++ h.comment)) ≡ 65 ∷ m.first ∷ (m.others ++ (h.body ++ (h.after ++ h.comment))) = ap (λ (t : List ℕ). t ++ (h.body ++ (h.after ++ h.comment))) m.whole in
    rw (h.whole, mark, past is_blank h.before (65 ∷ m.first ∷ (m.others ++ (h.body ++ (h.after ++ h.comment)))) h.before_blank refl)
    (content_add n (m.first ∷ (m.others ++ (h.body ++ (h.after ++ h.comment)))) triple back)
characters_back n cs (Deletes triple) x =
    let m = x.1 in
    let h = x.2 in
    let back = marked_back n 68 x.0 cs triple m h in
    let mark : x.0 ++ (h.body ++ (h.after ++ h.comment)) ≡ 68 ∷ m.first ∷ (m.others ++ (h.body ++ (h.after ++ h.comment))) = ap (λ (t : List ℕ). t ++ (h.body ++ (h.after ++ h.comment))) m.whole in
    rw (h.whole, mark, past is_blank h.before (68 ∷ m.first ∷ (m.others ++ (h.body ++ (h.after ++ h.comment)))) h.before_blank refl)
    (content_delete n (m.first ∷ (m.others ++ (h.body ++ (h.after ++ h.comment)))) triple back)

pub complete : IsComplete
unfolding reading_of
complete n line r h = rw (is_utf8-from_IsUtf8 line h.0) (characters_back n (chars line) r h.1)
