-- A line of three spellings is in the grammar.
use Rattle.std.proofs.Common.{◌≡◌, ℕ, inl, List, [], ◌∷◌, ◌++◌, refl, sym, ap, ◌∙◌, append-nil, lit<}
use Rattle.std.specs.Str.{IsUtf8, chars}
use Rattle.std.proofs.lemmas.Str.{IsUtf8-append, chars-append}
use Rattle.rdf_meaning.specs.Terms.{RdfTriple}
use Rattle.rdf_meaning.specs.Spelling.{spelling}
use Rattle.line_meaning.specs.Grammar.{SpellsTriple}
use Rattle.line_spelling_laws.specs.RoundTrip.{in_file, IsFineTriple, line_of_triple, LinesAreRead}
use Rattle.line_spelling_laws.proofs.Terms.{one_utf8, one_char, utf8, objects, subjects, predicates}

-- a text, a space and another text
spaced_utf8 : (xs ys : List ℕ) → IsUtf8 xs → IsUtf8 ys → IsUtf8 (xs ++ 32 ∷ ys)
spaced_utf8 xs ys u v = IsUtf8-append xs (32 ∷ ys) u (IsUtf8-append (32 ∷ []) ys (one_utf8 32 (lit< tt)) v)

spaced_chars : (xs ys : List ℕ) → IsUtf8 xs → chars (xs ++ 32 ∷ ys) ≡ chars xs ++ 32 ∷ chars ys
spaced_chars xs ys u =
    chars-append xs (32 ∷ ys) u
    ∙ ap (λ (t : List ℕ). chars xs ++ t) (chars-append (32 ∷ []) ys (one_utf8 32 (lit< tt)) ∙ ap (λ (t : List ℕ). t ++ chars ys) (one_char 32 (lit< tt)))

line_chars : (s p o : List ℕ) → IsUtf8 s → IsUtf8 p → IsUtf8 o
    → chars (s ++ 32 ∷ (p ++ 32 ∷ (o ++ 32 ∷ 46 ∷ []))) ≡ chars s ++ 32 ∷ (chars p ++ 32 ∷ (chars o ++ 32 ∷ 46 ∷ []))
line_chars s p o us up uo =
    spaced_chars s (p ++ 32 ∷ (o ++ 32 ∷ 46 ∷ [])) us
    ∙ ap (λ (t : List ℕ). chars s ++ 32 ∷ t) (spaced_chars p (o ++ 32 ∷ 46 ∷ []) up
    ∙ ap (λ (t : List ℕ). chars p ++ 32 ∷ t) (spaced_chars o (46 ∷ []) uo ∙ ap (λ (t : List ℕ). chars o ++ 32 ∷ t) (one_char 46 (lit< tt))))

line_utf8 : (triple : RdfTriple) → IsFineTriple triple → IsUtf8 (line_of_triple triple)
line_utf8 triple f =
    spaced_utf8 (spelling triple.s) (spelling triple.p ++ 32 ∷ (spelling triple.o ++ 32 ∷ 46 ∷ [])) (utf8 triple.s f.s_fine)
    (spaced_utf8 (spelling triple.p) (spelling triple.o ++ 32 ∷ 46 ∷ []) (utf8 triple.p f.p_fine)
    (spaced_utf8 (spelling triple.o) (46 ∷ []) (utf8 triple.o f.o_fine) (one_utf8 46 (lit< tt))))

body : (n : ℕ) (triple : RdfTriple) → IsFineTriple triple
    → SpellsTriple n (chars (line_of_triple triple)) (record { s = in_file n triple.s; p = triple.p; o = in_file n triple.o })
body n triple f = record {
  s = chars (spelling triple.s);
  after_s = 32 ∷ [];
  p = chars (spelling triple.p);
  after_p = 32 ∷ [];
  o = chars (spelling triple.o);
  after_o = 32 ∷ [];
  subject = subjects n triple.s f.s_fine f.subject;
  after_s_blank = (refl, tt);
  predicate = predicates triple.p f.p_fine f.predicate;
  after_p_blank = (refl, tt);
  object = objects n triple.o f.o_fine;
  after_o_blank = (refl, tt);
  whole = line_chars (spelling triple.s) (spelling triple.p) (spelling triple.o) (utf8 triple.s f.s_fine) (utf8 triple.p f.p_fine) (utf8 triple.o f.o_fine);
}

pub lines : LinesAreRead
lines n triple f = (
  line_utf8 triple f,
  inl (record {
    before = [];
    body = chars (line_of_triple triple);
    after = [];
    comment = [];
    before_blank = tt;
    spelled = body n triple f;
    after_blank = tt;
    is_comment = inl refl;
    whole = sym (append-nil (chars (line_of_triple triple)));
  }),
)
