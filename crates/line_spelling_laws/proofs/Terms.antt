-- Spelled terms are in the grammar.
use Rattle.std.proofs.Common.{◌≡◌, ◌<◌, ℕ, inl, inr, Bool, true, false, cond, eqb, not, ◌&&◌, ◌||◌, List, [], ◌∷◌, ◌++◌, map, refl, sym, ap, ◌∙◌, arith, append-nil, lit<}
use Rattle.std.specs.Prelude.{codes}
use Rattle.std.specs.Cmp.{first_so, second_so}
use Rattle.std.specs.List.{flat_map}
use Rattle.std.specs.Str.{IsUtf8, chars, bytes_eq}
use Rattle.std.proofs.lemmas.Bool.Decides.{nat_tests, Decides-eqb}
use Rattle.std.proofs.lemmas.Slice.Eq.{bytes_eq-Decides}
use Rattle.std.proofs.lemmas.Str.{IsUtf8-append, chars-append, chars-IsAscii, encodes-chars, IsUtf8-from_ascii}
use Rattle.rdf_meaning.specs.declared.kind.TermKind.{TermKind}
use Rattle.rdf_meaning.specs.declared.kind.TermKind.TheVariants as kinds
use Rattle.rdf_meaning.specs.declared.text.KnownDatatype.TheVariants.{String}
use Rattle.rdf_meaning.specs.Known.{known_bytes}
use Rattle.rdf_meaning.specs.Characters.{is_small_letter, is_digit}
use Rattle.rdf_meaning.specs.Terms.{typed, tagged, is_empty, is_label, is_label_of, is_tag, goes_on_as_tag, is_term, can_be_subject}
use Rattle.rdf_meaning.specs.Spelling.{spelled_iri_byte, iri_spelling, spelled_text_byte, text_spelling, datatype_spelling, spelling_of_kind}
use Rattle.line_meaning.specs.declared.enclosure.Enclosure.TheVariants.{Iri, Text}
use Rattle.line_meaning.specs.Characters.{lower}
use Rattle.line_meaning.specs.Labels.{blank_in}
use Rattle.line_meaning.specs.Grammar.{Encloses, SpellsIri, SpellsBlank, SpellsTagged, SpellsSubject, SpellsLiteral, SpellsObject}
use Rattle.line_spelling_laws.specs.RoundTrip.{of_kind_in, SpellingsAreUtf8, ObjectsAreRead, SubjectsAreRead, PredicatesAreRead}
use Rattle.line_spelling_laws.proofs.Characters.{Small, small_ascii, spelled_utf8, spelled_chars, iri_small, iri_high, iri_spelled, text_small, text_high, text_spelled}

pub one_utf8 : (c : ℕ) → c < 128 → IsUtf8 (c ∷ [])
one_utf8 c lt = IsUtf8-from_ascii (c ∷ []) (small_ascii (c ∷ []) (lt, tt))

pub one_char : (c : ℕ) → c < 128 → chars (c ∷ []) ≡ c ∷ []
one_char c lt = chars-IsAscii (c ∷ []) (small_ascii (c ∷ []) (lt, tt))

-- the characters of a text between two marks
between : (first close : ℕ) (text : List ℕ) → first < 128 → close < 128 → IsUtf8 text → chars (first ∷ (text ++ close ∷ [])) ≡ first ∷ (chars text ++ close ∷ [])
between first close text o c u =
    chars-append (first ∷ []) (text ++ close ∷ []) (one_utf8 first o)
    ∙ ap (λ (t : List ℕ). t ++ chars (text ++ close ∷ [])) (one_char first o)
    ∙ ap (λ (t : List ℕ). first ∷ t) (chars-append text (close ∷ []) u ∙ ap (λ (t : List ℕ). chars text ++ t) (one_char close c))

iri_enclosed : (text : List ℕ) → IsUtf8 text → Encloses Iri (chars (iri_spelling text)) text
iri_enclosed text u = record {
  inner = flat_map spelled_iri_byte (chars text);
  meant = chars text;
  spelled = iri_spelled (chars text);
  text_is = sym (encodes-chars text u);
  whole = between 60 62 (flat_map spelled_iri_byte text) (lit< tt) (lit< tt) (spelled_utf8 spelled_iri_byte iri_small iri_high text u)
      ∙ ap (λ (t : List ℕ). 60 ∷ (t ++ 62 ∷ [])) (spelled_chars spelled_iri_byte iri_small iri_high text u);
}

text_enclosed : (text : List ℕ) → IsUtf8 text → Encloses Text (chars (text_spelling text)) text
text_enclosed text u = record {
  inner = flat_map spelled_text_byte (chars text);
  meant = chars text;
  spelled = text_spelled (chars text);
  text_is = sym (encodes-chars text u);
  whole = between 34 34 (flat_map spelled_text_byte text) (lit< tt) (lit< tt) (spelled_utf8 spelled_text_byte text_small text_high text u)
      ∙ ap (λ (t : List ℕ). 34 ∷ (t ++ 34 ∷ [])) (spelled_chars spelled_text_byte text_small text_high text u);
}

empty_is : (bytes : List ℕ) → is_empty bytes ≡ true → bytes ≡ []
empty_is [] e = refl
empty_is (b ∷ bs) e = cc

iri_read : (text aux : List ℕ) → IsUtf8 text → is_empty aux ≡ true → SpellsIri (chars (iri_spelling text)) (record { kind = kinds.Iri; text = text; aux = aux })
iri_read text aux u e = rw (empty_is aux e) (record { text = text; enclosed = iri_enclosed text u; term = refl })

marks_utf8 : IsUtf8 (95 ∷ 58 ∷ [])
marks_utf8 = IsUtf8-from_ascii (95 ∷ 58 ∷ []) (small_ascii (95 ∷ 58 ∷ []) (lit< tt, (lit< tt, tt)))

label_fine : (text : List ℕ) → is_label text ≡ true → is_label_of (chars text) ≡ true
unfolding is_label
label_fine text e = e

blank_read : (n : ℕ) (text aux : List ℕ) → IsUtf8 text → (is_empty aux && is_label text) ≡ true → SpellsBlank n (chars (codes "_:" ++ text)) (blank_in n text)
blank_read n text aux u e = record {
  label = chars text;
  fine = label_fine text (second_so (is_empty aux) (is_label text) e);
  whole = chars-append (95 ∷ 58 ∷ []) text marks_utf8
      ∙ ap (λ (t : List ℕ). t ++ chars text) (chars-IsAscii (95 ∷ 58 ∷ []) (small_ascii (95 ∷ 58 ∷ []) (lit< tt, (lit< tt, tt))));
  term = ap (λ (t : List ℕ). blank_in n t) (sym (encodes-chars text u));
}

-- a byte that a tag in lower case may have
record IsLow (b : ℕ) : Type 0 where
  small : b < 128
  kept : lower b ≡ b

dash_low : (b : ℕ) → eqb b 45 ≡ true → IsLow b
dash_low b e = let at : b ≡ 45 = (Decides-eqb b 45).0 e in rw at (record { small = lit< tt; kept = refl })

letter_small : (b : ℕ) → is_small_letter b ≡ true → b < 128
letter_small b e = grind (arith, nat_tests)

letter_kept : (b : ℕ) → is_small_letter b ≡ true → lower b ≡ b
letter_kept b e = grind (arith, nat_tests)

digit_small : (b : ℕ) → is_digit b ≡ true → b < 128
digit_small b e = grind (arith, nat_tests)

digit_kept : (b : ℕ) → is_digit b ≡ true → lower b ≡ b
digit_kept b e = grind (arith, nat_tests)

part_low : (l n d : Bool) (b : ℕ) → is_small_letter b ≡ l → is_digit b ≡ d → (l || (n && d)) ≡ true → IsLow b
part_low true n d b el ed e = record { small = letter_small b el; kept = letter_kept b el }
part_low false true true b el ed e = record { small = digit_small b ed; kept = digit_kept b ed }
part_low false true false b el ed e = cc
part_low false false d b el ed e = cc

-- a tag is ASCII in lower case
record IsLowTag (tag : List ℕ) : Type 0 where
  small : Small tag
  kept : map lower tag ≡ tag

low_more : (b : ℕ) (bs : List ℕ) → IsLow b → IsLowTag bs → IsLowTag (b ∷ bs)
low_more b bs l t = record { small = (l.small, t.small); kept = ap (λ (x : ℕ). x ∷ map lower bs) l.kept ∙ ap (λ (x : List ℕ). b ∷ x) t.kept }

tag_cases : (x first some : Bool) (b : ℕ) (bs : List ℕ) → ((f s : Bool) → goes_on_as_tag f s bs ≡ true → IsLowTag bs) → eqb b 45 ≡ x
    → cond x (some && goes_on_as_tag false false bs) ((is_small_letter b || (not first && is_digit b)) && goes_on_as_tag first true bs) ≡ true → IsLowTag (b ∷ bs)
tag_cases true first some b bs ih t e = low_more b bs (dash_low b t) (ih false false (second_so some (goes_on_as_tag false false bs) e))
tag_cases false first some b bs ih t e =
    let one = first_so (is_small_letter b || (not first && is_digit b)) (goes_on_as_tag first true bs) e in
    low_more b bs (part_low (is_small_letter b) (not first) (is_digit b) b refl refl one)
    (ih first true (second_so (is_small_letter b || (not first && is_digit b)) (goes_on_as_tag first true bs) e))

tag_low : (first some : Bool) (bs : List ℕ) → goes_on_as_tag first some bs ≡ true → IsLowTag bs
tag_low first some [] e = record { small = tt; kept = refl }
tag_low first some (b ∷ bs) e = tag_cases (eqb b 45) first some b bs (λ f s h. tag_low f s bs h) refl e

text_utf8 : (text : List ℕ) → IsUtf8 text → IsUtf8 (text_spelling text)
text_utf8 text u =
    IsUtf8-append (34 ∷ []) (flat_map spelled_text_byte text ++ 34 ∷ []) (one_utf8 34 (lit< tt))
    (IsUtf8-append (flat_map spelled_text_byte text) (34 ∷ []) (spelled_utf8 spelled_text_byte text_small text_high text u) (one_utf8 34 (lit< tt)))

tagged_read : (text aux : List ℕ) → IsUtf8 text → is_tag aux ≡ true
    → SpellsTagged (chars (text_spelling text ++ 64 ∷ aux)) (record { kind = kinds.Tagged; text = text; aux = aux })
tagged_read text aux u e =
    let low = tag_low true false aux e in
    record {
      front = chars (text_spelling text);
      text = text;
      tag = aux;
      enclosed = text_enclosed text u;
      fine = rw low.kept e;
      whole = chars-append (text_spelling text) (64 ∷ aux) (text_utf8 text u)
          ∙ ap (λ (t : List ℕ). chars (text_spelling text) ++ t) (chars-IsAscii (64 ∷ aux) (small_ascii (64 ∷ aux) (lit< tt, low.small)));
      term = ap (λ (t : List ℕ). tagged text t) (sym low.kept);
    }

carets_utf8 : IsUtf8 (94 ∷ 94 ∷ [])
carets_utf8 = IsUtf8-from_ascii (94 ∷ 94 ∷ []) (small_ascii (94 ∷ 94 ∷ []) (lit< tt, (lit< tt, tt)))

typed_cases : (b : Bool) (text aux : List ℕ) → IsUtf8 text → IsUtf8 aux → bytes_eq aux (known_bytes String) ≡ b
    → SpellsLiteral (chars (text_spelling text ++ cond b [] (codes "^^" ++ iri_spelling aux))) (typed text aux)
typed_cases true text aux u v e =
    let at : aux ≡ known_bytes String = (bytes_eq-Decides aux (known_bytes String)).0 e in
    rw (at, append-nil (text_spelling text)) (inl (record { text = text; enclosed = text_enclosed text u; term = refl }))
typed_cases false text aux u v e = inr (inr (record {
  front = chars (text_spelling text);
  back = chars (iri_spelling aux);
  text = text;
  datatype = aux;
  enclosed = text_enclosed text u;
  typed_by = iri_enclosed aux v;
  whole = chars-append (text_spelling text) (94 ∷ 94 ∷ iri_spelling aux) (text_utf8 text u)
      ∙ ap (λ (t : List ℕ). chars (text_spelling text) ++ t) (chars-append (94 ∷ 94 ∷ []) (iri_spelling aux) carets_utf8
      ∙ ap (λ (t : List ℕ). t ++ chars (iri_spelling aux)) (chars-IsAscii (94 ∷ 94 ∷ []) (small_ascii (94 ∷ 94 ∷ []) (lit< tt, (lit< tt, tt)))));
  term = refl;
}))

object_read : (n : ℕ) (kind : TermKind) (text aux : List ℕ) → IsUtf8 text → IsUtf8 aux → is_term kind text aux ≡ true
    → SpellsObject n (chars (spelling_of_kind kind text aux)) (of_kind_in n kind (record { kind = kind; text = text; aux = aux }))
object_read n kinds.Iri text aux u v e = inl (inl (iri_read text aux u e))
object_read n kinds.Blank text aux u v e = inl (inr (blank_read n text aux u e))
object_read n kinds.Tagged text aux u v e = inr (inr (inl (tagged_read text aux u e)))
object_read n kinds.Typed text aux u v e = inr (typed_cases (bytes_eq aux (known_bytes String)) text aux u v refl)

subject_read : (n : ℕ) (kind : TermKind) (text aux : List ℕ) → IsUtf8 text → is_term kind text aux ≡ true → can_be_subject kind ≡ true
    → SpellsSubject n (chars (spelling_of_kind kind text aux)) (of_kind_in n kind (record { kind = kind; text = text; aux = aux }))
subject_read n kinds.Iri text aux u e k = inl (iri_read text aux u e)
subject_read n kinds.Blank text aux u e k = inr (blank_read n text aux u e)
subject_read n kinds.Tagged text aux u e k = cc
subject_read n kinds.Typed text aux u e k = cc

predicate_read : (kind : TermKind) (text aux : List ℕ) → IsUtf8 text → is_term kind text aux ≡ true → kind ≡ kinds.Iri
    → SpellsIri (chars (spelling_of_kind kind text aux)) (record { kind = kind; text = text; aux = aux })
predicate_read kinds.Iri text aux u e k = iri_read text aux u e
predicate_read kinds.Blank text aux u e k = cc
predicate_read kinds.Tagged text aux u e k = cc
predicate_read kinds.Typed text aux u e k = cc

pub objects : ObjectsAreRead
objects n t f = object_read n t.kind t.text t.aux f.text_utf8 f.aux_utf8 f.form

pub subjects : SubjectsAreRead
subjects n t f k = subject_read n t.kind t.text t.aux f.text_utf8 f.form k

pub predicates : PredicatesAreRead
predicates t f k = predicate_read t.kind t.text t.aux f.text_utf8 f.form k

-- spellings are UTF-8
iri_utf8 : (text : List ℕ) → IsUtf8 text → IsUtf8 (iri_spelling text)
iri_utf8 text u =
    IsUtf8-append (60 ∷ []) (flat_map spelled_iri_byte text ++ 62 ∷ []) (one_utf8 60 (lit< tt))
    (IsUtf8-append (flat_map spelled_iri_byte text) (62 ∷ []) (spelled_utf8 spelled_iri_byte iri_small iri_high text u) (one_utf8 62 (lit< tt)))

datatype_utf8 : (b : Bool) (aux : List ℕ) → IsUtf8 aux → IsUtf8 (cond b [] (codes "^^" ++ iri_spelling aux))
datatype_utf8 true aux v = IsUtf8-from_ascii [] (small_ascii [] tt)
datatype_utf8 false aux v = IsUtf8-append (94 ∷ 94 ∷ []) (iri_spelling aux) carets_utf8 (iri_utf8 aux v)

kind_utf8 : (kind : TermKind) (text aux : List ℕ) → IsUtf8 text → IsUtf8 aux → IsUtf8 (spelling_of_kind kind text aux)
kind_utf8 kinds.Iri text aux u v = iri_utf8 text u
kind_utf8 kinds.Blank text aux u v = IsUtf8-append (95 ∷ 58 ∷ []) text marks_utf8 u
kind_utf8 kinds.Tagged text aux u v =
    IsUtf8-append (text_spelling text) (64 ∷ aux) (text_utf8 text u) (IsUtf8-append (64 ∷ []) aux (one_utf8 64 (lit< tt)) v)
kind_utf8 kinds.Typed text aux u v =
    IsUtf8-append (text_spelling text) (datatype_spelling aux) (text_utf8 text u) (datatype_utf8 (bytes_eq aux (known_bytes String)) aux v)

pub utf8 : SpellingsAreUtf8
utf8 t f = kind_utf8 t.kind t.text t.aux f.text_utf8 f.aux_utf8
