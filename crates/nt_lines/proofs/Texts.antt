-- Texts of lines, labels and tags.
use Rattle.std.proofs.Common.{◌≡◌, ℕ, ◌+◌, ◌<◌, ◌^◌, Bool, true, false, cond, List, [], ◌∷◌, ◌++◌, length, take, get_or, map, refl, ap, ◌∙◌, arith, append_assoc, append-nil}
use Rattle.std.proofs.Math.Utf8.{scalar}
use Rattle.std.proofs.lemmas.List.{take_more}
use Rattle.std.specs.Prelude.{Option, None, encode_utf8, encode_utf8_all, IsTrue}
use Rattle.std.specs.Cmp.{first_so, second_so}
use Rattle.std.specs.Str.{IsUtf8, is_utf8, chars, all_scalars}
use Rattle.std.proofs.lemmas.Str.{IsUtf8-from_is_utf8, is_utf8-from_IsUtf8, encodes-append, chars-encodes}
use Rattle.rdf_meaning.specs.declared.kind.TermKind.TheVariants.{Blank}
use Rattle.rdf_meaning.specs.Terms.{is_label, is_label_of, is_term}
use Rattle.line_meaning.specs.Characters.{lower}
use Rattle.line_meaning.specs.Labels.{label_in}
use Rattle.line_meaning.specs.Lines.{Reading}
use Rattle.line_meaning.specs.Reader.{reading_of, chars_reading}
use Rattle.line_laws.proofs.Labels.{legal}

none_where : (b : Bool) (x : Option Reading) → (b ≡ true → ⊥) → cond b x None ≡ None
none_where true x never = absurd (never refl)
none_where false x never = refl

pub not_text : (n : ℕ) (line : List ℕ) → ¬ (IsUtf8 line) → reading_of n line ≡ None
unfolding reading_of
not_text n line other = none_where (is_utf8 line) (chars_reading n (chars line)) (λ t. other (IsUtf8-from_is_utf8 line t))

pub text : (n : ℕ) (line : List ℕ) → IsUtf8 line → reading_of n line ≡ chars_reading n (chars line)
unfolding reading_of
text n line utf8 = rw (is_utf8-from_IsUtf8 line utf8) refl

scalars_push : (cs : List ℕ) (c : ℕ) → all_scalars cs ≡ true → all_scalars (c ∷ []) ≡ true → all_scalars (cs ++ c ∷ []) ≡ true
scalars_push [] c e h = h
scalars_push (d ∷ cs) c e h = rw (first_so (scalar d) (all_scalars cs) e) (scalars_push cs c (second_so (scalar d) (all_scalars cs) e) h)

-- one more character of a text
pub scalars_next : (cs : List ℕ) (i d : ℕ) → i < length cs → all_scalars (take i cs) ≡ true → all_scalars (get_or cs i d ∷ []) ≡ true → all_scalars (take (i + 1) cs) ≡ true
scalars_next cs i d lt e h = rw (take_more cs i d lt) (scalars_push (take i cs) (get_or cs i d) e h)

encoded_next : (cs : List ℕ) (i d : ℕ) → i < length cs → encode_utf8_all (take (i + 1) cs) ≡ encode_utf8_all (take i cs) ++ encode_utf8 (get_or cs i d)
encoded_next cs i d lt = ap (λ (t : List ℕ). encode_utf8_all t) (take_more cs i d lt) ∙ encodes-append (take i cs) (get_or cs i d ∷ []) ∙ ap (λ (t : List ℕ). encode_utf8_all (take i cs) ++ t) (append-nil (encode_utf8 (get_or cs i d)))

-- one more character behind a text
pub appended_next : (front text : List ℕ) (cs : List ℕ) (i d : ℕ) → i < length cs → text ≡ front ++ encode_utf8_all (take i cs)
    → text ++ encode_utf8 (get_or cs i d) ≡ front ++ encode_utf8_all (take (i + 1) cs)
appended_next front text cs i d lt e =
    rw (e, encoded_next cs i d lt) (append_assoc front (encode_utf8_all (take i cs)) (encode_utf8 (get_or cs i d)))

map_push : (cs : List ℕ) (c : ℕ) → map lower (cs ++ c ∷ []) ≡ map lower cs ++ lower c ∷ []
map_push [] c = refl
map_push (d ∷ cs) c = ap (λ (t : List ℕ). lower d ∷ t) (map_push cs c)

pub lower_next : (cs : List ℕ) (i d : ℕ) → i < length cs → encode_utf8_all (map lower (take (i + 1) cs)) ≡ encode_utf8_all (map lower (take i cs)) ++ encode_utf8 (lower (get_or cs i d))
lower_next cs i d lt =
    ap (λ (t : List ℕ). encode_utf8_all (map lower t)) (take_more cs i d lt) ∙ ap (λ (t : List ℕ). encode_utf8_all t) (map_push (take i cs) (get_or cs i d))
    ∙ encodes-append (map lower (take i cs)) (lower (get_or cs i d) ∷ []) ∙ ap (λ (t : List ℕ). encode_utf8_all (map lower (take i cs)) ++ t) (append-nil (encode_utf8 (lower (get_or cs i d))))

-- the text of a label makes a blank node
pub blank_is_term : (n : ℕ) (label text aux : List ℕ) → n < 2 ^ 32 → IsTrue (is_label_of label) → all_scalars label ≡ true → text ≡ label_in n (encode_utf8_all label) → aux ≡ []
    → IsTrue (is_term Blank text aux)
unfolding is_label
blank_is_term n label text aux lt l s e a = rw (a, e) (legal n (encode_utf8_all label) (omega arith) (label, (s, refl)) (rw (chars-encodes label s) l)).1
