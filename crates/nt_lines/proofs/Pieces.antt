use Rattle.std.proofs.Common.{◌≡◌, ℕ, zero, suc, ◌≤◌, Bool, true, false, List, [], ◌∷◌, ◌++◌, length, drop, refl, sym, ap, ◌∙◌, arith, append_assoc, append-nil}
use Rattle.std.specs.Prelude.{Option, Some, None, encode_utf8, if◌then◌else◌, ◌==◌}
use Rattle.std.proofs.lemmas.Bool.Decides.{nat_tests}
use Rattle.line_meaning.specs.declared.enclosure.Enclosure.{Enclosure}
use Rattle.line_meaning.specs.Characters.{close_of}
use Rattle.line_meaning.specs.Reader.{◌>>=◌, onto, text_behind, piece_at}

-- the characters that belong to what was read are passed
pub text_behind-passes : (form : Enclosure) (n : ℕ) (cs : List ℕ) → n ≤ length cs → text_behind form n cs ≡ text_behind form 0 (drop n cs)
text_behind-passes form zero cs le = refl
text_behind-passes form (suc n) [] le = absurd (omega arith)
text_behind-passes form (suc n) (c ∷ cs) le = text_behind-passes form n cs (omega arith)

onto-onto : (a b : List ℕ) (x : Option (List ℕ × List ℕ)) → onto a (onto b x) ≡ onto (a ++ b) x
onto-onto a b None = refl
onto-onto a b (Some x) = ap (λ (t : List ℕ). Some (t, x.1)) (sym (append_assoc a b x.0))

-- the mark that closes the text
pub text_stops : (form : Enclosure) (front : List ℕ) (c : ℕ) (cs rest : List ℕ) → rest ≡ c ∷ cs → c ≡ close_of form → onto front (text_behind form 0 rest) ≡ Some (front, cs)
text_stops form front c cs rest e h = rw e (by_test (c == close_of form) (grind (arith, nat_tests)))
  where
    by_test : (b : Bool) → b ≡ true → onto front (if b then Some ([], cs) else (piece_at form c cs >>= λ piece. onto (encode_utf8 piece.0) (text_behind form piece.1 cs))) ≡ Some (front, cs)
    by_test true t = ap (λ (t : List ℕ). Some (t, cs)) (append-nil front)
    by_test false t = cc

pub text_goes_on : (form : Enclosure) (front : List ℕ) (c : ℕ) (cs rest : List ℕ) (piece : ℕ × ℕ) → rest ≡ c ∷ cs → (c ≡ close_of form → ⊥) → piece_at form c cs ≡ Some piece → piece.1 ≤ length cs
    → onto front (text_behind form 0 rest) ≡ onto (front ++ encode_utf8 piece.0) (text_behind form 0 (drop piece.1 cs))
text_goes_on form front c cs rest piece e h p le = rw e (by_test (c == close_of form) (grind (arith, nat_tests)))
  where
    by_test : (b : Bool) → b ≡ false → onto front (if b then Some ([], cs) else (piece_at form c cs >>= λ piece. onto (encode_utf8 piece.0) (text_behind form piece.1 cs)))
        ≡ onto (front ++ encode_utf8 piece.0) (text_behind form 0 (drop piece.1 cs))
    by_test true t = cc
    by_test false t = rw (p, text_behind-passes form piece.1 cs le) (onto-onto front (encode_utf8 piece.0) (text_behind form 0 (drop piece.1 cs)))

pub text_breaks : (form : Enclosure) (front : List ℕ) (c : ℕ) (cs rest : List ℕ) → rest ≡ c ∷ cs → (c ≡ close_of form → ⊥) → piece_at form c cs ≡ None → onto front (text_behind form 0 rest) ≡ None
text_breaks form front c cs rest e h p = rw e (by_test (c == close_of form) (grind (arith, nat_tests)))
  where
    by_test : (b : Bool) → b ≡ false → onto front (if b then Some ([], cs) else (piece_at form c cs >>= λ piece. onto (encode_utf8 piece.0) (text_behind form piece.1 cs))) ≡ None
    by_test true t = cc
    by_test false t = rw p refl

-- one more piece was read
pub step_kept : (form : Enclosure) (front next : List ℕ) (c : ℕ) (cs rest : List ℕ) (piece : ℕ × ℕ) (later : List ℕ) (all : Option (List ℕ × List ℕ))
    → onto front (text_behind form 0 rest) ≡ all → rest ≡ c ∷ cs → (c ≡ close_of form → ⊥) → Some piece ≡ piece_at form c cs → piece.1 ≤ length cs
    → next ≡ front ++ encode_utf8 piece.0 → later ≡ drop piece.1 cs → onto next (text_behind form 0 later) ≡ all
step_kept form front next c cs rest piece later all inv e h p le n l =
    rw (n, l) (sym (text_goes_on form front c cs rest piece e h (sym p) le) ∙ inv)
