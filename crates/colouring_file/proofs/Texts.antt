-- Lines of bytes that are text, and others.
use Rattle.std.proofs.Common.{◌≡◌, ℕ, Bool, true, false, cond, List, refl}
use Rattle.std.specs.Prelude.{None}
use Rattle.std.specs.Str.{IsUtf8, is_utf8, chars}
use Rattle.std.proofs.lemmas.Str.{IsUtf8-from_is_utf8, is_utf8-from_IsUtf8}
use Rattle.colouring_file_meaning.specs.ColourReader.{colour_content, colour_reading_of}

pub not_text : (direct reverse : ℕ) (line : List ℕ) → ¬ (IsUtf8 line) → colour_reading_of direct reverse line ≡ None
unfolding colour_reading_of
not_text direct reverse line other = by (is_utf8 line) refl
  where
    by : (b : Bool) → is_utf8 line ≡ b → cond b (colour_content direct reverse (chars line)) None ≡ None
    by true t = absurd (other (IsUtf8-from_is_utf8 line t))
    by false t = refl

pub text : (direct reverse : ℕ) (line : List ℕ) → IsUtf8 line → colour_reading_of direct reverse line ≡ colour_content direct reverse (chars line)
unfolding colour_reading_of
text direct reverse line utf8 = rw (is_utf8-from_IsUtf8 line utf8) refl
