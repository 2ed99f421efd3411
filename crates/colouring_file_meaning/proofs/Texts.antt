-- Texts: what is computed of all lines is what they read as.
use Rattle.std.proofs.Common.{◌≡◌, ◌<◌, ◌≤◌, ℕ, inl, inr, Bool, true, false, cond, nat_eq, nat_lt, List, [], ◌∷◌, ◌++◌, length, refl, sym, ap, ◌∙◌, subst, arith, Some, None, Option, append_assoc, append-nil}
use Rattle.std.specs.Prelude.{Result, Ok, Err}
use Rattle.std.specs.List.{AllByRecursion, IsDistinct}
use Rattle.std.specs.Cmp.{IsEquivalence}
use Rattle.std.specs.Cmp.Lexicographic.{pointwise, nat_list_eq_equiv}
use Rattle.std.proofs.lemmas.Bool.Decides.{nat_tests}
use Rattle.std.proofs.lemmas.Cmp.{on_equiv, and_equiv}
use Rattle.std.proofs.lemmas.Map.Keys.{IsDistinct-push}
use Rattle.rdf_meaning.specs.declared.side.SideName.{SideName}
use Rattle.rdf_meaning.specs.declared.side.SideName.TheVariants.{Direct, Reverse}
use Rattle.line_meaning.specs.Lines.{Line, lines_of}
use Rattle.line_meaning.specs.Changes.{Refused, TooLong, Bad}
use Rattle.colouring_file_meaning.specs.ColourLines.{ColourOf, columns_on, same_side, same_place, given_by, Fits, ColourReadsAs, ColourLinesRead, IsColourRefusedFor, FirstColourRefused, AreFit}
use Rattle.colouring_file_meaning.specs.ColourReader.{colour_reading_of, is_repeated, with_reading, with_line, with_lines, colours_of}
use Rattle.colouring_file_meaning.proofs.Readings.{IsBelow, reading_front, reading_back}

-- what one line gives
data LineGives (direct reverse : ℕ) (seen : List ColourOf) (line : Line) (given : Result (List ColourOf) Refused) : Type 0 where
  reads : (o : Option ColourOf) → ColourReadsAs direct reverse seen line o → given ≡ Ok (seen ++ given_by o) → LineGives direct reverse seen line given
  refused : (why : Refused) → IsColourRefusedFor direct reverse seen line why → given ≡ Err why → LineGives direct reverse seen line given

not_long : (n : ℕ) → nat_lt 65536 n ≡ false → n ≤ 65536
not_long n e = grind (arith, nat_tests)

long : (n : ℕ) → nat_lt 65536 n ≡ true → 65536 < n
long n e = grind (arith, nat_tests)

fits_from : (direct reverse : ℕ) (seen : List ColourOf) (o : Option ColourOf) → IsBelow direct reverse o → is_repeated seen o ≡ false → Fits direct reverse seen o
fits_from direct reverse seen None l r = tt
fits_from direct reverse seen (Some c) l r = (l, r)

below_from : (direct reverse : ℕ) (seen : List ColourOf) (o : Option ColourOf) → Fits direct reverse seen o → IsBelow direct reverse o
below_from direct reverse seen None f = tt
below_from direct reverse seen (Some c) f = f.0

new_from : (direct reverse : ℕ) (seen : List ColourOf) (o : Option ColourOf) → Fits direct reverse seen o → is_repeated seen o ≡ false
new_from direct reverse seen None f = refl
new_from direct reverse seen (Some c) f = f.1

line_gives : (direct reverse : ℕ) (seen : List ColourOf) (line : Line) → LineGives direct reverse seen line (with_line direct reverse seen line)
line_gives direct reverse seen line = by (nat_lt 65536 (length line.text)) refl (colour_reading_of direct reverse line.text) refl
  where
    says : (o : Option ColourOf) → length line.text ≤ 65536 → colour_reading_of direct reverse line.text ≡ Some o → (b : Bool) → is_repeated seen o ≡ b
        → LineGives direct reverse seen line (cond b (Err (Bad line.number)) (Ok (seen ++ given_by o)))
    says o within e true r =
        refused (Bad line.number) (
          refl,
          within,
          λ u h f.
              let k : colour_reading_of direct reverse line.text ≡ Some u = reading_back direct reverse line.text u h (below_from direct reverse seen u f) in
              let same : o ≡ u = cc in
              let z : true ≡ false = sym r ∙ subst (λ (v : Option ColourOf). is_repeated seen v ≡ false) (sym same) (new_from direct reverse seen u f) in
              cc,
        ) refl
    says o within e false r =
        let h = reading_front direct reverse line.text o e in
        reads o (record { within = within; reads = h.0; fits = fits_from direct reverse seen o h.1 r }) refl

    by : (b : Bool) → nat_lt 65536 (length line.text) ≡ b → (r : Option (Option ColourOf)) → colour_reading_of direct reverse line.text ≡ r
        → LineGives direct reverse seen line (cond b (Err (TooLong line.number)) (with_reading line.number seen r))
    by true t r e = refused (TooLong line.number) (refl, long (length line.text) t) refl
    by false t None e =
        refused (Bad line.number) (
          refl,
          not_long (length line.text) t,
          λ u h f.
              let k : colour_reading_of direct reverse line.text ≡ Some u = reading_back direct reverse line.text u h (below_from direct reverse seen u f) in
              cc,
        ) refl
    by false t (Some o) e = says o (not_long (length line.text) t) e (is_repeated seen o) refl

-- what the lines give
data LinesGive (direct reverse : ℕ) (seen : List ColourOf) (lines : List Line) (given : Result (List ColourOf) Refused) : Type 0 where
  all_read : (colours : List ColourOf) → ColourLinesRead direct reverse seen lines colours → given ≡ Ok (seen ++ colours) → LinesGive direct reverse seen lines given
  first_refused : (why : Refused) → FirstColourRefused direct reverse seen lines why → given ≡ Err why → LinesGive direct reverse seen lines given

lines_give : (direct reverse : ℕ) (seen : List ColourOf) (lines : List Line) → LinesGive direct reverse seen lines (with_lines direct reverse (Ok seen) lines)
lines_give direct reverse seen [] = all_read [] refl (ap (λ (l : List ColourOf). Ok l) (sym (append-nil seen)))
lines_give direct reverse seen (line ∷ lines) = by (with_line direct reverse seen line) (line_gives direct reverse seen line) (λ more. lines_give direct reverse more lines)
  where
    after : (o : Option ColourOf) → ColourReadsAs direct reverse seen line o → (given : Result (List ColourOf) Refused) → LinesGive direct reverse (seen ++ given_by o) lines given → LinesGive direct reverse seen (line ∷ lines) given
    after o h given (all_read others a f) = all_read (given_by o ++ others) (o, others, h, a, refl) (f ∙ ap (λ (l : List ColourOf). Ok l) (append_assoc seen (given_by o) others))
    after o h given (first_refused why a f) = first_refused why (inr (o, h, a)) f

    by : (here : Result (List ColourOf) Refused) → LineGives direct reverse seen line here → ((more : List ColourOf) → LinesGive direct reverse more lines (with_lines direct reverse (Ok more) lines))
        → LinesGive direct reverse seen (line ∷ lines) (with_lines direct reverse here lines)
    by here (refused why h e) rest = first_refused why (inl h) (rw e refl)
    by here (reads o h e) rest = rw e (after o h (with_lines direct reverse (Ok (seen ++ given_by o)) lines) (rest (seen ++ given_by o)))

pub colours_read : (direct : ℕ) (reverse : ℕ) (bytes : List ℕ) (colours : List ColourOf) → colours_of direct reverse bytes ≡ Ok colours → ColourLinesRead direct reverse [] (lines_of bytes) colours
colours_read direct reverse bytes colours e = by (lines_give direct reverse [] (lines_of bytes))
  where
    by : LinesGive direct reverse [] (lines_of bytes) (colours_of direct reverse bytes) → ColourLinesRead direct reverse [] (lines_of bytes) colours
    by (all_read others a f) = let same : others ≡ colours = cc in subst (λ (l : List ColourOf). ColourLinesRead direct reverse [] (lines_of bytes) l) same a
    by (first_refused why a f) = cc

pub colours_refused : (direct : ℕ) (reverse : ℕ) (bytes : List ℕ) (why : Refused) → colours_of direct reverse bytes ≡ Err why → FirstColourRefused direct reverse [] (lines_of bytes) why
colours_refused direct reverse bytes why e = by (lines_give direct reverse [] (lines_of bytes))
  where
    by : LinesGive direct reverse [] (lines_of bytes) (colours_of direct reverse bytes) → FirstColourRefused direct reverse [] (lines_of bytes) why
    by (all_read others a f) = cc
    by (first_refused other a f) = let same : other ≡ why = cc in subst (λ (w : Refused). FirstColourRefused direct reverse [] (lines_of bytes) w) same a

-- ---- what is read fits

side_equiv : IsEquivalence same_side
side_equiv = record { refl = self; symm = turned; congr = alike }
  where
    self : (x : SideName) → same_side x x ≡ true
    self Direct = refl
    self Reverse = refl

    turned : (x y : SideName) → same_side x y ≡ same_side y x
    turned Direct Direct = refl
    turned Direct Reverse = refl
    turned Reverse Direct = refl
    turned Reverse Reverse = refl

    alike : (x y z : SideName) → same_side x y ≡ true → same_side x z ≡ same_side y z
    alike Direct Direct z e = refl
    alike Direct Reverse z e = cc
    alike Reverse Direct z e = cc
    alike Reverse Reverse z e = refl

pub place_equiv : IsEquivalence same_place
place_equiv = and_equiv {E = λ (a b : ColourOf). same_side a.side b.side} {F = λ (a b : ColourOf). pointwise nat_eq a.iri b.iri} (on_equiv (λ (c : ColourOf). c.side) side_equiv) (on_equiv (λ (c : ColourOf). c.iri) nat_list_eq_equiv)

each-push : {X : Type 0} (P : X → Type 0) (xs : List X) (y : X) → AllByRecursion P xs → P y → AllByRecursion P (xs ++ y ∷ [])
each-push P [] y a p = (p, tt)
each-push P (x ∷ xs) y a p = (a.0, each-push P xs y a.1 p)

fit_more : (direct reverse : ℕ) (seen : List ColourOf) (o : Option ColourOf) → AreFit direct reverse seen → Fits direct reverse seen o → AreFit direct reverse (seen ++ given_by o)
fit_more direct reverse seen None a f = subst (AreFit direct reverse) (sym (append-nil seen)) a
fit_more direct reverse seen (Some c) a f = record {
  below = each-push (λ (b : ColourOf). b.column < columns_on direct reverse b.side) seen c a.below f.0;
  once = IsDistinct-push place_equiv seen c a.once f.1;
}

fit_all : (direct reverse : ℕ) (seen : List ColourOf) (lines : List Line) (colours : List ColourOf) → AreFit direct reverse seen → ColourLinesRead direct reverse seen lines colours → AreFit direct reverse (seen ++ colours)
fit_all direct reverse seen [] colours a h = rw h (subst (AreFit direct reverse) (sym (append-nil seen)) a)
fit_all direct reverse seen (line ∷ lines) colours a h =
    let o = h.0 in
    let others = h.1 in
    let more = fit_all direct reverse (seen ++ given_by o) lines others (fit_more direct reverse seen o a h.2.fits) h.3 in
    rw h.4 (subst (AreFit direct reverse) (append_assoc seen (given_by o) others) more)

pub colours_fit : (direct : ℕ) (reverse : ℕ) (bytes : List ℕ) (colours : List ColourOf) → colours_of direct reverse bytes ≡ Ok colours → AreFit direct reverse colours
unfolding IsDistinct
colours_fit direct reverse bytes colours e = fit_all direct reverse [] (lines_of bytes) colours (record { below = tt; once = tt }) (colours_read direct reverse bytes colours e)
