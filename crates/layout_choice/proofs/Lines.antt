-- The pairs of a side, line by line.
use Rattle.std.proofs.Common.{◌≡◌, ◌<◌, ◌+◌, ◌&&◌, ℕ, nat_eq, Bool, true, false, if◌then◌else◌, List, [], ◌∷◌, ◌++◌, length, take, map, get_or, None, refl, sym, ap, ◌∙◌}
use Rattle.std.specs.List.{AllByRecursion, IsDistinct}
use Rattle.std.specs.Cmp.Lexicographic.{pointwise}
use Rattle.std.proofs.lemmas.List.{take_more}
use Rattle.std.proofs.lemmas.Map.Keys.{IsDistinct-head, IsDistinct-tail, IsDistinct-cons}
use Rattle.rdf_meaning.specs.declared.side.SideName.{SideName}
use Rattle.rdf_meaning.specs.declared.side.SideName.TheVariants.{Direct, Reverse}
use Rattle.pred_columns.specs.declared.columns.ColourPair.{ColourPair}
use Rattle.pred_columns.specs.Refusal.{refusal_of}
use Rattle.colouring_file_meaning.specs.ColourLines.{ColourOf, columns_on, same_side, same_place}
use Rattle.colouring_file.specs.Colours.{colour_of}
use Rattle.colouring_file.specs.declared.colours.ColourLine.{ColourLine}
use Rattle.colouring_file_laws.specs.Pairs.{same_iri}
use Rattle.colouring_file_laws.proofs.Faults.{fit_taken}
use Rattle.layout_choice.specs.Chosen.{pair_of, pairs_on}
use Rattle.layout_choice.specs.Fit.{FitColoursAreTaken, OtherWaysAreTaken}

pairs-append : (side : SideName) (xs ys : List ColourLine) → pairs_on side (xs ++ ys) ≡ pairs_on side xs ++ pairs_on side ys
pairs-append side [] ys = refl
pairs-append side (x ∷ xs) ys = by (same_side side x.side) (pairs-append side xs ys)
  where
    by : (b : Bool) → pairs_on side (xs ++ ys) ≡ pairs_on side xs ++ pairs_on side ys
        → (if b then pair_of x ∷ pairs_on side (xs ++ ys) else pairs_on side (xs ++ ys)) ≡ (if b then pair_of x ∷ pairs_on side xs else pairs_on side xs) ++ pairs_on side ys
    by true ih = ap (λ (ps : List ColourPair). pair_of x ∷ ps) ih
    by false ih = ih

-- a line more
pub pairs-more : (side : SideName) (lines : List ColourLine) (i : ℕ) (line : ColourLine) (pairs new : List ColourPair) → i < length lines → line ≡ get_or lines i line → pairs ≡ pairs_on side (take i lines)
    → new ≡ (if same_side side line.side then pairs ++ pair_of line ∷ [] else pairs) → new ≡ pairs_on side (take (i + 1) lines)
pairs-more side lines i line pairs new l e h n =
    n ∙ by (same_side side line.side) refl ∙ sym (pairs-append side (take i lines) (line ∷ [])) ∙ ap (pairs_on side) (sym (take_more lines i line l ∙ ap (λ (x : ColourLine). take i lines ++ x ∷ []) (sym e)))
  where
    nothing : (xs : List ColourPair) → xs ≡ xs ++ []
    nothing [] = refl
    nothing (x ∷ xs) = ap (λ (ys : List ColourPair). x ∷ ys) (nothing xs)

    by : (b : Bool) → same_side side line.side ≡ b → (if b then pairs ++ pair_of line ∷ [] else pairs) ≡ pairs_on side (take i lines) ++ pairs_on side (line ∷ [])
    by true t = rw (t, h) refl
    by false t = rw (t, h) (nothing (pairs_on side (take i lines)))

-- ---- lines that fit

pairs-below : (direct reverse : ℕ) (side : SideName) (lines : List ColourLine) → AllByRecursion (λ (c : ColourOf). c.column < columns_on direct reverse c.side) (map colour_of lines)
    → AllByRecursion (λ (p : ColourPair). p.column < columns_on direct reverse side) (pairs_on side lines)
pairs-below direct reverse side [] a = tt
pairs-below direct reverse side (x ∷ xs) a = by (same_side side x.side) refl (pairs-below direct reverse side xs a.1)
  where
    there : (s t : SideName) → same_side s t ≡ true → x.column < columns_on direct reverse t → x.column < columns_on direct reverse s
    there Direct Direct e l = l
    there Direct Reverse e l = cc
    there Reverse Direct e l = cc
    there Reverse Reverse e l = l

    by : (b : Bool) → same_side side x.side ≡ b → AllByRecursion (λ (p : ColourPair). p.column < columns_on direct reverse side) (pairs_on side xs)
        → AllByRecursion (λ (p : ColourPair). p.column < columns_on direct reverse side) (if b then pair_of x ∷ pairs_on side xs else pairs_on side xs)
    by true t ih = (there side x.side t a.0, ih)
    by false t ih = ih

-- no pair behind a line of the side has its IRI
pairs-apart : (side : SideName) (x : ColourLine) (lines : List ColourLine) → same_side side x.side ≡ true → AllByRecursion (λ (c : ColourOf). same_place (colour_of x) c ≡ false) (map colour_of lines)
    → AllByRecursion (λ (p : ColourPair). same_iri (pair_of x) p ≡ false) (pairs_on side lines)
pairs-apart side x [] t a = tt
pairs-apart side x (y ∷ ys) t a = by (same_side side y.side) refl (pairs-apart side x ys t a.1)
  where
    both : (s u v : SideName) → same_side s u ≡ true → same_side s v ≡ true → same_side u v ≡ true
    both Direct Direct Direct e f = refl
    both Direct Direct Reverse e f = cc
    both Direct Reverse v e f = cc
    both Reverse Reverse Reverse e f = refl
    both Reverse Reverse Direct e f = cc
    both Reverse Direct v e f = cc

    second : (b c : Bool) → b ≡ true → (b && c) ≡ false → c ≡ false
    second true c e h = h
    second false c e h = cc

    by : (b : Bool) → same_side side y.side ≡ b → AllByRecursion (λ (p : ColourPair). same_iri (pair_of x) p ≡ false) (pairs_on side ys)
        → AllByRecursion (λ (p : ColourPair). same_iri (pair_of x) p ≡ false) (if b then pair_of y ∷ pairs_on side ys else pairs_on side ys)
    by true u ih = (second (same_side x.side y.side) (pointwise nat_eq x.iri y.iri) (both side x.side y.side t u) a.0, ih)
    by false u ih = ih

pairs-once : (side : SideName) (lines : List ColourLine) → IsDistinct same_place (map colour_of lines) → IsDistinct same_iri (pairs_on side lines)
unfolding IsDistinct
pairs-once side [] d = tt
pairs-once side (x ∷ xs) d = by (same_side side x.side) refl (pairs-once side xs (IsDistinct-tail same_place (colour_of x) (map colour_of xs) d))
  where
    by : (b : Bool) → same_side side x.side ≡ b → IsDistinct same_iri (pairs_on side xs) → IsDistinct same_iri (if b then pair_of x ∷ pairs_on side xs else pairs_on side xs)
    by true t ih = IsDistinct-cons same_iri (pair_of x) (pairs_on side xs) (pairs-apart side x xs t (IsDistinct-head same_place (colour_of x) (map colour_of xs) d)) ih
    by false t ih = ih

pub given_taken : FitColoursAreTaken
given_taken direct reverse hashes lines k fit =
    let d : refusal_of direct hashes (pairs_on Direct lines.items) ≡ None = fit_taken direct hashes (pairs_on Direct lines.items) k.some_direct k.few_direct k.some_hash k.few_hashes
    (pairs-below direct reverse Direct lines.items fit.below) (pairs-once Direct lines.items fit.once) in
    let r : refusal_of reverse hashes (pairs_on Reverse lines.items) ≡ None = fit_taken reverse hashes (pairs_on Reverse lines.items) k.some_reverse k.few_reverse k.some_hash k.few_hashes
    (pairs-below direct reverse Reverse lines.items fit.below) (pairs-once Reverse lines.items fit.once) in
    rw (d, r) refl

none_distinct : IsDistinct same_iri []
unfolding IsDistinct
none_distinct = tt

pub others_taken : OtherWaysAreTaken
others_taken direct reverse hashes k =
    let d : refusal_of direct hashes [] ≡ None = fit_taken direct hashes [] k.some_direct k.few_direct k.some_hash k.few_hashes tt none_distinct in
    let r : refusal_of reverse hashes [] ≡ None = fit_taken reverse hashes [] k.some_reverse k.few_reverse k.some_hash k.few_hashes tt none_distinct in
    (rw (d, r) refl, rw (d, r) refl)
