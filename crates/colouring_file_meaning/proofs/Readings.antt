-- Lines: what is computed is what is spelled.
use Rattle.std.proofs.Common.{◌≡◌, ◌<◌, ◌+◌, ℕ, zero, suc, Bool, true, false, cond, eqb, ℤ, pos, negsuc, nat_lt, List, [], ◌∷◌, ◌++◌, take, refl, sym, ap, ◌∙◌, subst, arith}
use Rattle.std.specs.Prelude.{Option, Some, None, option_map, encode_utf8_all}
use Rattle.std.specs.List.{prefix_len}
use Rattle.std.specs.Str.{is_utf8, chars}
use Rattle.std.proofs.lemmas.Str.{IsUtf8-from_is_utf8, is_utf8-from_IsUtf8}
use Rattle.std.proofs.lemmas.Bool.Decides.{Decides-eqb}
use Rattle.rdf_meaning.specs.declared.side.SideName.{SideName}
use Rattle.rdf_meaning.specs.declared.side.SideName.TheVariants.{Direct, Reverse}
use Rattle.table_meaning.specs.Ints.{SpellsInt, int_of}
use Rattle.table_meaning.specs.IntLaws.{int_of-spelled, int_of-spells}
use Rattle.line_meaning.specs.Characters.{is_blank}
use Rattle.line_meaning.specs.Grammar.{SpellsNothing}
use Rattle.line_meaning.specs.Reader.{after_blanks, after_char, is_end, iri_at}
use Rattle.line_laws.proofs.Fronts.{bind_some, map_some, chosen, past, front_passes, parts, after_char_is}
use Rattle.line_laws.proofs.Tokens.{iri_front, iri_back}
use Rattle.line_laws.proofs.LinesRead.{end_is}
use Rattle.line_laws.proofs.LinesBack.{comment_blank, comment_ends}
use Rattle.colouring_file_meaning.specs.ColourLines.{ColourOf, letter_of, SpellsColour, ColourCharacters, ColourLineReads, columns_on}
use Rattle.colouring_file_meaning.specs.ColourReader.{side_at, column_of_number, column_in, colour_at, colour_content, colour_reading_of}

-- the column is one of its side's
abbrev pub IsBelow : ℕ → ℕ → Option ColourOf → Type 0
IsBelow direct reverse None = Unit {0}
IsBelow direct reverse (Some c) = c.column < columns_on direct reverse c.side

side_front : (cs : List ℕ) (x : SideName × List ℕ) → side_at cs ≡ Some x → cs ≡ letter_of x.0 ∷ x.1
side_front [] x e = cc
side_front (c ∷ cs) x e = by (eqb c 68) refl (eqb c 82) refl e
  where
    by : (a : Bool) → eqb c 68 ≡ a → (b : Bool) → eqb c 82 ≡ b → cond a (Some (Direct, cs)) (cond b (Some (Reverse, cs)) None) ≡ Some x → c ∷ cs ≡ letter_of x.0 ∷ x.1
    by true t b u e =
        let at : c ≡ 68 = (Decides-eqb c 68).0 t in
        let same : (Direct, cs) ≡ x = cc in
        subst (λ (y : SideName × List ℕ). c ∷ cs ≡ letter_of y.0 ∷ y.1) same (ap (λ (d : ℕ). d ∷ cs) at)
    by false t true u e =
        let at : c ≡ 82 = (Decides-eqb c 82).0 u in
        let same : (Reverse, cs) ≡ x = cc in
        subst (λ (y : SideName × List ℕ). c ∷ cs ≡ letter_of y.0 ∷ y.1) same (ap (λ (d : ℕ). d ∷ cs) at)
    by false t false u e = cc

side_back : (side : SideName) (cs : List ℕ) → side_at (letter_of side ∷ cs) ≡ Some (side, cs)
side_back Direct cs = refl
side_back Reverse cs = refl

number_front : (count : ℕ) (z : ℤ) (n : ℕ) → column_of_number count z ≡ Some n → (z ≡ pos (n + 1)) × (n < count)
number_front count (pos zero) n e = cc
number_front count (pos (suc m)) n e =
    let h = chosen (nat_lt m count) m n e in
    let l : m < count = grind arith in
    (ap pos (let s : suc m ≡ n + 1 = omega (arith, h.1) in s), subst (λ (k : ℕ). k < count) h.1 l)
number_front count (negsuc m) n e = cc

number_back : (count n : ℕ) → n < count → column_of_number count (pos (n + 1)) ≡ Some n
number_back count n l =
    let t : nat_lt n count ≡ true = grind arith in
    let s : n + 1 ≡ suc n = omega arith in
    subst (λ (m : ℕ). column_of_number count (pos m) ≡ Some n) (sym s) (rw t refl)

colour_front : (direct reverse : ℕ) (cs : List ℕ) (c : ColourOf) → colour_at direct reverse cs ≡ Some c → SpellsColour cs c × (c.column < columns_on direct reverse c.side)
unfolding colour_at
colour_front direct reverse cs c e =
    let s = bind_some (side_at cs) _ c e in
    let r = bind_some (after_char 32 s.0.1) _ c s.2 in
    let i = bind_some (iri_at r.0) _ c r.2 in
    let d = bind_some (after_char 32 i.0.1) _ c i.2 in
    let n = bind_some (column_in (columns_on direct reverse s.0.0) (encode_utf8_all d.0)) (λ column. Some (record { side = s.0.0; iri = i.0.0; column = column })) c d.2 in
    let z = bind_some (int_of (encode_utf8_all d.0)) (column_of_number (columns_on direct reverse s.0.0)) n.0 n.1 in
    let k = number_front (columns_on direct reverse s.0.0) z.0 n.0 z.2 in
    let f = iri_front r.0 i.0 i.1 in
    let made : ColourOf = record { side = s.0.0; iri = i.0.0; column = n.0 } in
    let last : Some made ≡ Some c = n.2 in
    let same : made ≡ c = cc in
    subst (λ (b : ColourOf). SpellsColour cs b × (b.column < columns_on direct reverse b.side)) same (
      record {
        written = f.written;
        digits = d.0;
        enclosed = f.is;
        number = subst (λ (m : ℤ). SpellsInt (encode_utf8_all d.0) m) k.0 (int_of-spells (encode_utf8_all d.0) z.0 z.1);
        whole = side_front cs s.0 s.1 ∙ ap (λ (t : List ℕ). letter_of s.0.0 ∷ t) (after_char_is 32 s.0.1 r.0 r.1 ∙ ap (λ (t : List ℕ). 32 ∷ t)
            (f.whole ∙ ap (λ (t : List ℕ). f.written ++ t) (after_char_is 32 i.0.1 d.0 d.1)));
      },
      k.1,
    )

colour_back : (direct reverse : ℕ) (cs : List ℕ) (c : ColourOf) → SpellsColour cs c → c.column < columns_on direct reverse c.side → colour_at direct reverse cs ≡ Some c
unfolding colour_at
colour_back direct reverse cs c h l =
    rw (
      h.whole,
      side_back c.side (32 ∷ (h.written ++ 32 ∷ h.digits)),
      iri_back h.written c.iri (32 ∷ h.digits) h.enclosed,
      int_of-spelled (encode_utf8_all h.digits) (pos (c.column + 1)) h.number,
      number_back (columns_on direct reverse c.side) c.column l,
    ) refl

-- a line that is a colour isn't nothing
colour_is_some : (cs : List ℕ) (c : ColourOf) → SpellsColour cs c → is_end (after_blanks cs) ≡ false
colour_is_some cs c h = rw h.whole (by c.side)
  where
    by : (side : SideName) → is_end (after_blanks (letter_of side ∷ 32 ∷ (h.written ++ 32 ∷ h.digits))) ≡ false
    by Direct = refl
    by Reverse = refl

nothing_front : (cs : List ℕ) → is_end (after_blanks cs) ≡ true → SpellsNothing cs
nothing_front cs e = record {
  before = take (prefix_len is_blank cs) cs;
  comment = after_blanks cs;
  before_blank = front_passes is_blank cs;
  is_comment = end_is (after_blanks cs) e;
  whole = parts (prefix_len is_blank cs) cs;
}

nothing_back : (cs : List ℕ) → SpellsNothing cs → is_end (after_blanks cs) ≡ true
nothing_back cs h = rw (h.whole, past is_blank h.before h.comment h.before_blank (comment_blank h.comment h.is_comment)) (comment_ends h.comment h.is_comment)

content_front : (direct reverse : ℕ) (cs : List ℕ) (o : Option ColourOf) → colour_content direct reverse cs ≡ Some o → ColourCharacters cs o × IsBelow direct reverse o
content_front direct reverse cs o e = by (is_end (after_blanks cs)) refl e
  where
    by : (b : Bool) → is_end (after_blanks cs) ≡ b → cond b (Some None) (option_map (λ c. Some c) (colour_at direct reverse cs)) ≡ Some o → ColourCharacters cs o × IsBelow direct reverse o
    by true t e = let same : None ≡ o = cc in subst (λ (u : Option ColourOf). ColourCharacters cs u × IsBelow direct reverse u) same (nothing_front cs t, tt)
    by false t e =
        let m = map_some (λ (c : ColourOf). Some c) (colour_at direct reverse cs) o e in
        subst (λ (u : Option ColourOf). ColourCharacters cs u × IsBelow direct reverse u) m.2 (colour_front direct reverse cs m.0 m.1)

content_back : (direct reverse : ℕ) (cs : List ℕ) (o : Option ColourOf) → ColourCharacters cs o → IsBelow direct reverse o → colour_content direct reverse cs ≡ Some o
content_back direct reverse cs None h l = rw (nothing_back cs h) refl
content_back direct reverse cs (Some c) h l = rw (colour_is_some cs c h, colour_back direct reverse cs c h l) refl

pub reading_front : (direct reverse : ℕ) (line : List ℕ) (o : Option ColourOf) → colour_reading_of direct reverse line ≡ Some o → ColourLineReads line o × IsBelow direct reverse o
unfolding colour_reading_of
reading_front direct reverse line o e = by (is_utf8 line) refl e
  where
    by : (b : Bool) → is_utf8 line ≡ b → cond b (colour_content direct reverse (chars line)) None ≡ Some o → ColourLineReads line o × IsBelow direct reverse o
    by true t e = let h = content_front direct reverse (chars line) o e in ((IsUtf8-from_is_utf8 line t, h.0), h.1)
    by false t e = cc

pub reading_back : (direct reverse : ℕ) (line : List ℕ) (o : Option ColourOf) → ColourLineReads line o → IsBelow direct reverse o → colour_reading_of direct reverse line ≡ Some o
unfolding colour_reading_of
reading_back direct reverse line o h l = rw (is_utf8-from_IsUtf8 line h.0) (content_back direct reverse (chars line) o h.1 l)
