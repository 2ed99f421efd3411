-- Cells: what is spelled is read, and what is read is spelled; no tab and no line feed stands in one.
use Rattle.std.proofs.Common.{◌≡◌, ◌⊎◌, inl, inr, ℕ, ℤ, ◌<◌, ◌≤◌, true, false, ◌||◌, cond, eqb, List, [], ◌∷◌, ◌++◌, refl, sym, ap, subst, ◌∙◌, arith}
use Rattle.std.specs.Prelude.{Some, codes}
use Rattle.std.specs.Cmp.{first_so, second_so}
use Rattle.std.specs.List.{flat_map, list_all}
use Rattle.std.specs.Str.{bytes_eq}
use Rattle.std.proofs.lemmas.Bool.{cases_Bool, eqb-true, ne_eqb, leb-true, or_cases, false≢true}
use Rattle.std.proofs.lemmas.List.Folds.{list_all-append}
use Rattle.std.proofs.lemmas.Slice.Eq.{bytes_eq-Decides}
use Rattle.rdf_meaning.specs.Characters.{is_digit, is_letter, is_small_letter, is_between}
use Rattle.rdf_meaning.specs.Spelling.{spelled_text_byte, text_spelling}
use Rattle.table_meaning.specs.declared.kind.Kind.{Kind}
use Rattle.table_meaning.specs.declared.kind.Kind.TheVariants as kinds
use Rattle.table_meaning.specs.declared.cell.Cell.{Cell}
use Rattle.table_meaning.specs.declared.cell.Cell.TheVariants.{Null, Int, Text, Truth}
use Rattle.table_meaning.specs.CellText.{cell_text}
use Rattle.table_meaning.specs.Ints.{int_of, int_text, is_int_form, is_digits, is_wide_int}
use Rattle.table_meaning.specs.IntLaws.{int_of-spelled, int_of-spells, int_of-form}
use Rattle.table_meaning.specs.Names.{is_name, is_name_byte}
use Rattle.table_meaning.specs.CellText.{is_held_cell}
use Rattle.table_text_meaning.specs.TableText.{is_truth}
use Rattle.table_meaning.specs.Tables.{has_kind}
use Rattle.table_text.specs.Reading.{cell_of, value_of, text_of, is_other}
use Rattle.table_text.proofs.NameLaws.{name_bytes}
use Rattle.table_text.proofs.TextLaws.{chosen, map_some, text_of-spelled, text_of-spells, raw_byte}

int_form : (z : ℤ) → is_wide_int z ≡ true → is_int_form (int_text z) ≡ true
int_form z wide = int_of-form (int_text z) z (int_of-spelled (int_text z) z (refl, wide))

-- an int is no dot
no_dot : (text : List ℕ) → is_int_form text ≡ true → bytes_eq text (codes ".") ≡ false
no_dot text form = by (cases_Bool (bytes_eq text (codes ".")))
  where
    by : (bytes_eq text (codes ".") ≡ true) ⊎ (bytes_eq text (codes ".") ≡ false) → bytes_eq text (codes ".") ≡ false
    by (inl e) = absurd (false≢true (subst (λ t. is_int_form t ≡ true) ((bytes_eq-Decides text (codes ".")).0 e) form))
    by (inr e) = e

pub cell_of-spelled : (kind : Kind) (cell : Cell) → has_kind kind cell ≡ true → is_held_cell cell ≡ true → is_truth kind ≡ false → cell_of kind (cell_text cell) ≡ Some cell
unfolding cell_of
cell_of-spelled kind Null fits held plain = refl
cell_of-spelled kinds.Int (Int z) fits held plain = rw (no_dot (int_text z) (int_form z held), int_of-spelled (int_text z) z (refl, held)) refl
cell_of-spelled kinds.Text (Text t) fits held plain = rw (text_of-spelled t held) refl
cell_of-spelled kinds.Truth cell fits held plain = cc
cell_of-spelled kinds.Int (Text t) fits held plain = cc
cell_of-spelled kinds.Int (Truth b) fits held plain = cc
cell_of-spelled kinds.Text (Int z) fits held plain = cc
cell_of-spelled kinds.Text (Truth b) fits held plain = cc

null_fits : (kind : Kind) → has_kind kind Null ≡ true
null_fits kinds.Int = refl
null_fits kinds.Text = refl
null_fits kinds.Truth = refl

-- a field is the spelling of a cell of this kind
abbrev pub SpellsCell : Kind → List ℕ → Cell → Type 0
SpellsCell kind field cell = (field ≡ cell_text cell) × (has_kind kind cell ≡ true) × (is_held_cell cell ≡ true)

value_spells : (kind : Kind) (field : List ℕ) (cell : Cell) → value_of kind field ≡ Some cell → SpellsCell kind field cell
value_spells kinds.Int field cell h =
    let x = map_some Int (int_of field) cell h in
    let s = int_of-spells field x.0 x.1 in
    subst (SpellsCell kinds.Int field) x.2 (s.0, refl, s.1)
value_spells kinds.Text field cell h =
    let x = map_some Text (text_of field) cell h in
    let s = text_of-spells field x.0 x.1 in
    subst (SpellsCell kinds.Text field) x.2 (s.0, refl, s.1)
value_spells kinds.Truth field cell h = cc

pub cell_of-spells : (kind : Kind) (field : List ℕ) (cell : Cell) → cell_of kind field ≡ Some cell → SpellsCell kind field cell
unfolding cell_of
cell_of-spells kind field cell h = by (cases_Bool (bytes_eq field (codes ".")))
  where
    by : (bytes_eq field (codes ".") ≡ true) ⊎ (bytes_eq field (codes ".") ≡ false) → SpellsCell kind field cell
    by (inl e) =
        let null : cond true (Some Null) (value_of kind field) ≡ Some cell = subst (λ q. cond q (Some Null) (value_of kind field) ≡ Some cell) e h in
        let same = chosen true Null cell null in
        subst (SpellsCell kind field) same.1 ((bytes_eq-Decides field (codes ".")).0 e, null_fits kind, refl)
    by (inr e) = value_spells kind field cell (subst (λ q. cond q (Some Null) (value_of kind field) ≡ Some cell) e h)

-- a stop that ends a field or a line
pub record IsStop (stop : ℕ) : Type 0 where
  pub small : stop < 34
  pub apart : (b : ℕ) → eqb b 9 ≡ false → eqb b 10 ≡ false → is_other stop b ≡ true

pub tab_stops : IsStop 9
tab_stops = record { small = omega arith; apart = λ b tab feed. rw tab refl }

pub feed_stops : IsStop 10
feed_stops = record { small = omega arith; apart = λ b tab feed. rw feed refl }

module _ (stop : ℕ) (s : IsStop stop) where
  above : (b : ℕ) → 34 ≤ b → is_other stop b ≡ true
  above b high = let other : eqb b stop ≡ false = ne_eqb b stop (λ e. omega (arith, s.small)) in rw other refl

  digit_other : (b : ℕ) → is_digit b ≡ true → is_other stop b ≡ true
  digit_other b d = above b (omega (arith, leb-true 48 b (first_so _ _ d)))

  digits_other : (ds : List ℕ) → list_all is_digit ds ≡ true → list_all (is_other stop) ds ≡ true
  digits_other [] h = refl
  digits_other (d ∷ ds) h = let e : is_other stop d ≡ true = digit_other d (first_so _ _ h) in rw e (digits_other ds (second_so (is_digit d) _ h))

  form_other : (text : List ℕ) → is_digits text ≡ true → list_all (is_other stop) text ≡ true
  form_other [] h = refl
  form_other (d ∷ ds) h = let e : is_other stop d ≡ true = digit_other d (first_so _ _ h) in rw e (digits_other ds (first_so _ _ (second_so (is_digit d) _ h)))

  int_other : (text : List ℕ) → is_int_form text ≡ true → list_all (is_other stop) text ≡ true
  int_other [] h = refl
  int_other (b ∷ bs) h = by (cases_Bool (eqb b 45))
    where
      by : (eqb b 45 ≡ true) ⊎ (eqb b 45 ≡ false) → list_all (is_other stop) (b ∷ bs) ≡ true
      by (inl e) =
          let form : is_int_form (45 ∷ bs) ≡ true = subst (λ x. is_int_form (x ∷ bs) ≡ true) (eqb-true b 45 e) h in
          let other : is_other stop b ≡ true = above b (omega (arith, eqb-true b 45 e)) in
          rw other (form_other bs (first_so _ _ form))
      by (inr e) = let form : is_digits (b ∷ bs) ≡ true = rw e at h in form_other (b ∷ bs) form

  byte_other : (b : ℕ) → list_all (is_other stop) (spelled_text_byte b) ≡ true
  byte_other b = go (cases_Bool (eqb b 9)) (cases_Bool (eqb b 10)) (cases_Bool (eqb b 13)) (cases_Bool (eqb b 34)) (cases_Bool (eqb b 92))
    where
      two : (mark : ℕ) → 34 ≤ mark → list_all (is_other stop) (92 ∷ mark ∷ []) ≡ true
      two mark high =
          let first : is_other stop 92 ≡ true = above 92 (omega arith) in
          let second : is_other stop mark ≡ true = above mark high in
          rw (first, second) refl

      go : (eqb b 9 ≡ true) ⊎ (eqb b 9 ≡ false) → (eqb b 10 ≡ true) ⊎ (eqb b 10 ≡ false) → (eqb b 13 ≡ true) ⊎ (eqb b 13 ≡ false) → (eqb b 34 ≡ true) ⊎ (eqb b 34 ≡ false)
          → (eqb b 92 ≡ true) ⊎ (eqb b 92 ≡ false) → list_all (is_other stop) (spelled_text_byte b) ≡ true
      go (inl e) x y z w = subst (λ x. list_all (is_other stop) (spelled_text_byte x) ≡ true) (sym (eqb-true b 9 e)) (two 116 (omega arith))
      go (inr tab) (inl e) y z w = subst (λ x. list_all (is_other stop) (spelled_text_byte x) ≡ true) (sym (eqb-true b 10 e)) (two 110 (omega arith))
      go (inr tab) (inr feed) (inl e) z w = subst (λ x. list_all (is_other stop) (spelled_text_byte x) ≡ true) (sym (eqb-true b 13 e)) (two 114 (omega arith))
      go (inr tab) (inr feed) (inr return) (inl e) w = subst (λ x. list_all (is_other stop) (spelled_text_byte x) ≡ true) (sym (eqb-true b 34 e)) (two 34 (omega arith))
      go (inr tab) (inr feed) (inr return) (inr quote) (inl e) = subst (λ x. list_all (is_other stop) (spelled_text_byte x) ≡ true) (sym (eqb-true b 92 e)) (two 92 (omega arith))
      go (inr tab) (inr feed) (inr return) (inr quote) (inr slash) =
          let raw = raw_byte b tab feed return quote slash in
          let other : is_other stop b ≡ true = s.apart b tab feed in
          ap (list_all (is_other stop)) raw.1 ∙ rw other refl

  spelled_other : (t : List ℕ) → list_all (is_other stop) (flat_map spelled_text_byte t) ≡ true
  spelled_other [] = refl
  spelled_other (b ∷ t) =
      let first = byte_other b in
      let others = spelled_other t in
      list_all-append (is_other stop) (spelled_text_byte b) (flat_map spelled_text_byte t) ∙ rw (first, others) refl

  text_other : (t : List ℕ) → list_all (is_other stop) (text_spelling t) ≡ true
  text_other t =
      let quote : is_other stop 34 ≡ true = above 34 (omega arith) in
      let inner = spelled_other t in
      let end : list_all (is_other stop) (flat_map spelled_text_byte t ++ 34 ∷ []) ≡ true = list_all-append (is_other stop) (flat_map spelled_text_byte t) (34 ∷ []) ∙ rw (inner, quote) refl in
      rw (quote, end) refl

  pub cell_other : (cell : Cell) → is_held_cell cell ≡ true → list_all (is_other stop) (cell_text cell) ≡ true
  cell_other Null held = let e : is_other stop 46 ≡ true = above 46 (omega arith) in rw e refl
  cell_other (Int z) held = int_other (int_text z) (int_form z held)
  cell_other (Text t) held = text_other t
  cell_other (Truth true) held = let e : is_other stop 84 ≡ true = above 84 (omega arith) in rw e refl
  cell_other (Truth false) held = let e : is_other stop 70 ≡ true = above 70 (omega arith) in rw e refl

  letter_high : (b : ℕ) → is_letter b ≡ true → 34 ≤ b
  letter_high b h = by (or_cases (is_between 65 90 b) (is_small_letter b) h)
    where
      by : (is_between 65 90 b ≡ true) ⊎ (is_small_letter b ≡ true) → 34 ≤ b
      by (inl e) = omega (arith, leb-true 65 b (first_so _ _ e))
      by (inr e) = omega (arith, leb-true 97 b (first_so _ _ e))

  name_high : (b : ℕ) → is_name_byte b ≡ true → 34 ≤ b
  name_high b h = by (or_cases (is_letter b || is_digit b) _ h)
    where
      part : (is_letter b ≡ true) ⊎ (is_digit b ≡ true) → 34 ≤ b
      part (inl e) = letter_high b e
      part (inr e) = omega (arith, leb-true 48 b (first_so _ _ e))

      by : ((is_letter b || is_digit b) ≡ true) ⊎ (eqb b 95 ≡ true) → 34 ≤ b
      by (inl e) = part (or_cases (is_letter b) (is_digit b) e)
      by (inr e) = omega (arith, eqb-true b 95 e)

  names_other : (bs : List ℕ) → list_all is_name_byte bs ≡ true → list_all (is_other stop) bs ≡ true
  names_other [] h = refl
  names_other (b ∷ bs) h = let e : is_other stop b ≡ true = above b (name_high b (first_so _ _ h)) in rw e (names_other bs (second_so (is_name_byte b) _ h))

  pub name_other : (bs : List ℕ) → is_name bs ≡ true → list_all (is_other stop) bs ≡ true
  name_other bs h = names_other bs (name_bytes bs h)
