-- Options as they are chosen: the reader of words takes each of them, and takes nothing else.
use Rattle.std.proofs.Common.{◌≡◌, ◌⊎◌, inl, inr, true, false, List, [], ◌∷◌, ◌++◌, refl, sym, ap, subst, ◌∙◌, append_assoc, arith}
use Rattle.std.specs.Prelude.{Option, Some, None, IfSome, decimal, codes}
use Rattle.std.specs.List.{flat_map}
use Rattle.std.specs.Str.{bytes_eq}
use Rattle.std.proofs.lemmas.Bool.{cases_Bool}
use Rattle.std.proofs.lemmas.Option.{same_Some}
use Rattle.std.proofs.lemmas.Slice.Eq.{bytes_eq-Decides}
use Rattle.run_meaning.specs.declared.command.Layout.{Layout}
use Rattle.run_meaning.specs.declared.command.Layout.TheVariants.{Colour, Hash, File}
use Rattle.run_meaning.specs.Limits.{most_columns, most_hashes, most_pieces}
use Rattle.run_meaning.specs.Ranges.{IsWithin}
use Rattle.run_meaning.specs.Words.{Word, ◌>>=◌, is_option, number_in, Given, once, layout_word, file_word, with_layout, with_option, split_options}
use Rattle.run_meaning.specs.Spelling.{Choice, direct_columns, reverse_columns, some_hashes, some_pieces, some_layout, option_words, columns_in, reverse_in, hashes_in, pieces_in, layouts_in, NamesFile}
use Rattle.run_command_laws.proofs.Numbers.{number_read, number_spelled}

-- what is given behind a choice
abbrev pub taken : Given → Choice → Given
taken g (direct_columns n) = record g { columns = Some n }
taken g (reverse_columns n) = record g { reverse = Some n }
taken g (some_hashes n) = record g { hashes = Some n }
taken g (some_pieces n) = record g { pieces = Some n }
taken g (some_layout l) = record g { layout = Some l }

-- nothing was given of what is chosen
abbrev pub IsFree : Given → Choice → Type 0
IsFree g (direct_columns n) = g.columns ≡ None
IsFree g (reverse_columns n) = g.reverse ≡ None
IsFree g (some_hashes n) = g.hashes ≡ None
IsFree g (some_pieces n) = g.pieces ≡ None
IsFree g (some_layout l) = g.layout ≡ None

-- a choice that may be made
abbrev pub IsFit : Choice → Type 0
IsFit (direct_columns n) = IsWithin 1 most_columns n
IsFit (reverse_columns n) = IsWithin 1 most_columns n
IsFit (some_hashes n) = IsWithin 1 most_hashes n
IsFit (some_pieces n) = IsWithin 1 most_pieces n
IsFit (some_layout l) = NamesFile l

-- an option that is chosen is read

pub option_read : (g : Given) (c : Choice) (tail : List Word) → IsFree g c → IsFit c → split_options g (option_words c ++ tail) ≡ split_options (taken g c) tail
option_read g (direct_columns n) tail free fit = let read = number_read 1 most_columns n (omega arith) fit in rw (free, read) refl
option_read g (reverse_columns n) tail free fit = let read = number_read 1 most_columns n (omega arith) fit in rw (free, read) refl
option_read g (some_hashes n) tail free fit = let read = number_read 1 most_hashes n (omega arith) fit in rw (free, read) refl
option_read g (some_pieces n) tail free fit = let read = number_read 1 most_pieces n (omega arith) fit in rw (free, read) refl
option_read g (some_layout Colour) tail free fit = rw free refl
option_read g (some_layout Hash) tail free fit = rw free refl
option_read g (some_layout (File name)) tail free fit = rw (fit, free) refl

-- an option that is read is chosen

pub record IsTaken (g : Given) (name value : Word) (more : Given) : Type 0 where
  pub choice : Choice
  pub words : option_words choice ≡ name ∷ value ∷ []
  pub free : IsFree g choice
  pub fit : IsFit choice
  pub more_is : taken g choice ≡ more

module _ {X : Type 0} where
  pub record Once (old new : Option X) (f : X → Option Given) (more : Given) : Type 0 where
    pub value : X
    pub free : old ≡ None
    pub new_is : new ≡ Some value
    pub made : f value ≡ Some more

  pub once_taken : (old new : Option X) (f : X → Option Given) (more : Given) → (once old new >>= f) ≡ Some more → Once old new f more
  once_taken (Some x) new f more h = let none : None ≡ Some more = h in cc
  once_taken None None f more h = let none : None ≡ Some more = h in cc
  once_taken None (Some x) f more h = record { value = x; free = refl; new_is = refl; made = h }

two_words : (a b name value : Word) → name ≡ a → value ≡ b → a ∷ b ∷ [] ≡ name ∷ value ∷ []
two_words a b name value e k = λ i. sym e i ∷ sym k i ∷ []

layout_word_is : (word : Word) (layout : Layout) → layout_word word ≡ Some layout → ((word ≡ codes "colour") × (layout ≡ Colour)) ⊎ ((word ≡ codes "hash") × (layout ≡ Hash))
layout_word_is word layout h = by (cases_Bool (bytes_eq word (codes "colour"))) (cases_Bool (bytes_eq word (codes "hash")))
  where
    by : (bytes_eq word (codes "colour") ≡ true) ⊎ (bytes_eq word (codes "colour") ≡ false) → (bytes_eq word (codes "hash") ≡ true) ⊎ (bytes_eq word (codes "hash") ≡ false)
        → ((word ≡ codes "colour") × (layout ≡ Colour)) ⊎ ((word ≡ codes "hash") × (layout ≡ Hash))
    by (inl e) other = let some : Some Colour ≡ Some layout = rw e at h in inl ((bytes_eq-Decides word (codes "colour")).0 e, sym (same_Some Colour layout some))
    by (inr e) (inl f) = let some : Some Hash ≡ Some layout = rw (e, f) at h in inr ((bytes_eq-Decides word (codes "hash")).0 f, sym (same_Some Hash layout some))
    by (inr e) (inr f) = let none : None ≡ Some layout = rw (e, f) at h in cc

file_word_is : (word : Word) (layout : Layout) → file_word word ≡ Some layout → (is_option word ≡ false) × (layout ≡ File word)
file_word_is word layout h = by (cases_Bool (is_option word))
  where
    by : (is_option word ≡ true) ⊎ (is_option word ≡ false) → (is_option word ≡ false) × (layout ≡ File word)
    by (inl e) = let none : None ≡ Some layout = rw e at h in cc
    by (inr e) = let some : Some (File word) ≡ Some layout = rw e at h in (e, sym (same_Some (File word) layout some))

module _ (g more : Given) (name value : Word) where
  name_is : (word : Word) → bytes_eq name word ≡ true → name ≡ word
  name_is word e = (bytes_eq-Decides name word).0 e

  by_layout : bytes_eq name (codes "--layout") ≡ true → with_layout g (layout_word value) ≡ Some more → IsTaken g name value more
  by_layout e h =
      let o = once_taken g.layout (layout_word value) (λ l. Some (record g { layout = Some l })) more h in
      told o (layout_word_is value o.value o.new_is)
    where
      told : (o : Once g.layout (layout_word value) (λ l. Some (record g { layout = Some l })) more) → ((value ≡ codes "colour") × (o.value ≡ Colour)) ⊎ ((value ≡ codes "hash") × (o.value ≡ Hash)) → IsTaken g name value more
      told o (inl (w, l)) = record {
        choice = some_layout Colour;
        words = two_words (codes "--layout") (codes "colour") name value (name_is (codes "--layout") e) w;
        free = o.free;
        fit = tt;
        more_is = ap (λ (x : Layout). record g { layout = Some x }) (sym l) ∙ same_Some _ more o.made;
      }
      told o (inr (w, l)) = record {
        choice = some_layout Hash;
        words = two_words (codes "--layout") (codes "hash") name value (name_is (codes "--layout") e) w;
        free = o.free;
        fit = tt;
        more_is = ap (λ (x : Layout). record g { layout = Some x }) (sym l) ∙ same_Some _ more o.made;
      }

  by_colouring : bytes_eq name (codes "--colouring") ≡ true → with_layout g (file_word value) ≡ Some more → IsTaken g name value more
  by_colouring e h =
      let o = once_taken g.layout (file_word value) (λ l. Some (record g { layout = Some l })) more h in
      let f = file_word_is value o.value o.new_is in
      record {
        choice = some_layout (File value);
        words = two_words (codes "--colouring") value name value (name_is (codes "--colouring") e) refl;
        free = o.free;
        fit = f.0;
        more_is = ap (λ (x : Layout). record g { layout = Some x }) (sym f.1) ∙ same_Some _ more o.made;
      }

  by_columns : bytes_eq name (codes "--columns") ≡ true → (once g.columns (number_in 1 most_columns value) >>= λ n. Some (record g { columns = Some n })) ≡ Some more → IsTaken g name value more
  by_columns e h =
      let o = once_taken g.columns (number_in 1 most_columns value) (λ n. Some (record g { columns = Some n })) more h in
      let s = number_spelled 1 most_columns o.value value (omega arith) o.new_is in
      record {
        choice = direct_columns o.value;
        words = two_words (codes "--columns") (decimal o.value) name value (name_is (codes "--columns") e) s.0;
        free = o.free;
        fit = s.1;
        more_is = same_Some _ more o.made;
      }

  by_reverse : bytes_eq name (codes "--reverse") ≡ true → (once g.reverse (number_in 1 most_columns value) >>= λ n. Some (record g { reverse = Some n })) ≡ Some more → IsTaken g name value more
  by_reverse e h =
      let o = once_taken g.reverse (number_in 1 most_columns value) (λ n. Some (record g { reverse = Some n })) more h in
      let s = number_spelled 1 most_columns o.value value (omega arith) o.new_is in
      record {
        choice = reverse_columns o.value;
        words = two_words (codes "--reverse") (decimal o.value) name value (name_is (codes "--reverse") e) s.0;
        free = o.free;
        fit = s.1;
        more_is = same_Some _ more o.made;
      }

  by_hashes : bytes_eq name (codes "--hashes") ≡ true → (once g.hashes (number_in 1 most_hashes value) >>= λ n. Some (record g { hashes = Some n })) ≡ Some more → IsTaken g name value more
  by_hashes e h =
      let o = once_taken g.hashes (number_in 1 most_hashes value) (λ n. Some (record g { hashes = Some n })) more h in
      let s = number_spelled 1 most_hashes o.value value (omega arith) o.new_is in
      record {
        choice = some_hashes o.value;
        words = two_words (codes "--hashes") (decimal o.value) name value (name_is (codes "--hashes") e) s.0;
        free = o.free;
        fit = s.1;
        more_is = same_Some _ more o.made;
      }

  by_pieces : bytes_eq name (codes "--pieces") ≡ true → (once g.pieces (number_in 1 most_pieces value) >>= λ n. Some (record g { pieces = Some n })) ≡ Some more → IsTaken g name value more
  by_pieces e h =
      let o = once_taken g.pieces (number_in 1 most_pieces value) (λ n. Some (record g { pieces = Some n })) more h in
      let s = number_spelled 1 most_pieces o.value value (omega arith) o.new_is in
      record {
        choice = some_pieces o.value;
        words = two_words (codes "--pieces") (decimal o.value) name value (name_is (codes "--pieces") e) s.0;
        free = o.free;
        fit = s.1;
        more_is = same_Some _ more o.made;
      }

  option_taken : with_option g name value ≡ Some more → IsTaken g name value more
  option_taken h =
      by (cases_Bool (bytes_eq name (codes "--layout"))) (cases_Bool (bytes_eq name (codes "--colouring"))) (cases_Bool (bytes_eq name (codes "--columns"))) (cases_Bool (bytes_eq name (codes "--reverse")))
      (cases_Bool (bytes_eq name (codes "--hashes"))) (cases_Bool (bytes_eq name (codes "--pieces")))
    where
      Test : Word → Type 0
      Test word = (bytes_eq name word ≡ true) ⊎ (bytes_eq name word ≡ false)

      by : Test (codes "--layout") → Test (codes "--colouring") → Test (codes "--columns") → Test (codes "--reverse") → Test (codes "--hashes") → Test (codes "--pieces") → IsTaken g name value more
      by (inl a) b c d x y = by_layout a (rw a at h)
      by (inr a) (inl b) c d x y = by_colouring b (rw (a, b) at h)
      by (inr a) (inr b) (inl c) d x y = by_columns c (rw (a, b, c) at h)
      by (inr a) (inr b) (inr c) (inl d) x y = by_reverse d (rw (a, b, c, d) at h)
      by (inr a) (inr b) (inr c) (inr d) (inl x) y = by_hashes x (rw (a, b, c, d, x) at h)
      by (inr a) (inr b) (inr c) (inr d) (inr x) (inl y) = by_pieces y (rw (a, b, c, d, x, y) at h)
      by (inr a) (inr b) (inr c) (inr d) (inr x) (inr y) = let none : None ≡ Some more = rw (a, b, c, d, x, y) at h in cc

-- one thing that may be chosen, from what was given before to what is given then
abbrev pub Slot : {X : Type 0} → Option X → List X → Option X → Type 0
Slot {X = X} old chosen new = ((chosen ≡ []) × (new ≡ old)) ⊎ ((x : X) × (old ≡ None) × (chosen ≡ x ∷ []) × (new ≡ Some x))

slot_front : {X : Type 0} (old : Option X) (x : X) (xs : List X) (new : Option X) → old ≡ None → Slot (Some x) xs new → Slot old (x ∷ xs) new
slot_front old x xs new free (inl (e, k)) = inr (x, free, ap (λ (l : List _). x ∷ l) e, k)
slot_front old x xs new free (inr (y, none, e, k)) = cc

record Rest {X : Type 0} (old : Option X) (x : X) (xs : List X) (new : Option X) : Type 0 where
  free : old ≡ None
  is : new ≡ Some x
  later : Slot (Some x) xs new

heads : {X : Type 0} (x y : X) (xs ys : List X) → x ∷ xs ≡ y ∷ ys → x ≡ y
heads {X = X} x y xs ys e = ap first e
  where
    first : List X → X
    first [] = x
    first (z ∷ zs) = z

tails : {X : Type 0} (x y : X) (xs ys : List X) → x ∷ xs ≡ y ∷ ys → xs ≡ ys
tails {X = X} x y xs ys e = ap others e
  where
    others : List X → List X
    others [] = []
    others (z ∷ zs) = zs

slot_rest : {X : Type 0} (old : Option X) (x : X) (xs : List X) (new : Option X) → Slot old (x ∷ xs) new → Rest old x xs new
slot_rest old x xs new (inl (e, k)) = cc
slot_rest old x xs new (inr (y, free, e, k)) =
    let same = heads x y xs [] e in
    let is : new ≡ Some x = k ∙ ap Some (sym same) in
    record { free = free; is = is; later = inl (tails x y xs [] e, is) }

-- what choices make of what was given before
pub record Chooses (old : Given) (choices : List Choice) (new : Given) : Type 0 where
  pub columns : Slot old.columns (flat_map columns_in choices) new.columns
  pub reverse : Slot old.reverse (flat_map reverse_in choices) new.reverse
  pub hashes : Slot old.hashes (flat_map hashes_in choices) new.hashes
  pub pieces : Slot old.pieces (flat_map pieces_in choices) new.pieces
  pub layout : Slot old.layout (flat_map layouts_in choices) new.layout

chooses_none : (g : Given) → Chooses g [] g
chooses_none g = record { columns = inl (refl, refl); reverse = inl (refl, refl); hashes = inl (refl, refl); pieces = inl (refl, refl); layout = inl (refl, refl) }

chooses_more : (g new : Given) (c : Choice) (cs : List Choice) → IsFree g c → Chooses (taken g c) cs new → Chooses g (c ∷ cs) new
chooses_more g new (direct_columns n) cs free h =
    record { columns = slot_front g.columns n (flat_map columns_in cs) new.columns free h.columns; reverse = h.reverse; hashes = h.hashes; pieces = h.pieces; layout = h.layout }
chooses_more g new (reverse_columns n) cs free h =
    record { columns = h.columns; reverse = slot_front g.reverse n (flat_map reverse_in cs) new.reverse free h.reverse; hashes = h.hashes; pieces = h.pieces; layout = h.layout }
chooses_more g new (some_hashes n) cs free h =
    record { columns = h.columns; reverse = h.reverse; hashes = slot_front g.hashes n (flat_map hashes_in cs) new.hashes free h.hashes; pieces = h.pieces; layout = h.layout }
chooses_more g new (some_pieces n) cs free h =
    record { columns = h.columns; reverse = h.reverse; hashes = h.hashes; pieces = slot_front g.pieces n (flat_map pieces_in cs) new.pieces free h.pieces; layout = h.layout }
chooses_more g new (some_layout l) cs free h =
    record { columns = h.columns; reverse = h.reverse; hashes = h.hashes; pieces = h.pieces; layout = slot_front g.layout l (flat_map layouts_in cs) new.layout free h.layout }

-- what is given may be chosen
pub record AreFit (g : Given) : Type 0 where
  pub columns : IfSome g.columns (IsWithin 1 most_columns)
  pub reverse : IfSome g.reverse (IsWithin 1 most_columns)
  pub hashes : IfSome g.hashes (IsWithin 1 most_hashes)
  pub pieces : IfSome g.pieces (IsWithin 1 most_pieces)
  pub layout : IfSome g.layout NamesFile

fit_more : (g : Given) (c : Choice) → AreFit g → IsFit c → AreFit (taken g c)
fit_more g (direct_columns n) f k = record { columns = k; reverse = f.reverse; hashes = f.hashes; pieces = f.pieces; layout = f.layout }
fit_more g (reverse_columns n) f k = record { columns = f.columns; reverse = k; hashes = f.hashes; pieces = f.pieces; layout = f.layout }
fit_more g (some_hashes n) f k = record { columns = f.columns; reverse = f.reverse; hashes = k; pieces = f.pieces; layout = f.layout }
fit_more g (some_pieces n) f k = record { columns = f.columns; reverse = f.reverse; hashes = f.hashes; pieces = k; layout = f.layout }
fit_more g (some_layout l) f k = record { columns = f.columns; reverse = f.reverse; hashes = f.hashes; pieces = f.pieces; layout = k }

some_fit : {X : Type 0} (o : Option X) (x : X) (P : X → Type 0) → o ≡ Some x → IfSome o P → P x
some_fit o x P e f = subst (λ q. IfSome q P) e f

-- the first choice, and what the later ones make of it
record First (g : Given) (c : Choice) (cs : List Choice) (new : Given) : Type 0 where
  free : IsFree g c
  fit : IsFit c
  later : Chooses (taken g c) cs new

first_choice : (g : Given) (c : Choice) (cs : List Choice) (new : Given) → AreFit new → Chooses g (c ∷ cs) new → First g c cs new
first_choice g (direct_columns n) cs new f h =
    let r = slot_rest g.columns n (flat_map columns_in cs) new.columns h.columns in
    record { free = r.free; fit = some_fit new.columns n (IsWithin 1 most_columns) r.is f.columns; later = record { columns = r.later; reverse = h.reverse; hashes = h.hashes; pieces = h.pieces; layout = h.layout } }
first_choice g (reverse_columns n) cs new f h =
    let r = slot_rest g.reverse n (flat_map reverse_in cs) new.reverse h.reverse in
    record { free = r.free; fit = some_fit new.reverse n (IsWithin 1 most_columns) r.is f.reverse; later = record { columns = h.columns; reverse = r.later; hashes = h.hashes; pieces = h.pieces; layout = h.layout } }
first_choice g (some_hashes n) cs new f h =
    let r = slot_rest g.hashes n (flat_map hashes_in cs) new.hashes h.hashes in
    record { free = r.free; fit = some_fit new.hashes n (IsWithin 1 most_hashes) r.is f.hashes; later = record { columns = h.columns; reverse = h.reverse; hashes = r.later; pieces = h.pieces; layout = h.layout } }
first_choice g (some_pieces n) cs new f h =
    let r = slot_rest g.pieces n (flat_map pieces_in cs) new.pieces h.pieces in
    record { free = r.free; fit = some_fit new.pieces n (IsWithin 1 most_pieces) r.is f.pieces; later = record { columns = h.columns; reverse = h.reverse; hashes = h.hashes; pieces = r.later; layout = h.layout } }
first_choice g (some_layout l) cs new f h =
    let r = slot_rest g.layout l (flat_map layouts_in cs) new.layout h.layout in
    record { free = r.free; fit = some_fit new.layout l NamesFile r.is f.layout; later = record { columns = h.columns; reverse = h.reverse; hashes = h.hashes; pieces = h.pieces; layout = r.later } }

slot_none : {X : Type 0} (old new : Option X) → Slot old [] new → old ≡ new
slot_none old new (inl (e, k)) = sym k
slot_none old new (inr (x, free, e, k)) = cc

-- names behind the options
abbrev pub BeginNamed : List Word → Type 0
BeginNamed [] = Unit {0}
BeginNamed (word ∷ words) = is_option word ≡ false

pub names_split : (g : Given) (names : List Word) → BeginNamed names → split_options g names ≡ Some (g, names)
names_split g [] named = refl
names_split g (word ∷ []) named = rw named refl
names_split g (word ∷ next ∷ names) named = rw named refl

-- options that are chosen are read
pub choices_read : (g new : Given) (choices : List Choice) (names : List Word) → AreFit new → BeginNamed names → Chooses g choices new → split_options g (flat_map option_words choices ++ names) ≡ Some (new, names)
choices_read g new [] names f named h =
    let columns = slot_none g.columns new.columns h.columns in
    let reverse = slot_none g.reverse new.reverse h.reverse in
    let hashes = slot_none g.hashes new.hashes h.hashes in
    let pieces = slot_none g.pieces new.pieces h.pieces in
    let layout = slot_none g.layout new.layout h.layout in
    let same : g ≡ new = λ i. record { columns = columns i; reverse = reverse i; hashes = hashes i; layout = layout i; pieces = pieces i } in
    names_split g names named ∙ ap (λ (x : Given). Some (x, names)) same
choices_read g new (c ∷ cs) names f named h =
    let first = first_choice g c cs new f h in
    ap (split_options g) (append_assoc (option_words c) (flat_map option_words cs) names)
    ∙ option_read g c (flat_map option_words cs ++ names) first.free first.fit
    ∙ choices_read (taken g c) new cs names f named first.later

-- options that are read are chosen
pub record AreTaken (g : Given) (words : List Word) (new : Given) (names : List Word) : Type 0 where
  pub choices : List Choice
  pub words_are : words ≡ flat_map option_words choices ++ names
  pub chosen : Chooses g choices new
  pub fit : AreFit new

-- what is given, and the words that are left
abbrev Left : Type 0
Left = Given × List Word

abbrev left : Given → List Word → Left
left g words = (g, words)

none_taken : (g new : Given) (words names : List Word) → AreFit g → Some (left g words) ≡ Some (left new names) → AreTaken g words new names
none_taken g new words names f h =
    subst (λ (p : Left). AreTaken g words p.0 p.1) (same_Some (left g words) (left new names) h) (record { choices = []; words_are = refl; chosen = chooses_none g; fit = f })

pub options_taken : (g new : Given) (words names : List Word) → AreFit g → split_options g words ≡ Some (new, names) → AreTaken g words new names
options_taken g new [] names f h = none_taken g new [] names f h
options_taken g new (word ∷ []) names f h = by (cases_Bool (is_option word))
  where
    by : (is_option word ≡ true) ⊎ (is_option word ≡ false) → AreTaken g (word ∷ []) new names
    by (inl e) = let none : None ≡ Some (new, names) = rw e at h in cc
    by (inr e) = none_taken g new (word ∷ []) names f (rw e at h)
options_taken g new (word ∷ value ∷ rest) names f h = by (cases_Bool (is_option word)) (λ more k s. options_taken more new rest names k s)
  where
    by : (is_option word ≡ true) ⊎ (is_option word ≡ false) → ((more : Given) → AreFit more → split_options more rest ≡ Some (new, names) → AreTaken more rest new names) → AreTaken g (word ∷ value ∷ rest) new names
    by (inr e) later = none_taken g new (word ∷ value ∷ rest) names f (rw e at h)
    by (inl e) later = told (with_option g word value) refl (rw e at h)
      where
        told : (o : Option Given) → with_option g word value ≡ o → (o >>= λ more. split_options more rest) ≡ Some (new, names) → AreTaken g (word ∷ value ∷ rest) new names
        told None is k = let none : None ≡ Some (new, names) = k in cc
        told (Some more) is k =
            let t = option_taken g more word value is in
            let s : split_options (taken g t.choice) rest ≡ Some (new, names) = ap (λ (x : Given). split_options x rest) t.more_is ∙ k in
            let l = later (taken g t.choice) (fit_more g t.choice f t.fit) s in
            record {
              choices = t.choice ∷ l.choices;
              words_are = ap (λ (ws : List Word). word ∷ value ∷ ws) l.words_are ∙ ap (λ (ws : List Word). ws ++ (flat_map option_words l.choices ++ names)) (sym t.words)
                  ∙ sym (append_assoc (option_words t.choice) (flat_map option_words l.choices) names);
              chosen = chooses_more g new t.choice l.choices t.free l.chosen;
              fit = l.fit;
            }
