-- Words spell a command where they are read as it, and nowhere else.
use Rattle.std.proofs.Common.{◌≡◌, ◌⊎◌, inl, inr, ℕ, Bool, true, false, cond, List, [], ◌∷◌, ◌++◌, map, refl, sym, ap, subst, ◌∙◌, arith}
use Rattle.std.specs.Prelude.{Option, Some, None, Result, Ok, Err, IfOk, is_none, IfSome, unwrap_or, ◌||◌, decimal, codes}
use Rattle.std.specs.Cmp.{first_so, second_so}
use Rattle.std.specs.List.{flat_map, list_any}
use Rattle.std.specs.Str.{bytes_eq}
use Rattle.std.proofs.lemmas.Bool.{cases_Bool}
use Rattle.std.proofs.lemmas.Option.{same_Some}
use Rattle.std.proofs.lemmas.Slice.Eq.{bytes_eq-Decides}
use Rattle.run_meaning.specs.declared.command.Layout.TheVariants.{Colour}
use Rattle.run_meaning.specs.declared.command.Options.{Options}
use Rattle.run_meaning.specs.declared.command.Command.{Command}
use Rattle.run_meaning.specs.declared.command.Command.TheVariants.{Query, Show, Plan, Stats, Exec, Drill}
use Rattle.run_meaning.specs.Limits.{most_columns, most_hashes, most_pieces, most_drill, are_data_names}
use Rattle.run_meaning.specs.Ranges.{IsWithin}
use Rattle.run_meaning.specs.Words.{Word, ◌>>=◌, is_option, number_in, Given, none_given, split_options, options_of, only_pieces, data_names, last_from, last_apart, data_and_query, one_name, two_numbers, over_query, exec_from, command_from, command_of}
use Rattle.run_meaning.specs.Spelling.{Choice, direct_columns, reverse_columns, some_hashes, some_pieces, some_layout, option_words, columns_in, reverse_in, hashes_in, pieces_in, layouts_in, IsChosen, IsFileName, NamesFile, AreChosen, AreWords, AreDataFiles, SpellsOver, Spells, IsCommandOf}
use Rattle.run_command_laws.proofs.Numbers.{number_read, decimal_named, number_spelled}
use Rattle.run_command_laws.proofs.Choices.{taken, Slot, Chooses, AreFit, BeginNamed, option_read, names_split, choices_read, AreTaken, options_taken}

-- the last name, and those before it

from_push : (word : Word) (front : List Word) (last : Word) → last_from word (front ++ last ∷ []) ≡ (word ∷ front, last)
from_push word [] last = refl
from_push word (next ∷ front) last = ap (λ (p : List Word × Word). (word ∷ p.0, p.1)) (from_push next front last)

pub last_push : (front : List Word) (last : Word) → last_apart (front ++ last ∷ []) ≡ Some (front, last)
last_push [] last = refl
last_push (word ∷ front) last = ap Some (from_push word front last)

from_is : (word : Word) (words : List Word) → word ∷ words ≡ (last_from word words).0 ++ (last_from word words).1 ∷ []
from_is word [] = refl
from_is word (next ∷ behind) = ap (λ (ws : List Word). word ∷ ws) (from_is next behind)

last_is : (words : List Word) (p : List Word × Word) → last_apart words ≡ Some p → words ≡ p.0 ++ p.1 ∷ []
last_is [] p h = cc
last_is (word ∷ words) p h = from_is word words ∙ ap (λ (q : List Word × Word). q.0 ++ q.1 ∷ []) (same_Some (last_from word words) p h)

-- options that are chosen are given

record Found {X : Type 0} (default value : X) (chosen : List X) (P : X → Type 0) : Type 0 where
  new : Option X
  slot : Slot None chosen new
  is : unwrap_or new default ≡ value
  fit : IfSome new P

found : {X : Type 0} (default value : X) (chosen : List X) (P : X → Type 0) → IsChosen default chosen value → P value → Found default value chosen P
found default value chosen P (inl (e, k)) p = record { new = None; slot = inl (e, refl); is = sym k; fit = tt }
found default value chosen P (inr e) p = record { new = Some value; slot = inr (value, refl, e, refl); is = refl; fit = p }

record AreGiven (choices : List Choice) (options : Options) : Type 0 where
  given : Given
  chosen : Chooses none_given choices given
  fit : AreFit given
  is : options_of given ≡ options

are_given : (choices : List Choice) (options : Options) → AreChosen choices options → AreGiven choices options
are_given choices options c =
    let columns = found 8 options.columns (flat_map columns_in choices) (IsWithin 1 most_columns) c.columns c.ranges.columns in
    let reverse = found 8 options.reverse (flat_map reverse_in choices) (IsWithin 1 most_columns) c.reverse c.ranges.reverse in
    let hashes = found 2 options.hashes (flat_map hashes_in choices) (IsWithin 1 most_hashes) c.hashes c.ranges.hashes in
    let pieces = found 1 options.pieces (flat_map pieces_in choices) (IsWithin 1 most_pieces) c.pieces c.ranges.pieces in
    let layout = found Colour options.layout (flat_map layouts_in choices) NamesFile c.layout c.file in
    record {
      given = record { columns = columns.new; reverse = reverse.new; hashes = hashes.new; layout = layout.new; pieces = pieces.new };
      chosen = record { columns = columns.slot; reverse = reverse.slot; hashes = hashes.slot; pieces = pieces.slot; layout = layout.slot };
      fit = record { columns = columns.fit; reverse = reverse.fit; hashes = hashes.fit; pieces = pieces.fit; layout = layout.fit };
      is = λ i. record { columns = columns.is i; reverse = reverse.is i; hashes = hashes.is i; layout = layout.is i; pieces = pieces.is i };
    }

words_read : (words : List Word) (word : Word) (options : Options) (names : List Word) (make : Options → Command) → AreWords words word options names → BeginNamed names
    → ((given : Given) → command_from word given names ≡ Some (make (options_of given))) → command_of words ≡ Some (make options)
words_read words word options names make a named reads =
    let g = are_given a.choices options a.chosen in
    ap command_of a.written
    ∙ ap (λ (o : Option (Given × List Word)). o >>= λ split. command_from word split.0 split.1) (choices_read none_given g.given a.choices names g.fit named g.chosen)
    ∙ reads g.given ∙ ap (λ (o : Options). Some (make o)) g.is

first_none : (a b : Bool) → (a || b) ≡ false → a ≡ false
first_none true b h = cc
first_none false b h = refl

names_begin : (names : List Word) → list_any is_option names ≡ false → BeginNamed names
names_begin [] h = tt
names_begin (word ∷ words) h = first_none (is_option word) (list_any is_option words) h

over_begin : (names : List Word) (last : Word) → list_any is_option names ≡ false → is_option last ≡ false → BeginNamed (names ++ last ∷ [])
over_begin [] last h k = k
over_begin (word ∷ words) last h k = first_none (is_option word) (list_any is_option words) h

files_read : (names : List Word) (last : Word) → AreDataFiles names → IsFileName last → data_and_query (names ++ last ∷ []) ≡ Some (names, last)
files_read names last files named =
    let parts = last_push names last in
    let none = files.1 in
    let count : are_data_names names ≡ true = files.0 in
    rw (parts, named, none, count) refl

over_read : (words : List Word) (word : Word) (options : Options) (files : List Word) (last : Word) (make : Options → Command) → SpellsOver words word options files last
    → ((given : Given) → command_from word given (files ++ last ∷ []) ≡ (data_and_query (files ++ last ∷ []) >>= λ n. over_query word (options_of given) n.0 n.1))
    → ((o : Options) → over_query word o files last ≡ Some (make o)) → command_of words ≡ Some (make options)
over_read words word options files last make s from makes =
    words_read words word options (files ++ last ∷ []) make s.0 (over_begin files last s.1.1 s.2)
    (λ given. from given ∙ ap (λ (o : Option (List Word × Word)). o >>= λ n. over_query word (options_of given) n.0 n.1) (files_read files last s.1 s.2) ∙ makes (options_of given))

-- words that spell a command are read as it
pub spelled_is_read : (words : List Word) (command : Command) → Spells words command → command_of words ≡ Some command
spelled_is_read words (Query options files last) s = over_read words (codes "query") options files last (λ o. Query o files last) s (λ given. refl) (λ o. refl)
spelled_is_read words (Show options files last) s = over_read words (codes "show") options files last (λ o. Show o files last) s (λ given. refl) (λ o. refl)
spelled_is_read words (Plan options files last) s = over_read words (codes "plan") options files last (λ o. Plan o files last) s (λ given. refl) (λ o. refl)
spelled_is_read words (Stats options files) s =
    words_read words (codes "stats") options files (λ o. Stats o files) s.0 (names_begin files s.1.1)
    (λ given. let none = s.1.1 in let count : are_data_names files ≡ true = s.1.0 in rw (none, count) refl)
spelled_is_read words (Drill options count seed) s =
    words_read words (codes "drill") options (decimal count ∷ decimal seed ∷ []) (λ o. Drill o count seed) s.0 (decimal_named count (omega (arith, s.1.1)))
    (λ given. let a = number_read 1 most_drill count (omega arith) s.1 in let b = number_read 0 4294967295 seed (omega arith) s.2 in rw (a, b) refl)
spelled_is_read words (Exec pieces file) s = by s.0
  where
    by : ((words ≡ codes "exec" ∷ file ∷ []) × (pieces ≡ 1)) ⊎ (words ≡ codes "exec" ∷ codes "--pieces" ∷ decimal pieces ∷ file ∷ []) → command_of words ≡ Some (Exec pieces file)
    by (inl (e, one)) =
        let named : is_option file ≡ false = s.2 in
        ap command_of e
        ∙ ap (λ (o : Option (Given × List Word)). o >>= λ split. command_from (codes "exec") split.0 split.1) (names_split none_given (file ∷ []) named)
        ∙ rw named refl ∙ ap (λ n. Some (Exec n file)) (sym one)
    by (inr e) =
        let named : is_option file ≡ false = s.2 in
        ap command_of e
        ∙ ap (λ (o : Option (Given × List Word)). o >>= λ split. command_from (codes "exec") split.0 split.1) (option_read none_given (some_pieces pieces) (file ∷ []) refl s.1 ∙ names_split (taken none_given (some_pieces pieces)) (file ∷ []) named)
        ∙ rw named refl

-- what is read is spelled

record Bound {A B : Type 0} (o : Option A) (f : A → Option B) (y : B) : Type 0 where
  value : A
  is : o ≡ Some value
  made : f value ≡ Some y

bound : {A B : Type 0} (o : Option A) (f : A → Option B) (y : B) → (o >>= f) ≡ Some y → Bound o f y
bound None f y h = let none : None ≡ Some y = h in cc
bound (Some x) f y h = record { value = x; is = refl; made = h }

value_chosen : {X : Type 0} (default : X) (chosen : List X) (new : Option X) → Slot None chosen new → IsChosen default chosen (unwrap_or new default)
value_chosen default chosen new (inl (e, k)) = inl (e, ap (λ o. unwrap_or o default) k)
value_chosen default chosen new (inr (x, free, e, k)) = inr (e ∙ ap (λ v. v ∷ []) (sym (ap (λ o. unwrap_or o default) k)))

or_default : {X : Type 0} (default : X) (P : X → Type 0) (o : Option X) → P default → IfSome o P → P (unwrap_or o default)
or_default default P None d f = d
or_default default P (Some x) d f = f

chosen_of : (rest : List Word) (new : Given) (names : List Word) (t : AreTaken none_given rest new names) → AreChosen t.choices (options_of new)
chosen_of rest new names t = record {
  columns = value_chosen 8 (flat_map columns_in t.choices) new.columns t.chosen.columns;
  reverse = value_chosen 8 (flat_map reverse_in t.choices) new.reverse t.chosen.reverse;
  hashes = value_chosen 2 (flat_map hashes_in t.choices) new.hashes t.chosen.hashes;
  pieces = value_chosen 1 (flat_map pieces_in t.choices) new.pieces t.chosen.pieces;
  layout = value_chosen Colour (flat_map layouts_in t.choices) new.layout t.chosen.layout;
  ranges = record {
    columns = or_default 8 (IsWithin 1 most_columns) new.columns (omega arith, omega arith) t.fit.columns;
    reverse = or_default 8 (IsWithin 1 most_columns) new.reverse (omega arith, omega arith) t.fit.reverse;
    hashes = or_default 2 (IsWithin 1 most_hashes) new.hashes (omega arith, omega arith) t.fit.hashes;
    pieces = or_default 1 (IsWithin 1 most_pieces) new.pieces (omega arith, omega arith) t.fit.pieces;
  };
  file = or_default Colour NamesFile new.layout tt t.fit.layout;
}

are_words : (word named : Word) (rest : List Word) (new : Given) (names names' : List Word) → bytes_eq word named ≡ true → names ≡ names' → AreTaken none_given rest new names → AreWords (word ∷ rest) named (options_of new) names'
are_words word named rest new names names' e n t = record {
  choices = t.choices;
  written = (λ i. (bytes_eq-Decides word named).0 e i ∷ t.words_are i) ∙ ap (λ (ns : List Word). named ∷ (flat_map option_words t.choices ++ ns)) n;
  chosen = chosen_of rest new names t;
}

data_names_are : (names files : List Word) → data_names names ≡ Some files → (names ≡ files) × AreDataFiles files
data_names_are names files h = by (cases_Bool (list_any is_option names)) (cases_Bool (are_data_names names))
  where
    by : (list_any is_option names ≡ true) ⊎ (list_any is_option names ≡ false) → (are_data_names names ≡ true) ⊎ (are_data_names names ≡ false) → (names ≡ files) × AreDataFiles files
    by (inl e) other = let none : None ≡ Some files = rw e at h in cc
    by (inr e) (inr f) = let none : None ≡ Some files = rw (e, f) at h in cc
    by (inr e) (inl f) =
        let some : Some names ≡ Some files = rw (e, f) at h in
        let same = same_Some names files some in
        (same, subst AreDataFiles same (f, e))

one_name_is : (names : List Word) (name : Word) → one_name names ≡ Some name → (names ≡ name ∷ []) × IsFileName name
one_name_is [] name h = cc
one_name_is (n ∷ m ∷ ns) name h = cc
one_name_is (n ∷ []) name h = by (cases_Bool (is_option n))
  where
    by : (is_option n ≡ true) ⊎ (is_option n ≡ false) → (n ∷ [] ≡ name ∷ []) × IsFileName name
    by (inl e) = let none : None ≡ Some name = rw e at h in cc
    by (inr e) =
        let some : Some n ≡ Some name = rw e at h in
        let same = same_Some n name some in
        (ap (λ w. w ∷ []) same, subst IsFileName same e)

two_numbers_are : (names : List Word) (p : ℕ × ℕ) → two_numbers names ≡ Some p → (names ≡ decimal p.0 ∷ decimal p.1 ∷ []) × IsWithin 1 most_drill p.0 × IsWithin 0 4294967295 p.1
two_numbers_are [] p h = cc
two_numbers_are (n ∷ []) p h = cc
two_numbers_are (n ∷ m ∷ k ∷ ns) p h = cc
two_numbers_are (n ∷ m ∷ []) p h =
    let a = bound (number_in 1 most_drill n) (λ x. number_in 0 4294967295 m >>= λ s. Some (x, s)) p h in
    let b = bound (number_in 0 4294967295 m) (λ s. Some (a.value, s)) p a.made in
    let c = number_spelled 1 most_drill a.value n (omega arith) a.is in
    let d = number_spelled 0 4294967295 b.value m (omega arith) b.is in
    subst (λ (q : ℕ × ℕ). (n ∷ m ∷ [] ≡ decimal q.0 ∷ decimal q.1 ∷ []) × IsWithin 1 most_drill q.0 × IsWithin 0 4294967295 q.1) (same_Some (a.value, b.value) p b.made)
    ((λ i. c.0 i ∷ d.0 i ∷ []), c.1, d.1)

record AreFiles (names : List Word) (p : List Word × Word) : Type 0 where
  names_are : names ≡ p.0 ++ p.1 ∷ []
  data_files : AreDataFiles p.0
  query_file : IsFileName p.1

files_are : (names : List Word) (p : List Word × Word) → data_and_query names ≡ Some p → AreFiles names p
files_are names p h =
    let l = bound (last_apart names) (λ n. cond (is_option n.1) None (data_names n.0 >>= λ d. Some (d, n.1))) p h in
    by l (cases_Bool (is_option l.value.1))
  where
    by : (l : Bound (last_apart names) (λ n. cond (is_option n.1) None (data_names n.0 >>= λ d. Some (d, n.1))) p) → (is_option l.value.1 ≡ true) ⊎ (is_option l.value.1 ≡ false) → AreFiles names p
    by l (inl e) = let none : None ≡ Some p = subst (λ q. cond q None (data_names l.value.0 >>= λ d. Some (d, l.value.1)) ≡ Some p) e l.made in cc
    by l (inr e) =
        let some : (data_names l.value.0 >>= λ d. Some (d, l.value.1)) ≡ Some p = subst (λ q. cond q None (data_names l.value.0 >>= λ d. Some (d, l.value.1)) ≡ Some p) e l.made in
        let b = bound (data_names l.value.0) (λ d. Some (d, l.value.1)) p some in
        let d = data_names_are l.value.0 b.value b.is in
        subst (AreFiles names) (same_Some (b.value, l.value.1) p b.made)
        (record { names_are = last_is names l.value l.is ∙ ap (λ (ws : List Word). ws ++ l.value.1 ∷ []) d.0; data_files = d.1; query_file = e })

-- pieces alone

none_of : {X : Type 0} (o : Option X) → is_none o ≡ true → o ≡ None
none_of None h = refl
none_of (Some x) h = cc

nothing_chosen : {X : Type 0} (chosen : List X) (new : Option X) → Slot None chosen new → new ≡ None → chosen ≡ []
nothing_chosen chosen new (inl (e, k)) n = e
nothing_chosen chosen new (inr (x, free, e, k)) n = let none : None ≡ Some x = sym n ∙ k in cc

pieces_only : (cs : List Choice) → flat_map columns_in cs ≡ [] → flat_map reverse_in cs ≡ [] → flat_map hashes_in cs ≡ [] → flat_map layouts_in cs ≡ [] → cs ≡ map some_pieces (flat_map pieces_in cs)
pieces_only [] a b c d = refl
pieces_only (direct_columns n ∷ cs) a b c d = cc
pieces_only (reverse_columns n ∷ cs) a b c d = cc
pieces_only (some_hashes n ∷ cs) a b c d = cc
pieces_only (some_layout l ∷ cs) a b c d = cc
pieces_only (some_pieces n ∷ cs) a b c d = ap (λ (ws : List Choice). some_pieces n ∷ ws) (pieces_only cs a b c d)

pieces_chosen : (cs : List Choice) (new : Given) → Chooses none_given cs new → only_pieces new ≡ true → cs ≡ map some_pieces (flat_map pieces_in cs)
pieces_chosen cs new h only =
    let a = none_of new.columns (first_so _ _ only) in
    let later = second_so (is_none new.columns) _ only in
    let b = none_of new.reverse (first_so _ _ later) in
    let last = second_so (is_none new.reverse) _ later in
    let c = none_of new.hashes (first_so _ _ last) in
    let d = none_of new.layout (second_so (is_none new.hashes) _ last) in
    pieces_only cs (nothing_chosen (flat_map columns_in cs) new.columns h.columns a) (nothing_chosen (flat_map reverse_in cs) new.reverse h.reverse b)
    (nothing_chosen (flat_map hashes_in cs) new.hashes h.hashes c) (nothing_chosen (flat_map layouts_in cs) new.layout h.layout d)

abbrev ExecWords : List Word → ℕ → Word → Type 0
ExecWords words pieces file = ((words ≡ codes "exec" ∷ file ∷ []) × (pieces ≡ 1)) ⊎ (words ≡ codes "exec" ∷ codes "--pieces" ∷ decimal pieces ∷ file ∷ [])

exec_words : (word : Word) (rest : List Word) (file : Word) (new : Given) (cs : List Choice) → word ≡ codes "exec" → rest ≡ flat_map option_words cs ++ file ∷ [] → cs ≡ map some_pieces (flat_map pieces_in cs)
    → Slot None (flat_map pieces_in cs) new.pieces → ExecWords (word ∷ rest) (unwrap_or new.pieces 1) file
exec_words word rest file new cs w r only (inl (e, k)) =
    let none : cs ≡ [] = only ∙ ap (map some_pieces) e in
    inl ((λ i. w i ∷ (r ∙ ap (λ (c : List Choice). flat_map option_words c ++ file ∷ []) none) i), ap (λ o. unwrap_or o 1) k)
exec_words word rest file new cs w r only (inr (x, free, e, k)) =
    let one : cs ≡ some_pieces x ∷ [] = only ∙ ap (map some_pieces) e in
    let pieces : unwrap_or new.pieces 1 ≡ x = ap (λ o. unwrap_or o 1) k in
    inr ((λ i. w i ∷ (r ∙ ap (λ (c : List Choice). flat_map option_words c ++ file ∷ []) one) i) ∙ ap (λ n. codes "exec" ∷ codes "--pieces" ∷ decimal n ∷ file ∷ []) (sym pieces))

module _ (word : Word) (rest names : List Word) (new : Given) (command : Command) (t : AreTaken none_given rest new names) where
  by_stats : bytes_eq word (codes "stats") ≡ true → (data_names names >>= λ d. Some (Stats (options_of new) d)) ≡ Some command → Spells (word ∷ rest) command
  by_stats e h =
      let b = bound (data_names names) (λ d. Some (Stats (options_of new) d)) command h in
      let d = data_names_are names b.value b.is in
      subst (Spells (word ∷ rest)) (same_Some (Stats (options_of new) b.value) command b.made) (are_words word (codes "stats") rest new names b.value e d.0 t, d.1)

  by_exec : bytes_eq word (codes "exec") ≡ true → exec_from new names ≡ Some command → Spells (word ∷ rest) command
  by_exec e h = by (cases_Bool (only_pieces new))
    where
      by : (only_pieces new ≡ true) ⊎ (only_pieces new ≡ false) → Spells (word ∷ rest) command
      by (inr f) = let none : None ≡ Some command = rw f at h in cc
      by (inl f) =
          let k : (one_name names >>= λ name. Some (Exec (unwrap_or new.pieces 1) name)) ≡ Some command = rw f at h in
          let b = bound (one_name names) (λ name. Some (Exec (unwrap_or new.pieces 1) name)) command k in
          let n = one_name_is names b.value b.is in
          let words = exec_words word rest b.value new t.choices ((bytes_eq-Decides word (codes "exec")).0 e) (t.words_are ∙ ap (λ (ns : List Word). flat_map option_words t.choices ++ ns) n.0) (pieces_chosen t.choices new t.chosen f) t.chosen.pieces in
          subst (Spells (word ∷ rest)) (same_Some (Exec (unwrap_or new.pieces 1) b.value) command b.made)
          (words, or_default 1 (IsWithin 1 most_pieces) new.pieces (omega arith, omega arith) t.fit.pieces, n.1)

  by_drill : bytes_eq word (codes "drill") ≡ true → (two_numbers names >>= λ n. Some (Drill (options_of new) n.0 n.1)) ≡ Some command → Spells (word ∷ rest) command
  by_drill e h =
      let b = bound (two_numbers names) (λ n. Some (Drill (options_of new) n.0 n.1)) command h in
      let n = two_numbers_are names b.value b.is in
      subst (Spells (word ∷ rest)) (same_Some (Drill (options_of new) b.value.0 b.value.1) command b.made)
      (are_words word (codes "drill") rest new names (decimal b.value.0 ∷ decimal b.value.1 ∷ []) e n.0 t, n.1, n.2)

  over : (named : Word) (p : List Word × Word) → bytes_eq word named ≡ true → AreFiles names p → SpellsOver (word ∷ rest) named (options_of new) p.0 p.1
  over named p e f = (are_words word named rest new names (p.0 ++ p.1 ∷ []) e f.names_are t, f.data_files, f.query_file)

  by_files : (data_and_query names >>= λ n. over_query word (options_of new) n.0 n.1) ≡ Some command → Spells (word ∷ rest) command
  by_files h =
      let b = bound (data_and_query names) (λ n. over_query word (options_of new) n.0 n.1) command h in
      by b.value (files_are names b.value b.is) b.made (cases_Bool (bytes_eq word (codes "query"))) (cases_Bool (bytes_eq word (codes "show"))) (cases_Bool (bytes_eq word (codes "plan")))
    where
      Test : Word → Type 0
      Test named = (bytes_eq word named ≡ true) ⊎ (bytes_eq word named ≡ false)

      by : (p : List Word × Word) → AreFiles names p → over_query word (options_of new) p.0 p.1 ≡ Some command → Test (codes "query") → Test (codes "show") → Test (codes "plan") → Spells (word ∷ rest) command
      by p f k (inl a) b c = let some : Some (Query (options_of new) p.0 p.1) ≡ Some command = rw a at k in subst (Spells (word ∷ rest)) (same_Some (Query (options_of new) p.0 p.1) command some) (over (codes "query") p a f)
      by p f k (inr a) (inl b) c = let some : Some (Show (options_of new) p.0 p.1) ≡ Some command = rw (a, b) at k in subst (Spells (word ∷ rest)) (same_Some (Show (options_of new) p.0 p.1) command some) (over (codes "show") p b f)
      by p f k (inr a) (inr b) (inl c) = let some : Some (Plan (options_of new) p.0 p.1) ≡ Some command = rw (a, b, c) at k in subst (Spells (word ∷ rest)) (same_Some (Plan (options_of new) p.0 p.1) command some) (over (codes "plan") p c f)
      by p f k (inr a) (inr b) (inr c) = let none : None ≡ Some command = rw (a, b, c) at k in cc

  from_spells : command_from word new names ≡ Some command → Spells (word ∷ rest) command
  from_spells h = by (cases_Bool (bytes_eq word (codes "stats"))) (cases_Bool (bytes_eq word (codes "exec"))) (cases_Bool (bytes_eq word (codes "drill")))
    where
      Test : Word → Type 0
      Test named = (bytes_eq word named ≡ true) ⊎ (bytes_eq word named ≡ false)

      by : Test (codes "stats") → Test (codes "exec") → Test (codes "drill") → Spells (word ∷ rest) command
      by (inl a) b c = by_stats a (rw a at h)
      by (inr a) (inl b) c = by_exec b (rw (a, b) at h)
      by (inr a) (inr b) (inl c) = by_drill c (rw (a, b, c) at h)
      by (inr a) (inr b) (inr c) = by_files (rw (a, b, c) at h)

none_fit : AreFit none_given
none_fit = record { columns = tt; reverse = tt; hashes = tt; pieces = tt; layout = tt }

-- words that are read as a command spell it
pub read_is_spelled : (words : List Word) (command : Command) → command_of words ≡ Some command → Spells words command
read_is_spelled [] command h = let none : None ≡ Some command = h in cc
read_is_spelled (word ∷ rest) command h =
    let b = bound (split_options none_given rest) (λ split. command_from word split.0 split.1) command h in
    from_spells word rest b.value.1 b.value.0 command (options_taken none_given b.value.0 rest b.value.1 none_fit b.is) b.made

-- words spell one command at most
pub one_command : (words : List Word) (a b : Command) → Spells words a → Spells words b → a ≡ b
one_command words a b s t = same_Some a b (sym (spelled_is_read words a s) ∙ spelled_is_read words b t)

told : (words : List Word) (command : Option Command) → command ≡ command_of words → IsCommandOf words command
told words (Some command) e = read_is_spelled words command (sym e)
told words None e = λ command s. let none : None ≡ Some command = e ∙ spelled_is_read words command s in cc

-- an answer that is exact is the command that the words spell
pub answer_told : {E : Type 0} (words : List Word) (answer : Result (Option Command) E) → IfOk answer (λ command. command ≡ command_of words) → IfOk answer (IsCommandOf words)
answer_told words (Ok command) e = told words command e
answer_told words (Err e) h = tt
