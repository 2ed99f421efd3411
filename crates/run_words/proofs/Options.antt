-- One option in front of the words, and the last name behind them.
use Rattle.std.proofs.Common.{◌≡◌, true, false, List, [], ◌∷◌, ◌++◌, map, refl, sym, ◌∙◌, ap}
use Rattle.std.specs.Prelude.{Option, Some}
use Rattle.std.specs.List.{list_any}
use Rattle.std.proofs.lemmas.List.{map-append}
use Rattle.run_meaning.specs.Words.{Word, Given, is_option, with_option, split_options, last_apart}
use Rattle.run_command_laws.proofs.Spelled.{last_push}

option_first : (given more : Given) (word value : Word) (others : List Word) → is_option word ≡ true → with_option given word value ≡ Some more
    → split_options given (word ∷ value ∷ others) ≡ split_options more others
option_first given more word value others o w = rw (o, w) refl

pub next_option : {S : Type 0} (bytes : S → Word) (rest behind others : List S) (word value : S) (given more : Given) (all : Option (Given × List Word))
    → rest ≡ word ∷ behind → behind ≡ value ∷ others → is_option (bytes word) ≡ true → with_option given (bytes word) (bytes value) ≡ Some more
    → split_options given (map bytes rest) ≡ all → split_options more (map bytes others) ≡ all
next_option bytes rest behind others word value given more all r b o w h =
    sym (option_first given more (bytes word) (bytes value) (map bytes others) o w)
    ∙ sym (ap (λ l. split_options given (map bytes l)) (r ∙ ap (λ l. word ∷ l) b))
    ∙ h

pub first_option : {S : Type 0} (bytes : S → Word) (rest behind : List S) (word : S) → rest ≡ word ∷ behind → is_option (bytes word) ≡ true → list_any is_option (map bytes rest) ≡ true
first_option bytes rest behind word r o = ap (λ l. list_any is_option (map bytes l)) r ∙ rw o refl

pub later_option : {S : Type 0} (bytes : S → Word) (rest behind : List S) (word : S) → rest ≡ word ∷ behind → is_option (bytes word) ≡ false → list_any is_option (map bytes rest) ≡ list_any is_option (map bytes behind)
later_option bytes rest behind word r o = ap (λ l. list_any is_option (map bytes l)) r ∙ rw o refl

pub last_named : {S : Type 0} (bytes : S → Word) (names front : List S) (last : S) → names ≡ front ++ last ∷ [] → last_apart (map bytes names) ≡ Some (map bytes front, bytes last)
last_named bytes names front last e =
    ap (λ l. last_apart (map bytes l)) e ∙ ap last_apart (map-append bytes front (last ∷ [])) ∙ last_push (map bytes front) (bytes last)
