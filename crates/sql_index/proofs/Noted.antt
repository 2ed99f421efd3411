-- One row more under its cell.
use Rattle.std.proofs.Common.{◌≡◌, ℕ, ℤ, pos, negsuc, Bool, true, false, List, [], ◌∷◌, ◌++◌, if◌then◌else◌, nat_eq, refl, sym, ap, ◌∙◌, append-nil, arith, Result, Ok, Err, OnOk}
use Rattle.std.specs.Str.{bytes_eq}
use Rattle.std.specs.Ordering.{int_eq}
use Rattle.std.proofs.lemmas.Slice.Eq.{bytes_eq-Decides}
use Rattle.std.proofs.lemmas.Bool.Decides.{Decides-eqb, Decides-int_eq}
use Rattle.table_meaning.specs.declared.cell.Cell.{Cell}
use Rattle.table_meaning.specs.declared.cell.Cell.TheVariants.{Null, Int, Text, Truth}
use Rattle.sql_index.specs.Matches.{is_equal}
use Rattle.sql_index.specs.Found.{number_code, found_by}

same_bool : (a b : Bool) → (a ≡ true → b ≡ true) → (b ≡ true → a ≡ true) → a ≡ b
same_bool true b f g = sym (f refl)
same_bool false true f g = g refl
same_bool false false f g = refl

one_code : (x y : ℤ) → number_code x ≡ number_code y → x ≡ y
one_code (pos a) (pos b) h = ap pos (omega (arith, h))
one_code (pos a) (negsuc b) h = absurd (omega (arith, h))
one_code (negsuc a) (pos b) h = absurd (omega (arith, h))
one_code (negsuc a) (negsuc b) h = ap negsuc (omega (arith, h))

codes_equal : (key x : ℤ) → nat_eq (number_code key) (number_code x) ≡ int_eq x key
codes_equal key x =
    same_bool (nat_eq (number_code key) (number_code x)) (int_eq x key)
    (λ e. (Decides-int_eq x key).1 (sym (one_code key x ((Decides-eqb (number_code key) (number_code x)).0 e))))
    (λ e. (Decides-eqb (number_code key) (number_code x)).1 (ap number_code (sym ((Decides-int_eq x key).0 e))))

texts_equal : (key x : List ℕ) → bytes_eq key x ≡ bytes_eq x key
texts_equal key x =
    same_bool (bytes_eq key x) (bytes_eq x key)
    (λ e. (bytes_eq-Decides x key).1 (sym ((bytes_eq-Decides key x).0 e)))
    (λ e. (bytes_eq-Decides key x).1 (sym ((bytes_eq-Decides x key).0 e)))

same : (rows : List ℕ) → rows ≡ rows ++ []
same rows = sym (append-nil rows)

module _ (numbers : ℕ → List ℕ) (texts : List ℕ → List ℕ) (trues falses : List ℕ) (row : ℕ) where
  pub noted_null : (key : Cell) → found_by numbers texts trues falses key ≡ found_by numbers texts trues falses key ++ (if is_equal key Null then row ∷ [] else [])
  noted_null key = same (found_by numbers texts trues falses key)

  pub noted_number : (numbers' : ℕ → List ℕ) (x : ℤ) (code : ℕ) → code ≡ number_code x → ((q : ℕ) → numbers' q ≡ numbers q ++ (if nat_eq q code then row ∷ [] else []))
      → (key : Cell) → found_by numbers' texts trues falses key ≡ found_by numbers texts trues falses key ++ (if is_equal key (Int x) then row ∷ [] else [])
  noted_number numbers' x code is h Null = refl
  noted_number numbers' x code is h (Int n) =
      h (number_code n) ∙ ap (λ (c : ℕ). numbers (number_code n) ++ (if nat_eq (number_code n) c then row ∷ [] else [])) is
      ∙ ap (λ (b : Bool). numbers (number_code n) ++ (if b then row ∷ [] else [])) (codes_equal n x)
  noted_number numbers' x code is h (Text t) = same (texts t)
  noted_number numbers' x code is h (Truth true) = same trues
  noted_number numbers' x code is h (Truth false) = same falses

  pub noted_text : (texts' : List ℕ → List ℕ) (x : List ℕ) → ((q : List ℕ) → texts' q ≡ texts q ++ (if bytes_eq q x then row ∷ [] else []))
      → (key : Cell) → found_by numbers texts' trues falses key ≡ found_by numbers texts trues falses key ++ (if is_equal key (Text x) then row ∷ [] else [])
  noted_text texts' x h Null = refl
  noted_text texts' x h (Int n) = same (numbers (number_code n))
  noted_text texts' x h (Text t) = h t ∙ ap (λ (b : Bool). texts t ++ (if b then row ∷ [] else [])) (texts_equal t x)
  noted_text texts' x h (Truth true) = same trues
  noted_text texts' x h (Truth false) = same falses

  pub noted_yes : (trues' : List ℕ) → trues' ≡ trues ++ row ∷ [] → (key : Cell) → found_by numbers texts trues' falses key ≡ found_by numbers texts trues falses key ++ (if is_equal key (Truth true) then row ∷ [] else [])
  noted_yes trues' h Null = refl
  noted_yes trues' h (Int n) = same (numbers (number_code n))
  noted_yes trues' h (Text t) = same (texts t)
  noted_yes trues' h (Truth true) = h
  noted_yes trues' h (Truth false) = same falses

  pub noted_no : (falses' : List ℕ) → falses' ≡ falses ++ row ∷ [] → (key : Cell) → found_by numbers texts trues falses' key ≡ found_by numbers texts trues falses key ++ (if is_equal key (Truth false) then row ∷ [] else [])
  noted_no falses' h Null = refl
  noted_no falses' h (Int n) = same (numbers (number_code n))
  noted_no falses' h (Text t) = same (texts t)
  noted_no falses' h (Truth true) = same trues
  noted_no falses' h (Truth false) = h

pub on_ok : {X E A B : Type 0} (r : Result X E) → (A → B) → OnOk r A → OnOk r B
on_ok (Ok x) f h = f h
on_ok (Err e) f h = tt
