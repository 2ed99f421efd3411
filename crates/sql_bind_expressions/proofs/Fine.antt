-- Lists of checks, one by one.
use Rattle.std.proofs.Common.{◌≡◌, ℕ, zero, suc, ◌+◌, ◌<◌, List, [], ◌∷◌, ◌++◌, map, length, take, drop, get_or, Ok, Err, refl, sym, ap, ◌∙◌, arith}
use Rattle.std.proofs.lemmas.List.{take_more, map-append}
use Rattle.sql_rows_meaning.specs.Faults.{Checked, and_then, all_fine}

module _ {F Y : Type 0} where
  whole : (c : Checked F (List Y)) → c ≡ and_then c (λ ys. Ok ys)
  whole (Ok ys) = refl
  whole (Err e) = refl

  joined : (x : Y) (a b : Checked F (List Y)) → and_then (and_then a (λ xs. and_then b (λ ys. Ok (xs ++ ys)))) (λ zs. Ok (x ∷ zs)) ≡ and_then (and_then a (λ xs. Ok (x ∷ xs))) (λ xs. and_then b (λ ys. Ok (xs ++ ys)))
  joined x (Ok xs) (Ok ys) = refl
  joined x (Ok xs) (Err e) = refl
  joined x (Err e) b = refl

  fine-append : (cs ds : List (Checked F Y)) → all_fine (cs ++ ds) ≡ and_then (all_fine cs) (λ xs. and_then (all_fine ds) (λ ys. Ok (xs ++ ys)))
  fine-append [] ds = whole (all_fine ds)
  fine-append (Err e ∷ cs) ds = refl
  fine-append (Ok x ∷ cs) ds = ap (λ (c : Checked F (List Y)). and_then c (λ zs. Ok (x ∷ zs))) (fine-append cs ds) ∙ joined x (all_fine cs) (all_fine ds)

module _ {X : Type 0} where
  split : (all : List X) (i : ℕ) (x : X) → i < length all → x ≡ get_or all i x → all ≡ take i all ++ x ∷ drop (suc i) all
  split [] i x within is = absurd (omega arith)
  split (a ∷ all) zero x within is = ap (λ (y : X). y ∷ all) (sym is)
  split (a ∷ all) (suc i) x within is = ap (λ (l : List X). a ∷ l) (split all i x (omega arith) is)

module _ {F X Y : Type 0} where
  -- one more is fine
  pub fine_more : (f : X → Checked F Y) (all : List X) (i : ℕ) (x : X) (ys : List Y) (y : Y) → i < length all → x ≡ get_or all i x → all_fine (map f (take i all)) ≡ Ok ys → f x ≡ Ok y →
      all_fine (map f (take (i + 1) all)) ≡ Ok (ys ++ y ∷ [])
  fine_more f all i x ys y within is was now =
      let taken : take (i + 1) all ≡ take i all ++ x ∷ [] = take_more all i x within ∙ ap (λ (z : X). take i all ++ z ∷ []) (sym is) in
      ap (λ (l : List X). all_fine (map f l)) taken ∙ ap all_fine (map-append f (take i all) (x ∷ [])) ∙ fine-append (map f (take i all)) (f x ∷ [])
      ∙ ap (λ (c : Checked F (List Y)). and_then c (λ xs. and_then (all_fine (f x ∷ [])) (λ ys. Ok (xs ++ ys)))) was
      ∙ ap (λ (c : Checked F Y). and_then (all_fine (c ∷ [])) (λ zs. Ok (ys ++ zs))) now

  -- the first that isn't fine is answered
  pub fine_stops : (f : X → Checked F Y) (all : List X) (i : ℕ) (x : X) (ys : List Y) (e : F) → i < length all → x ≡ get_or all i x → all_fine (map f (take i all)) ≡ Ok ys → f x ≡ Err e → all_fine (map f all) ≡ Err e
  fine_stops f all i x ys e within is was now =
      ap (λ (l : List X). all_fine (map f l)) (split all i x within is) ∙ ap all_fine (map-append f (take i all) (x ∷ drop (suc i) all)) ∙ fine-append (map f (take i all)) (f x ∷ map f (drop (suc i) all))
      ∙ ap (λ (c : Checked F (List Y)). and_then c (λ xs. and_then (all_fine (f x ∷ map f (drop (suc i) all))) (λ ys. Ok (xs ++ ys)))) was
      ∙ ap (λ (c : Checked F Y). and_then (all_fine (c ∷ map f (drop (suc i) all))) (λ zs. Ok (ys ++ zs))) now

module _ {X Y : Type 0} where
  pub map_more : (g : X → Y) (all : List X) (i : ℕ) (x : X) → i < length all → x ≡ get_or all i x → map g (take (i + 1) all) ≡ map g (take i all) ++ g x ∷ []
  map_more g all i x within is =
      let taken : take (i + 1) all ≡ take i all ++ x ∷ [] = take_more all i x within ∙ ap (λ (z : X). take i all ++ z ∷ []) (sym is) in
      ap (map g) taken ∙ map-append g (take i all) (x ∷ [])
