-- Places and rows that were read, while they are.
use Rattle.std.specs.Prelude.{◌≡◌, true, List, [], ◌∷◌, ◌++◌, Option, Some, None, is_some, refl}
use Rattle.std.proofs.Common.{ap, sym, ◌∙◌, subst, arith, append_assoc, ◌≤◌, ◌-◌, length, take, drop, get_or}
use Rattle.std.proofs.lemmas.List.{take_all}
use Rattle.rdf_meaning.specs.Terms.{RdfTerm}
use Rattle.query_eval_meaning.specs.Answer.{Row}
use Rattle.table_meaning.specs.declared.cell.Cell.{Cell}
use Rattle.sql_gen_answer_meaning.specs.Decode.{place_from, then_place, decode_places, decode_row, then_row, decode}

-- items in front of those that could be read
abbrev pub behind : {X : Type 0} → List X → Option (List X) → Option (List X)
behind front None = None
behind front (Some rest) = Some (front ++ rest)

-- these places were read, and these cells are left
pub record PlacesLeft (cells : List Cell) (front : Row) (rest : List Cell) : Type 0 where
  pub value : decode_places cells ≡ behind front (decode_places rest)
  pub reads : is_some (decode_places rest) ≡ true

-- these rows were read, and these are left
pub record RowsLeft (rows : List (List Cell)) (front : List Row) (rest : List (List Cell)) : Type 0 where
  pub value : decode rows ≡ behind front (decode rest)
  pub reads : is_some (decode rest) ≡ true

places-on : (front : Row) (x : Option RdfTerm) (rest : Option Row) → behind front (then_place (Some x) rest) ≡ behind (front ++ x ∷ []) rest
places-on front x None = refl
places-on front x (Some row) = ap (λ (r : Row). Some r) (sym (append_assoc front (x ∷ []) row))

rest-reads : (x : Option RdfTerm) (rest : Option Row) → is_some (then_place (Some x) rest) ≡ true → is_some rest ≡ true
rest-reads x None e = e
rest-reads x (Some row) e = refl

-- one more place
pub one-place : (cells : List Cell) (front : Row) (rest : List Cell) (class text aux : Cell) (others : List Cell) (x : Option RdfTerm) → PlacesLeft cells front rest → rest ≡ class ∷ text ∷ aux ∷ others → place_from class text aux ≡ Some x →
    PlacesLeft cells (front ++ x ∷ []) others
one-place cells front rest class text aux others x left split is =
    let read : decode_places rest ≡ then_place (Some x) (decode_places others) = ap decode_places split ∙ ap (λ (p : Option (Option RdfTerm)). then_place p (decode_places others)) is in
    record {
      value = left.value ∙ ap (behind front) read ∙ places-on front x (decode_places others);
      reads = rest-reads x (decode_places others) (subst (λ (r : Option Row). is_some r ≡ true) read left.reads);
    }

-- as a pattern of a slice tells it
pub one-place-at : (cells : List Cell) (front : Row) (rest : List Cell) (class text aux : Cell) (x : Option RdfTerm) → PlacesLeft cells front rest → 3 ≤ length rest →
    class ≡ get_or rest 0 class → text ≡ get_or rest 1 text → aux ≡ get_or rest 2 aux → place_from class text aux ≡ Some x → PlacesLeft cells (front ++ x ∷ []) (take (length rest - 3) (drop 3 rest))
one-place-at cells front [] class text aux x left l p q r is = absurd (omega arith)
one-place-at cells front (a ∷ []) class text aux x left l p q r is = absurd (omega arith)
one-place-at cells front (a ∷ b ∷ []) class text aux x left l p q r is = absurd (omega arith)
one-place-at cells front (a ∷ b ∷ c ∷ others) class text aux x left l p q r is =
    let here : place_from a b c ≡ Some x = ap (λ (y : Cell). place_from y b c) (sym p) ∙ ap (λ (y : Cell). place_from class y c) (sym q) ∙ ap (λ (y : Cell). place_from class text y) (sym r) ∙ is in
    let whole : take (length (a ∷ b ∷ c ∷ others) - 3) others ≡ others = take_all (length (a ∷ b ∷ c ∷ others) - 3) others (omega arith) in
    subst (PlacesLeft cells (front ++ x ∷ [])) (sym whole) (one-place cells front (a ∷ b ∷ c ∷ others) a b c others x left refl here)

rows-on : (front : List Row) (row : Row) (rest : Option (List Row)) → behind front (then_row (Some row) rest) ≡ behind (front ++ row ∷ []) rest
rows-on front row None = refl
rows-on front row (Some rows) = ap (λ (r : List Row). Some r) (sym (append_assoc front (row ∷ []) rows))

rest-rows : (row : Row) (rest : Option (List Row)) → is_some (then_row (Some row) rest) ≡ true → is_some rest ≡ true
rest-rows row None e = e
rest-rows row (Some rows) e = refl

-- one more row
pub one-row : (rows : List (List Cell)) (front : List Row) (rest : List (List Cell)) (cells : List Cell) (others : List (List Cell)) (row : Row) → RowsLeft rows front rest → rest ≡ cells ∷ others → decode_row cells ≡ Some row →
    RowsLeft rows (front ++ row ∷ []) others
one-row rows front rest cells others row left split is =
    let read : decode rest ≡ then_row (Some row) (decode others) = ap decode split ∙ ap (λ (r : Option Row). then_row r (decode others)) is in
    record {
      value = left.value ∙ ap (behind front) read ∙ rows-on front row (decode others);
      reads = rest-rows row (decode others) (subst (λ (r : Option (List Row)). is_some r ≡ true) read left.reads);
    }

-- the first row of those that could be read
pub first-reads : (rest : List (List Cell)) (cells : List Cell) (others : List (List Cell)) → is_some (decode rest) ≡ true → rest ≡ cells ∷ others → is_some (decode_row cells) ≡ true
first-reads rest cells others e split = go (decode_row cells) (decode others) (subst (λ (r : List (List Cell)). is_some (decode r) ≡ true) split e)
  where
    go : (row : Option Row) (rows : Option (List Row)) → is_some (then_row row rows) ≡ true → is_some row ≡ true
    go None rows h = h
    go (Some row) rows h = refl
