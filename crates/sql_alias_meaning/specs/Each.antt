-- Two lists whose members stand in a relation, one by one, and what a walk keeps (this project's own).
use Rattle.std.specs.Prelude.{List, [], ◌∷◌, Option, Some, None}

pub data Each {A B : Type 0} (R : A → B → Type 0) : List A → List B → Type 0 where
  none : Each R [] []
  next : {x : A} {y : B} {xs : List A} {ys : List B} → R x y → Each R xs ys → Each R (x ∷ xs) (y ∷ ys)

-- both are none, or both are there and stand in the relation
abbrev pub EachOption : {A B : Type 0} → (A → B → Type 0) → Option A → Option B → Type 0
EachOption R None None = Unit {0}
EachOption R None (Some y) = ⊥
EachOption R (Some x) None = ⊥
EachOption R (Some x) (Some y) = R x y

-- a later state of a visitor takes the nodes that it took, and outs mean what they meant
pub record Keeps {Node Given : Type 0} (fits fits' : Node → Type 0) (stands stands' : Given → Type 0) : Type 0 where
  pub takes : (n : Node) → fits n → fits' n
  pub means : (x : Given) → stands x → stands' x
  pub meant : (x : Given) → stands' x → stands x
