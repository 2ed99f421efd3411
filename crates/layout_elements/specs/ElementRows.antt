-- Lists by their numbers, and the rows of their elements.
use Rattle.std.specs.Prelude.{ℕ, ◌<◌, ◌^◌, pos, List, [], ◌∷◌, Option, None, Some}
use Rattle.table_meaning.specs.declared.cell.Cell.{Cell}
use Rattle.table_meaning.specs.declared.cell.Cell.TheVariants.{Int}
use Rattle.layout_meaning.specs.declared.value.Value.{Value}
use Rattle.layout_meaning.specs.declared.value.Value.TheVariants.{One, Many}
use Rattle.layout_meaning.specs.Side.{Pair}
use Rattle.layout_meaning.specs.Lists.{ListsOf}
use Rattle.value_lists.specs.Answers.{HasNumber}
use Rattle.layout_elements.specs.declared.in_order.Element.{Element}

-- the number of a list
abbrev pub many_of : Value → Option ℕ
many_of (One v) = None
many_of (Many n) = Some n

-- the number of the list that a pair names
abbrev pub named_list : Option Pair → Option ℕ
named_list None = None
named_list (Some p) = many_of p.value

-- the row of an element
abbrev pub element_row : Element → List Cell
element_row e = Int e.list ∷ Int (pos e.value) ∷ []

-- a list with this number is there, and its id has 64 bits
pub record IsListNumber (l : ListsOf) (n : ℕ) : Type 0 where
  pub there : HasNumber l n
  pub below : n < 2 ^ 62
