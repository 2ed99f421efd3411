-- The kinds of tokens that the grammar tells apart.
use Rattle.std.proofs.Common.{Bool, false, IsTrue, ℕ, ℤ, pos, negsuc, List, [], ◌∷◌, ◌≡◌, refl, nat_eq, Some, if◌then◌else◌}
use Rattle.std.specs.Prelude.{nat_lt}
use Rattle.grammar_meaning.specs.Outcome.{or, every_of, at}
use Rattle.grammar_meaning.specs.Laws.{every_at}
use Rattle.sql_meaning.specs.Marks.{mark_code}
use Rattle.sql_meaning.specs.declared.token.Mark.{Mark}
use Rattle.sql_meaning.specs.declared.token.Mark.TheVariants.{With, As, Union, All, Select, Distinct, From, Where, Order, By, Limit, Offset, Join, Left, On, Desc, True, False, Cast, Null, Int, Text, Truth, And, Or, Not, Is, Case, When, Then, Else, End, Coalesce, Open, Close, Comma, Dot, Equal, Less}
use Rattle.sql_meaning.specs.declared.token.Token.{Token}
use Rattle.sql_meaning.specs.declared.token.Token.TheVariants as t

-- a count is a number of up to 18 digits
pub data Kind : Type 0 where
  a_mark : Mark → Kind
  a_name : Kind
  a_count : Kind
  an_int : Kind
  a_text : Kind
  broken : Kind

abbrev pub is_count : ℤ → Bool
is_count (pos n) = nat_lt n 1000000000000000000
is_count (negsuc n) = false

abbrev pub kind : Token → Kind
kind (t.Mark m) = a_mark m
kind (t.Name s) = a_name
kind (t.Int n) = if is_count n then a_count else an_int
kind (t.Text s) = a_text
kind t.Broken = broken

abbrev pub code : Kind → ℕ
code (a_mark m) = mark_code m
code a_name = 39
code a_count = 40
code an_int = 41
code a_text = 42
code broken = 43

abbrev pub is : Kind → Kind → Bool
is a b = nat_eq (code a) (code b)

abbrev pub among : List Kind → Kind → Bool
among [] b = false
among (a ∷ rest) b = or (is a b) (among rest b)

abbrev pub kinds : List Kind
kinds = a_mark With ∷ a_mark As ∷ a_mark Union ∷ a_mark All ∷ a_mark Select ∷ a_mark Distinct ∷ a_mark From ∷ a_mark Where ∷ a_mark Order ∷ a_mark By ∷ a_mark Limit ∷ a_mark Offset ∷ a_mark Join ∷ a_mark Left ∷ a_mark On ∷ a_mark Desc ∷ a_mark True ∷ a_mark False ∷ a_mark Cast ∷ a_mark Null ∷ a_mark Int ∷ a_mark Text ∷ a_mark Truth ∷ a_mark And ∷ a_mark Or ∷ a_mark Not ∷ a_mark Is ∷ a_mark Case ∷ a_mark When ∷ a_mark Then ∷ a_mark Else ∷ a_mark End ∷ a_mark Coalesce ∷ a_mark Open ∷ a_mark Close ∷ a_mark Comma ∷ a_mark Dot ∷ a_mark Equal ∷ a_mark Less ∷ a_name ∷ a_count ∷ an_int ∷ a_text ∷ broken ∷ []

pub listed : (a : Kind) → at kinds (code a) ≡ Some a
listed (a_mark With) = refl
listed (a_mark As) = refl
listed (a_mark Union) = refl
listed (a_mark All) = refl
listed (a_mark Select) = refl
listed (a_mark Distinct) = refl
listed (a_mark From) = refl
listed (a_mark Where) = refl
listed (a_mark Order) = refl
listed (a_mark By) = refl
listed (a_mark Limit) = refl
listed (a_mark Offset) = refl
listed (a_mark Join) = refl
listed (a_mark Left) = refl
listed (a_mark On) = refl
listed (a_mark Desc) = refl
listed (a_mark True) = refl
listed (a_mark False) = refl
listed (a_mark Cast) = refl
listed (a_mark Null) = refl
listed (a_mark Int) = refl
listed (a_mark Text) = refl
listed (a_mark Truth) = refl
listed (a_mark And) = refl
listed (a_mark Or) = refl
listed (a_mark Not) = refl
listed (a_mark Is) = refl
listed (a_mark Case) = refl
listed (a_mark When) = refl
listed (a_mark Then) = refl
listed (a_mark Else) = refl
listed (a_mark End) = refl
listed (a_mark Coalesce) = refl
listed (a_mark Open) = refl
listed (a_mark Close) = refl
listed (a_mark Comma) = refl
listed (a_mark Dot) = refl
listed (a_mark Equal) = refl
listed (a_mark Less) = refl
listed a_name = refl
listed a_count = refl
listed an_int = refl
listed a_text = refl
listed broken = refl

pub each : (p : Kind → Bool) → IsTrue (every_of kinds p) → (a : Kind) → IsTrue (p a)
each p h a = every_at p kinds (code a) a (listed a) h
