-- Capital words and signs, and how they are written.
use Rattle.std.specs.Prelude.{if◌then◌else◌, List, [], ◌∷◌, ℕ, codes, Option, Some, None, bytes_eq}
use Rattle.sql_meaning.specs.declared.token.Mark.{Mark}
use Rattle.sql_meaning.specs.declared.token.Mark.TheVariants.{With, As, Union, All, Select, Distinct, From, Where, Order, By, Limit, Offset, Join, Left, On, Desc, True, False, Cast, Null, Int, Text, Truth, And, Or, Not, Is, Case, When, Then, Else, End, Coalesce, Open, Close, Comma, Dot, Equal, Less}

abbrev pub mark_code : Mark → ℕ
mark_code With = 0
mark_code As = 1
mark_code Union = 2
mark_code All = 3
mark_code Select = 4
mark_code Distinct = 5
mark_code From = 6
mark_code Where = 7
mark_code Order = 8
mark_code By = 9
mark_code Limit = 10
mark_code Offset = 11
mark_code Join = 12
mark_code Left = 13
mark_code On = 14
mark_code Desc = 15
mark_code True = 16
mark_code False = 17
mark_code Cast = 18
mark_code Null = 19
mark_code Int = 20
mark_code Text = 21
mark_code Truth = 22
mark_code And = 23
mark_code Or = 24
mark_code Not = 25
mark_code Is = 26
mark_code Case = 27
mark_code When = 28
mark_code Then = 29
mark_code Else = 30
mark_code End = 31
mark_code Coalesce = 32
mark_code Open = 33
mark_code Close = 34
mark_code Comma = 35
mark_code Dot = 36
mark_code Equal = 37
mark_code Less = 38

abbrev pub words : List Mark
words = With ∷ As ∷ Union ∷ All ∷ Select ∷ Distinct ∷ From ∷ Where ∷ Order ∷ By ∷ Limit ∷ Offset ∷ Join ∷ Left ∷ On ∷ Desc ∷ True ∷ False ∷ Cast ∷ Null ∷ Int ∷ Text ∷ Truth ∷ And ∷ Or ∷ Not ∷ Is ∷ Case ∷ When ∷ Then ∷ Else ∷ End ∷ Coalesce ∷ []

abbrev pub signs : List Mark
signs = Open ∷ Close ∷ Comma ∷ Dot ∷ Equal ∷ Less ∷ []

-- the bytes of a capital word or a sign
abbrev pub mark_bytes : Mark → List ℕ
mark_bytes With = codes "WITH"
mark_bytes As = codes "AS"
mark_bytes Union = codes "UNION"
mark_bytes All = codes "ALL"
mark_bytes Select = codes "SELECT"
mark_bytes Distinct = codes "DISTINCT"
mark_bytes From = codes "FROM"
mark_bytes Where = codes "WHERE"
mark_bytes Order = codes "ORDER"
mark_bytes By = codes "BY"
mark_bytes Limit = codes "LIMIT"
mark_bytes Offset = codes "OFFSET"
mark_bytes Join = codes "JOIN"
mark_bytes Left = codes "LEFT"
mark_bytes On = codes "ON"
mark_bytes Desc = codes "DESC"
mark_bytes True = codes "TRUE"
mark_bytes False = codes "FALSE"
mark_bytes Cast = codes "CAST"
mark_bytes Null = codes "NULL"
mark_bytes Int = codes "INT"
mark_bytes Text = codes "TEXT"
mark_bytes Truth = codes "TRUTH"
mark_bytes And = codes "AND"
mark_bytes Or = codes "OR"
mark_bytes Not = codes "NOT"
mark_bytes Is = codes "IS"
mark_bytes Case = codes "CASE"
mark_bytes When = codes "WHEN"
mark_bytes Then = codes "THEN"
mark_bytes Else = codes "ELSE"
mark_bytes End = codes "END"
mark_bytes Coalesce = codes "COALESCE"
mark_bytes Open = codes "("
mark_bytes Close = codes ")"
mark_bytes Comma = codes ","
mark_bytes Dot = codes "."
mark_bytes Equal = codes "="
mark_bytes Less = codes "<"

-- the mark of a list that is written so
abbrev pub mark_among : List Mark → List ℕ → Option Mark
mark_among [] bs = None
mark_among (m ∷ ms) bs = if bytes_eq (mark_bytes m) bs then Some m else mark_among ms bs

-- the capital word with these bytes
abbrev pub word_of : List ℕ → Option Mark
word_of bs = mark_among words bs

-- the sign that is this byte
abbrev pub sign_of : ℕ → Option Mark
sign_of b = mark_among signs (b ∷ [])
