-- The groups that are open at once along a text are those that the grammar nests.
use Rattle.std.specs.Prelude.{◌≡◌, ℕ, ◌+◌, max, true, false, List, [], refl}
use Rattle.std.proofs.Common.{ap, ◌∙◌, arith}
use Rattle.std.proofs.lemmas.Bool.{false≢true}
use Rattle.grammar_meaning.specs.Grammar.{call, Node, Made, Reads}
use Rattle.sparql_meaning.specs.declared.token.Token.{Token}
use Rattle.sparql_grammar_meaning.specs.declared.lexeme.Sign.{Sign}
use Rattle.sparql_grammar_meaning.specs.declared.lexeme.Sign.TheVariants as s
use Rattle.sparql_grammar_meaning.specs.declared.lexeme.Lexeme.{Lexeme}
use Rattle.sparql_grammar_meaning.specs.declared.lexeme.Lexeme.TheVariants as l
use Rattle.sparql_grammar_meaning.specs.Grammar.{Kind, sign, Symbol, Query_, Group_, Other_, Triples_}
use Rattle.sparql_query_meaning.specs.Lexemes.{lexemes}
use Rattle.sparql_query_meaning.specs.Limits.{one_if, nothing_yet}
use Rattle.sparql_walk_laws.specs.Shapes.{Leaves, leaf_sign, leaf_variable, Shape, symbol, both, several, word, maybe, shape}
use Rattle.sparql_walk_laws.specs.Walks.{making, Walks, walk_token, walk_symbol, walk_both, walked}
use Rattle.sparql_query_laws.specs.Pace.{no_brace}
use Rattle.sparql_query_laws.specs.Counts.{fits, any_symbol, level_leaf}
use Rattle.sparql_nesting_laws.specs.Nesting.{opens_group, begins_with, nesting, group_depth, groups_reached}
use Rattle.sparql_nesting_laws.proofs.Spots.{Spot, left, groups_from, Moved, step, ended, least}
use Rattle.sparql_nesting_laws.proofs.Kept.{unopened, kept}

-- what is opened is closed again, and so many groups are open in between beside those that are open here
pub record Nests (c d : Spot) (n : ℕ) : Type 0 where
  pub level : d.state.groups ≡ c.state.groups
  pub most : max c.state.groups (groups_from c) ≡ max (c.state.groups + n) (groups_from d)

pub data Owes (y : Symbol) (c d : Spot) (n : ℕ) : Type 0 where
  owes : Nests c d n → Owes y c d n

abbrev W : Shape → Spot → Spot → Node Lexeme ℕ → Type 0
W f c d m = Walks Moved Owes f c d m

shut_sign : (a : Sign) → no_brace (sign a) ≡ true → opens_group (l.Sign a) ≡ false
shut_sign s.OpenBrace h = absurd (false≢true h)
shut_sign a h = refl

pub shut_leaf : (a : Kind) (x : Lexeme) → Leaves a x → no_brace a ≡ true → opens_group x ≡ false
shut_leaf a x (leaf_sign {a = b}) h = shut_sign b h
shut_leaf a x leaf_variable h = refl
shut_leaf a x y h = refl

nests_here : (c : Spot) → Nests c c 0
nests_here c = record { level = refl; most = omega arith }

nests_more : (c d e : Spot) (n m : ℕ) → Nests c d n → Nests d e m → Nests c e (max n m)
nests_more c d e n m h k =
    let level = h.level in
    let first = h.most in
    let second = k.most in
    record { level = k.level ∙ h.level; most = omega (arith, level, first, second) }

nests_step : (a : Kind) (c d : Spot) (x : Lexeme) → Leaves a x → no_brace a ≡ true → Moved c x d → Nests c d 0
nests_step a c d x y h m = let opened = m.opened in record { level = m.groups ∙ level_leaf a x y h c.state.groups; most = omega (arith, opened) }

nests_owed : (z : Symbol) (c d : Spot) (n : ℕ) → any_symbol z ≡ true → Owes z c d n → Nests c d n
nests_owed z c d n e (owes h) = h

flat : (f : Shape) (c d : Spot) (m : Node Lexeme ℕ) → fits no_brace any_symbol f ≡ true → W f c d m → Nests c d (nesting opens_group m)
flat = kept opens_group Owes no_brace any_symbol shut_leaf Nests nests_here nests_more nests_step nests_owed

begun : (f : Shape) (c d : Spot) (m : Node Lexeme ℕ) → fits no_brace any_symbol f ≡ true → W f c d m → one_if (begins_with opens_group m) ≡ 0
begun f c d m e h = ap one_if (unopened opens_group Owes no_brace any_symbol shut_leaf f c d m e h)

group_nests : (c d : Spot) (m : Node Lexeme ℕ) → W (shape Group_) c d m → Nests c d (nesting opens_group m)
group_nests c d m (walk_both {d = a} (walk_token leaf_sign h) (walk_both {d = b} {n = ps} i (walk_both {d = e} {n = es} j (walk_token leaf_sign q)))) =
    let x = flat (maybe (symbol Triples_)) a b ps refl i in
    let y = flat (several (both (symbol Other_) (both (maybe (word s.Dot)) (maybe (symbol Triples_))))) b e es refl j in
    let z = nests_more a b e (nesting opens_group ps) (nesting opens_group es) x y in
    let x0 = begun (maybe (symbol Triples_)) a b ps refl i in
    let y0 = begun (several (both (symbol Other_) (both (maybe (word s.Dot)) (maybe (symbol Triples_))))) b e es refl j in
    let opened = h.opened in
    let one = h.groups in
    let closed = q.opened in
    let none = q.groups in
    let level = z.level in
    let most = z.most in
    let few = least a in
    record { level = omega (arith, one, none, level); most = omega (arith, opened, one, closed, none, level, most, few, x0, y0) }

nests_of : (y : Symbol) (c d : Spot) (m : Node Lexeme ℕ) → W (shape y) c d m → Nests c d (nesting opens_group m)
nests_of Group_ c d m h = group_nests c d m h
nests_of Query_ c d m h = flat (shape Query_) c d m refl h
nests_of y c d m h = flat (shape y) c d m refl h

keeps : (y : Symbol) (c d : Spot) (m : Node Lexeme ℕ) → W (shape y) c d m → Owes y c d (group_depth y m)
keeps y c d m h = owes (nests_of y c d m h)

whole : (c d : Spot) (n : ℕ) → c.state.groups ≡ 0 → left d ≡ [] → W (symbol Query_) c d (Made n) → n ≡ groups_from c
whole c d n none rest (walk_symbol (owes h)) =
    let last : groups_from d ≡ d.state.groups = ap (groups_reached d.state) (ended d rest) in
    let level = h.level in
    let most = h.most in
    omega (arith, none, last, level, most)

pub groups_only : (ts : List Token) (n : ℕ) → Reads (making group_depth) (call Query_) (lexemes ts) (Made n) [] → n ≡ groups_reached nothing_yet ts
groups_only ts n r =
    let start : Spot = record { state = nothing_yet; tokens = ts } in
    let all = walked group_depth Moved Owes left step keeps Query_ start [] (Made n) r in
    whole start all.to n refl all.rest all.walk
