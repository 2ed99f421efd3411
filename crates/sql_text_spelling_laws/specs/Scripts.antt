-- The pieces of scripts.
use Rattle.std.specs.Prelude.{Bool, true, false, ◌&&◌, nat_le, nat_lt, ◌^◌, List, [], ◌∷◌, ◌++◌, ℕ, pos, codes, map, length, Option, Some, None, IsTrue}
use Rattle.std.specs.Cmp.{first_so, second_so}
use Rattle.std.proofs.Common.{◌≡◌, ◌∙◌, sym, ap, refl, arith, append_assoc, append-nil}
use Rattle.table_meaning.specs.Ints.{int_text}
use Rattle.table_meaning.specs.Names.{is_name}
use Rattle.sql_meaning.specs.Marks.{mark_bytes}
use Rattle.sql_meaning.specs.Canon.{Tokens, the, name_tokens, between, all_tokens, expr_tokens, item_tokens, source_tokens, join_mark_tokens, join_tokens, from_tokens, where_tokens, down_tokens, key_tokens, order_tokens, count_tokens, distinct_tokens, core_tokens, cores_tokens, union_tokens, body_tokens, step_tokens, steps_tokens, script_tokens, spaced}
use Rattle.sql_meaning.specs.Scripts.{all_of, item_form, expr_form, source_form, join_form, key_form, sources_form, condition_form, count_form, core_form, cores_form, body_form, step_form, script_form}
use Rattle.sql_meaning.specs.declared.token.Mark.TheVariants as m
use Rattle.sql_meaning.specs.declared.token.Token.TheVariants as t
use Rattle.sql_meaning.specs.declared.expression.SqlExpr.{SqlExpr}
use Rattle.sql_meaning.specs.declared.script.Script.{Script}
use Rattle.sql_meaning.specs.declared.script.Step.{Step}
use Rattle.sql_meaning.specs.declared.script.Body.{Body}
use Rattle.sql_meaning.specs.declared.script.Core.{Core}
use Rattle.sql_meaning.specs.declared.script.Item.{Item}
use Rattle.sql_meaning.specs.declared.script.Source.{Source}
use Rattle.sql_meaning.specs.declared.script.JoinTo.{JoinTo}
use Rattle.sql_meaning.specs.declared.script.SqlKey.{SqlKey}
use Rattle.sql_text_spelling_laws.specs.Pieces.{Bytes, behind, joined, expr_piece, item_piece, source_piece, join_word, join_piece, from_piece, where_piece, down_piece, key_piece, order_piece, count_piece, distinct_piece, items_piece, rest_piece, core_piece, body_piece, step_piece, steps_piece, script_piece, PiecesAreCanonical}
use Rattle.sql_text_spelling_laws.specs.Blocks.{Block, Blocks, Tail, of_token, word, two, by_word, by_comma, bracketed, listed, chained, same_bytes, missing, present, tails}
use Rattle.sql_text_spelling_laws.specs.Exprs.{expr_block}

name_block : (s : List ℕ) → is_name s ≡ true → Block (name_tokens s) s
name_block s h = of_token (t.Name s) refl refl h

-- a count is within 128 bits
count_wide : (n : ℕ) → nat_lt n 1000000000000000000 ≡ true → nat_lt n (2 ^ 127) ≡ true
count_wide n h = grind arith

count_block : (n : ℕ) → count_form (Some n) ≡ true → Block (t.Int (pos n) ∷ []) (int_text (pos n))
count_block n h = of_token (t.Int (pos n)) refl refl (count_wide n h)

all_blocks : {A : Type 0} (p : A → Bool) (f : A → Tokens) (g : A → Bytes) → ((x : A) → p x ≡ true → Block (f x) (g x)) → (xs : List A) → all_of p xs ≡ true → Blocks (map f xs) (map g xs)
all_blocks p f g each [] h = tt
all_blocks p f g each (x ∷ xs) h = (each x (first_so _ _ h), all_blocks p f g each xs (second_so (p x) _ h))

item_block : (i : Item) → item_form i ≡ true → Block (item_tokens i) (item_piece i)
item_block i h = by_word m.As refl refl (expr_tokens i.expr) (name_tokens i.name) (expr_piece i.expr) i.name (expr_block i.expr (first_so _ _ h)) (name_block i.name (second_so (expr_form i.expr) _ h))

source_block : (s : Source) → source_form s ≡ true → Block (source_tokens s) (source_piece s)
source_block s h = by_word m.As refl refl (name_tokens s.table) (name_tokens s.alias) s.table s.alias (name_block s.table (first_so _ _ h)) (name_block s.alias (second_so (is_name s.table) _ h))

-- a source and its condition
on_block : (j : JoinTo) → join_form j ≡ true → Block (source_tokens j.source ++ (the m.On ++ expr_tokens j.on)) (source_piece j.source ++ (codes " ON " ++ expr_piece j.on))
on_block j h = by_word m.On refl refl (source_tokens j.source) (expr_tokens j.on) (source_piece j.source) (expr_piece j.on) (source_block j.source (first_so _ _ h)) (expr_block j.on (second_so (source_form j.source) _ h))

led_join : (left : Bool) (ts : Tokens) (bs : Bytes) → Block ts bs → Block (join_mark_tokens left ++ ts) (join_word left ++ bs)
led_join true ts bs b = two (the m.Left) (the m.Join ++ ts) (mark_bytes m.Left) (codes "JOIN " ++ bs) (word m.Left refl refl) (two (the m.Join) ts (mark_bytes m.Join) bs (word m.Join refl refl) b)
led_join false ts bs b = two (the m.Join) ts (mark_bytes m.Join) bs (word m.Join refl refl) b

join_block : (j : JoinTo) → join_form j ≡ true → Block (join_tokens j) (join_piece j)
join_block j h = led_join j.left _ _ (on_block j h)

from_tail : (s : Option Source) (js : List JoinTo) → sources_form s js ≡ true → Tail (from_tokens s js) (from_piece s js)
from_tail None js h = missing
from_tail (Some s) js h =
    present _ _ (two (the m.From) (source_tokens s ++ all_tokens (map join_tokens js)) (mark_bytes m.From) (source_piece s ++ behind (codes " ") (map join_piece js)) (word m.From refl refl)
    (chained (source_tokens s) (source_piece s) (map join_tokens js) (map join_piece js) (source_block s (first_so _ _ h)) (all_blocks join_form join_tokens join_piece join_block js (second_so (source_form s) _ h))))

where_tail : (e : Option SqlExpr) → condition_form e ≡ true → Tail (where_tokens e) (where_piece e)
where_tail None h = missing
where_tail (Some e) h = present _ _ (two (the m.Where) (expr_tokens e) (mark_bytes m.Where) (expr_piece e) (word m.Where refl refl) (expr_block e h))

down_tail : (down : Bool) → Tail (down_tokens down) (down_piece down)
down_tail true = present _ _ (word m.Desc refl refl)
down_tail false = missing

key_block : (k : SqlKey) → key_form k ≡ true → Block (key_tokens k) (key_piece k)
key_block k h = down_tail k.down (expr_tokens k.expr) (expr_piece k.expr) (expr_block k.expr h)

order_tail : (ks : List SqlKey) → all_of key_form ks ≡ true → Tail (order_tokens ks) (order_piece ks)
order_tail [] h = missing
order_tail (k ∷ ks) h =
    present _ _ (two (the m.Order) (the m.By ++ between m.Comma (map key_tokens (k ∷ ks))) (mark_bytes m.Order) (codes "BY " ++ joined (codes ", ") (map key_piece (k ∷ ks))) (word m.Order refl refl)
    (two (the m.By) (between m.Comma (map key_tokens (k ∷ ks))) (mark_bytes m.By) (joined (codes ", ") (map key_piece (k ∷ ks))) (word m.By refl refl)
    (listed m.Comma (codes ", ") by_comma (key_tokens k) (key_piece k) (map key_tokens ks) (map key_piece ks) (all_blocks key_form key_tokens key_piece key_block (k ∷ ks) h))))

most_tail : (n : Option ℕ) → count_form n ≡ true → Tail (count_tokens m.Limit n) (count_piece (codes " LIMIT ") n)
most_tail None h = missing
most_tail (Some n) h = present _ _ (two (the m.Limit) (t.Int (pos n) ∷ []) (mark_bytes m.Limit) _ (word m.Limit refl refl) (count_block n h))

skip_tail : (n : Option ℕ) → count_form n ≡ true → Tail (count_tokens m.Offset n) (count_piece (codes " OFFSET ") n)
skip_tail None h = missing
skip_tail (Some n) h = present _ _ (two (the m.Offset) (t.Int (pos n) ∷ []) (mark_bytes m.Offset) _ (word m.Offset refl refl) (count_block n h))

items_block : (is : List Item) → nat_le 1 (length is) ≡ true → all_of item_form is ≡ true → Block (between m.Comma (map item_tokens is)) (joined (codes ", ") (map item_piece is))
items_block [] some h = absurd (let z : false ≡ true = some in cc)
items_block (i ∷ is) some h = listed m.Comma (codes ", ") by_comma (item_tokens i) (item_piece i) (map item_tokens is) (map item_piece is) (all_blocks item_form item_tokens item_piece item_block (i ∷ is) h)

distinct_block : (distinct : Bool) (ts : Tokens) (bs : Bytes) → Block ts bs → Block (distinct_tokens distinct ++ ts) (distinct_piece distinct ++ bs)
distinct_block true ts bs b = two (the m.Distinct) ts (mark_bytes m.Distinct) bs (word m.Distinct refl refl) b
distinct_block false ts bs b = b

-- what a core of the right form has
pub record CoreParts (c : Core) : Type 0 where
  pub some : nat_le 1 (length c.items) ≡ true
  pub items : all_of item_form c.items ≡ true
  pub sources : sources_form c.from c.joins ≡ true
  pub condition : condition_form c.condition ≡ true
  pub keys : all_of key_form c.keys ≡ true
  pub most : count_form c.most ≡ true
  pub skip : count_form c.skip ≡ true

pub core_parts : (c : Core) → core_form c ≡ true → CoreParts c
core_parts c h =
    let skip = second_so (nat_le 1 (length c.items) && all_of item_form c.items && sources_form c.from c.joins && condition_form c.condition && all_of key_form c.keys && count_form c.most) _ h in
    let h1 = first_so (nat_le 1 (length c.items) && all_of item_form c.items && sources_form c.from c.joins && condition_form c.condition && all_of key_form c.keys && count_form c.most) _ h in
    let h2 = first_so (nat_le 1 (length c.items) && all_of item_form c.items && sources_form c.from c.joins && condition_form c.condition && all_of key_form c.keys) _ h1 in
    let h3 = first_so (nat_le 1 (length c.items) && all_of item_form c.items && sources_form c.from c.joins && condition_form c.condition) _ h2 in
    let h4 = first_so (nat_le 1 (length c.items) && all_of item_form c.items && sources_form c.from c.joins) _ h3 in
    let h5 = first_so (nat_le 1 (length c.items) && all_of item_form c.items) _ h4 in
    record {
      most = second_so (nat_le 1 (length c.items) && all_of item_form c.items && sources_form c.from c.joins && condition_form c.condition && all_of key_form c.keys) _ h1;
      skip = skip;
      some = first_so _ _ h5;
      items = second_so (nat_le 1 (length c.items)) _ h5;
      sources = second_so (nat_le 1 (length c.items) && all_of item_form c.items) _ h4;
      condition = second_so (nat_le 1 (length c.items) && all_of item_form c.items && sources_form c.from c.joins) _ h3;
      keys = second_so (nat_le 1 (length c.items) && all_of item_form c.items && sources_form c.from c.joins && condition_form c.condition) _ h2;
    }

core_block : (c : Core) → core_form c ≡ true → Block (core_tokens c) (core_piece c)
core_block c h =
    let p = core_parts c h in
    let items = items_block c.items p.some p.items in
    let rest = tails _ _ _ _ (from_tail c.from c.joins p.sources) (tails _ _ _ _ (where_tail c.condition p.condition) (tails _ _ _ _ (order_tail c.keys p.keys) (tails _ _ _ _ (most_tail c.most p.most) (skip_tail c.skip p.skip)))) in
    two (the m.Select) _ (mark_bytes m.Select) (items_piece c ++ rest_piece c) (word m.Select refl refl)
    (same_bytes _ _ _ (sym (append_assoc (distinct_piece c.distinct) (joined (codes ", ") (map item_piece c.items)) (rest_piece c)))
    (distinct_block c.distinct _ _ (rest (between m.Comma (map item_tokens c.items)) (joined (codes ", ") (map item_piece c.items)) items)))

union_block : (c : Core) → core_form c ≡ true → Block (union_tokens c) (codes "UNION ALL " ++ core_piece c)
union_block c h =
    two (the m.Union) (the m.All ++ core_tokens c) (mark_bytes m.Union) (codes "ALL " ++ core_piece c) (word m.Union refl refl)
    (two (the m.All) (core_tokens c) (mark_bytes m.All) (core_piece c) (word m.All refl refl) (core_block c h))

same_unions : (cs : List Core) → behind (codes " ") (map (λ c. codes "UNION ALL " ++ core_piece c) cs) ≡ behind (codes " UNION ALL ") (map core_piece cs)
same_unions [] = refl
same_unions (c ∷ cs) = ap (λ (z : Bytes). (codes " UNION ALL " ++ core_piece c) ++ z) (same_unions cs)

cores_blocks : (c : Core) (cs : List Core) → all_of core_form (c ∷ cs) ≡ true → Block (core_tokens c ++ all_tokens (map union_tokens cs)) (joined (codes " UNION ALL ") (map core_piece (c ∷ cs)))
cores_blocks c cs h =
    same_bytes _ _ _ (ap (λ (z : Bytes). core_piece c ++ z) (same_unions cs))
    (chained (core_tokens c) (core_piece c) (map union_tokens cs) (map (λ d. codes "UNION ALL " ++ core_piece d) cs) (core_block c (first_so _ _ h))
    (all_blocks core_form union_tokens (λ d. codes "UNION ALL " ++ core_piece d) union_block cs (second_so (core_form c) _ h)))

body_block : (b : Body) → body_form b ≡ true → Block (body_tokens b) (body_piece b)
body_block b h = by b.cores h
  where
    by : (cs : List Core) → cores_form cs ≡ true → Block (cores_tokens cs) (joined (codes " UNION ALL ") (map core_piece cs))
    by [] h = absurd (let z : false ≡ true = h in cc)
    by (c ∷ []) h = cores_blocks c [] (let k : core_form c ≡ true = h in rw k refl)
    by (c ∷ d ∷ cs) h = cores_blocks c (d ∷ cs) (first_so _ _ h)

step_block : (s : Step) → step_form s ≡ true → Block (step_tokens s) (step_piece s)
step_block s h =
    by_word m.As refl refl (name_tokens s.name) _ s.name (40 ∷ (body_piece s.body ++ (41 ∷ []))) (name_block s.name (first_so _ _ h)) (bracketed (body_tokens s.body) (body_piece s.body) (body_block s.body (second_so _ _ h)))

script_block : (ss : List Step) (b : Body) → all_of step_form ss ≡ true → body_form b ≡ true → Block (steps_tokens ss ++ body_tokens b) (steps_piece ss ++ body_piece b)
script_block [] b h k = body_block b k
script_block (s ∷ ss) b h k =
    let steps : Bytes = joined (codes ", ") (map step_piece (s ∷ ss)) in
    same_bytes _ _ _ (ap (λ (z : Bytes). codes "WITH " ++ z) (sym (append_assoc steps (32 ∷ []) (body_piece b))))
    (two (steps_tokens (s ∷ ss)) (body_tokens b) (codes "WITH " ++ steps) (body_piece b)
    (two (the m.With) (between m.Comma (map step_tokens (s ∷ ss))) (mark_bytes m.With) steps (word m.With refl refl)
    (listed m.Comma (codes ", ") by_comma (step_tokens s) (step_piece s) (map step_tokens ss) (map step_piece ss) (all_blocks step_form step_tokens step_piece step_block (s ∷ ss) h)))
    (body_block b k))

-- a script of the right form is one piece
pub script_pieces : (s : Script) → IsTrue (script_form s) → Block (script_tokens s) (script_piece s)
script_pieces s h = script_block s.steps s.last (first_so _ _ h) (second_so (all_of step_form s.steps) _ h)

pub pieces_are_canonical : PiecesAreCanonical
pieces_are_canonical s h =
    let b = script_pieces s h in
    ap (λ (z : Tokens). spaced None z) (sym (append-nil (script_tokens s))) ∙ b.whole None [] ∙ append-nil (script_piece s)
