-- A writable script is spelled by its canonical spelling.
use Rattle.std.specs.Prelude.{Bool, true, false, not, ◌&&◌, nat_le, ◌≤◌, List, [], ◌∷◌, ◌++◌, ℕ, pos, ◌+◌, max, length, map, Option, Some, None, is_none, IsTrue}
use Rattle.std.specs.Cmp.{first_so, second_so}
use Rattle.std.proofs.Common.{◌≡◌, ◌∙◌, sym, ap, refl, arith, append_assoc, append-nil}
use Rattle.std.proofs.lemmas.Bool.{false≢true, leb-true}
use Rattle.grammar_meaning.specs.Grammar.{Form, call, ◌⨾◌, maybe, Pair, Made, Reads}
use Rattle.sql_meaning.specs.Kinds.{Kind, a_count, is}
use Rattle.sql_meaning.specs.Grammar.{Symbol, WholeScript, Steps, OneStep, OneBody, Unions, Plain, Parts, Ending, ItemList, OneItem, Sources, OneSource, OneJoin, Condition, KeyList, OneKey, Most, Skip}
use Rattle.sql_meaning.specs.Grammar.{mark, count, shallow, Tree, a_script, step_list, a_step, a_body, core_list, a_core, parts, ending, item_list, an_item, sources, a_source, a_join, key_list, a_key, a_number, an_expr, Parsed, build, token_count, token_name, items_in, joins_in, keys_in, cores_in, steps_in, from_of, joins_of, condition_of, keys_of, number_of, steps_of, plain_core, is_there}
use Rattle.sql_meaning.specs.Canon.{Tokens, the, between, all_tokens, item_tokens, source_tokens, join_mark_tokens, join_tokens, from_tokens, where_tokens, down_tokens, key_tokens, order_tokens, count_tokens, distinct_tokens, core_tokens, cores_tokens, union_tokens, body_tokens, step_tokens, steps_tokens, script_tokens, token_bytes, canon}
use Rattle.sql_meaning.specs.Scripts.{all_of, item_form, source_form, join_form, key_form, sources_form, condition_form, count_form, core_form, is_plain, cores_form, body_form, step_form, script_form, is_writable, largest, item_depth, join_depth, condition_depth, key_depth, core_depth, body_depth, step_depth, depth_of, most_levels}
use Rattle.sql_meaning.specs.Texts.{Spells}
use Rattle.sql_meaning.specs.Tokens.{IsCut}
use Rattle.sql_meaning.specs.declared.token.Mark.TheVariants as m
use Rattle.sql_meaning.specs.declared.token.Token.{Token}
use Rattle.sql_meaning.specs.declared.token.Token.TheVariants as t
use Rattle.sql_meaning.specs.declared.token.Placed.{Placed}
use Rattle.sql_meaning.specs.declared.expression.SqlExpr.{SqlExpr}
use Rattle.sql_meaning.specs.declared.script.Script.{Script}
use Rattle.sql_meaning.specs.declared.script.Step.{Step}
use Rattle.sql_meaning.specs.declared.script.Body.{Body}
use Rattle.sql_meaning.specs.declared.script.Core.{Core}
use Rattle.sql_meaning.specs.declared.script.Item.{Item}
use Rattle.sql_meaning.specs.declared.script.Source.{Source}
use Rattle.sql_meaning.specs.declared.script.JoinTo.{JoinTo}
use Rattle.sql_meaning.specs.declared.script.SqlKey.{SqlKey}
use Rattle.sql_text_spelling_laws.specs.Induction.{Each}
use Rattle.sql_text_spelling_laws.specs.Cuts.{laid, start, spaced_cut}
use Rattle.sql_text_spelling_laws.specs.Scripts.{CoreParts, core_parts, script_pieces}
use Rattle.sql_text_spelling_laws.specs.Fits.{Fits, fits_left, fits_right}
use Rattle.sql_text_spelling_laws.specs.Widening.{widened}
use Rattle.sql_text_spelling_laws.specs.Gives.{Gives, Got, Both, both, IsLeaf, is_leaf, IsMade, is_made, IsNil, is_nil, as_also, on_tokens, gives_one, ◌then◌, gives_left, gives_right, gives_call, gives_none, gives_many, Collects, bare}
use Rattle.sql_text_spelling_laws.specs.Reads.{gives_mark, gives_name, expr_read, behind_mark}

-- what holds of each item by its form and its depth
each_by : {A : Type 0} (p : A → Bool) (depth : A → ℕ) (P : A → Type 0) → ((x : A) → p x ≡ true → Fits 0 (depth x) → P x) → (xs : List A) → all_of p xs ≡ true → Fits 0 (largest (map depth xs)) → Each P xs
each_by p depth P given [] h fits = tt
each_by p depth P given (x ∷ xs) h fits =
    let more : ℕ = largest (map depth xs) in
    (given x (first_so _ _ h) (fits_left 0 (depth x) more fits), each_by p depth P given xs (second_so (p x) _ h) (fits_right 0 (depth x) more fits))

-- a part behind a comma
abbrev AfterComma : Tree → Parsed → Type 0
AfterComma x = Both (IsLeaf (t.Mark m.Comma)) (IsMade x)

item_built : {i : Item} {x : Parsed} → Both (IsMade (an_expr i.expr)) (Both (IsLeaf (t.Mark m.As)) (IsLeaf (t.Name i.name))) x → build OneItem x ≡ an_item i
item_built {i} (both is_made (both a (is_leaf h))) = ap (λ z. an_item (record { expr = i.expr; name = token_name z })) h

read_item : (i : Item) → item_form i ≡ true → Fits 0 (item_depth i) → Gives (call OneItem) (IsMade (an_item i)) (item_tokens i)
read_item i h fits = gives_call OneItem (an_item i) (λ x r. item_built r) (expr_read i.expr (first_so _ _ h) 0 fits then gives_mark m.As refl then gives_name i.name)

items_collect : Collects items_in (λ i. AfterComma (an_item i))
items_collect = record { none = refl; some = some }
  where
    some : (i : Item) (is : List Item) (n k : Parsed) → AfterComma (an_item i) n → items_in k ≡ is → items_in (Pair n k) ≡ i ∷ is
    some i is n k (both (is_leaf c) is_made) r = ap (λ z. i ∷ z) r

items_built : {i : Item} {is : List Item} {x : Parsed} → Both (IsMade (an_item i)) (λ k. items_in k ≡ is) x → build ItemList x ≡ item_list (i ∷ is)
items_built {i} (both is_made r) = ap (λ z. item_list (i ∷ z)) r

read_items : (is : List Item) → nat_le 1 (length is) ≡ true → all_of item_form is ≡ true → Fits 0 (largest (map item_depth is)) → Gives (call ItemList) (IsMade (item_list is)) (between m.Comma (map item_tokens is))
read_items [] some h fits = absurd (false≢true some)
read_items (i ∷ is) some h fits =
    let more : ℕ = largest (map item_depth is) in
    gives_call ItemList (item_list (i ∷ is)) (λ x r. items_built r)
    (read_item i (first_so _ _ h) (fits_left 0 (item_depth i) more fits) then on_tokens (behind_mark m.Comma item_tokens is)
    (gives_many (λ j. the m.Comma ++ item_tokens j) items_in (λ j. AfterComma (an_item j)) items_collect is
    (each_by item_form item_depth (λ j. Gives (mark m.Comma ⨾ call OneItem) (AfterComma (an_item j)) (the m.Comma ++ item_tokens j)) (λ j k l. gives_mark m.Comma refl then read_item j k l) is (second_so (item_form i) _ h) (fits_right 0 (item_depth i) more fits))))

source_built : {s : Source} {x : Parsed} → Both (IsLeaf (t.Name s.table)) (Both (IsLeaf (t.Mark m.As)) (IsLeaf (t.Name s.alias))) x → build OneSource x ≡ a_source s
source_built (both (is_leaf h) (both a (is_leaf k))) = rw (h, k) refl

read_source : (s : Source) → Gives (call OneSource) (IsMade (a_source s)) (source_tokens s)
read_source s = gives_call OneSource (a_source s) (λ x r. source_built r) (gives_name s.table then gives_mark m.As refl then gives_name s.alias)

abbrev LeftIs : Bool → Parsed → Type 0
LeftIs left n = is_there n ≡ left

left_there : {x : Parsed} → IsLeaf (t.Mark m.Left) x → LeftIs true x
left_there (is_leaf h) = refl

left_missing : {x : Parsed} → IsNil x → LeftIs false x
left_missing is_nil = refl

join_built : {j : JoinTo} {x : Parsed} → Both (LeftIs j.left) (Both (IsLeaf (t.Mark m.Join)) (Both (IsMade (a_source j.source)) (Both (IsLeaf (t.Mark m.On)) (IsMade (an_expr j.on))))) x → build OneJoin x ≡ a_join j
join_built {j} (both l (both w (both is_made (both o is_made)))) = ap (λ z. a_join (record { left = z; source = j.source; on = j.on })) l

left_given : (left : Bool) (ts : Tokens) {f : Form Symbol Kind} {P : Parsed → Type 0} → Gives (mark m.Join ⨾ f) P (the m.Join ++ ts) → Gives (maybe (mark m.Left) ⨾ mark m.Join ⨾ f) (Both (LeftIs left) P) (join_mark_tokens left ++ ts)
left_given true ts g = as_also (λ n p. p) (gives_left (as_also (λ n p. left_there p) (gives_mark m.Left refl)) then g)
left_given false ts g = as_also (λ n p. nil_left p) gives_none then g
  where
    nil_left : {x : Parsed} → IsNil x → LeftIs false x
    nil_left is_nil = refl

read_join : (j : JoinTo) → join_form j ≡ true → Fits 0 (join_depth j) → Gives (call OneJoin) (IsMade (a_join j)) (join_tokens j)
read_join j h fits =
    gives_call OneJoin (a_join j) (λ x r. join_built r)
    (left_given j.left _ (gives_mark m.Join refl then read_source j.source then gives_mark m.On refl then expr_read j.on (second_so (source_form j.source) _ h) 0 fits))

joins_collect : Collects joins_in (λ j. IsMade (a_join j))
joins_collect = record { none = refl; some = some }
  where
    some : (j : JoinTo) (js : List JoinTo) (n k : Parsed) → IsMade (a_join j) n → joins_in k ≡ js → joins_in (Pair n k) ≡ j ∷ js
    some j js n k is_made r = ap (λ z. j ∷ z) r

-- the first source and its joins, where there are any
record HasFrom (s : Option Source) (js : List JoinTo) (n : Parsed) : Type 0 where
  source : from_of n ≡ s
  joins : joins_of n ≡ js

from_built : {s : Source} {js : List JoinTo} {x : Parsed} → Both (IsLeaf (t.Mark m.From)) (Both (IsMade (a_source s)) (λ k. joins_in k ≡ js)) x → build Sources x ≡ sources s js
from_built {s} (both w (both is_made r)) = ap (λ z. sources s z) r

has_sources : {s : Source} {js : List JoinTo} {x : Parsed} → IsMade (sources s js) x → HasFrom (Some s) js x
has_sources is_made = record { source = refl; joins = refl }

has_none : {x : Parsed} → IsNil x → HasFrom None [] x
has_none is_nil = record { source = refl; joins = refl }

read_from : (s : Option Source) (js : List JoinTo) → sources_form s js ≡ true → Fits 0 (largest (map join_depth js)) → Gives (maybe (call Sources)) (HasFrom s js) (from_tokens s js)
read_from None [] h fits = as_also (λ n p. has_none p) gives_none
read_from None (j ∷ js) h fits = absurd (false≢true h)
read_from (Some s) js h fits =
    as_also (λ n p. has_sources p) (gives_left (gives_call Sources (sources s js) (λ x r. from_built r)
    (gives_mark m.From refl then read_source s then gives_many join_tokens joins_in (λ j. IsMade (a_join j)) joins_collect js
    (each_by join_form join_depth (λ j. Gives (call OneJoin) (IsMade (a_join j)) (join_tokens j)) read_join js (second_so (source_form s) _ h) fits))))

abbrev HasCondition : Option SqlExpr → Parsed → Type 0
HasCondition e n = condition_of n ≡ e

where_built : {e : SqlExpr} {x : Parsed} → Both (IsLeaf (t.Mark m.Where)) (IsMade (an_expr e)) x → build Condition x ≡ an_expr e
where_built (both w is_made) = refl

has_condition : {e : SqlExpr} {x : Parsed} → IsMade (an_expr e) x → HasCondition (Some e) x
has_condition is_made = refl

no_condition : {x : Parsed} → IsNil x → HasCondition None x
no_condition is_nil = refl

read_where : (e : Option SqlExpr) → condition_form e ≡ true → Fits 0 (condition_depth e) → Gives (maybe (call Condition)) (HasCondition e) (where_tokens e)
read_where None h fits = as_also (λ n p. no_condition p) gives_none
read_where (Some e) h fits = as_also (λ n p. has_condition p) (gives_left (gives_call Condition (an_expr e) (λ x r. where_built r) (gives_mark m.Where refl then expr_read e h 0 fits)))

key_built : {k : SqlKey} {x : Parsed} → Both (IsMade (an_expr k.expr)) (LeftIs k.down) x → build OneKey x ≡ a_key k
key_built {k} (both is_made l) = ap (λ z. a_key (record { expr = k.expr; down = z })) l

down_there : {x : Parsed} → IsLeaf (t.Mark m.Desc) x → LeftIs true x
down_there (is_leaf h) = refl

down_given : (down : Bool) → Gives (maybe (mark m.Desc)) (LeftIs down) (down_tokens down)
down_given true = as_also (λ n p. down_there p) (gives_left (gives_mark m.Desc refl))
down_given false = as_also (λ n p. left_missing p) gives_none

read_key : (k : SqlKey) → key_form k ≡ true → Fits 0 (key_depth k) → Gives (call OneKey) (IsMade (a_key k)) (key_tokens k)
read_key k h fits = gives_call OneKey (a_key k) (λ x r. key_built r) (expr_read k.expr h 0 fits then down_given k.down)

keys_collect : Collects keys_in (λ k. AfterComma (a_key k))
keys_collect = record { none = refl; some = some }
  where
    some : (x : SqlKey) (xs : List SqlKey) (n k : Parsed) → AfterComma (a_key x) n → keys_in k ≡ xs → keys_in (Pair n k) ≡ x ∷ xs
    some x xs n k (both (is_leaf c) is_made) r = ap (λ z. x ∷ z) r

keys_built : {k : SqlKey} {ks : List SqlKey} {x : Parsed} → Both (IsLeaf (t.Mark m.Order)) (Both (IsLeaf (t.Mark m.By)) (Both (IsMade (a_key k)) (λ n. keys_in n ≡ ks))) x → build KeyList x ≡ key_list (k ∷ ks)
keys_built {k} (both o (both b (both is_made r))) = ap (λ z. key_list (k ∷ z)) r

has_keys : {ks : List SqlKey} {x : Parsed} → IsMade (key_list ks) x → keys_of x ≡ ks
has_keys is_made = refl

no_keys : {x : Parsed} → IsNil x → keys_of x ≡ []
no_keys is_nil = refl

read_order : (ks : List SqlKey) → all_of key_form ks ≡ true → Fits 0 (largest (map key_depth ks)) → Gives (maybe (call KeyList)) (λ n. keys_of n ≡ ks) (order_tokens ks)
read_order [] h fits = as_also (λ n p. no_keys p) gives_none
read_order (k ∷ ks) h fits =
    let more : ℕ = largest (map key_depth ks) in
    as_also (λ n p. has_keys p) (gives_left (gives_call KeyList (key_list (k ∷ ks)) (λ x r. keys_built r)
    (gives_mark m.Order refl then gives_mark m.By refl then read_key k (first_so _ _ h) (fits_left 0 (key_depth k) more fits) then on_tokens (behind_mark m.Comma key_tokens ks)
    (gives_many (λ j. the m.Comma ++ key_tokens j) keys_in (λ j. AfterComma (a_key j)) keys_collect ks
    (each_by key_form key_depth (λ j. Gives (mark m.Comma ⨾ call OneKey) (AfterComma (a_key j)) (the m.Comma ++ key_tokens j)) (λ j i l. gives_mark m.Comma refl then read_key j i l) ks (second_so (key_form k) _ h) (fits_right 0 (key_depth k) more fits))))))

count_given : (n : ℕ) → count_form (Some n) ≡ true → Gives count (IsLeaf (t.Int (pos n))) (t.Int (pos n) ∷ [])
count_given n h = gives_one (is a_count) (t.Int (pos n)) (rw h refl)

most_built : {n : ℕ} {x : Parsed} → Both (IsLeaf (t.Mark m.Limit)) (IsLeaf (t.Int (pos n))) x → build Most x ≡ a_number n
most_built (both l (is_leaf h)) = ap (λ z. a_number (token_count z)) h

skip_built : {n : ℕ} {x : Parsed} → Both (IsLeaf (t.Mark m.Offset)) (IsLeaf (t.Int (pos n))) x → build Skip x ≡ a_number n
skip_built (both l (is_leaf h)) = ap (λ z. a_number (token_count z)) h

has_number : {n : ℕ} {x : Parsed} → IsMade (a_number n) x → number_of x ≡ Some n
has_number is_made = refl

no_number : {x : Parsed} → IsNil x → number_of x ≡ None
no_number is_nil = refl

read_most : (n : Option ℕ) → count_form n ≡ true → Gives (maybe (call Most)) (λ k. number_of k ≡ n) (count_tokens m.Limit n)
read_most None h = as_also (λ n p. no_number p) gives_none
read_most (Some n) h = as_also (λ k p. has_number p) (gives_left (gives_call Most (a_number n) (λ x r. most_built r) (gives_mark m.Limit refl then count_given n h)))

read_skip : (n : Option ℕ) → count_form n ≡ true → Gives (maybe (call Skip)) (λ k. number_of k ≡ n) (count_tokens m.Offset n)
read_skip None h = as_also (λ n p. no_number p) gives_none
read_skip (Some n) h = as_also (λ k p. has_number p) (gives_left (gives_call Skip (a_number n) (λ x r. skip_built r) (gives_mark m.Offset refl then count_given n h)))

-- cores

abbrev parts_tokens : Core → Tokens
parts_tokens c = between m.Comma (map item_tokens c.items) ++ (from_tokens c.from c.joins ++ where_tokens c.condition)

abbrev ending_tokens : Core → Tokens
ending_tokens c = order_tokens c.keys ++ (count_tokens m.Limit c.most ++ count_tokens m.Offset c.skip)

abbrev parts_of : Core → Tree
parts_of c = parts c.items c.from c.joins c.condition

abbrev ending_of : Core → Tree
ending_of c = ending c.keys c.most c.skip

core_split : (c : Core) → core_tokens c ≡ the m.Select ++ (distinct_tokens c.distinct ++ (parts_tokens c ++ ending_tokens c))
core_split c =
    let items : Tokens = between m.Comma (map item_tokens c.items) in
    let from : Tokens = from_tokens c.from c.joins in
    ap (λ (z : Tokens). the m.Select ++ (distinct_tokens c.distinct ++ z))
    (ap (λ (z : Tokens). items ++ z) (sym (append_assoc from (where_tokens c.condition) (ending_tokens c))) ∙ sym (append_assoc items (from ++ where_tokens c.condition) (ending_tokens c)))

-- the expressions of a core are within the levels
record CoreFits (c : Core) : Type 0 where
  items : Fits 0 (largest (map item_depth c.items))
  joins : Fits 0 (largest (map join_depth c.joins))
  condition : Fits 0 (condition_depth c.condition)
  keys : Fits 0 (largest (map key_depth c.keys))

core_fits : (c : Core) → Fits 0 (core_depth c) → CoreFits c
core_fits c fits =
    let items : ℕ = largest (map item_depth c.items) in
    let joins : ℕ = largest (map join_depth c.joins) in
    let condition : ℕ = condition_depth c.condition in
    let keys : ℕ = largest (map key_depth c.keys) in
    let behind = fits_right 0 items (max joins (max condition keys)) fits in
    let last = fits_right 0 joins (max condition keys) behind in
    record {
      items = fits_left 0 items (max joins (max condition keys)) fits;
      joins = fits_left 0 joins (max condition keys) behind;
      condition = fits_left 0 condition keys last;
      keys = fits_right 0 condition keys last;
    }

parts_built : (c : Core) {x : Parsed} → Both (IsMade (item_list c.items)) (Both (HasFrom c.from c.joins) (HasCondition c.condition)) x → build Parts x ≡ parts_of c
parts_built c (both is_made (both f k)) = rw (f.source, f.joins, k) refl

read_parts : (c : Core) → CoreParts c → CoreFits c → Gives (call Parts) (IsMade (parts_of c)) (parts_tokens c)
read_parts c p f = gives_call Parts (parts_of c) (λ x r. parts_built c r) (read_items c.items p.some p.items f.items then read_from c.from c.joins p.sources f.joins then read_where c.condition p.condition f.condition)

ending_built : (c : Core) {x : Parsed} → Both (λ n. keys_of n ≡ c.keys) (Both (λ n. number_of n ≡ c.most) (λ n. number_of n ≡ c.skip)) x → build Ending x ≡ ending_of c
ending_built c (both h (both k l)) = rw (h, k, l) refl

read_ending : (c : Core) → CoreParts c → CoreFits c → Gives (call Ending) (IsMade (ending_of c)) (ending_tokens c)
read_ending c p f = gives_call Ending (ending_of c) (λ x r. ending_built c r) (read_order c.keys p.keys f.keys then read_most c.most p.most then read_skip c.skip p.skip)

-- a core without DISTINCT, ORDER BY, LIMIT and OFFSET
record PlainParts (c : Core) : Type 0 where
  distinct : c.distinct ≡ false
  keys : c.keys ≡ []
  most : c.most ≡ None
  skip : c.skip ≡ None

plain_parts : (c : Core) → is_plain c ≡ true → PlainParts c
plain_parts c h =
    let h1 = first_so (not c.distinct && nat_le (length c.keys) 0 && is_none c.most) _ h in
    let h2 = first_so (not c.distinct && nat_le (length c.keys) 0) _ h1 in
    record {
      distinct = unset c.distinct (first_so _ _ h2);
      keys = empty c.keys (second_so (not c.distinct) _ h2);
      most = missing c.most (second_so (not c.distinct && nat_le (length c.keys) 0) _ h1);
      skip = missing c.skip (second_so (not c.distinct && nat_le (length c.keys) 0 && is_none c.most) _ h);
    }
  where
    unset : (b : Bool) → not b ≡ true → b ≡ false
    unset true e = absurd (false≢true e)
    unset false e = refl

    empty : (ks : List SqlKey) → nat_le (length ks) 0 ≡ true → ks ≡ []
    empty [] e = refl
    empty (k ∷ ks) e = absurd (omega (arith, leb-true (length (k ∷ ks)) 0 e))

    missing : (n : Option ℕ) → is_none n ≡ true → n ≡ None
    missing None e = refl
    missing (Some n) e = absurd (false≢true e)

plain_tokens : (c : Core) → PlainParts c → core_tokens c ≡ the m.Select ++ parts_tokens c
plain_tokens c p =
    core_split c ∙ rw (p.distinct, p.keys, p.most, p.skip) (ap (λ (z : Tokens). the m.Select ++ z) (append-nil (parts_tokens c)))

plain_is : (c : Core) → PlainParts c → plain_core (parts_of c) ≡ c
plain_is c p =
    (λ i. record { distinct = sym p.distinct i; items = c.items; from = c.from; joins = c.joins; condition = c.condition; keys = sym p.keys i; most = sym p.most i; skip = sym p.skip i })

union_built : {c : Core} {x : Parsed} → PlainParts c → Both (IsLeaf (t.Mark m.Union)) (Both (IsLeaf (t.Mark m.All)) (Both (IsLeaf (t.Mark m.Select)) (IsMade (parts_of c)))) x → build Plain x ≡ a_core c
union_built {c} p (both u (both a (both s is_made))) = ap (λ z. a_core z) (plain_is c p)

read_union : (c : Core) → (core_form c && is_plain c) ≡ true → Fits 0 (core_depth c) → Gives (call Plain) (IsMade (a_core c)) (union_tokens c)
read_union c h fits =
    let p = plain_parts c (second_so (core_form c) _ h) in
    gives_call Plain (a_core c) (λ x r. union_built p r)
    (on_tokens (ap (λ (z : Tokens). the m.Union ++ (the m.All ++ z)) (sym (plain_tokens c p)))
    (gives_mark m.Union refl then gives_mark m.All refl then gives_mark m.Select refl then read_parts c (core_parts c (first_so _ _ h)) (core_fits c fits)))

cores_collect : Collects cores_in (λ c. IsMade (a_core c))
cores_collect = record { none = refl; some = some }
  where
    some : (c : Core) (cs : List Core) (n k : Parsed) → IsMade (a_core c) n → cores_in k ≡ cs → cores_in (Pair n k) ≡ c ∷ cs
    some c cs n k is_made r = ap (λ z. c ∷ z) r

unions_built : {c : Core} {cs : List Core} {x : Parsed} → Both (IsMade (a_core c)) (λ k. cores_in k ≡ cs) x → build Unions x ≡ core_list (c ∷ cs)
unions_built {c} (both is_made r) = ap (λ z. core_list (c ∷ z)) r

both_forms : (cs : List Core) → all_of core_form cs ≡ true → all_of is_plain cs ≡ true → all_of (λ c. core_form c && is_plain c) cs ≡ true
both_forms [] h k = refl
both_forms (c ∷ cs) h k = rw (first_so (core_form c) _ h, first_so (is_plain c) _ k) (both_forms cs (second_so (core_form c) _ h) (second_so (is_plain c) _ k))

read_unions : (c : Core) (cs : List Core) → all_of (λ d. core_form d && is_plain d) (c ∷ cs) ≡ true → Fits 0 (largest (map core_depth (c ∷ cs))) → Gives (call Unions) (IsMade (core_list (c ∷ cs))) (all_tokens (map union_tokens (c ∷ cs)))
read_unions c cs h fits =
    let more : ℕ = largest (map core_depth cs) in
    gives_call Unions (core_list (c ∷ cs)) (λ x r. unions_built r)
    (read_union c (first_so _ _ h) (fits_left 0 (core_depth c) more fits) then gives_many union_tokens cores_in (λ d. IsMade (a_core d)) cores_collect cs
    (each_by (λ d. core_form d && is_plain d) core_depth (λ d. Gives (call Plain) (IsMade (a_core d)) (union_tokens d)) read_union cs (second_so (core_form c && is_plain c) _ h) (fits_right 0 (core_depth c) more fits)))

-- bodies

abbrev Cores : List Core → Tree
Cores cs = a_body (record { cores = cs })

distinct_built : {c : Core} {x : Parsed} → c.distinct ≡ true → Both (IsLeaf (t.Mark m.Select)) (Both (IsLeaf (t.Mark m.Distinct)) (Both (IsMade (parts_of c)) (IsMade (ending_of c)))) x → build OneBody x ≡ Cores (c ∷ [])
distinct_built {c} h (both s (both (is_leaf d) (both is_made is_made))) = ap (λ z. Cores (record c { distinct = z } ∷ [])) (sym h)

single_built : {c : Core} {x : Parsed} → c.distinct ≡ false → Both (IsLeaf (t.Mark m.Select)) (Both (IsMade (parts_of c)) (IsMade (ending_of c))) x → build OneBody x ≡ Cores (c ∷ [])
single_built {c} h (both s (both is_made is_made)) = ap (λ z. Cores (record c { distinct = z } ∷ [])) (sym h)

several_built : {c : Core} {cs : List Core} {x : Parsed} → PlainParts c → Both (IsLeaf (t.Mark m.Select)) (Both (IsMade (parts_of c)) (IsMade (core_list cs))) x → build OneBody x ≡ Cores (c ∷ cs)
several_built {c} {cs} p (both s (both is_made is_made)) = ap (λ z. Cores (z ∷ cs)) (plain_is c p)

read_single : (c : Core) → core_form c ≡ true → Fits 0 (core_depth c) → Gives (call OneBody) (IsMade (Cores (c ∷ []))) (core_tokens c ++ [])
read_single c h fits = by c.distinct refl
  where
    p : CoreParts c
    p = core_parts c h

    f : CoreFits c
    f = core_fits c fits

    split : (b : Bool) → c.distinct ≡ b → the m.Select ++ (distinct_tokens b ++ (parts_tokens c ++ ending_tokens c)) ≡ core_tokens c ++ []
    split b e = ap (λ (z : Bool). the m.Select ++ (distinct_tokens z ++ (parts_tokens c ++ ending_tokens c))) (sym e) ∙ sym (core_split c) ∙ sym (append-nil (core_tokens c))

    by : (b : Bool) → c.distinct ≡ b → Gives (call OneBody) (IsMade (Cores (c ∷ []))) (core_tokens c ++ [])
    by true e = gives_call OneBody (Cores (c ∷ [])) (λ x r. distinct_built e r) (on_tokens (split true e) (gives_mark m.Select refl then gives_left (gives_mark m.Distinct refl then read_parts c p f then read_ending c p f)))
    by false e = gives_call OneBody (Cores (c ∷ [])) (λ x r. single_built e r) (on_tokens (split false e) (gives_mark m.Select refl then gives_right (read_parts c p f then gives_right (read_ending c p f))))

read_several : (c d : Core) (cs : List Core) → all_of core_form (c ∷ d ∷ cs) ≡ true → all_of is_plain (c ∷ d ∷ cs) ≡ true → Fits 0 (largest (map core_depth (c ∷ d ∷ cs))) → Gives (call OneBody) (IsMade (Cores (c ∷ d ∷ cs))) (core_tokens c ++ all_tokens (map union_tokens (d ∷ cs)))
read_several c d cs h k fits =
    let p = plain_parts c (first_so _ _ k) in
    let more : Tokens = all_tokens (map union_tokens (d ∷ cs)) in
    let deepest : ℕ = largest (map core_depth (d ∷ cs)) in
    gives_call OneBody (Cores (c ∷ d ∷ cs)) (λ x r. several_built p r)
    (on_tokens (ap (λ (z : Tokens). z ++ more) (sym (plain_tokens c p)))
    (gives_mark m.Select refl then gives_right (read_parts c (core_parts c (first_so _ _ h)) (core_fits c (fits_left 0 (core_depth c) deepest fits))
    then gives_left (read_unions d cs (both_forms (d ∷ cs) (second_so (core_form c) _ h) (second_so (is_plain c) _ k)) (fits_right 0 (core_depth c) deepest fits)))))

read_body : (b : Body) → body_form b ≡ true → Fits 0 (body_depth b) → Gives (call OneBody) (IsMade (a_body b)) (body_tokens b)
read_body b h fits = by b.cores h fits
  where
    by : (cs : List Core) → cores_form cs ≡ true → Fits 0 (largest (map core_depth cs)) → Gives (call OneBody) (IsMade (Cores cs)) (cores_tokens cs)
    by [] k l = absurd (false≢true k)
    by (c ∷ []) k l = read_single c k (fits_left 0 (core_depth c) 0 l)
    by (c ∷ d ∷ cs) k l = read_several c d cs (first_so _ _ k) (second_so (all_of core_form (c ∷ d ∷ cs)) _ k) l

-- scripts

step_built : {s : Step} {x : Parsed} → Both (IsLeaf (t.Name s.name)) (Both (IsLeaf (t.Mark m.As)) (Both (IsLeaf (t.Mark m.Open)) (Both (IsMade (a_body s.body)) (IsLeaf (t.Mark m.Close))))) x → build OneStep x ≡ a_step s
step_built {s} (both (is_leaf h) (both a (both o (both is_made c)))) = ap (λ z. a_step (record { name = token_name z; body = s.body })) h

read_step : (s : Step) → step_form s ≡ true → Fits 0 (step_depth s) → Gives (call OneStep) (IsMade (a_step s)) (step_tokens s)
read_step s h fits = gives_call OneStep (a_step s) (λ x r. step_built r) (gives_name s.name then gives_mark m.As refl then gives_mark m.Open refl then read_body s.body (second_so _ _ h) fits then gives_mark m.Close refl)

steps_collect : Collects steps_in (λ s. AfterComma (a_step s))
steps_collect = record { none = refl; some = some }
  where
    some : (s : Step) (ss : List Step) (n k : Parsed) → AfterComma (a_step s) n → steps_in k ≡ ss → steps_in (Pair n k) ≡ s ∷ ss
    some s ss n k (both (is_leaf c) is_made) r = ap (λ z. s ∷ z) r

steps_built : {s : Step} {ss : List Step} {x : Parsed} → Both (IsLeaf (t.Mark m.With)) (Both (IsMade (a_step s)) (λ k. steps_in k ≡ ss)) x → build Steps x ≡ step_list (s ∷ ss)
steps_built {s} (both w (both is_made r)) = ap (λ z. step_list (s ∷ z)) r

has_steps : {ss : List Step} {x : Parsed} → IsMade (step_list ss) x → steps_of x ≡ ss
has_steps is_made = refl

no_steps : {x : Parsed} → IsNil x → steps_of x ≡ []
no_steps is_nil = refl

read_steps : (ss : List Step) → all_of step_form ss ≡ true → Fits 0 (largest (map step_depth ss)) → Gives (maybe (call Steps)) (λ n. steps_of n ≡ ss) (steps_tokens ss)
read_steps [] h fits = as_also (λ n p. no_steps p) gives_none
read_steps (s ∷ ss) h fits =
    let more : ℕ = largest (map step_depth ss) in
    as_also (λ n p. has_steps p) (gives_left (gives_call Steps (step_list (s ∷ ss)) (λ x r. steps_built r)
    (gives_mark m.With refl then read_step s (first_so _ _ h) (fits_left 0 (step_depth s) more fits) then on_tokens (behind_mark m.Comma step_tokens ss)
    (gives_many (λ j. the m.Comma ++ step_tokens j) steps_in (λ j. AfterComma (a_step j)) steps_collect ss
    (each_by step_form step_depth (λ j. Gives (mark m.Comma ⨾ call OneStep) (AfterComma (a_step j)) (the m.Comma ++ step_tokens j)) (λ j i l. gives_mark m.Comma refl then read_step j i l) ss (second_so (step_form s) _ h) (fits_right 0 (step_depth s) more fits))))))

script_built : {s : Script} {x : Parsed} → Both (λ n. steps_of n ≡ s.steps) (IsMade (a_body s.last)) x → build WholeScript x ≡ a_script s
script_built {s} (both h is_made) = ap (λ z. a_script (record { steps = z; last = s.last })) h

read_script : (s : Script) → script_form s ≡ true → Fits 0 (depth_of s) → Gives (call WholeScript) (IsMade (a_script s)) (script_tokens s)
read_script s h fits =
    let steps : ℕ = largest (map step_depth s.steps) in
    gives_call WholeScript (a_script s) (λ x r. script_built r)
    (read_steps s.steps (first_so _ _ h) (fits_left 0 steps (body_depth s.last) fits) then read_body s.last (second_so (all_of step_form s.steps) _ h) (fits_right 0 steps (body_depth s.last) fits))

bare_laid : (ts : Tokens) (x : Option Token) (n : ℕ) → bare (laid n x ts) ≡ ts
bare_laid [] x n = refl
bare_laid (y ∷ ys) x n = ap (λ (z : Tokens). y ∷ z) (bare_laid ys (Some y) (start x y n + length (token_bytes y)))

whole : {s : Script} {ps : List Placed} → Got (call WholeScript) (IsMade (a_script s)) ps [] → Reads shallow (call WholeScript) ps (Made (a_script s)) []
whole {s} {ps} g = by g.node g.rest g.fine g.left g.reads
  where
    by : (n : Parsed) (rest : List Placed) → IsMade (a_script s) n → bare rest ≡ [] → Reads shallow (call WholeScript) ps n rest → Reads shallow (call WholeScript) ps (Made (a_script s)) []
    by n [] is_made e r = r
    by n (q ∷ qs) p e r = cc

-- the text is cut into tokens that read as the script where expressions stand inside fewer than 1,024 others
pub record SpellsWithin (bs : List ℕ) (s : Script) : Type 0 where
  pub tokens : List Placed
  pub cut : IsCut bs tokens
  pub reads : Reads shallow (call WholeScript) tokens (Made (a_script s)) []

pub spelled_within : (s : Script) → IsTrue (is_writable s) → SpellsWithin (canon s) s
spelled_within s h =
    let form : script_form s ≡ true = second_so (nat_le (depth_of s) most_levels) _ h in
    let deepest : depth_of s ≤ most_levels = leb-true (depth_of s) most_levels (first_so _ _ h) in
    let fits : 0 + depth_of s ≤ most_levels = omega arith in
    let ps : List Placed = laid 0 None (script_tokens s) in
    record {
      tokens = ps;
      cut = spaced_cut None (script_tokens s) 0 (script_pieces s form).good;
      reads = whole ((read_script s form fits).from ps [] (bare_laid (script_tokens s) None 0 ∙ sym (append-nil (script_tokens s))));
    }

-- writable scripts have a text
abbrev pub WritableScriptsAreSpelled : Type 0
WritableScriptsAreSpelled = (s : Script) → IsTrue (is_writable s) → Spells (canon s) s

pub writable_scripts_are_spelled : WritableScriptsAreSpelled
writable_scripts_are_spelled s h =
    let w = spelled_within s h in
    record { tokens = w.tokens; cut = w.cut; reads = widened (call WholeScript) w.tokens [] (Made (a_script s)) w.reads }
