-- The trees of scripts that are read have their forms, and their depth is that of the text.
use Rattle.std.specs.Prelude.{Bool, true, false, ◌&&◌, List, [], ◌∷◌, ◌≡◌, ℕ, ◌+◌, max, map, length, Option, Some, None}
use Rattle.std.proofs.Common.{refl, arith}
use Rattle.std.proofs.lemmas.Bool.{le-leb}
use Rattle.sql_meaning.specs.Grammar.{Limit, rule, Symbol, WholeScript, Steps, OneStep, OneBody, Unions, Plain, Parts, Ending, ItemList, OneItem, Sources, OneSource, OneJoin, Condition, KeyList, OneKey, Most, Skip, Expr, Simple, NullOf, Inner, More, Cases, Branches, OneBranch, Firsts}
use Rattle.sql_meaning.specs.Grammar.{Parsed, build, a_body, core_list, step_list, key_list, item_list, parts, ending, sources, core_of, plain_core, token_name, token_count}
use Rattle.sql_meaning.specs.Scripts.{all_of, item_form, item_depth, source_form, sources_form, join_form, join_depth, key_form, key_depth, condition_form, condition_depth, count_form, core_form, core_depth, is_plain, step_form, step_depth, largest}
use Rattle.sql_meaning.specs.declared.expression.SqlExpr.{SqlExpr}
use Rattle.sql_meaning.specs.declared.script.Step.{Step}
use Rattle.sql_meaning.specs.declared.script.Core.{Core}
use Rattle.sql_meaning.specs.declared.script.Item.{Item}
use Rattle.sql_meaning.specs.declared.script.Source.{Source}
use Rattle.sql_meaning.specs.declared.script.JoinTo.{JoinTo}
use Rattle.sql_meaning.specs.declared.script.SqlKey.{SqlKey}
use Rattle.sql_text_reading_laws.specs.TokenForms.{name_form, count_small}
use Rattle.sql_text_reading_laws.specs.Parts.{Built, built_script, built_steps, built_step, built_body, built_unions, built_plain, built_parts, built_ending, built_items, built_item, built_sources, built_source, built_join, built_condition, built_keys, built_key, built_most, built_skip, built_expr}
use Rattle.sql_text_reading_laws.specs.Parts.{Holds, holds_nothing, holds_one, holds_call, holds_both, holds_left, holds_right}
use Rattle.sql_text_reading_laws.specs.Lists.{Listed, listed, items_hold, keys_hold, steps_hold, joins_hold, Plains, plains, cores_hold}
use Rattle.sql_text_reading_laws.specs.Expressions.{simple_holds, null_holds, inner_holds, more_holds, cases_holds, branches_holds, branch_holds, firsts_holds, expr_holds}

all_true : {a b : Bool} → a ≡ true → b ≡ true → (a && b) ≡ true
all_true h k = rw (h, k) refl

item_holds : (n : Parsed) (k : ℕ) (c : Limit) → Holds (rule c OneItem) n k → Built OneItem (build OneItem n) k
item_holds n k c (holds_both (holds_call (built_expr m e j h s)) (holds_both (holds_one a b) (holds_one {t = x} f g))) =
    built_item (record { expr = e; name = token_name x.token }) _ (all_true h (name_form x.token f g)) (omega arith)

largest_of : {A : Type 0} (depth : A → ℕ) (x : A) (xs : List A) (i j k : ℕ) → i ≡ depth x → j ≡ largest (map depth xs) → k ≡ max i j → k ≡ largest (map depth (x ∷ xs))
largest_of depth x xs i j k h e s = rw (s, h, e) refl

items_made : (i : Item) (is : List Item) (x j k : ℕ) → item_form i ≡ true → x ≡ item_depth i → Listed item_form item_depth is j → k ≡ max x j → Built ItemList (item_list (i ∷ is)) k
items_made i is x j k h e (listed f g) s = built_items i is k (all_true h f) (largest_of item_depth i is x j k e g s)

items_holds : (n : Parsed) (k : ℕ) (c : Limit) → Holds (rule c ItemList) n k → Built ItemList (build ItemList n) k
items_holds n k c (holds_both {k = j} (holds_call (built_item i x h e)) r) = items_made i _ x j _ h e (items_hold _ _ j r) refl

source_holds : (n : Parsed) (k : ℕ) (c : Limit) → Holds (rule c OneSource) n k → Built OneSource (build OneSource n) k
source_holds n k c (holds_both (holds_one {t = x} a b) (holds_both (holds_one d e) (holds_one {t = y} f g))) =
    built_source (record { table = token_name x.token; alias = token_name y.token }) _ (all_true (name_form x.token a b) (name_form y.token f g)) (omega arith)

join_holds : (n : Parsed) (k : ℕ) (c : Limit) → Holds (rule c OneJoin) n k → Built OneJoin (build OneJoin n) k
join_holds n k c (holds_both (holds_left (holds_one a b)) (holds_both (holds_one d e) (holds_both (holds_call (built_source s i h z)) (holds_both (holds_one f g) (holds_call (built_expr m x j p q)))))) =
    built_join (record { left = true; source = s; on = x }) _ (all_true h p) (omega arith)
join_holds n k c (holds_both (holds_right holds_nothing) (holds_both (holds_one d e) (holds_both (holds_call (built_source s i h z)) (holds_both (holds_one f g) (holds_call (built_expr m x j p q)))))) =
    built_join (record { left = false; source = s; on = x }) _ (all_true h p) (omega arith)

sources_made : (s : Source) (js : List JoinTo) (x j k : ℕ) → source_form s ≡ true → x ≡ 0 → Listed join_form join_depth js j → k ≡ max x j → Built Sources (sources s js) k
sources_made s js x j k h e (listed f g) i = built_sources s js k h f (only (largest (map join_depth js)) e g i)
  where
    only : (a : ℕ) → x ≡ 0 → j ≡ a → k ≡ max x j → k ≡ a
    only a e g i = omega arith

sources_holds : (n : Parsed) (k : ℕ) (c : Limit) → Holds (rule c Sources) n k → Built Sources (build Sources n) k
sources_holds n k c (holds_both (holds_one a b) (holds_both {k = j} (holds_call (built_source s x h e)) r)) = sources_made s _ x j _ h e (joins_hold _ j r) (omega arith)

condition_holds : (n : Parsed) (k : ℕ) (c : Limit) → Holds (rule c Condition) n k → Built Condition (build Condition n) k
condition_holds n k c (holds_both (holds_one a b) (holds_call (built_expr m e j h s))) = built_condition e _ h (omega arith)

key_holds : (n : Parsed) (k : ℕ) (c : Limit) → Holds (rule c OneKey) n k → Built OneKey (build OneKey n) k
key_holds n k c (holds_both (holds_call (built_expr m e j h s)) (holds_left (holds_one a b))) = built_key (record { expr = e; down = true }) _ h (omega arith)
key_holds n k c (holds_both (holds_call (built_expr m e j h s)) (holds_right holds_nothing)) = built_key (record { expr = e; down = false }) _ h (omega arith)

keys_made : (i : SqlKey) (is : List SqlKey) (x j k : ℕ) → key_form i ≡ true → x ≡ key_depth i → Listed key_form key_depth is j → k ≡ max x j → Built KeyList (key_list (i ∷ is)) k
keys_made i is x j k h e (listed f g) s = built_keys i is k (all_true h f) (largest_of key_depth i is x j k e g s)

keys_holds : (n : Parsed) (k : ℕ) (c : Limit) → Holds (rule c KeyList) n k → Built KeyList (build KeyList n) k
keys_holds n k c (holds_both (holds_one a b) (holds_both (holds_one d f) (holds_both {k = j} (holds_call (built_key i x h e)) r))) = keys_made i _ x j _ h e (keys_hold _ _ j r) (omega arith)

most_holds : (n : Parsed) (k : ℕ) (c : Limit) → Holds (rule c Most) n k → Built Most (build Most n) k
most_holds n k c (holds_both (holds_one a b) (holds_one {t = x} f g)) = built_most (token_count x.token) _ (count_small x.token f) (omega arith)

skip_holds : (n : Parsed) (k : ℕ) (c : Limit) → Holds (rule c Skip) n k → Built Skip (build Skip n) k
skip_holds n k c (holds_both (holds_one a b) (holds_one {t = x} f g)) = built_skip (token_count x.token) _ (count_small x.token f) (omega arith)

-- the parts of a core
only_first : (a b : ℕ) (k : ℕ) → a ≡ b → k ≡ max a (max 0 0) → k ≡ max b (max 0 0)
only_first a b k h s = omega arith

parts_holds : (n : Parsed) (k : ℕ) (c : Limit) → Holds (rule c Parts) n k → Built Parts (build Parts n) k
parts_holds n k c (holds_both (holds_call (built_items i is x h e)) (holds_both (holds_left (holds_call (built_sources s js y f g o))) (holds_left (holds_call (built_condition d z p q))))) =
    built_parts i is (Some s) js (Some d) _ h (all_true f g) p (rw (e, o, q) refl)
parts_holds n k c (holds_both (holds_call (built_items i is x h e)) (holds_both (holds_left (holds_call (built_sources s js y f g o))) (holds_right holds_nothing))) =
    built_parts i is (Some s) js None _ h (all_true f g) refl (rw (e, o) refl)
parts_holds n k c (holds_both (holds_call (built_items i is x h e)) (holds_both (holds_right holds_nothing) (holds_left (holds_call (built_condition d z p q))))) =
    built_parts i is None [] (Some d) _ h refl p (rw (e, q) refl)
parts_holds n k c (holds_both (holds_call (built_items i is x h e)) (holds_both (holds_right holds_nothing) (holds_right holds_nothing))) =
    built_parts i is None [] None _ h refl refl (rw e refl)

-- the ending of a core, by each of its parts
data Counted (o : Option ℕ) (k : ℕ) : Type 0 where
  counted : count_form o ≡ true → k ≡ 0 → Counted o k

ending_made : (ks : List SqlKey) (most skip : Option ℕ) (x y z k : ℕ) → all_of key_form ks ≡ true → x ≡ largest (map key_depth ks) → Counted most y → Counted skip z → k ≡ max x (max y z) → Built Ending (ending ks most skip) k
ending_made ks most skip x y z k h e (counted f g) (counted p q) s = built_ending ks most skip k h f p (only (largest (map key_depth ks)) e g q s)
  where
    only : (a : ℕ) → x ≡ a → y ≡ 0 → z ≡ 0 → k ≡ max x (max y z) → k ≡ a
    only a e g q s = omega arith

ending_holds : (n : Parsed) (k : ℕ) (c : Limit) → Holds (rule c Ending) n k → Built Ending (build Ending n) k
ending_holds n k c (holds_both (holds_left (holds_call (built_keys i is x h e))) (holds_both (holds_left (holds_call (built_most a y f g))) (holds_left (holds_call (built_skip b z p q))))) = ending_made (i ∷ is) (Some a) (Some b) x y z _ h e (counted f g) (counted p q) refl
ending_holds n k c (holds_both (holds_left (holds_call (built_keys i is x h e))) (holds_both (holds_left (holds_call (built_most a y f g))) (holds_right holds_nothing))) = ending_made (i ∷ is) (Some a) None x y 0 _ h e (counted f g) (counted refl refl) refl
ending_holds n k c (holds_both (holds_left (holds_call (built_keys i is x h e))) (holds_both (holds_right holds_nothing) (holds_left (holds_call (built_skip b z p q))))) = ending_made (i ∷ is) None (Some b) x 0 z _ h e (counted refl refl) (counted p q) refl
ending_holds n k c (holds_both (holds_left (holds_call (built_keys i is x h e))) (holds_both (holds_right holds_nothing) (holds_right holds_nothing))) = ending_made (i ∷ is) None None x 0 0 _ h e (counted refl refl) (counted refl refl) refl
ending_holds n k c (holds_both (holds_right holds_nothing) (holds_both (holds_left (holds_call (built_most a y f g))) (holds_left (holds_call (built_skip b z p q))))) = ending_made [] (Some a) (Some b) 0 y z _ refl refl (counted f g) (counted p q) refl
ending_holds n k c (holds_both (holds_right holds_nothing) (holds_both (holds_left (holds_call (built_most a y f g))) (holds_right holds_nothing))) = ending_made [] (Some a) None 0 y 0 _ refl refl (counted f g) (counted refl refl) refl
ending_holds n k c (holds_both (holds_right holds_nothing) (holds_both (holds_right holds_nothing) (holds_left (holds_call (built_skip b z p q))))) = ending_made [] None (Some b) 0 0 z _ refl refl (counted refl refl) (counted p q) refl
ending_holds n k c (holds_both (holds_right holds_nothing) (holds_both (holds_right holds_nothing) (holds_right holds_nothing))) = ending_made [] None None 0 0 0 _ refl refl (counted refl refl) (counted refl refl) refl

-- cores
core_has : (distinct : Bool) (i : Item) (is : List Item) (from : Option Source) (js : List JoinTo) (e : Option SqlExpr) (ks : List SqlKey) (most skip : Option ℕ)
    → all_of item_form (i ∷ is) ≡ true → sources_form from js ≡ true → condition_form e ≡ true → all_of key_form ks ≡ true → count_form most ≡ true → count_form skip ≡ true
    → core_form (core_of distinct (parts (i ∷ is) from js e) (ending ks most skip)) ≡ true
core_has distinct i is from js e ks most skip a b d f g h = rw (le-leb 1 (length (i ∷ is)) (omega arith), a, b, d, f, g, h) refl

plain_has : (i : Item) (is : List Item) (from : Option Source) (js : List JoinTo) (e : Option SqlExpr)
    → all_of item_form (i ∷ is) ≡ true → sources_form from js ≡ true → condition_form e ≡ true → core_form (plain_core (parts (i ∷ is) from js e)) ≡ true
plain_has i is from js e a b d = rw (le-leb 1 (length (i ∷ is)) (omega arith), a, b, d) refl

-- the depth of a core, by those of its parts and its keys
core_sum : (a b d f : ℕ) (i j k : ℕ) → i ≡ max a (max b d) → j ≡ f → k ≡ max i j → k ≡ max a (max b (max d f))
core_sum a b d f i j k h e s = omega arith

plain_holds : (n : Parsed) (k : ℕ) (c : Limit) → Holds (rule c Plain) n k → Built Plain (build Plain n) k
plain_holds n k c (holds_both (holds_one a b) (holds_both (holds_one d f) (holds_both (holds_one g h) (holds_call (built_parts i is from js e x p q r s))))) =
    built_plain (plain_core (parts (i ∷ is) from js e)) _ (plain_has i is from js e p q r) refl
    (core_sum (largest (map item_depth (i ∷ is))) (largest (map join_depth js)) (condition_depth e) 0 x 0 _ s refl (omega arith))

unions_made : (x : Core) (xs : List Core) (i j k : ℕ) → core_form x ≡ true → is_plain x ≡ true → i ≡ core_depth x → Plains xs j → k ≡ max i j → Built Unions (core_list (x ∷ xs)) k
unions_made x xs i j k h p e (plains f g d) s = built_unions x xs k (all_true h f) (all_true p g) (largest_of core_depth x xs i j k e d s)

unions_holds : (n : Parsed) (k : ℕ) (c : Limit) → Holds (rule c Unions) n k → Built Unions (build Unions n) k
unions_holds n k c (holds_both {k = j} (holds_call (built_plain x i h p e)) r) = unions_made x _ i j _ h p e (cores_hold _ j r) refl

-- bodies
one_core : (distinct : Bool) (i : Item) (is : List Item) (from : Option Source) (js : List JoinTo) (e : Option SqlExpr) (ks : List SqlKey) (most skip : Option ℕ) (x y k : ℕ)
    → core_form (core_of distinct (parts (i ∷ is) from js e) (ending ks most skip)) ≡ true
    → x ≡ max (largest (map item_depth (i ∷ is))) (max (largest (map join_depth js)) (condition_depth e)) → y ≡ largest (map key_depth ks) → k ≡ max x y
    → Built OneBody (a_body (record { cores = core_of distinct (parts (i ∷ is) from js e) (ending ks most skip) ∷ [] })) k
one_core distinct i is from js e ks most skip x y k h s d q =
    built_body (record { cores = core_of distinct (parts (i ∷ is) from js e) (ending ks most skip) ∷ [] }) k h
    (alone (core_sum (largest (map item_depth (i ∷ is))) (largest (map join_depth js)) (condition_depth e) (largest (map key_depth ks)) x y k s d q))
  where
    alone : {a : ℕ} → k ≡ a → k ≡ max a 0
    alone h = omega arith

some_cores : (i : Item) (is : List Item) (from : Option Source) (js : List JoinTo) (e : Option SqlExpr) (d : Core) (ds : List Core) (x y k : ℕ)
    → core_form (plain_core (parts (i ∷ is) from js e)) ≡ true → all_of core_form (d ∷ ds) ≡ true → all_of is_plain (d ∷ ds) ≡ true
    → x ≡ max (largest (map item_depth (i ∷ is))) (max (largest (map join_depth js)) (condition_depth e)) → y ≡ largest (map core_depth (d ∷ ds)) → k ≡ max x y
    → Built OneBody (a_body (record { cores = plain_core (parts (i ∷ is) from js e) ∷ d ∷ ds })) k
some_cores i is from js e d ds x y k h f g s o q =
    built_body (record { cores = plain_core (parts (i ∷ is) from js e) ∷ d ∷ ds }) k (all_true (all_true h f) (all_true refl g))
    (largest_of core_depth (plain_core (parts (i ∷ is) from js e)) (d ∷ ds) x y k (core_sum (largest (map item_depth (i ∷ is))) (largest (map join_depth js)) (condition_depth e) 0 x 0 x s refl (omega arith)) o q)

body_holds : (n : Parsed) (k : ℕ) (c : Limit) → Holds (rule c OneBody) n k → Built OneBody (build OneBody n) k
body_holds n k c (holds_both (holds_one a b) (holds_left (holds_both (holds_one d f) (holds_both (holds_call (built_parts i is from js e x p q r s)) (holds_call (built_ending ks most skip y t u v w)))))) =
    one_core true i is from js e ks most skip x y _ (core_has true i is from js e ks most skip p q r t u v) s w (omega arith)
body_holds n k c (holds_both (holds_one a b) (holds_right (holds_both (holds_call (built_parts i is from js e x p q r s)) (holds_right (holds_call (built_ending ks most skip y t u v w)))))) =
    one_core false i is from js e ks most skip x y _ (core_has false i is from js e ks most skip p q r t u v) s w (omega arith)
body_holds n k c (holds_both (holds_one a b) (holds_right (holds_both (holds_call (built_parts i is from js e x p q r s)) (holds_left (holds_call (built_unions d ds y t u w)))))) =
    some_cores i is from js e d ds x y _ (plain_has i is from js e p q r) t u s w (omega arith)

-- steps and scripts
step_holds : (n : Parsed) (k : ℕ) (c : Limit) → Holds (rule c OneStep) n k → Built OneStep (build OneStep n) k
step_holds n k c (holds_both (holds_one {t = x} a b) (holds_both (holds_one d e) (holds_both (holds_one f g) (holds_both (holds_call (built_body y i h s)) (holds_one p q))))) =
    built_step (record { name = token_name x.token; body = y }) _ (all_true (name_form x.token a b) h) (omega arith)

steps_made : (i : Step) (is : List Step) (x j k : ℕ) → step_form i ≡ true → x ≡ step_depth i → Listed step_form step_depth is j → k ≡ max x j → Built Steps (step_list (i ∷ is)) k
steps_made i is x j k h e (listed f g) s = built_steps i is k (all_true h f) (largest_of step_depth i is x j k e g s)

steps_holds : (n : Parsed) (k : ℕ) (c : Limit) → Holds (rule c Steps) n k → Built Steps (build Steps n) k
steps_holds n k c (holds_both (holds_one a b) (holds_both {k = j} (holds_call (built_step i x h e)) r)) = steps_made i _ x j _ h e (steps_hold _ _ j r) (omega arith)

script_holds : (n : Parsed) (k : ℕ) (c : Limit) → Holds (rule c WholeScript) n k → Built WholeScript (build WholeScript n) k
script_holds n k c (holds_both (holds_left (holds_call (built_steps s ss x h e))) (holds_call (built_body b y f g))) = built_script (record { steps = s ∷ ss; last = b }) _ (all_true h f) (rw (e, g) refl)
script_holds n k c (holds_both (holds_right holds_nothing) (holds_call (built_body b y f g))) = built_script (record { steps = []; last = b }) _ f (rw g refl)

-- an expression stands inside its number of others, and is one itself
abbrev pub up : Symbol → ℕ → ℕ
up (Expr m) k = max (m + 1) k
up _ k = k

pub built : (c : Limit) (s : Symbol) (n : Parsed) (k : ℕ) → Holds (rule c s) n k → Built s (build s n) (up s k)
built c WholeScript n k h = script_holds n k c h
built c Steps n k h = steps_holds n k c h
built c OneStep n k h = step_holds n k c h
built c OneBody n k h = body_holds n k c h
built c Unions n k h = unions_holds n k c h
built c Plain n k h = plain_holds n k c h
built c Parts n k h = parts_holds n k c h
built c Ending n k h = ending_holds n k c h
built c ItemList n k h = items_holds n k c h
built c OneItem n k h = item_holds n k c h
built c Sources n k h = sources_holds n k c h
built c OneSource n k h = source_holds n k c h
built c OneJoin n k h = join_holds n k c h
built c Condition n k h = condition_holds n k c h
built c KeyList n k h = keys_holds n k c h
built c OneKey n k h = key_holds n k c h
built c Most n k h = most_holds n k c h
built c Skip n k h = skip_holds n k c h
built c (Expr m) n k h = expr_holds m n k c h
built c Simple n k h = simple_holds n k c h
built c NullOf n k h = null_holds n k c h
built c (Inner m) n k h = inner_holds m n k c h
built c (More s m) n k h = more_holds s m n k c h
built c (Cases m) n k h = cases_holds m n k c h
built c (Branches m) n k h = branches_holds m n k c h
built c (OneBranch m) n k h = branch_holds m n k c h
built c (Firsts m) n k h = firsts_holds m n k c h
