-- Repeated parts: what they make has its form and its levels.
use Rattle.std.specs.Prelude.{Bool, true, List, ◌∷◌, ◌≡◌, ℕ, ◌+◌, max, map}
use Rattle.std.proofs.Common.{refl, arith}
use Rattle.grammar_meaning.specs.Grammar.{one, call, ◌⨾◌, many}
use Rattle.sql_meaning.specs.Kinds.{Kind}
use Rattle.sql_meaning.specs.Grammar.{OneStep, Plain, OneItem, OneJoin, OneKey, Expr, OneBranch}
use Rattle.sql_meaning.specs.Grammar.{Parsed, items_in, joins_in, keys_in, cores_in, steps_in, parts_in, branches_in}
use Rattle.sql_meaning.specs.Scripts.{all_of, item_form, item_depth, join_form, join_depth, key_form, key_depth, core_form, core_depth, is_plain, step_form, step_depth, expr_form, expr_depth, largest}
use Rattle.sql_meaning.specs.declared.script.Core.{Core}
use Rattle.sql_text_reading_laws.specs.Parts.{of_branch, branch_levels}
use Rattle.sql_text_reading_laws.specs.Parts.{built_step, built_plain, built_item, built_join, built_key, built_expr, built_branch, Holds, holds_nothing, holds_one, holds_call, holds_both, holds_left, holds_right, holds_many}

-- items of the form, whose largest depth is k
pub data Listed {A : Type 0} (form : A → Bool) (depth : A → ℕ) (xs : List A) (k : ℕ) : Type 0 where
  listed : all_of form xs ≡ true → k ≡ largest (map depth xs) → Listed form depth xs k

more : {A : Type 0} {form : A → Bool} {depth : A → ℕ} {x : A} {xs : List A} {i j k : ℕ} → form x ≡ true → i ≡ depth x → Listed form depth xs j → k ≡ max i j → Listed form depth (x ∷ xs) k
more h e (listed i j) s = listed (rw h i) (rw (s, e, j) refl)

-- parts behind a separator
pub items_hold : (f : Kind → Bool) (n : Parsed) (k : ℕ) → Holds (many (one f ⨾ call OneItem)) n k → Listed item_form item_depth (items_in n) k
items_hold f n k (holds_many (holds_left (holds_both {k = c} (holds_both (holds_one x y) (holds_call (built_item i b h e))) r))) = more h e (items_hold f _ c r) (omega arith)
items_hold f n k (holds_many (holds_right holds_nothing)) = listed refl refl

pub keys_hold : (f : Kind → Bool) (n : Parsed) (k : ℕ) → Holds (many (one f ⨾ call OneKey)) n k → Listed key_form key_depth (keys_in n) k
keys_hold f n k (holds_many (holds_left (holds_both {k = c} (holds_both (holds_one x y) (holds_call (built_key i b h e))) r))) = more h e (keys_hold f _ c r) (omega arith)
keys_hold f n k (holds_many (holds_right holds_nothing)) = listed refl refl

pub steps_hold : (f : Kind → Bool) (n : Parsed) (k : ℕ) → Holds (many (one f ⨾ call OneStep)) n k → Listed step_form step_depth (steps_in n) k
steps_hold f n k (holds_many (holds_left (holds_both {k = c} (holds_both (holds_one x y) (holds_call (built_step i b h e))) r))) = more h e (steps_hold f _ c r) (omega arith)
steps_hold f n k (holds_many (holds_right holds_nothing)) = listed refl refl

-- joins stand side by side
pub joins_hold : (n : Parsed) (k : ℕ) → Holds (many (call OneJoin)) n k → Listed join_form join_depth (joins_in n) k
joins_hold n k (holds_many (holds_left (holds_both {k = c} (holds_call (built_join i b h e)) r))) = more h e (joins_hold _ c r) refl
joins_hold n k (holds_many (holds_right holds_nothing)) = listed refl refl

-- and so do cores without an ending
pub data Plains (xs : List Core) (k : ℕ) : Type 0 where
  plains : all_of core_form xs ≡ true → all_of is_plain xs ≡ true → k ≡ largest (map core_depth xs) → Plains xs k

more_plains : {x : Core} {xs : List Core} {i j k : ℕ} → core_form x ≡ true → is_plain x ≡ true → i ≡ core_depth x → Plains xs j → k ≡ max i j → Plains (x ∷ xs) k
more_plains h p e (plains i q j) s = plains (rw h i) (rw p q) (rw (s, e, j) refl)

pub cores_hold : (n : Parsed) (k : ℕ) → Holds (many (call Plain)) n k → Plains (cores_in n) k
cores_hold n k (holds_many (holds_left (holds_both {k = c} (holds_call (built_plain i b h p e)) r))) = more_plains h p e (cores_hold _ c r) refl
cores_hold n k (holds_many (holds_right holds_nothing)) = plains refl refl refl

-- parts that stand inside m expressions
pub data Inside {A : Type 0} (form : A → Bool) (depth : A → ℕ) (m : ℕ) (xs : List A) (k : ℕ) : Type 0 where
  inside : all_of (λ b. b) (map form xs) ≡ true → max m k ≡ m + largest (map depth xs) → Inside form depth m xs k

further : {A : Type 0} {form : A → Bool} {depth : A → ℕ} {m : ℕ} {x : A} {xs : List A} {i j k : ℕ} → form x ≡ true → i ≡ m + depth x → Inside form depth m xs j → k ≡ max i j → Inside form depth m (x ∷ xs) k
further {depth = depth} {m = m} {x = x} {xs = xs} {i = i} {j = j} {k = k} h e (inside g d) s = inside (rw h g) (sum (depth x) (largest (map depth xs)) e d s)
  where
    sum : (a b : ℕ) → i ≡ m + a → max m j ≡ m + b → k ≡ max i j → max m k ≡ m + max a b
    sum a b e d s = omega arith

pub exprs_hold : (f : Kind → Bool) (m : ℕ) (n : Parsed) (k : ℕ) → Holds (many (one f ⨾ call (Expr m))) n k → Inside expr_form expr_depth m (parts_in n) k
exprs_hold f m n k (holds_many (holds_left (holds_both {k = c} (holds_both (holds_one x y) (holds_call (built_expr i e b h d))) r))) = further h d (exprs_hold f m _ c r) (omega arith)
exprs_hold f m n k (holds_many (holds_right holds_nothing)) = inside refl (omega arith)

pub branches_hold : (m : ℕ) (n : Parsed) (k : ℕ) → Holds (many (call (OneBranch m))) n k → Inside of_branch branch_levels m (branches_in n) k
branches_hold m n k (holds_many (holds_left (holds_both {k = c} (holds_call (built_branch i e b h d)) r))) = further h d (branches_hold m _ c r) refl
branches_hold m n k (holds_many (holds_right holds_nothing)) = inside refl (omega arith)
