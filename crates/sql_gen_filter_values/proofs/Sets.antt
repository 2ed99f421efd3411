-- What a list adds to a set, one by one.
use Rattle.std.proofs.Common.{◌≡◌, ℕ, ◌+◌, ◌<◌, ◌≤◌, Bool, true, false, ◌||◌, List, [], ◌∷◌, ◌++◌, map, length, get_or, take, refl, sym, ap, ap₂, ◌∙◌, if◌then◌else◌, cond, add-one, append-nil, arith}
use Rattle.std.specs.List.{list_any, filter}
use Rattle.std.proofs.lemmas.List.{take_more, take_all}
use Rattle.std.proofs.lemmas.List.Elements.{filter-append}
use Rattle.std.proofs.lemmas.List.Folds.{list_any-append}
use Rattle.query_meaning.specs.declared.expression.CompareOp.{CompareOp}
use Rattle.query_meaning.specs.declared.expression.ValueExpr.{ValueExpr}
use Rattle.query_meaning.specs.declared.expression.TruthExpr.{TruthExpr}
use Rattle.query_meaning.specs.declared.expression.TruthExpr.TheVariants as truths
use Rattle.query_meaning.specs.declared.expression.TruthExpr.TheOpen as truth
use Rattle.query_meaning.specs.declared.expression.TruthExpr.TheFolds.{fold-roll-TruthExpr}
use Rattle.query_meaning.specs.declared.expression.TruthExpr.TheViews as views
use Rattle.query_eval_meaning.specs.Mapping.{width}
use Rattle.query_eval_meaning.specs.Variables.{Variables}
use Rattle.sql_gen_filter_meaning.specs.ConditionVariables.{value_variables, truth_variables, truth_variables_step, numbers_below}

pub or_assoc : (a b c : Bool) → ((a || b) || c) ≡ (a || (b || c))
or_assoc true b c = refl
or_assoc false b c = refl

pub or_false : (b : Bool) → (b || false) ≡ b
or_false true = refl
or_false false = refl

-- nothing yet
pub none_yet : {X : Type 0} (has : X → Bool) (b : Bool) → b ≡ (b || list_any has [])
none_yet has b = sym (or_false b)

-- one more
pub one_more : {X : Type 0} (has : X → Bool) (xs : List X) (i : ℕ) (x : X) (a b c : Bool) → i < length xs → x ≡ get_or xs i x → b ≡ (a || list_any has (take i xs)) → c ≡ (b || has x) → c ≡ (a || list_any has (take (i + 1) xs))
one_more {X} has xs i x a b c lt is before after =
    after ∙ ap (λ (p : Bool). p || has x) before ∙ or_assoc a (list_any has (take i xs)) (has x)
    ∙ ap (λ (p : Bool). a || p) (ap (λ (p : Bool). list_any has (take i xs) || p) (sym (or_false (has x))) ∙ sym (list_any-append has (take i xs) (x ∷ []))
    ∙ ap (λ (ys : List X). list_any has ys) (ap (λ (y : X). take i xs ++ y ∷ []) is ∙ sym (take_more xs i x lt)))

-- all
pub whole : {X : Type 0} (has : X → Bool) (xs : List X) (i : ℕ) (a b : Bool) → length xs ≤ i → b ≡ (a || list_any has (take i xs)) → b ≡ (a || list_any has xs)
whole {X} has xs i a b le e = e ∙ ap (λ (ys : List X). a || list_any has ys) (take_all i xs le)

pub any_map : {X Y : Type 0} (p : Y → Bool) (f : X → Y) (xs : List X) → list_any p (map f xs) ≡ list_any (λ x. p (f x)) xs
any_map p f [] = refl
any_map p f (x ∷ xs) = ap (λ (b : Bool). p (f x) || b) (any_map p f xs)

-- ---- expressions with parts in a list

any_truths : (es : List TruthExpr) (w : ℕ) → list_any (λ (f : Variables). f w) (map truth_variables es) ≡ list_any (λ e. truth_variables e w) es
any_truths es w = any_map (λ (f : Variables). f w) truth_variables es

pub variables_all : (es : List TruthExpr) (w : ℕ) → truth_variables (truths.All es) w ≡ list_any (λ e. truth_variables e w) es
variables_all es w = ap (λ (e : TruthExpr). truth_variables e w) (sym (views.rolls-All es)) ∙ ap (λ (f : Variables). f w) (fold-roll-TruthExpr Variables truth_variables_step (truth.All es)) ∙ any_truths es w

pub variables_any : (es : List TruthExpr) (w : ℕ) → truth_variables (truths.Any es) w ≡ list_any (λ e. truth_variables e w) es
variables_any es w = ap (λ (e : TruthExpr). truth_variables e w) (sym (views.rolls-Any es)) ∙ ap (λ (f : Variables). f w) (fold-roll-TruthExpr Variables truth_variables_step (truth.Any es)) ∙ any_truths es w

pub variables_compare : (c : CompareOp) (a b : ValueExpr) (w : ℕ) → truth_variables (truths.Compare c a b) w ≡ (value_variables a w || value_variables b w)
variables_compare c a b w = ap (λ (e : TruthExpr). truth_variables e w) (sym (views.rolls-Compare c a b)) ∙ ap (λ (f : Variables). f w) (fold-roll-TruthExpr Variables truth_variables_step (truth.Compare c a b))

pub variables_same_term : (a b : ValueExpr) (w : ℕ) → truth_variables (truths.SameTerm a b) w ≡ (value_variables a w || value_variables b w)
variables_same_term a b w = ap (λ (e : TruthExpr). truth_variables e w) (sym (views.rolls-SameTerm a b)) ∙ ap (λ (f : Variables). f w) (fold-roll-TruthExpr Variables truth_variables_step (truth.SameTerm a b))

pub ruleset set_laws = (or_assoc, variables_all, variables_any, variables_compare, variables_same_term)

-- ---- in order

filter_next : (p : ℕ → Bool) (n : ℕ) → filter p (numbers_below (n + 1)) ≡ filter p (numbers_below n) ++ (if p n then n ∷ [] else [])
filter_next p n = ap (λ (m : ℕ). filter p (numbers_below m)) (add-one n) ∙ filter-append p (numbers_below n) (n ∷ [])

-- a number that is in the set, and one that isn't
pub next_in : (p : ℕ → Bool) (n : ℕ) (xs ys : List ℕ) → p n ≡ true → xs ≡ filter p (numbers_below n) → ys ≡ xs ++ n ∷ [] → ys ≡ filter p (numbers_below (n + 1))
next_in p n xs ys t before after = after ∙ ap (λ (zs : List ℕ). zs ++ n ∷ []) before ∙ sym (filter_next p n ∙ ap (λ (b : Bool). filter p (numbers_below n) ++ (if b then n ∷ [] else [])) t)

pub next_out : (p : ℕ → Bool) (n : ℕ) (xs : List ℕ) → p n ≡ false → xs ≡ filter p (numbers_below n) → xs ≡ filter p (numbers_below (n + 1))
next_out p n xs f before = before ∙ sym (append-nil (filter p (numbers_below n))) ∙ sym (filter_next p n ∙ ap (λ (b : Bool). filter p (numbers_below n) ++ (if b then n ∷ [] else [])) f)

filter-same : (p q : ℕ → Bool) → ((n : ℕ) → p n ≡ q n) → (ns : List ℕ) → filter p ns ≡ filter q ns
filter-same p q e [] = refl
filter-same p q e (n ∷ ns) = ap₂ (λ (b : Bool) (l : List ℕ). cond b (n ∷ l) l) (e n) (filter-same p q e ns)

-- all numbers
pub in_order : (p : ℕ → Bool) (none : ℕ → Bool) (set : ℕ → Bool) (n : ℕ) (xs : List ℕ) → ((w : ℕ) → none w ≡ false) → ((w : ℕ) → set w ≡ (none w || p w)) → 64 ≤ n → n ≤ 64 → xs ≡ filter set (numbers_below n) → xs ≡ filter p (numbers_below width)
unfolding width
in_order p none set n xs empty has l m e =
    let all : n ≡ 64 = omega arith in
    e ∙ ap (λ (k : ℕ). filter set (numbers_below k)) all ∙ filter-same set p (λ w. has w ∙ ap (λ (b : Bool). b || p w) (empty w)) (numbers_below 64)
