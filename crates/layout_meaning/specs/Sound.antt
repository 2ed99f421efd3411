-- What holds of each side.
use Rattle.std.specs.Prelude.{◌≡◌, ℕ, zero, suc, nat_eq, ◌≤◌, ◌<◌, ◌==◌, Bool, true, false, if◌then◌else◌, List, [], ◌∷◌, Option, Some, None, length}
use Rattle.std.specs.List.{AllByRecursion, list_any}
use Rattle.bags.specs.Bag.{total}
use Rattle.layout_meaning.specs.Side.{Value, One, Many, Pair, Row, Rows, Entities, ValueLists, SideState, all_free}

abbrev pub one_if : Bool → ℕ
one_if b = if b then 1 else 0

-- the sum of g over the pairs of all entities
abbrev pub over : (ℕ → Option Pair → ℕ) → Entities → ℕ
over g ents = total (λ (en : ℕ × Rows). total (total (g en.0)) en.1) ents

-- 1 where the pair has the predicate
abbrev pub has_pred : ℕ → Option Pair → ℕ
has_pred p None = 0
has_pred p (Some q) = one_if (q.pred == p)

-- 1 where the pair names the list
abbrev pub value_names : ℕ → Value → ℕ
value_names n (One v) = 0
value_names n (Many m) = one_if (m == n)

abbrev pub names : ℕ → Option Pair → ℕ
names n None = 0
names n (Some q) = value_names n q.value

abbrev pub times : ℕ → List ℕ → ℕ
times v xs = total (λ w. one_if (w == v)) xs

-- how many lists have this number
abbrev pub numbered : ℕ → ValueLists → ℕ
numbered n lists = total (λ (l : ℕ × List ℕ). one_if (l.0 == n)) lists

-- the rows of one entity: there are some, each is k wide and holds a pair, and no predicate stands twice
pub record AreSoundRows (k : ℕ) (rows : Rows) : Type 0 where
  pub some : 0 < length rows
  pub wide : AllByRecursion (λ (r : Row). length r ≡ k) rows
  pub full : AllByRecursion (λ (r : Row). all_free r ≡ false) rows
  pub once : (p : ℕ) → total (total (has_pred p)) rows ≤ 1

-- a list has at least two values, none of them twice
pub record IsSoundList (xs : List ℕ) : Type 0 where
  pub two : 2 ≤ length xs
  pub once : (v : ℕ) → times v xs ≤ 1

-- each list has a number of its own, below the next, which stands in exactly one pair, and no pair has another number
pub record IsSound (k : ℕ) (s : SideState) : Type 0 where
  pub rows : AllByRecursion (λ (en : ℕ × Rows). AreSoundRows k en.1) s.entities
  pub lists : AllByRecursion (λ (l : ℕ × List ℕ). IsSoundList l.1) s.lists
  pub named : (n : ℕ) → over (λ e. names n) s.entities ≡ numbered n s.lists
  pub apart : (n : ℕ) → numbered n s.lists ≤ 1
  pub below : (n : ℕ) → s.next ≤ n → numbered n s.lists ≡ 0

-- the pair in a column
abbrev pub pair_at : Row → ℕ → Option Pair
pair_at [] c = None
pair_at (o ∷ r) zero = o
pair_at (o ∷ r) (suc c) = pair_at r c

-- a row has its predicates in their candidate columns alone
pub record RowKeeps (candidates : ℕ → List ℕ) (r : Row) : Type 0 where
  pub in_columns : (c : ℕ) (q : Pair) → pair_at r c ≡ Some q → list_any (nat_eq c) (candidates q.pred) ≡ true

pub record KeepsTo (candidates : ℕ → List ℕ) (s : SideState) : Type 0 where
  pub rows : AllByRecursion (λ (en : ℕ × Rows). AllByRecursion (RowKeeps candidates) en.1) s.entities
