-- Each value of an entity under a predicate stands once.
use Rattle.std.proofs.Common.{◌≡◌, ℕ, ◌+◌, ◌≤◌, ◌==◌, ◌&&◌, nat_eq, Bool, true, false, cond, List, [], ◌∷◌, refl, ap, ◌∙◌, arith}
use Rattle.std.specs.List.{filter, AllByRecursion, IsDistinct}
use Rattle.bags.specs.Bag.{total}
use Rattle.bags.specs.BagLaws.{total-map, total-filter, total-same}
use Rattle.layout_meaning.specs.Columns.{ColumnsOf}
use Rattle.layout_meaning.specs.Side.{Item}
use Rattle.layout_meaning.specs.Sound.{one_if, times}
use Rattle.layout_standing_meaning.specs.Dictionary.{Entry}
use Rattle.layout_standing_meaning.specs.Contents.{SideContents, said, held_values}
use Rattle.layout_standing_meaning.specs.Standing.{SideStands}
use Rattle.layout_standing_meaning.proofs.Once.{same_item, said-once}

none-times : (v : ℕ) (xs : List ℕ) → times v xs ≡ 0 → AllByRecursion (λ (w : ℕ). nat_eq v w ≡ false) xs
none-times v [] z = tt
none-times v (x ∷ xs) z = by (x == v) refl z (none-times v xs)
  where
    apart : (x == v) ≡ false → nat_eq v x ≡ false
    apart e = grind arith

    by : (b : Bool) → (x == v) ≡ b → one_if b + times v xs ≡ 0 → (times v xs ≡ 0 → AllByRecursion (λ (w : ℕ). nat_eq v w ≡ false) xs) → (nat_eq v x ≡ false) × AllByRecursion (λ (w : ℕ). nat_eq v w ≡ false) xs
    by true e z rest = absurd (omega arith)
    by false e z rest = (apart e, rest (omega arith))

distinct : (xs : List ℕ) → ((v : ℕ) → times v xs ≤ 1) → IsDistinct nat_eq xs
unfolding IsDistinct
distinct [] once = tt
distinct (x ∷ xs) once = (none-times x xs none, distinct xs (λ (v : ℕ). (let h = once v in omega arith)))
  where
    none : times x xs ≡ 0
    none = let e : (x == x) ≡ true = grind arith in let one : one_if (x == x) ≡ 1 = ap one_if e in let h = once x in omega arith

-- a value of an entity under a predicate is an item
value-item : (e p v : ℕ) (y : Item) → cond (y.entity == e && y.pred == p) (one_if (y.value == v)) 0 ≡ one_if (same_item y (record { entity = e; pred = p; value = v }))
value-item e p v y = by (y.entity == e) (y.pred == p)
  where
    by : (a b : Bool) → cond (a && b) (one_if (y.value == v)) 0 ≡ one_if (a && (b && y.value == v))
    by true true = refl
    by true false = refl
    by false b = refl

held-times : (s : SideContents) (e p v : ℕ) → times v (held_values s e p) ≡ total (λ (y : Item). one_if (same_item y (record { entity = e; pred = p; value = v }))) (said s)
held-times s e p v =
    total-map (λ (w : ℕ). one_if (w == v)) (λ (x : Item). x.value) (filter (λ (x : Item). x.entity == e && x.pred == p) (said s))
    ∙ total-filter (λ (x : Item). one_if (x.value == v)) (λ (x : Item). x.entity == e && x.pred == p) (said s)
    ∙ total-same _ _ (value-item e p v) (said s)

pub held-distinct : (columns : ColumnsOf) (es : List Entry) (s : SideContents) → SideStands columns es s → (e p : ℕ) → IsDistinct nat_eq (held_values s e p)
held-distinct columns es s st e p =
    distinct (held_values s e p) (λ (v : ℕ). (let k = held-times s e p v in let h = said-once s st.lists_sound st.one_pair (record { entity = e; pred = p; value = v }) in omega arith))
