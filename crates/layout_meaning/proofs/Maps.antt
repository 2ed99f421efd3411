-- Sums over a map's entries, and its lookups, after a change.
use Rattle.std.proofs.Common.{◌≡◌, ℕ, ◌+◌, Bool, true, false, cond, List, [], ◌∷◌, Option, Some, None, arith, refl, sym, ap, ◌∙◌, Ordering, Less, Equal, Greater}
use Rattle.std.specs.Ordering.{nat_cmp, is_eq, match_ordering}
use Rattle.std.specs.BTreeMap.{is_at, insert_entry}
use Rattle.std.specs.Map.{lookup, set_value, remove_entry}
use Rattle.bags.specs.Bag.{total}

pub at_true : (n a : ℕ) → is_at (nat_cmp n) a ≡ true → a ≡ n
at_true n a h = grind arith

pub set_value-total : {X : Type 0} (h : ℕ × X → ℕ) (n : ℕ) (v w : X) (es : List (ℕ × X)) → lookup (is_at (nat_cmp n)) es ≡ Some v
    → total h (set_value (is_at (nat_cmp n)) es w) + h (n, v) ≡ total h es + h (n, w)
set_value-total h n v w [] p = cc
set_value-total {X} h n v w (e ∷ es) p = by (set_value-total h n v w es) (is_at (nat_cmp n) e.0) refl p
  where
    by : (lookup (is_at (nat_cmp n)) es ≡ Some v → total h (set_value (is_at (nat_cmp n)) es w) + h (n, v) ≡ total h es + h (n, w)) → (b : Bool) → is_at (nat_cmp n) e.0 ≡ b → cond b (Some e.1) (lookup (is_at (nat_cmp n)) es) ≡ Some v
        → total h (cond b ((e.0, w) ∷ es) (e ∷ set_value (is_at (nat_cmp n)) es w)) + h (n, v) ≡ total h (e ∷ es) + h (n, w)
    by ih true t q =
        let k : e.0 ≡ n = at_true n e.0 t in
        let d : e.1 ≡ v = cc in
        let a : h e ≡ h (n, v) = ap (λ (z : ℕ). h (z, e.1)) k ∙ ap (λ (z : X). h (n, z)) d in
        let b : h (e.0, w) ≡ h (n, w) = ap (λ (z : ℕ). h (z, w)) k in
        omega arith
    by ih false t q = omega (arith, ih q)

pub remove_entry-total : {X : Type 0} (h : ℕ × X → ℕ) (n : ℕ) (v : X) (es : List (ℕ × X)) → lookup (is_at (nat_cmp n)) es ≡ Some v
    → total h (remove_entry (is_at (nat_cmp n)) es) + h (n, v) ≡ total h es
remove_entry-total h n v [] p = cc
remove_entry-total {X} h n v (e ∷ es) p = by (remove_entry-total h n v es) (is_at (nat_cmp n) e.0) refl p
  where
    by : (lookup (is_at (nat_cmp n)) es ≡ Some v → total h (remove_entry (is_at (nat_cmp n)) es) + h (n, v) ≡ total h es) → (b : Bool) → is_at (nat_cmp n) e.0 ≡ b → cond b (Some e.1) (lookup (is_at (nat_cmp n)) es) ≡ Some v
        → total h (cond b es (e ∷ remove_entry (is_at (nat_cmp n)) es)) + h (n, v) ≡ total h (e ∷ es)
    by ih true t q =
        let k : e.0 ≡ n = at_true n e.0 t in
        let d : e.1 ≡ v = cc in
        let a : h e ≡ h (n, v) = ap (λ (z : ℕ). h (z, e.1)) k ∙ ap (λ (z : X). h (n, z)) d in
        omega arith
    by ih false t q = omega (arith, ih q)

pub insert_entry-total : {X : Type 0} (h : ℕ × X → ℕ) (n : ℕ) (w : X) (es : List (ℕ × X)) → lookup (is_at (nat_cmp n)) es ≡ None
    → total h (insert_entry nat_cmp es n w) ≡ total h es + h (n, w)
insert_entry-total h n w [] p = omega arith
insert_entry-total {X} h n w (e ∷ es) p = by (insert_entry-total h n w es) (nat_cmp n e.0) p
  where
    by : (lookup (is_at (nat_cmp n)) es ≡ None → total h (insert_entry nat_cmp es n w) ≡ total h es + h (n, w)) → (o : Ordering) → cond (is_eq o) (Some e.1) (lookup (is_at (nat_cmp n)) es) ≡ None
        → total h (match_ordering o ((n, w) ∷ e ∷ es) ((e.0, w) ∷ es) (e ∷ insert_entry nat_cmp es n w)) ≡ total h (e ∷ es) + h (n, w)
    by ih Less q = omega arith
    by ih Equal q = cc
    by ih Greater q = omega (arith, ih q)

-- what another key has stays
pub set_value-other : {X : Type 0} (n m : ℕ) (w : X) (es : List (ℕ × X)) → (m ≡ n → ⊥) → lookup (is_at (nat_cmp m)) (set_value (is_at (nat_cmp n)) es w) ≡ lookup (is_at (nat_cmp m)) es
set_value-other n m w [] d = refl
set_value-other {X} n m w (e ∷ es) d = by (set_value-other n m w es d) (is_at (nat_cmp n) e.0) refl (is_at (nat_cmp m) e.0) refl
  where
    by : (lookup (is_at (nat_cmp m)) (set_value (is_at (nat_cmp n)) es w) ≡ lookup (is_at (nat_cmp m)) es) → (b : Bool) → is_at (nat_cmp n) e.0 ≡ b → (c : Bool) → is_at (nat_cmp m) e.0 ≡ c
        → lookup (is_at (nat_cmp m)) (cond b ((e.0, w) ∷ es) (e ∷ set_value (is_at (nat_cmp n)) es w)) ≡ lookup (is_at (nat_cmp m)) (e ∷ es)
    by ih true t true u = absurd (d (sym (at_true m e.0 u) ∙ at_true n e.0 t))
    by ih true t false u = rw u refl
    by ih false t true u = rw u refl
    by ih false t false u = rw u ih

pub set_value-same : {X : Type 0} (n : ℕ) (v w : X) (es : List (ℕ × X)) → lookup (is_at (nat_cmp n)) es ≡ Some v → lookup (is_at (nat_cmp n)) (set_value (is_at (nat_cmp n)) es w) ≡ Some w
set_value-same n v w [] p = cc
set_value-same {X} n v w (e ∷ es) p = by (set_value-same n v w es) (is_at (nat_cmp n) e.0) refl p
  where
    by : (lookup (is_at (nat_cmp n)) es ≡ Some v → lookup (is_at (nat_cmp n)) (set_value (is_at (nat_cmp n)) es w) ≡ Some w) → (b : Bool) → is_at (nat_cmp n) e.0 ≡ b → cond b (Some e.1) (lookup (is_at (nat_cmp n)) es) ≡ Some v
        → lookup (is_at (nat_cmp n)) (cond b ((e.0, w) ∷ es) (e ∷ set_value (is_at (nat_cmp n)) es w)) ≡ Some w
    by ih true t q = rw t refl
    by ih false t q = rw t (ih q)

pub remove_entry-other : {X : Type 0} (n m : ℕ) (es : List (ℕ × X)) → (m ≡ n → ⊥) → lookup (is_at (nat_cmp m)) (remove_entry (is_at (nat_cmp n)) es) ≡ lookup (is_at (nat_cmp m)) es
remove_entry-other n m [] d = refl
remove_entry-other {X} n m (e ∷ es) d = by (remove_entry-other n m es d) (is_at (nat_cmp n) e.0) refl (is_at (nat_cmp m) e.0) refl
  where
    by : (lookup (is_at (nat_cmp m)) (remove_entry (is_at (nat_cmp n)) es) ≡ lookup (is_at (nat_cmp m)) es) → (b : Bool) → is_at (nat_cmp n) e.0 ≡ b → (c : Bool) → is_at (nat_cmp m) e.0 ≡ c
        → lookup (is_at (nat_cmp m)) (cond b es (e ∷ remove_entry (is_at (nat_cmp n)) es)) ≡ lookup (is_at (nat_cmp m)) (e ∷ es)
    by ih true t true u = absurd (d (sym (at_true m e.0 u) ∙ at_true n e.0 t))
    by ih true t false u = rw u refl
    by ih false t true u = rw u refl
    by ih false t false u = rw u ih

not_here : (n m : ℕ) → (m ≡ n → ⊥) → is_at (nat_cmp m) n ≡ false
not_here n m d = by (is_at (nat_cmp m) n) refl
  where
    by : (b : Bool) → is_at (nat_cmp m) n ≡ b → b ≡ false
    by true t = absurd (d (sym (at_true m n t)))
    by false t = refl

pub at_itself : (n : ℕ) → is_at (nat_cmp n) n ≡ true
at_itself n = grind arith

pub insert_entry-other : {X : Type 0} (n m : ℕ) (w : X) (es : List (ℕ × X)) → (m ≡ n → ⊥) → lookup (is_at (nat_cmp n)) es ≡ None → lookup (is_at (nat_cmp m)) (insert_entry nat_cmp es n w) ≡ lookup (is_at (nat_cmp m)) es
insert_entry-other n m w [] d p = rw (not_here n m d) refl
insert_entry-other {X} n m w (e ∷ es) d p = by (insert_entry-other n m w es d) (nat_cmp n e.0) p
  where
    by : (lookup (is_at (nat_cmp n)) es ≡ None → lookup (is_at (nat_cmp m)) (insert_entry nat_cmp es n w) ≡ lookup (is_at (nat_cmp m)) es)
        → (o : Ordering) → cond (is_eq o) (Some e.1) (lookup (is_at (nat_cmp n)) es) ≡ None
        → lookup (is_at (nat_cmp m)) (match_ordering o ((n, w) ∷ e ∷ es) ((e.0, w) ∷ es) (e ∷ insert_entry nat_cmp es n w)) ≡ lookup (is_at (nat_cmp m)) (e ∷ es)
    by ih Less q = rw (not_here n m d) refl
    by ih Equal q = cc
    by ih Greater q = ap (λ (o : Option X). cond (is_at (nat_cmp m) e.0) (Some e.1) o) (ih q)

pub insert_entry-same : {X : Type 0} (n : ℕ) (w : X) (es : List (ℕ × X)) → lookup (is_at (nat_cmp n)) es ≡ None → lookup (is_at (nat_cmp n)) (insert_entry nat_cmp es n w) ≡ Some w
insert_entry-same n w [] p = rw (at_itself n) refl
insert_entry-same {X} n w (e ∷ es) p = by (insert_entry-same n w es) (nat_cmp n e.0) refl p
  where
    by : (lookup (is_at (nat_cmp n)) es ≡ None → lookup (is_at (nat_cmp n)) (insert_entry nat_cmp es n w) ≡ Some w)
        → (o : Ordering) → nat_cmp n e.0 ≡ o → cond (is_eq o) (Some e.1) (lookup (is_at (nat_cmp n)) es) ≡ None
        → lookup (is_at (nat_cmp n)) (match_ordering o ((n, w) ∷ e ∷ es) ((e.0, w) ∷ es) (e ∷ insert_entry nat_cmp es n w)) ≡ Some w
    by ih Less t q = rw (at_itself n) refl
    by ih Equal t q = cc
    by ih Greater t q = rw t (ih q)

pub remove-set : {X : Type 0} (n : ℕ) (w : X) (es : List (ℕ × X)) → remove_entry (is_at (nat_cmp n)) (set_value (is_at (nat_cmp n)) es w) ≡ remove_entry (is_at (nat_cmp n)) es
remove-set n w [] = refl
remove-set {X} n w (e ∷ es) = by (remove-set n w es) (is_at (nat_cmp n) e.0) refl
  where
    by : remove_entry (is_at (nat_cmp n)) (set_value (is_at (nat_cmp n)) es w) ≡ remove_entry (is_at (nat_cmp n)) es → (b : Bool) → is_at (nat_cmp n) e.0 ≡ b
        → remove_entry (is_at (nat_cmp n)) (cond b ((e.0, w) ∷ es) (e ∷ set_value (is_at (nat_cmp n)) es w)) ≡ cond b es (e ∷ remove_entry (is_at (nat_cmp n)) es)
    by ih true t = rw t refl
    by ih false t = rw t (ap (λ (l : List (ℕ × X)). e ∷ l) ih)
