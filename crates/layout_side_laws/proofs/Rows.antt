-- The rows of an entity after those of one became others.
use Rattle.std.proofs.Common.{◌≡◌, ℕ, ◌==◌, Bool, true, false, [], ◌∷◌, Option, Some, None, if◌then◌else◌, refl, ap, arith}
use Rattle.std.specs.Ordering.{nat_cmp}
use Rattle.std.specs.BTreeMap.{is_at}
use Rattle.std.specs.Map.{lookup, remove_entry}
use Rattle.bags.specs.Bag.{total}
use Rattle.layout_meaning.specs.Side.{Rows, Entities, or_empty, rows_of, put_by, with_rows}
use Rattle.layout_meaning.specs.Sound.{one_if}
use Rattle.layout_meaning.proofs.Maps.{at_true, remove_entry-total, set_value-same, set_value-other, insert_entry-same, insert_entry-other, remove_entry-other}
use Rattle.layout_standing_meaning.specs.Sides.{AreOnce}

pub rows-other : (ents : Entities) (e f : ℕ) (new : Rows) → (f ≡ e → ⊥) → rows_of (with_rows ents e new) f ≡ rows_of ents f
rows-other ents e f new d = by (lookup (is_at (nat_cmp e)) ents) refl new
  where
    by : (o : Option Rows) → lookup (is_at (nat_cmp e)) ents ≡ o → (new : Rows) → rows_of (put_by o ents e new) f ≡ rows_of ents f
    by None t new = ap (λ (o : Option Rows). or_empty o) (insert_entry-other e f new ents d t)
    by (Some old) t [] = ap (λ (o : Option Rows). or_empty o) (remove_entry-other e f ents d)
    by (Some old) t (r ∷ rs) = ap (λ (o : Option Rows). or_empty o) (set_value-other e f (r ∷ rs) ents d)

-- what counts nowhere is found nowhere
none-there : (e : ℕ) (ents : Entities) → total (λ (en : ℕ × Rows). one_if (en.0 == e)) ents ≡ 0 → lookup (is_at (nat_cmp e)) ents ≡ None
none-there e [] z = refl
none-there e (en ∷ ents) z = by (is_at (nat_cmp e) en.0) refl (none-there e ents)
  where
    by : (b : Bool) → is_at (nat_cmp e) en.0 ≡ b → (total (λ (n : ℕ × Rows). one_if (n.0 == e)) ents ≡ 0 → lookup (is_at (nat_cmp e)) ents ≡ None) → (if b then Some en.1 else lookup (is_at (nat_cmp e)) ents) ≡ None
    by true t ih = let k : en.0 ≡ e = at_true e en.0 t in let q : (en.0 == e) ≡ true = grind arith in let one : one_if (en.0 == e) ≡ 1 = ap one_if q in absurd (omega arith)
    by false t ih = ih (omega arith)

pub rows-own : (ents : Entities) (e : ℕ) (new : Rows) → AreOnce ents → rows_of (with_rows ents e new) e ≡ new
rows-own ents e new once = by (lookup (is_at (nat_cmp e)) ents) refl new
  where
    gone : (old : Rows) → lookup (is_at (nat_cmp e)) ents ≡ Some old → total (λ (en : ℕ × Rows). one_if (en.0 == e)) (remove_entry (is_at (nat_cmp e)) ents) ≡ 0
    gone old t =
        let h = remove_entry-total (λ (en : ℕ × Rows). one_if (en.0 == e)) e old ents t in
        let q : (e == e) ≡ true = grind arith in
        let one : one_if (e == e) ≡ 1 = ap one_if q in
        let w = once e in
        omega arith

    by : (o : Option Rows) → lookup (is_at (nat_cmp e)) ents ≡ o → (new : Rows) → rows_of (put_by o ents e new) e ≡ new
    by None t new = ap (λ (o : Option Rows). or_empty o) (insert_entry-same e new ents t)
    by (Some old) t [] = ap (λ (o : Option Rows). or_empty o) (none-there e (remove_entry (is_at (nat_cmp e)) ents) (gone old t))
    by (Some old) t (r ∷ rs) = ap (λ (o : Option Rows). or_empty o) (set_value-same e old (r ∷ rs) ents t)
