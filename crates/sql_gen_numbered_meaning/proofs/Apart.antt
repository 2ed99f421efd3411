-- Namings that keep numbers apart.
use Rattle.std.specs.Prelude.{◌≡◌, ℕ, ◌+◌, ◌<◌, ◌≤◌, ◌==◌, false}
use Rattle.std.proofs.Common.{arith, ◌∙◌}
use Rattle.std.proofs.lemmas.Bool.{eqb-true, eq-eqb, false_from_ne_true}
use Rattle.sql_gen_step_laws.specs.Carried.{Name}
use Rattle.sql_gen_step_laws.specs.StepTests.{same_bools}
use Rattle.sql_gen_numbered_meaning.specs.Numbered.{on_from}
use Rattle.sql_gen_numbered_meaning.specs.Namings.{KeepsApart}

same-behind : (k i j : ℕ) → (k + i == k + j) ≡ (i == j)
same-behind k i j = same_bools _ _
    (λ e. let q : k + i ≡ k + j = eqb-true (k + i) (k + j) e in eq-eqb i j (omega arith))
    (λ e. let q : i ≡ j = eqb-true i j e in eq-eqb (k + i) (k + j) (omega arith))

pub different : (i j : ℕ) → i < j → (i == j) ≡ false
different i j l = false_from_ne_true _ (λ e. let q : i ≡ j = eqb-true i j e in absurd (omega arith))

-- the naming that begins at k keeps the rest apart
pub apart-on : (k n m : ℕ) (name : ℕ → Name) → KeepsApart m name → k + n ≤ m → KeepsApart n (on_from k name)
apart-on k n m name a l = record {
  own = λ i j p q. a.own (k + i) (k + j) (omega arith) (omega arith) ∙ same-behind k i j;
  no_table = λ i p. a.no_table (k + i) (omega arith);
}

pub apart-less : (n m : ℕ) (name : ℕ → Name) → KeepsApart m name → n ≤ m → KeepsApart n name
apart-less n m name a l = record { own = λ i j p q. a.own i j (omega arith) (omega arith); no_table = λ i p. a.no_table i (omega arith) }
