use Rattle.std.specs.Prelude.{ℕ, ◌≤◌, ◌<◌, List, All}

-- what holds of all columns that are made
pub record AreInRange (count hashes : ℕ) (known : List (List ℕ × ℕ)) : Type 0 where
  pub low : 1 ≤ count
  pub high : count ≤ 32
  pub some_hash : 1 ≤ hashes
  pub few_hashes : hashes ≤ 4
  pub below : All (λ p. p.1 < count) known
