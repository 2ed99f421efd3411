-- What stays in front of a text that is written on.
use Rattle.std.specs.Prelude.{◌≡◌, ℕ, List, ◌++◌, length, take, drop}
use Rattle.std.proofs.Common.{◌∙◌, ap, sym, append_assoc}
use Rattle.std.proofs.Math.Seq.{take-append_seam, take-length}
use Rattle.std.proofs.lemmas.List.{take-append-drop}

-- the old text stands in front of the new one
pub record KeepsFront (old now : List ℕ) : Type 0 where
  pub front : take (length old) now ≡ old

-- what is written on behind a text keeps it in front
pub kept_append : (old added : List ℕ) → KeepsFront old (old ++ added)
kept_append old added = record { front = take-append_seam old added }

-- two steps
pub kept_on : (old mid now : List ℕ) → KeepsFront old mid → KeepsFront mid now → KeepsFront old now
kept_on old mid now k l =
    let e : mid ≡ old ++ drop (length old) mid = sym (take-append-drop (length old) mid) ∙ ap (λ (t : List ℕ). t ++ drop (length old) mid) k.front in
    let f : now ≡ mid ++ drop (length mid) now = sym (take-append-drop (length mid) now) ∙ ap (λ (t : List ℕ). t ++ drop (length mid) now) l.front in
    let g : now ≡ old ++ (drop (length old) mid ++ drop (length mid) now) =
    f ∙ ap (λ (t : List ℕ). t ++ drop (length mid) now) e ∙ append_assoc old (drop (length old) mid) (drop (length mid) now) in
    record { front = ap (λ (t : List ℕ). take (length old) t) g ∙ take-append_seam old _ }

pub kept_same : (old now : List ℕ) → now ≡ old → KeepsFront old now
kept_same old now e = record { front = ap (λ (t : List ℕ). take (length old) t) e ∙ take-length old }
