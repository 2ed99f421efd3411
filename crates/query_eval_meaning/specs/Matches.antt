-- A left join, as its matches and as the mappings of the left side without one.
use Rattle.std.specs.Prelude.{◌≡◌, ℕ, zero, suc, Bool, true, not, ◌&&◌, List, map, is_some}
use Rattle.std.specs.List.{flat_map, list_any}
use Rattle.query_eval_meaning.specs.Mapping.{Mapping, width}
use Rattle.query_eval_meaning.specs.Answer.{same_place}
use Rattle.query_eval_meaning.specs.Eval.{found}

-- the same at each variable below n
abbrev pub same_below : ℕ → Mapping → Mapping → Bool
same_below zero m k = true
same_below (suc v) m k = same_place (m v) (k v) && same_below v m k

-- a mapping of the left side, and its merge with one of the right side
pub record Match : Type 0 where
  pub left : Mapping
  pub merged : Mapping

-- each merge that passes, beside the mapping of the left side that it comes from
abbrev pub matches_of : (Mapping → Bool) → List Mapping → List Mapping → List Match
matches_of passes ls rs = flat_map (λ a. map (λ (m : Mapping). record { left = a; merged = m }) (found passes rs a)) ls

-- no match comes from such a mapping
abbrev pub unmatched : List Match → Mapping → Bool
unmatched ms a = not (list_any (λ (q : Match). same_below width q.left a) ms)

-- what a variable shares between x and b is bound by y
abbrev pub IsCovered : Mapping → Mapping → Mapping → Type 0
IsCovered x y b = (v : ℕ) → is_some (x v) ≡ true → is_some (b v) ≡ true → is_some (y v) ≡ true
