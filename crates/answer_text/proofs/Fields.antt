-- Fields with a tab between each two, while they are written.
use Rattle.std.specs.Prelude.{◌≡◌, ℕ, List, [], ◌∷◌, ◌++◌, refl}
use Rattle.std.proofs.Common.{ap}
use Rattle.query_eval_meaning.specs.AnswerText.{tabbed, tabbed_on}
use Rattle.answer_text.specs.Tabs.{left_of}

left_behind : (fields : List (List ℕ)) → left_of (9 ∷ []) fields ≡ tabbed_on fields
left_behind [] = refl
left_behind (field ∷ fields) = ap (λ (z : List ℕ). 9 ∷ (field ++ z)) (left_behind fields)

-- before the first field nothing stands
pub left_at_first : (fields : List (List ℕ)) → left_of [] fields ≡ tabbed fields
left_at_first [] = refl
left_at_first (field ∷ fields) = ap (λ (z : List ℕ). field ++ z) (left_behind fields)
