-- Choices that are not refused.
use Rattle.std.specs.Prelude.{◌≡◌, ◌≤◌, ℕ, map, None}
use Rattle.std.specs.Global.{Vec}
use Rattle.colouring_file_meaning.specs.ColourLines.{AreFit}
use Rattle.colouring_file.specs.Colours.{colour_of}
use Rattle.colouring_file.specs.declared.colours.ColourLine.{ColourLine}
use Rattle.layout_choice.specs.declared.choice.ColourWay.TheVariants.{HashOnly, Greedy, Given}
use Rattle.layout_choice.specs.Chosen.{refusal_chosen}

-- counts that no layout refuses
pub record AreCounts (direct reverse hashes : ℕ) : Type 0 where
  pub some_direct : 1 ≤ direct
  pub few_direct : direct ≤ 32
  pub some_reverse : 1 ≤ reverse
  pub few_reverse : reverse ≤ 32
  pub some_hash : 1 ≤ hashes
  pub few_hashes : hashes ≤ 4

abbrev pub FitColoursAreTaken : Type 0
FitColoursAreTaken = (direct reverse hashes : ℕ) (lines : Vec ColourLine) → AreCounts direct reverse hashes → AreFit direct reverse (map colour_of lines.items) → refusal_chosen direct reverse hashes (Given lines) ≡ None

abbrev pub OtherWaysAreTaken : Type 0
OtherWaysAreTaken = (direct reverse hashes : ℕ) → AreCounts direct reverse hashes → (refusal_chosen direct reverse hashes HashOnly ≡ None) × (refusal_chosen direct reverse hashes Greedy ≡ None)
