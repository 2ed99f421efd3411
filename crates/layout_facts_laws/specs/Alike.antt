-- Contents that say the same (this project's own).
use Rattle.std.specs.Prelude.{ℕ}
use Rattle.bags.specs.Bag.{SameBag}
use Rattle.layout_meaning.specs.Side.{elements_of}
use Rattle.layout_standing_meaning.specs.Contents.{SideContents, Contents}

-- the same rows, and the same elements under each list's number, in whatever order
pub record AreAlike (s t : SideContents) : Type 0 where
  pub rows : SameBag s.rows t.rows
  pub elements : (n : ℕ) → SameBag (elements_of s.lists n) (elements_of t.lists n)

-- the same terms under the same ids, and two sides alike
pub record SayAlike (c d : Contents) : Type 0 where
  pub terms : SameBag c.terms d.terms
  pub direct : AreAlike c.direct d.direct
  pub reverse : AreAlike c.reverse d.reverse
