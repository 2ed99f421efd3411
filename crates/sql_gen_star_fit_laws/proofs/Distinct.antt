-- Triples of which none stands twice are distinct.
use Rattle.std.proofs.Common.{◌≡◌, ℕ, ◌+◌, ◌≤◌, Bool, true, false, List, [], ◌∷◌, refl, ◌∙◌, arith}
use Rattle.std.specs.List.{AllByRecursion, IsDistinct}
use Rattle.bags.specs.Bag.{total}
use Rattle.rdf_meaning.specs.Terms.{RdfTriple, same_triple}
use Rattle.rdf_meaning.specs.TermLaws.{same_triple-self, same_triple_equiv}
use Rattle.layout_meaning.specs.Sound.{one_if}
use Rattle.layout_standing_meaning.specs.Standing.{AreTriples}

-- how often a triple stands
abbrev count : RdfTriple → List RdfTriple → ℕ
count t g = total (λ (u : RdfTriple). one_if (same_triple u t)) g

no_one : (b : Bool) (n : ℕ) → one_if b + n ≤ 0 → b ≡ false
no_one true n l = absurd (omega arith)
no_one false n l = refl

behind : (b : Bool) (n : ℕ) → b ≡ true → one_if b + n ≤ 1 → n ≤ 0
behind true n e l = omega arith
behind false n e l = cc

less : (a n m : ℕ) → a + n ≤ m → n ≤ m
less a n m l = omega arith

apart : (x : RdfTriple) (g : List RdfTriple) → count x g ≤ 0 → AllByRecursion (λ y. same_triple x y ≡ false) g
apart x [] l = tt
apart x (u ∷ g) l = (same_triple_equiv.symm x u ∙ no_one (same_triple u x) (count x g) l, apart x g (less (one_if (same_triple u x)) (count x g) 0 l))

once_distinct : (g : List RdfTriple) → ((t : RdfTriple) → count t g ≤ 1) → IsDistinct same_triple g
unfolding IsDistinct
once_distinct [] h = tt
once_distinct (x ∷ g) h =
    (apart x g (behind (same_triple x x) (count x g) (same_triple-self x) (h x)), once_distinct g (λ t. less (one_if (same_triple x t)) (count t g) 1 (h t)))

pub distinct : (g : List RdfTriple) → AreTriples g → IsDistinct same_triple g
distinct g h = once_distinct g h.once
