-- What an answer tells of an item.
use Rattle.std.proofs.Common.{◌≡◌, Bool, true, false, refl}
use Rattle.layout_meaning.specs.Side.{Item}
use Rattle.value_lists.specs.declared.lists.Put.{Put}
use Rattle.value_lists.specs.declared.lists.Put.TheVariants.{Added, There}
use Rattle.value_lists.specs.Answers.{put_of}

pub was_new : (p : Put) (b : Bool) → p ≡ Added → p ≡ put_of b → b ≡ false
was_new p true a h = cc
was_new p false a h = refl

pub was_there : (p : Put) (b : Bool) → p ≡ There → p ≡ put_of b → b ≡ true
was_there p true a h = refl
was_there p false a h = cc

-- an item by equal numbers
pub same_numbers : (x y : Item) → x.entity ≡ y.entity → x.pred ≡ y.pred → x.value ≡ y.value → x ≡ y
same_numbers x y a b c = λ i. record { entity = a i; pred = b i; value = c i }
