-- Variables below 64 have places, and so have those of a star of one arm.
use Rattle.std.specs.Prelude.{◌≡◌, ◌<◌, ℕ, true, [], ◌∷◌, refl}
use Rattle.std.proofs.Common.{sym, ap, ap₂, ◌∙◌, subst}
use Rattle.std.proofs.lemmas.Bool.{lt-ltb, and_from}
use Rattle.std.specs.List.{list_all}
use Rattle.rdf_meaning.specs.declared.side.SideName.{SideName}
use Rattle.query_meaning.specs.declared.pattern.Slot.{Slot}
use Rattle.query_meaning.specs.declared.pattern.Slot.TheVariants.{Var}
use Rattle.query_eval_meaning.specs.Mapping as mappings
use Rattle.query_eval_meaning.specs.Mapping.{width}
use Rattle.query_eval_meaning.specs.Width.{slot_in_width}
use Rattle.query_plan_meaning.specs.declared.star.Arm.{Arm}
use Rattle.query_plan_meaning.specs.declared.star.Star.{Star}
use Rattle.query_plan_meaning.specs.Merged.{both}
use Rattle.query_plan_meaning.specs.Stars.{star_in_width}

below_width : (v : ℕ) → v < 64 → v < width
unfolding mappings.width
below_width v l = l

pub variable_has_place : (v n : ℕ) → v ≡ n → n < 64 → slot_in_width (Var v) ≡ true
variable_has_place v n e l = rw e (lt-ltb n width (below_width n l))

pub star_has_places : (star : Star) (x p o : Slot) (side : SideName) (n : ℕ) → star ≡ both x side (record { pattern = n; pred = p; value = o } ∷ []) [] →
    slot_in_width x ≡ true → slot_in_width p ≡ true → slot_in_width o ≡ true → star_in_width star ≡ true
star_has_places star x p o side n is h k l = rw (is, h, k, l) refl

pub ruleset star_laws = (star_has_places)
