-- What a walk keeps.
use Rattle.sql_alias_meaning.specs.Each.{Keeps}

-- a part of the node still fits
pub fit_later : {N G : Type 0} (f g : N → Type 0) (s t : G → Type 0) (y : N) → Keeps f g s t → f y → g y
fit_later f g s t y k h = k.takes y h
