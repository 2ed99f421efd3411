-- The variables of stars, one by one.
use Rattle.std.specs.Prelude.{◌≡◌, ℕ, Bool, true, false, ◌||◌, ◌&&◌, List, [], ◌∷◌, refl}
use Rattle.std.proofs.Common.{sym, ap, ap₂, ◌∙◌}
use Rattle.query_eval_meaning.specs.Leaf.{is_variable}
use Rattle.query_eval_meaning.specs.Variables.{Variables}
use Rattle.query_plan_meaning.specs.declared.star.Arm.{Arm}
use Rattle.query_plan_meaning.specs.declared.star.Star.{Star}
use Rattle.query_plan_meaning.specs.declared.star.StarBody.{StarBody}
use Rattle.query_plan_meaning.specs.declared.star.StarBody.TheVariants.{Both, Either}
use Rattle.query_plan_meaning.specs.Stars.{arm_variables, arms_variables, body_certain, star_certain, stars_certain}
use Rattle.sparql_variables.specs.Bits.{members}
use Rattle.sparql_certain.specs.Certain.{Has}
use Rattle.sparql_certain.specs.Patterns.{Adds}

or_false : (b : Bool) → (b || false) ≡ b
or_false true = refl
or_false false = refl

or_assoc : (a b c : Bool) → ((a || b) || c) ≡ (a || (b || c))
or_assoc true b c = refl
or_assoc false b c = refl

pub adds_arm : (before between after : ℕ) (a : Arm) → Adds before (λ v. is_variable v a.pred) between → Adds between (λ v. is_variable v a.value) after → Adds before (arm_variables a) after
adds_arm before between after a x y = record {
  same = λ v. y.same v ∙ ap (λ (u : Bool). u || is_variable v a.value) (x.same v) ∙ or_assoc (members before v) (is_variable v a.pred) (is_variable v a.value);
}

pub ruleset arm_laws = (adds_arm)

-- the set has what of the whole the items that are left don't have
pub record Rest {X : Type 0} (of : X → Variables) (all : List X → Variables) (set : ℕ) (xs : List X) (vs : Variables) : Type 0 where
  pub same : (v : ℕ) → (members set v || all xs v) ≡ vs v

starts : {X : Type 0} (of : X → Variables) (all : List X → Variables) (set : ℕ) (xs : List X) → ((v : ℕ) → members set v ≡ false) → Rest of all set xs (all xs)
starts of all set xs h = record { same = λ v. ap (λ (u : Bool). u || all xs v) (h v) }

goes_on : {X : Type 0} (of : X → Variables) (all : List X → Variables) → ((x : X) (xs : List X) (v : ℕ) → all (x ∷ xs) v ≡ (of x v || all xs v)) →
    (before after : ℕ) (x : X) (xs : List X) (vs : Variables) → Rest of all before (x ∷ xs) vs → Adds before (of x) after → Rest of all after xs vs
goes_on of all step before after x xs vs h a = record {
  same = λ v.
      ap (λ (u : Bool). u || all xs v) (a.same v) ∙ or_assoc (members before v) (of x v) (all xs v) ∙ ap (λ (u : Bool). members before v || u) (sym (step x xs v)) ∙ h.same v;
}

ends : {X : Type 0} (of : X → Variables) (all : List X → Variables) → ((v : ℕ) → all [] v ≡ false) → (set : ℕ) (vs : Variables) → Rest of all set [] vs → Has set vs
ends of all none set vs h = record { same = λ v. sym (or_false (members set v)) ∙ ap (λ (u : Bool). members set v || u) (sym (none v)) ∙ h.same v }

abbrev pub RestOfArms : ℕ → List Arm → Variables → Type 0
RestOfArms set arms vs = Rest arm_variables arms_variables set arms vs

pub arms_start : (set : ℕ) (arms : List Arm) → ((v : ℕ) → members set v ≡ false) → RestOfArms set arms (arms_variables arms)
arms_start set arms h = starts arm_variables arms_variables set arms h

pub arms_go_on : (before after : ℕ) (a : Arm) (arms : List Arm) (vs : Variables) → RestOfArms before (a ∷ arms) vs → Adds before (arm_variables a) after → RestOfArms after arms vs
arms_go_on before after a arms vs h e = goes_on arm_variables arms_variables (λ x xs v. refl) before after a arms vs h e

pub arms_end : (set : ℕ) (vs : Variables) → RestOfArms set [] vs → Has set vs
arms_end set vs h = ends arm_variables arms_variables (λ v. refl) set vs h

pub ruleset arms_laws = (arms_start, arms_go_on, arms_end)

pub has_both : (set : ℕ) (b : StarBody) (required optional : List Arm) → b ≡ Both required optional → Has set (arms_variables required) → Has set (body_certain b)
has_both set b required optional is h = record { same = λ v. h.same v ∙ ap (λ (x : StarBody). body_certain x v) (sym is) }

pub has_either : (set one other : ℕ) (b : StarBody) (left right : List Arm) → b ≡ Either left right → Has one (arms_variables left) → Has other (arms_variables right) → ((v : ℕ) → members set v ≡ (members one v && members other v)) → Has set (body_certain b)
has_either set one other b left right is h k e = record { same = λ v. e v ∙ ap₂ (λ (p q : Bool). p && q) (h.same v) (k.same v) ∙ ap (λ (x : StarBody). body_certain x v) (sym is) }

pub ruleset body_laws = (has_both, has_either)

pub adds_star : (before between body after : ℕ) (s : Star) → Adds before (λ v. is_variable v s.entity) between → Has body (body_certain s.body) → ((v : ℕ) → members after v ≡ (members between v || members body v)) → Adds before (star_certain s) after
adds_star before between body after s x h e = record {
  same = λ v. e v ∙ ap₂ (λ (p q : Bool). p || q) (x.same v) (h.same v) ∙ or_assoc (members before v) (is_variable v s.entity) (body_certain s.body v);
}

pub ruleset star_laws = (adds_star)

-- a star that is added to no variables
pub has_star : (before after : ℕ) (s : Star) → ((v : ℕ) → members before v ≡ false) → Adds before (star_certain s) after → Has after (star_certain s)
has_star before after s h a = record { same = λ v. a.same v ∙ ap (λ (u : Bool). u || star_certain s v) (h v) }

pub ruleset alone_laws = (has_star)

abbrev pub RestOfStars : ℕ → List Star → Variables → Type 0
RestOfStars set stars vs = Rest star_certain stars_certain set stars vs

pub stars_start : (set : ℕ) (stars : List Star) → ((v : ℕ) → members set v ≡ false) → RestOfStars set stars (stars_certain stars)
stars_start set stars h = starts star_certain stars_certain set stars h

pub stars_go_on : (before after : ℕ) (s : Star) (stars : List Star) (vs : Variables) → RestOfStars before (s ∷ stars) vs → Adds before (star_certain s) after → RestOfStars after stars vs
stars_go_on before after s stars vs h e = goes_on star_certain stars_certain (λ x xs v. refl) before after s stars vs h e

pub stars_end : (set : ℕ) (vs : Variables) → RestOfStars set [] vs → Has set vs
stars_end set vs h = ends star_certain stars_certain (λ v. refl) set vs h

pub ruleset stars_laws = (stars_start, stars_go_on, stars_end)
