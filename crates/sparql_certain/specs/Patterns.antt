-- The variables of patterns, one by one.
use Rattle.std.specs.Prelude.{◌≡◌, ℕ, Bool, true, false, ◌||◌, ◌==◌, List, [], ◌∷◌, refl}
use Rattle.std.proofs.Common.{sym, ap, ◌∙◌}
use Rattle.rdf_meaning.specs.Terms.{RdfTerm}
use Rattle.query_meaning.specs.declared.pattern.Slot.TheVariants as slot
use Rattle.query_meaning.specs.declared.pattern.Pattern.{Pattern}
use Rattle.query_eval_meaning.specs.Leaf.{is_variable, in_pattern}
use Rattle.query_eval_meaning.specs.Variables.{Variables, pattern_variables}
use Rattle.sparql_variables.specs.Bits.{members}
use Rattle.sparql_certain.specs.Certain.{Has}

-- the second set has besides what the first one has these variables
pub record Adds (before : ℕ) (vs : Variables) (after : ℕ) : Type 0 where
  pub same : (v : ℕ) → members after v ≡ (members before v || vs v)

or_false : (b : Bool) → (b || false) ≡ b
or_false true = refl
or_false false = refl

or_assoc : (a b c : Bool) → ((a || b) || c) ≡ (a || (b || c))
or_assoc true b c = refl
or_assoc false b c = refl

pub adds_variable : (before after w : ℕ) → ((v : ℕ) → members after v ≡ (members before v || v == w)) → Adds before (λ v. is_variable v (slot.Var w)) after
adds_variable before after w h = record { same = h }

pub adds_nothing : (before : ℕ) (t : RdfTerm) → Adds before (λ v. is_variable v (slot.Const t)) before
adds_nothing before t = record { same = λ v. sym (or_false (members before v)) }

pub ruleset slot_laws = (adds_variable, adds_nothing)

pub adds_pattern : (before a b after : ℕ) (p : Pattern) → Adds before (λ v. is_variable v p.s) a → Adds a (λ v. is_variable v p.p) b → Adds b (λ v. is_variable v p.o) after → Adds before (λ v. in_pattern v p) after
adds_pattern before a b after p x y z = record {
  same = λ v.
      z.same v ∙ ap (λ (u : Bool). u || is_variable v p.o) (y.same v ∙ ap (λ (u : Bool). u || is_variable v p.p) (x.same v))
      ∙ ap (λ (u : Bool). u || is_variable v p.o) (or_assoc (members before v) (is_variable v p.s) (is_variable v p.p))
      ∙ or_assoc (members before v) (is_variable v p.s || is_variable v p.p) (is_variable v p.o)
      ∙ ap (λ (u : Bool). members before v || u) (or_assoc (is_variable v p.s) (is_variable v p.p) (is_variable v p.o));
}

pub ruleset pattern_laws = (adds_pattern)

-- the set has what of these variables the patterns that are left don't have
pub record Rest (set : ℕ) (qs : List Pattern) (vs : Variables) : Type 0 where
  pub same : (v : ℕ) → (members set v || pattern_variables qs v) ≡ vs v

pub rest_starts : (set : ℕ) (ps : List Pattern) → ((v : ℕ) → members set v ≡ false) → Rest set ps (pattern_variables ps)
rest_starts set ps h = record { same = λ v. ap (λ (u : Bool). u || pattern_variables ps v) (h v) }

pub rest_goes_on : (before after : ℕ) (p : Pattern) (qs : List Pattern) (vs : Variables) → Rest before (p ∷ qs) vs → Adds before (λ v. in_pattern v p) after → Rest after qs vs
rest_goes_on before after p qs vs h a = record {
  same = λ v. ap (λ (u : Bool). u || pattern_variables qs v) (a.same v) ∙ or_assoc (members before v) (in_pattern v p) (pattern_variables qs v) ∙ h.same v;
}

pub rest_ends : (set : ℕ) (vs : Variables) → Rest set [] vs → Has set vs
rest_ends set vs h = record { same = λ v. sym (or_false (members set v)) ∙ h.same v }

pub ruleset list_laws = (rest_starts, rest_goes_on, rest_ends)
