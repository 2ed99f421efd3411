-- The least choice, pattern by pattern.
use Rattle.std.specs.Prelude.{◌≡◌, ◌⊎◌, Bool, true, false, if◌then◌else◌, not, cond, List, [], ◌∷◌, Option, Some, None, refl}
use Rattle.std.specs.Option.{unwrap_or}
use Rattle.std.proofs.Common.{sym, ap, ◌∙◌, inl, inr}
use Rattle.std.proofs.lemmas.Bool.{cases_Bool}
use Rattle.layout_meaning.specs.Facts.{CountsOf}
use Rattle.query_meaning.specs.declared.pattern.Pattern.{Pattern}
use Rattle.query_eval_meaning.specs.Variables.{Variables}
use Rattle.query_flow_meaning.specs.declared.step.Method.TheVariants.{Scan}
use Rattle.query_flow_meaning.specs.Flow.{Choice, with_pattern, least_from}
use Rattle.flow_tree.specs.Taken.{is_taken, left_by, least_choice}

-- with what may be chosen of one more pattern
abbrev pub with_next : CountsOf → Variables → Option Choice → Pattern → Choice
with_next counts vs best p = with_pattern counts vs (unwrap_or best (record { pattern = p; method = Scan })) p

-- with all patterns that aren't taken
abbrev pub best_from : CountsOf → Variables → List Choice → Option Choice → List Pattern → Option Choice
best_from counts vs taken best [] = best
best_from counts vs taken best (p ∷ ps) = best_from counts vs taken (if is_taken taken p then best else Some (with_next counts vs best p)) ps

from-some : (counts : CountsOf) (vs : Variables) (taken : List Choice) (b : Choice) (ps : List Pattern) → best_from counts vs taken (Some b) ps ≡ Some (least_from counts vs b (left_by taken ps))
from-some counts vs taken b [] = refl
from-some counts vs taken b (p ∷ ps) = at (cases_Bool (is_taken taken p)) (λ c. from-some counts vs taken c ps)
  where
    at : (is_taken taken p ≡ true) ⊎ (is_taken taken p ≡ false) → ((c : Choice) → best_from counts vs taken (Some c) ps ≡ Some (least_from counts vs c (left_by taken ps))) →
        best_from counts vs taken (Some b) (p ∷ ps) ≡ Some (least_from counts vs b (left_by taken (p ∷ ps)))
    at (inl e) more = rw e (more b)
    at (inr e) more = rw e (more (with_pattern counts vs b p))

from-none : (counts : CountsOf) (vs : Variables) (taken : List Choice) (ps : List Pattern) → best_from counts vs taken None ps ≡ least_choice counts vs (left_by taken ps)
from-none counts vs taken [] = refl
from-none counts vs taken (p ∷ ps) = at (cases_Bool (is_taken taken p)) (from-none counts vs taken ps)
  where
    at : (is_taken taken p ≡ true) ⊎ (is_taken taken p ≡ false) → best_from counts vs taken None ps ≡ least_choice counts vs (left_by taken ps) →
        best_from counts vs taken None (p ∷ ps) ≡ least_choice counts vs (left_by taken (p ∷ ps))
    at (inl e) more = rw e more
    at (inr e) more = rw e (from-some counts vs taken (with_pattern counts vs (record { pattern = p; method = Scan }) p) ps)

-- the best choice so far, with the patterns that are to come, is the least of all
pub record Rest (counts : CountsOf) (vs : Variables) (taken : List Choice) (best : Option Choice) (ps all : List Pattern) : Type 0 where
  pub same : best_from counts vs taken best ps ≡ least_choice counts vs (left_by taken all)

pub rest_starts : (counts : CountsOf) (vs : Variables) (taken : List Choice) (ps : List Pattern) → Rest counts vs taken None ps ps
rest_starts counts vs taken ps = record { same = from-none counts vs taken ps }

pub rest_skips : (counts : CountsOf) (vs : Variables) (taken : List Choice) (best : Option Choice) (p : Pattern) (ps all : List Pattern) → Rest counts vs taken best (p ∷ ps) all → is_taken taken p ≡ true → Rest counts vs taken best ps all
rest_skips counts vs taken best p ps all h e = record { same = sym (ap (λ (b : Bool). best_from counts vs taken (if b then best else Some (with_next counts vs best p)) ps) e) ∙ h.same }

pub rest_takes : (counts : CountsOf) (vs : Variables) (taken : List Choice) (best : Option Choice) (start new : Choice) (p : Pattern) (ps all : List Pattern) → Rest counts vs taken best (p ∷ ps) all → is_taken taken p ≡ false →
    start ≡ unwrap_or best (record { pattern = p; method = Scan }) → new ≡ with_pattern counts vs start p → Rest counts vs taken (Some new) ps all
rest_takes counts vs taken best start new p ps all h e s n = record {
  same =
      ap (λ (c : Choice). best_from counts vs taken (Some c) ps) (n ∙ ap (λ (c : Choice). with_pattern counts vs c p) s)
      ∙ sym (ap (λ (b : Bool). best_from counts vs taken (if b then best else Some (with_next counts vs best p)) ps) e) ∙ h.same;
}

pub rest_ends : (counts : CountsOf) (vs : Variables) (taken : List Choice) (best : Option Choice) (all : List Pattern) → Rest counts vs taken best [] all → best ≡ least_choice counts vs (left_by taken all)
rest_ends counts vs taken best all h = h.same

pub ruleset least_laws = (rest_starts, rest_skips, rest_takes, rest_ends)
