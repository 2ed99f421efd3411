-- Choices that are taken one after the other.
use Rattle.std.specs.Prelude.{◌≡◌, ◌⊎◌, ℕ, suc, Bool, true, false, not, ◌&&◌, ◌||◌, cond, List, [], ◌∷◌, ◌++◌, length, map, Option, Some, None, refl}
use Rattle.std.proofs.Common.{sym, ap, ap₂, ◌∙◌, subst, inl, inr}
use Rattle.std.proofs.Math.Path.{fun_ext}
use Rattle.std.proofs.lemmas.Bool.{cases_Bool}
use Rattle.std.proofs.lemmas.List.{append_assoc, append-nil, map-append}
use Rattle.std.proofs.lemmas.List.Folds.{list_any-append}
use Rattle.std.specs.List.{list_any, filter}
use Rattle.layout_meaning.specs.Facts.{CountsOf}
use Rattle.query_meaning.specs.declared.pattern.Pattern.{Pattern}
use Rattle.query_eval_meaning.specs.Leaf.{in_pattern}
use Rattle.query_eval_meaning.specs.Variables.{Variables, pattern_variables}
use Rattle.sparql_variables.specs.Bits.{members}
use Rattle.sparql_certain.specs.Patterns.{Adds}
use Rattle.query_flow_meaning.specs.Flow.{Choice, same_number, others, patterns_in, IsGreedy, flow_from, flow_of}
use Rattle.query_flow_meaning.specs.Planned.{are_numbered_apart}
use Rattle.query_flow_laws.proofs.Greedy.{flow_of-is, flow-greedy}
use Rattle.query_flow_laws.proofs.Planned.{apart-distinct}
use Rattle.flow_tree.specs.Taken.{is_taken, left_by, least_choice}

or_false : (b : Bool) → (b || false) ≡ b
or_false true = refl
or_false false = refl

-- ---- what is left

all-left : (ps : List Pattern) → left_by [] ps ≡ ps
all-left [] = refl
all-left (p ∷ ps) = ap (λ (qs : List Pattern). p ∷ qs) (all-left ps)

taken-more : (taken : List Choice) (c : Choice) (p : Pattern) → is_taken (taken ++ c ∷ []) p ≡ (is_taken taken p || same_number c.pattern p)
taken-more taken c p = list_any-append (λ (d : Choice). same_number d.pattern p) taken (c ∷ []) ∙ ap (λ (b : Bool). is_taken taken p || b) (or_false (same_number c.pattern p))

left-more : (taken : List Choice) (c : Choice) (ps : List Pattern) → others c.pattern (left_by taken ps) ≡ left_by (taken ++ c ∷ []) ps
left-more taken c [] = refl
left-more taken c (p ∷ ps) = at (cases_Bool (is_taken taken p)) (cases_Bool (same_number c.pattern p)) (left-more taken c ps)
  where
    at : (is_taken taken p ≡ true) ⊎ (is_taken taken p ≡ false) → (same_number c.pattern p ≡ true) ⊎ (same_number c.pattern p ≡ false) → others c.pattern (left_by taken ps) ≡ left_by (taken ++ c ∷ []) ps →
        others c.pattern (left_by taken (p ∷ ps)) ≡ left_by (taken ++ c ∷ []) (p ∷ ps)
    at (inl e) s more = rw (e, taken-more taken c p ∙ ap (λ (b : Bool). b || same_number c.pattern p) e) more
    at (inr e) (inl s) more = rw (e, s, taken-more taken c p ∙ ap₂ (λ (a b : Bool). a || b) e s) more
    at (inr e) (inr s) more = rw (e, s, taken-more taken c p ∙ ap₂ (λ (a b : Bool). a || b) e s) (ap (λ (qs : List Pattern). p ∷ qs) more)

-- ---- one step

step-some : (n : ℕ) (counts : CountsOf) (taken left : List Pattern) (c : Choice) → least_choice counts (pattern_variables taken) left ≡ Some c → flow_from (suc n) counts taken left ≡ c ∷ flow_from n counts (taken ++ c.pattern ∷ []) (others c.pattern left)
step-some n counts taken [] c e = cc
step-some n counts taken (p ∷ ps) c e = ap (λ (o : Option Choice). after o) e
  where
    after : Option Choice → List Choice
    after None = []
    after (Some d) = d ∷ flow_from n counts (taken ++ d.pattern ∷ []) (others d.pattern (p ∷ ps))

step-none : (n : ℕ) (counts : CountsOf) (taken left : List Pattern) → least_choice counts (pattern_variables taken) left ≡ None → flow_from (suc n) counts taken left ≡ []
step-none n counts taken [] e = refl
step-none n counts taken (p ∷ ps) e = cc

-- ---- the loop

-- what was taken, and then the flow of what is left, is the whole flow; these variables are bound
pub record Rest (counts : CountsOf) (all : List Pattern) (bound : ℕ) (taken : List Choice) (steps : ℕ) : Type 0 where
  pub bind : (v : ℕ) → members bound v ≡ pattern_variables (patterns_in taken) v
  pub same : flow_of counts all ≡ taken ++ flow_from steps counts (patterns_in taken) (left_by taken all)

pub flow_starts : (counts : CountsOf) (all : List Pattern) (bound n : ℕ) → n ≡ length all → ((v : ℕ) → members bound v ≡ false) → Rest counts all bound [] n
flow_starts counts all bound n is h = record { bind = h; same = ap₂ (λ (k : ℕ) (ps : List Pattern). flow_from k counts [] ps) (sym is) (sym (all-left all)) }

own : (counts : CountsOf) (all : List Pattern) (bound n : ℕ) (taken : List Choice) (o : Option Choice) → Rest counts all bound taken n → o ≡ least_choice counts (members bound) (left_by taken all) → least_choice counts (pattern_variables (patterns_in taken)) (left_by taken all) ≡ o
own counts all bound n taken o h e = sym (e ∙ ap (λ (vs : Variables). least_choice counts vs (left_by taken all)) (fun_ext h.bind))

pub flow_goes_on : (counts : CountsOf) (all : List Pattern) (bound bound' m n : ℕ) (taken taken' : List Choice) (o : Option Choice) (c : Choice) → Rest counts all bound taken m → m ≡ suc n →
    o ≡ least_choice counts (members bound) (left_by taken all) → o ≡ Some c → Adds bound (λ v. in_pattern v c.pattern) bound' → taken' ≡ taken ++ c ∷ [] → Rest counts all bound' taken' n
flow_goes_on counts all bound bound' m n taken taken' o c h is e f a t =
    subst (λ (cs : List Choice). Rest counts all bound' cs n) (sym t)
    (let more : patterns_in (taken ++ c ∷ []) ≡ patterns_in taken ++ c.pattern ∷ [] = map-append (λ (d : Choice). d.pattern) taken (c ∷ []) in
    record {
      bind = λ v.
          a.same v ∙ ap (λ (b : Bool). b || in_pattern v c.pattern) (h.bind v)
          ∙ ap (λ (b : Bool). pattern_variables (patterns_in taken) v || b) (sym (or_false (in_pattern v c.pattern)))
          ∙ sym (list_any-append (in_pattern v) (patterns_in taken) (c.pattern ∷ []))
          ∙ ap (λ (ps : List Pattern). pattern_variables ps v) (sym more);
      same =
          h.same
          ∙ ap (λ (k : ℕ). taken ++ flow_from k counts (patterns_in taken) (left_by taken all)) is
          ∙ ap (λ (cs : List Choice). taken ++ cs) (step-some n counts (patterns_in taken) (left_by taken all) c (own counts all bound m taken o h e ∙ f))
          ∙ sym (append_assoc taken (c ∷ []) (flow_from n counts (patterns_in taken ++ c.pattern ∷ []) (others c.pattern (left_by taken all))))
          ∙ ap₂ (λ (ps qs : List Pattern). (taken ++ c ∷ []) ++ flow_from n counts ps qs) (sym more) (left-more taken c all);
    })

pub flow_stops : (counts : CountsOf) (all : List Pattern) (bound m n : ℕ) (taken : List Choice) (o : Option Choice) → Rest counts all bound taken m → m ≡ suc n →
    o ≡ least_choice counts (members bound) (left_by taken all) → o ≡ None → taken ≡ flow_of counts all
flow_stops counts all bound m n taken o h is e f =
    sym (h.same ∙ ap (λ (k : ℕ). taken ++ flow_from k counts (patterns_in taken) (left_by taken all)) is
    ∙ ap (λ (cs : List Choice). taken ++ cs) (step-none n counts (patterns_in taken) (left_by taken all) (own counts all bound m taken o h e ∙ f)) ∙ append-nil taken)

pub flow_ends : (counts : CountsOf) (all : List Pattern) (bound m : ℕ) (taken : List Choice) → Rest counts all bound taken m → m ≡ 0 → taken ≡ flow_of counts all
flow_ends counts all bound m taken h is = sym (h.same ∙ ap (λ (k : ℕ). taken ++ flow_from k counts (patterns_in taken) (left_by taken all)) is ∙ append-nil taken)

-- ---- the flow is the greedy one

pub greedy : (counts : CountsOf) (ps : List Pattern) → are_numbered_apart ps ≡ true → IsGreedy counts ps (flow_of counts ps)
greedy counts ps e = flow-greedy counts ps (apart-distinct ps e) (flow_of counts ps) (flow_of-is counts ps)
