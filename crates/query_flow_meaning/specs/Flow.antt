-- The flow of a leaf: in which order its patterns are taken, and how each is looked up (this project's own).
use Rattle.std.specs.Prelude.{◌≡◌, ℕ, zero, suc, ◌+◌, ◌⊎◌, Bool, true, if◌then◌else◌, not, ◌&&◌, ◌==◌, List, [], ◌∷◌, ◌++◌, length, map}
use Rattle.std.specs.List.{filter, AllByRecursion}
use Rattle.std.specs.Int.{div_ceil}
use Rattle.std.specs.declared.cmp.Ordering.{Ordering}
use Rattle.std.specs.Ordering.{nat_cmp, is_le}
use Rattle.bags.specs.Bag.{SameBag}
use Rattle.bags.specs.Sort.{by_items}
use Rattle.rdf_meaning.specs.Terms.{RdfTerm, same_term}
use Rattle.layout_meaning.specs.Facts.{CountOf, CountsOf}
use Rattle.query_meaning.specs.declared.pattern.Slot.{Slot}
use Rattle.query_meaning.specs.declared.pattern.Slot.TheVariants.{Var, Const}
use Rattle.query_meaning.specs.declared.pattern.Pattern.{Pattern}
use Rattle.query_eval_meaning.specs.Variables.{Variables, pattern_variables}
use Rattle.query_flow_meaning.specs.declared.step.Method.{Method}
use Rattle.query_flow_meaning.specs.declared.step.Method.TheVariants.{Direct, Reverse, Scan}
use Rattle.query_flow_meaning.specs.declared.step.FlowStep.{FlowStep}

-- a pattern, and how it is looked up
pub record Choice : Type 0 where
  pub pattern : Pattern
  pub method : Method

-- ---- costs

-- a count divided, rounded up; 0 where there is nothing to divide by
abbrev pub shared_out : ℕ → ℕ → ℕ
shared_out n zero = 0
shared_out n (suc k) = div_ceil n (1 + k)

-- what is counted of a term
abbrev pub counted : (CountOf → ℕ) → List CountOf → RdfTerm → ℕ
counted place [] t = 0
counted place (c ∷ cs) t = if same_term c.term t then place c else counted place cs t

-- a constant costs its own count, a variable an equal share of all triples
abbrev pub end_cost : CountsOf → (CountOf → ℕ) → ℕ → Slot → ℕ
end_cost counts place ends (Const t) = counted place counts.constants t
end_cost counts place ends (Var v) = shared_out counts.triples ends

abbrev pub cost_by : CountsOf → Pattern → Method → ℕ
cost_by counts p Direct = end_cost counts (λ (c : CountOf). c.as_subject) counts.subjects p.s
cost_by counts p Reverse = end_cost counts (λ (c : CountOf). c.as_object) counts.objects p.o
cost_by counts p Scan = counts.triples + 1

abbrev pub cost_of : CountsOf → Choice → ℕ
cost_of counts c = cost_by counts c.pattern c.method

-- ---- allowed choices

abbrev pub is_known : Variables → Slot → Bool
is_known vs (Const t) = true
is_known vs (Var v) = vs v

-- a pattern is looked up from a constant, or from a variable of a pattern that was taken before
abbrev pub allowed_by : Variables → Pattern → Method → Bool
allowed_by vs p Direct = is_known vs p.s
allowed_by vs p Reverse = is_known vs p.o
allowed_by vs p Scan = true

abbrev pub is_allowed : List Pattern → Choice → Bool
is_allowed taken c = allowed_by (pattern_variables taken) c.pattern c.method

-- ---- the least choice

abbrev pub method_rank : Method → ℕ
method_rank Direct = 0
method_rank Reverse = 1
method_rank Scan = 2

abbrev pub rank : CountsOf → Choice → List ℕ
rank counts c = cost_of counts c ∷ c.pattern.number ∷ method_rank c.method ∷ []

-- by cost, then by the pattern's number, then by the method
abbrev pub choice_order : CountsOf → Choice → Choice → Ordering
choice_order counts c d = by_items nat_cmp [] (rank counts c) (rank counts d)

abbrev pub IsIn : {X : Type 0} → X → List X → Type 0
IsIn x [] = ⊥
IsIn x (y ∷ ys) = (y ≡ x) ⊎ IsIn x ys

-- an allowed choice of a pattern that is left, than which no other is less
pub record IsLeast (counts : CountsOf) (taken left : List Pattern) (c : Choice) : Type 0 where
  pub there : IsIn c.pattern left
  pub allowed : is_allowed taken c ≡ true
  pub least : AllByRecursion (λ (p : Pattern). (m : Method) → allowed_by (pattern_variables taken) p m ≡ true → is_le (choice_order counts c (record { pattern = p; method = m })) ≡ true) left

-- ---- the flow

abbrev pub same_number : Pattern → Pattern → Bool
same_number p q = p.number == q.number

-- the patterns without this one
abbrev pub others : Pattern → List Pattern → List Pattern
others p ps = filter (λ (q : Pattern). not (same_number p q)) ps

-- each choice is the least one of the patterns that are left then, until none is left
abbrev pub IsFlowFrom : CountsOf → List Pattern → List Pattern → List Choice → Type 0
IsFlowFrom counts taken left [] = left ≡ []
IsFlowFrom counts taken left (c ∷ cs) = IsLeast counts taken left c × IsFlowFrom counts (taken ++ c.pattern ∷ []) (others c.pattern left) cs

abbrev pub IsFlow : CountsOf → List Pattern → List Choice → Type 0
IsFlow counts patterns flow = IsFlowFrom counts [] patterns flow

abbrev pub patterns_in : List Choice → List Pattern
patterns_in cs = map (λ (c : Choice). c.pattern) cs

-- the same without steps: each pattern is taken once, and each choice is the least one beside those that follow
pub record IsGreedy (counts : CountsOf) (patterns : List Pattern) (flow : List Choice) : Type 0 where
  pub once : SameBag (patterns_in flow) patterns
  pub least : (before : List Choice) (c : Choice) (after : List Choice) → flow ≡ before ++ c ∷ after → IsLeast counts (patterns_in before) (patterns_in (c ∷ after)) c

-- ---- the same, found step by step

abbrev pub better : CountsOf → Bool → Choice → Choice → Choice
better counts ok best c = if ok && not (is_le (choice_order counts best c)) then c else best

-- the better of a choice and those of one pattern
abbrev pub with_pattern : CountsOf → Variables → Choice → Pattern → Choice
with_pattern counts vs best p =
    better counts true
    (better counts (allowed_by vs p Reverse)
    (better counts (allowed_by vs p Direct) best (record { pattern = p; method = Direct }))
    (record { pattern = p; method = Reverse }))
    (record { pattern = p; method = Scan })

abbrev pub least_from : CountsOf → Variables → Choice → List Pattern → Choice
least_from counts vs best [] = best
least_from counts vs best (p ∷ ps) = least_from counts vs (with_pattern counts vs best p) ps

-- the least choice of some patterns, the first of which is p
abbrev pub least_of : CountsOf → List Pattern → Pattern → List Pattern → Choice
least_of counts taken p ps = least_from counts (pattern_variables taken) (record { pattern = p; method = Scan }) (p ∷ ps)

abbrev pub then_others : (List Pattern → List Pattern → List Choice) → List Pattern → List Pattern → Choice → List Choice
then_others rest taken left c = c ∷ rest (taken ++ c.pattern ∷ []) (others c.pattern left)

-- at most n choices
abbrev pub flow_from : ℕ → CountsOf → List Pattern → List Pattern → List Choice
flow_from zero counts taken left = []
flow_from (suc n) counts taken [] = []
flow_from (suc n) counts taken (p ∷ ps) = then_others (flow_from n counts) taken (p ∷ ps) (least_of counts taken p ps)

-- the flow of a leaf
abbrev pub flow_of : CountsOf → List Pattern → List Choice
flow_of counts patterns = flow_from (length patterns) counts [] patterns

-- its steps, as they are told
abbrev pub flow_step : CountsOf → Choice → FlowStep
flow_step counts c = record { pattern = c.pattern.number; method = c.method; cost = cost_of counts c }

abbrev pub flow_steps : CountsOf → List Pattern → List FlowStep
flow_steps counts patterns = map (flow_step counts) (flow_of counts patterns)
