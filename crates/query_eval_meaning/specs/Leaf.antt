-- The solutions of a list of triple patterns (SPARQL 1.1 Query, section 18.3.1; no blank node stands in a pattern).
use Rattle.std.specs.Prelude.{ℕ, zero, suc, Bool, false, if◌then◌else◌, ◌&&◌, ◌||◌, ◌==◌, List, [], ◌∷◌, map, Option, Some, None}
use Rattle.std.specs.List.{flat_map, filter, list_any, list_all}
use Rattle.rdf_meaning.specs.Terms.{RdfTerm, RdfTriple, same_term}
use Rattle.query_meaning.specs.declared.pattern.Slot.{Slot}
use Rattle.query_meaning.specs.declared.pattern.Slot.TheVariants.{Var, Const}
use Rattle.query_meaning.specs.declared.pattern.Pattern.{Pattern}
use Rattle.query_eval_meaning.specs.Mapping.{Mapping, nothing, set, width}

-- the terms that stand in the triples, each once
abbrev pub with_term : RdfTerm → List RdfTerm → List RdfTerm
with_term t ts = if list_any (same_term t) ts then ts else t ∷ ts

abbrev pub terms_of : List RdfTriple → List RdfTerm
terms_of [] = []
terms_of (t ∷ ts) = with_term t.s (with_term t.p (with_term t.o (terms_of ts)))

abbrev pub is_variable : ℕ → Slot → Bool
is_variable v (Var w) = v == w
is_variable v (Const t) = false

-- the variable stands in the pattern
abbrev pub in_pattern : ℕ → Pattern → Bool
in_pattern v p = is_variable v p.s || (is_variable v p.p || is_variable v p.o)

-- what a variable may be bound to: any of the terms where it occurs
abbrev pub choices : Bool → List RdfTerm → List (Option RdfTerm)
choices occurs terms = if occurs then map (λ (t : RdfTerm). Some t) terms else None ∷ []

-- all assignments of the variables below n that occur, each once
abbrev pub assignments : (ℕ → Bool) → List RdfTerm → ℕ → List Mapping
assignments occurs terms zero = nothing ∷ []
assignments occurs terms (suc v) = flat_map (λ m. map (λ t. set v t m) (choices (occurs v) terms)) (assignments occurs terms v)

abbrev pub is_term : Option RdfTerm → RdfTerm → Bool
is_term (Some a) b = same_term a b
is_term None b = false

abbrev pub slot_is : Mapping → Slot → RdfTerm → Bool
slot_is m (Var v) t = is_term (m v) t
slot_is m (Const c) t = same_term c t

-- the pattern's instance under the mapping is this triple
abbrev pub instance_is : Mapping → Pattern → RdfTriple → Bool
instance_is m p t = slot_is m p.s t.s && (slot_is m p.p t.p && slot_is m p.o t.o)

-- the pattern's instance is one of the triples
abbrev pub holds : List RdfTriple → Mapping → Pattern → Bool
holds g m p = list_any (instance_is m p) g

-- all assignments of the patterns' variables to terms that stand in the triples, kept where every pattern's instance is there
abbrev pub leaf : List Pattern → List RdfTriple → List Mapping
leaf ps g = filter (λ m. list_all (holds g m) ps) (assignments (λ v. list_any (in_pattern v) ps) (terms_of g) width)

-- ---- a pattern's solutions, triple by triple

abbrev pub bind_slot : Slot → RdfTerm → Mapping → Mapping
bind_slot (Var v) t m = set v (Some t) m
bind_slot (Const c) t m = m

abbrev pub bound : Pattern → RdfTriple → Mapping
bound p t = bind_slot p.s t.s (bind_slot p.p t.p (bind_slot p.o t.o nothing))

-- what the triple binds, where it is an instance of the pattern
abbrev pub matches : Pattern → RdfTriple → List Mapping
matches p t = if instance_is (bound p t) p t then bound p t ∷ [] else []
