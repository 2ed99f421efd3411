-- Each variable that is read is one of the text's.
use Rattle.std.specs.Prelude.{◌≡◌, ◌<◌, ◌^◌, ℕ, Bool, true, false, ◌&&◌, nat_lt, List, [], ◌∷◌, ◌++◌, map, Option, Some, None, refl}
use Rattle.std.specs.List.{AllByRecursion}
use Rattle.std.proofs.Common.{sym, ap, ◌∙◌, subst, arith}
use Rattle.std.proofs.lemmas.Bool.{false≢true}
use Rattle.bags.specs.BagLaws.{each-append}
use Rattle.grammar_meaning.specs.Grammar.{Leaf, Pair, Made}
use Rattle.rdf_meaning.specs.Terms.{RdfTerm}
use Rattle.query_meaning.specs.declared.pattern.Slot.{Slot}
use Rattle.query_meaning.specs.declared.pattern.Slot.TheVariants as slot
use Rattle.query_meaning.specs.declared.pattern.Pattern.{Pattern}
use Rattle.query_meaning.specs.declared.expression.ValueExpr.{ValueExpr}
use Rattle.query_meaning.specs.declared.expression.TruthExpr.{TruthExpr}
use Rattle.query_meaning.specs.declared.expression.TruthExpr.TheVariants as truths
use Rattle.query_meaning.specs.declared.modifiers.Key.{Key as SortKey}
use Rattle.query_meaning.specs.declared.query.Element.{Element, fold-Element}
use Rattle.query_meaning.specs.declared.query.Element.TheFolds.{fold-roll-Element}
use Rattle.query_meaning.specs.declared.query.Element.TheVariants as v
use Rattle.query_meaning.specs.declared.query.Element.TheOpen as layer
use Rattle.query_meaning.specs.declared.query.Group.{Group, fold_out-Group}
use Rattle.sparql_grammar_meaning.specs.declared.lexeme.Sign.TheVariants as s
use Rattle.sparql_grammar_meaning.specs.declared.lexeme.Function.{Function}
use Rattle.sparql_grammar_meaning.specs.declared.lexeme.Function.TheVariants as f
use Rattle.sparql_grammar_meaning.specs.declared.lexeme.Lexeme.{Lexeme}
use Rattle.sparql_grammar_meaning.specs.declared.lexeme.Lexeme.TheVariants as l
use Rattle.sparql_grammar_meaning.specs.Grammar.{variable, Symbol, Query_, Prologue_, Shown_, Prefix_, Group_, Other_, Triples_, Same_, Objs_, Verb_, Term_, Iri_, Literal_, Cond_, Truth_, And_, Rel_, Compared_, Operator_, Values_, Prim_, Atom_, Value_, Fun_, Test_, Order_, Key_, Slice_, Tail, compares, one_of, none_of, Cut, cut_of, a_cut, Written, Tree, a_query, a_list, a_slot, an_iri, a_literal, slots, patterns, elements, an_element, a_value, values as value_list, a_tail, a_truth, keys, a_key, Read, build, slots_behind, patterns_of, patterns_behind, patterns_in, group_of, values_behind, truth_in, truths_behind, with_tail, applied, leaf, parts, unions_behind, variables_behind, keys_behind, keys_in}
use Rattle.sparql_meaning.specs.Translation.{conjunction}
use Rattle.sparql_query_meaning.specs.Queries.{element_variables, group_variables, patterns_variables, pattern_variables, slot_variables, joined_lists, variables_of}
use Rattle.sparql_walk_laws.specs.Shapes.{leaf_variable, leaf_count, leaf_sign, leaf_function, leaf_compare, leaf_test, Shape, token, symbol, both, several, word, maybe, shape}
use Rattle.sparql_walk_laws.specs.Walks.{Walks, walk_empty, walk_token, walk_symbol, walk_both, walk_left, walk_right, walk_several}
use Rattle.sparql_query_laws.specs.Within.{slot_within, pattern_within, value_within, truth_within, all_true, within-Var, within-Const, within-Str, within-Lang, within-Datatype, within-Value, within-Bound, within-Compare, within-OneOf, within-SameTerm, within-Is, within-Not, within-All, within-Any}
use Rattle.sparql_query_laws.specs.Passing.{both_true, all_pass, Tests, condition_passes, ElementPasses, GroupPasses, triples_pass, optional_passes, unions_pass, condition_pass, group_passes}

-- ---- the variables that stand in triple patterns, by the element

pub element_all : Element → List ℕ
element_all x = fold-Element (List ℕ) (List ℕ) element_variables group_variables x

all-Triples : (ps : List Pattern) → element_all (v.Triples ps) ≡ patterns_variables ps
unfolding element_all
all-Triples ps = ap element_all (sym (v.rolls-Triples ps)) ∙ fold-roll-Element (List ℕ) (List ℕ) element_variables group_variables (layer.Triples ps)

all-Optional : (g : Group) → element_all (v.Optional g) ≡ variables_of g
unfolding element_all
all-Optional g = ap element_all (sym (v.rolls-Optional g)) ∙ fold-roll-Element (List ℕ) (List ℕ) element_variables group_variables (layer.Optional g)

all-Unions : (gs : List Group) → element_all (v.Unions gs) ≡ joined_lists (map variables_of gs)
unfolding element_all
all-Unions gs = ap element_all (sym (v.rolls-Unions gs)) ∙ fold-roll-Element (List ℕ) (List ℕ) element_variables group_variables (layer.Unions gs)

all-Condition : (c : TruthExpr) → element_all (v.Condition c) ≡ []
unfolding element_all
all-Condition c = ap element_all (sym (v.rolls-Condition c)) ∙ fold-roll-Element (List ℕ) (List ℕ) element_variables group_variables (layer.Condition c)

group_all : (g : Group) → variables_of g ≡ joined_lists (map element_all g.elements)
unfolding element_all
group_all g = fold_out-Group (List ℕ) (List ℕ) element_variables group_variables g

-- ---- both sides of a conjunction

pub left_true : (a b : Bool) → (a && b) ≡ true → a ≡ true
left_true true b h = refl
left_true false b h = h

pub right_true : (a b : Bool) → (a && b) ≡ true → b ≡ true
right_true true b h = h
right_true false b h = absurd (false≢true h)

abbrev pub Below : ℕ → ℕ → Type 0
Below n i = nat_lt i n ≡ true

abbrev pub SlotWithin : ℕ → Slot → Type 0
SlotWithin n x = slot_within n x ≡ true

abbrev pub PatternWithin : ℕ → Pattern → Type 0
PatternWithin n p = pattern_within n p ≡ true

abbrev pub ValueWithin : ℕ → ValueExpr → Type 0
ValueWithin n e = value_within n e ≡ true

abbrev pub TruthWithin : ℕ → TruthExpr → Type 0
TruthWithin n e = truth_within n e ≡ true

all_trues : (n : ℕ) (es : List TruthExpr) → AllByRecursion (TruthWithin n) es → all_true (map (truth_within n) es) ≡ true
all_trues n [] h = refl
all_trues n (e ∷ es) h = both_true h.0 (all_trues n es h.1)

pub conjoined : (n : ℕ) (es : List TruthExpr) → AllByRecursion (TruthWithin n) es → condition_passes (truth_within n) (conjunction es) ≡ true
conjoined n [] h = refl
conjoined n (e ∷ []) h = h.0
conjoined n (e ∷ d ∷ es) h = within-All n (e ∷ d ∷ es) ∙ all_trues n (e ∷ d ∷ es) h

abbrev pub names_within : ℕ → Tests
names_within n = record { pattern = pattern_within n; own = truth_within n; joint = truth_within n; unnumbered = λ k q. refl; conjoined = conjoined n }

-- ---- what the tree of each symbol owes

pub record ElementWithin (n : ℕ) (x : Element) : Type 0 where
  pub passes : ElementPasses (names_within n) x
  pub variables : AllByRecursion (Below n) (element_all x)

pub data IsSlot (n : ℕ) : Tree → Type 0 where
  is_slot : {x : Slot} → SlotWithin n x → IsSlot n (a_slot x)

pub data IsIri : Tree → Type 0 where
  is_iri : {i : List ℕ} → IsIri (an_iri i)

pub data IsLiteral : Tree → Type 0 where
  is_literal : {t : RdfTerm} → IsLiteral (a_literal t)

pub data AreSlots (n : ℕ) : Tree → Type 0 where
  are_slots : {xs : List Slot} → AllByRecursion (SlotWithin n) xs → AreSlots n (slots xs)

pub data ArePatterns (n : ℕ) : Tree → Type 0 where
  are_patterns : {ps : List Pattern} → AllByRecursion (PatternWithin n) ps → ArePatterns n (patterns ps)

pub data AreElements (n : ℕ) : Tree → Type 0 where
  are_elements : {xs : List Element} → AllByRecursion (ElementWithin n) xs → AreElements n (elements xs)

pub data IsElement (n : ℕ) : Tree → Type 0 where
  is_element : {x : Element} → ElementWithin n x → IsElement n (an_element x)

pub data IsValue (n : ℕ) : Tree → Type 0 where
  is_value : {x : ValueExpr} → ValueWithin n x → IsValue n (a_value x)

pub data AreValues (n : ℕ) : Tree → Type 0 where
  are_values : {xs : List ValueExpr} → AllByRecursion (ValueWithin n) xs → AreValues n (value_list xs)

pub data IsTruth (n : ℕ) : Tree → Type 0 where
  is_truth : {x : TruthExpr} → TruthWithin n x → IsTruth n (a_truth x)

pub data IsCondition (n : ℕ) : Tree → Type 0 where
  by_truth : {x : TruthExpr} → TruthWithin n x → IsCondition n (a_truth x)
  by_value : {x : ValueExpr} → ValueWithin n x → IsCondition n (a_value x)

abbrev pub TailWithin : ℕ → Tail → Type 0
TailWithin n (compares o y) = ValueWithin n y
TailWithin n (one_of ys) = AllByRecursion (ValueWithin n) ys
TailWithin n (none_of ys) = AllByRecursion (ValueWithin n) ys

pub data IsTail (n : ℕ) : Tree → Type 0 where
  is_tail : {x : Tail} → TailWithin n x → IsTail n (a_tail x)

abbrev pub ListWithin : ℕ → Option (List ℕ) → Type 0
ListWithin n None = Unit {0}
ListWithin n (Some vs) = AllByRecursion (Below n) vs

pub data IsShown (n : ℕ) : Tree → Type 0 where
  is_shown : {x : Option (List ℕ)} → ListWithin n x → IsShown n (a_list x)

abbrev pub KeyWithin : ℕ → SortKey → Type 0
KeyWithin n x = Below n x.var

pub data IsKey (n : ℕ) : Tree → Type 0 where
  is_key : {x : SortKey} → KeyWithin n x → IsKey n (a_key x)

pub data AreKeys (n : ℕ) : Tree → Type 0 where
  are_keys : {xs : List SortKey} → AllByRecursion (KeyWithin n) xs → AreKeys n (keys xs)

-- a number of at most 18 digits
abbrev pub IsShort : ℕ → Type 0
IsShort i = i < 10 ^ 18

abbrev pub MostShort : Option ℕ → Type 0
MostShort None = Unit {0}
MostShort (Some i) = IsShort i

pub record CutShort (x : Cut) : Type 0 where
  pub skip : IsShort x.skip
  pub most : MostShort x.most

pub data IsCut : Tree → Type 0 where
  is_cut : {x : Cut} → CutShort x → IsCut (a_cut x)

pub record WrittenWithin (n : ℕ) (w : Written) : Type 0 where
  pub shown : ListWithin n w.shown
  pub elements : AllByRecursion (ElementWithin n) w.elements
  pub keys : AllByRecursion (KeyWithin n) w.keys
  pub cut : CutShort w.cut

pub data IsWritten (n : ℕ) : Tree → Type 0 where
  is_written : {w : Written} → WrittenWithin n w → IsWritten n (a_query w)

abbrev pub Of : ℕ → Symbol → Tree → Type 0
Of n Query_ x = IsWritten n x
Of n Shown_ x = IsShown n x
Of n Group_ x = AreElements n x
Of n Other_ x = IsElement n x
Of n Triples_ x = ArePatterns n x
Of n Same_ x = ArePatterns n x
Of n Objs_ x = AreSlots n x
Of n Verb_ x = IsSlot n x
Of n Term_ x = IsSlot n x
Of n Iri_ x = IsIri x
Of n Literal_ x = IsLiteral x
Of n Cond_ x = IsTruth n x
Of n Truth_ x = IsCondition n x
Of n And_ x = IsCondition n x
Of n Rel_ x = IsCondition n x
Of n Compared_ x = IsCondition n x
Of n Operator_ x = IsTail n x
Of n Values_ x = AreValues n x
Of n Prim_ x = IsCondition n x
Of n Atom_ x = IsCondition n x
Of n Value_ x = IsValue n x
Of n Fun_ x = IsValue n x
Of n Test_ x = IsTruth n x
Of n Order_ x = AreKeys n x
Of n Key_ x = IsKey n x
Of n Slice_ x = IsCut x
Of n _ x = Unit {0}

abbrev pub LexemeWithin : ℕ → Lexeme → Type 0
LexemeWithin n (l.Variable i) = Below n i
LexemeWithin n (l.Count t i) = IsShort i
LexemeWithin n x = Unit {0}

-- what is left, its variables being within
pub record Left (n : ℕ) : Type 0 where
  pub tokens : List Lexeme
  pub within : AllByRecursion (LexemeWithin n) tokens

abbrev pub Step : (n : ℕ) → Left n → Lexeme → Left n → Type 0
Step n c x d = LexemeWithin n x

abbrev pub Owes : (n : ℕ) → Symbol → Left n → Left n → Tree → Type 0
Owes n y c d x = Of n y x

abbrev pub W : (n : ℕ) → Shape → Left n → Left n → Read → Type 0
W n f c d m = Walks (Step n) (Owes n) f c d m

-- ---- symbol by symbol

module _ (n : ℕ) where
  iri_sound : (c d : Left n) (m : Read) → W n (shape Iri_) c d m → IsIri (build Iri_ m)
  iri_sound c d m h = is_iri

  literal_sound : (c d : Left n) (m : Read) → W n (shape Literal_) c d m → IsLiteral (build Literal_ m)
  literal_sound c d m h = is_literal

  term_sound : (c d : Left n) (m : Read) → W n (shape Term_) c d m → IsSlot n (build Term_ m)
  term_sound c d m (walk_left (walk_token leaf_variable h)) = is_slot h
  term_sound c d m (walk_right (walk_left (walk_symbol is_iri))) = is_slot refl
  term_sound c d m (walk_right (walk_right (walk_symbol is_literal))) = is_slot refl

  verb_sound : (c d : Left n) (m : Read) → W n (shape Verb_) c d m → IsSlot n (build Verb_ m)
  verb_sound c d m (walk_left (walk_token leaf_variable h)) = is_slot h
  verb_sound c d m (walk_right (walk_left (walk_symbol is_iri))) = is_slot refl
  verb_sound c d m (walk_right (walk_right (walk_token leaf_sign h))) = is_slot refl

  slots_sound : (c d : Left n) (m : Read) → W n (several (both (word s.Comma) (symbol Term_))) c d m → AllByRecursion (SlotWithin n) (slots_behind m)
  slots_sound c d m (walk_several (walk_left (walk_both {d = e} {m = rest} (walk_both (walk_token h k) (walk_symbol (is_slot x))) more))) = (x, slots_sound e d rest more)
  slots_sound c d m (walk_several (walk_right walk_empty)) = tt

  objs_sound : (c d : Left n) (m : Read) → W n (shape Objs_) c d m → AreSlots n (build Objs_ m)
  objs_sound c d m (walk_both {d = e} {m = rest} (walk_symbol (is_slot x)) more) = are_slots (x, slots_sound e d rest more)

  patterns_of_slots : (a b : Slot) (xs : List Slot) → SlotWithin n a → SlotWithin n b → AllByRecursion (SlotWithin n) xs → AllByRecursion (PatternWithin n) (patterns_of a b xs)
  patterns_of_slots a b [] h k is = tt
  patterns_of_slots a b (x ∷ xs) h k is = (both_true h (both_true k is.0), patterns_of_slots a b xs h k is.1)

  behind_sound : (a : Slot) (c d : Left n) (m : Read) → SlotWithin n a → W n (several (both (word s.Semicolon) (maybe (both (symbol Verb_) (symbol Objs_))))) c d m → AllByRecursion (PatternWithin n) (patterns_behind a m)
  behind_sound a c d m h (walk_several (walk_left (walk_both {d = e} {m = rest} (walk_both (walk_token k i) (walk_left (walk_both (walk_symbol (is_slot {x = b} x)) (walk_symbol (are_slots {xs = xs} y))))) more))) =
      each-append (PatternWithin n) (patterns_of a b xs) (patterns_behind a rest) (patterns_of_slots a b xs h x y) (behind_sound a e d rest h more)
  behind_sound a c d m h (walk_several (walk_left (walk_both {d = e} {m = rest} (walk_both (walk_token k i) (walk_right walk_empty)) more))) = behind_sound a e d rest h more
  behind_sound a c d m h (walk_several (walk_right walk_empty)) = tt

  same_sound : (c d : Left n) (m : Read) → W n (shape Same_) c d m → ArePatterns n (build Same_ m)
  same_sound c d m (walk_both (walk_symbol (is_slot {x = a} x)) (walk_both (walk_symbol (is_slot {x = b} y)) (walk_both {d = e} {m = rest} (walk_symbol (are_slots {xs = xs} z)) more))) =
      are_patterns (each-append (PatternWithin n) (patterns_of a b xs) (patterns_behind a rest) (patterns_of_slots a b xs x y z) (behind_sound a e d rest x more))

  maybe_triples : (c d : Left n) (m : Read) → W n (maybe (symbol Triples_)) c d m → AllByRecursion (PatternWithin n) (patterns_in m)
  maybe_triples c d m (walk_left (walk_symbol (are_patterns h))) = h
  maybe_triples c d m (walk_right walk_empty) = tt

  triples_sound : (c d : Left n) (m : Read) → W n (shape Triples_) c d m → ArePatterns n (build Triples_ m)
  triples_sound c d m (walk_both (walk_symbol (are_patterns {ps = ps} h)) (walk_left (walk_both {d = e} {m = rest} (walk_token k i) more))) =
      are_patterns (each-append (PatternWithin n) ps (patterns_in rest) h (maybe_triples e d rest more))
  triples_sound c d m (walk_both (walk_symbol (are_patterns h)) (walk_right walk_empty)) = are_patterns h

  -- ---- groups

  slot_all : (x : Slot) → SlotWithin n x → AllByRecursion (Below n) (slot_variables x)
  slot_all (slot.Var i) h = (h, tt)
  slot_all (slot.Const t) h = tt

  patterns_all : (ps : List Pattern) → AllByRecursion (PatternWithin n) ps → AllByRecursion (Below n) (patterns_variables ps)
  patterns_all [] h = tt
  patterns_all (p ∷ ps) h =
      let others : (slot_within n p.p && slot_within n p.o) ≡ true = right_true (slot_within n p.s) (slot_within n p.p && slot_within n p.o) h.0 in
      each-append (Below n) (pattern_variables p) (patterns_variables ps)
      (each-append (Below n) (slot_variables p.s) (slot_variables p.p ++ slot_variables p.o) (slot_all p.s (left_true (slot_within n p.s) (slot_within n p.p && slot_within n p.o) h.0))
      (each-append (Below n) (slot_variables p.p) (slot_variables p.o) (slot_all p.p (left_true (slot_within n p.p) (slot_within n p.o) others)) (slot_all p.o (right_true (slot_within n p.p) (slot_within n p.o) others))))
      (patterns_all ps h.1)

  triples_within : (ps : List Pattern) → AllByRecursion (PatternWithin n) ps → ElementWithin n (v.Triples ps)
  triples_within ps h = record { passes = triples_pass (names_within n) ps h; variables = subst (AllByRecursion (Below n)) (sym (all-Triples ps)) (patterns_all ps h) }

  leaf_within : (ps : List Pattern) (es : List Element) → AllByRecursion (PatternWithin n) ps → AllByRecursion (ElementWithin n) es → AllByRecursion (ElementWithin n) (leaf ps es)
  leaf_within [] es h k = k
  leaf_within (p ∷ ps) es h k = (triples_within (p ∷ ps) h, k)

  parts_sound : (c d : Left n) (m : Read) → W n (several (both (symbol Other_) (both (maybe (word s.Dot)) (maybe (symbol Triples_))))) c d m → AllByRecursion (ElementWithin n) (parts m)
  parts_sound c d m (walk_several (walk_left (walk_both {d = e} {m = rest} (walk_both (walk_symbol (is_element x)) (walk_both {d = a} {e = b} {m = ps} dot triples)) more))) =
      (x, leaf_within (patterns_in ps) (parts rest) (maybe_triples a b ps triples) (parts_sound e d rest more))
  parts_sound c d m (walk_several (walk_right walk_empty)) = tt

  group_sound : (c d : Left n) (m : Read) → W n (shape Group_) c d m → AreElements n (build Group_ m)
  group_sound c d m (walk_both opening (walk_both {c = a} {d = b} {n = ps} triples (walk_both {d = e} {n = es} others close))) =
      are_elements (leaf_within (patterns_in ps) (parts es) (maybe_triples a b ps triples) (parts_sound b e es others))

  pub each_passes : (es : List Element) → AllByRecursion (ElementWithin n) es → AllByRecursion (ElementPasses (names_within n)) es
  each_passes [] h = tt
  each_passes (e ∷ es) h = (h.0.passes, each_passes es h.1)

  each_all : (es : List Element) → AllByRecursion (ElementWithin n) es → AllByRecursion (Below n) (joined_lists (map element_all es))
  each_all [] h = tt
  each_all (e ∷ es) h = each-append (Below n) (element_all e) (joined_lists (map element_all es)) h.0.variables (each_all es h.1)

  pub record GroupWithin (g : Group) : Type 0 where
    pub passes : GroupPasses (names_within n) g
    pub variables : AllByRecursion (Below n) (variables_of g)

  pub group_within : (es : List Element) → AllByRecursion (ElementWithin n) es → GroupWithin (group_of es)
  group_within es h = record { passes = group_passes (names_within n) es (each_passes es h); variables = subst (AllByRecursion (Below n)) (sym (group_all (group_of es))) (each_all es h) }

  unions_sound : (c d : Left n) (m : Read) → W n (several (both (word s.Union) (symbol Group_))) c d m → AllByRecursion GroupWithin (unions_behind m)
  unions_sound c d m (walk_several (walk_left (walk_both {d = e} {m = rest} (walk_both (walk_token h k) (walk_symbol (are_elements {xs = xs} x))) more))) = (group_within xs x, unions_sound e d rest more)
  unions_sound c d m (walk_several (walk_right walk_empty)) = tt

  groups_pass : (gs : List Group) → AllByRecursion GroupWithin gs → AllByRecursion (GroupPasses (names_within n)) gs
  groups_pass [] h = tt
  groups_pass (g ∷ gs) h = (h.0.passes, groups_pass gs h.1)

  groups_all : (gs : List Group) → AllByRecursion GroupWithin gs → AllByRecursion (Below n) (joined_lists (map variables_of gs))
  groups_all [] h = tt
  groups_all (g ∷ gs) h = each-append (Below n) (variables_of g) (joined_lists (map variables_of gs)) h.0.variables (groups_all gs h.1)

  optional_within : (g : Group) → GroupWithin g → ElementWithin n (v.Optional g)
  optional_within g h = record { passes = optional_passes (names_within n) g h.passes; variables = subst (AllByRecursion (Below n)) (sym (all-Optional g)) h.variables }

  unions_within : (gs : List Group) → AllByRecursion GroupWithin gs → ElementWithin n (v.Unions gs)
  unions_within gs h = record { passes = unions_pass (names_within n) gs (groups_pass gs h); variables = subst (AllByRecursion (Below n)) (sym (all-Unions gs)) (groups_all gs h) }

  condition_within : (e : TruthExpr) → TruthWithin n e → ElementWithin n (v.Condition e)
  condition_within e h = record { passes = condition_pass (names_within n) e h; variables = subst (AllByRecursion (Below n)) (sym (all-Condition e)) tt }

  other_sound : (c d : Left n) (m : Read) → W n (shape Other_) c d m → IsElement n (build Other_ m)
  other_sound c d m (walk_left (walk_both (walk_token leaf_sign k) (walk_symbol (are_elements {xs = xs} x)))) = is_element (optional_within (group_of xs) (group_within xs x))
  other_sound c d m (walk_right (walk_left (walk_both {d = e} {m = rest} (walk_symbol (are_elements {xs = xs} x)) more))) =
      is_element (unions_within (group_of xs ∷ unions_behind rest) (group_within xs x, unions_sound e d rest more))
  other_sound c d m (walk_right (walk_right (walk_both (walk_token leaf_sign k) (walk_symbol (is_truth {x = e} x))))) = is_element (condition_within e x)

  -- ---- expressions

  applied_within : (g : Function) (e : ValueExpr) → ValueWithin n e → ValueWithin n (applied (Leaf (l.Function g)) e)
  applied_within f.Str e h = within-Str n e ∙ h
  applied_within f.Lang e h = within-Lang n e ∙ h
  applied_within f.Datatype e h = within-Datatype n e ∙ h

  fun_sound : (c d : Left n) (m : Read) → W n (shape Fun_) c d m → IsValue n (build Fun_ m)
  fun_sound c d m (walk_both (walk_token (leaf_function {f = g}) k) (walk_both opening (walk_both (walk_symbol (is_value {x = e} x)) close))) = is_value (applied_within g e x)

  value_sound : (c d : Left n) (m : Read) → W n (shape Value_) c d m → IsValue n (build Value_ m)
  value_sound c d m (walk_left (walk_token (leaf_variable {n = i}) h)) = is_value (within-Var n i ∙ h)
  value_sound c d m (walk_right (walk_left (walk_symbol is_iri))) = is_value (within-Const n _)
  value_sound c d m (walk_right (walk_right (walk_left (walk_symbol is_literal)))) = is_value (within-Const n _)
  value_sound c d m (walk_right (walk_right (walk_right (walk_left (walk_symbol (is_value x)))))) = is_value x
  value_sound c d m (walk_right (walk_right (walk_right (walk_right (walk_both opening (walk_both (walk_symbol (is_value x)) close)))))) = is_value x

  test_sound : (c d : Left n) (m : Read) → W n (shape Test_) c d m → IsTruth n (build Test_ m)
  test_sound c d m (walk_left (walk_both (walk_token leaf_sign k) (walk_both opening (walk_both (walk_token (leaf_variable {n = i}) h) close)))) = is_truth (within-Bound n i ∙ h)
  test_sound c d m (walk_right (walk_left (walk_both (walk_token leaf_sign k) (walk_both opening (walk_both (walk_symbol (is_value {x = a} x)) (walk_both comma (walk_both (walk_symbol (is_value {x = b} y)) close))))))) =
      is_truth (within-SameTerm n a b ∙ both_true x y)
  test_sound c d m (walk_right (walk_right (walk_both (walk_token (leaf_test {t = t}) k) (walk_both opening (walk_both (walk_symbol (is_value {x = a} x)) (walk_token leaf_sign j)))))) = is_truth (within-Is n t a ∙ x)

  truth_within_tree : (x : Tree) → IsCondition n x → TruthWithin n (truth_in (Made x))
  truth_within_tree x (by_truth h) = h
  truth_within_tree x (by_value {x = e} h) = within-Value n e ∙ h

  cond_sound : (c d : Left n) (m : Read) → W n (shape Cond_) c d m → IsTruth n (build Cond_ m)
  cond_sound c d m (walk_left (walk_both opening (walk_both (walk_symbol {x = x} h) close))) = is_truth (truth_within_tree x h)
  cond_sound c d m (walk_right (walk_left (walk_symbol (is_truth h)))) = is_truth h
  cond_sound c d m (walk_right (walk_right (walk_symbol (is_value {x = e} h)))) = is_truth (within-Value n e ∙ h)

  ands_behind : (c d : Left n) (m : Read) → W n (several (both (word s.Or) (symbol And_))) c d m → AllByRecursion (TruthWithin n) (truths_behind m)
  ands_behind c d m (walk_several (walk_left (walk_both {d = e} {m = rest} (walk_both (walk_token h k) (walk_symbol {x = x} i)) more))) = (truth_within_tree x i, ands_behind e d rest more)
  ands_behind c d m (walk_several (walk_right walk_empty)) = tt

  rels_behind : (c d : Left n) (m : Read) → W n (several (both (word s.And) (symbol Rel_))) c d m → AllByRecursion (TruthWithin n) (truths_behind m)
  rels_behind c d m (walk_several (walk_left (walk_both {d = e} {m = rest} (walk_both (walk_token h k) (walk_symbol {x = x} i)) more))) = (truth_within_tree x i, rels_behind e d rest more)
  rels_behind c d m (walk_several (walk_right walk_empty)) = tt

  truth_sound : (c d : Left n) (m : Read) → W n (shape Truth_) c d m → IsCondition n (build Truth_ m)
  truth_sound c d m (walk_both (walk_symbol i) (walk_several (walk_right walk_empty))) = i
  truth_sound c d m (walk_both {d = e} (walk_symbol {x = x} i) (walk_several (walk_left (walk_both {n = first} {m = rest} one more)))) =
      by_truth (within-Any n (truth_in (Made x) ∷ truths_behind (Pair first rest))
      ∙ all_trues n (truth_in (Made x) ∷ truths_behind (Pair first rest)) (truth_within_tree x i, ands_behind e d (Pair first rest) (walk_several (walk_left (walk_both one more)))))

  and_sound : (c d : Left n) (m : Read) → W n (shape And_) c d m → IsCondition n (build And_ m)
  and_sound c d m (walk_both (walk_symbol i) (walk_several (walk_right walk_empty))) = i
  and_sound c d m (walk_both {d = e} (walk_symbol {x = x} i) (walk_several (walk_left (walk_both {n = first} {m = rest} one more)))) =
      by_truth (within-All n (truth_in (Made x) ∷ truths_behind (Pair first rest))
      ∙ all_trues n (truth_in (Made x) ∷ truths_behind (Pair first rest)) (truth_within_tree x i, rels_behind e d (Pair first rest) (walk_several (walk_left (walk_both one more)))))

  rel_sound : (c d : Left n) (m : Read) → W n (shape Rel_) c d m → IsCondition n (build Rel_ m)
  rel_sound c d m (walk_left (walk_symbol i)) = i
  rel_sound c d m (walk_right (walk_symbol i)) = i

  tail_within : (e : ValueExpr) (x : Tail) → ValueWithin n e → TailWithin n x → TruthWithin n (with_tail e x)
  tail_within e (compares o y) h k = within-Compare n o e y ∙ both_true h k
  tail_within e (one_of ys) h k = within-OneOf n e ys ∙ both_true h (all_pass (value_within n) ys k)
  tail_within e (none_of ys) h k = within-Not n (truths.OneOf e ys) ∙ within-OneOf n e ys ∙ both_true h (all_pass (value_within n) ys k)

  compared_sound : (c d : Left n) (m : Read) → W n (shape Compared_) c d m → IsCondition n (build Compared_ m)
  compared_sound c d m (walk_both (walk_symbol (is_value {x = e} x)) (walk_left (walk_symbol (is_tail {x = t} y)))) = by_truth (tail_within e t x y)
  compared_sound c d m (walk_both (walk_symbol (is_value x)) (walk_right walk_empty)) = by_value x

  operator_sound : (c d : Left n) (m : Read) → W n (shape Operator_) c d m → IsTail n (build Operator_ m)
  operator_sound c d m (walk_left (walk_both (walk_token leaf_compare k) (walk_symbol (is_value x)))) = is_tail x
  operator_sound c d m (walk_right (walk_left (walk_both (walk_token leaf_sign k) (walk_symbol (are_values x))))) = is_tail x
  operator_sound c d m (walk_right (walk_right (walk_both not_ (walk_both in_ (walk_symbol (are_values x)))))) = is_tail x

  list_sound : (c d : Left n) (m : Read) → W n (several (both (word s.Comma) (symbol Value_))) c d m → AllByRecursion (ValueWithin n) (values_behind m)
  list_sound c d m (walk_several (walk_left (walk_both {d = e} {m = rest} (walk_both (walk_token h k) (walk_symbol (is_value x))) more))) = (x, list_sound e d rest more)
  list_sound c d m (walk_several (walk_right walk_empty)) = tt

  values_sound : (c d : Left n) (m : Read) → W n (shape Values_) c d m → AreValues n (build Values_ m)
  values_sound c d m (walk_both opening (walk_both (walk_left (walk_both {d = a} {e = b} {m = rest} (walk_symbol (is_value x)) more)) close)) = are_values (x, list_sound a b rest more)
  values_sound c d m (walk_both opening (walk_both (walk_right walk_empty) close)) = are_values tt

  prim_sound : (c d : Left n) (m : Read) → W n (shape Prim_) c d m → IsCondition n (build Prim_ m)
  prim_sound c d m (walk_left (walk_both bang (walk_left (walk_symbol {x = x} i)))) = by_truth (within-Not n (truth_in (Made x)) ∙ truth_within_tree x i)
  prim_sound c d m (walk_left (walk_both bang (walk_right (walk_symbol (is_value {x = e} x))))) = by_truth (within-Not n (truths.Value e) ∙ within-Value n e ∙ x)
  prim_sound c d m (walk_right (walk_symbol i)) = i

  atom_sound : (c d : Left n) (m : Read) → W n (shape Atom_) c d m → IsCondition n (build Atom_ m)
  atom_sound c d m (walk_left (walk_both opening (walk_both (walk_symbol i) close))) = i
  atom_sound c d m (walk_right (walk_symbol (is_truth x))) = by_truth x

  -- ---- what stands around the group

  variables_sound : (c d : Left n) (m : Read) → W n (several (token variable)) c d m → AllByRecursion (Below n) (variables_behind m)
  variables_sound c d m (walk_several (walk_left (walk_both {d = e} {m = rest} (walk_token leaf_variable h) more))) = (h, variables_sound e d rest more)
  variables_sound c d m (walk_several (walk_right walk_empty)) = tt

  shown_sound : (c d : Left n) (m : Read) → W n (shape Shown_) c d m → IsShown n (build Shown_ m)
  shown_sound c d m (walk_left (walk_both {d = e} {m = rest} (walk_token leaf_variable h) more)) = is_shown (h, variables_sound e d rest more)
  shown_sound c d m (walk_right (walk_token h k)) = is_shown tt

  key_sound : (c d : Left n) (m : Read) → W n (shape Key_) c d m → IsKey n (build Key_ m)
  key_sound c d m (walk_left (walk_token leaf_variable h)) = is_key h
  key_sound c d m (walk_right (walk_both down (walk_both opening (walk_both (walk_token leaf_variable h) close)))) = is_key h

  keys_sound : (c d : Left n) (m : Read) → W n (several (symbol Key_)) c d m → AllByRecursion (KeyWithin n) (keys_behind m)
  keys_sound c d m (walk_several (walk_left (walk_both {d = e} {m = rest} (walk_symbol (is_key h)) more))) = (h, keys_sound e d rest more)
  keys_sound c d m (walk_several (walk_right walk_empty)) = tt

  order_sound : (c d : Left n) (m : Read) → W n (shape Order_) c d m → AreKeys n (build Order_ m)
  order_sound c d m (walk_both order (walk_both by_ (walk_both {d = e} {m = rest} (walk_symbol (is_key h)) more))) = are_keys (h, keys_sound e d rest more)

  maybe_order : (c d : Left n) (m : Read) → W n (maybe (symbol Order_)) c d m → AllByRecursion (KeyWithin n) (keys_in m)
  maybe_order c d m (walk_left (walk_symbol (are_keys h))) = h
  maybe_order c d m (walk_right walk_empty) = tt

  none_short : IsShort 0
  none_short = omega arith

  no_cut : CutShort (cut_of 0 None)
  no_cut = record { skip = none_short; most = tt }

  slice_sound : (c d : Left n) (m : Read) → W n (shape Slice_) c d m → IsCut (build Slice_ m)
  slice_sound c d m (walk_left (walk_both (walk_token leaf_sign k) (walk_both (walk_token leaf_count h) (walk_right walk_empty)))) = is_cut (record { skip = none_short; most = h })
  slice_sound c d m (walk_left (walk_both (walk_token leaf_sign k) (walk_both (walk_token leaf_count h) (walk_left (walk_both offset (walk_token leaf_count i)))))) = is_cut (record { skip = i; most = h })
  slice_sound c d m (walk_right (walk_both (walk_token leaf_sign k) (walk_both (walk_token leaf_count h) (walk_right walk_empty)))) = is_cut (record { skip = h; most = tt })
  slice_sound c d m (walk_right (walk_both (walk_token leaf_sign k) (walk_both (walk_token leaf_count h) (walk_left (walk_both limit (walk_token leaf_count i)))))) = is_cut (record { skip = h; most = i })

  query_sound : (c d : Left n) (m : Read) → W n (shape Query_) c d m → IsWritten n (build Query_ m)
  query_sound c d m (walk_both prologue (walk_both select (walk_both distinct (walk_both (walk_symbol (is_shown x)) (walk_both where_ (walk_both (walk_symbol (are_elements y)) (walk_both {c = a} {d = b} {n = o} order (walk_right walk_empty)))))))) =
      is_written (record { shown = x; elements = y; keys = maybe_order a b o order; cut = no_cut })
  query_sound c d m (walk_both prologue (walk_both select (walk_both distinct (walk_both (walk_symbol (is_shown x)) (walk_both where_ (walk_both (walk_symbol (are_elements y)) (walk_both {c = a} {d = b} {n = o} order (walk_left (walk_symbol (is_cut z)))))))))) =
      is_written (record { shown = x; elements = y; keys = maybe_order a b o order; cut = z })

  pub keeps : (y : Symbol) (c d : Left n) (m : Read) → W n (shape y) c d m → Of n y (build y m)
  keeps Query_ c d m h = query_sound c d m h
  keeps Shown_ c d m h = shown_sound c d m h
  keeps Group_ c d m h = group_sound c d m h
  keeps Other_ c d m h = other_sound c d m h
  keeps Triples_ c d m h = triples_sound c d m h
  keeps Same_ c d m h = same_sound c d m h
  keeps Objs_ c d m h = objs_sound c d m h
  keeps Verb_ c d m h = verb_sound c d m h
  keeps Term_ c d m h = term_sound c d m h
  keeps Iri_ c d m h = iri_sound c d m h
  keeps Literal_ c d m h = literal_sound c d m h
  keeps Cond_ c d m h = cond_sound c d m h
  keeps Truth_ c d m h = truth_sound c d m h
  keeps And_ c d m h = and_sound c d m h
  keeps Rel_ c d m h = rel_sound c d m h
  keeps Compared_ c d m h = compared_sound c d m h
  keeps Operator_ c d m h = operator_sound c d m h
  keeps Values_ c d m h = values_sound c d m h
  keeps Prim_ c d m h = prim_sound c d m h
  keeps Atom_ c d m h = atom_sound c d m h
  keeps Value_ c d m h = value_sound c d m h
  keeps Fun_ c d m h = fun_sound c d m h
  keeps Test_ c d m h = test_sound c d m h
  keeps Order_ c d m h = order_sound c d m h
  keeps Key_ c d m h = key_sound c d m h
  keeps Prologue_ c d m h = tt
  keeps Prefix_ c d m h = tt
  keeps Slice_ c d m h = slice_sound c d m h
