-- What the counts along a text tell of what is read: a walk from place to place counts the patterns and keys of what it reads, and
-- the connectives stand no deeper than the brackets and `!` along it.
use Rattle.std.specs.Prelude.{◌≡◌, ◌≤◌, ℕ, zero, suc, ◌+◌, ◌-◌, ◌*◌, Bool, true, false, ◌&&◌, if◌then◌else◌, nat_le, List, [], ◌∷◌, ◌++◌, length, map, refl}
use Rattle.std.specs.List.{AllByRecursion}
use Rattle.std.proofs.Common.{sym, ap, ◌∙◌, subst, arith, length-append}
use Rattle.std.proofs.lemmas.Bool.{false≢true, leb-true, le-leb}
use Rattle.grammar_meaning.specs.Grammar.{Pair, Made}
use Rattle.grammar_meaning.specs.Outcome.{implies}
use Rattle.rdf_meaning.specs.Terms.{RdfTerm}
use Rattle.query_meaning.specs.declared.pattern.Slot.{Slot}
use Rattle.query_meaning.specs.declared.pattern.Pattern.{Pattern}
use Rattle.query_meaning.specs.declared.expression.ValueExpr.{ValueExpr}
use Rattle.query_meaning.specs.declared.expression.TruthExpr.{TruthExpr}
use Rattle.query_meaning.specs.declared.expression.TruthExpr.TheVariants as truths
use Rattle.query_meaning.specs.declared.modifiers.Key.{Key as SortKey}
use Rattle.query_meaning.specs.declared.query.Element.{Element}
use Rattle.query_meaning.specs.declared.query.Element.TheVariants as el
use Rattle.query_meaning.specs.declared.query.Group.{Group}
use Rattle.sparql_grammar_meaning.specs.declared.lexeme.Sign.{Sign}
use Rattle.sparql_grammar_meaning.specs.declared.lexeme.Sign.TheVariants as s
use Rattle.sparql_grammar_meaning.specs.declared.lexeme.Lexeme.{Lexeme}
use Rattle.sparql_grammar_meaning.specs.declared.lexeme.Lexeme.TheVariants as l
use Rattle.sparql_grammar_meaning.specs.Grammar.{Kind, sign, Symbol, Query_, Prologue_, Shown_, Prefix_, Group_, Other_, Triples_, Same_, Objs_, Verb_, Term_, Iri_, Literal_, Cond_, Truth_, And_, Rel_, Compared_, Operator_, Values_, Prim_, Atom_, Value_, Fun_, Test_, Order_, Key_, Slice_, Tail, Written, Tree, a_query, slots, patterns, elements, an_element, a_value, a_tail, a_truth, keys, Read, build, slot_in, slots_behind, patterns_of, patterns_behind, patterns_in, group_of, value_in, values_in, truth_in, truths_behind, with_tail, leaf, parts, unions_behind, keys_behind, keys_in}
use Rattle.sparql_meaning.specs.Translation.{conjunction}
use Rattle.sparql_query_meaning.specs.Queries.{Numbered, number_all}
use Rattle.sparql_fragment_laws.specs.Numbers.{number, number_in, number-Triples, number-Optional, number-Unions, number-Condition, number_in-opened}
use Rattle.sparql_query_meaning.specs.Limits.{Place, subject, predicate, object, Role, is_behind_object, head, next, text_of, type_of, behind_object, filter, end, order, done, one_if, open_now, behind_bracket, completes, behind_brace}
use Rattle.sparql_walk_laws.specs.Shapes.{Leaves, leaf_sign, leaf_variable, leaf_iri, leaf_named, leaf_prefix, leaf_string, leaf_tag, leaf_count, leaf_literal, leaf_function, leaf_test, leaf_compare, leaf_direction, Shape, empty, token, symbol, both, either, several, word, maybe, shape}
use Rattle.sparql_walk_laws.specs.Walks.{Walks, walk_empty, walk_token, walk_symbol, walk_both, walk_left, walk_right, walk_several}
use Rattle.sparql_query_laws.specs.Connectives.{deepest, connectives, connectives-Value, connectives-Bound, connectives-Compare, connectives-OneOf, connectives-SameTerm, connectives-Is, connectives-Not, connectives-All, connectives-Any, deepest_within}
use Rattle.sparql_query_laws.specs.Passing.{both_true, Tests, condition_passes, ElementPasses, GroupPasses, triples_pass, optional_passes, unions_pass, condition_pass, group_passes}
use Rattle.sparql_query_laws.specs.Sound.{left_true, right_true}
use Rattle.sparql_query_laws.specs.Effects.{goes_by, after_by, groups_by, keys_by, depth_by}
use Rattle.sparql_fragment_laws.specs.Within.{state_behind}
use Rattle.sparql_query_laws.specs.Places.{At, goes, Moved}
use Rattle.sparql_query_laws.specs.Pace.{no_brace, in_condition, no_order, inside, around, not_order, Inner, Around, Early, to_elsewhere, inner_step, around_step, early_step}

-- ---- groups are closed again, and the end of the text stays

pub record Later (c d : At) : Type 0 where
  pub groups : c.state.groups ≡ d.state.groups
  pub behind : state_behind c.state c.tokens ≡ state_behind d.state d.tokens

pub later_here : (c : At) → Later c c
later_here c = record { groups = refl; behind = refl }

pub later_both : {c d e : At} → Later c d → Later d e → Later c e
later_both h k = record { groups = h.groups ∙ k.groups; behind = h.behind ∙ k.behind }

moved_later : {c d : At} {x : Lexeme} → Moved c x d → ((n : ℕ) → groups_by n x ≡ n) → Later c d
moved_later {c = c} {x = x} h level = record { groups = sym (level c.state.groups) ∙ sym h.groups; behind = h.behind }

level_sign : (a : Sign) → no_brace (sign a) ≡ true → (n : ℕ) → groups_by n (l.Sign a) ≡ n
level_sign s.OpenBrace h n = absurd (false≢true h)
level_sign s.CloseBrace h n = absurd (false≢true h)
level_sign a h n = refl

pub level_leaf : (a : Kind) (x : Lexeme) → Leaves a x → no_brace a ≡ true → (n : ℕ) → groups_by n x ≡ n
level_leaf a x (leaf_sign {a = b}) h n = level_sign b h n
level_leaf a x leaf_variable h n = refl
level_leaf a x y h n = refl

-- all tokens of a shape pass the first test, and all its symbols the second
abbrev pub fits : (Kind → Bool) → (Symbol → Bool) → Shape → Bool
fits k y empty = true
fits k y (token a) = k a
fits k y (symbol z) = y z
fits k y (both f g) = fits k y f && fits k y g
fits k y (either f g) = fits k y f && fits k y g
fits k y (several f) = fits k y f

abbrev pub any_symbol : Symbol → Bool
any_symbol y = true

-- the symbols of conditions, and the terms that stand in them
abbrev pub inner_symbol : Symbol → Bool
inner_symbol Iri_ = true
inner_symbol Literal_ = true
inner_symbol Cond_ = true
inner_symbol Truth_ = true
inner_symbol And_ = true
inner_symbol Rel_ = true
inner_symbol Compared_ = true
inner_symbol Operator_ = true
inner_symbol Values_ = true
inner_symbol Prim_ = true
inner_symbol Atom_ = true
inner_symbol Value_ = true
inner_symbol Fun_ = true
inner_symbol Test_ = true
inner_symbol y = false

abbrev pub outer_symbol : Symbol → Bool
outer_symbol Prologue_ = true
outer_symbol Prefix_ = true
outer_symbol Shown_ = true
outer_symbol Order_ = true
outer_symbol Key_ = true
outer_symbol Slice_ = true
outer_symbol y = false

abbrev pub early_symbol : Symbol → Bool
early_symbol Query_ = false
early_symbol Order_ = false
early_symbol y = true

pub record Paced (y : Symbol) (c d : At) : Type 0 where
  pub later : Later c d
  pub inner : inner_symbol y ≡ true → Inner c d
  pub around : outer_symbol y ≡ true → Around c d
  pub early : early_symbol y ≡ true → Early c d

-- ---- what each symbol owes

abbrev pub gain : Place → ℕ
gain object = 1
gain p = 0

-- where no tag or `^^` is next, the place has this role, and so many patterns are counted
abbrev pub Ready : At → Role → ℕ → Type 0
Ready c r k = goes c ≡ false → (c.state.role ≡ r) × (c.state.patterns ≡ k)

-- between triples and other elements
pub data IsOpen : Role → Type 0 where
  open_object : IsOpen behind_object
  open_next : {p : Place} → IsOpen (next p)

abbrev pub AtOpen : At → ℕ → Type 0
AtOpen c k = goes c ≡ false → IsOpen c.state.role × (c.state.patterns ≡ k)

abbrev pub InFilter : At → List Bool → Bool → Type 0
InFilter c bs waits = c.state.role ≡ filter bs waits

-- behind what stands in so many brackets of a filter
abbrev pub behind : List Bool → Role
behind [] = next subject
behind (b ∷ bs) = filter (b ∷ bs) false

pub record IriAt (c d : At) : Type 0 where
  pub triple : (p : Place) (k : ℕ) → Ready c (next p) k → Ready d (done p) (k + gain p)
  pub typed : (p : Place) (k : ℕ) → Ready c (type_of p) k → Ready d (done p) (k + gain p)
  pub filtered : (b : Bool) (bs : List Bool) (waits : Bool) → InFilter c (b ∷ bs) waits → InFilter d (b ∷ bs) false

pub record LiteralAt (c d : At) : Type 0 where
  pub triple : (p : Place) (k : ℕ) → Ready c (next p) k → Ready d (done p) (k + gain p)
  pub filtered : (b : Bool) (bs : List Bool) (waits : Bool) → InFilter c (b ∷ bs) waits → InFilter d (b ∷ bs) false

pub record PartAt (c d : At) : Type 0 where
  pub triple : (p : Place) (k : ℕ) → Ready c (next p) k → Ready d (done p) (k + gain p)

-- ---- single steps

not_going : {c d : At} {x : Lexeme} → Moved c x d → goes_by x ≡ false → goes c ≡ false
not_going h e = h.goes ∙ e

by_role : (c d : At) (x : Lexeme) (r : Role) → Moved c x d → c.state.role ≡ r → d.state.role ≡ after_by r c.state.groups x (goes d)
by_role c d x r h e = h.role ∙ ap (λ (z : Role). after_by z c.state.groups x (goes d)) e

by_depth : (c d : At) (x : Lexeme) (r : Role) → Moved c x d → c.state.role ≡ r → depth_by r x ≤ 48
by_depth c d x r h e = subst (λ (z : Role). depth_by z x ≤ 48) e h.depth

gained : (c d : At) (x : Lexeme) (r q : Role) (n : ℕ) → Moved c x d → c.state.role ≡ r → d.state.role ≡ q → one_if (completes r q) ≡ n → d.state.patterns ≡ c.state.patterns + n
gained c d x r q n h e f g =
    let same : one_if (completes c.state.role d.state.role) ≡ n = ap (λ (z : Role). one_if (completes z d.state.role)) e ∙ ap (λ (z : Role). one_if (completes r z)) f ∙ g in
    h.patterns ∙ ap (λ (z : ℕ). c.state.patterns + z) same

part_done : (c d : At) (x : Lexeme) (r : Role) (p : Place) (k : ℕ) → one_if (completes r (done p)) ≡ gain p → Moved c x d → c.state.role ≡ r → c.state.patterns ≡ k → d.state.role ≡ done p → Ready d (done p) (k + gain p)
part_done c d x r p k g h e few role quiet = (role, let n = gained c d x r (done p) (gain p) h e role g in omega (arith, n, few))

next_gains : (p : Place) → one_if (completes (next p) (done p)) ≡ gain p
next_gains subject = refl
next_gains p = refl

text_gains : (p : Place) → one_if (completes (text_of p) (done p)) ≡ gain p
text_gains subject = refl
text_gains p = refl

type_gains : (p : Place) → one_if (completes (type_of p) (done p)) ≡ gain p
type_gains subject = refl
type_gains p = refl

part_step : (c d : At) (x : Lexeme) (p : Place) (k : ℕ) → goes_by x ≡ false → ((n : ℕ) (g : Bool) → after_by (next p) n x g ≡ done p) → Moved c x d → Ready c (next p) k → Ready d (done p) (k + gain p)
part_step c d x p k g a h ready =
    let r = ready (not_going h g) in
    part_done c d x (next p) p k (next_gains p) h r.0 r.1 (by_role c d x (next p) h r.0 ∙ a c.state.groups (goes d))

typed_step : (c d : At) (x : Lexeme) (p : Place) (k : ℕ) → goes_by x ≡ false → ((n : ℕ) (g : Bool) → after_by (type_of p) n x g ≡ done p) → Moved c x d → Ready c (type_of p) k → Ready d (done p) (k + gain p)
typed_step c d x p k g a h ready =
    let r = ready (not_going h g) in
    part_done c d x (type_of p) p k (type_gains p) h r.0 r.1 (by_role c d x (type_of p) h r.0 ∙ a c.state.groups (goes d))

and_false : (b : Bool) → (b && false) ≡ false
and_false true = refl
and_false false = refl

filter_step : (c d : At) (x : Lexeme) (bs : List Bool) (waits : Bool) → ((n : ℕ) (g : Bool) → after_by (filter bs waits) n x g ≡ filter bs (waits && false)) → Moved c x d → InFilter c bs waits → InFilter d bs false
filter_step c d x bs waits a h e = by_role c d x (filter bs waits) h e ∙ a c.state.groups (goes d) ∙ ap (λ (z : Bool). filter bs z) (and_false waits)

open_filter : (c d : At) (bs : List Bool) (waits : Bool) → Moved c (l.Sign s.OpenBracket) d → InFilter c bs waits → InFilter d (waits ∷ bs) false
open_filter c d bs waits h e = by_role c d (l.Sign s.OpenBracket) (filter bs waits) h e

open_depth : (c d : At) (bs : List Bool) (waits : Bool) → Moved c (l.Sign s.OpenBracket) d → InFilter c bs waits → open_now (waits ∷ bs) false ≤ 48
open_depth c d bs waits h e = by_depth c d (l.Sign s.OpenBracket) (filter bs waits) h e

pub behind_is : (b : Bool) (bs : List Bool) → behind_bracket (b ∷ bs) ≡ behind bs
behind_is b [] = refl
behind_is b (c ∷ bs) = refl

close_filter : (c d : At) (b : Bool) (bs : List Bool) (waits : Bool) → Moved c (l.Sign s.CloseBracket) d → InFilter c (b ∷ bs) waits → d.state.role ≡ behind bs
close_filter c d b bs waits h e = by_role c d (l.Sign s.CloseBracket) (filter (b ∷ bs) waits) h e ∙ behind_is b bs

pub open_waits : (bs : List Bool) (waits : Bool) → open_now bs waits ≡ one_if waits + open_now bs false
open_waits [] true = refl
open_waits [] false = refl
open_waits (b ∷ bs) waits = let e = open_waits bs waits in omega (arith, e)

-- ---- trees of symbols

pub data ObjsAt (c d : At) : Tree → Type 0 where
  objs_at : {xs : List Slot} → ((k : ℕ) → Ready c (next object) k → Ready d behind_object (k + length xs)) → ObjsAt c d (slots xs)

pub data PatternsAt (c d : At) : Tree → Type 0 where
  patterns_at : {ps : List Pattern} → ((k : ℕ) → Ready c (next subject) k → AtOpen d (k + length ps)) → PatternsAt c d (patterns ps)

pub data ValueAt (c d : At) : Tree → Type 0 where
  value_at : {e : ValueExpr} → ((b : Bool) (bs : List Bool) (waits : Bool) → InFilter c (b ∷ bs) waits → InFilter d (b ∷ bs) false) → ValueAt c d (a_value e)

pub data FunAt (c d : At) : Tree → Type 0 where
  fun_at : {e : ValueExpr} → ((bs : List Bool) (waits : Bool) → InFilter c bs waits → d.state.role ≡ behind bs) → FunAt c d (a_value e)

pub data TestAt (c d : At) : Tree → Type 0 where
  test_at : {e : TruthExpr} → connectives e ≡ 0 → ((bs : List Bool) (waits : Bool) → InFilter c bs waits → d.state.role ≡ behind bs) → TestAt c d (a_truth e)

pub data CondAt (c d : At) : Tree → Type 0 where
  cond_at : {e : TruthExpr} → (InFilter c [] false → (d.state.role ≡ next subject) × (connectives e ≤ 96)) → CondAt c d (a_truth e)

-- where so many brackets and `!` are open, so many connectives stand in it at most
pub data DeepAt (m : ℕ) (may : Bool → Type 0) (c d : At) : Tree → Type 0 where
  deep_truth : {e : TruthExpr} → ((b : Bool) (bs : List Bool) (waits : Bool) → may waits → InFilter c (b ∷ bs) waits → open_now (b ∷ bs) waits ≤ 48 → InFilter d (b ∷ bs) false × (connectives e + 2 * open_now (b ∷ bs) waits ≤ m)) → DeepAt m may c d (a_truth e)
  deep_value : {e : ValueExpr} → ((b : Bool) (bs : List Bool) (waits : Bool) → may waits → InFilter c (b ∷ bs) waits → InFilter d (b ∷ bs) false) → DeepAt m may c d (a_value e)

abbrev pub Always : Bool → Type 0
Always b = Unit {0}

abbrev pub NoBang : Bool → Type 0
NoBang b = b ≡ false

pub record ValuesAt (c d : At) : Type 0 where
  pub filtered : (b : Bool) (bs : List Bool) → InFilter c (b ∷ bs) false → InFilter d (b ∷ bs) false × (1 + open_now (b ∷ bs) false ≤ 48)

pub data TailAt (c d : At) : Tree → Type 0 where
  tail_at : {t : Tail} → ((b : Bool) (bs : List Bool) → InFilter c (b ∷ bs) false → open_now (b ∷ bs) false ≤ 48 → InFilter d (b ∷ bs) false × ((v : ValueExpr) → connectives (with_tail v t) + 2 * open_now (b ∷ bs) false ≤ 96)) → TailAt c d (a_tail t)

-- ---- elements: how many patterns they have, and how deep their conditions are

pub conjoined : (es : List TruthExpr) → AllByRecursion (λ e. nat_le (connectives e) 96 ≡ true) es → condition_passes (λ e. nat_le (connectives e) 97) (conjunction es) ≡ true
conjoined [] h = refl
conjoined (e ∷ []) h = let a : connectives e ≤ 96 = leb-true (connectives e) 96 h.0 in le-leb (connectives e) 97 (omega (arith, a))
conjoined (e ∷ d ∷ es) h =
    let all : AllByRecursion (λ e. connectives e ≤ 96) (e ∷ d ∷ es) = each_le (e ∷ d ∷ es) h in
    let a = deepest_within 96 (e ∷ d ∷ es) all in
    let b = connectives-All (e ∷ d ∷ es) in
    le-leb (connectives (truths.All (e ∷ d ∷ es))) 97 (omega (arith, a, b))
  where
    each_le : (xs : List TruthExpr) → AllByRecursion (λ x. nat_le (connectives x) 96 ≡ true) xs → AllByRecursion (λ x. connectives x ≤ 96) xs
    each_le [] k = tt
    each_le (x ∷ xs) k = (leb-true (connectives x) 96 k.0, each_le xs k.1)

abbrev pub depth_tests : Tests
depth_tests = record { pattern = λ q. true; own = λ e. nat_le (connectives e) 96; joint = λ e. nat_le (connectives e) 97; unnumbered = λ n q. refl; conjoined = conjoined }

pub record ElementSized (x : Element) : Type 0 where
  pub passes : ElementPasses depth_tests x
  pub size : ℕ
  pub adds : (n : ℕ) → (number x n).after ≡ n + size

pub record ElementsSized (xs : List Element) : Type 0 where
  pub passes : AllByRecursion (ElementPasses depth_tests) xs
  pub size : ℕ
  pub adds : (n : ℕ) → (number_all (map number xs) n).after ≡ n + size

pub record GroupSized (g : Group) : Type 0 where
  pub passes : GroupPasses depth_tests g
  pub size : ℕ
  pub adds : (n : ℕ) → (number_in g n).after ≡ n + size

pub record GroupsSized (gs : List Group) : Type 0 where
  pub passes : AllByRecursion (GroupPasses depth_tests) gs
  pub size : ℕ
  pub adds : (n : ℕ) → (number_all (map number_in gs) n).after ≡ n + size

abbrev pub no_elements : ElementsSized []
no_elements = record { passes = tt; size = 0; adds = λ n. omega arith }

abbrev pub more_elements : (x : Element) (xs : List Element) → ElementSized x → ElementsSized xs → ElementsSized (x ∷ xs)
more_elements x xs a b = record {
  passes = (a.passes, b.passes);
  size = a.size + b.size;
  adds = λ n. let h = a.adds n in let k = b.adds (number x n).after in omega (arith, h, k);
}

abbrev pub no_groups : GroupsSized []
no_groups = record { passes = tt; size = 0; adds = λ n. omega arith }

abbrev pub more_groups : (g : Group) (gs : List Group) → GroupSized g → GroupsSized gs → GroupsSized (g ∷ gs)
more_groups g gs a b = record {
  passes = (a.passes, b.passes);
  size = a.size + b.size;
  adds = λ n. let h = a.adds n in let k = b.adds (number_in g n).after in omega (arith, h, k);
}

pub all_pass_true : (ps : List Pattern) → AllByRecursion (λ (q : Pattern). true ≡ true) ps
all_pass_true [] = tt
all_pass_true (p ∷ ps) = (refl, all_pass_true ps)

abbrev pub triples_sized : (ps : List Pattern) → ElementSized (el.Triples ps)
triples_sized ps = record { passes = triples_pass depth_tests ps (all_pass_true ps); size = length ps; adds = λ n. ap (λ (y : Numbered Element). y.after) (number-Triples ps n) }

abbrev pub leaf_sized : (ps : List Pattern) (xs : List Element) → ElementsSized xs → ElementsSized (leaf ps xs)
leaf_sized [] xs h = h
leaf_sized (p ∷ ps) xs h = more_elements (el.Triples (p ∷ ps)) xs (triples_sized (p ∷ ps)) h

leaf_size : (ps : List Pattern) (xs : List Element) (h : ElementsSized xs) → (leaf_sized ps xs h).size ≡ length ps + h.size
leaf_size [] xs h = omega arith
leaf_size (p ∷ ps) xs h = refl

abbrev pub group_sized : (xs : List Element) → ElementsSized xs → GroupSized (group_of xs)
group_sized xs h = record { passes = group_passes depth_tests xs h.passes; size = h.size; adds = λ n. ap (λ (y : Numbered Group). y.after) (number_in-opened (group_of xs) n) ∙ h.adds n }

abbrev pub optional_sized : (g : Group) → GroupSized g → ElementSized (el.Optional g)
optional_sized g h = record { passes = optional_passes depth_tests g h.passes; size = h.size; adds = λ n. ap (λ (y : Numbered Element). y.after) (number-Optional g n) ∙ h.adds n }

abbrev pub unions_sized : (gs : List Group) → GroupsSized gs → ElementSized (el.Unions gs)
unions_sized gs h = record { passes = unions_pass depth_tests gs h.passes; size = h.size; adds = λ n. ap (λ (y : Numbered Element). y.after) (number-Unions gs n) ∙ h.adds n }

abbrev pub condition_sized : (e : TruthExpr) → connectives e ≤ 96 → ElementSized (el.Condition e)
condition_sized e h = record { passes = condition_pass depth_tests e (le-leb (connectives e) 96 h); size = 0; adds = λ n. let z : n ≡ n + 0 = omega arith in ap (λ (y : Numbered Element). y.after) (number-Condition e n) ∙ z }

pub record GroupDone (xs : List Element) (c d : At) (k : ℕ) : Type 0 where
  pub sized : ElementsSized xs
  pub role : d.state.role ≡ behind_brace c.state.groups
  pub count : d.state.patterns ≡ k + sized.size

pub data GroupAt (c d : At) : Tree → Type 0 where
  group_at : {xs : List Element} → ((k : ℕ) → (goes c ≡ false → c.state.patterns ≡ k) → GroupDone xs c d k) → GroupAt c d (elements xs)

pub record OtherDone (x : Element) (d : At) (k : ℕ) : Type 0 where
  pub sized : ElementSized x
  pub ready : Ready d (next subject) (k + sized.size)

pub data OtherAt (c d : At) : Tree → Type 0 where
  other_at : {x : Element} → ((k g : ℕ) → c.state.groups ≡ suc g → AtOpen c k → OtherDone x d k) → OtherAt c d (an_element x)

pub record KeyAt (c d : At) : Type 0 where
  pub counted : c.state.role ≡ order → (d.state.role ≡ order) × (d.state.keys ≡ c.state.keys + 1)

pub data KeysAt (c d : At) : Tree → Type 0 where
  keys_at : {xs : List SortKey} → (c.state.role ≡ end → d.state.keys ≡ c.state.keys + length xs) → KeysAt c d (keys xs)

pub record WrittenDone (w : Written) (d : At) : Type 0 where
  pub sized : ElementsSized w.elements
  pub patterns : d.state.patterns ≡ sized.size
  pub keys : d.state.keys ≡ length w.keys

-- no token is read yet
pub record AtFirst (c : At) : Type 0 where
  pub role : c.state.role ≡ head
  pub groups : c.state.groups ≡ 0
  pub patterns : c.state.patterns ≡ 0
  pub keys : c.state.keys ≡ 0

pub data WrittenAt (c d : At) : Tree → Type 0 where
  written_at : {w : Written} → (AtFirst c → WrittenDone w d) → WrittenAt c d (a_query w)

pub record SliceAt (c d : At) : Type 0 where
  pub keys : d.state.keys ≡ c.state.keys

abbrev pub Of : Symbol → At → At → Tree → Type 0
Of Query_ c d x = WrittenAt c d x
Of Prologue_ c d x = Unit {0}
Of Shown_ c d x = Unit {0}
Of Prefix_ c d x = Unit {0}
Of Group_ c d x = GroupAt c d x
Of Other_ c d x = OtherAt c d x
Of Triples_ c d x = PatternsAt c d x
Of Same_ c d x = PatternsAt c d x
Of Objs_ c d x = ObjsAt c d x
Of Verb_ c d x = PartAt c d
Of Term_ c d x = PartAt c d
Of Iri_ c d x = IriAt c d
Of Literal_ c d x = LiteralAt c d
Of Cond_ c d x = CondAt c d x
Of Truth_ c d x = DeepAt 98 NoBang c d x
Of And_ c d x = DeepAt 97 NoBang c d x
Of Rel_ c d x = DeepAt 96 NoBang c d x
Of Compared_ c d x = DeepAt 96 NoBang c d x
Of Operator_ c d x = TailAt c d x
Of Values_ c d x = ValuesAt c d
Of Prim_ c d x = DeepAt 96 NoBang c d x
Of Atom_ c d x = DeepAt 96 Always c d x
Of Value_ c d x = ValueAt c d x
Of Fun_ c d x = FunAt c d x
Of Test_ c d x = TestAt c d x
Of Order_ c d x = KeysAt c d x
Of Key_ c d x = KeyAt c d
Of Slice_ c d x = SliceAt c d

pub data Owes (y : Symbol) (c d : At) (x : Tree) : Type 0 where
  owes : Paced y c d → Of y c d x → Owes y c d x

abbrev pub W : Shape → At → At → Read → Type 0
W f c d m = Walks Moved Owes f c d m

pub paced : {y : Symbol} {c d : At} {x : Tree} → Owes y c d x → Paced y c d
paced (owes h k) = h

-- what the tokens of a shape and its symbols keep, each walk over it keeps
module _ (P : At → At → Type 0) (here : (c : At) → P c c) (more : (c d e : At) → P c d → P d e → P c e) (k : Kind → Bool) (y : Symbol → Bool)
    (step : (a : Kind) (c d : At) (x : Lexeme) → Leaves a x → k a ≡ true → Moved c x d → P c d) (owed : (z : Symbol) (c d : At) → y z ≡ true → Paced z c d → P c d) where
  pub kept_walk : (f : Shape) (c d : At) (m : Read) → fits k y f ≡ true → W f c d m → P c d
  kept_walk f c d m e walk_empty = here c
  kept_walk f c d m e (walk_token {a = a} {x = x} l h) = step a c d x l e h
  kept_walk f c d m e (walk_symbol {s = z} h) = owed z c d e (paced h)
  kept_walk f c d m e (walk_both {f = g} {g = g'} {d = a} {n = n} {m = n'} x z) =
      more c a d (kept_walk g c a n (left_true (fits k y g) (fits k y g') e) x) (kept_walk g' a d n' (right_true (fits k y g) (fits k y g') e) z)
  kept_walk f c d m e (walk_left {f = g} {g = g'} x) = kept_walk g c d m (left_true (fits k y g) (fits k y g') e) x
  kept_walk f c d m e (walk_right {f = g} {g = g'} x) = kept_walk g' c d m (right_true (fits k y g) (fits k y g') e) x
  kept_walk f c d m e (walk_several {f = g} x) = kept_walk (either (both g (several g)) empty) c d m (both_true (both_true e e) refl) x

later_step : (a : Kind) (c d : At) (x : Lexeme) → Leaves a x → no_brace a ≡ true → Moved c x d → Later c d
later_step a c d x y e h = moved_later h (level_leaf a x y e)

later_owed : (z : Symbol) (c d : At) → any_symbol z ≡ true → Paced z c d → Later c d
later_owed z c d e h = h.later

pub later_walk : (f : Shape) (c d : At) (m : Read) → fits no_brace any_symbol f ≡ true → W f c d m → Later c d
later_walk = kept_walk Later later_here (λ c d e. later_both) no_brace any_symbol later_step later_owed

inner_here : (c : At) → Inner c c
inner_here c e = (e, refl)

inner_both : (c d e : At) → Inner c d → Inner d e → Inner c e
inner_both a b c h k e = let x = k e in let y = h x.0 in (y.0, x.1 ∙ y.1)

inner_owed : (z : Symbol) (c d : At) → inner_symbol z ≡ true → Paced z c d → Inner c d
inner_owed z c d e h = h.inner e

inner_walk : (f : Shape) (c d : At) (m : Read) → fits in_condition inner_symbol f ≡ true → W f c d m → Inner c d
inner_walk = kept_walk Inner inner_here inner_both in_condition inner_symbol inner_step inner_owed

around_here : (c : At) → Around c c
around_here c e = (e, refl)

around_both : (c d e : At) → Around c d → Around d e → Around c e
around_both a b c h k e = let x = h e in let y = k x.0 in (y.0, y.1 ∙ x.1)

around_owed : (z : Symbol) (c d : At) → outer_symbol z ≡ true → Paced z c d → Around c d
around_owed z c d e h = h.around e

around_walk : (f : Shape) (c d : At) (m : Read) → fits no_brace outer_symbol f ≡ true → W f c d m → Around c d
around_walk = kept_walk Around around_here around_both no_brace outer_symbol around_step around_owed

early_here : (c : At) → Early c c
early_here c e = (e, refl)

early_both : (c d e : At) → Early c d → Early d e → Early c e
early_both a b c h k e = let x = h e in let y = k x.0 in (y.0, y.1 ∙ x.1)

early_owed : (z : Symbol) (c d : At) → early_symbol z ≡ true → Paced z c d → Early c d
early_owed z c d e h = h.early e

early_walk : (f : Shape) (c d : At) (m : Read) → fits no_order early_symbol f ≡ true → W f c d m → Early c d
early_walk = kept_walk Early early_here early_both no_order early_symbol early_step early_owed

-- ---- parts of triples

iri_step : (c d : At) (x : Lexeme) → goes_by x ≡ false → ((p : Place) (n : ℕ) (g : Bool) → after_by (next p) n x g ≡ done p) → ((p : Place) (n : ℕ) (g : Bool) → after_by (type_of p) n x g ≡ done p)
    → ((bs : List Bool) (waits : Bool) (n : ℕ) (g : Bool) → after_by (filter bs waits) n x g ≡ filter bs (waits && false)) → Moved c x d → IriAt c d
iri_step c d x g a b f h = record {
  triple = λ p k r. part_step c d x p k g (a p) h r;
  typed = λ p k r. typed_step c d x p k g (b p) h r;
  filtered = λ b bs waits e. filter_step c d x (b ∷ bs) waits (f (b ∷ bs) waits) h e;
}

iri_at : (c d : At) (m : Read) → W (shape Iri_) c d m → IriAt c d
iri_at c d m (walk_left (walk_token (leaf_iri {i = i}) h)) = iri_step c d (l.Iri i) refl (λ p n g. refl) (λ p n g. refl) (λ bs w n g. refl) h
iri_at c d m (walk_right (walk_left (walk_token (leaf_named {i = i}) h))) = iri_step c d (l.Named i) refl (λ p n g. refl) (λ p n g. refl) (λ bs w n g. refl) h
iri_at c d m (walk_right (walk_right (walk_token (leaf_prefix {i = i}) h))) = iri_step c d (l.PrefixName i) refl (λ p n g. refl) (λ p n g. refl) (λ bs w n g. refl) h

-- a text: where a tag or `^^` follows, it isn't done yet
text_done : (c d : At) (t : List ℕ) (p : Place) (k : ℕ) → Moved c (l.Text t) d → Ready c (next p) k → Ready d (done p) (k + gain p)
text_done c d t p k h ready quiet =
    let r = ready (not_going h refl) in
    let role : d.state.role ≡ done p = by_role c d (l.Text t) (next p) h r.0 ∙ ap (λ (b : Bool). if b then text_of p else done p) quiet in
    part_done c d (l.Text t) (next p) p k (next_gains p) h r.0 r.1 role quiet

text_waits : (c d : At) (t : List ℕ) (p : Place) (k : ℕ) → Moved c (l.Text t) d → Ready c (next p) k → goes d ≡ true → (d.state.role ≡ text_of p) × (d.state.patterns ≡ k)
text_waits c d t p k h ready going =
    let r = ready (not_going h refl) in
    let role : d.state.role ≡ text_of p = by_role c d (l.Text t) (next p) h r.0 ∙ ap (λ (b : Bool). if b then text_of p else done p) going in
    (role, to_elsewhere c d (l.Text t) (text_of p) h role refl ∙ r.1)

tag_done : (c d : At) (y : List ℕ) (p : Place) (k : ℕ) → Moved c (l.Tag y) d → (c.state.role ≡ text_of p) × (c.state.patterns ≡ k) → Ready d (done p) (k + gain p)
tag_done c d y p k h r = part_done c d (l.Tag y) (text_of p) p k (text_gains p) h r.0 r.1 (by_role c d (l.Tag y) (text_of p) h r.0)

carets_done : (c d : At) (p : Place) (k : ℕ) → Moved c (l.Sign s.TwoCarets) d → (c.state.role ≡ text_of p) × (c.state.patterns ≡ k) → Ready d (type_of p) k
carets_done c d p k h r quiet = let role = by_role c d (l.Sign s.TwoCarets) (text_of p) h r.0 in (role, to_elsewhere c d (l.Sign s.TwoCarets) (type_of p) h role refl ∙ r.1)

literal_at : (c d : At) (m : Read) → W (shape Literal_) c d m → LiteralAt c d
literal_at c d m (walk_left (walk_both (walk_token (leaf_string {t = t}) h) (walk_right walk_empty))) = record {
  triple = λ p k r. text_done c d t p k h r;
  filtered = λ b bs waits e. filter_step c d (l.Text t) (b ∷ bs) waits (λ n g. refl) h e;
}
literal_at c d m (walk_left (walk_both {d = a} (walk_token (leaf_string {t = t}) h) (walk_left (walk_left (walk_token (leaf_tag {t = y}) i))))) = record {
  triple = λ p k r. tag_done a d y p k i (text_waits c a t p k h r i.goes);
  filtered = λ b bs waits e. filter_step a d (l.Tag y) (b ∷ bs) false (λ n g. refl) i (filter_step c a (l.Text t) (b ∷ bs) waits (λ n g. refl) h e);
}
literal_at c d m (walk_left (walk_both {d = a} (walk_token (leaf_string {t = t}) h) (walk_left (walk_right (walk_both {d = z} (walk_token leaf_sign i) (walk_symbol (owes later j))))))) = record {
  triple = λ p k r. j.typed p k (carets_done a z p k i (text_waits c a t p k h r i.goes));
  filtered = λ b bs waits e. j.filtered b bs false (filter_step a z (l.Sign s.TwoCarets) (b ∷ bs) false (λ n g. refl) i (filter_step c a (l.Text t) (b ∷ bs) waits (λ n g. refl) h e));
}
literal_at c d m (walk_right (walk_left (walk_token (leaf_count {t = t} {n = n}) h))) = record {
  triple = λ p k r. part_step c d (l.Count t n) p k refl (λ i g. refl) h r;
  filtered = λ b bs waits e. filter_step c d (l.Count t n) (b ∷ bs) waits (λ i g. refl) h e;
}
literal_at c d m (walk_right (walk_right (walk_token (leaf_literal {t = t}) h))) = record {
  triple = λ p k r. part_step c d (l.Literal t) p k refl (λ i g. refl) h r;
  filtered = λ b bs waits e. filter_step c d (l.Literal t) (b ∷ bs) waits (λ i g. refl) h e;
}

term_at : (c d : At) (m : Read) → W (shape Term_) c d m → PartAt c d
term_at c d m (walk_left (walk_token (leaf_variable {n = i}) h)) = record { triple = λ p k r. part_step c d (l.Variable i) p k refl (λ n g. refl) h r }
term_at c d m (walk_right (walk_left (walk_symbol (owes later h)))) = record { triple = h.triple }
term_at c d m (walk_right (walk_right (walk_symbol (owes later h)))) = record { triple = h.triple }

verb_at : (c d : At) (m : Read) → W (shape Verb_) c d m → PartAt c d
verb_at c d m (walk_left (walk_token (leaf_variable {n = i}) h)) = record { triple = λ p k r. part_step c d (l.Variable i) p k refl (λ n g. refl) h r }
verb_at c d m (walk_right (walk_left (walk_symbol (owes later h)))) = record { triple = h.triple }
verb_at c d m (walk_right (walk_right (walk_token leaf_sign h))) = record { triple = λ p k r. part_step c d (l.Sign s.A) p k refl (λ n g. refl) h r }

-- ---- triples

comma_step : (c d : At) (k : ℕ) → Moved c (l.Sign s.Comma) d → Ready c behind_object k → Ready d (next object) k
comma_step c d k h ready quiet = let r = ready (not_going h refl) in let role = by_role c d (l.Sign s.Comma) behind_object h r.0 in (role, to_elsewhere c d (l.Sign s.Comma) (next object) h role refl ∙ r.1)

objects_behind : (c d : At) (m : Read) → W (several (both (word s.Comma) (symbol Term_))) c d m → (k : ℕ) → Ready c behind_object k → Ready d behind_object (k + length (slots_behind m))
objects_behind c d m (walk_several (walk_left (walk_both {d = e} {m = rest} (walk_both {d = a} (walk_token leaf_sign h) (walk_symbol (owes later i))) more))) k r =
    let n : (k + 1) + length (slots_behind rest) ≡ k + suc (length (slots_behind rest)) = omega arith in
    subst (λ (z : ℕ). Ready d behind_object z) n (objects_behind e d rest more (k + 1) (i.triple object k (comma_step c a k h r)))
objects_behind c d m (walk_several (walk_right walk_empty)) k r = subst (λ (z : ℕ). Ready c behind_object z) (let n : k ≡ k + 0 = omega arith in n) r

objs_owed : (c d : At) (m : Read) → W (shape Objs_) c d m → ObjsAt c d (build Objs_ m)
objs_owed c d m (walk_both {d = e} {m = rest} (walk_symbol (owes later i)) more) =
    objs_at (λ k r.
    let n : (k + 1) + length (slots_behind rest) ≡ k + suc (length (slots_behind rest)) = omega arith in
    subst (λ (z : ℕ). Ready d behind_object z) n (objects_behind e d rest more (k + 1) (i.triple object k r)))

open_by : (c : At) (r : Role) (k : ℕ) → IsOpen r → Ready c r k → AtOpen c k
open_by c r k o h quiet = let x = h quiet in (subst IsOpen (sym x.0) o, x.1)

length_of : (a b : Slot) (xs : List Slot) → length (patterns_of a b xs) ≡ length xs
length_of a b [] = refl
length_of a b (x ∷ xs) = ap suc (length_of a b xs)

semicolon_role : (r : Role) (n : ℕ) (g : Bool) → IsOpen r → after_by r n (l.Sign s.Semicolon) g ≡ next predicate
semicolon_role r n g open_object = refl
semicolon_role r n g open_next = refl

open_step : (c d : At) (x : Lexeme) (q : Role) (k : ℕ) → goes_by x ≡ false → is_behind_object q ≡ false → ((r : Role) (n : ℕ) (g : Bool) → IsOpen r → after_by r n x g ≡ q) → Moved c x d → AtOpen c k → Ready d q k
open_step c d x q k g f a h o quiet =
    let r = o (not_going h g) in
    let role = h.role ∙ a c.state.role c.state.groups (goes d) r.0 in
    (role, to_elsewhere c d x q h role f ∙ r.1)

predicate_gains : (k : ℕ) → k + gain predicate ≡ k
predicate_gains k = omega arith

subject_gains : (k : ℕ) → k + gain subject ≡ k
subject_gains k = omega arith

pairs_behind : (a : Slot) (c d : At) (m : Read) → W (several (both (word s.Semicolon) (maybe (both (symbol Verb_) (symbol Objs_))))) c d m → (k : ℕ) → AtOpen c k → AtOpen d (k + length (patterns_behind a m))
pairs_behind a c d m (walk_several (walk_left (walk_both {d = e} {m = rest} (walk_both {d = f} (walk_token leaf_sign h) (walk_left (walk_both {d = g} {n = verb} (walk_symbol (owes v i)) (walk_symbol (owes o (objs_at {xs = xs} j)))))) more))) k r =
    let begun = i.triple predicate k (open_step c f (l.Sign s.Semicolon) (next predicate) k refl refl semicolon_role h r) in
    let objects = j k (subst (λ (z : ℕ). Ready g (next object) z) (predicate_gains k) begun) in
    let rest_open = pairs_behind a e d rest more (k + length xs) (open_by e behind_object (k + length xs) open_object objects) in
    let one = length_of a (slot_in verb) xs in
    let all = length-append (patterns_of a (slot_in verb) xs) (patterns_behind a rest) in
    let n : (k + length xs) + length (patterns_behind a rest) ≡ k + length (patterns_of a (slot_in verb) xs ++ patterns_behind a rest) = omega (arith, one, all) in
    subst (λ (z : ℕ). AtOpen d z) n rest_open
pairs_behind a c d m (walk_several (walk_left (walk_both {d = e} {m = rest} (walk_both {d = f} (walk_token leaf_sign h) (walk_right walk_empty)) more))) k r =
    pairs_behind a e d rest more k (open_by e (next predicate) k open_next (open_step c e (l.Sign s.Semicolon) (next predicate) k refl refl semicolon_role h r))
pairs_behind a c d m (walk_several (walk_right walk_empty)) k r = subst (λ (z : ℕ). AtOpen c z) (let n : k ≡ k + 0 = omega arith in n) r

same_owed : (c d : At) (m : Read) → W (shape Same_) c d m → PatternsAt c d (build Same_ m)
same_owed c d m (walk_both {d = a} {n = first} (walk_symbol (owes u i)) (walk_both {d = b} {n = verb} (walk_symbol (owes v j)) (walk_both {d = e} {m = rest} (walk_symbol (owes o (objs_at {xs = xs} q))) more))) =
    patterns_at (λ k r.
    let x = subst (λ (z : ℕ). Ready a (next predicate) z) (subject_gains k) (i.triple subject k r) in
    let y = subst (λ (z : ℕ). Ready b (next object) z) (predicate_gains k) (j.triple predicate k x) in
    let objects = q k y in
    let rest_open = pairs_behind (slot_in first) e d rest more (k + length xs) (open_by e behind_object (k + length xs) open_object objects) in
    let one = length_of (slot_in first) (slot_in verb) xs in
    let all = length-append (patterns_of (slot_in first) (slot_in verb) xs) (patterns_behind (slot_in first) rest) in
    let n : (k + length xs) + length (patterns_behind (slot_in first) rest) ≡ k + length (patterns_of (slot_in first) (slot_in verb) xs ++ patterns_behind (slot_in first) rest) = omega (arith, one, all) in
    subst (λ (z : ℕ). AtOpen d z) n rest_open)

dot_role : (r : Role) (n : ℕ) (g : Bool) → IsOpen r → after_by r n (l.Sign s.Dot) g ≡ next subject
dot_role r n g open_object = refl
dot_role r n g open_next = refl

maybe_triples : (c d : At) (m : Read) → W (maybe (symbol Triples_)) c d m → (k : ℕ) → Ready c (next subject) k → AtOpen d (k + length (patterns_in m))
maybe_triples c d m (walk_left (walk_symbol (owes u (patterns_at h)))) k r = h k r
maybe_triples c d m (walk_right walk_empty) k r = subst (λ (z : ℕ). AtOpen c z) (let n : k ≡ k + 0 = omega arith in n) (open_by c (next subject) k open_next r)

triples_owed : (c d : At) (m : Read) → W (shape Triples_) c d m → PatternsAt c d (build Triples_ m)
triples_owed c d m (walk_both {d = a} (walk_symbol (owes u (patterns_at {ps = ps} h))) (walk_left (walk_both {d = b} {m = rest} (walk_token leaf_sign i) more))) =
    patterns_at (λ k r.
    let x = maybe_triples b d rest more (k + length ps) (open_step a b (l.Sign s.Dot) (next subject) (k + length ps) refl refl dot_role i (h k r)) in
    let all = length-append ps (patterns_in rest) in
    let n : (k + length ps) + length (patterns_in rest) ≡ k + length (ps ++ patterns_in rest) = omega (arith, all) in
    subst (λ (z : ℕ). AtOpen d z) n x)
triples_owed c d m (walk_both (walk_symbol (owes u (patterns_at h))) (walk_right walk_empty)) = patterns_at h

-- ---- filters

value_owed : (c d : At) (m : Read) → W (shape Value_) c d m → ValueAt c d (build Value_ m)
value_owed c d m (walk_left (walk_token (leaf_variable {n = i}) h)) = value_at (λ b bs waits e. filter_step c d (l.Variable i) (b ∷ bs) waits (λ n g. refl) h e)
value_owed c d m (walk_right (walk_left (walk_symbol (owes u h)))) = value_at h.filtered
value_owed c d m (walk_right (walk_right (walk_left (walk_symbol (owes u h))))) = value_at h.filtered
value_owed c d m (walk_right (walk_right (walk_right (walk_left (walk_symbol (owes u (fun_at h))))))) = value_at (λ b bs waits e. h (b ∷ bs) waits e)
value_owed c d m (walk_right (walk_right (walk_right (walk_right (walk_both {d = a} (walk_token leaf_sign h) (walk_both {d = z} (walk_symbol (owes u (value_at i))) (walk_token leaf_sign j))))))) =
    value_at (λ b bs waits e. close_filter z d waits (b ∷ bs) false j (i waits (b ∷ bs) false (open_filter c a (b ∷ bs) waits h e)))

-- what stands in brackets behind the name of a function or a test
abbrev Inside : At → At → Type 0
Inside a z = (b : Bool) (bs : List Bool) (waits : Bool) → InFilter a (b ∷ bs) waits → InFilter z (b ∷ bs) false

bracketed : (c a z d : At) (bs : List Bool) (waits : Bool) → Moved c (l.Sign s.OpenBracket) a → Inside a z → Moved z (l.Sign s.CloseBracket) d → InFilter c bs waits → d.state.role ≡ behind bs
bracketed c a z d bs waits h i j e = close_filter z d waits bs false j (i waits bs false (open_filter c a bs waits h e))

fun_owed : (c d : At) (m : Read) → W (shape Fun_) c d m → FunAt c d (build Fun_ m)
fun_owed c d m (walk_both {d = f} (walk_token (leaf_function {f = g}) h) (walk_both {d = a} (walk_token leaf_sign i) (walk_both {d = z} (walk_symbol (owes u (value_at j))) (walk_token leaf_sign q)))) =
    fun_at (λ bs waits e. bracketed f a z d bs (waits && true) i j q (by_role c f (l.Function g) (filter bs waits) h e))

test_owed : (c d : At) (m : Read) → W (shape Test_) c d m → TestAt c d (build Test_ m)
test_owed c d m (walk_left (walk_both {d = f} (walk_token leaf_sign h) (walk_both {d = a} (walk_token leaf_sign i) (walk_both {d = z} (walk_token (leaf_variable {n = v}) j) (walk_token leaf_sign q))))) =
    test_at (connectives-Bound v) (λ bs waits e.
    let inside = open_filter f a bs (waits && true) i (by_role c f (l.Sign s.Bound) (filter bs waits) h e) in
    close_filter z d (waits && true) bs false q (filter_step a z (l.Variable v) ((waits && true) ∷ bs) false (λ n g. refl) j inside))
test_owed c d m (walk_right (walk_left (walk_both {d = f} (walk_token leaf_sign h) (walk_both {d = a} (walk_token leaf_sign i) (walk_both {d = y} {n = first} (walk_symbol (owes u (value_at j))) (walk_both {d = x} (walk_token leaf_sign q) (walk_both {d = z} {n = second} (walk_symbol (owes o (value_at p))) (walk_token leaf_sign r)))))))) =
    test_at (connectives-SameTerm (value_in first) (value_in second)) (λ bs waits e.
    let inside = open_filter f a bs (waits && true) i (by_role c f (l.Sign s.SameTerm) (filter bs waits) h e) in
    let one = j (waits && true) bs false inside in
    let two = p (waits && true) bs false (filter_step y x (l.Sign s.Comma) ((waits && true) ∷ bs) false (λ n g. refl) q one) in
    close_filter z d (waits && true) bs false r two)
test_owed c d m (walk_right (walk_right (walk_both {d = f} (walk_token (leaf_test {t = t}) h) (walk_both {d = a} (walk_token leaf_sign i) (walk_both {d = z} {n = first} (walk_symbol (owes u (value_at j))) (walk_token leaf_sign q)))))) =
    test_at (connectives-Is t (value_in first)) (λ bs waits e. bracketed f a z d bs (waits && true) i j q (by_role c f (l.Test t) (filter bs waits) h e))

-- a value that stands as a truth has no connectives
truth_of : (m : ℕ) (may : Bool → Type 0) (c d : At) (x : Tree) → DeepAt m may c d x → 96 ≤ m → (b : Bool) (bs : List Bool) (waits : Bool) → may waits → InFilter c (b ∷ bs) waits → open_now (b ∷ bs) waits ≤ 48
    → InFilter d (b ∷ bs) false × (connectives (truth_in (Made x)) + 2 * open_now (b ∷ bs) waits ≤ m)
truth_of m may c d x (deep_truth h) most b bs waits w e few = h b bs waits w e few
truth_of m may c d x (deep_value {e = y} h) most b bs waits w e few = let none = connectives-Value y in (h b bs waits w e, omega (arith, none, most, few))

cond_owed : (c d : At) (m : Read) → W (shape Cond_) c d m → CondAt c d (build Cond_ m)
cond_owed c d m (walk_left (walk_both {d = a} (walk_token leaf_sign h) (walk_both {d = z} (walk_symbol {x = x} (owes u i)) (walk_token leaf_sign j)))) =
    cond_at (λ e.
    let y = truth_of 98 NoBang a z x i (omega arith) false [] false refl (open_filter c a [] false h e) (open_depth c a [] false h e) in
    (close_filter z d false [] false j y.0, let n = y.1 in omega (arith, n)))
cond_owed c d m (walk_right (walk_left (walk_symbol (owes u (test_at none i))))) = cond_at (λ e. (i [] false e, omega (arith, none)))
cond_owed c d m (walk_right (walk_right (walk_symbol (owes u (fun_at {e = x} i))))) = cond_at (λ e. (i [] false e, let none = connectives-Value x in omega (arith, none)))

-- ---- connectives

step_or : (c d : At) (b : Bool) (bs : List Bool) → Moved c (l.Sign s.Or) d → InFilter c (b ∷ bs) false → InFilter d (b ∷ bs) false
step_or c d b bs h e = filter_step c d (l.Sign s.Or) (b ∷ bs) false (λ n g. refl) h e

step_and : (c d : At) (b : Bool) (bs : List Bool) → Moved c (l.Sign s.And) d → InFilter c (b ∷ bs) false → InFilter d (b ∷ bs) false
step_and c d b bs h e = filter_step c d (l.Sign s.And) (b ∷ bs) false (λ n g. refl) h e

-- the members of a connective, each of them at most so deep
abbrev Members : ℕ → ℕ → List TruthExpr → Type 0
Members m n es = AllByRecursion (λ e. connectives e + 2 * n ≤ m) es

ors_behind : (c d : At) (m : Read) → W (several (both (word s.Or) (symbol And_))) c d m → (b : Bool) (bs : List Bool) → InFilter c (b ∷ bs) false → open_now (b ∷ bs) false ≤ 48
    → InFilter d (b ∷ bs) false × Members 97 (open_now (b ∷ bs) false) (truths_behind m)
ors_behind c d m (walk_several (walk_left (walk_both {d = a} {m = rest} (walk_both {d = f} (walk_token leaf_sign h) (walk_symbol {x = x} (owes u i))) more))) b bs e few =
    let one = truth_of 97 NoBang f a x i (omega arith) b bs false refl (step_or c f b bs h e) few in
    let others = ors_behind a d rest more b bs one.0 few in
    (others.0, (one.1, others.1))
ors_behind c d m (walk_several (walk_right walk_empty)) b bs e few = (e, tt)

ands_behind : (c d : At) (m : Read) → W (several (both (word s.And) (symbol Rel_))) c d m → (b : Bool) (bs : List Bool) → InFilter c (b ∷ bs) false → open_now (b ∷ bs) false ≤ 48
    → InFilter d (b ∷ bs) false × Members 96 (open_now (b ∷ bs) false) (truths_behind m)
ands_behind c d m (walk_several (walk_left (walk_both {d = a} {m = rest} (walk_both {d = f} (walk_token leaf_sign h) (walk_symbol {x = x} (owes u i))) more))) b bs e few =
    let one = truth_of 96 NoBang f a x i (omega arith) b bs false refl (step_and c f b bs h e) few in
    let others = ands_behind a d rest more b bs one.0 few in
    (others.0, (one.1, others.1))
ands_behind c d m (walk_several (walk_right walk_empty)) b bs e few = (e, tt)

deepest_members : (m n : ℕ) (es : List TruthExpr) → 2 * n ≤ m → Members m n es → deepest (map connectives es) + 2 * n ≤ m
deepest_members m n [] h k = omega (arith, h)
deepest_members m n (e ∷ es) h k = let a = k.0 in let b = deepest_members m n es h k.1 in omega (arith, a, b)

-- what a member is at, where it is at the place of the whole
weaker : (m k : ℕ) (c d : At) (x : Tree) → k ≤ m → DeepAt k NoBang c d x → DeepAt m NoBang c d x
weaker m k c d x h (deep_truth f) = deep_truth (λ b bs waits w e few. let y = f b bs waits w e few in (y.0, let n = y.1 in omega (arith, n, h)))
weaker m k c d x h (deep_value f) = deep_value f

any_of : (c a d : At) (x : Tree) (es : List TruthExpr) → DeepAt 97 NoBang c a x → ((b : Bool) (bs : List Bool) → InFilter a (b ∷ bs) false → open_now (b ∷ bs) false ≤ 48 → InFilter d (b ∷ bs) false × Members 97 (open_now (b ∷ bs) false) es)
    → DeepAt 98 NoBang c d (a_truth (truths.Any (truth_in (Made x) ∷ es)))
any_of c a d x es i more = deep_truth (λ b bs waits w e few.
    let e' : InFilter c (b ∷ bs) false = subst (λ (z : Bool). InFilter c (b ∷ bs) z) w e in
    let same : open_now (b ∷ bs) waits ≡ open_now (b ∷ bs) false = ap (λ (z : Bool). open_now (b ∷ bs) z) w in
    let few' : open_now (b ∷ bs) false ≤ 48 = omega (arith, few, same) in
    let one = truth_of 97 NoBang c a x i (omega arith) b bs false refl e' few' in
    let others = more b bs one.0 few' in
    let k = deepest_members 97 (open_now (b ∷ bs) false) (truth_in (Made x) ∷ es) (omega (arith, few')) (one.1, others.1) in
    let n = connectives-Any (truth_in (Made x) ∷ es) in
    (others.0, omega (arith, k, n, same)))

all_of : (c a d : At) (x : Tree) (es : List TruthExpr) → DeepAt 96 NoBang c a x → ((b : Bool) (bs : List Bool) → InFilter a (b ∷ bs) false → open_now (b ∷ bs) false ≤ 48 → InFilter d (b ∷ bs) false × Members 96 (open_now (b ∷ bs) false) es)
    → DeepAt 97 NoBang c d (a_truth (truths.All (truth_in (Made x) ∷ es)))
all_of c a d x es i more = deep_truth (λ b bs waits w e few.
    let e' : InFilter c (b ∷ bs) false = subst (λ (z : Bool). InFilter c (b ∷ bs) z) w e in
    let same : open_now (b ∷ bs) waits ≡ open_now (b ∷ bs) false = ap (λ (z : Bool). open_now (b ∷ bs) z) w in
    let few' : open_now (b ∷ bs) false ≤ 48 = omega (arith, few, same) in
    let one = truth_of 96 NoBang c a x i (omega arith) b bs false refl e' few' in
    let others = more b bs one.0 few' in
    let k = deepest_members 96 (open_now (b ∷ bs) false) (truth_in (Made x) ∷ es) (omega (arith, few')) (one.1, others.1) in
    let n = connectives-All (truth_in (Made x) ∷ es) in
    (others.0, omega (arith, k, n, same)))

truth_owed : (c d : At) (m : Read) → W (shape Truth_) c d m → DeepAt 98 NoBang c d (build Truth_ m)
truth_owed c d m (walk_both (walk_symbol {x = x} (owes u i)) (walk_several (walk_right walk_empty))) = weaker 98 97 c d x (omega arith) i
truth_owed c d m (walk_both {d = a} (walk_symbol {x = x} (owes u i)) (walk_several (walk_left (walk_both {n = first} {m = rest} one more)))) =
    any_of c a d x (truths_behind (Pair first rest)) i (ors_behind a d (Pair first rest) (walk_several (walk_left (walk_both one more))))

and_owed : (c d : At) (m : Read) → W (shape And_) c d m → DeepAt 97 NoBang c d (build And_ m)
and_owed c d m (walk_both (walk_symbol {x = x} (owes u i)) (walk_several (walk_right walk_empty))) = weaker 97 96 c d x (omega arith) i
and_owed c d m (walk_both {d = a} (walk_symbol {x = x} (owes u i)) (walk_several (walk_left (walk_both {n = first} {m = rest} one more)))) =
    all_of c a d x (truths_behind (Pair first rest)) i (ands_behind a d (Pair first rest) (walk_several (walk_left (walk_both one more))))

rel_owed : (c d : At) (m : Read) → W (shape Rel_) c d m → DeepAt 96 NoBang c d (build Rel_ m)
rel_owed c d m (walk_left (walk_symbol (owes u i))) = i
rel_owed c d m (walk_right (walk_symbol (owes u i))) = i

compared_owed : (c d : At) (m : Read) → W (shape Compared_) c d m → DeepAt 96 NoBang c d (build Compared_ m)
compared_owed c d m (walk_both {d = a} {n = first} (walk_symbol (owes u (value_at i))) (walk_left (walk_symbol (owes o (tail_at {t = t} h))))) =
    deep_truth (λ b bs waits w e few.
    let same : open_now (b ∷ bs) waits ≡ open_now (b ∷ bs) false = ap (λ (z : Bool). open_now (b ∷ bs) z) w in
    let y = h b bs (i b bs waits e) (omega (arith, few, same)) in
    (y.0, let n = y.1 (value_in first) in omega (arith, n, same)))
compared_owed c d m (walk_both (walk_symbol (owes u (value_at i))) (walk_right walk_empty)) = deep_value (λ b bs waits w e. i b bs waits e)

none_deep : (v : ValueExpr) (ys : List ValueExpr) → connectives (truths.Not (truths.OneOf v ys)) ≡ 1
none_deep v ys = connectives-Not (truths.OneOf v ys) ∙ ap suc (connectives-OneOf v ys)

operator_owed : (c d : At) (m : Read) → W (shape Operator_) c d m → TailAt c d (build Operator_ m)
operator_owed c d m (walk_left (walk_both {d = a} (walk_token (leaf_compare {o = o}) h) (walk_symbol (owes u (value_at {e = x} i))))) =
    tail_at (λ b bs e few.
    (i b bs false (filter_step c a (l.Compare o) (b ∷ bs) false (λ n g. refl) h e), λ v. let none = connectives-Compare o v x in omega (arith, none, few)))
operator_owed c d m (walk_right (walk_left (walk_both {d = a} (walk_token leaf_sign h) (walk_symbol {x = x} (owes u i))))) =
    tail_at (λ b bs e few.
    let y = i.filtered b bs (filter_step c a (l.Sign s.In) (b ∷ bs) false (λ n g. refl) h e) in
    (y.0, λ v. let none = connectives-OneOf v (values_in (Made x)) in omega (arith, none, few)))
operator_owed c d m (walk_right (walk_right (walk_both {d = f} (walk_token leaf_sign h) (walk_both {d = a} (walk_token leaf_sign j) (walk_symbol {x = x} (owes u i)))))) =
    tail_at (λ b bs e few.
    let y = i.filtered b bs (filter_step f a (l.Sign s.In) (b ∷ bs) false (λ n g. refl) j (filter_step c f (l.Sign s.Not) (b ∷ bs) false (λ n g. refl) h e)) in
    (y.0, λ v. let one = none_deep v (values_in (Made x)) in let n = y.1 in omega (arith, one, n)))

values_rest : (c d : At) (m : Read) → W (several (both (word s.Comma) (symbol Value_))) c d m → (b : Bool) (bs : List Bool) → InFilter c (b ∷ bs) false → InFilter d (b ∷ bs) false
values_rest c d m (walk_several (walk_left (walk_both {d = a} {m = rest} (walk_both {d = f} (walk_token leaf_sign h) (walk_symbol (owes u (value_at i)))) more))) b bs e =
    values_rest a d rest more b bs (i b bs false (filter_step c f (l.Sign s.Comma) (b ∷ bs) false (λ n g. refl) h e))
values_rest c d m (walk_several (walk_right walk_empty)) b bs e = e

values_at : (c d : At) (m : Read) → W (shape Values_) c d m → ValuesAt c d
values_at c d m (walk_both {d = a} (walk_token leaf_sign h) (walk_both {d = z} (walk_left (walk_both {d = f} {m = rest} (walk_symbol (owes u (value_at i))) more)) (walk_token leaf_sign j))) =
    record {
      filtered = λ b bs e.
          let inside = i false (b ∷ bs) false (open_filter c a (b ∷ bs) false h e) in
          let n = open_depth c a (b ∷ bs) false h e in
          (close_filter z d false (b ∷ bs) false j (values_rest f z rest more false (b ∷ bs) inside), n);
    }
values_at c d m (walk_both {d = a} (walk_token leaf_sign h) (walk_both (walk_right walk_empty) (walk_token leaf_sign j))) =
    record { filtered = λ b bs e. (close_filter a d false (b ∷ bs) false j (open_filter c a (b ∷ bs) false h e), open_depth c a (b ∷ bs) false h e) }

bang_filter : (c d : At) (b : Bool) (bs : List Bool) (waits : Bool) → Moved c (l.Sign s.Bang) d → InFilter c (b ∷ bs) waits → InFilter d (b ∷ bs) true
bang_filter c d b bs waits h e = by_role c d (l.Sign s.Bang) (filter (b ∷ bs) waits) h e

bang_depth : (c d : At) (b : Bool) (bs : List Bool) (waits : Bool) → Moved c (l.Sign s.Bang) d → InFilter c (b ∷ bs) waits → open_now (b ∷ bs) true ≤ 48
bang_depth c d b bs waits h e = by_depth c d (l.Sign s.Bang) (filter (b ∷ bs) waits) h e

prim_owed : (c d : At) (m : Read) → W (shape Prim_) c d m → DeepAt 96 NoBang c d (build Prim_ m)
prim_owed c d m (walk_left (walk_both {d = a} (walk_token leaf_sign h) (walk_left (walk_symbol {x = x} (owes u i))))) =
    deep_truth (λ b bs waits w e few.
    let less = bang_depth c a b bs waits h e in
    let y = truth_of 96 Always a d x i (omega arith) b bs true tt (bang_filter c a b bs waits h e) less in
    let more = open_waits (b ∷ bs) true in
    let same : open_now (b ∷ bs) waits ≡ open_now (b ∷ bs) false = ap (λ (z : Bool). open_now (b ∷ bs) z) w in
    let n = y.1 in
    let one = connectives-Not (truth_in (Made x)) in
    (y.0, omega (arith, n, more, same, one)))
prim_owed c d m (walk_left (walk_both {d = a} (walk_token leaf_sign h) (walk_right (walk_symbol (owes u (value_at {e = x} i)))))) =
    deep_truth (λ b bs waits w e few.
    let less = bang_depth c a b bs waits h e in
    let more = open_waits (b ∷ bs) true in
    let same : open_now (b ∷ bs) waits ≡ open_now (b ∷ bs) false = ap (λ (z : Bool). open_now (b ∷ bs) z) w in
    let one = connectives-Not (truths.Value x) in
    let none = connectives-Value x in
    (i b bs true (bang_filter c a b bs waits h e), omega (arith, less, more, same, one, none)))
prim_owed c d m (walk_right (walk_symbol {x = x} (owes u i))) = bangless x i
  where
    bangless : (y : Tree) → DeepAt 96 Always c d y → DeepAt 96 NoBang c d y
    bangless y (deep_truth f) = deep_truth (λ b bs waits w e few. f b bs waits tt e few)
    bangless y (deep_value f) = deep_value (λ b bs waits w e. f b bs waits tt e)

atom_owed : (c d : At) (m : Read) → W (shape Atom_) c d m → DeepAt 96 Always c d (build Atom_ m)
atom_owed c d m (walk_left (walk_both {d = a} (walk_token leaf_sign h) (walk_both {d = z} (walk_symbol {x = x} (owes u i)) (walk_token leaf_sign j)))) = inside x i
  where
    inside : (y : Tree) → DeepAt 98 NoBang a z y → DeepAt 96 Always c d y
    inside y (deep_truth f) = deep_truth (λ b bs waits w e few.
        let q = f waits (b ∷ bs) false refl (open_filter c a (b ∷ bs) waits h e) (open_depth c a (b ∷ bs) waits h e) in
        let n = q.1 in
        let more = open_waits (b ∷ bs) waits in
        (close_filter z d waits (b ∷ bs) false j q.0, omega (arith, n, more)))
    inside y (deep_value f) = deep_value (λ b bs waits w e. close_filter z d waits (b ∷ bs) false j (f waits (b ∷ bs) false refl (open_filter c a (b ∷ bs) waits h e)))
atom_owed c d m (walk_right (walk_symbol (owes u (test_at none i)))) = deep_truth (λ b bs waits w e few. (i (b ∷ bs) waits e, omega (arith, none, few)))

-- ---- groups

ready_by : (c d : At) (x : Lexeme) (q : Role) (r : Role) (k : ℕ) → is_behind_object q ≡ false → Moved c x d → c.state.role ≡ r → ((n : ℕ) (g : Bool) → after_by r n x g ≡ q) → c.state.patterns ≡ k → Ready d q k
ready_by c d x q r k f h e a few quiet = let role = by_role c d x r h e ∙ a c.state.groups (goes d) in (role, to_elsewhere c d x q h role f ∙ few)

maybe_dot : (c d : At) (m : Read) → W (maybe (word s.Dot)) c d m → (k : ℕ) → Ready c (next subject) k → Ready d (next subject) k
maybe_dot c d m (walk_left (walk_token leaf_sign h)) k r = let x = r (not_going h refl) in ready_by c d (l.Sign s.Dot) (next subject) (next subject) k refl h x.0 (λ n g. refl) x.1
maybe_dot c d m (walk_right walk_empty) k r = r

pub record PartsDone (xs : List Element) (d : At) (k : ℕ) : Type 0 where
  pub sized : ElementsSized xs
  pub ready : AtOpen d (k + sized.size)

parts_at : (c d : At) (m : Read) → W (several (both (symbol Other_) (both (maybe (word s.Dot)) (maybe (symbol Triples_))))) c d m → (k g : ℕ) → c.state.groups ≡ suc g → AtOpen c k → PartsDone (parts m) d k
parts_at c d m (walk_several (walk_left (walk_both {d = e} {m = rest} (walk_both {d = a} (walk_symbol (owes u (other_at {x = x} h))) (walk_both {d = b} {n = dot} {m = ps} i j)) more))) k g groups r =
    let first = h k g groups r in
    let behind_dot = maybe_dot a b dot i (k + first.sized.size) first.ready in
    let triples = maybe_triples b e ps j (k + first.sized.size) behind_dot in
    let level : e.state.groups ≡ suc g = sym (later_both u.later (later_both (later_walk (maybe (word s.Dot)) a b dot refl i) (later_walk (maybe (symbol Triples_)) b e ps refl j))).groups ∙ groups in
    let others = parts_at e d rest more ((k + first.sized.size) + length (patterns_in ps)) g level triples in
    let sized = leaf_sized (patterns_in ps) (parts rest) others.sized in
    let count = leaf_size (patterns_in ps) (parts rest) others.sized in
    let n : ((k + first.sized.size) + length (patterns_in ps)) + others.sized.size ≡ k + (first.sized.size + sized.size) = omega (arith, count) in
    record { sized = more_elements x (leaf (patterns_in ps) (parts rest)) first.sized sized; ready = subst (λ (z : ℕ). AtOpen d z) n others.ready }
parts_at c d m (walk_several (walk_right walk_empty)) k g groups r = record { sized = no_elements; ready = subst (λ (z : ℕ). AtOpen c z) (let n : k ≡ k + 0 = omega arith in n) r }

brace_elsewhere : (n : ℕ) → is_behind_object (behind_brace n) ≡ false
brace_elsewhere zero = refl
brace_elsewhere (suc n) = refl

group_owed : (c d : At) (m : Read) → W (shape Group_) c d m → GroupAt c d (build Group_ m)
group_owed c d m (walk_both {d = a} (walk_token leaf_sign h) (walk_both {d = b} {n = ps} i (walk_both {d = e} {n = es} j (walk_token leaf_sign q)))) =
    group_at (λ k few.
    let start : Ready a (next subject) k = λ quiet. (h.role, to_elsewhere c a (l.Sign s.OpenBrace) (next subject) h h.role refl ∙ few (not_going h refl)) in
    let triples = maybe_triples a b ps i k start in
    let one_more : c.state.groups + 1 ≡ suc c.state.groups = omega arith in
    let opened : a.state.groups ≡ suc c.state.groups = h.groups ∙ one_more in
    let level : b.state.groups ≡ suc c.state.groups = sym (later_walk (maybe (symbol Triples_)) a b ps refl i).groups ∙ opened in
    let others = parts_at b e es j (k + length (patterns_in ps)) c.state.groups level triples in
    let here : e.state.groups ≡ suc c.state.groups = sym (later_walk (several (both (symbol Other_) (both (maybe (word s.Dot)) (maybe (symbol Triples_))))) b e es refl j).groups ∙ level in
    let counted = others.ready (not_going q refl) in
    let less : e.state.groups - 1 ≡ c.state.groups = omega (arith, here) in
    let count = leaf_size (patterns_in ps) (parts es) others.sized in
    let sum = counted.1 in
    let role = q.role ∙ ap behind_brace less in
    let level_end = to_elsewhere e d (l.Sign s.CloseBrace) (behind_brace c.state.groups) q role (brace_elsewhere c.state.groups) in
    record {
      sized = leaf_sized (patterns_in ps) (parts es) others.sized;
      role = role;
      count = omega (arith, count, sum, level_end);
    })

group_later : (c d : At) (m : Read) → W (shape Group_) c d m → Later c d
group_later c d m (walk_both {d = a} (walk_token leaf_sign h) (walk_both {d = b} {n = ps} i (walk_both {d = e} {n = es} j (walk_token leaf_sign q)))) =
    let x = later_walk (maybe (symbol Triples_)) a b ps refl i in
    let y = later_walk (several (both (symbol Other_) (both (maybe (word s.Dot)) (maybe (symbol Triples_))))) b e es refl j in
    let z = later_both x y in
    let opened = h.groups in
    let inside = z.groups in
    let closed = q.groups in
    record { groups = omega (arith, opened, inside, closed); behind = h.behind ∙ z.behind ∙ q.behind }

pub record UnionsDone (gs : List Group) (d : At) (k : ℕ) : Type 0 where
  pub sized : GroupsSized gs
  pub role : d.state.role ≡ next subject
  pub count : d.state.patterns ≡ k + sized.size

inner_role : (n g : ℕ) → n ≡ suc g → behind_brace n ≡ next subject
inner_role n g e = ap behind_brace e

unions_at : (c d : At) (m : Read) → W (several (both (word s.Union) (symbol Group_))) c d m → (k g : ℕ) → c.state.groups ≡ suc g → c.state.role ≡ next subject → c.state.patterns ≡ k → UnionsDone (unions_behind m) d k
unions_at c d m (walk_several (walk_left (walk_both {d = e} {m = rest} (walk_both {d = a} (walk_token leaf_sign h) (walk_symbol (owes u (group_at {xs = xs} i)))) more))) k g groups role few =
    let next_one = to_elsewhere c a (l.Sign s.Union) (next subject) h (by_role c a (l.Sign s.Union) (next subject) h role) refl in
    let one = i k (λ quiet. next_one ∙ few) in
    let level : a.state.groups ≡ suc g = h.groups ∙ groups in
    let level_behind : e.state.groups ≡ suc g = sym u.later.groups ∙ level in
    let others = unions_at e d rest more (k + one.sized.size) g level_behind (one.role ∙ inner_role a.state.groups g level) one.count in
    let sum = others.count in
    record { sized = more_groups (group_of xs) (unions_behind rest) (group_sized xs one.sized) others.sized; role = others.role; count = omega (arith, sum) }
unions_at c d m (walk_several (walk_right walk_empty)) k g groups role few = record { sized = no_groups; role = role; count = omega (arith, few) }

pub filter_role : (r : Role) (n : ℕ) (g : Bool) → IsOpen r → after_by r n (l.Sign s.Filter) g ≡ filter [] false
filter_role r n g open_object = refl
filter_role r n g open_next = refl

optional_role : (r : Role) (n : ℕ) (g : Bool) → IsOpen r → after_by r n (l.Sign s.Optional) g ≡ next subject
optional_role r n g open_object = refl
optional_role r n g open_next = refl

other_owed : (c d : At) (m : Read) → W (shape Other_) c d m → OtherAt c d (build Other_ m)
other_owed c d m (walk_left (walk_both {d = a} (walk_token leaf_sign h) (walk_symbol (owes u (group_at {xs = xs} i))))) =
    other_at (λ k g groups r.
    let now = r (not_going h refl) in
    let begun = to_elsewhere c a (l.Sign s.Optional) (next subject) h (h.role ∙ optional_role c.state.role c.state.groups (goes a) now.0) refl in
    let one = i k (λ quiet. begun ∙ now.1) in
    let level : a.state.groups ≡ suc g = h.groups ∙ groups in
    record { sized = optional_sized (group_of xs) (group_sized xs one.sized); ready = λ quiet. (one.role ∙ inner_role a.state.groups g level, one.count) })
other_owed c d m (walk_right (walk_left (walk_both {d = a} {m = rest} (walk_symbol (owes u (group_at {xs = xs} i))) more))) =
    other_at (λ k g groups r.
    let one = i k (λ quiet. (r quiet).1) in
    let level : a.state.groups ≡ suc g = sym u.later.groups ∙ groups in
    let others = unions_at a d rest more (k + one.sized.size) g level (one.role ∙ inner_role c.state.groups g groups) one.count in
    let sum = others.count in
    record {
      sized = unions_sized (group_of xs ∷ unions_behind rest) (more_groups (group_of xs) (unions_behind rest) (group_sized xs one.sized) others.sized);
      ready = λ quiet. (others.role, omega (arith, sum));
    })
other_owed c d m (walk_right (walk_right (walk_both {d = a} (walk_token leaf_sign h) (walk_symbol (owes u (cond_at {e = e} i)))))) =
    other_at (λ k g groups r.
    let now = r (not_going h refl) in
    let few = now.1 in
    let in_filter : InFilter a [] false = h.role ∙ filter_role c.state.role c.state.groups (goes a) now.0 in
    let begun = to_elsewhere c a (l.Sign s.Filter) (filter [] false) h in_filter refl in
    let one = i in_filter in
    let same = (u.inner refl (ap inside one.0)).1 in
    record { sized = condition_sized e one.1; ready = λ quiet. (one.0, omega (arith, begun, few, same)) })

-- ---- around the group

key_count : (c d : At) (i : ℕ) → Moved c (l.Variable i) d → c.state.role ≡ order → d.state.keys ≡ c.state.keys + 1
key_count c d i h e = h.keys ∙ ap (λ (r : Role). keys_by r c.state.keys (l.Variable i)) e

key_same : (c d : At) (x : Lexeme) (r : Role) → Moved c x d → c.state.role ≡ r → keys_by r c.state.keys x ≡ c.state.keys → d.state.keys ≡ c.state.keys
key_same c d x r h e f = h.keys ∙ ap (λ (z : Role). keys_by z c.state.keys x) e ∙ f

key_at : (c d : At) (m : Read) → W (shape Key_) c d m → KeyAt c d
key_at c d m (walk_left (walk_token (leaf_variable {n = i}) h)) = record { counted = λ e. (by_role c d (l.Variable i) order h e, let n = key_count c d i h e in omega (arith, n)) }
key_at c d m (walk_right (walk_both {d = a} (walk_token (leaf_direction {d = down}) h) (walk_both {d = b} (walk_token leaf_sign i) (walk_both {d = f} (walk_token (leaf_variable {n = v}) j) (walk_token leaf_sign q))))) =
    record {
      counted = λ e.
          let at_open = by_role c a (l.Direction down) order h e in
          let at_variable = by_role a b (l.Sign s.OpenBracket) order i at_open in
          let at_close = by_role b f (l.Variable v) order j at_variable in
          let n = key_count b f v j at_variable in
          let x = key_same c a (l.Direction down) order h e refl in
          let y = key_same a b (l.Sign s.OpenBracket) order i at_open refl in
          let z = key_same f d (l.Sign s.CloseBracket) order q at_close refl in
          (by_role f d (l.Sign s.CloseBracket) order q at_close, omega (arith, n, x, y, z));
    }

keys_behind_at : (c d : At) (m : Read) → W (several (symbol Key_)) c d m → c.state.role ≡ order → d.state.keys ≡ c.state.keys + length (keys_behind m)
keys_behind_at c d m (walk_several (walk_left (walk_both {d = a} {m = rest} (walk_symbol (owes u h)) more))) e =
    let one = h.counted e in
    let first = one.1 in
    let others = keys_behind_at a d rest more one.0 in
    omega (arith, first, others)
keys_behind_at c d m (walk_several (walk_right walk_empty)) e = omega arith

order_owed : (c d : At) (m : Read) → W (shape Order_) c d m → KeysAt c d (build Order_ m)
order_owed c d m (walk_both {d = a} (walk_token leaf_sign h) (walk_both {d = b} (walk_token leaf_sign i) (walk_both {d = f} {m = rest} (walk_symbol (owes u j)) more))) =
    keys_at (λ e.
    let at_by = by_role c a (l.Sign s.Order) end h e in
    let at_key = by_role a b (l.Sign s.By) order i at_by in
    let one = j.counted at_key in
    let first = one.1 in
    let others = keys_behind_at f d rest more one.0 in
    let x = key_same c a (l.Sign s.Order) end h e refl in
    let y = key_same a b (l.Sign s.By) order i at_by refl in
    omega (arith, first, others, x, y))

maybe_order : (c d : At) (m : Read) → W (maybe (symbol Order_)) c d m → c.state.role ≡ end → d.state.keys ≡ c.state.keys + length (keys_in m)
maybe_order c d m (walk_left (walk_symbol (owes u (keys_at h)))) e = h e
maybe_order c d m (walk_right walk_empty) e = omega arith

sign_keys : (r : Role) (n : ℕ) (a : Sign) → keys_by r n (l.Sign a) ≡ n
sign_keys order n a = refl
sign_keys r n a = refl

count_keys : (r : Role) (n i : ℕ) (x : RdfTerm) → keys_by r n (l.Count x i) ≡ n
count_keys order n i x = refl
count_keys r n i x = refl

two_slices : (c a d : At) (x : Sign) (n : ℕ) (y : RdfTerm) → Moved c (l.Sign x) a → Moved a (l.Count y n) d → d.state.keys ≡ c.state.keys
two_slices c a d x n y h k = k.keys ∙ count_keys a.state.role a.state.keys n y ∙ h.keys ∙ sign_keys c.state.role c.state.keys x

slice_at : (c d : At) (m : Read) → W (shape Slice_) c d m → SliceAt c d
slice_at c d m (walk_left (walk_both {d = a} (walk_token leaf_sign h) (walk_both {d = b} (walk_token (leaf_count {t = t} {n = n}) i) (walk_right walk_empty)))) = record { keys = two_slices c a d s.Limit n t h i }
slice_at c d m (walk_left (walk_both {d = a} (walk_token leaf_sign h) (walk_both {d = b} (walk_token (leaf_count {t = t} {n = n}) i) (walk_left (walk_both {d = e} (walk_token leaf_sign j) (walk_token (leaf_count {t = u} {n = o}) q)))))) =
    record { keys = two_slices b e d s.Offset o u j q ∙ two_slices c a b s.Limit n t h i }
slice_at c d m (walk_right (walk_both {d = a} (walk_token leaf_sign h) (walk_both {d = b} (walk_token (leaf_count {t = t} {n = n}) i) (walk_right walk_empty)))) = record { keys = two_slices c a d s.Offset n t h i }
slice_at c d m (walk_right (walk_both {d = a} (walk_token leaf_sign h) (walk_both {d = b} (walk_token (leaf_count {t = t} {n = n}) i) (walk_left (walk_both {d = e} (walk_token leaf_sign j) (walk_token (leaf_count {t = u} {n = o}) q)))))) =
    record { keys = two_slices b e d s.Limit o u j q ∙ two_slices c a b s.Offset n t h i }

maybe_slice : (c d : At) (m : Read) → W (maybe (symbol Slice_)) c d m → d.state.keys ≡ c.state.keys
maybe_slice c d m (walk_left (walk_symbol (owes u h))) = h.keys
maybe_slice c d m (walk_right walk_empty) = refl

query_owed : (c d : At) (m : Read) → W (shape Query_) c d m → WrittenAt c d (build Query_ m)
query_owed c d m (walk_both {d = a} (walk_symbol (owes u h)) (walk_both {d = b} (walk_token leaf_sign i) (walk_both {d = e} {n = distinct} j (walk_both {d = f} (walk_symbol (owes o q)) (walk_both {d = g} {n = where_} r (walk_both {d = z} (walk_symbol (owes y (group_at p))) (walk_both {d = w} {n = ks} {m = cut} t rest))))))) =
    written_at (λ first.
    let levels = later_both u.later (later_both (moved_later i (λ n. refl)) (later_both (later_walk (maybe (word s.Distinct)) b e distinct refl j) (later_both o.later (later_walk (maybe (word s.Where)) f g where_ refl r)))) in
    let level : g.state.groups ≡ 0 = sym levels.groups ∙ first.groups in
    let front = around_both c a g (u.around refl) (around_both a b g (around_step (sign s.Select) a b (l.Sign s.Select) leaf_sign refl i) (around_both b e g (around_walk (maybe (word s.Distinct)) b e distinct refl j) (around_both e f g (o.around refl) (around_walk (maybe (word s.Where)) f g where_ refl r)))) in
    let none = (front (ap around first.role)).1 ∙ first.patterns in
    let one = p 0 (λ quiet. none) in
    let role = one.role ∙ ap behind_brace level in
    let back = around_both z w d (around_walk (maybe (symbol Order_)) z w ks refl t) (around_walk (maybe (symbol Slice_)) w d cut refl rest) in
    let same = (back (ap around role)).1 in
    let counted = one.count in
    let soon = early_both c a z (u.early refl) (early_both a b z (early_step (sign s.Select) a b (l.Sign s.Select) leaf_sign refl i) (early_both b e z (early_walk (maybe (word s.Distinct)) b e distinct refl j)
    (early_both e f z (o.early refl) (early_both f g z (early_walk (maybe (word s.Where)) f g where_ refl r) (y.early refl))))) in
    let no_keys = (soon (ap not_order first.role)).1 ∙ first.keys in
    let keyed = maybe_order z w ks t role in
    let sliced = maybe_slice w d cut rest in
    record { sized = one.sized; patterns = omega (arith, same, counted); keys = omega (arith, no_keys, keyed, sliced) })

pub of_symbol : (y : Symbol) (c d : At) (m : Read) → W (shape y) c d m → Of y c d (build y m)
of_symbol Query_ c d m h = query_owed c d m h
of_symbol Prologue_ c d m h = tt
of_symbol Shown_ c d m h = tt
of_symbol Prefix_ c d m h = tt
of_symbol Group_ c d m h = group_owed c d m h
of_symbol Other_ c d m h = other_owed c d m h
of_symbol Triples_ c d m h = triples_owed c d m h
of_symbol Same_ c d m h = same_owed c d m h
of_symbol Objs_ c d m h = objs_owed c d m h
of_symbol Verb_ c d m h = verb_at c d m h
of_symbol Term_ c d m h = term_at c d m h
of_symbol Iri_ c d m h = iri_at c d m h
of_symbol Literal_ c d m h = literal_at c d m h
of_symbol Cond_ c d m h = cond_owed c d m h
of_symbol Truth_ c d m h = truth_owed c d m h
of_symbol And_ c d m h = and_owed c d m h
of_symbol Rel_ c d m h = rel_owed c d m h
of_symbol Compared_ c d m h = compared_owed c d m h
of_symbol Operator_ c d m h = operator_owed c d m h
of_symbol Values_ c d m h = values_at c d m h
of_symbol Prim_ c d m h = prim_owed c d m h
of_symbol Atom_ c d m h = atom_owed c d m h
of_symbol Value_ c d m h = value_owed c d m h
of_symbol Fun_ c d m h = fun_owed c d m h
of_symbol Test_ c d m h = test_owed c d m h
of_symbol Order_ c d m h = order_owed c d m h
of_symbol Key_ c d m h = key_at c d m h
of_symbol Slice_ c d m h = slice_at c d m h

later_of : (y : Symbol) (c d : At) (m : Read) → W (shape y) c d m → Later c d
later_of Group_ c d m h = group_later c d m h
later_of Query_ c d m h = later_walk (shape Query_) c d m refl h
later_of y c d m h = later_walk (shape y) c d m refl h

-- the symbols of a kind are made of tokens and symbols that have it too
if_so : (a b : Bool) → implies a b ≡ true → a ≡ true → b ≡ true
if_so true b h e = h
if_so false b h e = absurd (false≢true e)

inner_shape : (y : Symbol) → implies (inner_symbol y) (fits in_condition inner_symbol (shape y)) ≡ true
inner_shape Query_ = refl
inner_shape y = refl

outer_shape : (y : Symbol) → implies (outer_symbol y) (fits no_brace outer_symbol (shape y)) ≡ true
outer_shape Query_ = refl
outer_shape y = refl

early_shape : (y : Symbol) → implies (early_symbol y) (fits no_order early_symbol (shape y)) ≡ true
early_shape Query_ = refl
early_shape y = refl

pub keeps : (y : Symbol) (c d : At) (m : Read) → W (shape y) c d m → Owes y c d (build y m)
keeps y c d m h =
    owes (record {
      later = later_of y c d m h;
      inner = λ e. inner_walk (shape y) c d m (if_so (inner_symbol y) (fits in_condition inner_symbol (shape y)) (inner_shape y) e) h;
      around = λ e. around_walk (shape y) c d m (if_so (outer_symbol y) (fits no_brace outer_symbol (shape y)) (outer_shape y) e) h;
      early = λ e. early_walk (shape y) c d m (if_so (early_symbol y) (fits no_order early_symbol (shape y)) (early_shape y) e) h;
    }) (of_symbol y c d m h)
