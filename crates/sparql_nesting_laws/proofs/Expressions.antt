-- The depths along a text are those to which the grammar nests brackets and `!` in its expressions.
use Rattle.std.specs.Prelude.{◌≡◌, ℕ, suc, ◌+◌, ◌-◌, max, Bool, true, false, ◌&&◌, List, [], ◌∷◌, refl}
use Rattle.std.proofs.Common.{sym, ap, ◌∙◌, subst, arith}
use Rattle.std.proofs.lemmas.Bool.{false≢true}
use Rattle.grammar_meaning.specs.Grammar.{call, Node, Made, Reads}
use Rattle.sparql_meaning.specs.declared.token.Token.{Token}
use Rattle.sparql_grammar_meaning.specs.declared.lexeme.Sign.TheVariants as s
use Rattle.sparql_grammar_meaning.specs.declared.lexeme.Lexeme.{Lexeme}
use Rattle.sparql_grammar_meaning.specs.declared.lexeme.Lexeme.TheVariants as l
use Rattle.sparql_grammar_meaning.specs.Grammar.{Kind, variable, string, count, literal, Symbol, Query_, Prologue_, Shown_, Prefix_, Group_, Other_, Triples_, Same_, Objs_, Verb_, Term_, Iri_, Literal_, Cond_, Truth_, And_, Rel_, Compared_, Operator_, Values_, Prim_, Atom_, Value_, Fun_, Test_, Order_, Key_, Slice_}
use Rattle.sparql_query_meaning.specs.Lexemes.{lexemes}
use Rattle.sparql_query_meaning.specs.Limits.{subject, Role, next, filter, State, one_if, open_now, behind_brace, nothing_yet}
use Rattle.sparql_walk_laws.specs.Shapes.{Leaves, leaf_sign, leaf_variable, leaf_iri, leaf_named, leaf_prefix, leaf_string, leaf_tag, leaf_count, leaf_literal, leaf_function, leaf_test, leaf_direction, Shape, symbol, both, several, word, maybe, shape}
use Rattle.sparql_walk_laws.specs.Walks.{making, Walks, walk_empty, walk_token, walk_symbol, walk_both, walk_left, walk_right, walked}
use Rattle.sparql_query_laws.specs.Effects.{after_by, depth_by}
use Rattle.sparql_query_laws.specs.Pace.{no_brace, around, after_leaf, stays_around}
use Rattle.sparql_query_laws.specs.Counts.{fits, any_symbol, level_leaf, IsOpen, open_object, open_next, behind, filter_role}
use Rattle.sparql_nesting_laws.specs.Nesting.{opens_part, opens_group, begins_with, nesting, expression_depth, depth_reached}
use Rattle.sparql_nesting_laws.proofs.Spots.{Spot, goes, left, depth_from, Moved, step, ended}
use Rattle.sparql_nesting_laws.proofs.Kept.{unopened, kept}
use Rattle.sparql_nesting_laws.proofs.Groups.{shut_leaf}
use Rattle.sparql_nesting_laws.proofs.Roles.{Rises, rises_none, rises_more, rises_as, flat_step, still, still_braceless, still_shut, still_step, InFilter, filter_step, name_step, still_filter, bracketed, negated, Settled, InType, in_type, in_object_type, settled_step, text_step, tag_step, carets_step, open_done}

-- ---- what each symbol owes

abbrev Level : Spot → Spot → Type 0
Level c d = d.state.groups ≡ c.state.groups

-- a part of a triple, or several
record Plain (c d : Spot) (n : ℕ) : Type 0 where
  rises : (k : ℕ) → Rises k n c d
  settled : Settled c → Settled d

record IriAt (c d : Spot) (n : ℕ) : Type 0 where
  plain : Plain c d n
  typed : InType c.state.role → IsOpen d.state.role
  filtered : (bs : List Bool) (waits : Bool) → InFilter c bs waits → InFilter d bs false

record LiteralAt (c d : Spot) (n : ℕ) : Type 0 where
  plain : Plain c d n
  filtered : (bs : List Bool) (waits : Bool) → InFilter c bs waits → InFilter d bs false

-- what may stand behind `!`
record Operand (c d : Spot) (n : ℕ) : Type 0 where
  at : (b : Bool) (bs : List Bool) (waits : Bool) → InFilter c (b ∷ bs) waits → InFilter d (b ∷ bs) false × Rises (open_now (b ∷ bs) waits) n c d

record Part (c d : Spot) (n : ℕ) : Type 0 where
  at : (b : Bool) (bs : List Bool) → InFilter c (b ∷ bs) false → InFilter d (b ∷ bs) false × Rises (open_now (b ∷ bs) false) n c d

-- what may be a whole condition
record Applied (c d : Spot) (n : ℕ) : Type 0 where
  at : (bs : List Bool) (waits : Bool) → InFilter c bs waits → (d.state.role ≡ behind bs) × Rises (open_now bs waits) n c d

record Condition (c d : Spot) (n : ℕ) : Type 0 where
  at : InFilter c [] false → (d.state.role ≡ next subject) × Rises 0 n c d

record Element (c d : Spot) (n : ℕ) : Type 0 where
  at : (g : ℕ) → c.state.groups ≡ suc g → Settled c → Settled d × Rises 0 n c d

record Grouped (c d : Spot) (n : ℕ) : Type 0 where
  role : d.state.role ≡ behind_brace c.state.groups
  rises : Rises 0 n c d

record Outer (c d : Spot) (n : ℕ) : Type 0 where
  at : c.state.groups ≡ 0 → around c.state.role ≡ true → (around d.state.role ≡ true) × Rises 0 n c d

abbrev Of : Symbol → Spot → Spot → ℕ → Type 0
Of Query_ c d n = Outer c d n
Of Prologue_ c d n = Outer c d n
Of Shown_ c d n = Outer c d n
Of Prefix_ c d n = Outer c d n
Of Group_ c d n = Grouped c d n
Of Other_ c d n = Element c d n
Of Triples_ c d n = Plain c d n
Of Same_ c d n = Plain c d n
Of Objs_ c d n = Plain c d n
Of Verb_ c d n = Plain c d n
Of Term_ c d n = Plain c d n
Of Iri_ c d n = IriAt c d n
Of Literal_ c d n = LiteralAt c d n
Of Cond_ c d n = Condition c d n
Of Truth_ c d n = Part c d n
Of And_ c d n = Part c d n
Of Rel_ c d n = Part c d n
Of Compared_ c d n = Part c d n
Of Operator_ c d n = Part c d n
Of Values_ c d n = Part c d n
Of Prim_ c d n = Part c d n
Of Atom_ c d n = Operand c d n
Of Value_ c d n = Operand c d n
Of Fun_ c d n = Applied c d n
Of Test_ c d n = Applied c d n
Of Order_ c d n = Outer c d n
Of Key_ c d n = Outer c d n
Of Slice_ c d n = Outer c d n

data Owes (y : Symbol) (c d : Spot) (n : ℕ) : Type 0 where
  owes : Level c d → Of y c d n → Owes y c d n

abbrev W : Shape → Spot → Spot → Node Lexeme ℕ → Type 0
W f c d m = Walks Moved Owes f c d m

level_of : {y : Symbol} {c d : Spot} {n : ℕ} → Owes y c d n → Level c d
level_of (owes u h) = u

owed_of : (y : Symbol) (c d : Spot) (n : ℕ) → Owes y c d n → Of y c d n
owed_of y c d n (owes u h) = h

level_step : (a : Kind) (c d : Spot) (x : Lexeme) → Leaves a x → no_brace a ≡ true → Moved c x d → Level c d
level_step a c d x y h m = m.groups ∙ level_leaf a x y h c.state.groups

level_walk : (f : Shape) (c d : Spot) (m : Node Lexeme ℕ) → fits no_brace any_symbol f ≡ true → W f c d m → Level c d
level_walk = kept opens_group Owes no_brace any_symbol shut_leaf (λ c d n. Level c d) (λ c. refl) (λ c d e n m h k. k ∙ h) level_step (λ z c d n e h. level_of h)

still_level : (a : Kind) (c d : Spot) (x : Lexeme) → Leaves a x → still a ≡ true → Moved c x d → Level c d
still_level a c d x y h m = level_step a c d x y (still_braceless a h) m

-- ---- walks over symbols of one kind

abbrev plain_symbol : Symbol → Bool
plain_symbol Iri_ = true
plain_symbol Literal_ = true
plain_symbol Term_ = true
plain_symbol Verb_ = true
plain_symbol Objs_ = true
plain_symbol Same_ = true
plain_symbol Triples_ = true
plain_symbol y = false

plain_owed : (z : Symbol) (c d : Spot) (n : ℕ) → plain_symbol z ≡ true → Of z c d n → Plain c d n
plain_owed Iri_ c d n e h = h.plain
plain_owed Literal_ c d n e h = h.plain
plain_owed Term_ c d n e h = h
plain_owed Verb_ c d n e h = h
plain_owed Objs_ c d n e h = h
plain_owed Same_ c d n e h = h
plain_owed Triples_ c d n e h = h
plain_owed z c d n e h = absurd (false≢true e)

plain_more : (c d e : Spot) (n m : ℕ) → Plain c d n → Plain d e m → Plain c e (max n m)
plain_more c d e n m h k = record { rises = λ i. rises_more i n m c d e (h.rises i) (k.rises i); settled = λ x. k.settled (h.settled x) }

plain_step : (a : Kind) (c d : Spot) (x : Lexeme) → Leaves a x → still a ≡ true → Moved c x d → Plain c d 0
plain_step a c d x y h m = record { rises = λ k. rises_none k c d (still_step a c d x y h m); settled = settled_step a c d x y h m }

plain_walk : (f : Shape) (c d : Spot) (m : Node Lexeme ℕ) → fits still plain_symbol f ≡ true → W f c d m → Plain c d (nesting opens_part m)
plain_walk = kept opens_part Owes still plain_symbol still_shut Plain (λ c. record { rises = λ k. rises_none k c c refl; settled = λ x. x }) plain_more plain_step (λ z c d n e h. plain_owed z c d n e (owed_of z c d n h))

abbrev part_symbol : Symbol → Bool
part_symbol Truth_ = true
part_symbol And_ = true
part_symbol Rel_ = true
part_symbol Compared_ = true
part_symbol Operator_ = true
part_symbol Values_ = true
part_symbol Prim_ = true
part_symbol Atom_ = true
part_symbol Value_ = true
part_symbol y = false

part_owed : (z : Symbol) (c d : Spot) (n : ℕ) → part_symbol z ≡ true → Of z c d n → Part c d n
part_owed Truth_ c d n e h = h
part_owed And_ c d n e h = h
part_owed Rel_ c d n e h = h
part_owed Compared_ c d n e h = h
part_owed Operator_ c d n e h = h
part_owed Values_ c d n e h = h
part_owed Prim_ c d n e h = h
part_owed Atom_ c d n e h = record { at = λ b bs i. h.at b bs false i }
part_owed Value_ c d n e h = record { at = λ b bs i. h.at b bs false i }
part_owed z c d n e h = absurd (false≢true e)

part_more : (c d e : Spot) (n m : ℕ) → Part c d n → Part d e m → Part c e (max n m)
part_more c d e n m h k = record {
  at = λ b bs i.
      let x = h.at b bs i in
      let y = k.at b bs x.0 in
      (y.0, rises_more (open_now (b ∷ bs) false) n m c d e x.1 y.1);
}

part_step : (a : Kind) (c d : Spot) (x : Lexeme) → Leaves a x → still a ≡ true → Moved c x d → Part c d 0
part_step a c d x y h m = record { at = λ b bs i. (still_filter a c d x (b ∷ bs) y h m i, rises_none (open_now (b ∷ bs) false) c d (still_step a c d x y h m)) }

part_walk : (f : Shape) (c d : Spot) (m : Node Lexeme ℕ) → fits still part_symbol f ≡ true → W f c d m → Part c d (nesting opens_part m)
part_walk = kept opens_part Owes still part_symbol still_shut Part (λ c. record { at = λ b bs i. (i, rises_none (open_now (b ∷ bs) false) c c refl) }) part_more part_step (λ z c d n e h. part_owed z c d n e (owed_of z c d n h))

abbrev element_symbol : Symbol → Bool
element_symbol Group_ = true
element_symbol Other_ = true
element_symbol Triples_ = true
element_symbol y = false

inner_role : (n g : ℕ) → n ≡ suc g → behind_brace n ≡ next subject
inner_role n g e = ap behind_brace e

by_next : (c : Spot) → c.state.role ≡ next subject → Settled c
by_next c e quiet = subst IsOpen (sym e) open_next

element_owed : (z : Symbol) (c d : Spot) (n : ℕ) → element_symbol z ≡ true → Of z c d n → Element c d n
element_owed Group_ c d n e h = record { at = λ g groups i. (by_next d (h.role ∙ inner_role c.state.groups g groups), h.rises) }
element_owed Other_ c d n e h = h
element_owed Triples_ c d n e h = record { at = λ g groups i. (h.settled i, h.rises 0) }
element_owed z c d n e h = absurd (false≢true e)

abbrev Elements : Spot → Spot → ℕ → Type 0
Elements c d n = Level c d × Element c d n

element_more : (c d e : Spot) (n m : ℕ) → Elements c d n → Elements d e m → Elements c e (max n m)
element_more c d e n m h k = (
  k.0 ∙ h.0,
  record {
    at = λ g groups i.
        let x = h.1.at g groups i in
        let y = k.1.at g (h.0 ∙ groups) x.0 in
        (y.0, rises_more 0 n m c d e x.1 y.1);
  },
)

element_step : (a : Kind) (c d : Spot) (x : Lexeme) → Leaves a x → still a ≡ true → Moved c x d → Elements c d 0
element_step a c d x y h m = (still_level a c d x y h m, record { at = λ g groups i. (settled_step a c d x y h m i, rises_none 0 c d (still_step a c d x y h m)) })

elements_walk : (f : Shape) (c d : Spot) (m : Node Lexeme ℕ) → fits still element_symbol f ≡ true → W f c d m → Elements c d (nesting opens_part m)
elements_walk = kept opens_part Owes still element_symbol still_shut Elements (λ c. (refl, record { at = λ g groups i. (i, rises_none 0 c c refl) })) element_more element_step
    (λ z c d n e h. (level_of h, element_owed z c d n e (owed_of z c d n h)))

abbrev outer_symbol : Symbol → Bool
outer_symbol Prologue_ = true
outer_symbol Shown_ = true
outer_symbol Prefix_ = true
outer_symbol Group_ = true
outer_symbol Order_ = true
outer_symbol Key_ = true
outer_symbol Slice_ = true
outer_symbol y = false

outer_owed : (z : Symbol) (c d : Spot) (n : ℕ) → outer_symbol z ≡ true → Of z c d n → Outer c d n
outer_owed Prologue_ c d n e h = h
outer_owed Shown_ c d n e h = h
outer_owed Prefix_ c d n e h = h
outer_owed Group_ c d n e h = record { at = λ groups i. (ap around (h.role ∙ ap behind_brace groups), h.rises) }
outer_owed Order_ c d n e h = h
outer_owed Key_ c d n e h = h
outer_owed Slice_ c d n e h = h
outer_owed z c d n e h = absurd (false≢true e)

abbrev Outers : Spot → Spot → ℕ → Type 0
Outers c d n = Level c d × Outer c d n

outer_more : (c d e : Spot) (n m : ℕ) → Outers c d n → Outers d e m → Outers c e (max n m)
outer_more c d e n m h k = (
  k.0 ∙ h.0,
  record {
    at = λ groups i.
        let x = h.1.at groups i in
        let y = k.1.at (h.0 ∙ groups) x.0 in
        (y.0, rises_more 0 n m c d e x.1 y.1);
  },
)

around_step : (a : Kind) (c d : Spot) (x : Lexeme) → Leaves a x → no_brace a ≡ true → Moved c x d → around c.state.role ≡ true → around d.state.role ≡ true
around_step a c d x y h m e = ap around (m.role ∙ after_leaf a x y h c.state.role c.state.groups (goes d)) ∙ stays_around x c.state.role (goes d) e

outer_step : (a : Kind) (c d : Spot) (x : Lexeme) → Leaves a x → still a ≡ true → Moved c x d → Outers c d 0
outer_step a c d x y h m = (still_level a c d x y h m, record { at = λ groups i. (around_step a c d x y (still_braceless a h) m i, rises_none 0 c d (still_step a c d x y h m)) })

outer_walk : (f : Shape) (c d : Spot) (m : Node Lexeme ℕ) → fits still outer_symbol f ≡ true → W f c d m → Outers c d (nesting opens_part m)
outer_walk = kept opens_part Owes still outer_symbol still_shut Outers (λ c. (refl, record { at = λ groups i. (i, rises_none 0 c c refl) })) outer_more outer_step
    (λ z c d n e h. (level_of h, outer_owed z c d n e (owed_of z c d n h)))

-- ---- terms

iri_step : (a : Kind) (c d : Spot) (x : Lexeme) → Leaves a x → still a ≡ true → ((r : Role) (n : ℕ) (g : Bool) → InType r → IsOpen (after_by r n x g))
    → ((bs : List Bool) (waits : Bool) (n : ℕ) (g : Bool) → after_by (filter bs waits) n x g ≡ filter bs (waits && false)) → Moved c x d → IriAt c d 0
iri_step a c d x y h t f m = record {
  plain = plain_step a c d x y h m;
  typed = λ i. subst IsOpen (sym m.role) (t c.state.role c.state.groups (goes d) i);
  filtered = λ bs waits i. filter_step c d x bs waits (f bs waits) m i;
}

type_iri : (t : List ℕ) (r : Role) (n : ℕ) (g : Bool) → InType r → IsOpen (after_by r n (l.Iri t) g)
type_iri t r n g (in_type {p = p}) = open_done p
type_iri t r n g in_object_type = open_object

type_named : (t : List ℕ) (r : Role) (n : ℕ) (g : Bool) → InType r → IsOpen (after_by r n (l.Named t) g)
type_named t r n g (in_type {p = p}) = open_done p
type_named t r n g in_object_type = open_object

type_prefix : (t : List ℕ) (r : Role) (n : ℕ) (g : Bool) → InType r → IsOpen (after_by r n (l.PrefixName t) g)
type_prefix t r n g (in_type {p = p}) = open_done p
type_prefix t r n g in_object_type = open_object

iri_owed : (c d : Spot) (m : Node Lexeme ℕ) → W (shape Iri_) c d m → IriAt c d (nesting opens_part m)
iri_owed c d m (walk_left (walk_token {a = a} (leaf_iri {i = i}) h)) = iri_step a c d (l.Iri i) leaf_iri refl (type_iri i) (λ bs w n g. refl) h
iri_owed c d m (walk_right (walk_left (walk_token {a = a} (leaf_named {i = i}) h))) = iri_step a c d (l.Named i) leaf_named refl (type_named i) (λ bs w n g. refl) h
iri_owed c d m (walk_right (walk_right (walk_token {a = a} (leaf_prefix {i = i}) h))) = iri_step a c d (l.PrefixName i) leaf_prefix refl (type_prefix i) (λ bs w n g. refl) h

-- the depth stays: no part of a literal opens anything
two_flat : (c a d : Spot) (k n : ℕ) → depth_from c ≡ depth_from a → Rises k n a d → Rises k (max 0 (0 + n)) c d
two_flat c a d k n h j = omega (arith, h, j)

literal_owed : (c d : Spot) (m : Node Lexeme ℕ) → W (shape Literal_) c d m → LiteralAt c d (nesting opens_part m)
literal_owed c d m (walk_left (walk_both (walk_token (leaf_string {t = t}) h) (walk_right walk_empty))) = record {
  plain = record { rises = λ k. two_flat c d d k 0 (flat_step c d (l.Text t) refl h) (rises_none k d d refl); settled = settled_step string c d (l.Text t) leaf_string refl h };
  filtered = λ bs waits e. filter_step c d (l.Text t) bs waits (λ n g. refl) h e;
}
literal_owed c d m (walk_left (walk_both {d = a} (walk_token (leaf_string {t = t}) h) (walk_left (walk_left (walk_token (leaf_tag {t = y}) i))))) = record {
  plain = record {
    rises = λ k. two_flat c a d k 0 (flat_step c a (l.Text t) refl h) (rises_none k a d (flat_step a d (l.Tag y) refl i));
    settled = λ x quiet. tag_step a d y i (text_step c a t h x i.goes);
  };
  filtered = λ bs waits e. filter_step a d (l.Tag y) bs false (λ n g. refl) i (filter_step c a (l.Text t) bs waits (λ n g. refl) h e);
}
literal_owed c d m (walk_left (walk_both {d = a} (walk_token (leaf_string {t = t}) h) (walk_left (walk_right (walk_both {d = z} (walk_token leaf_sign i) (walk_symbol {x = n} (owes u j))))))) = record {
  plain = record {
    rises = λ k. two_flat c a d k (max 0 (0 + n)) (flat_step c a (l.Text t) refl h) (two_flat a z d k n (flat_step a z (l.Sign s.TwoCarets) refl i) (j.plain.rises k));
    settled = λ x quiet. j.typed (carets_step a z i (text_step c a t h x i.goes));
  };
  filtered = λ bs waits e. j.filtered bs false (filter_step a z (l.Sign s.TwoCarets) bs false (λ n g. refl) i (filter_step c a (l.Text t) bs waits (λ n g. refl) h e));
}
literal_owed c d m (walk_right (walk_left (walk_token (leaf_count {t = t} {n = n}) h))) = record {
  plain = plain_step count c d (l.Count t n) leaf_count refl h;
  filtered = λ bs waits e. filter_step c d (l.Count t n) bs waits (λ i g. refl) h e;
}
literal_owed c d m (walk_right (walk_right (walk_token (leaf_literal {t = t}) h))) = record {
  plain = plain_step literal c d (l.Literal t) leaf_literal refl h;
  filtered = λ bs waits e. filter_step c d (l.Literal t) bs waits (λ i g. refl) h e;
}

-- ---- conditions

-- what is read of brackets and of a name in front of them
bracket_node : (n b : ℕ) → b ≡ 0 → 1 + n ≡ max 0 (1 + max n (b + 0))
bracket_node n b h = omega (arith, h)

name_node : (n : ℕ) → 1 + n ≡ max 0 (0 + max 0 (1 + max n (0 + 0)))
name_node n = omega arith

value_owed : (c d : Spot) (m : Node Lexeme ℕ) → W (shape Value_) c d m → Operand c d (nesting opens_part m)
value_owed c d m (walk_left (walk_token (leaf_variable {n = v}) h)) =
    record { at = λ b bs waits e. (filter_step c d (l.Variable v) (b ∷ bs) waits (λ n g. refl) h e, rises_none (open_now (b ∷ bs) waits) c d (flat_step c d (l.Variable v) refl h)) }
value_owed c d m (walk_right (walk_left (walk_symbol (owes u h)))) = record { at = λ b bs waits e. (h.filtered (b ∷ bs) waits e, h.plain.rises (open_now (b ∷ bs) waits)) }
value_owed c d m (walk_right (walk_right (walk_left (walk_symbol (owes u h))))) = record { at = λ b bs waits e. (h.filtered (b ∷ bs) waits e, h.plain.rises (open_now (b ∷ bs) waits)) }
value_owed c d m (walk_right (walk_right (walk_right (walk_left (walk_symbol (owes u h)))))) = record { at = λ b bs waits e. h.at (b ∷ bs) waits e }
value_owed c d m (walk_right (walk_right (walk_right (walk_right (walk_both {d = a} (walk_token leaf_sign h) (walk_both {d = z} (walk_symbol {x = n} (owes u i)) (walk_token leaf_sign j))))))) =
    record {
      at = λ b bs waits e.
          let x = bracketed c a z d (b ∷ bs) waits n h j e (i.at waits (b ∷ bs) false) in
          (x.0, rises_as (open_now (b ∷ bs) waits) (1 + n) _ c d (bracket_node n 0 refl) x.1);
    }

-- a name in front of brackets
named_at : (c f a z d : Spot) (x : Lexeme) (n : ℕ) → ((bs : List Bool) (waits : Bool) (i : ℕ) (g : Bool) → after_by (filter bs waits) i x g ≡ filter bs (waits && true)) → opens_part x ≡ false
    → Moved c x f → Moved f (l.Sign s.OpenBracket) a → Part a z n → Moved z (l.Sign s.CloseBracket) d → Applied c d (1 + n)
named_at c f a z d x n r shut h i p j = record {
  at = λ bs waits e.
      let y = bracketed f a z d bs waits n i j (name_step c f x bs waits (r bs waits) h e) (p.at waits bs) in
      let first = flat_step c f x shut h in
      (y.0, subst (λ (k : ℕ). max (open_now bs waits) k ≡ max (open_now bs waits + (1 + n)) (depth_from d)) (sym first) y.1);
}

applied_as : (c d : Spot) (n m : ℕ) → n ≡ m → Applied c d n → Applied c d m
applied_as c d n m e h = subst (λ (z : ℕ). Applied c d z) e h

value_part : (c d : Spot) (n : ℕ) → Operand c d n → Part c d n
value_part c d n h = record { at = λ b bs e. h.at b bs false e }

fun_owed : (c d : Spot) (m : Node Lexeme ℕ) → W (shape Fun_) c d m → Applied c d (nesting opens_part m)
fun_owed c d m (walk_both {d = f} (walk_token (leaf_function {f = g}) h) (walk_both {d = a} (walk_token leaf_sign i) (walk_both {d = z} (walk_symbol {x = n} (owes u j)) (walk_token leaf_sign q)))) =
    applied_as c d (1 + n) _ (name_node n) (named_at c f a z d (l.Function g) n (λ bs w i g. refl) refl h i (value_part a z n j) q)

test_owed : (c d : Spot) (m : Node Lexeme ℕ) → W (shape Test_) c d m → Applied c d (nesting opens_part m)
test_owed c d m (walk_left (walk_both {d = f} (walk_token leaf_sign h) (walk_both {d = a} (walk_token leaf_sign i) (walk_both {d = z} (walk_token (leaf_variable {n = v}) j) (walk_token leaf_sign q))))) =
    applied_as c d 1 _ (name_node 0) (named_at c f a z d (l.Sign s.Bound) 0 (λ bs w i g. refl) refl h i (part_step variable a z (l.Variable v) leaf_variable refl j) q)
test_owed c d m (walk_right (walk_left (walk_both {d = f} (walk_token leaf_sign h) (walk_both {d = a} (walk_token leaf_sign i) (walk_both {d = y} {n = first} one (walk_both {d = x} {n = comma} two (walk_both {d = z} {n = second} three (walk_token leaf_sign r)))))))) =
    let p = part_walk (both (symbol Value_) (both (word s.Comma) (symbol Value_))) a z _ refl (walk_both one (walk_both two three)) in
    applied_as c d _ _ (two_node (nesting opens_part first) (nesting opens_part comma) (nesting opens_part second) (one_if (begins_with opens_part first)) (one_if (begins_with opens_part comma)) (one_if (begins_with opens_part second)) (ap one_if (unopened opens_part Owes still part_symbol still_shut (symbol Value_) x z second refl three)))
    (named_at c f a z d (l.Sign s.SameTerm) _ (λ bs w i g. refl) refl h i p r)
  where
    two_node : (n k m p q r : ℕ) → r ≡ 0 → 1 + max n (p + max k (q + m)) ≡ max 0 (0 + max 0 (1 + max n (p + max k (q + max m (r + 0)))))
    two_node n k m p q r e = omega (arith, e)
test_owed c d m (walk_right (walk_right (walk_both {d = f} (walk_token (leaf_test {t = t}) h) (walk_both {d = a} (walk_token leaf_sign i) (walk_both {d = z} (walk_symbol {x = n} (owes u j)) (walk_token leaf_sign q)))))) =
    applied_as c d (1 + n) _ (name_node n) (named_at c f a z d (l.Test t) n (λ bs w i g. refl) refl h i (value_part a z n j) q)

cond_owed : (c d : Spot) (m : Node Lexeme ℕ) → W (shape Cond_) c d m → Condition c d (nesting opens_part m)
cond_owed c d m (walk_left (walk_both {d = a} (walk_token leaf_sign h) (walk_both {d = z} (walk_symbol {x = n} (owes u i)) (walk_token leaf_sign j)))) =
    record { at = λ e. let x = bracketed c a z d [] false n h j e (i.at false []) in (x.0, rises_as 0 (1 + n) _ c d (bracket_node n 0 refl) x.1) }
cond_owed c d m (walk_right (walk_left (walk_symbol (owes u i)))) = record { at = λ e. i.at [] false e }
cond_owed c d m (walk_right (walk_right (walk_symbol (owes u i)))) = record { at = λ e. i.at [] false e }

values_owed : (c d : Spot) (m : Node Lexeme ℕ) → W (shape Values_) c d m → Part c d (nesting opens_part m)
values_owed c d m (walk_both {d = a} (walk_token leaf_sign h) (walk_both {d = z} {n = vs} i (walk_token leaf_sign j))) =
    let f : Shape = maybe (both (symbol Value_) (several (both (word s.Comma) (symbol Value_)))) in
    let p = part_walk f a z vs refl i in
    let shut = ap one_if (unopened opens_part Owes still part_symbol still_shut f a z vs refl i) in
    record {
      at = λ b bs e.
          let x = bracketed c a z d (b ∷ bs) false (nesting opens_part vs) h j e (p.at false (b ∷ bs)) in
          (x.0, rises_as (open_now (b ∷ bs) false) (1 + nesting opens_part vs) _ c d (bracket_node (nesting opens_part vs) (one_if (begins_with opens_part vs)) shut) x.1);
    }

bang_node : (n : ℕ) → 1 + n ≡ max 0 (1 + n)
bang_node n = omega arith

bang_at : (c a d : Spot) (n : ℕ) → Moved c (l.Sign s.Bang) a → Operand a d n → Part c d (max 0 (1 + n))
bang_at c a d n h i = record {
  at = λ b bs e.
      let x = negated c a d b bs n h e (i.at b bs true) in
      (x.0, rises_as (open_now (b ∷ bs) false) (1 + n) _ c d (bang_node n) x.1);
}

prim_owed : (c d : Spot) (m : Node Lexeme ℕ) → W (shape Prim_) c d m → Part c d (nesting opens_part m)
prim_owed c d m (walk_left (walk_both {d = a} (walk_token leaf_sign h) (walk_left (walk_symbol {x = n} (owes u i))))) = bang_at c a d n h i
prim_owed c d m (walk_left (walk_both {d = a} (walk_token leaf_sign h) (walk_right (walk_symbol {x = n} (owes u i))))) = bang_at c a d n h i
prim_owed c d m (walk_right (walk_symbol {x = n} (owes u i))) = value_part c d n i

atom_owed : (c d : Spot) (m : Node Lexeme ℕ) → W (shape Atom_) c d m → Operand c d (nesting opens_part m)
atom_owed c d m (walk_left (walk_both {d = a} (walk_token leaf_sign h) (walk_both {d = z} (walk_symbol {x = n} (owes u i)) (walk_token leaf_sign j)))) =
    record {
      at = λ b bs waits e.
          let x = bracketed c a z d (b ∷ bs) waits n h j e (i.at waits (b ∷ bs)) in
          (x.0, rises_as (open_now (b ∷ bs) waits) (1 + n) _ c d (bracket_node n 0 refl) x.1);
    }
atom_owed c d m (walk_right (walk_symbol (owes u i))) = record { at = λ b bs waits e. i.at (b ∷ bs) waits e }

-- ---- groups

other_owed : (c d : Spot) (m : Node Lexeme ℕ) → W (shape Other_) c d m → Element c d (nesting opens_part m)
other_owed c d m (walk_left h) = (elements_walk (both (word s.Optional) (symbol Group_)) c d m refl h).1
other_owed c d m (walk_right (walk_left h)) = (elements_walk (both (symbol Group_) (several (both (word s.Union) (symbol Group_)))) c d m refl h).1
other_owed c d m (walk_right (walk_right (walk_both {d = a} (walk_token leaf_sign h) (walk_symbol {x = n} (owes u i))))) =
    record {
      at = λ g groups o.
          let x = i.at (h.role ∙ filter_role c.state.role c.state.groups (goes a) (o h.goes)) in
          (by_next d x.0, two_flat c a d 0 n (flat_step c a (l.Sign s.Filter) refl h) x.1);
    }

group_level : (c d : Spot) (m : Node Lexeme ℕ) → W (shape Group_) c d m → Level c d
group_level c d m (walk_both {d = a} (walk_token leaf_sign h) (walk_both {d = b} {n = ps} i (walk_both {d = e} {n = es} j (walk_token leaf_sign q)))) =
    let x = level_walk (maybe (symbol Triples_)) a b ps refl i in
    let y = level_walk (several (both (symbol Other_) (both (maybe (word s.Dot)) (maybe (symbol Triples_))))) b e es refl j in
    let opened = h.groups in
    let closed = q.groups in
    omega (arith, x, y, opened, closed)

group_node : (n m p q : ℕ) → p ≡ 0 → q ≡ 0 → max n m ≡ max 0 (0 + max n (p + max m (q + 0)))
group_node n m p q h k = omega (arith, h, k)

group_owed : (c d : Spot) (m : Node Lexeme ℕ) → W (shape Group_) c d m → Grouped c d (nesting opens_part m)
group_owed c d m (walk_both {d = a} (walk_token leaf_sign h) (walk_both {d = b} {n = ps} i (walk_both {d = e} {n = es} j (walk_token leaf_sign q)))) =
    let f : Shape = maybe (symbol Triples_) in
    let g : Shape = several (both (symbol Other_) (both (maybe (word s.Dot)) (maybe (symbol Triples_)))) in
    let x = element_more a b e (nesting opens_part ps) (nesting opens_part es) (elements_walk f a b ps refl i) (elements_walk g b e es refl j) in
    let one_more : c.state.groups + 1 ≡ suc c.state.groups = omega arith in
    let opened : a.state.groups ≡ suc c.state.groups = h.groups ∙ one_more in
    let inside = (x.1.at c.state.groups opened (by_next a h.role)).1 in
    let level : e.state.groups ≡ suc c.state.groups = x.0 ∙ opened in
    let less : e.state.groups - 1 ≡ c.state.groups = omega (arith, level) in
    let first = flat_step c a (l.Sign s.OpenBrace) refl h in
    let last = flat_step e d (l.Sign s.CloseBrace) refl q in
    let begun = ap one_if (unopened opens_part Owes still element_symbol still_shut f a b ps refl i) in
    let gone = ap one_if (unopened opens_part Owes still element_symbol still_shut g b e es refl j) in
    let all : Rises 0 (max (nesting opens_part ps) (nesting opens_part es)) c d = omega (arith, first, inside, last) in
    record {
      role = q.role ∙ ap behind_brace less;
      rises = rises_as 0 _ _ c d (group_node (nesting opens_part ps) (nesting opens_part es) (one_if (begins_with opens_part ps)) (one_if (begins_with opens_part es)) begun gone) all;
    }

-- ---- around the group

around_depth : (r : Role) (x : Lexeme) → around r ≡ true → depth_by r x ≡ 0
around_depth (filter bs waits) x e = absurd (false≢true e)
around_depth r x e = refl

outer_flat : (c d : Spot) (x : Lexeme) → Moved c x d → around c.state.role ≡ true → depth_from c ≡ depth_from d
outer_flat c d x m e = let none = around_depth c.state.role x e in let n = m.depth in omega (arith, none, n)

key_owed : (c d : Spot) (m : Node Lexeme ℕ) → W (shape Key_) c d m → Outer c d 0
key_owed c d m (walk_left (walk_token {a = k} (leaf_variable {n = v}) h)) = record { at = λ groups e. (around_step k c d (l.Variable v) leaf_variable refl h e, rises_none 0 c d (outer_flat c d (l.Variable v) h e)) }
key_owed c d m (walk_right (walk_both {d = a} (walk_token {a = k} (leaf_direction {d = down}) h) (walk_both {d = b} (walk_token {a = k'} leaf_sign i) (walk_both {d = f} (walk_token {a = k''} (leaf_variable {n = v}) j) (walk_token {a = k'''} leaf_sign q))))) =
    record {
      at = λ groups e.
          let x = around_step k c a (l.Direction down) leaf_direction refl h e in
          let y = around_step k' a b (l.Sign s.OpenBracket) leaf_sign refl i x in
          let z = around_step k'' b f (l.Variable v) leaf_variable refl j y in
          let o = around_step k''' f d (l.Sign s.CloseBracket) leaf_sign refl q z in
          (o, rises_none 0 c d (outer_flat c a (l.Direction down) h e ∙ outer_flat a b (l.Sign s.OpenBracket) i x ∙ outer_flat b f (l.Variable v) j y ∙ outer_flat f d (l.Sign s.CloseBracket) q z));
    }

of_symbol : (y : Symbol) (c d : Spot) (m : Node Lexeme ℕ) → W (shape y) c d m → Of y c d (expression_depth y m)
of_symbol Query_ c d m h = (outer_walk (shape Query_) c d m refl h).1
of_symbol Prologue_ c d m h = (outer_walk (shape Prologue_) c d m refl h).1
of_symbol Shown_ c d m h = (outer_walk (shape Shown_) c d m refl h).1
of_symbol Prefix_ c d m h = (outer_walk (shape Prefix_) c d m refl h).1
of_symbol Group_ c d m h = group_owed c d m h
of_symbol Other_ c d m h = other_owed c d m h
of_symbol Triples_ c d m h = plain_walk (shape Triples_) c d m refl h
of_symbol Same_ c d m h = plain_walk (shape Same_) c d m refl h
of_symbol Objs_ c d m h = plain_walk (shape Objs_) c d m refl h
of_symbol Verb_ c d m h = plain_walk (shape Verb_) c d m refl h
of_symbol Term_ c d m h = plain_walk (shape Term_) c d m refl h
of_symbol Iri_ c d m h = iri_owed c d m h
of_symbol Literal_ c d m h = literal_owed c d m h
of_symbol Cond_ c d m h = cond_owed c d m h
of_symbol Truth_ c d m h = part_walk (shape Truth_) c d m refl h
of_symbol And_ c d m h = part_walk (shape And_) c d m refl h
of_symbol Rel_ c d m h = part_walk (shape Rel_) c d m refl h
of_symbol Compared_ c d m h = part_walk (shape Compared_) c d m refl h
of_symbol Operator_ c d m h = part_walk (shape Operator_) c d m refl h
of_symbol Values_ c d m h = values_owed c d m h
of_symbol Prim_ c d m h = prim_owed c d m h
of_symbol Atom_ c d m h = atom_owed c d m h
of_symbol Value_ c d m h = value_owed c d m h
of_symbol Fun_ c d m h = fun_owed c d m h
of_symbol Test_ c d m h = test_owed c d m h
of_symbol Order_ c d m h = (outer_walk (shape Order_) c d m refl h).1
of_symbol Key_ c d m h = key_owed c d m h
of_symbol Slice_ c d m h = (outer_walk (shape Slice_) c d m refl h).1

level_by : (y : Symbol) (c d : Spot) (m : Node Lexeme ℕ) → W (shape y) c d m → Level c d
level_by Group_ c d m h = group_level c d m h
level_by Query_ c d m h = level_walk (shape Query_) c d m refl h
level_by y c d m h = level_walk (shape y) c d m refl h

keeps : (y : Symbol) (c d : Spot) (m : Node Lexeme ℕ) → W (shape y) c d m → Owes y c d (expression_depth y m)
keeps y c d m h = owes (level_by y c d m h) (of_symbol y c d m h)

whole : (c d : Spot) (n : ℕ) → c.state ≡ nothing_yet → left d ≡ [] → W (symbol Query_) c d (Made n) → n ≡ depth_from c
whole c d n none rest (walk_symbol (owes u h)) =
    let last : depth_from d ≡ 0 = ap (depth_reached d.state) (ended d rest) in
    let all = (h.at (ap (λ (st : State). st.groups) none) (ap (λ (st : State). around st.role) none)).1 in
    omega (arith, last, all)

pub depth_only : (ts : List Token) (n : ℕ) → Reads (making expression_depth) (call Query_) (lexemes ts) (Made n) [] → n ≡ depth_reached nothing_yet ts
depth_only ts n r =
    let start : Spot = record { state = nothing_yet; tokens = ts } in
    let all = walked expression_depth Moved Owes left step keeps Query_ start [] (Made n) r in
    whole start all.to n refl all.rest all.walk
