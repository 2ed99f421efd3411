-- Where a token stands, and what it opens there.
use Rattle.std.specs.Prelude.{◌≡◌, ℕ, ◌+◌, max, Bool, true, false, ◌&&◌, if◌then◌else◌, List, ◌∷◌, refl}
use Rattle.std.proofs.Common.{sym, ap, ◌∙◌, subst, arith}
use Rattle.std.proofs.lemmas.Bool.{false≢true}
use Rattle.std.proofs.Math.Bool.{and-false}
use Rattle.sparql_grammar_meaning.specs.declared.lexeme.Sign.{Sign}
use Rattle.sparql_grammar_meaning.specs.declared.lexeme.Sign.TheVariants as s
use Rattle.sparql_grammar_meaning.specs.declared.lexeme.Lexeme.{Lexeme}
use Rattle.sparql_grammar_meaning.specs.declared.lexeme.Lexeme.TheVariants as l
use Rattle.sparql_grammar_meaning.specs.Grammar.{Kind, sign, tag}
use Rattle.sparql_query_meaning.specs.Limits.{Place, subject, predicate, object, Role, text_of, type_of, behind_object, filter, done, open_now}
use Rattle.sparql_walk_laws.specs.Shapes.{Leaves, leaf_sign, leaf_variable, leaf_string, leaf_tag}
use Rattle.sparql_query_laws.specs.Effects.{goes_by, after_by, depth_by}
use Rattle.sparql_query_laws.specs.Pace.{no_brace}
use Rattle.sparql_query_laws.specs.Counts.{IsOpen, open_object, open_next, behind, open_waits, behind_is}
use Rattle.sparql_nesting_laws.specs.Nesting.{opens_part}
use Rattle.sparql_nesting_laws.proofs.Spots.{Spot, goes, depth_from, Moved}

pub by_role : (c d : Spot) (x : Lexeme) (r : Role) → Moved c x d → c.state.role ≡ r → d.state.role ≡ after_by r c.state.groups x (goes d)
by_role c d x r h e = h.role ∙ ap (λ (z : Role). after_by z c.state.groups x (goes d)) e

-- beside so many open brackets and `!`, so many more are open from here to there
abbrev pub Rises : ℕ → ℕ → Spot → Spot → Type 0
Rises k n c d = max k (depth_from c) ≡ max (k + n) (depth_from d)

pub rises_none : (k : ℕ) (c d : Spot) → depth_from c ≡ depth_from d → Rises k 0 c d
rises_none k c d e = omega (arith, e)

pub rises_more : (k n m : ℕ) (c d e : Spot) → Rises k n c d → Rises k m d e → Rises k (max n m) c e
rises_more k n m c d e h j = omega (arith, h, j)

pub rises_as : (k n m : ℕ) (c d : Spot) → n ≡ m → Rises k n c d → Rises k m c d
rises_as k n m c d e h = subst (λ (z : ℕ). Rises k z c d) e h

-- ---- tokens that open nothing

flat_depth : (r : Role) (x : Lexeme) → opens_part x ≡ false → depth_by r x ≡ 0
flat_depth (filter bs waits) (l.Sign s.OpenBracket) h = absurd (false≢true (sym h))
flat_depth (filter bs waits) (l.Sign s.Bang) h = absurd (false≢true (sym h))
flat_depth (filter bs waits) x h = refl
flat_depth r x h = refl

pub flat_step : (c d : Spot) (x : Lexeme) → opens_part x ≡ false → Moved c x d → depth_from c ≡ depth_from d
flat_step c d x h m = let e = flat_depth c.state.role x h in let n = m.depth in omega (arith, e, n)

-- no brace, bracket, `!`, FILTER, tag or `^^`
abbrev pub still : Kind → Bool
still (sign s.OpenBrace) = false
still (sign s.CloseBrace) = false
still (sign s.OpenBracket) = false
still (sign s.CloseBracket) = false
still (sign s.Bang) = false
still (sign s.Filter) = false
still (sign s.TwoCarets) = false
still tag = false
still a = true

pub still_braceless : (a : Kind) → still a ≡ true → no_brace a ≡ true
still_braceless (sign s.OpenBrace) h = absurd (false≢true h)
still_braceless (sign s.CloseBrace) h = absurd (false≢true h)
still_braceless a h = refl

shut_sign : (a : Sign) → still (sign a) ≡ true → opens_part (l.Sign a) ≡ false
shut_sign s.OpenBracket h = absurd (false≢true h)
shut_sign s.Bang h = absurd (false≢true h)
shut_sign a h = refl

pub still_shut : (a : Kind) (x : Lexeme) → Leaves a x → still a ≡ true → opens_part x ≡ false
still_shut a x (leaf_sign {a = b}) h = shut_sign b h
still_shut a x leaf_variable h = refl
still_shut a x y h = refl

pub still_step : (a : Kind) (c d : Spot) (x : Lexeme) → Leaves a x → still a ≡ true → Moved c x d → depth_from c ≡ depth_from d
still_step a c d x y h m = flat_step c d x (still_shut a x y h) m

goes_sign : (a : Sign) → still (sign a) ≡ true → goes_by (l.Sign a) ≡ false
goes_sign s.TwoCarets h = absurd (false≢true h)
goes_sign a h = refl

still_goes : (a : Kind) (x : Lexeme) → Leaves a x → still a ≡ true → goes_by x ≡ false
still_goes a x (leaf_sign {a = b}) h = goes_sign b h
still_goes a x leaf_tag h = absurd (false≢true h)
still_goes a x y h = refl

-- ---- in a filter

abbrev pub InFilter : Spot → List Bool → Bool → Type 0
InFilter c bs waits = c.state.role ≡ filter bs waits

pub filter_step : (c d : Spot) (x : Lexeme) (bs : List Bool) (waits : Bool) → ((n : ℕ) (g : Bool) → after_by (filter bs waits) n x g ≡ filter bs (waits && false)) → Moved c x d → InFilter c bs waits → InFilter d bs false
filter_step c d x bs waits a h e = by_role c d x (filter bs waits) h e ∙ a c.state.groups (goes d) ∙ ap (λ (z : Bool). filter bs z) (and-false waits)

and_true : (b : Bool) → (b && true) ≡ b
and_true true = refl
and_true false = refl

-- a name to which a bracket belongs
pub name_step : (c d : Spot) (x : Lexeme) (bs : List Bool) (waits : Bool) → ((n : ℕ) (g : Bool) → after_by (filter bs waits) n x g ≡ filter bs (waits && true)) → Moved c x d → InFilter c bs waits → InFilter d bs waits
name_step c d x bs waits a h e = by_role c d x (filter bs waits) h e ∙ a c.state.groups (goes d) ∙ ap (λ (z : Bool). filter bs z) (and_true waits)

still_sign : (a : Sign) → still (sign a) ≡ true → (bs : List Bool) (n : ℕ) (g : Bool) → after_by (filter bs false) n (l.Sign a) g ≡ filter bs false
still_sign s.OpenBrace h bs n g = absurd (false≢true h)
still_sign s.CloseBrace h bs n g = absurd (false≢true h)
still_sign s.OpenBracket h bs n g = absurd (false≢true h)
still_sign s.CloseBracket h bs n g = absurd (false≢true h)
still_sign s.Bang h bs n g = absurd (false≢true h)
still_sign a h bs n g = refl

still_role : (a : Kind) (x : Lexeme) → Leaves a x → still a ≡ true → (bs : List Bool) (n : ℕ) (g : Bool) → after_by (filter bs false) n x g ≡ filter bs false
still_role a x (leaf_sign {a = b}) h bs n g = still_sign b h bs n g
still_role a x leaf_variable h bs n g = refl
still_role a x y h bs n g = refl

pub still_filter : (a : Kind) (c d : Spot) (x : Lexeme) (bs : List Bool) → Leaves a x → still a ≡ true → Moved c x d → InFilter c bs false → InFilter d bs false
still_filter a c d x bs y h m e = by_role c d x (filter bs false) m e ∙ still_role a x y h bs c.state.groups (goes d)

open_depth : (c d : Spot) (bs : List Bool) (waits : Bool) → Moved c (l.Sign s.OpenBracket) d → InFilter c bs waits → depth_from c ≡ max (open_now (waits ∷ bs) false) (depth_from d)
open_depth c d bs waits h e = h.depth ∙ ap (λ (r : Role). max (depth_by r (l.Sign s.OpenBracket)) (depth_from d)) e

-- what stands in brackets is one deeper
pub bracketed : (c a z d : Spot) (bs : List Bool) (waits : Bool) (n : ℕ) → Moved c (l.Sign s.OpenBracket) a → Moved z (l.Sign s.CloseBracket) d → InFilter c bs waits
    → (InFilter a (waits ∷ bs) false → InFilter z (waits ∷ bs) false × Rises (open_now (waits ∷ bs) false) n a z) → (d.state.role ≡ behind bs) × Rises (open_now bs waits) (1 + n) c d
bracketed c a z d bs waits n h j e f =
    let i = f (by_role c a (l.Sign s.OpenBracket) (filter bs waits) h e) in
    let role = by_role z d (l.Sign s.CloseBracket) (filter (waits ∷ bs) false) j i.0 ∙ behind_is waits bs in
    let first = open_depth c a bs waits h e in
    let inner = i.1 in
    let last = flat_step z d (l.Sign s.CloseBracket) refl j in
    let k = open_waits bs waits in
    (role, omega (arith, first, inner, last, k))

-- and what stands behind `!`
pub negated : (c a d : Spot) (b : Bool) (bs : List Bool) (n : ℕ) → Moved c (l.Sign s.Bang) a → InFilter c (b ∷ bs) false
    → (InFilter a (b ∷ bs) true → InFilter d (b ∷ bs) false × Rises (open_now (b ∷ bs) true) n a d) → InFilter d (b ∷ bs) false × Rises (open_now (b ∷ bs) false) (1 + n) c d
negated c a d b bs n h e f =
    let i = f (by_role c a (l.Sign s.Bang) (filter (b ∷ bs) false) h e) in
    let first : depth_from c ≡ max (open_now (b ∷ bs) true) (depth_from a) = h.depth ∙ ap (λ (r : Role). max (depth_by r (l.Sign s.Bang)) (depth_from a)) e in
    let inner = i.1 in
    let k = open_waits (b ∷ bs) true in
    (i.0, omega (arith, first, inner, k))

-- ---- in triples

-- where no tag or `^^` is next, a part of a triple or something else of a group is
abbrev pub Settled : Spot → Type 0
Settled c = goes c ≡ false → IsOpen c.state.role

pub data InText : Role → Type 0 where
  in_text : {p : Place} → InText (text_of p)
  in_object : InText behind_object

pub data InType : Role → Type 0 where
  in_type : {p : Place} → InType (type_of p)
  in_object_type : InType behind_object

pub open_done : (p : Place) → IsOpen (done p)
open_done subject = open_next
open_done predicate = open_next
open_done object = open_object

open_sign : (a : Sign) → still (sign a) ≡ true → (r : Role) (n : ℕ) (g : Bool) → IsOpen r → IsOpen (after_by r n (l.Sign a) g)
open_sign s.OpenBrace h r n g o = absurd (false≢true h)
open_sign s.CloseBrace h r n g o = absurd (false≢true h)
open_sign s.Filter h r n g o = absurd (false≢true h)
open_sign s.Dot h r n g open_object = open_next
open_sign s.Dot h r n g open_next = open_next
open_sign s.Semicolon h r n g open_object = open_next
open_sign s.Semicolon h r n g open_next = open_next
open_sign s.Comma h r n g open_object = open_next
open_sign s.Comma h r n g open_next = open_next
open_sign s.Optional h r n g open_object = open_next
open_sign s.Optional h r n g open_next = open_next
open_sign s.Union h r n g open_object = open_next
open_sign s.Union h r n g open_next = open_next
open_sign a h r n g open_object = open_object
open_sign a h r n g (open_next {p = p}) = open_done p

open_text : (t : List ℕ) (r : Role) (n : ℕ) (g : Bool) → IsOpen r → g ≡ false → IsOpen (after_by r n (l.Text t) g)
open_text t r n g open_object e = open_object
open_text t r n g (open_next {p = p}) e = subst (λ (b : Bool). IsOpen (if b then text_of p else done p)) (sym e) (open_done p)

open_leaf : (a : Kind) (x : Lexeme) → Leaves a x → still a ≡ true → (r : Role) (n : ℕ) (g : Bool) → IsOpen r → g ≡ false → IsOpen (after_by r n x g)
open_leaf a x (leaf_sign {a = b}) h r n g o e = open_sign b h r n g o
open_leaf a x (leaf_string {t = t}) h r n g o e = open_text t r n g o e
open_leaf a x leaf_tag h r n g o e = absurd (false≢true h)
open_leaf a x leaf_variable h r n g open_object e = open_object
open_leaf a x leaf_variable h r n g (open_next {p = p}) e = open_done p
open_leaf a x y h r n g open_object e = open_object
open_leaf a x y h r n g (open_next {p = p}) e = open_done p

pub settled_step : (a : Kind) (c d : Spot) (x : Lexeme) → Leaves a x → still a ≡ true → Moved c x d → Settled c → Settled d
settled_step a c d x y h m k quiet = subst IsOpen (sym m.role) (open_leaf a x y h c.state.role c.state.groups (goes d) (k (m.goes ∙ still_goes a x y h)) quiet)

text_role : (t : List ℕ) (r : Role) (n : ℕ) (g : Bool) → IsOpen r → g ≡ true → InText (after_by r n (l.Text t) g)
text_role t r n g open_object e = in_object
text_role t r n g (open_next {p = p}) e = subst (λ (b : Bool). InText (if b then text_of p else done p)) (sym e) in_text

-- behind a text to which a tag or a datatype belongs
pub text_step : (c d : Spot) (t : List ℕ) → Moved c (l.Text t) d → Settled c → goes d ≡ true → InText d.state.role
text_step c d t m k e = subst InText (sym m.role) (text_role t c.state.role c.state.groups (goes d) (k m.goes) e)

tag_role : (t : List ℕ) (r : Role) (n : ℕ) (g : Bool) → InText r → IsOpen (after_by r n (l.Tag t) g)
tag_role t r n g (in_text {p = p}) = open_done p
tag_role t r n g in_object = open_object

pub tag_step : (c d : Spot) (t : List ℕ) → Moved c (l.Tag t) d → InText c.state.role → IsOpen d.state.role
tag_step c d t m k = subst IsOpen (sym m.role) (tag_role t c.state.role c.state.groups (goes d) k)

carets_role : (r : Role) (n : ℕ) (g : Bool) → InText r → InType (after_by r n (l.Sign s.TwoCarets) g)
carets_role r n g in_text = in_type
carets_role r n g in_object = in_object_type

pub carets_step : (c d : Spot) → Moved c (l.Sign s.TwoCarets) d → InText c.state.role → InType d.state.role
carets_step c d m k = subst InType (sym m.role) (carets_role c.state.role c.state.groups (goes d) k)
