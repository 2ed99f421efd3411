-- What a walk does to the counts wherever it stands: in a filter and around the group no pattern is counted, and before the keys no key.
use Rattle.std.specs.Prelude.{◌≡◌, ℕ, zero, suc, ◌-◌, Bool, true, false, ◌&&◌, List, [], ◌∷◌, refl}
use Rattle.std.proofs.Common.{sym, ap, ◌∙◌, arith}
use Rattle.std.proofs.lemmas.Bool.{false≢true}
use Rattle.sparql_grammar_meaning.specs.declared.lexeme.Sign.{Sign}
use Rattle.sparql_grammar_meaning.specs.declared.lexeme.Sign.TheVariants as s
use Rattle.sparql_grammar_meaning.specs.declared.lexeme.Lexeme.{Lexeme}
use Rattle.sparql_grammar_meaning.specs.declared.lexeme.Lexeme.TheVariants as l
use Rattle.sparql_grammar_meaning.specs.Grammar.{Kind, sign}
use Rattle.sparql_query_meaning.specs.Limits.{Place, subject, Role, head, next, text_of, type_of, behind_object, filter, end, order, slice, done, one_if, is_object, is_behind_object, behind_bracket, completes, or_else, behind_brace}
use Rattle.sparql_walk_laws.specs.Shapes.{Leaves, leaf_sign, leaf_variable}
use Rattle.sparql_query_laws.specs.Effects.{between_by, part_by, suffix_by, filter_by, end_by, role_by, after_by, keys_by}
use Rattle.sparql_query_laws.specs.Places.{At, Moved}

-- ---- tokens

abbrev pub no_brace : Kind → Bool
no_brace (sign s.OpenBrace) = false
no_brace (sign s.CloseBrace) = false
no_brace a = true

-- no brace, and nothing that stands between triples but a comma or a semicolon
abbrev pub in_condition : Kind → Bool
in_condition (sign s.OpenBrace) = false
in_condition (sign s.CloseBrace) = false
in_condition (sign s.Dot) = false
in_condition (sign s.Optional) = false
in_condition (sign s.Union) = false
in_condition (sign s.Filter) = false
in_condition a = true

abbrev pub no_order : Kind → Bool
no_order (sign s.Order) = false
no_order a = true

after_sign : (a : Sign) → no_brace (sign a) ≡ true → (r : Role) (n : ℕ) (g : Bool) → after_by r n (l.Sign a) g ≡ role_by r (l.Sign a) g
after_sign s.OpenBrace h r n g = absurd (false≢true h)
after_sign s.CloseBrace h r n g = absurd (false≢true h)
after_sign a h r n g = refl

pub after_leaf : (a : Kind) (x : Lexeme) → Leaves a x → no_brace a ≡ true → (r : Role) (n : ℕ) (g : Bool) → after_by r n x g ≡ role_by r x g
after_leaf a x (leaf_sign {a = b}) h r n g = after_sign b h r n g
after_leaf a x leaf_variable h r n g = refl
after_leaf a x y h r n g = refl

-- ---- roles

abbrev pub is_filter : Role → Bool
is_filter (filter bs waits) = true
is_filter r = false

-- in a filter, or right behind it
abbrev pub inside : Role → Bool
inside (filter bs waits) = true
inside (next subject) = true
inside r = false

-- around the group
abbrev pub around : Role → Bool
around head = true
around end = true
around order = true
around slice = true
around r = false

abbrev pub not_order : Role → Bool
not_order order = false
not_order r = true

part_is : (q : Role → Bool) (b : Bool) → ((p : Place) → q (done p) ≡ b) → ((p : Place) → q (text_of p) ≡ b) → (p : Place) (x : Lexeme) (g : Bool) → q (part_by p x g) ≡ b
part_is q b d t p (l.Text y) true = t p
part_is q b d t p (l.Text y) false = d p
part_is q b d t p x g = d p

suffix_is : (q : Role → Bool) (b : Bool) → ((p : Place) → q (done p) ≡ b) → ((p : Place) → q (type_of p) ≡ b) → (p : Place) (x : Lexeme) → q (suffix_by p x) ≡ b
suffix_is q b d t p (l.Tag y) = d p
suffix_is q b d t p x = t p

-- ---- in a condition

inside_done : (p : Place) → inside (done p) ≡ false
inside_done subject = refl
inside_done p = refl

between_sign : (a : Sign) → in_condition (sign a) ≡ true → (r : Role) → inside r ≡ false → inside (or_else (between_by (l.Sign a)) r) ≡ false
between_sign s.Dot h r e = absurd (false≢true h)
between_sign s.Optional h r e = absurd (false≢true h)
between_sign s.Union h r e = absurd (false≢true h)
between_sign s.Filter h r e = absurd (false≢true h)
between_sign s.Semicolon h r e = refl
between_sign s.Comma h r e = refl
between_sign a h r e = e

between_leaf : (a : Kind) (x : Lexeme) → Leaves a x → in_condition a ≡ true → (r : Role) → inside r ≡ false → inside (or_else (between_by x) r) ≡ false
between_leaf a x (leaf_sign {a = b}) h r e = between_sign b h r e
between_leaf a x leaf_variable h r e = e
between_leaf a x y h r e = e

inside_end : (x : Lexeme) (r : Role) → inside r ≡ false → inside (end_by x r) ≡ false
inside_end (l.Sign s.Order) r e = refl
inside_end (l.Sign s.Limit) r e = refl
inside_end (l.Sign s.Offset) r e = refl
inside_end x r e = e

from_filter : (a : Kind) (x : Lexeme) → Leaves a x → in_condition a ≡ true → (r : Role) (g : Bool) → inside (role_by r x g) ≡ true → is_filter r ≡ true
from_filter a x y h head g e = absurd (false≢true e)
from_filter a x y h (next p) g e = absurd (false≢true (sym (between_leaf a x y h (part_by p x g) (part_is inside false inside_done (λ z. refl) p x g)) ∙ e))
from_filter a x y h (text_of p) g e = absurd (false≢true (sym (suffix_is inside false inside_done (λ z. refl) p x) ∙ e))
from_filter a x y h (type_of p) g e = absurd (false≢true (sym (inside_done p) ∙ e))
from_filter a x y h behind_object g e = absurd (false≢true (sym (between_leaf a x y h behind_object refl) ∙ e))
from_filter a x y h (filter bs waits) g e = refl
from_filter a x y h end g e = absurd (false≢true (sym (inside_end x end refl) ∙ e))
from_filter a x y h order g e = absurd (false≢true (sym (inside_end x order refl) ∙ e))
from_filter a x y h slice g e = absurd (false≢true (sym (inside_end x slice refl) ∙ e))

condition_braceless : (a : Kind) → in_condition a ≡ true → no_brace a ≡ true
condition_braceless (sign s.OpenBrace) h = absurd (false≢true h)
condition_braceless (sign s.CloseBrace) h = absurd (false≢true h)
condition_braceless a h = refl

-- ---- around the group

around_end : (x : Lexeme) (r : Role) → around r ≡ true → around (end_by x r) ≡ true
around_end (l.Sign s.Order) r e = refl
around_end (l.Sign s.Limit) r e = refl
around_end (l.Sign s.Offset) r e = refl
around_end x r e = e

pub stays_around : (x : Lexeme) (r : Role) (g : Bool) → around r ≡ true → around (role_by r x g) ≡ true
stays_around x head g e = refl
stays_around x (next p) g e = absurd (false≢true e)
stays_around x (text_of p) g e = absurd (false≢true e)
stays_around x (type_of p) g e = absurd (false≢true e)
stays_around x behind_object g e = absurd (false≢true e)
stays_around x (filter bs waits) g e = absurd (false≢true e)
stays_around x end g e = around_end x end refl
stays_around x order g e = around_end x order refl
stays_around x slice g e = around_end x slice refl

-- ---- before the keys

early_done : (p : Place) → not_order (done p) ≡ true
early_done subject = refl
early_done p = refl

early_between : (x : Lexeme) (r : Role) → not_order r ≡ true → not_order (or_else (between_by x) r) ≡ true
early_between (l.Sign s.Dot) r e = refl
early_between (l.Sign s.Semicolon) r e = refl
early_between (l.Sign s.Comma) r e = refl
early_between (l.Sign s.Optional) r e = refl
early_between (l.Sign s.Union) r e = refl
early_between (l.Sign s.Filter) r e = refl
early_between x r e = e

early_bracket : (bs : List Bool) → not_order (behind_bracket bs) ≡ true
early_bracket [] = refl
early_bracket (b ∷ []) = refl
early_bracket (b ∷ c ∷ bs) = refl

early_filter : (bs : List Bool) (waits : Bool) (x : Lexeme) → not_order (filter_by bs waits x) ≡ true
early_filter bs waits (l.Sign s.CloseBracket) = early_bracket bs
early_filter bs waits x = refl

end_sign : (a : Sign) → no_order (sign a) ≡ true → (r : Role) → not_order r ≡ true → not_order (end_by (l.Sign a) r) ≡ true
end_sign s.Order h r e = absurd (false≢true h)
end_sign s.Limit h r e = refl
end_sign s.Offset h r e = refl
end_sign a h r e = e

end_leaf : (a : Kind) (x : Lexeme) → Leaves a x → no_order a ≡ true → (r : Role) → not_order r ≡ true → not_order (end_by x r) ≡ true
end_leaf a x (leaf_sign {a = b}) h r e = end_sign b h r e
end_leaf a x leaf_variable h r e = e
end_leaf a x y h r e = e

early_role : (a : Kind) (x : Lexeme) → Leaves a x → no_order a ≡ true → (r : Role) (g : Bool) → not_order r ≡ true → not_order (role_by r x g) ≡ true
early_role a x y h head g e = refl
early_role a x y h (next p) g e = early_between x (part_by p x g) (part_is not_order true early_done (λ z. refl) p x g)
early_role a x y h (text_of p) g e = suffix_is not_order true early_done (λ z. refl) p x
early_role a x y h (type_of p) g e = early_done p
early_role a x y h behind_object g e = early_between x behind_object refl
early_role a x y h (filter bs waits) g e = early_filter bs waits x
early_role a x y h end g e = end_leaf a x y h end refl
early_role a x y h order g e = absurd (false≢true e)
early_role a x y h slice g e = end_leaf a x y h slice refl

early_brace : (n : ℕ) → not_order (behind_brace n) ≡ true
early_brace zero = refl
early_brace (suc n) = refl

early_sign : (a : Sign) → no_order (sign a) ≡ true → (r : Role) (n : ℕ) (g : Bool) → not_order r ≡ true → not_order (after_by r n (l.Sign a) g) ≡ true
early_sign s.OpenBrace h r n g e = refl
early_sign s.CloseBrace h r n g e = early_brace (n - 1)
early_sign a h r n g e = early_role (sign a) (l.Sign a) leaf_sign h r g e

early_leaf : (a : Kind) (x : Lexeme) → Leaves a x → no_order a ≡ true → (r : Role) (n : ℕ) (g : Bool) → not_order r ≡ true → not_order (after_by r n x g) ≡ true
early_leaf a x (leaf_sign {a = b}) h r n g e = early_sign b h r n g e
early_leaf a x (leaf_variable {n = i}) h r n g e = early_role a (l.Variable i) leaf_variable h r g e
early_leaf a x y h r n g e = early_role a x y h r g e

keys_kept : (r : Role) (n : ℕ) (x : Lexeme) → not_order r ≡ true → keys_by r n x ≡ n
keys_kept order n x e = absurd (false≢true e)
keys_kept head n x e = refl
keys_kept r n x e = refl

-- ---- what a walk keeps

-- where it ends in a condition, or right behind one, it began in one, and counted no pattern
abbrev pub Inner : At → At → Type 0
Inner c d = inside d.state.role ≡ true → (inside c.state.role ≡ true) × (d.state.patterns ≡ c.state.patterns)

-- from around the group it stays there, and counts no pattern
abbrev pub Around : At → At → Type 0
Around c d = around c.state.role ≡ true → (around d.state.role ≡ true) × (d.state.patterns ≡ c.state.patterns)

-- before the keys it counts none
abbrev pub Early : At → At → Type 0
Early c d = not_order c.state.role ≡ true → (not_order d.state.role ≡ true) × (d.state.keys ≡ c.state.keys)

-- no pattern is counted at a token from outside of an object, nor at one that leads elsewhere than behind an object
from_elsewhere : (c d : At) (x : Lexeme) → Moved c x d → is_object c.state.role ≡ false → d.state.patterns ≡ c.state.patterns
from_elsewhere c d x h e =
    let none : one_if (completes c.state.role d.state.role) ≡ 0 = ap (λ (b : Bool). one_if (b && is_behind_object d.state.role)) e in
    let sum = h.patterns in
    omega (arith, sum, none)

and_false : (b : Bool) → (b && false) ≡ false
and_false true = refl
and_false false = refl

pub to_elsewhere : (c d : At) (x : Lexeme) (q : Role) → Moved c x d → d.state.role ≡ q → is_behind_object q ≡ false → d.state.patterns ≡ c.state.patterns
to_elsewhere c d x q h e f =
    let none : one_if (completes c.state.role d.state.role) ≡ 0 =
    ap (λ (b : Bool). one_if (is_object c.state.role && b)) (ap is_behind_object e ∙ f) ∙ ap one_if (and_false (is_object c.state.role)) in
    let sum = h.patterns in
    omega (arith, sum, none)

filter_inside : (r : Role) → is_filter r ≡ true → (inside r ≡ true) × (is_object r ≡ false)
filter_inside (filter bs waits) e = (refl, refl)
filter_inside head e = absurd (false≢true e)
filter_inside r e = absurd (false≢true e)

around_elsewhere : (r : Role) → around r ≡ true → is_object r ≡ false
around_elsewhere head e = refl
around_elsewhere end e = refl
around_elsewhere order e = refl
around_elsewhere slice e = refl
around_elsewhere (next p) e = absurd (false≢true e)
around_elsewhere r e = absurd (false≢true e)

pub inner_step : (a : Kind) (c d : At) (x : Lexeme) → Leaves a x → in_condition a ≡ true → Moved c x d → Inner c d
inner_step a c d x y k h e =
    let there = sym (h.role ∙ after_leaf a x y (condition_braceless a k) c.state.role c.state.groups _) in
    let back = filter_inside c.state.role (from_filter a x y k c.state.role _ (ap inside there ∙ e)) in
    (back.0, from_elsewhere c d x h back.1)

pub around_step : (a : Kind) (c d : At) (x : Lexeme) → Leaves a x → no_brace a ≡ true → Moved c x d → Around c d
around_step a c d x y k h e =
    let there = h.role ∙ after_leaf a x y k c.state.role c.state.groups _ in
    (ap around there ∙ stays_around x c.state.role _ e, from_elsewhere c d x h (around_elsewhere c.state.role e))

pub early_step : (a : Kind) (c d : At) (x : Lexeme) → Leaves a x → no_order a ≡ true → Moved c x d → Early c d
early_step a c d x y k h e =
    (ap not_order h.role ∙ early_leaf a x y k c.state.role c.state.groups _ e, h.keys ∙ keys_kept c.state.role c.state.keys x e)
