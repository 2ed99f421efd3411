-- Where a token stands, as the definition has it.
use Rattle.std.proofs.Common.{ℕ, ◌-◌, ◌≡◌, Option, None, Some, sym, ap, ◌∙◌}
use Rattle.sparql_meaning.specs.declared.token.TokenKind.{TokenKind}
use Rattle.sparql_meaning.specs.declared.token.TokenKind.TheVariants as k
use Rattle.sparql_meaning.specs.declared.token.Mark.TheVariants as m
use Rattle.sparql_query_meaning.specs.Limits.{Role, head, next, text_of, type_of, behind_object, filter, end, order, slice, subject, predicate, object, between, or_else, role_behind, behind_brace}
use Rattle.sparql_query_meaning.specs.Limits as limits
use Rattle.sparql_faults.specs.declared.role.Role.{Role as Stands}
use Rattle.sparql_faults.specs.declared.role.Role.TheVariants as r
use Rattle.sparql_faults.specs.declared.role.Place.{Place}
use Rattle.sparql_faults.specs.declared.role.Place.TheVariants as p

abbrev pub place_of : Place → limits.Place
place_of p.Subject = subject
place_of p.Predicate = predicate
place_of p.Object = object

abbrev pub role_of : Stands → Role
role_of r.Head = head
role_of (r.Next x) = next (place_of x)
role_of (r.TextOf x) = text_of (place_of x)
role_of (r.TypeOf x) = type_of (place_of x)
role_of r.BehindObject = behind_object
role_of (r.Filter bs waits) = filter bs waits
role_of r.End = end
role_of r.Order = order
role_of r.Slice = slice

-- what a token between triples begins, or that it is none
pub data IsBetween (t : TokenKind) : Option Stands → Type 0 where
  is_between : (x : Stands) → between t ≡ Some (role_of x) → IsBetween t (Some x)
  is_none : between t ≡ None → IsBetween t None

pub begins : (t : TokenKind) (o : Option Stands) (x : Stands) (s : Role) → IsBetween t o → o ≡ Some x → role_of x ≡ or_else (between t) s
begins t (Some y) x s (is_between z h) e = let i : y ≡ x = cc in sym (ap role_of i) ∙ ap (λ (w : Option Role). or_else w s) (sym h)
begins t None x s (is_none h) e = absurd cc

pub begins_none : (t : TokenKind) (o : Option Stands) (s : Role) → IsBetween t o → o ≡ None → s ≡ or_else (between t) s
begins_none t None s (is_none h) e = ap (λ (w : Option Role). or_else w s) (sym h)
begins_none t (Some y) s (is_between z h) e = absurd cc

pub ruleset found_paths = (is_between, is_none)

pub ruleset between_paths = (begins, begins_none)

-- behind a token, where so many groups are open before it
abbrev pub role_at : Role → ℕ → TokenKind → Option TokenKind → Role
role_at r groups (k.Mark m.OpenBrace) ahead = next subject
role_at r groups (k.Mark m.CloseBrace) ahead = behind_brace (groups - 1)
role_at r groups t ahead = role_behind r t ahead
