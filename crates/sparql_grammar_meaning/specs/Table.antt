-- What begins each symbol, tested against the rules, and what goes on with it.
use Rattle.std.proofs.Common.{Bool, true, false, IsTrue, List, [], ◌∷◌, ◌≡◌, refl, Some}
use Rattle.grammar_meaning.specs.Outcome.{and, implies, nullable, first, Lookahead, every_of, at}
use Rattle.grammar_meaning.specs.Laws.{every_at}
use Rattle.sparql_grammar_meaning.specs.declared.lexeme.Sign.TheVariants as s
use Rattle.sparql_grammar_meaning.specs.Grammar.{Kind, sign, variable, iri, named, prefix_name, string, tag, count, literal, function, test, compare, direction, code, among, Symbol, Query_, Prologue_, Shown_, Prefix_, Group_, Other_, Triples_, Same_, Objs_, Verb_, Term_, Iri_, Literal_, Cond_, Truth_, And_, Rel_, Compared_, Operator_, Values_, Prim_, Atom_, Value_, Fun_, Test_, Order_, Key_, Slice_, rule, grammar}

abbrev pub empty : Symbol → Bool
empty Prologue_ = true
empty _ = false

abbrev pub begins : Symbol → List Kind
begins Query_ = (sign s.Prefix) ∷ (sign s.Select) ∷ []
begins Prologue_ = (sign s.Prefix) ∷ []
begins Shown_ = variable ∷ (sign s.Star) ∷ []
begins Prefix_ = (sign s.Prefix) ∷ []
begins Group_ = (sign s.OpenBrace) ∷ []
begins Other_ = (sign s.Optional) ∷ (sign s.OpenBrace) ∷ (sign s.Filter) ∷ []
begins Triples_ = variable ∷ iri ∷ named ∷ prefix_name ∷ string ∷ count ∷ literal ∷ []
begins Same_ = variable ∷ iri ∷ named ∷ prefix_name ∷ string ∷ count ∷ literal ∷ []
begins Objs_ = variable ∷ iri ∷ named ∷ prefix_name ∷ string ∷ count ∷ literal ∷ []
begins Verb_ = variable ∷ iri ∷ named ∷ prefix_name ∷ (sign s.A) ∷ []
begins Term_ = variable ∷ iri ∷ named ∷ prefix_name ∷ string ∷ count ∷ literal ∷ []
begins Iri_ = iri ∷ named ∷ prefix_name ∷ []
begins Literal_ = string ∷ count ∷ literal ∷ []
begins Cond_ = (sign s.OpenBracket) ∷ (sign s.Bound) ∷ (sign s.SameTerm) ∷ test ∷ function ∷ []
begins Truth_ = variable ∷ iri ∷ named ∷ prefix_name ∷ string ∷ count ∷ literal ∷ function ∷ (sign s.OpenBracket) ∷ (sign s.Bang) ∷ (sign s.Bound) ∷ (sign s.SameTerm) ∷ test ∷ []
begins And_ = variable ∷ iri ∷ named ∷ prefix_name ∷ string ∷ count ∷ literal ∷ function ∷ (sign s.OpenBracket) ∷ (sign s.Bang) ∷ (sign s.Bound) ∷ (sign s.SameTerm) ∷ test ∷ []
begins Rel_ = variable ∷ iri ∷ named ∷ prefix_name ∷ string ∷ count ∷ literal ∷ function ∷ (sign s.OpenBracket) ∷ (sign s.Bang) ∷ (sign s.Bound) ∷ (sign s.SameTerm) ∷ test ∷ []
begins Compared_ = variable ∷ iri ∷ named ∷ prefix_name ∷ string ∷ count ∷ literal ∷ function ∷ (sign s.OpenBracket) ∷ []
begins Operator_ = compare ∷ (sign s.In) ∷ (sign s.Not) ∷ []
begins Values_ = (sign s.OpenBracket) ∷ []
begins Prim_ = (sign s.Bang) ∷ (sign s.OpenBracket) ∷ (sign s.Bound) ∷ (sign s.SameTerm) ∷ test ∷ []
begins Atom_ = (sign s.OpenBracket) ∷ (sign s.Bound) ∷ (sign s.SameTerm) ∷ test ∷ []
begins Value_ = variable ∷ iri ∷ named ∷ prefix_name ∷ string ∷ count ∷ literal ∷ function ∷ (sign s.OpenBracket) ∷ []
begins Fun_ = function ∷ []
begins Test_ = (sign s.Bound) ∷ (sign s.SameTerm) ∷ test ∷ []
begins Order_ = (sign s.Order) ∷ []
begins Key_ = variable ∷ direction ∷ []
begins Slice_ = (sign s.Limit) ∷ (sign s.Offset) ∷ []

-- which tokens go on with a symbol's string where a shorter one could end
abbrev pub after : Symbol → List Kind
after Query_ = (sign s.Order) ∷ (sign s.Limit) ∷ (sign s.Offset) ∷ variable ∷ direction ∷ []
after Prologue_ = (sign s.Prefix) ∷ []
after Shown_ = variable ∷ []
after Other_ = (sign s.Union) ∷ []
after Triples_ = tag ∷ (sign s.TwoCarets) ∷ (sign s.Comma) ∷ (sign s.Semicolon) ∷ variable ∷ iri ∷ named ∷ prefix_name ∷ (sign s.A) ∷ (sign s.Dot) ∷ string ∷ count ∷ literal ∷ []
after Same_ = tag ∷ (sign s.TwoCarets) ∷ (sign s.Comma) ∷ (sign s.Semicolon) ∷ variable ∷ iri ∷ named ∷ prefix_name ∷ (sign s.A) ∷ []
after Objs_ = tag ∷ (sign s.TwoCarets) ∷ (sign s.Comma) ∷ []
after Term_ = tag ∷ (sign s.TwoCarets) ∷ []
after Literal_ = tag ∷ (sign s.TwoCarets) ∷ []
after Truth_ = tag ∷ (sign s.TwoCarets) ∷ compare ∷ (sign s.Not) ∷ (sign s.In) ∷ (sign s.And) ∷ (sign s.Or) ∷ []
after And_ = tag ∷ (sign s.TwoCarets) ∷ compare ∷ (sign s.Not) ∷ (sign s.In) ∷ (sign s.And) ∷ []
after Rel_ = tag ∷ (sign s.TwoCarets) ∷ compare ∷ (sign s.Not) ∷ (sign s.In) ∷ []
after Compared_ = tag ∷ (sign s.TwoCarets) ∷ compare ∷ (sign s.Not) ∷ (sign s.In) ∷ []
after Operator_ = tag ∷ (sign s.TwoCarets) ∷ []
after Value_ = tag ∷ (sign s.TwoCarets) ∷ []
after Order_ = variable ∷ direction ∷ []
after Slice_ = (sign s.Limit) ∷ (sign s.Offset) ∷ []
after _ = []

abbrev pub kinds : List Kind
kinds =
    variable ∷ iri ∷ named ∷ prefix_name ∷ string ∷ tag ∷ count ∷ literal ∷ function ∷ test ∷ compare ∷ direction
    ∷ sign s.Prefix ∷ sign s.Select ∷ sign s.Distinct ∷ sign s.Where ∷ sign s.Optional ∷ sign s.Union ∷ sign s.Filter ∷ sign s.A ∷ sign s.Not ∷ sign s.In ∷ sign s.Bound ∷ sign s.SameTerm ∷ sign s.Order ∷ sign s.By ∷ sign s.Limit ∷ sign s.Offset ∷ sign s.OpenBrace ∷ sign s.CloseBrace ∷ sign s.OpenBracket ∷ sign s.CloseBracket ∷ sign s.Dot ∷ sign s.Semicolon ∷ sign s.Comma ∷ sign s.Star ∷ sign s.Bang ∷ sign s.And ∷ sign s.Or ∷ sign s.TwoCarets ∷ sign s.Other ∷ []

pub listed : (a : Kind) → at kinds (code a) ≡ Some a
listed (sign s.Prefix) = refl
listed (sign s.Select) = refl
listed (sign s.Distinct) = refl
listed (sign s.Where) = refl
listed (sign s.Optional) = refl
listed (sign s.Union) = refl
listed (sign s.Filter) = refl
listed (sign s.A) = refl
listed (sign s.Not) = refl
listed (sign s.In) = refl
listed (sign s.Bound) = refl
listed (sign s.SameTerm) = refl
listed (sign s.Order) = refl
listed (sign s.By) = refl
listed (sign s.Limit) = refl
listed (sign s.Offset) = refl
listed (sign s.OpenBrace) = refl
listed (sign s.CloseBrace) = refl
listed (sign s.OpenBracket) = refl
listed (sign s.CloseBracket) = refl
listed (sign s.Dot) = refl
listed (sign s.Semicolon) = refl
listed (sign s.Comma) = refl
listed (sign s.Star) = refl
listed (sign s.Bang) = refl
listed (sign s.And) = refl
listed (sign s.Or) = refl
listed (sign s.TwoCarets) = refl
listed (sign s.Other) = refl
listed variable = refl
listed iri = refl
listed named = refl
listed prefix_name = refl
listed string = refl
listed tag = refl
listed count = refl
listed literal = refl
listed function = refl
listed test = refl
listed compare = refl
listed direction = refl

pub each : (p : Kind → Bool) → IsTrue (every_of kinds p) → (a : Kind) → IsTrue (p a)
each p h a = every_at p kinds (code a) a (listed a) h

pub empty_right : (a : Symbol) → IsTrue (implies (nullable empty (rule a)) (empty a))
empty_right Query_ = refl
empty_right Prologue_ = refl
empty_right Shown_ = refl
empty_right Prefix_ = refl
empty_right Group_ = refl
empty_right Other_ = refl
empty_right Triples_ = refl
empty_right Same_ = refl
empty_right Objs_ = refl
empty_right Verb_ = refl
empty_right Term_ = refl
empty_right Iri_ = refl
empty_right Literal_ = refl
empty_right Cond_ = refl
empty_right Truth_ = refl
empty_right And_ = refl
empty_right Rel_ = refl
empty_right Compared_ = refl
empty_right Operator_ = refl
empty_right Values_ = refl
empty_right Prim_ = refl
empty_right Atom_ = refl
empty_right Value_ = refl
empty_right Fun_ = refl
empty_right Test_ = refl
empty_right Order_ = refl
empty_right Key_ = refl
empty_right Slice_ = refl

pub begins_right : (a : Symbol) → IsTrue (every_of kinds (λ k. implies (first empty (λ z. among (begins z)) (rule a) k) (among (begins a) k)))
begins_right Query_ = refl
begins_right Prologue_ = refl
begins_right Shown_ = refl
begins_right Prefix_ = refl
begins_right Group_ = refl
begins_right Other_ = refl
begins_right Triples_ = refl
begins_right Same_ = refl
begins_right Objs_ = refl
begins_right Verb_ = refl
begins_right Term_ = refl
begins_right Iri_ = refl
begins_right Literal_ = refl
begins_right Cond_ = refl
begins_right Truth_ = refl
begins_right And_ = refl
begins_right Rel_ = refl
begins_right Compared_ = refl
begins_right Operator_ = refl
begins_right Values_ = refl
begins_right Prim_ = refl
begins_right Atom_ = refl
begins_right Value_ = refl
begins_right Fun_ = refl
begins_right Test_ = refl
begins_right Order_ = refl
begins_right Key_ = refl
begins_right Slice_ = refl

abbrev pub look : Lookahead grammar
look = record { empty = empty; begins = λ z. among (begins z); every = every_of kinds; each = each; empty_right = empty_right; begins_right = begins_right }
