-- The rules of the grammar with the kind of each token in plain sight, and what a token of a kind is.
use Rattle.std.specs.Prelude.{ℕ, Bool, List, [], ◌∷◌, ◌≡◌, ◌==◌, IsTrue, Some, refl}
use Rattle.std.proofs.Common.{sym, ap, subst, ◌∙◌, slice_get, arith}
use Rattle.grammar_meaning.specs.Grammar.{Form, nothing, one, call, ◌⨾◌, ◌∣◌, many}
use Rattle.rdf_meaning.specs.Terms.{RdfTerm}
use Rattle.query_meaning.specs.declared.expression.CompareOp.{CompareOp}
use Rattle.query_meaning.specs.declared.expression.TermTest.{TermTest}
use Rattle.sparql_grammar_meaning.specs.declared.lexeme.Sign.{Sign}
use Rattle.sparql_grammar_meaning.specs.declared.lexeme.Sign.TheVariants as s
use Rattle.sparql_grammar_meaning.specs.declared.lexeme.Function.{Function}
use Rattle.sparql_grammar_meaning.specs.declared.lexeme.Lexeme.{Lexeme}
use Rattle.sparql_grammar_meaning.specs.declared.lexeme.Lexeme.TheVariants as l
use Rattle.sparql_grammar_meaning.specs.Grammar.{Kind, rule, sign, variable, iri, named, prefix_name, string, tag, count, literal, function, test, compare, direction, kind, code, is, Symbol, Query_, Prologue_, Shown_, Prefix_, Group_, Other_, Triples_, Same_, Objs_, Verb_, Term_, Iri_, Literal_, Cond_, Truth_, And_, Rel_, Compared_, Operator_, Values_, Prim_, Atom_, Value_, Fun_, Test_, Order_, Key_, Slice_}

-- the tokens of a kind
pub data Leaves : Kind → Lexeme → Type 0 where
  leaf_sign : {a : Sign} → Leaves (sign a) (l.Sign a)
  leaf_variable : {n : ℕ} → Leaves variable (l.Variable n)
  leaf_iri : {i : List ℕ} → Leaves iri (l.Iri i)
  leaf_named : {i : List ℕ} → Leaves named (l.Named i)
  leaf_prefix : {i : List ℕ} → Leaves prefix_name (l.PrefixName i)
  leaf_string : {t : List ℕ} → Leaves string (l.Text t)
  leaf_tag : {t : List ℕ} → Leaves tag (l.Tag t)
  leaf_count : {t : RdfTerm} {n : ℕ} → Leaves count (l.Count t n)
  leaf_literal : {t : RdfTerm} → Leaves literal (l.Literal t)
  leaf_function : {f : Function} → Leaves function (l.Function f)
  leaf_test : {t : TermTest} → Leaves test (l.Test t)
  leaf_compare : {o : CompareOp} → Leaves compare (l.Compare o)
  leaf_direction : {d : Bool} → Leaves direction (l.Direction d)

leaf_of : (x : Lexeme) → Leaves (kind x) x
leaf_of (l.Sign a) = leaf_sign
leaf_of (l.Variable n) = leaf_variable
leaf_of (l.Iri i) = leaf_iri
leaf_of (l.Named i) = leaf_named
leaf_of (l.PrefixName i) = leaf_prefix
leaf_of (l.Text t) = leaf_string
leaf_of (l.Tag t) = leaf_tag
leaf_of (l.Count t n) = leaf_count
leaf_of (l.Literal t) = leaf_literal
leaf_of (l.Function f) = leaf_function
leaf_of (l.Test t) = leaf_test
leaf_of (l.Compare o) = leaf_compare
leaf_of (l.Direction d) = leaf_direction

-- all kinds, in order of their codes
kinds : List Kind
kinds =
    variable ∷ iri ∷ named ∷ prefix_name ∷ string ∷ tag ∷ count ∷ literal ∷ function ∷ test ∷ compare ∷ direction
    ∷ sign s.Prefix ∷ sign s.Select ∷ sign s.Distinct ∷ sign s.Where ∷ sign s.Optional ∷ sign s.Union ∷ sign s.Filter ∷ sign s.A ∷ sign s.Not ∷ sign s.In ∷ sign s.Bound
    ∷ sign s.SameTerm ∷ sign s.Order ∷ sign s.By ∷ sign s.Limit ∷ sign s.Offset ∷ sign s.OpenBrace ∷ sign s.CloseBrace ∷ sign s.OpenBracket ∷ sign s.CloseBracket ∷ sign s.Dot
    ∷ sign s.Semicolon ∷ sign s.Comma ∷ sign s.Star ∷ sign s.Bang ∷ sign s.And ∷ sign s.Or ∷ sign s.TwoCarets ∷ sign s.Other ∷ []

at_code : (a : Kind) → slice_get kinds (code a) ≡ Some a
unfolding kinds
at_code (sign s.Prefix) = refl
at_code a = refl

same_some : {a b : Kind} → Some a ≡ Some b → a ≡ b
same_some h = cc

same_code : (n m : ℕ) → IsTrue (n == m) → n ≡ m
same_code n m h = grind (arith, h)

same_kind : (a b : Kind) → IsTrue (is a b) → b ≡ a
same_kind a b h = same_some (sym (at_code b) ∙ ap (slice_get kinds) (sym (same_code (code a) (code b) h)) ∙ at_code a)

pub leaf_is : (a : Kind) (x : Lexeme) → IsTrue (is a (kind x)) → Leaves a x
leaf_is a x h = subst (λ (z : Kind). Leaves z x) (same_kind a (kind x) h) (leaf_of x)

pub data Shape : Type 0 where
  empty : Shape
  token : Kind → Shape
  symbol : Symbol → Shape
  both : Shape → Shape → Shape
  either : Shape → Shape → Shape
  several : Shape → Shape

abbrev pub form : Shape → Form Symbol Kind
form empty = nothing
form (token a) = one (is a)
form (symbol x) = call x
form (both f g) = form f ⨾ form g
form (either f g) = form f ∣ form g
form (several f) = many (form f)

abbrev pub word : Sign → Shape
word a = token (sign a)

abbrev pub maybe : Shape → Shape
maybe f = either f empty

abbrev pub shape : Symbol → Shape
shape Query_ = both (symbol Prologue_) (both (word s.Select) (both (maybe (word s.Distinct)) (both (symbol Shown_) (both (maybe (word s.Where)) (both (symbol Group_) (both (maybe (symbol Order_)) (maybe (symbol Slice_))))))))
shape Prologue_ = several (symbol Prefix_)
shape Prefix_ = both (word s.Prefix) (both (token prefix_name) (token iri))
shape Shown_ = either (both (token variable) (several (token variable))) (word s.Star)
shape Group_ = both (word s.OpenBrace) (both (maybe (symbol Triples_)) (both (several (both (symbol Other_) (both (maybe (word s.Dot)) (maybe (symbol Triples_))))) (word s.CloseBrace)))
shape Other_ = either (both (word s.Optional) (symbol Group_)) (either (both (symbol Group_) (several (both (word s.Union) (symbol Group_)))) (both (word s.Filter) (symbol Cond_)))
shape Triples_ = both (symbol Same_) (maybe (both (word s.Dot) (maybe (symbol Triples_))))
shape Same_ = both (symbol Term_) (both (symbol Verb_) (both (symbol Objs_) (several (both (word s.Semicolon) (maybe (both (symbol Verb_) (symbol Objs_)))))))
shape Objs_ = both (symbol Term_) (several (both (word s.Comma) (symbol Term_)))
shape Verb_ = either (token variable) (either (symbol Iri_) (word s.A))
shape Term_ = either (token variable) (either (symbol Iri_) (symbol Literal_))
shape Iri_ = either (token iri) (either (token named) (token prefix_name))
shape Literal_ = either (both (token string) (maybe (either (token tag) (both (word s.TwoCarets) (symbol Iri_))))) (either (token count) (token literal))
shape Cond_ = either (both (word s.OpenBracket) (both (symbol Truth_) (word s.CloseBracket))) (either (symbol Test_) (symbol Fun_))
shape Truth_ = both (symbol And_) (several (both (word s.Or) (symbol And_)))
shape And_ = both (symbol Rel_) (several (both (word s.And) (symbol Rel_)))
shape Rel_ = either (symbol Compared_) (symbol Prim_)
shape Compared_ = both (symbol Value_) (maybe (symbol Operator_))
shape Operator_ = either (both (token compare) (symbol Value_)) (either (both (word s.In) (symbol Values_)) (both (word s.Not) (both (word s.In) (symbol Values_))))
shape Values_ = both (word s.OpenBracket) (both (maybe (both (symbol Value_) (several (both (word s.Comma) (symbol Value_))))) (word s.CloseBracket))
shape Prim_ = either (both (word s.Bang) (either (symbol Atom_) (symbol Value_))) (symbol Atom_)
shape Atom_ = either (both (word s.OpenBracket) (both (symbol Truth_) (word s.CloseBracket))) (symbol Test_)
shape Value_ = either (token variable) (either (symbol Iri_) (either (symbol Literal_) (either (symbol Fun_) (both (word s.OpenBracket) (both (symbol Value_) (word s.CloseBracket))))))
shape Fun_ = both (token function) (both (word s.OpenBracket) (both (symbol Value_) (word s.CloseBracket)))
shape Test_ = either (both (word s.Bound) (both (word s.OpenBracket) (both (token variable) (word s.CloseBracket)))) (either (both (word s.SameTerm) (both (word s.OpenBracket) (both (symbol Value_) (both (word s.Comma) (both (symbol Value_) (word s.CloseBracket)))))) (both (token test) (both (word s.OpenBracket) (both (symbol Value_) (word s.CloseBracket)))))
shape Order_ = both (word s.Order) (both (word s.By) (both (symbol Key_) (several (symbol Key_))))
shape Key_ = either (token variable) (both (token direction) (both (word s.OpenBracket) (both (token variable) (word s.CloseBracket))))
shape Slice_ = either (both (word s.Limit) (both (token count) (maybe (both (word s.Offset) (token count))))) (both (word s.Offset) (both (token count) (maybe (both (word s.Limit) (token count)))))

pub rule_form : (x : Symbol) → rule x ≡ form (shape x)
rule_form Query_ = refl
rule_form x = refl
