-- What a token does to the count of a text, by what the grammar sees of it.
use Rattle.std.specs.Prelude.{◌≡◌, ℕ, ◌+◌, ◌-◌, Bool, true, false, ◌&&◌, if◌then◌else◌, List, [], ◌∷◌, ◌++◌, Option, Some, None, refl}
use Rattle.rdf_meaning.specs.Characters.{is_digit}
use Rattle.rdf_meaning.specs.Terms.{RdfTerm}
use Rattle.sparql_meaning.specs.declared.token.TokenKind.{TokenKind}
use Rattle.sparql_meaning.specs.declared.token.TokenKind.TheVariants as k
use Rattle.sparql_meaning.specs.declared.token.Mark.{Mark}
use Rattle.sparql_meaning.specs.declared.token.Mark.TheVariants as m
use Rattle.sparql_meaning.specs.declared.word.Word.{Word}
use Rattle.sparql_meaning.specs.declared.word.Word.TheVariants as w
use Rattle.sparql_grammar_meaning.specs.declared.lexeme.Sign.TheVariants as s
use Rattle.sparql_grammar_meaning.specs.declared.lexeme.Lexeme.{Lexeme}
use Rattle.sparql_grammar_meaning.specs.declared.lexeme.Lexeme.TheVariants as l
use Rattle.sparql_query_meaning.specs.Prefixes.{Declared}
use Rattle.sparql_query_meaning.specs.Lexemes.{integer, integer_lexeme, number_of, word_lexeme, mark_lexeme, named_lexeme, base_of, lexeme}
use Rattle.sparql_query_meaning.specs.Limits.{Place, subject, predicate, object, Role, head, next, text_of, type_of, behind_object, filter, end, order, slice, goes_on, done, open_now, behind_bracket, or_else, role_behind, State, behind_brace, role_after, groups_after, keys_after, depth_of}

-- ---- by the grammar's tokens

abbrev pub goes_by : Lexeme → Bool
goes_by (l.Tag t) = true
goes_by (l.Sign s.TwoCarets) = true
goes_by _ = false

abbrev pub between_by : Lexeme → Option Role
between_by (l.Sign s.Dot) = Some (next subject)
between_by (l.Sign s.Semicolon) = Some (next predicate)
between_by (l.Sign s.Comma) = Some (next object)
between_by (l.Sign s.Optional) = Some (next subject)
between_by (l.Sign s.Union) = Some (next subject)
between_by (l.Sign s.Filter) = Some (filter [] false)
between_by _ = None

abbrev pub part_by : Place → Lexeme → Bool → Role
part_by p (l.Text t) goes = if goes then text_of p else done p
part_by p _ goes = done p

abbrev pub suffix_by : Place → Lexeme → Role
suffix_by p (l.Tag t) = done p
suffix_by p _ = type_of p

abbrev pub filter_by : List Bool → Bool → Lexeme → Role
filter_by bs waits (l.Sign s.OpenBracket) = filter (waits ∷ bs) false
filter_by bs waits (l.Sign s.CloseBracket) = behind_bracket bs
filter_by bs waits (l.Sign s.Bang) = filter bs true
filter_by bs waits (l.Sign s.Bound) = filter bs (waits && true)
filter_by bs waits (l.Sign s.SameTerm) = filter bs (waits && true)
filter_by bs waits (l.Function f) = filter bs (waits && true)
filter_by bs waits (l.Test t) = filter bs (waits && true)
filter_by bs waits _ = filter bs (waits && false)

abbrev pub end_by : Lexeme → Role → Role
end_by (l.Sign s.Order) r = order
end_by (l.Sign s.Limit) r = slice
end_by (l.Sign s.Offset) r = slice
end_by _ r = r

abbrev pub role_by : Role → Lexeme → Bool → Role
role_by head x goes = head
role_by (next p) x goes = or_else (between_by x) (part_by p x goes)
role_by (text_of p) x goes = suffix_by p x
role_by (type_of p) x goes = done p
role_by behind_object x goes = or_else (between_by x) behind_object
role_by (filter bs waits) x goes = filter_by bs waits x
role_by end x goes = end_by x end
role_by order x goes = end_by x order
role_by slice x goes = end_by x slice

abbrev pub after_by : Role → ℕ → Lexeme → Bool → Role
after_by r n (l.Sign s.OpenBrace) goes = next subject
after_by r n (l.Sign s.CloseBrace) goes = behind_brace (n - 1)
after_by r n x goes = role_by r x goes

abbrev pub groups_by : ℕ → Lexeme → ℕ
groups_by n (l.Sign s.OpenBrace) = n + 1
groups_by n (l.Sign s.CloseBrace) = n - 1
groups_by n _ = n

abbrev pub keys_by : Role → ℕ → Lexeme → ℕ
keys_by order n (l.Variable i) = n + 1
keys_by r n x = n

abbrev pub depth_by : Role → Lexeme → ℕ
depth_by (filter bs waits) (l.Sign s.OpenBracket) = open_now (waits ∷ bs) false
depth_by (filter bs waits) (l.Sign s.Bang) = open_now bs true
depth_by r x = 0

-- what changes with a token
pub record Effect : Type 0 where
  pub role : Role
  pub groups : ℕ
  pub keys : ℕ
  pub depth : ℕ
  pub goes : Bool

abbrev pub effect_by : Role → ℕ → ℕ → Lexeme → Bool → Effect
effect_by r n i x goes = record { role = after_by r n x goes; groups = groups_by n x; keys = keys_by r i x; depth = depth_by r x; goes = goes_by x }

-- ---- the same by the text's tokens

abbrev pub after_kind : Role → ℕ → TokenKind → Option TokenKind → Role
after_kind r n (k.Mark m.OpenBrace) ahead = next subject
after_kind r n (k.Mark m.CloseBrace) ahead = behind_brace (n - 1)
after_kind r n t ahead = role_behind r t ahead

pub after_is : (st : State) (t : TokenKind) (ahead : Option TokenKind) → role_after st t ahead ≡ after_kind st.role st.groups t ahead
after_is st (k.Mark m.OpenBrace) ahead = refl
after_is st (k.Mark m.CloseBrace) ahead = refl
after_is st t ahead = refl

abbrev pub effect : Role → ℕ → ℕ → TokenKind → Option TokenKind → Effect
effect r n i t ahead = record { role = after_kind r n t ahead; groups = groups_after n t; keys = keys_after r i t; depth = depth_of r t; goes = goes_on (Some t) }

effect_iri : (r : Role) (n i : ℕ) (text : List ℕ) (a : Option TokenKind) → effect r n i (k.Iri text) a ≡ effect_by r n i (l.Iri text) (goes_on a)
effect_iri head n i text a = refl
effect_iri r n i text a = refl

effect_prefix : (r : Role) (n i : ℕ) (p base : List ℕ) (a : Option TokenKind) → effect r n i (k.Named p []) a ≡ effect_by r n i (l.PrefixName base) (goes_on a)
effect_prefix head n i p base a = refl
effect_prefix r n i p base a = refl

effect_local : (r : Role) (n i : ℕ) (p name local : List ℕ) (a : Option TokenKind) → effect r n i (k.Named p local) a ≡ effect_by r n i (l.Named name) (goes_on a)
effect_local head n i p name local a = refl
effect_local r n i p name local a = refl

effect_named : (r : Role) (n i : ℕ) (p base local : List ℕ) (a : Option TokenKind) → effect r n i (k.Named p local) a ≡ effect_by r n i (named_lexeme base local) (goes_on a)
effect_named r n i p base [] a = effect_prefix r n i p base a
effect_named r n i p base (c ∷ cs) a = effect_local r n i p (base ++ c ∷ cs) (c ∷ cs) a

effect_variable : (r : Role) (n i v : ℕ) (text : List ℕ) (a : Option TokenKind) → effect r n i (k.Variable text) a ≡ effect_by r n i (l.Variable v) (goes_on a)
effect_variable head n i v text a = refl
effect_variable r n i v text a = refl

effect_text : (r : Role) (n i : ℕ) (text : List ℕ) (a : Option TokenKind) → effect r n i (k.Text text) a ≡ effect_by r n i (l.Text text) (goes_on a)
effect_text head n i text a = refl
effect_text r n i text a = refl

effect_long : (r : Role) (n i : ℕ) (text : List ℕ) (a : Option TokenKind) → effect r n i (k.LongText text) a ≡ effect_by r n i (l.Sign s.Other) (goes_on a)
effect_long head n i text a = refl
effect_long r n i text a = refl

effect_tag : (r : Role) (n i : ℕ) (text : List ℕ) (a : Option TokenKind) → effect r n i (k.Tag text) a ≡ effect_by r n i (l.Tag text) (goes_on a)
effect_tag head n i text a = refl
effect_tag r n i text a = refl

effect_blank : (r : Role) (n i : ℕ) (text : List ℕ) (a : Option TokenKind) → effect r n i (k.Blank text) a ≡ effect_by r n i (l.Sign s.Other) (goes_on a)
effect_blank head n i text a = refl
effect_blank r n i text a = refl

effect_count : (r : Role) (n i v : ℕ) (text : List ℕ) (x : RdfTerm) (a : Option TokenKind) → effect r n i (k.Integer text) a ≡ effect_by r n i (l.Count x v) (goes_on a)
effect_count head n i v text x a = refl
effect_count r n i v text x a = refl

effect_signed : (r : Role) (n i : ℕ) (text : List ℕ) (x : RdfTerm) (a : Option TokenKind) → effect r n i (k.Integer text) a ≡ effect_by r n i (l.Literal x) (goes_on a)
effect_signed head n i text x a = refl
effect_signed r n i text x a = refl

effect_integer : (r : Role) (n i : ℕ) (text : List ℕ) (a : Option TokenKind) → effect r n i (k.Integer text) a ≡ effect_by r n i (integer_lexeme text) (goes_on a)
effect_integer r n i [] a = effect_signed r n i [] (integer []) a
effect_integer r n i (c ∷ cs) a = by (is_digit c)
  where
    by : (b : Bool) → effect r n i (k.Integer (c ∷ cs)) a ≡ effect_by r n i (if b then l.Count (integer (c ∷ cs)) (number_of (c ∷ cs)) else l.Literal (integer (c ∷ cs))) (goes_on a)
    by true = effect_count r n i (number_of (c ∷ cs)) (c ∷ cs) (integer (c ∷ cs)) a
    by false = effect_signed r n i (c ∷ cs) (integer (c ∷ cs)) a

effect_decimal : (r : Role) (n i : ℕ) (text : List ℕ) (x : RdfTerm) (a : Option TokenKind) → effect r n i (k.Decimal text) a ≡ effect_by r n i (l.Literal x) (goes_on a)
effect_decimal head n i text x a = refl
effect_decimal r n i text x a = refl

effect_double : (r : Role) (n i : ℕ) (text : List ℕ) (a : Option TokenKind) → effect r n i (k.Double text) a ≡ effect_by r n i (l.Sign s.Other) (goes_on a)
effect_double head n i text a = refl
effect_double r n i text a = refl

effect_word : (r : Role) (n i : ℕ) (x : Word) (a : Option TokenKind) → effect r n i (k.Word x) a ≡ effect_by r n i (word_lexeme x) (goes_on a)
effect_word head n i w.Prefix a = refl
effect_word (next p) n i w.Prefix a = refl
effect_word (text_of p) n i w.Prefix a = refl
effect_word (type_of p) n i w.Prefix a = refl
effect_word behind_object n i w.Prefix a = refl
effect_word (filter bs waits) n i w.Prefix a = refl
effect_word end n i w.Prefix a = refl
effect_word order n i w.Prefix a = refl
effect_word slice n i w.Prefix a = refl
effect_word r n i x a = refl

effect_mark : (r : Role) (n i : ℕ) (x : Mark) (a : Option TokenKind) → effect r n i (k.Mark x) a ≡ effect_by r n i (mark_lexeme x) (goes_on a)
effect_mark head n i m.Star a = refl
effect_mark (next p) n i m.Star a = refl
effect_mark (text_of p) n i m.Star a = refl
effect_mark (type_of p) n i m.Star a = refl
effect_mark behind_object n i m.Star a = refl
effect_mark (filter bs waits) n i m.Star a = refl
effect_mark end n i m.Star a = refl
effect_mark order n i m.Star a = refl
effect_mark slice n i m.Star a = refl
effect_mark r n i x a = refl

pub effect_is : (r : Role) (n i : ℕ) (ds : List Declared) (ns : List (List ℕ)) (t : TokenKind) (a : Option TokenKind) → effect r n i t a ≡ effect_by r n i (lexeme ds ns t) (goes_on a)
effect_is r n i ds ns (k.Iri text) a = effect_iri r n i text a
effect_is r n i ds ns (k.Named p local) a = effect_named r n i p (base_of ds p) local a
effect_is r n i ds ns (k.Variable text) a = effect_variable r n i _ text a
effect_is r n i ds ns (k.Text text) a = effect_text r n i text a
effect_is r n i ds ns (k.LongText text) a = effect_long r n i text a
effect_is r n i ds ns (k.Tag text) a = effect_tag r n i text a
effect_is r n i ds ns (k.Blank text) a = effect_blank r n i text a
effect_is r n i ds ns (k.Integer text) a = effect_integer r n i text a
effect_is r n i ds ns (k.Decimal text) a = effect_decimal r n i text _ a
effect_is r n i ds ns (k.Double text) a = effect_double r n i text a
effect_is r n i ds ns (k.Word x) a = effect_word r n i x a
effect_is r n i ds ns (k.Mark x) a = effect_mark r n i x a
