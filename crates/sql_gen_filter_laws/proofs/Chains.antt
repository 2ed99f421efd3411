-- A chain of STR, LANG and DATATYPE gives what the functions give one after the other.
use Rattle.std.proofs.Common.{◌≡◌, ℕ, Bool, true, false, not, if◌then◌else◌, ◌==◌, List, [], refl, sym, ap, ap₂, ◌∙◌, subst, pos, Some, None}
use Rattle.std.specs.Ordering.{is_lt, int_cmp}
use Rattle.rdf_meaning.specs.declared.kind.TermKind.{TermKind}
use Rattle.rdf_meaning.specs.declared.kind.TermKind.TheVariants as term_kind
use Rattle.rdf_meaning.specs.declared.text.KnownDatatype.TheVariants.{String}
use Rattle.rdf_meaning.specs.Known.{known_bytes}
use Rattle.rdf_meaning.specs.Terms.{RdfTerm, iri}
use Rattle.rdf_value_meaning.specs.Values.{class_of, class_of_kind}
use Rattle.rdf_value_meaning.specs.Values.{value_of as number_of}
use Rattle.table_meaning.specs.declared.cell.Cell.{Cell}
use Rattle.table_meaning.specs.declared.cell.Cell.TheVariants.{Null, Int, Text}
use Rattle.table_meaning.specs.declared.kind.Kind.{Kind}
use Rattle.table_meaning.specs.declared.kind.Kind.TheVariants as kind
use Rattle.sql_meaning.specs.declared.expression.SqlExpr.{SqlExpr}
use Rattle.sql_meaning.specs.declared.expression.SqlExpr.TheVariants as sql
use Rattle.query_meaning.specs.declared.expression.ValueExpr.{ValueExpr, map-ValueExpr}
use Rattle.query_meaning.specs.declared.expression.ValueExpr.TheOpen as value
use Rattle.query_meaning.specs.declared.expression.ValueExpr.TheOpen.{ValueExpr-F}
use Rattle.query_meaning.specs.declared.expression.ValueExpr.TheFolds.{fold-roll-ValueExpr, ind-ValueExpr}
use Rattle.query_meaning.specs.declared.expression.ValueExpr.TheViews as value_views
use Rattle.query_eval_meaning.specs.Mapping.{Mapping}
use Rattle.query_eval_meaning.specs.Expressions.{Value, value_over, value_step, on_value, string_of, str_of, str_by_kind, lang_of, lang_by_kind, datatype_of, datatype_by_kind, lang_string, literal_kind}
use Rattle.sql_rows_meaning.specs.Values.{Sight, value_of, is_true}
use Rattle.sql_rows_meaning.specs.ValueLaws.{value_of-Int, value_of-Text, value_of-Null}
use Rattle.sql_gen_step_laws.specs.StepSelects.{has}
use Rattle.sql_gen_term_laws.specs.TermTable.{value_cell}
use Rattle.sql_gen_filter_meaning.specs.declared.given.Accepted.{Accepted}
use Rattle.sql_gen_filter_meaning.specs.declared.given.Accepted.TheVariants.{NotBlank, Literals}
use Rattle.sql_gen_filter_meaning.specs.declared.given.SourceText.{SourceText}
use Rattle.sql_gen_filter_meaning.specs.declared.given.SourceText.TheVariants.{Own, Tag, Datatype, Empty, StringType}
use Rattle.sql_gen_filter_meaning.specs.declared.given.Given.{Given}
use Rattle.sql_gen_filter_meaning.specs.declared.given.Given.TheVariants.{Itself, PlainString, Iri, Never}
use Rattle.sql_gen_filter_meaning.specs.Columns.{ValueSql, when, class_is}
use Rattle.sql_gen_filter_meaning.specs.Chains.{after_str, after_lang, after_datatype, accepted_sql, if_tagged, source_sql, made_value, given_value, Chain, chain_step, chain_of, value_sql}
use Rattle.sql_gen_filter_meaning.specs.Leaves.{value_names, value_passes_step, any_term}
use Rattle.sql_gen_filter_laws.specs.Shown.{Shown, Gives}
use Rattle.sql_gen_filter_laws.proofs.Cases.{case_last, case_first, class_is-at, less_at}
use Rattle.sql_gen_filter_laws.proofs.Terms.{typed_passes, from_not, literal_by_class}
use Rattle.sql_gen_filter_laws.proofs.Starts.{variable_gives, constant_gives}

-- ---- what a chain makes of a term

abbrev is_tagged : TermKind → Bool
is_tagged term_kind.Iri = false
is_tagged term_kind.Blank = false
is_tagged term_kind.Tagged = true
is_tagged term_kind.Typed = false

abbrev has_text : TermKind → Bool
has_text term_kind.Iri = true
has_text term_kind.Blank = false
has_text term_kind.Tagged = true
has_text term_kind.Typed = true

abbrev accepts : Accepted → TermKind → Bool
accepts NotBlank k = has_text k
accepts Literals k = literal_kind k

abbrev source_text : SourceText → RdfTerm → List ℕ
source_text Own t = t.text
source_text Tag t = if is_tagged t.kind then t.aux else []
source_text Datatype t = if is_tagged t.kind then lang_string else t.aux
source_text Empty t = []
source_text StringType t = known_bytes String

abbrev given_term : Given → RdfTerm → Value
given_term Itself s = Some s
given_term (PlainString which text) s = if accepts which s.kind then Some (string_of (source_text text s)) else None
given_term (Iri which text) s = if accepts which s.kind then Some (iri (source_text text s)) else None
given_term Never s = None

through : (f : RdfTerm → Value) (b : Bool) (t : RdfTerm) (y : Value) → f t ≡ y → on_value f (if b then Some t else None) ≡ (if b then y else None)
through f true t y e = e
through f false t y e = refl

abbrev no_term : Value
no_term = None

nothing_left : (b : Bool) → (if b then no_term else no_term) ≡ no_term
nothing_left true = refl
nothing_left false = refl

first_str : (k : TermKind) (text : List ℕ) → str_by_kind k text ≡ (if has_text k then Some (string_of text) else None)
first_str term_kind.Iri text = refl
first_str term_kind.Blank text = refl
first_str term_kind.Tagged text = refl
first_str term_kind.Typed text = refl

first_lang : (k : TermKind) (aux : List ℕ) → lang_by_kind k aux ≡ (if literal_kind k then Some (string_of (if is_tagged k then aux else [])) else None)
first_lang term_kind.Iri aux = refl
first_lang term_kind.Blank aux = refl
first_lang term_kind.Tagged aux = refl
first_lang term_kind.Typed aux = refl

first_datatype : (k : TermKind) (aux : List ℕ) → datatype_by_kind k aux ≡ (if literal_kind k then Some (iri (if is_tagged k then lang_string else aux)) else None)
first_datatype term_kind.Iri aux = refl
first_datatype term_kind.Blank aux = refl
first_datatype term_kind.Tagged aux = refl
first_datatype term_kind.Typed aux = refl

str_next : (g : Given) (s : RdfTerm) → on_value str_of (given_term g s) ≡ given_term (after_str g) s
str_next Itself s = first_str s.kind s.text
str_next (PlainString which text) s = through str_of (accepts which s.kind) _ _ refl
str_next (Iri which text) s = through str_of (accepts which s.kind) _ _ refl
str_next Never s = refl

lang_next : (g : Given) (s : RdfTerm) → on_value lang_of (given_term g s) ≡ given_term (after_lang g) s
lang_next Itself s = first_lang s.kind s.aux
lang_next (PlainString which text) s = through lang_of (accepts which s.kind) _ _ refl
lang_next (Iri which text) s = through lang_of (accepts which s.kind) _ _ refl ∙ nothing_left (accepts which s.kind)
lang_next Never s = refl

datatype_next : (g : Given) (s : RdfTerm) → on_value datatype_of (given_term g s) ≡ given_term (after_datatype g) s
datatype_next Itself s = first_datatype s.kind s.aux
datatype_next (PlainString which text) s = through datatype_of (accepts which s.kind) _ _ refl
datatype_next (Iri which text) s = through datatype_of (accepts which s.kind) _ _ refl ∙ nothing_left (accepts which s.kind)
datatype_next Never s = refl

one_more : (f : RdfTerm → Value) (g h : Given) → ((s : RdfTerm) → on_value f (given_term g s) ≡ given_term h s) → (x : Value) → on_value f (on_value (given_term g) x) ≡ on_value (given_term h) x
one_more f g h e None = refl
one_more f g h e (Some s) = e s

-- ---- tests of kinds

text_by_class : (k : TermKind) (text aux : List ℕ) → is_lt (int_cmp (pos 1) (pos (class_of_kind k text aux))) ≡ has_text k
text_by_class term_kind.Iri text aux = refl
text_by_class term_kind.Blank text aux = refl
text_by_class term_kind.Tagged text aux = refl
text_by_class term_kind.Typed text aux = typed_passes (λ n. is_lt (int_cmp (pos 1) (pos n))) refl refl refl refl refl refl text aux

tagged_by_class : (k : TermKind) (text aux : List ℕ) → (class_of_kind k text aux == 6) ≡ is_tagged k
tagged_by_class term_kind.Iri text aux = refl
tagged_by_class term_kind.Blank text aux = refl
tagged_by_class term_kind.Tagged text aux = refl
tagged_by_class term_kind.Typed text aux = from_not _ (typed_passes (λ n. not (n == 6)) refl refl refl refl refl refl text aux)

module _ (a : ValueSql) (env : Sight) where
  accepted_at : (which : Accepted) (s : RdfTerm) → Shown a (Some s) env → is_true (value_of (accepted_sql which a) env) ≡ accepts which s.kind
  accepted_at NotBlank s p = ap is_true (less_at (sql.Int (pos 1)) a.class env _ _ (value_of-Int (pos 1) env) p.class) ∙ text_by_class s.kind s.text s.aux
  accepted_at Literals s p = ap is_true (less_at (sql.Int (pos 2)) a.class env _ _ (value_of-Int (pos 2) env) p.class) ∙ literal_by_class s

  accepted_error : (which : Accepted) → Shown a None env → is_true (value_of (accepted_sql which a) env) ≡ false
  accepted_error NotBlank p = ap is_true (less_at (sql.Int (pos 1)) a.class env _ _ (value_of-Int (pos 1) env) p.class)
  accepted_error Literals p = ap is_true (less_at (sql.Int (pos 2)) a.class env _ _ (value_of-Int (pos 2) env) p.class)

  one_text : (b : Bool) (x y : List ℕ) → (if b then Text x else Text y) ≡ Text (if b then x else y)
  one_text true x y = refl
  one_text false x y = refl

  if_tagged_at : (e f : SqlExpr) (s : RdfTerm) (x y : List ℕ) → Shown a (Some s) env → value_of e env ≡ Text x → value_of f env ≡ Text y → value_of (if_tagged a e f) env ≡ Text (if is_tagged s.kind then x else y)
  if_tagged_at e f s x y p q r =
      case_first (class_is a.class 6) e [] f env (is_tagged s.kind) (ap is_true (class_is-at a.class env (class_of s) p.class 6) ∙ tagged_by_class s.kind s.text s.aux)
      ∙ ap₂ (λ (v w : Cell). if is_tagged s.kind then v else w) q (case_last f env ∙ r) ∙ one_text (is_tagged s.kind) x y

  source_at : (text : SourceText) (s : RdfTerm) → Shown a (Some s) env → value_of (source_sql text a) env ≡ Text (source_text text s)
  source_at Own s p = p.text
  source_at Tag s p = if_tagged_at a.aux (sql.Text []) s s.aux [] p p.aux (value_of-Text [] env)
  source_at Datatype s p = if_tagged_at (sql.Text lang_string) a.aux s lang_string s.aux p (value_of-Text lang_string env) p.aux
  source_at Empty s p = value_of-Text [] env
  source_at StringType s p = value_of-Text (known_bytes String) env

-- ---- the columns

when_at : (t e : SqlExpr) (k : Kind) (env : Sight) (b : Bool) (x : Cell) → is_true (value_of t env) ≡ b → value_of e env ≡ x → value_of (when t e k) env ≡ (if b then x else Null)
when_at t e k env b x p q =
    case_first t e [] (sql.Null k) env b p ∙ ap₂ (λ (v r : Cell). if b then v else r) q (case_last (sql.Null k) env ∙ value_of-Null k env)

made_error : (test text : SqlExpr) (class : ℕ) (aux : List ℕ) (env : Sight) → is_true (value_of test env) ≡ false → Shown (made_value test class text aux) None env
made_error test text class aux env p = record {
  class = when_at test (sql.Int (pos class)) kind.Int env false _ p refl;
  number = value_of-Null kind.Int env;
  text = when_at test text kind.Text env false _ p refl;
  aux = when_at test (sql.Text aux) kind.Text env false _ p refl;
}

made_at : (test text : SqlExpr) (class : ℕ) (aux : List ℕ) (env : Sight) (b : Bool) (t : RdfTerm) → is_true (value_of test env) ≡ b → value_of text env ≡ Text t.text →
    class_of t ≡ class → number_of t ≡ None → t.aux ≡ aux → Shown (made_value test class text aux) (if b then Some t else None) env
made_at test text class aux env false t p q c n a = made_error test text class aux env p
made_at test text class aux env true t p q c n a = record {
  class = when_at test (sql.Int (pos class)) kind.Int env true _ p (value_of-Int (pos class) env) ∙ ap (λ (k : ℕ). Int (pos k)) (sym c);
  number = value_of-Null kind.Int env ∙ ap value_cell (sym n);
  text = when_at test text kind.Text env true _ p q;
  aux = when_at test (sql.Text aux) kind.Text env true _ p (value_of-Text aux env) ∙ ap (λ (k : List ℕ). Text k) (sym a);
}

never_shown : (env : Sight) (a : ValueSql) → Shown (given_value Never a) None env
never_shown env a = record { class = value_of-Null kind.Int env; number = value_of-Null kind.Int env; text = value_of-Null kind.Text env; aux = value_of-Null kind.Text env }

pub given_shown : (g : Given) (a : ValueSql) (x : Value) (env : Sight) → Shown a x env → Shown (given_value g a) (on_value (given_term g) x) env
given_shown Itself a None env p = p
given_shown Itself a (Some s) env p = p
given_shown (PlainString which text) a None env p = made_error _ _ 5 (known_bytes String) env (accepted_error a env which p)
given_shown (PlainString which text) a (Some s) env p =
    made_at (accepted_sql which a) (source_sql text a) 5 (known_bytes String) env (accepts which s.kind) (string_of (source_text text s)) (accepted_at a env which s p) (source_at a env text s p) refl refl refl
given_shown (Iri which text) a None env p = made_error _ _ 2 [] env (accepted_error a env which p)
given_shown (Iri which text) a (Some s) env p =
    made_at (accepted_sql which a) (source_sql text a) 2 [] env (accepts which s.kind) (iri (source_text text s)) (accepted_at a env which s p) (source_at a env text s p) refl refl refl
given_shown Never a None env p = never_shown env a
given_shown Never a (Some s) env p = never_shown env a

-- ---- whole chains

module _ (us : List ℕ) where
  -- the value at the beginning has its columns, and the functions make of it what they make
  abbrev Begins : Chain → (Mapping → Value) → Type 0
  Begins c f = (start : Mapping → Value) × Gives us c.start start × ((m : Mapping) → f m ≡ on_value (given_term c.given) (start m))

  abbrev ValueSo : ValueExpr → Type 0
  ValueSo e = value_names us e ≡ true → Begins (chain_of e) (value_over e)

  -- what the three folds give at one level
  value_level : (d : ValueExpr-F ValueExpr) →
      (value_passes_step (has us) any_term (map-ValueExpr ValueExpr Bool (value_names us) d) ≡ true → Begins (chain_step (map-ValueExpr ValueExpr Chain chain_of d)) (value_step (map-ValueExpr ValueExpr (Mapping → Value) value_over d)))
      → ValueSo (value_views.roll-ValueExpr d)
  value_level d h e =
      let names = fold-roll-ValueExpr Bool (value_passes_step (has us) any_term) d in
      let meant = fold-roll-ValueExpr (Mapping → Value) value_step d in
      subst (λ (c : Chain). Begins c (value_over (value_views.roll-ValueExpr d))) (sym (fold-roll-ValueExpr Chain chain_step d))
      (subst (λ (f : Mapping → Value). Begins (chain_step (map-ValueExpr ValueExpr Chain chain_of d)) f) (sym meant) (h (sym names ∙ e)))

  itself : (x : Value) → x ≡ on_value (given_term Itself) x
  itself None = refl
  itself (Some s) = refl

  begins : (e : ValueExpr) → ValueSo e
  begins = ind-ValueExpr ValueSo (λ x y is. subst (λ (z : ValueExpr-F ValueExpr). ValueSo (value_views.roll-ValueExpr z)) is (node y))
    where
      node : (y : ValueExpr-F ((t : ValueExpr) × ValueSo t)) → ValueSo (value_views.roll-ValueExpr (map-ValueExpr ((t : ValueExpr) × ValueSo t) ValueExpr (λ e. e.0) y))
      node (value.Var v) = value_level (value.Var v) (λ h. ((λ m. m v), variable_gives us v h, λ m. itself (m v)))
      node (value.Const t) = value_level (value.Const t) (λ h. ((λ m. Some t), constant_gives us t, λ m. refl))
      node (value.Str e) = value_level (value.Str e.0) (λ h. let b = e.1 h in (b.0, b.1, λ m. ap (on_value str_of) (b.2 m) ∙ one_more str_of (chain_of e.0).given _ (str_next (chain_of e.0).given) (b.0 m)))
      node (value.Lang e) = value_level (value.Lang e.0) (λ h. let b = e.1 h in (b.0, b.1, λ m. ap (on_value lang_of) (b.2 m) ∙ one_more lang_of (chain_of e.0).given _ (lang_next (chain_of e.0).given) (b.0 m)))
      node (value.Datatype e) = value_level (value.Datatype e.0) (λ h. let b = e.1 h in (b.0, b.1, λ m. ap (on_value datatype_of) (b.2 m) ∙ one_more datatype_of (chain_of e.0).given _ (datatype_next (chain_of e.0).given) (b.0 m)))

  pub value_gives : (e : ValueExpr) → value_names us e ≡ true → Gives us (value_sql e) (value_over e)
  value_gives e h m env s =
      let b = begins e h in
      subst (λ (x : Value). Shown (value_sql e) x env) (sym (b.2 m)) (given_shown (chain_of e).given (chain_of e).start (b.0 m) env (b.1 m env s))
