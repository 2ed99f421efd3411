-- The steps of the readers of terms.
use Rattle.std.proofs.Common.{List, [], ◌∷◌, length, ℕ, refl}
use Rattle.grammar_meaning.specs.Grammar.{Form, call, ◌⨾◌, ◌∣◌}
use Rattle.grammar_meaning.specs.Exact.{got_call, got_then, broke_call, broke_none, broke_rest}
use Rattle.grammar_meaning.specs.Parts.{got_wide, broke_wide, got_left_only, got_right_only, broke_left_only, broke_right_only, got_some, broke_some, got_skip}
use Rattle.rdf_meaning.specs.Terms.{RdfTerm, iri as iri_term, typed, tagged}
use Rattle.query_meaning.specs.declared.pattern.Slot.TheVariants as slot
use Rattle.sparql_grammar_meaning.specs.declared.lexeme.Lexeme.{Lexeme}
use Rattle.sparql_grammar_meaning.specs.declared.lexeme.Lexeme.TheVariants as l
use Rattle.sparql_grammar_meaning.specs.declared.lexeme.Sign.{Sign}
use Rattle.sparql_grammar_meaning.specs.declared.lexeme.Sign.TheVariants as s
use Rattle.sparql_grammar_meaning.specs.Grammar.{Kind, sign, variable, iri, named, prefix_name, string, tag, count, literal, among, mark, word, Symbol}
use Rattle.sparql_grammar_meaning.specs.Table.{look, begins, after}
use Rattle.sparql_cursor.specs.Outcomes.{Gets, gets, got, breaks, broke, Stops, stops_memory, stops_at, handed, IsNot, NoneOf, SomeOf, not_first, not_kind, not_begun, apart, token}
use Rattle.sparql_cursor.specs.declared.refusal.Refusal.{Refusal}
use Rattle.sparql_cursor.specs.declared.refusal.Refusal.TheVariants.{Syntax}
use Rattle.sparql_grammar_meaning.specs.Grammar.{Iri_, Literal_, Term_, Verb_, an_iri, a_literal, a_slot, plain, rdf_type}

pub iri_written : (i : List ℕ) (us : List Lexeme) → Gets Iri_ (l.Iri i ∷ us) (an_iri i) us
iri_written i us = gets (got_call Iri_ (got_left_only look refl refl (token [] iri (l.Iri i) us refl)))

pub iri_named : (i : List ℕ) (us : List Lexeme) → Gets Iri_ (l.Named i ∷ us) (an_iri i) us
iri_named i us = gets (got_call Iri_ (got_right_only look refl refl (got_left_only look refl refl (token [] named (l.Named i) us refl))))

pub iri_prefix : (i : List ℕ) (us : List Lexeme) → Gets Iri_ (l.PrefixName i ∷ us) (an_iri i) us
iri_prefix i us = gets (got_call Iri_ (got_right_only look refl refl (got_right_only look refl refl (token [] prefix_name (l.PrefixName i) us refl))))

pub iri_none : (ts : List Lexeme) → NoneOf (begins Iri_) ts → Stops Iri_ ts (Syntax (length ts))
iri_none ts h = stops_at ts (breaks (broke_none look (among (after Iri_)) refl (not_begun Iri_ ts h)))

pub ruleset iri_paths = (stops_memory, iri_written, iri_named, iri_prefix, iri_none)

abbrev pub tail : Form Symbol Kind
tail = mark tag ∣ (word s.TwoCarets ⨾ call Iri_)

pub text_plain : (t : List ℕ) (us : List Lexeme) → NoneOf (tag ∷ sign s.TwoCarets ∷ []) us → Gets Literal_ (l.Text t ∷ us) (a_literal (plain t)) us
text_plain t us h = gets (got_call Literal_ (got_left_only look refl refl (got_then look refl (token [] string (l.Text t) us refl)
    (got_skip look (among (after Literal_)) refl (not_first (tag ∷ sign s.TwoCarets ∷ []) tail (λ k. refl) us h)))))

pub text_tagged : (t g : List ℕ) (us : List Lexeme) → Gets Literal_ (l.Text t ∷ l.Tag g ∷ us) (a_literal (tagged t g)) us
text_tagged t g us = gets (got_call Literal_ (got_left_only look refl refl (got_then look refl (token [] string (l.Text t) (l.Tag g ∷ us) refl)
    (got_some refl (got_left_only look refl refl (token (after Literal_) tag (l.Tag g) us refl))))))

pub text_typed : (t i : List ℕ) (us vs : List Lexeme) → Gets Iri_ us (an_iri i) vs → Gets Literal_ (l.Text t ∷ l.Sign s.TwoCarets ∷ us) (a_literal (typed t i)) vs
text_typed t i us vs a = gets (got_call Literal_ (got_left_only look refl refl (got_then look refl (token [] string (l.Text t) (l.Sign s.TwoCarets ∷ us) refl)
    (got_some refl (got_right_only look refl refl (got_then look refl (token [] (sign s.TwoCarets) (l.Sign s.TwoCarets) us refl) (got_wide look refl (got a))))))))

pub text_stops : (t : List ℕ) (us : List Lexeme) (r : Refusal) → Stops Iri_ us r → Stops Literal_ (l.Text t ∷ l.Sign s.TwoCarets ∷ us) r
text_stops t us r a = handed (λ ws b. breaks (broke_call Literal_ (broke_left_only look refl refl (broke_rest look refl (token [] string (l.Text t) (l.Sign s.TwoCarets ∷ us) refl)
    (broke_some refl (broke_right_only look refl refl (broke_rest look refl (token [] (sign s.TwoCarets) (l.Sign s.TwoCarets) us refl) (broke_wide look refl (broke b))))))))) a

pub ruleset text_paths = (stops_memory, text_plain, text_tagged, text_typed, text_stops)

pub literal_count : (x : RdfTerm) (n : ℕ) (us : List Lexeme) → Gets Literal_ (l.Count x n ∷ us) (a_literal x) us
literal_count x n us = gets (got_call Literal_ (got_right_only look refl refl (got_left_only look refl refl (token (after Literal_) count (l.Count x n) us refl))))

pub literal_other : (x : RdfTerm) (us : List Lexeme) → Gets Literal_ (l.Literal x ∷ us) (a_literal x) us
literal_other x us = gets (got_call Literal_ (got_right_only look refl refl (got_right_only look refl refl (token (after Literal_) literal (l.Literal x) us refl))))

pub literal_none : (ts : List Lexeme) → NoneOf (begins Literal_) ts → Stops Literal_ ts (Syntax (length ts))
literal_none ts h = stops_at ts (breaks (broke_none look (among (after Literal_)) refl (not_begun Literal_ ts h)))

pub ruleset literal_paths = (stops_memory, literal_count, literal_other, literal_none)

pub term_variable : (n : ℕ) (us : List Lexeme) → Gets Term_ (l.Variable n ∷ us) (a_slot (slot.Var n)) us
term_variable n us = gets (got_call Term_ (got_left_only look refl refl (token (after Term_) variable (l.Variable n) us refl)))

pub term_iri : (ts us : List Lexeme) (i : List ℕ) → SomeOf (begins Iri_) ts → Gets Iri_ ts (an_iri i) us → Gets Term_ ts (a_slot (slot.Const (iri_term i))) us
term_iri ts us i h a = gets (got_call Term_ (got_right_only look refl (apart (begins Iri_) (mark variable) ts refl h) (got_left_only look refl (apart (begins Iri_) (call Literal_) ts refl h) (got_wide look refl (got a)))))

pub term_iri_stops : (ts : List Lexeme) (r : Refusal) → SomeOf (begins Iri_) ts → Stops Iri_ ts r → Stops Term_ ts r
term_iri_stops ts r h a = handed (λ ws b. breaks (broke_call Term_ (broke_right_only look refl (apart (begins Iri_) (mark variable) ts refl h) (broke_left_only look refl (apart (begins Iri_) (call Literal_) ts refl h) (broke_wide look refl (broke b)))))) a

pub term_literal : (ts us : List Lexeme) (x : RdfTerm) → IsNot variable ts → NoneOf (begins Iri_) ts → Gets Literal_ ts (a_literal x) us → Gets Term_ ts (a_slot (slot.Const x)) us
term_literal ts us x h i a = gets (got_call Term_ (got_right_only look refl (not_kind variable ts h) (got_right_only look refl (not_begun Iri_ ts i) (got a))))

pub term_literal_stops : (ts : List Lexeme) (r : Refusal) → IsNot variable ts → NoneOf (begins Iri_) ts → Stops Literal_ ts r → Stops Term_ ts r
term_literal_stops ts r h i a = handed (λ ws b. breaks (broke_call Term_ (broke_right_only look refl (not_kind variable ts h) (broke_right_only look refl (not_begun Iri_ ts i) (broke b))))) a

pub ruleset term_paths = (stops_memory, term_variable, term_iri, term_iri_stops, term_literal, term_literal_stops)

pub verb_variable : (n : ℕ) (us : List Lexeme) → Gets Verb_ (l.Variable n ∷ us) (a_slot (slot.Var n)) us
verb_variable n us = gets (got_call Verb_ (got_left_only look refl refl (token [] variable (l.Variable n) us refl)))

pub verb_iri : (ts us : List Lexeme) (i : List ℕ) → SomeOf (begins Iri_) ts → Gets Iri_ ts (an_iri i) us → Gets Verb_ ts (a_slot (slot.Const (iri_term i))) us
verb_iri ts us i h a = gets (got_call Verb_ (got_right_only look refl (apart (begins Iri_) (mark variable) ts refl h) (got_left_only look refl (apart (begins Iri_) (word s.A) ts refl h) (got a))))

pub verb_iri_stops : (ts : List Lexeme) (r : Refusal) → SomeOf (begins Iri_) ts → Stops Iri_ ts r → Stops Verb_ ts r
verb_iri_stops ts r h a = handed (λ ws b. breaks (broke_call Verb_ (broke_right_only look refl (apart (begins Iri_) (mark variable) ts refl h) (broke_left_only look refl (apart (begins Iri_) (word s.A) ts refl h) (broke b))))) a

pub verb_type : (us : List Lexeme) → Gets Verb_ (l.Sign s.A ∷ us) (a_slot (slot.Const (iri_term rdf_type))) us
verb_type us = gets (got_call Verb_ (got_right_only look refl refl (got_right_only look refl refl (token [] (sign s.A) (l.Sign s.A) us refl))))

pub verb_none : (ts : List Lexeme) → IsNot variable ts → NoneOf (begins Iri_) ts → IsNot (sign s.A) ts → Stops Verb_ ts (Syntax (length ts))
verb_none ts h i j = stops_at ts (breaks (broke_call Verb_ (broke_right_only look refl (not_kind variable ts h) (broke_right_only look refl (not_begun Iri_ ts i) (broke_none look (among []) refl (not_kind (sign s.A) ts j))))))

pub ruleset verb_paths = (stops_memory, verb_variable, verb_iri, verb_iri_stops, verb_type, verb_none)
