-- The steps of the readers of what stands before the group.
use Rattle.std.proofs.Common.{Bool, true, false, IsTrue, List, [], ◌∷◌, ◌++◌, ◌≡◌, length, ℕ, refl, ap, subst, sym, append_assoc}
use Rattle.std.proofs.lemmas.List.{append-nil}
use Rattle.grammar_meaning.specs.Grammar.{call, ◌⨾◌, many, maybe, Nil, Leaf, Made}
use Rattle.grammar_meaning.specs.Outcome.{Got, NotBegun, implies, or}
use Rattle.grammar_meaning.specs.Exact.{got_call, got_then, broke_call, broke_none, broke_first, broke_rest}
use Rattle.grammar_meaning.specs.Parts.{got_left_only, got_right_only, broke_left_only, broke_right_only, got_some, got_skip, Along, along_step, along_end, along_stop}
use Rattle.sparql_grammar_meaning.specs.declared.lexeme.Lexeme.{Lexeme}
use Rattle.sparql_grammar_meaning.specs.declared.lexeme.Lexeme.TheVariants as l
use Rattle.sparql_grammar_meaning.specs.declared.lexeme.Sign.{Sign}
use Rattle.sparql_grammar_meaning.specs.declared.lexeme.Sign.TheVariants as s
use Rattle.sparql_grammar_meaning.specs.Grammar.{sign, variable, iri, prefix_name, among, mark, word, grammar, Read}
use Rattle.sparql_grammar_meaning.specs.Table.{look, after}
use Rattle.sparql_cursor.specs.Outcomes.{Gets, gets, got, breaks, broke, Stops, stops_memory, stops_at, handed, IsNot, not_kind, not_then, token}
use Rattle.sparql_cursor.specs.declared.refusal.Refusal.{Refusal}
use Rattle.sparql_cursor.specs.declared.refusal.Refusal.TheVariants.{Syntax}
use Rattle.std.specs.Prelude.{Option, Some, None}
use Rattle.sparql_grammar_meaning.specs.Grammar.{Query_, Prologue_, Prefix_, Shown_, nothing_made, a_list, variables_behind}

prefix_word : (ts : List Lexeme) → Got grammar (among []) (word s.Prefix) (l.Sign s.Prefix ∷ ts) (Leaf (l.Sign s.Prefix)) ts
prefix_word ts = token [] (sign s.Prefix) (l.Sign s.Prefix) ts refl

name : (n : List ℕ) (ts : List Lexeme) → Got grammar (among []) (mark prefix_name) (l.PrefixName n ∷ ts) (Leaf (l.PrefixName n)) ts
name n ts = token [] prefix_name (l.PrefixName n) ts refl

pub prefix_got : (n i : List ℕ) (us : List Lexeme) → Gets Prefix_ (l.Sign s.Prefix ∷ l.PrefixName n ∷ l.Iri i ∷ us) nothing_made us
prefix_got n i us = gets (got_call Prefix_ (got_then look refl (prefix_word (l.PrefixName n ∷ l.Iri i ∷ us)) (got_then look refl (name n (l.Iri i ∷ us)) (token [] iri (l.Iri i) us refl))))

pub prefix_no_iri : (n : List ℕ) (us : List Lexeme) → IsNot iri us → Stops Prefix_ (l.Sign s.Prefix ∷ l.PrefixName n ∷ us) (Syntax (length us))
prefix_no_iri n us h = stops_at us (breaks (broke_call Prefix_ (broke_rest look refl (prefix_word (l.PrefixName n ∷ us)) (broke_rest look refl (name n us) (broke_none look (among []) refl (not_kind iri us h))))))

pub prefix_no_name : (us : List Lexeme) → IsNot prefix_name us → Stops Prefix_ (l.Sign s.Prefix ∷ us) (Syntax (length us))
prefix_no_name us h = stops_at us (breaks (broke_call Prefix_ (broke_rest look refl (prefix_word us) (broke_none look (among []) refl (not_then prefix_name (mark iri) us h)))))

pub ruleset prefix_paths = (prefix_got, prefix_no_iri, prefix_no_name)

-- a loop over declarations
pub data PrologueAlong (ts us : List Lexeme) : Type 0 where
  prologue_along : Along grammar (among (after Prologue_)) (call Prefix_) (among (after Prologue_)) (call Prologue_) ts (λ m. Made nothing_made) us → PrologueAlong ts us

no_prefix : (us : List Lexeme) → IsNot (sign s.Prefix) us → NotBegun grammar look (call Prefix_ ⨾ many (call Prefix_)) us
no_prefix [] h = tt
no_prefix (t ∷ us) h = subst (λ b. IsTrue (implies (or (or b false) false) false)) (sym h) refl

pub prologue_start : (ts : List Lexeme) → PrologueAlong ts ts
prologue_start ts = prologue_along (record { more = λ m ws r. got_call Prologue_ r; stop = λ ws r. broke_call Prologue_ r })

pub prologue_step : (ts us vs : List Lexeme) → PrologueAlong ts (l.Sign s.Prefix ∷ us) → Gets Prefix_ (l.Sign s.Prefix ∷ us) nothing_made vs → PrologueAlong ts vs
prologue_step ts us vs (prologue_along a) b = prologue_along (along_step look (λ m. Made nothing_made) refl (λ m. refl) refl a (got b))

pub prologue_end : (ts us : List Lexeme) → PrologueAlong ts us → IsNot (sign s.Prefix) us → Gets Prologue_ ts nothing_made us
prologue_end ts us (prologue_along a) h = gets (along_end look refl (no_prefix us h) a)

pub prologue_stops : (ts us : List Lexeme) (r : Refusal) → PrologueAlong ts (l.Sign s.Prefix ∷ us) → Stops Prefix_ (l.Sign s.Prefix ∷ us) r → Stops Prologue_ ts r
prologue_stops ts us r (prologue_along a) b = handed (λ ws c. breaks (along_stop look refl refl a (broke c))) b

pub ruleset prologue_paths = (stops_memory, prologue_start, prologue_step, prologue_end, prologue_stops)

-- a loop over variables
pub data ShownAlong (ts : List Lexeme) (xs : List ℕ) (us : List Lexeme) : Type 0 where
  shown_along : Along grammar (among (after Shown_)) (mark variable) (among (after Shown_)) (call Shown_) ts (λ m. Made (a_list (Some (xs ++ variables_behind m)))) us → ShownAlong ts xs us

no_variable : (us : List Lexeme) → IsNot variable us → NotBegun grammar look (mark variable ⨾ many (mark variable)) us
no_variable us h = not_then variable (many (mark variable)) us h

pub shown_all : (us : List Lexeme) → Gets Shown_ (l.Sign s.Star ∷ us) (a_list None) us
shown_all us = gets (got_call Shown_ (got_right_only look refl refl (token (after Shown_) (sign s.Star) (l.Sign s.Star) us refl)))

pub shown_start : (n : ℕ) (us : List Lexeme) → ShownAlong (l.Variable n ∷ us) (n ∷ []) us
shown_start n us = shown_along (record {
  more = λ m ws r. got_call Shown_ (got_left_only look refl refl (got_then look refl (token [] variable (l.Variable n) us refl) r));
  stop = λ ws r. broke_call Shown_ (broke_left_only look refl refl (broke_rest look refl (token [] variable (l.Variable n) us refl) r));
})

pub shown_step : (n : ℕ) (ts us : List Lexeme) (xs : List ℕ) → ShownAlong ts xs (l.Variable n ∷ us) → ShownAlong ts (xs ++ (n ∷ [])) us
shown_step n ts us xs (shown_along a) =
    shown_along (along_step look (λ m. Made (a_list (Some ((xs ++ (n ∷ [])) ++ variables_behind m)))) refl (λ m. ap (λ z. Made (a_list (Some z))) (sym (append_assoc xs (n ∷ []) (variables_behind m)))) refl a (token [] variable (l.Variable n) us refl))

pub shown_end : (ts us : List Lexeme) (xs : List ℕ) → ShownAlong ts xs us → IsNot variable us → Gets Shown_ ts (a_list (Some xs)) us
shown_end ts us xs (shown_along a) h =
    gets (subst (λ z. Got grammar (among (after Shown_)) (call Shown_) ts (Made (a_list (Some z))) us) (append-nil xs) (along_end look refl (no_variable us h) a))

pub shown_none : (ts : List Lexeme) → IsNot (sign s.Star) ts → IsNot variable ts → Stops Shown_ ts (Syntax (length ts))
shown_none ts h i =
    stops_at ts (breaks (broke_call Shown_ (broke_right_only look refl (no_variable ts i) (broke_none look (among (after Shown_)) refl (not_kind (sign s.Star) ts h)))))

pub ruleset shown_paths = (stops_memory, shown_all, shown_start, shown_step, shown_end, shown_none)

-- a sign that may be left out
pub data MaySign (a : Sign) : List Lexeme → Bool → List Lexeme → Type 0 where
  sign_there : {us : List Lexeme} → MaySign a (l.Sign a ∷ us) true us
  sign_left : {us : List Lexeme} → IsNot (sign a) us → MaySign a us false us

pub there : (a : Sign) (ts us : List Lexeme) → ts ≡ l.Sign a ∷ us → MaySign a ts true us
there a ts us h = subst (λ z. MaySign a z true us) (sym h) sign_there

pub ruleset may_paths = (there, sign_left)

-- all that stands before the group
pub data HeadGot (ts : List Lexeme) (distinct : Bool) (shown : Option (List ℕ)) (us : List Lexeme) : Type 0 where
  head_got : (vs ws xs : List Lexeme) (b : Bool) → Gets Prologue_ ts nothing_made (l.Sign s.Select ∷ vs) → MaySign s.Distinct vs distinct ws → Gets Shown_ ws (a_list shown) xs → MaySign s.Where xs b us → HeadGot ts distinct shown us

select : (ts : List Lexeme) → Got grammar (among []) (word s.Select) (l.Sign s.Select ∷ ts) (Leaf (l.Sign s.Select)) ts
select ts = token [] (sign s.Select) (l.Sign s.Select) ts refl

-- what of the sign was read
abbrev pub sign_node : Sign → Bool → Read
sign_node a true = Leaf (l.Sign a)
sign_node a false = Nil

pub distinct_got : (ts us : List Lexeme) (b : Bool) → MaySign s.Distinct ts b us → Got grammar (among (sign s.Distinct ∷ [])) (maybe (word s.Distinct)) ts (sign_node s.Distinct b) us
distinct_got ts us b sign_there = got_some refl (token (sign s.Distinct ∷ []) (sign s.Distinct) (l.Sign s.Distinct) us refl)
distinct_got ts us b (sign_left h) = got_skip look (among (sign s.Distinct ∷ [])) refl (not_kind (sign s.Distinct) us h)

pub where_got : (ts us : List Lexeme) (b : Bool) → MaySign s.Where ts b us → Got grammar (among (sign s.Where ∷ [])) (maybe (word s.Where)) ts (sign_node s.Where b) us
where_got ts us b sign_there = got_some refl (token (sign s.Where ∷ []) (sign s.Where) (l.Sign s.Where) us refl)
where_got ts us b (sign_left h) = got_skip look (among (sign s.Where ∷ [])) refl (not_kind (sign s.Where) us h)

pub head_prologue_stops : (ts : List Lexeme) (r : Refusal) → Stops Prologue_ ts r → Stops Query_ ts r
head_prologue_stops ts r a = handed (λ ws b. breaks (broke_call Query_ (broke_first look refl (broke b)))) a

pub head_no_select : (ts us : List Lexeme) → Gets Prologue_ ts nothing_made us → IsNot (sign s.Select) us → Stops Query_ ts (Syntax (length us))
head_no_select ts us a h = stops_at us (breaks (broke_call Query_ (broke_rest look refl (got a) (broke_first look {e = among []} refl (broke_none look (among []) refl (not_kind (sign s.Select) us h))))))

pub head_shown_stops : (ts us vs : List Lexeme) (b : Bool) (r : Refusal) → Gets Prologue_ ts nothing_made (l.Sign s.Select ∷ us) → MaySign s.Distinct us b vs → Stops Shown_ vs r → Stops Query_ ts r
head_shown_stops ts us vs b r a d x =
    handed (λ ws c. breaks (broke_call Query_ (broke_rest look refl (got a) (broke_rest look refl (select us) (broke_rest look refl (distinct_got us vs b d) (broke_first look refl (broke c))))))) x

pub ruleset head_paths = (stops_memory, head_got, head_prologue_stops, head_no_select, head_shown_stops)
