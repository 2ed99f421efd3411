-- The steps of the readers of a slice.
use Rattle.std.proofs.Common.{false, List, [], ◌∷◌, ◌≡◌, length, ℕ, refl, subst, sym}
use Rattle.grammar_meaning.specs.Grammar.{Form, call, ◌⨾◌, maybe, Nil, Leaf, Pair, Made}
use Rattle.grammar_meaning.specs.Outcome.{Got, Broke, or}
use Rattle.grammar_meaning.specs.Exact.{got_call, got_then, broke_call, broke_none, broke_rest}
use Rattle.grammar_meaning.specs.Parts.{got_wide, got_left_only, got_right_only, broke_left_only, broke_right_only, got_some, broke_some, got_skip}
use Rattle.rdf_meaning.specs.Terms.{RdfTerm, iri as iri_term}
use Rattle.query_meaning.specs.declared.pattern.Slot.TheVariants as slot
use Rattle.sparql_grammar_meaning.specs.declared.lexeme.Lexeme.{Lexeme}
use Rattle.sparql_grammar_meaning.specs.declared.lexeme.Lexeme.TheVariants as l
use Rattle.sparql_grammar_meaning.specs.declared.lexeme.Sign.{Sign}
use Rattle.sparql_grammar_meaning.specs.declared.lexeme.Sign.TheVariants as s
use Rattle.sparql_grammar_meaning.specs.Grammar.{Kind, sign, count, kind, is, among, mark, word, Symbol, rule, grammar, Read}
use Rattle.sparql_grammar_meaning.specs.Table.{look, begins, after}
use Rattle.sparql_cursor.specs.Outcomes.{Gets, gets, got, breaks, broke, Stops, stops_memory, stops_at, IsNot, NoneOf, not_kind, not_then, not_begun, token}
use Rattle.sparql_cursor.specs.declared.refusal.Refusal.{Refusal}
use Rattle.sparql_cursor.specs.declared.refusal.Refusal.TheVariants.{NoMemory, Syntax}
use Rattle.query_meaning.specs.declared.expression.ValueExpr.TheVariants as v
use Rattle.query_meaning.specs.declared.expression.TruthExpr.TheVariants as t
use Rattle.std.specs.Prelude.{Some, None}
use Rattle.sparql_grammar_meaning.specs.Grammar.{Slice_, a_cut, Cut, cut_of, cut_in}

abbrev pub limit_form : Form Symbol Kind
limit_form = word s.Limit ⨾ mark count

abbrev pub offset_form : Form Symbol Kind
offset_form = word s.Offset ⨾ mark count

abbrev pub limit_first : Form Symbol Kind
limit_first = word s.Limit ⨾ mark count ⨾ maybe offset_form

abbrev pub offset_first : Form Symbol Kind
offset_first = word s.Offset ⨾ mark count ⨾ maybe limit_form

limit : (ts : List Lexeme) → Got grammar (among []) (word s.Limit) (l.Sign s.Limit ∷ ts) (Leaf (l.Sign s.Limit)) ts
limit ts = token [] (sign s.Limit) (l.Sign s.Limit) ts refl

offset : (ts : List Lexeme) → Got grammar (among []) (word s.Offset) (l.Sign s.Offset ∷ ts) (Leaf (l.Sign s.Offset)) ts
offset ts = token [] (sign s.Offset) (l.Sign s.Offset) ts refl

number : (x : RdfTerm) (n : ℕ) (ts : List Lexeme) → Got grammar (among []) (mark count) (l.Count x n ∷ ts) (Leaf (l.Count x n)) ts
number x n ts = token [] count (l.Count x n) ts refl

limit_got : (ts us : List Lexeme) (n : Read) → Got grammar (among (after Slice_)) limit_first (l.Sign s.Limit ∷ ts) n us → Got grammar (among (after Slice_)) (rule Slice_) (l.Sign s.Limit ∷ ts) n us
limit_got ts us n a = got_left_only look refl refl a

offset_got : (ts us : List Lexeme) (n : Read) → Got grammar (among (after Slice_)) offset_first (l.Sign s.Offset ∷ ts) n us → Got grammar (among (after Slice_)) (rule Slice_) (l.Sign s.Offset ∷ ts) n us
offset_got ts us n a = got_right_only look refl refl a

limit_broke : (ts us : List Lexeme) → Broke grammar (among (after Slice_)) limit_first (l.Sign s.Limit ∷ ts) us → Stops Slice_ (l.Sign s.Limit ∷ ts) (Syntax (length us))
limit_broke ts us a = stops_at us (breaks (broke_call Slice_ (broke_left_only look refl refl a)))

offset_broke : (ts us : List Lexeme) → Broke grammar (among (after Slice_)) offset_first (l.Sign s.Offset ∷ ts) us → Stops Slice_ (l.Sign s.Offset ∷ ts) (Syntax (length us))
offset_broke ts us a = stops_at us (breaks (broke_call Slice_ (broke_right_only look refl refl a)))

pub limit_alone : (x : RdfTerm) (n : ℕ) (us : List Lexeme) → IsNot (sign s.Offset) us → Gets Slice_ (l.Sign s.Limit ∷ l.Count x n ∷ us) (a_cut (cut_of 0 (Some n))) us
limit_alone x n us h =
    gets (got_call Slice_ (limit_got (l.Count x n ∷ us) us (Pair (Leaf (l.Sign s.Limit)) (Pair (Leaf (l.Count x n)) Nil)) (got_then look refl (limit (l.Count x n ∷ us)) (got_then look refl (number x n us)
    (got_skip look (among (after Slice_)) refl (not_then (sign s.Offset) (mark count) us h))))))

pub limit_offset : (x y : RdfTerm) (n m : ℕ) (us : List Lexeme) → Gets Slice_ (l.Sign s.Limit ∷ l.Count x n ∷ l.Sign s.Offset ∷ l.Count y m ∷ us) (a_cut (cut_of m (Some n))) us
limit_offset x y n m us =
    gets (got_call Slice_ (limit_got (l.Count x n ∷ l.Sign s.Offset ∷ l.Count y m ∷ us) us (Pair (Leaf (l.Sign s.Limit)) (Pair (Leaf (l.Count x n)) (Pair (Leaf (l.Sign s.Offset)) (Leaf (l.Count y m)))))
    (got_then look refl (limit (l.Count x n ∷ l.Sign s.Offset ∷ l.Count y m ∷ us)) (got_then look refl (number x n (l.Sign s.Offset ∷ l.Count y m ∷ us))
    (got_some refl (got_wide look refl (got_then look refl (offset (l.Count y m ∷ us)) (number y m us))))))))

pub limit_bad_offset : (x : RdfTerm) (n : ℕ) (us : List Lexeme) → IsNot count us → Stops Slice_ (l.Sign s.Limit ∷ l.Count x n ∷ l.Sign s.Offset ∷ us) (Syntax (length us))
limit_bad_offset x n us h =
    limit_broke (l.Count x n ∷ l.Sign s.Offset ∷ us) us (broke_rest look refl (limit (l.Count x n ∷ l.Sign s.Offset ∷ us)) (broke_rest look refl (number x n (l.Sign s.Offset ∷ us))
    (broke_some refl (broke_rest look refl (offset us) (broke_none look (among (after Slice_)) refl (not_kind count us h))))))

pub limit_none : (us : List Lexeme) → IsNot count us → Stops Slice_ (l.Sign s.Limit ∷ us) (Syntax (length us))
limit_none us h = limit_broke us us (broke_rest look refl (limit us) (broke_none look (among (after Slice_)) refl (not_then count (maybe offset_form) us h)))

pub ruleset limit_paths = (limit_alone, limit_offset, limit_bad_offset, limit_none)

pub offset_alone : (x : RdfTerm) (n : ℕ) (us : List Lexeme) → IsNot (sign s.Limit) us → Gets Slice_ (l.Sign s.Offset ∷ l.Count x n ∷ us) (a_cut (cut_of n None)) us
offset_alone x n us h =
    gets (got_call Slice_ (offset_got (l.Count x n ∷ us) us (Pair (Leaf (l.Sign s.Offset)) (Pair (Leaf (l.Count x n)) Nil)) (got_then look refl (offset (l.Count x n ∷ us)) (got_then look refl (number x n us)
    (got_skip look (among (after Slice_)) refl (not_then (sign s.Limit) (mark count) us h))))))

pub offset_limit : (x y : RdfTerm) (n m : ℕ) (us : List Lexeme) → Gets Slice_ (l.Sign s.Offset ∷ l.Count x n ∷ l.Sign s.Limit ∷ l.Count y m ∷ us) (a_cut (cut_of n (Some m))) us
offset_limit x y n m us =
    gets (got_call Slice_ (offset_got (l.Count x n ∷ l.Sign s.Limit ∷ l.Count y m ∷ us) us (Pair (Leaf (l.Sign s.Offset)) (Pair (Leaf (l.Count x n)) (Pair (Leaf (l.Sign s.Limit)) (Leaf (l.Count y m)))))
    (got_then look refl (offset (l.Count x n ∷ l.Sign s.Limit ∷ l.Count y m ∷ us)) (got_then look refl (number x n (l.Sign s.Limit ∷ l.Count y m ∷ us))
    (got_some refl (got_wide look refl (got_then look refl (limit (l.Count y m ∷ us)) (number y m us))))))))

pub offset_bad_limit : (x : RdfTerm) (n : ℕ) (us : List Lexeme) → IsNot count us → Stops Slice_ (l.Sign s.Offset ∷ l.Count x n ∷ l.Sign s.Limit ∷ us) (Syntax (length us))
offset_bad_limit x n us h =
    offset_broke (l.Count x n ∷ l.Sign s.Limit ∷ us) us (broke_rest look refl (offset (l.Count x n ∷ l.Sign s.Limit ∷ us)) (broke_rest look refl (number x n (l.Sign s.Limit ∷ us))
    (broke_some refl (broke_rest look refl (limit us) (broke_none look (among (after Slice_)) refl (not_kind count us h))))))

pub offset_none : (us : List Lexeme) → IsNot count us → Stops Slice_ (l.Sign s.Offset ∷ us) (Syntax (length us))
offset_none us h = offset_broke us us (broke_rest look refl (offset us) (broke_none look (among (after Slice_)) refl (not_then count (maybe limit_form) us h)))

pub ruleset offset_paths = (offset_alone, offset_limit, offset_bad_limit, offset_none)

-- a slice that may be left out
pub data MaySlice : List Lexeme → Cut → List Lexeme → Type 0 where
  may_slice : {ts us : List Lexeme} (o : Read) → Got grammar (among (after Slice_)) (maybe (call Slice_)) ts o us → MaySlice ts (cut_in o) us

pub data MaySliceStops (ts : List Lexeme) : Refusal → Type 0 where
  slice_memory : MaySliceStops ts NoMemory
  slice_at : (us : List Lexeme) → Broke grammar (among (after Slice_)) (maybe (call Slice_)) ts us → MaySliceStops ts (Syntax (length us))

pub slice_limit : (ts us : List Lexeme) (c : Cut) → Gets Slice_ (l.Sign s.Limit ∷ ts) (a_cut c) us → MaySlice (l.Sign s.Limit ∷ ts) c us
slice_limit ts us c a = may_slice (Made (a_cut c)) (got_some refl (got a))

pub slice_offset : (ts us : List Lexeme) (c : Cut) → Gets Slice_ (l.Sign s.Offset ∷ ts) (a_cut c) us → MaySlice (l.Sign s.Offset ∷ ts) c us
slice_offset ts us c a = may_slice (Made (a_cut c)) (got_some refl (got a))

pub slice_limit_stops : (ts : List Lexeme) (r : Refusal) → Stops Slice_ (l.Sign s.Limit ∷ ts) r → MaySliceStops (l.Sign s.Limit ∷ ts) r
slice_limit_stops ts r stops_memory = slice_memory
slice_limit_stops ts r (stops_at us a) = slice_at us (broke_some refl (broke a))

pub slice_offset_stops : (ts : List Lexeme) (r : Refusal) → Stops Slice_ (l.Sign s.Offset ∷ ts) r → MaySliceStops (l.Sign s.Offset ∷ ts) r
slice_offset_stops ts r stops_memory = slice_memory
slice_offset_stops ts r (stops_at us a) = slice_at us (broke_some refl (broke a))

neither : (ts : List Lexeme) → IsNot (sign s.Limit) ts → IsNot (sign s.Offset) ts → NoneOf (begins Slice_) ts
neither [] h i = tt
neither (t ∷ ts) h i = subst (λ b. or b (or (is (sign s.Offset) (kind t)) false) ≡ false) (sym h) (subst (λ b. or b false ≡ false) (sym i) refl)

pub slice_none : (ts : List Lexeme) → IsNot (sign s.Limit) ts → IsNot (sign s.Offset) ts → MaySlice ts (cut_of 0 None) ts
slice_none ts h i = may_slice Nil (got_skip look (among (after Slice_)) refl (not_begun Slice_ ts (neither ts h i)))

pub ruleset may_paths = (slice_memory, slice_limit, slice_offset, slice_limit_stops, slice_offset_stops, slice_none)
