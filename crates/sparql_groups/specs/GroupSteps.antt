-- The steps of the readers of groups.
use Rattle.std.proofs.Common.{false, List, [], ◌∷◌, ◌++◌, ◌≡◌, length, refl, ap, subst, sym, append_assoc, ◌∙◌}
use Rattle.std.proofs.lemmas.List.{append-nil}
use Rattle.grammar_meaning.specs.Grammar.{Form, one, call, ◌⨾◌, many, maybe, Nil, Leaf, Pair, Made}
use Rattle.grammar_meaning.specs.Outcome.{Got, Broke, NotBegun, or, and}
use Rattle.grammar_meaning.specs.Exact.{got_call, got_then, broke_call, broke_none, broke_first, broke_rest}
use Rattle.grammar_meaning.specs.Parts.{got_wide, broke_wide, got_left_only, got_right_only, broke_left_only, broke_right_only, got_some, broke_some, got_skip, Along, along_step, along_end, along_stop}
use Rattle.rdf_meaning.specs.Terms.{iri as iri_term}
use Rattle.query_meaning.specs.declared.pattern.Slot.TheVariants as slot
use Rattle.query_meaning.specs.declared.pattern.Pattern.{Pattern}
use Rattle.sparql_grammar_meaning.specs.declared.lexeme.Lexeme.{Lexeme}
use Rattle.sparql_grammar_meaning.specs.declared.lexeme.Lexeme.TheVariants as l
use Rattle.sparql_grammar_meaning.specs.declared.lexeme.Sign.{Sign}
use Rattle.sparql_grammar_meaning.specs.declared.lexeme.Sign.TheVariants as s
use Rattle.sparql_grammar_meaning.specs.Grammar.{Kind, sign, is, among, word, Symbol, grammar, Read}
use Rattle.sparql_grammar_meaning.specs.Table.{look, begins, after}
use Rattle.sparql_cursor.specs.Outcomes.{Gets, gets, got, breaks, broke, Stops, stops_memory, stops_at, handed, IsNot, NoneOf, SomeOf, or_false, not_first, not_kind, not_then, not_begun, ahead, token}
use Rattle.sparql_cursor.specs.declared.refusal.Refusal.{Refusal}
use Rattle.sparql_cursor.specs.declared.refusal.Refusal.TheVariants.{NoMemory, Syntax}
use Rattle.query_meaning.specs.declared.expression.ValueExpr.TheVariants as v
use Rattle.query_meaning.specs.declared.expression.TruthExpr.{TruthExpr}
use Rattle.query_meaning.specs.declared.expression.TruthExpr.TheVariants as t
use Rattle.query_meaning.specs.declared.query.Element.{Element}
use Rattle.query_meaning.specs.declared.query.Element.TheVariants as e
use Rattle.query_meaning.specs.declared.query.Group.{Group as GroupOf}
use Rattle.sparql_grammar_meaning.specs.Grammar.{Group_, Other_, Triples_, Cond_, Term_, a_truth, an_element, elements, patterns, patterns_in, leaf, parts, group_of}
use Rattle.sparql_groups.specs.UnionSteps.{UnionsGot, unions_got, UnionsStop, unions_memory, unions_at}

abbrev pub part : Form Symbol Kind
part = call Other_ ⨾ maybe (word s.Dot) ⨾ maybe (call Triples_)

abbrev pub part_after : List Kind
part_after = sign s.Union ∷ after Triples_

abbrev pub parts_after : List Kind
parts_after = sign s.Optional ∷ sign s.OpenBrace ∷ sign s.Filter ∷ part_after

brace : (ts : List Lexeme) → Got grammar (among []) (word s.OpenBrace) (l.Sign s.OpenBrace ∷ ts) (Leaf (l.Sign s.OpenBrace)) ts
brace ts = token [] (sign s.OpenBrace) (l.Sign s.OpenBrace) ts refl

dot : (ts : List Lexeme) → Got grammar (among (sign s.Dot ∷ [])) (word s.Dot) (l.Sign s.Dot ∷ ts) (Leaf (l.Sign s.Dot)) ts
dot ts = token (sign s.Dot ∷ []) (sign s.Dot) (l.Sign s.Dot) ts refl

no_part : (us : List Lexeme) → NoneOf (begins Other_) us → NotBegun grammar look (part ⨾ many part) us
no_part us h = not_first (begins Other_) (part ⨾ many part) (λ k. or_false (or (among (begins Other_) k) false) ∙ or_false (among (begins Other_) k)) us h

-- triples that may be left out
pub data MayTriples : List Lexeme → List Pattern → List Lexeme → Type 0 where
  may_triples : {ts us : List Lexeme} (o : Read) → Got grammar (among (after Triples_)) (maybe (call Triples_)) ts o us → MayTriples ts (patterns_in o) us

pub data MayStops (ts : List Lexeme) : Refusal → Type 0 where
  may_memory : MayStops ts NoMemory
  may_at : (us : List Lexeme) → Broke grammar (among (after Triples_)) (maybe (call Triples_)) ts us → MayStops ts (Syntax (length us))

pub may_some : (ts us : List Lexeme) (xs : List Pattern) → SomeOf (begins Term_) ts → Gets Triples_ ts (patterns xs) us → MayTriples ts xs us
may_some ts us xs h a = may_triples (Made (patterns xs)) (got_some (ahead (begins Term_) (after Triples_) ts refl h) (got a))

pub may_none : (ts : List Lexeme) (xs : List Pattern) → NoneOf (begins Term_) ts → xs ≡ [] → MayTriples ts xs ts
may_none ts xs h is = subst (λ z. MayTriples ts z ts) (sym is) (may_triples Nil (got_skip look (among (after Triples_)) refl (not_begun Triples_ ts h)))

pub may_stops : (ts : List Lexeme) (r : Refusal) → SomeOf (begins Term_) ts → Stops Triples_ ts r → MayStops ts r
may_stops ts r h stops_memory = may_memory
may_stops ts r h (stops_at us a) = may_at us (broke_some (ahead (begins Term_) (after Triples_) ts refl h) (broke a))

pub ruleset may_paths = (may_memory, may_some, may_none, may_stops)

-- one part: what stands in it, and triples behind it
pub data PartGot : List Lexeme → List Element → List Lexeme → Type 0 where
  part_got : {ts us : List Lexeme} {es : List Element} (n : Read) → Got grammar (among part_after) part ts n us → ((m : Read) → parts (Pair n m) ≡ es ++ parts m) → PartGot ts es us

pub data PartStops (ts : List Lexeme) : Refusal → Type 0 where
  part_memory : PartStops ts NoMemory
  part_at : (us : List Lexeme) → Broke grammar (among part_after) part ts us → PartStops ts (Syntax (length us))

leaf_append : (xs : List Pattern) (es : List Element) → leaf xs es ≡ leaf xs [] ++ es
leaf_append [] es = refl
leaf_append (x ∷ xs) es = refl

pub part_dot : (ts us vs : List Lexeme) (x : Element) (xs : List Pattern) → Gets Other_ ts (an_element x) (l.Sign s.Dot ∷ us) → MayTriples us xs vs → PartGot ts (x ∷ leaf xs []) vs
part_dot ts us vs x xs a (may_triples o b) =
    part_got (Pair (Made (an_element x)) (Pair (Leaf (l.Sign s.Dot)) o))
    (got_then look refl (got a) (got_then look refl (got_some refl (dot us)) (got_wide look refl b)))
    (λ m. ap (λ z. x ∷ z) (leaf_append (patterns_in o) (parts m)))

pub part_plain : (ts us vs : List Lexeme) (x : Element) (xs : List Pattern) → Gets Other_ ts (an_element x) us → IsNot (sign s.Dot) us → MayTriples us xs vs → PartGot ts (x ∷ leaf xs []) vs
part_plain ts us vs x xs a h (may_triples o b) =
    part_got (Pair (Made (an_element x)) (Pair Nil o))
    (got_then look refl (got a) (got_then look refl (got_skip look (among (sign s.Dot ∷ [])) refl (not_kind (sign s.Dot) us h)) (got_wide look refl b)))
    (λ m. ap (λ z. x ∷ z) (leaf_append (patterns_in o) (parts m)))

pub part_other_stops : (ts : List Lexeme) (r : Refusal) → Stops Other_ ts r → PartStops ts r
part_other_stops ts r stops_memory = part_memory
part_other_stops ts r (stops_at us a) = part_at us (broke_first look refl (broke a))

pub part_dot_stops : (ts us : List Lexeme) (x : Element) (r : Refusal) → Gets Other_ ts (an_element x) (l.Sign s.Dot ∷ us) → MayStops us r → PartStops ts r
part_dot_stops ts us x r a may_memory = part_memory
part_dot_stops ts us x r a (may_at ws b) = part_at ws (broke_rest look refl (got a) (broke_rest look refl (got_some refl (dot us)) (broke_wide look refl b)))

pub part_plain_stops : (ts us : List Lexeme) (x : Element) (r : Refusal) → Gets Other_ ts (an_element x) us → IsNot (sign s.Dot) us → MayStops us r → PartStops ts r
part_plain_stops ts us x r a h may_memory = part_memory
part_plain_stops ts us x r a h (may_at ws b) = part_at ws (broke_rest look refl (got a) (broke_rest look refl (got_skip look (among (sign s.Dot ∷ [])) refl (not_kind (sign s.Dot) us h)) (broke_wide look refl b)))

pub ruleset part_paths = (part_memory, part_dot, part_plain, part_other_stops, part_dot_stops, part_plain_stops)

-- a loop over the parts of a group
pub data GroupAlong : List Lexeme → List Element → List Lexeme → Type 0 where
  group_along : {ts us vs : List Lexeme} {es : List Element} (o : Read) (tree : Read → Read)
      → Got grammar (among (after Triples_)) (maybe (call Triples_)) ts o us
      → Along grammar (among parts_after) part (among parts_after) (many part) us tree vs
      → ((m : Read) → leaf (patterns_in o) (parts (tree m)) ≡ es ++ parts m)
      → GroupAlong (l.Sign s.OpenBrace ∷ ts) es vs

pub group_start : (ts us : List Lexeme) (xs : List Pattern) → MayTriples ts xs us → GroupAlong (l.Sign s.OpenBrace ∷ ts) (leaf xs []) us
group_start ts us xs (may_triples o a) = group_along o (λ m. m) a (record { more = λ m vs r. r; stop = λ vs r. r }) (λ m. leaf_append (patterns_in o) (parts m))

pub group_step : (ts us vs : List Lexeme) (es fs : List Element) → SomeOf (begins Other_) us → GroupAlong ts es us → PartGot us fs vs → GroupAlong ts (es ++ fs) vs
group_step ts us vs es fs h (group_along o tree a b same) (part_got n c is) =
    group_along o (λ m. tree (Pair n m)) a
    (along_step look (λ m. tree (Pair n m)) refl (λ m. refl) (ahead (begins Other_) parts_after us refl h) b c)
    (λ m. same (Pair n m) ∙ ap (λ z. es ++ z) (is m) ∙ sym (append_assoc es fs (parts m)))

pub group_end : (ts us : List Lexeme) (es : List Element) → GroupAlong ts es (l.Sign s.CloseBrace ∷ us) → Gets Group_ ts (elements es) us
group_end ts us es (group_along {ts = r} o tree a b same) =
    gets (subst (λ z. Got grammar (among (after Group_)) (call Group_) (l.Sign s.OpenBrace ∷ r) (Made (elements z)) us) (same Nil ∙ append-nil es)
    (got_call Group_ (got_then look refl (brace r) (got_then look refl a (got_then look refl (along_end look refl refl b) (token [] (sign s.CloseBrace) (l.Sign s.CloseBrace) us refl))))))

pub group_unclosed : (ts us : List Lexeme) (es : List Element) → GroupAlong ts es us → NoneOf (begins Other_) us → IsNot (sign s.CloseBrace) us → Stops Group_ ts (Syntax (length us))
group_unclosed ts us es (group_along {ts = r} o tree a b same) h i =
    stops_at us (breaks (broke_call Group_ (broke_rest look refl (brace r) (broke_rest look refl a (broke_rest look refl (along_end look refl (no_part us h) b) (broke_none look (among []) refl (not_kind (sign s.CloseBrace) us i)))))))

pub group_part_stops : (ts us : List Lexeme) (es : List Element) (r : Refusal) → SomeOf (begins Other_) us → GroupAlong ts es us → PartStops us r → Stops Group_ ts r
group_part_stops ts us es r h a part_memory = stops_memory
group_part_stops ts us es r h (group_along {ts = w} o tree a b same) (part_at ws c) =
    stops_at ws (breaks (broke_call Group_ (broke_rest look refl (brace w) (broke_rest look refl a (broke_first look refl (along_stop look refl (ahead (begins Other_) parts_after us refl h) b c))))))

pub group_may_stops : (ts : List Lexeme) (r : Refusal) → MayStops ts r → Stops Group_ (l.Sign s.OpenBrace ∷ ts) r
group_may_stops ts r may_memory = stops_memory
group_may_stops ts r (may_at ws b) = stops_at ws (breaks (broke_call Group_ (broke_rest look refl (brace ts) (broke_first look refl b))))

pub group_none : (ts : List Lexeme) → IsNot (sign s.OpenBrace) ts → Stops Group_ ts (Syntax (length ts))
group_none ts h = stops_at ts (breaks (broke_call Group_ (broke_first look refl (broke_none look (among []) refl (not_kind (sign s.OpenBrace) ts h)))))

pub ruleset group_paths = (stops_memory, group_start, group_step, group_end, group_unclosed, group_part_stops, group_may_stops, group_none)

-- what stands in a group beside triples
optional_word : (ts : List Lexeme) → Got grammar (among []) (word s.Optional) (l.Sign s.Optional ∷ ts) (Leaf (l.Sign s.Optional)) ts
optional_word ts = token [] (sign s.Optional) (l.Sign s.Optional) ts refl

filter_word : (ts : List Lexeme) → Got grammar (among []) (word s.Filter) (l.Sign s.Filter ∷ ts) (Leaf (l.Sign s.Filter)) ts
filter_word ts = token [] (sign s.Filter) (l.Sign s.Filter) ts refl

no_optional : (ts : List Lexeme) → IsNot (sign s.Optional) ts → NotBegun grammar look (word s.Optional ⨾ call Group_) ts
no_optional ts h = not_then (sign s.Optional) (call Group_) ts h

no_filter : (ts : List Lexeme) → IsNot (sign s.Filter) ts → NotBegun grammar look (word s.Filter ⨾ call Cond_) ts
no_filter ts h = not_then (sign s.Filter) (call Cond_) ts h

pub other_optional : (ts us : List Lexeme) (es : List Element) → Gets Group_ ts (elements es) us → Gets Other_ (l.Sign s.Optional ∷ ts) (an_element (e.Optional (group_of es))) us
other_optional ts us es a = gets (got_call Other_ (got_left_only look refl refl (got_wide look refl (got_then look refl (optional_word ts) (got a)))))

pub other_optional_stops : (ts : List Lexeme) (r : Refusal) → Stops Group_ ts r → Stops Other_ (l.Sign s.Optional ∷ ts) r
other_optional_stops ts r a = handed (λ ws b. breaks (broke_call Other_ (broke_left_only look refl refl (broke_wide look refl (broke_rest look refl (optional_word ts) (broke b)))))) a

pub other_filter : (ts us : List Lexeme) (x : TruthExpr) → Gets Cond_ ts (a_truth x) us → Gets Other_ (l.Sign s.Filter ∷ ts) (an_element (e.Condition x)) us
other_filter ts us x a = gets (got_call Other_ (got_right_only look refl refl (got_right_only look refl refl (got_wide look refl (got_then look refl (filter_word ts) (got a))))))

pub other_filter_stops : (ts : List Lexeme) (r : Refusal) → Stops Cond_ ts r → Stops Other_ (l.Sign s.Filter ∷ ts) r
other_filter_stops ts r a = handed (λ ws b. breaks (broke_call Other_ (broke_right_only look refl refl (broke_right_only look refl refl (broke_wide look refl (broke_rest look refl (filter_word ts) (broke b))))))) a

pub other_unions : (ts us : List Lexeme) (gs : List GroupOf) → IsNot (sign s.Optional) ts → IsNot (sign s.Filter) ts → UnionsGot ts gs us → Gets Other_ ts (an_element (e.Unions gs)) us
other_unions ts us gs h i (unions_got xs m a same) =
    gets (subst (λ z. Got grammar (among (after Other_)) (call Other_) ts (Made (an_element (e.Unions z))) us) same
    (got_call Other_ (got_right_only look refl (no_optional ts h) (got_left_only look refl (no_filter ts i) a))))

pub other_unions_stop : (ts : List Lexeme) (r : Refusal) → IsNot (sign s.Optional) ts → IsNot (sign s.Filter) ts → UnionsStop ts r → Stops Other_ ts r
other_unions_stop ts r h i unions_memory = stops_memory
other_unions_stop ts r h i (unions_at us a) = stops_at us (breaks (broke_call Other_ (broke_right_only look refl (no_optional ts h) (broke_left_only look refl (no_filter ts i) a))))

pub ruleset other_paths = (stops_memory, other_optional, other_optional_stops, other_filter, other_filter_stops, other_unions, other_unions_stop)
