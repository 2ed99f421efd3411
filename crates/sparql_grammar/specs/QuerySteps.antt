-- The steps of the reader of whole queries.
use Rattle.std.proofs.Common.{Bool, true, false, List, [], ◌∷◌, ◌≡◌, length, ℕ, refl, subst}
use Rattle.grammar_meaning.specs.Grammar.{Form, call, ◌⨾◌, maybe, Leaf, Made}
use Rattle.grammar_meaning.specs.Outcome.{Got, Broke, and}
use Rattle.grammar_meaning.specs.Exact.{got_call, got_then, broke_call, broke_first, broke_rest}
use Rattle.grammar_meaning.specs.Parts.{got_wide, broke_wide}
use Rattle.rdf_meaning.specs.Terms.{iri as iri_term}
use Rattle.query_meaning.specs.declared.pattern.Slot.TheVariants as slot
use Rattle.sparql_grammar_meaning.specs.declared.lexeme.Lexeme.{Lexeme}
use Rattle.sparql_grammar_meaning.specs.declared.lexeme.Lexeme.TheVariants as l
use Rattle.sparql_grammar_meaning.specs.declared.lexeme.Sign.{Sign}
use Rattle.sparql_grammar_meaning.specs.declared.lexeme.Sign.TheVariants as s
use Rattle.sparql_grammar_meaning.specs.Grammar.{Kind, sign, among, word, Symbol, grammar, Tree, Read}
use Rattle.sparql_grammar_meaning.specs.Table.{look, after}
use Rattle.sparql_cursor.specs.Outcomes.{Gets, gets, got, breaks, broke, Stops, stops_memory, stops_at, token}
use Rattle.sparql_cursor.specs.declared.refusal.Refusal.{Refusal}
use Rattle.sparql_cursor.specs.declared.refusal.Refusal.TheVariants.{NoMemory, Syntax}
use Rattle.query_meaning.specs.declared.expression.ValueExpr.TheVariants as v
use Rattle.query_meaning.specs.declared.expression.TruthExpr.TheVariants as t
use Rattle.std.specs.Prelude.{Option}
use Rattle.grammar_meaning.specs.Parts.{one_tree, broke_whole, got_whole}
use Rattle.query_meaning.specs.declared.query.Element.{Element}
use Rattle.query_meaning.specs.declared.modifiers.Key.{Key as SortKey}
use Rattle.sparql_grammar_meaning.specs.Grammar.{Query_, Prologue_, is_there, Group_, Order_, Slice_, Shown_, elements, nothing_made, a_list, a_query, Written, Cut, cut_of, cut_in, keys_in}
use Rattle.sparql_modifiers.specs.declared.slice.Slice.{Slice}
use Rattle.sparql_modifiers.specs.OrderSteps.{order_after, MayOrder, may_order, MayOrderStops, may_memory, may_at}
use Rattle.sparql_modifiers.specs.SliceSteps.{MaySlice, may_slice, MaySliceStops, slice_memory, slice_at}
use Rattle.sparql_cursor.specs.Outcomes.{IsText, is_text, Rejects, rejects_memory, rejects_at}
use Rattle.sparql_head.specs.HeadSteps.{HeadGot, head_got, MaySign, sign_node, distinct_got, where_got}

abbrev pub behind : Form Symbol Kind
behind = maybe (call Order_) ⨾ maybe (call Slice_)

abbrev pub tail : Form Symbol Kind
tail = call Group_ ⨾ behind

-- the group and what stands behind it
pub data TailGot (ts : List Lexeme) (es : List Element) (ks : List SortKey) (c : Slice) (us : List Lexeme) : Type 0 where
  tail_got : (vs ws : List Lexeme) → Gets Group_ ts (elements es) vs → MayOrder vs ks ws → MaySlice ws (cut_of c.skip c.most) us → TailGot ts es ks c us

pub data TailStops (ts : List Lexeme) : Refusal → Type 0 where
  tail_memory : TailStops ts NoMemory
  tail_at : (us : List Lexeme) → Broke grammar (among (after Query_)) tail ts us → TailStops ts (Syntax (length us))

pub tail_group_stops : (ts : List Lexeme) (r : Refusal) → Stops Group_ ts r → TailStops ts r
tail_group_stops ts r stops_memory = tail_memory
tail_group_stops ts r (stops_at us a) = tail_at us (broke_first look refl (broke a))

pub tail_order_stops : (ts us : List Lexeme) (es : List Element) (r : Refusal) → Gets Group_ ts (elements es) us → MayOrderStops us r → TailStops ts r
tail_order_stops ts us es r a may_memory = tail_memory
tail_order_stops ts us es r a (may_at ws b) = tail_at ws (broke_rest look refl (got a) (broke_first look refl b))

pub tail_slice_stops : (ts us vs : List Lexeme) (es : List Element) (ks : List SortKey) (r : Refusal) → Gets Group_ ts (elements es) us → MayOrder us ks vs → MaySliceStops vs r → TailStops ts r
tail_slice_stops ts us vs es ks r a b slice_memory = tail_memory
tail_slice_stops ts us vs es ks r a (may_order o b) (slice_at ws c) = tail_at ws (broke_rest look refl (got a) (broke_rest look refl b (broke_wide look refl c)))

pub ruleset tail_paths = (tail_memory, tail_got, tail_group_stops, tail_order_stops, tail_slice_stops)

select : (ts : List Lexeme) → Got grammar (among []) (word s.Select) (l.Sign s.Select ∷ ts) (Leaf (l.Sign s.Select)) ts
select ts = token [] (sign s.Select) (l.Sign s.Select) ts refl

abbrev pub written_of : Bool → Option (List ℕ) → List Element → List SortKey → Slice → Written
written_of d x es ks c = record { distinct = d; shown = x; elements = es; keys = ks; cut = cut_of c.skip c.most }

there_is : (b : Bool) → is_there (sign_node s.Distinct b) ≡ b
there_is true = refl
there_is false = refl

query_read : (ts vs ws xs us zs ys qs : List Lexeme) (d b : Bool) (x : Option (List ℕ)) (es : List Element) (o c : Read)
    → Gets Prologue_ ts nothing_made (l.Sign s.Select ∷ vs) → MaySign s.Distinct vs d ws → Gets Shown_ ws (a_list x) xs → MaySign s.Where xs b us
    → Gets Group_ us (elements es) zs → Got grammar (among order_after) (maybe (call Order_)) zs o ys → Got grammar (among (after Slice_)) (maybe (call Slice_)) ys c qs
    → Gets Query_ ts (a_query (record { distinct = d; shown = x; elements = es; keys = keys_in o; cut = cut_in c })) qs
query_read ts vs ws xs us zs ys qs d b x es o c p f h w g k i =
    gets (subst (λ z. Got grammar (among (after Query_)) (call Query_) ts (Made (a_query (record { distinct = z; shown = x; elements = es; keys = keys_in o; cut = cut_in c }))) qs) (there_is d)
    (got_call Query_ (got_then look refl (got p) (got_then look refl (select vs) (got_then look refl (distinct_got vs ws d f) (got_then look refl (got h) (got_then look refl (where_got xs us b w)
    (got_then look refl (got g) (got_then look refl k (got_wide look refl i))))))))))

pub query_got : (ts us vs : List Lexeme) (d : Bool) (x : Option (List ℕ)) (es : List Element) (ks : List SortKey) (c : Slice) → HeadGot ts d x us → TailGot us es ks c vs → Gets Query_ ts (a_query (written_of d x es ks c)) vs
query_got ts us qs d x es ks c (head_got vs ws xs b p f h w) (tail_got zs ys g k i) = with_order k i
  where
    with_order : {ls : List SortKey} {z : Cut} → MayOrder zs ls ys → MaySlice ys z qs → Gets Query_ ts (a_query (record { distinct = d; shown = x; elements = es; keys = ls; cut = z })) qs
    with_order (may_order o k') (may_slice n i') = query_read ts vs ws xs us zs ys qs d b x es o n p f h w g k' i'

pub query_tail_stops : (ts us : List Lexeme) (d : Bool) (x : Option (List ℕ)) (r : Refusal) → HeadGot ts d x us → TailStops us r → Stops Query_ ts r
query_tail_stops ts us d x r a tail_memory = stops_memory
query_tail_stops ts us d x r (head_got vs ws xs b p f h w) (tail_at qs c) =
    stops_at qs (breaks (broke_call Query_ (broke_rest look refl (got p) (broke_rest look refl (select vs) (broke_rest look refl (distinct_got vs ws d f) (broke_rest look refl (got h) (broke_rest look refl (where_got xs us b w) c)))))))

pub ruleset query_paths = (stops_memory, query_got, query_tail_stops)

pub whole : (z : Symbol) (ts : List Lexeme) (x : Tree) → Gets z ts x [] → IsText z ts x
whole z ts x (gets a) = is_text a.reads (λ n r. one_tree a n r)

pub stopped : (z : Symbol) (ts : List Lexeme) (r : Refusal) → Stops z ts r → Rejects z ts r
stopped z ts r stops_memory = rejects_memory
stopped z ts r (stops_at us (breaks a)) = rejects_at us (broke_whole a)

not_nil : (t : Lexeme) (us vs : List Lexeme) → us ≡ t ∷ vs → us ≡ [] → ⊥
not_nil t us vs h k = cc

pub left_over : (z : Symbol) (ts us vs : List Lexeme) (x : Tree) (t : Lexeme) → Gets z ts x us → us ≡ t ∷ vs → Rejects z ts (Syntax (length us))
left_over z ts us vs x t (gets a) h = rejects_at us (got_whole a (not_nil t us vs h))

pub ruleset whole_paths = (whole, stopped, left_over)
