-- The steps of the readers of cores and bodies.
use Rattle.std.proofs.Common.{Bool, true, false, List, [], ◌∷◌, ◌++◌, ◌≡◌, ℕ, refl, subst, sym, ap, ◌∙◌, append_assoc, Option}
use Rattle.std.proofs.lemmas.List.{append-nil}
use Rattle.grammar_meaning.specs.Grammar.{Form, call, ◌⨾◌, ◌∣◌, many, Grammar, Pair, Made, front_empty, front_left}
use Rattle.grammar_meaning.specs.Outcome.{Begins, Got, Lags}
use Rattle.grammar_meaning.specs.Exact.{got_call, got_then, got_left, broke_left, lags_near, lags_most, most_lags}
use Rattle.grammar_meaning.specs.Laws.{reads_le}
use Rattle.grammar_meaning.specs.Parts.{got_left_only, got_right_only, got_skip, got_wide}
use Rattle.grammar_path_laws.specs.Paths.{Path, here, in_call, in_first, in_rest, in_left, in_right, in_wide, loop_step, loop_end, in_loop}
use Rattle.sql_meaning.specs.Kinds.{Kind, a_mark, among}
use Rattle.sql_meaning.specs.Grammar.{Symbol, KeyList, Most, Skip, Parts, Ending, Plain, Unions, OneBody, Limit, Tree, ending, a_core, core_list, a_body, plain_core, core_of, cores_of, cores_in, mark, grammar}
use Rattle.sql_meaning.specs.declared.token.Mark.TheVariants as m
use Rattle.sql_meaning.specs.declared.token.Token.TheVariants as t
use Rattle.sql_meaning.specs.declared.token.Placed.{Placed}
use Rattle.sql_meaning.specs.declared.script.SqlKey.{SqlKey}
use Rattle.sql_meaning.specs.declared.script.Core.{Core}
use Rattle.sql_text_cursor.specs.Table.{look, NoneOf, SomeOf, parts_after, body_after}
use Rattle.sql_text_cursor.specs.Outcomes.{First, first_is, Reading, reading, got, Fault, fault_memory, handed, Looping, Gets, Stops}
use Rattle.sql_text_cursor.specs.Steps.{apart, absent, ahead, the}
use Rattle.sql_text_cursor.specs.declared.refusal.Refusal.{Refusal}

-- UNION ALL SELECT and parts
pub plain_got : (ts us vs ws xs : List Placed) (x : Tree) → First ts (t.Mark m.Union) us → First us (t.Mark m.All) vs → First vs (t.Mark m.Select) ws → Gets Parts ws x xs → Gets Plain ts (a_core (plain_core x)) xs
plain_got ts us vs ws xs x (first_is i) (first_is j) (first_is k) a = reading (λ c h. got_call Plain (got_then (look c) refl (the c m.Union i _) (got_then (look c) refl (the c m.All j _) (got_then (look c) refl (the c m.Select k ws) (got a c h)))))

pub plain_union_stops : (ts : List Placed) (r : Refusal) → Fault [] (mark m.Union) ts r → Stops Plain ts r
plain_union_stops ts r a = handed (λ c h. in_call Plain (in_first (look c) refl here)) a

pub plain_all_stops : (ts us : List Placed) (r : Refusal) → First ts (t.Mark m.Union) us → Fault [] (mark m.All) us r → Stops Plain ts r
plain_all_stops ts us r (first_is i) a = handed (λ c h. in_call Plain (in_rest (look c) refl (the c m.Union i us) (in_first (look c) refl here))) a

pub plain_select_stops : (ts us vs : List Placed) (r : Refusal) → First ts (t.Mark m.Union) us → First us (t.Mark m.All) vs → Fault [] (mark m.Select) vs r → Stops Plain ts r
plain_select_stops ts us vs r (first_is i) (first_is j) a = handed (λ c h. in_call Plain (in_rest (look c) refl (the c m.Union i _) (in_rest (look c) refl (the c m.All j vs) (in_first (look c) refl here)))) a

pub plain_parts_stops : (ts us vs ws : List Placed) (r : Refusal) → First ts (t.Mark m.Union) us → First us (t.Mark m.All) vs → First vs (t.Mark m.Select) ws → Stops Parts ws r → Stops Plain ts r
plain_parts_stops ts us vs ws r (first_is i) (first_is j) (first_is k) a = handed (λ c h. in_call Plain (in_rest (look c) refl (the c m.Union i _) (in_rest (look c) refl (the c m.All j _) (in_rest (look c) refl (the c m.Select k ws) here)))) a

pub plain_made : (ts us vs ws xs : List Placed) (x : Tree) (core : Core) → First ts (t.Mark m.Union) us → First us (t.Mark m.All) vs → First vs (t.Mark m.Select) ws → Gets Parts ws x xs → core ≡ plain_core x → Gets Plain ts (a_core core) xs
plain_made ts us vs ws xs x core f g h a e = subst (λ (z : Core). Gets Plain ts (a_core z) xs) (sym e) (plain_got ts us vs ws xs x f g h a)

pub ruleset plain_steps = (fault_memory, plain_got, plain_union_stops, plain_all_stops, plain_select_stops, plain_parts_stops)

abbrev pub unions_after : List Kind
unions_after = a_mark m.Union ∷ parts_after

-- a loop over the cores behind a first one
pub data UnionLoop (x : Core) (ts : List Placed) : List Core → List Placed → Type 0 where
  union_loop : {us : List Placed} (ds : List Core) → Looping unions_after (call Plain) unions_after (call Unions) ts (λ o. Made (core_list (ds ++ cores_in o))) us → UnionLoop x ts (x ∷ ds) us

-- a first core, and those behind it
pub data UnionsAt (x : Core) (ts : List Placed) : List Core → List Placed → Type 0 where
  unions_at : {us : List Placed} (ds : List Core) → Gets Unions ts (core_list ds) us → UnionsAt x ts (x ∷ ds) us

unions_start : (ts us : List Placed) (x d : Core) → Gets Plain ts (a_core d) us → UnionLoop x ts (x ∷ d ∷ []) us
unions_start ts us x d a = union_loop (d ∷ []) (λ c h. record {
  more = λ o ws r. got_call Unions (got_then (look c) refl (got a c h) r);
  path = in_call Unions (in_rest (look c) refl (got a c h) here);
})

union_ahead : (c : Limit) (us : List Placed) → SomeOf (a_mark m.Union ∷ []) us → Begins (grammar c) (among unions_after) us
union_ahead c us s = ahead c (a_mark m.Union ∷ []) unions_after us refl s

unions_step : (ts us vs : List Placed) (x d : Core) (cs : List Core) → UnionLoop x ts cs us → SomeOf (a_mark m.Union ∷ []) us → Gets Plain us (a_core d) vs → UnionLoop x ts (cs ++ (d ∷ [])) vs
unions_step ts us vs x d cs (union_loop ds a) s b = union_loop (ds ++ (d ∷ [])) (λ c h.
    loop_step (look c) (λ o. Made (core_list ((ds ++ (d ∷ [])) ++ cores_in o))) refl (λ o. ap (λ l. Made (core_list l)) (sym (append_assoc ds (d ∷ []) (cores_in o)))) (union_ahead c us s) (a c h) (got b c h))

pub unions_made : (ts us : List Placed) (x d : Core) (none xs cs : List Core) → Gets Plain ts (a_core d) us → none ≡ [] → xs ≡ none ++ (x ∷ []) → cs ≡ xs ++ (d ∷ []) → UnionLoop x ts cs us
unions_made ts us x d none xs cs a e f g = subst (λ (l : List Core). UnionLoop x ts l us) (sym (g ∙ ap (λ l. l ++ (d ∷ [])) (f ∙ ap (λ l. l ++ (x ∷ [])) e))) (unions_start ts us x d a)

pub unions_added : (ts us vs : List Placed) (x d : Core) (cs all : List Core) → UnionLoop x ts cs us → SomeOf (a_mark m.Union ∷ []) us → Gets Plain us (a_core d) vs → all ≡ cs ++ (d ∷ []) → UnionLoop x ts all vs
unions_added ts us vs x d cs all a s b e = subst (λ (l : List Core). UnionLoop x ts l vs) (sym e) (unions_step ts us vs x d cs a s b)

pub unions_end : (ts us : List Placed) (x : Core) (cs : List Core) → UnionLoop x ts cs us → NoneOf (a_mark m.Union ∷ []) us → UnionsAt x ts cs us
unions_end ts us x cs (union_loop ds a) none = unions_at ds (reading (λ c h. subst (λ l. Got (grammar c) (among unions_after) (call Unions) ts (Made (core_list l)) us) (append-nil ds)
    (loop_end (look c) refl (absent c (a_mark m.Union ∷ []) (call Plain ⨾ many (call Plain)) us refl none) (a c h))))

pub unions_first_stops : (ts : List Placed) (r : Refusal) → Stops Plain ts r → Stops Unions ts r
unions_first_stops ts r a = handed (λ c h. in_call Unions (in_first (look c) refl here)) a

pub unions_later_stops : (ts us : List Placed) (x : Core) (cs : List Core) (r : Refusal) → UnionLoop x ts cs us → SomeOf (a_mark m.Union ∷ []) us → Stops Plain us r → Stops Unions ts r
unions_later_stops ts us x cs r (union_loop ds b) s a = handed (λ c h. in_loop (look c) refl (union_ahead c us s) (b c h) here) a

pub ruleset unions_steps = (fault_memory, unions_made, unions_added, unions_end, unions_first_stops, unions_later_stops)

abbrev pub distinct_form : Form Symbol Kind
distinct_form = call Parts ⨾ call Ending

abbrev pub cores_form : Form Symbol Kind
cores_form = call Parts ⨾ (call Unions ∣ call Ending)

-- what stands behind SELECT DISTINCT
pub data DistinctAt (ts : List Placed) (cs : List Core) (us : List Placed) : Type 0 where
  distinct_at : (x y : Tree) → Reading body_after distinct_form ts (Pair (Made x) (Made y)) us → cs ≡ core_of true x y ∷ [] → DistinctAt ts cs us

pub distinct_got : (ts us vs : List Placed) (x y : Tree) (none cs : List Core) → Gets Parts ts x us → Gets Ending us y vs → none ≡ [] → cs ≡ none ++ (core_of true x y ∷ []) → DistinctAt ts cs vs
distinct_got ts us vs x y none cs a b e f = distinct_at x y (reading (λ c h. got_then (look c) refl (got a c h) (got_wide (look c) refl (got b c h)))) (f ∙ ap (λ l. l ++ (core_of true x y ∷ [])) e)

pub distinct_parts_stops : (ts : List Placed) (r : Refusal) → Stops Parts ts r → Fault body_after distinct_form ts r
distinct_parts_stops ts r a = handed (λ c h. in_first (look c) refl here) a

pub distinct_ending_stops : (ts us : List Placed) (x : Tree) (r : Refusal) → Gets Parts ts x us → Stops Ending us r → Fault body_after distinct_form ts r
distinct_ending_stops ts us x r b a = handed (λ c h. in_rest (look c) refl (got b c h) (in_wide (look c) refl here)) a

pub distinct_made : (ts us vs : List Placed) (x y : Tree) (core : Core) (none cs : List Core) → Gets Parts ts x us → Gets Ending us y vs → none ≡ [] → cs ≡ none ++ (core ∷ []) → core ≡ core_of true x y → DistinctAt ts cs vs
distinct_made ts us vs x y core none cs a b e f g = distinct_got ts us vs x y none cs a b e (f ∙ ap (λ z. none ++ (z ∷ [])) g)

pub ruleset distinct_steps = (fault_memory, distinct_got, distinct_parts_stops, distinct_ending_stops)

-- what stands behind another SELECT
pub data CoresAt (ts : List Placed) (cs : List Core) (us : List Placed) : Type 0 where
  cores_at : (x y : Tree) → Reading body_after cores_form ts (Pair (Made x) (Made y)) us → cs ≡ cores_of x y → CoresAt ts cs us

pub cores_ending : (ts us vs : List Placed) (x : Tree) (ks : List SqlKey) (n k : Option ℕ) (none cs : List Core) → Gets Parts ts x us → NoneOf (a_mark m.Union ∷ []) us → Gets Ending us (ending ks n k) vs → none ≡ [] → cs ≡ none ++ (core_of false x (ending ks n k) ∷ []) → CoresAt ts cs vs
cores_ending ts us vs x ks n k none cs a h b e f = cores_at x (ending ks n k)
    (reading (λ c i. got_then (look c) refl (got a c i) (got_right_only (look c) refl (absent c (a_mark m.Union ∷ []) (call Unions) us refl h) (got_wide (look c) refl (got b c i)))))
    (f ∙ ap (λ l. l ++ (core_of false x (ending ks n k) ∷ [])) e)

-- an ending is nothing where UNION stands
ending_lags : (c : Limit) (ts : List Placed) → SomeOf (a_mark m.Union ∷ []) ts → Lags (grammar c) (among body_after) (call Ending) ts ts
ending_lags c ts s = most_lags (got_wide {G = grammar c} (look c) {e = among []} {d = among body_after} refl (got_call Ending
    (got_then (look c) refl (got_skip (look c) (among []) refl (apart c (a_mark m.Union ∷ []) (call KeyList) ts refl s))
    (got_then (look c) refl (got_skip (look c) (among []) refl (apart c (a_mark m.Union ∷ []) (call Most) ts refl s))
    (got_skip (look c) (among []) refl (apart c (a_mark m.Union ∷ []) (call Skip) ts refl s)))))).most (ahead c (a_mark m.Union ∷ []) body_after ts refl s)

pub cores_unions : (ts us vs : List Placed) (x : Tree) (cs : List Core) → Gets Parts ts x us → SomeOf (a_mark m.Union ∷ []) us → UnionsAt (plain_core x) us cs vs → CoresAt ts cs vs
cores_unions ts us vs x cs a s (unions_at ds b) = cores_at x (core_list ds)
    (reading (λ c h. got_then (look c) refl (got a c h)
    (got_left (got_wide (look c) refl (got b c h)) (lags_most (lags_near (ending_lags c us s) (reads_le (grammar c) (call Unions) us vs (Made (core_list ds)) (got b c h).reads))))))
    refl

-- a part beside one that lags
in_beside : {G : Grammar} {x e : G.Kind → Bool} {h f g : Form G.Symbol G.Kind} {ts us : List G.Token} → Lags G e g ts ts → Path G x h us e f ts → Path G x h us e (f ∣ g) ts
in_beside {ts = ts} l p = record { breaks = λ vs b. let q = p.breaks vs b in broke_left q (lags_near l (q.lags.within ts front_empty)); fronts = λ vs r. front_left (p.fronts vs r) }

pub cores_parts_stops : (ts : List Placed) (r : Refusal) → Stops Parts ts r → Fault body_after cores_form ts r
cores_parts_stops ts r a = handed (λ c h. in_first (look c) refl here) a

pub cores_unions_stops : (ts us : List Placed) (x : Tree) (r : Refusal) → Gets Parts ts x us → SomeOf (a_mark m.Union ∷ []) us → Stops Unions us r → Fault body_after cores_form ts r
cores_unions_stops ts us x r b s a = handed (λ c h. in_rest (look c) refl (got b c h) (in_beside (ending_lags c us s) (in_wide (look c) refl here))) a

pub cores_ending_stops : (ts us : List Placed) (x : Tree) (r : Refusal) → Gets Parts ts x us → NoneOf (a_mark m.Union ∷ []) us → Stops Ending us r → Fault body_after cores_form ts r
cores_ending_stops ts us x r b s a = handed (λ c h. in_rest (look c) refl (got b c h) (in_right (look c) refl (absent c (a_mark m.Union ∷ []) (call Unions) us refl s) (in_wide (look c) refl here))) a

pub cores_made : (ts us vs : List Placed) (x : Tree) (ks : List SqlKey) (n k : Option ℕ) (core : Core) (none cs : List Core) → Gets Parts ts x us → NoneOf (a_mark m.Union ∷ []) us → Gets Ending us (ending ks n k) vs → none ≡ [] → cs ≡ none ++ (core ∷ []) → core ≡ core_of false x (ending ks n k) → CoresAt ts cs vs
cores_made ts us vs x ks n k core none cs a h b e f g = cores_ending ts us vs x ks n k none cs a h b e (f ∙ ap (λ z. none ++ (z ∷ [])) g)

pub cores_joined : (ts us vs : List Placed) (x : Tree) (core : Core) (cs : List Core) → Gets Parts ts x us → SomeOf (a_mark m.Union ∷ []) us → UnionsAt core us cs vs → core ≡ plain_core x → CoresAt ts cs vs
cores_joined ts us vs x core cs a s b e = cores_unions ts us vs x cs a s (subst (λ (z : Core). UnionsAt z us cs vs) e b)

pub ruleset cores_steps = (fault_memory, cores_made, cores_joined, cores_parts_stops, cores_unions_stops, cores_ending_stops)

pub body_distinct : (ts us vs ws : List Placed) (cs : List Core) → First ts (t.Mark m.Select) us → First us (t.Mark m.Distinct) vs → DistinctAt vs cs ws → Gets OneBody ts (a_body (record { cores = cs })) ws
body_distinct ts us vs ws cs (first_is i) (first_is j) (distinct_at x y a same) = subst (λ (l : List Core). Gets OneBody ts (a_body (record { cores = l })) ws) (sym same)
    (reading (λ c h. got_call OneBody (got_then (look c) refl (the c m.Select i _) (got_left_only (look c) refl refl (got_then (look c) refl (the c m.Distinct j vs) (got a c h))))))

pub body_plain : (ts us vs : List Placed) (cs : List Core) → First ts (t.Mark m.Select) us → NoneOf (a_mark m.Distinct ∷ []) us → CoresAt us cs vs → Gets OneBody ts (a_body (record { cores = cs })) vs
body_plain ts us vs cs (first_is i) h (cores_at x y a same) = subst (λ (l : List Core). Gets OneBody ts (a_body (record { cores = l })) vs) (sym same)
    (reading (λ c z. got_call OneBody (got_then (look c) refl (the c m.Select i us) (got_right_only (look c) refl (absent c (a_mark m.Distinct ∷ []) (mark m.Distinct ⨾ distinct_form) us refl h) (got a c z)))))

pub body_select_stops : (ts : List Placed) (r : Refusal) → Fault [] (mark m.Select) ts r → Stops OneBody ts r
body_select_stops ts r a = handed (λ c h. in_call OneBody (in_first (look c) refl here)) a

pub body_distinct_stops : (ts us vs : List Placed) (r : Refusal) → First ts (t.Mark m.Select) us → First us (t.Mark m.Distinct) vs → Fault body_after distinct_form vs r → Stops OneBody ts r
body_distinct_stops ts us vs r (first_is i) (first_is j) a = handed (λ c h. in_call OneBody (in_rest (look c) refl (the c m.Select i _) (in_left (look c) refl refl (in_rest (look c) refl (the c m.Distinct j vs) here)))) a

pub body_plain_stops : (ts us : List Placed) (r : Refusal) → First ts (t.Mark m.Select) us → NoneOf (a_mark m.Distinct ∷ []) us → Fault body_after cores_form us r → Stops OneBody ts r
body_plain_stops ts us r (first_is i) s a = handed (λ c h. in_call OneBody (in_rest (look c) refl (the c m.Select i us) (in_right (look c) refl (absent c (a_mark m.Distinct ∷ []) (mark m.Distinct ⨾ distinct_form) us refl s) here))) a

pub ruleset body_steps = (fault_memory, body_distinct, body_plain, body_select_stops, body_distinct_stops, body_plain_stops)
