-- The steps of the readers of WITH and of scripts.
use Rattle.std.proofs.Common.{List, [], ◌∷◌, ◌++◌, ◌≡◌, ℕ, refl, subst, sym, ap, ◌∙◌, append_assoc}
use Rattle.std.proofs.lemmas.List.{append-nil}
use Rattle.grammar_meaning.specs.Grammar.{Form, call, ◌⨾◌, many, Nil, Made}
use Rattle.grammar_meaning.specs.Outcome.{Got}
use Rattle.grammar_meaning.specs.Exact.{got_call, got_then}
use Rattle.grammar_path_laws.specs.Paths.{here, in_call, in_first, in_rest, loop_step, loop_end, in_loop}
use Rattle.sql_meaning.specs.Kinds.{Kind, a_mark, among}
use Rattle.sql_meaning.specs.Grammar.{Symbol, WholeScript, Steps, OneStep, OneBody, Parsed, a_script, step_list, a_step, a_body, steps_in, steps_of, mark, name, grammar}
use Rattle.sql_meaning.specs.declared.token.Mark.TheVariants as m
use Rattle.sql_meaning.specs.declared.token.Token.TheVariants as t
use Rattle.sql_meaning.specs.declared.token.Placed.{Placed}
use Rattle.sql_meaning.specs.declared.script.Step.{Step}
use Rattle.sql_meaning.specs.declared.script.Body.{Body}
use Rattle.sql_text_cursor.specs.Table.{look, NoneOf, SomeOf, after}
use Rattle.sql_text_cursor.specs.Outcomes.{First, first_is, reading, got, Fault, fault_memory, handed, Looping, Gets, Stops, MayGet, MayStop}
use Rattle.sql_text_cursor.specs.Steps.{absent, the, last, the_name, begins_mark, may_some, may_none, may_stops}
use Rattle.sql_text_cursor.specs.declared.refusal.Refusal.{Refusal}

-- a name, AS and a body in brackets
pub step_got : (ts us vs ws xs ys : List Placed) (s : List ℕ) (b : Body) → First ts (t.Name s) us → First us (t.Mark m.As) vs → First vs (t.Mark m.Open) ws → Gets OneBody ws (a_body b) xs → First xs (t.Mark m.Close) ys → Gets OneStep ts (a_step (record { name = s; body = b })) ys
step_got ts us vs ws xs ys s b (first_is i) (first_is j) (first_is k) a (first_is l) =
    reading (λ c h. got_call OneStep (got_then (look c) refl (the_name c s i _) (got_then (look c) refl (the c m.As j _) (got_then (look c) refl (the c m.Open k ws) (got_then (look c) refl (got a c h) (last c [] m.Close l ys))))))

pub step_name_stops : (ts : List Placed) (r : Refusal) → Fault [] name ts r → Stops OneStep ts r
step_name_stops ts r a = handed (λ c h. in_call OneStep (in_first (look c) refl here)) a

pub step_as_stops : (ts us : List Placed) (s : List ℕ) (r : Refusal) → First ts (t.Name s) us → Fault [] (mark m.As) us r → Stops OneStep ts r
step_as_stops ts us s r (first_is i) a = handed (λ c h. in_call OneStep (in_rest (look c) refl (the_name c s i us) (in_first (look c) refl here))) a

pub step_open_stops : (ts us vs : List Placed) (s : List ℕ) (r : Refusal) → First ts (t.Name s) us → First us (t.Mark m.As) vs → Fault [] (mark m.Open) vs r → Stops OneStep ts r
step_open_stops ts us vs s r (first_is i) (first_is j) a = handed (λ c h. in_call OneStep (in_rest (look c) refl (the_name c s i _) (in_rest (look c) refl (the c m.As j vs) (in_first (look c) refl here)))) a

pub step_body_stops : (ts us vs ws : List Placed) (s : List ℕ) (r : Refusal) → First ts (t.Name s) us → First us (t.Mark m.As) vs → First vs (t.Mark m.Open) ws → Stops OneBody ws r → Stops OneStep ts r
step_body_stops ts us vs ws s r (first_is i) (first_is j) (first_is k) a = handed (λ c h. in_call OneStep (in_rest (look c) refl (the_name c s i _) (in_rest (look c) refl (the c m.As j _) (in_rest (look c) refl (the c m.Open k ws) (in_first (look c) refl here))))) a

pub step_close_stops : (ts us vs ws xs : List Placed) (s : List ℕ) (b : Body) (r : Refusal) → First ts (t.Name s) us → First us (t.Mark m.As) vs → First vs (t.Mark m.Open) ws → Gets OneBody ws (a_body b) xs → Fault [] (mark m.Close) xs r → Stops OneStep ts r
step_close_stops ts us vs ws xs s b r (first_is i) (first_is j) (first_is k) d a =
    handed (λ c h. in_call OneStep (in_rest (look c) refl (the_name c s i _) (in_rest (look c) refl (the c m.As j _) (in_rest (look c) refl (the c m.Open k ws) (in_rest (look c) refl (got d c h) here))))) a

pub ruleset step_steps = (fault_memory, step_got, step_name_stops, step_as_stops, step_open_stops, step_body_stops, step_close_stops)

abbrev pub next_step : Form Symbol Kind
next_step = mark m.Comma ⨾ call OneStep

-- a loop over steps
pub data StepLoop (ts : List Placed) (ss : List Step) (us : List Placed) : Type 0 where
  step_loop : Looping (a_mark m.Comma ∷ []) next_step (a_mark m.Comma ∷ []) (call Steps) ts (λ o. Made (step_list (ss ++ steps_in o))) us → StepLoop ts ss us

steps_start : (ts us vs : List Placed) (x : Step) → First ts (t.Mark m.With) us → Gets OneStep us (a_step x) vs → StepLoop ts (x ∷ []) vs
steps_start ts us vs x (first_is i) a = step_loop (λ c h. record {
  more = λ o ws r. got_call Steps (got_then (look c) refl (the c m.With i us) (got_then (look c) refl (got a c h) r));
  path = in_call Steps (in_rest (look c) refl (the c m.With i us) (in_rest (look c) refl (got a c h) here));
})

steps_step : (ts us vs ws : List Placed) (ss : List Step) (x : Step) → StepLoop ts ss us → First us (t.Mark m.Comma) vs → Gets OneStep vs (a_step x) ws → StepLoop ts (ss ++ (x ∷ [])) ws
steps_step ts us vs ws ss x (step_loop a) (first_is i) b = step_loop (λ c h.
    loop_step (look c) (λ o. Made (step_list ((ss ++ (x ∷ [])) ++ steps_in o))) refl (λ o. ap (λ l. Made (step_list l)) (sym (append_assoc ss (x ∷ []) (steps_in o)))) (begins_mark c m.Comma i vs) (a c h)
    (got_then (look c) refl (the c m.Comma i vs) (got b c h)))

pub steps_made : (ts us vs : List Placed) (x : Step) (ss none : List Step) → First ts (t.Mark m.With) us → Gets OneStep us (a_step x) vs → none ≡ [] → ss ≡ none ++ (x ∷ []) → StepLoop ts ss vs
steps_made ts us vs x ss none f a e h = subst (λ (l : List Step). StepLoop ts l vs) (sym (h ∙ ap (λ l. l ++ (x ∷ [])) e)) (steps_start ts us vs x f a)

pub steps_added : (ts us vs ws : List Placed) (ss all : List Step) (x : Step) → StepLoop ts ss us → First us (t.Mark m.Comma) vs → Gets OneStep vs (a_step x) ws → all ≡ ss ++ (x ∷ []) → StepLoop ts all ws
steps_added ts us vs ws ss all x a f b h = subst (λ (l : List Step). StepLoop ts l ws) (sym h) (steps_step ts us vs ws ss x a f b)

pub steps_end : (ts us : List Placed) (ss : List Step) → StepLoop ts ss us → NoneOf (a_mark m.Comma ∷ []) us → Gets Steps ts (step_list ss) us
steps_end ts us ss (step_loop a) none = reading (λ c h. subst (λ l. Got (grammar c) (among (after Steps)) (call Steps) ts (Made (step_list l)) us) (append-nil ss)
    (loop_end (look c) refl (absent c (a_mark m.Comma ∷ []) (next_step ⨾ many next_step) us refl none) (a c h)))

pub steps_with_stops : (ts : List Placed) (r : Refusal) → Fault [] (mark m.With) ts r → Stops Steps ts r
steps_with_stops ts r a = handed (λ c h. in_call Steps (in_first (look c) refl here)) a

pub steps_first_stops : (ts us : List Placed) (r : Refusal) → First ts (t.Mark m.With) us → Stops OneStep us r → Stops Steps ts r
steps_first_stops ts us r (first_is i) a = handed (λ c h. in_call Steps (in_rest (look c) refl (the c m.With i us) (in_first (look c) refl here))) a

pub steps_later_stops : (ts us vs : List Placed) (ss : List Step) (r : Refusal) → StepLoop ts ss us → First us (t.Mark m.Comma) vs → Stops OneStep vs r → Stops Steps ts r
steps_later_stops ts us vs ss r (step_loop b) (first_is i) a = handed (λ c h. in_loop (look c) refl (begins_mark c m.Comma i vs) (b c h) (in_rest (look c) refl (the c m.Comma i vs) here)) a

pub ruleset steps_steps = (fault_memory, steps_made, steps_added, steps_end, steps_with_stops, steps_first_stops, steps_later_stops)

-- steps that may be left out
pub data StepsAt : List Placed → List Step → List Placed → Type 0 where
  steps_at : {ts us : List Placed} (o : Parsed) → MayGet Steps ts o us → StepsAt ts (steps_of o) us

pub may_steps_some : (ts us : List Placed) (ss : List Step) → SomeOf (a_mark m.With ∷ []) ts → Gets Steps ts (step_list ss) us → StepsAt ts ss us
may_steps_some ts us ss h a = steps_at (Made (step_list ss)) (may_some Steps ts us (step_list ss) h a)

pub may_steps_none : (ts : List Placed) (ss : List Step) → NoneOf (a_mark m.With ∷ []) ts → ss ≡ [] → StepsAt ts ss ts
may_steps_none ts ss h e = subst (λ (l : List Step). StepsAt ts l ts) (sym e) (steps_at Nil (may_none Steps ts refl h))

pub may_steps_stop : (ts : List Placed) (r : Refusal) → SomeOf (a_mark m.With ∷ []) ts → Stops Steps ts r → MayStop Steps ts r
may_steps_stop ts r h a = may_stops Steps ts r h a

pub ruleset may_steps_steps = (fault_memory, may_steps_some, may_steps_none, may_steps_stop)

-- a script
pub script_got : (ts us vs : List Placed) (ss : List Step) (b : Body) → StepsAt ts ss us → Gets OneBody us (a_body b) vs → Gets WholeScript ts (a_script (record { steps = ss; last = b })) vs
script_got ts us vs ss b (steps_at o a) d = reading (λ c h. got_call WholeScript (got_then (look c) refl (got a c h) (got d c h)))

pub script_steps_stops : (ts : List Placed) (r : Refusal) → MayStop Steps ts r → Stops WholeScript ts r
script_steps_stops ts r a = handed (λ c h. in_call WholeScript (in_first (look c) refl here)) a

pub script_body_stops : (ts us : List Placed) (ss : List Step) (r : Refusal) → StepsAt ts ss us → Stops OneBody us r → Stops WholeScript ts r
script_body_stops ts us ss r (steps_at o b) a = handed (λ c h. in_call WholeScript (in_rest (look c) refl (got b c h) here)) a

pub ruleset script_steps = (fault_memory, script_got, script_steps_stops, script_body_stops)
