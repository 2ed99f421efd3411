-- The count of primary references stands for a node (this project's own).
use Rattle.std.specs.Prelude.{◌≡◌, ℕ, ◌+◌, List, [], ◌∷◌, map, refl}
use Rattle.std.proofs.Common.{arith}
use Rattle.sql_meaning.specs.Scripts.{total, core_refs, body_refs, step_refs, refs_of, up_to}
use Rattle.sql_meaning.specs.declared.script.Core.{Core}
use Rattle.sql_meaning.specs.declared.script.Step.{Step}
use Rattle.sql_alias_meaning.specs.Each.{Each, none, next}
use Rattle.sql_alias_meaning.specs.Nodes.{Made, of_expr, of_core, of_body, of_script}

-- an expression has no source
abbrev pub IsCount : Made ℕ ℕ ℕ ℕ → Type 0
IsCount (of_expr n e) = n ≡ 0
IsCount (of_core n c) = n ≡ up_to 64 (core_refs c)
IsCount (of_body n b) = n ≡ up_to 64 (body_refs b)
IsCount (of_script n s) = n ≡ up_to 64 (refs_of s)

stopped-sum : (a b x y : ℕ) → x ≡ up_to 64 a → up_to 64 y ≡ up_to 64 b → up_to 64 (x + y) ≡ up_to 64 (a + b)
stopped-sum a b x y h k = omega arith

pub cores_counted : (ns : List ℕ) (cs : List Core) → Each (λ n (c : Core). n ≡ up_to 64 (core_refs c)) ns cs → up_to 64 (total ns) ≡ up_to 64 (total (map core_refs cs))
cores_counted [] [] none = refl
cores_counted [] (c ∷ cs) h = elim h [ ]
cores_counted (n ∷ ns) [] h = elim h [ ]
cores_counted (n ∷ ns) (c ∷ cs) (next h e) = stopped-sum (core_refs c) (total (map core_refs cs)) n (total ns) h (cores_counted ns cs e)

pub steps_counted : (ns : List ℕ) (ss : List Step) → Each (λ n (s : Step). n ≡ up_to 64 (body_refs s.body)) ns ss → up_to 64 (total ns) ≡ up_to 64 (total (map step_refs ss))
steps_counted [] [] none = refl
steps_counted [] (s ∷ ss) h = elim h [ ]
steps_counted (n ∷ ns) [] h = elim h [ ]
steps_counted (n ∷ ns) (s ∷ ss) (next h e) = stopped-sum (step_refs s) (total (map step_refs ss)) n (total ns) h (steps_counted ns ss e)

pub ruleset counts = (cores_counted, steps_counted)
