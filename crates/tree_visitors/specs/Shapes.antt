-- The depth stands for a node (this project's own).
use Rattle.std.specs.Prelude.{◌≡◌, ℕ}
use Rattle.sql_meaning.specs.Scripts.{expr_depth, core_depth, body_depth, depth_of, up_to}
use Rattle.sql_alias_meaning.specs.Nodes.{Made, of_expr, of_core, of_body, of_script}

abbrev pub IsDepth : Made ℕ ℕ ℕ ℕ → Type 0
IsDepth (of_expr n e) = n ≡ up_to 32 (expr_depth e)
IsDepth (of_core n c) = n ≡ up_to 32 (core_depth c)
IsDepth (of_body n b) = n ≡ up_to 32 (body_depth b)
IsDepth (of_script n s) = n ≡ up_to 32 (depth_of s)
