-- Every node of a script (this project's own).
use Rattle.sql_alias_meaning.specs.Nodes.{Node}

-- a visitor with no condition takes each node
abbrev pub AnyNode : Node → Type 0
AnyNode n = Unit {0}
