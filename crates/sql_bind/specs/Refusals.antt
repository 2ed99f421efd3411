-- The fault that a refusal tells.
use Rattle.std.specs.Prelude.{Option, Some, None}
use Rattle.sql_rows_meaning.specs.declared.fault.Fault.{Fault}
use Rattle.sql_rows_meaning.specs.declared.fault.FaultKind.TheVariants as kind
use Rattle.sql_bind.specs.declared.refusal.BindRefusal.{BindRefusal}
use Rattle.sql_bind.specs.declared.refusal.BindRefusal.TheVariants.{NoTable, NoColumn, Twice, KindClash, NotTruth, NoMemory}

abbrev pub fault_of : BindRefusal → Option Fault
fault_of (NoTable n) = Some (record { kind = kind.NoTable; select = n })
fault_of (NoColumn n) = Some (record { kind = kind.NoColumn; select = n })
fault_of (Twice n) = Some (record { kind = kind.Twice; select = n })
fault_of (KindClash n) = Some (record { kind = kind.KindClash; select = n })
fault_of (NotTruth n) = Some (record { kind = kind.NotTruth; select = n })
fault_of NoMemory = None
