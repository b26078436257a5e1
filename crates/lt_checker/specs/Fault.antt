-- The names of the faults of a line.
use Rattle.std.specs.Prelude.{ℕ, List, codes}
use Rattle.lt_checker.specs.declared.error.Fault.{Fault}
use Rattle.lt_checker.specs.declared.error.Fault.TheVariants.{Header, Shape, KeyOrder, Index, WrongReply, WrongLets}

-- The name of a fault.
abbrev pub fault_name : Fault → List ℕ
fault_name Header = codes "Header"
fault_name Shape = codes "Shape"
fault_name KeyOrder = codes "KeyOrder"
fault_name Index = codes "Index"
fault_name WrongReply = codes "WrongReply"
fault_name WrongLets = codes "WrongLets"
