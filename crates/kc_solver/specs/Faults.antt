-- faults of an order
use Rattle.std.specs.Prelude.{ℕ, List}
use Rattle.kc_solver.specs.declared.orders.OrderFault.{OrderFault}
use Rattle.kc_solver.specs.declared.orders.OrderFault.TheVariants.{Cycle, OutOfMemory}
use Rattle.kc_solver.specs.Dependencies.{IsCycle, IsNamedCycle}

-- the fault is the cycle to report (`IsNamedCycle`), or out of memory, which says nothing about the units
abbrev pub ReportsCycle : (size : ℕ) (dependencies : ℕ → List ℕ) → OrderFault → Type 0
ReportsCycle size dependencies (Cycle units) = IsNamedCycle size dependencies units.items × IsCycle size dependencies units.items
ReportsCycle size dependencies OutOfMemory = Unit {0}
