-- Faults for lack of memory.
use Rattle.std.specs.Prelude.{◌≡◌}
use Rattle.kc_tokens.specs.declared.fault.ExprFault.{ExprFault}
use Rattle.kc_tokens.specs.declared.fault.ExprKind.TheVariants.{OutOfMemory}

-- a fault is that memory ran out, which has the offset 0
abbrev pub IsOutOfMemory : ExprFault → Type 0
IsOutOfMemory fault = (fault.kind ≡ OutOfMemory) × (fault.offset ≡ 0)
