use Rattle.std.proofs.Common.{◌≡◌, length, take}
use Rattle.kc_dotconfig.proofs.assigned_values.map_of.Given as goal

abbrev pub invariant-loop-unit : goal.invariant-loop-unit
invariant-loop-unit l = l.map.entries ≡ take (length l.yielded) l.fn.listed.items
