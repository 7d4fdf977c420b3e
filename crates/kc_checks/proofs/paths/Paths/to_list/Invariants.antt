use Rattle.kc_checks.proofs.Common.{◌≡◌, map, take, string_bytes}
use Rattle.kc_checks.proofs.paths.Paths.to_list.Given as goal

abbrev pub invariant-loop-path : goal.invariant-loop-path
invariant-loop-path l = map string_bytes l.list.items ≡ map string_bytes (take l.path-index l.path-items)
