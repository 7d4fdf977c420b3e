use Rattle.kc_dotconfig.proofs.Common.{◌≡◌, ℕ, drop, nat_cmp, is_listed, kept_last}
use Rattle.std.specs.Prelude.{reverse}
use Rattle.std.specs.BTreeSet.{contains}
use Rattle.kc_dotconfig.proofs.gathered_lines.last_lines.Given as goal

abbrev pub invariant-loop-i : goal.invariant-loop-i
invariant-loop-i l = record {
  kept : reverse l.kept.items ≡ kept_last (drop l.i l.lines);
  seen : (s : ℕ) → contains nat_cmp l.seen s ≡ is_listed (drop l.i l.lines) s;
}
