use Rattle.kc_symbol_lines.proofs.Common.{◌≡◌, ℕ, suc, List, ◌++◌, option_map, unwrap_or, IsChain}
use Rattle.kc_symbol_lines.proofs.blocks.blocks_from.Given as goal

abbrev pub invariant-loop-at : goal.invariant-loop-at
invariant-loop-at l = (numbers : List ℕ) → IsChain l.blocks l.fn.block numbers → (rest : List ℕ) × IsChain l.blocks l.at rest × (l.found.items ++ rest ≡ numbers)

abbrev pub decreases-loop-at : goal.decreases-loop-at
decreases-loop-at l = unwrap_or (option_map suc l.at) 0
