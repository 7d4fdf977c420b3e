use Rattle.std.proofs.Common.{Result, IfOk, IfErr}
use Rattle.kc_checks.proofs.Common.{◌≡◌, ◌⊎◌, ℕ, List, Ok, Err, map, subst, arith, common_steps, elements, string_bytes, TreeFault, no_memory, paths_in}
use Rattle.kc_checks.proofs.ReadSteps.{wanted_is}
use Rattle.kc_checks.proofs.missing_files.missing_paths.Goals as goal

pub returns-in-Ok-clause-paths : goal.returns-in-Ok-clause-paths
returns-in-Ok-clause-paths c =
    subst (λ (w : Result (List (List ℕ)) TreeFault). IfOk c.wanted_or_fault.result (λ list. w ≡ Ok (map string_bytes list.items)))
    (wanted_is c.args.texts.now c.args.root.now c.args.listing.now c.args.fault (c.is_out_of_memory.ensures.other c.if-is_out_of_memory.false)
    (paths_in c.in-Ok.paths) c.requires.fault c.requires.read c.in-Ok.ensures) c.wanted_or_fault.ensures.paths

pub returns-in-Ok-clause-fault : goal.returns-in-Ok-clause-fault
returns-in-Ok-clause-fault c =
    subst (λ (w : Result (List (List ℕ)) TreeFault). IfErr c.wanted_or_fault.result (λ f. (f ≡ no_memory) ⊎ (w ≡ Err f)))
    (wanted_is c.args.texts.now c.args.root.now c.args.listing.now c.args.fault (c.is_out_of_memory.ensures.other c.if-is_out_of_memory.false)
    (paths_in c.in-Ok.paths) c.requires.fault c.requires.read c.in-Ok.ensures) c.wanted_or_fault.ensures.fault

pub returns-in-Err-clause-paths : goal.returns-in-Err-clause-paths
returns-in-Err-clause-paths c = grind (arith, common_steps)

pub returns-then-is_out_of_memory-clause-paths : goal.returns-then-is_out_of_memory-clause-paths
returns-then-is_out_of_memory-clause-paths c = grind (arith, elements)

pub returns-in-Err-clause-fault : goal.returns-in-Err-clause-fault
returns-in-Err-clause-fault c = grind (arith, common_steps)

pub returns-then-is_out_of_memory-clause-fault : goal.returns-then-is_out_of_memory-clause-fault
returns-then-is_out_of_memory-clause-fault c = grind (arith, common_steps)
