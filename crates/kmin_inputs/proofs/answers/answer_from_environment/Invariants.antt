use Rattle.kmin_inputs.proofs.Common.{◌≡◌, ℕ, List, map, take, Bor, AreLent}
use Rattle.kmin_inputs.proofs.answers.answer_from_environment.Given as goal

abbrev pub invariant-loop-name : goal.invariant-loop-name
invariant-loop-name g l = record {
  same : g.F.Files.surroundings l.files ≡ g.F.Files.surroundings l.fn.files;
  uncounted : g.F.Files.failures l.files ≡ g.F.Files.failures l.fn.files;
  lent : AreLent (g.F.Files.surroundings l.fn.files).variable (map (λ (name : Bor (List ℕ)). name.now) (take l.name-index l.names)) l.fn.answers l.answers;
}
