use Rattle.kmin_inputs.proofs.Common.{◌≡◌, ◌≤◌, ℕ, List, [], map, take, Bor, FilesRecord, TakesLines}
use Rattle.kmin_inputs.proofs.answers.file_answers.Given as goal

abbrev pub invariant-loop-path : goal.invariant-loop-path
invariant-loop-path g l = record {
  same : g.F.Files.surroundings l.files ≡ g.F.Files.surroundings l.fn.files;
  rising : g.F.Files.failures l.fn.files ≤ g.F.Files.failures l.files;
  recorded : FilesRecord (g.F.Files.surroundings l.fn.files).content (map (λ (path : Bor (List ℕ)). path.now) (take l.path-index l.paths)) [] l.answers;
  reported : TakesLines (g.E.Messages.taken l.fn.err) (g.E.Messages.failures l.fn.err) [] (g.E.Messages.taken l.err) (g.E.Messages.failures l.err);
}
