use Rattle.kmin_inputs.proofs.Common.{◌≡◌, ℕ, List, [], map, take, Bor, texts_of, TakesLines, inputs_named, AreFilesRead}
use Rattle.kmin_inputs.proofs.word_files.read_lists.Given as goal

abbrev pub invariant-loop-path : goal.invariant-loop-path
invariant-loop-path g l = record {
  same : g.F.Files.surroundings l.files ≡ g.F.Files.surroundings l.fn.files;
  unfailed : g.F.Files.failures l.files ≡ g.F.Files.failures l.fn.files;
  input_unfailed : g.I.Source.failures l.input ≡ g.I.Source.failures l.fn.input;
  untouched : inputs_named (map (λ (path : Bor (List ℕ)). path.now) (take l.path-index l.paths)) ≡ 0 → g.I.Source.left l.input ≡ g.I.Source.left l.fn.input;
  read : AreFilesRead (g.F.Files.surroundings l.fn.files).content (g.I.Source.left l.fn.input) (map (λ (path : Bor (List ℕ)). path.now) (take l.path-index l.paths)) (texts_of l.all);
  reported : TakesLines (g.E.Messages.taken l.fn.err) (g.E.Messages.failures l.fn.err) [] (g.E.Messages.taken l.err) (g.E.Messages.failures l.err);
}
