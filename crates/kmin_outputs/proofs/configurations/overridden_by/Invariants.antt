use Rattle.kmin_outputs.proofs.Common.{◌≡◌, ◌≤◌, ℕ, List, map, take, Bor, tree_of_settled, IsSolved, file_format, AreRead, lists_of}
use Rattle.kmin_outputs.proofs.configurations.overridden_by.Given as goal

abbrev pub invariant-loop-path : goal.invariant-loop-path
invariant-loop-path g l = record {
  same : g.F.Files.surroundings l.files ≡ g.F.Files.surroundings l.fn.files;
  rising : g.F.Files.failures l.fn.files ≤ g.F.Files.failures l.files;
  settled : l.read.config.system ≡ l.settled;
  solved : IsSolved l.read.config;
  loaded : AreRead (g.F.Files.surroundings l.fn.files).content (file_format l.settings.format) l.settings.strict (tree_of_settled l.settled)
      (map (λ (path : Bor (List ℕ)). path.now) (take l.path-index l.paths)) l.fn.begun.config.users l.read.config.users (lists_of l.fn.begun.chosen.items) (lists_of l.read.chosen.items) (g.E.Messages.taken l.fn.err)
      (g.E.Messages.failures l.fn.err) (g.E.Messages.taken l.err) (g.E.Messages.failures l.err);
}
