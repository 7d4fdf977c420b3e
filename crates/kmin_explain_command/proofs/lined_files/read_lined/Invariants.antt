use Rattle.kmin_explain_command.proofs.Common.{◌≡◌, ◌≤◌, ℕ, List, [], map, take, Bor, tree_of_settled, IsSolved, file_format, empty_assignment, lists_of, AreLined}
use Rattle.kmin_explain_command.proofs.lined_files.read_lined.Given as goal

abbrev pub invariant-loop-path : goal.invariant-loop-path
invariant-loop-path g l = record {
  same : g.F.Files.surroundings l.files ≡ g.F.Files.surroundings l.fn.files;
  rising : g.F.Files.failures l.fn.files ≤ g.F.Files.failures l.files;
  settled : l.found.read.config.system ≡ l.settled;
  solved : IsSolved l.found.read.config;
  lined : AreLined (g.F.Files.surroundings l.fn.files).content (file_format l.settings.format) l.settings.strict (tree_of_settled l.settled)
      (map (λ (path : Bor (List ℕ)). path.now) (take l.path-index l.paths)) (empty_assignment (tree_of_settled l.settled)) l.found.read.config.users [] (lists_of l.found.read.chosen.items) [] l.found.lines.items (g.E.Messages.taken l.fn.err)
      (g.E.Messages.failures l.fn.err) (g.E.Messages.taken l.err) (g.E.Messages.failures l.err);
}
