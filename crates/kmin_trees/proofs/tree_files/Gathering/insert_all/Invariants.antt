use Rattle.kmin_trees.proofs.Common.{◌≡◌, ◌≤◌, length, take, string_bytes, All}
use Rattle.kmin_trees.proofs.MissingFiles.{IsTried}
use Rattle.kmin_trees.specs.between.Gatherings.{Gathers}
use Rattle.kmin_trees.proofs.tree_files.Gathering.insert_all.Given as goal

abbrev pub invariant-paths : goal.invariant-paths
invariant-paths g l = record {
  gathered : Gathers (g.F.Files.surroundings l.fn.files) (g.F.Files.surroundings l.files) (g.F.Files.failures l.fn.files) (g.F.Files.failures l.files) l.fn.self l.self;
  grows : length l.fn.self.texts.list ≤ length l.self.texts.list;
  texts : length l.self.texts.list ≤ length l.fn.self.texts.list → l.self.texts ≡ l.fn.self.texts;
  tried : length l.self.texts.list ≤ length l.fn.self.texts.list
      → All (IsTried (g.F.Files.surroundings l.fn.files).content l.fn.self.root.now string_bytes l.fn.self.texts (g.F.Files.failures l.fn.files) (g.F.Files.failures l.files)) (take l.path-index l.paths);
}
