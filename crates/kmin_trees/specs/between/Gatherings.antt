-- The texts of a tree's files, as they are gathered from below its root.
use Rattle.std.specs.Prelude.{◌≡◌, ℕ, ◌≤◌}
use Rattle.kmin_inputs.specs.FileContents.{AreTextsBelow, Surroundings}
use Rattle.kmin_trees.specs.declared.tree_files.Gathering.{Gathering}

-- the texts match what is known of the files below the root
abbrev pub AreBelow : Surroundings → Gathering → Type 0
AreBelow known g = AreTextsBelow known.content g.root.now g.texts.language g.texts

-- further files came to the texts, or none: these still match what is known of the files, which stays, and failures are only counted up
pub record Gathers (known known_after : Surroundings) (failed failed_after : ℕ) (before after : Gathering) : Type 0 where
  pub same : known_after ≡ known
  pub root : after.root.now ≡ before.root.now
  pub first : after.first.now ≡ before.first.now
  pub below : AreTextsBelow known.content before.root.now before.texts.language after.texts
  pub rising : failed ≤ failed_after
