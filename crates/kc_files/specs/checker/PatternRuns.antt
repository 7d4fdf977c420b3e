-- Paths that match patterns, as programs of `kc_macros_model` find them.
use Rattle.std.specs.Prelude.{◌≡◌, ℕ, ◌<◌, length, List, [], ◌∷◌, ◌++◌, map, Option, Some, Result, Ok, Err}
use Rattle.kc_macros_model.specs.Programs.{Place, Program, returns, ◌>>=◌}
use Rattle.kc_macros_model.specs.Worlds.{returned, failed}
use Rattle.kc_macros_model.specs.PathPatterns.{FoundPaths, found, path_pieces}
use Rattle.kc_files.specs.declared.patterns.FoundPaths.{FoundPaths as CodePaths}
use Rattle.kc_files.specs.declared.patterns.PatternStop.{PatternStop}
use Rattle.kc_files.specs.declared.patterns.PatternStop.TheVariants.{TooMany, Unlisted, OutOfMemory}
use Rattle.kc_files.specs.between.KnownFiles.{FolderRead, too_many, unlisted, KnownFiles}
use Rattle.kc_files.specs.between.FileRuns.{Comes, missing_at, too_many_at}
use Rattle.kc_files.specs.TextViews.{texts_of}

-- the paths that the code found and the number of names that it listed, as `FoundPaths` of `kc_macros_model`
abbrev pub found_of : CodePaths → FoundPaths
found_of f = found (texts_of f.paths) f.listed

-- a program finds the paths of the code's result, or fails as the result does, by `TooMany` or for a folder that can't be listed;
-- where memory ran out, the program may do anything
abbrev pub Finds : KnownFiles → Place → Program FoundPaths → Result CodePaths PatternStop → Type 0
Finds known at p (Ok f) = Comes known p (returned (found_of f))
Finds known at p (Err TooMany) = Comes known p (failed (too_many_at at))
Finds known at p (Err Unlisted) = Comes known p (failed (missing_at at))
Finds known at p (Err OutOfMemory) = Unit {0}

-- a program finds the paths that `after` has in addition to those of `before`, or fails as the code's result does; where memory ran out, the program may do anything
abbrev pub FindsMore : {T : Type 0} → KnownFiles → Place → Program FoundPaths → (before after : FoundPaths) → Result T PatternStop → Type 0
FindsMore known at p before after (Ok x) = (more : List (List ℕ)) × (after.paths ≡ before.paths ++ more) × Comes known p (returned (found more after.listed))
FindsMore known at p before after (Err TooMany) = Comes known p (failed (too_many_at at))
FindsMore known at p before after (Err Unlisted) = Comes known p (failed (missing_at at))
FindsMore known at p before after (Err OutOfMemory) = Unit {0}

-- the code stops at a folder that was listed, since it has too many names or can't be listed
abbrev pub StopsAtFolder : PatternStop → Option FolderRead → Type 0
StopsAtFolder TooMany read = read ≡ Some too_many
StopsAtFolder Unlisted read = read ≡ Some unlisted
StopsAtFolder OutOfMemory read = ⊥

-- a program that finds paths, with a slash after each path
abbrev pub slashed : Program FoundPaths → Program FoundPaths
slashed p = p >>= λ f. returns (found (map (λ path. path ++ 47 ∷ []) f.paths) f.listed)

-- a path is cut at its first slash: `piece` comes before the slash, and `tail` after it
pub record IsCutPattern (path piece tail : List ℕ) : Type 0 where
  pub pieces : path_pieces path ≡ piece ∷ path_pieces tail
  pub shorter : length tail < length path
