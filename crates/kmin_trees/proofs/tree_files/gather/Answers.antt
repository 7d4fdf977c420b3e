use Rattle.kmin_trees.proofs.Common.{ℕ, List, subst, arith, refl, common_steps, if_ok_map, Language, AreTextsBelow}
use Rattle.kmin_trees.specs.between.Readings.{IsReadWith}
use Rattle.kmin_trees.proofs.MissingFiles.{any_err}
use Rattle.kmin_trees.proofs.TextGrowth.{below_none}
use Rattle.kmin_trees.proofs.Gatherings.{still_below, below_further, lacks_after}
use Rattle.kmin_trees.proofs.tree_files.gather.Goals as goal

pub open_first-requires : goal.open_first-requires
open_first-requires g c =
    record {
      below = below_none (g.F.Files.surroundings c.args.files.now).content c.args.root.now _ c.with_language.result refl
          c.with_language.ensures.empty;
    }

pub gather_wanted-requires : goal.gather_wanted-requires
gather_wanted-requires g c = record { below = still_below _ _ _ _ _ _ c.open_first.ensures.gathered }

pub returns-then-lacks_file-clause-below : goal.returns-then-lacks_file-clause-below
returns-then-lacks_file-clause-below g c =
    if_ok_map c.gather_wanted.result _ _ (λ gathered below.
    below_further _ _ _ _ _ _ c.open_first.ensures.gathered c.args.language c.with_language.ensures.language gathered.texts below)
    c.gather_wanted.ensures.below

pub returns-then-lacks_file-clause-read : goal.returns-then-lacks_file-clause-read
returns-then-lacks_file-clause-read g c =
    if_ok_map c.gather_wanted.result _ _ (λ gathered read.
    subst (λ (f : List ℕ). IsReadWith _ g.L.KeptLines.are_of gathered.texts f gathered.read) c.open_first.ensures.gathered.first read)
    c.gather_wanted.ensures.read

pub returns-then-lacks_file-clause-missing : goal.returns-then-lacks_file-clause-missing
returns-then-lacks_file-clause-missing g c =
    if_ok_map c.gather_wanted.result _ _ (λ gathered lacks. any_err gathered.read _ (λ fault missing.
    lacks_after _ _ _ _ _ _ _ c.open_first.ensures.gathered gathered.texts c.gather_wanted.ensures.rising lacks))
    c.gather_wanted.ensures.missing

pub returns-clause-below : goal.returns-clause-below
returns-clause-below g c =
    subst (λ (l : Language). AreTextsBelow (g.F.Files.surroundings c.args.files.now).content c.args.root.now l c.open_first.new.self.texts)
    c.with_language.ensures.language c.open_first.ensures.gathered.below

pub returns-clause-read : goal.returns-clause-read
returns-clause-read c = grind (arith, common_steps)
