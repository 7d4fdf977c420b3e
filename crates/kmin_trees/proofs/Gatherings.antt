-- The texts of a tree's files, as they are gathered.
use Rattle.kmin_trees.proofs.Common.{◌≡◌, ℕ, ◌≤◌, List, refl, sym, ◌∙◌, subst, arith, Files, Language, AreTextsBelow, Surroundings}
use Rattle.kmin_trees.proofs.Common.{LacksOnlyMissing}
use Rattle.kmin_trees.proofs.MissingFiles.{lacks_over}
use Rattle.kmin_trees.specs.between.Gatherings.{AreBelow, Gathers}
use Rattle.kmin_trees.specs.declared.tree_files.Gathering.{Gathering}

-- what further files came to is what more can come to
pub still_below : (known known_after : Surroundings) (failed failed_after : ℕ) (before after : Gathering) → Gathers known known_after failed failed_after before after
    → AreBelow known_after after
still_below known known_after failed failed_after before after h =
    subst (λ (s : Surroundings). AreTextsBelow s.content after.root.now after.texts.language after.texts) (sym h.same)
    (subst (λ (r : List ℕ). AreTextsBelow known.content r after.texts.language after.texts) (sym h.root)
    (record { in_language = refl; content = h.below.content }))

-- texts that match what is known of the files after more came do so by what was known before
pub below_further : (known known_middle : Surroundings) (failed failed_middle : ℕ) (before middle : Gathering) → Gathers known known_middle failed failed_middle before middle
    → (language : Language) → before.texts.language ≡ language → (texts : Files)
    → AreTextsBelow known_middle.content middle.root.now middle.texts.language texts → AreTextsBelow known.content before.root.now language texts
below_further known known_middle failed failed_middle before middle h language e texts below =
    subst (λ (s : Surroundings). AreTextsBelow s.content before.root.now language texts) h.same
    (subst (λ (r : List ℕ). AreTextsBelow known_middle.content r language texts) h.root
    (subst (λ (l : Language). AreTextsBelow known_middle.content middle.root.now l texts) (h.below.in_language ∙ e) below))

-- files come to the texts one after another
pub gathers_on : (known known_middle known_after : Surroundings) (failed failed_middle failed_after : ℕ) (before middle after : Gathering)
    → Gathers known known_middle failed failed_middle before middle → Gathers known_middle known_after failed_middle failed_after middle after
    → Gathers known known_after failed failed_after before after
gathers_on known known_middle known_after failed failed_middle failed_after before middle after h k = record {
  same = k.same ∙ h.same;
  root = k.root ∙ h.root;
  first = k.first ∙ h.first;
  below = below_further known known_middle failed failed_middle before middle h before.texts.language refl after.texts k.below;
  rising = omega (arith, h.rising, k.rising);
}

-- before any file comes to the texts
pub gathers_none : (known : Surroundings) (failed : ℕ) (g : Gathering) → AreBelow known g → Gathers known known failed failed g g
gathers_none known failed g h = record {
  same = refl;
  root = refl;
  first = refl;
  below = h;
  rising = omega arith;
}

-- texts that lack only missing files after more files came lack only such from an earlier count on
pub lacks_after : (known known_middle : Surroundings) (failed failed_middle failed_after : ℕ) (before middle : Gathering)
    → Gathers known known_middle failed failed_middle before middle → (texts : Files) → failed_middle ≤ failed_after
    → LacksOnlyMissing known_middle.content middle.root.now middle.first.now texts failed_middle failed_after
    → LacksOnlyMissing known.content before.root.now before.first.now texts failed failed_after
lacks_after known known_middle failed failed_middle failed_after before middle h texts up lacks =
    lacks_over known.content before.root.now before.first.now texts failed failed_middle failed_after failed_after h.rising up (omega arith)
    (subst (λ (s : Surroundings). LacksOnlyMissing s.content before.root.now before.first.now texts failed_middle failed_after) h.same
    (subst (λ (r : List ℕ). LacksOnlyMissing known_middle.content r before.first.now texts failed_middle failed_after) h.root
    (subst (λ (f : List ℕ). LacksOnlyMissing known_middle.content middle.root.now f texts failed_middle failed_after) h.first lacks)))
