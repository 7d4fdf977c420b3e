-- The faults and the absent paths of files.
use Rattle.std.proofs.Common.{◌≢◌}
use Rattle.kc_checks.proofs.Common.{◌≡◌, ◌⊎◌, inl, inr, ℕ, List, [], ◌∷◌, ◌++◌, refl, sym, ◌∙◌, Option, Some, None, Err, slice_get, filter_map, Language, TreeFault, Files, Group, sourced_path, without_repeats, wanted_related, Listing, no_memory, is_absent, filter, RepresentsListing}
use Rattle.kc_tree_model.specs.TreeReading.{Outcome, reading, lenient_reading, wanted_by, paths_or_fault, files_wanted}
use Rattle.kc_tree_model.specs.TreeFaults.{tree_faults, first_tree_fault, first_fault_after}
use Rattle.kc_tree_model.specs.TreesOfFiles.{IsReportedFault, AreWanted}
use Rattle.kc_tree_model.proofs.ReadingLaws.TreesOfRelation.{reported_related}

after_some : (language : Language) (o : Outcome) (f : TreeFault) → o.fault ≡ Some f → first_fault_after language o ≡ Some f
after_some language o f e = rw e refl

after_none : (language : Language) (o : Outcome) → o.fault ≡ None → first_fault_after language o ≡ slice_get (tree_faults language o.read) 0
after_none language o e = rw e refl

some_is : (f g : TreeFault) → Some f ≡ Some g → f ≡ g
some_is f g e = cc

module _ (files : Files) (root : List ℕ) (l : Listing) (given : Option TreeFault) (fault : (given ≡ Some no_memory) ⊎ (given ≡ (reading files root).fault))
    (read : (given ≡ Some no_memory) ⊎ RepresentsListing l (reading files root).read) where
  reported_by : (f : TreeFault) → given ≡ Some f → (given ≡ Some no_memory) ⊎ (given ≡ (reading files root).fault)
      → (f ≡ no_memory) ⊎ (first_tree_fault files root ≡ Some f)
  unfolding first_tree_fault
  reported_by f e (inl m) = inl (some_is f no_memory (sym e ∙ m))
  reported_by f e (inr h) = inr (after_some files.language (reading files root) f (sym h ∙ e))

  -- a fault returned by reading is out of memory, or the first fault of the files
  pub reported_of_reading : (f : TreeFault) → given ≡ Some f → (f ≡ no_memory) ⊎ (first_tree_fault files root ≡ Some f)
  reported_of_reading f e = reported_by f e fault

  unfailed_by : given ≡ None → (given ≡ Some no_memory) ⊎ (given ≡ (reading files root).fault) → (reading files root).fault ≡ None
  unfailed_by e (inl m) = cc
  unfailed_by e (inr h) = sym h ∙ e

  pub unfailed_of : given ≡ None → (reading files root).fault ≡ None
  unfailed_of e = unfailed_by e fault

  shown_by : given ≡ None → (given ≡ Some no_memory) ⊎ RepresentsListing l (reading files root).read → RepresentsListing l (reading files root).read
  shown_by e (inl m) = cc
  shown_by e (inr h) = h

  pub shown_of_reading : given ≡ None → RepresentsListing l (reading files root).read
  shown_of_reading e = shown_by e read

  -- if reading has no fault, the first fault of the files is the first of the checks on the whole tree
  pub reported_tree_fault : (o : Option TreeFault) → given ≡ None → o ≡ slice_get (tree_faults files.language (reading files root).read) 0
      → first_tree_fault files root ≡ o
  unfolding first_tree_fault
  reported_tree_fault o e h = after_none files.language (reading files root) (unfailed_of e) ∙ sym h

  -- a fault of the checks after reading without a fault is out of memory, or the first fault of the files
  pub reported_of_checks : (f : TreeFault) → given ≡ None
      → (f ≡ no_memory) ⊎ (Some f ≡ slice_get (tree_faults files.language (reading files root).read) 0)
      → (f ≡ no_memory) ⊎ (first_tree_fault files root ≡ Some f)
  reported_of_checks f e (inl m) = inl m
  reported_of_checks f e (inr h) = inr (reported_tree_fault (Some f) e h)

-- a returned fault, if not out of memory but the first fault of the files, is their reported fault
pub reported_or_memory : (files : Files) (root : List ℕ) (f : TreeFault) → (f ≡ no_memory) ⊎ (first_tree_fault files root ≡ Some f)
    → (f ≡ no_memory) ⊎ IsReportedFault files root f
reported_or_memory files root f (inl m) = inl m
reported_or_memory files root f (inr h) = inr ((reported_related files root f).0 h)

pub wanted_or_memory : (files : Files) (root : List ℕ) (f : TreeFault) → (f ≡ no_memory) ⊎ (files_wanted files root ≡ Err f)
    → (f ≡ no_memory) ⊎ AreWanted files root (Err f)
wanted_or_memory files root f (inl m) = inl m
wanted_or_memory files root f (inr h) = inr ((wanted_related files root (Err f)).0 h)

-- the result for absent paths
module _ (files : Files) (root : List ℕ) (l : Listing) (given : Option TreeFault) (ample : given ≢ Some no_memory) where
  fault_by : (given ≡ Some no_memory) ⊎ (given ≡ (lenient_reading files root).fault) → given ≡ (lenient_reading files root).fault
  fault_by (inl m) = absurd (ample m)
  fault_by (inr h) = h

  read_by : (given ≡ Some no_memory) ⊎ RepresentsListing l (lenient_reading files root).read → RepresentsListing l (lenient_reading files root).read
  read_by (inl m) = absurd (ample m)
  read_by (inr h) = h

  pub wanted_is : (paths : List (List ℕ)) → (given ≡ Some no_memory) ⊎ (given ≡ (lenient_reading files root).fault)
      → (given ≡ Some no_memory) ⊎ RepresentsListing l (lenient_reading files root).read
      → ((read : List Group) → RepresentsListing l read → paths ≡ filter (is_absent files) (without_repeats (filter_map sourced_path read ++ root ∷ [])))
      → paths_or_fault paths given ≡ files_wanted files root
  unfolding files_wanted wanted_by
  wanted_is paths f r h = rw (fault_by f, h (lenient_reading files root).read (read_by r)) refl
