-- The tree of files and the reported fault, by the relation of reading.
use Rattle.kc_tree_model.proofs.Common.{◌≡◌, inl, inr, ℕ, List, Option, Some, None, Result, refl, ap, sym, ◌∙◌, subst, ◌↔◌, slice_get, option_or, TreeFault, Files, Tree, FileSource, Outcome, paths_or_fault, reading_from, IsCutReading}
use Rattle.kc_tree_model.specs.TreeReading.{reading, lenient_reading, wanted_by, files_wanted}
use Rattle.kc_tree_model.specs.ReadingRelation.{IsOutcome}
use Rattle.kc_tree_model.specs.Contents.{tree_of_groups, tree_of_files}
use Rattle.kc_tree_model.specs.TreeFaults.{tree_faults, first_fault_after, first_tree_fault}
use Rattle.kc_tree_model.specs.TreesOfFiles.{origin_of, lenient_origin, IsTreeOfFiles, IsReportedFault, absent_paths, AreWanted}
use Rattle.kc_tree_model.proofs.Consistency.Definitions.{no_first}
use Rattle.kc_tree_model.proofs.ReadingLaws.ReadingCompleteness.{whole_read, cut_read}
use Rattle.kc_tree_model.proofs.ReadingLaws.ReadingSoundness.{whole_related, cut_related}

-- an outcome is what is read
outcome_by : (r : FileSource) (o : Outcome) (k : Option TreeFault) → o.fault ≡ k → reading_from r ≡ o → IsOutcome r o
outcome_by r o None e h = inl ((whole_related r o.read).0 (h ∙ ap (λ k. record { read = o.read; fault = k }) e), e)
outcome_by r o (Some fault) e h =
    let same : o ≡ record { read = o.read; fault = Some fault } = ap (λ k. record { read = o.read; fault = k }) e in
    inr (subst (IsCutReading r) (sym same) ((cut_related r o.read fault).0 (h ∙ same)))

outcome_read : (r : FileSource) (o : Outcome) → IsOutcome r o → reading_from r ≡ o
outcome_read r o (inl h) = whole_read r o.read h.0 ∙ sym (ap (λ k. record { read = o.read; fault = k }) h.1)
outcome_read r o (inr h) = (cut_read r o h).0

pub outcome_related : (r : FileSource) (o : Outcome) → (reading_from r ≡ o) ↔ IsOutcome r o
outcome_related r o = (outcome_by r o o.fault refl, outcome_read r o)

pub some_outcome : (r : FileSource) → (o : Outcome) × IsOutcome r o
some_outcome r = (reading_from r, outcome_by r (reading_from r) (reading_from r).fault refl refl)

pub one_outcome : (r : FileSource) (o other : Outcome) → IsOutcome r o → IsOutcome r other → o ≡ other
one_outcome r o other a b = sym (outcome_read r o a) ∙ outcome_read r other b

-- the tree
module _ (files : Files) (root : List ℕ) where
  tree_by : (tree : Tree) (k : Option TreeFault) → (reading files root).fault ≡ k
      → option_or k (slice_get (tree_faults files.language (reading files root).read) 0) ≡ None
      → tree ≡ tree_of_groups files.language (reading files root).read → IsTreeOfFiles files root tree
  unfolding reading
  tree_by tree None e h same =
      let o = reading files root in
      let whole = (whole_related (origin_of files root) o.read).0 (ap (λ k. record { read = o.read; fault = k }) e) in
      (o.read, whole, no_first (tree_faults files.language o.read) h, same)
  tree_by tree (Some fault) e h same = cc

  pub tree_related : (tree : Tree) → ((first_tree_fault files root ≡ None) × (tree ≡ tree_of_files files root)) ↔ IsTreeOfFiles files root tree
  unfolding first_tree_fault tree_of_files reading
  tree_related tree = (
    (λ h. tree_by tree (reading files root).fault refl h.0 h.1),
    (λ h.
        let same = whole_read (origin_of files root) h.0 h.1 in (
          ap (first_fault_after files.language) same ∙ ap (λ (fs : List TreeFault). slice_get fs 0) h.2,
          h.3 ∙ sym (ap (λ (o : Outcome). tree_of_groups files.language o.read) same),
        )),
  )

  reported_by : (fault : TreeFault) (k : Option TreeFault) → (reading files root).fault ≡ k
      → option_or k (slice_get (tree_faults files.language (reading files root).read) 0) ≡ Some fault
      → IsReportedFault files root fault
  unfolding reading
  reported_by fault None e h =
      let o = reading files root in
      inr (o.read, (whole_related (origin_of files root) o.read).0 (ap (λ k. record { read = o.read; fault = k }) e), h)
  reported_by fault (Some f) e h =
      let o = reading files root in
      inl (o.read, (cut_related (origin_of files root) o.read fault).0 (ap (λ k. record { read = o.read; fault = k }) (e ∙ h)))

  reported_read : (fault : TreeFault) → IsReportedFault files root fault → first_tree_fault files root ≡ Some fault
  unfolding first_tree_fault reading
  reported_read fault (inl h) = ap (first_fault_after files.language) (cut_read (origin_of files root) (record { read = h.0; fault = Some fault }) h.1).0
  reported_read fault (inr h) = ap (first_fault_after files.language) (whole_read (origin_of files root) h.0 h.1) ∙ h.2

  pub reported_related : (fault : TreeFault) → (first_tree_fault files root ≡ Some fault) ↔ IsReportedFault files root fault
  unfolding first_tree_fault
  reported_related fault = (reported_by fault (reading files root).fault refl, reported_read fault)

  pub wanted_related : (result : Result (List (List ℕ)) TreeFault) → (files_wanted files root ≡ result) ↔ AreWanted files root result
  unfolding files_wanted wanted_by lenient_reading
  wanted_related result = (
    (λ h. (lenient_reading files root, (outcome_related (lenient_origin files root) (lenient_reading files root)).0 refl, sym h)),
    (λ h. ap (λ (o : Outcome). paths_or_fault (absent_paths files root o.read) o.fault) ((outcome_related (lenient_origin files root) h.0).1 h.1) ∙ sym h.2),
  )
