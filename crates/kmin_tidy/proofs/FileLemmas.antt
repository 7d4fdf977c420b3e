-- Facts for `tidy_file`: from the results of its parts to a `Step` of the run.
use Rattle.kmin_tidy.proofs.Common.{◌≡◌, ◌≢◌, ℕ, Bool, true, false, List, [], ◌∷◌, ◌++◌, Option, Some, None, map, length, take, cond, refl, sym, ap, ◌∙◌, subst, append-nil, inl, inr, Settled, tree_of_settled, Read, file_format, Fragment, notice_pair, Content, special, readable, Disk, FailsOnce}
use Rattle.kmin_tidy.proofs.Common.{MayFailOnce, content_at, TidySettings, Notices, settings_of, refuses_notices, Tree, MayBeRead, IsReadAt, HasMinimalFile, fault_line, notice_lines, file_line, Step, noticed, minimal, shown, replaced, unwritten, unsynced, call_failed, names_taken, not_regular}
use Rattle.kmin_tidy.proofs.Common.{IsFragmentOf, IsFaulty, places_noted, IsRewritten, StopsFile, report_lines, problem_lines, Refused, Failed, OutputForm, Problem, FileReport, TidyStop}
use Rattle.std.proofs.Math.Seq.{take-append_seam}
use Rattle.std.specs.Str.{bytes_eq}
use Rattle.std.proofs.lemmas.Slice.Eq.{bytes_eq-Decides}
use Rattle.kc_solver.specs.Solutions.{UniquelySolves}
use Rattle.kc_rules_model.specs.declared.values.UnitValue.{UnitValue}
use Rattle.kc_rules_model.specs.declared.values.UserValue.{UserValue}
use Rattle.kc_rules_model.specs.Rule.{rule}
use Rattle.kc_rules.specs.between.SettledViews.{profile_of}
use Rattle.kc_dotconfig_model.specs.declared.format.Format.{Format}
use Rattle.kc_dotconfig_model.specs.declared.fault.LoadFault.{LoadFault}
use Rattle.kc_dotconfig_model.specs.PrefixGrammar.{is_name_prefix}
use Rattle.kc_dotconfig_model.proofs.AcceptedLines.{accepted_utf8}
use Rattle.kc_dotconfig.specs.Fragments.{users_of}
use Rattle.kc_minimal_model.specs.CanonicalText.{IsCanonicalText}
use Rattle.kmin_disk.specs.Contents.{IsOfKind}
use Rattle.kmin_disk.specs.Failures.{failures_of_fault}
use Rattle.kmin_disk.specs.Replacements.{FaultLeaves, HasTakenName}
use Rattle.kmin_disk.specs.declared.kind.FileKind.{FileKind}
use Rattle.kmin_disk.specs.declared.kind.FileKind.TheVariants.{NotRegular as KindNotRegular}
use Rattle.kmin_disk.specs.declared.fault.ReplaceFault.{ReplaceFault}
use Rattle.kmin_disk.specs.declared.fault.ReplaceFault.TheVariants.{NotRegular, Unchanged, NamesTaken, Left, FolderNotSynced, OutOfMemory}
use Rattle.kc_dotconfig_model.specs.ConfigLines.{LineMeaning}
use Rattle.kc_dotconfig_model.specs.ConfigFiles.{notices_from}
use Rattle.kc_dotconfig_model.specs.declared.choice_line.ChoiceLine.{ChoiceLine}
use Rattle.kc_dotconfig_model.specs.declared.notice.Notice.{Notice}
use Rattle.kc_dotconfig_model.specs.OtherChoices.{choice_lines_from, other_choices_of}
use Rattle.kc_minimal_model.specs.FileValues.{Loads}
use Rattle.kmin_tidy.specs.MinimalFiles.{HasNotices, of_choices, choice_notices, Minimises}
use Rattle.kmin_tidy.specs.Refusals as refusals
use Rattle.kmin_report.specs.Reports.{not_regular_line}
use Rattle.kmin_tidy.specs.Steps.{refused}
use Rattle.kmin_tidy.specs.checker.FileReports.{IsRefusedAs, IsFailedBy, IsStoppedBy}
use Rattle.kmin_tidy.specs.checker.FileResults as results
use Rattle.kmin_tidy.specs.checker.FileResults.{IsWritten, StopsWrite, StopsRewrite}
use Rattle.kmin_tidy.specs.declared.options.TidyOptions.{TidyOptions}
use Rattle.kmin_tidy.specs.declared.report.Problem.TheVariants.{Fault, Write, NotRegular as ProblemNotRegular}
use Rattle.kmin_tidy.specs.declared.file_step.FileEnd.{FileEnd}
use Rattle.kmin_tidy.proofs.RefusalLemmas.{refused_by, lines_of_problem, lines_of_notices}

-- bytes for which the test `==` gives `false` differ
pub differ : (minimal_bytes bytes : List ℕ) (test : Bool) → test ≡ bytes_eq minimal_bytes bytes → test ≡ false → minimal_bytes ≢ bytes
differ minimal_bytes bytes test e f = λ same. let h : bytes_eq minimal_bytes bytes ≡ true = (bytes_eq-Decides minimal_bytes bytes).1 same in cc

pub agree : (minimal_bytes bytes : List ℕ) (test : Bool) → test ≡ bytes_eq minimal_bytes bytes → test ≡ true → minimal_bytes ≡ bytes
agree minimal_bytes bytes test e t = (bytes_eq-Decides minimal_bytes bytes).0 (sym e ∙ t)

-- a content that may be of another kind than `NotRegular` isn't known to be `special`
pub kind_not_special : (content : Option Content) (kind : FileKind) → IsOfKind content kind → kind ≢ KindNotRegular → content ≢ Some special
kind_not_special content kind k other = λ e. other (subst (λ c. IsOfKind c kind) e k)

module _ (s : TidySettings) (a : Disk) (path : List ℕ) (report : FileReport) where
  -- under `write`, the step of a path that leads to a link, a folder, a pipe or a device is its refusal
  pub not_regular_step : s.options.write ≡ true → IsOfKind (content_at a.state path) KindNotRegular → report.notices.items ≡ []
      → report.problem ≡ Some ProblemNotRegular → report.outcome ≡ Failed → Step s a a path [] (report_lines s.tree path report) report.outcome
  not_regular_step w k n p o =
      refused (not_regular_line path) (refusals.not_regular w k refl o refl) refl (lines_of_problem s.tree path report ProblemNotRegular n p)

  -- the step of a file that can't be read or isn't accepted is its refusal, with the line of the fault
  pub fault_step : (b : Disk) (fault : LoadFault) → MayBeRead s a.state path
      → IsFaulty s.format s.tree (readable (content_at a.state path)) fault.kind fault.line → (fault.kind ≡ Read → FailsOnce a b) → MayFailOnce a b
      → IsRefusedAs fault report → Step s a b path [] (report_lines s.tree path report) report.outcome
  fault_step b fault may faulty failed once r =
      refused (fault_line path fault.line fault.kind)
      (refused_by s a b path fault.kind fault.line report.outcome failed once may faulty r.outcome) refl
      (lines_of_problem s.tree path report (Fault fault) r.notices r.problem)

  -- the lines of a report without a problem are those of the notices of the file
  lines_by : (noted : List Notice) → report.notices.items ≡ noted → report.problem ≡ None
      → report_lines s.tree path report ≡ notice_lines s.tree path (map notice_pair noted)
  lines_by noted n p = lines_of_notices s.tree path report p ∙ ap (λ ns. notice_lines s.tree path (map notice_pair ns)) n

  lines_with : (noted : List Notice) (problem : Problem) → report.notices.items ≡ noted → report.problem ≡ Some problem
      → report_lines s.tree path report ≡ notice_lines s.tree path (map notice_pair noted) ++ problem_lines path (Some problem)
  lines_with noted problem n p =
      ap (λ q. notice_lines s.tree path (map notice_pair report.notices.items) ++ problem_lines path q) p
      ∙ ap (λ ns. notice_lines s.tree path (map notice_pair ns) ++ problem_lines path (Some problem)) n

  -- the step of an accepted file that is refused for its notices reports the notices, and leaves the disk unchanged
  pub notices_step : (bytes : List ℕ) (noted : List Notice) → IsReadAt s a.state path bytes → HasNotices s bytes (map notice_pair noted)
      → refuses_notices s.options ≡ true → map notice_pair noted ≢ [] → report.notices.items ≡ noted → report.problem ≡ None
      → report.outcome ≡ Refused → Step s a a path [] (report_lines s.tree path report) report.outcome
  notices_step bytes noted read has asked some n p o =
      noticed bytes (map notice_pair noted) read has some asked refl refl (lines_by noted n p) o

  -- the step of an accepted file that isn't refused, from the result of comparing it with its minimal file and replacing it
  pub rewritten_step : (b : Disk) (bytes minimal_bytes line : List ℕ) (noted : List Notice) (end : FileEnd)
      → Minimises s a.state path bytes minimal_bytes (map notice_pair noted) → IsRewritten s.options.output_form s.options.write a b path bytes minimal_bytes line end
      → report.notices.items ≡ noted → report.problem ≡ end.problem → report.outcome ≡ end.outcome
      → Step s a b path line (report_lines s.tree path report) report.outcome
  rewritten_step b bytes minimal_bytes line noted end m (results.same e k l q o) n p r =
      minimal bytes (map notice_pair noted) (subst (λ x. Minimises s a.state path bytes x (map notice_pair noted)) e m) k l
      (lines_by noted n (p ∙ q)) (r ∙ o)
  rewritten_step b bytes minimal_bytes line noted end m (results.shown ne w k l q o) n p r =
      shown bytes minimal_bytes (map notice_pair noted) (record { minimises = m; differs = ne }) w k l (lines_by noted n (p ∙ q)) (r ∙ o)
  rewritten_step b bytes minimal_bytes line noted end m (results.replaced ne w t f l q o) n p r =
      replaced bytes minimal_bytes (map notice_pair noted) (record { minimises = m; differs = ne }) w t f l (lines_by noted n (p ∙ q)) (r ∙ o)
  rewritten_step b bytes minimal_bytes line noted end m (results.unwritten ne w u l q o) n p r =
      unwritten bytes minimal_bytes (map notice_pair noted) (record { minimises = m; differs = ne }) w u l
      (lines_with noted Write n (p ∙ q)) (r ∙ o)
  rewritten_step b bytes minimal_bytes line noted end m (results.unsynced ne w u l q o) n p r =
      unsynced bytes minimal_bytes (map notice_pair noted) (record { minimises = m; differs = ne }) w u l
      (lines_with noted Write n (p ∙ q)) (r ∙ o)

-- a run that ends at the comparison of a file with its minimal file, or at its replacement, ends at that file
pub stops_rewrite : (s : TidySettings) (a b : Disk) (path bytes minimal_bytes : List ℕ) (notices : Notices) (stop : TidyStop) → Minimises s a.state path bytes minimal_bytes notices
    → StopsRewrite s.options.write a b path bytes minimal_bytes stop → StopsFile s a b path stop
stops_rewrite s a b path bytes minimal_bytes notices stop m (inl h) = inl (h.0, inl h.1)
stops_rewrite s a b path bytes minimal_bytes notices stop m (inr h) =
    inr (record { asked = h.0; bytes = bytes; minimal_bytes = minimal_bytes; notices = notices; differs = record { minimises = m; differs = h.1 } }, h.2)

-- the notices on choices in a file, from the lines of members of its fragment
pub choices_noted : (tree : Tree) (values : List UnitValue) (meanings : List LineMeaning) (chosen : List ChoiceLine) → chosen ≡ choice_lines_from 1 meanings
    → places_noted (other_choices_of tree values (map (λ (l : ChoiceLine). (0, l)) chosen)) ≡ choice_notices tree values meanings
choices_noted tree values meanings chosen e =
    ap (λ lines. places_noted (other_choices_of tree values lines))
    (ap (map (λ (l : ChoiceLine). (0, l))) e ∙ sym (append-nil (map (λ (l : ChoiceLine). (0, l)) (choice_lines_from 1 meanings))))

module _ (settled now : Settled) (format : Format) (options : TidyOptions) (bytes : List ℕ) (fragment : Fragment) (noted : List Notice)
    (users : List (Option UserValue)) (values : List UnitValue) (valid : is_name_prefix (file_format format).prefix ≡ true) (same : now ≡ settled)
    (f : IsFragmentOf (file_format format) (tree_of_settled settled) bytes fragment)
    (held : users ≡ users_of (tree_of_settled settled) fragment.assigns.items)
    (gives : UniquelySolves (length (tree_of_settled now).units) (rule (profile_of now) (tree_of_settled now)) users values)
    (all : map notice_pair noted ≡ map notice_pair fragment.notices.items
    ++ places_noted (other_choices_of (tree_of_settled now) values (map (λ (l : ChoiceLine). (0, l)) fragment.chosen.items))) where
  -- the file of a fragment gives the values that the fragment's user values alone give
  pub file_loads : Loads (file_format format) (profile_of settled) (tree_of_settled settled) bytes values
  file_loads = record {
    accepted = f.accepted;
    reads = record {
      utf8 = accepted_utf8 (file_format format) (tree_of_settled settled) bytes valid f.accepted;
      meanings = f.meanings;
      has_meaning = f.means;
      gives = subst (λ us. UniquelySolves (length (tree_of_settled settled).units) (rule (profile_of settled) (tree_of_settled settled)) us values)
          (held ∙ f.users)
          (subst (λ sys. UniquelySolves (length (tree_of_settled sys).units) (rule (profile_of sys) (tree_of_settled sys)) users values) same gives);
    };
  }

  -- all notices of the file are those of its lines, and then those on choices
  all_noted : map notice_pair noted ≡ notices_from 1 f.meanings ++ choice_notices (tree_of_settled settled) values f.meanings
  all_noted =
      all ∙ ap (λ ns. ns ++ places_noted (other_choices_of (tree_of_settled now) values (map (λ (l : ChoiceLine). (0, l)) fragment.chosen.items))) f.noted
      ∙ ap (λ (sys : Settled). notices_from 1 f.meanings ++ places_noted (other_choices_of (tree_of_settled sys) values (map (λ (l : ChoiceLine). (0, l)) fragment.chosen.items))) same
      ∙ ap (λ ns. notices_from 1 f.meanings ++ ns) (choices_noted (tree_of_settled settled) values f.meanings fragment.chosen.items f.chosen)

  -- the canonical text of the values that a fragment alone gives is the minimal file of the fragment's bytes
  pub has_minimal_file : (text : List ℕ) → IsCanonicalText (file_format format) (profile_of now) (tree_of_settled now) values text
      → HasMinimalFile (settings_of settled format options) bytes text (map notice_pair noted)
  unfolding file_loads
  has_minimal_file text canonical = record {
    values = values;
    loads = file_loads;
    canonical = subst (λ sys. IsCanonicalText (file_format format) (profile_of sys) (tree_of_settled sys) values text) same canonical;
    notices_are = all_noted;
  }

  -- where the lines of the file have no notices, all of its notices are on choices
  pub has_choice_notices : fragment.notices.items ≡ [] → HasNotices (settings_of settled format options) bytes (map notice_pair noted)
  unfolding file_loads
  has_choice_notices none =
      let empty : notices_from 1 f.meanings ≡ [] = sym f.noted ∙ ap (map notice_pair) none in
      of_choices values file_loads empty (all_noted ∙ ap (λ ns. ns ++ choice_notices (tree_of_settled settled) values f.meanings) empty)

-- after a fault of replacing a file that lets the run go on, the file counts as not replaced, or not for good
pub written_by : (a b : Disk) (path minimal_bytes : List ℕ) (fault : ReplaceFault) (end : FileEnd) → FaultLeaves a.state b.state path minimal_bytes fault
    → b.failures ≡ failures_of_fault a.failures fault → (fault ≡ NotRegular → IsOfKind (content_at a.state path) KindNotRegular)
    → (fault ≡ NamesTaken → HasTakenName a.state path) → IsFailedBy fault end → IsWritten a b path minimal_bytes end
written_by a b path minimal_bytes NotRegular end l f k t h = results.not_in_place (not_regular l (k refl) f) h.0 h.1 h.2
written_by a b path minimal_bytes Unchanged end l f k t h = results.not_in_place (call_failed l f) h.0 h.1 h.2
written_by a b path minimal_bytes NamesTaken end l f k t h = results.not_in_place (names_taken l (t refl) f) h.0 h.1 h.2
written_by a b path minimal_bytes (Left new_path) end l f k t h = absurd h
written_by a b path minimal_bytes FolderNotSynced end l f k t h = results.not_synced (record { replaced = l; failures = f }) h.0 h.1 h.2
written_by a b path minimal_bytes OutOfMemory end l f k t h = absurd h

pub stopped_by : (a b : Disk) (path minimal_bytes : List ℕ) (fault : ReplaceFault) (stop : TidyStop) → FaultLeaves a.state b.state path minimal_bytes fault
    → b.failures ≡ failures_of_fault a.failures fault → IsStoppedBy fault stop → StopsWrite a b path stop
stopped_by a b path minimal_bytes NotRegular stop l f h = absurd h
stopped_by a b path minimal_bytes Unchanged stop l f h = absurd h
stopped_by a b path minimal_bytes NamesTaken stop l f h = absurd h
stopped_by a b path minimal_bytes (Left new_path) stop l f h =
    subst (StopsWrite a b path) (sym h) (record { leaves = l.0; named = l.1; failures = f })
stopped_by a b path minimal_bytes FolderNotSynced stop l f h = absurd h
stopped_by a b path minimal_bytes OutOfMemory stop l f h = subst (StopsWrite a b path) (sym h) l

-- the result of an attempt to replace a file by a minimal file of other bytes is one that `IsRewritten` allows
pub rewritten_by : (form : OutputForm) (a b : Disk) (path bytes minimal_bytes : List ℕ) (end : FileEnd) → minimal_bytes ≢ bytes → IsWritten a b path minimal_bytes end
    → IsRewritten form true a b path bytes minimal_bytes (cond end.is_replaced (file_line form path bytes minimal_bytes) []) end
rewritten_by form a b path bytes minimal_bytes end ne (results.in_place r f p o k) =
    results.replaced ne refl r f (ap (λ b. cond b (file_line form path bytes minimal_bytes) []) k) p o
rewritten_by form a b path bytes minimal_bytes end ne (results.not_in_place u p o k) =
    results.unwritten ne refl u (ap (λ b. cond b (file_line form path bytes minimal_bytes) []) k) p o
rewritten_by form a b path bytes minimal_bytes end ne (results.not_synced u p o k) =
    results.unsynced ne refl u (ap (λ b. cond b (file_line form path bytes minimal_bytes) []) k) p o

-- a text whose last line is taken back unless `is_kept` is the text before, with that line if `is_kept`
pub listed_by : (before line after : List ℕ) (start : ℕ) (is_kept : Bool) → start ≡ length before
    → after ≡ cond is_kept (before ++ line) (take start (before ++ line)) → after ≡ before ++ cond is_kept line []
listed_by before line after start true s e = e
listed_by before line after start false s e = e ∙ ap (λ n. take n (before ++ line)) s ∙ take-append_seam before line ∙ sym (append-nil before)

-- the map of a list that isn't empty isn't empty
pub map_some : {A B : Type 0} (f : A → B) (xs : List A) → xs ≢ [] → map f xs ≢ []
map_some f [] h = λ e. h refl
map_some f (x ∷ xs) h = λ e. let z : f x ∷ map f xs ≡ [] = e in (cc)
