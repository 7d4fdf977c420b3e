-- Files that are refused, and what is reported of them.
use Rattle.kmin_tidy.proofs.Common.{◌≡◌, ◌≢◌, ℕ, List, [], ◌∷◌, ◌++◌, Some, None, map, refl, sym, ap, ◌∙◌, append-nil, ◌⊎◌, inl, inr, Tree, notice_pair, LoadKind, Read, OutOfMemory, readable, Disk, FailsOnce, MayFailOnce, content_at, TidySettings, MayBeRead, fault_line, notice_lines, IsNotAccepted}
use Rattle.kmin_tidy.proofs.Common.{IsFaulty, refused, unread, unopened, for_memory, problem_lines, report_lines, FileOutcome, Refused, Failed, Problem, FileReport}
use Rattle.kmin_tidy.specs.Refusals as refusals
use Rattle.kmin_tidy.specs.checker.ReportLines.{problem_line}

-- a file with a fault of this kind has this outcome: `Failed` for a failed read, and `Refused` for all but lack of memory
abbrev pub IsOutcomeOf : LoadKind → FileOutcome → Type 0
IsOutcomeOf kind outcome = ((kind ≡ Read) × (outcome ≡ Failed)) ⊎ ((kind ≢ Read) × (kind ≢ OutOfMemory) × (outcome ≡ Refused))

module _ (s : TidySettings) (a b : Disk) (path : List ℕ) (kind : LoadKind) (number : ℕ) (outcome : FileOutcome) (failed : kind ≡ Read → FailsOnce a b)
    (once : MayFailOnce a b) where
  -- a file that can't be read or isn't accepted is refused, with the line of its fault on standard error
  pub refused_by : MayBeRead s a.state path → IsFaulty s.format s.tree (readable (content_at a.state path)) kind number → IsOutcomeOf kind outcome
      → IsNotAccepted s a b path outcome (fault_line path number kind)
  refused_by may (refused bytes known other first) (inl is) = absurd (other is.0)
  refused_by may (refused bytes known other first) (inr is) = refusals.faulty bytes kind number (record { may = may; bytes_are = known }) first once is.2 refl
  refused_by may (unread front rest known first read) (inl is) = refusals.unread front rest number (record { may = may; bytes_are = known }) first
      (failed read) is.1 (ap (fault_line path number) read)
  refused_by may (unread front rest known first read) (inr is) = absurd (is.0 read)
  refused_by may (unopened opens read zero_is) (inl is) =
      refusals.unopened may opens (failed read) is.1 (ap (fault_line path number) read ∙ ap (λ n. fault_line path n Read) zero_is)
  refused_by may (unopened opens read zero_is) (inr is) = absurd (is.0 read)
  refused_by may (for_memory memory) (inl is) = let z : Read ≡ OutOfMemory = sym is.0 ∙ memory in (cc)
  refused_by may (for_memory memory) (inr is) = absurd (is.1 memory)

-- the report of a file with a problem and without notices has the line of the problem alone
pub lines_of_problem : (tree : Tree) (path : List ℕ) (report : FileReport) (problem : Problem) → report.notices.items ≡ [] → report.problem ≡ Some problem
    → report_lines tree path report ≡ problem_line path problem ∷ []
lines_of_problem tree path report problem no_notices is =
    ap (λ ns. notice_lines tree path (map notice_pair ns) ++ problem_lines path report.problem) no_notices ∙ ap (problem_lines path) is

-- the report of a file without a problem has the lines of its notices alone
pub lines_of_notices : (tree : Tree) (path : List ℕ) (report : FileReport) → report.problem ≡ None
    → report_lines tree path report ≡ notice_lines tree path (map notice_pair report.notices.items)
lines_of_notices tree path report is =
    ap (λ p. notice_lines tree path (map notice_pair report.notices.items) ++ problem_lines path p) is ∙ append-nil
    (notice_lines tree path (map notice_pair report.notices.items))
