-- What the command `wants` lists, by its flag.
use Rattle.std.proofs.Common.{◌≡◌, ℕ, ◌≤◌, Bool, true, false, List, Result, sym, subst}
use Rattle.kc_answers.specs.RunStates.{questions_of}
use Rattle.kc_files.specs.TreeContents.{TreeContents}
use Rattle.kc_macros_model.specs.AnswerFiles.{RecordedAnswers}
use Rattle.kc_macros_model.specs.Programs.{Fault}
use Rattle.kc_expansion.specs.Expansions.{AreCountedWanted, AreCountedUnused}
use Rattle.kmin_options.specs.Jobs.{Questions}
use Rattle.kmin_inputs.specs.FileContents.{Surroundings}
use Rattle.kmin_expansions.specs.TreeFolders.{contents_below}
use Rattle.kmin_expansions.specs.WantedQuestions.{AreListed, AreAsked}
use Rattle.kmin_inputs.specs.between.AnswerSteps.{AnswersAndQuestions}
use Rattle.kmin_inputs.proofs.FailureCounts.{rises_later}

module _ (unused : Bool) (contents : TreeContents) (counted counted_after : ℕ) (answers recorded : RecordedAnswers) (first path : List ℕ)
    (listed : Result (List (List ℕ)) Fault) (same : path ≡ first) where
  -- without `--unused` the open questions are listed
  pub listed_open : unused ≡ false → AreCountedWanted contents counted counted_after answers path listed
      → AreListed unused contents counted counted_after answers recorded first listed
  listed_open e wanted =
      subst (λ b. AreListed b contents counted counted_after answers recorded first listed) (sym e)
      (subst (λ p. AreCountedWanted contents counted counted_after answers p listed) same wanted)

  -- with it the questions of the answer files that the tree doesn't ask
  pub listed_unused : (answered : List (List ℕ)) → unused ≡ true → answered ≡ questions_of recorded
      → AreCountedUnused contents counted counted_after answers path answered listed
      → AreListed unused contents counted counted_after answers recorded first listed
  listed_unused answered e are rest =
      subst (λ b. AreListed b contents counted counted_after answers recorded first listed) (sym e)
      (subst (λ qs. AreCountedUnused contents counted counted_after answers first qs listed) are
      (subst (λ p. AreCountedUnused contents counted counted_after answers p answered listed) same rest))

module _ (contents : TreeContents) (counted counted_middle counted_after : ℕ) (le : counted ≤ counted_middle) (up : counted_middle ≤ counted_after)
    (answers recorded : RecordedAnswers) (first : List ℕ) (listed : Result (List (List ℕ)) Fault) where
  -- what is listed is listed from an earlier count on
  pub listed_earlier : (unused : Bool) → AreListed unused contents counted_middle counted_after answers recorded first listed
      → AreListed unused contents counted counted_after answers recorded first listed
  listed_earlier false h = (h.0, (λ none. h.1 (λ rose. none (rises_later counted counted_middle counted_after le up rose))))
  listed_earlier true h = (h.0, (λ none. h.1 (λ rose. none (rises_later counted counted_middle counted_after le up rose))))

-- what is listed with the answers of a job is the result of its command
pub asked_with : (known : Surroundings) (counted counted_middle counted_after : ℕ) → counted ≤ counted_middle → counted_middle ≤ counted_after
    → (questions : Questions) (answers : RecordedAnswers) (answered : List (List ℕ)) (listed : Result (List (List ℕ)) Fault)
    → AnswersAndQuestions known.content known.variable questions.expansion answers answered
    → ((recorded : RecordedAnswers) → answered ≡ questions_of recorded
    → AreListed questions.unused (contents_below known questions.root) counted_middle counted_after answers recorded questions.tree listed)
    → AreAsked known counted counted_after questions listed
asked_with known counted counted_middle counted_after le up questions answers answered listed both each = record {
  answers = answers;
  answered = both.job;
  wanted = listed_earlier (contents_below known questions.root) counted counted_middle counted_after le up answers both.job.recorded questions.tree listed
      questions.unused (each both.job.recorded both.answered_are);
}
