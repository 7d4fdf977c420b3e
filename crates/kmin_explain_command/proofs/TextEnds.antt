-- The text of a command that gives reasons, for a configuration whose files were read, or its end there.
use Rattle.std.proofs.Common.{Vec, Some, if◌then◌else◌}
use Rattle.kmin_explain_command.proofs.Common.{◌≡◌, ◌≤◌, ℕ, Bool, true, false, List, [], ◌∷◌, Option, None, refl, sym, ap, subst, ◌∙◌, arith, Bor, Group, Tree, LineMeaning, tree_in, config_of, sources_model, explain_job_view, question_view, ExplainJob, SpelledBytes, TakesLines, LinedTree}
use Rattle.kmin_explain_command.proofs.Common.{AreNoticed, JobOutput, lines_kept, explained_text, IsExplained, symbols_in, unknown_for, AreOfSources, StopsAfterFiles, paths_of_job, sources_of, StopsAtName, LinedFiles}
use Rattle.std.specs.declared.alloc.AllocError.{AllocError}
use Rattle.std.specs.declared.alloc.Global.{Global}
use Rattle.std.specs.Prelude.{option_map, IfOk, Result, Ok, Err}
use Rattle.kmin_explain.specs.Deep.{AreDeep}
use Rattle.kmin_explain.specs.Explanations.{SourcesModel, is_one_hindered}
use Rattle.kmin_explain.specs.between.Sources.{AreSourcesOf}
use Rattle.kmin_explain.specs.declared.sources.Sources.{Sources}
use Rattle.kmin_options.specs.Jobs.{Question, explain}
use Rattle.kmin_options.specs.declared.job.ExplainFlags.{ExplainFlags}
use Rattle.kmin_records.specs.declared.output_form.OutputForm.{OutputForm}
use Rattle.kmin_explain_command.specs.Explains.{AreExplainedFor}
use Rattle.kmin_explain_command.specs.between.Texts.{IsOutputFor, IsOutputOf, IsTextOf, status_by}
use Rattle.kmin_explain_command.specs.between.Texts as after_files
use Rattle.kmin_explain_command.specs.between.UnknownNames as names

module _ (job : ExplainJob) (tree : LinedTree) (found : LinedFiles) (taken middle after : SpelledBytes) (failed failed_middle failed_after : ℕ)
    (n : AreNoticed job.settings.strict (paths_of_job job) found.read taken failed middle failed_middle) where
  -- nothing was reported after the notices on choices
  pub noticed_alone : TakesLines middle failed_middle [] after failed_after
      → AreNoticed job.settings.strict (paths_of_job job) found.read taken failed after failed_after
  noticed_alone t = record { allowed = n.allowed; noticed = lines_kept taken middle after failed failed_middle failed_after _ n.noticed t }

  -- a name, or memory, ended the run after them
  pub name_stops : (status : ℕ) → StopsAtName (explain_job_view job) (tree_in found.read.config) status middle failed_middle after failed_after
      → StopsAfterFiles job tree found status taken failed after failed_after
  name_stops status (names.unknown name near u k t four) =
      after_files.at_name middle failed_middle name near n (λ read meanings. record { unknown = u; nearest = k }) t four
  name_stops status (names.for_memory t six) = after_files.for_memory (noticed_alone t) six

  -- also where the names were looked up in a tree that is the same
  pub name_stops_in : (named : Tree) → named ≡ tree_in found.read.config → (status : ℕ)
      → StopsAtName (explain_job_view job) named status middle failed_middle after failed_after
      → StopsAfterFiles job tree found status taken failed after failed_after
  name_stops_in named is status s =
      name_stops status (subst (λ (t : Tree). StopsAtName (explain_job_view job) t status middle failed_middle after failed_after) is s)

-- where each name means a symbol, the text and the status of a job are the output of `explain`
pub explained_by : (job : ExplainJob) (tree : LinedTree) (found : LinedFiles) (read : List Group) (meanings : List (List LineMeaning)) (text : List ℕ) (status : ℕ)
    → unknown_for (explain_job_view job) (tree_in found.read.config) ≡ None
    → IsOutputOf (explain_job_view job) (sources_of job tree found read meanings) text status
    → IsExplained (explain_job_view job) (sources_of job tree found read meanings) text status
explained_by job tree found read meanings text status known a = record {
  known = known;
  text_is = a.text_is;
  status_is = a.status_is;
}

-- the name that was found is the first that means no symbol
pub found_name : (name : Bor (List ℕ)) (found : Option (Bor (List ℕ))) (first : Option (List ℕ)) → found ≡ Some name
    → option_map (λ (n : Bor (List ℕ)). n.now) found ≡ first → first ≡ Some name.now
found_name name found first is e = sym e ∙ (let s : found ≡ Some name = is in rw s refl)

pub found_none : (found : Option (Bor (List ℕ))) (first : Option (List ℕ)) → found ≡ None
    → option_map (λ (n : Bor (List ℕ)). n.now) found ≡ first → first ≡ None
found_none found first is e = sym e ∙ (let s : found ≡ None = is in rw s refl)

-- the text and the status for named symbols are the output of `explain` for them
pub named_is : (form : OutputForm) (flags : ExplainFlags) (names : Option (List ℕ)) (g : SourcesModel) (named other text : List ℕ) (status : ℕ) → named ≡ other
    → IsTextOf form flags g named text → status ≡ status_by flags g named → IsOutputFor form (explain flags names) g other text status
named_is form flags names g named other text status e t s =
    subst (λ (n : List ℕ). IsOutputFor form (explain flags names) g n text status) e (record { text_is = t; status_is = s })

-- the output for the question of a job is that of the job
pub output_of_question : (job : ExplainJob) (question : Question) (g : SourcesModel) (text : List ℕ) (status : ℕ) → question_view job.question ≡ question
    → IsOutputFor job.settings.output_form question g (symbols_in (explain_job_view job) g.tree) text status → IsOutputOf (explain_job_view job) g text status
output_of_question job question g text status is a =
    subst (λ (q : Question). IsOutputFor job.settings.output_form q g (symbols_in (explain_job_view job) g.tree) text status) (sym is) a

-- what symbols are explained by is of the tree and the files that were read
pub output_from : (by : Sources) (job : ExplainJob) (tree : LinedTree) (found : LinedFiles) (read : List Group) (meanings : List (List LineMeaning)) (text : List ℕ)
    (status : ℕ) → config_of by ≡ found.read.config → by.lines.now ≡ tree.lines → by.files.now ≡ found.lines.items → by.tree_paths.now ≡ tree.paths.items
    → by.file_paths.now ≡ job.files.items → by.strings ≡ job.settings.format.strings → AreOfSources tree found read meanings
    → (AreSourcesOf by read meanings → IsOutputOf (explain_job_view job) (sources_model by read meanings) text status)
    → IsOutputOf (explain_job_view job) (sources_of job tree found read meanings) text status
output_from by job tree found read meanings text status config lines files paths named strings are h =
    let of_these : AreSourcesOf by read meanings =
    record { tree_is = rw config are.tree_is; has = rw (config, lines) are.has; kept = rw (config, files) are.kept } in
    rw (config, paths, named, strings) at (h of_these)

-- the status for symbols, by whether one of them has a line that isn't taken
pub status_is : (flags : ExplainFlags) (g : SourcesModel) (named : List ℕ) (hindered : Bool) → flags.exit_code ≡ true → hindered ≡ is_one_hindered g named
    → (if hindered then 1 else 0) ≡ status_by flags g named
status_is flags g named hindered e h = rw (e, h) refl

pub no_status : (flags : ExplainFlags) (g : SourcesModel) (named : List ℕ) → flags.exit_code ≡ false → 0 ≡ status_by flags g named
no_status flags g named e = rw e refl

-- and so of a result that has both
pub both_output : (form : OutputForm) (flags : ExplainFlags) (names : Option (List ℕ)) (by : Sources) (r : Result JobOutput AllocError) (named other : List ℕ) → named ≡ other
    → IfOk r (λ output. (read : List Group) (meanings : List (List LineMeaning)) → AreSourcesOf by read meanings
    → IsTextOf form flags (sources_model by read meanings) named output.text.items)
    → IfOk r (λ output. (read : List Group) (meanings : List (List LineMeaning)) → AreSourcesOf by read meanings
    → output.status ≡ status_by flags (sources_model by read meanings) named)
    → IfOk r (λ output. (read : List Group) (meanings : List (List LineMeaning)) → AreSourcesOf by read meanings
    → IsOutputFor form (explain flags names) (sources_model by read meanings) other output.text.items output.status)
both_output form flags names by (Err e) named other is t s = tt
both_output form flags names by (Ok output) named other is t s = λ read meanings are.
    named_is form flags names (sources_model by read meanings) named other output.text.items output.status is (t read meanings are) (s read meanings are)

-- a result that has the output for the question of a job has that of the job
pub question_output : (job : ExplainJob) (question : Question) (by : Sources) (r : Result JobOutput AllocError) → question_view job.question ≡ question
    → IfOk r (λ output. (read : List Group) (meanings : List (List LineMeaning)) → AreSourcesOf by read meanings
    → IsOutputFor job.settings.output_form question (sources_model by read meanings) (symbols_in (explain_job_view job) (tree_in (config_of by))) output.text.items output.status)
    → IfOk r (λ output. (read : List Group) (meanings : List (List LineMeaning)) → AreSourcesOf by read meanings
    → IsOutputOf (explain_job_view job) (sources_model by read meanings) output.text.items output.status)
question_output job question by (Err e) is a = tt
question_output job question by (Ok output) is a = λ read meanings are.
    output_of_question job question (sources_model by read meanings) output.text.items output.status is (a read meanings are)

-- the text for some symbols is that for the named ones, by the flags
module _ (form : OutputForm) (flags : ExplainFlags) (by : Sources) (named symbols : List ℕ) where
  pub text_by : (r : Result (Vec ℕ Global) AllocError)
      → ((read : List Group) (meanings : List (List LineMeaning))
      → AreExplainedFor flags.deep (sources_model by read meanings) named symbols)
      → ((read : List Group) (meanings : List (List LineMeaning)) → AreSourcesOf by read meanings
      → IfOk r (λ text. text.items ≡ explained_text form (sources_model by read meanings) flags.all symbols))
      → IfOk r (λ text. (read : List Group) (meanings : List (List LineMeaning)) → AreSourcesOf by read meanings
      → IsTextOf form flags (sources_model by read meanings) named text.items)
  text_by (Err e) k h = tt
  text_by (Ok text) k h = λ read meanings are. (symbols, k read meanings, h read meanings are)

  -- with `--deep` they are those to go on with, without it the named ones
  pub deep_symbols : flags.deep ≡ true → ((read : List Group) (meanings : List (List LineMeaning)) → AreDeep (sources_model by read meanings) named symbols)
      → (read : List Group) (meanings : List (List LineMeaning))
      → AreExplainedFor flags.deep (sources_model by read meanings) named symbols
  deep_symbols deep k read meanings = rw deep (k read meanings)

  pub plain_symbols : flags.deep ≡ false → symbols ≡ named
      → (read : List Group) (meanings : List (List LineMeaning))
      → AreExplainedFor flags.deep (sources_model by read meanings) named symbols
  plain_symbols plain same read meanings = rw plain same
