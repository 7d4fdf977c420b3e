-- Files that are read whole, by what is known of them.
use Rattle.std.proofs.Common.{codes}
use Rattle.kmin_inputs.proofs.Common.{◌≡◌, Bool, Result, Ok, Err, OnOk, ℕ, ◌+◌, ◌≤◌, inl, inr, true, false, List, [], ◌∷◌, ◌++◌, Option, Some, refl, sym, ap, ◌∙◌, subst, arith, bytes_eq, FileContent, OpensAs, SpelledBytes, TakesLines, ErrorLine, lines_append, inputs_named, list_content}
use Rattle.kmin_inputs.proofs.Common.{AreFilesRead, for_memory}
use Rattle.std.proofs.lemmas.List.Sums.{sum_by-append}
use Rattle.kc_value.proofs.KnownContents.{reader_opens}
use Rattle.std.proofs.lemmas.Bool.{cases_Bool, false≢true}
use Rattle.kmin_report.specs.Reports.{last_lines}
use Rattle.kmin_lines.specs.WordFiles.{files_of}
use Rattle.kmin_cli.specs.Inputs.{is_input}
use Rattle.kmin_inputs.specs.ListFiles.{IsListRead, StopsReadingList}
use Rattle.kmin_inputs.specs.WordFiles.{none, file, StopsAtWords, unread}
use Rattle.kmin_inputs.specs.WordFiles as stops
use Rattle.kmin_inputs.specs.between.ReadFiles.{StopsAmongLists, at_file}

-- a list of paths whose own path is `-` has the content of standard input
pub opens_input : (content_of : List ℕ → FileContent) (left : Option (List ℕ)) (path : List ℕ) → bytes_eq path (codes "-") ≡ true
    → OpensAs (list_content content_of left path) (Some left)
opens_input content_of left path e = rw e (reader_opens left)

-- a list of paths whose own path isn't `-` has the content of the file at that path
pub opens_file : (content_of : List ℕ → FileContent) (left reader : Option (List ℕ)) (path : List ℕ) → bytes_eq path (codes "-") ≡ false
    → OpensAs (content_of path) (Some reader) → OpensAs (list_content content_of left path) (Some reader)
opens_file content_of left reader path e o = rw e o

-- a test doesn't come out both ways
pub not_both : {P : Type 0} (test : Bool) → test ≡ true → test ≡ false → P
not_both test is other = absurd (false≢true (sym other ∙ is))

-- what holds at all events holds where a call succeeded
pub on_ok : {T E : Type 0} (r : Result T E) (P : Type 0) → P → OnOk r P
on_ok (Ok x) P h = h
on_ok (Err e) P h = tt

-- files that were read, and then more of them, were read as one list of files
pub read_append : (content_of : List ℕ → FileContent) (left : Option (List ℕ)) (xs ys fs gs : List (List ℕ)) → AreFilesRead content_of left xs fs
    → AreFilesRead content_of left ys gs → AreFilesRead content_of left (xs ++ ys) (fs ++ gs)
read_append content_of left xs ys fs gs none k = k
read_append content_of left xs ys fs gs (file path bytes paths files r h) k =
    file path bytes (paths ++ ys) (files ++ gs) r (read_append content_of left paths ys files gs h k)

-- how many of two lists of paths name standard input
inputs_append : (xs ys : List (List ℕ)) → inputs_named (xs ++ ys) ≡ inputs_named xs + inputs_named ys
inputs_append xs ys = sum_by-append _ xs ys

named_at : (back : List (List ℕ)) (path : List ℕ) → is_input path ≡ true → inputs_named (path ∷ back) ≡ 1 + inputs_named back
named_at back path is =
    let one : inputs_named (path ∷ []) ≡ 1 = rw is refl in
    omega (arith, inputs_append (path ∷ []) back)

inputs_at : (front back : List (List ℕ)) (path : List ℕ) → is_input path ≡ true → inputs_named (front ++ path ∷ back) ≤ 1 → inputs_named front ≡ 0
inputs_at front back path is few = omega (arith, inputs_append front (path ∷ back), named_at back path is)

inputs_before : (front back : List (List ℕ)) (path : List ℕ) → inputs_named (front ++ path ∷ back) ≡ 0 → inputs_named front ≡ 0
inputs_before front back path unnamed = omega (arith, inputs_append front (path ∷ back))

no_input_at : (front back : List (List ℕ)) (path : List ℕ) → inputs_named (front ++ path ∷ back) ≡ 0 → is_input path ≡ false
no_input_at front back path unnamed = elim (cases_Bool (is_input path)) [
  | inl is ↦ absurd (omega (arith, inputs_append front (path ∷ back), named_at back path is))
  | inr other ↦ other
]

-- a path that doesn't name standard input isn't `-`
no_dash : (path : List ℕ) → is_input path ≡ false → bytes_eq path (codes "-") ≡ false
no_dash path other = elim (cases_Bool (bytes_eq path (codes "-"))) [
  | inl dash ↦ let wrong : true ≡ false = rw dash at other in cc
  | inr another ↦ another
]

-- standard input is untouched where it isn't named
pub untouched_next : (left now after : Option (List ℕ)) (front back paths : List (List ℕ)) (path : List ℕ) → (inputs_named front ≡ 0 → now ≡ left)
    → (bytes_eq path (codes "-") ≡ false → after ≡ now) → paths ≡ front ++ path ∷ back → inputs_named paths ≡ 0 → after ≡ left
untouched_next left now after front back paths path before here are unnamed =
    let none_named : inputs_named (front ++ path ∷ back) ≡ 0 = rw are at unnamed in
    here (no_dash path (no_input_at front back path none_named)) ∙ before (inputs_before front back path none_named)

module _ (content_of others : List ℕ → FileContent) (same : others ≡ content_of) (left now : Option (List ℕ)) (front back paths files : List (List ℕ))
    (path : List ℕ) (are : paths ≡ front ++ path ∷ back) (few : inputs_named paths ≤ 1) (unread : inputs_named front ≡ 0 → now ≡ left)
    (read : AreFilesRead content_of left front files) where
  -- where at most one path names standard input, that wasn't read before it is
  content_is : list_content others now path ≡ list_content content_of left path
  content_is = elim (cases_Bool (bytes_eq path (codes "-"))) [
    | inl dash ↦
        let input : is_input path ≡ true = rw dash refl in
        let one : inputs_named (front ++ path ∷ back) ≤ 1 = rw are at few in
        ap (λ (rest : Option (List ℕ)). list_content others rest path) (unread (inputs_at front back path input one))
        ∙ ap (λ (known : List ℕ → FileContent). list_content known left path) same
    | inr other ↦ rw other (ap (λ (known : List ℕ → FileContent). known path) same)
  ]

  -- files that were read, and one more
  pub read_next : (bytes : List ℕ) (before after : List (List ℕ)) → before ≡ front ++ path ∷ [] → after ≡ files ++ bytes ∷ []
      → IsListRead (list_content others now path) bytes → AreFilesRead content_of left before after
  read_next bytes before after b a r =
      let one : IsListRead (list_content content_of left path) bytes = subst (λ content. IsListRead content bytes) content_is r in
      rw (b, a) (read_append content_of left front (path ∷ []) files (bytes ∷ []) read (file path bytes [] [] one none))

  -- the files before one were read without a report, and it can't be read
  pub stopped_next : (status : ℕ) (taken middle taken_after : SpelledBytes) (failed failed_middle failed_after : ℕ)
      → TakesLines taken failed [] middle failed_middle
      → (lines : List ErrorLine) × StopsReadingList (list_content others now path) path status lines × TakesLines middle failed_middle lines taken_after failed_after
      → (lines : List ErrorLine) × StopsAmongLists content_of left paths status lines × TakesLines taken failed lines taken_after failed_after
  stopped_next status taken middle taken_after failed failed_middle failed_after before h = (
    h.0,
    at_file front back files path are read (subst (λ content. StopsReadingList content path status h.0) content_is h.1),
    lines_append taken middle failed failed_middle [] h.0 taken_after failed_after before h.2,
  )

-- a run that ends among the files of words ends at words
among_words : (content_of : List ℕ → FileContent) (left : Option (List ℕ)) (words paths : List (List ℕ)) (status : ℕ) (lines : List ErrorLine)
    → paths ≡ files_of words → StopsAmongLists content_of left paths status lines → StopsAtWords content_of left words status lines
among_words content_of left words paths status lines are (at_file front back files path split read h) =
    unread front back files path (sym are ∙ split) read h
among_words content_of left words paths status lines are (for_memory s l) = stops.for_memory s l

pub words_stopped : (content_of : List ℕ → FileContent) (left : Option (List ℕ)) (words paths : List (List ℕ)) (status of_stop : ℕ)
    (taken middle taken_after : SpelledBytes) (failed failed_middle failed_after : ℕ) → paths ≡ files_of words → status ≡ of_stop
    → (lines : List ErrorLine) × StopsAmongLists content_of left paths of_stop lines × TakesLines taken failed lines middle failed_middle
    → TakesLines middle failed_middle (last_lines status) taken_after failed_after
    → (lines : List ErrorLine) × StopsAtWords content_of left words status lines × TakesLines taken failed (lines ++ last_lines status) taken_after failed_after
words_stopped content_of left words paths status of_stop taken middle taken_after failed failed_middle failed_after are same h last = (
  h.0,
  subst (λ n. StopsAtWords content_of left words n h.0) (sym same) (among_words content_of left words paths of_stop h.0 are h.1),
  lines_append taken middle failed failed_middle h.0 (last_lines status) taken_after failed_after h.2 last,
)
