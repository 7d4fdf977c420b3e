-- The first step of a line, by its tokens.
use Rattle.kc_expansion.proofs.Common.{◌≡◌, ℕ, ◌<◌, ◌≤◌, Bool, true, false, not, ◌||◌, List, [], ◌∷◌, length, Some, refl, sym, ap, ◌∙◌, arith, nat_lt, codes, is_utf8, nat_tests, begins_help, MAX_TEXT_BYTES, Place, Program, returns, fails, stops, ◌>>=◌, meant_line, line_tokens, WrittenToken}
use Rattle.kc_expansion.proofs.Common.{line_content, SourceSort, LineForm, sources, form_of, is_help_line, is_undecided, ReadingState, progress, WrittenLine, written_line, SourceReader, short_line, form_written, content_written, line_written, source_followed, stopped, returned, Stop, RunState, ends}
use Rattle.kc_expansion.proofs.Common.{end_of_stop, Runs, TreeContents, KnownFiles, FileRun, file_run, cut_short, Leads, IsCopiedLine, fault_at, assigned_or_fault, grouped, stays_same, grows_same}
use Rattle.kc_macros_model.specs.declared.fault.MacroKind.TheVariants.{LineTooLong}
use Rattle.kc_macros_model.specs.Variables.{Value, with_variable}
use Rattle.kc_macros_model.specs.Assignments.{LineContent, assigns, assigned, variable_assigned}
use Rattle.kc_macros_model.specs.TreeExpansion.{tokens_written}
use Rattle.kc_macros.specs.declared.stop.Stop.TheVariants as kinds
use Rattle.kc_expansion.specs.between.Reads.{Reads}
use Rattle.kc_macros.specs.declared.assignments.Assignment.{Assignment}
use Rattle.kc_expansion.specs.checker.ReadingViews.{IsNoPath}
use Rattle.kc_macro_lines.proofs.NothingToExpandLemmas.{narrow_is_utf8}
use Rattle.kc_expansion.proofs.FileProgramLemmas.{leads_same, leads_then, leads_on, reads_on, reads_early, reads_by_run, reads_stop}

module _ (at : Place) (help : Bool) (text : List ℕ) (s : ReadingState) where
  by_length : Bool → Program WrittenLine
  by_length b = elim b [ true ↦ fails (fault_at at LineTooLong) | false ↦ returns (written_line text help s) ]

  -- a line whose new text is longer than 65,536 bytes fails by `LineTooLong`
  pub long_line : MAX_TEXT_BYTES < length text → short_line at help (progress text s) ≡ fails (fault_at at LineTooLong)
  unfolding by_length
  long_line h = ap by_length (let e : nat_lt MAX_TEXT_BYTES (length text) ≡ true = grind (arith, nat_tests) in e)

  pub short_enough : length text ≤ MAX_TEXT_BYTES → short_line at help (progress text s) ≡ returns (written_line text help s)
  unfolding by_length
  short_enough h = ap by_length (let e : nat_lt MAX_TEXT_BYTES (length text) ≡ false = grind (arith, nat_tests) in e)

module _ (sub : SourceReader) (at : Place) (s : ReadingState) (ts real : List WrittenToken) where
  by_knowledge : Bool → Program WrittenLine
  by_knowledge b = elim b [ true ↦ stops | false ↦ form_written sub at ts (form_of real) s >>= short_line at (is_help_line real) ]

  pub undecided : is_undecided real ≡ true → tokens_written sub at s ts real ≡ stops
  unfolding by_knowledge
  undecided h = ap by_knowledge h

  pub decided : (form : LineForm) → is_undecided real ≡ false → form_of real ≡ form → tokens_written sub at s ts real
      ≡ form_written sub at ts form s >>= short_line at (is_help_line real)
  unfolding by_knowledge
  decided form h f = ap by_knowledge h ∙ ap (λ f. form_written sub at ts f s >>= short_line at (is_help_line real)) f

-- no help text follows a `source` line
pub no_help_of_source : (real : List WrittenToken) (sort : SourceSort) (path : Value) → form_of real ≡ sources sort path → is_help_line real ≡ false
no_help_of_source [] sort path h = absurd (let z : ⊥ = cc in z)
no_help_of_source (t ∷ []) sort path h = absurd (let z : ⊥ = cc in z)
no_help_of_source (t ∷ u ∷ rest) sort path h = refl

module _ (sub : SourceReader) (at : Place) (continued : Bool) (text : List ℕ) (s : ReadingState) where
  by_size : Bool → Program WrittenLine
  by_size b = elim b [
    | true ↦ returns (written_line text (begins_help text) s)
    | false ↦ line_content at s.bindings true
        (line_tokens 0 (meant_line text)) >>= content_written sub at continued s
  ]

  -- a line that is UTF-8 and not too long is read into its content, which is then written
  pub changing_line : (nat_lt MAX_TEXT_BYTES (length text) || not (is_utf8 text)) ≡ false → line_written sub at continued text s
      ≡ line_content at s.bindings true (line_tokens 0 (meant_line text)) >>= content_written sub at continued s
  unfolding by_size
  changing_line h = ap by_size h

  pub refused_line : (nat_lt MAX_TEXT_BYTES (length text) || not (is_utf8 text)) ≡ true → line_written sub at continued text s
      ≡ returns (written_line text (begins_help text) s)
  unfolding by_size
  refused_line h = ap by_size h

-- a tab and `help`, as most help texts begin
usual : (sub : SourceReader) (at : Place) (continued : Bool) (s : ReadingState) → line_written sub at continued (9 ∷ codes "help") s
    ≡ returns (written_line (9 ∷ codes "help") true s)
usual sub at continued s =
    let text = 9 ∷ codes "help" in
    ap (λ b. elim (nat_lt MAX_TEXT_BYTES (length text) || not b) as (λ x. Program WrittenLine) [
      | true ↦ returns (written_line text (begins_help text) s)
      | false ↦ line_content at s.bindings true (line_tokens 0 (meant_line text)) >>= content_written sub at continued s
    ]) (narrow_is_utf8 text refl)

pub usual_help : (text : List ℕ) → text ≡ 9 ∷ codes "help" → IsCopiedLine text true
usual_help text e = rw e (record { written = usual })

-- a line that is too long or isn't UTF-8 stays
pub refused_stays : (text : List ℕ) (help : Bool) → (nat_lt MAX_TEXT_BYTES (length text) || not (is_utf8 text)) ≡ true → help ≡ begins_help text
    → IsCopiedLine text help
refused_stays text help h e = record {
  written = λ sub at continued s. refused_line sub at continued text s h
      ∙ ap (λ b. returns (written_line text b s)) (sym e);
}

-- the writing of an assignment on a line binds its name, or fails where the line is continued, and leaves an empty line
pub assigned_line : (sub : SourceReader) (at : Place) (continued : Bool) (s : ReadingState) (a : Assignment)
    → content_written sub at continued s (assigns a.name (assigned a.operator a.text))
    ≡ (assigned_or_fault at continued s.bindings a >>= λ b. let t : ReadingState = record s { bindings = b } in returns (written_line [] false t))
assigned_line sub at true s a = refl
assigned_line sub at false s a =
    sym (grouped (variable_assigned at s.bindings a.operator a.text (s.bindings a.name)) (λ v. returns (with_variable a.name v s.bindings))
    (λ b. let t : ReadingState = record s { bindings = b } in returns (written_line [] false t)))

-- a line that is UTF-8 and not too long, as code reads its content by a run
module _ {contents : TreeContents} {known : KnownFiles} {run new : RunState} (sub : SourceReader) (at : Place) (continued : Bool) (text : List ℕ)
    (s : ReadingState) (h : (nat_lt MAX_TEXT_BYTES (length text) || not (is_utf8 text)) ≡ false) where
  pub content_unread : (stop : Stop) → Runs run new (line_content at s.bindings true (line_tokens 0 (meant_line text))) (end_of_stop stop)
      → Reads (file_run contents known run) (file_run contents known new) (line_written sub at continued text s) (end_of_stop stop)
  content_unread stop r =
      reads_on (leads_same (changing_line sub at continued text s h)) (reads_early (content_written sub at continued s) stop (reads_by_run r))

  pub content_read : {x y : LineContent} → x ≡ y → Runs run new (line_content at s.bindings true (line_tokens 0 (meant_line text))) (ends (returned x))
      → Leads (file_run contents known run) (line_written sub at continued text s) (file_run contents known new) (content_written sub at continued s y)
  content_read e r =
      leads_then (leads_same (changing_line sub at continued text s h))
      (leads_then (leads_on (content_written sub at continued s) (reads_by_run r)) (leads_same (ap (content_written sub at continued s) e)))

  pub assignment_read : {x : LineContent} (a : Assignment) → x ≡ assigns a.name (assigned a.operator a.text)
      → Runs run new (line_content at s.bindings true (line_tokens 0 (meant_line text))) (ends (returned x))
      → Leads (file_run contents known run) (line_written sub at continued text s) (file_run contents known new)
      (assigned_or_fault at continued s.bindings a >>= λ b. let t : ReadingState = record s { bindings = b } in returns (written_line [] false t))
  assignment_read a e r = leads_then (content_read e r) (leads_same (assigned_line sub at continued s a))

-- the tokens of a line, by whether their form is decided
module _ {a : FileRun} (sub : SourceReader) (at : Place) (s : ReadingState) (ts real : List WrittenToken) {shown : Bool} (k : shown ≡ is_undecided real) where
  pub stops_undecided : shown ≡ true → Reads a a (tokens_written sub at s ts real) (ends stopped)
  stops_undecided h = reads_on (leads_same (undecided sub at s ts real (sym k ∙ h))) reads_stop

  module _ (h : shown ≡ false) where
    -- the writing of a line whose form is written as a text leads to that text, if it is short enough
    pub text_written : (form : LineForm) (t : List ℕ) (u : ReadingState) (help : Bool) → form ≡ form_of real → help ≡ is_help_line real
        → form_written sub at ts form s ≡ returns (progress t u) → Leads a (tokens_written sub at s ts real) a (short_line at help (progress t u))
    text_written form t u help f e w =
        leads_same (decided sub at s ts real form (sym k ∙ h) (sym f) ∙ ap (λ p. p >>= short_line at (is_help_line real)) w
        ∙ ap (λ b. short_line at b (progress t u)) (sym e))

    module _ (sort : SourceSort) (path : Value) (f : sources sort path ≡ form_of real) where
      -- a `source` line whose path isn't known, or isn't copied for lack of memory, ends by that stop
      pub path_unknown : (stop : Stop) → IsNoPath path stop → Reads a a (tokens_written sub at s ts real) (end_of_stop stop)
      path_unknown (kinds.Fault f) n = absurd n
      path_unknown kinds.Unanswered n =
          reads_on (leads_same (decided sub at s ts real (sources sort path) (sym k ∙ h) (sym f)
          ∙ ap (λ v. form_written sub at ts (sources sort v) s >>= short_line at (is_help_line real)) n)) reads_stop
      path_unknown kinds.OutOfMemory n = record { same = stays_same a.contents; grows = grows_same a.contents a.known; reaches = cut_short }

      pub path_known : (given : List ℕ) → path ≡ Some given
          → Leads a (tokens_written sub at s ts real) a (source_followed sub at ts sort (Some given) s >>= short_line at false)
      path_known given n =
          leads_same (decided sub at s ts real (sources sort path) (sym k ∙ h) (sym f)
          ∙ ap (λ b. source_followed sub at ts sort path s >>= short_line at b) (no_help_of_source real sort path (sym f))
          ∙ ap (λ v. source_followed sub at ts sort v s >>= short_line at false) n)
