-- An answer file has the fault of a failed read only where a read failed.
use Rattle.kmin_inputs.proofs.Common.{◌≡◌, ℕ, ◌⊎◌, inl, inr, Bool, true, false, ◌+◌, List, [], ◌∷◌, Option, Some, None, Result, Ok, Err, refl, ap, ◌∙◌, sym, subst, length, take, arith, if◌then◌else◌, option_or, keyword_in_table, Answer, AnswersKind, Malformed, TwoAnswers, NotUtf8, LineTooLong}
use Rattle.kmin_inputs.proofs.Common.{TooManyLines, TooLarge, Read, OutOfMemory, AnswersFault, RecordedAnswers, complete, cut_by, AreAnswersRefused, ReadsToEnd, end_of_file, HasRisen, answers_status}
use Rattle.std.specs.Prelude.{nat_lt, IfSome}
use Rattle.std.specs.Str.{is_utf8}
use Rattle.kc_value.specs.declared.limits.TheConstants.{MAX_ANSWER_BYTES, MAX_ANSWER_LINES, MAX_ANSWER_LINE_BYTES}
use Rattle.kc_tree_model.specs.LogicalLines.{PhysicalLine, split_at_newlines, without_white_end}
use Rattle.kc_macros_model.specs.AnswerFiles.{AnswerLine, comment, answer, command, malformed, meaning_of_line, is_same_answer, LinesSoFar, fault_at, one_line_more, with_answer, malformed_line, with_meaning, fault_of_size, fault_of_line, with_line, FileEnd, unless_waiting, cut_line}
use Rattle.kc_macros_model.specs.AnswerFiles.{and_then, recorded_from, first_line, answers_read}

-- a kind, if there is one, that isn't that of a failed read
abbrev Other : Option AnswersKind → Type 0
Other kind = IfSome kind (λ k. k ≡ Read → ⊥)

sized : (few long : Bool) → Other (if few then (if long then Some LineTooLong else None) else Some TooManyLines)
sized true true = λ e. cc
sized true false = tt
sized false true = λ e. cc
sized false false = λ e. cc

lined : (size : Option AnswersKind) (utf8 : Bool) → Other size → Other (option_or size (if utf8 then None else Some NotUtf8))
lined (Some k) utf8 h = h
lined None true h = tt
lined None false h = λ e. cc

-- a result that isn't the fault of a failed read
abbrev NotRead : Result LinesSoFar AnswersFault → Type 0
NotRead r = (f : AnswersFault) → r ≡ Err f → f.kind ≡ Read → ⊥

same_or_two : (lines : LinesSoFar) (same : Bool) → NotRead (if same then Ok (one_line_more lines None lines.recorded) else Err (fault_at (lines.count + 1) TwoAnswers))
same_or_two lines true f e k = cc
same_or_two lines false f e k = cc

answered : (lines : LinesSoFar) (question : List ℕ) (a : Answer) (known : Option Answer) → NotRead (with_answer lines question a known)
answered lines question a None f e k = cc
answered lines question a (Some b) f e k = same_or_two lines (is_same_answer b a) f e k

malformed_kind : (count : ℕ) (waiting : Option (List ℕ)) → (malformed_line count waiting).kind ≡ Read → ⊥
malformed_kind count None e = cc
malformed_kind count (Some question) e = cc

meant : (lines : LinesSoFar) (meaning : AnswerLine) → NotRead (with_meaning lines meaning)
meant lines comment f e k = cc
meant lines (answer question a) f e k = answered lines question a (keyword_in_table lines.recorded question) f e k
meant lines (command question) f e k = cc
meant lines malformed f e k =
    let same : malformed_line lines.count lines.waiting ≡ f = cc e in
    malformed_kind lines.count lines.waiting (ap (λ (g : AnswersFault). g.kind) same ∙ k)

by_fault : (lines : LinesSoFar) (line : List ℕ) (kind : Option AnswersKind) → Other kind
    → NotRead (elim kind [ Some k ↦ Err (fault_at (lines.count + 1) k) | None ↦ with_meaning lines (meaning_of_line lines.waiting (without_white_end line)) ])
by_fault lines line (Some k) h f e r =
    let same : fault_at (lines.count + 1) k ≡ f = cc e in
    h (ap (λ (g : AnswersFault). g.kind) same ∙ r)
by_fault lines line None h f e r = meant lines (meaning_of_line lines.waiting (without_white_end line)) f e r

one_line : (lines : LinesSoFar) (line : List ℕ) → NotRead (with_line lines line)
one_line lines line =
    by_fault lines line (fault_of_line lines.count line)
    (lined (fault_of_size lines.count line) (is_utf8 line) (sized (nat_lt lines.count MAX_ANSWER_LINES) (nat_lt MAX_ANSWER_LINE_BYTES (length line))))

-- the end by which a result has the fault of a failed read is that read
abbrev OnlyCut : FileEnd → Result RecordedAnswers AnswersFault → Type 0
OnlyCut end r = (f : AnswersFault) → r ≡ Err f → f.kind ≡ Read → end ≡ cut_by Read

at_end : (lines : LinesSoFar) (waiting : Option (List ℕ)) → OnlyCut complete (unless_waiting lines waiting)
at_end lines None f e k = cc
at_end lines (Some question) f e k =
    let same : malformed_line lines.count (Some question) ≡ f = cc e in
    absurd (malformed_kind lines.count (Some question) (ap (λ (g : AnswersFault). g.kind) same ∙ k))

then_only : (end : FileEnd) (r : Result LinesSoFar AnswersFault) (next : LinesSoFar → Result RecordedAnswers AnswersFault) → NotRead r
    → ((more : LinesSoFar) → OnlyCut end (next more)) → OnlyCut end (and_then r next)
then_only end (Ok more) next h n f e k = n more f e k
then_only end (Err g) next h n f e k =
    let same : g ≡ f = cc e in
    absurd (h f (ap Err same) k)

cut_kind : (kind : AnswersKind) (count : ℕ) (size : Option AnswersKind) (f : AnswersFault) → Other size
    → elim size [ Some earlier ↦ fault_at (count + 1) earlier | None ↦ fault_at (count + 1) kind ] ≡ f → f.kind ≡ Read → cut_by kind ≡ cut_by Read
cut_kind kind count (Some earlier) f h e k = absurd (h (ap (λ (g : AnswersFault). g.kind) e ∙ k))
cut_kind kind count None f h e k = ap cut_by (ap (λ (g : AnswersFault). g.kind) e ∙ k)

cut_only : (kind : AnswersKind) (lines : LinesSoFar) (l : PhysicalLine) (ls : List PhysicalLine) (ended : Bool)
    → ((more : LinesSoFar) → OnlyCut (cut_by kind) (recorded_from (cut_by kind) more ls))
    → OnlyCut (cut_by kind) (elim ended [ true ↦ and_then (with_line lines l.text) (λ more. recorded_from (cut_by kind) more ls) | false ↦ Err (cut_line kind lines l.text) ])
cut_only kind lines l ls true h f e k =
    then_only (cut_by kind) (with_line lines l.text) (λ more. recorded_from (cut_by kind) more ls) (one_line lines l.text) h f e k
cut_only kind lines l ls false h f e k =
    let same : cut_line kind lines l.text ≡ f = cc e in
    cut_kind kind lines.count (fault_of_size lines.count l.text) f
    (sized (nat_lt lines.count MAX_ANSWER_LINES) (nat_lt MAX_ANSWER_LINE_BYTES (length l.text))) same k

only_cut : (end : FileEnd) (lines : LinesSoFar) (ls : List PhysicalLine) → OnlyCut end (recorded_from end lines ls)
only_cut complete lines [] f e k = at_end lines lines.waiting f e k
only_cut (cut_by kind) lines [] f e k =
    let same : fault_at (lines.count + 1) kind ≡ f = cc e in
    ap cut_by (ap (λ (g : AnswersFault). g.kind) same ∙ k)
only_cut complete lines (l ∷ ls) f e k =
    then_only complete (with_line lines l.text) (λ more. recorded_from complete more ls) (one_line lines l.text) (λ more. only_cut complete more ls) f e k
only_cut (cut_by kind) lines (l ∷ ls) f e k = cut_only kind lines l ls l.ended (λ more. only_cut (cut_by kind) more ls) f e k

by_size : (big : Bool) (end : FileEnd) (bytes : List ℕ) (earlier : RecordedAnswers)
    → OnlyCut end (if big then recorded_from (cut_by TooLarge) (first_line earlier) (split_at_newlines (take MAX_ANSWER_BYTES bytes))
    else recorded_from end (first_line earlier) (split_at_newlines bytes))
by_size true end bytes earlier f e k =
    let cut : cut_by TooLarge ≡ cut_by Read = only_cut (cut_by TooLarge) (first_line earlier) (split_at_newlines (take MAX_ANSWER_BYTES bytes)) f e k in
    absurd (cc cut)
by_size false end bytes earlier f e k = only_cut end (first_line earlier) (split_at_newlines bytes) f e k

read_is_cut : (end : FileEnd) (bytes : List ℕ) (earlier : RecordedAnswers) → OnlyCut end (answers_read end bytes earlier)
unfolding answers_read
read_is_cut end bytes earlier f e k = by_size (nat_lt MAX_ANSWER_BYTES (length bytes)) end bytes earlier f e k

cut_rises : (after : Option (List ℕ)) (failed failed_after : ℕ) (bytes : List ℕ) (cut : Option AnswersKind) → ReadsToEnd after failed failed_after bytes cut
    → end_of_file cut ≡ cut_by Read → HasRisen failed failed_after
cut_rises after failed failed_after bytes None h e = absurd (cc e)
cut_rises after failed failed_after bytes (Some kind) h e =
    let read : kind ≡ Read = cc e in
    (subst (λ (c : AnswersKind). ReadsToEnd after failed failed_after bytes (Some c)) read h).1

-- an answer file that is refused for a failed read had one
pub refused_for_read : (before after : Option (List ℕ)) (failed failed_after : ℕ) (earlier : RecordedAnswers) (fault : AnswersFault)
    → AreAnswersRefused before after failed failed_after earlier fault → fault.kind ≡ Read → HasRisen failed failed_after
refused_for_read before after failed failed_after earlier fault r k =
    cut_rises after failed failed_after r.bytes r.cut r.ended (read_is_cut (end_of_file r.cut) r.bytes earlier fault r.read k)

status_of_read : (kind : AnswersKind) → answers_status kind ≡ 5 → kind ≡ Read
status_of_read Read e = refl
status_of_read OutOfMemory e = absurd (omega arith)
status_of_read Malformed e = absurd (omega arith)
status_of_read TwoAnswers e = absurd (omega arith)
status_of_read NotUtf8 e = absurd (omega arith)
status_of_read LineTooLong e = absurd (omega arith)
status_of_read TooManyLines e = absurd (omega arith)
status_of_read TooLarge e = absurd (omega arith)

-- an answer file that ends a run with the status of a failed read had one
pub ended_for_read : (before after : Option (List ℕ)) (failed failed_after : ℕ) (earlier : RecordedAnswers) (fault : AnswersFault) (status : ℕ)
    → (fault.kind ≡ OutOfMemory) ⊎ AreAnswersRefused before after failed failed_after earlier fault → status ≡ answers_status fault.kind → status ≡ 5
    → HasRisen failed failed_after
ended_for_read before after failed failed_after earlier fault status (inl e) s five =
    let read : fault.kind ≡ Read = status_of_read fault.kind (sym s ∙ five) in
    absurd (cc (e, read))
ended_for_read before after failed failed_after earlier fault status (inr r) s five =
    refused_for_read before after failed failed_after earlier fault r (status_of_read fault.kind (sym s ∙ five))
