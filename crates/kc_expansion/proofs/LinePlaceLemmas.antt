-- The lines of a file by their places, and what is written for them.
use Rattle.std.proofs.Common.{length-drop}
use Rattle.kc_expansion.proofs.Common.{◌≡◌, ℕ, zero, suc, ◌+◌, ◌<◌, ◌≤◌, Bool, true, false, cond, List, [], ◌∷◌, ◌++◌, length, take, drop, map, refl, sym, ap, ◌∙◌, append_assoc, arith, ◌-◌, ◌==◌, replicate, slice_range, bytes_eq, PhysicalLine, split_at_newlines, without_return, is_continued}
use Rattle.kc_expansion.proofs.Common.{joined_bytes, continuation_count, Program, returns, ◌>>=◌, ReadingState, Progress, progress, WrittenLine, SourceReader, place, line_written, bytes_of_lines, lines_written, help_after, lines_read, split_bytes, is_first_continued, text_up_to, WrittenFile}
use Rattle.kc_expansion.proofs.Common.{same_rest}
use Rattle.std.proofs.lemmas.List.{append_cancel_right, take-append-drop}
use Rattle.kc_tree_model.specs.LogicalLines.{with_first_byte}
use Rattle.kc_macros_model.specs.TreeExpansion.{newlines_of}
use Rattle.kc_value.specs.Lines.{newline_count}
use Rattle.kc_macros_model.proofs.LineCounts.{count_both, count_clean, AreCleanLines, no_lines, next_line, split_clean, lines_both, taken_clean, drop_twice}

-- the bytes between two places, followed by those from the second place on, are the bytes from the first place on
pub range_before_rest : (bytes : List ℕ) (at next : ℕ) → at ≤ next → slice_range bytes at next ++ drop next bytes ≡ drop at bytes
range_before_rest bytes at next h =
    ap (λ t. slice_range bytes at next ++ t) (ap (λ k. drop k bytes) (let e : next ≡ at + (next - at) = omega arith in e) ∙ drop_twice at (next - at) bytes)
    ∙ take-append-drop (next - at) (drop at bytes)

-- the bytes between two places are those up to a place between them and those from it on
pub ranges_meet : (bytes : List ℕ) (a b c : ℕ) → a ≤ b → b ≤ c → slice_range bytes a c ≡ slice_range bytes a b ++ slice_range bytes b c
ranges_meet bytes a b c h k =
    append_cancel_right (slice_range bytes a c) (slice_range bytes a b ++ slice_range bytes b c) (drop c bytes)
    (range_before_rest bytes a c (let e : a ≤ c = omega arith in e)
    ∙ sym (append_assoc (slice_range bytes a b) (slice_range bytes b c) (drop c bytes) ∙ ap (λ t. slice_range bytes a b ++ t) (range_before_rest bytes b c k)
    ∙ range_before_rest bytes a b h))

-- the text of a file up to a later place, where nothing in between is replaced, is the text up to the earlier place and the bytes
-- in between
pub text_further : (out : WrittenFile) (bytes : List ℕ) (mid end : ℕ) → out.original.value.items ≡ bytes → out.copied ≤ mid → mid ≤ end
    → text_up_to out end ≡ text_up_to out mid ++ slice_range bytes mid end
text_further out bytes mid end e h k =
    ap (λ t. out.written.items ++ t) (ranges_meet out.original.value.items out.copied mid end h k)
    ∙ sym (append_assoc out.written.items (slice_range out.original.value.items out.copied mid) (slice_range out.original.value.items mid end))
    ∙ ap (λ b. text_up_to out mid ++ slice_range b mid end) e

-- the lines between two places have the bytes between them
pub lines_between : (bytes : List ℕ) (at next lines : ℕ) → at ≤ next → split_at_newlines (drop next bytes) ≡ drop lines (split_at_newlines (drop at bytes))
    → bytes_of_lines (take lines (split_at_newlines (drop at bytes))) ≡ slice_range bytes at next
lines_between bytes at next lines h e =
    let all = split_at_newlines (drop at bytes) in
    append_cancel_right (bytes_of_lines (take lines all)) (slice_range bytes at next) (drop next bytes)
    (ap (λ t. bytes_of_lines (take lines all) ++ t) (sym (split_bytes (drop next bytes)) ∙ ap bytes_of_lines e)
    ∙ sym (lines_both (take lines all) (drop lines all))
    ∙ ap bytes_of_lines (take-append-drop lines all)
    ∙ split_bytes (drop at bytes)
    ∙ sym (range_before_rest bytes at next h))

-- the newlines of lines, by their count
newlines_counted : {ls : List PhysicalLine} → AreCleanLines ls → newlines_of ls ≡ replicate (newline_count (bytes_of_lines ls)) 10
newlines_counted no_lines = refl
newlines_counted (next_line {l = l} {ls = ls} h r) = by_test (newlines_counted r) l.ended
  where
    by_test : newlines_of ls ≡ replicate (newline_count (bytes_of_lines ls)) 10 → (b : Bool) → cond b (10 ∷ []) [] ++ newlines_of ls
        ≡ replicate (newline_count (cond b (l.text ++ 10 ∷ []) l.text ++ bytes_of_lines ls)) 10
    by_test e true =
        ap (λ t. 10 ∷ t) e
        ∙ ap (λ n. replicate n 10) (let k : suc (newline_count (bytes_of_lines ls)) ≡ newline_count ((l.text ++ 10 ∷ []) ++ bytes_of_lines ls) =
        omega (arith, count_both (l.text ++ 10 ∷ []) (bytes_of_lines ls), count_both l.text (10 ∷ []), count_clean l.text h, one_newline) in k)
      where
        one_newline : newline_count (10 ∷ []) ≡ 1
        one_newline = refl
    by_test e false = e ∙ ap (λ n. replicate n 10) (let k : newline_count (bytes_of_lines ls) ≡ newline_count (l.text ++ bytes_of_lines ls) =
        omega (arith, count_both l.text (bytes_of_lines ls), count_clean l.text h) in k)

-- lines whose new text is their joined text keep their bytes
pub lines_stay : (ls : List PhysicalLine) (text new : List ℕ) → bytes_eq new text ≡ true → lines_written ls text new ≡ bytes_of_lines ls
lines_stay ls text new e = ap (λ b. cond b (bytes_of_lines ls) (new ++ newlines_of ls)) e

-- lines between two places with another text are written as that text and as many newlines as the bytes between the places have
pub lines_replaced : (bytes : List ℕ) (at next lines : ℕ) (text new : List ℕ) → at ≤ next → split_at_newlines (drop next bytes)
    ≡ drop lines (split_at_newlines (drop at bytes)) → bytes_eq new text ≡ false
    → lines_written (take lines (split_at_newlines (drop at bytes))) text new ≡ new ++ replicate (newline_count (slice_range bytes at next)) 10
lines_replaced bytes at next lines text new h e f =
    let ls = take lines (split_at_newlines (drop at bytes)) in
    ap (λ b. cond b (bytes_of_lines ls) (new ++ newlines_of ls)) f
    ∙ ap (λ t. new ++ t) (newlines_counted (taken_clean lines (split_at_newlines (drop at bytes)) (split_clean (drop at bytes)))
    ∙ ap (λ t. replicate (newline_count t) 10) (lines_between bytes at next lines h e))

-- lines that are passed over
lines_skipped : (sub : SourceReader) (file : List ℕ) (k n : ℕ) (ls : List PhysicalLine) (s : ReadingState)
    → lines_read sub file k n ls s ≡ lines_read sub file 0 (n + k) (drop k ls) s
lines_skipped sub file zero n ls s = ap (λ m. lines_read sub file 0 m ls s) (let e : n ≡ n + 0 = omega arith in e)
lines_skipped sub file (suc k) n [] s = refl
lines_skipped sub file (suc k) n (l ∷ ls) s = lines_skipped sub file k (n + 1) ls s ∙ ap (λ m. lines_read sub file 0 m (drop k ls) s)
    (let e : n + 1 + k ≡ n + suc k = omega arith in e)

-- the program that reads the lines of a file after a logical line that is written as `line` and has `lines` physical lines
abbrev pub lines_after : SourceReader → (file : List ℕ) → (lines n : ℕ) → List PhysicalLine → (text : List ℕ) → WrittenLine → Program Progress
lines_after sub file lines n all text line =
    let help = help_after line.begins_help (drop lines all) in
    lines_read sub file 0 (n + lines + help) (drop help (drop lines all)) line.state >>= λ rest.
    returns (progress (lines_written (take lines all) text line.text ++ (bytes_of_lines (take help (drop lines all)) ++ rest.text)) rest.state)

one_line : (sub : SourceReader) (file : List ℕ) (n : ℕ) (l : PhysicalLine) (ls : List PhysicalLine) (s : ReadingState)
    → lines_read sub file 0 n (l ∷ ls) s ≡ line_written sub (place file n) (is_continued (without_return l)) (joined_bytes (map without_return (l ∷ ls))) s
    >>= lines_after sub file (suc (continuation_count (map without_return (l ∷ ls)))) n (l ∷ ls) (joined_bytes (map without_return (l ∷ ls)))
one_line sub file n l ls s =
    let more = continuation_count (map without_return (l ∷ ls)) in
    let text = joined_bytes (map without_return (l ∷ ls)) in
    same_rest (line_written sub (place file n) (is_continued (without_return l)) text s)
    (λ line. let help = help_after line.begins_help (drop more ls) in
    lines_read sub file (more + help) (n + 1) ls line.state >>= λ rest.
    returns (progress (lines_written (l ∷ take more ls) text line.text ++ (bytes_of_lines (take help (drop more ls)) ++ rest.text)) rest.state))
    (lines_after sub file (suc more) n (l ∷ ls) text)
    (λ line. let help = help_after line.begins_help (drop more ls) in
    ap (λ p. p >>= λ (rest : Progress). returns (progress (lines_written (l ∷ take more ls) text line.text
    ++ (bytes_of_lines (take help (drop more ls)) ++ rest.text)) rest.state))
    (lines_skipped sub file (more + help) (n + 1) ls line.state
    ∙ ap (λ m. lines_read sub file 0 m (drop (more + help) ls) line.state) (let e : n + 1 + (more + help) ≡ n + suc more + help = omega arith in e)
    ∙ ap (λ rest. lines_read sub file 0 (n + suc more + help) rest line.state) (drop_twice more help ls)))

-- reading the lines of a file, where there are some, begins by writing the first logical line and goes on with the lines after it
pub line_in_front : (sub : SourceReader) (file : List ℕ) (n : ℕ) (all : List PhysicalLine) (s : ReadingState) → 0 < length all
    → lines_read sub file 0 n all s ≡ line_written sub (place file n) (is_first_continued (map without_return all)) (joined_bytes (map without_return all)) s
    >>= lines_after sub file (suc (continuation_count (map without_return all))) n all (joined_bytes (map without_return all))
line_in_front sub file n [] s h = absurd (let z : ⊥ = omega arith in z)
line_in_front sub file n (l ∷ ls) s h = one_line sub file n l ls s

-- a file has at least one line from each place before its end on
pub some_lines : (bytes : List ℕ) (at : ℕ) → at < length bytes → 0 < length (split_at_newlines (drop at bytes))
some_lines bytes at h = some_of (drop at bytes) (let e : 0 < length (drop at bytes) = omega (arith, length-drop at bytes) in e)
  where
    with_first : (c : ℕ) (ls : List PhysicalLine) → 0 < length (with_first_byte c ls)
    with_first c [] = omega arith
    with_first c (l ∷ ls) = omega arith

    some_of : (s : List ℕ) → 0 < length s → 0 < length (split_at_newlines s)
    some_of [] h = absurd (let z : ⊥ = omega arith in z)
    some_of (c ∷ s) h = by_test (c == 10)
      where
        by_test : (b : Bool) → 0 < length (cond b (record { text = []; ended = true } ∷ split_at_newlines s) (with_first_byte c (split_at_newlines s)))
        by_test true = omega arith
        by_test false = with_first c (split_at_newlines s)
