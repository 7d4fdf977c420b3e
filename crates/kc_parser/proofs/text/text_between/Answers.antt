use Rattle.kc_parser.proofs.Common.{◌≡◌, ◌≤◌, ℕ, true, false, List, length, take, ◌∙◌, ap, subst, arith, nat_lt, slice_range, is_utf8, nat_tests, MAX_LINE_BYTES}
use Rattle.kc_parser.proofs.FileTexts.{part_of_front}
use Rattle.kc_parser.proofs.ReaderSteps.{too_long, utf8_holds}
use Rattle.kc_parser.proofs.text.text_between.Goals as goal

-- a text that was cut out of the file's text is a part of its bytes
part : (bytes text cut : List ℕ) (from to : ℕ) → from ≤ to → to ≤ length text → text ≡ take (length text) bytes → cut ≡ slice_range text from to
    → cut ≡ slice_range bytes from to
part bytes text cut from to order within front is =
    is ∙ ap (λ (t : List ℕ). slice_range t from to) front ∙ part_of_front bytes (length text) from to order within

pub returns : goal.returns
returns c =
    let cases = c.in-Some.ensures.cases in
    let same = part c.args.file.bytes.now c.args.file.text.now c.in-Some.text.now c.args.from c.args.to c.requires.order cases.2 c.args.file.front cases.0 in
    let P : List ℕ → Type 0 = λ t. (nat_lt MAX_LINE_BYTES (length t) ≡ false) × (is_utf8 t ≡ true) in
    let valid : P c.as_bytes.result.now = (grind (arith, nat_tests), utf8_holds _ c.as_bytes.ensures.utf8) in
    let there = subst P (c.as_bytes.ensures.value ∙ same) valid in
    (there.0, there.1, same)

pub returns-then-as_bytes-gt-MAX_LINE_BYTES : goal.returns-then-as_bytes-gt-MAX_LINE_BYTES
returns-then-as_bytes-gt-MAX_LINE_BYTES c = λ language read number help.
    let cases = c.in-Some.ensures.cases in
    let same = part c.args.file.bytes.now c.args.file.text.now c.in-Some.text.now c.args.from c.args.to c.requires.order cases.2 c.args.file.front cases.0 in
    let long : nat_lt MAX_LINE_BYTES (length c.as_bytes.result.now) ≡ true = grind (arith, nat_tests) in
    too_long language read number help _ (subst (λ (t : List ℕ). nat_lt MAX_LINE_BYTES (length t) ≡ true) (c.as_bytes.ensures.value ∙ same) long)
