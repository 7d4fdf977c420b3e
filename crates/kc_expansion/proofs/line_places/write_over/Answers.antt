use Rattle.kc_expansion.proofs.Common.{◌≡◌, ◌++◌, ◌∙◌, ℕ, sym, ap, take, drop, arith, replicate, split_at_newlines, lines_written, text_up_to}
use Rattle.kc_expansion.proofs.FileProgramLemmas.{on_ok}
use Rattle.kc_expansion.proofs.LinePlaceLemmas.{text_further, lines_between, lines_stay, lines_replaced}
use Rattle.kc_expansion.proofs.line_places.write_over.Goals as goal

pub returns-then-eq-clause-text : goal.returns-then-eq-clause-text
returns-then-eq-clause-text c = λ lines e.
    let bytes = c.args.bytes.now in
    let at = c.args.at in
    let next = c.args.next in
    text_further c.args.out.now bytes at next c.requires.original c.requires.copied (omega arith)
    ∙ ap (λ x. text_up_to c.args.out.now at ++ x) (sym (lines_stay (take lines (split_at_newlines (drop at bytes))) c.args.text.now c.args.new.now
    (sym c.if-eq.ensures) ∙ lines_between bytes at next lines (omega arith) e))

pub returns-clause-text : goal.returns-clause-text
returns-clause-text c =
    let bytes = c.args.bytes.now in
    let at = c.args.at in
    let next = c.args.next in
    let new = c.args.new.now in
    let lines_of = split_at_newlines (drop at bytes) in
    on_ok c.replace.result (text_up_to c.replace.new.self next ≡ text_up_to c.args.out.now at ++ (new ++ replicate c.newline_count.result 10))
    ((lines : ℕ) → split_at_newlines (drop next bytes) ≡ drop lines lines_of → text_up_to c.replace.new.self next
    ≡ text_up_to c.args.out.now at ++ lines_written (take lines lines_of) c.args.text.now new)
    (λ w lines e. w ∙ ap (λ x. text_up_to c.args.out.now at ++ x) (ap (λ n. new ++ replicate n 10) c.newline_count.ensures
    ∙ sym (lines_replaced bytes at next lines c.args.text.now new (omega arith) e (sym c.if-eq.ensures))))
    c.replace.ensures.text
