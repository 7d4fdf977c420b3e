use Rattle.kc_expansion.proofs.Common.{◌&&◌, ◌∙◌, take, drop, length, refl, sym, ap, ◌-◌, is_end}
use Rattle.std.proofs.lemmas.List.{take_rest}
use Rattle.kc_expansion.proofs.HelpWordLemmas.{help_split}
use Rattle.kc_expansion.proofs.help_words.begins_help.Goals as goal

pub returns-then-is_help_word : goal.returns-then-is_help_word
returns-then-is_help_word c =
    let text = c.args.text.now in
    let w = c.white_length.result in
    let line = take (length text - w) (drop w text) in
    let n = c.word_len-word.result in
    let rest = take (length line - n) (drop n line) in
    ap (λ x. x && c.is_end.result) (sym c.if-is_help_word.true)
    ∙ help_split text line rest w n c.is_help_word.result c.is_end.result c.white_length.ensures (take_rest text w) c.word_len-word.ensures.count
    (take_rest line n) c.is_help_word.ensures c.is_end.ensures

pub returns-else-is_help_word : goal.returns-else-is_help_word
returns-else-is_help_word c =
    let text = c.args.text.now in
    let w = c.white_length.result in
    let line = take (length text - w) (drop w text) in
    let n = c.word_len-word.result in
    let end = is_end (drop n line) in
    c.if-is_help_word.false ∙ ap (λ x. x && end) (sym c.if-is_help_word.false)
    ∙ help_split text line (drop n line) w n c.is_help_word.result end c.white_length.ensures (take_rest text w) c.word_len-word.ensures.count refl
    c.is_help_word.ensures refl
