use Rattle.kc_parser.proofs.Common.{sym, ◌∙◌, lexemes_from, lexemes_of}
use Rattle.kc_parser.specs.checker.StateViews.{file_source_of}
use Rattle.kc_parser.proofs.ReaderSteps.{shown_of, utf8_holds}
use Rattle.kc_parser.proofs.StatementSteps.{language_of_source, line_of_tokens, line_of_fault, with_no_front}
use Rattle.kc_parser.proofs.line.read_text.Goals as goal

pub returns-in-Err : goal.returns-in-Err
returns-in-Err c = λ before d.
    let language = c.language-language.ensures ∙ sym (language_of_source c.args.from) in
    line_of_fault (file_source_of c.args.from) c.args.at.file c.args.at.line before c.args.text.now c.args.read.now c.requires.short
    (utf8_holds c.args.text.now c.utf8.text) c.in-Err.fault c.tree_kind_of.result c.tree_kind_of.ensures
    (rw language at c.in-Err.ensures.fault) (shown_of (file_source_of c.args.from) _ before d)

pub returns-in-Ok : goal.returns-in-Ok
returns-in-Ok c = λ before d.
    let language = c.language-language.ensures ∙ sym (language_of_source c.args.from) in
    line_of_tokens (file_source_of c.args.from) c.args.at.file c.args.at.line before c.args.text.now c.read_tokens.new.read
    c.requires.short (utf8_holds c.args.text.now c.utf8.text)
    (lexemes_of c.push_tokens.new.found.items) c.read_tokens.result
    (sym (with_no_front (lexemes_from (file_source_of c.args.from).language 0 0 c.args.text.now))
    ∙ (rw (c.clear.ensures.items, language) at c.in-Ok.ensures.tokens))
    (rw (c.as_slice.ensures.value, language) at (c.read_tokens.ensures (file_source_of c.args.from) before d))
