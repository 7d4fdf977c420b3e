use Rattle.kc_config_reasons.proofs.Common.{tree_of_settled, file_format}
use Rattle.kc_config_reasons.proofs.LineReads.{keeps_read, none_read, no_utf8}
use Rattle.kc_config_reasons.proofs.file_reader.keep_line.Goals as goal

pub returns-in-Some : goal.returns-in-Some
returns-in-Some c =
    keeps_read (file_format c.args.format.now) (tree_of_settled c.args.settled.now) c.args.line.now c.in-Ok.text.now c.in_ok-meaning.field-0 c.args.format.now.prefix.valid
    c.in-Ok.ensures.cases.0 c.in_ok-meaning.ensures.meaning c.keep.result c.args.number c.in-Some.meaning c.args.found.now c.keep.new.self c.in-Some.is c.keep.ensures

pub returns-in-None : goal.returns-in-None
returns-in-None c =
    none_read (file_format c.args.format.now) (tree_of_settled c.args.settled.now) c.args.line.now c.in-Ok.text.now c.in_ok-meaning.field-0 c.args.format.now.prefix.valid
    c.in-Ok.ensures.cases.0 c.in_ok-meaning.ensures.meaning c.args.number c.args.found.now c.args.found.now c.in-None.is

pub returns-in_default : goal.returns-in_default
returns-in_default c = λ meaning utf8 means. absurd (no_utf8 c.args.line.now c.in_default.ensures.cases.0 utf8)
