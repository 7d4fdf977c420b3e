use Rattle.std.proofs.Common.{◌∷◌, take}
use Rattle.json.specs.Token.{begin_array, key}
use Rattle.kmin_messages.specs.between.MessageViews.{AppendsTokens}
use Rattle.kmin_lines.specs.between.Texts.{texts_of}
use Rattle.kmin_records.specs.between.RecordTokens.{text_tokens}
use Rattle.kmin_records.proofs.members.write_lines.Given as goal

abbrev pub invariant-loop-line : goal.invariant-loop-line
invariant-loop-line l = AppendsTokens l.fn.writer l.writer (key l.fn.name ∷ begin_array ∷ text_tokens (texts_of (take l.line-index l.lines)))
