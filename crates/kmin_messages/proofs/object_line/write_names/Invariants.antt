use Rattle.std.proofs.Common.{◌∷◌, take}
use Rattle.json.specs.Token.{begin_array}
use Rattle.kmin_messages.specs.between.MessageViews.{AppendsTokens, name_tokens}
use Rattle.kmin_messages.proofs.object_line.write_names.Given as goal

abbrev pub invariant-loop-name : goal.invariant-loop-name
invariant-loop-name l = AppendsTokens l.fn.writer l.writer (begin_array ∷ name_tokens (take l.name-index l.names))
