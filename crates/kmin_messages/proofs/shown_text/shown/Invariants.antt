use Rattle.std.proofs.Common.{length, string_bytes}
use Rattle.std.specs.Str.{chars}
use Rattle.kmin_messages.specs.ShownTexts.{shown}
use Rattle.kmin_messages.proofs.FittingSteps.{IsShownUpTo}
use Rattle.kmin_messages.proofs.shown_text.shown.Given as goal

abbrev pub invariant-loop-c : goal.invariant-loop-c
invariant-loop-c l = IsShownUpTo (chars l.text) (string_bytes l.out) (length l.yielded) (shown l.fn.text)
