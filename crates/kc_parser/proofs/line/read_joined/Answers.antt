use Rattle.std.proofs.Common.{false, inr}
use Rattle.kc_parser.specs.checker.StateViews.{file_source_of}
use Rattle.kc_parser.proofs.ReaderSteps.{shown_of}
use Rattle.kc_parser.proofs.line.read_joined.Goals as goal

pub returns-in-Err : goal.returns-in-Err
returns-in-Err c = λ before d. inr (
  c.in-Err.ensures (file_source_of c.args.from).language before c.args.at.line false,
  shown_of (file_source_of c.args.from) _ before d,
)

pub returns : goal.returns
returns c = λ before d. rw c.in-Ok.ensures.2 at (c.read_text.ensures before d)

pub read_text-requires : goal.read_text-requires
read_text-requires c = record { short = rw c.in-Ok.ensures.2 c.in-Ok.ensures.0 }
