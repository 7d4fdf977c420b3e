use Rattle.kc_dotconfig.proofs.Common.{[], ◌≡◌, ◌-◌, ◌≤◌, tree_of_settled, MAX_CONFIG_BYTES, MAX_CONFIG_LINES, file_format}
use Rattle.kc_dotconfig.proofs.WholeReads.{HasRead}
use Rattle.kc_dotconfig.proofs.fragment_reader.read_config.Given as goal

-- the bytes of the file read so far have no fault, and are kept as an incomplete line and an accumulator
abbrev pub invariant-loop-size : goal.invariant-loop-size
invariant-loop-size g l = record {
  small : l.size ≤ MAX_CONFIG_BYTES;
  few : l.accumulator.lines ≤ MAX_CONFIG_LINES;
  read : HasRead (file_format l.fn.format) (tree_of_settled l.fn.settled) (g.R.Source.left l.fn.source) (g.R.Source.left l.source) l.buffer l.accumulator l.size
      (λ known. g.K.KeptBytes.has l.fn.kept [] → g.K.KeptBytes.has l.kept known);
  unfailed : g.R.Source.failures l.source ≡ g.R.Source.failures l.fn.source;
}

abbrev pub decreases-loop-size : goal.decreases-loop-size
decreases-loop-size g l = 67108865 - l.size
