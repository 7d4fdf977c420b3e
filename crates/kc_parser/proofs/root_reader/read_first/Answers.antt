use Rattle.std.proofs.Common.{[], length, ap}
use Rattle.kc_parser.specs.checker.StateViews.{file_source_of}
use Rattle.kc_parser.specs.checker.Roots.{of_first}
use Rattle.kc_parser.proofs.RootSteps.{first_of, first_read, first_faulty}
use Rattle.kc_parser.proofs.root_reader.read_first.Goals as goal
use Rattle.kc_parser.proofs.root_reader.read_first.Goals.{in-Ok, in-Err}

pub returns : goal.returns
returns c = record {
  read = λ n b.
      let r = file_source_of c.args.from in
      let h = first_of r _ _ c.read_open_file.new.read _ (c.read_open_file.ensures.read [] (c.new-read.ensures.empty r (ap length b)) r.root) n b in
      elim c.match-read_open_file.branch [
        | in-Ok w ↦ rw w.fault-is (first_read r (of_first r) c.read_open_file.new.read (rw w.in-Ok.is at h))
        | in-Err w ↦ rw w.fault-is (first_faulty r (of_first r) c.read_open_file.new.read _ (rw w.in-Err.is at h))
      ];
}
