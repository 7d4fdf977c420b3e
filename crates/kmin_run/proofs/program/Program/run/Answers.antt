use Rattle.std.proofs.Common.{None, ap, inl, inr, sym, ◌∙◌}
use Rattle.kmin_disk.specs.Disks.{Disk}
use Rattle.kmin_run.proofs.RunFailures.{bundle_rises}
use Rattle.kmin_run.proofs.RunEnds.{bundle_disk, with_words, without_words}
use Rattle.kmin_run.proofs.RunStatuses.{on_four}
use Rattle.kmin_run.proofs.program.Program.run.Goals as goal

pub returns-then-is_empty : goal.returns-then-is_empty
returns-then-is_empty g c =
    let ends = c.serve_bundle.ensures.ends in record {
      status = c.serve_bundle.ensures.status;
      ends = (None, ends.0, without_words _ _ ends.0 _ _ c.args.words.now (sym c.is_empty.ensures ∙ c.if-is_empty.true) ends.1, ends.2);
      unasked = inl (ap (λ (disk : Disk). disk.state) (bundle_disk _ _ _ _ _ _ ends.1));
      refused = λ e. inl (on_four c.serve_bundle.result e c.serve_bundle.ensures.unwritten);
      unwritten = λ zero one four five. c.serve_bundle.ensures.unwritten zero five;
      failed = λ five. inl (inr (bundle_rises _ _ _ _ _ _ ends.1 five));
    }

pub returns : goal.returns
returns g c =
    let ends = c.run_words.ensures.ends in
    let keeps = c.run_words.ensures.keeps in record {
      status = keeps.bounded;
      ends = (ends.0, ends.1, with_words _ _ ends.1 _ ends.0 _ c.args.words.now (sym c.is_empty.ensures ∙ c.if-is_empty.false) ends.2, ends.3);
      unasked = keeps.unasked;
      refused = keeps.refused;
      unwritten = keeps.unwritten;
      failed = keeps.failed;
    }
