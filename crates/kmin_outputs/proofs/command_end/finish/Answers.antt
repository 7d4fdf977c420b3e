use Rattle.kmin_outputs.proofs.Common.{inl, inr, refl, arith}
use Rattle.kmin_report.proofs.Statuses.{of_fault, output_at_most_six, output_not_two, output_not_five, output_no_other, failed_at_most_six, failed_not_two, failed_not_done, fault_at_most_six, fault_not_done}
use Rattle.kmin_outputs.proofs.command_end.finish.Goals as goal

pub returns-in-Ok-write_output : goal.returns-in-Ok-write_output
returns-in-Ok-write_output g c =
    let written = c.in-Ok-write_output.ensures in
    let output = c.in-Ok.output in
    let small = rw c.in-Ok.is at c.requires in record {
      status = output_at_most_six output.status small;
      accepted_words = output_not_two output.status small;
      done = λ e. (output, c.in-Ok.is, refl, rw c.deref.ensures.value at written.whole, written.unreported);
      unfailed = λ e. written.unfailed;
      stopped = λ e. output_no_other output.status small e.0 e.1;
      part = λ five. output_not_five output.status small five;
      unwritten = λ zero one five. output_no_other output.status small zero one;
      failed = λ five. output_not_five output.status small five;
    }

pub returns-in-Ok : goal.returns-in-Ok
returns-in-Ok g c =
    let fault = c.in-Err-write_output.ensures in
    let part = rw c.deref.ensures.value at fault.part in
    let status = c.status.result in
    let five = c.status.ensures in record {
      status = failed_at_most_six status five;
      accepted_words = failed_not_two status five;
      done = λ e. failed_not_done status five e;
      unfailed = λ e. failed_not_done status five e;
      stopped = λ e. inl (c.in-Ok.output, c.in-Ok.is, five, fault.reported);
      part = λ e. inr (c.in-Ok.output, c.in-Ok.is, c.in-Err-write_output.field-0.written, part.0, part.1);
      unwritten = λ zero one other. absurd (other five);
      failed = λ e. inl fault.failures;
    }

pub returns : goal.returns
returns g c =
    let stop = c.in-Err.stop in
    let status = c.exit_status.result in
    let is = c.exit_status.ensures.status in
    let fault = of_fault stop status is in record {
      status = fault_at_most_six stop status is;
      accepted_words = fault.2;
      done = λ e. fault_not_done status fault e;
      unfailed = λ e. refl;
      stopped = λ e. inr (stop, c.in-Err.is, is, c.exit_status.ensures.reported);
      part = λ e. inl refl;
      unwritten = λ zero one five. refl;
      failed = λ e. inr (stop, c.in-Err.is, is);
    }
