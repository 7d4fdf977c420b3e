use Rattle.kmin_inputs.proofs.Common.{◌∙◌, inl, inr, refl, sym, list_content, unread, lines_one, if_err_map}
use Rattle.kmin_report.proofs.Results.{if_ok_map, on_ok_map}
use Rattle.kmin_inputs.proofs.FailureCounts.{closed_rises, at_most_itself, rises_twice}
use Rattle.kmin_inputs.proofs.ListReads.{opens_input, opens_file, not_both, on_ok}
use Rattle.kmin_inputs.proofs.list_files.read_list.Goals as goal

pub returns-then-eq : goal.returns-then-eq
returns-then-eq g c =
    let left = g.I.Source.left c.args.input.now in
    let content_of = (g.F.Files.surroundings c.args.files.now).content in
    let opens = opens_input content_of left c.args.path.now (sym c.if-eq.ensures) in
    let content = list_content content_of left c.args.path.now in record {
      same = refl;
      read = if_ok_map c.read_from.result _ _ (λ bytes read. read content opens) c.read_from.ensures.read;
      unreported = c.read_from.ensures.unreported;
      stopped = if_err_map c.read_from.result _ _ (λ stop stopped. (stopped.0, stopped.1 content opens, stopped.2)) c.read_from.ensures.stopped;
      untouched = λ other. not_both _ (sym c.if-eq.ensures) other;
      rising = at_most_itself _;
      unfailed = on_ok c.read_from.result _ refl;
      input_unfailed = c.read_from.ensures.unfailed;
      failed = if_err_map c.read_from.result _ _ (λ stop failed. λ five. inr (failed five)) c.read_from.ensures.failed;
    }

pub returns-in-Some : goal.returns-in-Some
returns-in-Some g c =
    let left = g.I.Source.left c.args.input.now in
    let content_of = (g.F.Files.surroundings c.args.files.now).content in
    let opens = opens_file content_of left _ c.args.path.now (sym c.if-eq.ensures) c.in-Some.ensures.opens in
    let content = list_content content_of left c.args.path.now in record {
      same = c.close.ensures.same ∙ c.reader_for.ensures.same;
      read = if_ok_map c.read_from-bytes.result _ _ (λ bytes read. read content opens) c.read_from-bytes.ensures.read;
      unreported = c.read_from-bytes.ensures.unreported;
      stopped = if_err_map c.read_from-bytes.result _ _ (λ stop stopped. (stopped.0, stopped.1 content opens, stopped.2)) c.read_from-bytes.ensures.stopped;
      untouched = λ other. refl;
      rising = rises_twice _ _ _ c.reader_for.ensures.rising c.close.ensures.rising;
      unfailed = on_ok_map c.read_from-bytes.result _ _ (λ same.
          c.close.ensures.unfailed (same ∙ c.in-Some.ensures.unread) ∙ c.in-Some.ensures.unfailed) c.read_from-bytes.ensures.unfailed;
      input_unfailed = on_ok c.read_from-bytes.result _ refl;
      failed = if_err_map c.read_from-bytes.result _ _ (λ stop failed. λ five.
          inl (closed_rises _ _ (g.F.Files.failures c.args.files.now)
          (g.F.Files.failures c.reader_for.new.self) (g.F.Files.failures c.close.new.self) c.in-Some.ensures.unread (failed five)
          c.reader_for.ensures.rising c.close.ensures.failed c.close.ensures.rising)) c.read_from-bytes.ensures.failed;
    }

pub returns-in-None : goal.returns-in-None
returns-in-None g c = record {
  same = c.reader_for.ensures.same;
  read = tt;
  unreported = tt;
  stopped = (_, unread refl refl, lines_one _ _ _ _ _ c.report_list.ensures);
  untouched = λ other. refl;
  rising = c.reader_for.ensures.rising;
  unfailed = tt;
  input_unfailed = tt;
  failed = λ five. inl c.in-None.ensures.failed;
}
