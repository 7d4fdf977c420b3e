use Rattle.kmin_explain_command.proofs.Common.{sym, subst, ◌∙◌, tree_of_settled, file_format, StopsAtPath, load_lines, stopped_path, if_err_map}
use Rattle.kmin_explain_command.proofs.ReadFiles.{faulty_stops, is_unread}
use Rattle.kmin_explain_command.proofs.lined_file.read_file.Goals as goal

pub noticed_file-requires : goal.noticed_file-requires
noticed_file-requires g c = record { read = rw c.deref.ensures.value c.in-Ok.ensures.ok.fragment }

pub returns-in-Ok : goal.returns-in-Ok
returns-in-Ok g c =
    let content_of = (g.F.Files.surroundings c.args.files.now).content in
    let known = c.in-Ok.ensures.ok.read in
    record {
      same = c.read_accepted.ensures.same;
      fits = c.noticed_file.ensures.fits;
      lined = c.noticed_file.ensures.lined (content_of c.args.path.now) (rw c.deref.ensures.value known);
      allowed = c.noticed_file.ensures.allowed;
      stopped = c.noticed_file.ensures.stopped content_of (rw c.deref.ensures.value known);
      rising = c.read_accepted.ensures.rising;
      failed = if_err_map c.noticed_file.result _ _ (λ stop other. λ five. absurd (other five)) c.noticed_file.ensures.unfailed;
    }

pub returns-in-Err : goal.returns-in-Err
returns-in-Err g c =
    let content_of = (g.F.Files.surroundings c.args.files.now).content in
    let format = file_format c.args.settings.now.format in
    let tree = tree_of_settled c.args.settled.now in
    let path = c.args.path.now in
    let fault = c.in-Err.fault in
    let lines = load_lines path fault.line fault.kind in
    record {
      same = c.read_accepted.ensures.same;
      fits = tt;
      lined = tt;
      allowed = tt;
      stopped =
          stopped_path content_of _ _ _ _ _ _ _ _ path (
            lines,
            subst (λ n. StopsAtPath (content_of path) format c.args.settings.now.strict tree path n lines) (sym c.report_load_fault.ensures.status)
                (faulty_stops (content_of path) format c.args.settings.now.strict tree path fault.kind fault.line c.in-Err.ensures.fault),
            c.report_load_fault.ensures.reported,
          );
      rising = c.read_accepted.ensures.rising;
      failed = λ five. c.in-Err.ensures.failed (is_unread fault.kind (sym c.report_load_fault.ensures.status ∙ five));
    }
