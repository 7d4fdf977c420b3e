use Rattle.kmin_explain_command.proofs.Common.{◌≡◌, [], ◌∷◌, refl, sym, subst, arith, notice_pair, Fragment, file_format, tree_of_settled, memory_err, no_value, with_error, stopped_path, stopped_for_memory, IsLinedFile}
use Rattle.kc_dotconfig.specs.Fragments.{FitsTree}
use Rattle.kmin_outputs.proofs.Sequences.{loaded_one, stopped_noticed}
use Rattle.kmin_explain_command.proofs.LinedFiles.{loaded_of, lined_whole}
use Rattle.kmin_explain_command.proofs.lined_file.noticed_file.Goals as goal

pub returns-in_err-fragment : goal.returns-in_err-fragment
returns-in_err-fragment g c =
    let refused = c.in_err-fragment.ensures.refused in
    record {
      fits = no_value c.from_residual.result _ _ c.from_residual.ensures.1;
      lined = λ content known. no_value c.from_residual.result _ _ c.from_residual.ensures.1;
      allowed = no_value c.from_residual.result _ _ c.from_residual.ensures.1;
      stopped = λ content_of known. with_error c.from_residual.result _ _ c.from_residual.ensures.1
          (stopped_path content_of _ _ _ _ _ _ _ _ c.args.path.now
          (stopped_noticed _ _ _ _ _ c.args.fragment _ _ _ _ _
          (loaded_of _ _ _ _ _ known _ _ _ _ c.args.fragment c.requires.read (rw (c.deref.ensures.value, c.tree.ensures.tree) at c.report_notices.ensures))
          refused.1 refused.2 refused.0));
      unfailed = with_error c.from_residual.result _ _ c.from_residual.ensures.1 (λ five. omega (arith, refused.0));
    }

pub returns-in_err-lines : goal.returns-in_err-lines
returns-in_err-lines g c =
    let tree = tree_of_settled c.args.settled.now in
    record {
      fits = no_value c.from_residual-in_err-lines.result _ _ c.from_residual-in_err-lines.ensures.1;
      lined = λ content known. no_value c.from_residual-in_err-lines.result _ _ c.from_residual-in_err-lines.ensures.1;
      allowed = no_value c.from_residual-in_err-lines.result _ _ c.from_residual-in_err-lines.ensures.1;
      stopped = λ content_of known. memory_err _ _ c.from_residual-in_err-lines.ensures (λ stop status.
          stopped_for_memory content_of _ _ tree _ _ _ _ _ (c.args.path.now ∷ []) [] _ [] _ refl status
          (loaded_one content_of _ _ tree c.args.path.now [] _ c.args.fragment _ _ _ _
          (loaded_of _ _ _ _ _ known _ _ _ _ c.args.fragment c.requires.read (rw (c.deref.ensures.value, c.tree.ensures.tree) at c.report_notices.ensures))
          c.in_ok-fragment.ensures.ok.1 refl));
      unfailed = memory_err _ _ c.from_residual-in_err-lines.ensures (λ stop status. λ five. omega arith);
    }

pub returns : goal.returns
returns g c =
    let tree = tree_of_settled c.args.settled.now in
    let ok = c.in_ok-fragment.ensures.ok in
    record {
      fits = subst (λ (f : Fragment). FitsTree tree f.assigns.items) (sym ok.0) c.requires.read.fits;
      lined = λ content known.
          subst (λ (f : Fragment). IsLinedFile content (file_format c.args.settings.now.format) tree c.args.path.now
          (record { fragment = f; lines = c.in_ok-lines.lines }) (g.E.Messages.taken c.args.err.now) (g.E.Messages.failures c.args.err.now)
          (g.E.Messages.taken c.report_notices.new.err) (g.E.Messages.failures c.report_notices.new.err)) (sym ok.0)
          (lined_whole content _ tree c.args.path.now c.args.bytes.now known _ _ _ _ c.args.fragment c.in_ok-lines.lines
          c.args.settings.now.format.prefix.valid c.requires.read (rw (c.deref.ensures.value, c.tree.ensures.tree) at c.report_notices.ensures) c.in_ok-lines.ensures);
      allowed = rw ok.0 ok.1;
      stopped = λ content_of known. tt;
      unfailed = tt;
    }
