use Rattle.std.proofs.Common.{◌∙◌, length, sym, ap, arith}
use Rattle.kc_macros.specs.checker.Frames.{frame_place, frame_bindings, frame_names, frame_expander, frame_call}
use Rattle.kc_macros.proofs.ProgramLemmas.{steps_out, leads_same}
use Rattle.kc_macros.proofs.CallLemmas.{too_many_pieces, few_pieces, texts_length}
use Rattle.kc_macros.proofs.ExpansionLemmas.{fails_so}
use Rattle.kc_macros.proofs.steps.reference_pieces.Goals as goal

pub returns-in_err-pieces : goal.returns-in_err-pieces
returns-in_err-pieces c = λ s. steps_out _ _ _ _ _ c.from_residual.ensures.1

pub returns-then-len-gt-MAX_PIECES : goal.returns-then-len-gt-MAX_PIECES
returns-then-len-gt-MAX_PIECES c = λ s.
    let f = c.args.frame.now in
    fails_so s _ _ c.fault.result (too_many_pieces (frame_expander f) (frame_place f) (frame_bindings f)
    (frame_names f) f.args.now c.args.inside.now c.requires.no_argument
    (omega (arith, ap length c.in_ok-pieces.ensures, texts_length c.in_ok-pieces.pieces.items))) c.fault.ensures

pub returns : goal.returns
returns c = λ s.
    let f = c.args.frame.now in
    leads_same s _ _ (few_pieces (frame_expander f) (frame_place f) (frame_bindings f) (frame_names f) f.args.now c.args.inside.now c.requires.no_argument
    (omega (arith, ap length c.in_ok-pieces.ensures, texts_length c.in_ok-pieces.pieces.items))
    ∙ ap (frame_call f) (sym c.in_ok-pieces.ensures))
