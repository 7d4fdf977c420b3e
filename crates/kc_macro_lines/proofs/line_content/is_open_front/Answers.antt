use Rattle.kc_macro_lines.proofs.Common.{◌≡◌, ◌∙◌, false, true, sym, token_of}
use Rattle.kc_macro_lines.proofs.FrontLemmas.{open_so}
use Rattle.kc_macro_lines.proofs.line_content.is_open_front.Goals.{then-may_assign, else-may_assign}
use Rattle.kc_macro_lines.proofs.line_content.is_open_front.Goals as goal

pub returns-then-is_unknown : goal.returns-then-is_unknown
returns-then-is_unknown c =
    elim c.if-may_assign.branch [
      | then-may_assign w ↦ open_so c.args.may_assign (token_of c.args.written.now) c.args.after.now c.has_token.result w.if-may_assign.true
          (sym w.is_unknown.ensures ∙ sym w.value-is ∙ c.if-is_unknown.true) c.has_token.ensures
      | else-may_assign w ↦ absurd (let z : true ≡ false = sym c.if-is_unknown.true ∙ w.value-is ∙ w.if-may_assign.false in let y : ⊥ = cc in y)
    ]
