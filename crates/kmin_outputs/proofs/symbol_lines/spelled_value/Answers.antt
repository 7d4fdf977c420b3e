use Rattle.kmin_outputs.proofs.Common.{ℕ, List, ◌++◌, ap, ◌∙◌, spelled}
use Rattle.kc_expr.specs.Lookup.{symbol_value_of}
use Rattle.kmin_outputs.proofs.symbol_lines.spelled_value.Goals as goal

pub returns : goal.returns
returns c =
    let seen = symbol_value_of c.value_of_symbol-value.result in (
      seen,
      c.value_of_symbol-value.ensures.value,
      c.in_ok-push_spelled.ensures ∙ ap (λ (before : List ℕ). before ++ spelled c.args.strings seen.kind seen.text) c.new-text.ensures.items,
    )
