use Rattle.kc_rules.proofs.Common.{Some, ap, cond, ◌∙◌, is_tri_kind}
use Rattle.std.specs.Option.{option_map}
use Rattle.kc_value.specs.declared.value.Value.TheVariants.{Tri as TriValue, Text as TextValue}
use Rattle.kc_rules.specs.between.SettledViews.{value_view}
use Rattle.kc_rules.proofs.rules.Settled.symbol_value.Goals as goal

pub returns-in-Tristate : goal.returns-in-Tristate
returns-in-Tristate c = record {
  value = let seen = c.value_of_symbol-seen.result in
      ap (option_map value_view) c.value_of_symbol-seen.ensures.value ∙ ap (λ k. Some (cond (is_tri_kind k) (TriValue seen.tri) (TextValue seen.text.now)))
      c.in-Tristate.is;
}
