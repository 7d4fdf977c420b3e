use Rattle.kc_builder.proofs.Common.{refl, gathered_prompt, gathered_default, gathered_range}
use Rattle.kc_builder.proofs.ItemSteps.{item_given}
use Rattle.kc_builder.proofs.definition_attributes.push_line.Goals as goal

pub returns : goal.returns
returns c = record {
  prompts = item_given gathered_prompt c.args.symbol _ _ c.args.line.now c.args.condition c.prompt_of.result c.prompt_of.ensures
      c.in_ok-push_optional.ensures.keys c.in_ok-push_optional.ensures.items;
  defaults = item_given gathered_default c.args.symbol _ _ c.args.line.now c.args.condition c.default_of.result c.default_of.ensures
      c.in_ok-push_optional-2.ensures.keys c.in_ok-push_optional-2.ensures.items;
  ranges = item_given gathered_range c.args.symbol _ _ c.args.line.now c.args.condition c.range_of.result c.range_of.ensures
      c.in_ok-push_optional-3.ensures.keys c.in_ok-push_optional-3.ensures.items;
  others = record { selectors = refl; impliers = refl; direct = refl };
}
