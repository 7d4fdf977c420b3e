use Rattle.kc_builder.proofs.Common.{ℕ, [], ◌∷◌, ◌++◌, ap, ◌∙◌, ItemsWithKeys}
use Rattle.kc_builder.proofs.ItemSteps.{appended_from}
use Rattle.kc_builder.proofs.definitions.push_definition.Goals as goal

pub returns : goal.returns
returns c =
    let own = c.in_ok-push_own.ensures in
    let targets = c.in_ok-push_targets.ensures in
    let direct = c.in_ok-push.ensures in
    record {
      ok = record {
        prompts = own.prompts;
        defaults = own.defaults;
        ranges = own.ranges;
        selectors = appended_from _ _ _ _ _ _ _ own.others.selectors targets.selectors;
        impliers = appended_from _ _ _ _ _ _ _ own.others.impliers targets.impliers;
        direct_keys = direct.keys ∙ ap (λ (k : ItemsWithKeys ℕ). k.keys.items ++ c.args.symbol ∷ []) own.others.direct;
        direct_items = direct.items ∙ ap (λ (k : ItemsWithKeys ℕ). k.items.items ++ c.args.dependency ∷ []) own.others.direct;
      };
    }
