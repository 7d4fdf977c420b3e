use Rattle.kc_tree.proofs.Common.{arith, common_steps}
use Rattle.kc_tree.proofs.attributes.Attributes.grouped.Goals as goal

pub grouped-requires-clause-keys : goal.grouped-requires-clause-keys
grouped-requires-clause-keys c = c.requires.keys.prompts

pub grouped-requires-2-clause-keys : goal.grouped-requires-2-clause-keys
grouped-requires-2-clause-keys c = c.requires.keys.defaults

pub grouped-requires-3-clause-keys : goal.grouped-requires-3-clause-keys
grouped-requires-3-clause-keys c = c.requires.keys.ranges

pub grouped-requires-4-clause-keys : goal.grouped-requires-4-clause-keys
grouped-requires-4-clause-keys c = c.requires.keys.selectors

pub grouped-requires-5-clause-keys : goal.grouped-requires-5-clause-keys
grouped-requires-5-clause-keys c = c.requires.keys.impliers

pub grouped-requires-6-clause-keys : goal.grouped-requires-6-clause-keys
grouped-requires-6-clause-keys c = c.requires.keys.direct

pub returns : goal.returns
returns c = record {
  ok = record {
    prompts = c.in_ok-grouped.ensures.ok;
    defaults = c.in_ok-grouped-2.ensures.ok;
    ranges = c.in_ok-grouped-3.ensures.ok;
    selectors = c.in_ok-grouped-4.ensures.ok;
    impliers = c.in_ok-grouped-5.ensures.ok;
    direct = c.in_ok-grouped-6.ensures.ok;
  };
}

pub grouped-requires-3-clause-few : goal.grouped-requires-3-clause-few
grouped-requires-3-clause-few c = grind (arith, common_steps)

pub grouped-requires-4-clause-few : goal.grouped-requires-4-clause-few
grouped-requires-4-clause-few c = grind (arith, common_steps)
