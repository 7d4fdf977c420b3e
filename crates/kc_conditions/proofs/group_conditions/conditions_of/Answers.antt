use Rattle.kc_conditions.proofs.Common.{◌≡◌, ◌≤◌, get_or, length, sym, subst, ap, ◌∙◌, slice_range, get_or_read, no_conditions, conditions_at, GroupConditions}
use Rattle.kc_conditions.proofs.GroupConditionLemmas.{conditioned_at}
use Rattle.kc_conditions.proofs.group_conditions.conditions_of.Goals as goal

pub part-requires : goal.part-requires
part-requires c =
    let k = c.requires.conditioned in
    let s = conditioned_at _ k.exprs k.texts c.args.conditions.now c.args.groups.now k.read k.shown c.args.i c.requires.here in
    let e : (get_or c.args.groups.now c.args.i c.index-groups-i.result).first ≡ (conditions_at c.args.groups.now c.args.i).first = ap
    (λ (g : GroupConditions). g.first) (sym c.index-groups-i.is ∙ get_or_read c.args.groups.now _ _ c.requires.here c.index-groups-i.is no_conditions) in
    record {
      rising = subst (λ n. n ≤ c.end_of.result) (sym e) (subst (λ n. (conditions_at c.args.groups.now c.args.i).first ≤ n) (sym c.end_of.ensures.value)
          s.rising);
      within = subst (λ n. n ≤ length c.args.conditions.now) (sym c.end_of.ensures.value) s.within;
    }

pub returns : goal.returns
returns c = record {
  value = let e : (get_or c.args.groups.now c.args.i c.index-groups-i.result).first ≡ (conditions_at c.args.groups.now c.args.i).first = ap
      (λ (g : GroupConditions). g.first) (sym c.index-groups-i.is ∙ get_or_read c.args.groups.now _ _ c.requires.here c.index-groups-i.is no_conditions) in
      c.part.ensures.value ∙ ap (λ a. slice_range c.args.conditions.now a c.end_of.result) e
      ∙ ap (slice_range c.args.conditions.now (conditions_at c.args.groups.now c.args.i).first) c.end_of.ensures.value;
}
