use Rattle.std.specs.Prelude.{IfSome}
use Rattle.kc_checks.proofs.Common.{◌<◌, length, sym, subst, ◌∙◌}
use Rattle.kc_statements.proofs.AttributeViews.{target_held}
use Rattle.kc_checks.proofs.name_checks.is_wrong_reverse_dependency.Goals as goal

pub name-requires : goal.name-requires
name-requires c = record {
  there = let e = c.args.listing.now.names.arena in
      subst (λ o. IfSome o (λ id. id < length e.names)) (sym c.target_name.ensures ∙ c.in-Some.is) (target_held e c.args.attribute.now c.requires.held);
}
