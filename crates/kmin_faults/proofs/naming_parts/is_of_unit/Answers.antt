use Rattle.std.proofs.Common.{◌==◌, ap, sym, ◌∙◌}
use Rattle.kc_dependencies.proofs.Needs.{symbol_of_name_number}
use Rattle.kmin_faults.proofs.StoredNames.{some_of_unit, none_of_unit}
use Rattle.kmin_faults.proofs.naming_parts.is_of_unit.Goals as goal

pub returns-in-Some : goal.returns-in-Some
returns-in-Some c =
    let tree = c.args.search.now.tree.now in record {
      value =
          ap (λ n. n == c.args.search.now.unit) c.unit_of.ensures.unit
          ∙ sym (some_of_unit tree.tree c.args.search.now.unit _ _ (sym (symbol_of_name_number tree.tree c.requires.consistent tree.exprs.names c.args.name) ∙ sym c.symbol_at.ensures.symbol
          ∙ c.in-Some.is));
    }

pub returns-in-None : goal.returns-in-None
returns-in-None c =
    let tree = c.args.search.now.tree.now in record {
      value =
          sym (none_of_unit tree.tree c.args.search.now.unit _ (sym (symbol_of_name_number tree.tree c.requires.consistent tree.exprs.names c.args.name) ∙ sym c.symbol_at.ensures.symbol
          ∙ c.in-None.is));
    }
