use Rattle.kmin_faults.proofs.Common.{[], ap, ◌∙◌, slice_index_or, list_any, node_expr, is_of_unit}
use Rattle.kmin_faults.proofs.ReverseNames.{numbers_pass}
use Rattle.kmin_faults.proofs.naming_parts.ExprIdNamesUnit.names_unit.Goals as goal

pub returns : goal.returns
returns c =
    let exprs = c.args.search.now.tree.now.exprs in
    let test = is_of_unit c.args.search.now.tree.now.tree c.args.search.now.unit in
    record {
      value = c.has_one_of_unit.ensures.value ∙ ap (list_any (λ name. test (slice_index_or exprs.names name []))) c.deref.ensures.value
          ∙ numbers_pass test exprs.names c.push_names.new.found.items (node_expr exprs c.args.self.now)
          (rw (c.arena.ensures.arena, c.new-names.ensures.items) at c.in_ok-push_names.ensures.words);
    }
