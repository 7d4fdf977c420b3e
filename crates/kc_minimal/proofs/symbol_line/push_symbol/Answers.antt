use Rattle.kc_minimal.proofs.Common.{arith, common_steps, tree_of_settled, file_format}
use Rattle.kc_expr.specs.Lookup.{symbol_value_of}
use Rattle.kc_minimal.proofs.SymbolLines.{line_of}
use Rattle.kc_minimal.proofs.symbol_line.push_symbol.Goals as goal

pub returns : goal.returns
returns c =
    record {
      ok = rw (line_of (file_format c.args.written.now.format.now) (tree_of_settled c.args.written.now.settled.now) c.args.written.now.values.now c.args.s c.name.result.now
          (symbol_value_of c.value_of_symbol-value.result) (rw c.tree.ensures.tree at c.name.ensures.value) c.value_of_symbol-value.ensures.value)
          c.push_line.ensures;
    }

pub name-requires : goal.name-requires
name-requires c = grind (arith, common_steps)
