use Rattle.std.proofs.Common.{length}
use Rattle.kc_dotconfig.proofs.LineMeanings.{meaning_within}
use Rattle.kc_dotconfig.proofs.meanings.read_value.Goals as goal

pub returns-clause-within : goal.returns-clause-within
returns-clause-within c =
    let symbol = c.symbol-symbol.result in
    meaning_within c.read_text.result c.language.result c.args.strings (length c.args.tree.now.tree.units) symbol.kind symbol.unit c.args.s symbol.choice
    c.args.text.now c.symbol-symbol.ensures.within c.read_text.ensures
