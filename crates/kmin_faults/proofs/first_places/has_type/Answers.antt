use Rattle.std.proofs.Common.{◌∙◌, sym}
use Rattle.kmin_faults.proofs.StoredTypes.{has_type_within}
use Rattle.kmin_faults.proofs.first_places.has_type.Goals as goal

pub returns : goal.returns
returns c = c.has_typed_line.ensures ∙ sym (has_type_within c.args.lines.now c.args.begin c.args.end c.if-begin-end.false c.if-end-lines.false)
