use Rattle.kc_parser.proofs.Common.{sym, ap, ◌∙◌, option_and_then, slice_index, number_in_slot}
use Rattle.kc_parser.proofs.listing.SymbolTable.number_of.Goals as goal

pub returns-in_err-id : goal.returns-in_err-id
returns-in_err-id c =
    let numbers = c.args.self.now.numbers.items in
    c.from_residual.ensures ∙ ap (option_and_then (λ i. number_in_slot (slice_index numbers i))) (sym c.in_err-id.was ∙ c.find.ensures)

pub returns : goal.returns
returns c =
    let numbers = c.args.self.now.numbers.items in
    (rw c.as_slice.ensures.value at c.number_at.ensures) ∙ ap (option_and_then (λ i. number_in_slot (slice_index numbers i)))
    (sym c.in_ok-id.was ∙ c.find.ensures)
