use Rattle.kc_parser.proofs.Common.{◌≡◌, ◌∙◌, sym, refl, inr, arith, Some, None, common_steps, index_of_name}
use Rattle.kc_parser.proofs.NameLemmas.{full_there, with_there, place_get, names_later}
use Rattle.kc_parser.proofs.SymbolSteps.{place_known, reported_full, reported_new}
use Rattle.kc_parser.proofs.listing.SymbolTable.symbol_of.Goals as goal

pub returns-in-Some-clause-returned : goal.returns-in-Some-clause-returned
returns-in-Some-clause-returned c = λ names h.
    let l = names_later c.args.self.now.arena c.intern.new.self c.args.self.now.symbols.items c.args.self.now.numbers.items names c.in-Ok.ensures.grows h in
    let p : index_of_name c.args.name.now names ≡ Some c.in-Some.number = place_known c.intern.new.self c.args.self.now.symbols.items
    c.args.self.now.numbers.items names c.args.name.now c.in-Ok.id l c.in-Ok.ensures.place ∙ sym (rw c.as_slice.ensures.value at c.in-Some.ensures) in
    let w = with_there c.args.name.now names c.in-Some.number p in
    (full_there c.args.name.now names c.in-Some.number p, rw w l, rw w (place_get c.args.name.now names c.in-Some.number p))

pub returns-then-len-ge-MAX_SYMBOLS-clause-returned : goal.returns-then-len-ge-MAX_SYMBOLS-clause-returned
returns-then-len-ge-MAX_SYMBOLS-clause-returned c = λ names h.
    let l = names_later c.args.self.now.arena c.intern.new.self c.args.self.now.symbols.items c.args.self.now.numbers.items names c.in-Ok.ensures.grows h in
    let none : index_of_name c.args.name.now names ≡ None = place_known c.intern.new.self c.args.self.now.symbols.items c.args.self.now.numbers.items names
    c.args.name.now c.in-Ok.id l c.in-Ok.ensures.place ∙ sym (rw c.as_slice.ensures.value at c.number_at.ensures) ∙ c.in_default-number_at.is in
    inr (
      refl,
      reported_full c.intern.new.self c.args.self.now.symbols.items c.args.self.now.numbers.items names c.args.name.now l none
          (let t = c.if-len-ge-MAX_SYMBOLS.true in let k = c.len.ensures in omega arith),
      l,
    )

pub define-requires-clause-few : goal.define-requires-clause-few
define-requires-clause-few c = let t = c.if-len-ge-MAX_SYMBOLS.false in let k = c.len.ensures in omega arith

pub returns-clause-returned : goal.returns-clause-returned
returns-clause-returned c = λ names h.
    let l = names_later c.args.self.now.arena c.intern.new.self c.args.self.now.symbols.items c.args.self.now.numbers.items names c.in-Ok.ensures.grows h in
    let none : index_of_name c.args.name.now names ≡ None = place_known c.intern.new.self c.args.self.now.symbols.items c.args.self.now.numbers.items names
    c.args.name.now c.in-Ok.id l c.in-Ok.ensures.place ∙ sym (rw c.as_slice.ensures.value at c.number_at.ensures) ∙ c.in_default-number_at.is in
    reported_new c.intern.new.self c.args.self.now.symbols.items c.args.self.now.numbers.items names c.args.name.now l none c.define.new.self c.define.result
    (let t = c.if-len-ge-MAX_SYMBOLS.false in let k = c.len.ensures in omega arith)
    c.define.ensures.number (c.define.ensures.named c.args.name.now names l c.in-Ok.ensures.place none) c.define.ensures.memory

pub returns-then-len-ge-MAX_SYMBOLS-clause-grows : goal.returns-then-len-ge-MAX_SYMBOLS-clause-grows
returns-then-len-ge-MAX_SYMBOLS-clause-grows c = grind (arith, common_steps)

pub returns-in_default-clause-returned : goal.returns-in_default-clause-returned
returns-in_default-clause-returned c = grind (arith, common_steps)

pub returns-in-Some-clause-grows : goal.returns-in-Some-clause-grows
returns-in-Some-clause-grows c = grind (arith, common_steps)

pub returns-in_default-clause-grows : goal.returns-in_default-clause-grows
returns-in_default-clause-grows c = grind (arith, common_steps)

pub returns-clause-grows : goal.returns-clause-grows
returns-clause-grows c = grind (arith, common_steps)
