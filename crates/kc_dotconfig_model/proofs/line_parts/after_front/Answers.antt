use Rattle.kc_dotconfig_model.proofs.Common.{◌≡◌, ◌++◌, length, drop, sym, ◌∙◌, ap, arith, elements, Decides-eqb}
use Rattle.std.proofs.lemmas.Slice.Eq.{starts_is}
use Rattle.kc_dotconfig_model.proofs.LineParts.{after_front_some, after_front_none, front_boundary}
use Rattle.kc_dotconfig_model.proofs.line_parts.after_front.Goals as goal

pub returns-then-not-starts_with-clause-none : goal.returns-then-not-starts_with-clause-none
returns-then-not-starts_with-clause-none c =
    let s = starts_is Decides-eqb c.as_bytes.result.now c.args.front.now c.starts_with.result c.starts_with.ensures.value in
    after_front_none c.args.front.now c.args.line.now (λ rest is. let e = s.1 rest (c.as_bytes.ensures.value ∙ is) in
    let f = c.if-not-starts_with.true in cc (e, f))

pub range_from-requires : goal.range_from-requires
range_from-requires c some =
    let s = starts_is Decides-eqb c.as_bytes.result.now c.args.front.now c.starts_with.result c.starts_with.ensures.value in
    let is : c.args.line.now ≡ c.args.front.now ++ drop (length c.args.front.now) c.args.line.now =
    sym c.as_bytes.ensures.value ∙ s.0 c.if-not-starts_with.false ∙ ap (λ l. c.args.front.now ++ drop (length c.args.front.now) l) c.as_bytes.ensures.value in
    front_boundary c.args.front.now c.args.line.now c.requires.ascii c.utf8.line is some

pub returns-clause-some : goal.returns-clause-some
returns-clause-some c =
    let s = starts_is Decides-eqb c.as_bytes.result.now c.args.front.now c.starts_with.result c.starts_with.ensures.value in
    let is : c.args.line.now ≡ c.args.front.now ++ drop (length c.args.front.now) c.args.line.now =
    sym c.as_bytes.ensures.value ∙ s.0 c.if-not-starts_with.false ∙ ap (λ l. c.args.front.now ++ drop (length c.args.front.now) l) c.as_bytes.ensures.value in
    after_front_some c.args.front.now c.args.line.now c.range_from.result.now (is ∙ ap (λ l. c.args.front.now ++ l) (sym c.range_from.ensures.value))

pub returns-then-not-starts_with-clause-some : goal.returns-then-not-starts_with-clause-some
returns-then-not-starts_with-clause-some c = grind (arith, elements)

pub returns-clause-none : goal.returns-clause-none
returns-clause-none c = grind (arith, elements)
