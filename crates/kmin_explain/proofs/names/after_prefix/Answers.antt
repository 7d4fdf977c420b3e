use Rattle.kmin_explain.proofs.Common.{◌≡◌, ◌++◌, length, drop, sym, subst, ◌∙◌, ap, IsAscii}
use Rattle.std.proofs.lemmas.Bool.Decides.{Decides-eqb}
use Rattle.std.proofs.lemmas.Slice.Eq.{starts_is}
use Rattle.kc_dotconfig_model.specs.between.LineMeanings.{after_front}
use Rattle.kc_dotconfig_model.proofs.LineParts.{after_front_some, after_front_none, front_boundary}
use Rattle.kmin_explain.proofs.NameLists.{prefix_ascii}
use Rattle.kmin_explain.proofs.names.after_prefix.Goals as goal

pub returns-then-not-starts_with-clause-none : goal.returns-then-not-starts_with-clause-none
returns-then-not-starts_with-clause-none c =
    let front = c.as_bytes-front.result.now in
    let s = starts_is Decides-eqb c.as_bytes.result.now front c.starts_with.result c.starts_with.ensures.value in
    ap (λ p. after_front p c.args.name.now) (sym c.as_bytes-front.ensures)
    ∙ after_front_none front c.args.name.now (λ rest is. let e = s.1 rest (c.as_bytes.ensures.value ∙ is) in let f = c.if-not-starts_with.true in cc (e, f))

pub range_from-requires : goal.range_from-requires
range_from-requires c some =
    let front = c.as_bytes-front.result.now in
    let s = starts_is Decides-eqb c.as_bytes.result.now front c.starts_with.result c.starts_with.ensures.value in
    let is : c.args.name.now ≡ front ++ drop (length front) c.args.name.now =
    sym c.as_bytes.ensures.value ∙ s.0 c.if-not-starts_with.false ∙ ap (λ l. front ++ drop (length front) l) c.as_bytes.ensures.value in
    let low : IsAscii front = subst IsAscii (sym c.as_bytes-front.ensures) (prefix_ascii _ c.args.prefix.now.valid) in
    front_boundary front c.args.name.now low c.utf8.name is some

pub returns-clause-some : goal.returns-clause-some
returns-clause-some c =
    let front = c.as_bytes-front.result.now in
    let s = starts_is Decides-eqb c.as_bytes.result.now front c.starts_with.result c.starts_with.ensures.value in
    let is : c.args.name.now ≡ front ++ drop (length front) c.args.name.now =
    sym c.as_bytes.ensures.value ∙ s.0 c.if-not-starts_with.false ∙ ap (λ l. front ++ drop (length front) l) c.as_bytes.ensures.value in
    ap (λ p. after_front p c.args.name.now) (sym c.as_bytes-front.ensures)
    ∙ after_front_some front c.args.name.now c.range_from.result.now (is ∙ ap (λ l. front ++ l) (sym c.range_from.ensures.value))
