use Rattle.kc_builder.proofs.Common.{◌≡◌, ℕ, [], ◌∷◌, ◌++◌, get_or, ◌∙◌, sym, ap, arith, append-nil, common_steps, elements, option_map, option_to_list, gathered_target, target_key, gathered_reverse_dependency, ReverseDependency}
use Rattle.kc_builder.proofs.ItemSteps.{rest_more}
use Rattle.kc_builder.proofs.definition_attributes.push_reverse_dependencies.Goals as goal
use Rattle.kc_builder.proofs.definition_attributes.push_reverse_dependencies.Goals.{in-Some+in_ok-push, in_default}

pub loop-i-preserved : goal.loop-i-preserved
loop-i-preserved c =
    let n = c.args.own.names.now in
    let line = c.index-lines-i.result in
    let told = ap (gathered_target n c.args.forcing) (sym c.index-lines-i.is) ∙ sym c.target_symbol_of.ensures.value in
    elim c.match-target_symbol_of.branch [
      | in-Some+in_ok-push w ↦ (
          let t = told ∙ w.in-Some.is in
          let condition = w.index-conditions-i.result in
          let e = w.in_ok-push.ensures in
          let by : w.at.result ≡ c.args.symbol = w.at.ensures in
          let made = λ (s x : ℕ). let f : ReverseDependency = record { by = s; condition = x } in f in
          rest_more (target_key n c.args.forcing) (gathered_reverse_dependency n c.args.forcing c.args.symbol) c.args.found.now c.loop-i.found
          c.match-target_symbol_of.found c.args.own.lines.now c.args.own.conditions.now c.loop-i.i condition line
          (omega arith) c.args.own.many c.loop-i.invariant
          (record {
            keys = ap (λ k. k.keys.items) w.found-is ∙ e.keys ∙ ap (λ o. c.loop-i.found.keys.items ++ option_to_list o) (sym t);
            items = ap (λ k. k.items.items) w.found-is ∙ e.items
                ∙ ap (λ s. c.loop-i.found.items.items ++ made s condition ∷ []) by
                ∙ ap (λ x. c.loop-i.found.items.items ++ made c.args.symbol x ∷ []) w.index-conditions-i.is
                ∙ ap (λ o. c.loop-i.found.items.items ++ option_to_list (option_map (λ _. made c.args.symbol (get_or c.args.own.conditions.now c.loop-i.i condition)) o))
                (sym t);
          })
          )
      | in_default w ↦ (
          let t = told ∙ w.in_default.is in
          rest_more (target_key n c.args.forcing) (gathered_reverse_dependency n c.args.forcing c.args.symbol) c.args.found.now c.loop-i.found
          c.match-target_symbol_of.found c.args.own.lines.now c.args.own.conditions.now c.loop-i.i 0 line
          (omega arith) c.args.own.many c.loop-i.invariant
          (record {
            keys = ap (λ k. k.keys.items) w.found-is ∙ sym (append-nil c.loop-i.found.keys.items) ∙ ap (λ o. c.loop-i.found.keys.items ++ option_to_list o) (sym t);
            items = ap (λ k. k.items.items) w.found-is ∙ sym (append-nil c.loop-i.found.items.items)
                ∙ ap (λ o. c.loop-i.found.items.items ++ option_to_list (option_map
                (λ _. let f : ReverseDependency = record { by = c.args.symbol; condition = get_or c.args.own.conditions.now c.loop-i.i 0 } in f) o)) (sym t);
          })
          )
    ]

pub bounds-conditions-i : goal.bounds-conditions-i
bounds-conditions-i c = grind (arith, common_steps)

pub target_symbol_of-requires : goal.target_symbol_of-requires
target_symbol_of-requires c = record { held = grind (arith, elements) }

pub offset_bounds-conditions-i : goal.offset_bounds-conditions-i
offset_bounds-conditions-i c = grind (arith, common_steps)

pub returns : goal.returns
returns c = grind (arith, common_steps)
