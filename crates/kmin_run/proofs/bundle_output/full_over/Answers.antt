use Rattle.kmin_run.proofs.Common.{[], ◌∷◌, codes, refl, ◌∙◌, rules, tree_of_settled, empty_assignment, bundle_content, if_err, memory_err}
use Rattle.kc_config.proofs.UserValueUnits.{lies_alone}
use Rattle.kmin_outputs.proofs.Sequences.{stopped_for_memory}
use Rattle.kmin_run.proofs.BundleOutputs.{memory_stops, memory_loaded, full_output}
use Rattle.kmin_run.proofs.bundle_output.full_over.Goals as goal

pub returns-in_err-fragment-clause-stopped : goal.returns-in_err-fragment-clause-stopped
returns-in_err-fragment-clause-stopped g c =
    if_err c.from_residual.result c.in_err-fragment.field-0.0 _ (search rules)
    (memory_stops c.args.configuration.now _ _ _ _ (codes "config") _ _ _ _ _ _ _ _ c.plain-format.ensures c.new-reader.ensures
    c.in_err-fragment.ensures.stopped)

pub returns-in_err-config-clause-stopped : goal.returns-in_err-config-clause-stopped
returns-in_err-config-clause-stopped g c =
    let tree = tree_of_settled c.args.settled.now in
    let content = bundle_content c.args.configuration.now in
    memory_err _ _ c.from_residual-in_err-config.ensures (λ stop status.
    stopped_for_memory content _ _ tree _ _ _ _ _ (codes "config" ∷ []) [] _ (empty_assignment tree) _ refl status
    (memory_loaded c.args.configuration.now _ _ _ tree (codes "config") _ (empty_assignment tree) _ c.in_ok-fragment.fragment _ _ _ _ c.plain-format.ensures
    c.new-reader.ensures c.in_ok-fragment.ensures.ok c.in_ok-fragment.ensures.notices refl))

pub returns-in_err-text-clause-stopped : goal.returns-in_err-text-clause-stopped
returns-in_err-text-clause-stopped g c =
    let tree = tree_of_settled c.args.settled.now in
    let content = bundle_content c.args.configuration.now in
    memory_err _ _ c.from_residual-in_err-text.ensures (λ stop status.
    stopped_for_memory content _ _ tree _ _ _ _ _ (codes "config" ∷ []) [] _ (empty_assignment tree) _ refl status
    (memory_loaded c.args.configuration.now _ _ _ tree (codes "config") _ (empty_assignment tree) _ c.in_ok-fragment.fragment _ _ _ _ c.plain-format.ensures
    c.new-reader.ensures c.in_ok-fragment.ensures.ok c.in_ok-fragment.ensures.notices refl))

pub returns-clause-ok : goal.returns-clause-ok
returns-clause-ok g c =
    let tree = tree_of_settled c.args.settled.now in
    let config = c.in_ok-config.config in
    full_output c.args.configuration.now _ _ config c.args.settled.now _ _ _ _ c.in_ok-config.ensures.settled c.plain-format.ensures
    c.in_ok-config.ensures.solved
    (memory_loaded c.args.configuration.now _ _ _ tree (codes "config") _ (empty_assignment tree) config.users c.in_ok-fragment.fragment _ _ _ _
    c.plain-format.ensures c.new-reader.ensures c.in_ok-fragment.ensures.ok c.in_ok-fragment.ensures.notices
    (c.in_ok-config.ensures.users ∙ lies_alone tree c.in_ok-fragment.fragment.assigns.items))
    c.in_ok-text.ensures.text
