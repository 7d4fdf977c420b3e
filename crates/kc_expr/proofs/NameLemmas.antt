-- Appending a name keeps the names before it.
use Rattle.kc_expr.proofs.Common.{◌≡◌, length, take, ap, sym, ◌∙◌, take-length, NodeStore, exprs_in, IsSound, Extends}
use Rattle.kc_expr.proofs.StoreLemmas.{grows, length-nodes}

-- a store that is extended, but not by nodes, has the same expressions
pub same_exprs : (old new : NodeStore) → IsSound old → Extends old new → new.nodes.items ≡ old.nodes.items → (exprs_in new).nodes ≡ (exprs_in old).nodes
same_exprs old new sound x same =
    let long : length (exprs_in new).nodes ≡ length (exprs_in old).nodes = length-nodes new ∙ ap length same ∙ sym (length-nodes old) in
    sym (take-length (exprs_in new).nodes) ∙ ap (λ n. take n (exprs_in new).nodes) long ∙ (grows old new sound x).nodes
