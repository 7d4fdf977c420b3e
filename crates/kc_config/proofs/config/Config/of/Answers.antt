use Rattle.kc_config.proofs.Common.{◌≡◌, ℕ, List, Option, None, IsTrue, length, replicate, sym, ap, subst, ◌∙◌, arith, common_steps, Tree, changed_users, FitsUsers, user_fits, UserValue, tree_of_settled, changes_of, users_of, units_of}
use Rattle.kc_config.proofs.UserValueUnits.{users_fit}
use Rattle.kc_config.proofs.ConfigSolutions.{solved_as, fragment_kept}
use Rattle.kc_config.proofs.config.Config.of.Goals as goal

-- user values over a number of units, as the assignment of a tree
assigned : (tree : Tree) (size : ℕ) (known es : List (ℕ × UserValue)) (users : List (Option UserValue))
    → users ≡ changed_users (changes_of known) (replicate size None) → known ≡ es → size ≡ length tree.units
    → users ≡ users_of tree es
assigned tree size known es users is same all =
    is ∙ ap (λ (l : List (ℕ × UserValue)). changed_users (changes_of l) (replicate size None)) same
    ∙ ap (λ n. changed_users (changes_of es) (replicate n None)) all

pub users_assigned-requires : goal.users_assigned-requires
users_assigned-requires c =
    record { units = λ k u x e. let each = c.requires.fits.each k u x (rw c.deref-2.ensures.value at e) in omega (arith, each.0, c.len.ensures) }

pub holding-requires-clause-users : goal.holding-requires-clause-users
holding-requires-clause-users c =
    let tree = tree_of_settled c.args.settled.now in
    let is = assigned tree c.len.result c.deref-2.result.now c.args.fragment.now.assigns.items c.in_ok-users.users.items c.in_ok-users.ensures.ok
    c.deref-2.ensures.value c.len.ensures in
    subst (FitsUsers (length tree.units) (λ u x. IsTrue (user_fits tree u x))) (sym is) (users_fit tree c.args.fragment.now.assigns.items c.requires.fits)

pub invariant_of-result : goal.invariant_of-result
invariant_of-result c =
    let settled = c.args.settled.now in
    let session = c.in_ok-session.session in
    let is = assigned (tree_of_settled settled) c.len.result c.deref-2.result.now c.args.fragment.now.assigns.items c.in_ok-users.users.items
    c.in_ok-users.ensures.ok c.deref-2.ensures.value c.len.ensures in
    let solved = solved_as settled session c.in_ok-session.ensures.system c.tree.ensures.settled c.values.ensures.fits_users c.values.ensures.fits
    c.values.ensures.gives in
    fragment_kept settled session c.in_ok-valued.valued.items c.args.fragment.now.assigns.items c.requires.fits solved c.in_ok-session.ensures.system
    (c.in_ok-session.ensures.users ∙ is) (c.in_ok-valued.ensures ∙ ap units_of c.deref.ensures.value)

pub returns-clause-solved : goal.returns-clause-solved
returns-clause-solved c =
    solved_as c.args.settled.now c.in_ok-session.session c.in_ok-session.ensures.system c.tree.ensures.settled c.values.ensures.fits_users c.values.ensures.fits
    c.values.ensures.gives

pub returns-clause-users : goal.returns-clause-users
returns-clause-users c =
    c.in_ok-session.ensures.users ∙ assigned (tree_of_settled c.args.settled.now) c.len.result c.deref-2.result.now c.args.fragment.now.assigns.items
    c.in_ok-users.users.items c.in_ok-users.ensures.ok c.deref-2.ensures.value c.len.ensures

pub returns-clause-settled : goal.returns-clause-settled
returns-clause-settled c = grind (arith, common_steps)

pub holding-requires-clause-order : goal.holding-requires-clause-order
holding-requires-clause-order c = grind (arith, common_steps)
