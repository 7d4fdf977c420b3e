use Rattle.kc_config.proofs.Common.{◌≡◌, ◌++◌, ℕ, List, Option, IsTrue, length, ◌∙◌, sym, ap, subst, arith, common_steps, elements, changed_users, FitsChanges, IsListOf, IsChanged, IsTouched, IsCountOf, dependencies, user_fits, UserValue, Configured, tree_in, FitsTree, changes_of, users_of}
use Rattle.kc_config.proofs.Common.{units_of, clears_of}
use Rattle.kc_config.proofs.UserValueUnits.{fits_changes, fits_both}
use Rattle.kc_dotconfig.proofs.WholeReads.{if_any_err}
use Rattle.kc_config.proofs.ConfigSolutions.{solved_by, replaced_kept, replaced_users}
use Rattle.kc_config.proofs.config.Config.replace.Goals as goal

pub apply-requires : goal.apply-requires
apply-requires c = record {
  fits = let e : c.deref-4.result.now ≡ clears_of c.self.inside.valued.items ++ changes_of c.args.fragment.now.assigns.items =
      c.deref-4.ensures.value ∙ c.in_ok-push_users.ensures
      ∙ ap (λ (l : List (ℕ × Option UserValue)). l ++ changes_of c.deref-3.result.now)
      (c.in_ok-push_cleared.ensures ∙ ap (λ (l : List (ℕ × Option UserValue)). l ++ clears_of c.deref-2.result.now) c.in_ok-changes.ensures.items)
      ∙ ap (λ (l : List (ℕ × UserValue)). clears_of c.deref-2.result.now ++ changes_of l) c.deref-3.ensures.value
      ∙ ap (λ (l : List ℕ). clears_of l ++ changes_of c.args.fragment.now.assigns.items) c.deref-2.ensures.value in
      let v : c.args.self.now ≡ c.self.inside.session = sym c.self.view_is in
      subst (FitsChanges (length (tree_in c.self.inside.session).units) (λ u x. IsTrue (user_fits (tree_in c.self.inside.session) u x))) (sym e)
      (fits_both (length (tree_in c.self.inside.session).units) (λ u x. IsTrue (user_fits (tree_in c.self.inside.session) u x)) c.self.inside.valued.items
      (changes_of c.args.fragment.now.assigns.items) c.self.invariant.within
      (fits_changes (tree_in c.self.inside.session) c.args.fragment.now.assigns.items
      (subst (λ (s : Configured). FitsTree (tree_in s) c.args.fragment.now.assigns.items) v c.requires.fits)));
}

pub invariant_of-self-2 : goal.invariant_of-self-2
invariant_of-self-2 c =
    let e : c.deref-4.result.now ≡ clears_of c.self.inside.valued.items ++ changes_of c.args.fragment.now.assigns.items =
    c.deref-4.ensures.value ∙ c.in_ok-push_users.ensures
    ∙ ap (λ (l : List (ℕ × Option UserValue)). l ++ changes_of c.deref-3.result.now)
    (c.in_ok-push_cleared.ensures ∙ ap (λ (l : List (ℕ × Option UserValue)). l ++ clears_of c.deref-2.result.now) c.in_ok-changes.ensures.items)
    ∙ ap (λ (l : List (ℕ × UserValue)). clears_of c.deref-2.result.now ++ changes_of l) c.deref-3.ensures.value
    ∙ ap (λ (l : List ℕ). clears_of l ++ changes_of c.args.fragment.now.assigns.items) c.deref-2.ensures.value in
    let v : c.args.self.now ≡ c.self.inside.session = sym c.self.view_is in
    let users = replaced_users c.self.inside.settled.now c.self.inside.session c.self.inside.valued.items c.args.fragment.now.assigns.items
    c.apply.new.self.users
    c.self.invariant
    (c.in_ok-report.ensures.users ∙ ap (λ (l : List (ℕ × Option UserValue)). changed_users l c.self.inside.session.users) e) in
    replaced_kept c.self.inside.settled.now c.self.inside.session c.apply.new.self c.self.inside.valued.items c.in_ok-valued.valued.items
    c.args.fragment.now.assigns.items c.self.invariant
    (subst (λ (s : Configured). FitsTree (tree_in s) c.args.fragment.now.assigns.items) v c.requires.fits)
    (solved_by c.self.inside.session c.apply.new.self c.self.invariant.solved c.in_ok-report.ensures.system c.in_ok-report.ensures.fits
    c.in_ok-report.ensures.gives)
    c.in_ok-report.ensures.system users (c.in_ok-valued.ensures ∙ ap units_of c.deref.ensures.value)

pub returns-clause-users : goal.returns-clause-users
returns-clause-users c =
    let e : c.deref-4.result.now ≡ clears_of c.self.inside.valued.items ++ changes_of c.args.fragment.now.assigns.items =
    c.deref-4.ensures.value ∙ c.in_ok-push_users.ensures
    ∙ ap (λ (l : List (ℕ × Option UserValue)). l ++ changes_of c.deref-3.result.now)
    (c.in_ok-push_cleared.ensures ∙ ap (λ (l : List (ℕ × Option UserValue)). l ++ clears_of c.deref-2.result.now) c.in_ok-changes.ensures.items)
    ∙ ap (λ (l : List (ℕ × UserValue)). clears_of c.deref-2.result.now ++ changes_of l) c.deref-3.ensures.value
    ∙ ap (λ (l : List ℕ). clears_of l ++ changes_of c.args.fragment.now.assigns.items) c.deref-2.ensures.value in
    let v : c.args.self.now ≡ c.self.inside.session = sym c.self.view_is in
    let users = replaced_users c.self.inside.settled.now c.self.inside.session c.self.inside.valued.items c.args.fragment.now.assigns.items
    c.apply.new.self.users
    c.self.invariant
    (c.in_ok-report.ensures.users ∙ ap (λ (l : List (ℕ × Option UserValue)). changed_users l c.self.inside.session.users) e) in
    subst (λ (s : Configured). c.apply.new.self.users ≡ users_of (tree_in s) c.args.fragment.now.assigns.items) (sym v) users

pub returns-clause-solved : goal.returns-clause-solved
returns-clause-solved c =
    solved_by c.self.inside.session c.apply.new.self c.self.invariant.solved c.in_ok-report.ensures.system c.in_ok-report.ensures.fits
    c.in_ok-report.ensures.gives

pub returns-clause-settled : goal.returns-clause-settled
returns-clause-settled c = c.in_ok-report.ensures.system ∙ ap (λ (s : Configured). s.system) c.self.view_is

pub returns-clause-changed : goal.returns-clause-changed
returns-clause-changed c =
    subst (λ (s : Configured). IsListOf (length (tree_in s).units) (IsChanged s.values c.apply.new.self.values) c.in_ok-report.report.changed.items)
    c.self.view_is c.in_ok-report.ensures.changed

pub returns-clause-evaluated : goal.returns-clause-evaluated
returns-clause-evaluated c =
    subst (λ (s : Configured). IsCountOf (length (tree_in s).units) (IsTouched (dependencies (tree_in s)) s.users c.apply.new.self.users s.values
    c.apply.new.self.values) c.in_ok-report.report.evaluated) c.self.view_is c.in_ok-report.ensures.evaluated

pub invariant_of-self : goal.invariant_of-self
invariant_of-self c = rw c.in_err-report.ensures.err c.self.invariant

pub returns-in_err-report-clause-err : goal.returns-in_err-report-clause-err
returns-in_err-report-clause-err c = if_any_err c.from_residual-in_err-report.result _ (λ e. c.in_err-report.ensures.err ∙ c.self.view_is)

pub returns-in_err-report-clause-settled : goal.returns-in_err-report-clause-settled
returns-in_err-report-clause-settled c = ap (λ (s : Configured). s.system) (c.in_err-report.ensures.err ∙ c.self.view_is)

pub returns-in_err-report-clause-solved : goal.returns-in_err-report-clause-solved
returns-in_err-report-clause-solved c = rw c.in_err-report.ensures.err c.self.invariant.solved

pub returns-in_err-push_cleared-clause-solved : goal.returns-in_err-push_cleared-clause-solved
returns-in_err-push_cleared-clause-solved c = grind (arith, common_steps)

pub returns-in_err-changes-clause-settled : goal.returns-in_err-changes-clause-settled
returns-in_err-changes-clause-settled c = grind (arith, common_steps)

pub returns-in_err-push_cleared-clause-settled : goal.returns-in_err-push_cleared-clause-settled
returns-in_err-push_cleared-clause-settled c = grind (arith, common_steps)

pub returns-in_err-push_users-clause-settled : goal.returns-in_err-push_users-clause-settled
returns-in_err-push_users-clause-settled c = grind (arith, common_steps)

pub returns-in_err-valued-clause-solved : goal.returns-in_err-valued-clause-solved
returns-in_err-valued-clause-solved c = grind (arith, elements)

pub returns-clause-err : goal.returns-clause-err
returns-clause-err c = grind (arith, common_steps)

pub returns-in_err-changes-clause-solved : goal.returns-in_err-changes-clause-solved
returns-in_err-changes-clause-solved c = grind (arith, common_steps)

pub returns-in_err-push_users-clause-solved : goal.returns-in_err-push_users-clause-solved
returns-in_err-push_users-clause-solved c = grind (arith, common_steps)

pub returns-in_err-valued-clause-settled : goal.returns-in_err-valued-clause-settled
returns-in_err-valued-clause-settled c = grind (arith, common_steps)
