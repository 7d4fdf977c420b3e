use Rattle.kc_config.proofs.Common.{◌≡◌, ◌++◌, ℕ, List, Option, IsTrue, length, take, ◌∙◌, sym, ap, subst, arith, common_steps, elements, filter, is_none, changed_users, FitsChanges, IsTouched, IsCountOf, IsListOf, IsChanged, user_of, dependencies, user_fits, UserValue, merged_users, Configured, tree_in}
use Rattle.kc_config.proofs.Common.{FitsTree, changes_of, users_of, units_of, merged_assigns}
use Rattle.kc_config.proofs.MergedValues.{merged_fits}
use Rattle.kc_config.proofs.UserValueUnits.{fits_changes}
use Rattle.kc_config.proofs.ConfigSolutions.{solved_by, merged_kept, users_merged}
use Rattle.kc_config.proofs.config.Config.merge.Goals as goal

pub apply-requires : goal.apply-requires
apply-requires c = record {
  fits = let e : c.deref-3.result.now ≡ changes_of (merged_assigns c.self.inside.session.users c.args.fragment.now.assigns.items) = c.deref-3.ensures.value
      ∙ c.in_ok-push_merged.ensures
      ∙ ap (λ (l : List (ℕ × Option UserValue)). l ++ changes_of (merged_assigns c.users-users.result.now c.deref.result.now)) c.in_ok-changes.ensures.items
      ∙ ap (λ (l : List (Option UserValue)). changes_of (merged_assigns l c.deref.result.now)) c.users-users.ensures.users
      ∙ ap (λ (l : List (ℕ × UserValue)). changes_of (merged_assigns c.self.inside.session.users l)) c.deref.ensures.value in
      let v : c.args.self.now ≡ c.self.inside.session = sym c.self.view_is in
      subst (FitsChanges (length (tree_in c.self.inside.session).units) (λ u x. IsTrue (user_fits (tree_in c.self.inside.session) u x))) (sym e)
      (fits_changes (tree_in c.self.inside.session) (merged_assigns c.self.inside.session.users c.args.fragment.now.assigns.items)
      (merged_fits (tree_in c.self.inside.session) c.self.inside.session.users c.args.fragment.now.assigns.items c.self.invariant.solved.fits
      (subst (λ (s : Configured). FitsTree (tree_in s) c.args.fragment.now.assigns.items) v c.requires.fits)));
}

pub invariant_of-self-in-Ok-apply : goal.invariant_of-self-in-Ok-apply
invariant_of-self-in-Ok-apply c =
    let e : c.deref-3.result.now ≡ changes_of (merged_assigns c.self.inside.session.users c.args.fragment.now.assigns.items) = c.deref-3.ensures.value
    ∙ c.in_ok-push_merged.ensures
    ∙ ap (λ (l : List (ℕ × Option UserValue)). l ++ changes_of (merged_assigns c.users-users.result.now c.deref.result.now)) c.in_ok-changes.ensures.items
    ∙ ap (λ (l : List (Option UserValue)). changes_of (merged_assigns l c.deref.result.now)) c.users-users.ensures.users
    ∙ ap (λ (l : List (ℕ × UserValue)). changes_of (merged_assigns c.self.inside.session.users l)) c.deref.ensures.value in
    let v : c.args.self.now ≡ c.self.inside.session = sym c.self.view_is in
    let users : c.apply.new.self.users ≡ changed_users (changes_of (merged_assigns c.self.inside.session.users c.args.fragment.now.assigns.items)) c.self.inside.session.users = c.in-Ok-apply.ensures.users
    ∙ ap (λ (l : List (ℕ × Option UserValue)). changed_users l c.self.inside.session.users) e in
    let valued = c.in-Ok.ensures.ok
    ∙ ap (λ (l : List (Option UserValue)). c.self.inside.valued.items ++ filter (λ u. is_none (user_of l u)) (units_of c.deref-2.result.now))
    c.users.ensures.users
    ∙ ap (λ (l : List (ℕ × UserValue)). c.self.inside.valued.items ++ filter (λ u. is_none (user_of c.self.inside.session.users u)) (units_of l))
    c.deref-2.ensures.value in
    merged_kept c.self.inside.settled.now c.self.inside.session c.apply.new.self c.self.inside.valued.items c.merge_units.new.valued.items
    c.args.fragment.now.assigns.items c.self.invariant
    (subst (λ (s : Configured). FitsTree (tree_in s) c.args.fragment.now.assigns.items) v c.requires.fits)
    (solved_by c.self.inside.session c.apply.new.self c.self.invariant.solved c.in-Ok-apply.ensures.system c.in-Ok-apply.ensures.fits
    c.in-Ok-apply.ensures.gives)
    c.in-Ok-apply.ensures.system users valued

pub returns-in-Ok-apply-clause-users : goal.returns-in-Ok-apply-clause-users
returns-in-Ok-apply-clause-users c =
    let e : c.deref-3.result.now ≡ changes_of (merged_assigns c.self.inside.session.users c.args.fragment.now.assigns.items) = c.deref-3.ensures.value
    ∙ c.in_ok-push_merged.ensures
    ∙ ap (λ (l : List (ℕ × Option UserValue)). l ++ changes_of (merged_assigns c.users-users.result.now c.deref.result.now)) c.in_ok-changes.ensures.items
    ∙ ap (λ (l : List (Option UserValue)). changes_of (merged_assigns l c.deref.result.now)) c.users-users.ensures.users
    ∙ ap (λ (l : List (ℕ × UserValue)). changes_of (merged_assigns c.self.inside.session.users l)) c.deref.ensures.value in
    let v : c.args.self.now ≡ c.self.inside.session = sym c.self.view_is in
    let users : c.apply.new.self.users ≡ changed_users (changes_of (merged_assigns c.self.inside.session.users c.args.fragment.now.assigns.items)) c.self.inside.session.users = c.in-Ok-apply.ensures.users
    ∙ ap (λ (l : List (ℕ × Option UserValue)). changed_users l c.self.inside.session.users) e in
    subst (λ (s : Configured). c.apply.new.self.users ≡ merged_users (users_of (tree_in s) c.args.fragment.now.assigns.items) s.users) (sym v)
    (users_merged c.self.inside.settled.now c.self.inside.session c.self.inside.valued.items c.args.fragment.now.assigns.items c.apply.new.self.users
    c.self.invariant (subst (λ (s : Configured). FitsTree (tree_in s) c.args.fragment.now.assigns.items) v c.requires.fits) users)

pub returns-in-Ok-apply-clause-solved : goal.returns-in-Ok-apply-clause-solved
returns-in-Ok-apply-clause-solved c =
    solved_by c.self.inside.session c.apply.new.self c.self.invariant.solved c.in-Ok-apply.ensures.system c.in-Ok-apply.ensures.fits c.in-Ok-apply.ensures.gives

pub returns-in-Ok-apply-clause-evaluated : goal.returns-in-Ok-apply-clause-evaluated
returns-in-Ok-apply-clause-evaluated c =
    let v : c.args.self.now ≡ c.self.inside.session = sym c.self.view_is in
    subst (λ (s : Configured). IsCountOf (length (tree_in s).units) (IsTouched (dependencies (tree_in s)) s.users c.apply.new.self.users s.values
    c.apply.new.self.values) c.in-Ok-apply.report.evaluated) (sym v) c.in-Ok-apply.ensures.evaluated

pub invariant_of-self-in-Err-apply : goal.invariant_of-self-in-Err-apply
invariant_of-self-in-Err-apply c =
    let valued = c.truncate-in-Err-apply.ensures.items ∙ ap (λ n. take n c.merge_units.new.valued.items) (c.len-count.ensures ∙ c.self.inside.valued.ok.0)
    ∙ c.in-Ok.ensures.kept in
    rw (c.in-Err-apply.ensures.err, valued) c.self.invariant

pub invariant_of-self : goal.invariant_of-self
invariant_of-self c =
    let valued = c.truncate.ensures.items ∙ ap (λ n. take n c.merge_units.new.valued.items) (c.len-count.ensures ∙ c.self.inside.valued.ok.0)
    ∙ c.in-Err.ensures.kept in
    rw valued c.self.invariant

pub returns-clause-solved : goal.returns-clause-solved
returns-clause-solved c = rw c.in-Err-apply.ensures.err c.self.invariant.solved

pub returns-in-Ok-apply-clause-changed : goal.returns-in-Ok-apply-clause-changed
returns-in-Ok-apply-clause-changed c =
    subst (λ (s : Configured). IsListOf (length (tree_in s).units) (IsChanged s.values c.apply.new.self.values) c.in-Ok-apply.report.changed.items)
    c.self.view_is c.in-Ok-apply.ensures.changed

pub returns-clause-err : goal.returns-clause-err
returns-clause-err c = c.in-Err-apply.ensures.err ∙ c.self.view_is

pub returns-clause-settled : goal.returns-clause-settled
returns-clause-settled c = ap (λ (s : Configured). s.system) (c.in-Err-apply.ensures.err ∙ c.self.view_is)

pub returns-in-Ok-apply-clause-settled : goal.returns-in-Ok-apply-clause-settled
returns-in-Ok-apply-clause-settled c = c.in-Ok-apply.ensures.system ∙ ap (λ (s : Configured). s.system) c.self.view_is

pub returns-in-Err-clause-settled : goal.returns-in-Err-clause-settled
returns-in-Err-clause-settled c = ap (λ (s : Configured). s.system) c.self.view_is

pub returns-in-Err-clause-err : goal.returns-in-Err-clause-err
returns-in-Err-clause-err c = c.self.view_is

pub returns-in-Err-clause-changed : goal.returns-in-Err-clause-changed
returns-in-Err-clause-changed c = grind (arith, common_steps)

pub returns-in_err-changes-clause-solved : goal.returns-in_err-changes-clause-solved
returns-in_err-changes-clause-solved c = grind (arith, elements)

pub returns-in_err-push_merged-clause-solved : goal.returns-in_err-push_merged-clause-solved
returns-in_err-push_merged-clause-solved c = grind (arith, common_steps)

pub returns-in_err-push_merged-clause-settled : goal.returns-in_err-push_merged-clause-settled
returns-in_err-push_merged-clause-settled c = grind (arith, common_steps)

pub returns-clause-changed : goal.returns-clause-changed
returns-clause-changed c = grind (arith, common_steps)

pub returns-clause-evaluated : goal.returns-clause-evaluated
returns-clause-evaluated c = grind (arith, common_steps)

pub returns-in_err-changes-clause-settled : goal.returns-in_err-changes-clause-settled
returns-in_err-changes-clause-settled c = grind (arith, common_steps)

pub returns-clause-users : goal.returns-clause-users
returns-clause-users c = grind (arith, common_steps)

pub returns-in-Err-clause-users : goal.returns-in-Err-clause-users
returns-in-Err-clause-users c = grind (arith, common_steps)

pub returns-in-Err-clause-evaluated : goal.returns-in-Err-clause-evaluated
returns-in-Err-clause-evaluated c = grind (arith, common_steps)

pub returns-in-Err-clause-solved : goal.returns-in-Err-clause-solved
returns-in-Err-clause-solved c = grind (arith, common_steps)

pub returns-in-Ok-apply-clause-err : goal.returns-in-Ok-apply-clause-err
returns-in-Ok-apply-clause-err c = grind (arith, common_steps)
