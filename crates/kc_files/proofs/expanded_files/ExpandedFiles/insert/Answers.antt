use Rattle.kc_files.proofs.Common.{◌≡◌, ap, ◌∙◌, sym, subst, List, rules, ExpandedFile, key_of, with_file, IsPushed}
use Rattle.kc_files.proofs.KeyLemmas.{path_is_free, on_err}
use Rattle.kc_files.proofs.expanded_files.ExpandedFiles.insert.Goals as goal

pub returns-then-branch-clause-key : goal.returns-then-branch-clause-key
returns-then-branch-clause-key c =
    let old = c.args.self.now in
    let path = c.args.path.now in
    let root = c.args.root.now in
    let pushed = subst (λ b. IsPushed root path c.in_ok-clone.field-0.value.items old b c.push_below_root.new.self) c.if-branch.true
    c.in_ok-push_below_root.ensures.ok in
    c.in_ok-key.ensures.items ∙ sym (path_is_free root old path c.args.text.value.items pushed.0 pushed.1)

pub returns-then-branch-clause-ok : goal.returns-then-branch-clause-ok
returns-then-branch-clause-ok c =
    let old = c.args.self.now in
    let path = c.args.path.now in
    let root = c.args.root.now in
    let text = c.args.text.value.items in
    let pushed = subst (λ b. IsPushed root path c.in_ok-clone.field-0.value.items old b c.push_below_root.new.self) c.if-branch.true
    c.in_ok-push_below_root.ensures.ok in
    let key : key_of root old path text ≡ path = path_is_free root old path text pushed.0 pushed.1 in
    let same : c.in_ok-clone.field-0.value.items ≡ text = search rules in
    pushed.2 ∙ ap (λ t. with_file path path t old) same ∙ ap (λ k. with_file k path text old) (sym key)

pub returns-in_err-key-2-clause-err : goal.returns-in_err-key-2-clause-err
returns-in_err-key-2-clause-err c =
    on_err c.from_residual-in_err-key-2.result (subst
    (λ b. IsPushed c.args.root.now c.args.path.now c.in_ok-clone.field-0.value.items c.args.self.now b c.push_below_root.new.self) c.if-branch.false
    c.in_ok-push_below_root.ensures.ok)

pub returns-then-has_key-clause-key : goal.returns-then-has_key-clause-key
returns-then-has_key-clause-key c =
    let old = c.args.self.now in
    let path = c.args.path.now in
    let root = c.args.root.now in
    let same : c.push_below_root.new.self ≡ old =
    subst (λ b. IsPushed root path c.in_ok-clone.field-0.value.items old b c.push_below_root.new.self) c.if-branch.false c.in_ok-push_below_root.ensures.ok in
    subst (λ (fs : List ExpandedFile). c.in_ok-key-2.key.items ≡ key_of root fs path c.args.text.value.items) same (search rules)

pub returns-then-has_key-clause-ok : goal.returns-then-has_key-clause-ok
returns-then-has_key-clause-ok c =
    let old = c.args.self.now in
    let path = c.args.path.now in
    let root = c.args.root.now in
    let text = c.args.text.value.items in
    let same : c.push_below_root.new.self ≡ old =
    subst (λ b. IsPushed root path c.in_ok-clone.field-0.value.items old b c.push_below_root.new.self) c.if-branch.false c.in_ok-push_below_root.ensures.ok in
    subst (λ (fs : List ExpandedFile). c.push_below_root.new.self ≡ with_file (key_of root fs path text) path text fs) same (search rules)

pub returns-clause-key : goal.returns-clause-key
returns-clause-key c =
    let old = c.args.self.now in
    let path = c.args.path.now in
    let root = c.args.root.now in
    let same : c.push_below_root.new.self ≡ old =
    subst (λ b. IsPushed root path c.in_ok-clone.field-0.value.items old b c.push_below_root.new.self) c.if-branch.false c.in_ok-push_below_root.ensures.ok in
    subst (λ (fs : List ExpandedFile). c.in_ok-key-2.key.items ≡ key_of root fs path c.args.text.value.items) same (search rules)

pub returns-clause-ok : goal.returns-clause-ok
returns-clause-ok c =
    let old = c.args.self.now in
    let path = c.args.path.now in
    let root = c.args.root.now in
    let text = c.args.text.value.items in
    let same : c.push_below_root.new.self ≡ old =
    subst (λ b. IsPushed root path c.in_ok-clone.field-0.value.items old b c.push_below_root.new.self) c.if-branch.false c.in_ok-push_below_root.ensures.ok in
    subst (λ (fs : List ExpandedFile). c.push.new.self ≡ with_file (key_of root fs path text) path text fs) same (search rules)

pub returns-in_err-push-clause-err : goal.returns-in_err-push-clause-err
returns-in_err-push-clause-err c =
    let same : c.push_below_root.new.self ≡ c.args.self.now =
    subst (λ b. IsPushed c.args.root.now c.args.path.now c.in_ok-clone.field-0.value.items c.args.self.now b c.push_below_root.new.self) c.if-branch.false
    c.in_ok-push_below_root.ensures.ok in
    on_err c.from_residual-in_err-push.result (c.in_err-push.ensures.err ∙ same)
