use Rattle.kc_conditions.proofs.Common.{◌≡◌, ◌∙◌, List, None, [], length, arith, refl, sym, subst, common_steps, slice_get, is_linux_6_12, Grows, represents_on, grows_same, attribute_held, Group, open_blocks, conjunction_of, context, dependencies_of, AreAppended, RepresentsPrompt, or_yes, grows_on}
use Rattle.kc_tree_model.specs.Conditions.{prompts_of}
use Rattle.kc_conditions.proofs.Growth.{there_on, conjoins_there, joined_on}
use Rattle.kc_conditions.proofs.WalkSteps.{enclosing_shown, entry_is, ended, entered, end_side, other_side, prompt_there, prompt_represents, inside_on, around_on, what_on, on_ok}
use Rattle.kc_conditions.proofs.group_walk.GroupWalk.visit.Goals as goal

pub entry_conditions-requires-clause-dependencies : goal.entry_conditions-requires-clause-dependencies
entry_conditions-requires-clause-dependencies c =
    let w = c.args.self.now in
    let k = c.requires.walked in
    let a = enclosing_shown c.args.language k.0 w k.1 _ k.2 c.enclosing-enclosing.ensures in
    conjoins_there w.arena c.enclosing-enclosing.result.dependencies _ a.dependencies_are

pub entry_conditions-requires-clause-visibles : goal.entry_conditions-requires-clause-visibles
entry_conditions-requires-clause-visibles c =
    let w = c.args.self.now in
    let k = c.requires.walked in
    let a = enclosing_shown c.args.language k.0 w k.1 _ k.2 c.enclosing-enclosing.ensures in
    conjoins_there w.arena c.enclosing-enclosing.result.visibles _ a.visibles_are

pub entry_conditions-requires-clause-held : goal.entry_conditions-requires-clause-held
entry_conditions-requires-clause-held c = c.requires.lines

pub push_conditions-requires-clause-held : goal.push_conditions-requires-clause-held
push_conditions-requires-clause-held c =
    λ k d h. attribute_held c.args.self.now.arena c.entry_conditions.new.arena _ c.entry_conditions.ensures.grows (c.requires.lines k d h)

pub inside-requires-clause-enclosing : goal.inside-requires-clause-enclosing
inside-requires-clause-enclosing c =
    let w = c.args.self.now in
    let k = c.requires.walked in
    let a = enclosing_shown c.args.language k.0 w k.1 _ k.2 c.enclosing-enclosing.ensures in
    there_on w.arena c.push_conditions.new.arena (grows_on w.arena c.entry_conditions.new.arena c.push_conditions.new.arena c.entry_conditions.ensures.grows
    c.push_conditions.ensures.grows) c.enclosing-enclosing.result.dependencies
    (conjoins_there w.arena c.enclosing-enclosing.result.dependencies _ a.dependencies_are)

pub push_conditions-requires-clause-dependencies : goal.push_conditions-requires-clause-dependencies
push_conditions-requires-clause-dependencies c =
    let w = c.args.self.now in
    let k = c.requires.walked in
    let a = enclosing_shown c.args.language k.0 w k.1 _ k.2 c.enclosing-enclosing.ensures in
    let j = c.in_ok-entry.ensures.joined _ _ a.dependencies_are a.visibles_are in
    conjoins_there c.entry_conditions.new.arena c.in_ok-entry.entry.dependencies _ j.dependencies_are

pub push_conditions-requires-clause-shown : goal.push_conditions-requires-clause-shown
push_conditions-requires-clause-shown c =
    let w = c.args.self.now in
    let k = c.requires.walked in
    let a = enclosing_shown c.args.language k.0 w k.1 _ k.2 c.enclosing-enclosing.ensures in
    let j = c.in_ok-entry.ensures.joined _ _ a.dependencies_are a.visibles_are in
    conjoins_there c.entry_conditions.new.arena c.in_ok-entry.entry.shown _ j.shown_is

pub inside-requires-clause-prompt : goal.inside-requires-clause-prompt
inside-requires-clause-prompt c =
    let w = c.args.self.now in
    let k = c.requires.walked in
    let here = k.2 w.arena (grows_same w.arena) in
    let a = enclosing_shown c.args.language k.0 w k.1 _ k.2 c.enclosing-enclosing.ensures in
    let j = c.in_ok-entry.ensures.joined _ _ a.dependencies_are a.visibles_are in
    let b = c.in_ok-push_conditions.ensures.appended _ _ _ j (represents_on w.arena c.entry_conditions.new.arena w.yes (conjunction_of [])
    c.entry_conditions.ensures.grows here.yes_is) in
    let l : c.len-first.result ≡ length w.conditions.items = omega (arith, c.len-first.ensures) in
    prompt_there w.arena c.entry_conditions.new.arena c.push_conditions.new.arena w.conditions.items c.push_conditions.new.conditions.items _ _ c.args.lines.now
    b _ c.len-first.result l c.first_prompt_condition-prompt.ensures.value

pub returns-then-ends-clause-walked : goal.returns-then-ends-clause-walked
returns-then-ends-clause-walked c = λ names texts before m walked what attributes_are.
    let w = c.args.self.now in
    let new = c.end.new.self in
    let mid = c.entry_conditions.new.arena in
    let far = c.push_conditions.new.arena in
    let here = walked w.arena (grows_same w.arena) in
    let f = rw c.enclosing-enclosing.ensures at c.in_ok-entry.ensures.joined in
    let j = entry_is _ w new texts before m mid far c.in_ok-entry.entry c.args.lines.now walked c.requires.lines attributes_are c.entry_conditions.ensures.grows
    c.push_conditions.ensures.grows f in
    let b = c.in_ok-push_conditions.ensures.appended _ _ _ j
    (represents_on w.arena mid w.yes (conjunction_of []) c.entry_conditions.ensures.grows here.yes_is) in
    let b2 = subst (λ xs. AreAppended mid far w.conditions.items xs (dependencies_of (context (is_linux_6_12 c.args.language) (open_blocks 0 before)) m)
    (context (is_linux_6_12 c.args.language) (open_blocks 0 before)).visibles c.args.lines.now) (sym c.end.ensures.conditions) b in
    let g : Grows far new.arena = subst (λ e. Grows far e) (sym c.end.ensures.arena) (grows_same far) in
    let l : c.len-first.result ≡ length w.conditions.items = omega (arith, c.len-first.ensures) in
    on_ok c.end.result _ _
    (λ groups. ended _ w new texts before m mid far c.in_ok-entry.entry c.args.lines.now walked c.requires.lines attributes_are c.entry_conditions.ensures.grows
    c.push_conditions.ensures.grows
    b2 g c.end.ensures.yes c.end.ensures.no (record {
      dependency = or_yes w.yes c.enclosing-enclosing.result.dependencies;
      visible = or_yes w.yes
          c.enclosing-enclosing.result.visibles;
      ended = c.enclosing-enclosing.result.title;
      first = c.len-first.result;
    })
    (end_side w.arena names texts c.args.head.now m what (sym c.ends.ensures ∙ c.if-ends.true)) (rw (c.enclosing-enclosing.ensures, l) refl) groups
    c.end.ensures.stack)
    c.end.ensures.groups

pub returns-clause-walked : goal.returns-clause-walked
returns-clause-walked c = λ names texts before m walked what attributes_are.
    let w = c.args.self.now in
    let new = c.push_group.new.self in
    let mid = c.entry_conditions.new.arena in
    let far = c.push_conditions.new.arena in
    let last = c.inside.new.arena in
    let s : List Group = open_blocks 0 before in
    let here = walked w.arena (grows_same w.arena) in
    let f = rw c.enclosing-enclosing.ensures at c.in_ok-entry.ensures.joined in
    let j = entry_is _ w new texts before m mid far c.in_ok-entry.entry c.args.lines.now walked c.requires.lines attributes_are c.entry_conditions.ensures.grows
    c.push_conditions.ensures.grows f in
    let y = represents_on w.arena mid w.yes (conjunction_of []) c.entry_conditions.ensures.grows here.yes_is in
    let b = c.in_ok-push_conditions.ensures.appended _ _ _ j y in
    let same = c.push_group.ensures.conditions ∙ c.enter.ensures.conditions in
    let b2 = subst (λ xs. AreAppended mid far w.conditions.items xs (dependencies_of (context (is_linux_6_12 c.args.language) s) m) (context (is_linux_6_12 c.args.language) s).visibles c.args.lines.now) (sym same) b in
    let to_far = grows_on w.arena mid far c.entry_conditions.ensures.grows c.push_conditions.ensures.grows in
    let arena_is = c.push_group.ensures.arena ∙ c.enter.ensures.arena in
    let g : Grows far new.arena = subst (λ e. Grows far e) (sym arena_is) c.inside.ensures.grows in
    let l : c.len-first.result ≡ length w.conditions.items = omega (arith, c.len-first.ensures) in
    let p0 = prompt_represents w.arena mid far w.conditions.items c.push_conditions.new.conditions.items _ _ c.args.lines.now b
    c.first_prompt_condition-prompt.result c.len-first.result c.entry_conditions.ensures.grows c.requires.lines l
    c.first_prompt_condition-prompt.ensures.value in
    let p : RepresentsPrompt far c.first_prompt_condition-prompt.result (slice_get (prompts_of (context (is_linux_6_12 c.args.language) s) m) 0) = rw (← attributes_are) at p0 in
    let a = enclosing_shown c.args.language texts w before _ walked c.enclosing-enclosing.ensures in
    let shown = c.in_ok-opened.ensures.represents names texts w.yes m s (what_on w.arena far names texts c.args.head.now m.head to_far what)
    (around_on _ w.arena far texts w.yes c.enclosing-enclosing.result s to_far a)
    (joined_on mid far c.push_conditions.ensures.grows c.in_ok-entry.entry _ _ _ j) p
    (represents_on mid far w.yes (conjunction_of []) c.push_conditions.ensures.grows y) (represents_on w.arena far w.no _ to_far here.no_is) in
    on_ok c.push_group.result _ _
    (λ groups. entered _ w new texts before m mid far c.in_ok-entry.entry c.args.lines.now walked c.requires.lines attributes_are c.entry_conditions.ensures.grows
    c.push_conditions.ensures.grows
    b2 g (c.push_group.ensures.yes ∙ c.enter.ensures.yes) (c.push_group.ensures.no ∙ c.enter.ensures.no)
    (record {
      dependency = or_yes w.yes c.in_ok-entry.entry.dependencies;
      visible = or_yes w.yes c.in_ok-entry.entry.visibles;
      ended = None;
      first =
          c.len-first.result;
    })
    c.in_ok-opened.opened (other_side w.arena names texts c.args.head.now m what (sym c.ends.ensures ∙ c.if-ends.false)) j (rw l refl)
    (rw (c.enter.ensures.yes, c.enter.ensures.groups) at groups) (c.push_group.ensures.stack ∙ c.in_ok-enter.ensures.stack)
    (λ later h. inside_on _ last later texts w.yes m s c.in_ok-opened.opened (subst (λ e. Grows e later) arena_is h) shown))
    c.push_group.ensures.groups

pub returns-in_err-push_conditions-clause-grows : goal.returns-in_err-push_conditions-clause-grows
returns-in_err-push_conditions-clause-grows c =
    grows_on c.args.self.now.arena c.entry_conditions.new.arena c.push_conditions.new.arena c.entry_conditions.ensures.grows c.push_conditions.ensures.grows

pub returns-then-ends-clause-grows : goal.returns-then-ends-clause-grows
returns-then-ends-clause-grows c =
    subst (λ e. Grows c.args.self.now.arena e) (sym c.end.ensures.arena) (grows_on _ _ _ c.entry_conditions.ensures.grows c.push_conditions.ensures.grows)

pub returns-in_err-opened-clause-grows : goal.returns-in_err-opened-clause-grows
returns-in_err-opened-clause-grows c =
    grows_on _ _ _ (grows_on _ _ _ c.entry_conditions.ensures.grows c.push_conditions.ensures.grows) c.inside.ensures.grows

pub returns-in_err-enter-clause-grows : goal.returns-in_err-enter-clause-grows
returns-in_err-enter-clause-grows c =
    let g = grows_on _ _ _ (grows_on _ _ _ c.entry_conditions.ensures.grows c.push_conditions.ensures.grows) c.inside.ensures.grows in
    subst (λ e. Grows c.args.self.now.arena e) (sym c.enter.ensures.arena) g

pub returns-clause-grows : goal.returns-clause-grows
returns-clause-grows c =
    let g = grows_on _ _ _ (grows_on _ _ _ c.entry_conditions.ensures.grows c.push_conditions.ensures.grows) c.inside.ensures.grows in
    subst (λ e. Grows c.args.self.now.arena e) (sym (c.push_group.ensures.arena ∙ c.enter.ensures.arena)) g

pub returns-then-ends-clause-more : goal.returns-then-ends-clause-more
returns-then-ends-clause-more c = grind (arith, common_steps)

pub inside-requires-clause-held : goal.inside-requires-clause-held
inside-requires-clause-held c = grind (arith, common_steps)

pub first_prompt_condition-prompt-requires : goal.first_prompt_condition-prompt-requires
first_prompt_condition-prompt-requires c = grind (arith, common_steps)

pub returns-clause-more : goal.returns-clause-more
returns-clause-more c = grind (arith, common_steps)
