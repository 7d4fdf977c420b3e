use Rattle.kc_value.proofs.Common.{inl, inr, ◌++◌, false, ap, ◌∙◌, arith, elements, encode_utf8_all, chars, unescaped}
use Rattle.std.proofs.lemmas.Iterator.{YieldsList-from_chars}
use Rattle.std.proofs.lemmas.Iterator.Consumers.{YieldsList-turn, YieldsList-end}
use Rattle.std.proofs.lemmas.List.{length_push}
use Rattle.kc_value.proofs.EscapeSteps.{step_start, step_backslash, step_char, step_end}
use Rattle.kc_value.proofs.quoted_texts.unescape.Goals as goal
use Rattle.kc_value.proofs.quoted_texts.unescape.Goals.{else-c-eq92-via-then-c-eq92+else-not-escaped, else-c-eq92-via-else-c-eq92}

pub loop-c-init : goal.loop-c-init
loop-c-init c = ap (λ t. t ++ unescaped false (encode_utf8_all (chars c.args.text.now))) c.new-read.ensures.bytes ∙ step_start c.args.text.now c.utf8.text

pub loop-c-preserved-then-not-escaped : goal.loop-c-preserved-then-not-escaped
loop-c-preserved-then-not-escaped c =
    let t = YieldsList-turn (YieldsList-from_chars c.args.text.now c.utf8.text cc) c.loop-c.yielded _ c.loop-c.yielded_by _ _ c.in-Some.c c.in-Some.is
    c.next.ensures.steps in
    step_backslash _ _ _ c.loop-c.escaped _ _ c.in-Some.c c.loop-c.invariant t.0 t.1 (length_push c.loop-c.yielded c.in-Some.c) c.if-c-eq92.true
    c.if-not-escaped.true

pub loop-c-preserved : goal.loop-c-preserved
loop-c-preserved c =
    let t = YieldsList-turn (YieldsList-from_chars c.args.text.now c.utf8.text cc) c.loop-c.yielded _ c.loop-c.yielded_by _ _ c.in-Some.c c.in-Some.is
    c.next.ensures.steps in
    step_char _ _ _ c.loop-c.escaped _ _ c.in-Some.c c.loop-c.invariant t.0 t.1 (length_push c.loop-c.yielded c.in-Some.c) _ c.in_ok-push.ensures.bytes
    (elim c.else-c-eq92.branch [
      | else-c-eq92-via-then-c-eq92+else-not-escaped w ↦ inl w.if-not-escaped.false
      | else-c-eq92-via-else-c-eq92 w ↦ inr w.if-c-eq92.false
    ])

pub returns : goal.returns
returns c =
    let t = YieldsList-end (YieldsList-from_chars c.args.text.now c.utf8.text cc) c.loop-c.yielded _ c.loop-c.yielded_by _ _ c.in-None.is
    c.next.ensures.steps in
    step_end _ _ _ c.loop-c.escaped _ c.loop-c.invariant t.1

pub loop-c-preserved-then-not-escaped-derived : goal.loop-c-preserved-then-not-escaped-derived
loop-c-preserved-then-not-escaped-derived c = grind (arith, elements)

pub loop-c-preserved-derived : goal.loop-c-preserved-derived
loop-c-preserved-derived c = omega arith

pub loop-c-init-derived : goal.loop-c-init-derived
loop-c-init-derived c = grind (arith, elements)
