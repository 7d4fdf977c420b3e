use Rattle.kc_value.proofs.Common.{◌≡◌, ℕ, ◌||◌, true, ◌∷◌, get_or, length, take, ap, ◌∙◌, arith, common_steps, ◌==◌, flat_map, take-length, escaped_byte}
use Rattle.kc_value.proofs.EscapedBytes.{still_there, still_there_before, quote_escaped, backslash_escaped, none_escaped, spelled_pair, spelled_plain, all_spelled}
use Rattle.kc_value.proofs.quoted_texts.push_quoted.Goals as goal
use Rattle.kc_value.proofs.quoted_texts.push_quoted.Goals.{then-byte-eq34+in_ok-push-2, then-byte-eq34-via-then-byte-eq34, then-byte-eq34-via-else-byte-eq34+then-byte-eq92, else-byte-eq34+else-byte-eq92}

pub returns-in_err-push-clause-kept : goal.returns-in_err-push-clause-kept
returns-in_err-push-clause-kept c = ap (λ t. take (length c.args.out.now.items) t) c.in_err-push.ensures.items ∙ take-length c.args.out.now.items

pub loop-byte-init : goal.loop-byte-init
loop-byte-init c = c.in_ok-push.ensures.items

pub returns-in_err-push-2-clause-kept : goal.returns-in_err-push-2-clause-kept
returns-in_err-push-2-clause-kept c = still_there c.args.out.now.items
    (34 ∷ flat_map escaped_byte (take c.loop-byte.byte-index c.as_bytes-byte-items.result.now)) c.push-then-byte-eq34.new.self.items
    (c.in_err-push-2.ensures.items ∙ c.loop-byte.invariant)

pub returns-in_err-push-3-clause-kept : goal.returns-in_err-push-3-clause-kept
returns-in_err-push-3-clause-kept c =
    elim c.if-byte-eq34.branch [
      | then-byte-eq34+in_ok-push-2 w ↦ still_there_before c.args.out.now.items
          (34 ∷ flat_map escaped_byte (take c.loop-byte.byte-index c.as_bytes-byte-items.result.now)) c.loop-byte.out.items c.push-in-loop-byte.new.self.items
          92 c.loop-byte.invariant ((rw w.out-is at c.in_err-push-3.ensures.items) ∙ w.in_ok-push-2.ensures.items)
      | else-byte-eq34+else-byte-eq92 w ↦ still_there c.args.out.now.items
          (34 ∷ flat_map escaped_byte (take c.loop-byte.byte-index c.as_bytes-byte-items.result.now)) c.push-in-loop-byte.new.self.items
          ((rw w.out-is at c.in_err-push-3.ensures.items) ∙ c.loop-byte.invariant)
    ]

pub loop-byte-preserved : goal.loop-byte-preserved
loop-byte-preserved c =
    let byte : ℕ = get_or c.as_bytes-byte-items.result.now c.loop-byte.byte-index 0 in
    elim c.if-byte-eq34.branch [
      | then-byte-eq34+in_ok-push-2 w ↦
          let escaped : (byte == 34 || (byte == 92)) ≡ true = elim w.then-byte-eq34.branch [
            | then-byte-eq34-via-then-byte-eq34 w' ↦
                quote_escaped byte w'.if-byte-eq34.true
            | then-byte-eq34-via-else-byte-eq34+then-byte-eq92 w' ↦ backslash_escaped byte w'.if-byte-eq92.true
          ] in
          spelled_pair c.args.out.now.items c.as_bytes-byte-items.result.now c.loop-byte.out.items w.push-then-byte-eq34.new.self.items
          c.push-in-loop-byte.new.self.items c.loop-byte.byte-index c.loop-byte-test.true escaped c.loop-byte.invariant w.in_ok-push-2.ensures.items
          (rw w.out-is at c.in_ok-push-3.ensures.items)
      | else-byte-eq34+else-byte-eq92 w ↦ spelled_plain c.args.out.now.items c.as_bytes-byte-items.result.now c.loop-byte.out.items
          c.push-in-loop-byte.new.self.items c.loop-byte.byte-index c.loop-byte-test.true (none_escaped byte w.if-byte-eq34.false w.if-byte-eq92.false)
          c.loop-byte.invariant (rw w.out-is at c.in_ok-push-3.ensures.items)
    ]

pub returns-in_err-push-4-clause-kept : goal.returns-in_err-push-4-clause-kept
returns-in_err-push-4-clause-kept c = still_there c.args.out.now.items
    (34 ∷ flat_map escaped_byte (take c.loop-byte.byte-index c.as_bytes-byte-items.result.now)) c.push-2.new.self.items
    (c.in_err-push-4.ensures.items ∙ c.loop-byte.invariant)

pub returns-clause-ok : goal.returns-clause-ok
returns-clause-ok c = all_spelled c.args.out.now.items c.as_bytes-byte-items.result.now c.args.text.now c.loop-byte.out.items c.push-2.new.self.items
    c.loop-byte.byte-index (omega arith) c.as_bytes-byte-items.ensures.value c.loop-byte.invariant c.in_ok-push-4.ensures.items

pub returns-clause-kept : goal.returns-clause-kept
returns-clause-kept c = still_there_before c.args.out.now.items (34 ∷ flat_map escaped_byte (take c.loop-byte.byte-index c.as_bytes-byte-items.result.now))
    c.loop-byte.out.items c.push-2.new.self.items 34 c.loop-byte.invariant c.in_ok-push-4.ensures.items

pub returns-in_err-push-clause-ok : goal.returns-in_err-push-clause-ok
returns-in_err-push-clause-ok c = grind (arith, common_steps)
