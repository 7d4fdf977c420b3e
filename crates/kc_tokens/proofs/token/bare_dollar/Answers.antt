use Rattle.kc_tokens.proofs.Common.{◌+◌, get_or, drop, sym, ◌∙◌, drop_more}
use Rattle.std.proofs.lemmas.Bool.{ne_eqb}
use Rattle.kc_tokens.proofs.Dollars.{bare_escaped, bare_other}
use Rattle.kc_tokens.proofs.token.bare_dollar.Goals as goal
use Rattle.kc_tokens.proofs.token.bare_dollar.Goals.{then-escaped, else-escaped+else-byte-eq36}

pub loop-i-preserved : goal.loop-i-preserved
loop-i-preserved c =
    let d = drop_more c.args.text.now c.loop-i.i 0 c.loop-i-test.true in
    let inv = rw d at c.loop-i.invariant in
    elim c.if-escaped.branch [
      | then-escaped w ↦ rw w.escaped-is (sym (bare_escaped c.loop-i.i (get_or c.args.text.now c.loop-i.i 0) (drop (c.loop-i.i + 1) c.args.text.now))
          ∙ (rw w.if-escaped.true at inv))
      | else-escaped+else-byte-eq36 w ↦
          rw w.escaped-is (sym (bare_other c.loop-i.i (get_or c.args.text.now c.loop-i.i 0) (drop (c.loop-i.i + 1) c.args.text.now)
          (ne_eqb _ _ w.if-byte-eq36.false)) ∙ (rw w.if-escaped.false at inv))
    ]
