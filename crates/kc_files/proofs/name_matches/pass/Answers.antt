use Rattle.kc_files.proofs.Common.{arith, nat_tests}
use Rattle.kc_files.proofs.MatchLemmas.{after_any_bytes, after_byte}
use Rattle.kc_files.proofs.name_matches.pass.Goals as goal

pub returns-then-byte-eq42 : goal.returns-then-byte-eq42
returns-then-byte-eq42 c = record {
  matches = λ piece h. rw c.if-byte-eq42.true (after_any_bytes piece c.args.name.now c.args.ends.now c.pass_any_bytes.new.ends h c.pass_any_bytes.auto.ends
      c.pass_any_bytes.ensures);
}

pub returns-else-byte-eq42 : goal.returns-else-byte-eq42
returns-else-byte-eq42 c = record {
  matches = λ piece h. after_byte c.args.byte piece c.args.name.now c.args.ends.now c.pass_byte.new.ends
      (grind (arith, nat_tests)) h c.pass_byte.auto.ends c.pass_byte.ensures.bytes c.pass_byte.ensures.end;
}
