use Rattle.std.proofs.Common.{subst}
use Rattle.kmin_lines.proofs.Common.{◌≡◌, ◌<◌, sym, arith, bytes_eq, hash_map_updates_str, get_by, HasLines, times_among}
use Rattle.kmin_lines.proofs.BagLemmas.{absent, taken}
use Rattle.kmin_lines.proofs.Counted.{some_there, none_there}
use Rattle.kmin_lines.proofs.line_bag.LineBag.take.Goals as goal

pub returns : goal.returns
returns c = λ lines has.
    let line = c.args.line.now in
    let m = c.args.self.now.counts in
    let n = c.insert.new.self in
    let there : 0 < times_among lines line = let e = c.times-count.ensures in let k = has.each line in omega arith in (
      some_there _ there,
      record {
        each = taken (λ any. get_by (λ k. bytes_eq any k.now) m) (λ any. get_by (λ k. bytes_eq any k.now) n) lines line c.times-count.result has.each
            (omega arith) c.times-count.ensures
            (λ any. hash_map_updates_str line m n _ c.in_ok-insert.ensures.updates any);
      },
    )

pub returns-then-count-eq0 : goal.returns-then-count-eq0
returns-then-count-eq0 c = λ lines has.
    let line = c.args.line.now in
    let gone : times_among lines line ≡ 0 = let e = c.times-count.ensures in let k = has.each line in omega arith in
    (none_there _ gone, subst (HasLines c.args.self.now) (sym (absent line lines gone)) has)
