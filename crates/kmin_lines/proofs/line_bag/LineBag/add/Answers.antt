use Rattle.kmin_lines.proofs.Common.{◌≡◌, ◌+◌, cond, Some, ap, sym, ◌∙◌, arith, bytes_eq, hash_map_updates_str, get_by, times_among}
use Rattle.kmin_lines.proofs.BagLemmas.{added, times-le-length}
use Rattle.kmin_lines.proofs.line_bag.LineBag.add.Goals as goal

pub returns : goal.returns
returns c = λ lines has few.
    let line = c.args.line.now in
    let m = c.args.self.now.counts in
    let n = c.insert.new.self in
    let few_of : times_among lines line ≡ c.times-count.result = sym (c.times-count.ensures ∙ has.each line) in
    let one_more : c.saturating_add.result ≡ c.times-count.result + 1 = let b = times-le-length lines line in omega arith in
    record {
      each = added (λ any. get_by (λ k. bytes_eq any k.now) m) (λ any. get_by (λ k. bytes_eq any k.now) n) lines line c.times-count.result has.each
          c.times-count.ensures
          (λ any. hash_map_updates_str line m n _ c.in_ok-insert.ensures.updates any
          ∙ ap (λ v. cond (bytes_eq line any) (Some v) (get_by (λ k. bytes_eq any k.now) m)) one_more);
    }
