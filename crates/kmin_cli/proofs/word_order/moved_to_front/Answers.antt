use Rattle.std.proofs.Common.{List, ℕ}
use Rattle.std.specs.Borrow.{Bor}
use Rattle.kmin_cli.proofs.WordOrders.{moved}
use Rattle.kmin_cli.proofs.word_order.moved_to_front.Goals as goal

pub returns : goal.returns
returns c = record {
  value =
      moved (λ (word : Bor (List ℕ)). word.now) c.args.words.now c.in_ok-moved.moved.items c.extend_from_slice.new.self.items _ c.args.place c.requires.there
      c.in_ok-moved.ensures.items c.in_ok-extend_from_slice.ensures.items c.in_ok-extend_from_slice-2.ensures.items;
}
