use Rattle.kc_parser.proofs.Common.{sym, ap, ◌∙◌, inr, refl, count_by, nat_le, of_head, condition, node_expr, is_block}
use Rattle.kc_parser.specs.checker.StateViews.{Describes}
use Rattle.kc_parser.proofs.OpenBlockSteps.{blocks_are}
use Rattle.kc_parser.proofs.HeadSteps.{head_pushed, if_deep, if_fits}
use Rattle.kc_parser.proofs.state.ReaderState.push_if_block.Goals as goal

pub returns-then-is_at_block_limit : goal.returns-then-is_at_block_limit
unfolding Describes
returns-then-is_at_block_limit c =
    record {
      appends = λ r before d. inr (
        if_deep before (node_expr c.args.self.now.listing.names.arena c.args.id)
            (sym (ap (nat_le 64) (blocks_are r _ _ _ _ _ before d.counted)) ∙ ap (λ xs. nat_le 64 (count_by is_block xs)) (sym c.deref.ensures.value)
            ∙ sym c.is_at_block_limit.ensures ∙ c.if-is_at_block_limit.true),
        d.shows,
      );
    }

pub returns : goal.returns
unfolding Describes
returns c = record {
  appends = λ r before d.
      head_pushed r c.args.at.file c.args.at.line before (condition (node_expr c.args.self.now.listing.names.arena c.args.id)) _ c.push_block.result
      (if_fits before (node_expr c.args.self.now.listing.names.arena c.args.id)
      (sym (ap (nat_le 64) (blocks_are r _ _ _ _ _ before d.counted)) ∙ ap (λ xs. nat_le 64 (count_by is_block xs)) (sym c.deref.ensures.value)
      ∙ sym c.is_at_block_limit.ensures ∙ c.if-is_at_block_limit.false))
      (c.push_block.ensures.appends r before (of_head (condition (node_expr c.args.self.now.listing.names.arena c.args.id))) d (c.requires.there, refl) refl
      refl)
      c.push_block.ensures.memory;
}
