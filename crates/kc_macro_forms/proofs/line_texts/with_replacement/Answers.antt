use Rattle.kc_macro_forms.proofs.SignificantTokenLemmas.{replaced_so}
use Rattle.kc_macro_forms.proofs.line_texts.with_replacement.Goals as goal

pub returns : goal.returns
returns c =
    replaced_so c.args.tokens.now c.trivia_count.result c.trivia_count.ensures.value c.new-line.result.items c.push_tokens.new.out.items c.args.text.now
    c.extend_from_slice.new.self.items c.new-line.ensures.items c.in_ok-push_tokens.ensures c.in_ok-extend_from_slice.ensures.items
