use Rattle.std.proofs.lemmas.Result.{IfOk-weaker}
use Rattle.kc_tokens.proofs.quoted_texts.quoted_text.Goals as goal

pub returns : goal.returns
returns c = IfOk-weaker c.unescape.result _ _ (λ t e. cc) c.unescape.ensures
