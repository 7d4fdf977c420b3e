use Rattle.std.proofs.lemmas.Iterator.{items_from_collect}
use Rattle.std.proofs.lemmas.Iterator.Consumers.{YieldsList-from_rest}
use Rattle.std.specs.Map.{keys_of}
use Rattle.kc_answers.proofs.TableLemmas.{questions_collected}
use Rattle.kc_answers.proofs.answers.Answers.into_questions.Goals as goal

pub returns : goal.returns
returns c =
    questions_collected c.collect.result c.self.inside.entries.entries c.args.self c.self.view_is
    (items_from_collect c.collect.result c.collect.ensures.ran (YieldsList-from_rest (keys_of c.self.inside.entries.entries) c.into_keys.ensures.rest))
