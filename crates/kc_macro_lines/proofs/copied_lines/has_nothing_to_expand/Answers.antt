use Rattle.std.proofs.Common.{length, rules}
use Rattle.kc_macro_lines.proofs.FrontLemmas.{none_of}
use Rattle.kc_macro_lines.proofs.NothingToExpandLemmas.{nothing_in_empty, nothing_in_comment, nothing_by_word}
use Rattle.kc_macro_lines.proofs.copied_lines.has_nothing_to_expand.Goals as goal

pub returns-then-is_empty : goal.returns-then-is_empty
returns-then-is_empty c = record {
  nothing = λ e. nothing_in_empty c.args.text.now c.without_white_front-rest.result.now c.without_white_front-rest.ensures
      (none_of (length c.without_white_front-rest.result.now) c.is_empty.result c.is_empty.ensures c.if-is_empty.true);
}

pub returns-then-rest-eq35 : goal.returns-then-rest-eq35
returns-then-rest-eq35 c = record {
  nothing = λ e. nothing_in_comment c.args.text.now c.without_white_front-rest.result.now c.without_white_front-rest.ensures (search rules);
}

pub returns : goal.returns
returns c = record {
  nothing = λ e. nothing_by_word c.args.text.now c.without_white_front-rest.result.now c.word_length-length.result c.split_at.result.0.now c.split_at.result.1.now
      c.without_white_front-rest.ensures c.requires.no_dollar c.word_length-length.ensures (search rules) (search rules) (search rules) (search rules)
      (c.begins_nothing_to_expand.ensures e);
}
