use Rattle.std.proofs.Common.{sym, ◌∙◌}
use Rattle.kmin_cli.specs.Parses.{once, twice}
use Rattle.kmin_cli.proofs.input_words.read_words_beside.Goals as goal

pub returns-then-is_named_twice : goal.returns-then-is_named_twice
returns-then-is_named_twice c =
    twice c.in_ok-parsed.parsed c.in_ok-parsed.ensures (sym c.is_named_twice.ensures ∙ c.if-is_named_twice.true) c.in_ok-from_str.ensures.ok

pub returns : goal.returns
returns c = once c.in_ok-parsed.ensures (sym c.is_named_twice.ensures ∙ c.if-is_named_twice.false)
