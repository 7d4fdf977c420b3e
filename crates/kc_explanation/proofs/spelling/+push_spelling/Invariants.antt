use Rattle.std.proofs.Common.{◌≡◌, ◌+◌, ◌≤◌, ◌++◌}
use Rattle.kc_expr.specs.between.Arena.{node_expr}
use Rattle.kc_explanation.specs.between.SpelledTokens.{lexemes_of, IsTokenOf}
use Rattle.std.specs.List.{All}
use Rattle.kc_explanation.specs.checker.SpellingWalk.{spelling_in_reverse, inside}
use Rattle.kc_explanation.proofs.spelling.+push_spelling.Given as goal

abbrev pub decreases-push_spelling : goal.decreases-push_spelling
decreases-push_spelling l = l.id + (l.id + inside l.place)

abbrev pub invariant-down : goal.invariant-down
invariant-down l = record {
  order : l.at ≤ l.fn.id;
  below : l.at + (l.at + inside l.here) ≤ l.fn.id + (l.fn.id + inside l.fn.place);
  tokens : lexemes_of l.arena l.found.items ++ spelling_in_reverse l.here (node_expr l.arena l.at)
      ≡ lexemes_of l.arena l.fn.found.items ++ spelling_in_reverse l.fn.place (node_expr l.arena l.fn.id);
  held : All (IsTokenOf l.arena) l.fn.found.items → All (IsTokenOf l.arena) l.found.items;
}

abbrev pub decreases-down : goal.decreases-down
decreases-down l = l.at
