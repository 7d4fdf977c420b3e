use Rattle.kc_symbol_lines.proofs.Common.{◌≡◌, ◌++◌, drop, lists_of, each_items, prompts_in}
use Rattle.kc_symbol_lines.proofs.own_lines.push_prompts.Given as goal

abbrev pub invariant-loop-line : goal.invariant-loop-line
invariant-loop-line l =
    each_items l.found.items ++ prompts_in (lists_of l.enclosing) l.own.file l.own.lines.now (drop l.line-index l.own.lines.now)
    ≡ each_items l.fn.found.items ++ prompts_in (lists_of l.enclosing) l.own.file l.own.lines.now l.own.lines.now
