use Rattle.kmin_lines.proofs.Common.{◌++◌, List, ℕ, ap, sym, ◌∙◌, arith, texts_of}
use Rattle.kmin_lines.specs.WordFiles.{first_list, further_lists}
use Rattle.kmin_lines.proofs.Words.{lists_from, words_appended}
use Rattle.kmin_lines.proofs.word_files.push_list.Goals as goal

pub returns-clause-words : goal.returns-clause-words
returns-clause-words c =
    let from = lists_from c.args.lists.now c.args.used c.index-lists-used.result (omega arith) c.index-lists-used.is in
    words_appended _ _ _ _ c.in_ok-extend_from_slice.ensures.items c.deref.ensures.value
    ∙ ap (λ (lists : List (List (List ℕ))). texts_of c.args.all.now.items ++ first_list lists) (sym from)

pub returns-clause-used : goal.returns-clause-used
returns-clause-used c =
    let from = lists_from c.args.lists.now c.args.used c.index-lists-used.result (omega arith) c.index-lists-used.is in
    ap further_lists (sym from)
