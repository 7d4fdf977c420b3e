-- Short forms with which rows write trees and look at what is read from them.
use Rattle.kc_tree_model.proofs.Common.{ℕ, List, [], ◌∷◌, codes, Strict, Expr, alone, named, strict_files, Files, Tree, Symbol}
use Rattle.kc_tree_model.specs.TreeReading.{reading}
use Rattle.kc_tree_model.specs.Contents.{tree_of_groups}

abbrev pub one_file : List ℕ → Files
one_file text = strict_files ((codes "Kconfig", text) ∷ [])

-- the tree of one file with these bytes
abbrev pub whole : List ℕ → Tree
whole text = tree_of_groups Strict (reading (one_file text) (codes "Kconfig")).read

-- the conditions of a symbol's prompts, and the dependencies of its definitions
abbrev pub prompts_and_dependencies : Symbol → List Expr × List Expr
prompts_and_dependencies s = (s.prompts, s.direct)

abbrev pub word : List ℕ → Expr
word x = alone (named x)
