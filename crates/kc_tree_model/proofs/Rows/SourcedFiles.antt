-- A row on the files that a tree wants.
use Rattle.kc_tree_model.proofs.Common.{◌≡◌, ℕ, List, [], ◌∷◌, Result, Ok, refl, codes, TreeFault, strict_files, Files}
use Rattle.std.specs.Str.{is_utf8, chars}
use Rattle.kc_tokens.specs.Token.{next_token}
use Rattle.kc_expr.specs.Grammar.{read_expr}
use Rattle.kc_tree_model.specs.LogicalLines.{lines_of}
use Rattle.kc_tree_model.specs.Limits.{source_fault}
use Rattle.kc_tree_model.specs.TreeReading.{statement_on_line, lenient_reading, wanted_by, files_wanted}

-- the paths that a tree of these files wants besides, or its first fault where it wants none
abbrev wanted : Files → Result (List (List ℕ)) TreeFault
wanted files = files_wanted files (codes "Kconfig")

wanted_before_the_first_fault : wanted (strict_files ((codes "Kconfig", codes "source \"x\"\nsource y/z\nsource \"x\"\nfoo\nsource w\n") ∷ []))
    ≡ Ok (codes "x" ∷ codes "y/z" ∷ [])
unfolding next_token is_utf8 chars read_expr lines_of source_fault statement_on_line lenient_reading wanted_by files_wanted lib.Utf8.encode
wanted_before_the_first_fault = refl
