-- The keywords whose words have a given length.
use Rattle.std.specs.Prelude.{ℕ, List, ◌==◌, length, filter}
use Rattle.kc_tree_model.specs.Keywords.{keywords}
use Rattle.kc_tree_model.specs.declared.keyword.Keyword.{Keyword}

-- the entries of the table of keywords whose words have n bytes
abbrev pub of_length : ℕ → List (List ℕ × Keyword)
of_length n = filter (λ e. length e.0 == n) keywords
