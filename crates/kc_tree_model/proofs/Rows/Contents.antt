-- Rows on what a tree holds.
use Rattle.kc_tree_model.proofs.Common.{false, ◌≡◌, List, [], ◌∷◌, Some, refl, map, codes, both, Symbol, ReverseDependency, menu_begins, menu_ends}
use Rattle.std.specs.Str.{is_utf8, chars}
use Rattle.kc_expr.specs.Lookup.{index_of_name}
use Rattle.kc_tokens.specs.Token.{next_token}
use Rattle.kc_expr.specs.Grammar.{read_expr}
use Rattle.kc_expr.specs.Expr.{shown}
use Rattle.kc_tree_model.specs.declared.ids.Unit.TheVariants.{Symbol as of_symbol, Choice as of_choice}
use Rattle.kc_tree_model.specs.LogicalLines.{lines_of}
use Rattle.kc_tree_model.specs.Limits.{source_fault}
use Rattle.kc_tree_model.specs.TreeReading.{statement_on_line, reading}
use Rattle.kc_tree_model.specs.Contents.{tree_of_groups, index_of_number}
use Rattle.kc_tree_model.proofs.Rows.Trees.{whole, prompts_and_dependencies, word}

abbrev selectors_and_impliers : Symbol → List ReverseDependency × List ReverseDependency
selectors_and_impliers s = (s.selectors, s.impliers)

choice_has_outer_conditions : map prompts_and_dependencies
    (whole (codes "if X\nchoice\n\tprompt \"p\" if P\n\tdepends on D\nconfig A\n\tbool \"a\" if Q\nendchoice\nendif\n")).symbols
    ≡ (
      both (shown (both (both (word (codes "X")) (word (codes "D"))) (word (codes "P")))) (word (codes "Q")) ∷ [],
      shown (both (both (word (codes "X")) (word (codes "D"))) (word (codes "P"))) ∷ [],
    ) ∷ []
unfolding next_token is_utf8 chars read_expr lines_of source_fault statement_on_line reading lib.Utf8.encode tree_of_groups index_of_name index_of_number
choice_has_outer_conditions = refl

selector_with_its_condition : map selectors_and_impliers
    (whole (codes "config S\n\tbool \"s\"\n\tselect T if C\n\timply T\n\tdepends on D\nconfig T\n\ttristate\n\tdepends on NO\n")).symbols
    ≡ ([], [])
    ∷ (record { by = 0; condition = both (word (codes "D")) (word (codes "C")) } ∷ [], record { by = 0; condition = word (codes "D") } ∷ []) ∷ []
unfolding next_token is_utf8 chars read_expr lines_of source_fault statement_on_line reading lib.Utf8.encode tree_of_groups index_of_name index_of_number
selector_with_its_condition = refl

menu_with_its_conditions : (whole (codes "menu \"m\"\n\tdepends on D\n\tvisible if V\nmenu \"n\"\n\tvisible if W\nendmenu\nendmenu\n")).entries
    ≡ menu_begins (codes "m") (word (codes "D")) (word (codes "V")) ∷ menu_begins (codes "n") (word (codes "D")) (both (word (codes "V")) (word (codes "W")))
    ∷ menu_ends (codes "n") (word (codes "D")) (both (word (codes "V")) (word (codes "W"))) ∷ menu_ends (codes "m") (word (codes "D")) (word (codes "V")) ∷ []
unfolding next_token is_utf8 chars read_expr lines_of source_fault statement_on_line reading lib.Utf8.encode tree_of_groups
menu_with_its_conditions = refl

choice_with_its_members : (whole
    (codes "choice\n\tbool \"pick\" if P\n\tdepends on D\n\tdefault B if C\nconfig A\nconfig B\nconfig C\n\tdepends on X\nendchoice\n")).choices
    ≡ record {
      file = 0;
      line = 1;
      members = 0 ∷ 1 ∷ 2 ∷ [];
      prompt = Some (both (word (codes "D")) (word (codes "P")));
      defaults = record { member = 1; condition = both (word (codes "D")) (word (codes "C")) } ∷ [];
      optional = false;
    } ∷ []
unfolding next_token is_utf8 chars read_expr lines_of source_fault statement_on_line reading lib.Utf8.encode tree_of_groups index_of_name index_of_number
choice_with_its_members = refl

units_in_order_of_their_first_place : (whole
    (codes "config Z\n\tbool\nchoice\n\tprompt \"p\"\nconfig A\nconfig B\nendchoice\nconfig Y\n\tbool\nconfig Z\n\tprompt \"z\"\nchoice\nendchoice\n")).units
    ≡ of_symbol 0 ∷ of_choice 0 ∷ of_symbol 3 ∷ of_choice 1 ∷ []
unfolding next_token is_utf8 chars read_expr lines_of source_fault statement_on_line reading lib.Utf8.encode tree_of_groups index_of_name index_of_number
units_in_order_of_their_first_place = refl
