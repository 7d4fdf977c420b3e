-- Worked rows, computed.
use Rattle.kc_macros_model.proofs.Common.{◌≡◌, ℕ, List, [], ◌∷◌, Some, None, Result, Ok, Err, refl, true, false, map, drop, length, codes, filter, ◌==◌, not, bytes_eq, keyword_in_table, without_repeats, MacroKind, TooMany, Fault, ExpandedFile, place, World, Ending, returned, failed, stopped}
use Rattle.kc_macros_model.proofs.Common.{outcome}
use Rattle.std.specs.Prelude.{take_while}
use Rattle.std.specs.Fmt.{digits}
use Rattle.std.specs.Str.{is_utf8, chars}
use Rattle.std.specs.List.{starts_with}
use Rattle.kc_tokens.specs.Token.{next_token}
use Rattle.std.specs.Map.{lookup}
use Rattle.kc_macros_model.specs.declared.fault.AnswersKind.TheVariants.{Read}
use Rattle.kc_macros_model.specs.Expansion.{text_value}
use Rattle.kc_macros_model.specs.TreeExpansion.{tree_read}
use Rattle.kc_macros_model.specs.Worlds.{expansion}
use Rattle.kc_macros_model.specs.AnswerFiles.{RecordedAnswers, cut_by, answers_read}

-- the names in a folder, by the paths of files
abbrev names_in : List (List ℕ × List ℕ) → List ℕ → List (List ℕ)
names_in files folder = without_repeats (map (λ (f : List ℕ × List ℕ). take_while (λ c. not (c == 47)) (drop (length folder) f.0))
    (filter (λ (f : List ℕ × List ℕ). starts_with (λ a b. a == b) f.0 folder) files))

-- a world of these files and answers
abbrev world : List (List ℕ × List ℕ) → RecordedAnswers → World
world files answers = record { answer = keyword_in_table answers; bytes = λ path. lookup (bytes_eq path) files; unreadable = λ path. false; names = λ folder. Some (names_in files folder) }

-- a tree of one file
abbrev one_file : List ℕ → RecordedAnswers → World
one_file bytes answers = world ((codes "Kconfig", bytes) ∷ []) answers

-- the expanded files, by key
abbrev texts_by_key : Ending (List ExpandedFile) → Result (List (List ℕ × List ℕ)) Fault
texts_by_key (returned files) = Ok (map (λ (f : ExpandedFile). (f.key, f.text)) files)
texts_by_key (failed f) = Err f
texts_by_key stopped = Ok []

abbrev expanded_texts : World → Result (List (List ℕ × List ℕ)) Fault
expanded_texts w = texts_by_key (expansion w (codes "Kconfig")).ending

-- the result of an expansion to a tree of one file
abbrev one_text : List ℕ → Result (List (List ℕ × List ℕ)) Fault
one_text bytes = Ok ((codes "Kconfig", bytes) ∷ [])

abbrev fault_of : ℕ → MacroKind → List ℕ → Fault
fault_of line kind text = record { at = place (codes "Kconfig") line; kind = kind; text = text }

-- a recursive variable is expanded where it is used, a simple one where it is assigned
recursive_and_simple : expanded_texts (one_file (codes "R = $(X)\nS := $(X)\nX = 2\nif $(R)\n") ((codes "X", Some (codes "1")) ∷ []))
    ≡ one_text (codes "\n\n\nif 2\n")
unfolding tree_read text_value expansion next_token is_utf8 chars digits lib.Utf8.encode
recursive_and_simple = refl

-- the value of a token is one token, and no keyword; an empty one leaves a space
one_token : expanded_texts (one_file (codes "K := if\nT := a b\nE :=\nif $(K) $(T)$(T) $(E) A$(E)\n") []) ≡ one_text (codes "\n\n\nif \"if\" \"a ba b\"   A\n")
unfolding tree_read text_value expansion next_token is_utf8 chars digits lib.Utf8.encode
one_token = refl

-- a rewritten line keeps its number, and the lines joined to it become empty; help texts and comments are copied
lines_are_kept : expanded_texts (one_file (codes "N := n\nif \"$(N)\" \\\n  || A # $(N)\nendif\nconfig B\n\thelp\n\t  $(N)\n") [])
    ≡ one_text (codes "\nif \"n\"   || A # $(N)\n\nendif\nconfig B\n\thelp\n\t  $(N)\n")
unfolding tree_read text_value expansion next_token is_utf8 chars digits lib.Utf8.encode
lines_are_kept = refl

-- a template has a key for each of its texts, and files of a pattern are in a list
keys : expanded_texts (world ((codes "Kconfig", codes "X := 1\nsource \"t\"\nX := 2\nsource \"t\"\nsource \"d/*\"\n") ∷ (codes "t", codes "if A$(X)\n")
    ∷ (codes "d/b", []) ∷ (codes "d/a", []) ∷ []) [])
    ≡ Ok ((codes "t", codes "if A1\n") ∷ (codes "t#2", codes "if A2\n") ∷ (codes "d/a", []) ∷ (codes "d/b", [])
    ∷ (codes "Kconfig:5", codes "source \"d/a\"\nsource \"d/b\"\n")
    ∷ (codes "Kconfig", codes "\nsource \"t\"\n\nsource \"t#2\"\nsource \"Kconfig:5\"\n") ∷ [])
unfolding tree_read text_value expansion next_token is_utf8 chars digits lib.Utf8.encode
keys = refl

-- forms of older trees are written as plain ones
older_forms : expanded_texts (one_file (codes "menu Title\nchoice C\noption allnoconfig_y # c\n\toption defconfig_list\n") [])
    ≡ one_text (codes "menu \"Title\"\nchoice \n\n\tdepends on n\n")
unfolding tree_read text_value expansion next_token is_utf8 chars digits lib.Utf8.encode
older_forms = refl

-- an `option env` of a name asks it, and of anything else stays
environment_options : expanded_texts (one_file (codes "option env=\"A\" # c\n\toption env = 'B'\n\toption env=A\n\toption env=\"$(A)\"\n\toption env \"A\"\n\toption env=\"A\" B\n")
    ((codes "A", Some (codes "x\"y")) ∷ (codes "B", None) ∷ []))
    ≡ one_text (codes "option env \"x\\\"y\"\noption env \"\"\n\toption env=A\n\toption env=\"x\\\"y\"\n\toption env \"A\"\n\toption env=\"A\" B\n")
unfolding tree_read text_value expansion next_token is_utf8 chars digits lib.Utf8.encode
environment_options = refl

-- work: the four bytes of the token and one, the byte of the name and one, and the one and the three bytes that they become
enough_work : texts_by_key (outcome true (one_file (codes "if $(A)\n") ((codes "A", Some (codes "abc")) ∷ [])) 11 (tree_read (codes "Kconfig"))).ending
    ≡ one_text (codes "if abc\n")
unfolding tree_read text_value next_token is_utf8 chars digits lib.Utf8.encode
enough_work = refl

-- with one step of work less the expansion fails
too_much_work : texts_by_key (outcome true (one_file (codes "if $(A)\n") ((codes "A", Some (codes "abc")) ∷ [])) 10 (tree_read (codes "Kconfig"))).ending
    ≡ Err (fault_of 1 TooMany [])
unfolding tree_read text_value next_token is_utf8 chars digits lib.Utf8.encode
too_much_work = refl

-- a line that a failed read cuts is not judged
cut_line : answers_read (cut_by Read) (codes "A=1\nB") [] ≡ Err (record { line = 2; kind = Read })
unfolding answers_read is_utf8 chars lib.Utf8.encode
cut_line = refl
