-- Where statements and attributes are allowed, and which forms are left out ("Kconfig syntax").
use Rattle.std.specs.Prelude.{Bool, true, false, not, ◌&&◌, ◌||◌, List, [], ◌∷◌, Option, Some, None, is_some, codes}
use Rattle.std.specs.List.{list_all}
use Rattle.kc_value.specs.declared.value.Kind.TheVariants.{Bool as Boolean, Tristate}
use Rattle.kc_value.specs.Kinds.{is_tri_kind}
use Rattle.kc_tokens.specs.Token.{Lexeme}
use Rattle.kc_tokens.specs.declared.language.Language.{Language}
use Rattle.kc_tokens.specs.declared.language.Language.TheVariants.{Strict, Linux}
use Rattle.kc_tree_model.specs.declared.keyword.OpenEntry.{OpenEntry}
use Rattle.kc_tree_model.specs.declared.keyword.OpenEntry.TheVariants as entries
use Rattle.kc_tree_model.specs.Statements.{Head}
use Rattle.kc_tree_model.specs.declared.statement.Head.TheVariants.{Config as config, Choice as choice, Menu as menu, Comment as comment}
use Rattle.kc_tree_model.specs.Keywords.{is_word_kind, is_quoted_kind, is_the_word}
use Rattle.kc_tree_model.specs.declared.keyword.Keyword.{Keyword}
use Rattle.kc_tree_model.specs.declared.keyword.Keyword.TheVariants as words
use Rattle.kc_tree_model.specs.Forms.{path_of, is_glob}
use Rattle.kc_tree_model.specs.Blocks.{Group, open_blocks, from_head, opened_block, in_choice, is_stray}

-- the entry that a statement opens, if it is a `config`, a `choice`, a `menu` or a `comment`
abbrev pub opened_by : Head → Option OpenEntry
opened_by (config name) = Some entries.Config
opened_by choice = Some entries.Choice
opened_by (menu title) = Some entries.Menu
opened_by (comment title) = Some entries.Comment
opened_by h = None

-- the entry that is open after these groups (newest first): the one that the newest opens, if it opens one
abbrev pub open_entry : List Group → Option OpenEntry
open_entry [] = None
open_entry (g ∷ before) = from_head opened_by g.head

-- whether an entry may have the attribute of this keyword ("Kconfig syntax": config, choice, menu, comment)
abbrev pub allows_attribute : OpenEntry → Keyword → Bool
allows_attribute entries.Config (words.Type k) = true
allows_attribute entries.Config (words.DefaultType k) = true
allows_attribute entries.Config words.Prompt = true
allows_attribute entries.Config words.Default = true
allows_attribute entries.Config words.Depends = true
allows_attribute entries.Config words.Select = true
allows_attribute entries.Config words.Imply = true
allows_attribute entries.Config words.Range = true
allows_attribute entries.Config words.Help = true
allows_attribute entries.Config words.Modules = true
allows_attribute entries.Config words.Option = true
allows_attribute entries.Choice (words.Type Boolean) = true
allows_attribute entries.Choice words.Prompt = true
allows_attribute entries.Choice words.Default = true
allows_attribute entries.Choice words.Depends = true
allows_attribute entries.Choice words.Help = true
allows_attribute entries.Choice words.Optional = true
allows_attribute entries.Menu words.Depends = true
allows_attribute entries.Menu words.Visible = true
allows_attribute entries.Comment words.Depends = true
allows_attribute e k = false

-- whether an entry is open after these groups and may have the attribute of this keyword
abbrev pub open_entry_allows : List Group → Keyword → Bool
open_entry_allows read k = elim (open_entry read) [ None ↦ false | Some e ↦ allows_attribute e k ]

-- whether the statement or attribute of this keyword is allowed after these groups: `choice` and `menu` outside choices,
-- `mainmenu` outside every block, any other statement everywhere, and an attribute where the open entry may have it
abbrev pub is_allowed : List Group → Keyword → Bool
is_allowed read words.Config = true
is_allowed read words.Choice = not (in_choice read)
is_allowed read words.Menu = not (in_choice read)
is_allowed read words.If = true
is_allowed read words.Comment = true
is_allowed read words.Source = true
is_allowed read words.Mainmenu = list_all (λ g. not (is_some (opened_block g))) (open_blocks 0 read)
is_allowed read (words.End b) = true
is_allowed read k = open_entry_allows read k

-- whether the open entry is a choice
abbrev pub is_choice_open : Option OpenEntry → Bool
is_choice_open (Some entries.Choice) = true
is_choice_open e = false

-- whether there is a first token and it passes this test
abbrev pub first_is : (Lexeme → Bool) → List Lexeme → Bool
first_is test [] = false
first_is test (t ∷ ts) = test t

-- whether a token is a path that is a pattern
abbrev pub is_glob_path : Lexeme → Bool
is_glob_path t = elim (path_of t) [ None ↦ false | Some path ↦ is_glob path ]

-- whether a language is the strict one
abbrev pub is_strict : Language → Bool
is_strict Strict = true
is_strict (Linux version) = false

-- whether the tokens after `option` are an option that a language leaves out: `env`, but in the languages of Linux not before a
-- quoted text, `defconfig_list` or `allnoconfig_y`
abbrev pub is_left_out_option : Language → List Lexeme → Bool
is_left_out_option language [] = false
is_left_out_option language (t ∷ ts) =
    (is_the_word (codes "env") t && (is_strict language || not (first_is (λ u. is_quoted_kind u.kind) ts)))
    || is_the_word (codes "defconfig_list") t || is_the_word (codes "allnoconfig_y") t

-- whether a line after these groups, with this keyword and these tokens after it, has a form that the language leaves out: some
-- first words, some options, named and tristate choices, paths that are patterns; in the strict language also `def_int`,
-- `def_hex`, `def_string` and `optional`
abbrev pub is_left_out : Language → List Group → Keyword → List Lexeme → Bool
is_left_out language read words.LeftOut ts = true
is_left_out language read words.Option ts = is_left_out_option language ts
is_left_out language read words.Choice ts = first_is (λ t. is_word_kind t.kind) ts
is_left_out language read words.Source ts = first_is is_glob_path ts
is_left_out language read (words.Type Tristate) ts = is_choice_open (open_entry read)
is_left_out language read (words.DefaultType k) ts = is_strict language && not (is_tri_kind k)
is_left_out language read words.Optional ts = is_strict language
is_left_out language read k ts = false

-- whether a keyword is an end that doesn't match the innermost open block of its file, after these groups
abbrev pub is_stray_end : List Group → Keyword → Bool
is_stray_end read (words.End b) = is_stray read b
is_stray_end read k = false
