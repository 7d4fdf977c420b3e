-- The items that the attributes of a definition give symbols.
use Rattle.std.specs.Prelude.{◌≡◌, ℕ, Bool, ◌||◌, is_some, List, [], ◌∷◌, ◌++◌, Option, Some, None, option_map, option_and_then, if◌then◌else◌}
use Rattle.std.specs.List.{cons_option}
use Rattle.kc_statements.specs.between.StatementViews.{ReadAttribute}
use Rattle.kc_tree_model.specs.declared.statement.Attribute.TheVariants as attributes
use Rattle.kc_tree_model.specs.between.Attributes.{is_prompt, target_given}
use Rattle.kc_tree_model.specs.Statements.{default_of}
use Rattle.kc_parser.specs.declared.listing.Line.{Line as CodeLine}
use Rattle.kc_parser.specs.declared.listing.SymbolTable.{SymbolTable}
use Rattle.kc_parser.specs.between.SymbolTable.{number_in, text_of_name}
use Rattle.kc_tree_model.specs.declared.statement.ReverseKind.{ReverseKind}
use Rattle.kc_tree_model.specs.declared.statement.ReverseKind.TheVariants.{Select, Imply}
use Rattle.kc_tree.specs.declared.items_with_keys.ItemsWithKeys.{ItemsWithKeys}
use Rattle.kc_tree.specs.declared.symbol.Default.{Default}
use Rattle.kc_tree.specs.declared.symbol.Range.{Range}
use Rattle.kc_tree.specs.declared.symbol.ReverseDependency.{ReverseDependency}

-- the given condition if an attribute line is a prompt, and `None` if not
abbrev pub gathered_prompt : CodeLine → ℕ → Option ℕ
gathered_prompt l c = if is_prompt l.attribute then Some c else None

-- the default that an attribute is, with the given condition in place of its `if`; `None` if it is no default
abbrev pub default_by : ReadAttribute → ℕ → Option Default
default_by a c = option_map (λ d. record { value = d.value; condition = c; from_environment = d.from_environment }) (default_of a)

-- the default that an attribute line gives, with the given condition in place of its `if`; `None` if it gives no default
abbrev pub gathered_default : CodeLine → ℕ → Option Default
gathered_default l c = default_by l.attribute c

-- the range that an attribute is, with the given condition in place of its `if`; `None` if it is no range
abbrev pub range_by : ReadAttribute → ℕ → Option Range
range_by (attributes.Range r) c = Some (record { low = r.low; high = r.high; condition = c })
range_by a c = None

-- the range that an attribute line gives, with the given condition in place of its `if`; `None` if it gives no range
abbrev pub gathered_range : CodeLine → ℕ → Option Range
gathered_range l c = range_by l.attribute c

-- whether an attribute line selects or implies a name
abbrev pub has_target : CodeLine → Bool
has_target l = is_some (target_given Select l.attribute) || is_some (target_given Imply l.attribute)

-- the number of the symbol that an attribute line selects or implies; `None` if there is no such symbol
abbrev pub gathered_target : SymbolTable → ReverseKind → CodeLine → Option ℕ
gathered_target n f l = option_and_then (λ id. number_in n.arena.names n.numbers.items (text_of_name n.arena id)) (target_given f l.attribute)

-- the number of the symbol that a line selects or implies, whatever the condition (the last number); `None` if there is none
abbrev pub target_key : SymbolTable → ReverseKind → CodeLine → ℕ → Option ℕ
target_key n f l c = gathered_target n f l

-- the reverse dependency that a `select` or `imply` of the given symbol gives, with the given condition; `None` without a target
abbrev pub gathered_reverse_dependency : SymbolTable → ReverseKind → ℕ → CodeLine → ℕ → Option ReverseDependency
gathered_reverse_dependency n f s l c = option_map (λ _. record { by = s; condition = c }) (gathered_target n f l)

-- the number of the defined symbol, as the key of the item that an attribute line gives; `None` if the line gives no item
abbrev pub own_key : {T : Type 0} → ℕ → (CodeLine → ℕ → Option T) → CodeLine → ℕ → Option ℕ
own_key s item l c = option_map (λ _. s) (item l c)

-- the items that a function gives for attribute lines and their conditions, in order
abbrev pub gathered_items : {T : Type 0} → (CodeLine → ℕ → Option T) → List CodeLine → List ℕ → List T
gathered_items item [] cs = []
gathered_items item (l ∷ ls) [] = []
gathered_items item (l ∷ ls) (c ∷ cs) = cons_option (item l c) (gathered_items item ls cs)

-- `new` is `old` with the keys and the items that attribute lines give appended
pub record HasAppended {T : Type 0} (key : CodeLine → ℕ → Option ℕ) (item : CodeLine → ℕ → Option T) (old new : ItemsWithKeys T) (lines : List CodeLine) (conditions : List ℕ) : Type 0 where
  pub keys : new.keys.items ≡ old.keys.items ++ gathered_items key lines conditions
  pub items : new.items.items ≡ old.items.items ++ gathered_items item lines conditions
