-- The reasons that `explain` gives for a symbol, as data, from which its text and its JSON are spelled.
use Rattle.std.specs.Prelude.{ℕ, Bool, true, false, not, ◌||◌, ◌==◌, List, [], ◌∷◌, ◌++◌, map, flat_map, filter, Option, Some, None, is_some, option_map, option_and_then, unwrap_or, slice_get, position, codes, if◌then◌else◌, reverse}
use Rattle.std.specs.List.{list_any, zip}
use Rattle.kc_value.specs.declared.tri.Tri.{Tri}
use Rattle.kc_value.specs.declared.tri.Tri.TheVariants.{M}
use Rattle.kc_value.specs.declared.value.Kind.{Kind}
use Rattle.kc_value.specs.Kinds.{is_text_kind}
use Rattle.kc_value.specs.Number.{loose_number}
use Rattle.kc_tokens.specs.declared.token.TokenKind.{TokenKind}
use Rattle.kc_tokens.specs.declared.token.TokenKind.TheVariants.{Word}
use Rattle.kc_tokens.specs.Token.{Lexeme}
use Rattle.kc_expr.specs.Expr.{Expr, Environment, SymbolValue, value}
use Rattle.kc_value.specs.Tri.{letter, is_n}
use Rattle.kc_expr.specs.Grammar.{ors, letter_value}
use Rattle.kc_tree_model.specs.Trees.{Tree, Symbol, Default, Range, ReverseDependency}
use Rattle.kc_tree_model.specs.TreeLookup.{unit_of}
use Rattle.kc_tree_model.specs.Blocks.{Position}
use Rattle.kc_tree_model.specs.Limits.{without_repeats}
use Rattle.kc_rules_model.specs.declared.profile.Profile.{Profile}
use Rattle.kc_rules_model.specs.declared.values.UnitValue.{UnitValue}
use Rattle.kc_rules_model.specs.declared.values.UserValue.{UserValue}
use Rattle.kc_rules_model.specs.declared.values.UserValue.TheVariants.{Tri as TriUser, Text as TextUser, Member as MemberUser, Lines as LinesUser}
use Rattle.kc_solver.specs.Solutions.{user_of}
use Rattle.kc_rules_model.specs.SymbolValues.{environment, value_of_symbol, condition, member_of}
use Rattle.kc_rules_model.specs.Rule.{assigned_tri, selected, is_from_environment}
use Rattle.kc_rules_model.specs.Reports.{is_unmet_symbol}
use Rattle.kc_dotconfig_model.specs.declared.format.Strings.{Strings}
use Rattle.kc_dotconfig_model.specs.Formats.{string_spelling}
use Rattle.kc_dotconfig_model.specs.ConfigLines.{LineMeaning}
use Rattle.kc_dotconfig_model.specs.ConfigFiles.{empty_assignment}
use Rattle.kc_reasons_model.specs.declared.cases.Case.{Case}
use Rattle.kc_reasons_model.specs.declared.cases.Case.TheVariants.{Tri as TriGiven, Text as TextGiven}
use Rattle.kc_reasons_model.specs.declared.cases.TriCase.TheVariants.{Default as DefaultTri, Environment as EnvironmentTri, Imply as ImplyTri, Dependency as DependencyTri, Select as SelectTri}
use Rattle.kc_reasons_model.specs.declared.cases.TextCase.TheVariants.{UserLowBound, UserHighBound, Default as DefaultText, Environment as EnvironmentText, NoNumber, LowBound, HighBound}
use Rattle.kc_reasons_model.specs.declared.cases.Hindrance.{Hindrance}
use Rattle.kc_reasons_model.specs.declared.cases.Hindrance.TheVariants.{BelowSelected}
use Rattle.kc_reasons_model.specs.Conjuncts.{Part, lacking}
use Rattle.kc_reasons_model.specs.Blame.{blamed}
use Rattle.kc_reasons_model.specs.DecisiveLimits.{is_decisive}
use Rattle.kc_reasons_model.specs.Cases.{case_of}
use Rattle.kc_reasons_model.specs.Hindrances.{hindrance_to, is_given_y, wanted_for}
use Rattle.kc_reasons_model.specs.AssigningLines.{AssigningPlace, assigning_place, all_over}
use Rattle.kc_reasons_model.specs.Places.{LocatedExpr, wanted_of}
use Rattle.kc_reasons_model.specs.SymbolLines.{SymbolLines}
use Rattle.kc_reasons_model.specs.Spelling.{spelling, token_text}

-- a line of the file at a path
pub record SourceLine : Type 0 where
  pub path : List ℕ
  pub line : ℕ

-- the text of a token of a condition, and its value, if it is a name
pub record ValuedToken : Type 0 where
  pub text : List ℕ
  pub value : Option (List ℕ)

-- a part of a condition that is too low: its tokens, its value, the least that is wanted of it, and its line
pub record LowPart : Type 0 where
  pub tokens : List ValuedToken
  pub value : Tri
  pub wanted : Tri
  pub at : SourceLine

-- what the last line that says something of the symbol asks for, that line, and what hinders it, if anything does
pub record AskedValue : Type 0 where
  pub text : List ℕ
  pub at : SourceLine
  pub hindrance : Option Hindrance

-- a symbol that selects or implies, its value, and the line
pub record ForcingSymbol : Type 0 where
  pub name : List ℕ
  pub value : List ℕ
  pub at : SourceLine

-- The reasons of a symbol: its value and what gives it, the selected member of its choice, if that is another, the line of
-- the default or range that gives it, the assigned value, for each prompt what it lacks (nothing where one lacks nothing), for each
-- definition what its dependency lacks of what is selected, the selects and implies that decide, and the names to go on with.
pub record SymbolReasons : Type 0 where
  pub name : List ℕ
  pub value : List ℕ
  pub case : Case
  pub chosen : Option (List ℕ)
  pub given_at : Option SourceLine
  pub asked : Option AskedValue
  pub needs : List (List LowPart)
  pub unmet : List (List LowPart)
  pub selected_by : List ForcingSymbol
  pub implied_by : List ForcingSymbol
  pub next : List (List ℕ)

-- a text as a value is spelled in a configuration file
abbrev pub text_of_kind : Strings → Kind → List ℕ → List ℕ
text_of_kind strings kind text = if is_text_kind kind then string_spelling strings text else text

-- the value of a symbol as it is spelled in a configuration file; `undefined` without a symbol
abbrev pub value_text : Strings → Option SymbolValue → List ℕ
value_text strings None = codes "undefined"
value_text strings (Some v) = text_of_kind strings v.kind v.text

-- the value of a word of a condition; a constant has none, nor has an undefined name that is a number
abbrev pub word_value : Strings → List ℕ → Option SymbolValue → Option (List ℕ)
word_value strings word None = if is_some (letter_value word) || is_some (loose_number word) then None else Some (value_text strings None)
word_value strings word (Some v) = if is_some (letter_value word) then None else Some (value_text strings (Some v))

-- the value of a token, if it is a name
abbrev pub value_of_token : Strings → Environment → TokenKind → List ℕ → Option (List ℕ)
value_of_token strings names Word text = word_value strings text (names text)
value_of_token strings names _ text = None

-- a token with its text in a line and its value
abbrev pub valued_token : Strings → Environment → Lexeme → ValuedToken
valued_token strings names t = record { text = token_text t.kind t.text; value = value_of_token strings names t.kind t.text }

-- What a run explains over: how strings are spelled, the paths of the tree's files by number, those of the configuration files, the
-- meanings of the latter's lines, and the rules, tree and values.
pub record ExplainedRun : Type 0 where
  pub strings : Strings
  pub path_of : ℕ → List ℕ
  pub config_paths : List (List ℕ)
  pub meanings : List (List LineMeaning)
  pub profile : Profile
  pub tree : Tree
  pub values : List UnitValue

abbrev pub names_of : ExplainedRun → Environment
names_of run = environment run.tree run.values

abbrev pub source_line : ExplainedRun → Position → SourceLine
source_line run at = record { path = run.path_of at.file; line = at.line }

abbrev pub low_part : ExplainedRun → Position → Part → LowPart
low_part run at part = record {
  tokens = map (valued_token run.strings (names_of run)) (spelling ors part.expr);
  value = value (names_of run) part.expr;
  wanted = part.wanted;
  at = source_line run at;
}

-- what lacks of a condition of these parts where this is wanted of it
abbrev pub low_parts : ExplainedRun → Tri → List LocatedExpr → List LowPart
low_parts run t parts = flat_map (λ (p : LocatedExpr). map (low_part run p.at) (lacking (names_of run) (wanted_of t p) p.expr)) parts

-- whether a list is empty
abbrev pub is_empty : {X : Type 0} → List X → Bool
is_empty [] = true
is_empty (x ∷ xs) = false

-- alternatives, none if one of them lacks nothing
abbrev pub unless_one_lacks_nothing : {X : Type 0} → List (List X) → List (List X)
unless_one_lacks_nothing parts = if list_any is_empty parts then [] else parts

-- the name of the symbol of this number, and its value
abbrev pub name_of_symbol : Tree → ℕ → List ℕ
name_of_symbol tree s = unwrap_or (option_map (λ (symbol : Symbol). symbol.name) (slice_get tree.symbols s)) []

abbrev pub text_of_symbol : ExplainedRun → ℕ → List ℕ
text_of_symbol run s = value_text run.strings (value_of_symbol run.tree run.values s)

-- what a user value asks of symbol s: a letter or a text, and of a choice `y`, or `MEMBER=y` if it is another member
abbrev pub asked_text : ExplainedRun → ℕ → Kind → UserValue → List ℕ
asked_text run s kind (TriUser t) = letter t
asked_text run s kind (TextUser text) = text_of_kind run.strings kind text
asked_text run s kind (MemberUser m) = if m == s then codes "y" else name_of_symbol run.tree m ++ codes "=y"
asked_text run s kind (LinesUser lines) = if is_given_y lines s then codes "y" else codes "n"

-- the last line that says something of symbol s
abbrev pub place_for : ExplainedRun → ℕ → Option AssigningPlace
place_for run s = assigning_place (unit_of run.tree s) s 0 run.meanings

-- the user value of the unit of symbol s after all files, if it has one
abbrev pub user_for : ExplainedRun → ℕ → Option UserValue
user_for run s = user_of (all_over run.meanings (empty_assignment run.tree)) (unit_of run.tree s)

abbrev pub asked_value_of : ExplainedRun → ℕ → Symbol → AssigningPlace → AskedValue
asked_value_of run s symbol place = record {
  text = asked_text run s symbol.kind place.line.user;
  at = record { path = unwrap_or (slice_get run.config_paths place.file) []; line = place.line.number };
  hindrance = hindrance_to run.profile run.tree (unit_of run.tree s) s (user_for run s) run.values;
}

-- the place of the active one of some defaults or ranges
abbrev pub active_place : {X : Type 0} → (condition_of : X → Expr) → ExplainedRun → List X → List Position → Option Position
active_place condition_of run xs places =
    option_and_then (slice_get places) (position (λ x. not (is_n (condition run.tree run.values (condition_of x)))) xs)

-- the place of what gives the value in a case
abbrev pub place_of_case : ExplainedRun → Symbol → SymbolLines → Case → Option Position
place_of_case run symbol lines (TriGiven DefaultTri lift) = active_place (λ (d : Default). d.condition) run symbol.defaults lines.defaults
place_of_case run symbol lines (TriGiven EnvironmentTri lift) = active_place (λ (d : Default). d.condition) run symbol.defaults lines.defaults
place_of_case run symbol lines (TextGiven DefaultText) = active_place (λ (d : Default). d.condition) run symbol.defaults lines.defaults
place_of_case run symbol lines (TextGiven EnvironmentText) = active_place (λ (d : Default). d.condition) run symbol.defaults lines.defaults
place_of_case run symbol lines (TextGiven NoNumber) = active_place (λ (d : Default). d.condition) run symbol.defaults lines.defaults
place_of_case run symbol lines (TextGiven UserLowBound) = active_place (λ (r : Range). r.condition) run symbol.ranges lines.ranges
place_of_case run symbol lines (TextGiven UserHighBound) = active_place (λ (r : Range). r.condition) run symbol.ranges lines.ranges
place_of_case run symbol lines (TextGiven LowBound) = active_place (λ (r : Range). r.condition) run symbol.ranges lines.ranges
place_of_case run symbol lines (TextGiven HighBound) = active_place (λ (r : Range). r.condition) run symbol.ranges lines.ranges
place_of_case run symbol lines c = None

-- the selects or implies that decide, with their lines
abbrev pub forcing_symbols : ExplainedRun → List ReverseDependency → List Position → List ForcingSymbol
forcing_symbols run fs places =
    map (λ (p : ReverseDependency × Position). record { name = name_of_symbol run.tree p.0.by; value = text_of_symbol run p.0.by; at = source_line run p.1 })
    (filter (λ (p : ReverseDependency × Position). is_decisive run.tree run.values fs p.0) (zip fs places))

-- what hinders that a symbol has what the last line that says something of it asks, if there is one
abbrev pub hindrance_in : Option AskedValue → Option Hindrance
hindrance_in asked = option_and_then (λ (a : AskedValue). a.hindrance) asked

-- whether the selects are given: they give the value, or more is selected than is assigned
abbrev pub is_by_select : Case → Option Hindrance → Bool
is_by_select (TriGiven SelectTri lift) h = true
is_by_select c (Some BelowSelected) = true
is_by_select c h = false

-- whether the implies are given: they give the value
abbrev pub is_by_imply : Case → Bool
is_by_imply (TriGiven ImplyTri lift) = true
is_by_imply (TriGiven DependencyTri lift) = true
is_by_imply c = false

-- the selected member of the choice of symbol s, if it is another
abbrev pub other_member : ExplainedRun → ℕ → Symbol → Option (List ℕ)
other_member run s symbol =
    option_and_then (λ m. if m == s then None else Some (name_of_symbol run.tree m))
    (option_and_then (λ c. member_of (slice_get run.values (unit_of run.tree s))) symbol.choice)

-- what is wanted of a prompt: what the user value asks for, or that it is visible at all
abbrev pub wanted_of_prompts : ExplainedRun → ℕ → Symbol → Tri
wanted_of_prompts run s symbol = wanted_for run.tree symbol (unwrap_or (assigned_tri (user_for run s)) M) run.values

-- what each definition's dependency lacks of what is selected, if that is more
abbrev pub unmet_parts : ExplainedRun → Symbol → SymbolLines → List (List LowPart)
unmet_parts run symbol lines =
    if is_unmet_symbol run.tree run.values symbol
    then map (low_parts run (selected run.tree run.values symbol)) lines.direct
    else []

-- what each prompt that counts lacks of what is wanted; none where one lacks nothing
abbrev pub needs_of : ExplainedRun → Tri → Symbol → SymbolLines → List (List LowPart)
needs_of run wanted symbol lines =
    if is_from_environment symbol then [] else unless_one_lacks_nothing (map (low_parts run wanted) lines.prompts)

-- the names that keep these conditions below a value
abbrev pub names_below : ExplainedRun → Tri → List Expr → List (List ℕ)
names_below run t es = flat_map (blamed (names_of run) false t) es

-- the reasons of symbol s
unfoldable pub reasons_of : ExplainedRun → SymbolLines → ℕ → Symbol → SymbolReasons
reasons_of run lines s symbol =
    let case = case_of run.profile run.tree (unit_of run.tree s) (user_for run s) run.values in
    let asked = option_map (asked_value_of run s symbol) (place_for run s) in
    let wanted = wanted_of_prompts run s symbol in
    let needs = needs_of run wanted symbol lines in
    let unmet = unmet_parts run symbol lines in
    let forced = is_by_select case (hindrance_in asked) || is_unmet_symbol run.tree run.values symbol in
    record {
      name = symbol.name;
      value = text_of_symbol run s;
      case = case;
      chosen = other_member run s symbol;
      given_at = option_map (source_line run) (place_of_case run symbol lines case);
      asked = asked;
      needs = needs;
      unmet = unmet;
      selected_by = if forced then forcing_symbols run symbol.selectors lines.selectors else [];
      implied_by = if is_by_imply case then forcing_symbols run symbol.impliers lines.impliers else [];
      next = without_repeats (reverse ((if is_empty needs then [] else names_below run wanted symbol.prompts)
          ++ (if is_empty unmet then [] else names_below run (selected run.tree run.values symbol) symbol.direct)));
    }
