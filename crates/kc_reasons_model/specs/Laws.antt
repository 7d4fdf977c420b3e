-- The laws of reasons, for each tree, each valuation and both profiles.
use Rattle.std.specs.Prelude.{is_some, ◌≡◌, ◌≢◌, ◌↔◌, ℕ, ◌+◌, ◌<◌, Bool, true, false, not, ◌&&◌, List, [], ◌++◌, Option, Some, None, IsTrue, IfSome, length, Contains, slice_get, option_to_list, map, filter_map, ◌≤◌, Ok, if◌then◌else◌}
use Rattle.std.specs.List.{All, list_all, list_any}
use Rattle.kc_value.specs.declared.tri.Tri.{Tri}
use Rattle.kc_expr.specs.Expr.{Expr, Environment, value, named, quoted}
use Rattle.kc_value.specs.declared.limits.TheConstants.{MAX_EXPR_DEPTH}
use Rattle.kc_tokens.specs.Token.{Lexeme, lexemes_from}
use Rattle.kc_expr.specs.Grammar.{read_expr, IsExpr, ors, letter_value}
use Rattle.kc_expr.specs.ExpressionNames.{names_in}
use Rattle.kc_tree_model.specs.Trees.{Tree, Symbol, Choice, ReverseDependency}
use Rattle.kc_tree_model.specs.declared.ids.Unit.TheVariants.{Symbol as of_symbol, Choice as of_choice}
use Rattle.kc_solver.specs.Solutions.{user_of, Solves, FitsUsers}
use Rattle.kc_rules_model.specs.SettledTrees.{IsSettledTree}
use Rattle.kc_rules_model.specs.declared.profile.Profile.{Profile}
use Rattle.kc_rules_model.specs.declared.values.UnitValue.{UnitValue}
use Rattle.kc_rules_model.specs.declared.values.UserValue.{UserValue}
use Rattle.kc_rules_model.specs.declared.values.UnitValue.TheVariants.{Tri as TriValue, Text as TextValue, Member as MemberValue}
use Rattle.kc_rules_model.specs.declared.values.UserValue.TheVariants.{Tri as TriUser, Text as TextUser, Member as MemberUser, Lines as LinesUser}
use Rattle.kc_value.specs.Tri.{largest, is_n}
use Rattle.kc_value.specs.Kinds.{is_tri_kind}
use Rattle.kc_rules_model.specs.Shapes.{user_fits, tri_fits}
use Rattle.kc_rules_model.specs.SymbolValues.{condition, environment}
use Rattle.kc_rules_model.specs.Rule.{rule, reverse_dependency_value, reverse_dependency_limit, visibility, is_visible, direct_dependency, counted_prompts, choice_rule, member_user}
use Rattle.kc_tokens.specs.Languages.{is_linux_6_12}
use Rattle.kc_tree_model.specs.TreeLookup.{IsConsistent, unit_of, symbol_named}
use Rattle.kc_rules_model.specs.Dependencies.{dependencies}
use Rattle.kc_dotconfig_model.specs.MissedAssignments.{is_missed}
use Rattle.kc_dotconfig_model.specs.ConfigLines.{LineMeaning, Means}
use Rattle.kc_dotconfig_model.specs.Formats.{FileFormat}
use Rattle.kc_dotconfig_model.specs.ConfigFiles.{has_utf8_lines, FileMeans, assigned_over}
use Rattle.kc_reasons_model.specs.declared.cases.Hindrance.{Hindrance}
use Rattle.kc_reasons_model.specs.Conjuncts.{below, Part, conjuncts, lacks, lacking}
use Rattle.kc_tree_model.specs.Blocks.{Group}
use Rattle.kc_tree_model.specs.Conditions.{context, prompt_condition, attribute_condition, dependency_of}
use Rattle.kc_reasons_model.specs.Places.{located_context, located_prompt, located_condition, located_dependencies, lacking_located}
use Rattle.kc_tree_model.specs.Contents.{contents_of, symbol_of}
use Rattle.kc_reasons_model.specs.SymbolLines.{SymbolLines, lines_of_symbol}
use Rattle.kc_reasons_model.specs.Blame.{is_off, blamed}
use Rattle.kc_reasons_model.specs.DecisiveLimits.{decisive, decisive_numbers, weaker}
use Rattle.kc_reasons_model.specs.Cases.{case_of, given}
use Rattle.kc_reasons_model.specs.Claims.{claims_hold}
use Rattle.kc_reasons_model.specs.Hindrances.{hindrance_to, hinders, suffices, is_given_y, is_asked_n, is_given_both, wanted_for, is_about}
use Rattle.kc_reasons_model.specs.Assignable.{can_be, can_select}
use Rattle.kc_reasons_model.specs.Spelling.{spelling, depth, IsReadBack, IsPlain, text_of_tokens, HasLineOperands, IsReadAs}
use Rattle.kc_tokens.specs.declared.language.Language.{Language}
use Rattle.kc_reasons_model.specs.AssigningLines.{said_to, user_by_line, AssigningLine, assigning_line, AssigningPlace, assigning_place, all_over}

-- the case of each unit gives its value
abbrev pub CasesGiveValues : Type 0
CasesGiveValues = (profile : Profile) (tree : Tree) (u : ℕ) (user : Option UserValue) (values : List UnitValue)
    → given (case_of profile tree u user values) tree u user values ≡ rule profile tree u user values

-- and the claim of the case holds
abbrev pub ClaimsHold : Type 0
ClaimsHold = (profile : Profile) (tree : Tree) (u : ℕ) (user : Option UserValue) (values : List UnitValue)
    → claims_hold (case_of profile tree u user values) profile tree u user values ≡ true

-- a unit has what a user value asks of symbol s: of assignments of members, a member with `y` is selected, and one with `n` and
-- without `y` isn't; of any other, that is its value
abbrev pub HasAsked : ℕ → UserValue → UnitValue → Type 0
HasAsked s (TriUser t) value = value ≡ TriValue t
HasAsked s (TextUser text) value = value ≡ TextValue text
HasAsked s (MemberUser m) value = value ≡ MemberValue (Some m)
HasAsked s (LinesUser lines) value = (is_given_y lines s ≡ true → value ≡ MemberValue (Some s)) × (is_asked_n lines s ≡ true → value ≢ MemberValue (Some s))

-- something hinders exactly what fitting user values ask and the unit hasn't
abbrev pub HindrancesAreMissed : Type 0
HindrancesAreMissed = (profile : Profile) (tree : Tree) (u s : ℕ) (x : UserValue) (values : List UnitValue)
    → IsTrue (user_fits tree u x)
    → (hindrance_to profile tree u s (Some x) values ≡ None) ↔ HasAsked s x (rule profile tree u (Some x) values)

-- in a solution the missed symbols are those about which a user value is that something hinders
abbrev pub MissedAreHindered : Type 0
MissedAreHindered = (profile : Profile) (tree : Tree) (users : List (Option UserValue)) (values : List UnitValue) (s : ℕ) (symbol : Symbol)
    → Solves (length tree.units) (rule profile tree) users values
    → slice_get tree.symbols s ≡ Some symbol → unit_of tree s < length tree.units
    → IfSome (user_of users (unit_of tree s)) (λ x. IsTrue (user_fits tree (unit_of tree s) x))
    → is_given_both s (user_of users (unit_of tree s)) ≡ false
    → is_missed tree users values s
    ≡ (is_about symbol.choice s (user_of users (unit_of tree s))
    && is_some (hindrance_to profile tree (unit_of tree s) s (user_of users (unit_of tree s)) values))

-- the hindrance that is found holds
abbrev pub HindrancesHold : Type 0
HindrancesHold = (profile : Profile) (tree : Tree) (u s : ℕ) (x : UserValue) (values : List UnitValue) (h : Hindrance)
    → hindrance_to profile tree u s (Some x) values ≡ Some h
    → hinders h profile tree u s x values ≡ true

-- while a hindrance that suffices holds of a fitting user value, the unit hasn't what that asks
abbrev pub HindrancesSuffice : Type 0
HindrancesSuffice = (profile : Profile) (tree : Tree) (u s : ℕ) (x : UserValue) (values : List UnitValue) (h : Hindrance)
    → IsTrue (user_fits tree u x) → suffices h ≡ true → hinders h profile tree u s x values ≡ true
    → HasAsked s x (rule profile tree u (Some x) values) → ⊥

-- an assigned tristate counts in full exactly if the condition of some prompt that counts is what is wanted, or more
abbrev pub PromptsLetInWhatIsWanted : Type 0
PromptsLetInWhatIsWanted = (tree : Tree) (symbol : Symbol) (a : Tri) (values : List UnitValue)
    → (is_visible tree values symbol && not (below (visibility tree values symbol) a))
    ≡ list_any (λ e. not (below (condition tree values e) (wanted_for tree symbol a values))) (counted_prompts symbol)

-- where it doesn't count in full, each prompt that counts lacks something
abbrev pub HiddenPromptsLack : Type 0
HiddenPromptsLack = (tree : Tree) (symbol : Symbol) (a : Tri) (values : List UnitValue)
    → (is_visible tree values symbol && not (below (visibility tree values symbol) a)) ≡ false
    → All (λ e. lacking (environment tree values) (wanted_for tree symbol a values) e ≢ []) (counted_prompts symbol)

-- of a direct dependency below a value, as what is selected or implied, each definition lacks something
abbrev pub UnmetDependenciesLack : Type 0
UnmetDependenciesLack = (tree : Tree) (symbol : Symbol) (t : Tri) (values : List UnitValue)
    → below (direct_dependency tree values symbol) t ≡ true
    → All (λ e. lacking (environment tree values) t e ≢ []) symbol.direct

-- a condition is as high as is wanted exactly if each of its conjuncts is
abbrev pub ConjunctsDecide : Type 0
ConjunctsDecide = (names : Environment) (t : Tri) (e : Expr)
    → not (below (value names e) t) ≡ list_all (λ part. not (lacks names part)) (conjuncts t e)

-- nothing is lacking exactly if it is as high as is wanted
abbrev pub NothingLacksIfHigh : Type 0
NothingLacksIfHigh = (names : Environment) (t : Tri) (e : Expr) → (below (value names e) t ≡ false) ↔ (lacking names t e ≡ [])

-- raising what is lacking suffices, where no other conjunct falls
abbrev pub RaisingSuffices : Type 0
RaisingSuffices = (names raised : Environment) (t : Tri) (e : Expr)
    → All (λ part. lacks raised part ≡ false) (lacking names t e)
    → All (λ part. lacks names part ≡ false → lacks raised part ≡ false) (conjuncts t e)
    → below (value raised e) t ≡ false

-- as long as one of them lacks, whatever else changes, the condition is too low
abbrev pub EachLackingIsNeeded : Type 0
EachLackingIsNeeded = (names changed : Environment) (t : Tri) (e : Expr) (part : Part)
    → Contains (lacking names t e) part → lacks changed part ≡ true → below (value changed e) t ≡ true

-- whatever agrees on the blamed names keeps an expression off
abbrev pub BlamedNamesKeep : Type 0
BlamedNamesKeep = (names changed : Environment) (above : Bool) (bound : Tri) (e : Expr)
    → is_off above bound (value names e) ≡ true
    → All (λ name. changed name ≡ names name) (blamed names above bound e)
    → is_off above bound (value changed e) ≡ true

-- if a name is a symbol's, its unit is one on which unit u depends
abbrev pub IsDependency : Tree → ℕ → List ℕ → Type 0
IsDependency tree u name = (s : ℕ) → symbol_named tree name ≡ Some s → unit_of tree s < length tree.units
    → Contains (dependencies tree u) (unit_of tree s)

-- the blamed names of a symbol's conditions are of its dependencies; so going on with them comes to an end
abbrev pub BlamedAreDependencies : Type 0
BlamedAreDependencies = (tree : Tree) (u s : ℕ) (symbol : Symbol) (names : Environment) (above : Bool) (bound : Tri)
    → slice_get tree.units u ≡ Some (of_symbol s) → slice_get tree.symbols s ≡ Some symbol
    → All (λ e. All (IsDependency tree u) (blamed names above bound e)) (symbol.prompts ++ symbol.direct)

-- the condition of a choice's prompt, where it counts: not under the rules of Linux 6.12
abbrev pub counted_conditions : Tree → Choice → List Expr
counted_conditions tree choice = if is_linux_6_12 tree.language then [] else option_to_list choice.prompt

-- and so are those of the conditions of a choice and its members
abbrev pub ChoiceBlamedAreDependencies : Type 0
ChoiceBlamedAreDependencies = (tree : Tree) (u c s : ℕ) (choice : Choice) (symbol : Symbol) (names : Environment) (above : Bool) (bound : Tri)
    → slice_get tree.units u ≡ Some (of_choice c) → slice_get tree.choices c ≡ Some choice
    → Contains choice.members s → slice_get tree.symbols s ≡ Some symbol
    → All (λ e. All (IsDependency tree u) (blamed names above bound e)) (counted_conditions tree choice ++ symbol.prompts)

-- without the decisive selects or implies the limit is lower
abbrev pub WeakerForceLess : Type 0
WeakerForceLess = (tree : Tree) (values : List UnitValue) (fs : List ReverseDependency)
    → is_n (largest (reverse_dependency_limit tree values fs)) ≡ false
    → below (largest (reverse_dependency_limit tree values (weaker tree values fs))) (largest (reverse_dependency_limit tree values fs)) ≡ true

-- each decisive one gives the limit of all together, and that isn't `n`
abbrev pub DecisiveForceAll : Type 0
DecisiveForceAll = (tree : Tree) (values : List UnitValue) (fs : List ReverseDependency)
    → All (λ f. (reverse_dependency_value tree values f ≡ largest (reverse_dependency_limit tree values fs)) × (is_n (reverse_dependency_value tree values f) ≡ false)) (decisive tree values fs)

-- the numbers of the decisive selects or implies are those of `decisive`, in the list of all
abbrev pub NumbersAreDecisive : Type 0
NumbersAreDecisive = (tree : Tree) (values : List UnitValue) (fs : List ReverseDependency)
    → filter_map (slice_get fs) (decisive_numbers tree values fs) ≡ decisive tree values fs

-- the last line that says something of symbol s of unit u: it says this, and no later line says anything of it
pub record IsLastAssigning (u s first : ℕ) (meanings : List LineMeaning) (line : AssigningLine) : Type 0 where
  pub k : ℕ
  pub number : line.number ≡ first + k
  pub said : LineMeaning
  pub is : slice_get meanings k ≡ Some said
  pub here : said_to s (user_by_line u said) ≡ Some line.user
  pub last : (j : ℕ) (later : LineMeaning) → k < j → slice_get meanings j ≡ Some later → said_to s (user_by_line u later) ≡ None

-- each user value that lines assign to unit u fits it, and so does that which it has
abbrev pub FitUnit : Tree → ℕ → List LineMeaning → Type 0
FitUnit tree u meanings = All (λ meaning. IfSome (user_by_line u meaning) (λ x. IsTrue (user_fits tree u x))) meanings

-- lines over an assignment leave what a unit's user value says of symbol s if none of them says anything of it; otherwise they give
-- it what the last such line says
abbrev pub LinesAssign : Type 0
LinesAssign = (tree : Tree) (u s first : ℕ) (meanings : List LineMeaning) (users : List (Option UserValue)) → u < length users
    → FitUnit tree u meanings → IfSome (user_of users u) (λ x. IsTrue (user_fits tree u x))
    → (assigning_line u s first meanings ≡ None → said_to s (user_of (assigned_over meanings users) u) ≡ said_to s (user_of users u))
    × ((line : AssigningLine) → assigning_line u s first meanings ≡ Some line
    → (said_to s (user_of (assigned_over meanings users) u) ≡ Some line.user) × IsLastAssigning u s first meanings line)

-- what lines of a file of UTF-8 assign to a unit fits it, over a consistent tree, as `LinesAssign` and `FilesAssign` want it
abbrev pub LinesFitUnits : Type 0
LinesFitUnits = (format : FileFormat) (tree : Tree) (u : ℕ) (bytes : List ℕ) (meanings : List LineMeaning) → IsConsistent tree
    → has_utf8_lines bytes ≡ true → FileMeans format tree bytes meanings → FitUnit tree u meanings

-- a unit's user value gives no member both `y` and `n` after lines that each give none both
abbrev pub MembersHaveOneLine : Type 0
MembersHaveOneLine = (u s : ℕ) (meanings : List LineMeaning) (users : List (Option UserValue)) → u < length users
    → All (λ meaning. is_given_both s (user_by_line u meaning) ≡ false) meanings → is_given_both s (user_of users u) ≡ false
    → is_given_both s (user_of (assigned_over meanings users) u) ≡ false

-- each line that has a meaning gives no member both
abbrev pub LinesGiveOne : Type 0
LinesGiveOne = (format : FileFormat) (tree : Tree) (u s : ℕ) (line : List ℕ) (meaning : LineMeaning)
    → Means format tree line meaning → is_given_both s (user_by_line u meaning) ≡ false

-- the blamed names are in the expression
abbrev pub BlamedAreNamed : Type 0
BlamedAreNamed = (names : Environment) (above : Bool) (bound : Tri) (e : Expr)
    → All (λ name. Contains (names_in e) name) (blamed names above bound e)

-- the last file with a line that says something of symbol s of unit u, and its last such line
pub record IsLastAssigningPlace (u s first : ℕ) (files : List (List LineMeaning)) (place : AssigningPlace) : Type 0 where
  pub k : ℕ
  pub number : place.file ≡ first + k
  pub meanings : List LineMeaning
  pub is : slice_get files k ≡ Some meanings
  pub here : assigning_line u s 1 meanings ≡ Some place.line
  pub last : (j : ℕ) (later : List LineMeaning) → k < j → slice_get files j ≡ Some later → assigning_line u s 1 later ≡ None

-- and so for several files
abbrev pub FilesAssign : Type 0
FilesAssign = (tree : Tree) (u s first : ℕ) (files : List (List LineMeaning)) (users : List (Option UserValue)) → u < length users
    → All (FitUnit tree u) files → IfSome (user_of users u) (λ x. IsTrue (user_fits tree u x))
    → (assigning_place u s first files ≡ None → said_to s (user_of (all_over files users) u) ≡ said_to s (user_of users u))
    × ((place : AssigningPlace) → assigning_place u s first files ≡ Some place
    → (said_to s (user_of (all_over files users) u) ≡ Some place.line.user) × IsLastAssigningPlace u s first files place)

-- with another user value for one unit alone, the unit's value is what its rule gives under the values before
abbrev pub RuleGivesWhatIf : Type 0
RuleGivesWhatIf = (profile : Profile) (tree : Tree) (users others : List (Option UserValue)) (values changed : List UnitValue) (u : ℕ)
    → IsSettledTree tree → u < length tree.units
    → FitsUsers (length tree.units) (λ w x. IsTrue (user_fits tree w x)) others
    → ((w : ℕ) → w ≢ u → user_of others w ≡ user_of users w)
    → Solves (length tree.units) (rule profile tree) users values
    → Solves (length tree.units) (rule profile tree) others changed
    → slice_get changed u ≡ Some (rule profile tree u (user_of others u) values)

-- a visible bool or tristate can be set to a value exactly if, set to it alone, it has that value
abbrev pub AssignableIsTaken : Type 0
AssignableIsTaken = (profile : Profile) (tree : Tree) (users others : List (Option UserValue)) (values changed : List UnitValue) (u s : ℕ) (symbol : Symbol) (t : Tri)
    → IsSettledTree tree → slice_get tree.units u ≡ Some (of_symbol s) → slice_get tree.symbols s ≡ Some symbol
    → is_tri_kind symbol.kind ≡ true → tri_fits symbol.kind t ≡ true → is_visible tree values symbol ≡ true
    → FitsUsers (length tree.units) (λ w x. IsTrue (user_fits tree w x)) others
    → user_of others u ≡ Some (TriUser t) → ((w : ℕ) → w ≢ u → user_of others w ≡ user_of users w)
    → Solves (length tree.units) (rule profile tree) users values
    → Solves (length tree.units) (rule profile tree) others changed
    → (can_be profile tree symbol values t ≡ true) ↔ (slice_get changed u ≡ Some (TriValue t))

-- a choice can be set to a member exactly if, set to it alone, it has it
abbrev pub SelectableAreTaken : Type 0
SelectableAreTaken = (tree : Tree) (choice : Choice) (values : List UnitValue) (s : ℕ)
    → (can_select tree choice values s ≡ true) ↔ (choice_rule tree choice (Some (member_user tree.language s)) values ≡ Some s)

-- the plain spelling is read as the same tree
abbrev pub SpelledIsReadBack : Type 0
SpelledIsReadBack = (e : Expr) → IsPlain e → IsExpr ors (depth ors e) (spelling ors e) e

-- the text of the plain spelling, as a line of a tree, is read as its tokens, in both languages
abbrev pub SpellingIsReadAsTokens : Type 0
SpellingIsReadAsTokens = (language : Language) (e : Expr) → HasLineOperands e → IsReadAs language 0 (text_of_tokens (spelling ors e)) (spelling ors e)

-- so an expression that is printed is read back as the same tree
abbrev pub PrintedExpressionsAreReadBack : Type 0
PrintedExpressionsAreReadBack = (language : Language) (e : Expr) → IsPlain e → HasLineOperands e → depth ors e ≤ MAX_EXPR_DEPTH
    → (ps : List Lexeme) × (lexemes_from language 0 0 (text_of_tokens (spelling ors e)) ≡ Ok ps) × (read_expr ps ≡ Ok e)

-- names and quoted texts that are none of the constants are read back
abbrev pub OperandsAreReadBack : Type 0
OperandsAreReadBack = (x : List ℕ) → letter_value x ≡ None → IsReadBack (named x) × IsReadBack (quoted x)

-- what a prompt's condition lacks are the lacking parts of the lines that enclose it and of its own
abbrev pub PromptPartsAreLocated : Type 0
PromptPartsAreLocated = (names : Environment) (t : Tri) (through : Bool) (opened : List Group) (g : Group) (line : ℕ) (c : Option Expr) → is_n t ≡ false
    → lacking names t (prompt_condition (context through opened) g c) ≡ lacking_located names t (located_prompt (located_context through opened) g line c)

-- and so of a default's, a range's, a select's, an imply's
abbrev pub ConditionPartsAreLocated : Type 0
ConditionPartsAreLocated = (names : Environment) (t : Tri) (through : Bool) (opened : List Group) (g : Group) (line : ℕ) (c : Option Expr) → is_n t ≡ false
    → lacking names t (attribute_condition (context through opened) g c) ≡ lacking_located names t (located_condition (located_context through opened) g line c)

-- and of a definition's dependency
abbrev pub DependencyPartsAreLocated : Type 0
DependencyPartsAreLocated = (names : Environment) (t : Tri) (through : Bool) (opened : List Group) (g : Group) → is_n t ≡ false
    → lacking names t (dependency_of (context through opened) g) ≡ lacking_located names t (located_dependencies (located_context through opened) g)

-- The lines of a symbol are those of its conditions and attributes: by them each prompt's condition and each dependency lacks
-- what it lacks, and each default, range, select and imply has a place.
pub record AreLinesOf (names : Environment) (t : Tri) (symbol : Symbol) (lines : SymbolLines) : Type 0 where
  pub prompts : map (lacking names t) symbol.prompts ≡ map (lacking_located names t) lines.prompts
  pub direct : map (lacking names t) symbol.direct ≡ map (lacking_located names t) lines.direct
  pub defaults : length symbol.defaults ≡ length lines.defaults
  pub ranges : length symbol.ranges ≡ length lines.ranges
  pub selectors : length symbol.selectors ≡ length lines.selectors
  pub impliers : length symbol.impliers ≡ length lines.impliers

-- so are the lines of each symbol of a tree that is read
abbrev pub LinesAreOfSymbol : Type 0
LinesAreOfSymbol = (language : Language) (read : List Group) (name : List ℕ) (names : Environment) (t : Tri) → is_n t ≡ false
    → AreLinesOf names t (symbol_of language (contents_of read) name) (lines_of_symbol language (contents_of read) name)
