-- The limits of statements.
use Rattle.std.proofs.Common.{IfErr}
use Rattle.kc_parser.proofs.Common.{◌≡◌, inl, ℕ, ◌<◌, ◌≤◌, true, false, not, ◌&&◌, List, length, Some, None, Result, Ok, Err, OnOk, refl, ap, sym, arith, nat_le, filter, filter_map, nat_tests, TreeKind, OutOfMemory, TooDeep, TooMany, Head, config, choice, menu, condition, head, Group, of_head}
use Rattle.kc_parser.proofs.Common.{open_blocks, opened_block, defined_name, opens_choice, FileSource, is_in_list, names_defined, MAX_SYMBOLS, with_group, ReaderState, at_line, limits, AppendsHead, is_full}
use Rattle.kc_expr.specs.Expr.{Expr}
use Rattle.kc_tree_model.specs.Limits.{is_long_name}
use Rattle.kc_value.specs.declared.limits.TheConstants.{MAX_OPEN_BLOCKS, MAX_CHOICES}
use Rattle.kc_parser.specs.checker.StateViews.{Describes}
use Rattle.kc_parser.proofs.AppendSteps.{place_among}

-- a call that appends a statement within the limits, or runs out of memory, has a result as `AppendsHead` requires
pub head_pushed : (r : FileSource) (file line : ℕ) (before : List Group) (h : Head) (new : ReaderState) (result : Result (Unit {0}) TreeKind)
    → limits before (head h) ≡ None
    → OnOk result (Describes r new (with_group (at_line file line) (of_head h) before)) → IfErr result (λ k. k ≡ OutOfMemory)
    → AppendsHead r file line before h new result
head_pushed r file line before h new (Ok u) l d m = (l, d)
head_pushed r file line before h new (Err k) l d m = inl m

pub menu_deep : (before : List Group) (title : List ℕ) → nat_le MAX_OPEN_BLOCKS (length (filter_map opened_block (open_blocks 0 before))) ≡ true
    → limits before (head (menu title)) ≡ Some TooDeep
menu_deep before title e = rw e refl

pub menu_fits : (before : List Group) (title : List ℕ) → nat_le MAX_OPEN_BLOCKS (length (filter_map opened_block (open_blocks 0 before))) ≡ false
    → limits before (head (menu title)) ≡ None
menu_fits before title e = rw e refl

pub if_deep : (before : List Group) (x : Expr) → nat_le MAX_OPEN_BLOCKS (length (filter_map opened_block (open_blocks 0 before))) ≡ true
    → limits before (head (condition x)) ≡ Some TooDeep
if_deep before x e = rw e refl

pub if_fits : (before : List Group) (x : Expr) → nat_le MAX_OPEN_BLOCKS (length (filter_map opened_block (open_blocks 0 before))) ≡ false
    → limits before (head (condition x)) ≡ None
if_fits before x e = rw e refl

pub choice_deep : (before : List Group) → nat_le MAX_OPEN_BLOCKS (length (filter_map opened_block (open_blocks 0 before))) ≡ true
    → limits before (head choice) ≡ Some TooDeep
choice_deep before e = rw e refl

pub choice_many : (before : List Group) → nat_le MAX_OPEN_BLOCKS (length (filter_map opened_block (open_blocks 0 before))) ≡ false
    → nat_le MAX_CHOICES (length (filter opens_choice before)) ≡ true → limits before (head choice) ≡ Some TooMany
choice_many before e f = rw (e, f) refl

pub choice_fits : (before : List Group) → nat_le MAX_OPEN_BLOCKS (length (filter_map opened_block (open_blocks 0 before))) ≡ false
    → nat_le MAX_CHOICES (length (filter opens_choice before)) ≡ false → limits before (head choice) ≡ None
choice_fits before e f = rw (e, f) refl

pub config_long : (before : List Group) (name : List ℕ) → is_long_name name ≡ true → limits before (head (config name)) ≡ Some TooMany
config_long before name e = rw e refl

full_by : (before : List Group) (name : List ℕ)
    → (not (is_in_list name (filter_map defined_name before)) && nat_le MAX_SYMBOLS (length (names_defined before))) ≡ is_full name (names_defined before)
full_by before name = ap (λ b. not b && nat_le MAX_SYMBOLS (length (names_defined before))) (sym (place_among name before))

pub config_full : (before : List Group) (name : List ℕ) → is_long_name name ≡ false → is_full name (names_defined before) ≡ true
    → limits before (head (config name)) ≡ Some TooMany
config_full before name e f = rw (e, full_by before name, f) refl

pub config_fits : (before : List Group) (name : List ℕ) → is_long_name name ≡ false → is_full name (names_defined before) ≡ false
    → limits before (head (config name)) ≡ None
config_fits before name e f = rw (e, full_by before name, f) refl

pub choices_many : (n k : ℕ) → k ≡ n → MAX_CHOICES ≤ k → nat_le MAX_CHOICES n ≡ true
choices_many n k e h = grind (arith, nat_tests)

pub choices_few : (n k : ℕ) → k ≡ n → k < MAX_CHOICES → nat_le MAX_CHOICES n ≡ false
choices_few n k e h = grind (arith, nat_tests)

pub name_long : (name : List ℕ) (n : ℕ) → n ≡ length name → 256 < n → is_long_name name ≡ true
name_long name n e h = grind (arith, nat_tests)

pub name_short : (name : List ℕ) (n : ℕ) → n ≡ length name → n ≤ 256 → is_long_name name ≡ false
name_short name n e h = grind (arith, nat_tests)
