-- What the strict language reads without a fault, the language of Linux reads the same.
use Rattle.kc_tree_model.proofs.Common.{◌≡◌, ℕ, zero, suc, Bool, true, false, not, ◌&&◌, ◌||◌, cond, List, [], ◌∷◌, ◌++◌, length, Option, Some, None, Result, Ok, Err, refl, ap, sym, ◌∙◌, nat_lt, slice_get, flat_map, is_some, is_none, bytes_eq, codes, option_or, Lexeme, lexemes_from, ExprFault}
use Rattle.kc_tree_model.proofs.Common.{Language, Strict, Linux, LinuxVersion, Unknown, strict_in_linux, Kind, MAX_TREE_BYTES, MAX_LINE_BYTES, MAX_OPEN_FILES, TreeKind, NotUtf8, LineTooLong, Misplaced, StrayEnd, LeftOut, TooDeep, TooMany, NoType, ChoiceMember, ModulesType, TreeFault, Keyword}
use Rattle.kc_tree_model.proofs.Common.{lookup, Files, file_at, index_of_file, LogicalLine, keyword_of, is_quoted_kind, is_the_word, config, Statement, statement_of, ◌>>=◌, Group, GroupHead, Position, of_head, file_end, is_allowed, is_left_out, is_stray_end, FileSource, is_too_deep, is_too_many}
use Rattle.kc_tree_model.proofs.Common.{Outcome, fault_if, statement_by_keyword, statement_by_word, statement_of_tokens, statement_or_fault, with_statement, with_group, path_to_read, continue_after_file, continue_after_source, continue_after_statement, continue_after_line, read_lines, read_file}
use Rattle.kc_tree_model.proofs.Common.{read_root, GroupInContext, Contents, contents_of, choice_of_symbol, is_first_definition, type_given, when, is_no_member_kind, only_extends_member, definition_faults, faults_of_head, faults_of_group}
use Rattle.std.specs.Str.{is_utf8}
use Rattle.kc_tokens.specs.declared.language.LinuxVersion.TheVariants.{V6_1, V6_12}
use Rattle.kc_tokens.specs.Languages.{is_linux_6_12}
use Rattle.kc_expr.specs.Expr.{modules as modules_name}
use Rattle.kc_value.specs.declared.value.Kind.TheVariants.{Bool as Boolean, Tristate, Text, Int, Hex}
use Rattle.kc_tree_model.specs.declared.keyword.Keyword.TheVariants as words
use Rattle.kc_tree_model.specs.Trees.{in_language}
use Rattle.kc_tree_model.specs.LogicalLines.{lines_of}
use Rattle.kc_tree_model.specs.Placement.{first_is}
use Rattle.kc_tree_model.specs.Limits.{source_fault}
use Rattle.kc_tree_model.specs.TreeReading.{statement_on_line, reading}
use Rattle.kc_tree_model.specs.Contents.{tree_of_groups, tree_of_files}
use Rattle.kc_tree_model.specs.TreeFaults.{is_other_kind, kind_of, attribute_faults, faults_at, faults_of_lines, tree_faults, first_tree_fault}
use Rattle.kc_tree_model.proofs.NestedTrees.LineFits.{fault_if_ok}
use Rattle.kc_tree_model.proofs.Consistency.Definitions.{nothing_left, no_first, nothing_mapped, not_when}

-- but for 6.12, the tree of the same statements is the same
same_tree : (version : LinuxVersion) (read : List Group) → is_linux_6_12 (Linux version) ≡ false
    → tree_of_groups (Linux version) read ≡ in_language (Linux version) (tree_of_groups Strict read)
unfolding tree_of_groups
same_tree Unknown read h = refl
same_tree V6_1 read h = refl
same_tree V6_12 read h = cc

kept_option : (env bare list none : Bool) → ((env && (true || bare)) || list || none) ≡ false → ((env && (false || bare)) || list || none) ≡ false
kept_option true bare list none h = cc
kept_option false bare list none h = h

-- in any version of the language of Linux
module _ (version : LinuxVersion) where
  -- a line that isn't left out of the strict language
  kept : (read : List Group) (k : Keyword) (ts : List Lexeme) → is_left_out Strict read k ts ≡ false → is_left_out (Linux version) read k ts ≡ false
  kept read words.Config ts h = h
  kept read words.Choice ts h = h
  kept read words.Menu ts h = h
  kept read words.If ts h = h
  kept read words.Comment ts h = h
  kept read words.Source ts h = h
  kept read words.Mainmenu ts h = h
  kept read (words.End b) ts h = h
  kept read (words.Type Boolean) ts h = h
  kept read (words.Type Tristate) ts h = h
  kept read (words.Type Text) ts h = h
  kept read (words.Type Int) ts h = h
  kept read (words.Type Hex) ts h = h
  kept read (words.DefaultType k) ts h = refl
  kept read words.Prompt ts h = h
  kept read words.Default ts h = h
  kept read words.Depends ts h = h
  kept read words.Select ts h = h
  kept read words.Imply ts h = h
  kept read words.Range ts h = h
  kept read words.Visible ts h = h
  kept read words.Help ts h = h
  kept read words.Modules ts h = h
  kept read words.Option [] h = refl
  kept read words.Option (t ∷ ts) h =
      kept_option (is_the_word (codes "env") t) (not (first_is (λ u. is_quoted_kind u.kind) ts)) (is_the_word (codes "defconfig_list") t) (is_the_word (codes "allnoconfig_y") t) h
  kept read words.Optional ts h = refl
  kept read words.LeftOut ts h = h

  -- the statement of a line, once it is known whether it is left out
  abbrev after_test : List Group → Keyword → List Lexeme → Bool → Result (Option Statement) TreeKind
  after_test read k ts left_out =
      fault_if left_out LeftOut >>= λ _. fault_if (not (is_allowed read k)) Misplaced >>= λ _. fault_if (is_stray_end read k) StrayEnd >>= λ _.
      statement_of k ts >>= λ s. fault_if (is_too_deep read s) TooDeep >>= λ _. fault_if (is_too_many read s) TooMany >>= λ _. Ok (Some s)

  keyword_same : (read : List Group) (k : Keyword) (ts : List Lexeme) (s : Option Statement) → statement_by_keyword Strict read k ts ≡ Ok s
      → statement_by_keyword (Linux version) read k ts ≡ Ok s
  keyword_same read k ts s h =
      let strict : is_left_out Strict read k ts ≡ false = (fault_if_ok (is_left_out Strict read k ts) LeftOut _ s h).0 in
      ap (after_test read k ts) (kept read k ts strict) ∙ sym (ap (after_test read k ts) strict) ∙ h

  word_same : (read : List Group) (w : Option Keyword) (ts : List Lexeme) (s : Option Statement) → statement_by_word Strict read ts w ≡ Ok s
      → statement_by_word (Linux version) read ts w ≡ Ok s
  word_same read None ts s h = cc
  word_same read (Some k) ts s h = keyword_same read k ts s h

  tokens_same : (read : List Group) (ts : List Lexeme) (s : Option Statement) → statement_of_tokens Strict read ts ≡ Ok s
      → statement_of_tokens (Linux version) read ts ≡ Ok s
  tokens_same read [] s h = h
  tokens_same read (t ∷ ts) s h = word_same read (keyword_of t) ts s h

  lexed_same : (read : List Group) (text : List ℕ) (r : Result (List Lexeme) ExprFault) (s : Option Statement) → lexemes_from Strict 0 0 text ≡ r
      → statement_or_fault Strict read r ≡ Ok s → statement_or_fault (Linux version) read (lexemes_from (Linux version) 0 0 text) ≡ Ok s
  lexed_same read text (Err e) s l h = cc
  lexed_same read text (Ok ts) s l h = ap (statement_or_fault (Linux version) read) (strict_in_linux version 0 0 text ts l) ∙ tokens_same read ts s h

  past_all : (a b c : Bool) (x y : Result (Option Statement) TreeKind) (s : Option Statement) → (x ≡ Ok s → y ≡ Ok s)
      → cond a (Err LineTooLong) (cond b (Err NotUtf8) (cond c (Ok None) x)) ≡ Ok s → cond a (Err LineTooLong) (cond b (Err NotUtf8) (cond c (Ok None) y)) ≡ Ok s
  past_all true b c x y s f h = cc
  past_all false true c x y s f h = cc
  past_all false false true x y s f h = h
  past_all false false false x y s f h = f h

  line_same : (read : List Group) (l : LogicalLine) (s : Option Statement) → statement_on_line Strict read l ≡ Ok s → statement_on_line (Linux version) read l ≡ Ok s
  unfolding statement_on_line
  line_same read l s h =
      past_all (nat_lt MAX_LINE_BYTES (length l.text)) (not (is_utf8 l.text)) l.help (statement_or_fault Strict read (lexemes_from Strict 0 0 l.text))
      (statement_or_fault (Linux version) read (lexemes_from (Linux version) 0 0 l.text)) s (lexed_same read l.text (lexemes_from Strict 0 0 l.text) s refl) h

  -- these paths and bytes as files in a language
  abbrev pub files_in : Language → List (List ℕ × List ℕ) → Files
  files_in language list = record { language = language; list = list }

  abbrev origin : Language → List (List ℕ × List ℕ) → List ℕ → FileSource
  origin language list root = record {
    language = language;
    bytes = file_at (files_in language list);
    number = index_of_file (files_in language list);
    root = root;
  }

  -- a reading without a fault is the other reading, too
  abbrev Alike : (f g : List Group → Outcome) → Type 0
  Alike f g = (read : List Group) → (f read).fault ≡ None → g read ≡ f read

  unfailed : (p : List Group → Outcome) (at : Position) (o : Outcome) (k : Option TreeFault) → o.fault ≡ k → (continue_after_file p at o k).fault ≡ None
      → o.fault ≡ None
  unfailed p at o (Some t) e h = h
  unfailed p at o None e h = e

  module _ (list : List (List ℕ × List ℕ)) (root : List ℕ) (f g : List ℕ → List Group → Outcome) (within : (path : List ℕ) → Alike (f path) (g path)) where
    alike_after : (p q : List Group → Outcome) (at : Position) (o : Outcome) (k : Option TreeFault) → Alike p q → (continue_after_file p at o k).fault ≡ None
        → continue_after_file q at o k ≡ continue_after_file p at o k
    alike_after p q at o (Some t) agree h = refl
    alike_after p q at o None agree h = agree (with_group at file_end o.read) h

    alike_source : (p q : List Group → Outcome) (at : Position) (path : List ℕ) (read : List Group) (k : Option TreeKind) → Alike p q
        → (continue_after_source f p at path read k).fault ≡ None → continue_after_source g q at path read k ≡ continue_after_source f p at path read k
    alike_source p q at path read (Some t) agree h = refl
    alike_source p q at path read None agree h =
        let none = unfailed p at (f path read) (f path read).fault refl h in
        ap (λ (o : Outcome). continue_after_file q at o o.fault) (within path read none) ∙ alike_after p q at (f path read) (f path read).fault agree h

    alike_statement : (p q : List Group → Outcome) (at : Position) (read : List Group) (s : Option Statement) (path : Option (List ℕ)) → Alike p q
        → (continue_after_statement f p (origin Strict list root) at read s path).fault ≡ None
        → continue_after_statement g q (origin (Linux version) list root) at read s path ≡ continue_after_statement f p (origin Strict list root) at read s path
    unfolding source_fault
    alike_statement p q at read s None agree h = agree (with_statement at s read) h
    alike_statement p q at read s (Some path) agree h = alike_source p q at path (with_statement at s read)
        (source_fault (origin Strict list root) read path) agree h

    alike_line : (p q : List Group → Outcome) (at : Position) (read : List Group) (x y : Result (Option Statement) TreeKind)
        → ((s : Option Statement) → x ≡ Ok s → y ≡ Ok s) → Alike p q → (continue_after_line f p (origin Strict list root) at read x).fault ≡ None
        → continue_after_line g q (origin (Linux version) list root) at read y ≡ continue_after_line f p (origin Strict list root) at read x
    alike_line p q at read (Err k) y same agree h = cc
    alike_line p q at read (Ok s) y same agree h = ap (continue_after_line g q (origin (Linux version) list root) at read) (same s refl)
        ∙ alike_statement p q at read s (path_to_read s) agree h

    alike_lines : (file : ℕ) (ls : List LogicalLine) → Alike (read_lines f (origin Strict list root) file ls) (read_lines g (origin (Linux version) list root) file ls)
    alike_lines file [] = λ read h. refl
    alike_lines file (l ∷ ls) = λ read h.
        alike_line (read_lines f (origin Strict list root) file ls) (read_lines g (origin (Linux version) list root) file ls) (record { file = file; line = l.number }) read
        (statement_on_line Strict read l) (statement_on_line (Linux version) read l) (line_same read l) (alike_lines file ls) h

  alike_file : (n : ℕ) (list : List (List ℕ × List ℕ)) (root path : List ℕ) → Alike (read_file n (origin Strict list root) path)
      (read_file n (origin (Linux version) list root) path)
  alike_file zero list root path = λ read h. refl
  alike_file (suc n) list root path =
      alike_lines list root (read_file n (origin Strict list root)) (read_file n (origin (Linux version) list root)) (λ p. alike_file n list root p)
      (index_of_file (files_in Strict list) path) (lines_of (elim (lookup (bytes_eq path) list) [ None ↦ [] | Some bytes ↦ bytes ]))

  alike_either : (b : Bool) (x y z : Outcome) → (y.fault ≡ None → z ≡ y) → (cond b x y).fault ≡ None → cond b x z ≡ cond b x y
  alike_either true x y z f h = refl
  alike_either false x y z f h = f h

  alike_root : (list : List (List ℕ × List ℕ)) (root : List ℕ) (o : Option (List ℕ)) → (read_root (origin Strict list root) o).fault ≡ None
      → read_root (origin (Linux version) list root) o ≡ read_root (origin Strict list root) o
  alike_root list root None h = refl
  alike_root list root (Some bytes) h = alike_either (nat_lt MAX_TREE_BYTES (length bytes)) _ (read_file MAX_OPEN_FILES (origin Strict list root) root [])
      (read_file MAX_OPEN_FILES (origin (Linux version) list root) root []) (alike_file MAX_OPEN_FILES list root root []) h

  reading_same : (list : List (List ℕ × List ℕ)) (root : List ℕ) → (reading (files_in Strict list) root).fault ≡ None
      → reading (files_in (Linux version) list) root ≡ reading (files_in Strict list) root
  unfolding reading
  reading_same list root h = alike_root list root (lookup (bytes_eq root) list) h

  -- no fault of the whole tree comes to those of the strict language
  wider_kinds : (b : Bool) (given : Option Kind) → (b && is_no_member_kind Strict given) ≡ false
      → (b && is_no_member_kind (Linux version) given) ≡ false
  wider_kinds false given h = refl
  wider_kinds true None h = refl
  wider_kinds true (Some Boolean) h = refl
  wider_kinds true (Some Tristate) h = refl
  wider_kinds true w h = h

  member_test : (m n x y : Bool) → (m ≡ false → n ≡ false) → (m || (x && true)) ≡ false → (n || (x && y)) ≡ false
  member_test true n x y w h = cc
  member_test false true x y w h = let e = w refl in cc
  member_test false false true y w h = cc
  member_test false false false y w h = refl

  module _ (c : Contents) (p : GroupInContext) where
    definition_same : (name : List ℕ) → definition_faults Strict c p name ≡ [] → definition_faults (Linux version) c p name ≡ []
    definition_same name h =
        let n = is_first_definition c name p && is_none (kind_of c name) in
        let given = type_given c name in
        let m = is_some p.choice && is_no_member_kind Strict given in
        let x = not (is_first_definition c name p) && is_some (choice_of_symbol c name) in
        let d = is_first_definition c name p && bytes_eq name modules_name && is_other_kind Boolean (type_given c name) in
        let strict : (m || (x && true)) ≡ false = not_when _ ChoiceMember (nothing_left _ _ (nothing_left _ _ h).0).1 in
        ap (λ b. when n NoType ++ when b ChoiceMember ++ when d ModulesType) (member_test m (is_some p.choice && is_no_member_kind (Linux version) given) x (not (only_extends_member (Linux version) c name p))
        (wider_kinds (is_some p.choice) given) strict ∙ sym strict) ∙ h

    lines_same : (name : List ℕ) → faults_of_head Strict c p (config name) ≡ [] → faults_of_head (Linux version) c p (config name) ≡ []
    lines_same name h =
        let parts = nothing_left (faults_at p.group p.group.at.line (definition_faults Strict c p name))
        (faults_of_lines p.group (attribute_faults c name (kind_of c name)) false p.group.attributes) h in
        let own = nothing_mapped _ (definition_faults Strict c p name) parts.0 in
        ap (λ ks. faults_at p.group p.group.at.line ks ++ faults_of_lines p.group (attribute_faults c name (kind_of c name)) false p.group.attributes)
        (definition_same name own ∙ sym own) ∙ h

    head_same : (w : GroupHead) → elim w as (λ _. List TreeFault) [ of_head h ↦ faults_of_head Strict c p h | file_end ↦ [] ] ≡ []
        → elim w as (λ _. List TreeFault) [ of_head h ↦ faults_of_head (Linux version) c p h | file_end ↦ [] ] ≡ []
    head_same (of_head (config name)) h = lines_same name h
    head_same w h = h

  groups_same : (c : Contents) (ps : List GroupInContext) → flat_map (faults_of_group Strict c) ps ≡ [] → flat_map (faults_of_group (Linux version) c) ps ≡ []
  groups_same c [] h = refl
  groups_same c (p ∷ ps) h =
      let parts = nothing_left (faults_of_group Strict c p) (flat_map (faults_of_group Strict c) ps) h in
      ap (λ fs. fs ++ flat_map (faults_of_group (Linux version) c) ps) (head_same c p p.group.head parts.0) ∙ groups_same c ps parts.1

  -- the parts of a tree without a fault
  both_none : (o : Outcome) (k : Option TreeFault) (t : Option TreeFault) → o.fault ≡ k → option_or k t ≡ None
      → (o.fault ≡ None) × (t ≡ None)
  both_none o None t e h = (e, h)
  both_none o (Some f) t e h = cc

  pub strict_tree_in_linux : (list : List (List ℕ × List ℕ)) (root : List ℕ) → first_tree_fault (files_in Strict list) root ≡ None
      → (first_tree_fault (files_in (Linux version) list) root ≡ None) × (reading (files_in (Linux version) list) root ≡ reading (files_in Strict list) root)
  unfolding first_tree_fault tree_faults
  strict_tree_in_linux list root h =
      let o = reading (files_in Strict list) root in
      let none = both_none o o.fault (slice_get (tree_faults Strict o.read) 0) refl h in
      let same = reading_same list root none.0 in
      let c = contents_of o.read in
      let faultless = groups_same c c.places (no_first (flat_map (faults_of_group Strict c) c.places) none.1) in (
        ap (λ (x : Outcome). option_or x.fault (slice_get (tree_faults (Linux version) x.read) 0)) same
            ∙ ap (λ k. option_or k (slice_get (tree_faults (Linux version) o.read) 0)) none.0
            ∙ ap (λ (fs : List TreeFault). slice_get fs 0) faultless,
        same,
      )

  pub strict_tree_same : (list : List (List ℕ × List ℕ)) (root : List ℕ) → is_linux_6_12 (Linux version) ≡ false
      → first_tree_fault (files_in Strict list) root ≡ None
      → tree_of_files (files_in (Linux version) list) root ≡ in_language (Linux version) (tree_of_files (files_in Strict list) root)
  unfolding tree_of_files
  strict_tree_same list root other h =
      ap (λ (x : Outcome). tree_of_groups (Linux version) x.read) (strict_tree_in_linux list root h).1
      ∙ same_tree version (reading (files_in Strict list) root).read other
