-- The first fault of a definition, of an attribute, and of lines.
use Rattle.kc_checks.proofs.Common.{◌≡◌, ℕ, suc, ◌+◌, ◌<◌, ◌≤◌, Bool, true, false, cond, ◌&&◌, ◌||◌, List, [], ◌∷◌, ◌++◌, length, get_or, drop, map, Option, Some, None, refl, ap, sym, ◌∙◌, arith, not, slice_get, is_some, is_none, bytes_eq, option_map, option_or, Language, Kind, Exprs, TreeFault}
use Rattle.kc_checks.proofs.Common.{default_of, prompt_of, Group, Line, GroupInContext, Contents, choice_of_symbol, is_first_definition, type_given, is_again_in_choice, is_no_member_kind, only_extends_member, definition_faults, attribute_faults, choice_faults, faults_at, faults_of_lines, is_no_member}
use Rattle.kc_checks.proofs.Common.{attribute_in, line_in, definition_kind, SymbolSummary, modules_name, CodeLine}
use Rattle.std.specs.List.{list_all}
use Rattle.std.proofs.Math.Seq.{drop-cons}
use Rattle.std.proofs.lemmas.List.{drop_all}
use Rattle.kc_tokens.specs.declared.language.Language.TheVariants.{Strict, Linux}
use Rattle.kc_tree_model.specs.declared.fault.TreeKind.{TreeKind}
use Rattle.kc_tree_model.specs.Statements.{Attribute}
use Rattle.kc_tree_model.specs.TreeFaults.{is_added_attribute, when, is_wrong_reverse_dependency}
use Rattle.kc_statements.specs.between.StatementViews.{ReadAttribute}
use Rattle.kc_tree_model.specs.declared.statement.Attribute.TheVariants as attributes
use Rattle.kc_checks.specs.checker.Kinds.{is_added_code, is_added_line, only_extends_member_code, typed_kind, choice_kind}
use Rattle.kc_checks.proofs.SymbolSummaries.{first_of_both}

-- the first of a list that has one kind if a test holds is this kind if the test holds, and `None` if not
pub first_of_one : (a : Bool) (j : TreeKind) → slice_get (when a j) 0 ≡ cond a (Some j) None
first_of_one true j = refl
first_of_one false j = refl

pub first_of_two : (a b : Bool) (j k : TreeKind) → slice_get (when a j ++ when b k) 0 ≡ cond a (Some j) (cond b (Some k) None)
first_of_two true b j k = refl
first_of_two false b j k = first_of_one b k

three : (a b c : Bool) (j k l : TreeKind) → slice_get (when a j ++ when b k ++ when c l) 0 ≡ cond a (Some j) (cond b (Some k) (cond c (Some l) None))
three true b c j k l = refl
three false b c j k l = first_of_two b c k l

four : (a b c d : Bool) (j k l m : TreeKind)
    → slice_get (when a j ++ when b k ++ when c l ++ when d m) 0 ≡ cond a (Some j) (cond b (Some k) (cond c (Some l) (cond d (Some m) None)))
four true b c d j k l m = refl
four false b c d j k l m = three b c d k l m

five : (a b c d e : Bool) (j k l m n : TreeKind)
    → slice_get (when a j ++ when b k ++ when c l ++ when d m ++ when e n) 0
    ≡ cond a (Some j) (cond b (Some k) (cond c (Some l) (cond d (Some m) (cond e (Some n) None))))
five true b c d e j k l m n = refl
five false b c d e j k l m n = four b c d e k l m n

six : (a b c d e f : Bool) (j k l m n o : TreeKind)
    → slice_get (when a j ++ when b k ++ when c l ++ when d m ++ when e n ++ when f o) 0 ≡ cond a (Some j)
    (cond b (Some k) (cond c (Some l) (cond d (Some m) (cond e (Some n) (cond f (Some o) None)))))
six true b c d e f j k l m n o = refl
six false b c d e f j k l m n o = five b c d e f k l m n o

-- whether a definition may follow that of a member
added_one : (old : Exprs) (a : ReadAttribute) → is_added_code a ≡ is_added_attribute (attribute_in old a)
added_one old (attributes.Typed k) = refl
added_one old x = refl

added_all : (old : Exprs) (ls : List CodeLine) → list_all is_added_line ls ≡ list_all (λ (l : Line). is_added_attribute l.attribute) (map (line_in old) ls)
added_all old [] = refl
added_all old (l ∷ ls) = ap (λ b. b && list_all is_added_line ls) (added_one old l.attribute) ∙ ap (λ b. is_added_attribute (attribute_in old l.attribute) && b)
    (added_all old ls)

not_some : (o : Option ℕ) → not (is_some o) ≡ is_none o
not_some None = refl
not_some (Some n) = refl

pub follow_is : (language : Language) (old : Exprs) (c : Contents) (name : List ℕ) (p : GroupInContext) (is_member is_again : Bool) (ls : List CodeLine)
    → is_member ≡ is_some p.choice → is_again ≡ is_again_in_choice c name p → p.group.attributes ≡ map (line_in old) ls
    → only_extends_member_code language is_member is_again ls ≡ only_extends_member language c name p
follow_is Strict old c name p is_member is_again ls m g a = refl
follow_is (Linux version) old c name p is_member is_again ls m g a =
    ap (λ b. (not is_member && list_all is_added_line ls) || b) g
    ∙ ap (λ b. b || is_again_in_choice c name p)
    (ap (λ b. not b && list_all is_added_line ls) m
    ∙ ap (λ b. b && list_all is_added_line ls) (not_some p.choice)
    ∙ ap (λ b. is_none p.choice && b) (added_all old ls ∙ ap (list_all (λ (l : Line). is_added_attribute l.attribute)) (sym a)))

-- the kind of fault found in a definition from its symbol's summary is the first of the model's faults of the definition
pub definition_is : (language : Language) (c : Contents) (p : GroupInContext) (name : List ℕ) (symbol_summary : SymbolSummary)
    (is_misfit is_first is_modules may_follow : Bool)
    → symbol_summary.given ≡ type_given c name → is_some symbol_summary.choice ≡ is_some (choice_of_symbol c name)
    → is_misfit ≡ (is_some p.choice && is_no_member_kind language (type_given c name))
    → is_first ≡ is_first_definition c name p → is_modules ≡ bytes_eq name modules_name → may_follow ≡ only_extends_member language c name p
    → definition_kind symbol_summary is_misfit is_first is_modules may_follow ≡ slice_get (definition_faults language c p name) 0
definition_is language c p name symbol_summary is_misfit is_first is_modules may_follow given choice misfit first modules follow =
    rw (given, choice, misfit, first, modules, follow) (sym (three _ _ _ _ _ _))

-- the kind of fault found in an attribute of a typed symbol is the first of the model's faults of the attribute
pub typed_is : (c : Contents) (name : List ℕ) (k : Kind) (prompted is_modules is_wrong : Bool) (a : Attribute) → is_modules ≡ bytes_eq name modules_name
    → is_wrong ≡ is_wrong_reverse_dependency c k a
    → typed_kind k prompted is_modules is_wrong a ≡ slice_get (attribute_faults c name (Some k) prompted a) 0
typed_is c name k prompted is_modules is_wrong a m w = rw (m, w) (sym (six _ _ _ _ _ _ _ _ _ _ _ _))

-- the kind of fault found in an attribute of a choice is the first of the model's faults of the attribute
pub choice_is : (members : List (List ℕ)) (prompted is_none : Bool) (a : Attribute) → is_none ≡ is_no_member members (default_of a)
    → choice_kind prompted is_none a ≡ slice_get (choice_faults members prompted a) 0
choice_is members prompted is_none a e = rw e (sym (first_of_two _ _ _ _))

-- the fault of a kind at a line of a group's file
abbrev pub fault_of : Group → ℕ → TreeKind → TreeFault
fault_of g line kind = record { file = Some g.at.file; line = line; kind = kind }

pub first_mapped : {A B : Type 0} (f : A → B) (xs : List A) → slice_get (map f xs) 0 ≡ option_map f (slice_get xs 0)
first_mapped f [] = refl
first_mapped f (x ∷ xs) = refl

pub line_first : (g : Group) (f : Bool → Attribute → List TreeKind) (prompted : Bool) (l : Line) (ls : List Line)
    → slice_get (faults_of_lines g f prompted (l ∷ ls)) 0 ≡ option_or (option_map (fault_of g l.number) (slice_get (f prompted l.attribute) 0))
    (slice_get (faults_of_lines g f (prompted || is_some (prompt_of l.attribute)) ls) 0)
line_first g f prompted l ls =
    first_of_both (faults_at g l.number (f prompted l.attribute)) (faults_of_lines g f (prompted || is_some (prompt_of l.attribute)) ls)
    ∙ ap (λ o. option_or o (slice_get (faults_of_lines g f (prompted || is_some (prompt_of l.attribute)) ls) 0))
    (first_mapped (fault_of g l.number) (f prompted l.attribute))

-- the first fault among attribute lines of a group, or `None`; the truth value is whether a prompt precedes them
abbrev pub first_left : Exprs → Group → (Bool → Attribute → List TreeKind) → Bool → List CodeLine → Option TreeFault
first_left e g f prompted lines = slice_get (faults_of_lines g f prompted (map (line_in e) lines)) 0

pub left_at : (e : Exprs) (g : Group) (f : Bool → Attribute → List TreeKind) (prompted : Bool) (lines : List CodeLine) (i : ℕ) (d : CodeLine) → i < length lines
    → first_left e g f prompted (drop i lines)
    ≡ option_or (option_map (fault_of g (get_or lines i d).number) (slice_get (f prompted (attribute_in e (get_or lines i d).attribute)) 0))
    (first_left e g f (prompted || is_some (prompt_of (attribute_in e (get_or lines i d).attribute))) (drop (suc i) lines))
left_at e g f prompted lines i d h =
    ap (λ ls. first_left e g f prompted ls) (drop-cons lines i d h) ∙ line_first g f prompted (line_in e (get_or lines i d))
    (map (line_in e) (drop (suc i) lines))

pub left_more : (e : Exprs) (g : Group) (f : Bool → Attribute → List TreeKind) (prompted prompted2 : Bool) (lines : List CodeLine) (i : ℕ) (l : CodeLine)
    → i < length lines → l ≡ get_or lines i l → None ≡ slice_get (f prompted (attribute_in e l.attribute)) 0
    → prompted2 ≡ (prompted || is_some (prompt_of (attribute_in e l.attribute)))
    → first_left e g f prompted (drop i lines) ≡ first_left e g f prompted2 (drop (i + 1) lines)
left_more e g f prompted prompted2 lines i l h at fault p =
    left_at e g f prompted lines i l h
    ∙ ap (λ (x : CodeLine). option_or (option_map (fault_of g x.number) (slice_get (f prompted (attribute_in e x.attribute)) 0))
    (first_left e g f (prompted || is_some (prompt_of (attribute_in e x.attribute))) (drop (suc i) lines))) (sym at)
    ∙ ap (λ o. option_or (option_map (fault_of g l.number) o) (first_left e g f (prompted || is_some (prompt_of (attribute_in e l.attribute)))
    (drop (suc i) lines))) (sym fault)
    ∙ ap (λ b. first_left e g f b (drop (suc i) lines)) (sym p)
    ∙ ap (λ n. first_left e g f prompted2 (drop n lines)) (let n : suc i ≡ i + 1 = omega arith in n)

pub left_reported : (e : Exprs) (g : Group) (f : Bool → Attribute → List TreeKind) (prompted : Bool) (lines : List CodeLine) (i : ℕ) (l : CodeLine)
    (kind : TreeKind)
    → i < length lines → l ≡ get_or lines i l → Some kind ≡ slice_get (f prompted (attribute_in e l.attribute)) 0
    → first_left e g f prompted (drop i lines) ≡ Some (fault_of g l.number kind)
left_reported e g f prompted lines i l kind h at fault =
    left_at e g f prompted lines i l h
    ∙ ap (λ (x : CodeLine). option_or (option_map (fault_of g x.number) (slice_get (f prompted (attribute_in e x.attribute)) 0))
    (first_left e g f (prompted || is_some (prompt_of (attribute_in e x.attribute))) (drop (suc i) lines))) (sym at)
    ∙ ap (λ o. option_or (option_map (fault_of g l.number) o) (first_left e g f (prompted || is_some (prompt_of (attribute_in e l.attribute)))
    (drop (suc i) lines))) (sym fault)

pub left_none : (e : Exprs) (g : Group) (f : Bool → Attribute → List TreeKind) (prompted : Bool) (lines : List CodeLine) (i : ℕ) → length lines ≤ i
    → first_left e g f prompted (drop i lines) ≡ None
left_none e g f prompted lines i h = ap (λ ls. first_left e g f prompted ls) (drop_all i lines h)
