-- The line that asks is the last that assigns.
use Rattle.std.proofs.Common.{slice_set}
use Rattle.std.specs.Prelude.{⊤}
use Rattle.kc_reasons_model.proofs.Common.{◌≡◌, ℕ, zero, suc, ◌+◌, ◌<◌, Bool, true, false, not, ◌||◌, cond, eqb, List, [], ◌∷◌, ◌++◌, filter, append-nil, subst, Option, Some, None, IsTrue, IfSome, length, slice_get, refl, sym, ◌∙◌, ap, arith, ◌==◌, AllByRecursion, eqb-true, false≢true, true≢false}
use Rattle.kc_reasons_model.proofs.Common.{and_parts, not-true, filter-append, recursion_from_All, user_of, Language, is_linux_6_12, Tree, Choice, Symbol, UserValue, MemberLine, is_listed, merged_lines, unit_user_fits, symbol_user_fits, choice_user_fits, option_or, LineMeaning, assigns}
use Rattle.kc_reasons_model.proofs.Common.{assigns_escaped, merged_user, assigned, assigned_over, if_any, said_to, user_by_line, AssigningLine, assigning_line, AssigningPlace, place_giving, FitUnit, assigned_length}
use Rattle.std.proofs.lemmas.Bool.{eqb-false}
use Rattle.std.proofs.lemmas.List.{get_or-set_same, get_or-set_other}
use Rattle.kc_tree_model.specs.declared.ids.Unit.{Unit as TreeUnit}
use Rattle.kc_tree_model.specs.declared.ids.Unit.TheVariants.{Symbol as of_symbol, Choice as of_choice}
use Rattle.kc_rules_model.specs.declared.values.UserValue.TheVariants.{Tri as TriUser, Text as TextUser, Member as MemberUser, Lines as LinesUser}
use Rattle.kc_rules_model.specs.Shapes.{user_fits}
use Rattle.kc_dotconfig_model.proofs.MergedUsers.{file_over as file_merged}
use Rattle.kc_dotconfig_model.specs.ConfigFiles.{merged_files}
use Rattle.kc_reasons_model.specs.AssigningLines.{said_of, line_giving, assigning_place, all_over, FilesAreOverAssignments}
use Rattle.kc_reasons_model.specs.Laws.{IsLastAssigning, LinesAssign, IsLastAssigningPlace, FilesAssign}
use Rattle.kc_dotconfig_model.proofs.MergedUsers.{file_length}

-- ---- the units that have assignments of members

abbrev is_lines : UserValue → Bool
is_lines (LinesUser lines) = true
is_lines _ = false

abbrev has_lines : Tree → Option TreeUnit → Bool
has_lines tree (Some (of_choice c)) = is_linux_6_12 tree.language
has_lines tree _ = false

abbrev IsSorted : Bool → Option UserValue → Type 0
IsSorted b None = ⊤
IsSorted b (Some x) = is_lines x ≡ b

of_choice_lines : (language : Language) (o : Option Choice) (x : UserValue) → choice_user_fits language o x ≡ true → is_lines x ≡ is_linux_6_12 language
of_choice_lines language o (LinesUser lines) fits = sym (and_parts (is_linux_6_12 language) _ fits).0
of_choice_lines language o (MemberUser s) fits = sym (not-true (is_linux_6_12 language) (and_parts (not (is_linux_6_12 language)) _ fits).0)
of_choice_lines language o _ fits = absurd (false≢true fits)

of_symbol_lines : (o : Option Symbol) (x : UserValue) → symbol_user_fits o x ≡ true → is_lines x ≡ false
of_symbol_lines None (LinesUser lines) fits = absurd (false≢true fits)
of_symbol_lines (Some symbol) (LinesUser lines) fits = absurd (false≢true fits)
of_symbol_lines o _ fits = refl

of_unit_lines : (tree : Tree) (o : Option TreeUnit) (x : UserValue) → unit_user_fits tree o x ≡ true → is_lines x ≡ has_lines tree o
of_unit_lines tree None x fits = absurd (false≢true fits)
of_unit_lines tree (Some (of_symbol s)) x fits = of_symbol_lines (slice_get tree.symbols s) x fits
of_unit_lines tree (Some (of_choice c)) x fits = of_choice_lines tree.language (slice_get tree.choices c) x fits

sorted : (tree : Tree) (u : ℕ) (o : Option UserValue) → IfSome o (λ x. IsTrue (user_fits tree u x)) → IsSorted (has_lines tree (slice_get tree.units u)) o
unfolding user_fits
sorted tree u None fits = tt
sorted tree u (Some x) fits = of_unit_lines tree (slice_get tree.units u) x fits

-- ---- one user value over another

or_none : (o : Option UserValue) → o ≡ option_or o None
or_none None = refl
or_none (Some x) = refl

module _ (s : ℕ) (later : List MemberLine) where
  abbrev of_s : MemberLine → Bool
  of_s l = l.member == s

  abbrev is_kept : MemberLine → Bool
  is_kept l = not (is_listed later l.member)

  none_kept : is_listed later s ≡ true → (earlier : List MemberLine) → filter of_s (filter is_kept earlier) ≡ []
  none_kept e [] = refl
  none_kept e (l ∷ earlier) = go (is_kept l) refl (none_kept e earlier) where
    go : (b : Bool) → is_kept l ≡ b → filter of_s (filter is_kept earlier) ≡ [] → filter of_s (cond b (l ∷ filter is_kept earlier) (filter is_kept earlier)) ≡ []
    go false f rest = rest
    go true f rest = at (l.member == s) refl where
      at : (c : Bool) → (l.member == s) ≡ c → cond c (l ∷ filter of_s (filter is_kept earlier)) (filter of_s (filter is_kept earlier)) ≡ []
      at false g = rest
      at true g = absurd (true≢false (sym f ∙ ap (λ k. not (is_listed later k)) (eqb-true l.member s g) ∙ ap not e))

  all_kept : is_listed later s ≡ false → (earlier : List MemberLine) → filter of_s (filter is_kept earlier) ≡ filter of_s earlier
  all_kept e [] = refl
  all_kept e (l ∷ earlier) = go (l.member == s) refl (is_kept l) refl (all_kept e earlier) where
    go : (c : Bool) → (l.member == s) ≡ c → (b : Bool) → is_kept l ≡ b → filter of_s (filter is_kept earlier) ≡ filter of_s earlier
        → filter of_s (cond b (l ∷ filter is_kept earlier) (filter is_kept earlier)) ≡ cond c (l ∷ filter of_s earlier) (filter of_s earlier)
    go c g true f rest = ap (λ d. cond d (l ∷ filter of_s (filter is_kept earlier)) (filter of_s (filter is_kept earlier))) g ∙ ap (λ xs. cond c (l ∷ xs) xs) rest
    go false g false f rest = rest
    go true g false f rest = absurd (true≢false (sym (ap not e) ∙ ap (λ k. not (is_listed later k)) (sym (eqb-true l.member s g)) ∙ f))

  not_listed : (lines : List MemberLine) → is_listed lines s ≡ false → filter of_s lines ≡ []
  not_listed [] e = refl
  not_listed (l ∷ lines) e = go (l.member == s) e (not_listed lines) where
    go : (c : Bool) → (c || is_listed lines s) ≡ false → (is_listed lines s ≡ false → filter of_s lines ≡ []) → cond c (l ∷ filter of_s lines) (filter of_s lines) ≡ []
    go true e rest = absurd (true≢false e)
    go false e rest = rest e

  listed_there : (lines : List MemberLine) → is_listed lines s ≡ true → (o : Option UserValue) → if_any (filter of_s lines) ≡ option_or (if_any (filter of_s lines)) o
  listed_there [] e o = absurd (false≢true e)
  listed_there (l ∷ lines) e o = go (l.member == s) e (λ f. listed_there lines f o) where
    go : (c : Bool) → (c || is_listed lines s) ≡ true → (is_listed lines s ≡ true → if_any (filter of_s lines) ≡ option_or (if_any (filter of_s lines)) o)
        → if_any (cond c (l ∷ filter of_s lines) (filter of_s lines)) ≡ option_or (if_any (cond c (l ∷ filter of_s lines) (filter of_s lines))) o
    go true e rest = refl
    go false e rest = rest e

  lines_said : (earlier : List MemberLine) → said_of s (LinesUser (merged_lines later earlier)) ≡ option_or (said_of s (LinesUser later)) (said_of s (LinesUser earlier))
  lines_said earlier = ap if_any (filter-append of_s (filter is_kept earlier) later) ∙ go (is_listed later s) refl where
    go : (b : Bool) → is_listed later s ≡ b → if_any (filter of_s (filter is_kept earlier) ++ filter of_s later) ≡ option_or (if_any (filter of_s later)) (if_any (filter of_s earlier))
    go true e = ap (λ xs. if_any (xs ++ filter of_s later)) (none_kept e earlier) ∙ listed_there later e (if_any (filter of_s earlier))
    go false e =
        ap (λ xs. if_any (filter of_s (filter is_kept earlier) ++ xs)) (not_listed later e) ∙ ap if_any (append-nil (filter of_s (filter is_kept earlier))) ∙ ap if_any (all_kept e earlier)
        ∙ ap (λ xs. option_or (if_any xs) (if_any (filter of_s earlier))) (sym (not_listed later e))

over_said : (b : Bool) (s : ℕ) (x : UserValue) (o : Option UserValue) → is_lines x ≡ b → IsSorted b o → said_of s (merged_user x o) ≡ option_or (said_of s x) (said_to s o)
over_said b s (LinesUser later) None e f = or_none (said_of s (LinesUser later))
over_said b s (LinesUser later) (Some (LinesUser earlier)) e f = lines_said s later earlier
over_said b s (LinesUser later) (Some (TriUser t)) e f = absurd (false≢true (f ∙ sym e))
over_said b s (LinesUser later) (Some (TextUser text)) e f = absurd (false≢true (f ∙ sym e))
over_said b s (LinesUser later) (Some (MemberUser m)) e f = absurd (false≢true (f ∙ sym e))
over_said b s _ o e f = refl

over_sorted : (b : Bool) (x : UserValue) (o : Option UserValue) → is_lines x ≡ b → IsSorted b o → is_lines (merged_user x o) ≡ b
over_sorted b (LinesUser later) None e f = e
over_sorted b (LinesUser later) (Some (LinesUser earlier)) e f = e
over_sorted b (LinesUser later) (Some (TriUser t)) e f = f
over_sorted b (LinesUser later) (Some (TextUser text)) e f = f
over_sorted b (LinesUser later) (Some (MemberUser m)) e f = f
over_sorted b _ o e f = e

-- what a line gives a unit, merged with what it has
abbrev pub merged_if_given : Option UserValue → Option UserValue → Option UserValue
merged_if_given None o = o
merged_if_given (Some x) o = Some (merged_user x o)

set_user : (u w : ℕ) (x : UserValue) (users : List (Option UserValue)) → u < length users
    → user_of (slice_set users w (Some (merged_user x (user_of users w)))) u ≡ merged_if_given (cond (eqb w u) (Some x) None) (user_of users u)
set_user u w x users inside = go (eqb w u) refl where
  go : (c : Bool) → eqb w u ≡ c → user_of (slice_set users w (Some (merged_user x (user_of users w)))) u ≡ merged_if_given (cond c (Some x) None) (user_of users u)
  go true g =
      ap (λ k. user_of (slice_set users k (Some (merged_user x (user_of users k)))) u) (eqb-true w u g)
      ∙ get_or-set_same users u (Some (merged_user x (user_of users u))) None inside
  go false g = get_or-set_other users w u (Some (merged_user x (user_of users w))) None (λ same. eqb-false w u g (sym same))

-- the user value of a unit after a line
pub user_after : (u : ℕ) (meaning : LineMeaning) (users : List (Option UserValue)) → u < length users
    → user_of (assigned meaning users) u ≡ merged_if_given (user_by_line u meaning) (user_of users u)
user_after u (assigns w x) users inside = set_user u w x users inside
user_after u (assigns_escaped w text) users inside = set_user u w (TextUser text) users inside
user_after u _ users inside = refl

-- ---- lines

module _ (b : Bool) (u s : ℕ) where
  abbrev AllSorted : List LineMeaning → Type 0
  AllSorted meanings = AllByRecursion (λ meaning. IsSorted b (user_by_line u meaning)) meanings

  abbrev says : LineMeaning → Option UserValue
  says meaning = said_to s (user_by_line u meaning)

  abbrev held : List (Option UserValue) → Option UserValue
  held users = said_to s (user_of users u)

  -- a line that assigns gives a unit what it asks, and else leaves it
  after_line : (meaning : LineMeaning) (users : List (Option UserValue)) → u < length users → IsSorted b (user_by_line u meaning) → IsSorted b (user_of users u)
      → (held (assigned meaning users) ≡ option_or (says meaning) (held users)) × IsSorted b (user_of (assigned meaning users) u)
  after_line meaning users inside e f =
      subst (λ o. (said_to s o ≡ option_or (says meaning) (held users)) × IsSorted b o) (sym (user_after u meaning users inside))
      (go (user_by_line u meaning) e) where
        go : (o : Option UserValue) → IsSorted b o
            → (said_to s (merged_if_given o (user_of users u)) ≡ option_or (said_to s o) (held users)) × IsSorted b (merged_if_given o (user_of users u))
        go None e = (refl, f)
        go (Some x) e = (over_said b s x (user_of users u) e f, over_sorted b x (user_of users u) e f)

  -- no line of these asks
  abbrev NoneAsks : List LineMeaning → Type 0
  NoneAsks meanings = (j : ℕ) (later : LineMeaning) → slice_get meanings j ≡ Some later → says later ≡ None

  record Found (first : ℕ) (meanings : List LineMeaning) (users : List (Option UserValue)) (o : Option AssigningLine) : Type 0 where
    none : o ≡ None → (held (assigned_over meanings users) ≡ held users) × NoneAsks meanings
    some : (line : AssigningLine) → o ≡ Some line → (held (assigned_over meanings users) ≡ Some line.user) × IsLastAssigning u s first meanings line
    keeps : IsSorted b (user_of (assigned_over meanings users) u)

  none_behind : (meaning : LineMeaning) (meanings : List LineMeaning) → says meaning ≡ None → NoneAsks meanings → NoneAsks (meaning ∷ meanings)
  none_behind meaning meanings here rest zero later e = let same : meaning ≡ later = cc in ap says (sym same) ∙ here
  none_behind meaning meanings here rest (suc j) later e = rest j later e

  shifted : (first : ℕ) (meaning : LineMeaning) (meanings : List LineMeaning) (line : AssigningLine) → IsLastAssigning u s (first + 1) meanings line → IsLastAssigning u s first (meaning ∷ meanings) line
  shifted first meaning meanings line h = record { k = suc h.k; number = omega arith; said = h.said; is = h.is; here = h.here; last = later_ones } where
    later_ones : (j : ℕ) (later : LineMeaning) → suc h.k < j → slice_get (meaning ∷ meanings) j ≡ Some later → says later ≡ None
    later_ones zero later below e = absurd (omega arith)
    later_ones (suc j) later below e = h.last j later (omega arith) e

  later_none : (meaning : LineMeaning) (meanings : List LineMeaning) → NoneAsks meanings → (j : ℕ) (later : LineMeaning) → 0 < j → slice_get (meaning ∷ meanings) j ≡ Some later → says later ≡ None
  later_none meaning meanings rest zero later below e = absurd (omega arith)
  later_none meaning meanings rest (suc j) later below e = rest j later e

  at_first : (first : ℕ) (meaning : LineMeaning) (meanings : List LineMeaning) (users : List (Option UserValue)) → held (assigned meaning users) ≡ option_or (says meaning) (held users)
      → held (assigned_over meanings (assigned meaning users)) ≡ held (assigned meaning users) → IsSorted b (user_of (assigned_over meanings (assigned meaning users)) u)
      → NoneAsks meanings → (a : Option UserValue) → says meaning ≡ a → Found first (meaning ∷ meanings) users (line_giving first a)
  at_first first meaning meanings users here same kept rest None e = record {
    none = λ f. (same ∙ here ∙ ap (λ o. option_or o (held users)) e, none_behind meaning meanings e rest);
    some = λ line f. absurd (cc);
    keeps = kept;
  }
  at_first first meaning meanings users here same kept rest (Some x) e = record {
    none = λ f. absurd (cc);
    some = λ line f. (
      same ∙ here ∙ ap (λ o. option_or o (held users)) e ∙ cc,
      record { k = 0; number = let e : line.number ≡ first = cc in omega arith; said = meaning; is = refl; here = e ∙ cc; last = later_none meaning meanings rest },
    );
    keeps = kept;
  }

  one_more : (first : ℕ) (meaning : LineMeaning) (meanings : List LineMeaning) (users : List (Option UserValue)) → held (assigned meaning users) ≡ option_or (says meaning) (held users)
      → (o : Option AssigningLine) → Found (first + 1) meanings (assigned meaning users) o → Found first (meaning ∷ meanings) users (option_or o (line_giving first (says meaning)))
  one_more first meaning meanings users here None rest = let none = rest.none refl in at_first first meaning meanings users here none.0 rest.keeps none.1 (says meaning) refl
  one_more first meaning meanings users here (Some line) rest = record {
    none = λ f. absurd (cc);
    some = λ other f. let found = rest.some other f in (found.0, shifted first meaning meanings other found.1);
    keeps = rest.keeps;
  }

  find : (first : ℕ) (meanings : List LineMeaning) (users : List (Option UserValue)) → u < length users → AllSorted meanings → IsSorted b (user_of users u) → Found first meanings users (assigning_line u s first meanings)
  find first [] users inside all f = record { none = λ e. (refl, λ j later f. absurd (cc)); some = λ line e. absurd (cc); keeps = f }
  find first (meaning ∷ meanings) users inside all f =
      let one = after_line meaning users inside all.0 f in
      one_more first meaning meanings users one.0 (assigning_line u s (first + 1) meanings) (find (first + 1) meanings (assigned meaning users) (rw (assigned_length meaning users) inside) all.1 one.1)

  -- ---- files

  -- no line of these files asks
  abbrev NoFileAsks : List (List LineMeaning) → Type 0
  NoFileAsks files = (j : ℕ) (later : List LineMeaning) → slice_get files j ≡ Some later → assigning_line u s 1 later ≡ None

  record FoundPlace (first : ℕ) (files : List (List LineMeaning)) (users : List (Option UserValue)) (o : Option AssigningPlace) : Type 0 where
    none : o ≡ None → (held (all_over files users) ≡ held users) × NoFileAsks files
    some : (place : AssigningPlace) → o ≡ Some place → (held (all_over files users) ≡ Some place.line.user) × IsLastAssigningPlace u s first files place

  no_file_behind : (meanings : List LineMeaning) (files : List (List LineMeaning)) → assigning_line u s 1 meanings ≡ None → NoFileAsks files → NoFileAsks (meanings ∷ files)
  no_file_behind meanings files here rest zero later e = let same : meanings ≡ later = cc in ap (assigning_line u s 1) (sym same) ∙ here
  no_file_behind meanings files here rest (suc j) later e = rest j later e

  shifted_place : (first : ℕ) (meanings : List LineMeaning) (files : List (List LineMeaning)) (place : AssigningPlace) → IsLastAssigningPlace u s (first + 1) files place → IsLastAssigningPlace u s first (meanings ∷ files) place
  shifted_place first meanings files place h = record { k = suc h.k; number = omega arith; meanings = h.meanings; is = h.is; here = h.here; last = later_ones } where
    later_ones : (j : ℕ) (later : List LineMeaning) → suc h.k < j → slice_get (meanings ∷ files) j ≡ Some later → assigning_line u s 1 later ≡ None
    later_ones zero later below e = absurd (omega arith)
    later_ones (suc j) later below e = h.last j later (omega arith) e

  later_no_file : (meanings : List LineMeaning) (files : List (List LineMeaning)) → NoFileAsks files → (j : ℕ) (later : List LineMeaning) → 0 < j → slice_get (meanings ∷ files) j ≡ Some later → assigning_line u s 1 later ≡ None
  later_no_file meanings files rest zero later below e = absurd (omega arith)
  later_no_file meanings files rest (suc j) later below e = rest j later e

  at_first_file : (first : ℕ) (meanings : List LineMeaning) (files : List (List LineMeaning)) (users : List (Option UserValue)) (o : Option AssigningLine) → Found 1 meanings users o
      → held (all_over files (assigned_over meanings users)) ≡ held (assigned_over meanings users) → NoFileAsks files
      → assigning_line u s 1 meanings ≡ o → FoundPlace first (meanings ∷ files) users (place_giving first o)
  at_first_file first meanings files users None here same rest e = record {
    none = λ f. (same ∙ (here.none refl).0, no_file_behind meanings files e rest);
    some = λ place f. absurd (cc);
  }
  at_first_file first meanings files users (Some line) here same rest e = record {
    none = λ f. absurd (cc);
    some = λ place f.
        let is_line : line ≡ place.line = cc in
        let is_file : place.file ≡ first = cc in (
          same ∙ (here.some line refl).0 ∙ ap (λ (l : AssigningLine). Some l.user) is_line,
          record { k = 0; number = omega arith; meanings = meanings; is = refl; here = e ∙ ap Some is_line; last = later_no_file meanings files rest },
        );
  }

  one_more_file : (first : ℕ) (meanings : List LineMeaning) (files : List (List LineMeaning)) (users : List (Option UserValue)) → Found 1 meanings users (assigning_line u s 1 meanings) → (o : Option AssigningPlace)
      → FoundPlace (first + 1) files (assigned_over meanings users) o → FoundPlace first (meanings ∷ files) users (option_or o (place_giving first (assigning_line u s 1 meanings)))
  one_more_file first meanings files users here None rest = let none = rest.none refl in at_first_file first meanings files users (assigning_line u s 1 meanings) here none.0 none.1 refl
  one_more_file first meanings files users here (Some place) rest = record {
    none = λ f. absurd (cc);
    some = λ other f. let found = rest.some other f in (found.0, shifted_place first meanings files other found.1);
  }

  find_place : (first : ℕ) (files : List (List LineMeaning)) (users : List (Option UserValue)) → u < length users → AllByRecursion AllSorted files → IsSorted b (user_of users u) → FoundPlace first files users (assigning_place u s first files)
  find_place first [] users inside all f = record { none = λ e. (refl, λ j later f. absurd (cc)); some = λ place e. absurd (cc) }
  find_place first (meanings ∷ files) users inside all f =
      let here = find 1 meanings users inside all.0 f in
      one_more_file first meanings files users here (assigning_place u s (first + 1) files) (find_place (first + 1) files (assigned_over meanings users) (rw (file_length meanings users) inside) all.1 here.keeps)

each_sorted : (tree : Tree) (u s : ℕ) (meanings : List LineMeaning) → AllByRecursion (λ meaning. IfSome (user_by_line u meaning) (λ x. IsTrue (user_fits tree u x))) meanings → AllSorted (has_lines tree (slice_get tree.units u)) u s meanings
each_sorted tree u s [] all = tt
each_sorted tree u s (meaning ∷ meanings) all = (sorted tree u (user_by_line u meaning) all.0, each_sorted tree u s meanings all.1)

each_file_sorted : (tree : Tree) (u s : ℕ) (files : List (List LineMeaning)) → AllByRecursion (FitUnit tree u) files → AllByRecursion (AllSorted (has_lines tree (slice_get tree.units u)) u s) files
each_file_sorted tree u s [] all = tt
each_file_sorted tree u s (meanings ∷ files) all = (each_sorted tree u s meanings (recursion_from_All _ _ all.0), each_file_sorted tree u s files all.1)

pub lines_assign : LinesAssign
lines_assign tree u s first meanings users inside fits held =
    let found = find (has_lines tree (slice_get tree.units u)) u s first meanings users inside (each_sorted tree u s meanings (recursion_from_All _ _ fits)) (sorted tree u (user_of users u) held) in
    (λ e. (found.none e).0, found.some)

pub files_assign : FilesAssign
files_assign tree u s first files users inside fits held =
    let found = find_place (has_lines tree (slice_get tree.units u)) u s first files users inside (each_file_sorted tree u s files (recursion_from_All _ _ fits)) (sorted tree u (user_of users u) held) in
    (λ e. (found.none e).0, found.some)

pub files_over : FilesAreOverAssignments
files_over tree [] users long = refl
files_over tree (meanings ∷ files) users long =
    files_over tree files (assigned_over meanings users) (file_length meanings users ∙ long) ∙ ap (λ us. merged_files tree us files) (file_merged tree meanings users long)
