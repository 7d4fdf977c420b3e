-- The assignments of a file of UTF-8 fit its units.
use Rattle.std.proofs.Common.{IsTrue, IfSome, drop_at}
use Rattle.kc_dotconfig_model.proofs.Common.{◌≡◌, ◌≢◌, inl, inr, ℕ, zero, suc, ◌+◌, ◌<◌, Bool, true, false, not, ◌||◌, ◌&&◌, ◌==◌, cond, filter, List, [], ◌∷◌, ◌++◌, Option, Some, None, length, take, drop, get_or, append_assoc, length-append, refl, sym, ◌∙◌, ap, subst, arith, slice_get, slice_set}
use Rattle.kc_dotconfig_model.proofs.Common.{is_some, replicate, codes, bytes_eq, AllZip, AllByRecursion, list_all, onto_first, IsUtf8, is_utf8, IsCharBoundary-after_ascii, IsUtf8-from_is_utf8, is_utf8-from_IsUtf8, Strings, Escaped, Raw, FileFormat, IsStringSpelling, cases_eq, cases_lt, false≢true}
use Rattle.kc_dotconfig_model.proofs.Common.{and_parts, and_from, not-true, get_or-set_same, get_or-set_other, length-set, list_all-append, Tri, N, Y, Kind, Tristate, Int, Hex, IsBetweenQuotes, none, plain, pair, IsQuoted, Tree, Symbol, IsConsistent, unit_of, user_of, UserValue, MemberLine, is_listed}
use Rattle.kc_dotconfig_model.proofs.Common.{merged_lines, member_user, is_linux_6_12, is_tri_kind, number_of_text, unit_user_fits, choice_user_fits, is_member, unit_is, has_no_byte, LineMeaning, assigns, assigns_escaped, unchosen, silent, tri_of_text, unchosen_meaning, has_escape_notice, text_meaning}
use Rattle.kc_dotconfig_model.proofs.Common.{ValueMeans, tri, chosen, not_chosen, quoted, number, unset_meaning, Means, value, unset, without_white_end, file_lines, merged_user, assigned_over, empty_assignment}
use Rattle.std.proofs.Math.Seq.{get_or-append_seam}
use Rattle.std.proofs.lemmas.Str.{IsUtf8-drop}
use Rattle.kc_value.proofs.UnquotedUtf8.{ascii_alone, utf8_after, utf8_before, unquoted_utf8}
use Rattle.kc_dotconfig_model.proofs.TrimmedLines.{trimmed_utf8}
use Rattle.std.proofs.lemmas.List.{get_or_past}
use Rattle.kc_value.specs.declared.value.Kind.TheVariants.{Bool as Boolean}
use Rattle.kc_tree_model.specs.declared.ids.Unit.{Unit as TreeUnit}
use Rattle.kc_tree_model.specs.declared.ids.Unit.TheVariants.{Symbol as of_symbol, Choice as of_choice}
use Rattle.kc_solver.specs.Solutions.{FitsUsers}
use Rattle.kc_rules_model.specs.declared.values.UserValue.TheVariants.{Tri as TriUser, Text as TextUser, Member as MemberUser, Lines as LinesUser}
use Rattle.kc_value.specs.Tri.{is_m}
use Rattle.kc_rules_model.specs.Shapes.{user_fits, symbol_user_fits, tri_fits, user_text_fits}
use Rattle.kc_value.specs.Lines.{has_newline}
use Rattle.kc_dotconfig_model.specs.FileLaws.{FilesFit}

-- the assignment of a meaning fits
abbrev pub SayingFits : Tree → LineMeaning → Type 0
SayingFits tree (assigns u x) = user_fits tree u x ≡ true
SayingFits tree (assigns_escaped u text) = user_fits tree u (TextUser text) ≡ true
SayingFits tree _ = Unit {0}

bool_meant : (text : List ℕ) (t : Tri) → tri_of_text Boolean text ≡ Some t → not (is_m t) ≡ true
bool_meant text t e = go (bytes_eq text (codes "y")) (bytes_eq text (codes "n")) e where
  go : (a b : Bool) → cond a (Some Y) (cond b (Some N) None) ≡ Some t → not (is_m t) ≡ true
  go true b e = let same : Y ≡ t = cc in ap (λ s. not (is_m s)) (sym same)
  go false true e = let same : N ≡ t = cc in ap (λ s. not (is_m s)) (sym same)
  go false false e = cc

tri_meant_fits : (kind : Kind) (text : List ℕ) (t : Tri) → tri_of_text kind text ≡ Some t → tri_fits kind t ≡ true
tri_meant_fits Boolean text t e = bool_meant text t e
tri_meant_fits Tristate text t e = refl
tri_meant_fits _ text t e = cc

n_fits : (kind : Kind) → is_tri_kind kind ≡ true → tri_fits kind N ≡ true
n_fits Boolean e = refl
n_fits Tristate e = refl
n_fits _ e = absurd (false≢true e)

number_fits : (kind : Kind) (text : List ℕ) → is_some (number_of_text kind text) ≡ true → (user_text_fits kind text ≡ true) × (kind ≢ Boolean)
number_fits Int text e = (e, λ same. cc)
number_fits Hex text e = (e, λ same. cc)
number_fits _ text e = absurd (false≢true e)

body_one_line : (body means : List ℕ) → IsBetweenQuotes 34 body means → has_no_byte 10 body ≡ true → has_newline means ≡ false
body_one_line body means none one = refl
body_one_line body means (plain {c = c} {bs = bs} {cs = cs} q e rest) one =
    let parts = and_parts (not (c == 10)) (has_no_byte 10 bs) one in ap (λ b. b || has_newline cs) (not-true (c == 10) parts.0)
    ∙ body_one_line bs cs rest parts.1
body_one_line body means (pair {c = c} {bs = bs} {cs = cs} rest) one =
    let parts = and_parts (not (c == 10)) (has_no_byte 10 bs) one in ap (λ b. b || has_newline cs) (not-true (c == 10) parts.0)
    ∙ body_one_line bs cs rest parts.1

second_lacks : (xs ys : List ℕ) → has_no_byte 10 (xs ++ ys) ≡ true → has_no_byte 10 ys ≡ true
second_lacks xs ys one = (and_parts (has_no_byte 10 xs) (has_no_byte 10 ys) (sym (list_all-append (λ c. not (c == 10)) xs ys) ∙ one)).1

first_lacks : (xs ys : List ℕ) → has_no_byte 10 (xs ++ ys) ≡ true → has_no_byte 10 xs ≡ true
first_lacks xs ys one = (and_parts (has_no_byte 10 xs) (has_no_byte 10 ys) (sym (list_all-append (λ c. not (c == 10)) xs ys) ∙ one)).0

quoted_one_line : (text means : List ℕ) → IsQuoted text means → has_no_byte 10 text ≡ true → has_newline means ≡ false
quoted_one_line text means q one =
    body_one_line q.0 means q.2 (first_lacks q.0 (34 ∷ []) (second_lacks (34 ∷ []) (q.0 ++ 34 ∷ []) (ap (has_no_byte 10) (sym q.1) ∙ one)))

lacks_newline : (text : List ℕ) → has_no_byte 10 text ≡ true → has_newline text ≡ false
lacks_newline [] one = refl
lacks_newline (c ∷ text) one =
    let parts = and_parts (not (c == 10)) (has_no_byte 10 text) one in ap (λ b. b || has_newline text) (not-true (c == 10) parts.0) ∙ lacks_newline text parts.1

-- in each form of strings, a string whose spelling after `=` has no newline has a text without a newline
pub string_one_line : (strings : Strings) (text means : List ℕ) → IsStringSpelling strings text means → has_no_byte 10 text ≡ true → has_newline means ≡ false
string_one_line Escaped text means is one = quoted_one_line text means is one
string_one_line Raw text means is one =
    lacks_newline means (first_lacks means (34 ∷ []) (second_lacks (34 ∷ []) (means ++ 34 ∷ []) (ap (has_no_byte 10) (sym is) ∙ one)))

pub string_utf8 : (strings : Strings) (text means : List ℕ) → IsStringSpelling strings text means → IsUtf8 text → IsUtf8 means
string_utf8 Escaped text means is utf8 = unquoted_utf8 text means is utf8
string_utf8 Raw text means is utf8 =
    let inner = utf8_after text (34 ∷ []) (means ++ 34 ∷ []) utf8 (ascii_alone 34 (omega arith)) is in
    utf8_before (means ++ 34 ∷ []) means (34 ∷ []) inner (ascii_alone 34 (omega arith)) refl

-- the bytes after one below 128 are UTF-8
utf8_of_back : (bytes front back : List ℕ) (b : ℕ) → b < 128 → IsUtf8 bytes → bytes ≡ front ++ b ∷ back → IsUtf8 back
utf8_of_back bytes front back b low u is =
    let v = subst IsUtf8 is u in
    let seam = get_or-append_seam front b back 0 in
    let long = length-append front (b ∷ back) in
    let cut = IsCharBoundary-after_ascii (front ++ b ∷ back) (length front) v (omega (arith, long)) (omega (arith, seam, low)) in
    let whole : (front ++ b ∷ []) ++ back ≡ front ++ b ∷ back = append_assoc front (b ∷ []) back in
    subst IsUtf8 (ap (drop (length front + 1)) (sym whole) ∙ drop_at (front ++ b ∷ []) back (length front + 1) (length-append front (b ∷ [])))
    (IsUtf8-drop (front ++ b ∷ back) (length front + 1) v cut)

module _ (tree : Tree) (sound : IsConsistent tree) (s : ℕ) (symbol : Symbol) (at : slice_get tree.symbols s ≡ Some symbol) where
  outside_fits : (x : UserValue) → symbol.choice ≡ None → symbol_user_fits (Some symbol) x ≡ true → user_fits tree (unit_of tree s) x ≡ true
  unfolding user_fits
  outside_fits x out fits =
      let own = sound.own_units s symbol at out in
      ap (λ o. unit_user_fits tree o x) (ap (slice_get tree.units) (unit_is tree sound s own.0 symbol None at out own.1) ∙ own.1)
      ∙ ap (λ o. symbol_user_fits o x) at ∙ fits

  -- what fits the choice of a member fits the member's unit
  of_choice_fits : (c : ℕ) → symbol.choice ≡ Some c → (x : UserValue) → choice_user_fits tree.language (slice_get tree.choices c) x ≡ true
      → user_fits tree (unit_of tree s) x ≡ true
  unfolding user_fits
  of_choice_fits c within x fits =
      let own = sound.units_of_members s c symbol at within in
      ap (λ o. unit_user_fits tree o x) (ap (slice_get tree.units) (unit_is tree sound s own.0 symbol (Some c) at within own.1) ∙ own.1) ∙ fits

  is_its_member : (c : ℕ) → symbol.choice ≡ Some c → is_member (slice_get tree.choices c) s ≡ true
  is_its_member c within = let listed = sound.listed s c symbol at within in ap (λ o. is_member o s) listed.1 ∙ listed.2

  line_of_member_fits : (c : ℕ) → symbol.choice ≡ Some c → is_linux_6_12 tree.language ≡ true → (is_y : Bool)
      → user_fits tree (unit_of tree s) (LinesUser (record { member = s; is_y = is_y } ∷ [])) ≡ true
  line_of_member_fits c within since is_y =
      of_choice_fits c within (LinesUser (record { member = s; is_y = is_y } ∷ []))
      (and_from (is_linux_6_12 tree.language) (is_member (slice_get tree.choices c) s && true) since (and_from (is_member (slice_get tree.choices c) s) true (is_its_member c within) refl))

  member_fits : (c : ℕ) → symbol.choice ≡ Some c → user_fits tree (unit_of tree s) (member_user tree.language s) ≡ true
  member_fits c within = go (is_linux_6_12 tree.language) refl where
    go : (b : Bool) → is_linux_6_12 tree.language ≡ b → user_fits tree (unit_of tree s) (cond b (LinesUser (record { member = s; is_y = true } ∷ [])) (MemberUser s)) ≡ true
    go true since = line_of_member_fits c within since true
    go false before =
        of_choice_fits c within (MemberUser s)
        (and_from (not (is_linux_6_12 tree.language)) (is_member (slice_get tree.choices c) s) (ap not before) (is_its_member c within))

  unchosen_fits : (c : ℕ) → symbol.choice ≡ Some c → SayingFits tree (unchosen_meaning tree.language (unit_of tree s) s)
  unchosen_fits c within = go (is_linux_6_12 tree.language) refl where
    go : (b : Bool) → is_linux_6_12 tree.language ≡ b
        → SayingFits tree (cond b (assigns (unit_of tree s) (LinesUser (record { member = s; is_y = false } ∷ []))) (unchosen (unit_of tree s) s))
    go true since = line_of_member_fits c within since false
    go false before = tt

  -- only bools are members
  outside : (o : Option ℕ) → symbol.choice ≡ o → symbol.kind ≢ Boolean → symbol.choice ≡ None
  outside None e other = e
  outside (Some c) e other = absurd (other (sound.bool_members s c symbol at e))

  -- a text fits, with a notice or without one
  text_fits_unit : (strings : Strings) (text means : List ℕ) → user_fits tree (unit_of tree s) (TextUser means) ≡ true
      → SayingFits tree (text_meaning tree.language strings (unit_of tree s) text means)
  text_fits_unit strings text means fits = go (has_escape_notice tree.language strings text) where
    go : (b : Bool) → SayingFits tree (cond b (assigns_escaped (unit_of tree s) means) (assigns (unit_of tree s) (TextUser means)))
    go true = fits
    go false = fits

  value_fits_unit : (strings : Strings) (text : List ℕ) (meaning : LineMeaning) → has_no_byte 10 text ≡ true → IsUtf8 text
      → ValueMeans strings tree s symbol text meaning
      → SayingFits tree meaning
  value_fits_unit strings text meaning one utf8 (tri _ t out meant) = outside_fits (TriUser t) out (tri_meant_fits symbol.kind text t meant)
  value_fits_unit strings text meaning one utf8 (chosen c _ within meant) = member_fits c within
  value_fits_unit strings text meaning one utf8 (not_chosen c _ t within meant other) = unchosen_fits c within
  value_fits_unit strings text meaning one utf8 (quoted _ means is is_spelling) =
      text_fits_unit strings text means
      (outside_fits (TextUser means) (outside symbol.choice refl (λ same. cc (is, same)))
      (ap (λ k. user_text_fits k means) is ∙ and_from (not (has_newline means)) (is_utf8 means) (ap not (string_one_line strings text means is_spelling one))
      (is_utf8-from_IsUtf8 means (string_utf8 strings text means is_spelling utf8))))
  value_fits_unit strings text meaning one utf8 (number _ some) =
      let fits = number_fits symbol.kind text some in outside_fits (TextUser text) (outside symbol.choice refl fits.1) fits.0
  value_fits_unit strings text meaning one utf8 _ = tt

  unset_fits : (o : Option ℕ) → symbol.choice ≡ o → (t : Bool) → is_tri_kind symbol.kind ≡ t → SayingFits tree (unset_meaning tree s symbol o)
  unset_fits (Some c) e t small = unchosen_fits c e
  unset_fits None e true small =
      subst (λ b. SayingFits tree (cond b (assigns (unit_of tree s) (TriUser N)) silent)) (sym small) (outside_fits (TriUser N) e (n_fits symbol.kind small))
  unset_fits None e false small = subst (λ b. SayingFits tree (cond b (assigns (unit_of tree s) (TriUser N)) silent)) (sym small) tt

module _ (tree : Tree) where
  -- assignments of members that are merged with others fit where both do
  all_kept : (q p : MemberLine → Bool) (lines : List MemberLine) → list_all q lines ≡ true → list_all q (filter p lines) ≡ true
  all_kept q p [] all = refl
  all_kept q p (l ∷ lines) all = go (p l) (all_kept q p lines (and_parts (q l) (list_all q lines) all).1) where
    go : (b : Bool) → list_all q (filter p lines) ≡ true → list_all q (cond b (l ∷ filter p lines) (filter p lines)) ≡ true
    go true rest = and_from (q l) (list_all q (filter p lines)) (and_parts (q l) (list_all q lines) all).0 rest
    go false rest = rest

  merged_lines_fit : (o : Option TreeUnit) (later earlier : List MemberLine) → unit_user_fits tree o (LinesUser later) ≡ true
      → unit_user_fits tree o (LinesUser earlier) ≡ true → unit_user_fits tree o (LinesUser (merged_lines later earlier)) ≡ true
  merged_lines_fit None later earlier a b = absurd (false≢true a)
  merged_lines_fit (Some (of_symbol s)) later earlier a b = go (slice_get tree.symbols s) a where
    go : (o : Option Symbol) → symbol_user_fits o (LinesUser later) ≡ true → symbol_user_fits o (LinesUser (merged_lines later earlier)) ≡ true
    go None a = absurd (false≢true a)
    go (Some symbol) a = absurd (false≢true a)
  merged_lines_fit (Some (of_choice c)) later earlier a b =
      let q : MemberLine → Bool = λ l. is_member (slice_get tree.choices c) l.member in
      let p : MemberLine → Bool = λ l. not (is_listed later l.member) in
      let first = and_parts (is_linux_6_12 tree.language) (list_all q later) a in
      let second = and_parts (is_linux_6_12 tree.language) (list_all q earlier) b in
      and_from (is_linux_6_12 tree.language) (list_all q (filter p earlier ++ later)) first.0
      (list_all-append q (filter p earlier) later ∙ and_from (list_all q (filter p earlier)) (list_all q later) (all_kept q p earlier second.1) first.1)

  -- a user value over an earlier one fits where both do
  pub over_user_fits : (u : ℕ) (x : UserValue) (o : Option UserValue) → user_fits tree u x ≡ true → IfSome o (λ y. IsTrue (user_fits tree u y)) → user_fits tree u (merged_user x o) ≡ true
  unfolding user_fits
  over_user_fits u (LinesUser l) None fits held = fits
  over_user_fits u (LinesUser l) (Some (TriUser t)) fits held = held
  over_user_fits u (LinesUser l) (Some (TextUser t)) fits held = held
  over_user_fits u (LinesUser l) (Some (MemberUser s)) fits held = held
  over_user_fits u (LinesUser l) (Some (LinesUser k)) fits held = merged_lines_fit (slice_get tree.units u) l k fits held
  over_user_fits u _ o fits held = fits

  pub held_fits : (users : List (Option UserValue)) (u : ℕ) → FitsUsers (length tree.units) (λ w y. IsTrue (user_fits tree w y)) users
      → IfSome (user_of users u) (λ y. IsTrue (user_fits tree u y))
  held_fits users u fitting = elim (cases_lt u (length tree.units)) [
    | inl inside ↦ fitting.1 u inside
    | inr past ↦ subst (λ o. IfSome o (λ y. IsTrue (user_fits tree u y))) (sym (get_or_past users u None (let len = fitting.0 in omega arith))) tt
  ]

module _ (format : FileFormat) (tree : Tree) (sound : IsConsistent tree) where
  line_fits : (line : List ℕ) (meaning : LineMeaning) → has_no_byte 10 line ≡ true → IsUtf8 line → Means format tree line meaning → SayingFits tree meaning
  line_fits line meaning one utf8 (value _ name text s symbol _ is named at has_meaning) =
      let behind_name = second_lacks name (61 ∷ text) (second_lacks format.prefix (name ++ (61 ∷ text)) (ap (has_no_byte 10) (sym is.2) ∙ one)) in
      let parted : line ≡ (format.prefix ++ name) ++ 61 ∷ text = is.2 ∙ sym (append_assoc format.prefix name (61 ∷ text)) in
      value_fits_unit tree sound s symbol at format.strings text meaning (second_lacks (61 ∷ []) text behind_name)
      (utf8_of_back line (format.prefix ++ name) text 61 (omega arith) utf8 parted) has_meaning
  line_fits line meaning one utf8 (unset _ name s symbol is named at) = unset_fits tree sound s symbol at symbol.choice refl (is_tri_kind symbol.kind) refl
  line_fits line meaning one utf8 _ = tt

  front_lacks : (n : ℕ) (line : List ℕ) → has_no_byte 10 line ≡ true → has_no_byte 10 (take n line) ≡ true
  front_lacks zero line one = refl
  front_lacks (suc n) [] one = refl
  front_lacks (suc n) (b ∷ line) one =
      let parts = and_parts (not (b == 10)) (has_no_byte 10 line) one
      in and_from (not (b == 10)) (has_no_byte 10 (take n line)) parts.0 (front_lacks n line parts.1)

  onto_lacks : (b : ℕ) (lines : List (List ℕ)) → (b == 10) ≡ false → AllByRecursion (λ line. has_no_byte 10 line ≡ true) lines
      → AllByRecursion (λ line. has_no_byte 10 line ≡ true) (onto_first b lines)
  onto_lacks b [] other all = (and_from (not (b == 10)) true (ap not other) refl, tt)
  onto_lacks b (line ∷ lines) other all = (and_from (not (b == 10)) (has_no_byte 10 line) (ap not other) all.0, all.1)

  -- no line has a newline
  pub lines_lack : (bytes : List ℕ) → AllByRecursion (λ line. has_no_byte 10 line ≡ true) (file_lines bytes)
  lines_lack [] = tt
  lines_lack (b ∷ bytes) = go (b == 10) refl (lines_lack bytes) where
    go : (t : Bool) → (b == 10) ≡ t → AllByRecursion (λ line. has_no_byte 10 line ≡ true) (file_lines bytes)
        → AllByRecursion (λ line. has_no_byte 10 line ≡ true) (cond t ([] ∷ file_lines bytes) (onto_first b (file_lines bytes)))
    go true e all = (refl, all)
    go false e all = onto_lacks b (file_lines bytes) e all

  pub sayings_fit : (lines : List (List ℕ)) (meanings : List LineMeaning) → AllByRecursion (λ line. has_no_byte 10 line ≡ true) lines
      → list_all is_utf8 lines ≡ true
      → AllZip (λ line meaning. Means format tree (without_white_end line) meaning) lines meanings → AllByRecursion (SayingFits tree) meanings
  sayings_fit [] [] one utf8 all = tt
  sayings_fit (line ∷ lines) (meaning ∷ meanings) one utf8 all =
      let parts = and_parts (is_utf8 line) (list_all is_utf8 lines) utf8 in (
        line_fits (without_white_end line) meaning (front_lacks _ line one.0) (trimmed_utf8 line (IsUtf8-from_is_utf8 line parts.0)) all.0,
        sayings_fit lines
            meanings one.1 parts.1 all.1,
      )
  sayings_fit _ _ one utf8 all = absurd all

  set_fits : (users : List (Option UserValue)) (u : ℕ) (x : UserValue) → FitsUsers (length tree.units) (λ w y. IsTrue (user_fits tree w y)) users
      → user_fits tree u x ≡ true → FitsUsers (length tree.units) (λ w y. IsTrue (user_fits tree w y)) (slice_set users u (Some x))
  set_fits users u x fitting fits = (
    length-set users u (Some x) ∙ fitting.0,
    λ w h. elim (cases_eq w u) [
      | inl same ↦
          let here : user_of (slice_set users u (Some x)) w ≡ Some x = ap (user_of (slice_set users u (Some x))) same
          ∙ get_or-set_same users u (Some x) None (let len = fitting.0 in omega arith) in
          let there : user_fits tree w x ≡ true = ap (λ k. user_fits tree k x) same ∙ fits in
          subst (λ o. IfSome o (λ y. IsTrue (user_fits tree w y))) (sym here) there
      | inr other ↦ subst (λ o. IfSome o (λ y. IsTrue (user_fits tree w y))) (sym (get_or-set_other users u w (Some x) None other)) (fitting.1 w h)
    ],
  )

  over_fits : (meanings : List LineMeaning) (users : List (Option UserValue)) → FitsUsers (length tree.units) (λ w y. IsTrue (user_fits tree w y)) users
      → AllByRecursion (SayingFits tree) meanings → FitsUsers (length tree.units) (λ w y. IsTrue (user_fits tree w y)) (assigned_over meanings users)
  over_fits [] users fitting all = fitting
  over_fits (assigns u x ∷ meanings) users fitting all = over_fits meanings (slice_set users u (Some (merged_user x (user_of users u)))) (set_fits users u (merged_user x (user_of users u)) fitting (over_user_fits tree u x (user_of users u) all.0 (held_fits tree users u fitting))) all.1
  over_fits (assigns_escaped u text ∷ meanings) users fitting all = over_fits meanings (slice_set users u (Some (TextUser text))) (set_fits users u (TextUser text) fitting all.0) all.1
  over_fits (_ ∷ meanings) users fitting all = over_fits meanings users fitting all.1

pub none_held : (n u : ℕ) → get_or {A = Option UserValue} (replicate n None) u None ≡ None
none_held zero u = refl
none_held (suc n) zero = refl
none_held (suc n) (suc u) = none_held n u

pub none_length : (n : ℕ) → length {A = Option UserValue} (replicate n None) ≡ n
none_length zero = refl
none_length (suc n) = let rest = none_length n in omega arith

pub file_fits : FilesFit
file_fits format tree bytes meanings sound utf8 has_meaning =
    over_fits format tree sound meanings (empty_assignment tree)
    (none_length (length tree.units), λ u h. subst (λ o. IfSome o (λ y. IsTrue (user_fits tree u y))) (sym (none_held (length tree.units) u)) tt)
    (sayings_fit format tree sound (file_lines bytes) meanings (lines_lack format tree sound bytes) utf8 has_meaning)
