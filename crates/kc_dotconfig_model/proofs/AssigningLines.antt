-- The line of a file that assigned a text.
use Rattle.kc_dotconfig_model.proofs.Common.{◌≡◌, ◌⊎◌, inl, inr, ℕ, suc, ◌<◌, Bool, true, false, cond, List, [], ◌∷◌, ◌++◌, Option, Some, None, length, get_or, refl, sym, ap, ◌∙◌, subst, arith, slice_get, slice_set, is_some, bytes_eq, AllZip, position_or_len, cases_eq, ltb-true, get_or-set_same}
use Rattle.kc_dotconfig_model.proofs.Common.{get_or-set_other, length-set, bytes_eq-Decides, Tri, N, Text, number_of_text, Tree, Symbol, IsConsistent, unit_of, symbol_named, user_of, UserValue, member_user, Language, is_linux_6_12, is_tri_kind, unit_is, index_if_found, Strings, NoticeKind}
use Rattle.kc_dotconfig_model.proofs.Common.{UnknownSymbol, NotOfType, FileFormat, IsStringSpelling, LineMeaning, assigns, assigns_escaped, unchosen, notice, silent, unchosen_meaning, has_escape_notice, text_meaning, unset_meaning, ValueMeans, tri, chosen, not_chosen, quoted, number, no_int, no_hex}
use Rattle.kc_dotconfig_model.proofs.Common.{Means, value, unset, empty, comment, without_white_end, merged_user, assigned_over}
use Rattle.std.proofs.lemmas.List.Sums.{passes_at_first}
use Rattle.std.proofs.lemmas.Option.{get_or_from_slice_get}
use Rattle.kc_tree_model.specs.declared.ids.Unit.TheVariants.{Symbol as of_symbol}
use Rattle.kc_rules_model.specs.declared.values.UserValue.TheVariants.{Tri as TriUser, Text as TextUser, Member as MemberUser, Lines as LinesUser}

abbrev Reads : FileFormat → Tree → List (List ℕ) → List LineMeaning → Type 0
Reads format tree lines meanings = AllZip (λ line meaning. Means format tree (without_white_end line) meaning) lines meanings

-- a line of this meaning assigns this text to the unit `u`, with a notice or without one
abbrev pub AssignsText : ℕ → List ℕ → LineMeaning → Type 0
AssignsText u means meaning = (meaning ≡ assigns u (TextUser means)) ⊎ (meaning ≡ assigns_escaped u means)

-- one of the lines assigns this text to the unit `u`
pub record HasAssigningLine (format : FileFormat) (tree : Tree) (lines : List (List ℕ)) (u : ℕ) (means : List ℕ) : Type 0 where
  pub number : ℕ
  pub line : List ℕ
  pub at : slice_get lines number ≡ Some line
  pub meaning : LineMeaning
  pub has_meaning : Means format tree (without_white_end line) meaning
  pub assigned : AssignsText u means meaning

one_further : (format : FileFormat) (tree : Tree) (first : List ℕ) (lines : List (List ℕ)) (u : ℕ) (means : List ℕ) → HasAssigningLine format tree lines u means
    → HasAssigningLine format tree (first ∷ lines) u means
one_further format tree first lines u means h =
    record { number = suc h.number; line = h.line; at = h.at; meaning = h.meaning; has_meaning = h.has_meaning; assigned = h.assigned }

-- a text that is a user value over another one is either of these
text_over : (y : UserValue) (o : Option UserValue) (means : List ℕ) → merged_user y o ≡ TextUser means → (y ≡ TextUser means) ⊎ (o ≡ Some (TextUser means))
text_over (TextUser t) o means e = inl e
text_over (LinesUser l) (Some (TextUser t)) means e = inr (ap Some e)
text_over _ _ means e = cc

-- a text that a unit has after a line that gives a unit a value, and then other lines: it had it before, or one of the lines assigns it
here_or_before : (format : FileFormat) (tree : Tree) (line : List ℕ) (lines : List (List ℕ)) (meaning : LineMeaning) (held : List (Option UserValue)) (u : ℕ)
    (means : List ℕ) (w : ℕ) (z : UserValue) → Means format tree (without_white_end line) meaning → u < length held
    → (user_of (slice_set held w (Some z)) u ≡ Some (TextUser means)) ⊎ HasAssigningLine format tree lines u means
    → (u ≡ w → z ≡ TextUser means → (user_of held u ≡ Some (TextUser means)) ⊎ AssignsText u means meaning)
    → (user_of held u ≡ Some (TextUser means)) ⊎ HasAssigningLine format tree (line ∷ lines) u means
here_or_before format tree line lines meaning held u means w z has_meaning inside rest own = elim rest [
  | inl before ↦ elim (cases_eq u w) [
    | inl same ↦
        let here : user_of (slice_set held w (Some z)) u ≡ Some z = ap (λ k. user_of (slice_set held k (Some z)) u) (sym same)
        ∙ get_or-set_same held u (Some z) None inside in
        elim (own same (let value : z ≡ TextUser means = cc (here, before) in value)) [
          | inl held_before ↦ inl held_before
          | inr assigned ↦ inr (record { number = 0; line = line; at = refl; meaning = meaning; has_meaning = has_meaning; assigned = assigned })
        ]
    | inr other ↦ inl (sym (get_or-set_other held w u (Some z) None other) ∙ before)
  ]
  | inr later ↦ inr (one_further format tree line lines u means later)
]

-- a text that a unit has as its user value after some lines of a configuration file it had before them, or one of the lines
-- assigns it
pub assigning_line : (format : FileFormat) (tree : Tree) (lines : List (List ℕ)) (meanings : List LineMeaning) (held : List (Option UserValue)) (u : ℕ)
    (means : List ℕ)
    → Reads format tree lines meanings → u < length held
    → user_of (assigned_over meanings held) u ≡ Some (TextUser means) → (user_of held u ≡ Some (TextUser means)) ⊎ HasAssigningLine format tree lines u means
assigning_line format tree [] [] held u means reads inside has = inl has
assigning_line format tree [] (meaning ∷ meanings) held u means reads inside has = absurd reads
assigning_line format tree (line ∷ lines) [] held u means reads inside has = absurd reads
assigning_line format tree (line ∷ lines) (assigns_escaped w text ∷ meanings) held u means reads inside has =
    let len = length-set held w (Some (TextUser text)) in
    here_or_before format tree line lines (assigns_escaped w text) held u means w (TextUser text) reads.0 inside
    (assigning_line format tree lines meanings (slice_set held w (Some (TextUser text))) u means reads.1 (omega arith) has)
    (λ same value. let own : text ≡ means = cc in inr (inr (ap (λ k. assigns_escaped k text) (sym same) ∙ ap (assigns_escaped u) own)))
assigning_line format tree (line ∷ lines) (assigns w y ∷ meanings) held u means reads inside has =
    let z = merged_user y (user_of held w) in
    let len = length-set held w (Some z) in
    here_or_before format tree line lines (assigns w y) held u means w z reads.0 inside
    (assigning_line format tree lines meanings (slice_set held w (Some z)) u means reads.1 (omega arith) has) (λ same value.
    elim (text_over y (user_of held w) means value) [
      | inl own ↦ inr (inl (ap (λ k. assigns k y) (sym same) ∙ ap (assigns u) own))
      | inr held_before ↦ inl (ap (user_of held) same ∙ held_before)
    ])
assigning_line format tree (line ∷ lines) (_ ∷ meanings) held u means reads inside has =
    elim (assigning_line format tree lines meanings held u means reads.1 inside has) [
      | inl before ↦ inl before
      | inr later ↦ inr (one_further format tree line lines u means later)
    ]

-- the line has the form `CONFIG_NAME=text` for a string, int or hex of the unit `u`, and `means` is the text that it assigns
pub record IsTextLine (format : FileFormat) (tree : Tree) (line : List ℕ) (u : ℕ) (means : List ℕ) : Type 0 where
  pub name : List ℕ
  pub text : List ℕ
  pub s : ℕ
  pub symbol : Symbol
  pub whole : line ≡ format.prefix ++ (name ++ (61 ∷ text))
  pub named : symbol_named tree name ≡ Some s
  pub at : slice_get tree.symbols s ≡ Some symbol
  pub unit : unit_of tree s ≡ u
  pub has_meaning : (IsStringSpelling format.strings text means × (symbol.kind ≡ Text)) ⊎ ((text ≡ means) × (is_some (number_of_text symbol.kind text) ≡ true))

abbrev TextMeans : Strings → Tree → ℕ → Symbol → List ℕ → ℕ → List ℕ → Type 0
TextMeans strings tree s symbol text u means =
    (unit_of tree s ≡ u) × ((IsStringSpelling strings text means × (symbol.kind ≡ Text))
    ⊎ ((text ≡ means) × (is_some (number_of_text symbol.kind text) ≡ true)))

no_text_from : (meaning : LineMeaning) (u : ℕ) (means : List ℕ) → (meaning ≡ assigns u (TextUser means) → ⊥) → (meaning ≡ assigns_escaped u means → ⊥)
    → AssignsText u means meaning → ⊥
no_text_from meaning u means plain other (inl e) = plain e
no_text_from meaning u means plain other (inr e) = other e

tri_no_text : (w u : ℕ) (t : Tri) (means : List ℕ) → AssignsText u means (assigns w (TriUser t)) → ⊥
tri_no_text w u t means a = no_text_from (assigns w (TriUser t)) u means (λ e. cc) (λ e. cc) a

silent_no_text : (u : ℕ) (means : List ℕ) → AssignsText u means silent → ⊥
silent_no_text u means a = no_text_from silent u means (λ e. cc) (λ e. cc) a

notice_no_text : (kind : NoticeKind) (u : ℕ) (means : List ℕ) → AssignsText u means (notice kind) → ⊥
notice_no_text kind u means a = no_text_from (notice kind) u means (λ e. cc) (λ e. cc) a

member_no_text : (language : Language) (w s u : ℕ) (means : List ℕ) → AssignsText u means (assigns w (member_user language s)) → ⊥
member_no_text language w s u means a = go (is_linux_6_12 language) a where
  go : (b : Bool) → AssignsText u means (assigns w (cond b (LinesUser (record { member = s; is_y = true } ∷ [])) (MemberUser s))) → ⊥
  go true a = no_text_from (assigns w (LinesUser (record { member = s; is_y = true } ∷ []))) u means (λ e. cc) (λ e. cc) a
  go false a = no_text_from (assigns w (MemberUser s)) u means (λ e. cc) (λ e. cc) a

unchosen_no_text : (language : Language) (w s u : ℕ) (means : List ℕ) → AssignsText u means (unchosen_meaning language w s) → ⊥
unchosen_no_text language w s u means a = go (is_linux_6_12 language) a where
  go : (b : Bool) → AssignsText u means (cond b (assigns w (LinesUser (record { member = s; is_y = false } ∷ []))) (unchosen w s)) → ⊥
  go true a = no_text_from (assigns w (LinesUser (record { member = s; is_y = false } ∷ []))) u means (λ e. cc) (λ e. cc) a
  go false a = no_text_from (unchosen w s) u means (λ e. cc) (λ e. cc) a

-- the text of a string's line, with a notice or without one
spelled_text : (language : Language) (strings : Strings) (w : ℕ) (spelling text : List ℕ) (u : ℕ) (means : List ℕ)
    → AssignsText u means (text_meaning language strings w spelling text) → (w ≡ u) × (text ≡ means)
spelled_text language strings w spelling text u means a = go (has_escape_notice language strings spelling) a where
  go : (b : Bool) → AssignsText u means (cond b (assigns_escaped w text) (assigns w (TextUser text))) → (w ≡ u) × (text ≡ means)
  go true (inl e) = cc
  go true (inr e) = (let unit : w ≡ u = cc in unit, let same : text ≡ means = cc in same)
  go false (inl e) = (let unit : w ≡ u = cc in unit, let same : text ≡ means = cc in same)
  go false (inr e) = cc

text_means : (strings : Strings) (tree : Tree) (s : ℕ) (symbol : Symbol) (text : List ℕ) (meaning : LineMeaning) (u : ℕ) (means : List ℕ)
    → ValueMeans strings tree s symbol text meaning
    → AssignsText u means meaning → TextMeans strings tree s symbol text u means
text_means strings tree s symbol text meaning u means (tri _ t out meant) a = absurd (tri_no_text (unit_of tree s) u t means a)
text_means strings tree s symbol text meaning u means (chosen c _ within meant) a = absurd (member_no_text tree.language (unit_of tree s) s u means a)
text_means strings tree s symbol text meaning u means (not_chosen c _ t within meant other) a = absurd (unchosen_no_text tree.language (unit_of tree s) s u means a)
text_means strings tree s symbol text meaning u means (quoted _ other is is_spelling) a =
    let t = spelled_text tree.language strings (unit_of tree s) text other u means a in
    (t.0, inl (subst (IsStringSpelling strings text) t.1 is_spelling, is))
text_means strings tree s symbol text meaning u means (number _ some) (inl e) =
    let unit : unit_of tree s ≡ u = cc in
    let same : text ≡ means = cc in
    (unit, inr (same, some))
text_means strings tree s symbol text meaning u means (number _ some) (inr e) = cc
text_means strings tree s symbol text meaning u means (no_int is) a = absurd (silent_no_text u means a)
text_means strings tree s symbol text meaning u means (no_hex is) a = absurd (silent_no_text u means a)
text_means strings tree s symbol text meaning u means _ a = absurd (notice_no_text NotOfType u means a)

unset_no_text : (tree : Tree) (s : ℕ) (symbol : Symbol) (o : Option ℕ) (u : ℕ) (means : List ℕ) → AssignsText u means (unset_meaning tree s symbol o) → ⊥
unset_no_text tree s symbol (Some c) u means a = unchosen_no_text tree.language (unit_of tree s) s u means a
unset_no_text tree s symbol None u means a = go (is_tri_kind symbol.kind) a where
  go : (t : Bool) → AssignsText u means (cond t (assigns (unit_of tree s) (TriUser N)) silent) → ⊥
  go true a = tri_no_text (unit_of tree s) u N means a
  go false a = silent_no_text u means a

-- a line that assigns a text to a unit has the form `CONFIG_NAME=text` for a string, int or hex of that unit
pub text_line : (format : FileFormat) (tree : Tree) (line : List ℕ) (meaning : LineMeaning) (u : ℕ) (means : List ℕ) → Means format tree line meaning
    → AssignsText u means meaning → IsTextLine format tree line u means
text_line format tree line meaning u means (value _ name text s symbol _ is named at has_meaning) a =
    let t = text_means format.strings tree s symbol text meaning u means has_meaning a in
    record { name = name; text = text; s = s; symbol = symbol; whole = is.2; named = named; at = at; unit = t.0; has_meaning = t.1 }
text_line format tree line meaning u means (unset _ name s symbol is named at) a = absurd (unset_no_text tree s symbol symbol.choice u means a)
text_line format tree line meaning u means empty a = absurd (silent_no_text u means a)
text_line format tree line meaning u means (comment _ hash without) a = absurd (silent_no_text u means a)
text_line format tree line meaning u means _ a = absurd (notice_no_text UnknownSymbol u means a)

-- the symbol that is found in the tree by a name has that name
pub named_so : (tree : Tree) (name : List ℕ) (s : ℕ) (symbol : Symbol) → symbol_named tree name ≡ Some s → slice_get tree.symbols s ≡ Some symbol
    → name ≡ symbol.name
named_so tree name s symbol named at = go (position_or_len (λ (t : Symbol). bytes_eq name t.name) tree.symbols) refl named where
  within : (place count : ℕ) (t : Bool) → cond t (Some place) None ≡ Some s → (t ≡ true) × (place ≡ s)
  within place count true e = (refl, cc)
  within place count false e = cc

  go : (place : ℕ) → position_or_len (λ (t : Symbol). bytes_eq name t.name) tree.symbols ≡ place → index_if_found place (length tree.symbols) ≡ Some s
      → name ≡ symbol.name
  go place is found =
      let p = within place (length tree.symbols) _ found in
      let below = ltb-true place (length tree.symbols) p.0 in
      let passes = passes_at_first (λ (t : Symbol). bytes_eq name t.name) tree.symbols symbol (omega arith) in
      let here : get_or tree.symbols (position_or_len (λ (t : Symbol). bytes_eq name t.name) tree.symbols) symbol ≡ symbol = ap
      (λ k. get_or tree.symbols k symbol) (is ∙ p.1) ∙ get_or_from_slice_get tree.symbols s symbol symbol at in
      (bytes_eq-Decides name symbol.name).0 (ap (λ (t : Symbol). bytes_eq name t.name) (sym here) ∙ passes)

-- two symbols outside choices that have the same unit are the same symbol
pub same_symbol : (tree : Tree) → IsConsistent tree → (s t : ℕ) (a b : Symbol) → slice_get tree.symbols s ≡ Some a → slice_get tree.symbols t ≡ Some b
    → a.choice ≡ None → b.choice ≡ None → unit_of tree s ≡ unit_of tree t → s ≡ t
same_symbol tree sound s t a b first second out without same =
    let x = sound.own_units s a first out in
    let y = sound.own_units t b second without in
    let u : unit_of tree s ≡ x.0 = unit_is tree sound s x.0 a None first out x.1 in
    let w : unit_of tree t ≡ y.0 = unit_is tree sound t y.0 b None second without y.1 in
    let both : Some (of_symbol s) ≡ Some (of_symbol t) = sym x.1 ∙ ap (slice_get tree.units) (sym u ∙ same ∙ w) ∙ y.1 in
    cc
