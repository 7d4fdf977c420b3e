-- The steps of reading a configuration file, over plain values.
use Rattle.kc_dotconfig.proofs.Common.{◌≡◌, ◌⊎◌, inl, inr, ℕ, zero, suc, ◌+◌, ◌-◌, ◌<◌, ◌≤◌, Bool, true, false, not, ◌==◌, List, [], ◌∷◌, ◌++◌, length, take, drop, refl, sym, ◌∙◌, ap, subst, append_assoc, length-append, arith, Result, Ok, Err, IfErr, OnOk, slice_index, append-nil, common_steps}
use Rattle.kc_dotconfig.proofs.Common.{Tree, FileFormat, LoadKind, Malformed, NotUtf8, LineTooLong, TooManyLines, OutOfMemory, TooLarge, Accumulator, LineMeaning, Means, IsMalformed, without_white_end, FileMeans, MAX_CONFIG_BYTES, MAX_CONFIG_LINES, MAX_LINE_BYTES, complete, IsFirstFault, IsGathered}
use Rattle.kc_dotconfig.proofs.Common.{Holds, AcceptsBytes, EndsWell, EndsBadly}
use Rattle.std.specs.Prelude.{OnErr, Some, None}
use Rattle.std.specs.Str.{IsUtf8}
use Rattle.std.proofs.lemmas.Bool.{and_from, and_parts, eqb-true}
use Rattle.std.proofs.lemmas.List.{take-append-drop, length-take-le}
use Rattle.bstr.specs.Find.{IsFirstByte, is_byte}
use Rattle.kc_value.specs.Lines.{has_no_byte}
use Rattle.kc_dotconfig_model.specs.between.PartialFiles.{IsSound, IsCutFile}
use Rattle.kc_dotconfig.specs.checker.Accumulation.{GoesOn, StopsIn, Refuses}
use Rattle.kc_dotconfig_model.proofs.FaultsAtCuts.{too_many, too_long, too_large, not_utf8, malformed, held, line_ended, accepted, file_means}

no_bytes : (line : List ℕ) → (0 < length line → ⊥) → line ≡ []
no_bytes [] h = refl
no_bytes (b ∷ line) h = absurd (h (omega arith))

pub some_of : (xs : List ℕ) → (length xs == 0) ≡ false → 0 < length xs
some_of [] e = cc
some_of (x ∷ xs) e = omega arith

pub none_of : (xs : List ℕ) → (length xs == 0) ≡ true → xs ≡ []
none_of [] e = refl
none_of (x ∷ xs) e = let n = eqb-true (length (x ∷ xs)) 0 e in absurd (omega arith)

-- the bytes of a line have no newline before the limit, and one is there
cut_piece : (k : ℕ) (piece : List ℕ) → k < length piece → has_no_byte 10 piece ≡ true
    → (b : ℕ) × (more : List ℕ) × (piece ≡ take k piece ++ b ∷ more) × (has_no_byte 10 (take k piece) ≡ true) ×
    ((b == 10) ≡ false) × (length (take k piece) ≡ k)
cut_piece k [] h one = absurd (omega arith)
cut_piece zero (b ∷ piece) h one = (b, piece, refl, refl, no (b == 10) (and_parts (not (b == 10)) (has_no_byte 10 piece) one).0, refl) where
  no : (t : Bool) → not t ≡ true → t ≡ false
  no true e = cc
  no false e = refl
cut_piece (suc k) (b ∷ piece) h one =
    let parts = and_parts (not (b == 10)) (has_no_byte 10 piece) one in
    let rest = cut_piece k piece (omega arith) parts.1 in
    (rest.0, rest.1, ap (λ l. b ∷ l) rest.2, and_from (not (b == 10)) (has_no_byte 10 (take k piece)) parts.0 rest.3, rest.4, (let e = rest.5 in omega arith))

-- a piece that isn't empty, after the greatest number of lines, has the fault `TooManyLines`
pub many_stops : (old piece : List ℕ) (lines : ℕ) → 0 < length piece → lines ≡ MAX_CONFIG_LINES → StopsIn old piece lines TooManyLines
many_stops old piece lines some full format tree known rest meanings c same room =
    let none : old ≡ [] = no_bytes old (λ h. (let r = c.room h in omega arith)) in
    let here = too_many format tree known old meanings c (piece ++ rest) none (same ∙ full) (omega arith) (let e = length-append piece rest in omega arith) in
    subst (λ n. IsFirstFault format tree complete (known ++ (piece ++ rest)) TooManyLines (n + 1)) same here

-- a piece that makes its line longer than `MAX_LINE_BYTES` has the fault `LineTooLong`
pub long_stops : (old piece : List ℕ) (lines : ℕ) → MAX_LINE_BYTES < length old + length piece → has_no_byte 10 piece ≡ true → lines < MAX_CONFIG_LINES
    → StopsIn old piece lines LineTooLong
long_stops old piece lines long one few format tree known rest meanings c same room =
    let short = c.short in
    let cut = cut_piece (MAX_LINE_BYTES - length old) piece (omega arith) one in
    let front = take (MAX_LINE_BYTES - length old) piece in
    let n = cut.5 in
    let whole = ap length cut.2 ∙ length-append front (cut.0 ∷ cut.1) in
    let fits : length old + length front ≤ MAX_LINE_BYTES = omega arith in
    let full : length (old ++ front) ≡ MAX_LINE_BYTES = (let e = length-append old front in omega arith) in
    let kept = held format tree known old meanings c front cut.3 fits (omega arith) (omega arith) in
    let less : length (known ++ front) < MAX_CONFIG_BYTES = (let e = length-append known front in omega arith) in
    let here = too_long format tree (known ++ front) (old ++ front) meanings kept cut.0 (cut.1 ++ rest) full cut.4 less in
    let bytes : (known ++ front) ++ (cut.0 ∷ (cut.1 ++ rest)) ≡ known ++ (piece ++ rest) =
    append_assoc known front (cut.0 ∷ (cut.1 ++ rest)) ∙ ap (λ x. known ++ x) (sym (append_assoc front (cut.0 ∷ cut.1) rest))
    ∙ ap (λ x. known ++ (x ++ rest)) (sym cut.2) in
    subst (λ m. IsFirstFault format tree complete (known ++ (piece ++ rest)) LineTooLong (m + 1)) same
    (subst (λ b. IsFirstFault format tree complete b LineTooLong (length meanings + 1)) bytes here)

pub push_stops : {T : Type 0} (r : Result T LoadKind) (old piece : List ℕ) (lines : ℕ) → (r ≡ Err LineTooLong → MAX_LINE_BYTES < length old + length piece)
    → IfErr r (λ kind. (kind ≡ LineTooLong) ⊎ (kind ≡ OutOfMemory))
    → has_no_byte 10 piece ≡ true → lines < MAX_CONFIG_LINES → IfErr r (λ kind. (kind ≡ OutOfMemory) ⊎ StopsIn old piece lines kind)
push_stops (Ok x) old piece lines long kinds one few = tt
push_stops {T} (Err kind) old piece lines long kinds one few = elim kinds [
  | inl e ↦ inr (subst (StopsIn old piece lines) (sym e) (long_stops old piece lines (long (ap (λ (k : LoadKind). let r : Result T LoadKind = Err k in r) e))
      one few))
  | inr e ↦ inl e
]

seam : (known piece rest : List ℕ) → known ++ ((piece ++ 10 ∷ []) ++ rest) ≡ known ++ (piece ++ (10 ∷ rest))
seam known piece rest = ap (λ x. known ++ x) (append_assoc piece (10 ∷ []) rest)

-- a fault in a piece is the first fault of the piece with its newline
pub stops_refuses : (format : FileFormat) (tree : Tree) (old : List ℕ) (g : Accumulator) (piece : List ℕ) (kind : LoadKind) (lines : ℕ) → lines ≡ g.lines
    → StopsIn old piece lines kind → Refuses format tree old g (piece ++ 10 ∷ []) kind g.lines
stops_refuses format tree old g piece kind lines same stops known rest (meanings, c, gathered) room =
    let n = length-append piece (10 ∷ []) in
    let here = stops format tree known (10 ∷ rest) meanings c (let e = gathered.counted in omega arith) (omega arith) in
    subst (λ m. IsFirstFault format tree complete (known ++ ((piece ++ 10 ∷ []) ++ rest)) kind (m + 1)) same
    (subst (λ b. IsFirstFault format tree complete b kind (lines + 1)) (sym (seam known piece rest)) here)

-- a fault in a piece is the first fault of the piece without a newline
pub stops_last : (format : FileFormat) (tree : Tree) (old : List ℕ) (g : Accumulator) (piece : List ℕ) (kind : LoadKind) → StopsIn old piece g.lines kind
    → Refuses format tree old g piece kind g.lines
stops_last format tree old g piece kind stops known rest (meanings, c, gathered) room = stops format tree known rest meanings c (sym gathered.counted) room

pub many_refuses : (format : FileFormat) (tree : Tree) (old : List ℕ) (g : Accumulator) (piece : List ℕ) → g.lines ≡ MAX_CONFIG_LINES
    → Refuses format tree old g (piece ++ 10 ∷ []) TooManyLines g.lines
many_refuses format tree old g piece full known rest (meanings, c, gathered) room =
    many_stops old (piece ++ 10 ∷ []) g.lines (let e = length-append piece (10 ∷ []) in omega arith) full format tree known rest meanings c
    (sym gathered.counted) room

-- the last piece of a line with its newline is accepted if the line is UTF-8 and its meaning was added to the accumulator
pub line_taken : (format : FileFormat) (tree : Tree) (old : List ℕ) (g : Accumulator) (piece line : List ℕ) (g_new : Accumulator) → line ≡ old ++ piece
    → length line ≤ MAX_LINE_BYTES → has_no_byte 10 piece ≡ true → g.lines < MAX_CONFIG_LINES
    → IsUtf8 line × ((x : LineMeaning) × Means format tree (without_white_end line) x
    × ((meanings : List LineMeaning) → IsGathered tree meanings g → IsGathered tree (meanings ++ x ∷ []) g_new))
    → AcceptsBytes format tree old g (piece ++ 10 ∷ []) [] g_new
line_taken format tree old g piece line g_new is short one few (text, meaning) known (meanings, c, gathered) room =
    let n = length-append piece (10 ∷ []) in
    let counted = gathered.counted in
    let joined : length line ≡ length old + length piece = ap length is ∙ length-append old piece in
    let kept = held format tree known old meanings c piece one (omega arith) (omega arith) (omega arith) in
    let sound : IsSound format tree (old ++ piece) meaning.0 = subst (λ l. IsSound format tree l meaning.0) is
    (record { text = text; short = short; has_meaning = meaning.1 }) in
    let e = length-append known piece in
    let done = line_ended format tree (known ++ piece) (old ++ piece) meanings kept meaning.0 sound (omega arith) (omega arith) in (
      meanings ++ meaning.0 ∷ [],
      subst (λ b. IsCutFile format tree b [] (meanings ++ meaning.0 ∷ [])) (append_assoc known piece (10 ∷ [])) done,
      meaning.2 meanings
          gathered,
    )

-- if a line that ends is not UTF-8 or is malformed, its last piece with the newline has the file's first fault
pub line_refused : (format : FileFormat) (tree : Tree) (old : List ℕ) (g : Accumulator) (piece line : List ℕ) (kind : LoadKind) (lines : ℕ)
    → line ≡ old ++ piece
    → length line ≤ MAX_LINE_BYTES → has_no_byte 10 piece ≡ true → g.lines < MAX_CONFIG_LINES → lines ≡ g.lines
    → (kind ≡ NotUtf8 → IsUtf8 line → ⊥) → (kind ≡ Malformed → IsUtf8 line × IsMalformed format tree line)
    → (kind ≡ NotUtf8) ⊎ (kind ≡ Malformed) ⊎ (kind ≡ OutOfMemory)
    → (kind ≡ OutOfMemory) ⊎ Refuses format tree old g (piece ++ 10 ∷ []) kind lines
line_refused format tree old g piece line kind lines is short one few same odd bad kinds = elim kinds [
  | inl e ↦ inr (λ known rest h room. let k = kept known h room in
      renumber known rest NotUtf8 kind h (sym e) (not_utf8 format tree (known ++ piece) (old ++ piece) h.0 k (10 ∷ rest) (inr (rest, refl, under known room))
      (subst (λ l. IsUtf8 l → ⊥) is (odd e))))
  | inr f ↦ elim f [
    | inl e ↦ inr (λ known rest h room. let k = kept known h room in
        renumber known rest Malformed kind h (sym e) (malformed format tree (known ++ piece) (old ++ piece) h.0 k (10 ∷ rest)
        (inr (rest, refl, under known room)) (subst IsUtf8 is (bad e).0) (subst (IsMalformed format tree) is (bad e).1)))
    | inr e ↦ inl e
  ]
] where
  under : (known : List ℕ) → length known + length (piece ++ 10 ∷ []) ≤ MAX_CONFIG_BYTES → length (known ++ piece) < MAX_CONFIG_BYTES
  under known room = let n = length-append piece (10 ∷ []) in let e = length-append known piece in omega arith

  kept : (known : List ℕ) → (h : Holds format tree known old g) → length known + length (piece ++ 10 ∷ []) ≤ MAX_CONFIG_BYTES
      → IsCutFile format tree (known ++ piece) (old ++ piece) h.0
  kept known h room =
      let n = length-append piece (10 ∷ []) in
      let counted = h.2.counted in
      let joined : length line ≡ length old + length piece = ap length is ∙ length-append old piece in
      held format tree known old h.0 h.1 piece one (omega arith) (omega arith) (omega arith)

  renumber : (known rest : List ℕ) (from to : LoadKind) → (h : Holds format tree known old g) → from ≡ to
      → IsFirstFault format tree complete ((known ++ piece) ++ 10 ∷ rest) from (length h.0 + 1)
      → IsFirstFault format tree complete (known ++ ((piece ++ 10 ∷ []) ++ rest)) to (lines + 1)
  renumber known rest from to h kinds fault =
      let counted : length h.0 ≡ lines = sym h.2.counted ∙ sym same in
      subst (λ m. IsFirstFault format tree complete (known ++ ((piece ++ 10 ∷ []) ++ rest)) to (m + 1)) counted
      (subst (λ k. IsFirstFault format tree complete (known ++ ((piece ++ 10 ∷ []) ++ rest)) k (length h.0 + 1)) kinds
      (subst (λ b. IsFirstFault format tree complete b from (length h.0 + 1)) (append_assoc known piece (10 ∷ rest) ∙ sym (seam known piece rest)) fault))

-- bytes accepted in two parts, one after the other, are accepted together
pub both_taken : (format : FileFormat) (tree : Tree) (a : List ℕ) (g : Accumulator) (front : List ℕ) (b : List ℕ) (h : Accumulator) (back c : List ℕ)
    (k : Accumulator)
    → AcceptsBytes format tree a g front b h → AcceptsBytes format tree b h back c k → AcceptsBytes format tree a g (front ++ back) c k
both_taken format tree a g front b h back c k first second known holds room =
    let n = length-append front back in
    let e = length-append known front in
    subst (λ t. Holds format tree t c k) (append_assoc known front back) (second (known ++ front) (first known holds (omega arith)) (omega arith))

-- if the bytes after accepted ones have the first fault, all of them together have it
pub later_refused : (format : FileFormat) (tree : Tree) (a : List ℕ) (g : Accumulator) (front b : List ℕ) (h : Accumulator) (back more : List ℕ)
    (kind : LoadKind) (lines : ℕ)
    → AcceptsBytes format tree a g front b h → Refuses format tree b h back kind lines → Refuses format tree a g (front ++ (back ++ more)) kind lines
later_refused format tree a g front b h back more kind lines first second known rest holds room =
    let n = length-append front (back ++ more) in
    let m = length-append back more in
    let e = length-append known front in
    let bytes : (known ++ front) ++ (back ++ (more ++ rest)) ≡ known ++ ((front ++ (back ++ more)) ++ rest) =
    append_assoc known front (back ++ (more ++ rest)) ∙ ap (λ x. known ++ (front ++ x)) (sym (append_assoc back more rest))
    ∙ ap (λ x. known ++ x) (sym (append_assoc front (back ++ more) rest)) in
    subst (λ x. IsFirstFault format tree complete x kind (lines + 1)) bytes
    (second (known ++ front) (more ++ rest) (first known holds (omega arith)) (omega arith))

-- a piece that extends an incomplete line is accepted, and leaves the accumulator unchanged
pub piece_taken : (format : FileFormat) (tree : Tree) (a : List ℕ) (g : Accumulator) (piece b : List ℕ) → GoesOn a b piece g.lines
    → AcceptsBytes format tree a g piece b g
piece_taken format tree a g piece b goes known (meanings, c, gathered) room =
    (meanings, goes format tree known meanings c (sym gathered.counted) room, gathered)

pub nothing_taken : (format : FileFormat) (tree : Tree) (a : List ℕ) (g : Accumulator) → AcceptsBytes format tree a g [] a g
nothing_taken format tree a g known holds room = subst (λ t. Holds format tree t a g) (sym (append-nil known)) holds

-- bytes after accepted ones that fill the file up to `MAX_CONFIG_BYTES` have the fault `TooLarge`
pub past_size : (format : FileFormat) (tree : Tree) (a : List ℕ) (g : Accumulator) (front b : List ℕ) (h : Accumulator) (more : List ℕ) (size : ℕ)
    → AcceptsBytes format tree a g front b h → size + length front ≡ MAX_CONFIG_BYTES → 0 < length more
    → (known rest : List ℕ) → Holds format tree known a g → length known ≡ size
    → IsFirstFault format tree complete (known ++ ((front ++ more) ++ rest)) TooLarge (h.lines + 1)
past_size format tree a g front b h more size takes full some known rest holds is =
    let e = length-append known front in
    let m = length-append more rest in
    let now = takes known holds (omega arith) in
    let here = too_large format tree (known ++ front) b now.0 now.1 (more ++ rest) (omega arith) (omega arith) in
    subst (λ n. IsFirstFault format tree complete (known ++ ((front ++ more) ++ rest)) TooLarge (n + 1)) (sym now.2.counted)
    (subst (λ x. IsFirstFault format tree complete x TooLarge (length now.0 + 1))
    (append_assoc known front (more ++ rest) ∙ ap (λ x. known ++ x) (sym (append_assoc front more rest))) here)

-- a file that ends after a newline, or is empty, has the meaning accumulated so far
pub ends_empty : (format : FileFormat) (tree : Tree) (g : Accumulator) → EndsWell format tree [] g g
ends_empty format tree g known (meanings, c, gathered) = (
  meanings,
  accepted format tree known [] meanings c [] (inl (refl, refl)),
  subst (FileMeans format tree known) (append-nil meanings)
      (file_means format tree known [] meanings c [] (inl (refl, refl))),
  gathered,
)

pub ends_line : (format : FileFormat) (tree : Tree) (line : List ℕ) (g g_new : Accumulator) → 0 < length line → length line ≤ MAX_LINE_BYTES
    → IsUtf8 line × ((x : LineMeaning) × Means format tree (without_white_end line) x
    × ((meanings : List LineMeaning) → IsGathered tree meanings g → IsGathered tree (meanings ++ x ∷ []) g_new))
    → EndsWell format tree line g g_new
ends_line format tree line g g_new some short (text, meaning) known (meanings, c, gathered) =
    let sound : IsSound format tree line meaning.0 = record { text = text; short = short; has_meaning = meaning.1 } in
    let last = inr (some, (meaning.0, refl, sound)) in (
      meanings ++ meaning.0 ∷ [],
      accepted format tree known line meanings c (meaning.0 ∷ []) last,
      file_means format tree known line meanings c (meaning.0 ∷ [])
          last,
      meaning.2 meanings gathered,
    )

pub ends_refused : (format : FileFormat) (tree : Tree) (line : List ℕ) (g : Accumulator) (kind : LoadKind) (lines : ℕ) → 0 < length line → lines ≡ g.lines
    → (kind ≡ NotUtf8 → IsUtf8 line → ⊥) → (kind ≡ Malformed → IsUtf8 line × IsMalformed format tree line)
    → (kind ≡ NotUtf8) ⊎ (kind ≡ Malformed) ⊎ (kind ≡ OutOfMemory)
    → (kind ≡ OutOfMemory) ⊎ EndsBadly format tree line g kind lines
ends_refused format tree line g kind lines some same odd bad kinds = elim kinds [
  | inl e ↦ inr (λ known h. renumber known NotUtf8 kind h (sym e) (not_utf8 format tree known line h.0 h.1 [] (inl (refl, some)) (odd e)))
  | inr f ↦ elim f [
    | inl e ↦ inr (λ known h. renumber known Malformed kind h (sym e) (malformed format tree known line h.0 h.1 [] (inl (refl, some)) (bad e).0 (bad e).1))
    | inr e ↦ inl e
  ]
] where
  renumber : (known : List ℕ) (from to : LoadKind) → (h : Holds format tree known line g) → from ≡ to
      → IsFirstFault format tree complete (known ++ []) from (length h.0 + 1) → IsFirstFault format tree complete known to (lines + 1)
  renumber known from to h kinds fault =
      let counted : length h.0 ≡ lines = sym h.2.counted ∙ sym same in
      subst (λ m. IsFirstFault format tree complete known to (m + 1)) counted
      (subst (λ k. IsFirstFault format tree complete known k (length h.0 + 1)) kinds
      (subst (λ b. IsFirstFault format tree complete b from (length h.0 + 1)) (append-nil known) fault))

-- a refused line or piece, by the result of the call
abbrev AsErr : (T : Type 0) → LoadKind → Result T LoadKind
AsErr T kind = Err kind

pub result_refused : {T : Type 0} (r : Result T LoadKind) (format : FileFormat) (tree : Tree) (old : List ℕ) (g : Accumulator) (piece line : List ℕ) (lines : ℕ)
    → line ≡ old ++ piece → length line ≤ MAX_LINE_BYTES → has_no_byte 10 piece ≡ true → g.lines < MAX_CONFIG_LINES
    → (r ≡ Err NotUtf8 → IsUtf8 line → ⊥) → (r ≡ Err Malformed → IsUtf8 line × IsMalformed format tree line)
    → IfErr r (λ kind. (kind ≡ NotUtf8) ⊎ (kind ≡ Malformed) ⊎ (kind ≡ OutOfMemory)) → OnErr r (lines ≡ g.lines)
    → IfErr r (λ kind. (kind ≡ OutOfMemory) ⊎ Refuses format tree old g (piece ++ 10 ∷ []) kind lines)
result_refused (Ok x) format tree old g piece line lines is short one few odd bad kinds same = tt
result_refused {T} (Err kind) format tree old g piece line lines is short one few odd bad kinds same =
    line_refused format tree old g piece line kind lines is short one few same (λ e. odd (ap (AsErr T) e)) (λ e. bad (ap (AsErr T) e)) kinds

pub push_refused : {T : Type 0} (r : Result T LoadKind) (format : FileFormat) (tree : Tree) (old : List ℕ) (g : Accumulator) (piece : List ℕ)
    → (r ≡ Err LineTooLong → MAX_LINE_BYTES < length old + length piece) → IfErr r (λ kind. (kind ≡ LineTooLong) ⊎ (kind ≡ OutOfMemory))
    → has_no_byte 10 piece ≡ true → g.lines < MAX_CONFIG_LINES
    → IfErr r (λ kind. (kind ≡ OutOfMemory) ⊎ Refuses format tree old g (piece ++ 10 ∷ []) kind g.lines)
push_refused (Ok x) format tree old g piece long kinds one few = tt
push_refused {T} (Err kind) format tree old g piece long kinds one few = elim kinds [
  | inl e ↦ inr (subst (λ k. Refuses format tree old g (piece ++ 10 ∷ []) k g.lines) (sym e)
      (stops_refuses format tree old g piece LineTooLong g.lines refl (long_stops old piece g.lines (long (ap (AsErr T) e)) one few)))
  | inr e ↦ inl e
]

pub result_taken : {T : Type 0} (r : Result T LoadKind) (format : FileFormat) (tree : Tree) (old : List ℕ) (g : Accumulator) (piece line after : List ℕ)
    (g_new : Accumulator)
    → line ≡ old ++ piece → length line ≤ MAX_LINE_BYTES → has_no_byte 10 piece ≡ true → g.lines < MAX_CONFIG_LINES → after ≡ []
    → OnOk r (IsUtf8 line × ((x : LineMeaning) × Means format tree (without_white_end line) x
    × ((meanings : List LineMeaning) → IsGathered tree meanings g → IsGathered tree (meanings ++ x ∷ []) g_new)))
    → OnOk r (AcceptsBytes format tree old g (piece ++ 10 ∷ []) after g_new)
result_taken (Ok x) format tree old g piece line after g_new is short one few empty meaning =
    subst (λ a. AcceptsBytes format tree old g (piece ++ 10 ∷ []) a g_new) (sym empty) (line_taken format tree old g piece line g_new is short one few meaning)
result_taken (Err e) format tree old g piece line after g_new is short one few empty meaning = tt

pub lines_bound : {T : Type 0} (r : Result T LoadKind) (a b : ℕ) → OnOk r (b ≡ a + 1) → OnErr r (b ≡ a) → a < MAX_CONFIG_LINES → b ≤ MAX_CONFIG_LINES
lines_bound (Ok x) a b ok err few = omega arith
lines_bound (Err e) a b ok err few = omega arith

pub result_ends : {T : Type 0} (r : Result T LoadKind) (format : FileFormat) (tree : Tree) (old line : List ℕ) (g g_new : Accumulator) → line ≡ old
    → 0 < length line
    → length old ≤ MAX_LINE_BYTES
    → OnOk r (IsUtf8 line × ((x : LineMeaning) × Means format tree (without_white_end line) x
    × ((meanings : List LineMeaning) → IsGathered tree meanings g → IsGathered tree (meanings ++ x ∷ []) g_new)))
    → OnOk r (EndsWell format tree old g g_new)
result_ends (Ok x) format tree old line g g_new is some short meaning =
    subst (λ l. EndsWell format tree l g g_new) is (ends_line format tree line g g_new some (subst (λ l. length l ≤ MAX_LINE_BYTES) (sym is) short) meaning)
result_ends (Err e) format tree old line g g_new is some short meaning = tt

pub result_ends_badly : {T : Type 0} (r : Result T LoadKind) (format : FileFormat) (tree : Tree) (old line : List ℕ) (g : Accumulator) (lines : ℕ) → line ≡ old
    → 0 < length line
    → (r ≡ Err NotUtf8 → IsUtf8 line → ⊥) → (r ≡ Err Malformed → IsUtf8 line × IsMalformed format tree line)
    → IfErr r (λ kind. (kind ≡ NotUtf8) ⊎ (kind ≡ Malformed) ⊎ (kind ≡ OutOfMemory)) → OnErr r (lines ≡ g.lines)
    → IfErr r (λ kind. (kind ≡ OutOfMemory) ⊎ EndsBadly format tree old g kind lines)
result_ends_badly (Ok x) format tree old line g lines is some odd bad kinds same = tt
result_ends_badly {T} (Err kind) format tree old line g lines is some odd bad kinds same =
    subst (λ l. (kind ≡ OutOfMemory) ⊎ EndsBadly format tree l g kind lines) is
    (ends_refused format tree line g kind lines some same (λ e. odd (ap (AsErr T) e)) (λ e. bad (ap (AsErr T) e)) kinds)

-- the bytes up to the first newline, and those after it
newline_at : (rest : List ℕ) (at : ℕ) → at < length rest → (slice_index rest at == 10) ≡ true → ((k : ℕ) → k < at → (slice_index rest k == 10) ≡ true → ⊥)
    → (rest ≡ take at rest ++ 10 ∷ drop (at + 1) rest) × (has_no_byte 10 (take at rest) ≡ true)
newline_at [] at h e none = absurd (omega arith)
newline_at (b ∷ rest) zero h e none = (ap (λ c. c ∷ rest) (eqb-true b 10 e), refl)
newline_at (b ∷ rest) (suc at) h e none =
    let next = newline_at rest at (omega arith) e (λ k less is. none (suc k) (omega arith) is) in
    let n : suc at + 1 ≡ suc (at + 1) = omega arith in
    let other : not (b == 10) ≡ true = no (b == 10) (none 0 (omega arith)) in (
      ap (λ l. b ∷ l) next.0 ∙ ap (λ m. b ∷ (take at rest ++ 10 ∷ drop m (b ∷ rest))) (sym n),
      and_from (not (b == 10))
          (has_no_byte 10 (take at rest)) other next.1,
    )
  where
    no : (t : Bool) → (t ≡ true → ⊥) → not t ≡ true
    no true h = absurd (h refl)
    no false h = refl

pub first_newline : (rest : List ℕ) (at : ℕ) → IsFirstByte (is_byte 10) rest (Some at)
    → (rest ≡ take at rest ++ 10 ∷ drop (at + 1) rest) × (has_no_byte 10 (take at rest) ≡ true)
first_newline rest at first = newline_at rest at first.0.high first.1 (λ k less is. first.0.before k (omega arith) less is)

pub no_newline : (rest : List ℕ) → IsFirstByte (is_byte 10) rest None → has_no_byte 10 rest ≡ true
no_newline [] none = refl
no_newline (b ∷ rest) none =
    and_from (not (b == 10)) (has_no_byte 10 rest) (no (b == 10) (none 0 (omega arith) (omega arith)))
    (no_newline rest (λ k low high is. none (suc k) (omega arith) (omega arith) is)) where
      no : (t : Bool) → (t ≡ true → ⊥) → not t ≡ true
      no true h = absurd (h refl)
      no false h = refl

-- one line more of some bytes
rest_is : (rest : List ℕ) (n : ℕ) → take (length rest - n) (drop n rest) ≡ drop n rest
rest_is rest n = grind (arith, common_steps)

line_of : (rest : List ℕ) (at : ℕ) → IsFirstByte (is_byte 10) rest (Some at) → rest ≡ (take at rest ++ 10 ∷ []) ++ drop (at + 1) rest
line_of rest at first = (first_newline rest at first).0 ∙ sym (append_assoc (take at rest) (10 ∷ []) (drop (at + 1) rest))

pub step_taken : (format : FileFormat) (tree : Tree) (a : List ℕ) (g : Accumulator) (bytes rest : List ℕ) (at : ℕ) (b : List ℕ) (h : Accumulator) (c : List ℕ)
    (k : Accumulator)
    → (front : List ℕ) × (bytes ≡ front ++ rest) × AcceptsBytes format tree a g front b h → IsFirstByte (is_byte 10) rest (Some at)
    → AcceptsBytes format tree b h (take at rest ++ 10 ∷ []) c k
    → (front : List ℕ) × (bytes ≡ front ++ take (length rest - (at + 1)) (drop (at + 1) rest)) × AcceptsBytes format tree a g front c k
step_taken format tree a g bytes rest at b h c k (front, is, takes) first second = (
  front ++ (take at rest ++ 10 ∷ []),
  is ∙ ap (λ r. front ++ r) (line_of rest at first) ∙ sym (append_assoc front (take at rest ++ 10 ∷ []) (drop (at + 1) rest))
      ∙ ap (λ r. (front ++ (take at rest ++ 10 ∷ [])) ++ r) (sym (rest_is rest (at + 1))),
  both_taken format tree a g front b h (take at rest ++ 10 ∷ []) c k takes second,
)

pub step_refused : (format : FileFormat) (tree : Tree) (a : List ℕ) (g : Accumulator) (bytes rest : List ℕ) (at : ℕ) (b : List ℕ) (h : Accumulator)
    (kind : LoadKind) (lines : ℕ)
    → (front : List ℕ) × (bytes ≡ front ++ rest) × AcceptsBytes format tree a g front b h → IsFirstByte (is_byte 10) rest (Some at)
    → (kind ≡ OutOfMemory) ⊎ Refuses format tree b h (take at rest ++ 10 ∷ []) kind lines
    → (kind ≡ OutOfMemory) ⊎ Refuses format tree a g bytes kind lines
step_refused format tree a g bytes rest at b h kind lines (front, is, takes) first fault = elim fault [
  | inl e ↦ inl e
  | inr refuses ↦ inr (subst (λ x. Refuses format tree a g x kind lines) (sym (is ∙ ap (λ r. front ++ r) (line_of rest at first)))
      (later_refused format tree a g front b h (take at rest ++ 10 ∷ []) (drop (at + 1) rest) kind lines takes refuses))
]

pub last_taken : {T : Type 0} (r : Result T LoadKind) (format : FileFormat) (tree : Tree) (a : List ℕ) (g : Accumulator) (bytes rest b : List ℕ)
    (h : Accumulator) (c : List ℕ)
    → (front : List ℕ) × (bytes ≡ front ++ rest) × AcceptsBytes format tree a g front b h → OnOk r (GoesOn b c rest h.lines)
    → OnOk r (AcceptsBytes format tree a g bytes c h)
last_taken (Ok x) format tree a g bytes rest b h c (front, is, takes) goes =
    subst (λ x. AcceptsBytes format tree a g x c h) (sym is) (both_taken format tree a g front b h rest c h takes (piece_taken format tree b h rest c goes))
last_taken (Err e) format tree a g bytes rest b h c taken goes = tt

pub last_refused : {T : Type 0} (r : Result T LoadKind) (format : FileFormat) (tree : Tree) (a : List ℕ) (g : Accumulator) (bytes rest b : List ℕ)
    (h : Accumulator)
    → (front : List ℕ) × (bytes ≡ front ++ rest) × AcceptsBytes format tree a g front b h → IfErr r (λ kind. (kind ≡ OutOfMemory) ⊎ StopsIn b rest h.lines kind)
    → IfErr r (λ kind. (kind ≡ OutOfMemory) ⊎ Refuses format tree a g bytes kind h.lines)
last_refused (Ok x) format tree a g bytes rest b h taken fault = tt
last_refused (Err kind) format tree a g bytes rest b h (front, is, takes) fault = elim fault [
  | inl e ↦ inl e
  | inr stops ↦ inr (subst (λ x. Refuses format tree a g x kind h.lines) (ap (λ r. front ++ r) (append-nil rest) ∙ sym is)
      (later_refused format tree a g front b h rest [] kind h.lines takes (stops_last format tree b h rest kind stops)))
]

-- a fault in the part of a block that lies within `MAX_CONFIG_BYTES` is the first fault of the file
pub block_refused : (format : FileFormat) (tree : Tree) (a : List ℕ) (g : Accumulator) (front : List ℕ) (more : List ℕ) (kind : LoadKind) (size lines : ℕ)
    → size + length front ≤ MAX_CONFIG_BYTES → (kind ≡ OutOfMemory) ⊎ Refuses format tree a g front kind lines
    → (kind ≡ OutOfMemory) ⊎ ((known rest : List ℕ) → Holds format tree known a g → length known ≡ size
    → IsFirstFault format tree complete (known ++ ((front ++ more) ++ rest)) kind (lines + 1))
block_refused format tree a g front more kind size lines room fault = elim fault [
  | inl e ↦ inl e
  | inr refuses ↦ inr (λ known rest holds is. subst (λ x. IsFirstFault format tree complete x kind (lines + 1))
      (ap (λ x. known ++ x) (sym (append_assoc front more rest))) (refuses known (more ++ rest) holds (omega arith)))
]

-- a fault in a block that lies within `MAX_CONFIG_BYTES` is the first fault of the file
pub block_faulty : {T : Type 0} (r : Result T LoadKind) (format : FileFormat) (tree : Tree) (a : List ℕ) (g : Accumulator) (block : List ℕ) (size lines : ℕ)
    → size ≤ MAX_CONFIG_BYTES → length block ≤ MAX_CONFIG_BYTES - size
    → IfErr r (λ kind. (kind ≡ OutOfMemory) ⊎ Refuses format tree a g block kind lines)
    → IfErr r (λ kind. (kind ≡ OutOfMemory) ⊎ ((known rest : List ℕ) → Holds format tree known a g → length known ≡ size
    → IsFirstFault format tree complete (known ++ (block ++ rest)) kind (lines + 1)))
block_faulty (Ok x) format tree a g block size lines small short fault = tt
block_faulty (Err kind) format tree a g block size lines small short fault = elim fault [
  | inl e ↦ inl e
  | inr refuses ↦ inr (λ known rest holds is. refuses known rest holds (omega (arith, small, short, is)))
]

-- for a block that exceeds `MAX_CONFIG_BYTES`, a fault in its part within the limit is the first fault of the file
pub part_refused : (format : FileFormat) (tree : Tree) (a : List ℕ) (g : Accumulator) (block : List ℕ) (kind : LoadKind) (size lines : ℕ)
    → size ≤ MAX_CONFIG_BYTES
    → MAX_CONFIG_BYTES - size < length block → (kind ≡ OutOfMemory) ⊎ Refuses format tree a g (take (MAX_CONFIG_BYTES - size) block) kind lines
    → (kind ≡ OutOfMemory) ⊎ ((known rest : List ℕ) → Holds format tree known a g → length known ≡ size
    → IsFirstFault format tree complete (known ++ (block ++ rest)) kind (lines + 1))
part_refused format tree a g block kind size lines small long fault =
    let n = length-take-le (MAX_CONFIG_BYTES - size) block (omega arith) in
    subst (λ x. (kind ≡ OutOfMemory) ⊎ ((known rest : List ℕ) → Holds format tree known a g → length known ≡ size
    → IsFirstFault format tree complete (known ++ (x ++ rest)) kind (lines + 1))) (take-append-drop (MAX_CONFIG_BYTES - size) block)
    (block_refused format tree a g (take (MAX_CONFIG_BYTES - size) block) (drop (MAX_CONFIG_BYTES - size) block) kind size lines (omega arith) fault)

pub part_too_large : (format : FileFormat) (tree : Tree) (a : List ℕ) (g : Accumulator) (block b : List ℕ) (h : Accumulator) (size : ℕ)
    → size ≤ MAX_CONFIG_BYTES
    → MAX_CONFIG_BYTES - size < length block → AcceptsBytes format tree a g (take (MAX_CONFIG_BYTES - size) block) b h
    → (known rest : List ℕ) → Holds format tree known a g → length known ≡ size
    → IsFirstFault format tree complete (known ++ (block ++ rest)) TooLarge (h.lines + 1)
part_too_large format tree a g block b h size small long takes known rest holds is =
    let n = length-take-le (MAX_CONFIG_BYTES - size) block (omega arith) in
    let whole = take-append-drop (MAX_CONFIG_BYTES - size) block in
    let all = ap length whole in
    let sum = length-append (take (MAX_CONFIG_BYTES - size) block) (drop (MAX_CONFIG_BYTES - size) block) in
    subst (λ x. IsFirstFault format tree complete (known ++ (x ++ rest)) TooLarge (h.lines + 1)) whole
    (past_size format tree a g (take (MAX_CONFIG_BYTES - size) block) b h (drop (MAX_CONFIG_BYTES - size) block) size takes (omega arith) (omega arith) known
    rest holds is)
