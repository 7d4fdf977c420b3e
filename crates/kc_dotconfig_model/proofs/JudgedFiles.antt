-- Each file is accepted or has a first fault.
use Rattle.kc_dotconfig_model.proofs.Common.{◌≡◌, ◌⊎◌, inl, inr, ℕ, ◌+◌, ◌<◌, ◌≤◌, true, not, ◌==◌, List, [], ◌∷◌, ◌++◌, Option, Some, None, length, refl, sym, ◌∙◌, ap, subst, append_assoc, arith, IsUtf8, is_utf8, cases_Bool, cases_lt, false≢true, and_from, eqb-true, append-nil, IsUtf8-from_is_utf8}
use Rattle.kc_dotconfig_model.proofs.Common.{is_utf8-from_IsUtf8, Tree, FileFormat, LoadKind, Malformed, NotUtf8, LineTooLong, TooManyLines, Read, TooLarge, has_no_byte, newline_count, is_name_prefix, LineMeaning, without_white_end, MAX_CONFIG_BYTES, MAX_CONFIG_LINES, MAX_LINE_BYTES, complete}
use Rattle.kc_dotconfig_model.proofs.Common.{cut_short, OccursAt, IsFirstFault, IsAccepted, IsSound, IsCutFile}
use Rattle.kc_dotconfig_model.specs.FileLaws.{EachFileIsJudged, EachCutFileIsJudged}
use Rattle.kc_dotconfig_model.specs.between.LineMeanings.{line_meaning}
use Rattle.kc_dotconfig_model.proofs.LineLaws.{line_read}
use Rattle.kc_dotconfig_model.proofs.FirstFaults.{failed_reads}
use Rattle.kc_dotconfig_model.proofs.FaultsAtCuts.{AtEnd, too_large, too_many, too_long, not_utf8, malformed, accepted, held, line_ended, empty_cut}

abbrev Judged : FileFormat → Tree → List ℕ → Type 0
Judged format tree bytes = IsAccepted format tree bytes ⊎ ((kind : LoadKind) × (number : ℕ) × IsFirstFault format tree complete bytes kind number)

no_length : (line : List ℕ) → length line ≤ 0 → line ≡ []
no_length [] h = refl
no_length (b ∷ line) h = absurd (omega arith)

module _ (format : FileFormat) (valid : is_name_prefix format.prefix ≡ true) (tree : Tree) (known line : List ℕ) (meanings : List LineMeaning)
    (c : IsCutFile format tree known line meanings) where
  -- the line so far has a fault at its end, or what follows judges
  at_line_end : (more : List ℕ) → AtEnd format tree known line meanings c more
      → ((x : LineMeaning) → IsSound format tree line x → Judged format tree (known ++ more)) → Judged format tree (known ++ more)
  at_line_end more ends next = elim (cases_Bool (is_utf8 line)) [
    | inl is ↦ read (line_meaning format tree (without_white_end line)) refl (IsUtf8-from_is_utf8 line is)
    | inr odd ↦ inr (
      NotUtf8,
      length meanings + 1,
      not_utf8 format tree known line meanings c more ends
          (λ u. false≢true (sym odd ∙ is_utf8-from_IsUtf8 line u)),
    )
  ] where
    read : (o : Option LineMeaning) → line_meaning format tree (without_white_end line) ≡ o → IsUtf8 line
        → IsAccepted format tree (known ++ more) ⊎ ((kind : LoadKind) × (number : ℕ) × IsFirstFault format tree complete (known ++ more) kind number)
    read (Some x) e text = next x (record { text = text; short = c.short; has_meaning = (line_read format tree (without_white_end line) x valid).0 e })
    read None e text =
        inr (
          Malformed,
          length meanings + 1,
          malformed format tree known line meanings c more ends text
              (λ x has_meaning. let some = (line_read format tree (without_white_end line) x valid).1 has_meaning in cc (some, e)),
        )

  -- the file ends here
  at_file_end : Judged format tree (known ++ [])
  at_file_end = elim (cases_lt 0 (length line)) [
    | inl some ↦ at_line_end [] (inl (refl, some)) (λ x sound. inl (subst (IsAccepted format tree) (sym (append-nil known))
        (accepted format tree known line meanings c (x ∷ []) (inr (some, (x, refl, sound))))))
    | inr none ↦ inl (subst (IsAccepted format tree) (sym (append-nil known)) (accepted format tree known line meanings c [] (inl (no_length line none, refl))))
  ]

  -- a byte follows that is within the size, and either it is too many or goes on
  at_byte : (b : ℕ) (rest : List ℕ) → length known < MAX_CONFIG_BYTES
      → (((line_new : List ℕ) (sayings_new : List LineMeaning) → IsCutFile format tree (known ++ b ∷ []) line_new sayings_new
      → Judged format tree (known ++ b ∷ rest)))
      → Judged format tree (known ++ b ∷ rest)
  at_byte b rest less next = elim (cases_lt (length meanings) MAX_CONFIG_LINES) [
    | inl room ↦ elim (cases_Bool (b == 10)) [
      | inl newline ↦
          let is = eqb-true b 10 newline in
          at_line_end (b ∷ rest) (inr (rest, (ap (λ x. x ∷ rest) is), less))
          (λ x sound. next [] (meanings ++ x ∷ []) (subst (λ y. IsCutFile format tree (known ++ y ∷ []) [] (meanings ++ x ∷ [])) (sym is)
          (line_ended format tree known line meanings c x sound room less)))
      | inr other ↦ elim (cases_lt (length line) MAX_LINE_BYTES) [
        | inl short ↦
            let one : has_no_byte 10 (b ∷ []) ≡ true = and_from (not (b == 10)) true (ap not other) refl in
            next (line ++ b ∷ []) meanings (held format tree known line meanings c (b ∷ []) one (omega arith) room (omega arith))
        | inr full ↦ inr (
          LineTooLong,
          length meanings + 1,
          too_long format tree known line meanings c b rest (let h = c.short in omega (arith, h, full)) other
              less,
        )
      ]
    ]
    | inr full ↦
        let none : line ≡ [] = elim (cases_lt 0 (length line)) [
          | inl some ↦ (let h = c.room some in absurd (omega (arith, h, full)))
          | inr empty ↦ no_length
              line empty
        ] in
        inr (
          TooManyLines,
          length meanings + 1,
          too_many format tree known line meanings c (b ∷ rest) none (let h = c.few in omega (arith, h, full)) less
              (omega arith),
        )
  ]

-- the known bytes, and these after them
judge : (format : FileFormat) → is_name_prefix format.prefix ≡ true → (tree : Tree) (more known line : List ℕ) (meanings : List LineMeaning)
    → IsCutFile format tree known line meanings → Judged format tree (known ++ more)
judge format valid tree [] known line meanings c = at_file_end format valid tree known line meanings c
judge format valid tree (b ∷ rest) known line meanings c =
    let later : (line_new : List ℕ) (sayings_new : List LineMeaning) → IsCutFile format tree (known ++ b ∷ []) line_new sayings_new
    → Judged format tree (known ++ b ∷ rest) =
    λ l s d. subst (Judged format tree) (append_assoc known (b ∷ []) rest) (judge format valid tree rest (known ++ b ∷ []) l s d) in
    elim (cases_lt (length known) MAX_CONFIG_BYTES) [
      | inl less ↦ at_byte format valid tree known line meanings c b rest less later
      | inr full ↦ inr (
        TooLarge,
        length meanings + 1,
        too_large format tree known line meanings c (b ∷ rest) (let h = c.small in omega (arith, h, full))
            (omega arith),
      )
    ]

pub judged : EachFileIsJudged
judged format tree bytes valid = judge format valid tree bytes [] [] [] (empty_cut format tree)

-- a failed read is the first fault where no other comes before it
read_first : (format : FileFormat) (tree : Tree) (bytes : List ℕ)
    → ((kind : LoadKind) (byte other : ℕ) → OccursAt format tree bytes kind byte other → length bytes ≤ byte)
    → (kind : LoadKind) × (number : ℕ) × IsFirstFault format tree cut_short bytes kind number
read_first format tree bytes late = (Read, newline_count bytes + 1, (failed_reads format tree bytes (newline_count bytes + 1)).1 (late, refl))

pub cut_judged : EachCutFileIsJudged
cut_judged format tree bytes valid = elim (judged format tree bytes valid) [
  | inl good ↦ read_first format tree bytes (λ kind byte other comes. absurd (good kind byte other comes))
  | inr bad ↦ (let fault = bad.2 in elim (cases_lt fault.byte (length bytes)) [
    | inl within ↦ (
      bad.0,
      bad.1,
      record {
        byte = fault.byte;
        comes = inl (fault.comes, within);
        first = λ other other_byte n comes. elim comes [
          | inl before ↦ fault.first other other_byte n before.0
          | inr read ↦ inl (let e = read.1 in omega (arith, e, within))
        ];
      },
    )
    | inr behind ↦ read_first format tree bytes (λ kind byte other comes. elim (fault.first kind byte other comes)
        [ inl less ↦ omega (arith, less, behind) | inr same ↦ (let e = same.0 in omega (arith, e, behind)) ])
  ])
]
