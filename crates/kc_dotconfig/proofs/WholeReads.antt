-- A configuration file read to its end, a block at a time.
use Rattle.std.proofs.Common.{◌^◌}
use Rattle.std.specs.Prelude.{Option, Some, None}
use Rattle.kc_dotconfig.proofs.Common.{true, ◌≡◌, ◌⊎◌, inl, inr, ℕ, ◌+◌, ◌-◌, ◌<◌, ◌≤◌, map, List, [], ◌∷◌, ◌++◌, length, take, refl, sym, ◌∙◌, ap, subst, append_assoc, length-append, arith, Result, Ok, Err, IfOk, IfErr, OnOk, FileFormat, append-nil, Tree, LoadKind, Malformed, NotUtf8, LineTooLong}
use Rattle.kc_dotconfig.proofs.Common.{TooManyLines, OutOfMemory, TooLarge, Accumulator, MAX_CONFIG_BLOCK_BYTES, MAX_CONFIG_BYTES, MAX_CONFIG_LINES, complete, IsFirstFault, IsConsistent, is_name_prefix, FitsTree, users_of, notice_pair, joined, Holds, AcceptsBytes, EndsWell, EndsBadly, IsGathered}
use Rattle.kc_dotconfig.proofs.Common.{IsAscending, AreBelow}
use Rattle.kc_dotconfig_model.specs.declared.fault.LoadFault.{LoadFault}
use Rattle.std.specs.Io.KnownBytes.{Consumes, Keeps, IsAtEnd}
use Rattle.kc_value.specs.Streams.{one_failure_more}
use Rattle.kc_dotconfig_model.specs.declared.fault.LoadKind.TheVariants.{Read}
use Rattle.kc_dotconfig.specs.declared.fragment.Fragment.{Fragment}
use Rattle.kc_dotconfig_model.specs.LoadFaults.{OccursAt}
use Rattle.kc_dotconfig.proofs.UserValueFits.{fragment_fits}
use Rattle.kc_dotconfig.specs.ReadResults.{IsReadAs, IsReadKeeping, IsFileRefused, IsCutShort, ReportsFault}
use Rattle.kc_dotconfig.proofs.Insertions.{whole_users, whole_rises, whole_below}
use Rattle.kc_dotconfig.specs.checker.Accumulation.{fault_line, IsFragmentOf}
use Rattle.kc_dotconfig_model.proofs.FirstFaults.{failed_reads}
use Rattle.kc_dotconfig_model.proofs.FaultsAtCuts.{clean, known_newlines, empty_cut}

pub consumes_both : (a b c : Option (List ℕ)) (x y : List ℕ) → Consumes a b x → Consumes b c y → Consumes a c (x ++ y)
consumes_both None b c x y p q = tt
consumes_both (Some xs) None c x y p q = absurd p
consumes_both (Some xs) (Some ys) None x y p q = absurd q
consumes_both (Some xs) (Some ys) (Some zs) x y p q = p ∙ ap (λ l. x ++ l) q ∙ sym (append_assoc x y zs)

pub consumes_kept : (a b c : Option (List ℕ)) (x : List ℕ) → Consumes a b x → Keeps b c → Consumes a c x
consumes_kept None b c x p q = tt
consumes_kept (Some xs) None c x p q = absurd p
consumes_kept (Some xs) (Some ys) None x p q = absurd q
consumes_kept (Some xs) (Some ys) (Some zs) x p q = p ∙ ap (λ l. x ++ l) (sym q)

pub consumes_nothing : (a : Option (List ℕ)) → Consumes a a []
consumes_nothing None = tt
consumes_nothing (Some xs) = refl

-- a reader supplied `size` bytes without a fault, which end with the incomplete line `line`; `g` has the meanings of the complete
-- ones, and `keeps` is true of the bytes
pub record HasRead (format : FileFormat) (tree : Tree) (before after : Option (List ℕ)) (line : List ℕ) (g : Accumulator) (size : ℕ)
    (keeps : List ℕ → Type 0) : Type 0 where
  pub known : List ℕ
  pub consumed : Consumes before after known
  pub counted : length known ≡ size
  pub holds : Holds format tree known line g
  pub kept : keeps known

pub has_read_none : (format : FileFormat) (tree : Tree) (a : Option (List ℕ)) (line : List ℕ) (g : Accumulator) (keeps : List ℕ → Type 0) → line ≡ []
    → IsGathered tree [] g → keeps [] → HasRead format tree a a line g 0 keeps
has_read_none format tree a line g keeps empty gathered none =
    record {
      known = [];
      kept = none;
      consumed = consumes_nothing a;
      counted = refl;
      holds = subst (λ l. Holds format tree [] l g) (sym empty)
          ([], empty_cut format tree, gathered);
    }

pub has_read_more : (format : FileFormat) (tree : Tree) (a b c : Option (List ℕ)) (line : List ℕ) (g : Accumulator) (size : ℕ) (block line_new : List ℕ)
    (h : Accumulator) (count : ℕ) (keeps keeps_new : List ℕ → Type 0)
    → HasRead format tree a b line g size keeps → Consumes b c block → length block ≡ count → AcceptsBytes format tree line g block line_new h
    → size + length block ≤ MAX_CONFIG_BYTES → ((known : List ℕ) → keeps known → keeps_new (known ++ block))
    → HasRead format tree a c line_new h (size + count) keeps_new
has_read_more format tree a b c line g size block line_new h count keeps keeps_new r consumed n takes room more =
    let known_size = r.counted in record {
      known = r.known ++ block;
      kept = more r.known r.kept;
      consumed = consumes_both a b c r.known block r.consumed consumed;
      counted = (let e = length-append r.known block in omega arith);
      holds = takes r.known r.holds (omega arith);
    }

-- while a file is read, the incomplete line is empty or the complete lines are fewer than `MAX_CONFIG_LINES`
pub room_of : (format : FileFormat) (tree : Tree) (a b : Option (List ℕ)) (line : List ℕ) (g : Accumulator) (size : ℕ) {keeps : List ℕ → Type 0}
    → HasRead format tree a b line g size keeps → (line ≡ []) ⊎ (g.lines < MAX_CONFIG_LINES)
room_of format tree a b [] g size r = inl refl
room_of format tree a b (x ∷ line) g size r = let room = r.holds.1.room (omega arith) in let counted = r.holds.2.counted in inr (omega arith)

pub read_cut_short : (format : FileFormat) (tree : Tree) (a b c : Option (List ℕ)) (line : List ℕ) (g : Accumulator) (size lines : ℕ) {keeps : List ℕ → Type 0}
    → HasRead format tree a b line g size keeps → Keeps b c → lines ≡ g.lines + 1 → IsCutShort format tree a c lines
read_cut_short format tree a b c line g size lines r kept is =
    let cut = r.holds.1 in
    record {
      known = r.known;
      consumed = consumes_kept a b c r.known r.consumed kept;
      first = (failed_reads format tree r.known lines).1 (
        λ kind byte number comes. clean format tree r.known line r.holds.0 cut [] kind byte number
            (subst (λ t. OccursAt format tree t kind byte number) (sym (append-nil r.known)) comes),
        (let e = known_newlines format tree r.known line r.holds.0 cut in let f = r.holds.2.counted in omega arith),
      );
    }

pub rises : (n m k : ℕ) → m ≡ n → k ≡ one_failure_more m → n < 2 ^ 64 - 1 → n < k
rises n m k same is less = omega arith

-- if one read failed and none before it, the reader's count of failures rose by at most one
pub one_read : (n m k : ℕ) → m ≡ n → k ≡ one_failure_more m → k ≤ n + 1
one_read n m k same is = omega arith

-- what holds for any result holds for an `Ok`
pub on_any_ok : {T E P : Type 0} (r : Result T E) → P → OnOk r P
on_any_ok (Ok x) p = p
on_any_ok (Err e) p = tt

pub if_any_err : {T E : Type 0} (r : Result T E) (P : E → Type 0) → ((e : E) → P e) → IfErr r P
if_any_err (Ok x) P p = tt
if_any_err (Err e) P p = p e

-- out of memory with the line 0, or a refusal of the bytes read, is what a reported fault implies
pub reports_refused : (format : FileFormat) (tree : Tree) (a c : Option (List ℕ)) (f f_after : ℕ) (kind : LoadKind) (number : ℕ)
    → ((kind ≡ OutOfMemory) × (number ≡ 0)) ⊎ IsFileRefused format tree a c kind number → ReportsFault format tree a c f f_after kind number
reports_refused format tree a c f f_after Malformed number h = elim h [ inl e ↦ (let other = e.0 in cc) | inr r ↦ r ]
reports_refused format tree a c f f_after NotUtf8 number h = elim h [ inl e ↦ (let other = e.0 in cc) | inr r ↦ r ]
reports_refused format tree a c f f_after LineTooLong number h = elim h [ inl e ↦ (let other = e.0 in cc) | inr r ↦ r ]
reports_refused format tree a c f f_after TooManyLines number h = elim h [ inl e ↦ (let other = e.0 in cc) | inr r ↦ r ]
reports_refused format tree a c f f_after TooLarge number h = elim h [ inl e ↦ (let other = e.0 in cc) | inr r ↦ r ]
reports_refused format tree a c f f_after Read number h =
    elim h [ inl e ↦ (let other = e.0 in cc) | inr r ↦ elim r.first [ inl whole ↦ absurd whole.1.comes | inr any ↦ absurd (any []).comes ] ]
reports_refused format tree a c f f_after OutOfMemory number h = elim h [
  | inl e ↦ e.1
  | inr r ↦ elim r.first [ inl whole ↦ absurd whole.1.comes | inr any ↦ absurd (any []).comes ]
]

pub refused_in : (format : FileFormat) (tree : Tree) (a b c : Option (List ℕ)) (line : List ℕ) (g : Accumulator) (size : ℕ) (block : List ℕ) (kind : LoadKind)
    (number : ℕ) {keeps : List ℕ → Type 0}
    → HasRead format tree a b line g size keeps → Consumes b c block → length block ≤ MAX_CONFIG_BLOCK_BYTES
    → ((kind ≡ OutOfMemory) × (number ≡ 0)) ⊎ ((known rest : List ℕ) → Holds format tree known line g → length known ≡ size
    → IsFirstFault format tree complete (known ++ (block ++ rest)) kind number)
    → ((kind ≡ OutOfMemory) × (number ≡ 0)) ⊎ IsFileRefused format tree a c kind number
refused_in format tree a b c line g size block kind number r consumed short fault = elim fault [
  | inl e ↦ inl e
  | inr first ↦ inr (record {
    known = r.known ++ block;
    consumed = consumes_both a b c r.known block r.consumed consumed;
    first = inr (λ rest. subst (λ x. IsFirstFault format tree complete x kind number) (sym (append_assoc r.known block rest))
        (first r.known rest r.holds r.counted));
    soon = λ rest other byte n comes.
        let late = clean format tree r.known line r.holds.0 r.holds.1 (block ++ rest) other byte n
        (subst (λ x. OccursAt format tree x other byte n) (append_assoc r.known block rest) comes) in
        let sum = length-append r.known block in
        omega (arith, late, sum, short);
  })
]

pub refused_at_end : (format : FileFormat) (tree : Tree) (a b c : Option (List ℕ)) (line : List ℕ) (g : Accumulator) (size : ℕ) (kind : LoadKind) (number : ℕ) {keeps : List ℕ → Type 0}
    → HasRead format tree a b line g size keeps → Consumes b c [] → IsAtEnd c
    → ((kind ≡ OutOfMemory) × (number ≡ 0)) ⊎ ((known : List ℕ) → Holds format tree known line g → IsFirstFault format tree complete known kind number)
    → ((kind ≡ OutOfMemory) × (number ≡ 0)) ⊎ IsFileRefused format tree a c kind number
refused_at_end format tree a b c line g size kind number r consumed end fault = elim fault [
  | inl e ↦ inl e
  | inr first ↦ inr (record {
    known = r.known;
    consumed = subst (Consumes a c) (append-nil r.known) (consumes_both a b c r.known [] r.consumed consumed);
    first = inl (end, first r.known r.holds);
    soon = λ rest other byte n comes. let late = clean format tree r.known line r.holds.0 r.holds.1 rest other byte n comes in omega (arith, late);
  })
]

pub read_whole : (format : FileFormat) (tree : Tree) (a b c : Option (List ℕ)) (line : List ℕ) (g : Accumulator) (size : ℕ) (f : Fragment) {keeps : List ℕ → Type 0}
    → HasRead format tree a b line g size keeps → Consumes b c [] → IsAtEnd c → IsFragmentOf format tree line g f
    → IsReadKeeping format tree a c keeps f
read_whole format tree a b c line g size f r consumed end whole =
    let all = whole r.known r.holds in (
      record {
        known = r.known;
        consumed = subst (Consumes a c) (append-nil r.known) (consumes_both a b c r.known [] r.consumed consumed);
        ended = end;
        accepted = all.1;
        meanings = all.0;
        has_meaning = all.2;
        users = all.3;
        noted = all.4;
        chosen = all.7;
      },
      r.kept,
    )

-- a first fault of a complete file is of a line
fault_has_line : (format : FileFormat) (tree : Tree) (bytes : List ℕ) (kind : LoadKind) (number lines : ℕ) → IsFirstFault format tree complete bytes kind number
    → fault_line kind lines ≡ lines + 1
fault_has_line format tree bytes Malformed number lines first = refl
fault_has_line format tree bytes NotUtf8 number lines first = refl
fault_has_line format tree bytes LineTooLong number lines first = refl
fault_has_line format tree bytes TooManyLines number lines first = refl
fault_has_line format tree bytes Read number lines first = refl
fault_has_line format tree bytes OutOfMemory number lines first = absurd first.comes
fault_has_line format tree bytes TooLarge number lines first = refl

-- out of memory has the line 0
memory_line : (kind : LoadKind) (n lines : ℕ) → n ≡ fault_line kind lines → kind ≡ OutOfMemory → n ≡ 0
memory_line kind n lines is e = is ∙ ap (λ k. fault_line k lines) e

-- the fault after some complete lines, with its line
fault_with_line : (format : FileFormat) (tree : Tree) (bytes : List ℕ) (kind k : LoadKind) (lines n : ℕ) → k ≡ kind → n ≡ fault_line kind lines
    → IsFirstFault format tree complete bytes kind (lines + 1) → IsFirstFault format tree complete bytes k n
fault_with_line format tree bytes kind k lines n same is first =
    subst (λ m. IsFirstFault format tree complete bytes k m) (sym (is ∙ fault_has_line format tree bytes kind (lines + 1) lines first))
    (subst (λ x. IsFirstFault format tree complete bytes x (lines + 1)) (sym same) first)

pub fault_of : (format : FileFormat) (tree : Tree) (line : List ℕ) (g : Accumulator) (kind k : LoadKind) (lines n : ℕ) → k ≡ kind → n ≡ fault_line kind lines
    → (kind ≡ OutOfMemory) ⊎ EndsBadly format tree line g kind lines
    → ((k ≡ OutOfMemory) × (n ≡ 0)) ⊎ ((known : List ℕ) → Holds format tree known line g → IsFirstFault format tree complete known k n)
fault_of format tree line g kind k lines n same is fault = elim fault [
  | inl e ↦ inl (same ∙ e, memory_line kind n lines is e)
  | inr bad ↦ inr (λ known holds. fault_with_line format tree known kind k lines n same is (bad known holds))
]

pub ends_whole : (format : FileFormat) (tree : Tree) (line : List ℕ) (g h : Accumulator) (f : Fragment) → EndsWell format tree line g h
    → (f.assigns.items ≡ joined h.assigns h.members.entries) × (f.notices.items ≡ h.notices.items) × (f.chosen.items ≡ h.chosen.items) → IsFragmentOf format tree line g f
ends_whole format tree line g h f ends same known holds =
    let e = ends known holds in (
      e.0,
      e.1,
      e.2,
      ap (users_of tree) same.0 ∙ whole_users tree e.0 h e.3,
      ap (map notice_pair) same.1 ∙ e.3.noted,
      subst IsAscending (sym same.0) (whole_rises tree e.0 h e.3),
      subst (AreBelow (length tree.units)) (sym same.0) (whole_below tree e.0 h e.3),
      same.2 ∙ e.3.chosen,
    )

pub block_fault : (format : FileFormat) (tree : Tree) (line : List ℕ) (g : Accumulator) (block : List ℕ) (size : ℕ) (kind k : LoadKind) (lines n : ℕ) → k ≡ kind
    → n ≡ fault_line kind lines
    → (kind ≡ OutOfMemory) ⊎ ((known rest : List ℕ) → Holds format tree known line g → length known ≡ size
    → IsFirstFault format tree complete (known ++ (block ++ rest)) kind (lines + 1))
    → ((k ≡ OutOfMemory) × (n ≡ 0)) ⊎ ((known rest : List ℕ) → Holds format tree known line g → length known ≡ size
    → IsFirstFault format tree complete (known ++ (block ++ rest)) k n)
block_fault format tree line g block size kind k lines n same is fault = elim fault [
  | inl e ↦ inl (same ∙ e, memory_line kind n lines is e)
  | inr bad ↦ inr (λ known rest holds count. fault_with_line format tree (known ++ (block ++ rest)) kind k lines n same is (bad known rest holds count))
]

pub reports_cut_short : (format : FileFormat) (tree : Tree) (a c : Option (List ℕ)) (f f_after : ℕ) (k : LoadKind) (n : ℕ)
    → k ≡ Read → IsCutShort format tree a c n
    → (f < 2 ^ 64 - 1 → f < f_after) → ReportsFault format tree a c f f_after k n
reports_cut_short format tree a c f f_after k n is cut rise = subst (λ x. ReportsFault format tree a c f f_after x n) (sym is) (cut, rise)

none_taken : (count : ℕ) (block : List ℕ) → count ≡ 0 → take count block ≡ []
none_taken count block e = ap (λ n. take n block) e

pub whole_read : (r : Result Fragment LoadFault) (format : FileFormat) (tree : Tree) (a b c : Option (List ℕ)) (line : List ℕ) (g : Accumulator)
    (size count : ℕ) (block : List ℕ) {keeps : List ℕ → Type 0}
    → HasRead format tree a b line g size keeps → count ≡ 0 → 0 < length block
    → Consumes b c (take count block) × (count ≡ 0 → 0 < length block → IsAtEnd c) → IfOk r (IsFragmentOf format tree line g)
    → IfOk r (IsReadKeeping format tree a c keeps)
whole_read (Ok f) format tree a b c line g size count block r none some bytes whole =
    read_whole format tree a b c line g size f r (subst (Consumes b c) (none_taken count block none) bytes.0) (bytes.1 none some) whole
whole_read (Err e) format tree a b c line g size count block r none some bytes whole = tt

-- a file that was read, whatever is true of its bytes
pub read_alone : (r : Result Fragment LoadFault) (format : FileFormat) (tree : Tree) (a c : Option (List ℕ)) (keeps : List ℕ → Type 0)
    → IfOk r (IsReadKeeping format tree a c keeps) → IfOk r (IsReadAs format tree a c)
read_alone (Ok f) format tree a c keeps read = read.0
read_alone (Err e) format tree a c keeps read = tt

-- neither a first fault of whole bytes nor lack of memory is a failed read
pub refused_unread : (format : FileFormat) (tree : Tree) (a c : Option (List ℕ)) (kind : LoadKind) (number : ℕ)
    → ((kind ≡ OutOfMemory) × (number ≡ 0)) ⊎ IsFileRefused format tree a c kind number → kind ≡ Read → ⊥
refused_unread format tree a c kind number (inl e) is = let other = e.0 in cc
refused_unread format tree a c kind number (inr r) is = elim r.first [
  | inl whole ↦ absurd (subst (λ k. IsFirstFault format tree complete r.known k number) is whole.1).comes
  | inr any ↦ absurd (subst (λ k. IsFirstFault format tree complete (r.known ++ []) k number) is (any [])).comes
]

pub end_fault : (r : Result Fragment LoadFault) (format : FileFormat) (tree : Tree) (a b c : Option (List ℕ)) (line : List ℕ) (g : Accumulator) (size count : ℕ)
    (block : List ℕ) (f f_after : ℕ) {keeps : List ℕ → Type 0}
    → HasRead format tree a b line g size keeps → count ≡ 0 → 0 < length block
    → Consumes b c (take count block) × (count ≡ 0 → 0 < length block → IsAtEnd c)
    → IfErr r (λ fault. ((fault.kind ≡ OutOfMemory) × (fault.line ≡ 0))
    ⊎ ((known : List ℕ) → Holds format tree known line g → IsFirstFault format tree complete known fault.kind fault.line))
    → IfErr r (λ fault. ReportsFault format tree a c f f_after fault.kind fault.line)
end_fault (Ok x) format tree a b c line g size count block f f_after r none some bytes fault = tt
end_fault (Err e) format tree a b c line g size count block f f_after r none some bytes fault =
    reports_refused format tree a c f f_after e.kind e.line (refused_at_end format tree a b c line g size e.kind e.line r
    (subst (Consumes b c) (none_taken count block none) bytes.0) (bytes.1 none some) fault)

-- nor is the fault at the end of a file
pub end_unread : (r : Result Fragment LoadFault) (format : FileFormat) (tree : Tree) (a b c : Option (List ℕ)) (line : List ℕ) (g : Accumulator) (size count : ℕ)
    (block : List ℕ) (P : Type 0) {keeps : List ℕ → Type 0}
    → HasRead format tree a b line g size keeps → count ≡ 0 → 0 < length block
    → Consumes b c (take count block) × (count ≡ 0 → 0 < length block → IsAtEnd c)
    → IfErr r (λ fault. ((fault.kind ≡ OutOfMemory) × (fault.line ≡ 0))
    ⊎ ((known : List ℕ) → Holds format tree known line g → IsFirstFault format tree complete known fault.kind fault.line))
    → IfErr r (λ fault. fault.kind ≡ Read → P)
end_unread (Ok x) format tree a b c line g size count block P r none some bytes fault = tt
end_unread (Err e) format tree a b c line g size count block P r none some bytes fault = λ is.
    absurd (refused_unread format tree a c e.kind e.line (refused_at_end format tree a b c line g size e.kind e.line r
    (subst (Consumes b c) (none_taken count block none) bytes.0) (bytes.1 none some) fault) is)

-- nor is the fault of a block
pub block_unread : (format : FileFormat) (tree : Tree) (a b : Option (List ℕ)) (line : List ℕ) (g : Accumulator) (size : ℕ) (block : List ℕ) (kind k : LoadKind)
    (lines : ℕ) (P : Type 0) {keeps : List ℕ → Type 0}
    → HasRead format tree a b line g size keeps → k ≡ kind
    → (kind ≡ OutOfMemory) ⊎ ((known rest : List ℕ) → Holds format tree known line g → length known ≡ size
    → IsFirstFault format tree complete (known ++ (block ++ rest)) kind (lines + 1))
    → k ≡ Read → P
block_unread format tree a b line g size block kind k lines P r same (inl e) is = let z : Read ≡ OutOfMemory = sym is ∙ same ∙ e in cc
block_unread format tree a b line g size block kind k lines P r same (inr first) is =
    absurd (subst (λ x. IsFirstFault format tree complete (r.known ++ (block ++ [])) x (lines + 1)) (sym same ∙ is) (first r.known [] r.holds r.counted)).comes

pub whole_fits : (r : Result Fragment LoadFault) (format : FileFormat) (tree : Tree) (a b : Option (List ℕ)) (line : List ℕ) (g : Accumulator) (size : ℕ) {keeps : List ℕ → Type 0}
    → is_name_prefix format.prefix ≡ true → IsConsistent tree → HasRead format tree a b line g size keeps
    → IfOk r (IsFragmentOf format tree line g) → IfOk r (λ f. FitsTree tree f.assigns.items)
whole_fits (Ok f) format tree a b line g size valid sound read whole =
    let all = whole read.known read.holds in
    fragment_fits format tree read.known all.0 f.assigns.items valid sound all.1 all.2 all.3 all.5 all.6
whole_fits (Err e) format tree a b line g size valid sound read whole = tt
