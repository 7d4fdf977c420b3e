-- The reading of the first file.
use Rattle.kc_parser.proofs.Common.{◌≡◌, ◌⊎◌, inl, inr, ℕ, ◌≤◌, ◌<◌, true, false, List, [], ◌∷◌, length, map, reverse, refl, ap, sym, ◌∙◌, arith, Option, Some, None, Result, Err, is_some, nat_lt, option_and_then, slice_index, MAX_TREE_BYTES, Exprs, place_of_none, TreeFault, TreeKind, MissingFile, TooMany}
use Rattle.kc_parser.proofs.Common.{OutOfMemory, FileSource, size_in, bytes_in, Outcome, read_file, ended_by_fault, Listing, ReaderState, SourceFiles, number_in, number_in_slot, RepresentsLists, fault_in, at_line, ReturnsFileRead, choice_in, names_defined}
use Rattle.std.proofs.lemmas.Bool.{lt-ltb, le-ltb}
use Rattle.kc_tree_model.specs.TreeReading.{read_root}
use Rattle.kc_parser.specs.declared.listing.Group.{Group as CodeGroup}
use Rattle.kc_parser.specs.declared.listing.Line.{Line as CodeLine}
use Rattle.kc_parser.specs.between.ListingView.{RepresentsListing}
use Rattle.kc_parser.specs.between.MemoryFaults.{no_memory}
use Rattle.kc_parser.specs.checker.StateViews.{Describes, file_source_of}
use Rattle.kc_parser.specs.checker.Roots.{ReturnsOutcome, of_first}
use Rattle.kc_parser.proofs.ReaderSteps.{shown_of}
use Rattle.kc_parser.proofs.ChoiceSteps.{none_open}

no_number : (held : List (List ℕ)) (numbers name : List ℕ) → held ≡ [] → number_in held numbers name ≡ None
no_number [] numbers name e = ap (option_and_then (λ i. number_in_slot (slice_index numbers i))) (place_of_none name)
no_number (x ∷ xs) numbers name e = cc

lists_of_nothing : (exprs : Exprs) (symbols numbers : List ℕ) (texts : List (List ℕ)) (lines : List CodeLine) (groups : List CodeGroup)
    → exprs.names ≡ [] → symbols ≡ [] → numbers ≡ [] → lines ≡ [] → groups ≡ [] → RepresentsLists exprs symbols numbers texts lines groups []
lists_of_nothing exprs symbols numbers texts lines groups e s n l g = record {
  names = record {
    words = rw s refl;
    held = λ k d h. absurd (omega (arith, h, ap length s));
    numbered = λ name. no_number exprs.names numbers name e ∙ sym (place_of_none name);
    few = omega (arith, ap length n);
  };
  held = λ k d h. absurd (omega (arith, h, ap length l));
  groups_are = rw g tt;
  choices_are = rw g tt;
}

-- a listing whose lists are empty represents no statements
pub nothing_shown : (l : Listing) → l.names.arena.names ≡ [] → l.names.symbols.items ≡ [] → l.names.numbers.items ≡ [] → l.lines.items ≡ []
    → l.groups.items ≡ []
    → RepresentsListing l []
unfolding RepresentsListing
nothing_shown l e s n i g = lists_of_nothing l.names.arena l.names.symbols.items l.names.numbers.items l.texts.items l.lines.items l.groups.items e s n i g

-- a reader's state with an empty listing and stack, in which just the first file is counted, describes the beginning
-- of the reading
pub begun : (r : FileSource) (p : ReaderState) → RepresentsListing p.listing [] → p.stack.items ≡ [] → p.choices ≡ 0 → p.files ≡ 1 → p.bytes ≡ size_in r r.root
    → Describes r p []
unfolding Describes RepresentsListing
begun r p s k c f b = record {
  shows = s;
  counted = record { stack = rw k tt; choices_are = c; files_are = f; bytes_are = omega (arith, b) };
  enclosed = ap (λ os. map choice_in (reverse os)) k
      ∙ sym (none_open p.listing.names.arena (names_defined []) p.listing.texts.items p.listing.lines.items (length p.listing.lines.items)
      (reverse p.listing.groups.items) s.groups_are);
}

-- if the first file was read without a fault, its listing without a fault is the result of the reading
pub first_read : (r : FileSource) (o : Outcome) (new : ReaderState) → (o.fault ≡ None) × Describes r new o.read → ReturnsOutcome o (new.listing, None)
first_read r o new h = inr (sym h.0, shown_of r new o.read h.1)

pub first_faulty : (r : FileSource) (o : Outcome) (new : ReaderState) (f : TreeFault) → ReturnsFileRead r o new (Err f) → ReturnsOutcome o (new.listing, Some f)
first_faulty r o new f (inl m) = inl (ap Some m)
first_faulty r o new f (inr h) = inr (sym h.0, h.1)

-- the result of a call that reads the file of the root path, with no statements before, is that of reading the first file
pub first_of : (r : FileSource) (number : ℕ) (bytes : List ℕ) (new : ReaderState) (result : Result (Unit {0}) TreeFault)
    → (number ≡ r.number r.root → bytes ≡ bytes_in r r.root → ReturnsFileRead r (read_file 32 r r.root []) new result)
    → number ≡ r.number r.root → bytes ≡ bytes_in r r.root → ReturnsFileRead r (of_first r) new result
unfolding of_first
first_of r number bytes new result h n b = h n b

-- the reading by the bytes of the first path
absent_by : (r : FileSource) (o : Option (List ℕ)) → is_some o ≡ false
    → read_root r o ≡ record { read = []; fault = Some (record { file = None; line = 0; kind = MissingFile }) }
absent_by r None e = refl
absent_by r (Some bytes) e = cc

large_by : (r : FileSource) (o : Option (List ℕ)) → is_some o ≡ true → MAX_TREE_BYTES < length {A = ℕ} (elim o [ None ↦ [] | Some bytes ↦ bytes ])
    → read_root r o ≡ ended_by_fault (at_line (r.number r.root) 0) TooMany []
large_by r None e h = cc
large_by r (Some bytes) e h = let t : nat_lt MAX_TREE_BYTES (length bytes) ≡ true = lt-ltb _ _ h in rw t refl

fitting_by : (r : FileSource) (o : Option (List ℕ)) → is_some o ≡ true → length {A = ℕ} (elim o [ None ↦ [] | Some bytes ↦ bytes ]) ≤ MAX_TREE_BYTES
    → read_root r o ≡ of_first r
unfolding of_first
fitting_by r None e h = cc
fitting_by r (Some bytes) e h = let t : nat_lt MAX_TREE_BYTES (length bytes) ≡ false = le-ltb _ _ h in rw t refl

-- where an outcome is another one
outcome_as : (o p : Outcome) (l : Listing × Option TreeFault) → o ≡ p → ReturnsOutcome p l → ReturnsOutcome o l
outcome_as o p l e h = rw e h

-- the root path of a file source is that of the reader's files
pub root_is : (f : SourceFiles) → (file_source_of f).root ≡ f.root.now
unfolding file_source_of
root_is f = refl

pub absent_root : (f : SourceFiles) (l : Listing) (k : TreeKind)
    → (k ≡ OutOfMemory) ⊎ ((k ≡ MissingFile) × (is_some ((file_source_of f).bytes f.root.now) ≡ false)) → RepresentsListing l []
    → ReturnsOutcome (read_root (file_source_of f) ((file_source_of f).bytes (file_source_of f).root)) (l, Some (record { file = None; line = 0; kind = k }))
absent_root f l k (inl m) s = inl (rw m refl)
absent_root f l k (inr h) s =
    outcome_as _ _ (l, Some (record { file = None; line = 0; kind = k }))
    (absent_by (file_source_of f) ((file_source_of f).bytes (file_source_of f).root) (rw (root_is f) h.1)) (inr (rw h.0 refl, s))

pub large_root : (f : SourceFiles) (l : Listing) (number : ℕ) (bytes : List ℕ) → is_some ((file_source_of f).bytes f.root.now) ≡ true
    → number ≡ (file_source_of f).number f.root.now → bytes ≡ bytes_in (file_source_of f) f.root.now
    → MAX_TREE_BYTES < length bytes → RepresentsListing l [] → ReturnsOutcome (read_root (file_source_of f) ((file_source_of f).bytes (file_source_of f).root))
    (l, Some (fault_in number 0 TooMany))
large_root f l number bytes there n b h s =
    outcome_as _ _ (l, Some (fault_in number 0 TooMany)) (large_by (file_source_of f) ((file_source_of f).bytes (file_source_of f).root) (rw (root_is f) there)
    (rw (root_is f, sym b) h))
    (inr (rw (n, root_is f) refl, s))

pub fitting_root : (f : SourceFiles) (l : Listing × Option TreeFault) (bytes : List ℕ) → is_some ((file_source_of f).bytes f.root.now) ≡ true
    → bytes ≡ bytes_in (file_source_of f) f.root.now → length bytes ≤ MAX_TREE_BYTES
    → ReturnsOutcome (of_first (file_source_of f)) l → ReturnsOutcome (read_root (file_source_of f) ((file_source_of f).bytes (file_source_of f).root)) l
fitting_root f l bytes there b h =
    outcome_as _ _ l (fitting_by (file_source_of f) ((file_source_of f).bytes (file_source_of f).root) (rw (root_is f) there) (rw (root_is f, sym b) h))

-- the fault in the result of a reading is out of memory, or is the fault of the reading by the definition
pub fault_of : (o : Outcome) (l : Listing × Option TreeFault) → ReturnsOutcome o l → (l.1 ≡ Some no_memory) ⊎ (l.1 ≡ o.fault)
fault_of o l (inl m) = inl m
fault_of o l (inr h) = inr h.0

pub read_of : (o : Outcome) (l : Listing × Option TreeFault) → ReturnsOutcome o l → (l.1 ≡ Some no_memory) ⊎ RepresentsListing l.0 o.read
read_of o l (inl m) = inl m
read_of o l (inr h) = inr h.1
