-- What the first groups of a listing give its tree, part by part.
use Rattle.kc_builder.proofs.Common.{◌≡◌, ℕ, ◌+◌, ◌-◌, ◌<◌, cond, List, length, map, drop, ap, sym, subst, ◌∙◌, arith, All, filter_map, All-nil, Language, Group, groups_in_context, contents_of, names_defined, Listing, SymbolTable, LineNodesExist, as_many_names, entry_from_row, EntryRowFits}
use Rattle.kc_builder.proofs.Common.{choices_before, HasNoFaults, attributes_end, group_at, is_choice_code, own_lines, read_before, IsRepresented, all_before, count_is, none_before, conditions_at, own_conditions, GroupConditions, AreDefaultsOf, IsWalkOf, AreParts, GroupParts, tree_of_groups}
use Rattle.kc_builder.proofs.Common.{CodeGroup, CodeLine, RepresentsListing}
use Rattle.std.proofs.lemmas.List.Elements.{All-drop, All-take}
use Rattle.kc_builder.specs.checker.GroupParts.{AreEmpty, HasGroup}
use Rattle.kc_builder.proofs.ChoiceDefaultSteps.{all_gathered, as_long_own, as_many, no_defaults, one_more}
use Rattle.kc_builder.proofs.ChoiceRowSteps.{all_rows, no_rows, rows_more, AreRowsTo}
use Rattle.kc_builder.proofs.EntrySteps.{entries_more, entry_at, fits_more}
use Rattle.kc_builder.proofs.SymbolItems.{gathered_more, gathered_none, gathered_whole, nothing_gathered, AreGathered}

module _ (language : Language) (l : Listing) (groups : List GroupConditions) (conditions : List ℕ) (read : List Group)
    (w : IsWalkOf language l groups conditions read) where
  pub represented_by : IsRepresented l
  represented_by = record { read = read; shows = w.shows }

  -- what is gathered is what the first `i` groups give, of which `n` are choices
  pub record ArePartsTo (i n : ℕ) (p : GroupParts) : Type 0 where
    pub attributes : AreGathered language l.names.arena (names_defined read) (groups_in_context (read_before i read)) p.attributes
    pub rows : AreRowsTo language l l.names.arena groups conditions read w.shows w.shown i p.rows.items
    pub defaults : HasNoFaults read → AreDefaultsOf language l (contents_of read) (groups_in_context (read_before i read)) n p.defaults
    pub entries : map (entry_from_row l.names.arena l.texts.items) p.entries.items
        ≡ filter_map (entry_at language (contents_of read)) (groups_in_context (read_before i read))
    pub fits : All (EntryRowFits (length l.names.arena.nodes) (length (names_defined read)) (length (contents_of read).choices) (length l.texts.items)) p.entries.items

  pub no_parts : (p : GroupParts) → AreEmpty p → ArePartsTo 0 0 p
  no_parts p e = record {
    attributes = gathered_none language l.names.arena (names_defined read) read p.attributes
        (nothing_gathered language l.names.arena (names_defined read) p.attributes e.prompts e.symbol_defaults e.ranges e.selectors e.impliers e.direct);
    rows = subst (AreRowsTo language l l.names.arena groups conditions read w.shows w.shown 0) (sym e.rows)
        (no_rows language l l.names.arena groups conditions read w.shows w.shown);
    defaults = λ _. no_defaults language l groups conditions read w p.defaults e.default_keys e.defaults;
    entries = ap (map (entry_from_row l.names.arena l.texts.items)) e.entries
        ∙ sym (ap (λ r. filter_map (entry_at language (contents_of read)) (groups_in_context r)) (none_before read));
    fits = subst (All (EntryRowFits (length l.names.arena.nodes) (length (names_defined read)) (length (contents_of read).choices) (length l.texts.items)))
        (sym e.entries)
        (All-nil (EntryRowFits (length l.names.arena.nodes) (length (names_defined read)) (length (contents_of read).choices) (length l.texts.items)));
  }

  held_lines : (i : ℕ) → All (LineNodesExist l.names.arena) (own_lines l i)
  unfolding RepresentsListing
  held_lines i =
      let begin = (group_at l.groups.items i).attributes in
      All-take (LineNodesExist l.names.arena) (attributes_end l.groups.items l.lines.items i - begin) (drop begin l.lines.items)
      (All-drop (LineNodesExist l.names.arena) begin l.lines.items w.shows.held)

  pub parts_more : (i n n2 : ℕ) (old new : GroupParts) → i < length l.groups.items → n ≡ choices_before i read
      → n2 ≡ cond (is_choice_code (group_at l.groups.items i).head) (n + 1) n
      → HasGroup l.names (group_at l.groups.items i) (own_lines l i) (own_conditions groups conditions i) (conditions_at groups i) n old new
      → ArePartsTo i n old → ArePartsTo (i + 1) n2 new
  unfolding RepresentsListing
  parts_more i n n2 old new h count next more k = record {
    attributes = gathered_more language l groups conditions read w i h old.attributes new.attributes (held_lines i) more.attributes k.attributes;
    rows = rows_more language l l.names.arena groups conditions read w.shows w.shown i old.rows.items new.rows.items h more.rows k.rows;
    defaults = λ none. one_more language l groups conditions read w i n n2 old.defaults new.defaults h count next none more.default_keys more.defaults
        (k.defaults none);
    entries = entries_more language l groups conditions read w i n h count old.entries.items new.entries.items more.entries k.entries;
    fits = fits_more language l groups conditions read w i n h count old.entries.items new.entries.items more.entries k.fits;
  }

  pub all_parts : (i n : ℕ) (p : GroupParts) → i ≡ length l.groups.items → n ≡ choices_before i read → HasNoFaults read → ArePartsTo i n p
      → AreParts language l read p
  unfolding RepresentsListing tree_of_groups
  all_parts i n p e count none k =
      let c = count_is l.names.arena (names_defined read) l.texts.items l.lines.items l.groups.items read w.shows.groups_are in
      let all : read_before i read ≡ read = ap (λ m. read_before m read) (e ∙ c) ∙ all_before read in
      record {
        attributes = gathered_whole language l.names.arena read i p.attributes (e ∙ c) k.attributes;
        rows = all_rows language l l.names.arena groups conditions read w.shows w.shown i p.rows.items e k.rows;
        defaults = all_gathered language l groups conditions read w i n p.defaults e count (k.defaults none);
        entries = k.entries ∙ ap (λ r. filter_map (entry_at language (contents_of read)) (groups_in_context r)) all;
        entries_fit = subst (λ m. All (EntryRowFits (length l.names.arena.nodes) m (length (contents_of read).choices) (length l.texts.items)) p.entries.items)
            (sym (as_many_names l.names.arena l.names.symbols.items l.names.numbers.items (names_defined read) w.shows.names)) k.fits;
      }

-- the conditions of a group in a walked listing
module _ (l : Listing) (groups : List GroupConditions) (conditions : List ℕ)
    (w : (language : Language) × (read : List Group) × IsWalkOf language l groups conditions read) (i : ℕ) (h : i < length l.groups.items) where
  pub has_conditions : i < length groups
  has_conditions = let n = as_many w.0 l groups conditions w.1 w.2 in omega arith

  pub one_for_each : (ls : List CodeLine) (cs : List ℕ) → ls ≡ own_lines l i → cs ≡ own_conditions groups conditions i → length cs ≡ length ls
  one_for_each ls cs of_lines of_conditions = ap length of_conditions ∙ as_long_own w.0 l groups conditions w.1 w.2 i h ∙ ap length (sym of_lines)

-- what a group gives, by what is equal to it
pub same_given : (names : SymbolTable) (g g2 : CodeGroup) (ls ls2 : List CodeLine) (cs cs2 : List ℕ) (own own2 : GroupConditions) (n : ℕ) (old new : GroupParts)
    → g ≡ g2 → ls ≡ ls2 → cs ≡ cs2 → own ≡ own2 → HasGroup names g ls cs own n old new → HasGroup names g2 ls2 cs2 own2 n old new
same_given names g g2 ls ls2 cs cs2 own own2 n old new e f k m h =
    subst (λ x. HasGroup names g2 ls2 cs2 x n old new) m
    (subst (λ x. HasGroup names g2 ls2 x own n old new) k
    (subst (λ x. HasGroup names g2 x cs own n old new) f
    (subst (λ x. HasGroup names x ls cs own n old new) e h)))
