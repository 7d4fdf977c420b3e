-- A listing represents one list of statements, so a summary of it stays one as its arena grows.
use Rattle.kc_builder.proofs.Common.{◌≡◌, ℕ, List, [], ◌∷◌, length, reverse, Some, refl, ap, sym, subst, ◌∙◌, slice_get, slice_range, Exprs, config, Group, GroupHead, of_head, names_defined, Listing, RepresentsHead, RepresentsGroup, RepresentsGroups, Summary, CodeGroup, CodeLine, CodeHead}
use Rattle.kc_builder.proofs.Common.{RepresentsListing}
use Rattle.kc_tree_model.specs.declared.statement.Head.TheVariants.{Menu as menu, Comment as comment, Source as source}
use Rattle.kc_parser.specs.declared.listing.GroupHead.TheVariants as codes
use Rattle.kc_checks.specs.between.Summaries.{IsSummary, IsSummed}

one_text : (texts : List (List ℕ)) (t : ℕ) (x y : List ℕ) → slice_get texts t ≡ Some x → slice_get texts t ≡ Some y → x ≡ y
one_text texts t x y a b = cc

one_head : (e : Exprs) (names texts : List (List ℕ)) (code : CodeHead) (v w : GroupHead) → RepresentsHead e names texts code v
    → RepresentsHead e names texts code w → v ≡ w
one_head e names texts (codes.Config s) v w a b = a.2 ∙ ap (λ x. of_head (config x)) (one_text names s a.0 b.0 a.1 b.1) ∙ sym b.2
one_head e names texts (codes.Menu t) v w a b = a.2 ∙ ap (λ x. of_head (menu x)) (one_text texts t a.0 b.0 a.1 b.1) ∙ sym b.2
one_head e names texts (codes.Condition id) v w a b = a.1 ∙ sym b.1
one_head e names texts (codes.Comment t) v w a b = a.2 ∙ ap (λ x. of_head (comment x)) (one_text texts t a.0 b.0 a.1 b.1) ∙ sym b.2
one_head e names texts (codes.Source t) v w a b = a.2 ∙ ap (λ x. of_head (source x)) (one_text texts t a.0 b.0 a.1 b.1) ∙ sym b.2
one_head e names texts x v w a b = a ∙ sym b

-- groups with the same number, place, head and attributes are the same
equal_groups : (m n : Group) → m.number ≡ n.number → m.at.file ≡ n.at.file → m.at.line ≡ n.at.line → m.head ≡ n.head → m.attributes ≡ n.attributes → m ≡ n
equal_groups m n number file line head attributes =
    let all : (let g : Group = record { number = m.number; at = record { file = m.at.file; line = m.at.line }; head = m.head; attributes = m.attributes } in g) ≡ n =
    rw (number, file, line, head, attributes) refl in
    all

one_group : (e : Exprs) (names texts : List (List ℕ)) (own : List CodeLine) (j k : ℕ) (code : CodeGroup) (m n : Group)
    → RepresentsGroup e names texts own j code m → RepresentsGroup e names texts own k code n → j ≡ k → m ≡ n
one_group e names texts own j k code m n a b same =
    equal_groups m n (a.number_is ∙ same ∙ sym b.number_is) (a.file_is ∙ sym b.file_is) (a.line_is ∙ sym b.line_is)
    (one_head e names texts code.head m.head n.head a.head b.head) (a.attributes ∙ sym b.attributes)

one_list : (e : Exprs) (names texts : List (List ℕ)) (lines : List CodeLine) (end : ℕ) (groups : List CodeGroup) (a b : List Group)
    → RepresentsGroups e names texts lines end groups a → RepresentsGroups e names texts lines end groups b → a ≡ b
one_list e names texts lines end [] [] [] h k = refl
one_list e names texts lines end [] [] (n ∷ b) h k = absurd k
one_list e names texts lines end [] (m ∷ a) b h k = absurd h
one_list e names texts lines end (g ∷ groups) [] b h k = absurd h
one_list e names texts lines end (g ∷ groups) (m ∷ a) [] h k = absurd k
one_list e names texts lines end (g ∷ groups) (m ∷ a) (n ∷ b) h k =
    let rest = one_list e names texts lines g.attributes groups a b h.2 k.2 in
    let first = one_group e names texts (slice_range lines g.attributes end) (length a) (length b) g m n h.0 k.0 (ap length rest) in
    ap (λ x. x ∷ a) first ∙ ap (λ xs. n ∷ xs) rest

-- two lists of statements that a listing represents are the same
pub one_reading : (l : Listing) (a b : List Group) → RepresentsListing l a → RepresentsListing l b → a ≡ b
unfolding RepresentsListing
one_reading l a b h k =
    let names : names_defined b ≡ names_defined a = sym k.names.words ∙ h.names.words in
    one_list l.names.arena (names_defined a) l.texts.items l.lines.items (length l.lines.items) (reverse l.groups.items) a b h.groups_are
    (subst (λ ns. RepresentsGroups l.names.arena ns l.texts.items l.lines.items (length l.lines.items) (reverse l.groups.items) b) names k.groups_are)

-- a summary of a listing is one of each listing that represents the same statements
pub summed_of : (l grown : Listing) (read : List Group) (s : Summary) → RepresentsListing l read → RepresentsListing grown read → IsSummed l s
    → IsSummed grown s
summed_of l grown read s h k summed = λ other shows. subst (λ r. IsSummary r s) (one_reading grown read other k shows) (summed read h)
