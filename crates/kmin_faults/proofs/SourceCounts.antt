-- How many files were sourced.
use Rattle.kmin_faults.proofs.Common.{◌≡◌, ℕ, suc, ◌+◌, Bool, cond, List, [], ◌∷◌, length, reverse, Option, Some, None, refl, ap, sym, ◌∙◌, arith, filter_map, is_some, nat_le, reverse-append, Exprs, Group, GroupHead, from_head, Listing, RepresentsHead}
use Rattle.kmin_faults.proofs.Common.{RepresentsGroups}
use Rattle.std.specs.Prelude.{sum_by}
use Rattle.kc_value.specs.declared.limits.TheConstants.{MAX_FILES}
use Rattle.std.specs.List.{cons_option, count_by}
use Rattle.std.proofs.lemmas.List.Sums.{sum_by-append}
use Rattle.kc_tree_model.specs.Statements.{path_of_head}
use Rattle.kc_tree_model.specs.Blocks.{sourced_path}
use Rattle.kc_parser.specs.declared.listing.Group.{Group as CodeGroup}
use Rattle.kc_parser.specs.declared.listing.Line.{Line as CodeLine}
use Rattle.kc_parser.specs.declared.listing.GroupHead.{GroupHead as CodeHead}
use Rattle.kc_parser.specs.declared.listing.GroupHead.TheVariants as codes
use Rattle.kc_parser.specs.between.ListingView.{RepresentsListing}
use Rattle.kmin_faults.specs.PassedLimits.{limit_of_source}
use Rattle.kmin_faults.specs.declared.passed_limits.Limit.{Limit}
use Rattle.kmin_faults.specs.declared.passed_limits.Limit.TheVariants.{Files, TreeBytes}
use Rattle.kmin_faults.specs.between.StoredStatements.{is_source_head}

-- a stored statement is a `source` if the one that it represents is
sources : GroupHead → Bool
sources w = is_some (from_head path_of_head w)

source_shown : (exprs : Exprs) (names texts : List (List ℕ)) (c : CodeHead) (w : GroupHead) → RepresentsHead exprs names texts c w
    → is_source_head c ≡ sources w
unfolding sources
source_shown exprs names texts (codes.Config s) w h = sym (ap sources h.2)
source_shown exprs names texts codes.Choice w h = sym (ap sources h)
source_shown exprs names texts (codes.Menu t) w h = sym (ap sources h.2)
source_shown exprs names texts (codes.Condition id) w h = sym (ap sources h.1)
source_shown exprs names texts (codes.Comment t) w h = sym (ap sources h.2)
source_shown exprs names texts (codes.Source t) w h = sym (ap sources h.2)
source_shown exprs names texts codes.Mainmenu w h = sym (ap sources h)
source_shown exprs names texts (codes.Ends b) w h = sym (ap sources h)
source_shown exprs names texts codes.FileEnd w h = sym (ap sources h)

one_more : (b : Bool) (o : Option (List ℕ)) (paths : List (List ℕ)) (n : ℕ) → b ≡ is_some o → n ≡ length paths → cond b 1 0 + n ≡ length (cons_option o paths)
one_more b None paths n e h = rw e (let k : 0 + n ≡ length paths = omega (arith, h) in k)
one_more b (Some path) paths n e h = rw e (let k : 1 + n ≡ suc (length paths) = omega (arith, h) in k)

sum_cons : {A : Type 0} (f : A → ℕ) (x : A) (xs : List A) → sum_by f (x ∷ xs) ≡ f x + sum_by f xs
sum_cons f x xs = sum_by-append f (x ∷ []) xs ∙ (let k : (0 + f x) + sum_by f xs ≡ f x + sum_by f xs = omega arith in k)

counted : (exprs : Exprs) (names texts : List (List ℕ)) (lines : List CodeLine) (end : ℕ) (gs : List CodeGroup) (ms : List Group)
    → RepresentsGroups exprs names texts lines end gs ms → count_by (λ (g : CodeGroup). is_source_head g.head) gs ≡ length (filter_map sourced_path ms)
unfolding sources
counted exprs names texts lines end [] [] h = refl
counted exprs names texts lines end (g ∷ gs) (m ∷ ms) h =
    sum_cons (λ (g : CodeGroup). cond (is_source_head g.head) 1 0) g gs
    ∙ one_more (is_source_head g.head) (sourced_path m) (filter_map sourced_path ms) _ (source_shown exprs names texts g.head m.head h.0.head)
    (counted exprs names texts lines g.attributes gs ms h.2)
counted exprs names texts lines end [] (m ∷ ms) h = absurd h
counted exprs names texts lines end (g ∷ gs) [] h = absurd h

sum_reversed : {A : Type 0} (f : A → ℕ) (xs : List A) → sum_by f (reverse xs) ≡ sum_by f xs
sum_reversed f [] = refl
sum_reversed f (x ∷ xs) =
    let last : sum_by f (reverse xs) + (0 + f x) ≡ f x + sum_by f xs = omega (arith, sum_reversed f xs) in
    ap (sum_by f) (reverse-append (x ∷ []) xs) ∙ sum_by-append f (reverse xs) (x ∷ []) ∙ last ∙ sym (sum_cons f x xs)

-- a listing has as many of them as the statements that were read
pub sources_counted : (l : Listing) (read : List Group) → RepresentsListing l read
    → count_by (λ (g : CodeGroup). is_source_head g.head) l.groups.items ≡ length (filter_map sourced_path read)
unfolding RepresentsListing
sources_counted l read h =
    sym (sum_reversed (λ (g : CodeGroup). cond (is_source_head g.head) 1 0) l.groups.items)
    ∙ counted l.names.arena _ l.texts.items l.lines.items (length l.lines.items) (reverse l.groups.items) read h.groups_are

-- the limit that the last `source` passes, by that count
pub limit_counted : (l : Listing) (read : List Group) → RepresentsListing l read → (groups : List CodeGroup) → groups ≡ l.groups.items → (n : ℕ)
    → n ≡ count_by (λ (g : CodeGroup). is_source_head g.head) groups → (limit : Limit) → limit ≡ cond (nat_le MAX_FILES n) Files TreeBytes
    → limit ≡ limit_of_source read
limit_counted l read h groups e n f limit g =
    g ∙ ap (λ k. cond (nat_le MAX_FILES k) Files TreeBytes)
    (f ∙ ap (count_by (λ (g : CodeGroup). is_source_head g.head)) e ∙ sources_counted l read h)
