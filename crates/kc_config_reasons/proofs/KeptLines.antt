-- A line of a configuration file is kept over the earlier ones.
use Rattle.std.proofs.Common.{inl, inr}
use Rattle.std.specs.Prelude.{◌==◌}
use Rattle.kc_config_reasons.proofs.Common.{◌≡◌, ℕ, ◌+◌, ◌<◌, Bool, true, false, cond, List, [], ◌∷◌, Option, Some, None, refl, sym, ◌∙◌, ap, subst, arith, Result, Ok, Err, OnOk, option_map, option_or, Tree, unit_of, UserValue, LineMeaning, assigns, assigns_escaped, Meaning, meaning_view, said_to}
use Rattle.kc_config_reasons.proofs.Common.{line_giving, user_by_line, AskingLine, FileLines, line_view, line_at, later_line, line_kept, AreBelow, NumbersBelow, Keeps}
use Rattle.std.specs.BTreeMap.{insert_entry}
use Rattle.std.specs.Ordering.{nat_cmp}
use Rattle.std.proofs.lemmas.Bool.{cases_eq, eqb-true, eqb-false, eq-eqb, lt-ltb, le-ltb}
use Rattle.kc_rules_model.specs.declared.values.MemberLine.{MemberLine}
use Rattle.kc_rules_model.specs.declared.values.UserValue.TheVariants.{Text as TextUser, Lines as LinesUser}
use Rattle.kc_dotconfig.proofs.GatheredLines.{found_same, found_other}
use Rattle.kc_reasons_model.specs.AssigningLines.{if_any, said_of}

-- of a line and those before it the line comes later
newest_first : (a : AskingLine) (o : Option AskingLine) → ((l : AskingLine) → o ≡ Some l → l.number < a.number) → later_line (Some a) o ≡ Some a
newest_first a None below = refl
newest_first a (Some b) below = ap (λ t. cond t (Some b) (Some a)) (le-ltb a.number b.number (let less = below b refl in omega arith))

newest_second : (a : AskingLine) (o : Option AskingLine) → ((l : AskingLine) → o ≡ Some l → l.number < a.number) → later_line o (Some a) ≡ Some a
newest_second a None below = refl
newest_second a (Some b) below = ap (λ t. cond t (Some a) (Some b)) (lt-ltb b.number a.number (below b refl))

-- the numbers stay below the next one
still_below : (n : ℕ) (kept : List (ℕ × AskingLine)) → AreBelow n kept → AreBelow (n + 1) kept
still_below n kept below k l e = let less = below k l e in omega arith

put_below : (key : ℕ) (a : AskingLine) (kept new : List (ℕ × AskingLine)) → AreBelow a.number kept → new ≡ insert_entry nat_cmp kept key a → AreBelow (a.number + 1) new
put_below key a kept new below is k l e = elim (cases_eq k key) [
  | inl same ↦ (
      let here : line_at new k ≡ Some a = ap (λ es. line_at es k) is ∙ ap (λ j. line_at (insert_entry nat_cmp kept j a) k) (sym same) ∙ found_same kept k a in
      let number : l.number ≡ a.number = ap (λ (o : Option AskingLine). number_in o) (sym e ∙ here) in
      omega arith
      )
  | inr other ↦ (
      let there : line_at kept k ≡ Some l = sym (found_other kept k key a other) ∙ ap (λ es. line_at es k) (sym is) ∙ e in
      let less = below k l there in
      omega arith
      )
] where
  number_in : Option AskingLine → ℕ
  number_in None = 0
  number_in (Some l) = l.number

-- a user value that says the same of each symbol of its unit
abbrev pub SaysWhole : UserValue → Type 0
SaysWhole x = (s : ℕ) → said_of s x ≡ Some x

module _ (n u : ℕ) (x : UserValue) (whole : SaysWhole x) (f g : FileLines)
    (units : g.units.entries ≡ insert_entry nat_cmp f.units.entries u (record { number = n; user = x })) (members : g.members.entries ≡ f.members.entries) where
  abbrev new : AskingLine
  new = record { number = n; user = x }

  kept_for : NumbersBelow n f → (w s : ℕ)
      → option_map line_view (line_kept g w s) ≡ option_or (line_giving n (said_to s (user_by_line w (assigns u x)))) (option_map line_view (line_kept f w s))
  kept_for below w s = go (u == w) refl where
    go : (b : Bool) → (u == w) ≡ b
        → option_map line_view (line_kept g w s) ≡ option_or (line_giving n (said_to s (cond b (Some x) None))) (option_map line_view (line_kept f w s))
    go true e =
        let here : line_at g.units.entries w ≡ Some new = ap (λ es. line_at es w) units ∙ ap (λ j. line_at (insert_entry nat_cmp f.units.entries j new) w) (eqb-true u w e) ∙ found_same f.units.entries w new in
        let there : line_at g.members.entries s ≡ line_at f.members.entries s = ap (λ es. line_at es s) members in
        ap (option_map line_view) (ap (λ o. later_line o (line_at g.members.entries s)) here ∙ ap (later_line (Some new)) there ∙ newest_first new (line_at f.members.entries s) (below.1 s))
        ∙ ap (λ o. option_or (line_giving n o) (option_map line_view (line_kept f w s))) (sym (whole s))
    go false e =
        let here : line_at g.units.entries w ≡ line_at f.units.entries w = ap (λ es. line_at es w) units ∙ found_other f.units.entries w u new (λ same. eqb-false u w e (sym same)) in
        let there : line_at g.members.entries s ≡ line_at f.members.entries s = ap (λ es. line_at es s) members in
        ap (option_map line_view) (ap (λ o. later_line o (line_at g.members.entries s)) here ∙ ap (later_line (line_at f.units.entries w)) there)

  pub keeps_user : Keeps n (assigns u x) f g
  keeps_user tree own below = (
    λ s. kept_for below (unit_of tree s) s,
    (put_below u new f.units.entries g.units.entries below.0 units, subst (AreBelow (n + 1)) (sym members) (still_below n f.members.entries below.1)),
  )

module _ (n u : ℕ) (l : MemberLine) (f g : FileLines) (units : g.units.entries ≡ f.units.entries)
    (members : g.members.entries ≡ insert_entry nat_cmp f.members.entries l.member (record { number = n; user = LinesUser (l ∷ []) })) where
  abbrev line : AskingLine
  line = record { number = n; user = LinesUser (l ∷ []) }

  member_kept : (tree : Tree) → u ≡ unit_of tree l.member → NumbersBelow n f → (s : ℕ)
      → option_map line_view (line_kept g (unit_of tree s) s)
      ≡ option_or (line_giving n (said_to s (user_by_line (unit_of tree s) (assigns u (LinesUser (l ∷ [])))))) (option_map line_view (line_kept f (unit_of tree s) s))
  member_kept tree own below s = go (l.member == s) refl where
    same_units : line_at g.units.entries (unit_of tree s) ≡ line_at f.units.entries (unit_of tree s)
    same_units = ap (λ es. line_at es (unit_of tree s)) units

    go : (b : Bool) → (l.member == s) ≡ b
        → option_map line_view (line_kept g (unit_of tree s) s)
        ≡ option_or (line_giving n (said_to s (user_by_line (unit_of tree s) (assigns u (LinesUser (l ∷ [])))))) (option_map line_view (line_kept f (unit_of tree s) s))
    go true e =
        let is : l.member ≡ s = eqb-true l.member s e in
        let here : line_at g.members.entries s ≡ Some line = ap (λ es. line_at es s) members ∙ ap (λ j. line_at (insert_entry nat_cmp f.members.entries j line) s) is ∙ found_same f.members.entries s line in
        let at_unit : (u == unit_of tree s) ≡ true = eq-eqb u (unit_of tree s) (own ∙ ap (unit_of tree) is) in
        let asks : said_to s (user_by_line (unit_of tree s) (assigns u (LinesUser (l ∷ [])))) ≡ Some (LinesUser (l ∷ [])) =
        ap (λ d. said_to s (cond d (Some (LinesUser (l ∷ []))) None)) at_unit ∙ ap (λ d. if_any (cond d (l ∷ []) [])) e in
        ap (option_map line_view) (ap (λ o. later_line o (line_at g.members.entries s)) same_units ∙ ap (later_line (line_at f.units.entries (unit_of tree s))) here
        ∙ newest_second line (line_at f.units.entries (unit_of tree s)) (below.0 (unit_of tree s)))
        ∙ ap (λ o. option_or (line_giving n o) (option_map line_view (line_kept f (unit_of tree s) s))) (sym asks)
    go false e =
        let here : line_at g.members.entries s ≡ line_at f.members.entries s = ap (λ es. line_at es s) members ∙ found_other f.members.entries s l.member line (λ same. eqb-false l.member s e (sym same)) in
        ap (option_map line_view) (ap (λ o. later_line o (line_at g.members.entries s)) same_units ∙ ap (later_line (line_at f.units.entries (unit_of tree s))) here)
        ∙ ap (λ o. option_or (line_giving n o) (option_map line_view (line_kept f (unit_of tree s) s))) (sym (silent_of (u == unit_of tree s)))
      where
        silent_of : (c : Bool) → said_to s (cond c (Some (LinesUser (l ∷ []))) None) ≡ None
        silent_of true = ap (λ d. if_any (cond d (l ∷ []) [])) e
        silent_of false = refl

  pub keeps_member : Keeps n (assigns u (LinesUser (l ∷ []))) f g
  keeps_member tree own below = (
    member_kept tree (own.2 ∙ ap (λ (ls : List MemberLine). unit_of tree (first_member ls)) (sym own.1)) below,
    (subst (AreBelow (n + 1)) (sym units) (still_below n f.units.entries below.0), put_below l.member line f.members.entries g.members.entries below.1 members),
  ) where
    first_member : List MemberLine → ℕ
    first_member [] = 0
    first_member (m ∷ ms) = m.member

-- a line that assigns nothing changes nothing
pub keeps_none : (n : ℕ) (meaning : LineMeaning) (f : FileLines) → ((w : ℕ) → user_by_line w meaning ≡ None) → Keeps n meaning f f
keeps_none n meaning f none tree own below = (
  λ s. ap (λ o. option_or (line_giving n (said_to s o)) (option_map line_view (line_kept f (unit_of tree s) s))) (sym (none (unit_of tree s))),
  (still_below n f.units.entries below.0, still_below n f.members.entries below.1),
)

-- and so where memory may run out
pub takes_user : {T E : Type 0} (r : Result T E) (n u : ℕ) (x : UserValue) (meaning : Meaning) (f g : FileLines) → SaysWhole x → meaning_view meaning ≡ assigns u x
    → OnOk r (g.units.entries ≡ insert_entry nat_cmp f.units.entries u (record { number = n; user = x })) → g.members.entries ≡ f.members.entries → OnOk r (Keeps n (meaning_view meaning) f g)
takes_user (Ok y) n u x meaning f g whole is units members = subst (λ m. Keeps n m f g) (sym is) (keeps_user n u x whole f g units members)
takes_user (Err e) n u x meaning f g whole is units members = tt

pub takes_escaped : {T E : Type 0} (r : Result T E) (n u : ℕ) (text : List ℕ) (meaning : Meaning) (f g : FileLines) → meaning_view meaning ≡ assigns_escaped u text
    → OnOk r (g.units.entries ≡ insert_entry nat_cmp f.units.entries u (record { number = n; user = TextUser text })) → g.members.entries ≡ f.members.entries → OnOk r (Keeps n (meaning_view meaning) f g)
takes_escaped (Ok y) n u text meaning f g is units members =
    let kept : Keeps n (assigns_escaped u text) f g = keeps_user n u (TextUser text) (λ s. refl) f g units members in
    subst (λ m. Keeps n m f g) (sym is) kept
takes_escaped (Err e) n u text meaning f g is units members = tt

pub takes_member : {T E : Type 0} (r : Result T E) (n u : ℕ) (l : MemberLine) (meaning : Meaning) (f g : FileLines) → meaning_view meaning ≡ assigns u (LinesUser (l ∷ []))
    → g.units.entries ≡ f.units.entries → OnOk r (g.members.entries ≡ insert_entry nat_cmp f.members.entries l.member (record { number = n; user = LinesUser (l ∷ []) }))
    → OnOk r (Keeps n (meaning_view meaning) f g)
takes_member (Ok y) n u l meaning f g is units members = subst (λ m. Keeps n m f g) (sym is) (keeps_member n u l f g units members)
takes_member (Err e) n u l meaning f g is units members = tt

pub takes_none : (n : ℕ) (other : LineMeaning) (meaning : Meaning) (f : FileLines) → meaning_view meaning ≡ other → ((w : ℕ) → user_by_line w other ≡ None) → Keeps n (meaning_view meaning) f f
takes_none n other meaning f is none = subst (λ m. Keeps n m f f) (sym is) (keeps_none n other f none)
