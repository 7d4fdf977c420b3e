-- Assignments cut down to some units, and the least one.
use Rattle.std.proofs.Common.{cond, IsSome}
use Rattle.kc_solver.proofs.Common.{◌≡◌, ◌≢◌, ◌⊎◌, ◌↔◌, inl, inr, ℕ, ◌<◌, Bool, true, false, List, refl, sym, ◌∙◌, ap, Option, None, Some, slice_get, IfSome, cases_Bool, false≢true, IsOrder, user_of, Solves, KeepsFrame, FitsUsers, UniquelySolves}
use Rattle.kc_solver.specs.Solutions.{Restores}
use Rattle.kc_solver.specs.LeastAssignments.{IsKept, IsCutTo, IsLeastAssignment, LeastIsLeast, CutSolvesIfKept}
use Rattle.kc_solver.proofs.OneSolution as solving

option_cases : {A : Type 0} → ((a b : A) → (a ≡ b) ⊎ (a ≢ b)) → (o : Option A) (b : A) → (o ≡ Some b) ⊎ (o ≢ Some b)
option_cases decides None b = inr (λ e. cc)
option_cases decides (Some a) b = elim (decides a b) [ inl same ↦ inl (ap Some same) | inr other ↦ inr (λ e. let same : a ≡ b = cc in other same) ]

module _ {A X : Type 0} (size : ℕ) (rule : ℕ → Option X → List A → A) (decides : (a b : A) → (a ≡ b) ⊎ (a ≢ b)) where
  -- values that solve an assignment solve the same cut down to a set of units exactly if the set has all kept units
  pub cut_solves : (users fewer : List (Option X)) (values : List A) (keeps : ℕ → Bool) → Solves size rule users values → IsCutTo size keeps users fewer
      → (Solves size rule fewer values ↔ ((u : ℕ) → u < size → IsKept rule values u → keeps u ≡ true))
  cut_solves users fewer values keeps a cut = (
    λ b u h kept. elim (cases_Bool (keeps u)) [
      | inl holds ↦ holds
      | inr fails ↦
          let none : user_of fewer u ≡ None = cut.cut u h ∙ ap (λ k. cond k (user_of users u) None) fails in
          absurd (kept (b.holds u h ∙ ap (λ x. Some (rule u x values)) none))
    ],
    λ all. record {
      one_each = a.one_each;
      holds = λ u h. elim (cases_Bool (keeps u)) [
        | inl holds ↦
            let same : user_of fewer u ≡ user_of users u = cut.cut u h ∙ ap (λ k. cond k (user_of users u) None) holds in
            a.holds u h ∙ ap (λ x. Some (rule u x values)) (sym same)
        | inr fails ↦
            let none : user_of fewer u ≡ None = cut.cut u h ∙ ap (λ k. cond k (user_of users u) None) fails in
            elim (option_cases decides (slice_get values u) (rule u None values)) [
              | inl same ↦ same ∙ ap (λ x. Some (rule u x values)) (sym none)
              | inr kept ↦ absurd (false≢true (sym fails ∙ all u h kept))
            ]
      ];
    },
  )

  module _ (as_user : A → Option X) (fits : ℕ → X → Type 0) (restores : Restores size rule as_user fits) where
    -- the values that solve an assignment solve their least assignment, whose user values fit
    pub least_solves : (users least : List (Option X)) (values : List A) → FitsUsers size fits users → Solves size rule users values
        → IsLeastAssignment size rule as_user values least
        → Solves size rule least values × FitsUsers size fits least
    least_solves users least values fitting a l =
        let at : (u : ℕ) → u < size → (slice_get values u ≡ Some (rule u (user_of least u) values)) × IfSome (user_of least u) (fits u) =
        λ u h. elim (option_cases decides (slice_get values u) (rule u None values)) [
          | inl same ↦ (same ∙ ap (λ x. Some (rule u x values)) (sym (l.others u h same)), (let none = l.others u h same in rw none tt))
          | inr kept ↦
              let value = rule u (user_of users u) values in
              let differs : value ≢ rule u None values = λ e. kept (a.holds u h ∙ ap Some e) in
              let again = restores.restored u (user_of users u) values h a.one_each (fitting.1 u h) differs in
              let user : user_of least u ≡ Some again.0 = l.kept u value h (a.holds u h) kept ∙ again.1 in
              (a.holds u h ∙ ap Some (sym again.3) ∙ ap (λ x. Some (rule u x values)) (sym user), rw user again.2)
        ] in
        (record { one_each = a.one_each; holds = λ u h. (at u h).0 }, (l.one_each, λ u h. (at u h).1))

cut_fits : {X : Type 0} (size : ℕ) (fits : ℕ → X → Type 0) (users fewer : List (Option X)) (keeps : ℕ → Bool) → FitsUsers size fits users
    → IsCutTo size keeps users fewer → FitsUsers size fits fewer
cut_fits size fits users fewer keeps fitting cut = (
  cut.one_each,
  λ u h.
      elim (cases_Bool (keeps u)) [
        | inl holds ↦ let same : user_of fewer u ≡ user_of users u = cut.cut u h ∙ ap (λ k. cond k (user_of users u) None) holds in rw same (fitting.1 u h)
        | inr fails ↦ let none : user_of fewer u ≡ None = cut.cut u h ∙ ap (λ k. cond k (user_of users u) None) fails in rw none tt
      ],
)

module _ {A X : Type 0} (size : ℕ) (dependencies : ℕ → List ℕ) (rule : ℕ → Option X → List A → A) (fits : ℕ → X → Type 0)
    (order : List ℕ) (ordered : IsOrder size dependencies order) (frame : KeepsFrame size dependencies rule fits)
    (decides : (a b : A) → (a ≡ b) ⊎ (a ≢ b)) where
  -- an assignment cut down to a set of units still gives the same values exactly if the set has all kept units
  pub cut_gives : CutSolvesIfKept size rule fits
  cut_gives users fewer values keeps fitting a cut =
      let same = cut_solves size rule decides users fewer values keeps a cut in (
        λ g. same.0 g.solves,
        λ all. solving.gives size dependencies rule fits order ordered frame fewer (cut_fits size fits users fewer keeps fitting cut).1 values (same.1 all),
      )

  -- an assignment cut down so that a kept unit has no user value gives other values
  pub others_without : (users fewer : List (Option X)) (values : List A) (keeps : ℕ → Bool) (u : ℕ) → FitsUsers size fits users → Solves size rule users values
      → IsCutTo size keeps users fewer
      → u < size → IsKept rule values u → keeps u ≡ false → (others : List A) × UniquelySolves size rule fewer others × (others ≢ values)
  others_without users fewer values keeps u fitting a cut h kept fails =
      let fewer_fits = cut_fits size fits users fewer keeps fitting cut in
      let found = solving.solution size dependencies rule fits order ordered frame fewer fewer_fits.1 in
      let given = solving.gives size dependencies rule fits order ordered frame fewer fewer_fits.1 found.0 found.1 in (
        found.0,
        given,
        λ same.
            let b : Solves size rule fewer values = rw same at found.1 in
            false≢true (sym fails ∙ (cut_solves size rule decides users fewer values keeps a cut).0 b u h kept),
      )

  -- the least assignment has a user value for each kept unit
  least_has : (as_user : A → Option X) → Restores size rule as_user fits → (users least : List (Option X)) (values : List A)
      → FitsUsers size fits users → Solves size rule users values → IsLeastAssignment size rule as_user values least → (u : ℕ) → u < size → IsKept rule values u
      → IsSome (user_of least u)
  least_has as_user restores users least values fitting a l u h kept =
      let value = rule u (user_of users u) values in
      let differs : value ≢ rule u None values = λ e. kept (a.holds u h ∙ ap Some e) in
      let again = restores.restored u (user_of users u) values h a.one_each (fitting.1 u h) differs in
      let user : user_of least u ≡ Some again.0 = l.kept u value h (a.holds u h) kept ∙ again.1 in
      rw user refl

  -- the least assignment of a solution gives the solution back, and without the user value of any kept unit it gives other values
  pub least_gives : (as_user : A → Option X) → Restores size rule as_user fits → LeastIsLeast size rule as_user fits
  least_gives as_user restores users least values fitting a l =
      let solved = least_solves size rule decides as_user fits restores users least values fitting a l in (
        solved.1,
        (λ u h kept. least_has as_user restores users least values fitting a l u h kept),
        solving.gives size dependencies rule fits order ordered frame least solved.1.1 values solved.0,
        λ keeps fewer u cut h kept fails. others_without least fewer values keeps u solved.1 solved.0 cut h kept fails,
      )
