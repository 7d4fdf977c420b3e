-- The names that most proofs of this crate cite, passed on from one place. Declares nothing.
pub use Rattle.std.proofs.Common.{Bool, Err, IfSome, List, None, Ok, OnOk, Option, Result, Some, [], ap, arith, drop, eqb, false, get_or, inl, inr, length, length-append, length-set, min, not, refl, replicate, rules, set, slice_get, subst, suc, sym, take, true, zero, ℕ, ◌%◌, ◌*◌, ◌++◌, ◌+◌, ◌-◌}
pub use Rattle.std.proofs.Common.{◌/◌, ◌<◌, ◌^◌, ◌↔◌, ◌∙◌, ◌∷◌, ◌≡◌, ◌≢◌, ◌≤◌, ◌⊎◌}
pub use Rattle.std.proofs.lemmas.Bool.{cases_Bool, cases_eq, cases_lt, eqb-true, false≢true, ne_eqb}
pub use Rattle.std.proofs.lemmas.Bool.Decides.{eqb_tells}
pub use Rattle.std.proofs.lemmas.Grind.{common_steps, elements}
pub use Rattle.std.proofs.lemmas.List.{get_or-replicate, get_or-set_other, get_or-set_same, get_or_default, get_or_past, length-replicate, length-take-le, take_all, take_more, with_items_is}
pub use Rattle.std.proofs.lemmas.List.Elements.{Contains-get_or, Contains-push_cases}
pub use Rattle.std.proofs.lemmas.Map.Keys.{below_from_sorted, sorted_from_strictly_increasing}
pub use Rattle.std.proofs.lemmas.Map.Views.{Contains-from_any}
pub use Rattle.std.proofs.lemmas.Option.{get_or_from_slice_get, none-some, slice_get-get_or, slice_get_read, slice_get_within}
pub use Rattle.std.proofs.lemmas.Result.{IfOk-weaker}
pub use Rattle.std.specs.Io.KnownBytes.{Appends}
pub use Rattle.std.specs.List.{Contains}
pub use Rattle.std.specs.List.Sorted.{IsStrictlyIncreasing}
pub use Rattle.std.specs.Prelude.{reverse}
pub use Rattle.kc_solver.specs.Changes.{IsCountOf, changed_users}
pub use Rattle.kc_solver.specs.Dependencies.{IsGraph, IsLeast, IsLeft, IsNamedCycle, IsOrder}
pub use Rattle.kc_solver.specs.SessionState.{SessionState}
pub use Rattle.kc_solver.specs.Solutions.{AgreesOn, FitsUsers, FitsValues, KeepsFrame, Solves, UniquelySolves, user_of}
pub use Rattle.kc_solver.specs.checker.Elimination.{ArePassed, FlagsLeft, Grows, IsEliminated, IsElimination, WaitsBeyond}
pub use Rattle.kc_solver.specs.checker.Logs.{Undoes, logged_units, undone}
pub use Rattle.kc_solver.specs.checker.PendingPlaces.{ArePlaces, IsDue, ListsChanged, MarksPlaces, is_pending}
pub use Rattle.kc_solver.specs.checker.PlaceSets.{AreLevels}
pub use Rattle.kc_solver.specs.checker.Revision.{Revising}
pub use Rattle.kc_solver.specs.checker.Rows.{AreDependents, CountsBelow, CountsRows, FillsBelow, FillsRows, row_lengths, with_unit_before}
