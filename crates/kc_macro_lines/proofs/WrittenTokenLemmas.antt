-- How runs are written.
use Rattle.kc_macro_lines.proofs.Common.{◌≡◌, ℕ, Bool, true, false, List, [], Some, refl, ap, ◌∙◌, ◌==◌, list_any, Place, Program, returns, ◌>>=◌, items, is_reference, is_plain_dollar, Value, Bindings, text_value, Word, Other, WrittenToken, written_as, run_value, returned, Stop, RunState, ends}
use Rattle.kc_macro_lines.proofs.Common.{end_of_stop, Runs, then_runs, stops_early, runs_nothing, returns_as, runs_same}
use Rattle.kc_macros_model.specs.WrittenTokens.{token_of_value, written_run}

module _ (at : Place) (b : Bindings) (s : List ℕ) where
  pub plain_run : list_any (λ c. c == 36) s ≡ false → run_value at b s ≡ returns (Some s)
  plain_run h = ap (λ t. elim t as (λ x. Program Value) [ true ↦ text_value at b s | false ↦ returns (Some s) ]) h

  abbrev without_plain_dollar : Bool → Program WrittenToken
  without_plain_dollar t = elim t [ true ↦ text_value at b s >>= λ v. returns (token_of_value v) | false ↦ returns (written_as Word s s) ]

  abbrev by_dollar : Bool → Bool → Program WrittenToken
  by_dollar t u = elim t [ true ↦ returns (written_as Other s []) | false ↦ without_plain_dollar u ]

  pub run_stays : list_any is_plain_dollar (items false 0 s) ≡ true → written_run at b s ≡ returns (written_as Other s [])
  run_stays h = ap (λ t. by_dollar t (list_any is_reference (items false 0 s))) h

  pub run_is_word : list_any is_plain_dollar (items false 0 s) ≡ false → list_any is_reference (items false 0 s) ≡ false
      → written_run at b s ≡ returns (written_as Word s s)
  run_is_word h k = ap (λ t. by_dollar t (list_any is_reference (items false 0 s))) h ∙ ap without_plain_dollar k

  run_has_value : list_any is_plain_dollar (items false 0 s) ≡ false → list_any is_reference (items false 0 s) ≡ true
      → written_run at b s ≡ text_value at b s >>= λ v. returns (token_of_value v)
  run_has_value h k = ap (λ t. by_dollar t (list_any is_reference (items false 0 s))) h ∙ ap without_plain_dollar k

  module _ (h : list_any is_plain_dollar (items false 0 s) ≡ false) (k : list_any is_reference (items false 0 s) ≡ true) (r t : RunState) where
    pub run_stopped : (stop : Stop) → Runs r t (text_value at b s) (end_of_stop stop) → Runs r t (written_run at b s) (end_of_stop stop)
    run_stopped stop a = runs_same r t (written_run at b s) (text_value at b s >>= λ v. returns (token_of_value v)) (end_of_stop stop) (run_has_value h k)
        (stops_early r t (text_value at b s) (λ v. returns (token_of_value v)) stop a)

    pub run_valued : (v : Value) (x : WrittenToken) → x ≡ token_of_value v → Runs r t (text_value at b s) (ends (returned v))
        → Runs r t (written_run at b s) (ends (returned x))
    run_valued v x e a =
        returns_as r t t (written_run at b s) (token_of_value v) x refl e
        (runs_same r t (written_run at b s) (text_value at b s >>= λ w. returns (token_of_value w)) (ends (returned (token_of_value v))) (run_has_value h k)
        (then_runs r t (text_value at b s) (λ w. returns (token_of_value w)) v t (ends (returned (token_of_value v))) a (runs_nothing t (token_of_value v))))
