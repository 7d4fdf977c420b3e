-- The content of a line, token by token.
use Rattle.kc_macro_lines.proofs.Common.{◌≡◌, ℕ, ◌<◌, Bool, true, false, ◌&&◌, List, [], ◌∷◌, ◌++◌, length, Option, Some, None, refl, sym, ap, ◌∙◌, subst, append_assoc, arith, append-nil, Place, Program, returns, stops, ◌>>=◌, Value, Bindings, LineToken, run, token_bytes, WrittenToken}
use Rattle.kc_macro_lines.proofs.Common.{token_of_text, run_value, written_token, AssignedText, assigned, LineContent, tokens, with_token, is_trivia, is_open_front, assignment_to, assignment_at, assignment_or, line_content, returned, Stop, RunState, ends, end_of_stop, Runs, token_of, tokens_of, Leads}
use Rattle.kc_macro_lines.proofs.Common.{then_runs, stops_early, runs_nothing, then_returns, then_then, then_same, runs_same, leads_same, leads_then, leads_on}
use Rattle.std.proofs.lemmas.List.{map-append}
use Rattle.kc_macros_model.specs.Assignments.{assigns}
use Rattle.kc_macros_model.specs.Worlds.{stopped}
use Rattle.kc_macro_forms.specs.declared.written_tokens.WrittenToken.{WrittenToken as CodeToken}
use Rattle.kc_macros.specs.declared.assignments.Assignment.{Assignment}
use Rattle.kc_macro_lines.specs.declared.line_content.LineFront.{LineFront}
use Rattle.kc_macro_lines.specs.declared.line_content.ContentStep.{ContentStep}
use Rattle.kc_macro_lines.specs.declared.line_content.ContentStep.TheVariants as steps
use Rattle.kc_macro_lines.specs.checker.LineFronts.{with_tokens, content_left, step_left}
use Rattle.kc_macros.proofs.RunLemmas.{runs_stop}

with_none : (c : LineContent) → with_tokens [] c ≡ c
with_none (tokens ts) = refl
with_none (assigns name a) = refl

with_more : (before : List WrittenToken) (t : WrittenToken) (c : LineContent) → with_tokens before (with_token t c) ≡ with_tokens (before ++ t ∷ []) c
with_more before t (tokens ts) = ap tokens (sym (append_assoc before (t ∷ []) ts))
with_more before t (assigns name a) = refl

-- a token that is appended to the code's written tokens is appended to those of `kc_macros_model`
pub tokens_pushed : (before after : List CodeToken) (t : CodeToken) → after ≡ before ++ t ∷ [] → tokens_of after ≡ tokens_of before ++ token_of t ∷ []
tokens_pushed before after t h = ap tokens_of h ∙ map-append token_of before (t ∷ [])

module _ (at : Place) (b : Bindings) where
  -- the program for the content of a line leads to the one for the tokens left, if none is written yet
  pub content_begins : (s : RunState) (before : List WrittenToken) (ts : List LineToken) → before ≡ []
      → Leads s (line_content at b true ts) s (content_left at b before true ts)
  content_begins s before ts h =
      leads_same s (line_content at b true ts) (content_left at b before true ts)
      (sym (ap (λ x. content_left at b x true ts) h ∙ then_same (line_content at b true ts) (λ c. returns (with_tokens [] c)) returns
      (λ c. ap returns (with_none c)) ∙ then_returns (line_content at b true ts)))

  -- if no token of a line is left, the program for its content returns the written tokens
  pub content_ends : (first s : RunState) (p : Program LineContent) (before : List WrittenToken) (may_assign : Bool) (ts : List LineToken) → ts ≡ []
      → Leads first p s (content_left at b before may_assign ts)
      → Runs first s p (ends (returned (tokens before)))
  content_ends first s p before may_assign ts h l =
      l.leads s (ends (returned (tokens before)))
      (runs_same s s (content_left at b before may_assign ts) (returns (tokens before)) (ends (returned (tokens before)))
      (ap (content_left at b before may_assign) h ∙ ap (λ x. returns (tokens x)) (append-nil before)) (runs_nothing s (tokens before)))

  token_then : (before : List WrittenToken) (w : WrittenToken) (p : Program LineContent) → (p >>= (λ rest. returns (with_token w rest))) >>=
      (λ c. returns (with_tokens before c)) ≡ p >>= (λ c. returns (with_tokens (before ++ w ∷ []) c))
  token_then before w p =
      then_then p (λ rest. returns (with_token w rest)) (λ c. returns (with_tokens before c))
      ∙ then_same p (λ c. returns (with_tokens before (with_token w c))) (λ c. returns (with_tokens (before ++ w ∷ []) c))
      (λ c. ap returns (with_more before w c))

  module _ (s : RunState) (before : List WrittenToken) (may_assign : Bool) (t : LineToken) (ts : List LineToken)
      (h : assignment_at may_assign t ts ≡ None) where
    abbrev at_token : Program LineContent
    at_token = content_left at b before may_assign (t ∷ ts)

    -- the line after a written token
    abbrev after_token : WrittenToken → Bool → Program LineContent
    after_token w is_open = elim is_open [ true ↦ stops | false ↦ line_content at b (may_assign && is_trivia w) ts >>= λ rest. returns (with_token w rest) ]

    abbrev left_after : WrittenToken → Bool → Program LineContent
    left_after w is_open = elim is_open [ true ↦ stops | false ↦ content_left at b (before ++ w ∷ []) (may_assign && is_trivia w) ts ]

    abbrev by_assignment : Option AssignedText → Program LineContent
    by_assignment o =
        elim o [
          | Some a ↦ run_value at b (token_bytes t) >>= assignment_or (line_content at b true ts >>= λ rest. returns (with_token (token_of_text []) rest)) a
          | None ↦ written_token at b t >>= λ w. after_token w (is_open_front may_assign w ts)
        ]

    after_is : (w : WrittenToken) (is_open : Bool) → after_token w is_open >>= (λ c. returns (with_tokens before c)) ≡ left_after w is_open
    after_is w true = refl
    after_is w false = token_then before w (line_content at b (may_assign && is_trivia w) ts)

    abbrev next : WrittenToken → Program LineContent
    next w = left_after w (is_open_front may_assign w ts)

    to_written : at_token ≡ written_token at b t >>= next
    to_written =
        ap (λ o. by_assignment o >>= (λ c. returns (with_tokens before c))) h
        ∙ then_then (written_token at b t) (λ w. after_token w (is_open_front may_assign w ts)) (λ c. returns (with_tokens before c))
        ∙ then_same (written_token at b t) (λ w. after_token w (is_open_front may_assign w ts) >>= (λ c. returns (with_tokens before c))) next
        (λ w. after_is w (is_open_front may_assign w ts))

    pub token_stopped : (u : RunState) (stop : Stop) → Runs s u (written_token at b t) (end_of_stop stop) → Runs s u at_token (end_of_stop stop)
    token_stopped u stop a = runs_same s u at_token (written_token at b t >>= next) (end_of_stop stop) to_written
        (stops_early s u (written_token at b t) next stop a)

    module _ (u : RunState) (w : WrittenToken) (a : Runs s u (written_token at b t) (ends (returned w))) where
      -- if a written token leaves open what the line is, the program for the content of the line stops
      pub token_open : is_open_front may_assign w ts ≡ true → Runs s u at_token (ends stopped)
      token_open e =
          runs_same s u at_token (written_token at b t >>= next) (ends stopped) to_written
          (then_runs s u (written_token at b t) next w u (ends stopped) a (runs_same u u (next w) stops (ends stopped) (ap (left_after w) e) (runs_stop u)))

      pub token_pushed : is_open_front may_assign w ts ≡ false → (after : List WrittenToken) (may : Bool) → after ≡ before ++ w ∷ []
          → may ≡ (may_assign && is_trivia w) → Leads s at_token u (content_left at b after may ts)
      token_pushed e after may k l =
          leads_then s s u at_token (written_token at b t >>= next) (content_left at b after may ts)
          (leads_same s at_token (written_token at b t >>= next) to_written)
          (leads_then s u u (written_token at b t >>= next) (next w) (content_left at b after may ts) (leads_on s u (written_token at b t) next w a)
          (leads_same u (next w) (content_left at b after may ts) (ap (left_after w) e ∙ ap (λ x. content_left at b x (may_assign && is_trivia w) ts) (sym k)
          ∙ ap (λ m. content_left at b after m ts) (sym l))))

  module _ (s : RunState) (before : List WrittenToken) (may_assign : Bool) (may : may_assign ≡ true) (name : List ℕ) (ts : List LineToken) (a : AssignedText)
      (h : assignment_to (run name) ts ≡ Some a) where
    abbrev at_name : Program LineContent
    at_name = content_left at b before may_assign (run name ∷ ts)

    abbrev trivia_first : Program LineContent
    trivia_first = line_content at b true ts >>= λ rest. returns (with_token (token_of_text []) rest)

    abbrev by_name : Option AssignedText → Program LineContent
    by_name o =
        elim o [
          | Some x ↦ run_value at b name >>= assignment_or trivia_first x
          | None ↦ written_token at b (run name) >>= λ w.
              elim (is_open_front true w ts) as (λ x. Program LineContent)
              [ true ↦ stops | false ↦ line_content at b (true && is_trivia w) ts >>= λ rest. returns (with_token w rest) ]
        ]

    abbrev named : Value → Program LineContent
    named v = assignment_or trivia_first a v >>= (λ c. returns (with_tokens before c))

    to_name : at_name ≡ run_value at b name >>= named
    to_name =
        ap (λ m. content_left at b before m (run name ∷ ts)) may
        ∙ ap (λ o. by_name o >>= (λ c. returns (with_tokens before c))) h
        ∙ then_then (run_value at b name) (assignment_or trivia_first a) (λ c. returns (with_tokens before c))

    pub name_stopped : (u : RunState) (stop : Stop) → Runs s u (run_value at b name) (end_of_stop stop) → Runs s u at_name (end_of_stop stop)
    name_stopped u stop r = runs_same s u at_name (run_value at b name >>= named) (end_of_stop stop) to_name
        (stops_early s u (run_value at b name) named stop r)

    module _ (u : RunState) (v : Value) (r : Runs s u (run_value at b name) (ends (returned v))) where
      -- if the value of the name of an assignment is unknown, the program for the content of the line stops
      pub name_unknown : v ≡ None → Runs s u at_name (ends stopped)
      name_unknown e =
          runs_same s u at_name (run_value at b name >>= named) (ends stopped) to_name
          (then_runs s u (run_value at b name) named v u (ends stopped) r (runs_same u u (named v) stops (ends stopped) (ap named e) (runs_stop u)))

      after_name : (p : Program LineContent) → named v ≡ p → Leads s at_name u p
      after_name p e =
          leads_then s s u at_name (run_value at b name >>= named) p (leads_same s at_name (run_value at b name >>= named) to_name)
          (leads_then s u u (run_value at b name >>= named) (named v) p (leads_on s u (run_value at b name) named v r) (leads_same u (named v) p e))

      -- if the name of an assignment has an empty value, it is written as trivia, and the tokens after it are read
      pub name_empty : (x : List ℕ) → v ≡ Some x → length x ≡ 0 → (after : List WrittenToken) → after ≡ before ++ token_of_text [] ∷ []
          → Leads s at_name u (content_left at b after may_assign ts)
      name_empty (c ∷ x) e k after l = absurd (omega arith)
      name_empty [] e k after l =
          after_name (content_left at b after may_assign ts)
          (ap named e ∙ token_then before (token_of_text []) (line_content at b true ts) ∙ ap (λ y. content_left at b y true ts) (sym l)
          ∙ ap (λ m. content_left at b after m ts) (sym may))

      pub name_assigned : (x : List ℕ) → v ≡ Some x → 0 < length x → (y : AssignedText) → y ≡ a → Leads s at_name u (returns (assigns x y))
      name_assigned [] e k y l = absurd (omega arith)
      name_assigned (c ∷ x) e k y l = after_name (returns (assigns (c ∷ x) y)) (ap named e ∙ ap (λ z. returns (assigns (c ∷ x) z)) (sym l))

module _ (at : Place) (b : Bindings) (first s t : RunState) (p q : Program LineContent) (l : Leads first p s q) (front : LineFront) (step : ContentStep)
    (k : Leads s q t (step_left at b front step)) where
  -- if the next step along a line finds an assignment, the program for the content of the line returns it
  pub content_assigned : (a : Assignment) → step ≡ steps.Assigns a → Runs first t p
      (ends (returned (assigns a.name (assigned a.operator a.text))))
  content_assigned a e =
      let end = step_left at b front (steps.Assigns a) in
      let last : Leads s q t end = subst (λ x. Leads s q t (step_left at b front x)) e k in
      (leads_then first s t p q end l last).leads t (ends (returned (assigns a.name (assigned a.operator a.text))))
      (runs_nothing t (assigns a.name (assigned a.operator a.text)))
