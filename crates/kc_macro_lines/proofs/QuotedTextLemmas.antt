-- Bytes between quotes, written item by item.
use Rattle.kc_macro_lines.proofs.Common.{◌≡◌, ℕ, true, List, [], ◌∷◌, ◌++◌, Some, refl, sym, ap, ◌∙◌, append_assoc, append-nil, Place, Program, returns, ◌>>=◌, Item, reference, item_bytes, items, Value, Bindings, text_value, WrittenToken, token_of_quoted_text, quoted_text_of, joined_quoted_texts, written_items}
use Rattle.kc_macro_lines.proofs.Common.{returned, Stop, RunState, ends, end_of_stop, Runs, quoted_text_left, quoted_written, Leads, then_runs, stops_early, runs_nothing, returns_as, then_returns, then_then, then_same, runs_same, leads_same, leads_then, leads_on, fails_so}
use Rattle.kc_macros_model.specs.Programs.{Fault, fails}
use Rattle.kc_macros_model.specs.Variables.{joined_values}
use Rattle.kc_macros_model.specs.WrittenTokens.{WrittenQuotedText, quoted_text_of_value, written_item}
use Rattle.kc_macros.specs.between.Stops.{FailsWith}
use Rattle.kc_macros.proofs.PartialValueLemmas.{joined_three, joined_nothing, nothing_joined}

same_body : (bytes bytes2 : List ℕ) (v v2 : Value) → bytes ≡ bytes2 → v ≡ v2 → (let a : WrittenQuotedText = record { bytes = bytes; meaning = v } in
    let b : WrittenQuotedText = record { bytes = bytes2; meaning = v2 } in a ≡ b)
same_body bytes bytes2 v v2 h k = ap (λ x. let a : WrittenQuotedText = record { bytes = x; meaning = v } in a) h
    ∙ ap (λ x. let a : WrittenQuotedText = record { bytes = bytes2; meaning = x } in a) k

joined_quoted_three : (a b c : WrittenQuotedText) → joined_quoted_texts a (joined_quoted_texts b c) ≡ joined_quoted_texts (joined_quoted_texts a b) c
joined_quoted_three a b c =
    same_body (a.bytes ++ (b.bytes ++ c.bytes)) ((a.bytes ++ b.bytes) ++ c.bytes) (joined_values a.meaning (joined_values b.meaning c.meaning))
    (joined_values (joined_values a.meaning b.meaning) c.meaning)
    (sym (append_assoc a.bytes b.bytes c.bytes)) (joined_three a.meaning b.meaning c.meaning)

nothing_before : (a : WrittenQuotedText) → joined_quoted_texts (quoted_text_of [] []) a ≡ a
nothing_before a = same_body a.bytes a.bytes (joined_values (Some []) a.meaning) a.meaning refl (joined_nothing a.meaning)

nothing_after : (a : WrittenQuotedText) → joined_quoted_texts a (quoted_text_of [] []) ≡ a
nothing_after a = same_body (a.bytes ++ []) a.bytes (joined_values a.meaning (Some [])) a.meaning (append-nil a.bytes) (nothing_joined a.meaning)

module _ (at : Place) (b : Bindings) (quote : ℕ) where
  pub quoted_text_at_first : (is : List Item) → written_items at b quote is ≡ quoted_text_left at b quote (quoted_text_of [] []) is
  quoted_text_at_first is = sym (then_same (written_items at b quote is) (λ r. returns (joined_quoted_texts (quoted_text_of [] []) r)) returns
      (λ r. ap returns (nothing_before r)) ∙ then_returns (written_items at b quote is))

  pub no_quoted_text_left : (a : WrittenQuotedText) → quoted_text_left at b quote a [] ≡ returns a
  no_quoted_text_left a = ap returns (nothing_after a)

  pub quoted_texts_left : (a : WrittenQuotedText) (i : Item) (is : List Item) → quoted_text_left at b quote a (i ∷ is) ≡ written_item at b quote i >>=
      (λ f. quoted_text_left at b quote (joined_quoted_texts a f) is)
  quoted_texts_left a i is =
      then_then (written_item at b quote i) (λ f. written_items at b quote is >>= λ r. returns (joined_quoted_texts f r)) (λ r. returns (joined_quoted_texts a r))
      ∙ then_same (written_item at b quote i) (λ f. (written_items at b quote is >>= λ r. returns (joined_quoted_texts f r)) >>= (λ r. returns (joined_quoted_texts a r)))
      (λ f. quoted_text_left at b quote (joined_quoted_texts a f) is)
      (λ f. then_then (written_items at b quote is) (λ r. returns (joined_quoted_texts f r)) (λ r. returns (joined_quoted_texts a r))
      ∙ then_same (written_items at b quote is) (λ r. returns (joined_quoted_texts a (joined_quoted_texts f r))) (λ r. returns (joined_quoted_texts (joined_quoted_texts a f) r))
      (λ r. ap returns (joined_quoted_three a f r)))

  module _ (s : RunState) (a : WrittenQuotedText) (text : List ℕ) where
    abbrev at_first : Program WrittenQuotedText
    at_first = quoted_text_left at b quote a (items true 0 text)

    -- an item between quotes that is written without an event leads to writing the items after it
    pub item_written : (i : Item) (f a2 : WrittenQuotedText) (more : List Item) → items true 0 text ≡ i ∷ more → written_item at b quote i ≡ returns f
        → a2 ≡ joined_quoted_texts a f → Leads s at_first s (quoted_text_left at b quote a2 more)
    item_written i f a2 more h k e =
        leads_same s at_first (quoted_text_left at b quote a2 more)
        (ap (quoted_text_left at b quote a) h ∙ quoted_texts_left a i more ∙ ap (λ p. p >>= (λ x. quoted_text_left at b quote (joined_quoted_texts a x) more)) k
        ∙ ap (λ x. quoted_text_left at b quote x more) (sym e))

    -- an item between quotes that is a fault stops the program that writes the items
    pub item_fails : (i : Item) (more : List Item) (g : Fault) (stop : Stop) → items true 0 text ≡ i ∷ more → written_item at b quote i ≡ fails g
        → FailsWith g stop → Runs s s at_first (end_of_stop stop)
    item_fails i more g stop h k w =
        fails_so s at_first g stop (ap (quoted_text_left at b quote a) h ∙ quoted_texts_left a i more
        ∙ ap (λ p. p >>= (λ x. quoted_text_left at b quote (joined_quoted_texts a x) more)) k) w

    module _ (inside whole : List ℕ) (more : List Item) (h : items true 0 text ≡ reference inside ∷ more) (e : whole ≡ item_bytes (reference inside)) where
      abbrev with_value : Value → Program WrittenQuotedText
      with_value v = quoted_text_left at b quote (joined_quoted_texts a (quoted_text_of_value quote v)) more

      to_value : at_first ≡ text_value at b whole >>= with_value
      to_value =
          ap (quoted_text_left at b quote a) h ∙ quoted_texts_left a (reference inside) more
          ∙ then_then (text_value at b (item_bytes (reference inside))) (λ v. returns (quoted_text_of_value quote v))
          (λ f. quoted_text_left at b quote (joined_quoted_texts a f) more)
          ∙ ap (λ x. text_value at b x >>= with_value) (sym e)

      pub value_stopped : (t : RunState) (stop : Stop) → Runs s t (text_value at b whole) (end_of_stop stop) → Runs s t at_first (end_of_stop stop)
      value_stopped t stop r = runs_same s t at_first (text_value at b whole >>= with_value) (end_of_stop stop) to_value
          (stops_early s t (text_value at b whole) with_value stop r)

      pub value_written : (t : RunState) (v : Value) (a2 : WrittenQuotedText) → a2 ≡ joined_quoted_texts a (quoted_text_of_value quote v)
          → Runs s t (text_value at b whole) (ends (returned v)) → Leads s at_first t (quoted_text_left at b quote a2 more)
      value_written t v a2 k r =
          leads_then s s t at_first (text_value at b whole >>= with_value) (quoted_text_left at b quote a2 more)
          (leads_same s at_first (text_value at b whole >>= with_value) to_value)
          (leads_then s t t (text_value at b whole >>= with_value) (with_value v) (quoted_text_left at b quote a2 more)
          (leads_on s t (text_value at b whole) with_value v r)
          (leads_same t (with_value v) (quoted_text_left at b quote a2 more) (ap (λ x. quoted_text_left at b quote x more) (sym k))))

-- if no bytes between quotes are written yet and they have no meaning yet, they are the empty body
pub nothing_written : (bytes meaning : List ℕ) → bytes ≡ [] → meaning ≡ [] → (let a : WrittenQuotedText = record { bytes = bytes; meaning = Some meaning } in
    a ≡ quoted_text_of [] [])
nothing_written bytes meaning h k = same_body bytes [] (Some meaning) (Some []) h (ap Some k)

module _ (at : Place) (b : Bindings) (quote : ℕ) (s : RunState) (a : WrittenQuotedText) where
  pub body_begins : (is : List Item) → a ≡ quoted_text_of [] [] → Leads s (written_items at b quote is) s (quoted_text_left at b quote a is)
  body_begins is h = leads_same s (written_items at b quote is) (quoted_text_left at b quote a is) (quoted_text_at_first at b quote is
      ∙ ap (λ x. quoted_text_left at b quote x is) (sym h))

  pub body_ends : (first : RunState) (p : Program WrittenQuotedText) (is : List Item) → is ≡ [] → Leads first p s (quoted_text_left at b quote a is)
      → Runs first s p (ends (returned a))
  body_ends first p is h l = l.leads s (ends (returned a)) (runs_same s s (quoted_text_left at b quote a is) (returns a) (ends (returned a))
      (ap (quoted_text_left at b quote a) h ∙ no_quoted_text_left at b quote a) (runs_nothing s a))

module _ (at : Place) (b : Bindings) (quote : ℕ) (text : List ℕ) (s t : RunState) where
  pub quoted_stopped : (stop : Stop) → Runs s t (written_items at b quote (items true 0 text)) (end_of_stop stop)
      → Runs s t (quoted_written at b quote text) (end_of_stop stop)
  quoted_stopped stop r = stops_early s t (written_items at b quote (items true 0 text)) (λ body. returns (token_of_quoted_text quote body)) stop r

  pub quoted_returned : (body : WrittenQuotedText) (x : WrittenToken) → x ≡ token_of_quoted_text quote body → Runs s t (written_items at b quote (items true 0 text))
      (ends (returned body)) → Runs s t (quoted_written at b quote text) (ends (returned x))
  quoted_returned body x e r =
      returns_as s t t (quoted_written at b quote text) (token_of_quoted_text quote body) x refl e
      (then_runs s t (written_items at b quote (items true 0 text)) (λ y. returns (token_of_quoted_text quote y)) body t (ends (returned (token_of_quoted_text quote body))) r
      (runs_nothing t (token_of_quoted_text quote body)))
