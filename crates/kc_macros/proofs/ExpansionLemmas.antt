-- The steps of an expansion.
use Rattle.kc_macros.proofs.Common.{◌≡◌, ℕ, suc, ◌+◌, ◌-◌, ◌<◌, ◌≤◌, Result, Ok, Err, Bool, true, false, ◌&&◌, List, [], ◌∷◌, ◌++◌, length, map, Some, sym, ap, ◌∙◌, subst, arith, length-append, is_some, MAX_TEXT_BYTES, Place, Fault, Program, returns, fails, ◌>>=◌, Item, byte, items, Value}
use Rattle.kc_macros.proofs.Common.{value_length, Bindings, unless_too_long, item_value, item_values, returned, Stop, RunState, ends, end_of_stop, Runs, cut_short, FailsWith, spent, paid, known_bytes, value_if_known, too_long, values_left, Leads, Steps}
use Rattle.std.specs.Prelude.{OnOk, IfErr}
use Rattle.kc_macros_model.specs.declared.fault.MacroKind.TheVariants.{TooDeep}
use Rattle.kc_macros_model.specs.Expansion.{expanded}
use Rattle.kc_macros.specs.declared.stop.Stop.TheVariants as kinds
use Rattle.kc_macros.specs.checker.Events.{FailsIf}
use Rattle.kc_macros.proofs.RunLemmas.{then_runs, stops_early, runs_nothing}
use Rattle.kc_macros.proofs.EventLemmas.{runs_failed}
use Rattle.kc_macros.proofs.ProgramLemmas.{runs_same, leads_same, leads_then, leads_on}
use Rattle.kc_macros.proofs.PartialValueLemmas.{fits, fits_not, known_length, all_left, none_left, one_left, text_left, text_left_out}

-- a program that equals a failing one ends with a stop of the code that is its fault, or means that memory ran out
pub fails_so : {A : Type 0} (s : RunState) (p : Program A) (f : Fault) (stop : Stop) → p ≡ fails f → FailsWith f stop → Runs s s p (end_of_stop stop)
fails_so s p f stop h k = runs_same s s p (fails f) (end_of_stop stop) h (runs_failed s f stop k)

-- a program that fails if a fact holds ends with each stop of the code that `FailsIf` allows for this fact
pub fails_where : {A : Type 0} (s : RunState) (p : Program A) (P : Type 0) (f : Fault) (stop : Stop) → (P → p ≡ fails f) → FailsIf P f stop
    → Runs s s p (end_of_stop stop)
fails_where s p P f (kinds.Fault g) h k = fails_so s p f (kinds.Fault g) (h k.0) k.1
fails_where s p P f kinds.Unanswered h k = absurd k
fails_where s p P f kinds.OutOfMemory h k = cut_short

-- a program that equals one that only returns a value returns it, and leaves the run as it is
pub returns_so : {A : Type 0} (s : RunState) (p : Program A) (x : A) → p ≡ returns x → Runs s s p (ends (returned x))
returns_so s p x h = runs_same s s p (returns x) (ends (returned x)) h (runs_nothing s x)

-- what is appended to a short text stays short
pub short_after : (before added after : List ℕ) (n : ℕ) → after ≡ before ++ added → length added ≡ n → length before + n ≤ MAX_TEXT_BYTES
    → length after ≤ MAX_TEXT_BYTES
short_after before added after n h k l = omega (arith, ap length h, length-append before added, k, l)

module _ (at : Place) (more : ℕ) (b : Bindings) (names : List (List ℕ)) (args : List Value) (text : List ℕ) where
  abbrev whole : Program Value
  whole = expanded more at b names args text

  abbrev inner : Program Value
  inner = item_values at (item_value (expanded (more - 1) at b) at b names args) 0 (items false 0 text)

  pub too_deep : more ≡ 0 → whole ≡ fails (record { at = at; kind = TooDeep; text = [] })
  too_deep h = ap (λ m. expanded m at b names args text) h

  whole_is : (0 < more) → whole ≡ spent at (length text + 1) >>= (λ u. inner >>= paid at)
  whole_is h = ap (λ m. expanded m at b names args text) (let e : more ≡ suc (more - 1) = omega (arith, h) in e)

  module _ (h : 0 < more) (s t : RunState) where
    -- if the work for a text is too much, the program for its value stops with that fault
    pub whole_unpaid : (stop : Stop) → Runs s t (spent at (length text + 1)) (end_of_stop stop) → Runs s t whole (end_of_stop stop)
    whole_unpaid stop a = runs_same s t whole (spent at (length text + 1) >>= (λ u. inner >>= paid at)) (end_of_stop stop) (whole_is h)
        (stops_early s t (spent at (length text + 1)) (λ u. inner >>= paid at) stop a)

    -- the work for a text leads to the values of its items and the work for the value
    pub whole_leads : Runs s t (spent at (length text + 1)) (ends (returned (tt {0}))) → Leads s whole t (inner >>= paid at)
    whole_leads a =
        leads_then s s t whole (spent at (length text + 1) >>= (λ u. inner >>= paid at)) (inner >>= paid at)
        (leads_same s whole (spent at (length text + 1) >>= (λ u. inner >>= paid at)) (whole_is h))
        (leads_on s t (spent at (length text + 1)) (λ u. inner >>= paid at) (tt {0}) a)

module _ (at : Place) (x : Value) (n : ℕ) (s t : RunState) (is : n ≡ value_length x) where
  -- if the work for a value is too much, the program that pays for it stops with that fault
  pub value_unpaid : (stop : Stop) → Runs s t (spent at n) (end_of_stop stop) → Runs s t (paid at x) (end_of_stop stop)
  value_unpaid stop a = stops_early s t (spent at (value_length x)) (λ u. returns x) stop (subst (λ k. Runs s t (spent at k) (end_of_stop stop)) is a)

  -- the program that pays for a value returns it after the work
  pub value_paid : Runs s t (spent at n) (ends (returned (tt {0}))) → Runs s t (paid at x) (ends (returned x))
  value_paid a =
      then_runs s t (spent at (value_length x)) (λ u. returns x) (tt {0}) t (ends (returned x))
      (subst (λ k. Runs s t (spent at k) (ends (returned (tt {0})))) is a) (runs_nothing t x)

module _ (at : Place) (value : Item → Program Value) (s : RunState) (known : Bool) (bytes : List ℕ) where
  -- the program for the values of all items of a text leads to the one for the items left, if none is expanded yet
  pub begins_all : (is : List Item) → known ≡ true → bytes ≡ [] → Leads s (item_values at value 0 is) s (values_left at value known bytes is)
  begins_all is h k =
      leads_same s (item_values at value 0 is) (values_left at value known bytes is)
      (all_left at value true [] is ∙ ap (λ b. values_left at value b [] is) (sym h) ∙ ap (λ b. values_left at value known b is) (sym k))

  -- if no item of a text is left to expand, the program for its value returns the joined values of its items
  pub ends_all : (first : RunState) (p : Program Value) (is : List Item) (v : Value) → is ≡ [] → v ≡ value_if_known known bytes
      → Leads first p s (values_left at value known bytes is) → Runs first s p (ends (returned v))
  ends_all first p is v h k a =
      a.leads s (ends (returned v)) (returns_so s (values_left at value known bytes is) v (ap (values_left at value known bytes) h
      ∙ none_left at value known bytes ∙ ap returns (sym k)))

-- a program that leads to the value of a text from an item on leads to what the value of that item leads to
pub item_after : (at : Place) (value : Item → Program Value) (first s t : RunState) (p q : Program Value) (known : Bool) (bytes : List ℕ) (is js : List Item)
    (r : Program Value) → is ≡ js → Leads first p s q → Leads s q s (values_left at value known bytes is) → Leads s (values_left at value known bytes js) t r
    → Leads first p t r
item_after at value first s t p q known bytes is js r h a b c =
    leads_then first s t p q r a (leads_then s s t q (values_left at value known bytes is) r b
    (leads_then s s t (values_left at value known bytes is) (values_left at value known bytes js) r
    (leads_same s (values_left at value known bytes is) (values_left at value known bytes js) (ap (values_left at value known bytes) h)) c))

module _ (at : Place) (value : Item → Program Value) (bytes_stay : (c : ℕ) → value (byte c) ≡ returns (Some (c ∷ []))) (s : RunState) (known : Bool)
    (bytes text plain : List ℕ) (later : List Item)
    (cut : items false 0 text ≡ map byte plain ++ later) (within : length bytes ≤ MAX_TEXT_BYTES) where
  abbrev at_first : Program Value
  at_first = values_left at value known bytes (items false 0 text)

  -- if the plain bytes before the next reference make the value of a text too long, its program stops with that fault
  pub plain_too_long : (stop : Stop) → FailsIf (MAX_TEXT_BYTES < length bytes + length plain) (too_long at) stop → Runs s s at_first (end_of_stop stop)
  plain_too_long stop h =
      fails_where s at_first (MAX_TEXT_BYTES < length bytes + length plain) (too_long at) stop
      (λ l. ap (values_left at value known bytes) cut ∙ text_left_out at value bytes_stay known plain bytes later within l) h

  module _ (short : length bytes + length plain ≤ MAX_TEXT_BYTES) (known2 : Bool) (bytes2 : List ℕ) (same_known : known2 ≡ known)
      (same_bytes : bytes2 ≡ bytes ++ plain) where
    after_plain : at_first ≡ values_left at value known2 bytes2 later
    after_plain =
        ap (values_left at value known bytes) cut ∙ text_left at value bytes_stay known plain bytes later short
        ∙ ap (λ b. values_left at value b (bytes ++ plain) later) (sym same_known) ∙ ap (λ b. values_left at value known2 b later) (sym same_bytes)

    -- the plain bytes before the next reference lead to the value of the items after them
    pub plain_leads : (is : List Item) → later ≡ is → Leads s at_first s (values_left at value known2 bytes2 is)
    plain_leads is h = leads_same s at_first (values_left at value known2 bytes2 is) (after_plain ∙ ap (values_left at value known2 bytes2) h)

    -- if a `$(` without its `)` follows the plain bytes of a text, the program for its value stops with that fault
    pub plain_unterminated : (i : Item) (more : List Item) (f : Fault) (stop : Stop) → later ≡ i ∷ more → value i ≡ fails f → FailsWith f stop
        → Runs s s at_first (end_of_stop stop)
    plain_unterminated i more f stop h k w =
        fails_so s at_first f stop
        (after_plain ∙ ap (values_left at value known2 bytes2) h ∙ one_left at value known2 bytes2 i more
        ∙ ap (λ p. p >>= (λ v. unless_too_long at (length bytes2 + value_length v)
        (values_left at value (known2 && is_some v) (bytes2 ++ known_bytes v) more))) k) w

module _ (at : Place) (value : Item → Program Value) (s : RunState) (known : Bool) (bytes : List ℕ) (i : Item) (more : List Item) where
  abbrev of_items : Program Value
  of_items = values_left at value known bytes (i ∷ more)

  abbrev rest_after : Value → Program Value
  rest_after v = unless_too_long at (length bytes + value_length v) (values_left at value (known && is_some v) (bytes ++ known_bytes v) more)

  to_item : of_items ≡ value i >>= rest_after
  to_item = one_left at value known bytes i more

  -- if the program for the value of an item stops, so does the program for the value of the text
  pub item_stopped : (t : RunState) (stop : Stop) → Runs s t (value i) (end_of_stop stop) → Runs s t of_items (end_of_stop stop)
  item_stopped t stop a = runs_same s t of_items (value i >>= rest_after) (end_of_stop stop) to_item (stops_early s t (value i) rest_after stop a)

  -- if the value of an item makes the value of a text too long, the program for that value stops with this fault
  item_too_long : (t : RunState) (v : Value) (stop : Stop) → Runs s t (value i) (ends (returned v))
      → FailsIf (MAX_TEXT_BYTES < length bytes + value_length v) (too_long at) stop → Runs s t of_items (end_of_stop stop)
  item_too_long t v stop a h =
      runs_same s t of_items (value i >>= rest_after) (end_of_stop stop) to_item
      (then_runs s t (value i) rest_after v t (end_of_stop stop) a
      (fails_where t (rest_after v) (MAX_TEXT_BYTES < length bytes + value_length v) (too_long at) stop
      (λ l. fits_not at (length bytes + value_length v) (values_left at value (known && is_some v) (bytes ++ known_bytes v) more) l) h))

  -- the value of an item that doesn't make the value of a text too long leads to the items after it
  item_leads : (t : RunState) (v : Value) (known2 : Bool) (bytes2 : List ℕ) → Runs s t (value i) (ends (returned v))
      → length bytes + value_length v ≤ MAX_TEXT_BYTES
      → known2 ≡ (known && is_some v) → bytes2 ≡ bytes ++ known_bytes v → Leads s of_items t (values_left at value known2 bytes2 more)
  item_leads t v known2 bytes2 a l k b =
      leads_then s s t of_items (value i >>= rest_after) (values_left at value known2 bytes2 more) (leads_same s of_items (value i >>= rest_after) to_item)
      (leads_then s t t (value i >>= rest_after) (rest_after v) (values_left at value known2 bytes2 more) (leads_on s t (value i) rest_after v a)
      (leads_same t (rest_after v) (values_left at value known2 bytes2 more)
      (fits at (length bytes + value_length v) (values_left at value (known && is_some v) (bytes ++ known_bytes v) more) l
      ∙ ap (λ c. values_left at value c (bytes ++ known_bytes v) more) (sym k) ∙ ap (λ c. values_left at value known2 c more) (sym b))))

  -- the value of an item, appended to the value of the text so far, is a step to the items after it
  pub item_step : (t : RunState) (v : Value) (known2 : Bool) (bytes2 : List ℕ) (r : Result (Unit {0}) Stop) → Runs s t (value i) (ends (returned v))
      → OnOk r (length bytes + value_length v ≤ MAX_TEXT_BYTES) → OnOk r (known2 ≡ (known && is_some v)) → OnOk r (bytes2 ≡ bytes ++ known_bytes v)
      → IfErr r (FailsIf (MAX_TEXT_BYTES < length bytes + value_length v) (too_long at))
      → Steps s t of_items (λ u. values_left at value known2 bytes2 more) r
  item_step t v known2 bytes2 (Ok x) a l k b e = item_leads t v known2 bytes2 a l k b
  item_step t v known2 bytes2 (Err stop) a l k b e = item_too_long t v stop a e

  -- the value of a text stays short where the value of an item is appended to it
  pub item_short : (v : Value) (bytes2 : List ℕ) (r : Result (Unit {0}) Stop) → OnOk r (length bytes + value_length v ≤ MAX_TEXT_BYTES)
      → OnOk r (bytes2 ≡ bytes ++ known_bytes v) → OnOk r (length bytes2 ≤ MAX_TEXT_BYTES)
  item_short v bytes2 (Ok x) l b = short_after bytes (known_bytes v) bytes2 (value_length v) b (known_length v) l
  item_short v bytes2 (Err stop) l b = tt
