-- Two programs, each run in a world, compared: the first does and returns what goes with the second's run.
use Rattle.kc_macros_model.proofs.Common.{◌≡◌, ℕ, Bool, true, false, List, [], Option, Some, None, refl, sym, ap, ◌∙◌, subst, nat_le, LineTooLong, MAX_TEXT_BYTES, Place, Fault, Event, Reply, spend, report, ask, read_file, find_file, list_folder, Program, returns, fails, stops, does, ◌>>=◌, Value}
use Rattle.kc_macros_model.proofs.Common.{joined_values, value_of_answer, fault, spends, asked_value, unless_too_long, World, has_file, reply, question_of, Ending, returned, failed, stopped, ending_in, HasSameFiles}
use Rattle.kc_macros_model.proofs.CleanTexts.{IsClean, clean_append}
use Rattle.kc_macros_model.proofs.Outcomes.{same_files}

-- a text has no newline, unless texts may have newlines
abbrev pub Fits : (newlines : Bool) → List ℕ → Type 0
Fits newlines s = newlines ≡ false → IsClean s

-- of two values the second is the same as the first, or the first is unknown, which may be only if `lacking` is true
pub data NoLess (lacking newlines : Bool) : Value → Value → Type 0 where
  unknown : {v : Value} → lacking ≡ true → NoLess lacking newlines None v
  same : {s : List ℕ} → Fits newlines s → NoLess lacking newlines (Some s) (Some s)

pub joined_no_less : {l n : Bool} {v u x y : Value} → NoLess l n v u → NoLess l n x y → NoLess l n (joined_values v x) (joined_values u y)
joined_no_less (unknown e) r = unknown e
joined_no_less (same {s = s} f) (unknown e) = unknown e
joined_no_less (same {s = s} f) (same {s = t} g) = same (λ e. clean_append s t (f e) (g e))

-- two worlds of the same files; whether the first may lack answers, and whether texts may have newlines; a fact of each event of the
-- second program's run, and a fact that then holds of the event of the first program
pub record Comparison : Type 1 where
  pub first : World
  pub second : World
  pub lacking : Bool
  pub newlines : Bool
  pub known : Event → Type 0
  pub shown : Event → Type 0
  pub files : HasSameFiles first second
  pub asks : (at : Place) (question : List ℕ) → known (ask at question)
      → shown (ask at question) × NoLess lacking newlines (value_of_answer (first.answer question)) (value_of_answer (second.answer question))
  pub others : (e : Event) → question_of e ≡ [] → shown e

-- the rest of a program after an event fails where it gets no bytes of a file, or no names of a folder
abbrev pub FailsUnread : {A : Type 0} → (event : Event) → (Reply event → Program A) → Type 0
FailsUnread (read_file path) k = (f : Fault) × (k None ≡ fails f)
FailsUnread (list_folder folder) k = (f : Fault) × (k None ≡ fails f)
FailsUnread e k = Unit {0}

-- along the run of a program a fact holds of each event, and another of the value that it returns, if any; it stops only if `lacking`
-- is true, and fails where it gets no bytes of a file or no names of a folder
abbrev pub AlongRun : {A : Type 0} → World → (lacking : Bool) → (Event → Type 0) → (A → Type 0) → Program A → Type 0
AlongRun w lacking E P (returns x) = P x
AlongRun w lacking E P (fails f) = Unit {0}
AlongRun w lacking E P stops = lacking ≡ true
AlongRun w lacking E P (does e k) = E e × FailsUnread e k × AlongRun w lacking E P (k (reply w e))

unread_then : {A B : Type 0} (e : Event) (k : Reply e → Program A) (f : A → Program B) → FailsUnread e k → FailsUnread e (λ r. k r >>= f)
unread_then (spend at work) k f h = tt
unread_then (report n) k f h = tt
unread_then (ask at question) k f h = tt
unread_then (read_file path) k f (g, e) = (g, ap (λ p. p >>= f) e)
unread_then (find_file path) k f h = tt
unread_then (list_folder folder) k f (g, e) = (g, ap (λ p. p >>= f) e)

along_then : {A B : Type 0} (w : World) (lacking : Bool) (E : Event → Type 0) (Q : A → Type 0) (P : B → Type 0) (p : Program A) (f : A → Program B)
    → AlongRun w lacking E Q p → ((x : A) → ending_in w p ≡ returned x → Q x → AlongRun w lacking E P (f x)) → AlongRun w lacking E P (p >>= f)
along_then w lacking E Q P (returns x) f h k = k x refl h
along_then w lacking E Q P (fails g) f h k = tt
along_then w lacking E Q P stops f h k = h
along_then w lacking E Q P (does e r) f h k = (h.0, unread_then e r f h.1, along_then w lacking E Q P (r (reply w e)) f h.2 k)

-- a program ends so in a world, and the fact holds of each event of its run
abbrev pub EndsAs : {A : Type 0} → World → (Event → Type 0) → Ending A → Program A → Type 0
EndsAs w F end (returns x) = returned x ≡ end
EndsAs w F end (fails f) = failed f ≡ end
EndsAs w F end stops = stopped ≡ end
EndsAs w F end (does e k) = F e × EndsAs w F end (k (reply w e))

-- whether an ending of the second program says something of the first: a value does, and a stop where no answers are lacking
abbrev pub Tells : {A : Type 0} → (lacking : Bool) → Ending A → Type 0
Tells lacking (returned x) = Unit {0}
Tells lacking (failed f) = ⊥
Tells lacking stopped = lacking ≡ false

-- a value is related to the one with which the second program ends
abbrev pub Returned : {A : Type 0} → (A → A → Type 0) → Ending A → A → Type 0
Returned R (returned y) x = R x y
Returned R (failed f) x = ⊥
Returned R stopped x = ⊥

-- where the second program's end says something, the fact holds along the first, which returns only a related value
pub record Related (c : Comparison) {A : Type 0} (R : A → A → Type 0) (p m : Program A) : Type 0 where
  pub along : (end : Ending A) → Tells c.lacking end → EndsAs c.second c.known end m → AlongRun c.first c.lacking c.shown (Returned R end) p

-- how the first of two programs in sequence ends
data FirstEnd {A B : Type 0} (w : World) (F : Event → Type 0) (lacking : Bool) (m : Program A) (g : A → Program B) (end : Ending B) : Type 0 where
  value : (y : A) → EndsAs w F (returned y) m → EndsAs w F end (g y) → FirstEnd w F lacking m g end
  stop : lacking ≡ false → EndsAs w F stopped m → FirstEnd w F lacking m g end

first_end : {A B : Type 0} (w : World) (F : Event → Type 0) (lacking : Bool) (m : Program A) (g : A → Program B) (end : Ending B)
    → Tells lacking end → EndsAs w F end (m >>= g) → FirstEnd w F lacking m g end
first_end w F lacking (returns x) g end t h = value x refl h
first_end w F lacking (fails f) g end t h = absurd (subst (Tells lacking) (sym h) t)
first_end w F lacking stops g end t h = stop (subst (Tells lacking) (sym h) t) refl
first_end w F lacking (does e k) g end t h = by_end (first_end w F lacking (k (reply w e)) g end t h.1)
  where
    by_end : FirstEnd w F lacking (k (reply w e)) g end → FirstEnd w F lacking (does e k) g end
    by_end (value y a b) = value y (h.0, a) b
    by_end (stop l a) = stop l (h.0, a)

-- two programs in sequence, of which the second may rest on how the first ends
pub match_then_of : {c : Comparison} {A B : Type 0} {R : A → A → Type 0} {S : B → B → Type 0} {p m : Program A} {f g : A → Program B}
    → Related c R p m → ((x y : A) → ending_in c.first p ≡ returned x → R x y → Related c S (f x) (g y)) → Related c S (p >>= f) (m >>= g)
match_then_of {c = c} {A = A} {B = B} {R = R} {S = S} {p = p} {m = m} {f = f} {g = g} h k =
    record { along = λ end t e. by_end end t (first_end c.second c.known c.lacking m g end t e) }
  where
    by_end : (end : Ending B) → Tells c.lacking end → FirstEnd c.second c.known c.lacking m g end
        → AlongRun c.first c.lacking c.shown (Returned S end) (p >>= f)
    by_end end t (value y a b) = along_then c.first c.lacking c.shown (Returned R (returned y)) (Returned S end) p f (h.along (returned y) tt a)
        (λ x e r. (k x y e r).along end t b)
    by_end end t (stop l a) = along_then c.first c.lacking c.shown (Returned R stopped) (Returned S end) p f (h.along stopped l a) (λ x e r. absurd r)

pub match_then : {c : Comparison} {A B : Type 0} {R : A → A → Type 0} {S : B → B → Type 0} {p m : Program A} {f g : A → Program B}
    → Related c R p m → ((x y : A) → R x y → Related c S (f x) (g y)) → Related c S (p >>= f) (m >>= g)
match_then h k = match_then_of h (λ x y e r. k x y r)

module _ {c : Comparison} {A : Type 0} {R : A → A → Type 0} where
  pub match_return : {x y : A} → R x y → Related c R (returns x) (returns y)
  match_return {x = x} r = record { along = λ end t e. subst (λ z. Returned R z x) e r }

  pub match_fault : {p : Program A} {f : Fault} → Related c R p (fails f)
  match_fault = record { along = λ end t e. absurd (subst (Tells c.lacking) (sym e) t) }

  pub match_failed : {f : Fault} {m : Program A} → Related c R (fails f) m
  match_failed = record { along = λ end t e. tt }

  pub match_stop : {m : Program A} → c.lacking ≡ true → Related c R stops m
  match_stop l = record { along = λ end t e. l }

  pub match_stopped : {p : Program A} → c.lacking ≡ true → Related c R p stops
  match_stopped l = record { along = λ end t e. let z : true ≡ false = sym l ∙ subst (Tells c.lacking) (sym e) t in let y : ⊥ = cc in absurd y }

  -- an unknown value against any program
  pub match_lacking : {x : A} {m : Program A} → c.lacking ≡ true → ((y : A) → R x y) → Related c R (returns x) m
  match_lacking {x = x} {m = m} l h = record { along = by_end }
    where
      by_end : (end : Ending A) → Tells c.lacking end → EndsAs c.second c.known end m → Returned R end x
      by_end (returned y) t e = h y
      by_end (failed f) t e = t
      by_end stopped t e = let z : true ≡ false = sym l ∙ t in let y : ⊥ = cc in y

  -- an event of the second program alone
  pub match_after : {p : Program A} {event : Event} {m : Reply event → Program A} → Related c R p (m (reply c.second event)) → Related c R p (does event m)
  match_after h = record { along = λ end t e. h.along end t e.1 }

  -- an event to which both worlds reply alike, and which asks nothing
  pub match_event : (event : Event) {p m : Reply event → Program A} → question_of event ≡ [] → reply c.second event ≡ reply c.first event → FailsUnread event p
      → Related c R (p (reply c.first event)) (m (reply c.first event)) → Related c R (does event p) (does event m)
  match_event event {m = m} none alike unread h = record {
    along = λ end t e. (
      c.others event none,
      unread,
      h.along end t (subst (λ r. EndsAs c.second c.known end (m r)) alike e.1),
    );
  }

  pub match_spend : {at : Place} {n l : ℕ} {p m : Program A} → Related c R p m → Related c R (spends at n p) (spends at l m)
  match_spend h = record { along = λ end t e. (c.others _ refl, tt, h.along end t e.1) }

  pub match_found : {path : List ℕ} {p m : Bool → Program A} → Related c R (p (has_file c.first path)) (m (has_file c.first path))
      → Related c R (does (find_file path) p) (does (find_file path) m)
  match_found {path = path} h = match_event (find_file path) refl (same_files c.files path) tt h

  pub match_file : {path : List ℕ} {p m : Option (List ℕ) → Program A} → FailsUnread (read_file path) p
      → Related c R (p (c.first.bytes path)) (m (c.first.bytes path)) → Related c R (does (read_file path) p) (does (read_file path) m)
  match_file {path = path} unread h = match_event (read_file path) refl (c.files.bytes path) unread h

  pub match_folder : {folder : List ℕ} {p m : Option (List (List ℕ)) → Program A} → FailsUnread (list_folder folder) p
      → Related c R (p (c.first.names folder)) (m (c.first.names folder)) → Related c R (does (list_folder folder) p) (does (list_folder folder) m)
  match_folder {folder = folder} unread h = match_event (list_folder folder) refl (c.files.names folder) unread h

  -- one test of both programs
  pub match_test : {p q m n : Program A} (x : Bool) → Related c R p m → Related c R q n
      → Related c R (elim x as (λ z. Program A) [ true ↦ p | false ↦ q ]) (elim x as (λ z. Program A) [ true ↦ m | false ↦ n ])
  match_test true h k = h
  match_test false h k = k

  -- a fault of either program, each by its own test
  pub match_unless : {p m : Program A} (f g : Fault) (x y : Bool) → Related c R p m
      → Related c R (elim x as (λ z. Program A) [ true ↦ fails f | false ↦ p ]) (elim y as (λ z. Program A) [ true ↦ fails g | false ↦ m ])
  match_unless f g true y h = match_failed
  match_unless f g false true h = match_fault
  match_unless f g false false h = h

  pub match_unless_long : (at : Place) (n l : ℕ) {p m : Program A} → Related c R p m → Related c R (unless_too_long at n p) (unless_too_long at l m)
  match_unless_long at n l {p = p} {m = m} h = by_tests (nat_le n MAX_TEXT_BYTES) (nat_le l MAX_TEXT_BYTES)
    where
      short : Program A → Bool → Program A
      short q b = elim b [ true ↦ q | false ↦ fault at LineTooLong [] ]

      by_tests : (x y : Bool) → Related c R (short p x) (short m y)
      by_tests false y = match_failed
      by_tests true false = match_fault
      by_tests true true = h

pub match_ask : {c : Comparison} {at : Place} {question : List ℕ}
    → Related c (λ v u. NoLess c.lacking c.newlines v u) (asked_value at question) (asked_value at question)
match_ask {c = c} {at = at} {question = question} = record {
  along = λ end t e. let (s, r) = c.asks at question e.0 in (
    s,
    tt,
    subst (λ z. Returned (λ v u. NoLess c.lacking c.newlines v u) z
        (value_of_answer (c.first.answer question))) e.1 r,
  );
}

-- what facts along a run say of the end
abbrev EndFact : {A : Type 0} → (lacking : Bool) → (A → Type 0) → Ending A → Type 0
EndFact lacking P (returned x) = P x
EndFact lacking P (failed f) = Unit {0}
EndFact lacking P stopped = lacking ≡ true

fact_of_end : {A : Type 0} (w : World) (lacking : Bool) (E : Event → Type 0) (P : A → Type 0) (p : Program A) → AlongRun w lacking E P p
    → EndFact lacking P (ending_in w p)
fact_of_end w lacking E P (returns x) h = h
fact_of_end w lacking E P (fails f) h = tt
fact_of_end w lacking E P stops h = h
fact_of_end w lacking E P (does e k) h = fact_of_end w lacking E P (k (reply w e)) h.2

-- the value with which the first program ends is related to that of the second
pub related_values : {c : Comparison} {A : Type 0} {R : A → A → Type 0} {p m : Program A} {x y : A} → Related c R p m
    → EndsAs c.second c.known (returned y) m → ending_in c.first p ≡ returned x → R x y
related_values {c = c} {R = R} {p = p} {x = x} {y = y} h e f =
    subst (EndFact c.lacking (λ z. R z y)) f (fact_of_end c.first c.lacking c.shown (λ z. R z y) p (h.along (returned y) tt e))

-- where no answers are lacking, the first program doesn't stop if the second does
pub never_both : {c : Comparison} {A : Type 0} {R : A → A → Type 0} {p m : Program A} → c.lacking ≡ false → Related c R p m
    → EndsAs c.second c.known stopped m → ending_in c.first p ≡ stopped → ⊥
never_both {c = c} {A = A} {R = R} {p = p} l h e f =
    let s : c.lacking ≡ true = subst (EndFact c.lacking (λ (z : A). ⊥)) f (fact_of_end c.first c.lacking c.shown (λ z. ⊥) p (h.along stopped l e)) in
    let z : true ≡ false = sym s ∙ l in
    cc

-- a program ends so in a world if the fact holds of each event
pub ends_as : {A : Type 0} (w : World) (F : Event → Type 0) → ((e : Event) → F e) → (end : Ending A) (p : Program A) → ending_in w p ≡ end → EndsAs w F end p
ends_as w F all end (returns x) h = h
ends_as w F all end (fails f) h = h
ends_as w F all end stops h = h
ends_as w F all end (does e k) h = (all e, ends_as w F all end (k (reply w e)) h)

pub ending_of : {A : Type 0} (w : World) (F : Event → Type 0) (end : Ending A) (p : Program A) → EndsAs w F end p → ending_in w p ≡ end
ending_of w F end (returns x) h = h
ending_of w F end (fails f) h = h
ending_of w F end stops h = h
ending_of w F end (does e k) h = ending_of w F end (k (reply w e)) h.1
