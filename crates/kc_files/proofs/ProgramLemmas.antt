-- Outcomes of programs that only read files and list folders.
use Rattle.kc_files.proofs.Common.{◌≡◌, ℕ, List, Option, refl, ap, ◌∙◌, Fault, list_folder, Program, returns, fails, does, ◌>>=◌, World, returned, failed, Outcome, outcome, TreeContents, KnownFiles, Agrees, Grows, Comes, HaveSameOutcome}
use Rattle.std.proofs.Math.Path.{fun_ext}
use Rattle.kc_macros_model.specs.Programs.{stops}
use Rattle.kc_macros_model.specs.Worlds.{Ending}
use Rattle.kc_macros_model.proofs.Outcomes.{continued_by, composed}

-- programs one after another group either way
pub grouped : {A B C : Type 0} (p : Program A) (f : A → Program B) (g : B → Program C) → ((p >>= f) >>= g) ≡ (p >>= λ x. f x >>= g)
grouped (returns x) f g = refl
grouped (fails q) f g = refl
grouped stops f g = refl
grouped (does e k) f g = ap (does e) (fun_ext (λ r. grouped (k r) f g))

-- programs that go on after the same program in equal ways are equal
pub same_rest : {A B : Type 0} (p : Program A) (f g : A → Program B) → ((x : A) → f x ≡ g x) → (p >>= f) ≡ (p >>= g)
same_rest p f g h = ap (λ k. p >>= k) (fun_ext h)

pub nothing_after : {A : Type 0} (p : Program A) → (p >>= returns) ≡ p
nothing_after (returns x) = refl
nothing_after (fails q) = refl
nothing_after stops = refl
nothing_after (does e k) = ap (does e) (fun_ext (λ r. nothing_after (k r)))

module _ {A B : Type 0} (known : KnownFiles) (p : Program A) (f : A → Program B) where
  -- a program that comes to a value, followed by another program, has the outcome of that other program for the value
  pub same_then : (x : A) → Comes known p (returned x) → HaveSameOutcome known (p >>= f) (f x)
  same_then x c = record {
    in_world = λ w h all left. composed all w f left p ∙ ap (λ (o : Outcome A). continued_by o o.ending (λ more y. outcome all w more (f y)))
        (c.in_world w h all left);
  }

  -- a program that fails, followed by another program, fails by the same fault
  pub fails_then : (g : Fault) → Comes known p (failed g) → Comes known (p >>= f) (failed g)
  fails_then g c = record {
    in_world = λ w h all left. composed all w f left p ∙ ap (λ (o : Outcome A). continued_by o o.ending (λ more y. outcome all w more (f y)))
        (c.in_world w h all left);
  }

pub comes_at_once : {A : Type 0} (known : KnownFiles) (x : A) → Comes known (returns x) (returned x)
comes_at_once known x = record { in_world = λ w h all left. refl }

pub fails_at_once : {A : Type 0} (known : KnownFiles) (g : Fault) → Comes {A = A} known (fails g) (failed g)
fails_at_once known g = record { in_world = λ w h all left. refl }

pub same_by : {A : Type 0} (known : KnownFiles) (p q : Program A) → p ≡ q → HaveSameOutcome known p q
same_by known p q e = record { in_world = λ w h all left. ap (outcome all w left) e }

pub same_twice : {A : Type 0} (known : KnownFiles) (p q r : Program A) → HaveSameOutcome known p q → HaveSameOutcome known q r → HaveSameOutcome known p r
same_twice known p q r a b = record { in_world = λ w h all left. a.in_world w h all left ∙ b.in_world w h all left }

pub comes_as : {A : Type 0} (known : KnownFiles) (p q : Program A) (e : Ending A) → HaveSameOutcome known p q → Comes known q e → Comes known p e
comes_as known p q e a b = record { in_world = λ w h all left. a.in_world w h all left ∙ b.in_world w h all left }

module _ {A : Type 0} (k l : TreeContents) (old new : KnownFiles) (g : Grows k l old new) where
  pub comes_later : (p : Program A) (e : Ending A) → Comes old p e → Comes new p e
  comes_later p e c = record { in_world = λ w h. c.in_world w (g.worlds w h) }

  pub same_later : (p q : Program A) → HaveSameOutcome old p q → HaveSameOutcome new p q
  same_later p q c = record { in_world = λ w h. c.in_world w (g.worlds w h) }

-- a program that lists a folder with known names has the outcome of going on with those names
pub same_listed : {A : Type 0} (known : KnownFiles) (folder : List ℕ) (k : Option (List (List ℕ)) → Program A) (names : Option (List (List ℕ)))
    → ((w : World) → Agrees w known → w.names folder ≡ names)
    → HaveSameOutcome known (does (list_folder folder) k) (k names)
same_listed {A = A} known folder k names h = record {
  in_world = λ w a all left. ap (λ (ns : Option (List (List ℕ))). let o = outcome all w left (k ns) in let r : Outcome A =
      record { notices = o.notices; questions = o.questions; left = o.left; ending = o.ending } in r) (h w a);
}
