use Rattle.kc_answers.proofs.Common.{◌≡◌, ◌++◌, Vec, Global, keys_of}
use Rattle.std.specs.Prelude.{ℕ, map}
use Rattle.kc_answers.proofs.answers.Answers.questions.Given as goal

abbrev pub invariant-loop-question : goal.invariant-loop-question
invariant-loop-question l =
    map (λ (q : Vec ℕ Global). q.items) l.questions.items ++ map (λ (q : Vec ℕ Global). q.items) l.question-iterator
    ≡ map (λ (q : Vec ℕ Global). q.items) (keys_of l.self-inside.entries.entries)
