use Rattle.kmin_run.proofs.Common.{ℕ, List, map, ap, ◌∙◌, Bor, AreReadAs}
use Rattle.kmin_run.proofs.Keeping.{keeps_by}
use Rattle.kmin_run.proofs.RunEnds.{read_ended, read_first}
use Rattle.kmin_run.proofs.program.Program.run_read.Goals as goal

pub returns-in-Ok-read_words_beside : goal.returns-in-Ok-read_words_beside
returns-in-Ok-read_words_beside g c =
    let ends = c.run_formed.ensures.ends in
    let words = map (λ (word : Bor (List ℕ)). word.now) c.args.words.now in
    let what = c.in-Ok-read_words_beside.parsed in
    let read : AreReadAs c.args.is_input_read words what =
    read_first c.args.is_input_read words (map (λ (word : Bor (List ℕ)). word.now) c.deref.result.now) what
    (ap (map (λ (word : Bor (List ℕ)). word.now)) c.deref.ensures.value ∙ c.in-Ok.ensures) c.in-Ok-read_words_beside.ensures in record {
      ends = (ends.0, ends.1, read_ended _ _ _ _ what _ _ _ read ends.2, ends.3);
      keeps = keeps_by _ _ _ (λ is. (what, read, is)) (λ may. (what, read, may)) c.run_formed.ensures.keeps;
    }
