use Rattle.kmin_run.proofs.Common.{ℕ, List, map, ap, ◌∙◌, rules, Bor, texts_of}
use Rattle.kmin_run.proofs.Keeping.{keeps_forgotten, keeps_refused}
use Rattle.kmin_run.proofs.RunEnds.{words_ended, words_forgotten, words_keep, words_malformed}
use Rattle.kmin_run.proofs.program.Program.run_given.Goals as goal

pub returns-in-Ok : goal.returns-in-Ok
returns-in-Ok g c =
    let files = texts_of c.args.read.now.files in
    let given = map (λ (word : Bor (List ℕ)). word.now) c.deref-in-Ok.result.now in
    let utf8 = rw c.deref.ensures.value at c.in-Ok.ensures.utf8 in
    let are = ap (map (λ (word : Bor (List ℕ)). word.now)) c.deref-in-Ok.ensures.value ∙ (rw c.deref.ensures.value at c.in-Ok.ensures.words) in
    let ends = c.run_read.ensures.ends in record {
      ends = λ before read. (ends.0, ends.1, words_ended before _ _ _ files given _ read utf8 are _ _ _ ends.2, ends.3);
      keeps = λ before read. words_keep before _ _ _ files given _ read utf8 are _ c.run_read.ensures.keeps;
    }

pub returns-in-Err-NotUtf8 : goal.returns-in-Err-NotUtf8
returns-in-Err-NotUtf8 g c = record {
  ends = λ before read.
      words_malformed before _ _ _ _ _ _ _ _ read.outputs (texts_of c.args.read.now.files) read.read
      (rw c.deref.ensures.value at (c.in-Err-NotUtf8.ensures.not_utf8 (search rules))) c.refuse_list.ensures.status c.refuse_list.ensures.reported;
  keeps = λ before read. keeps_refused before _ _ read.outputs c.refuse_list.ensures.status;
}

pub returns-in-Err-OutOfMemory : goal.returns-in-Err-OutOfMemory
returns-in-Err-OutOfMemory g c = record {
  ends = λ before read. words_forgotten before _ _ _ _ _ _ _ _ read.outputs c.exit_status.ensures.status c.exit_status.ensures.reported;
  keeps = λ before read. keeps_forgotten before _ _ read.outputs c.exit_status.ensures.status;
}
