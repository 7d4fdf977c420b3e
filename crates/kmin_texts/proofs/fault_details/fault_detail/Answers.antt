use Rattle.kmin_texts.proofs.fault_details.fault_detail.Goals as goal

pub returns-in_ok-reread-in-FileFault : goal.returns-in_ok-reread-in-FileFault
returns-in_ok-reread-in-FileFault g c = rw c.in-FileFault.is
    (c.file_detail.ensures.given (g.L.LineFiles.known.named c.in-FileFault.path.now) c.in-FileFault.line c.in_ok-reread-in-FileFault.ensures)

pub returns-in_ok-reread-in-AnswersFault : goal.returns-in_ok-reread-in-AnswersFault
returns-in_ok-reread-in-AnswersFault g c = rw c.in-AnswersFault.is
    (c.answers_detail.ensures.given (g.L.LineFiles.known.named c.in-AnswersFault.path.now) c.in-AnswersFault.line c.in_ok-reread-in-AnswersFault.ensures)
