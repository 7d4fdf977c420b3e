use Rattle.kmin_run.proofs.asked_forms.set_form_for.Goals as goal

pub returns-in-Job-clause-set : goal.returns-in-Job-clause-set
returns-in-Job-clause-set g c = rw c.in-Job.is c.set_form_of.ensures.set

pub returns-in-Save-clause-set : goal.returns-in-Save-clause-set
returns-in-Save-clause-set g c = rw c.in-Save.is c.set_form_of-in-Save.ensures.set

pub returns-in-Questions-clause-set : goal.returns-in-Questions-clause-set
returns-in-Questions-clause-set g c = rw c.in-Questions.is c.set_form_of_questions.ensures.set

pub returns-in-Explain-clause-set : goal.returns-in-Explain-clause-set
returns-in-Explain-clause-set g c = rw c.in-Explain.is c.set_form_of-in-Explain.ensures.set

pub returns-in-Tidy-clause-set : goal.returns-in-Tidy-clause-set
returns-in-Tidy-clause-set g c = rw c.in-Tidy.is c.set_form_of-in-Tidy.ensures.set
