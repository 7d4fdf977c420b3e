use Rattle.kc_macro_forms.proofs.form_words.is_source_word.Goals as goal

pub returns : goal.returns
returns c = c.is_among.ensures
