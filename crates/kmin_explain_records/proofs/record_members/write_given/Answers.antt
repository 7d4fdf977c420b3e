use Rattle.kmin_explain_records.proofs.Common.{ℕ, List, [], ◌∷◌, ap, codes, and_last, as_tokens}
use Rattle.json.specs.Token.{key, string}
use Rattle.kmin_explain_records.proofs.record_members.write_given.Goals as goal

pub returns : goal.returns
returns c =
    and_last _ _ _ _ _ _ c.in_ok-write_symbol.ensures
    (and_last _ _ _ _ _ _ c.in_ok-write_defined_at.ensures
    (and_last _ _ _ _ _ _ (as_tokens _ _ _ _ (ap (λ (word : List ℕ). key (codes "case") ∷ string word ∷ []) c.case_word.ensures) c.in_ok-write_text.ensures)
    c.write_case_details.ensures))
