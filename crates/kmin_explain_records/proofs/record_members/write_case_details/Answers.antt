use Rattle.kmin_explain_records.proofs.Common.{ℕ, List, Option, ap, codes, string, wrote, and_last, or_null, as_tokens, as_end}
use Rattle.kmin_records.specs.between.RecordTokens.{member_tokens}
use Rattle.kmin_explain_records.proofs.record_members.write_case_details.Goals as goal

pub returns : goal.returns
returns c =
    and_last _ _ _ _ _ _
    (as_tokens _ _ _ _ (ap (λ (word : Option (List ℕ)). member_tokens (codes "lift", or_null string word)) c.lift_of_case.ensures) c.in_ok-write_optional.ensures)
    (and_last _ _ _ _ _ _ (wrote _ _ _ _ c.in_ok-key.ensures)
    (and_last _ _ _ _ _ _ c.in_ok-write_chosen.ensures
    (and_last _ _ _ _ _ _ (wrote _ _ _ _ c.in_ok-key-2.ensures) (as_end c.write_given_at.result _ _ _ c.write_given_at.ensures))))
