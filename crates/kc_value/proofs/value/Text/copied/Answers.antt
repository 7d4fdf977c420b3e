use Rattle.kc_value.proofs.value.Text.copied.Goals as goal

pub returns : goal.returns
returns c = c.in_ok-from_str.ensures.ok
