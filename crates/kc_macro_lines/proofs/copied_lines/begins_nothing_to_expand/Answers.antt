use Rattle.kc_macro_lines.proofs.Common.{◌≡◌, ◌∙◌, true, false, sym, assigned_of}
use Rattle.kc_macro_lines.proofs.CopiedLineLemmas.{none_found, not_so}
use Rattle.kc_macro_lines.proofs.NothingToExpandLemmas.{prompts_not}
use Rattle.kc_macro_lines.proofs.copied_lines.begins_nothing_to_expand.Goals as goal

pub returns-then-not-may_begin_prompt : goal.returns-then-not-may_begin_prompt
returns-then-not-may_begin_prompt c =
    λ e. record {
      unassigned = none_found assigned_of c.assignment_to.result _ c.is_some.result c.assignment_to.ensures.value c.is_some.ensures c.if-is_some.false;
      acting = sym c.is_acting_word.ensures ∙ c.if-is_acting_word.false;
      prompt = λ p. absurd (let z : true ≡ false = sym p ∙ prompts_not c.args.word.now (sym c.may_begin_prompt.ensures ∙ c.if-not-may_begin_prompt.true) in
          let y : ⊥ = cc in y);
    }

pub returns-then-begins_word : goal.returns-then-begins_word
returns-then-begins_word c =
    λ e. record {
      unassigned = none_found assigned_of c.assignment_to.result _ c.is_some.result c.assignment_to.ensures.value c.is_some.ensures c.if-is_some.false;
      acting = sym c.is_acting_word.ensures ∙ c.if-is_acting_word.false;
      prompt = λ p. absurd (let z : true ≡ false = sym p ∙ sym c.is_prompt_word.ensures ∙ not_so c.is_prompt_word.result e in let y : ⊥ = cc in y);
    }

pub returns : goal.returns
returns c =
    λ e. record {
      unassigned = none_found assigned_of c.assignment_to.result _ c.is_some.result c.assignment_to.ensures.value c.is_some.ensures c.if-is_some.false;
      acting = sym c.is_acting_word.ensures ∙ c.if-is_acting_word.false;
      prompt = λ p. c.begins_word.ensures c.if-begins_word.false;
    }
