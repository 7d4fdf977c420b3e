use Rattle.std.proofs.Common.{◌∙◌}
use Rattle.kmin_messages.proofs.WriterSteps.{wrote, and_then, object_tokens, line_of}
use Rattle.kmin_messages.proofs.object_line.json_line.Goals as goal

pub returns : goal.returns
returns c =
    let all = and_then _ _ _ _ _ (wrote _ _ _ _ c.in_ok-begin_object.ensures)
    (and_then _ _ _ _ _ c.in_ok-write_head.ensures (and_then _ _ _ _ _ c.in_ok-write_rest.ensures (wrote _ _ _ _ c.in_ok-end_object.ensures))) in
    line_of c.new-writer.result c.end_object.new.self c.into_inner-line.result.items c.push.new.self.items _ _
    (c.new-writer.ensures.before ∙ c.new.ensures.items) c.new-writer.ensures.tokens all (object_tokens c.args.message.now)
    c.into_inner-line.ensures.items c.in_ok-push.ensures.items
