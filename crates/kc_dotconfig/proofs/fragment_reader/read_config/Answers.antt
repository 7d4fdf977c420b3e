use Rattle.kc_dotconfig.proofs.Common.{[], inr, ◌≡◌, ◌<◌, ◌≤◌, length, take, refl, ◌∙◌, sym, arith, common_steps, tree_of_settled, MAX_CONFIG_BLOCK_BYTES, MAX_CONFIG_LINES, file_format}
use Rattle.kc_dotconfig.proofs.WholeReads.{read_alone, block_unread, end_unread, has_read_none, has_read_more, read_cut_short, rises, one_read, on_any_ok, if_any_err, reports_cut_short, reports_refused, refused_in, block_fault, whole_read, whole_fits, end_fault}
use Rattle.kc_dotconfig.proofs.fragment_reader.read_config.Goals as goal

pub loop-size-init : goal.loop-size-init
loop-size-init g c =
    let accumulator = c.empty_accumulator-accumulator.ensures (tree_of_settled c.args.settled.now) in
    let none = accumulator.counted in
    let few : c.empty_accumulator-accumulator.result.lines ≤ MAX_CONFIG_LINES = omega arith in
    record {
      small = omega arith;
      few = few;
      read = has_read_none (file_format c.args.format.now) (tree_of_settled c.args.settled.now) (g.R.Source.left c.args.source.now) c.new-buffer.result
          c.empty_accumulator-accumulator.result (λ known. g.K.KeptBytes.has c.args.kept.now [] → g.K.KeptBytes.has c.args.kept.now known)
          c.new-buffer.ensures accumulator (λ empty. empty);
      unfailed = refl;
    }

pub returns-in_default-clause-fault : goal.returns-in_default-clause-fault
returns-in_default-clause-fault g c =
    reports_cut_short (file_format c.args.format.now) (tree_of_settled c.args.settled.now) _ _ _ _
    c.fault_on_next_line.result.kind c.fault_on_next_line.result.line
    c.fault_on_next_line.ensures.kind
    (read_cut_short (file_format c.args.format.now) (tree_of_settled c.args.settled.now) (g.R.Source.left c.args.source.now)
    (g.R.Source.left c.loop-size.source)
    (g.R.Source.left c.read_some.new.self) c.loop-size.buffer c.loop-size.accumulator c.loop-size.size c.fault_on_next_line.result.line
    c.loop-size.invariant.read c.in_default.ensures.bytes c.fault_on_next_line.ensures.line)
    (rises (g.R.Source.failures c.args.source.now) (g.R.Source.failures c.loop-size.source) (g.R.Source.failures c.read_some.new.self)
    c.loop-size.invariant.unfailed c.in_default.ensures.failures)

pub returns-then-count-eq0-clause-kept : goal.returns-then-count-eq0-clause-kept
returns-then-count-eq0-clause-kept g c =
    let some : 0 < length c.read_some.new.buf = omega arith in
    whole_read c.finish.result (file_format c.args.format.now) (tree_of_settled c.args.settled.now) (g.R.Source.left c.args.source.now)
    (g.R.Source.left c.loop-size.source) (g.R.Source.left c.read_some.new.self) c.loop-size.buffer c.loop-size.accumulator c.loop-size.size c.in-Ok.count
    c.read_some.new.buf c.loop-size.invariant.read c.if-count-eq0.true some c.in-Ok.ensures.bytes c.finish.ensures.ok

pub returns-then-count-eq0-clause-ok : goal.returns-then-count-eq0-clause-ok
returns-then-count-eq0-clause-ok g c =
    read_alone c.finish.result (file_format c.args.format.now) (tree_of_settled c.args.settled.now) _ _ _ (returns-then-count-eq0-clause-kept g c)

pub returns-then-count-eq0-clause-fault : goal.returns-then-count-eq0-clause-fault
returns-then-count-eq0-clause-fault g c =
    let some : 0 < length c.read_some.new.buf = omega arith in
    end_fault c.finish.result (file_format c.args.format.now) (tree_of_settled c.args.settled.now) (g.R.Source.left c.args.source.now)
    (g.R.Source.left c.loop-size.source) (g.R.Source.left c.read_some.new.self) c.loop-size.buffer c.loop-size.accumulator c.loop-size.size c.in-Ok.count
    c.read_some.new.buf _ _ c.loop-size.invariant.read c.if-count-eq0.true some c.in-Ok.ensures.bytes c.finish.ensures.err

pub returns-in-Err-clause-fault : goal.returns-in-Err-clause-fault
returns-in-Err-clause-fault g c =
    let n : length (take c.in-Ok.count c.read_some.new.buf) ≡ c.in-Ok.count = sym c.in-Ok.ensures.bound.1 in
    let most = c.in-Ok.ensures.bound.0 in
    let short : length (take c.in-Ok.count c.read_some.new.buf) ≤ MAX_CONFIG_BLOCK_BYTES = omega arith in
    reports_refused (file_format c.args.format.now) (tree_of_settled c.args.settled.now) (g.R.Source.left c.args.source.now)
    (g.R.Source.left c.read_some.new.self) _ _ c.fault_on_next_line-in-Err.result.kind c.fault_on_next_line-in-Err.result.line
    (refused_in (file_format c.args.format.now) (tree_of_settled c.args.settled.now) (g.R.Source.left c.args.source.now) (g.R.Source.left c.loop-size.source)
    (g.R.Source.left c.read_some.new.self) c.loop-size.buffer c.loop-size.accumulator c.loop-size.size (take c.in-Ok.count c.read_some.new.buf)
    c.fault_on_next_line-in-Err.result.kind c.fault_on_next_line-in-Err.result.line c.loop-size.invariant.read c.in-Ok.ensures.bytes.0 short
    (block_fault (file_format c.args.format.now) (tree_of_settled c.args.settled.now) c.loop-size.buffer c.loop-size.accumulator
    (take c.in-Ok.count c.read_some.new.buf) c.loop-size.size c.in-Err.kind c.fault_on_next_line-in-Err.result.kind c.take_block.new.accumulator.lines
    c.fault_on_next_line-in-Err.result.line c.fault_on_next_line-in-Err.ensures.kind c.fault_on_next_line-in-Err.ensures.line c.in-Err.ensures.err))

pub loop-size-preserved : goal.loop-size-preserved
loop-size-preserved g c =
    let n : length (take c.in-Ok.count c.read_some.new.buf) ≡ c.in-Ok.count = sym c.in-Ok.ensures.bound.1 in
    let room = c.in_default-take_block.ensures.room in
    record {
      small = omega arith;
      few = c.in_default-take_block.ensures.few;
      read = has_read_more (file_format c.args.format.now) (tree_of_settled c.args.settled.now) (g.R.Source.left c.args.source.now)
          (g.R.Source.left c.loop-size.source) (g.R.Source.left c.read_some.new.self) c.loop-size.buffer c.loop-size.accumulator c.loop-size.size
          (take c.in-Ok.count c.read_some.new.buf) c.take_block.new.buffer c.take_block.new.accumulator c.in-Ok.count
          (λ known. g.K.KeptBytes.has c.args.kept.now [] → g.K.KeptBytes.has c.loop-size.kept known)
          (λ known. g.K.KeptBytes.has c.args.kept.now [] → g.K.KeptBytes.has c.keep.new.self known) c.loop-size.invariant.read
          c.in-Ok.ensures.bytes.0 n c.in_default-take_block.ensures.ok room (λ known kept empty. c.in_default-keep.ensures known (kept empty));
      unfailed = c.in-Ok.ensures.failures ∙ c.loop-size.invariant.unfailed;
    }

pub returns-then-count-eq0-clause-counted : goal.returns-then-count-eq0-clause-counted
returns-then-count-eq0-clause-counted g c =
    let some : 0 < length c.read_some.new.buf = omega arith in
    end_unread c.finish.result (file_format c.args.format.now) (tree_of_settled c.args.settled.now) (g.R.Source.left c.args.source.now)
    (g.R.Source.left c.loop-size.source) (g.R.Source.left c.read_some.new.self) c.loop-size.buffer c.loop-size.accumulator c.loop-size.size c.in-Ok.count
    c.read_some.new.buf _ c.loop-size.invariant.read c.if-count-eq0.true some c.in-Ok.ensures.bytes c.finish.ensures.err

pub returns-in-Err-clause-counted : goal.returns-in-Err-clause-counted
returns-in-Err-clause-counted g c =
    block_unread (file_format c.args.format.now) (tree_of_settled c.args.settled.now) (g.R.Source.left c.args.source.now) (g.R.Source.left c.loop-size.source)
    c.loop-size.buffer c.loop-size.accumulator c.loop-size.size (take c.in-Ok.count c.read_some.new.buf) c.in-Err.kind
    c.fault_on_next_line-in-Err.result.kind c.take_block.new.accumulator.lines _ c.loop-size.invariant.read c.fault_on_next_line-in-Err.ensures.kind
    c.in-Err.ensures.err

pub returns-then-count-eq0-clause-fits : goal.returns-then-count-eq0-clause-fits
returns-then-count-eq0-clause-fits g c =
    whole_fits c.finish.result (file_format c.args.format.now) (tree_of_settled c.args.settled.now) (g.R.Source.left c.args.source.now)
    (g.R.Source.left c.loop-size.source) c.loop-size.buffer c.loop-size.accumulator c.loop-size.size c.args.format.now.prefix.valid
    c.tree.ensures.settled.consistent
    c.loop-size.invariant.read c.finish.ensures.ok

pub returns-then-count-eq0-clause-unfailed : goal.returns-then-count-eq0-clause-unfailed
returns-then-count-eq0-clause-unfailed g c = on_any_ok c.finish.result (c.in-Ok.ensures.failures ∙ c.loop-size.invariant.unfailed)

pub returns-then-count-eq0-clause-failed : goal.returns-then-count-eq0-clause-failed
returns-then-count-eq0-clause-failed g c = if_any_err c.finish.result _ (λ e. inr (c.in-Ok.ensures.failures ∙ c.loop-size.invariant.unfailed))

pub returns-in_default-clause-once : goal.returns-in_default-clause-once
returns-in_default-clause-once g c =
    one_read (g.R.Source.failures c.args.source.now) (g.R.Source.failures c.loop-size.source) (g.R.Source.failures c.read_some.new.self)
    c.loop-size.invariant.unfailed c.in_default.ensures.failures

pub returns-in-Err-clause-ok : goal.returns-in-Err-clause-ok
returns-in-Err-clause-ok g c = grind (arith, common_steps)

pub slice_bounds-take_block-end : goal.slice_bounds-take_block-end
slice_bounds-take_block-end g c = grind (arith, common_steps)

pub returns-clause-failed : goal.returns-clause-failed
returns-clause-failed g c = grind (arith, common_steps)

pub returns-in_default-clause-unfailed : goal.returns-in_default-clause-unfailed
returns-in_default-clause-unfailed g c = grind (arith, common_steps)

pub returns-in-Err-clause-failed : goal.returns-in-Err-clause-failed
returns-in-Err-clause-failed g c = grind (arith, common_steps)

pub returns-in_default-clause-fits : goal.returns-in_default-clause-fits
returns-in_default-clause-fits g c = grind (arith, common_steps)

pub returns-then-count-eq0-clause-once : goal.returns-then-count-eq0-clause-once
returns-then-count-eq0-clause-once g c = grind (arith, common_steps)

pub returns-in-Err-clause-once : goal.returns-in-Err-clause-once
returns-in-Err-clause-once g c = grind (arith, common_steps)

pub finish-requires-clause-room : goal.finish-requires-clause-room
finish-requires-clause-room g c = grind (arith, common_steps)

pub returns-in-Err-clause-fits : goal.returns-in-Err-clause-fits
returns-in-Err-clause-fits g c = grind (arith, common_steps)

pub returns-clause-fault : goal.returns-clause-fault
returns-clause-fault g c = grind (arith, common_steps)

pub returns-clause-once : goal.returns-clause-once
returns-clause-once g c = grind (arith, common_steps)

pub returns-in_default-clause-ok : goal.returns-in_default-clause-ok
returns-in_default-clause-ok g c = grind (arith, common_steps)

pub returns-in-Err-clause-unfailed : goal.returns-in-Err-clause-unfailed
returns-in-Err-clause-unfailed g c = grind (arith, common_steps)

pub returns-in_default-clause-failed : goal.returns-in_default-clause-failed
returns-in_default-clause-failed g c = grind (arith, common_steps)

pub returns-clause-unfailed : goal.returns-clause-unfailed
returns-clause-unfailed g c = grind (arith, common_steps)

pub returns-clause-ok : goal.returns-clause-ok
returns-clause-ok g c = grind (arith, common_steps)

pub returns-clause-fits : goal.returns-clause-fits
returns-clause-fits g c = grind (arith, common_steps)
