use Rattle.kc_parser.proofs.Common.{arith, refl, sym, ◌-◌, ◌∙◌, common_steps, elements, read_file}
use Rattle.std.proofs.lemmas.Result.{err_from_is_err_and}
use Rattle.kc_parser.specs.checker.StateViews.{file_source_of}
use Rattle.kc_parser.proofs.ReaderSteps.{one_faulty, one_next, one_help, one_help_faulty, one_source, one_source_faulty, all_left, file_ended, file_lines, not_sourced, file_faulty, source_done}
use Rattle.kc_parser.proofs.reader.+files.Goals as goal

pub read_statement-returns-in-Err : goal.read_statement-returns-in-Err
read_statement-returns-in-Err t c = record {
  bounds = grind (arith, common_steps);
  read = λ before d.
      one_faulty (file_source_of c.args.from) (read_file c.args.depth (file_source_of c.args.from)) c.args.file.number c.args.file.bytes.now c.args.at
      c.args.number before _ _ _ c.requires.here c.in-Ok.ensures.line c.read_logical.new.read c.in-Err.kind _ (c.in-Err.ensures before d)
      c.fault_or_out_of_memory.ensures.memory c.fault_or_out_of_memory.ensures.placed;
}

pub read_statement-returns-in-Ok-Next : goal.read_statement-returns-in-Ok-Next
read_statement-returns-in-Ok-Next t c = record {
  bounds = grind (arith, common_steps);
  read = λ before d.
      one_next (file_source_of c.args.from) (read_file c.args.depth (file_source_of c.args.from)) c.args.file.number c.args.file.bytes.now c.args.at c.args.number
      before _ _ _ c.requires.here c.in-Ok.ensures.line c.read_logical.new.read (rw c.in-Ok-Next.field-0-is at (c.in-Ok-Next.ensures before d));
}

pub read_statement-returns-in_err-end-in-Ok-Help : goal.read_statement-returns-in_err-end-in-Ok-Help
read_statement-returns-in_err-end-in-Ok-Help t c =
    let p = err_from_is_err_and c.from_residual.result c.from_residual.ensures.1 in record {
      bounds = rw p.1 tt;
      read = λ before d.
          rw (p.1, p.2) (one_help_faulty (file_source_of c.args.from) (read_file c.args.depth (file_source_of c.args.from)) c.args.file.number c.args.file.bytes.now
          c.args.at c.args.number before _ _ _ c.requires.here c.in-Ok.ensures.line c.read_logical.new.read _ _
          (rw c.in-Ok-Help.field-0-is at (c.in-Ok-Help.ensures before d)) refl c.in_err-end-in-Ok-Help.ensures.read);
    }

pub read_statement-returns-in-Ok-Help-clause-read : goal.read_statement-returns-in-Ok-Help-clause-read
read_statement-returns-in-Ok-Help-clause-read t c = λ before d.
    one_help (file_source_of c.args.from) (read_file c.args.depth (file_source_of c.args.from)) c.args.file.number c.args.file.bytes.now c.args.at c.args.number
    before _ _ _ c.requires.here c.in-Ok.ensures.line c.read_logical.new.read _ _ (rw c.in-Ok-Help.field-0-is at (c.in-Ok-Help.ensures before d)) refl
    c.in_ok-end-in-Ok-Help.ensures.read

pub read_statement-returns-in_err-read_sourced-in-Ok-Source : goal.read_statement-returns-in_err-read_sourced-in-Ok-Source
read_statement-returns-in_err-read_sourced-in-Ok-Source t c =
    let p = err_from_is_err_and c.from_residual-in_err-read_sourced-in-Ok-Source.result c.from_residual-in_err-read_sourced-in-Ok-Source.ensures.1 in record {
      bounds = rw p.1 tt;
      read = λ before d.
          let s = rw c.in-Ok-Source.field-0-is at (c.in-Ok-Source.ensures before d) in
          rw (p.1, p.2) (one_source_faulty (file_source_of c.args.from) (read_file c.args.depth (file_source_of c.args.from)) c.args.file.number c.args.file.bytes.now
          c.args.at c.args.number before _ _ _ c.requires.here c.in-Ok.ensures.line c.in-Ok-Source.path c.read_logical.new.read c.read_sourced.new.read _ s
          (c.in_err-read_sourced-in-Ok-Source.ensures before s.describes));
    }

pub read_statement-returns : goal.read_statement-returns
read_statement-returns t c = record {
  bounds = grind (arith, common_steps);
  read = λ before d.
      let s = rw c.in-Ok-Source.field-0-is at (c.in-Ok-Source.ensures before d) in
      one_source (file_source_of c.args.from) (read_file c.args.depth (file_source_of c.args.from)) c.args.file.number c.args.file.bytes.now c.args.at
      c.args.number before _ _ _ c.requires.here c.in-Ok.ensures.line c.in-Ok-Source.path c.read_logical.new.read c.read_sourced.new.read s
      (c.in_ok-read_sourced-in-Ok-Source.ensures before s.describes);
}

pub read_open_file-lines-init : goal.read_open_file-lines-init
read_open_file-lines-init t c = record {
  left = λ before d. all_left (file_source_of c.args.from) (read_file (c.args.depth - 1) (file_source_of c.args.from)) c.args.file.number c.args.file.bytes.now
      before c.args.read.now d;
  within = omega arith;
  few = omega arith;
}

pub read_open_file-lines-preserved : goal.read_open_file-lines-preserved
read_open_file-lines-preserved t c = record {
  left = λ before d.
      let l = c.lines.invariant.left before d in
      let o = c.in_ok-next.ensures.read l.now l.describes in
      record { now = o.now; describes = o.describes; left = sym o.left ∙ l.left };
  within = c.in_ok-next.ensures.bounds.within;
  few = let n = c.lines.invariant.few in let f = c.in_ok-next.ensures.bounds.few in omega arith;
}

pub read_open_file-returns : goal.read_open_file-returns
read_open_file-returns t c = record {
  read = λ before d path n b.
      let l = c.lines.invariant.left before d in
      let e = file_lines c.args.depth (file_source_of c.args.from) path before (omega arith) in
      rw (e, ← n, ← b) (file_ended (file_source_of c.args.from) (read_file (c.args.depth - 1) (file_source_of c.args.from)) c.args.file.number
      c.args.file.bytes.now before c.lines.read c.lines.at c.lines.number c.end_of_file.result (omega arith) c.lines.invariant.within l
      (c.end_of_file.ensures l.now l.describes));
}

pub read_sourced-returns-in_err-sourced : goal.read_sourced-returns-in_err-sourced
read_sourced-returns-in_err-sourced t c = λ before d.
    let p = err_from_is_err_and c.from_residual.result c.from_residual.ensures.1 in
    rw (p.1, p.2) (not_sourced (file_source_of c.args.from) (read_file c.args.depth (file_source_of c.args.from)) c.args.at.file c.args.at.line c.args.path before
    c.open_source.new.read _ (c.in_err-sourced.ensures.sourced before d))

pub read_open_file-overflow_add-number : goal.read_open_file-overflow_add-number
read_open_file-overflow_add-number t c = grind (arith, common_steps)

pub read_statement-returns-in_default : goal.read_statement-returns-in_default
read_statement-returns-in_default t c = record {
  bounds = omega arith;
  read = grind (arith, elements);
}

pub read_open_file-returns-then-depth-eq0 : goal.read_open_file-returns-then-depth-eq0
read_open_file-returns-then-depth-eq0 t c = grind (arith, common_steps)

pub read_statement-read_help-requires : goal.read_statement-read_help-requires
read_statement-read_help-requires t c = record {
  within = grind (arith, common_steps);
  small = omega arith;
  few = grind (arith, common_steps);
}

pub read_open_file-overflow_sub-depth : goal.read_open_file-overflow_sub-depth
read_open_file-overflow_sub-depth t c = grind (arith, common_steps)

pub read_statement-overflow_add-number : goal.read_statement-overflow_add-number
read_statement-overflow_add-number t c = grind (arith, common_steps)

pub read_sourced-returns-in_err-read_open_file : goal.read_sourced-returns-in_err-read_open_file
read_sourced-returns-in_err-read_open_file t c = λ before d.
    let p = err_from_is_err_and c.from_residual-in_err-read_open_file.result c.from_residual-in_err-read_open_file.ensures.1 in
    let s = c.in_ok-sourced.ensures.sourced before d in
    rw (p.1, p.2) (file_faulty (file_source_of c.args.from) (read_file c.args.depth (file_source_of c.args.from)) c.args.at.file c.args.at.line c.args.path before
    c.read_open_file.new.read _ s.0 (c.in_err-read_open_file.ensures.read _ s.3 c.args.path s.1 s.2))

pub read_sourced-returns : goal.read_sourced-returns
read_sourced-returns t c = λ before d.
    let s = c.in_ok-sourced.ensures.sourced before d in
    let f = c.in_ok-read_open_file.ensures.read _ s.3 c.args.path s.1 s.2 in
    source_done (file_source_of c.args.from) (read_file c.args.depth (file_source_of c.args.from)) c.args.at.file c.args.at.line c.args.path before
    c.close_source.new.read c.close_source.result s.0 f.0 (c.close_source.ensures _ f.1)

pub read_open_file-returns-in_err-next : goal.read_open_file-returns-in_err-next
read_open_file-returns-in_err-next t c =
    let p = err_from_is_err_and c.from_residual.result c.from_residual.ensures.1 in record {
      read = λ before d path n b.
          let l = c.lines.invariant.left before d in
          let e = file_lines c.args.depth (file_source_of c.args.from) path before (omega arith) in
          rw (p.1, p.2, e, ← n, ← b, ← l.left) (c.in_err-next.ensures.read l.now l.describes);
    }

pub read_open_file-lines-smaller : goal.read_open_file-lines-smaller
read_open_file-lines-smaller t c = grind (arith, common_steps)

pub read_sourced-read_open_file-requires : goal.read_sourced-read_open_file-requires
read_sourced-read_open_file-requires t c = grind (arith, common_steps)

pub read_statement-logical_at-requires : goal.read_statement-logical_at-requires
read_statement-logical_at-requires t c = grind (arith, common_steps)
