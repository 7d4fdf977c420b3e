use Rattle.kc_parser.proofs.Common.{◌+◌, sym, ◌∙◌, ap, count_by, is_file}
use Rattle.kc_parser.specs.checker.StateViews.{Describes, file_source_of}
use Rattle.kc_parser.proofs.OpenBlockSteps.{path_open, files_are_open}
use Rattle.kc_parser.proofs.ReaderSteps.{fault_seen, source_returned, source_refused}
use Rattle.kc_parser.proofs.sources.sourced.Goals as goal

pub returns-in-None-clause-sourced : goal.returns-in-None-clause-sourced
unfolding Describes file_source_of
returns-in-None-clause-sourced c = λ before d.
    source_returned (file_source_of c.args.from) before c.args.path.now c.file_of-found.result c.file_of-found.ensures
    (sym (fault_seen (file_source_of c.args.from) before c.args.path.now c.file_of-found.result _ _ _ _ _ _ _ _ c.source_fault.ensures c.kinds_for.ensures
    (path_open (file_source_of c.args.from) _ _ _ _ _ before d.counted c.args.path.now ∙ sym c.is_open.ensures) c.is_ok.ensures.value
    (files_are_open (file_source_of c.args.from) _ _ _ _ _ before d.counted ∙ ap (λ xs. count_by is_file xs + 1) (sym c.deref.ensures.value)
    ∙ ap (λ n. n + 1) (sym c.open_file_count.ensures)) d.counted.files_are d.counted.bytes_are c.size_of.ensures) ∙ c.in-None.is)

pub returns-in-Some : goal.returns-in-Some
unfolding Describes file_source_of
returns-in-Some c = record {
  few = tt;
  small = tt;
  sourced = λ before d. source_refused (file_source_of c.args.from) before c.args.path.now c.file_of-found.result c.in-Some.kind c.file_of-found.ensures
      (sym (fault_seen (file_source_of c.args.from) before c.args.path.now c.file_of-found.result _ _ _ _ _ _ _ _ c.source_fault.ensures c.kinds_for.ensures
      (path_open (file_source_of c.args.from) _ _ _ _ _ before d.counted c.args.path.now ∙ sym c.is_open.ensures) c.is_ok.ensures.value
      (files_are_open (file_source_of c.args.from) _ _ _ _ _ before d.counted ∙ ap (λ xs. count_by is_file xs + 1) (sym c.deref.ensures.value)
      ∙ ap (λ n. n + 1) (sym c.open_file_count.ensures)) d.counted.files_are d.counted.bytes_are c.size_of.ensures) ∙ c.in-Some.is);
}
