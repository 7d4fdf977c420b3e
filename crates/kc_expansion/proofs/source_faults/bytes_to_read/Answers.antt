use Rattle.kc_expansion.proofs.Common.{◌∙◌, sym, ap, length-map, file_of, texts_of_slices}
use Rattle.kc_expansion.proofs.SourceFaultLemmas.{open_by, fault_seen, refused, read_whole}
use Rattle.kc_expansion.proofs.source_faults.bytes_to_read.Goals as goal

pub returns-in-Some-clause-err : goal.returns-in-Some-clause-err
returns-in-Some-clause-err c =
    refused (texts_of_slices c.args.open_files.now) c.args.counts c.args.path.now (file_of c.args.read) c.in-Some.kind
    (sym (fault_seen (texts_of_slices c.args.open_files.now) c.args.counts c.args.path.now (file_of c.args.read) _ _ _ _ _ _ c.source_fault.ensures c.size_of-size.ensures
    (c.is_open.ensures ∙ open_by c.args.path.now c.args.open_files.now) c.is_some.ensures (sym (length-map c.args.open_files.now (λ o. o.now))) c.unwrap_or.ensures) ∙ c.in-Some.is)

pub returns-clause-ok : goal.returns-clause-ok
returns-clause-ok c =
    read_whole (texts_of_slices c.args.open_files.now) c.args.counts c.args.path.now (file_of c.args.read) c.in-Whole.bytes.value.items (ap file_of c.in-Whole.is)
    (sym (fault_seen (texts_of_slices c.args.open_files.now) c.args.counts c.args.path.now (file_of c.args.read) _ _ _ _ _ _ c.source_fault.ensures c.size_of-size.ensures
    (c.is_open.ensures ∙ open_by c.args.path.now c.args.open_files.now) c.is_some.ensures (sym (length-map c.args.open_files.now (λ o. o.now))) c.unwrap_or.ensures) ∙ c.in_default.is)
