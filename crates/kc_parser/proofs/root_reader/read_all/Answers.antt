use Rattle.kc_parser.proofs.Common.{SourceFiles}
use Rattle.kc_parser.proofs.RootSteps.{absent_root, large_root, fitting_root, root_is}
use Rattle.kc_parser.proofs.root_reader.read_all.Goals as goal

pub returns-in-Err : goal.returns-in-Err
returns-in-Err c =
    let from : SourceFiles = record { texts = c.args.texts; root = c.args.root; absent_is_empty = c.args.absent_is_empty } in
    absent_root from c.new.result c.in-Err.kind c.in-Err.ensures c.new.ensures

pub returns-then-file-gt-MAX_TREE_BYTES : goal.returns-then-file-gt-MAX_TREE_BYTES
returns-then-file-gt-MAX_TREE_BYTES c =
    let from : SourceFiles = record { texts = c.args.texts; root = c.args.root; absent_is_empty = c.args.absent_is_empty } in
    rw c.at_line-fault.ensures (large_root from c.new-then-file-gt-MAX_TREE_BYTES.result c.in-Ok.file.number c.in-Ok.file.bytes.now c.in-Ok.ensures.0
    c.in-Ok.ensures.1 c.in-Ok.ensures.2 c.if-file-gt-MAX_TREE_BYTES.true c.new-then-file-gt-MAX_TREE_BYTES.ensures)

pub returns : goal.returns
returns c =
    let from : SourceFiles = record { texts = c.args.texts; root = c.args.root; absent_is_empty = c.args.absent_is_empty } in
    fitting_root from c.read_first.result c.in-Ok.file.bytes.now c.in-Ok.ensures.0 c.in-Ok.ensures.2 c.if-file-gt-MAX_TREE_BYTES.false
    (c.read_first.ensures.read (rw (root_is from) c.in-Ok.ensures.1) (rw (root_is from) c.in-Ok.ensures.2))
