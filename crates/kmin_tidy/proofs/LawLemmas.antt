-- Files with the same values.
use Rattle.std.proofs.Common.{sym, ◌∙◌}
use Rattle.kmin_tidy.specs.Promises.{MinimalFilesAreEqual}

-- two files give every symbol the same value exactly if their minimal files have the same bytes
pub minimal_files_are_equal : MinimalFilesAreEqual
minimal_files_are_equal s a b least_a least_b m n left right =
    let same = left.canonical.same b right.values right.loads.reads in
    (λ values. same.0 values ∙ sym right.canonical.is, λ e. same.1 (e ∙ right.canonical.is))
