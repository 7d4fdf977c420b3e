use Rattle.std.proofs.Common.{[], ◌∷◌, refl}
use Rattle.kmin_report.specs.Reports.{output_line}
use Rattle.kmin_tidy.specs.checker.Endings.{whole, part}
use Rattle.kmin_tidy.proofs.run.write_text.Goals as goal

pub returns-in-Ok : goal.returns-in-Ok
returns-in-Ok g c = ([], whole (rw c.deref.ensures.value at c.in-Ok.ensures.whole) c.in-Ok.ensures.unfailed refl refl, c.in-Ok.ensures.unreported)

pub returns-in-Err : goal.returns-in-Err
returns-in-Err g c =
    let cut = rw c.deref.ensures.value at c.in-Err.ensures.part in
    (output_line ∷ [], part c.in-Err.field-0.written cut.0 cut.1 c.in-Err.ensures.failures refl refl, c.in-Err.ensures.reported)
