use Rattle.kc_builder.proofs.Common.{reading}
use Rattle.kc_builder.proofs.AssemblySteps.{faultless_of, is_gathering}
use Rattle.kc_builder.proofs.TreeLineSteps.{lines_of_listing}
use Rattle.kc_builder.proofs.builder.gathered_of.Goals as goal

pub returns-in-Ok : goal.returns-in-Ok
returns-in-Ok c = record {
  ok = λ files root k.
      let w = c.args.walked in
      let read = (reading files root).read in
      let e = c.gathered.ensures in
      let p = c.in-Ok.ensures in
      let faultless = p.faultless files root k in
      rw (e.lists, e.lines) (record {
        faultless = faultless;
        lists = is_gathering files root w.language w.listing c.in-Ok.symbols c.in-Ok.groups c.args.summary k.written k.walk.shows
            (p.symbols files root k) (p.groups files root k) (c.requires.summary read k.walk.shows) (faultless_of files.language read faultless) c.requires.few;
        lines_are = lines_of_listing w.listing w.no read k.walk.shows c.requires.few c.requires.no;
      });
  fault = λ files root k. tt;
}
