use Rattle.kc_builder.proofs.Common.{◌≡◌, ◌⊎◌, None, IfOk-weaker, no_memory, IsFaultRead, IsReadIn}
use Rattle.std.proofs.lemmas.Result.{IfErr-weaker}
use Rattle.kc_tree_model.specs.TreesOfFiles.{IsReportedFault}
use Rattle.kc_checks.proofs.ReadSteps.{reported_or_memory, reported_of_reading, reported_of_checks, shown_of_reading, reported_tree_fault}
use Rattle.kc_builder.specs.checker.Assembly.{IsGathered, IsGatheredRead}
use Rattle.kc_builder.proofs.tree_reader.read_lists.Goals as goal

pub lists_of-requires : goal.lists_of-requires
lists_of-requires c =
    let shown = shown_of_reading c.args.texts.now c.args.root.now c.read_files-listing.result.0 c.read_files-listing.result.1 c.read_files-listing.ensures.fault
    c.read_files-listing.ensures.read c.in-None.is in
    record { read = (c.args.texts.now, c.args.root.now, record { written = c.language.ensures; shows = shown }) }

pub returns-in-Some-clause-fault : goal.returns-in-Some-clause-fault
returns-in-Some-clause-fault c =
    reported_or_memory c.args.texts.now c.args.root.now c.in-Some.fault
    (reported_of_reading c.args.texts.now c.args.root.now c.read_files-listing.result.0 c.read_files-listing.result.1 c.read_files-listing.ensures.fault
    c.read_files-listing.ensures.read c.in-Some.fault c.in-Some.is)

pub returns : goal.returns
returns c =
    let files = c.args.texts.now in
    let root = c.args.root.now in
    let e = c.read_files-listing.ensures in
    let l = c.read_files-listing.result.0 in
    let given = c.read_files-listing.result.1 in
    let shown = shown_of_reading files root l given e.fault e.read c.in-None.is in
    let read : IsReadIn c.language.result l files root = record { written = c.language.ensures; shows = shown } in
    record {
      ok = IfOk-weaker c.lists_of.result (λ r. IsGatheredRead files root r.0 r.1) (λ r. IsGathered files root r.0 r.1)
          (λ r k. record { untold = reported_tree_fault files root l given e.fault e.read None c.in-None.is k.faultless; lists = k.lists; lines_are = k.lines_are })
          (c.lists_of.ensures.ok files root read);
      fault = IfErr-weaker c.lists_of.result (IsFaultRead files root) (λ f. (f ≡ no_memory) ⊎ IsReportedFault files root f)
          (λ f k. reported_or_memory files root f (reported_of_checks files root l given e.fault e.read f c.in-None.is k))
          (c.lists_of.ensures.fault files root read);
    }
