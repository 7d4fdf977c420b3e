use Rattle.kc_builder.proofs.Common.{◌<◌, ◌^◌, length, subst, sym, reading}
use Rattle.kc_builder.proofs.AssemblySteps.{walk_read}
use Rattle.kc_builder.proofs.RepresentedGroups.{summed_of}
use Rattle.kc_builder.proofs.builder.lists_of.Goals as goal

pub new-requires : goal.new-requires
new-requires c =
    let r = c.requires.read in
    record { shown = record { read = (reading r.0 r.1).read; shows = r.2.shows } }

pub walk_all-requires : goal.walk_all-requires
walk_all-requires c =
    let r = c.requires.read in
    record { shown = record { read = (reading r.0 r.1).read; shows = r.2.shows } }

pub gathered_of-requires : goal.gathered_of-requires
gathered_of-requires c =
    let r = c.requires.read in
    let e = c.in-Ok-walk_all.ensures in
    record {
      few = subst (λ gs. length gs.items < 2 ^ 32) (sym e.groups) c.in-Ok.ensures.few;
      walk = (r.0, r.1, walk_read c.args.language c.args.listing c.in-Ok-walk_all.walked r.0 r.1 r.2 e.language e.shows e.walked);
      summary = summed_of c.args.listing c.in-Ok-walk_all.walked.listing (reading r.0 r.1).read c.in-Ok.summary r.2.shows
          (e.shows (reading r.0 r.1).read r.2.shows) c.in-Ok.ensures.summary;
      no = e.no;
    }

pub returns : goal.returns
returns c =
    let e = c.in-Ok-walk_all.ensures in
    record {
      ok = λ files root k. c.gathered_of.ensures.ok files root
          (walk_read c.args.language c.args.listing c.in-Ok-walk_all.walked files root k e.language e.shows e.walked);
      fault = λ files root k. c.gathered_of.ensures.fault files root
          (walk_read c.args.language c.args.listing c.in-Ok-walk_all.walked files root k e.language e.shows e.walked);
    }
