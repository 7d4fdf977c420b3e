use Rattle.std.proofs.Common.{◌+◌, ◌<◌, length, true, false, sym, ◌∙◌, arith}
use Rattle.kc_config_reasons.proofs.PlaceLaws.{none_after, one_after}
use Rattle.kc_config_reasons.proofs.places.place_asking_otherwise.Goals as goal

pub returns-then-i-places : goal.returns-then-i-places
returns-then-i-places c = record { value = sym (none_after c.args.places.now c.args.i c.if-i-places.true) }

pub returns-then-ask_alike : goal.returns-then-ask_alike
returns-then-ask_alike c =
    let places = c.args.places.now in
    let i = c.args.i in
    let next : i + 1 < length places = (let apart = c.if-i-places.false in let inside = c.requires.there in omega arith) in
    record {
      value = c.requires.after ∙ sym (one_after places i c.index-places-i.result c.index-places-i-2.result c.requires.there next
          c.index-places-i.is c.index-places-i-2.is true (sym c.if-ask_alike.ensures));
    }

pub returns-else-ask_alike : goal.returns-else-ask_alike
returns-else-ask_alike c =
    let places = c.args.places.now in
    let i = c.args.i in
    let next : i + 1 < length places = (let apart = c.if-i-places.false in let inside = c.requires.there in omega arith) in
    record {
      value = sym (one_after places i c.index-places-i.result c.index-places-i-2.result c.requires.there next
          c.index-places-i.is c.index-places-i-2.is false (sym c.if-ask_alike.ensures));
    }
