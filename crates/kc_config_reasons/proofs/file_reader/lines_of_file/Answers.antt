use Rattle.kc_config_reasons.proofs.Common.{◌+◌, refl, arith, tree_of_settled, file_format}
use Rattle.kc_config_reasons.proofs.FileSteps.{leads_at_first, leads_on, leads_to_end}
use Rattle.kc_config_reasons.proofs.file_reader.lines_of_file.Goals as goal

pub loop-line-init : goal.loop-line-init
loop-line-init c = record {
  few = omega arith;
  leads = leads_at_first (file_format c.args.format.now) (tree_of_settled c.args.settled.now) c.args.bytes.now c.new-found.result c.new-found.ensures.units c.new-found.ensures.members;
}

pub loop-line-preserved : goal.loop-line-preserved
loop-line-preserved c = record {
  few = (let less = c.in-Some.ensures.shorter in let few = c.loop-line.invariant.few in omega arith);
  leads = leads_on (file_format c.args.format.now) (tree_of_settled c.args.settled.now) c.args.bytes.now c.loop-line.rest.now c.in-Some.line.now c.in-Some.after.now c.loop-line.number
      (c.loop-line.number + 1) c.loop-line.found c.keep_line.new.found c.in-Some.ensures.piece refl c.in_ok-keep_line.ensures c.loop-line.invariant.leads;
}

pub returns : goal.returns
returns c = leads_to_end (file_format c.args.format.now) (tree_of_settled c.args.settled.now) c.args.bytes.now c.loop-line.rest.now c.loop-line.number c.loop-line.found c.in_default.ensures.none c.loop-line.invariant.leads
