use Rattle.kc_expr.proofs.Common.{refl, arith, common_steps}
use Rattle.kc_expr.proofs.StoreLemmas.{push_extends, push_sound, push_represents}
use Rattle.kc_expr.proofs.node_store.NodeStore.push.Goals as goal

pub returns-clause-sound : goal.returns-clause-sound
returns-clause-sound c = push_sound c.args.self.now (record c.args.self.now { nodes = c.push.new.self }) c.args.node c.requires.sound c.in_ok-push.ensures.items
    refl refl (omega (arith, c.index_of_32_bits.ensures, c.in_ok-id.ensures.below)) c.requires.fits

pub returns-clause-extends : goal.returns-clause-extends
returns-clause-extends c = push_extends c.args.self.now (record c.args.self.now { nodes = c.push.new.self }) c.args.node c.requires.sound
    c.in_ok-push.ensures.items refl refl

pub returns-clause-represents : goal.returns-clause-represents
returns-clause-represents c = push_represents c.args.self.now (record c.args.self.now { nodes = c.push.new.self }) c.args.node c.requires.sound
    c.in_ok-push.ensures.items refl refl c.in_ok-id.id (omega (arith, c.in_ok-id.ensures.number, c.len.ensures, c.args.self.now.nodes.ok.0))

pub returns-in_err-push-clause-extends : goal.returns-in_err-push-clause-extends
returns-in_err-push-clause-extends c = grind (arith, common_steps)

pub returns-in_err-id-clause-extends : goal.returns-in_err-id-clause-extends
returns-in_err-id-clause-extends c = grind (arith, common_steps)
