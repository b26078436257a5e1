use Rattle.std.proofs.Common.{◌≡◌, length, arith}
use Rattle.lt_runner.specs.Machine.{Rules, rules_of}
use Rattle.lt_runner.proofs.Slots.{tried_each}
use Rattle.lt_runner.proofs.running.start_all.Goals as goal

pub returns-in-Ok : goal.returns-in-Ok
returns-in-Ok g c =
    let rules : Rules = rules_of c.args.host.now.table.now c.args.plan.now.turns in
    let many : length c.in-Ok.works.items ≡ length c.args.passes.items = omega (arith, c.in-Ok.ensures.len, c.in-Ok.works.ok.0, c.args.passes.ok.0) in
    tried_each rules (g.G.Gate.may_answer c.args.plan.now.gate.now) c.args.plan.now.commands.now c.args.passes.items c.in-Ok.works.items many
    (λ i d lt.
    let one = (c.in-Ok.ensures.each i d lt).1 in
    (one.job, one.job_is, one.call.met))
