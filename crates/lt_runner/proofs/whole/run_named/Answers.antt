use Rattle.std.proofs.Common.{◌≡◌, ◌≤◌, ℕ, length, sym, subst}
use Rattle.std.specs.List.{All, AllByRecursion}
use Rattle.std.proofs.lemmas.List.Elements.{All-from_recursion, recursion_from_All}
use Rattle.lt_words.specs.Row.{Opening, PassState}
use Rattle.lt_walk.specs.declared.config.Config.{Config}
use Rattle.lt_walk.specs.Closed.{passes_of}
use Rattle.lt_runner.specs.declared.outcome.Ran.{Ran}
use Rattle.lt_runner.specs.declared.outcome.Work.{Work}
use Rattle.lt_runner.specs.Sessions.{session_pass}
use Rattle.lt_runner.specs.Machine.{Rules, rules_of}
use Rattle.lt_runner.specs.Gates.{GateAnswers}
use Rattle.lt_runner.specs.Turns.{HaveRun, IsAmong}
use Rattle.lt_runner.specs.Ran.{IsRan}
use Rattle.lt_runner.proofs.Closings.{is_ran, new_some, new_numbered, new_among, new_none, works_of}
use Rattle.lt_runner.proofs.whole.run_named.Goals as goal

pub run_lines-requires-clause-some : goal.run_lines-requires-clause-some
run_lines-requires-clause-some g c κs within = new_some g.N.Name.of g.N.Name.of.passes c.in-Ok.passes.items c.in-Ok.ensures.passes c.requires.some_passes

pub run_lines-requires-clause-numbered : goal.run_lines-requires-clause-numbered
run_lines-requires-clause-numbered g c κs within = new_numbered g.N.Name.of g.N.Name.of.passes c.in-Ok.passes.items c.in-Ok.ensures.passes

pub run_lines-requires-clause-of : goal.run_lines-requires-clause-of
run_lines-requires-clause-of g c κs within = recursion_from_All (λ (p : PassState). p.of ≡ g.N.Name.of) c.in-Ok.passes.items c.in-Ok.ensures.of

pub run_lines-requires-clause-among : goal.run_lines-requires-clause-among
run_lines-requires-clause-among g c κs within = new_among g.N.Name.of g.N.Name.of.passes c.in-Ok.passes.items c.args.plan.now.commands.now c.in-Ok.ensures.passes (subst (λ (n : ℕ). AllByRecursion (IsAmong n) c.args.plan.now.commands.now) c.requires.passes c.requires.among)

pub hand_over-requires : goal.hand_over-requires
hand_over-requires g c =
    let rules : Rules = rules_of c.in-Ok.table c.args.plan.now.turns in
    All-from_recursion (λ (w : Work). (session_pass w.session).of ≡ g.N.Name.of) c.in_ok-works.works.items
    (works_of rules (g.G.Gate.may_answer c.args.plan.now.gate.now) c.args.plan.now.commands.now g.N.Name.of c.in-Ok.passes.items c.in_ok-works.works.items c.in_ok-works.ensures
    (recursion_from_All (λ (p : PassState). p.of ≡ g.N.Name.of) c.in-Ok.passes.items c.in-Ok.ensures.of))

pub returns-in-Ok-close : goal.returns-in-Ok-close
returns-in-Ok-close g c =
    let of : Opening = g.N.Name.of in
    let gate : GateAnswers = g.G.Gate.may_answer c.args.plan.now.gate.now in
    let rules : Rules = rules_of c.args.ready.config c.args.plan.now.turns in
    let same : c.in-Ok.table ≡ c.args.ready.config = c.in-Ok.ensures.config in
    let run : HaveRun rules gate of.shards c.args.plan.now.commands.now c.in-Ok.passes.items c.in_ok-works.works.items = subst (λ (k : Config). HaveRun (rules_of k c.args.plan.now.turns) gate of.shards c.args.plan.now.commands.now c.in-Ok.passes.items c.in_ok-works.works.items) same c.in_ok-works.ensures in
    let limit : All (λ es. length es.items ≤ rules.max_steps) c.in-Ok-close.histories.shards.items = subst (λ (k : Config). All (λ es. length es.items ≤ k.max_steps) c.in-Ok-close.histories.shards.items) same c.in-Ok-close.ensures.limit in
    let ran : Ran = record { answers = c.in_ok-passes.field-0.answers; finish = c.in_ok-passes.field-0.finish; histories = c.in-Ok-close.histories.shards; draws = c.in-Ok-close.histories.draws } in
    subst (λ (n : ℕ). IsRan rules gate n c.args.plan.now.commands.now ran) (sym c.requires.shards)
    (is_ran rules gate of c.args.plan.now.commands.now c.in-Ok.passes.items (passes_of c.in_ok-passes.field-0.passes.items c.in_ok-passes.field-0.guards.items) c.in_ok-works.works.items ran
    c.requires.some
    (new_among of of.passes c.in-Ok.passes.items c.args.plan.now.commands.now c.in-Ok.ensures.passes (subst (λ (n : ℕ). AllByRecursion (IsAmong n) c.args.plan.now.commands.now) c.requires.passes c.requires.among))
    (recursion_from_All (λ (p : PassState). p.of ≡ of) c.in-Ok.passes.items c.in-Ok.ensures.of)
    (new_numbered of of.passes c.in-Ok.passes.items c.in-Ok.ensures.passes)
    run c.in-Ok-close.ensures.closed limit c.in_ok-passes.ensures.handed c.in_ok-passes.ensures.counted (new_none of of.passes c.in-Ok.passes.items c.in-Ok.ensures.passes) c.in_ok-passes.ensures.answers c.in_ok-passes.ensures.finish)
