use Rattle.std.proofs.Common.{ℕ, List, Some, refl, ap, sym, subst, ◌∙◌}
use Rattle.std.proofs.lemmas.Result.{IfOk-weaker}
use Rattle.lt_ids.specs.declared.request.Access.{Access}
use Rattle.lt_walk.specs.Machine.{Asked}
use Rattle.lt_walk.specs.Reported.{IsScan, GuardState}
use Rattle.lt_runner.specs.Machine.{IsScanAnswer, let_gone_on}
use Rattle.lt_runner.specs.Outcomes.{OutcomeTells}
use Rattle.lt_runner.proofs.Scans.{tells_scan, hears_scan, scans_draw_none}
use Rattle.lt_runner.proofs.act.scan_of.Goals as goal

pub returns : goal.returns
returns g c =
    let old : GuardState = c.args.guard.now in
    let new : GuardState = c.scan-ended.new.guard in
    let s : IsScan c.args.table.now.max_waits old new c.scan-ended.result = c.scan-ended.ensures.scan in
    IfOk-weaker c.scan_answer.result _ _ (λ answer said.
    let told : IsScanAnswer old.walk.asked.keys c.scan-ended.result answer = subst (λ (ks : List (List ℕ × Access)). IsScanAnswer ks c.scan-ended.result answer) (c.keys.ensures ∙ ap (λ (a : Asked). a.keys) c.scan-ended.ensures.stays.asked) said in
    record {
      word = s.word;
      steps = s.steps;
      done = record {
        result = c.scan-ended.result;
        state = new.walk;
        scan = s.scan;
        told = told;
        goes_on = refl;
      };
      tells = subst (λ (ns : List ℕ). OutcomeTells old.pass new.pass s.steps ns (let_gone_on (Some old.walk) s.word)) (sym (scans_draw_none old.walk.asked.keys c.scan-ended.result answer told))
          (tells_scan c.args.table.now.max_waits old new c.scan-ended.result s c.scan-ended.ensures.stays.pass.number c.scan-ended.ensures.went_on);
      heard = hears_scan c.args.table.now.max_waits old new c.scan-ended.result s;
    }) c.scan_answer.ensures
