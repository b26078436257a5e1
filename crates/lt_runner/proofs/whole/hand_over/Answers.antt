use Rattle.std.proofs.Common.{◌≡◌, ◌∷◌, ◌++◌, [], List, length, map, rules, sym, ap, refl, ◌∙◌, subst, arith}
use Rattle.std.specs.Global.{Vec}
use Rattle.std.proofs.lemmas.List.{map-append, length-append}
use Rattle.std.proofs.lemmas.Iterator.Adapters.{YieldsList-from_vec}
use Rattle.std.proofs.lemmas.Iterator.Consumers.{YieldsList-turn}
use Rattle.lt_runner.specs.Sessions.{session_pass}
use Rattle.lt_runner.specs.declared.session.Session.{Session}
use Rattle.lt_runner.specs.declared.answer.AnswerLine.{AnswerLine}
use Rattle.lt_runner.specs.declared.outcome.Finish.{Finish}
use Rattle.lt_runner.specs.declared.outcome.Work.{Work}
use Rattle.lt_runner.specs.Closing.{IsPut, finish_all, join}
use Rattle.lt_runner.proofs.Closings.{put_passes, put_guards, put_handed, put_counted, finish_more}
use Rattle.lt_runner.proofs.whole.hand_over.Goals as goal

pub loop-work-preserved : goal.loop-work-preserved
loop-work-preserved g c =
    let turn = YieldsList-turn (YieldsList-from_vec {s = c.into_iter-work-iterator.result} c.args.works.items (search rules) (search rules)) c.loop-work.yielded c.loop-work.work-iterator c.loop-work.yielded_by c.next.result c.next.new.self c.in-Some.work c.in-Some.is c.next.ensures.steps in
    let w : Work = c.in-Some.work in
    let of : (session_pass w.session).of ≡ g.N.Name.of = ap (λ (x : Work). (session_pass x.session).of) turn.1 ∙ c.requires (length c.loop-work.yielded) w turn.0 in
    let put : IsPut w.session c.loop-work.passes.items c.loop-work.guards.items c.put.new.passes.items c.put.new.guards.items = subst (λ (d : Session). IsPut d c.loop-work.passes.items c.loop-work.guards.items c.put.new.passes.items c.put.new.guards.items) c.into_parts-session.ensures.session c.put.ensures.put in
    let inv = c.loop-work.invariant in
    record {
      passes = put_passes g.N.Name.of w.session c.loop-work.passes.items c.put.new.passes.items c.loop-work.guards.items c.put.new.guards.items put of inv.passes;
      guards = put_guards g.N.Name.of w.session c.loop-work.passes.items c.put.new.passes.items c.loop-work.guards.items c.put.new.guards.items put of inv.guards;
      handed = put_handed w.session c.loop-work.passes.items c.put.new.passes.items c.loop-work.guards.items c.put.new.guards.items c.loop-work.yielded w refl put inv.handed;
      counted = put_counted w.session c.loop-work.passes.items c.put.new.passes.items c.loop-work.guards.items c.put.new.guards.items c.loop-work.yielded w refl put inv.counted;
      answers = c.push_reserved.ensures.items ∙ (ap (λ v. c.loop-work.answers.items ++ v ∷ []) c.into_parts-session.ensures.answers ∙ ap (λ (vs : List (Vec AnswerLine)). vs ++ w.answers ∷ []) inv.answers ∙ sym (map-append (λ (x : Work). x.answers) c.loop-work.yielded (w ∷ [])));
      finish = c.join-finish.ensures ∙ (ap (λ (f : Finish). join c.loop-work.finish f) c.into_parts-session.ensures.finish ∙ ap (λ (f : Finish). join f w.finish) inv.finish ∙ (sym (finish_more (map (λ (x : Work). x.finish) c.loop-work.yielded) w.finish) ∙ ap finish_all (sym (map-append (λ (x : Work). x.finish) c.loop-work.yielded (w ∷ [])))));
      room_for_passes = (omega (arith, c.put.ensures.passes.1, inv.room_for_passes.0, length-append c.loop-work.yielded (w ∷ [])), c.put.ensures.passes.0 ∙ inv.room_for_passes.1);
      room_for_guards = (omega (arith, c.put.ensures.guards.1, inv.room_for_guards.0, length-append c.loop-work.yielded (w ∷ [])), c.put.ensures.guards.0 ∙ inv.room_for_guards.1);
      room_for_answers = c.push_reserved.ensures.capacity ∙ inv.room_for_answers;
    }
