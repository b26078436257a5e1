use Rattle.std.proofs.Common.{◌∙◌, ◌≤◌, ◌<◌, length, ap, sym, subst, arith}
use Rattle.std.proofs.lemmas.List.{length-map}
use Rattle.lt_words.specs.Row.{OwesNoWakeUp, quiet}
use Rattle.lt_walk.proofs.Noted.{ok_is, one_more}
use Rattle.lt_walk.proofs.noting.noting_lets.Goals as goal

pub loop-index-preserved : goal.loop-index-preserved
loop-index-preserved c =
    let ps = c.loop-index.noting.items in
    let k = c.loop-index.index in
    let p = c.index_mut.result.now in
    let q = c.note_each_let.new.self in
    let inside : k < length ps = omega (arith, c.loop-index-test.true, c.len-index-end.ensures, ap length c.loop-index.invariant.0, length-map ps quiet, length-map c.args.passes.items quiet) in
    let none : OwesNoWakeUp p = subst OwesNoWakeUp (sym c.index_mut.ensures.value) (c.loop-index.invariant.1 k p inside) in
    let same = c.note_each_let.ensures.same in
    let room : c.len-room.result ≤ q.wakes.room = omega (arith, ok_is c.note_each_let.result c.if-is_err.ensures.value c.note_each_let.ensures.room) in
    let more = one_more (λ r. c.len-room.result ≤ r.wakes.room) ps k p q inside c.index_mut.ensures.value (ap quiet same) room (ap (λ r. r.wakes.lets) same ∙ none.0, ap (λ r. r.wakes.sleepers) same ∙ none.1) c.loop-index.invariant.1 c.loop-index.invariant.2 in
    (more.0 ∙ c.loop-index.invariant.0, more.1, more.2)
