use Rattle.std.proofs.Common.{◌≡◌, ◌∙◌, ◌+◌, ◌<◌, None, length, replicate, ap, sym, subst, arith}
use Rattle.std.proofs.lemmas.List.{length-map}
use Rattle.lt_words.specs.Row.{OwesNoWakeUp, quiet}
use Rattle.lt_walk.proofs.Noted.{ok_is, one_more, quiet_are_of}
use Rattle.lt_walk.proofs.noting.keeping_lets.Goals as goal

pub loop-index-preserved : goal.loop-index-preserved
loop-index-preserved c =
    let ps = c.loop-index.keeping.items in
    let k = c.loop-index.index in
    let p = c.index_mut.result.now in
    let q = c.keep_lets.new.self in
    let inside : k < length ps = omega (arith, c.loop-index-test.true, c.len-index-end.ensures, ap length c.loop-index.invariant.0, length-map ps quiet, length-map c.args.passes.items quiet) in
    let none : OwesNoWakeUp p = subst OwesNoWakeUp (sym c.index_mut.ensures.value) (c.loop-index.invariant.1 k p inside) in
    let same = c.keep_lets.ensures.same in
    let kept : q.wakes.untold ≡ replicate (p.of.passes + 1) None = ok_is c.keep_lets.result c.if-is_err.ensures.value c.keep_lets.ensures.untold in
    let keeps : q.wakes.untold ≡ replicate (q.of.passes + 1) None = kept ∙ ap (λ r. replicate (r.of.passes + 1) None) (sym same) in
    let more = one_more (λ r. r.wakes.untold ≡ replicate (r.of.passes + 1) None) ps k p q inside c.index_mut.ensures.value (ap quiet same) keeps (ap (λ r. r.wakes.lets) same ∙ none.0, ap (λ r. r.wakes.sleepers) same ∙ none.1) c.loop-index.invariant.1 c.loop-index.invariant.2 in
    (more.0 ∙ c.loop-index.invariant.0, more.1, more.2)

pub keep_lets-requires-clause-passes : goal.keep_lets-requires-clause-passes
keep_lets-requires-clause-passes c =
    let ps = c.loop-index.keeping.items in
    let k = c.loop-index.index in
    let p = c.index_mut.result.now in
    let inside : k < length ps = omega (arith, c.loop-index-test.true, c.len-index-end.ensures, ap length c.loop-index.invariant.0, length-map ps quiet, length-map c.args.passes.items quiet) in
    let of = quiet_are_of c.args.book.now ps c.args.passes.items c.loop-index.invariant.0 c.requires.of k p inside in
    omega (arith, c.len-many.ensures, c.requires.all, ap (λ o. o.passes) (ap (λ q. q.of) c.index_mut.ensures.value ∙ of))
