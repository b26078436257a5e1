use Rattle.std.proofs.Common.{◌∙◌, ◌≡◌, ◌<◌, sym, ap, length, arith, Some, get_or}
use Rattle.std.specs.Option.{option_map}
use Rattle.lt_rules.specs.Rules.{leading}
use Rattle.lt_rules.proofs.Queue.{none_next, next_behind}
use Rattle.lt_plain.proofs.queues.take_front.Goals as goal

pub returns-then-others-len-clause-next : goal.returns-then-others-len-clause-next
returns-then-others-len-clause-next c =
    let all : leading c.args.writers.now.items ≡ length c.args.writers.now.items = cc in
    sym (ap (option_map (λ w. w.request)) (none_next c.args.writers.now.items all))

pub returns-clause-next : goal.returns-clause-next
returns-clause-next c =
    let ws = c.args.writers.now.items in
    let w = c.index.result.now in
    let at : c.leading-others.result ≡ leading ws = rw c.deref.ensures.value at c.leading-others.ensures.leading in
    let inside : leading ws < length ws = omega (arith, c.leading-others.ensures.within, c.len.ensures, c.if-others-len.false) in
    ap (λ v. Some v.request) (c.index.ensures ∙ ap (λ n. get_or ws n w) at) ∙ sym (ap (option_map (λ v. v.request)) (next_behind ws w inside))
