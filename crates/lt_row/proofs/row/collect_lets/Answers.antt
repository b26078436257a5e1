use Rattle.std.proofs.Common.{◌++◌, ◌<◌, ◌∙◌, arith, length, vec_capacity, sym, ap, map, refl, subst}
use Rattle.std.proofs.lemmas.Result.{on_ok_weaker, on_err_weaker}
use Rattle.lt_rules.specs.Rules.{through_of}
use Rattle.lt_links.specs.declared.ids.QueueKind.TheVariants.{Writers, Readers}
use Rattle.lt_row.specs.Row.{queue_at, line, request_of}
use Rattle.lt_row.specs.Found.{waiting_lets, leading_writers}
use Rattle.lt_row.proofs.Acts.{filled, lets_in_front}
use Rattle.lt_row.proofs.Rooms.{on_err, no_room}
use Rattle.lt_row.proofs.row.collect_lets.Goals as goal

pub returns-clause-ok : goal.returns-clause-ok
returns-clause-ok c =
    let m = c.args.links.now in
    let rs = line m (queue_at c.args.row.now.id Readers) in
    let readers = filled m _ c.args.row.now.id _ _ c.requires.lets c.queue.ensures c.in_ok-collect_selected.ensures.ok in
    on_ok_weaker c.collect_front_lets.result (λ e. e ∙ ap (λ l. l ++ waiting_lets (leading_writers (line m c.queue-2.result))) readers
    ∙ ap (λ q. map through_of (map request_of rs) ++ waiting_lets (leading_writers (line m q))) c.queue-2.ensures
    ∙ sym (lets_in_front rs (line m (queue_at c.args.row.now.id Writers)))) c.collect_front_lets.ensures.ok

pub returns-in_err-collect_selected-clause-full : goal.returns-in_err-collect_selected-clause-full
returns-in_err-collect_selected-clause-full c =
    let m = c.args.links.now in
    let rs = line m (queue_at c.args.row.now.id Readers) in
    let ws = line m (queue_at c.args.row.now.id Writers) in
    let room = vec_capacity c.args.lets.now in
    let readers = filled m _ c.args.row.now.id _ _ c.requires.lets c.queue.ensures refl in
    on_err c.from_residual.result _
    (no_room room room (map through_of (map request_of rs)) (waiting_lets (leading_writers ws)) _ (sym (lets_in_front rs ws)) (omega arith)
    (subst (λ l. room < length l) readers c.in_err-collect_selected.ensures.full))

pub returns-clause-full : goal.returns-clause-full
returns-clause-full c =
    let m = c.args.links.now in
    let rs = line m (queue_at c.args.row.now.id Readers) in
    let readers = filled m _ c.args.row.now.id _ _ c.requires.lets c.queue.ensures c.in_ok-collect_selected.ensures.ok in
    let all = ap (λ l. l ++ waiting_lets (leading_writers (line m c.queue-2.result))) readers
    ∙ ap (λ q. map through_of (map request_of rs) ++ waiting_lets (leading_writers (line m q))) c.queue-2.ensures
    ∙ sym (lets_in_front rs (line m (queue_at c.args.row.now.id Writers))) in
    on_err_weaker c.collect_front_lets.result (λ full.
    let none = subst (λ l. vec_capacity c.collect_selected.new.lets < length l) all full in
    omega (arith, none, c.collect_selected.ensures.kept)) c.collect_front_lets.ensures.full
