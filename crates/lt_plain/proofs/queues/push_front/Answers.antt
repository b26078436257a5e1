use Rattle.std.proofs.Common.{[], ◌++◌, ◌≡◌, ◌∙◌, List, true, ap, arith, refl, suc, take, append-nil, vec_capacity}
use Rattle.std.specs.List.{flat_map}
use Rattle.std.proofs.lemmas.Result.{on_ok_weaker, on_err_weaker}
use Rattle.lt_ids.specs.declared.ticket.Through.{Through}
use Rattle.lt_rules.specs.declared.queued.QueuedRequest.{QueuedRequest}
use Rattle.lt_rules.specs.declared.queued.QueuedWriter.{QueuedWriter}
use Rattle.lt_rules.specs.Rules.{leading}
use Rattle.lt_plain.specs.Plain.{front_lets, let_if}
use Rattle.lt_plain.proofs.Sent.{front_joined, no_room_for_part}
use Rattle.lt_plain.proofs.Rooms.{on_err}
use Rattle.lt_plain.proofs.queues.push_front.Goals as goal

-- the lets of these requests, and of the active ones among these writers
abbrev all_of : List QueuedRequest → List Through
all_of qs = flat_map (λ (q : QueuedRequest). let_if true q) qs

abbrev active_of : List QueuedWriter → List Through
active_of ws = flat_map (λ (w : QueuedWriter). let_if w.active w.request) ws

pub returns-in_err-push_all-clause-full : goal.returns-in_err-push_all-clause-full
returns-in_err-push_all-clause-full c =
    let start = c.args.lets.now.items in
    let ws : List QueuedWriter = take (suc (leading c.args.writers.now)) c.args.writers.now in
    on_err c.from_residual.result _
    (no_room_for_part (vec_capacity c.args.lets.now) (vec_capacity c.args.lets.now) (start ++ all_of c.args.readers.now) (active_of ws) (start ++ front_lets c.args.readers.now c.args.writers.now)
    (front_joined start c.args.readers.now c.args.writers.now ws refl) (omega arith) c.in_err-push_all.ensures.full)

pub returns-clause-ok : goal.returns-clause-ok
returns-clause-ok c =
    on_ok_weaker c.push_active.result
    (λ e. e ∙ ap (λ ts. ts ++ active_of c.front.result.now) c.in_ok-push_all.ensures.ok ∙ front_joined c.args.lets.now.items c.args.readers.now c.args.writers.now c.front.result.now c.front.ensures)
    c.push_active.ensures.ok

pub returns-clause-full : goal.returns-clause-full
returns-clause-full c =
    let start = c.args.lets.now.items in
    let part : List Through = c.push_all.new.lets.items ++ active_of c.front.result.now in
    let is : part ≡ start ++ front_lets c.args.readers.now c.args.writers.now =
    ap (λ ts. ts ++ active_of c.front.result.now) c.in_ok-push_all.ensures.ok ∙ front_joined start c.args.readers.now c.args.writers.now c.front.result.now c.front.ensures in
    on_err_weaker c.push_active.result
    (λ few. no_room_for_part (vec_capacity c.args.lets.now) (vec_capacity c.push_all.new.lets) part [] (start ++ front_lets c.args.readers.now c.args.writers.now) (append-nil part ∙ is) c.push_all.ensures.kept few)
    c.push_active.ensures.full
