use Rattle.std.proofs.Common.{◌≡◌, ◌≤◌, [], ap, arith, subst, sym, vec_capacity}
use Rattle.lt_rules.specs.Rules.{Record}
use Rattle.lt_rules.specs.Memory.{how_many}
use Rattle.lt_plain.proofs.Rooms.{visited_room}
use Rattle.lt_plain.proofs.plain_record.PlainRecord.visit.Goals as goal

pub returns-clause-room : goal.returns-clause-room
returns-clause-room c has =
    subst (λ (r : Record). how_many r ≤ vec_capacity c.visit_lock.new.lets) (sym c.settle.ensures)
    (visited_room c.args.self.now c.visit_lock.new.self c.args.q c.args.longest c.args.access c.in_ok-reply.reply [] (vec_capacity c.args.lets.now) (vec_capacity c.visit_lock.new.lets) c.in_ok-reply.ensures.ok c.in_ok-reply.ensures.room c.visit_lock.ensures.kept has)

pub returns-in_err-reply-clause-room : goal.returns-in_err-reply-clause-room
returns-in_err-reply-clause-room c has =
    let same : how_many c.visit_lock.new.self ≡ how_many c.args.self.now = ap (λ (r : Record). how_many r) c.in_err-reply.ensures.err in
    let kept = c.visit_lock.ensures.kept in
    omega (arith, same, has, kept)
