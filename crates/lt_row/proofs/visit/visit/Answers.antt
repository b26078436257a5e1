use Rattle.std.proofs.Common.{◌≡◌, ◌≤◌, ◌∙◌, suc, vec_capacity, sym, ap, subst}
use Rattle.lt_rules.specs.Rules.{settle}
use Rattle.lt_rules.specs.Memory.{how_many}
use Rattle.lt_rules.specs.Visit.{visit_case}
use Rattle.lt_rules.proofs.Rooms.{visit_many}
use Rattle.lt_row.specs.Row.{record_of, request_of}
use Rattle.lt_row.specs.RowStepped.{MakesRoom, VisitsRow}
use Rattle.lt_row.proofs.Grows.{grown}
use Rattle.lt_row.proofs.Visits.{visited_distinct}
use Rattle.lt_row.proofs.visit.visit.Goals.{in-Read+in_ok-reply-in-Read, in-Write+in_ok-reply-in-Write}
use Rattle.lt_row.proofs.visit.visit.Goals as goal

-- what either kind of visit did, before the election
abbrev Visited : goal.After-settle-arg-1 → Type 0
Visited c = VisitsRow c.args.links.now c.match-access.links c.args.row.now c.args.stand.now (λ r q. visit_case r q c.args.longest c.args.access) c.match-access.reply

visited : (c : goal.After-settle-arg-1) → Visited c
visited c = elim c.match-access.branch [
  | in-Read+in_ok-reply-in-Read w ↦ rw (w.in-Read.is, w.links-is, w.reply-is) (w.in_ok-reply-in-Read.ensures.ok c.args.longest)
  | in-Write+in_ok-reply-in-Write w ↦ rw (w.in-Write.is, w.links-is, w.reply-is) w.in_ok-reply-in-Write.ensures.ok
]

roomy : (c : goal.After-settle-arg-1) → MakesRoom c.args.links.now c.match-access.links c.args.row.now (vec_capacity c.match-access.lets)
roomy c = elim c.match-access.branch [
  | in-Read+in_ok-reply-in-Read w ↦ rw (w.links-is, w.lets-is) w.in_ok-reply-in-Read.ensures.room
  | in-Write+in_ok-reply-in-Write w ↦ rw (w.links-is, w.lets-is) w.in_ok-reply-in-Write.ensures.room
]

kept : (c : goal.After-settle-arg-1) → vec_capacity c.args.lets.now ≤ vec_capacity c.match-access.lets
kept c = elim c.match-access.branch [
  | in-Read+in_ok-reply-in-Read w ↦ rw (w.lets-is) w.visit_to_read.ensures.kept
  | in-Write+in_ok-reply-in-Write w ↦ rw (w.lets-is) w.visit_to_write.ensures.kept
]

pub settle-requires-clause-distinct : goal.settle-requires-clause-distinct
settle-requires-clause-distinct c =
    visited_distinct c.args.links.now c.match-access.links c.args.row.now c.args.stand.now c.args.longest c.args.access c.match-access.reply c.requires.row (visited c)

pub settle-requires-clause-linked : goal.settle-requires-clause-linked
settle-requires-clause-linked c = (visited c).linked

pub returns-clause-ok : goal.returns-clause-ok
returns-clause-ok c =
    let went = visited c.before in
    record {
      same_id = c.settle.ensures.id;
      is_outcome = record {
        moved = c.settle.ensures.record ∙ ap settle went.is_outcome.moved;
        replied = went.is_outcome.replied;
        let_through = went.is_outcome.let_through;
      };
      linked = went.linked;
      others = went.others;
    }

pub returns-clause-room : goal.returns-clause-room
returns-clause-room c = λ fits.
    let old = record_of c.args.links.now c.args.row.now in
    let new = record_of c.match-access.links c.args.row.now in
    let went = visited c.before in
    let same : how_many (record_of c.match-access.links c.settle.new.row) ≡ how_many new = ap how_many c.settle.ensures.record in
    let one : how_many new ≤ suc (how_many old) = subst (λ r. how_many r ≤ suc (how_many old)) (sym went.is_outcome.moved) (visit_many old (request_of c.args.stand.now) c.args.longest c.args.access) in
    let few : how_many new ≤ vec_capacity c.match-access.lets = grown old new (vec_capacity c.args.lets.now) (vec_capacity c.match-access.lets) (roomy c.before) one (kept c.before) fits in
    subst (λ n. n ≤ vec_capacity c.match-access.lets) (sym same) few
