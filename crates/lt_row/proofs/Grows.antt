-- How many requests are at a row, and room for their lets.
use Rattle.std.proofs.Common.{◌≡◌, ◌+◌, ◌≤◌, inl, inr, ℕ, suc, List, [], ◌∷◌, length, map, Result, Ok, Err, slice_get, ap, ◌∙◌, arith}
use Rattle.std.specs.Result.{IfOk, OnErr}
use Rattle.std.specs.Option.{option_map}
use Rattle.std.proofs.lemmas.List.{length-map}
use Rattle.lt_links.specs.declared.ids.QueueKind.{QueueKind}
use Rattle.lt_links.specs.declared.ids.QueueKind.TheVariants.{Writers, Readers, Reservation}
use Rattle.lt_links.specs.declared.stand.Stand.{Stand}
use Rattle.lt_links.specs.Maps.{Maps, queue}
use Rattle.lt_ids.specs.declared.ticket.Through.{Through}
use Rattle.lt_rules.specs.declared.call.Reply.{Reply}
use Rattle.lt_rules.specs.Rules.{Record, Outcome, stop_reading}
use Rattle.lt_rules.specs.Memory.{how_many, GrowsRoom}
use Rattle.lt_rules.proofs.Rooms.{there, how_many_is, stopped_many}
use Rattle.lt_row.specs.declared.row.Row.{Row}
use Rattle.lt_row.specs.Row.{request_of, writer_of, stand_at, line, queue_at, record_of}
use Rattle.lt_row.specs.RowStepped.{UpdatesRow}

first_counts : (l : List Stand) → there (option_map request_of (slice_get l 0)) ≤ length l
first_counts [] = omega arith
first_counts (s ∷ l) = omega arith

pub line_length : (m : Maps) (id : ℕ) (kind : QueueKind) → length (line m (queue_at id kind)) ≡ length (queue m (queue_at id kind))
line_length m id kind = length-map (queue m (queue_at id kind)) (stand_at m)

-- each request at a row has a node in its queues
pub many_there : (m : Maps) (r : Row) → how_many (record_of m r) ≤ length (queue m (queue_at r.id Writers)) + (length (queue m (queue_at r.id Readers)) + length (queue m (queue_at r.id Reservation)))
many_there m r =
    let all = how_many_is (record_of m r) in
    let first = first_counts (line m (queue_at r.id Reservation)) in
    let writers : length (map writer_of (line m (queue_at r.id Writers))) ≡ length (line m (queue_at r.id Writers)) = length-map (line m (queue_at r.id Writers)) writer_of in
    let readers : length (map request_of (line m (queue_at r.id Readers))) ≡ length (line m (queue_at r.id Readers)) = length-map (line m (queue_at r.id Readers)) request_of in
    let w = line_length m r.id Writers in
    let rs = line_length m r.id Readers in
    let s = line_length m r.id Reservation in
    omega (arith, all, first, writers, readers, w, rs, s)

-- a request that stops reading needs no more room
pub stopped_grows : (old new : Record) (number room : ℕ) → new ≡ stop_reading old number → GrowsRoom old new room
stopped_grows old new number room is = inl (let few = stopped_many old number in let same = ap how_many is in omega (arith, few, same))

-- with room for one more than there were, there is room for one more
pub grown : (old new : Record) (room more : ℕ) → GrowsRoom old new more → how_many new ≤ suc (how_many old) → room ≤ more → how_many old ≤ room → how_many new ≤ more
grown old new room more (inl few) one kept fits = omega (arith, few, kept, fits)
grown old new room more (inr fits) one kept had = omega (arith, fits, one)

-- a call that brings no request to the row keeps the room
pub room_kept : {E : Type 0} (result : Result Reply E) (old new : Maps) (r s : Row) (act : Record → Outcome) (lets : List Through) (room more : ℕ) → IfOk result (UpdatesRow old new r s act lets) → OnErr result ((new ≡ old) × (s ≡ r) × (lets ≡ [])) → how_many (act (record_of old r)).after ≤ how_many (record_of old r) → room ≤ more → how_many (record_of old r) ≤ room → how_many (record_of new s) ≤ more
room_kept (Ok reply) old new r s act lets room more went failed few kept fits =
    let now : how_many (record_of new s) ≡ how_many (act (record_of old r)).after = ap how_many went.is_outcome.moved in
    omega (arith, now, few, kept, fits)
room_kept (Err e) old new r s act lets room more went failed few kept fits =
    let same : record_of new s ≡ record_of old r = ap (λ m. record_of m s) failed.0 ∙ ap (record_of old) failed.1 in
    let now : how_many (record_of new s) ≡ how_many (record_of old r) = ap how_many same in
    omega (arith, now, kept, fits)
