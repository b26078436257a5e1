-- What C sees of the values of the rules.
use Rattle.std.specs.Prelude.{ℕ, Bool, true, false, List, ◌++◌, Option, Some, None, length, drop, replicate, unwrap_or}
use Rattle.lt_ids.specs.declared.ticket.Through.{Through}
use Rattle.lt_ids.specs.declared.timestamp.Timestamp.{Timestamp}
use Rattle.lt_rules.specs.declared.queued.Holder.{Holder}
use Rattle.lt_rules.specs.declared.queued.QueuedRequest.{QueuedRequest}
use Rattle.lt_rules.specs.declared.queued.QueuedWriter.{QueuedWriter}
use Rattle.lt_rules.specs.Rules.{Record}
use Rattle.lt_handles.specs.declared.shapes.LtThrough.{LtThrough}
use Rattle.lt_handles.specs.declared.shapes.LtTxn.{LtTxn}
use Rattle.lt_handles.specs.declared.shapes.LtQueued.{LtQueued}
use Rattle.lt_handles.specs.declared.shapes.LtKey.{LtKey}
use Rattle.lt_handles.specs.declared.shapes.LtKeyName.{LtKeyName}
use Rattle.lt_handles.specs.Codes.{txn_number}

abbrev pub raw_let : Through → LtThrough
raw_let t = record { number = t.ticket.number; wait = t.ticket.wait; pass = t.pass }

abbrev pub raw_queued : QueuedRequest → Bool → LtQueued
raw_queued q active = record {
  number = q.ticket.number;
  txn = txn_number q.txn;
  wall = q.ts.wall;
  logical = q.ts.logical;
  wait = q.ticket.wait;
  pass = q.pass;
  active = active;
}

abbrev pub raw_writer : QueuedWriter → LtQueued
raw_writer w = raw_queued w.request w.active

-- a reader waits as long as it is queued
abbrev pub raw_reader : QueuedRequest → LtQueued
raw_reader q = raw_queued q true

-- the key's bytes, and zeros after them
abbrev pub raw_key_name : List ℕ → LtKeyName
raw_key_name key = record { len = length key; bytes = key ++ drop (length key) (replicate 64 0) }

abbrev pub no_queued : LtQueued
no_queued = record { number = 0; txn = 0; wall = 0; logical = 0; wait = 0; pass = 0; active = false }

abbrev pub raw_reservation : Option QueuedRequest → LtQueued
raw_reservation None = no_queued
raw_reservation (Some q) = raw_queued q false

abbrev pub raw_holder : Option Holder → LtTxn
raw_holder None = record { txn = 0; wall = 0; logical = 0 }
raw_holder (Some h) = record { txn = h.txn; wall = h.ts.wall; logical = h.ts.logical }

abbrev pub raw_key : Record → LtKey
raw_key r = record {
  holder = (raw_holder r.holder).txn;
  wall = (raw_holder r.holder).wall;
  logical = (raw_holder r.holder).logical;
  distinguished = unwrap_or r.distinguished 0;
  reservation = raw_reservation r.reservation;
  writers = length r.writers;
  readers = length r.readers;
}

-- the timestamp of a transaction that C names
abbrev pub txn_time : LtTxn → Timestamp
txn_time by = record { wall = by.wall; logical = by.logical }
