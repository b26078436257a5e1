use Rattle.std.proofs.Common.{List, map}
use Rattle.std.specs.List.{AllByRecursion, All}
use Rattle.std.proofs.lemmas.List.Elements.{All-map, recursion_from_All}
use Rattle.lt_ids.specs.declared.ticket.Through.{Through}
use Rattle.lt_entry.specs.Ranges.{IsTicket}
use Rattle.lt_entry.proofs.entry.Entry.parts_in_range.Goals as goal

tickets : (lets : List Through) → All (λ t. IsTicket t.ticket) lets → AllByRecursion IsTicket (map (λ t. t.ticket) lets)
tickets lets h = recursion_from_All IsTicket (map (λ t. t.ticket) lets) (All-map IsTicket (λ (t : Through). t.ticket) lets h)

pub returns : goal.returns
returns c = record {
  key = rw c.as_bytes.ensures.bytes at c.as_bytes.ensures.is_key;
  pass = (c.requires.low, c.requires.high);
  call = c.call_in_range.ensures c.requires.number;
  reply = c.reply_in_range.ensures;
  lets = tickets c.args.lets.now c.lets_in_range.ensures;
}
