-- What the members that were read stand for.
use Rattle.serde_json.specs.View.{items_view}
use Rattle.lt_trace.specs.declared.object.JsonStep.{JsonStep}
use Rattle.lt_trace.specs.Json.{JsonParts}

abbrev pub json_parts : JsonStep → JsonParts
json_parts s = record { key = s.key.now; pass = s.pass; call = s.call.now; reply = s.reply.now; tickets = items_view s.tickets.now }
