-- The line of a trace that a JSON object spells.
use Rattle.std.specs.Prelude.{ℕ, ◌≡◌, ◌+◌, ◌==◌, Bool, true, false, ⊤, if◌then◌else◌, is_some, IsSome, List, [], ◌∷◌, ◌++◌, Option, Some, None, Result, Ok, Err, decimal, codes, IsUtf8}
use Rattle.std.specs.List.{slice_split}
use Rattle.serde_json.specs.Data.{Data, Items, no_items, item, Members, no_members, member}
use Rattle.serde_json.specs.Find.{get, as_str, as_number, as_u64, as_array, as_object}
use Rattle.serde_json.specs.Read.{read as read_text}
use Rattle.lt_rules.specs.declared.call.Reply.{Reply}
use Rattle.lt_text.specs.Maybe.{◌>>=◌}
use Rattle.lt_text.specs.Fields.{ticket_of}
use Rattle.lt_text.specs.Replies.{reply_at}
use Rattle.lt_trace.specs.declared.error.TraceFault.TheVariants.{Shape, Json}
use Rattle.lt_trace.specs.declared.error.TraceLineError.{TraceLineError}
use Rattle.lt_trace.specs.declared.error.TraceLineError.TheVariants as refusals
use Rattle.lt_trace.specs.declared.line.TraceLine.{TraceLine}
use Rattle.lt_trace.specs.Step.{line_of_parts}
use Rattle.lt_trace.specs.Trace.{parts_of_line}

-- ---- the members

-- The member of this name, if it is a text.
abbrev pub text_member : List ℕ → Data → Option (List ℕ)
text_member name d = get name d >>= as_str

-- The member of this name, if it is a number below 2^64.
abbrev pub number_member : List ℕ → Data → Option ℕ
number_member name d = get name d >>= λ m. as_number m >>= as_u64

abbrev pub list_or_none : Option Data → Option Items
list_or_none None = Some no_items
list_or_none (Some m) = as_array m

-- The list of what was let through, which is empty if there is no such member.
abbrev pub ticket_member : Data → Option Items
ticket_member d = list_or_none (get (codes "let") d)

abbrev pub members_length : Members → ℕ
members_length no_members = 0
members_length (member name d ms) = members_length ms + 1

abbrev pub length_or_0 : Option Members → ℕ
length_or_0 None = 0
length_or_0 (Some ms) = members_length ms

abbrev pub member_count : Data → ℕ
member_count d = length_or_0 (as_object d)

-- How many members a step has.
abbrev pub step_member_count : Data → ℕ
step_member_count d = if is_some (get (codes "let") d) then 5 else 4

-- The members of an object that spells a step.
pub record JsonParts : Type 0 where
  pub key : List ℕ
  pub pass : ℕ
  pub call : List ℕ
  pub reply : List ℕ
  pub tickets : Items

-- The members of the object, if it has those of a step, each of its type, and no others.
unfoldable pub json_step_of : Data → Option JsonParts
json_step_of d = do
  key ← text_member (codes "key") d
  pass ← number_member (codes "pass") d
  call ← text_member (codes "call") d
  reply ← text_member (codes "reply") d
  tickets ← ticket_member d
  if member_count d == step_member_count d then Some (record { key = key; pass = pass; call = call; reply = reply; tickets = tickets }) else None

-- ---- the line

-- No word follows.
abbrev pub is_end : Option (Reply × List (List ℕ)) → Bool
is_end None = false
is_end (Some (reply, [])) = true
is_end (Some (reply, word ∷ words)) = false

-- The text is that of a reply, and no more.
abbrev pub is_whole_reply : List ℕ → Bool
is_whole_reply text = is_end (reply_at (slice_split (λ b. b == 32) text))

-- The text of this value, if it is that of a ticket.
abbrev pub ticket_text : Data → Option (List ℕ)
ticket_text d = do
  text ← as_str d
  ticket ← ticket_of text
  Some text

-- Each ticket after a space, if each is the text of a ticket.
abbrev pub ticket_bytes : Items → Option (List ℕ)
ticket_bytes no_items = Some []
ticket_bytes (item d ds) = do
  text ← ticket_text d
  others ← ticket_bytes ds
  Some (32 ∷ text ++ others)

-- No bytes for no tickets, or ` let` and the tickets.
abbrev pub let_bytes : Items → Option (List ℕ)
let_bytes no_items = Some []
let_bytes (item d ds) = ticket_bytes (item d ds) >>= λ bytes. Some (32 ∷ codes "let" ++ bytes)

-- The bytes before those of the tickets.
abbrev pub step_bytes : JsonParts → List ℕ
step_bytes p = decimal p.pass ++ 32 ∷ p.call ++ 32 ∷ codes "=" ++ 32 ∷ p.reply

-- The bytes of the step after its key, if the reply and the tickets are texts of these.
unfoldable pub json_step_text : JsonParts → Option (List ℕ)
json_step_text p = if is_whole_reply p.reply then (let_bytes p.tickets >>= λ lets. Some (step_bytes p ++ lets)) else None

-- The line with these members: its key, and the bytes after the key and a space.
abbrev pub json_parts_line : JsonParts → Option (List ℕ × List ℕ)
json_parts_line p = do
  text ← json_step_text p
  line_of_parts p.key text

-- The line that the object spells.
abbrev pub json_line_of : Data → Option (List ℕ × List ℕ)
json_line_of d = json_step_of d >>= json_parts_line

-- The line that was read is the one that the object spells. The fault is Json exactly if the object does not have the
-- members of a step. Out of memory says nothing about the object.
abbrev pub IsReadFromJson : Data → Result TraceLine TraceLineError → Type 0
IsReadFromJson d (Ok line) = json_line_of d ≡ Some (parts_of_line line)
IsReadFromJson d (Err refusals.Memory) = ⊤
IsReadFromJson d (Err (refusals.Fault Json)) = json_step_of d ≡ None
IsReadFromJson d (Err (refusals.Fault Shape)) = IsSome (json_step_of d) × (json_line_of d ≡ None)

-- The bytes with these before them, if there are any.
abbrev pub after_bytes : List ℕ → Option (List ℕ) → Option (List ℕ)
after_bytes before None = None
after_bytes before (Some bytes) = Some (before ++ bytes)

-- The bytes were appended, or there are none to append.
abbrev pub AppendsIfAny : List ℕ → List ℕ → Option (List ℕ) → Bool → Type 0
AppendsIfAny old new bytes true = Some new ≡ after_bytes old bytes
AppendsIfAny old new bytes false = bytes ≡ None

-- The bytes are the text of an object that spells this line.
pub record IsLineOfObject (bytes : List ℕ) (line : TraceLine) : Type 0 where
  pub object : Data
  pub is_utf8 : IsUtf8 bytes
  pub reads : read_text bytes ≡ Some object
  pub spells : json_line_of object ≡ Some (parts_of_line line)

-- The bytes are not the text of an object with the members of a step.
abbrev pub HasNoMembers : List ℕ → Type 0
HasNoMembers bytes = (d : Data) → IsUtf8 bytes → read_text bytes ≡ Some d → json_step_of d ≡ None

-- The bytes are the text of an object with the members of a step, and it spells no line.
pub record IsMisspelt (bytes : List ℕ) : Type 0 where
  pub object : Data
  pub is_utf8 : IsUtf8 bytes
  pub reads : read_text bytes ≡ Some object
  pub members : IsSome (json_step_of object)
  pub spells : json_line_of object ≡ None

-- The fault is right. Out of memory says nothing about the bytes.
abbrev pub IsRefusalOf : List ℕ → TraceLineError → Type 0
IsRefusalOf bytes refusals.Memory = ⊤
IsRefusalOf bytes (refusals.Fault Json) = HasNoMembers bytes
IsRefusalOf bytes (refusals.Fault Shape) = IsMisspelt bytes
