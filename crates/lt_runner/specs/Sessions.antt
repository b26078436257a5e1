-- The session of a pass: what it has between two of its lines.
use Rattle.std.specs.Prelude.{Option, Some, None}
use Rattle.lt_words.specs.Row.{PassState}
use Rattle.lt_walk.specs.Machine.{WalkState}
use Rattle.lt_runner.specs.declared.session.Session.{Session}
use Rattle.lt_runner.specs.declared.session.Session.TheVariants.{Free, Open}

-- The request of the session, if it has one.
abbrev pub session_request : Session → Option WalkState
session_request (Free p) = None
session_request (Open g) = Some g.walk

abbrev pub session_pass : Session → PassState
session_pass (Free p) = p
session_pass (Open g) = g.pass
