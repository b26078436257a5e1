-- Reading tickets one after the other, as the loop does.
use Rattle.std.proofs.Common.{List, ◌++◌, Option, Some}
use Rattle.lt_ids.specs.Ids.{Wait}
use Rattle.lt_text.specs.Maybe.{◌>>=◌}

-- What was read so far, followed by what is still to be read.
abbrev pub with_prefix : List Wait → Option (List Wait) → Option (List Wait)
with_prefix prefix read = read >>= λ ts. Some (prefix ++ ts)
