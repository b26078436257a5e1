-- A result that is known to be Ok.
use Rattle.std.proofs.Common.{Result, Ok, Err}
use mathlib.Core.Bool.{true≢false}
use Rattle.std.proofs.Common.{sym}
use Rattle.std.specs.Result.{OnOk, IsOk}

pub ok_on : {T E P : Type 0} (r : Result T E) → IsOk r → OnOk r P → P
ok_on (Ok v) is p = p
ok_on (Err e) is p = absurd (true≢false (sym is))
