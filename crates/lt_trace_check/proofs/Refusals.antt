-- Each fault of a line that may not come next is its own reason.
use Rattle.std.proofs.Common.{◌≡◌, ◌<◌, ◌^◌, ◌⊎◌, ℕ, List, inl, inr, sym, subst}
use Rattle.std.specs.Global.{Vec}
use Rattle.lt_checker.specs.declared.error.Fault.{Fault}
use Rattle.lt_checker.specs.declared.error.Fault.TheVariants.{Header, Shape, KeyOrder, Index, WrongReply, WrongLets}
use Rattle.lt_checker.specs.declared.pieces.Checker.{Checker}
use Rattle.lt_checker.specs.Cursor.{spot}
use Rattle.lt_checker.specs.Pieces.{NoLineComesNext}
use Rattle.lt_checker.specs.Text.{index_after}
use Rattle.lt_trace_check.specs.declared.reason.LineReason.{LineReason}
use Rattle.lt_trace_check.specs.Audit.{IsNoLine}
use Rattle.lt_trace_check.specs.Reasons.{IsRefusedFor, IsOtherShape, IsKeyReason, reason_of}

header : (c : Checker) (bytes : List ℕ) → IsRefusedFor c bytes Header → IsOtherShape c bytes
header c bytes (inl it) = absurd it
header c bytes (inr e) = absurd e.4

shape : (c : Checker) (bytes : List ℕ) → IsRefusedFor c bytes Shape → IsOtherShape c bytes
shape c bytes (inl it) = it
shape c bytes (inr e) = absurd e.4

reply : (c : Checker) (bytes : List ℕ) → NoLineComesNext c.report.version (spot c.cursor) bytes → IsRefusedFor c bytes WrongReply → IsOtherShape c bytes
reply c bytes none (inl it) = absurd it
reply c bytes none (inr e) = absurd (none e.0 e.1 e.2 e.3 e.4.0 e.4.1)

lets : (c : Checker) (bytes : List ℕ) → NoLineComesNext c.report.version (spot c.cursor) bytes → IsRefusedFor c bytes WrongLets → IsOtherShape c bytes
lets c bytes none (inl it) = absurd it
lets c bytes none (inr e) = absurd (none e.0 e.1 e.2 e.3 e.4.0 e.4.1)

own : (c : Checker) (key bytes : List ℕ) (latest : Vec ℕ) (due : ℕ) (fault : Fault) → latest.items ≡ (spot c.cursor).key → (index_after (spot c.cursor) key < 2 ^ 64 → due ≡ index_after (spot c.cursor) key) → IsRefusedFor c bytes fault → NoLineComesNext c.report.version (spot c.cursor) bytes → IsKeyReason c key bytes (reason_of fault latest due)
own c key bytes latest due Header is next refused none = header c bytes refused
own c key bytes latest due Shape is next refused none = shape c bytes refused
own c key bytes latest due KeyOrder is next refused none = (refused, is)
own c key bytes latest due Index is next refused none = (refused, next)
own c key bytes latest due WrongReply is next refused none = reply c bytes none refused
own c key bytes latest due WrongLets is next refused none = lets c bytes none refused

pub refusal_is_reason : (c : Checker) (key bytes : List ℕ) (latest : Vec ℕ) (due : ℕ) (fault : Fault) (r : LineReason) → r ≡ reason_of fault latest due → latest.items ≡ (spot c.cursor).key → (index_after (spot c.cursor) key < 2 ^ 64 → due ≡ index_after (spot c.cursor) key) → IsRefusedFor c bytes fault → NoLineComesNext c.report.version (spot c.cursor) bytes → IsKeyReason c key bytes r
refusal_is_reason c key bytes latest due fault r said is next refused none =
    subst (IsKeyReason c key bytes) (sym said) (own c key bytes latest due fault is next refused none)

-- Bytes that are no line are no line of a version.
pub no_line_is_other : (c : Checker) (bytes : List ℕ) → IsNoLine bytes → IsOtherShape c bytes
no_line_is_other c bytes none = λ p line of text. none p line text
