-- Timestamps and their order, the numbers of requests and of waits, and the word that encodes a ticket.
use Rattle.std.specs.Prelude.{Bool, ℕ, ◌==◌, ◌+◌, ◌*◌, ◌/◌, ◌%◌, ◌^◌, ◌<◌, ◌≤◌, ◌≡◌}
use Rattle.std.specs.Ordering.{nat_cmp, on, then_cmp, is_lt, eq_of_both}
use Rattle.std.specs.declared.cmp.Ordering.{Ordering}
use Rattle.lt_ids.specs.declared.timestamp.Timestamp.{Timestamp}
use Rattle.std.specs.Cmp.{IsEquivalence}
use Rattle.std.specs.Cmp.Rules.{comparing}
use Rattle.std.proofs.Common.{rules}

-- the order of timestamps: by wall, then by logical
abbrev pub timestamp_cmp : Timestamp → Timestamp → Ordering
timestamp_cmp = then_cmp (on (λ t. t.wall) nat_cmp) (on (λ t. t.logical) nat_cmp)

abbrev pub is_below : Timestamp → Timestamp → Bool
is_below a b = is_lt (timestamp_cmp a b)

-- one wait: the number of the request, and the number of the wait within that request
pub record Wait : Type 0 where
  pub number : ℕ
  pub wait : ℕ

-- the word that encodes a wait
abbrev pub value_of : Wait → ℕ
value_of t = t.number * 2 ^ 24 + t.wait

-- the wait that a word encodes
abbrev pub wait_of : ℕ → Wait
wait_of v = record { number = v / 2 ^ 24; wait = v % 2 ^ 24 }

abbrev pub same_wait : Wait → Wait → Bool
same_wait = eq_of_both (on (λ w. w.number) ◌==◌) (on (λ w. w.wait) ◌==◌)

pub same_wait_equiv : IsEquivalence same_wait
same_wait_equiv = Prim.search (comparing, rules)

-- the range of a request's number
abbrev pub IsNumber : ℕ → Type 0
IsNumber n = (1 ≤ n) × (n < 2 ^ 40)

-- the range of a wait number
abbrev pub IsWaitNumber : ℕ → Type 0
IsWaitNumber n = (1 ≤ n) × (n < 2 ^ 24)

-- No other wait with numbers in their ranges has this value.
abbrev pub IsOnlyWaitOf : ℕ → Wait → Type 0
IsOnlyWaitOf value wait =
    (other : Wait) → IsNumber other.number → IsWaitNumber other.wait → value_of other ≡ value → other ≡ wait
