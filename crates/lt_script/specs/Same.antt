-- Equality of keys with their accesses.
use Rattle.std.specs.Prelude.{ℕ, List, Bool}
use Rattle.std.specs.Ordering.{on, eq_of_both}
use Rattle.std.specs.Cmp.{IsEquivalence, and_equiv, on_equiv}
use Rattle.lt_ids.specs.declared.request.Access.{Access}
use Rattle.lt_ids.specs.contracts.key.KeyPartialEq.TheImpl as key
use Rattle.lt_ids.specs.contracts.key.KeyEq.TheImpl.Laws as key_laws
use Rattle.lt_ids.specs.contracts.request.AccessPartialEq.TheImpl as access
use Rattle.lt_ids.specs.contracts.request.AccessEq.TheImpl.Laws as access_laws

-- The same key and the same access.
abbrev pub same_access : List ℕ × Access → List ℕ × Access → Bool
same_access = eq_of_both (on (λ a. a.0) (key.ghosts).eq) (on (λ a. a.1) (access.ghosts).eq)

pub same_access_equiv : IsEquivalence same_access
same_access_equiv = and_equiv (on_equiv (λ a. a.0) key_laws.laws-law) (on_equiv (λ a. a.1) access_laws.laws-law)
