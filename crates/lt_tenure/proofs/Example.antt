-- The history of the example is legal, and its transactions committed in it.
use Rattle.std.proofs.Common.{◌≡◌, ℕ, ◌+◌, Bool, true, false, cond, List, [], ◌∷◌, map, take, drop, get_or, refl, sym, ap, ◌∙◌, arith}
use Rattle.std.specs.Str.{bytes_eq}
use Rattle.lt_rules.specs.Step.{IsLegal}
use Rattle.lt_entry.specs.declared.entry.Entry.{Entry}
use Rattle.lt_entry.specs.Legal.{event_of}
use Rattle.lt_words.specs.declared.event.Event.{Event}
use Rattle.lt_words.specs.History.{IsLegalHistory, key_history, steps_of}
use Rattle.lt_tenure.specs.Tenure.{IsHeldAt}
use Rattle.lt_tenure.specs.Example.{key_a, key_b, example_history, ExampleOwners, SomeCommit}
use Rattle.lt_tenure.proofs.Lists.{equal_bytes}

-- the steps at a key: those marked true if it is a, and those marked false if it is b
abbrev among : Bool → Bool → List Bool → List Entry → List Entry
among a b [] es = []
among a b (m ∷ ms) [] = []
among a b (m ∷ ms) (e ∷ es) = cond (cond m a b) (e ∷ among a b ms es) (among a b ms es)

abbrev marks : List Bool
marks = true ∷ true ∷ false ∷ true ∷ true ∷ true ∷ true ∷ false ∷ []

legal_among : (a b : Bool) → (a ≡ true → b ≡ true → ⊥) → IsLegal (map event_of (among a b marks (steps_of example_history)))
legal_among true true apart = absurd (apart refl refl)
legal_among true false apart = (refl, refl, (refl, refl, (refl, refl, (refl, refl, (refl, refl, (refl, refl, tt))))))
legal_among false true apart = (refl, refl, (refl, refl, tt))
legal_among false false apart = tt

two_keys : (key : List ℕ) → bytes_eq key_a key ≡ true → bytes_eq key_b key ≡ true → ⊥
two_keys key a b =
    let same : key_a ≡ key_b = equal_bytes key_a key a ∙ sym (equal_bytes key_b key b) in
    let heads : 97 ≡ 98 = ap (λ (ks : List ℕ). get_or ks 0 0) same in
    omega (arith, heads)

legal_keys : (key : List ℕ) → IsLegal (key_history key (steps_of example_history))
legal_keys key = legal_among (bytes_eq key_a key) (bytes_eq key_b key) (two_keys key)

legal : IsLegalHistory 1 example_history
legal = record { keys = legal_keys; home = (refl, (refl, (refl, (refl, (refl, (refl, (refl, (refl, tt)))))))); draws = tt }

abbrev after_step : ℕ → List Event
after_step n = take (n + 1) example_history

-- transaction 2 holds b at its lock point
of_two_b : IsHeldAt 1 example_history (after_step 5) 2 (record { key = key_b; taken = 2; freed = 7 })
of_two_b = record {
  tenure = record {
    took = (_, record { wall = 2; logical = 0 }, refl, refl, refl, refl);
    freed = (_, refl, refl, refl, refl);
    owned = refl;
  };
  before = omega arith;
  after = omega arith;
}

-- and a
of_two_a : IsHeldAt 1 example_history (after_step 5) 2 (record { key = key_a; taken = 5; freed = 6 })
of_two_a = record {
  tenure = record {
    took = (_, record { wall = 2; logical = 0 }, refl, refl, refl, refl);
    freed = (_, refl, refl, refl, refl);
    owned = refl;
  };
  before = omega arith;
  after = omega arith;
}

-- transaction 1 holds a at its lock point, in what its pass has seen
of_one_a : IsHeldAt 1 (after_step 4) (after_step 3) 1 (record { key = key_a; taken = 0; freed = 4 })
of_one_a = record {
  tenure = record {
    took = (_, record { wall = 1; logical = 0 }, refl, refl, refl, refl);
    freed = (_, refl, refl, refl, refl);
    owned = refl;
  };
  before = omega arith;
  after = omega arith;
}

pub example_owners : ExampleOwners
example_owners = refl

pub some_commit : SomeCommit
some_commit = (
  legal,
  record {
    seen = (([], refl), ((drop 5 example_history, refl), tt));
    each = (
      record { within = (drop 6 example_history, refl); held = (of_two_b, (of_two_a, tt)) },
      (record { within = (drop 4 (after_step 4), refl); held = (of_one_a, tt) }, tt),
    );
  },
  (((λ is. cc is), tt), (tt, tt)),
)
