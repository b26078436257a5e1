-- The keys that were collected so far, and the key list that they make.
use Rattle.std.proofs.Common.{◌≡◌, ◌≢◌, ◌⊎◌, inl, inr, ℕ, List, [], ◌∷◌, ◌++◌, sym, ◌∙◌, ap, ◌+◌, ◌<◌, length, take, get_or, ◌≤◌}
use Rattle.std.proofs.lemmas.List.{take_more, take_all}
use Rattle.lt_walk.specs.Keys.{IsOnlyRead, AreTheKeys, Among}
use Rattle.std.specs.Prelude.{Contains, ◌↔◌}
use Rattle.std.proofs.lemmas.List.Elements.{Contains-append_left, Contains-push, Contains-push_cases}
use Rattle.lt_ids.specs.declared.request.Access.{Access}
use Rattle.lt_ids.specs.declared.request.Access.TheVariants.{Read, Write}

-- the list has exactly the keys that satisfy P
pub record Holds (keys : List (List ℕ)) (P : List ℕ → Type 0) : Type 0 where
  pub each : (k : List ℕ) → Contains keys k → P k
  pub all : (k : List ℕ) → P k → Contains keys k

abbrev pub IsWritten : List (List ℕ × Access) → List ℕ → Type 0
IsWritten given k = Contains given (k, Write)

-- read by an access that was met so far, and written by none of those given
abbrev pub IsRead : List (List ℕ × Access) → List (List ℕ × Access) → List ℕ → Type 0
IsRead given met k = Contains met (k, Read) × (¬ Contains given (k, Write))

-- ---- one more access is met

-- an access of another kind
other_pushed : (given : List (List ℕ × Access)) (key k : List ℕ) (a b : Access) → a ≢ b → Contains (given ++ (key, a) ∷ []) (k, b) → Contains given (k, b)
other_pushed given key k a b other h = elim (Contains-push_cases given (key, a) (k, b) h) [
  | inl c ↦ c
  | inr e ↦ absurd (other (ap (λ x. x.1) e))
]

-- an access of this kind
same_pushed : (given : List (List ℕ × Access)) (key k : List ℕ) (a : Access) → Contains (given ++ (key, a) ∷ []) (k, a) → Contains given (k, a) ⊎ (key ≡ k)
same_pushed given key k a h = elim (Contains-push_cases given (key, a) (k, a) h) [
  | inl c ↦ inl c
  | inr e ↦ inr (ap (λ x. x.0) e)
]

key_pushed : (keys : List (List ℕ)) (key k : List ℕ) → key ≡ k → Contains (keys ++ key ∷ []) k
key_pushed keys key k e = rw e (Contains-push keys k)

access_pushed : (given : List (List ℕ × Access)) (key k : List ℕ) (a : Access) → key ≡ k → Contains (given ++ (key, a) ∷ []) (k, a)
access_pushed given key k a e = rw e (Contains-push given (k, a))

write_met : (keys : List (List ℕ)) (given : List (List ℕ × Access)) (key : List ℕ) → Holds keys (IsWritten given) → Holds (keys ++ key ∷ []) (IsWritten (given ++ (key, Write) ∷ []))
write_met keys given key h = record {
  each = λ k c. elim (Contains-push_cases keys key k c) [
    | inl d ↦ Contains-append_left given ((key, Write) ∷ []) (k, Write) (h.each k d)
    | inr e ↦ access_pushed given key k Write e
  ];
  all = λ k c. elim (same_pushed given key k Write c) [
    | inl d ↦ Contains-append_left keys (key ∷ []) k (h.all k d)
    | inr e ↦ key_pushed keys key k e
  ];
}

read_met : (keys : List (List ℕ)) (given : List (List ℕ × Access)) (key : List ℕ) (a : Access) → a ≢ Write → Holds keys (IsWritten given) → Holds keys (IsWritten (given ++ (key, a) ∷ []))
read_met keys given key a other h = record {
  each = λ k c. Contains-append_left given ((key, a) ∷ []) (k, Write) (h.each k c);
  all = λ k c. h.all k (other_pushed given key k a Write other c);
}

-- the prefix that is one longer
taken : (given : List (List ℕ × Access)) (i : ℕ) (item : List ℕ × Access) → i < length given → item ≡ get_or given i item → take (i + 1) given ≡ take i given ++ item ∷ []
taken given i item lt is = take_more given i item lt ∙ ap (λ x. take i given ++ x ∷ []) (sym is)

pub written_more : (keys after : List (List ℕ)) (given : List (List ℕ × Access)) (i : ℕ) (item : List ℕ × Access) → i < length given → item ≡ get_or given i item → Holds keys (IsWritten (take i given)) →
    ((item.1 ≡ Write) × (after ≡ keys ++ item.0 ∷ [])) ⊎ ((item.1 ≢ Write) × (after ≡ keys)) → Holds after (IsWritten (take (i + 1) given))
written_more keys after given i item lt is h (inl w) =
    let one : item ≡ (item.0, Write) = λ j. (item.0, w.0 j) in
    let next : take (i + 1) given ≡ take i given ++ (item.0, Write) ∷ [] = taken given i item lt is ∙ ap (λ x. take i given ++ x ∷ []) one in
    rw (next, w.1) (write_met keys (take i given) item.0 h)
written_more keys after given i item lt is h (inr r) = rw (taken given i item lt is, r.1) (read_met keys (take i given) item.0 item.1 r.0 h)

one_read_met : (given : List (List ℕ × Access)) (keys : List (List ℕ)) (met : List (List ℕ × Access)) (key : List ℕ) → (¬ Contains given (key, Write)) → Holds keys (IsRead given met) → Holds (keys ++ key ∷ []) (IsRead given (met ++ (key, Read) ∷ []))
one_read_met given keys met key unwritten h = record {
  each = λ k c. elim (Contains-push_cases keys key k c) [
    | inl d ↦ (Contains-append_left met ((key, Read) ∷ []) (k, Read) (h.each k d).0, (h.each k d).1)
    | inr e ↦ (access_pushed met key k Read e, λ w. unwritten (rw e w))
  ];
  all = λ k c. elim (same_pushed met key k Read c.0) [
    | inl d ↦ Contains-append_left keys (key ∷ []) k (h.all k (d, c.1))
    | inr e ↦ key_pushed keys key k e
  ];
}

-- a write, or a read of a key that is written
no_read_met : (given : List (List ℕ × Access)) (keys : List (List ℕ)) (met : List (List ℕ × Access)) (key : List ℕ) (a : Access) → (a ≡ Read → (¬ Contains given (key, Write)) → ⊥) → Holds keys (IsRead given met) → Holds keys (IsRead given (met ++ (key, a) ∷ []))
no_read_met given keys met key a none h = record {
  each = λ k c. (Contains-append_left met ((key, a) ∷ []) (k, Read) (h.each k c).0, (h.each k c).1);
  all = λ k c. elim (Contains-push_cases met (key, a) (k, Read) c.0) [
    | inl d ↦ h.all k (d, c.1)
    | inr e ↦ absurd (none (ap (λ x. x.1) e) (λ w. c.1 (rw (sym (ap (λ x. x.0) e)) w)))
  ];
}

pub read_more : (writes keys after : List (List ℕ)) (given : List (List ℕ × Access)) (i : ℕ) (item : List ℕ × Access) → i < length given → item ≡ get_or given i item →
    ((k : List ℕ) → Contains writes k ↔ Contains given (k, Write)) → Holds keys (IsRead given (take i given)) →
    (IsOnlyRead writes item.0 item.1 × (after ≡ keys ++ item.0 ∷ [])) ⊎ ((¬ IsOnlyRead writes item.0 item.1) × (after ≡ keys)) → Holds after (IsRead given (take (i + 1) given))
read_more writes keys after given i item lt is are h (inl r) =
    let one : item ≡ (item.0, Read) = λ j. (item.0, r.0.0 j) in
    let next : take (i + 1) given ≡ take i given ++ (item.0, Read) ∷ [] = taken given i item lt is ∙ ap (λ x. take i given ++ x ∷ []) one in
    rw (next, r.1) (one_read_met given keys (take i given) item.0 (λ w. r.0.1 ((are item.0).1 w)) h)
read_more writes keys after given i item lt is are h (inr r) =
    rw (taken given i item lt is, r.1) (no_read_met given keys (take i given) item.0 item.1 (λ e n. r.0 (e, λ w. n ((are item.0).0 w))) h)

-- ---- the lists that they make

-- the same list, for an equivalent fact
AreTheKeys-same : (keys : List (List ℕ)) (P Q : List ℕ → Type 0) → AreTheKeys keys P → ((k : List ℕ) → P k → Q k) → ((k : List ℕ) → Q k → P k) → AreTheKeys keys Q
AreTheKeys-same keys P Q a there back = record { rise = a.rise; are = λ k. (λ h. there k ((a.are k).0 h), λ h. (a.are k).1 (back k h)) }

-- once every access was met
pub all_written : (sorted keys : List (List ℕ)) (given : List (List ℕ × Access)) (i : ℕ) → length given ≤ i → Holds keys (IsWritten (take i given)) → AreTheKeys sorted (Among keys) → AreTheKeys sorted (λ k. Contains given (k, Write))
all_written sorted keys given i end h a =
    let whole : Holds keys (IsWritten given) = rw (take_all i given end) at h in
    AreTheKeys-same sorted (Among keys) (λ k. Contains given (k, Write)) a whole.each whole.all

pub all_read : (sorted keys : List (List ℕ)) (given : List (List ℕ × Access)) (i : ℕ) → length given ≤ i → Holds keys (IsRead given (take i given)) → AreTheKeys sorted (Among keys) → AreTheKeys sorted (λ k. Contains given (k, Read) × (¬ Contains given (k, Write)))
all_read sorted keys given i end h a =
    let whole : Holds keys (IsRead given given) = rw (take_all i given end) at h in
    AreTheKeys-same sorted (Among keys) (λ k. Contains given (k, Read) × (¬ Contains given (k, Write))) a whole.each whole.all
