-- Tenures of one key do not overlap, and follow one another in the order of their moments.
use Rattle.std.proofs.Common.{◌≡◌, ◌≢◌, ℕ, ◌<◌, ◌≤◌, ◌⊎◌, inl, inr, suc, Some, None, List, ◌++◌, length, take, refl, sym, ap, subst, ◌∙◌, arith}
use Rattle.std.proofs.lemmas.List.{take-take, length-take-le, take-append-le}
use mathlib.Core.List.{IsPrefix}
use Rattle.lt_rules.specs.declared.call.Call.TheVariants.{Acquire, Finish}
use Rattle.lt_entry.specs.declared.entry.Entry.{Entry}
use Rattle.lt_words.specs.declared.event.Event.{Event}
use Rattle.lt_words.specs.History.{part, shard_of}
use Rattle.lt_words.specs.Laws.{PartsBegin, StepsStay}
use Rattle.lt_tenure.specs.Tenure.{Owner, owner_with, lock_owner, Tenure, FreesAt, TakesAt, IsTenure, IsHeldAt}
use Rattle.lt_tenure.proofs.Lists.{lower_or_not, prefix_is_shorter, index_is_inside}
use Rattle.lt_tenure.proofs.Owned.{owned_since}
use Rattle.lt_tenure.proofs.Held.{owner_more, owner_took, frees_own}

-- ---- within one list of steps

freed_inside : (es : List Entry) (txn : ℕ) (t : Tenure) → IsTenure es txn t → t.freed < length es
freed_inside es txn t tenure = index_is_inside es t.freed tenure.freed.0 tenure.freed.1

-- within its tenure the transaction owns the lock
owned_at : (es : List Entry) (txn : ℕ) (t : Tenure) (n : ℕ) → IsTenure es txn t → t.taken < n → n ≤ t.freed → lock_owner t.key (take n es) ≡ Some (owner_with txn t.taken)
owned_at es txn t n tenure low high =
    let long : length (take t.freed es) ≡ t.freed = length-take-le t.freed es (omega (arith, freed_inside es txn t tenure)) in
    let there : lock_owner t.key (take n (take t.freed es)) ≡ Some (owner_with txn t.taken) = owned_since t.key (take t.freed es) txn t.taken n tenure.owned low (omega (arith, long, high)) in
    sym (ap (lock_owner t.key) (take-take n t.freed es high)) ∙ there

-- a tenure ends after the step that began it
taken_first : (es : List Entry) (txn : ℕ) (t : Tenure) → IsTenure es txn t → t.taken < t.freed
taken_first es txn t tenure =
    let long : length (take t.freed es) ≡ t.freed = length-take-le t.freed es (omega (arith, freed_inside es txn t tenure)) in
    let took : TakesAt (take t.freed es) t.key txn t.taken = owner_took t.key (take t.freed es) txn t.taken tenure.owned in
    omega (arith, long, index_is_inside (take t.freed es) t.taken took.0 took.2)

-- two tenures that share a point began with one step, of one transaction
one_owner : (es : List Entry) (txn txn' : ℕ) (t t' : Tenure) (n : ℕ) → t.key ≡ t'.key → IsTenure es txn t → IsTenure es txn' t' → t.taken < n → n ≤ t.freed → t'.taken < n → n ≤ t'.freed →
    owner_with txn t.taken ≡ owner_with txn' t'.taken
one_owner es txn txn' t t' n same x y a b c d =
    let here = owned_at es txn t n x a b in
    let there : lock_owner t.key (take n es) ≡ Some (owner_with txn' t'.taken) = subst (λ k. lock_owner k (take n es) ≡ Some (owner_with txn' t'.taken)) (sym same) (owned_at es txn' t' n y c d) in
    cc (here, there)

one_step : (es : List Entry) (txn txn' : ℕ) (t t' : Tenure) (n : ℕ) → t.key ≡ t'.key → IsTenure es txn t → IsTenure es txn' t' → t.taken < n → n ≤ t.freed → t'.taken < n → n ≤ t'.freed → t.taken ≡ t'.taken
one_step es txn txn' t t' n same x y a b c d = ap (λ (o : Owner). o.taken) (one_owner es txn txn' t t' n same x y a b c d)

-- no step is both a finish and an acquire
not_both : (es : List Entry) (k : ℕ) (T U : ℕ) (key key' : List ℕ) → FreesAt es key T k → TakesAt es key' U k → ⊥
not_both es k T U key key' frees took =
    let same : frees.0 ≡ took.0 = cc (frees.1, took.2) in
    let calls : Finish T ≡ Acquire U took.1 = sym frees.3 ∙ (ap (λ x. x.call) same ∙ took.4) in
    cc calls

-- of two tenures that different steps began, each around a point, that of the earlier point ended first
serial_in : (es : List Entry) (txn txn' : ℕ) (t t' : Tenure) (n n' : ℕ) → t.taken ≢ t'.taken → t.key ≡ t'.key → IsTenure es txn t → IsTenure es txn' t' →
    t.taken < n → n ≤ t.freed → t'.taken < n' → n' ≤ t'.freed → n ≤ n' → t.freed < t'.taken
serial_in es txn txn' t t' n n' differs same x y a b c d order = elim (lower_or_not t.freed t'.taken) [
  | inl l ↦ l
  | inr r ↦ elim (lower_or_not t'.taken n) [
    | inl l ↦ absurd (differs (one_step es txn txn' t t' n same x y a b l (omega (arith, order, d))))
    | inr far ↦ elim (lower_or_not t'.taken t.freed) [
      | inl l ↦ absurd (differs (one_step es txn txn' t t' (suc t'.taken) same x y (omega (arith, a, far)) (omega (arith, l)) (omega arith) (omega (arith, c, d))))
      | inr high ↦
          let is : t'.taken ≡ t.freed = omega (arith, r, high) in
          absurd (not_both es t.freed txn txn' t.key t'.key x.freed (subst (λ k. TakesAt es t'.key txn' k) is y.took))
    ]
  ]
]

-- ---- tenures never overlap

-- a tenure does not go on after the step that ends it
ends_there : (es : List Entry) (txn txn' : ℕ) (t t' : Tenure) → t.key ≡ t'.key → t.taken ≡ t'.taken → IsTenure es txn t → IsTenure es txn' t' → t'.freed ≤ t.freed
ends_there es txn txn' t t' same began x y = elim (lower_or_not t.freed t'.freed) [
  | inl l ↦
      let first = taken_first es txn t x in
      let own : lock_owner t'.key (take (suc t.freed) es) ≡ Some (owner_with txn' t'.taken) = owned_at es txn' t' (suc t.freed) y (omega (arith, first, began)) (omega (arith, l)) in
      let none : lock_owner t'.key (take (suc t.freed) es) ≡ None = owner_more t'.key es t.freed x.freed.0 x.freed.1
      ∙ frees_own t'.key (lock_owner t'.key (take t.freed es)) t.freed x.freed.0 txn (x.freed.2 ∙ same) x.freed.3 x.freed.4 in
      let no : Some (owner_with txn' t'.taken) ≡ None = sym own ∙ none in absurd (cc no)
  | inr r ↦ r
]

abbrev Apart : ℕ → ℕ → Tenure → Tenure → Type 0
Apart txn txn' t t' = ((txn ≡ txn') × (t ≡ t')) ⊎ ((t.freed < t'.taken) ⊎ (t'.freed < t.taken))

same_tenure : (t t' : Tenure) → t.key ≡ t'.key → t.taken ≡ t'.taken → t.freed ≡ t'.freed → t ≡ t'
same_tenure t t' key taken freed = λ i. record { key = key i; taken = taken i; freed = freed i }

pub tenures_never_overlap : (es : List Entry) (txn txn' : ℕ) (t t' : Tenure) → t.key ≡ t'.key → IsTenure es txn t → IsTenure es txn' t' → Apart txn txn' t t'
tenures_never_overlap es txn txn' t t' same x y =
    let first = taken_first es txn t x in
    let first' = taken_first es txn' t' y in
    elim (lower_or_not t.taken t'.taken) [
      | inl l ↦ inr (inl (serial_in es txn txn' t t' (suc t.taken) (suc t'.taken) (λ is. omega (arith, is, l)) same x y (omega arith) (omega (arith, first)) (omega arith) (omega (arith, first')) (omega (arith, l))))
      | inr r ↦ elim (lower_or_not t'.taken t.taken) [
        | inl l ↦ inr (inr (serial_in es txn' txn t' t (suc t'.taken) (suc t.taken) (λ is. omega (arith, is, l)) (sym same) y x (omega arith) (omega (arith, first')) (omega arith) (omega (arith, first)) (omega (arith, l))))
        | inr high ↦
            let began : t.taken ≡ t'.taken = omega (arith, r, high) in
            let low = ends_there es txn txn' t t' same began x y in
            let up = ends_there es txn' txn t' t (sym same) (sym began) y x in
            let freed : t.freed ≡ t'.freed = omega (arith, low, up) in
            let owner = one_owner es txn txn' t t' (suc t.taken) same x y (omega arith) (omega (arith, first)) (omega (arith, began)) (omega (arith, first', began)) in
            inl (ap (λ (o : Owner). o.txn) owner, same_tenure t t' same began freed)
      ]
    ]

-- ---- within a history

pub tenures_are_serial : PartsBegin → (shards : ℕ) (h point point' : List Event) (txn txn' : ℕ) (t t' : Tenure) → t.taken ≢ t'.taken → t.key ≡ t'.key →
    IsHeldAt shards h point txn t → IsHeldAt shards h point' txn' t' → IsPrefix point point' → t.freed < t'.taken
tenures_are_serial begin shards h point point' txn txn' t t' differs same held held' order =
    let s = shard_of t.key shards in
    let moved : IsHeldAt shards h point' txn' (record t' { key = t.key }) = subst (λ k. IsHeldAt shards h point' txn' (record t' { key = k })) (sym same) held' in
    let longer : length (part s point) ≤ length (part s point') = prefix_is_shorter (part s point) (part s point') (begin s point point' order) in
    serial_in (part s h) txn txn' t (record t' { key = t.key }) (length (part s point)) (length (part s point')) differs refl held.tenure moved.tenure held.before held.after moved.before moved.after longer

pub tenures_stay : PartsBegin → StepsStay → (shards : ℕ) (h later point : List Event) (txn : ℕ) (t : Tenure) → IsPrefix h later → IsHeldAt shards h point txn t → IsHeldAt shards later point txn t
tenures_stay begin stay shards h later point txn t grew held =
    let s = shard_of t.key shards in
    let pre : IsPrefix (part s h) (part s later) = begin s h later grew in
    let took = held.tenure.took in
    let freed = held.tenure.freed in
    let same : take t.freed (part s h ++ pre.0) ≡ take t.freed (part s h) = take-append-le t.freed (part s h) pre.0 (omega (arith, freed_inside (part s h) txn t held.tenure)) in
    record {
      tenure = record {
        took = (took.0, took.1, stay s h later t.taken took.0 grew took.2, took.3, took.4, took.5);
        freed = (freed.0, stay s h later t.freed freed.0 grew freed.1, freed.2, freed.3, freed.4);
        owned = subst (λ es. lock_owner t.key (take t.freed es) ≡ Some (owner_with txn t.taken)) pre.1 (ap (lock_owner t.key) same ∙ held.tenure.owned);
      };
      before = held.before;
      after = held.after;
    }
