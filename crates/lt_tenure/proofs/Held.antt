-- Tenures in a legal history: what a step that takes a lock or frees it tells of the time before it.
use Rattle.std.proofs.Common.{◌≡◌, ℕ, zero, suc, ◌+◌, ◌<◌, ◌≤◌, ◌⊎◌, inl, inr, Bool, true, false, cond, Option, Some, None, List, [], ◌∷◌, ◌++◌, length, take, drop, map, refl, sym, ap, subst, ◌∙◌, arith}
use Rattle.std.specs.Prelude.{slice_get}
use Rattle.std.specs.Str.{bytes_eq}
use Rattle.std.proofs.lemmas.List.{map-append, length-take-le}
use Rattle.std.proofs.lemmas.List.Elements.{filter-append}
use mathlib.Core.List.{IsPrefix}
use Rattle.lt_ids.specs.declared.timestamp.Timestamp.{Timestamp}
use Rattle.lt_rules.specs.declared.call.Call.{Call}
use Rattle.lt_rules.specs.declared.call.Call.TheVariants.{Visit, Acquire, Update, Finish, Leave, Look}
use Rattle.lt_rules.specs.declared.call.Reply.{Reply}
use Rattle.lt_rules.specs.declared.call.Reply.TheVariants.{Passed, MustWait, TooLong, Taken, Kept, Raised, Other, Freed, Left, Absent, Nothing, Reserved, Idle, WaitFor, WaitFirst, WaitOwn}
use Rattle.lt_rules.specs.Rules.{Record, empty}
use Rattle.lt_rules.specs.Step.{Event as KeyEvent, step, IsLegal, IsLegalFrom, record_after, is_taken, is_freed}
use Rattle.lt_entry.specs.declared.entry.Entry.{Entry}
use Rattle.lt_entry.specs.Legal.{event_of, key_part, AreLegalKeys}
use Rattle.lt_words.specs.declared.event.Event.{Event}
use Rattle.lt_words.specs.History.{part, shard_of, MayFollow, IsLegalHistory, key_history}
use Rattle.lt_words.specs.Laws.{PartsAreLegal}
use Rattle.lt_tenure.specs.Tenure.{Owner, owner_with, owner_step, owner_after, owner_from, lock_owner, Tenure, TakesAt, FreesAt, IsTenure, IsHeldAt, IsLocked}
use Rattle.lt_tenure.proofs.Lists.{equal_bytes, own_bytes, lower_or_not, get_in_whole, index_is_inside, item_at, cut_at, take_one_more}
use Rattle.lt_tenure.proofs.Owned.{from_append, freed_before}
use Rattle.lt_tenure.proofs.Holders.{taking_needs_no_owner, freeing_needs_the_owner}

-- ---- what is legal at an index

legal_first : (r : Record) (es fs : List KeyEvent) → IsLegalFrom r (es ++ fs) → IsLegalFrom r es
legal_first r [] fs legal = tt
legal_first r (e ∷ es) fs legal = (legal.0, legal.1, legal_first (step r e.pass e.call).after es fs legal.2)

reply_there : (r : Record) (es : List KeyEvent) (e : KeyEvent) (fs : List KeyEvent) → IsLegalFrom r (es ++ e ∷ fs) → e.reply ≡ (step (record_after r es) e.pass e.call).reply
reply_there r [] e fs legal = legal.0
reply_there r (x ∷ es) e fs legal = reply_there (step r x.pass x.call).after es e fs legal.2

lets_there : (r : Record) (es : List KeyEvent) (e : KeyEvent) (fs : List KeyEvent) → IsLegalFrom r (es ++ e ∷ fs) → e.lets ≡ (step (record_after r es) e.pass e.call).lets
lets_there r [] e fs legal = legal.1
lets_there r (x ∷ es) e fs legal = lets_there (step r x.pass x.call).after es e fs legal.2

history_append : (k : List ℕ) (es fs : List Entry) → key_history k (es ++ fs) ≡ key_history k es ++ key_history k fs
history_append k es fs = ap (map event_of) (filter-append (λ x. bytes_eq x.key k) es fs) ∙ map-append event_of (key_part k es) (key_part k fs)

keys_first : (es fs : List Entry) → AreLegalKeys (es ++ fs) → AreLegalKeys es
keys_first es fs legal = λ k. legal_first empty (key_history k es) (key_history k fs) (subst IsLegal (history_append k es fs) (legal k))

history_here : (k : List ℕ) (e : Entry) (fs : List Entry) → bytes_eq e.key k ≡ true → key_history k (e ∷ fs) ≡ event_of e ∷ key_history k fs
history_here k e fs is = ap (λ b. map event_of (cond b (e ∷ key_part k fs) (key_part k fs))) is

follows : (es : List Entry) (e : Entry) (fs : List Entry) → AreLegalKeys (es ++ e ∷ fs) → MayFollow es e
follows es e fs legal =
    let k = e.key in
    let split : key_history k (es ++ e ∷ fs) ≡ key_history k es ++ event_of e ∷ key_history k fs = history_append k es (e ∷ fs) ∙ ap (λ xs. key_history k es ++ xs) (history_here k e fs (own_bytes k)) in
    let here : IsLegalFrom empty (key_history k es ++ event_of e ∷ key_history k fs) = subst IsLegal split (legal k) in
    record { reply = reply_there empty (key_history k es) (event_of e) (key_history k fs) here; lets = lets_there empty (key_history k es) (event_of e) (key_history k fs) here }

-- the steps before this index are legal, and the step there may follow them
record IsLegalAt (es : List Entry) (e : Entry) : Type 0 where
  before : AreLegalKeys es
  next : MayFollow es e

legal_at : (es : List Entry) (n : ℕ) (e : Entry) → AreLegalKeys es → slice_get es n ≡ Some e → IsLegalAt (take n es) e
legal_at es n e legal is =
    let whole : AreLegalKeys (take n es ++ e ∷ drop (suc n) es) = subst AreLegalKeys (sym (cut_at es n e is)) legal in
    record { before = keys_first (take n es) (e ∷ drop (suc n) es) whole; next = follows (take n es) e (drop (suc n) es) whole }

pub taken_was_free : (key : List ℕ) (es : List Entry) (txn at : ℕ) → AreLegalKeys es → TakesAt es key txn at → lock_owner key (take at es) ≡ None
taken_was_free key es txn at legal took =
    let here = legal_at es at took.0 legal took.2 in
    subst (λ k. lock_owner k (take at es) ≡ None) took.3 (taking_needs_no_owner (take at es) took.0 txn took.1 here.before here.next took.4 took.5)

pub freed_was_own : (key : List ℕ) (es : List Entry) (txn at : ℕ) → AreLegalKeys es → FreesAt es key txn at → (taken : ℕ) × (lock_owner key (take at es) ≡ Some (owner_with txn taken))
freed_was_own key es txn at legal frees =
    let here = legal_at es at frees.0 legal frees.1 in
    let own = freeing_needs_the_owner (take at es) frees.0 txn here.before here.next frees.3 frees.4 in
    (own.0, subst (λ k. lock_owner k (take at es) ≡ Some (owner_with txn own.0)) frees.2 own.1)

-- ---- one more step

pub owner_more : (key : List ℕ) (es : List Entry) (n : ℕ) (e : Entry) → slice_get es n ≡ Some e → lock_owner key (take (suc n) es) ≡ owner_after key (lock_owner key (take n es)) n e
owner_more key es n e is =
    let below = index_is_inside es n e is in
    let long : n ≡ 0 + length (take n es) = omega (arith, length-take-le n es (omega (arith, below))) in
    ap (lock_owner key) (take_one_more es n e is) ∙ from_append key None 0 n (take n es) (e ∷ []) long

taken_is : (reply : Reply) → is_taken reply ≡ true → reply ≡ Taken
taken_is Taken is = refl
taken_is Passed is = absurd cc
taken_is MustWait is = absurd cc
taken_is TooLong is = absurd cc
taken_is Kept is = absurd cc
taken_is Raised is = absurd cc
taken_is Other is = absurd cc
taken_is Left is = absurd cc
taken_is Absent is = absurd cc
taken_is Nothing is = absurd cc
taken_is Reserved is = absurd cc
taken_is Idle is = absurd cc
taken_is Freed is = absurd cc
taken_is (WaitFor t d) is = absurd cc
taken_is (WaitFirst t d) is = absurd cc
taken_is (WaitOwn t) is = absurd cc

pub freed_is : (reply : Reply) → is_freed reply ≡ true → reply ≡ Freed
freed_is Freed is = refl
freed_is Passed is = absurd cc
freed_is MustWait is = absurd cc
freed_is TooLong is = absurd cc
freed_is Kept is = absurd cc
freed_is Raised is = absurd cc
freed_is Other is = absurd cc
freed_is Left is = absurd cc
freed_is Absent is = absurd cc
freed_is Nothing is = absurd cc
freed_is Reserved is = absurd cc
freed_is Idle is = absurd cc
freed_is Taken is = absurd cc
freed_is (WaitFor t d) is = absurd cc
freed_is (WaitFirst t d) is = absurd cc
freed_is (WaitOwn t) is = absurd cc

-- ---- who owns a lock took it

abbrev Took : Option Owner → ℕ → Call → Reply → ℕ → ℕ → Type 0
Took o at call reply txn taken = (o ≡ Some (owner_with txn taken)) ⊎ ((ts : Timestamp) × (taken ≡ at) × (call ≡ Acquire txn ts) × (reply ≡ Taken))

took_if : (b : Bool) (o : Option Owner) (at by : ℕ) (ts : Timestamp) (reply : Reply) (txn taken : ℕ) → is_taken reply ≡ b → cond b (Some (owner_with by at)) o ≡ Some (owner_with txn taken) → Took o at (Acquire by ts) reply txn taken
took_if true o at by ts reply txn taken is own =
    let owner : owner_with by at ≡ owner_with txn taken = cc own in
    let name : by ≡ txn = ap (λ (x : Owner). x.txn) owner in
    let index : at ≡ taken = ap (λ (x : Owner). x.taken) owner in
    inr (ts, sym index, ap (λ t. Acquire t ts) name, taken_is reply is)
took_if false o at by ts reply txn taken is own = inl own

step_took : (o : Option Owner) (at : ℕ) (call : Call) (reply : Reply) (txn taken : ℕ) → owner_step o at call reply ≡ Some (owner_with txn taken) → Took o at call reply txn taken
step_took o at (Visit ticket by ts access longest) reply txn taken own = inl own
step_took o at (Acquire by ts) reply txn taken own = took_if (is_taken reply) o at by ts reply txn taken refl own
step_took o at (Update by ts) reply txn taken own = inl own
step_took o at (Finish by) reply txn taken own = inl (freed_before (is_freed reply) o (owner_with txn taken) own)
step_took o at (Leave number) reply txn taken own = inl own
step_took o at (Look number) reply txn taken own = inl own

-- the owner was the owner before these steps, or one of them made it
abbrev Began : List ℕ → Option Owner → ℕ → List Entry → ℕ → ℕ → Type 0
Began key o at es txn taken = (o ≡ Some (owner_with txn taken)) ⊎ ((k : ℕ) × (taken ≡ at + k) × TakesAt es key txn k)

began_here : (b : Bool) (key : List ℕ) (o : Option Owner) (at : ℕ) (e : Entry) (es : List Entry) (txn taken : ℕ) → bytes_eq e.key key ≡ b → cond b (owner_step o at e.call e.reply) o ≡ Some (owner_with txn taken) → Began key o at (e ∷ es) txn taken
began_here true key o at e es txn taken is own = elim (step_took o at e.call e.reply txn taken own) [
  | inl l ↦ inl l
  | inr r ↦ inr (0, omega (arith, r.1), (e, r.0, refl, equal_bytes e.key key is, r.2, r.3))
]
began_here false key o at e es txn taken is own = inl own

began : (key : List ℕ) (o : Option Owner) (at : ℕ) (es : List Entry) (txn taken : ℕ) → owner_from key o at es ≡ Some (owner_with txn taken) → Began key o at es txn taken
began key o at [] txn taken own = inl own
began key o at (e ∷ es) txn taken own = elim (began key (owner_after key o at e) (suc at) es txn taken own) [
  | inl l ↦ began_here (bytes_eq e.key key) key o at e es txn taken refl l
  | inr r ↦ inr (suc r.0, omega (arith, r.1), r.2)
]

pub owner_took : (key : List ℕ) (es : List Entry) (txn taken : ℕ) → lock_owner key es ≡ Some (owner_with txn taken) → TakesAt es key txn taken
owner_took key es txn taken own = elim (began key None 0 es txn taken own) [
  | inl l ↦ absurd (cc l)
  | inr r ↦ subst (λ k. TakesAt es key txn k) (omega (arith, r.1)) r.2
]

-- ---- each finish ends a tenure

takes_later : (xs ys : List Entry) (key : List ℕ) (txn at : ℕ) → IsPrefix xs ys → TakesAt xs key txn at → TakesAt ys key txn at
takes_later xs ys key txn at pre took = (took.0, took.1, get_in_whole xs ys at took.0 pre took.2, took.3, took.4, took.5)

pub freed_ends_a_tenure : (key : List ℕ) (es : List Entry) (txn freed : ℕ) → AreLegalKeys es → FreesAt es key txn freed → (taken : ℕ) × IsTenure es txn (record { key = key; taken = taken; freed = freed })
freed_ends_a_tenure key es txn freed legal frees =
    let own = freed_was_own key es txn freed legal frees in
    let pre : IsPrefix (take freed es) es = (frees.0 ∷ drop (suc freed) es, cut_at es freed frees.0 frees.1) in (
      own.0,
      record {
        took = takes_later (take freed es) es key txn own.0 pre (owner_took key (take freed es) txn own.0 own.1);
        freed = frees;
        owned = own.1;
      },
    )

-- ---- a lock that was taken is held until it is freed

takes_own : (key : List ℕ) (o : Option Owner) (at : ℕ) (e : Entry) (txn : ℕ) (ts : Timestamp) → e.key ≡ key → e.call ≡ Acquire txn ts → e.reply ≡ Taken → owner_after key o at e ≡ Some (owner_with txn at)
takes_own key o at e txn ts is call reply =
    let here : bytes_eq e.key key ≡ true = subst (λ k. bytes_eq e.key k ≡ true) is (own_bytes e.key) in
    ap (λ b. cond b (owner_step o at e.call e.reply) o) here ∙ (ap (λ c. owner_step o at c e.reply) call ∙ ap (λ w. owner_step o at (Acquire txn ts) w) reply)

pub frees_own : (key : List ℕ) (o : Option Owner) (at : ℕ) (e : Entry) (txn : ℕ) → e.key ≡ key → e.call ≡ Finish txn → e.reply ≡ Freed → owner_after key o at e ≡ None
frees_own key o at e txn is call reply =
    let here : bytes_eq e.key key ≡ true = subst (λ k. bytes_eq e.key k ≡ true) is (own_bytes e.key) in
    ap (λ b. cond b (owner_step o at e.call e.reply) o) here ∙ (ap (λ c. owner_step o at c e.reply) call ∙ ap (λ w. owner_step o at (Finish txn) w) reply)

keeps_if : (b : Bool) (o p : Option Owner) (x : Owner) → o ≡ Some x → (b ≡ true → ⊥) → cond b p o ≡ Some x
keeps_if true o p x own never = absurd (never refl)
keeps_if false o p x own never = own

-- a step that neither takes the lock nor frees it
step_keeps : (o : Option Owner) (at : ℕ) (call : Call) (reply : Reply) (x : Owner) → o ≡ Some x → ((by : ℕ) (ts : Timestamp) → call ≡ Acquire by ts → reply ≡ Taken → ⊥) → ((by : ℕ) → call ≡ Finish by → reply ≡ Freed → ⊥) → owner_step o at call reply ≡ Some x
step_keeps o at (Visit ticket by ts access longest) reply x own takes frees = own
step_keeps o at (Acquire by ts) reply x own takes frees = keeps_if (is_taken reply) o (Some (owner_with by at)) x own (λ is. takes by ts refl (taken_is reply is))
step_keeps o at (Update by ts) reply x own takes frees = own
step_keeps o at (Finish by) reply x own takes frees = keeps_if (is_freed reply) o None x own (λ is. frees by refl (freed_is reply is))
step_keeps o at (Leave number) reply x own takes frees = own
step_keeps o at (Look number) reply x own takes frees = own

after_keeps : (b : Bool) (key : List ℕ) (o : Option Owner) (at : ℕ) (e : Entry) (x : Owner) → bytes_eq e.key key ≡ b → o ≡ Some x → ((by : ℕ) (ts : Timestamp) → e.key ≡ key → e.call ≡ Acquire by ts → e.reply ≡ Taken → ⊥) → ((by : ℕ) → e.key ≡ key → e.call ≡ Finish by → e.reply ≡ Freed → ⊥) → cond b (owner_step o at e.call e.reply) o ≡ Some x
after_keeps true key o at e x is own takes frees = let same = equal_bytes e.key key is in step_keeps o at e.call e.reply x own (λ by ts. takes by ts same) (λ by. frees by same)
after_keeps false key o at e x is own takes frees = own

-- one more step that is no finish by the owner
stays : (key : List ℕ) (es : List Entry) (txn taken n : ℕ) (e : Entry) → AreLegalKeys es → slice_get es n ≡ Some e → lock_owner key (take n es) ≡ Some (owner_with txn taken) → (FreesAt es key txn n → ⊥) → lock_owner key (take (suc n) es) ≡ Some (owner_with txn taken)
stays key es txn taken n e legal is own never =
    owner_more key es n e is ∙ after_keeps (bytes_eq e.key key) key (lock_owner key (take n es)) n e (owner_with txn taken) refl own
    (λ by ts same call reply.
    let none : lock_owner key (take n es) ≡ None = taken_was_free key es by n legal (e, ts, is, same, call, reply) in
    let no : Some (owner_with txn taken) ≡ None = sym own ∙ none in cc no)
    (λ by same call reply.
    let mine = freed_was_own key es by n legal (e, is, same, call, reply) in
    let both : owner_with by mine.0 ≡ owner_with txn taken = cc (own, mine.1) in
    let name : by ≡ txn = ap (λ (x : Owner). x.txn) both in
    never (e, is, same, call ∙ ap (λ t. Finish t) name, reply))

holds_on : (es : List Entry) (txn : ℕ) (t : Tenure) (n : ℕ) → AreLegalKeys es → t.freed < length es → TakesAt es t.key txn t.taken → ((k : ℕ) → t.taken < k → k < t.freed → FreesAt es t.key txn k → ⊥) → t.taken < n → n ≤ t.freed → lock_owner t.key (take n es) ≡ Some (owner_with txn t.taken)
holds_on es txn t zero legal within took never low high = absurd (omega (arith, low))
holds_on es txn t (suc m) legal within took never low high = elim (lower_or_not t.taken m) [
  | inl l ↦
      let e = item_at es m (omega (arith, within, high)) in
      stays t.key es txn t.taken m e.0 legal e.1 (holds_on es txn t m legal within took never l (omega (arith, high))) (never m l (omega (arith, high)))
  | inr r ↦
      let first : t.taken ≡ m = omega (arith, r, low) in
      subst (λ k. lock_owner t.key (take (suc k) es) ≡ Some (owner_with txn t.taken)) first
      (owner_more t.key es t.taken took.0 took.2 ∙ takes_own t.key (lock_owner t.key (take t.taken es)) t.taken took.0 txn took.1 took.3 took.4 took.5)
]

pub held_until_freed : (es : List Entry) (txn : ℕ) (t : Tenure) → AreLegalKeys es → t.taken < t.freed → TakesAt es t.key txn t.taken → FreesAt es t.key txn t.freed → ((k : ℕ) → t.taken < k → k < t.freed → FreesAt es t.key txn k → ⊥) → IsTenure es txn t
held_until_freed es txn t legal order took frees never =
    let within = index_is_inside es t.freed frees.0 frees.1 in
    record { took = took; freed = frees; owned = holds_on es txn t t.freed legal within took never order (omega arith) }

pub locked_is_held : PartsAreLegal → (shards : ℕ) (h point : List Event) (txn : ℕ) (t : Tenure) → IsLegalHistory shards h → IsLocked shards h point txn t → IsHeldAt shards h point txn t
locked_is_held parts shards h point txn t legal locked = record {
  tenure = held_until_freed (part (shard_of t.key shards) h) txn t (parts shards (shard_of t.key shards) h legal) (omega (arith, locked.before, locked.after)) locked.took locked.freed locked.unbroken;
  before = locked.before;
  after = locked.after;
}
