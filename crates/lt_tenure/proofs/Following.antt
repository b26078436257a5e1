-- One more step: what is legal, who owns the lock, and which step freed it last.
use Rattle.std.proofs.Common.{◌≡◌, ℕ, zero, suc, ◌+◌, ◌<◌, ◌≤◌, ◌⊎◌, inl, inr, Bool, true, false, cond, Option, Some, None, List, [], ◌∷◌, ◌++◌, length, take, refl, sym, ap, subst, ◌∙◌, arith}
use Rattle.std.specs.Prelude.{slice_get}
use Rattle.std.specs.Str.{bytes_eq}
use Rattle.std.proofs.lemmas.List.{take-append-le, take_all}
use Rattle.lt_rules.specs.declared.call.Call.{Call}
use Rattle.lt_rules.specs.declared.call.Call.TheVariants.{Visit, Acquire, Update, Finish, Leave, Look}
use Rattle.lt_rules.specs.declared.call.Reply.{Reply}
use Rattle.lt_rules.specs.declared.call.Reply.TheVariants.{Freed}
use Rattle.lt_rules.specs.Step.{is_freed}
use Rattle.lt_entry.specs.declared.entry.Entry.{Entry}
use Rattle.lt_entry.specs.Legal.{AreLegalKeys}
use Rattle.lt_entry.proofs.OneMore.{keys_legal_more}
use Rattle.lt_words.specs.History.{MayFollow}
use Rattle.lt_tenure.specs.Tenure.{owner_with, lock_owner, owner_after, freed_step, freed_after, freed_from, last_freed, Tenure, TakesAt, FreesAt, IsTenure}
use Rattle.lt_tenure.proofs.Lists.{equal_bytes, own_bytes, get_in_whole, index_is_inside}
use Rattle.lt_tenure.proofs.Owned.{from_append}
use Rattle.lt_tenure.proofs.Held.{freed_is, owner_took}
use Rattle.lt_tenure.proofs.Holders.{freeing_needs_the_owner}

pub next_is_legal : (es : List Entry) (e : Entry) → AreLegalKeys es → MayFollow es e → AreLegalKeys (es ++ e ∷ [])
next_is_legal es e legal may = keys_legal_more es e legal (may.reply, may.lets)

pub owner_follows : (key : List ℕ) (es : List Entry) (e : Entry) → lock_owner key (es ++ e ∷ []) ≡ owner_after key (lock_owner key es) (length es) e
owner_follows key es e = from_append key None 0 (length es) es (e ∷ []) (omega arith)

-- ---- the latest step that freed the lock

freed_append : (key : List ℕ) (o : Option ℕ) (at n : ℕ) (xs ys : List Entry) → n ≡ at + length xs → freed_from key o at (xs ++ ys) ≡ freed_from key (freed_from key o at xs) n ys
freed_append key o at n [] ys is = ap (λ k. freed_from key o k ys) (omega (arith, is))
freed_append key o at n (x ∷ xs) ys is = freed_append key (freed_after key o at x) (suc at) n xs ys (omega (arith, is))

pub last_freed_follows : (key : List ℕ) (es : List Entry) (e : Entry) → last_freed key (es ++ e ∷ []) ≡ freed_after key (last_freed key es) (length es) e
last_freed_follows key es e = freed_append key None 0 (length es) es (e ∷ []) (omega arith)

-- what a step with this index says of the latest step that freed the lock
abbrev Freeing : Option ℕ → ℕ → Call → Reply → ℕ → Type 0
Freeing o at call reply last = (o ≡ Some last) ⊎ ((txn : ℕ) × (last ≡ at) × (call ≡ Finish txn) × (reply ≡ Freed))

freeing_if : (b : Bool) (o : Option ℕ) (at by : ℕ) (reply : Reply) (last : ℕ) → is_freed reply ≡ b → cond b (Some at) o ≡ Some last → Freeing o at (Finish by) reply last
freeing_if true o at by reply last is own =
    let same : at ≡ last = cc own in
    inr (by, sym same, refl, freed_is reply is)
freeing_if false o at by reply last is own = inl own

freeing : (o : Option ℕ) (at : ℕ) (call : Call) (reply : Reply) (last : ℕ) → freed_step o at call reply ≡ Some last → Freeing o at call reply last
freeing o at (Visit ticket by ts access longest) reply last own = inl own
freeing o at (Acquire by ts) reply last own = inl own
freeing o at (Update by ts) reply last own = inl own
freeing o at (Finish by) reply last own = freeing_if (is_freed reply) o at by reply last refl own
freeing o at (Leave number) reply last own = inl own
freeing o at (Look number) reply last own = inl own

-- ---- it did free the lock

abbrev Found : List ℕ → Option ℕ → ℕ → List Entry → ℕ → Type 0
Found key o at es last = (o ≡ Some last) ⊎ ((k : ℕ) × (txn : ℕ) × (last ≡ at + k) × FreesAt es key txn k)

found_here : (b : Bool) (key : List ℕ) (o : Option ℕ) (at : ℕ) (e : Entry) (es : List Entry) (last : ℕ) → bytes_eq e.key key ≡ b → cond b (freed_step o at e.call e.reply) o ≡ Some last → Found key o at (e ∷ es) last
found_here true key o at e es last is own = elim (freeing o at e.call e.reply last own) [
  | inl l ↦ inl l
  | inr r ↦ inr (0, r.0, omega (arith, r.1), (e, refl, equal_bytes e.key key is, r.2, r.3))
]
found_here false key o at e es last is own = inl own

found : (key : List ℕ) (o : Option ℕ) (at : ℕ) (es : List Entry) (last : ℕ) → freed_from key o at es ≡ Some last → Found key o at es last
found key o at [] last own = inl own
found key o at (e ∷ es) last own = elim (found key (freed_after key o at e) (suc at) es last own) [
  | inl l ↦ found_here (bytes_eq e.key key) key o at e es last refl l
  | inr r ↦ inr (suc r.0, r.1, omega (arith, r.2), r.3)
]

-- ---- and no later step did

-- one more step never lowers the index
abbrev Rises : Option ℕ → ℕ → ℕ → Type 0
Rises after m at = (n : ℕ) × (after ≡ Some n) × (m ≤ n) × (n ≤ at)

rises_if : (b : Bool) (o : Option ℕ) (m at : ℕ) → o ≡ Some m → m ≤ at → Rises (cond b (Some at) o) m at
rises_if true o m at own below = (at, refl, below, omega arith)
rises_if false o m at own below = (m, own, omega arith, below)

rises_step : (o : Option ℕ) (m at : ℕ) (call : Call) (reply : Reply) → o ≡ Some m → m ≤ at → Rises (freed_step o at call reply) m at
rises_step o m at (Visit ticket by ts access longest) reply own below = (m, own, omega arith, below)
rises_step o m at (Acquire by ts) reply own below = (m, own, omega arith, below)
rises_step o m at (Update by ts) reply own below = (m, own, omega arith, below)
rises_step o m at (Finish by) reply own below = rises_if (is_freed reply) o m at own below
rises_step o m at (Leave number) reply own below = (m, own, omega arith, below)
rises_step o m at (Look number) reply own below = (m, own, omega arith, below)

rises_after : (b : Bool) (o : Option ℕ) (m at : ℕ) (e : Entry) → o ≡ Some m → m ≤ at → Rises (cond b (freed_step o at e.call e.reply) o) m at
rises_after true o m at e own below = rises_step o m at e.call e.reply own below
rises_after false o m at e own below = (m, own, omega arith, below)

at_least : (key : List ℕ) (o : Option ℕ) (m at : ℕ) (es : List Entry) (last : ℕ) → o ≡ Some m → m ≤ at → freed_from key o at es ≡ Some last → m ≤ last
at_least key o m at [] last own below is =
    let same : m ≡ last = cc (own, is) in
    omega (arith, same)
at_least key o m at (e ∷ es) last own below is =
    let r = rises_after (bytes_eq e.key key) o m at e own below in
    omega (arith, r.2, at_least key (freed_after key o at e) r.0 (suc at) es last r.1 (omega (arith, r.3)) is)

is_freeing : (key : List ℕ) (o : Option ℕ) (at : ℕ) (e : Entry) (txn : ℕ) → e.key ≡ key → e.call ≡ Finish txn → e.reply ≡ Freed → freed_after key o at e ≡ Some at
is_freeing key o at e txn is call reply =
    let here : bytes_eq e.key key ≡ true = subst (λ k. bytes_eq e.key k ≡ true) is (own_bytes e.key) in
    ap (λ b. cond b (freed_step o at e.call e.reply) o) here ∙ (ap (λ c. freed_step o at c e.reply) call ∙ ap (λ w. freed_step o at (Finish txn) w) reply)

none_later : (key : List ℕ) (o : Option ℕ) (at : ℕ) (es : List Entry) (last k txn : ℕ) → freed_from key o at es ≡ Some last → FreesAt es key txn k → at + k ≤ last
none_later key o at [] last k txn is frees = absurd (cc (frees.1))
none_later key o at (e ∷ es) last zero txn is frees =
    let same : e ≡ frees.0 = cc (frees.1) in
    let freed : freed_after key o at e ≡ Some at = is_freeing key o at e txn (ap (λ (x : Entry). x.key) same ∙ frees.2) (ap (λ (x : Entry). x.call) same ∙ frees.3) (ap (λ (x : Entry). x.reply) same ∙ frees.4) in
    omega (arith, at_least key (freed_after key o at e) at (suc at) es last freed (omega arith) is)
none_later key o at (e ∷ es) last (suc k) txn is frees = omega (arith, none_later key (freed_after key o at e) (suc at) es last k txn is frees)

pub last_freed_is_last : (key : List ℕ) (es : List Entry) (at : ℕ) → last_freed key es ≡ Some at → ((txn : ℕ) × FreesAt es key txn at) × ((k txn : ℕ) → at < k → FreesAt es key txn k → ⊥)
last_freed_is_last key es at is = (
  elim (found key None 0 es at is) [
    | inl l ↦ absurd (cc l)
    | inr r ↦ (r.1, subst (λ k. FreesAt es key r.1 k) (omega (arith, r.2)) r.3)
  ],
  λ k txn below frees. omega (arith, below, none_later key None 0 es at k txn is frees),
)

-- ---- a tenure among more steps

takes_still : (es more : List Entry) (key : List ℕ) (txn at : ℕ) → TakesAt es key txn at → TakesAt (es ++ more) key txn at
takes_still es more key txn at took = (took.0, took.1, get_in_whole es (es ++ more) at took.0 (more, refl) took.2, took.3, took.4, took.5)

frees_still : (es more : List Entry) (key : List ℕ) (txn at : ℕ) → FreesAt es key txn at → FreesAt (es ++ more) key txn at
frees_still es more key txn at frees = (frees.0, get_in_whole es (es ++ more) at frees.0 (more, refl) frees.1, frees.2, frees.3, frees.4)

pub tenure_lasts : (es more : List Entry) (txn : ℕ) (t : Tenure) → IsTenure es txn t → IsTenure (es ++ more) txn t
tenure_lasts es more txn t is =
    let within : t.freed ≤ length es = omega (arith, index_is_inside es t.freed is.freed.0 is.freed.1) in
    record {
      took = takes_still es more t.key txn t.taken is.took;
      freed = frees_still es more t.key txn t.freed is.freed;
      owned = ap (lock_owner t.key) (take-append-le t.freed es more within) ∙ is.owned;
    }

-- ---- a step that frees a lock

get_last : (es : List Entry) (e : Entry) → slice_get (es ++ e ∷ []) (length es) ≡ Some e
get_last [] e = refl
get_last (x ∷ es) e = get_last es e

pub freeing_ends_a_tenure : (es : List Entry) (e : Entry) (txn : ℕ) → AreLegalKeys es → MayFollow es e → e.call ≡ Finish txn → is_freed e.reply ≡ true →
    (taken : ℕ) × (lock_owner e.key es ≡ Some (owner_with txn taken)) × IsTenure (es ++ e ∷ []) txn (record { key = e.key; taken = taken; freed = length es })
freeing_ends_a_tenure es e txn legal may call reply =
    let freed : e.reply ≡ Freed = freed_is e.reply reply in
    let own = freeing_needs_the_owner es e txn legal may call freed in
    let whole : take (length es) (es ++ e ∷ []) ≡ es = take-append-le (length es) es (e ∷ []) (omega arith) ∙ take_all (length es) es (omega arith) in (
      own.0,
      own.1,
      record {
        took = takes_still es (e ∷ []) e.key txn own.0 (owner_took e.key es txn own.0 own.1);
        freed = (e, get_last es e, refl, call, freed);
        owned = ap (lock_owner e.key) whole ∙ own.1;
      },
    )
