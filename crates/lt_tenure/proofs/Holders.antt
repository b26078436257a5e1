-- The owner that the steps tell is the holder in the record of the rules.
use Rattle.std.proofs.Common.{◌≡◌, ℕ, suc, Bool, true, false, cond, Option, Some, None, List, [], ◌∷◌, map, refl, sym, ap, subst, ◌∙◌, arith, nat_eq}
use Rattle.std.specs.Str.{bytes_eq}
use Rattle.std.specs.declared.cmp.Ordering.{Ordering}
use Rattle.std.specs.declared.cmp.Ordering.TheVariants.{Less, Equal, Greater}
use Rattle.std.specs.Ordering.{nat_cmp, match_ordering}
use Rattle.std.proofs.lemmas.Bool.Decides.{nat_tests}
use Rattle.lt_ids.specs.declared.timestamp.Timestamp.{Timestamp}
use Rattle.lt_ids.specs.declared.request.Access.{Access}
use Rattle.lt_ids.specs.declared.request.Access.TheVariants.{Read, Write}
use Rattle.lt_ids.specs.Ids.{is_below}
use Rattle.lt_rules.specs.declared.queued.Holder.{Holder}
use Rattle.lt_rules.specs.declared.queued.QueuedRequest.{QueuedRequest}
use Rattle.lt_rules.specs.declared.call.Call.{Call}
use Rattle.lt_rules.specs.declared.call.Call.TheVariants.{Visit, Acquire, Update, Finish, Leave, Look}
use Rattle.lt_rules.specs.declared.call.Reply.TheVariants.{Taken, Freed, Other}
use Rattle.lt_rules.specs.Rules.{Record, empty, number_of, is_txn, Outcome, unchanged, acquire_from, update_from, finish_from, free, leave, is_reserved_by, is_waiting, stop_reading}
use Rattle.lt_rules.specs.Visit.{visit, visit_lock, is_queued, is_too_long, join_writers, displace}
use Rattle.lt_rules.specs.Step.{step, IsLegalFrom, record_after}
use Rattle.lt_entry.specs.declared.entry.Entry.{Entry}
use Rattle.lt_entry.specs.Legal.{event_of, key_part, AreLegalKeys}
use Rattle.lt_words.specs.History.{key_record, MayFollow}
use Rattle.lt_tenure.specs.Tenure.{Owner, owner_with, owner_step, owner_from, lock_owner, owner_txn, holder_txn}

-- ---- a visit and a leave keep the holder

pick : {A : Type 0} (P : A → Type 0) (b : Bool) (o p : A) → P o → P p → P (cond b o p)
pick P true o p x y = x
pick P false o p x y = y

pick_three : {A : Type 0} (P : A → Type 0) (c : Ordering) (o p q : A) → P o → P p → P q → P (match_ordering c o p q)
pick_three P Less o p q x y z = x
pick_three P Equal o p q x y z = y
pick_three P Greater o p q x y z = z

abbrev Keeps : Record → Outcome → Type 0
Keeps r o = o.after.holder ≡ r.holder

join_keeps : (r : Record) (q : QueuedRequest) (longest : ℕ) → Keeps r (join_writers r q longest)
join_keeps r q longest = pick (Keeps r) (is_too_long r.writers q longest) _ _ refl refl

displace_keeps : (txn : Option ℕ) (r : Record) (s q : QueuedRequest) → Keeps r (displace txn r s q)
displace_keeps None r s q = refl
displace_keeps (Some t) r s q = refl

lock_keeps : (holder : Option Holder) (reservation : Option QueuedRequest) (r : Record) (q : QueuedRequest) (longest : ℕ) (access : Access) → Keeps r (visit_lock holder reservation r q longest access)
lock_keeps None None r q longest access = refl
lock_keeps None (Some s) r q longest Read = refl
lock_keeps None (Some s) r q longest Write = pick_three (Keeps r) (nat_cmp (number_of q) (number_of s)) _ _ _ (displace_keeps q.txn r s q) refl (join_keeps r q longest)
lock_keeps (Some h) s r q longest Read =
    pick (Keeps r) (is_txn q.txn h.txn) _ _ refl
    (pick (Keeps r) (is_below q.ts h.ts) _ _ refl
    (pick (Keeps r) (is_queued r.writers (number_of q)) _ _ refl refl))
lock_keeps (Some h) s r q longest Write = pick (Keeps r) (is_txn q.txn h.txn) _ _ refl (join_keeps r q longest)

visit_keeps : (r : Record) (q : QueuedRequest) (longest : ℕ) (access : Access) → Keeps r (visit r q longest access)
visit_keeps r q longest access = lock_keeps r.holder r.reservation (stop_reading r (number_of q)) q longest access

leave_keeps : (r : Record) (n : ℕ) → Keeps r (leave r n)
leave_keeps r n =
    pick (Keeps r) (is_reserved_by r.reservation n) _ _ refl
    (pick (Keeps r) (is_waiting r n) _ _ refl refl)

-- ---- each step

-- the owner and the holder are of one transaction
abbrev Names : Option Owner → Option Holder → Type 0
Names o h = owner_txn o ≡ holder_txn h

-- The outcome names the owner that the step's call and reply tell.
abbrev Tells : Option Owner → ℕ → Call → Outcome → Type 0
Tells o at call x = Names (owner_step o at call x.reply) x.after.holder

acquire_tells : (o : Option Owner) (at : ℕ) (r : Record) (txn : ℕ) (ts : Timestamp) (holder : Option Holder) → r.holder ≡ holder → Names o holder → Tells o at (Acquire txn ts) (acquire_from holder r (record { txn = txn; ts = ts }))
acquire_tells o at r txn ts None is names = refl
acquire_tells o at r txn ts (Some k) is names =
    let same : Names o r.holder = names ∙ ap holder_txn (sym is) in
    pick (Tells o at (Acquire txn ts)) (nat_eq k.txn txn) _ _ (pick (Tells o at (Acquire txn ts)) (is_below k.ts ts) _ _ names same) same

update_tells : (o : Option Owner) (at : ℕ) (r : Record) (txn : ℕ) (ts : Timestamp) (holder : Option Holder) → r.holder ≡ holder → Names o holder → Tells o at (Update txn ts) (update_from holder r txn ts)
update_tells o at r txn ts None is names = names ∙ ap holder_txn (sym is)
update_tells o at r txn ts (Some k) is names =
    let same : Names o r.holder = names ∙ ap holder_txn (sym is) in
    pick (Tells o at (Update txn ts)) (nat_eq k.txn txn) _ _ (pick (Tells o at (Update txn ts)) (is_below k.ts ts) _ _ names same) same

finish_tells : (o : Option Owner) (at : ℕ) (r : Record) (txn : ℕ) (holder : Option Holder) → r.holder ≡ holder → Names o holder → Tells o at (Finish txn) (finish_from holder r txn)
finish_tells o at r txn None is names = names ∙ ap holder_txn (sym is)
finish_tells o at r txn (Some k) is names = pick (Tells o at (Finish txn)) (nat_eq k.txn txn) _ _ refl (names ∙ ap holder_txn (sym is))

step_tells : (o : Option Owner) (at : ℕ) (r : Record) (by : ℕ) (call : Call) → Names o r.holder → Tells o at call (step r by call)
step_tells o at r by (Visit ticket txn ts access longest) names = names ∙ ap holder_txn (sym (visit_keeps r _ longest access))
step_tells o at r by (Acquire txn ts) names = acquire_tells o at r txn ts r.holder refl names
step_tells o at r by (Update txn ts) names = update_tells o at r txn ts r.holder refl names
step_tells o at r by (Finish txn) names = finish_tells o at r txn r.holder refl names
step_tells o at r by (Leave number) names = names ∙ ap holder_txn (sym (leave_keeps r number))
step_tells o at r by (Look number) names = names

-- ---- a whole history

-- from this record and this owner on
abbrev GoesOn : List ℕ → Option Owner → ℕ → Record → List Entry → List Entry → Type 0
GoesOn key o at r es mine = Names (owner_from key o at es) (record_after r (map event_of mine)).holder

-- what is claimed of the rest of the steps
abbrev Rest : List ℕ → List Entry → Type 0
Rest key es = (o : Option Owner) (at : ℕ) (r : Record) → IsLegalFrom r (map event_of (key_part key es)) → Names o r.holder → GoesOn key o at r es (key_part key es)

one_more : (key : List ℕ) (o : Option Owner) (at : ℕ) (r : Record) (e : Entry) (es : List Entry) (b : Bool) → Rest key es → IsLegalFrom r (map event_of (cond b (e ∷ key_part key es) (key_part key es))) → Names o r.holder →
    Names (owner_from key (cond b (owner_step o at e.call e.reply) o) (suc at) es) (record_after r (map event_of (cond b (e ∷ key_part key es) (key_part key es)))).holder
one_more key o at r e es true rest legal names =
    let x = step r e.pass e.call in
    let told : Names (owner_step o at e.call e.reply) x.after.holder = subst (λ w. Names (owner_step o at e.call w) x.after.holder) (sym legal.0) (step_tells o at r e.pass e.call names) in
    rest (owner_step o at e.call e.reply) (suc at) x.after legal.2 told
one_more key o at r e es false rest legal names = rest o (suc at) r legal names

from_names : (key : List ℕ) (es : List Entry) (o : Option Owner) (at : ℕ) (r : Record) → IsLegalFrom r (map event_of (key_part key es)) → Names o r.holder → GoesOn key o at r es (key_part key es)
from_names key [] o at r legal names = names
from_names key (e ∷ es) o at r legal names = one_more key o at r e es (bytes_eq e.key key) (from_names key es) legal names

pub owner_is_holder : (key : List ℕ) (es : List Entry) → AreLegalKeys es → owner_txn (lock_owner key es) ≡ holder_txn (key_record key es).holder
owner_is_holder key es legal = from_names key es None 0 empty (legal key) refl

-- ---- what a reply tells

is_none : (o : Option Owner) (h : Option Holder) → Names o h → h ≡ None → o ≡ None
is_none None h names none = refl
is_none (Some x) h names none = let no : Some x.txn ≡ None = names ∙ ap holder_txn none in absurd cc

is_some : (o : Option Owner) (h : Option Holder) (k : Holder) (txn : ℕ) → Names o h → h ≡ Some k → k.txn ≡ txn → (taken : ℕ) × (o ≡ Some (owner_with txn taken))
is_some None h k txn names some is = let no : None ≡ Some k.txn = names ∙ ap holder_txn some in absurd cc
is_some (Some x) h k txn names some is =
    let same : Some x.txn ≡ Some k.txn = names ∙ ap holder_txn some in
    let txn_is : x.txn ≡ txn = cc (same, is) in
    (x.taken, ap (λ t. Some (owner_with t x.taken)) txn_is)

abbrev TakesFree : Option Holder → Outcome → Type 0
TakesFree holder o = o.reply ≡ Taken → holder ≡ None

acquire_takes : (r : Record) (holder : Option Holder) (h : Holder) → TakesFree holder (acquire_from holder r h)
acquire_takes r None h = λ e. refl
acquire_takes r (Some k) h = pick (TakesFree (Some k)) (nat_eq k.txn h.txn) _ _ (pick (TakesFree (Some k)) (is_below k.ts h.ts) _ _ (λ e. cc) (λ e. cc)) (λ e. cc)

abbrev FreesOwn : Option Holder → ℕ → Outcome → Type 0
FreesOwn holder txn o = o.reply ≡ Freed → (k : Holder) × (holder ≡ Some k) × (k.txn ≡ txn)

frees_own : (r : Record) (k : Holder) (txn : ℕ) (b : Bool) → nat_eq k.txn txn ≡ b → FreesOwn (Some k) txn (cond b (free (record r { holder = None }) Freed) (unchanged r Other))
frees_own r k txn true is = λ e. (k, refl, grind (arith, nat_tests))
frees_own r k txn false is = λ e. cc

finish_frees : (r : Record) (holder : Option Holder) (txn : ℕ) → FreesOwn holder txn (finish_from holder r txn)
finish_frees r None txn = λ e. cc
finish_frees r (Some k) txn = frees_own r k txn (nat_eq k.txn txn) refl

-- a lock that comes to be taken has no owner
pub taking_needs_no_owner : (es : List Entry) (e : Entry) (txn : ℕ) (ts : Timestamp) → AreLegalKeys es → MayFollow es e → e.call ≡ Acquire txn ts → e.reply ≡ Taken → lock_owner e.key es ≡ None
taking_needs_no_owner es e txn ts legal follows call taken =
    let r = key_record e.key es in
    let reply : Taken ≡ (step r e.pass (Acquire txn ts)).reply = sym taken ∙ (follows.reply ∙ ap (λ c. (step r e.pass c).reply) call) in
    is_none (lock_owner e.key es) r.holder (owner_is_holder e.key es legal) (acquire_takes r r.holder (record { txn = txn; ts = ts }) (sym reply))

-- a lock that comes to be freed is its transaction's own
pub freeing_needs_the_owner : (es : List Entry) (e : Entry) (txn : ℕ) → AreLegalKeys es → MayFollow es e → e.call ≡ Finish txn → e.reply ≡ Freed → (taken : ℕ) × (lock_owner e.key es ≡ Some (owner_with txn taken))
freeing_needs_the_owner es e txn legal follows call freed =
    let r = key_record e.key es in
    let reply : Freed ≡ (step r e.pass (Finish txn)).reply = sym freed ∙ (follows.reply ∙ ap (λ c. (step r e.pass c).reply) call) in
    let own = finish_frees r r.holder txn (sym reply) in
    is_some (lock_owner e.key es) r.holder own.0 txn (owner_is_holder e.key es legal) own.1 own.2
