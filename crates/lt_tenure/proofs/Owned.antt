-- Who owns a lock has owned it ever since the step that took it.
use Rattle.std.proofs.Common.{◌≡◌, ℕ, ◌+◌, ◌<◌, ◌≤◌, suc, Bool, true, false, cond, Option, Some, None, List, [], ◌∷◌, ◌++◌, length, take, drop, sym, ap, ◌∙◌, arith}
use Rattle.std.proofs.lemmas.List.{take-append-drop, length-take-le}
use Rattle.std.specs.Str.{bytes_eq}
use Rattle.lt_rules.specs.declared.call.Call.{Call}
use Rattle.lt_rules.specs.declared.call.Call.TheVariants.{Visit, Acquire, Update, Finish, Leave, Look}
use Rattle.lt_rules.specs.declared.call.Reply.{Reply}
use Rattle.lt_rules.specs.Step.{is_taken, is_freed}
use Rattle.lt_entry.specs.declared.entry.Entry.{Entry}
use Rattle.lt_tenure.specs.Tenure.{Owner, owner_with, owner_step, owner_after, owner_from, lock_owner}

taken_before : (b : Bool) (o : Option Owner) (by at txn taken : ℕ) → cond b (Some (owner_with by at)) o ≡ Some (owner_with txn taken) → taken < at → o ≡ Some (owner_with txn taken)
taken_before true o by at txn taken is below =
    let owner : owner_with by at ≡ owner_with txn taken = cc is in
    let same : at ≡ taken = ap (λ (x : Owner). x.taken) owner in
    absurd (omega (arith, same, below))
taken_before false o by at txn taken is below = is

pub freed_before : (b : Bool) (o : Option Owner) (x : Owner) → cond b None o ≡ Some x → o ≡ Some x
freed_before true o x is = absurd cc
freed_before false o x is = is

step_before : (o : Option Owner) (at : ℕ) (call : Call) (reply : Reply) (txn taken : ℕ) → owner_step o at call reply ≡ Some (owner_with txn taken) → taken < at → o ≡ Some (owner_with txn taken)
step_before o at (Visit ticket by ts access longest) reply txn taken is below = is
step_before o at (Acquire by ts) reply txn taken is below = taken_before (is_taken reply) o by at txn taken is below
step_before o at (Update by ts) reply txn taken is below = is
step_before o at (Finish by) reply txn taken is below = freed_before (is_freed reply) o (owner_with txn taken) is
step_before o at (Leave number) reply txn taken is below = is
step_before o at (Look number) reply txn taken is below = is

after_before : (b : Bool) (o : Option Owner) (at : ℕ) (e : Entry) (txn taken : ℕ) → cond b (owner_step o at e.call e.reply) o ≡ Some (owner_with txn taken) → taken < at → o ≡ Some (owner_with txn taken)
after_before true o at e txn taken is below = step_before o at e.call e.reply txn taken is below
after_before false o at e txn taken is below = is

-- no step from an index on has given the lock to an owner that took it before
from_before : (key : List ℕ) (o : Option Owner) (at : ℕ) (es : List Entry) (txn taken : ℕ) → owner_from key o at es ≡ Some (owner_with txn taken) → taken < at → o ≡ Some (owner_with txn taken)
from_before key o at [] txn taken is below = is
from_before key o at (e ∷ es) txn taken is below =
    let later : owner_after key o at e ≡ Some (owner_with txn taken) = from_before key (owner_after key o at e) (suc at) es txn taken is (omega arith) in
    after_before (bytes_eq e.key key) o at e txn taken later below

pub from_append : (key : List ℕ) (o : Option Owner) (at n : ℕ) (xs ys : List Entry) → n ≡ at + length xs → owner_from key o at (xs ++ ys) ≡ owner_from key (owner_from key o at xs) n ys
from_append key o at n [] ys is = ap (λ k. owner_from key o k ys) (omega (arith, is))
from_append key o at n (x ∷ xs) ys is = from_append key (owner_after key o at x) (suc at) n xs ys (omega (arith, is))

pub owned_since : (key : List ℕ) (es : List Entry) (txn taken n : ℕ) → lock_owner key es ≡ Some (owner_with txn taken) → taken < n → n ≤ length es → lock_owner key (take n es) ≡ Some (owner_with txn taken)
owned_since key es txn taken n is below within =
    let long : n ≡ 0 + length (take n es) = omega (arith, length-take-le n es within) in
    let split : owner_from key None 0 (take n es ++ drop n es) ≡ owner_from key (lock_owner key (take n es)) n (drop n es) = from_append key None 0 n (take n es) (drop n es) long in
    from_before key (lock_owner key (take n es)) n (drop n es) txn taken (sym split ∙ (ap (lock_owner key) (take-append-drop n es) ∙ is)) below
