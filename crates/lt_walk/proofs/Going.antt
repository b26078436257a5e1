-- A scan that is under way.
use Rattle.std.proofs.Common.{◌≡◌, ℕ, ◌+◌, ◌-◌, ◌≤◌, Bool, true, false, if◌then◌else◌, List, [], ◌∷◌, ◌++◌, length, map, refl, sym, arith, Option, Some, None, slice_get, length-append}
use Rattle.std.proofs.lemmas.List.{map-append}
use Rattle.std.specs.Option.{option_map}
use Rattle.lt_rules.specs.declared.call.Call.{Call}
use Rattle.lt_walk.specs.declared.walk_progress.Mode.TheVariants.{Free}
use Rattle.lt_walk.specs.declared.walk_progress.Progress.{Progress}
use Rattle.lt_walk.specs.Machine.{Asked, is_free, is_wait, is_long, met, met_as, next_visit, may_visit, visit_call, WalkState, Step, answer_of, Visits}

-- how many visits may still come
abbrev pub left : WalkState → ℕ
left s = if is_free s.progress.mode then length s.asked.keys - s.progress.index else 0

-- since it began, the request made these visits and has come to this state
pub record IsGoing (begun : WalkState) (max_waits : ℕ) (now : WalkState) (steps : List Step) : Type 0 where
  pub visits : Visits begun.asked max_waits begun.progress steps now.progress
  pub answers : now.answers ≡ map answer_of steps
  pub asked : now.asked ≡ begun.asked
  pub room : now.progress.mode ≡ Free → length now.answers ≤ now.progress.index

-- one more visit
pub Visits-more : (asked : Asked) (max_waits : ℕ) (p : Progress) (xs : List Step) (q : Progress) (x : Step) → Visits asked max_waits p xs q → next_visit asked max_waits q ≡ Some (x.key, x.call) → Visits asked max_waits p (xs ++ x ∷ []) (met q x.answer.reply)
Visits-more asked max_waits p [] q x e next = (rw (sym e) next, rw e refl)
Visits-more asked max_waits p (y ∷ ys) q x v next = (v.0, Visits-more asked max_waits (met p y.answer.reply) ys q x v.1 next)

-- a key and a call that come from one item of a list
both_parts : {A B C : Type 0} (o : Option A) (f : A → B) (g : A → C) (b : B) (c : C) → option_map f o ≡ Some b → option_map g o ≡ Some c → option_map {U = B × C} (λ x. (f x, g x)) o ≡ Some (b, c)
both_parts None f g b c e h = cc
both_parts (Some x) f g b c e h = cc

-- the visit that comes next, from its key and its call
pub next_visit-is : (asked : Asked) (max_waits : ℕ) (p : Progress) (key : List ℕ) (call : Call) → may_visit (length asked.keys) max_waits p ≡ true →
    option_map (λ k. k.0) (slice_get asked.keys p.index) ≡ Some key → option_map (λ k. visit_call asked p k.1) (slice_get asked.keys p.index) ≡ Some call →
    next_visit asked max_waits p ≡ Some (key, call)
next_visit-is asked max_waits p key call may k v = rw may (both_parts (slice_get asked.keys p.index) (λ k. k.0) (λ k. visit_call asked p k.1) key call k v)

met-room : (p : Progress) (waits long : Bool) (n : ℕ) → (p.mode ≡ Free → n ≤ p.index) → (met_as p waits long).mode ≡ Free → n + 1 ≤ (met_as p waits long).index
met-room p true long n room e = absurd cc
met-room p false true n room e = absurd cc
met-room p false false n room e = let r : n ≤ p.index = room e in omega arith

-- one more visit, with its answer
pub IsGoing-more : (begun : WalkState) (max_waits : ℕ) (now : WalkState) (steps : List Step) (x : Step) (after : WalkState) → IsGoing begun max_waits now steps →
    next_visit now.asked max_waits now.progress ≡ Some (x.key, x.call) →
    after ≡ record now { progress = met now.progress x.answer.reply; answers = now.answers ++ x.answer ∷ [] } →
    IsGoing begun max_waits after (steps ++ x ∷ [])
IsGoing-more begun max_waits now steps x after going next e = rw e (record {
  visits = Visits-more begun.asked max_waits begun.progress steps now.progress x going.visits (rw (sym going.asked) next);
  answers = rw going.answers (sym (map-append answer_of steps (x ∷ [])));
  asked = going.asked;
  room = λ f. simp length-append (met-room now.progress (is_wait x.answer.reply) (is_long x.answer.reply) (length now.answers) going.room f);
})
