-- A leave that is under way.
use Rattle.std.proofs.Common.{◌≡◌, ℕ, List, [], ◌∷◌, ◌++◌, map, refl, sym, Option, Some, None, slice_get, append_assoc, nat_lt, false, length, ◌≤◌, arith}
use Rattle.std.specs.Option.{option_map}
use Rattle.std.proofs.lemmas.List.{map-append}
use Rattle.std.proofs.lemmas.Option.{slice_get_past}
use Rattle.std.proofs.lemmas.Bool.Decides.{nat_tests}
use Rattle.lt_ids.specs.declared.request.Access.{Access}
use Rattle.lt_rules.specs.declared.call.Call.{Call}
use Rattle.lt_rules.specs.declared.call.Call.TheVariants.{Leave}
use Rattle.lt_walk.specs.declared.walk_progress.Mode.TheVariants.{Leaving}
use Rattle.lt_walk.specs.declared.walk_progress.Progress.{Progress}
use Rattle.lt_walk.specs.Machine.{Asked, passed, next_leave, WalkState, Step, answer_of, Leaves, IsLeaveFrom}

pub record IsParting (begun now : WalkState) (steps : List Step) : Type 0 where
  pub run : IsLeaveFrom begun steps now
  pub leaving : now.progress.mode ≡ Leaving

-- one more leave step
Leaves-more : (asked : Asked) (p : Progress) (xs : List Step) (q : Progress) (x : Step) → Leaves asked p xs q → next_leave asked q ≡ Some (x.key, x.call) → Leaves asked p (xs ++ x ∷ []) (passed q)
Leaves-more asked p [] q x e next = (rw (sym e) next, rw e refl)
Leaves-more asked p (y ∷ ys) q x v next = (v.0, Leaves-more asked (passed p) ys q x v.1 next)

-- a key that comes from one item of a list, and a call that is the same for each item
with_call : (o : Option (List ℕ × Access)) (key : List ℕ) (call : Call) → option_map (λ k. k.0) o ≡ Some key → option_map {U = List ℕ × Call} (λ k. (k.0, call)) o ≡ Some (key, call)
with_call None key call e = cc
with_call (Some k) key call e = cc

-- the leave step that comes next, from its key and its call
pub next_leave-is : (asked : Asked) (p : Progress) (key : List ℕ) (call : Call) → option_map (λ k. k.0) (slice_get asked.keys p.index) ≡ Some key → call ≡ Leave asked.number → next_leave asked p ≡ Some (key, call)
next_leave-is asked p key call k e = rw e (with_call (slice_get asked.keys p.index) key (Leave asked.number) k)

-- one more leave step, with its answer
pub IsParting-more : (begun now : WalkState) (steps : List Step) (x : Step) (after : WalkState) → IsParting begun now steps →
    next_leave now.asked now.progress ≡ Some (x.key, x.call) →
    after ≡ record now { progress = passed now.progress; answers = now.answers ++ x.answer ∷ [] } →
    IsParting begun after (steps ++ x ∷ [])
IsParting-more begun now steps x after going next e = rw e (record {
  run = record {
    leaves = Leaves-more begun.asked begun.progress steps now.progress x going.run.leaves (rw (sym going.run.stays) next);
    answers = rw (going.run.answers, map-append answer_of steps (x ∷ [])) (append_assoc begun.answers (map answer_of steps) (x.answer ∷ []));
    stays = going.run.stays;
  };
  leaving = going.leaving;
})

-- no key is left
pub no_leave : (asked : Asked) (p : Progress) → nat_lt p.index (length asked.keys) ≡ false → next_leave asked p ≡ None
no_leave asked p e = let past : length asked.keys ≤ p.index = grind (arith, nat_tests) in rw (slice_get_past asked.keys p.index past) refl
