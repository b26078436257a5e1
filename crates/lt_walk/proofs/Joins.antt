-- A scan that was refused partway and the scan that goes on from there are as one scan.
use Rattle.std.proofs.Common.{◌≡◌, ℕ, Bool, true, false, nat_lt, List, [], ◌∷◌, ◌++◌, length, Option, Some, None, Result, Err, refl, sym, ◌∙◌, ap, subst}
use Rattle.std.proofs.lemmas.List.{map-append}
use Rattle.lt_rules.specs.declared.call.Call.{Call}
use Rattle.lt_shard.specs.declared.answer.StepError.{StepError}
use Rattle.lt_shard.specs.declared.answer.StepError.TheVariants.{HistoryFull, Memory}
use Rattle.lt_walk.specs.declared.walk_progress.Progress.{Progress}
use Rattle.lt_walk.specs.declared.walk_progress.Mode.{Mode}
use Rattle.lt_walk.specs.declared.walk_progress.Mode.TheVariants.{Free, Awaiting, Let, Stopped, Leaving}
use Rattle.lt_walk.specs.declared.scan_results.Scan.{Scan}
use Rattle.lt_walk.specs.declared.scan_results.ScanError.{ScanError}
use Rattle.lt_walk.specs.declared.scan_results.ScanError.TheVariants.{WaitsOut}
use Rattle.lt_walk.specs.Machine.{Asked, scan_end, restarted, is_awaiting, is_free, is_stopped, next_visit, met, Visits, WalkState, IsScanFrom, Ends, of_step, answer_of, Step}
use Rattle.lt_walk.proofs.Follows.{no_visit}
use Rattle.lt_walk.proofs.WentOn.{end_in}

not_waits_out : (e : StepError) → of_step e ≡ WaitsOut → ⊥
not_waits_out HistoryFull h = absurd cc
not_waits_out Memory h = absurd cc

never_end : (waits stops inside : Bool) (p q : Progress) (e : StepError) → Err (of_step e) ≡ (end_in waits stops inside p q).result → ⊥
never_end true stops inside p q e h = absurd cc
never_end false true inside p q e h = absurd cc
never_end false false true p q e h = not_waits_out e cc
never_end false false false p q e h = absurd cc

-- a refused scan stops at the visit that was refused
ends_refused : (next : Option (List ℕ × Call)) (keys : ℕ) (last after : Progress) (e : StepError) → Ends next (scan_end keys last) last (Err (of_step e)) after → after ≡ last
ends_refused None keys last after e h = absurd (never_end (is_awaiting last.mode) (is_stopped last.mode) (nat_lt last.index keys) last (restarted last) e h.0)
ends_refused (Some x) keys last after e h = h.1

free_by : (m : Mode) → (is_free m ≡ false → ⊥) → m ≡ Free
free_by Free h = refl
free_by Awaiting h = absurd (h refl)
free_by Let h = absurd (h refl)
free_by Stopped h = absurd (h refl)
free_by Leaving h = absurd (h refl)

-- a request whose visit was refused does not wait
refused_is_free : (asked : Asked) (max_waits : ℕ) (last after : Progress) (e : StepError) (next : Option (List ℕ × Call)) → next_visit asked max_waits last ≡ next → Ends next (scan_end (length asked.keys) last) last (Err (of_step e)) after → last.mode ≡ Free
refused_is_free asked max_waits last after e None is h = absurd (never_end (is_awaiting last.mode) (is_stopped last.mode) (nat_lt last.index (length asked.keys)) last (restarted last) e h.0)
refused_is_free asked max_waits last after e (Some x) is h = free_by last.mode (λ f. no_visit asked max_waits last x f is)

Visits-append : (asked : Asked) (max_waits : ℕ) (p : Progress) (xs : List Step) (q : Progress) (ys : List Step) (r : Progress) → Visits asked max_waits p xs q → Visits asked max_waits q ys r → Visits asked max_waits p (xs ++ ys) r
Visits-append asked max_waits p [] q ys r e v = subst (λ s. Visits asked max_waits s ys r) e v
Visits-append asked max_waits p (x ∷ xs) q ys r u v = (u.0, Visits-append asked max_waits (met p x.answer.reply) xs q ys r u.1 v)

-- so the next scan begins free
pub free_after : (asked : Asked) (max_waits : ℕ) (p : Progress) (xs : List Step) (e : StepError) (b : WalkState) → IsScanFrom asked max_waits p xs (Err (of_step e)) b → b.progress.mode ≡ Free
free_after asked max_waits p xs e b one =
    ap (λ q. q.mode) (ends_refused (next_visit asked max_waits one.last) (length asked.keys) one.last b.progress e one.ends)
    ∙ refused_is_free asked max_waits one.last b.progress e (next_visit asked max_waits one.last) refl one.ends

pub scans_join : (asked : Asked) (max_waits : ℕ) (p : Progress) (xs ys : List Step) (e : StepError) (result : Result Scan ScanError) (b c : WalkState) → IsScanFrom asked max_waits p xs (Err (of_step e)) b → IsScanFrom asked max_waits b.progress ys result c →
    IsScanFrom asked max_waits p (xs ++ ys) result (record c { answers = b.answers ++ c.answers })
scans_join asked max_waits p xs ys e result b c one two =
    let at : b.progress ≡ one.last = ends_refused (next_visit asked max_waits one.last) (length asked.keys) one.last b.progress e one.ends in
    let same : IsScanFrom asked max_waits one.last ys result c = subst (λ q. IsScanFrom asked max_waits q ys result c) at two in
    record {
      last = same.last;
      visits = Visits-append asked max_waits p xs one.last ys same.last one.visits same.visits;
      ends = same.ends;
      answers = rw (one.answers, same.answers) (sym (map-append answer_of xs ys));
      stays = same.stays;
    }
