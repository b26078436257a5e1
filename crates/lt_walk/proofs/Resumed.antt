-- Scans that were refused partway, one after the other, and one more: together they are as one scan. If the last one
-- answers Proceed, they have passed each key.
use Rattle.std.proofs.Common.{◌≡◌, ℕ, List, [], ◌∷◌, ◌++◌, Result, Ok, Err, refl, sym, ◌∙◌, ap, subst, append_assoc}
use Rattle.std.specs.List.{AllByRecursion}
use mathlib.Core.List.{IsPrefix}
use Rattle.lt_rules.proofs.Cases.{all_append}
use Rattle.lt_shard.specs.declared.answer.Answer.{Answer}
use Rattle.lt_shard.specs.declared.answer.StepError.{StepError}
use Rattle.lt_words.specs.History.{part}
use Rattle.lt_words.specs.Row.{PassState}
use Rattle.lt_words.proofs.Prefixes.{prefix_trans, prefix_get}
use Rattle.lt_words.proofs.Histories.{part_prefix}
use Rattle.lt_walk.specs.declared.walk_progress.Mode.TheVariants.{Free}
use Rattle.lt_walk.specs.declared.scan_results.Scan.{Scan}
use Rattle.lt_walk.specs.declared.scan_results.Scan.TheVariants.{Proceed}
use Rattle.lt_walk.specs.declared.scan_results.ScanError.{ScanError}
use Rattle.lt_walk.specs.Machine.{IsScanFrom, of_step, Step}
use Rattle.lt_walk.specs.Reported.{GuardState, IsScan, PassStays, shard_at}
use Rattle.lt_walk.specs.Laws.{Stands, StaysInPlace, Partway, RefusedPartway, steps_partway, answers_partway, ResumedHasPassedEach, ResumedIsOneScan, RefusedPartwayGoesOn}
use Rattle.lt_walk.proofs.InPlace.{prefix_same, all_stand, all_later}
use Rattle.lt_walk.proofs.WentOn.{scan_stays}
use Rattle.lt_walk.proofs.Follows.{IsVisitReply, begins_free, from_is_scan, from_proceeds}
use Rattle.lt_walk.proofs.Passing.{visits_fine}
use Rattle.lt_walk.proofs.Joins.{free_after, scans_join}

-- steps that stand go on standing
standing : (old mid new : PassState) (xs : List Step) → IsPrefix mid.seen new.seen → AllByRecursion (Stands old mid) xs → AllByRecursion (Stands old new) xs
standing old mid new [] begins a = tt
standing old mid new (x ∷ xs) begins a = (
  record {
    entry = a.0.entry;
    key_is = a.0.key_is;
    pass_is = a.0.pass_is;
    call_is = a.0.call_is;
    reply_is = a.0.reply_is;
    at = prefix_get (part (shard_at old x) mid.seen) (part (shard_at old x) new.seen) x.answer.at a.0.entry (part_prefix (shard_at old x) mid.seen new.seen begins) a.0.at;
    later = a.0.later;
  },
  standing old mid new xs begins a.1,
)

stays_same : (p : PassState) → PassStays p p
stays_same p = record {
  of = refl;
  number = refl;
  seen = prefix_same p.seen p.seen refl;
  shown = prefix_same p.shown p.shown refl;
}

stays_on : (a b c : PassState) → PassStays a b → PassStays b c → PassStays a c
stays_on a b c p q = record {
  of = q.of ∙ p.of;
  number = q.number ∙ p.number;
  seen = prefix_trans a.seen b.seen c.seen p.seen q.seen;
  shown = prefix_trans a.shown b.shown c.shown p.shown q.shown;
}

in_place : (a b c : GuardState) → StaysInPlace a b → StaysInPlace b c → StaysInPlace a c
in_place a b c p q = record {
  stays = record { pass = stays_on a.pass b.pass c.pass p.stays.pass q.stays.pass; asked = q.stays.asked ∙ p.stays.asked };
  place = q.place ∙ p.place;
}

nothing_refused : (g : GuardState) → StaysInPlace g g
nothing_refused g = record { stays = record { pass = stays_same g.pass; asked = refl }; place = refl }

-- a scan that is begun where the request is
record Runs (max_waits : ℕ) (old new : GuardState) (steps : List Step) (result : Result Scan ScanError) (answers : List Answer) : Type 0 where
  from : IsScanFrom old.walk.asked max_waits old.walk.progress steps result (record new.walk { answers = answers })
  stays : PassStays old.pass new.pass
  stand : AllByRecursion (Stands old.pass new.pass) steps

-- one scan, after the request stayed in place
one_runs : (max_waits : ℕ) (old begun new : GuardState) (result : Result Scan ScanError) → old.walk.progress.mode ≡ Free → StaysInPlace old begun → (scan : IsScan max_waits begun new result) → Runs max_waits old new scan.steps result new.walk.answers
one_runs max_waits old begun new result free same scan =
    let from : IsScanFrom begun.walk.asked max_waits begun.walk.progress scan.steps result new.walk = begins_free max_waits begun.walk scan.word scan.steps result new.walk (ap (λ p. p.mode) same.place ∙ free) scan.scan in
    let first : PassStays old.pass begun.pass = same.stays.pass in
    record {
      from = subst (λ p. IsScanFrom old.walk.asked max_waits p scan.steps result new.walk) same.place (subst (λ k. IsScanFrom k max_waits begun.walk.progress scan.steps result new.walk) same.stays.asked from);
      stays = stays_on old.pass begun.pass new.pass first (scan_stays max_waits begun new result scan).pass;
      stand =
          all_later old.pass begun.pass new.pass scan.steps first.of first.number first.seen
          (all_later begun.pass scan.read new.pass scan.steps scan.reads.of scan.reads.number scan.reads.seen (all_stand scan.read new.pass scan.steps scan.reported).1);
    }

all_run : (max_waits : ℕ) (old mid new : GuardState) (partway : List Partway) (result : Result Scan ScanError) → old.walk.progress.mode ≡ Free → RefusedPartway max_waits old partway mid → (scan : IsScan max_waits mid new result) →
    Runs max_waits old new (steps_partway partway ++ scan.steps) result (answers_partway partway ++ new.walk.answers)
all_run max_waits old mid new [] result free same scan = one_runs max_waits old mid new result free same scan
all_run max_waits old mid new (x ∷ xs) result free h scan =
    let begun : GuardState = h.0 in
    let ended : GuardState = h.1 in
    let one : Runs max_waits old ended h.4.steps (Err (of_step h.3)) ended.walk.answers = one_runs max_waits old begun ended (Err (of_step h.3)) free h.2 h.4 in
    let rest : Runs max_waits ended new (steps_partway xs ++ scan.steps) result (answers_partway xs ++ new.walk.answers) =
    all_run max_waits ended mid new xs result (free_after old.walk.asked max_waits old.walk.progress h.4.steps h.3 ended.walk one.from) h.7 scan in
    let goes_on : IsScanFrom old.walk.asked max_waits ended.walk.progress (steps_partway xs ++ scan.steps) result (record new.walk { answers = answers_partway xs ++ new.walk.answers }) =
    subst (λ k. IsScanFrom k max_waits ended.walk.progress (steps_partway xs ++ scan.steps) result (record new.walk { answers = answers_partway xs ++ new.walk.answers })) one.from.stays rest.from in
    rw (h.5, h.6, append_assoc h.4.steps (steps_partway xs) scan.steps, append_assoc ended.walk.answers (answers_partway xs) new.walk.answers) (record {
      from = scans_join old.walk.asked max_waits old.walk.progress h.4.steps (steps_partway xs ++ scan.steps) h.3 result ended.walk (record new.walk { answers = answers_partway xs ++ new.walk.answers }) one.from goes_on;
      stays = stays_on old.pass ended.pass new.pass one.stays rest.stays;
      stand =
          all_append (Stands old.pass new.pass) h.4.steps (steps_partway xs ++ scan.steps)
          (standing old.pass ended.pass new.pass h.4.steps rest.stays.seen one.stand)
          (all_later old.pass ended.pass new.pass (steps_partway xs ++ scan.steps) one.stays.of one.stays.number one.stays.seen rest.stand);
    })

pub resumed_is_one_scan : ResumedIsOneScan
resumed_is_one_scan max_waits old mid new partway result free refused scan word =
    from_is_scan max_waits old.walk word (steps_partway partway ++ scan.steps) result (record new.walk { answers = answers_partway partway ++ new.walk.answers }) free (all_run max_waits old mid new partway result free refused scan).from

pub resumed_has_passed_each : ResumedHasPassedEach
resumed_has_passed_each max_waits old mid new partway shards legal at_start free refused scan =
    let r = all_run max_waits old mid new partway (Ok Proceed) free refused scan in
    let steps : List Step = steps_partway partway ++ scan.steps in
    let fine : AllByRecursion (λ x. IsVisitReply x.answer.reply) steps = visits_fine old.walk.asked max_waits old.walk.progress steps r.from.last shards old.pass new.pass legal r.from.visits r.stand in
    let passed = from_proceeds old.walk.asked max_waits old.walk.progress steps (record new.walk { answers = answers_partway partway ++ new.walk.answers }) fine r.from in
    record { keys = sym (rw at_start at passed.0); answered = r.from.answers; passed = passed.1 }

-- ---- how a caller comes to the premise

then_in_place : (max_waits : ℕ) (old mid new : GuardState) (partway : List Partway) → RefusedPartway max_waits old partway mid → StaysInPlace mid new → RefusedPartway max_waits old partway new
then_in_place max_waits old mid new [] h same = in_place old mid new h same
then_in_place max_waits old mid new (x ∷ xs) h same = (h.0, h.1, h.2, h.3, h.4, h.5, h.6, then_in_place max_waits h.1 mid new xs h.7 same)

then_refused : (max_waits : ℕ) (old mid new : GuardState) (partway : List Partway) (e : StepError) → RefusedPartway max_waits old partway mid → (scan : IsScan max_waits mid new (Err (of_step e))) →
    RefusedPartway max_waits old (partway ++ record { steps = scan.steps; answers = new.walk.answers } ∷ []) new
then_refused max_waits old mid new [] e h scan = (mid, new, h, e, scan, refl, refl, nothing_refused new)
then_refused max_waits old mid new (x ∷ xs) e h scan = (h.0, h.1, h.2, h.3, h.4, h.5, h.6, then_refused max_waits h.1 mid new xs e h.7 scan)

pub refused_partway_goes_on : RefusedPartwayGoesOn
refused_partway_goes_on max_waits old mid new partway = (
  nothing_refused old,
  then_in_place max_waits old mid new partway,
  λ e h scan. then_refused max_waits old mid new partway e h scan,
)
