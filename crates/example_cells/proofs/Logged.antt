-- The log of a pass, with one more transaction.
use Rattle.std.proofs.Common.{◌≡◌, ℕ, ◌<◌, ◌≤◌, List, [], ◌∷◌, ◌++◌, ap, arith}
use Rattle.std.proofs.lemmas.List.{append-nil}
use Rattle.std.specs.List.{AllByRecursion}
use mathlib.Core.List.{IsPrefix}
use Rattle.lt_words.specs.declared.event.Event.{Event}
use Rattle.lt_words.specs.History.{draws_of}
use Rattle.lt_words.specs.Row.{Opening}
use Rattle.example_cells.specs.Committing.{Commit, IsCommit, IsLogged, NamesRise, LogState, IsLog}
use Rattle.example_cells.proofs.Draws.{draws_more}
use Rattle.example_cells.proofs.Freed.{followed, every_more}

draws_in : (xs ys : List Event) → IsPrefix xs ys → draws_of xs ≤ draws_of ys
draws_in xs ys p = omega (arith, draws_more xs p.0, ap draws_of p.1)

later_name : (of : Opening) (pass : ℕ) (seen : List Event) (c d : Commit) → IsLogged of pass seen c → IsCommit of d → IsPrefix seen d.began → c.txn < d.txn
later_name of pass seen c d logged commit after =
    let named = draws_in c.named c.point logged.commit.named in
    let point = draws_in c.point c.seen logged.commit.two_phase.within in
    let within = draws_in c.seen seen logged.within in
    let began = draws_in seen d.began after in
    omega (arith, logged.commit.counted, named, point, within, began, commit.above)

rises : (of : Opening) (pass : ℕ) (seen : List Event) (cs : List Commit) (d : Commit) → AllByRecursion (IsLogged of pass seen) cs → IsCommit of d → IsPrefix seen d.began → NamesRise cs → NamesRise (cs ++ d ∷ [])
rises of pass seen [] d each commit after rise = (tt, tt)
rises of pass seen (c ∷ cs) d each commit after rise = (
  every_more (λ e. c.txn < e.txn) (λ e. c.txn < e.txn) cs d (λ e x. x) rise.0 (later_name of pass seen c d each.0 commit after),
  rises of pass seen cs d each.1 commit after rise.1,
)

pub log_more : (of : Opening) (l : LogState) (d : Commit) (capacity : ℕ) → IsLog of l → IsCommit of d → d.pass ≡ l.pass → IsPrefix l.seen d.began → IsLog of (record { pass = l.pass; seen = d.seen; commits = l.commits ++ d ∷ []; capacity = capacity })
log_more of l d capacity log commit own after =
    let whole : IsPrefix l.seen d.seen = followed l.seen d.began d.seen after (followed d.began d.point d.seen commit.began commit.two_phase.within) in
    record {
      each = every_more (IsLogged of l.pass l.seen) (IsLogged of l.pass d.seen) l.commits d (λ c x. record { commit = x.commit; own = x.own; within = followed c.seen l.seen d.seen x.within whole }) log.each (record { commit = commit; own = own; within = ([], append-nil d.seen) });
      rise = rises of l.pass l.seen l.commits d log.each commit after log.rise;
    }
