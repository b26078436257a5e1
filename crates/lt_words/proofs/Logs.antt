-- The events of a log and what it has shown, as it grows.
use Rattle.std.proofs.Common.{◌≡◌, ℕ, List, [], ◌∷◌, ◌++◌, refl, ap, sym, subst, ◌∙◌}
use mathlib.Core.List.{IsPrefix}
use Rattle.logbook.specs.Pages.{Book}
use Rattle.lt_ids.specs.declared.ticket.Through.{Through}
use Rattle.lt_words.specs.declared.event.Event.{Event}
use Rattle.lt_words.specs.declared.event.Event.TheVariants.{Opened}
use Rattle.lt_words.specs.declared.event.Logged.{Logged}
use Rattle.lt_words.specs.declared.event.Logged.TheVariants.{Happened, Shown, Took}
use Rattle.lt_words.specs.declared.event.Take.{Take}
use Rattle.lt_words.specs.History.{IsLegalHistory}
use Rattle.lt_words.specs.Shown.{AreLet}
use Rattle.lt_words.specs.Rules.{events_of, shown_of, takes_of, history_of, after_first, shards_first, passes_first, keeping_first, shards_in, passes_in, keeping_in, IsOpenLog}
use Rattle.lt_words.specs.Row.{front_state, FrontGrows}

events_of-append : (xs ys : List Logged) → events_of (xs ++ ys) ≡ events_of xs ++ events_of ys
events_of-append [] ys = refl
events_of-append (Happened e ∷ xs) ys = ap (λ (l : List Event). e ∷ l) (events_of-append xs ys)
events_of-append (Shown t ∷ xs) ys = events_of-append xs ys
events_of-append (Took t ∷ xs) ys = events_of-append xs ys

pub shown_of-append : (xs ys : List Logged) → shown_of (xs ++ ys) ≡ shown_of xs ++ shown_of ys
shown_of-append [] ys = refl
shown_of-append (Happened e ∷ xs) ys = shown_of-append xs ys
shown_of-append (Shown t ∷ xs) ys = ap (λ (l : List Through). t ∷ l) (shown_of-append xs ys)
shown_of-append (Took t ∷ xs) ys = shown_of-append xs ys

pub takes_of-append : (xs ys : List Logged) → takes_of (xs ++ ys) ≡ takes_of xs ++ takes_of ys
takes_of-append [] ys = refl
takes_of-append (Happened e ∷ xs) ys = takes_of-append xs ys
takes_of-append (Shown t ∷ xs) ys = takes_of-append xs ys
takes_of-append (Took t ∷ xs) ys = ap (λ (l : List Take). t ∷ l) (takes_of-append xs ys)

-- a log that was extended has the same opening
pub events_on : (log more : List Logged) → IsOpenLog log → events_of (log ++ more) ≡ Opened (shards_in log) (passes_in log) (keeping_in log) ∷ (history_of log ++ events_of more)
events_on log more is = events_of-append log more ∙ ap (λ (l : List Event). l ++ events_of more) is.opened

pub history_on : (log more : List Logged) → IsOpenLog log → history_of (log ++ more) ≡ history_of log ++ events_of more
history_on log more is = ap after_first (events_on log more is)

pub shards_on : (log more : List Logged) → IsOpenLog log → shards_in (log ++ more) ≡ shards_in log
shards_on log more is = ap shards_first (events_on log more is)

pub passes_on : (log more : List Logged) → IsOpenLog log → passes_in (log ++ more) ≡ passes_in log
passes_on log more is = ap passes_first (events_on log more is)

pub keeping_on : (log more : List Logged) → IsOpenLog log → keeping_in (log ++ more) ≡ keeping_in log
keeping_on log more is = ap keeping_first (events_on log more is)

-- an extended log is a book's log if its history is legal and each let that it has shown was let through
pub open_on : (log more : List Logged) → IsOpenLog log → IsLegalHistory (shards_in log) (history_of log ++ events_of more) → AreLet (history_of log ++ events_of more) (shown_of log ++ shown_of more) → IsOpenLog (log ++ more)
open_on log more is legal through =
    let history = history_on log more is in record {
      opened = events_on log more is ∙ (λ i. Opened (sym (shards_on log more is) i) (sym (passes_on log more is) i) (sym (keeping_on log more is) i) ∷ sym history i);
      legal = subst (λ (t : ℕ × List Event). IsLegalHistory t.0 t.1) (λ i. (sym (shards_on log more is) i, sym history i)) legal;
      let_through = subst (λ (t : List Event × List Through). AreLet t.0 t.1) (λ i. (sym history i, sym (shown_of-append log more) i)) through;
    }

-- ---- prefixes

pub history_prefix : (v w : List Logged) → IsOpenLog v → IsPrefix v w → IsPrefix (history_of v) (history_of w)
history_prefix v w is pre = (events_of pre.0, sym (history_on v pre.0 is) ∙ ap history_of pre.1)

pub shown_prefix : (v w : List Logged) → IsPrefix v w → IsPrefix (shown_of v) (shown_of w)
shown_prefix v w pre = (shown_of pre.0, sym (shown_of-append v pre.0) ∙ ap shown_of pre.1)

pub takes_prefix : (v w : List Logged) → IsPrefix v w → IsPrefix (takes_of v) (takes_of w)
takes_prefix v w pre = (takes_of pre.0, sym (takes_of-append v pre.0) ∙ ap takes_of pre.1)

pub same_shards : (v w : List Logged) → IsOpenLog v → IsPrefix v w → shards_in w ≡ shards_in v
same_shards v w is pre = ap shards_in (sym pre.1) ∙ shards_on v pre.0 is

pub same_passes : (v w : List Logged) → IsOpenLog v → IsPrefix v w → passes_in w ≡ passes_in v
same_passes v w is pre = ap passes_in (sym pre.1) ∙ passes_on v pre.0 is

same_keeping : (v w : List Logged) → IsOpenLog v → IsPrefix v w → keeping_in w ≡ keeping_in v
same_keeping v w is pre = ap keeping_in (sym pre.1) ∙ keeping_on v pre.0 is

pub sight_grows : (book book2 : Book) (v w : List Logged) → book2 ≡ book → IsOpenLog v → IsPrefix v w → FrontGrows (front_state book v) (front_state book2 w)
sight_grows book book2 v w same is pre = record {
  of = λ i. record { book = same i; shards = same_shards v w is pre i; passes = same_passes v w is pre i; keeping = same_keeping v w is pre i };
  seen = history_prefix v w is pre;
  shown = shown_prefix v w pre;
  takes = takes_prefix v w pre;
}
