-- What lines hear that were executed in their order.
use Rattle.std.proofs.Common.{◌≡◌, ℕ, ◌≤◌, List, [], ◌∷◌, ◌++◌, Option, Some, None, sym, ap, subst, ◌∙◌, append-nil, arith}
use Rattle.std.specs.List.{flat_map, AllByRecursion}
use mathlib.Core.List.{IsPrefix}
use Rattle.lt_ids.specs.Ids.{value_of}
use Rattle.lt_words.specs.declared.event.Event.{Event}
use Rattle.lt_words.specs.History.{shard_of, IsStatus}
use Rattle.lt_words.specs.Row.{PassState}
use Rattle.lt_words.specs.Shown.{word_of, IsShown}
use Rattle.lt_words.proofs.Prefixes.{prefix_trans, prefix_get}
use Rattle.lt_words.proofs.Histories.{part_prefix}
use Rattle.lt_script.specs.declared.command.Command.{Command}
use Rattle.lt_walk.specs.Machine.{Step}
use Rattle.lt_runner.specs.Outcomes.{LetsAreShown, Hears, ComesAfter, part_of}
use Rattle.lt_runner.specs.Machine.{ExecutedLine}
use Rattle.lt_runner.specs.Worked.{steps_of_executed}
use Rattle.lt_runner.specs.Turns.{IsExecuted, AllHear, HearsLine, HearsStep, WordIsOf, reads_word, somes}
use Rattle.lt_runner.proofs.Telling.{all_append, all_more, all_weaker, after_earlier}
use Rattle.lt_runner.proofs.Lines.{TurnHears, turn_steps, flat_snoc}

all_first : {A : Type 0} (P : A → Type 0) (xs ys : List A) → AllByRecursion P (xs ++ ys) → AllByRecursion P xs
all_first P [] ys a = tt
all_first P (x ∷ xs) ys a = (a.0, all_first P xs ys a.1)

all_rest : {A : Type 0} (P : A → Type 0) (xs ys : List A) → AllByRecursion P (xs ++ ys) → AllByRecursion P ys
all_rest P [] ys a = a
all_rest P (x ∷ xs) ys a = all_rest P xs ys a.1

-- What was heard is heard in a longer history.
step_later : (shards : ℕ) (h g : List Event) (d : ExecutedLine) (x : Step) → IsPrefix h g → HearsStep shards h d x → HearsStep shards g d x
step_later shards h g d x p s = record {
  entry = s.entry;
  stands = prefix_get (part_of shards h x) (part_of shards g x) x.answer.at s.entry (part_prefix (shard_of x.key shards) h g p) s.stands;
  hears = s.hears;
}

line_later : (shards : ℕ) (h g : List Event) (first second : ExecutedLine) → IsPrefix h g → HearsLine shards h first second → HearsLine shards g first second
line_later shards h g first second p l = λ r. all_weaker (HearsStep shards h second) (HearsStep shards g second) first.steps (λ x. step_later shards h g second x p) (l r)

word_later : (shards : ℕ) (h g : List Event) (pass word : ℕ) (steps : List Step) → IsPrefix h g → WordIsOf shards h pass word steps → WordIsOf shards g pass word steps
word_later shards h g pass word steps p w = record { seen = w.seen; within = prefix_trans w.seen h g w.within p; status = w.status; after = w.after }

pub hear_later : (shards : ℕ) (h g : List Event) (ds : List ExecutedLine) → IsPrefix h g → AllHear shards h ds → AllHear shards g ds
hear_later shards h g [] p a = tt
hear_later shards h g (d ∷ ds) p a = (
  all_weaker (HearsLine shards h d) (HearsLine shards g d) ds (λ e. line_later shards h g d e p) a.0,
  (λ r. word_later shards h g d.line.pass d.word (flat_map steps_of_executed (d ∷ ds)) p (a.1 r)),
  hear_later shards h g ds p a.2,
)

-- A line hears the step, if the pass had seen before the line that its lets were shown.
hears_step : (shards : ℕ) (old new : PassState) (d : ExecutedLine) (x : Step) → IsPrefix old.seen new.seen → old.number ≡ d.line.pass → Hears old new d.steps d.word → LetsAreShown shards old.seen old.shown x → HearsStep shards new.seen d x
hears_step shards old new d x p num h s = record {
  entry = s.entry;
  stands = prefix_get (part_of shards old.seen x) (part_of shards new.seen x) x.answer.at s.entry (part_prefix (shard_of x.key shards) old.seen new.seen p) s.stands;
  hears = all_weaker (λ t. IsShown old.shown t.pass t.ticket) (λ t. t.pass ≡ d.line.pass → value_of t.ticket ≤ d.word) s.entry.lets
      (λ t is. λ e.
      let at : value_of t.ticket ≤ word_of old.number old.shown = subst (λ (n : ℕ). value_of t.ticket ≤ word_of n old.shown) (e ∙ sym num) is in
      let above : word_of old.number old.shown ≤ d.word = h.above in
      omega arith) s.lets_shown;
}

-- The line is executed after these.
hear_more : (shards : ℕ) (old new : PassState) (d : ExecutedLine) (ds : List ExecutedLine) → IsPrefix old.seen new.seen → old.number ≡ d.line.pass → old.of.shards ≡ shards → (reads_word d → Hears old new d.steps d.word)
    → AllByRecursion (ComesAfter shards old.seen) d.steps → AllByRecursion (LetsAreShown shards old.seen old.shown) (flat_map steps_of_executed ds) → AllHear shards old.seen ds → AllHear shards new.seen (ds ++ d ∷ [])
hear_more shards old new d [] p num home hears comes told a = (
  tt,
  (λ r.
      let h : Hears old new d.steps d.word = hears r in
      record {
        seen = h.seen;
        within = h.within;
        status = subst (λ (n : ℕ). IsStatus h.seen n d.word) num h.status;
        after = subst (AllByRecursion (ComesAfter shards h.seen)) (sym (append-nil d.steps)) (subst (λ (n : ℕ). AllByRecursion (ComesAfter n h.seen) d.steps) home h.after);
      }),
  tt,
)
hear_more shards old new d (c ∷ ds) p num home hears comes told a = (
  all_more (HearsLine shards new.seen c) ds d (all_weaker (HearsLine shards old.seen c) (HearsLine shards new.seen c) ds (λ e. line_later shards old.seen new.seen c e p) a.0)
      (λ r. all_weaker (LetsAreShown shards old.seen old.shown) (HearsStep shards new.seen d) c.steps (λ x. hears_step shards old new d x p num (hears r)) (all_first (LetsAreShown shards old.seen old.shown) c.steps (flat_map steps_of_executed ds) told)),
  (λ r.
      let w : WordIsOf shards old.seen c.line.pass c.word (flat_map steps_of_executed (c ∷ ds)) = a.1 r in
      let later : AllByRecursion (ComesAfter shards w.seen) d.steps = all_weaker (ComesAfter shards old.seen) (ComesAfter shards w.seen) d.steps (λ x. after_earlier shards w.seen old.seen x w.within) comes in
      record {
        seen = w.seen;
        within = prefix_trans w.seen old.seen new.seen w.within p;
        status = w.status;
        after = subst (AllByRecursion (ComesAfter shards w.seen)) (sym (flat_snoc steps_of_executed (c ∷ ds) d)) (all_append (ComesAfter shards w.seen) (flat_map steps_of_executed (c ∷ ds)) d.steps w.after later);
      }),
  hear_more shards old new d ds p num home hears comes (all_rest (LetsAreShown shards old.seen old.shown) c.steps (flat_map steps_of_executed ds) told) a.2,
)

-- The pass of the command executed its line after these, or nothing.
pub hear_turn : (shards : ℕ) (old new : PassState) (c : Command) (t : Option ExecutedLine) (ds : List ExecutedLine) → IsPrefix old.seen new.seen → old.number ≡ c.pass → old.of.shards ≡ shards → IsExecuted c t → TurnHears old new t
    → AllByRecursion (ComesAfter shards old.seen) (turn_steps t) → AllByRecursion (LetsAreShown shards old.seen old.shown) (flat_map steps_of_executed ds) → AllHear shards old.seen ds → AllHear shards new.seen (ds ++ somes (t ∷ []))
hear_turn shards old new c None ds p num home is hears comes told a = subst (AllHear shards new.seen) (sym (append-nil ds)) (hear_later shards old.seen new.seen ds p a)
hear_turn shards old new c (Some d) ds p num home is hears comes told a = hear_more shards old new d ds p (num ∙ ap (λ (x : Command). x.pass) (sym is)) home hears comes told a
