-- The steps that a shard has made, as a prefix of the shard's part of what a pass has seen.
use Rattle.std.proofs.Common.{◌≡◌, ℕ, ◌+◌, List, [], ◌∷◌, ◌++◌, length, take, sym, ap, ◌∙◌, arith, length-append}
use Rattle.std.proofs.lemmas.List.{take-append-le, take_all}
use mathlib.Core.List.{IsPrefix}
use Rattle.lt_entry.specs.declared.entry.Entry.{Entry}
use Rattle.lt_words.specs.declared.event.Event.{Event}
use Rattle.lt_words.specs.History.{part}
use Rattle.lt_words.specs.Laws.{PartsBegin}

pub exactly : PartsBegin → (shard : ℕ) (front seen : List Event) (old made : List Entry) (e : Entry) (at : ℕ) → made ≡ part shard front → IsPrefix front seen → made ≡ old ++ e ∷ [] → at ≡ length old →
    take (at + 1) (part shard seen) ≡ made
exactly begins shard front seen old made e at is pre grown index =
    let within = begins shard front seen pre in
    let long : at + 1 ≡ length (part shard front) = omega (arith, index, ap length grown, length-append old (e ∷ []), ap length is) in
    ap (take (at + 1)) (sym within.1) ∙ (take-append-le (at + 1) (part shard front) within.0 (omega (arith, long)) ∙ (take_all (at + 1) (part shard front) (omega (arith, long)) ∙ sym is))
