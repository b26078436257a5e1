-- How many transactions logs have, and what a close says of them.
use Rattle.std.proofs.Common.{◌≡◌, ◌+◌, ℕ, List, [], ◌∷◌, ◌++◌, length, ap, ◌∙◌, arith, length-append}
use Rattle.lt_words.specs.Row.{Opening, PassState}
use Rattle.lt_walk.specs.declared.closing.Rests.{Rests}
use Rattle.example_cells.specs.Committing.{LogState, all_commits}
use Rattle.example_store.specs.Closing.{ClosedInOrder}
use Rattle.example_bank.specs.Run.{WentInOne}

-- one more log
pub length_more : (ls : List LogState) (l : LogState) → length (all_commits (ls ++ l ∷ [])) ≡ length (all_commits ls) + length l.commits
length_more [] l = omega (arith, length-append l.commits [])
length_more (m ∷ ls) l = omega (arith, length-append m.commits (all_commits (ls ++ l ∷ [])), length-append m.commits (all_commits ls), length_more ls l)

pub went_in_one : (of : Opening) (passes : List PassState) (rests : Rests) (ls : List LogState) (n : ℕ) → ClosedInOrder of passes rests ls → n ≡ length (all_commits ls) → WentInOne of.shards n
went_in_one of passes rests ls n closed counted = record {
  logs = ls;
  whole = closed.closed.whole;
  legal = closed.closed.legal;
  seen = closed.seen;
  counted = counted;
  in_order = closed.in_order;
}
