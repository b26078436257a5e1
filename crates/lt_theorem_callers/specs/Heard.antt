-- What a caller notes of what it was told, and what it knows when the table is closed.
use Rattle.std.specs.Prelude.{ℕ, ◌≡◌, ◌≢◌, ◌<◌, List, [], ◌∷◌, map, drop, slice_index_or}
use Rattle.lt_ids.specs.Ids.{Wait}
use Rattle.lt_words.specs.Row.{Opening, PassState, fresh}
use Rattle.lt_shard.specs.declared.answer.Answer.{Answer}
use Rattle.lt_shard.specs.declared.holding.Rest.{Rest}
use Rattle.lt_walk.specs.Machine.{answer_of}
use Rattle.lt_walk.specs.declared.walk_progress.Mode.TheVariants.{Leaving}
use Rattle.lt_walk.specs.Reported.{GuardState}
use Rattle.lt_walk.specs.Theorem.{Told, Heard, AreHeard, ShardHistories, IsEnd, MainTheorem, steps_told}
use Rattle.lt_walk.specs.Theorem.Told.{Made, WasLet}
use Rattle.lt_theorem_callers.specs.declared.notes.Notes.{Notes}

-- the waits that a caller was told to be let through
abbrev pub lets_told : List Told → List Wait
lets_told [] = []
lets_told (Made x ∷ told) = lets_told told
lets_told (WasLet t ∷ told) = t ∷ lets_told told

-- The pass's caller was told this since the table was opened. The answers of its steps are these, in order, and these are
-- the numbers of the requests that it read as let through.
pub record WasTold (p : PassState) (answers : List Answer) (lets : List ℕ) : Type 0 where
  pub told : List Told
  pub heard : Heard (fresh p.of p.number) told p
  pub answers_are : answers ≡ map answer_of (steps_told told)
  pub lets_are : lets ≡ map (λ t. t.number) (lets_told told)

-- The pass is of this table, and its caller was told what these notes have.
pub record HasNoted (of : Opening) (p : PassState) (notes : Notes) : Type 0 where
  pub table : p.of ≡ of
  pub told : WasTold p notes.answers.items notes.lets.items

-- The same pass made calls, and its caller then has these notes.
pub record NotesMore (of : Opening) (old new : PassState) (notes : Notes) : Type 0 where
  pub number : new.number ≡ old.number
  pub noted : HasNoted of new notes

-- The request of the guard is not leaving.
abbrev pub IsStaying : GuardState → Type 0
IsStaying g = g.walk.progress.mode ≢ Leaving

-- What holds of a table that two callers used and that is closed, with what is left of its shards: what they were told,
-- which has the answers and the lets that they noted; the final histories, of which the rests are the ends; and the main
-- theorem of both.
pub record IsConcluded (of : Opening) (d : Rest) (rests : List Rest) (one two : List Answer) (lets_one lets_two : List ℕ) : Type 0 where
  pub passes : List PassState
  pub finals : ShardHistories of
  pub ends : (s : ℕ) (here : s < of.shards) → (slice_index_or rests s d).entries.items ≡ drop (slice_index_or rests s d).from (finals s here)
  pub end : IsEnd of passes finals
  pub told_one : List Told
  pub told_two : List Told
  pub answers_one : one ≡ map answer_of (steps_told told_one)
  pub answers_two : two ≡ map answer_of (steps_told told_two)
  pub lets_of_one : lets_one ≡ map (λ t. t.number) (lets_told told_one)
  pub lets_of_two : lets_two ≡ map (λ t. t.number) (lets_told told_two)
  pub heard : AreHeard of (told_one ∷ told_two ∷ []) passes
  pub theorem : MainTheorem of passes finals end (told_one ∷ told_two ∷ []) heard
