-- How a script is run: what the options of `run` may say, and the default of each.
use Rattle.std.specs.Prelude.{ℕ, ◌≤◌, ◌^◌, ◌&&◌, nat_le, Bool, false, true, List, Option, Some, None, codes, option_map, if◌then◌else◌}
use Rattle.std.specs.Borrow.{Bor}
use Rattle.std.specs.Str.{bytes_eq}
use Rattle.lt_text.specs.Number.{decimal_of}
use Rattle.lockrun_words.specs.declared.options.Options.{Options}

abbrev pub default_options : Options
default_options = record { shards = 4; steps = 1000000; threads = false; turns = 1000000 }

-- The default options, but with threads.
abbrev pub with_threads : Options
with_threads = record default_options { threads = true }

-- Each number is in its range.
pub record AreInRange (o : Options) : Type 0 where
  pub some_shards : 1 ≤ o.shards
  pub few_shards : o.shards ≤ 64
  pub some_steps : 1 ≤ o.steps
  pub few_steps : o.steps ≤ 2 ^ 32
  pub some_turns : 1 ≤ o.turns
  pub few_turns : o.turns ≤ 1000000000

-- ---- one option

-- The number, if it is from 1 to `most`.
abbrev pub within : ℕ → Option ℕ → Option ℕ
within most None = None
within most (Some n) = if nat_le 1 n && nat_le n most then Some n else None

-- The number that an option's word spells, if it is from 1 to `most`; the default if there is no word.
abbrev pub number_or : ℕ → ℕ → Option (List ℕ) → Option ℕ
number_or default most None = Some default
number_or default most (Some word) = within most (decimal_of word)

-- Whether a flag was given. Its value is then `true`.
abbrev pub is_set : Option (List ℕ) → Bool
is_set None = false
is_set (Some value) = bytes_eq value (codes "true")

-- ---- all of them

-- The options, if each of their numbers is there.
abbrev pub joined : Option ℕ → Option ℕ → Bool → Option ℕ → Option Options
joined (Some shards) (Some steps) threads (Some turns) = Some (record { shards = shards; steps = steps; threads = threads; turns = turns })
joined _ _ threads _ = None

-- The options that these words spell, if each number is in its range.
abbrev pub options_of : Option (List ℕ) → Option (List ℕ) → Option (List ℕ) → Option (List ℕ) → Option Options
options_of shards steps threads turns =
    joined (number_or default_options.shards 64 shards) (number_or default_options.steps (2 ^ 32) steps) (is_set threads)
    (number_or default_options.turns 1000000000 turns)

-- The same for words that are borrowed.
abbrev pub options_of_words : Option (Bor (List ℕ)) → Option (Bor (List ℕ)) → Option (Bor (List ℕ)) → Option (Bor (List ℕ)) → Option Options
options_of_words shards steps threads turns =
    options_of (option_map (λ s. s.now) shards) (option_map (λ s. s.now) steps) (option_map (λ s. s.now) threads)
    (option_map (λ s. s.now) turns)
