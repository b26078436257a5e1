-- A row of words that hold 0, and a log with its opening alone, keep the rule.
use Rattle.std.proofs.Common.{◌≡◌, ℕ, zero, suc, ◌+◌, true, false, [], ◌∷◌, replicate, refl, ap, ◌∙◌, arith}
use Rattle.std.proofs.lemmas.List.{length-replicate, get_or-replicate}
use Rattle.logbook.specs.Pages.{Cell, cell}
use Rattle.lt_words.specs.declared.event.Event.TheVariants.{Opened}
use Rattle.lt_words.specs.declared.event.Logged.TheVariants.{Happened}
use Rattle.lt_words.specs.declared.keeping.Keeping.{Keeping}
use Rattle.lt_words.specs.Rules.{WordsMatchLog}

zero_cells : (n k : ℕ) → (cell (replicate n (0, true)) k).0 ≡ 0
zero_cells zero k = refl
zero_cells (suc n) zero = refl
zero_cells (suc n) (suc k) = zero_cells n k

pub opens : (shards passes : ℕ) (keeping : Keeping) (many : ℕ) → many ≡ passes + 129 → WordsMatchLog (replicate many (0, true)) (Happened (Opened shards passes keeping) ∷ [])
opens shards passes keeping many e = let zero_word : Cell = (0, true) in let off : Cell = (0, false) in record {
  is_open = record { opened = refl; legal = record { keys = λ k. tt; home = tt; draws = tt }; let_through = tt };
  many = length-replicate many zero_word ∙ e;
  home = λ k lt. ap (λ (c : Cell). c.1) (get_or-replicate many k zero_word off (omega (arith, length-replicate many zero_word)));
  number = zero_cells many 0;
  steps = λ s lt. zero_cells many (s + 1);
  takes = λ s lt. zero_cells many (s + 65);
  status = λ p low high. zero_cells many (p + 128);
}
