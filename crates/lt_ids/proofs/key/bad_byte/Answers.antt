use Rattle.std.proofs.Common.{rules, ◌≡◌, ℕ, Bool, true, not, ap, length, arith}
use Rattle.std.specs.List.{position_or_len}
use Rattle.std.proofs.lemmas.List.Sums.{position_or_len_is}
use Rattle.std.proofs.lemmas.Grind.{common_steps}
use Rattle.lt_ids.specs.Key.{is_key_byte}
use Rattle.lt_ids.proofs.key.bad_byte.Goals as goal

pub returns-then-are_in_key-clause-place : goal.returns-then-are_in_key-clause-place
returns-then-are_in_key-clause-place c =
    let xs = c.args.bytes.now in let p : ℕ → Bool = λ b. not (is_key_byte b) in
    let clean : c.are_in_key.result ≡ true = search rules in
    let e : position_or_len p xs ≡ length xs = position_or_len_is p xs (length xs) 0 (omega arith)
    (λ k below. ap not (c.are_in_key.ensures clean k 0 below)) (λ below. absurd (omega (arith, below))) in
    grind (arith, common_steps, e)
