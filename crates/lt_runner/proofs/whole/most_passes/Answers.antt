use Rattle.std.proofs.Common.{◌≡◌, ◌≤◌, ◌⊎◌, ℕ, inl, inr, arith}
use Rattle.lt_runner.proofs.Slots.{among_more}
use Rattle.lt_runner.proofs.whole.most_passes.Goals as goal

at_most : (one other more : ℕ) → one ≤ 64 → other ≤ 64 → (more ≡ one) ⊎ (more ≡ other) → more ≤ 64
at_most one other more a b (inl e) = omega (arith, e)
at_most one other more a b (inr e) = omega (arith, e)

pub loop-command-preserved : goal.loop-command-preserved
loop-command-preserved c =
    let n : ℕ = c.number.result in
    let is : n ≡ c.command-item.result.pass = c.number.ensures.value in
    record {
      low = omega (arith, c.loop-command.invariant.low, c.greater-most.ensures.first);
      high = at_most c.loop-command.most n c.greater-most.result c.loop-command.invariant.high c.number.ensures.high c.greater-most.ensures.either;
      among = among_more c.args.commands.now c.loop-command.command-index c.command-item.result c.loop-command.most c.greater-most.result c.loop-command-test.true c.command-item.is (omega (arith, is, c.number.ensures.low)) c.greater-most.ensures.first (omega (arith, is, c.greater-most.ensures.second)) c.loop-command.invariant.among;
    }
