-- What a call tells of a step that was made under a shard's lock, once its pass has woken whom the step let through.
use Rattle.std.proofs.Common.{◌≡◌, ℕ, List, refl, sym, subst}
use Rattle.lt_rules.specs.declared.call.Call.{Call}
use Rattle.lt_words.specs.History.{shard_of}
use Rattle.lt_words.specs.Row.{PassState, Reports, awoken}
use Rattle.lt_words.proofs.Passes.{reports_awoken}
use Rattle.lt_shard.specs.declared.answer.Answer.{Answer}
use Rattle.lt_shard.specs.Shards.{View, ReportsStep, entry_of}
use Rattle.lt_walk.specs.Reported.{ReportsCall}

pub told : (s : View) (old met : PassState) (key : List ℕ) (call : Call) (answer : Answer) → s.index ≡ shard_of key old.of.shards → answer.reply ≡ (entry_of s.stored old.number key call).reply → ReportsStep s old met key call answer → ReportsCall old (awoken met) key call answer
told s old met key call answer home reply reports = record {
  entry = entry_of s.stored old.number key call;
  key_is = refl;
  call_is = refl;
  reply_is = sym reply;
  reports = reports_awoken old met (shard_of key old.of.shards) answer.at (entry_of s.stored old.number key call) (subst (λ i. Reports old met i answer.at (entry_of s.stored old.number key call)) home reports);
  woken = (refl, refl);
}
