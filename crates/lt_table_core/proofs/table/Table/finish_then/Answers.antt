use Rattle.std.proofs.Common.{◌≡◌, sym, ap, ◌∙◌}
use Rattle.lt_rules.specs.declared.call.Call.TheVariants.{Finish}
use Rattle.lt_words.specs.History.{shard_of}
use Rattle.lt_words.specs.Row.{PassState}
use Rattle.lt_shard.specs.Shards.{View}
use Rattle.lt_table_core.proofs.Told.{told}
use Rattle.lt_table_core.proofs.table.Table.finish_then.Goals as goal

pub returns-then-index-clause-ok : goal.returns-then-index-clause-ok
returns-then-index-clause-ok g c =
    let s : View = c.deref_mut-inside.result.now in
    let old : PassState = c.loop.pass in
    let of : old.of ≡ g.N.Name.of = ap (λ (p : PassState). p.of) c.loop.invariant.2 ∙ c.requires.pass in
    let home : s.index ≡ shard_of c.args.key.now old.of.shards = sym (ap (λ (v : View). v.index) c.inside.view_is) ∙ (sym c.index-in-loop.ensures.index ∙ (c.if-index.true ∙ (c.shard_of-index.ensures.shard ∙ ap (λ o. shard_of c.args.key.now o.shards) (sym of)))) in
    rw (c.wake.ensures, ← c.loop.invariant.2) (told s old c.step.new.pass c.args.key.now (Finish c.args.txn) c.in-Ok.answer home c.in-Ok.ensures.reply c.in-Ok.ensures.reports)
