use Rattle.std.proofs.Common.{List, ◌∙◌, sym, ap, subst}
use Rattle.lt_entry.specs.declared.entry.Entry.{Entry}
use Rattle.lt_words.specs.History.{part}
use Rattle.lt_shard.specs.Shards.{AreLockedKeys}
use Rattle.lt_shard.proofs.Locked.{locked_keys}
use Rattle.lt_shard.proofs.shard.Shard.locked_keys_once.Goals as goal

pub returns-clause-keys : goal.returns-clause-keys
returns-clause-keys g c =
    let s = c.self.inside in
    subst (λ (es : List Entry). AreLockedKeys es c.in_ok-listed.listed.items) (ap (λ v. v.stored) c.self.view_is ∙ sym (c.meet_once.ensures.met c.if-not-meet_once.false))
    (locked_keys (g.T.KeyTable.records s.table) (part s.index s.front.seen) c.in_ok-listed.listed.items c.self.invariant.0.sound c.self.invariant.0.replays c.in_ok-listed.ensures)
