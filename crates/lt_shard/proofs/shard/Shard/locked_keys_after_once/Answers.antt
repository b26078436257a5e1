use Rattle.std.proofs.Common.{List, ◌∙◌, sym, ap, subst, option_copied}
use Rattle.lt_entry.specs.declared.entry.Entry.{Entry}
use Rattle.lt_words.specs.History.{part}
use Rattle.lt_shard.specs.Shards.{AreLockedKeysAfter}
use Rattle.lt_shard.proofs.Locked.{locked_keys_after}
use Rattle.lt_shard.proofs.shard.Shard.locked_keys_after_once.Goals as goal

pub returns-clause-keys : goal.returns-clause-keys
returns-clause-keys g c =
    let s = c.self.inside in
    subst (λ (es : List Entry). AreLockedKeysAfter es (option_copied c.args.after) c.args.at_most c.in_ok-listed.listed.items) (ap (λ v. v.stored) c.self.view_is ∙ sym (c.meet_once.ensures.met c.if-not-meet_once.false))
    (locked_keys_after (g.T.KeyTable.records s.table) (part s.index s.front.seen) (option_copied c.args.after) c.args.at_most c.in_ok-listed.listed.items c.self.invariant.0.sound c.self.invariant.0.replays c.in_ok-listed.ensures)
