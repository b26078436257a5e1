use Rattle.std.proofs.Common.{◌++◌, ◌∙◌, ap, sym, append-nil}
use Rattle.lt_rules.proofs.Rising.{keys-from_entries}
use Rattle.lt_plain.proofs.plain_table.all_keys.Goals as goal

pub returns : goal.returns
returns c =
    sym (append-nil c.loop-key.all.items)
    ∙ ap (λ rest. c.loop-key.all.items ++ rest) (sym c.in-None.ensures.steps.0)
    ∙ c.loop-key.invariant
    ∙ sym (keys-from_entries c.args.records.now.entries c.keys-key-items.ensures.ordered)
