use Rattle.std.proofs.Common.{◌≡◌, ◌∙◌, ap, take}
use Rattle.lt_trace_statistics.specs.Findings.{most_keys}
use Rattle.lt_trace_statistics.proofs.Ranks.{hotter_count, insert_is}
use Rattle.lt_trace_statistics.proofs.hottest.rank.Goals as goal

pub returns : goal.returns
returns c =
    let e : c.rank_of-rank.result ≡ hotter_count c.args.hot c.args.ranked.now.items = rw c.deref.ensures.value at c.rank_of-rank.ensures.rank in
    c.truncate.ensures.items ∙ ap (take most_keys) (c.in_ok-insert.ensures.items ∙ insert_is c.args.ranked.now.items c.args.hot _ e)
