use Rattle.std.proofs.Common.{◌≡◌, ◌+◌, [], ◌∷◌, ◌++◌, length, take, rules, sym, ap, ◌∙◌}
use lib.ListN.{get_or}
use Rattle.std.proofs.lemmas.List.{take_more}
use Rattle.example_cells.specs.Committing.{LogState, all_commits}
use Rattle.example_bank.proofs.Counts.{length_more}
use Rattle.example_bank.proofs.run.count_commits.Goals as goal

pub loop-log-preserved : goal.loop-log-preserved
loop-log-preserved g c =
    let logs = c.args.logs.now.items in
    let i = c.loop-log.log-index in
    let item : c.log-item.result ≡ get_or logs i c.log-item.result = search rules in
    let next : take (i + 1) logs ≡ take i logs ++ get_or logs i c.log-item.result ∷ [] = take_more logs i c.log-item.result (search rules) in
    let sum : c.in_ok-commits.commits ≡ c.loop-log.commits + length c.log-item.result.commits = search rules in
    sum
    ∙ (ap (λ n. n + length c.log-item.result.commits) c.loop-log.invariant
    ∙ (ap (λ (l : LogState). length (all_commits (take i logs)) + length l.commits) item
    ∙ (sym (length_more (take i logs) (get_or logs i c.log-item.result)) ∙ ap (λ ls. length (all_commits ls)) (sym next))))
