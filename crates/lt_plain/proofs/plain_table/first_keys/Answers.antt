use Rattle.std.proofs.Common.{◌≡◌, ℕ, Bool, List, ◌++◌, ◌∙◌, ap, sym, append-nil, length, take, filter, option_copied, arith}
use Rattle.std.proofs.Math.Seq.{take-append_seam}
use Rattle.std.proofs.lemmas.List.{take_all}
use Rattle.lt_rules.specs.Table.{comes_after}
use Rattle.lt_rules.proofs.Rising.{keys-from_entries}
use Rattle.lt_plain.proofs.plain_table.first_keys.Goals as goal

pub returns-then-len-at_most : goal.returns-then-len-at_most
returns-then-len-at_most c =
    let p : List ℕ → Bool = comes_after (option_copied c.args.after) in
    let all : List (List ℕ) = c.loop-key.all.items in
    let rest : List (List ℕ) = filter p c.loop-key.key-iterator in
    let full : length all ≡ c.args.at_most = omega (arith, c.loop-key.all.ok.0) in
    sym (take-append_seam all rest)
    ∙ ap (λ n. take n (all ++ rest)) full
    ∙ c.loop-key.invariant.0
    ∙ ap (λ ks. take c.args.at_most (filter p ks)) (sym (keys-from_entries c.args.records.now.entries c.keys-key-items.ensures.ordered))

pub returns : goal.returns
returns c =
    let p : List ℕ → Bool = comes_after (option_copied c.args.after) in
    let all : List (List ℕ) = c.loop-key.all.items in
    sym (take_all c.args.at_most all c.loop-key.invariant.1)
    ∙ ap (take c.args.at_most) (sym (append-nil all) ∙ ap (λ ks. all ++ filter p ks) (sym c.in-None.ensures.steps.0))
    ∙ c.loop-key.invariant.0
    ∙ ap (λ ks. take c.args.at_most (filter p ks)) (sym (keys-from_entries c.args.records.now.entries c.keys-key-items.ensures.ordered))
