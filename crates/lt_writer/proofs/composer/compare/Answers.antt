use Rattle.std.proofs.Common.{◌≡◌, ◌%◌, ℕ, sym, subst, rules}
use Rattle.lt_writer.proofs.Ranks.{keys_by_rank, same_rank}
use Rattle.lt_writer.proofs.composer.compare.Goals as goal

pub returns-in-Equal : goal.returns-in-Equal
returns-in-Equal c =
    sym (same_rank c.args.a.now.entry.now.key c.args.b.now.entry.now.key c.cmp.result c.args.a.now.is_key c.args.b.now.is_key (search rules) c.in-Equal.is
    (subst (λ (n : ℕ). n % 256 ≡ 0) c.args.a.now.ranked (c.is_whole.ensures c.if-is_whole.true)))

pub returns-in_default : goal.returns-in_default
returns-in_default c = sym (keys_by_rank c.args.a.now.entry.now.key c.args.b.now.entry.now.key c.cmp.result c.args.a.now.is_key c.args.b.now.is_key (search rules) (λ e. search (e, rules)))
