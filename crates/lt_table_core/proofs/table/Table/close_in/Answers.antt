use Rattle.std.proofs.Common.{◌≡◌, ◌≤◌, ◌<◌, ◌+◌, ℕ, List, length, map, subst, rules}
use Rattle.lt_walk.specs.declared.closing.CloseError.{CloseError}
use Rattle.lt_walk.specs.declared.config.Config.{Config}
use Rattle.lt_walk.specs.declared.closing.Wanted.{Wanted}
use Rattle.lt_words.specs.Row.{PassState}
use Rattle.lt_shard.specs.Shards.{View}
use Rattle.lt_walk.specs.declared.closing.CloseError.TheVariants.{Counts, PassesOut, Memory}
use Rattle.lt_walk.specs.Closed.{IsMiscount, IsUnclosed, passes_of}
use Rattle.lt_walk.proofs.Ends.{all_of_both, all_mapped}
use Rattle.lt_table_core.proofs.table.Table.close_in.Goals as goal

pub end-rests-requires-clause-passes : goal.end-rests-requires-clause-passes
end-rests-requires-clause-passes g c =
    rw c.all_passes-passes.ensures
    (all_of_both (λ p. p.of ≡ g.N.Name.of) c.args.passes.items (map (λ g. g.pass) c.args.guards.items) c.requires.passes (all_mapped (λ p. p.of ≡ g.N.Name.of) (λ g. g.pass) c.args.guards.items c.requires.guards))

pub end-rests-requires-clause-counted : goal.end-rests-requires-clause-counted
end-rests-requires-clause-counted g c = rw (c.all_passes-passes.ensures, ← c.deref.ensures.value, ← c.deref-2.ensures.value, ← c.deref-3.ensures.value) c.in_default.ensures.none

pub returns-clause-limit : goal.returns-clause-limit
returns-clause-limit g c = rw (← c.self.view_is) c.end-rests.ensures.limit

-- only a count of steps is refused here
unclosed : (e : CloseError) (w : Wanted) (ps : List PassState) (vs : List View) (handed : ℕ) (config : Config) → IsMiscount w ps vs e → config.passes ≤ handed → length vs ≡ config.shards → IsUnclosed e handed config
unclosed (Counts index) w ps vs handed config wrong back shards = (back, subst (λ n. index < n) shards wrong.0)
unclosed (PassesOut missing) w ps vs handed config wrong back shards = absurd wrong
unclosed Memory w ps vs handed config wrong back shards = absurd wrong

pub refusal-requires : goal.refusal-requires
refusal-requires g c =
    let shards : length c.deref.result.now ≡ c.self.inside.config.shards = search rules in
    unclosed c.in-Some.error (record { whole = c.args.only_whole; max_steps = c.self.inside.config.max_steps; keeping = c.keeping.result }) (passes_of c.deref-2.result.now c.deref-3.result.now) c.deref.result.now (length c.args.passes.items + length c.args.guards.items) c.self.inside.config c.in-Some.ensures.some (search rules) shards
