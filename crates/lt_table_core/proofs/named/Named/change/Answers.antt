use Rattle.std.proofs.Common.{refl}
use Rattle.std.specs.Fn.{FnOnceReturnsAtMut}
use Rattle.lt_table_core.proofs.named.Named.change.Goals as goal

pub invariant_of-self : goal.invariant_of-self
invariant_of-self g c =
    let gave : FnOnceReturnsAtMut g.F.FnOnce c.args.f c.self.inside.value c.f.result c.f.new.arg2 = record { shown = _; shows = refl; left = _; met = c.f.ensures; leaves = refl } in
    (c.self.invariant.0, c.requires.keeps c.self.inside.shard.stored c.self.inside.value c.f.result c.f.new.arg2 c.self.invariant.1 gave)

pub returns-clause-changed : goal.returns-clause-changed
returns-clause-changed g c =
    let gave : FnOnceReturnsAtMut g.F.FnOnce c.args.f c.self.inside.value c.f.result c.f.new.arg2 = record { shown = _; shows = refl; left = _; met = c.f.ensures; leaves = refl } in
    rw (← c.self.view_is) (
      c.self.inside.value,
      c.f.new.arg2,
      gave,
      c.self.invariant.1,
      c.requires.keeps c.self.inside.shard.stored c.self.inside.value c.f.result c.f.new.arg2 c.self.invariant.1 gave,
    )
