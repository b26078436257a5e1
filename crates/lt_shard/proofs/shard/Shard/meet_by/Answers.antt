use Rattle.std.proofs.Common.{◌∙◌, sym, ap, refl}
use Rattle.lt_words.specs.History.{part}
use Rattle.lt_shard.proofs.Storing.{met_again}
use Rattle.lt_shard.proofs.shard.Shard.meet_by.Goals as goal

pub invariant_of-self : goal.invariant_of-self
invariant_of-self g c =
    let s = c.self.inside in
    let records = g.T.KeyTable.records s.table in
    (met_again s.start.of s.index s.max_steps s.before records s.held.items s.front c.see_shard.new.front s.told.shown c.self.invariant.0 (c.see_shard.ensures.front.of ∙ c.self.invariant.0.of) (sym c.see_shard.ensures.stays), c.self.invariant.1, c.self.invariant.2, c.self.invariant.3, c.self.invariant.4, c.self.invariant.5, c.self.invariant.6)

pub returns-clause-met : goal.returns-clause-met
returns-clause-met g c =
    let s = c.self.inside in
    rw (← c.self.view_is) (λ yes. ap (part s.index) (sym (c.see_shard.ensures.same yes).seen) ∙ c.see_shard.ensures.stays)

pub returns-clause-same : goal.returns-clause-same
returns-clause-same g c =
    let s = c.self.inside in
    rw (← c.self.view_is) (record {
      index = refl {a = s.index};
      max_steps = refl {a = s.max_steps};
      records = refl {a = g.T.KeyTable.records s.table};
      stored = c.see_shard.ensures.stays;
      before = refl {a = s.before};
      held = refl {a = s.held.items};
      of = c.see_shard.ensures.front.of;
      seen = c.see_shard.ensures.front.seen;
      shown = c.see_shard.ensures.front.shown;
      told = refl {a = s.told.shown};
    })
