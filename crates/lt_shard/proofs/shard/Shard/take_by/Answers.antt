use Rattle.std.proofs.Common.{◌≡◌, ◌≢◌, ◌+◌, ◌∙◌, ℕ, [], length, drop, ap, subst, arith, sym, refl}
use Rattle.std.proofs.lemmas.List.{length-drop}
use Rattle.std.specs.Global.{Vec}
use Rattle.lt_entry.specs.declared.entry.Entry.{Entry}
use Rattle.lt_words.specs.declared.keeping.Keeping.TheVariants.{Whole}
use Rattle.lt_words.specs.History.{part}
use Rattle.lt_words.specs.Row.{TakesOut}
use Rattle.lt_words.specs.Takes.{taken_of}
use Rattle.lt_words.proofs.Passes.{takes_out_on}
use Rattle.lt_shard.proofs.Storing.{met_again, taken_out}
use Rattle.lt_shard.proofs.shard.Shard.take_by.Goals as goal

pub invariant_of-self-2 : goal.invariant_of-self-2
invariant_of-self-2 g c =
    let s = c.self.inside in
    let was = c.self.invariant in
    let records = g.T.KeyTable.records s.table in
    let front = c.see_shard.new.front in
    let all = part s.index s.front.seen in
    let stays = c.see_shard.ensures.stays in
    let book : c.args.book.now ≡ s.start.of = c.requires.book ∙ (ap (λ v. v.front.of) (sym c.self.view_is) ∙ was.0.of) in
    let met = met_again s.start.of s.index s.max_steps s.before records s.held.items s.front front s.told.shown was.0 (c.see_shard.ensures.front.of ∙ was.0.of) (sym stays) in
    let count : c.count-count.result ≡ length all = c.count-count.ensures.count ∙ ap (λ v. length v.stored) (sym c.self.view_is) in
    let none : c.swap.new.x.items ≡ [] = ap (λ (v : Vec Entry). v.items) c.swap.ensures.x_after ∙ c.requires.empty in
    let open_ : s.start.of.keeping ≢ Whole = λ whole. c.requires.keeping (ap (λ v. v.front.of.keeping) (sym c.self.view_is) ∙ (ap (λ o. o.keeping) was.0.of ∙ whole)) in (
      taken_out s.start.of s.index s.max_steps s.before records s.held.items c.swap.new.x.items front s.told.shown c.count-count.result met (count ∙ ap length (sym stays)) none open_,
      was.1,
      was.2,
      was.3,
      was.4,
      c.note_take.ensures.of ∙ book,
      λ streamed.
          let exact : taken_of s.index c.note_take.new.taken.takes ≡ s.before + c.len-many.result = c.note_take.ensures.exact c.if-not-note_take.false (ap (λ o. o.keeping) book ∙ streamed) in
          exact ∙ omega (arith, c.len-many.ensures, s.held.ok.0, ap length was.0.held, length-drop s.before all, was.0.before, count),
    )

pub returns-clause-took : goal.returns-clause-took
returns-clause-took g c = λ streamed.
    let s = c.self.inside in
    let took : TakesOut c.args.pass.now c.note_take.new.pass s.index s.before c.len-many.result = c.note_take.ensures.took c.if-not-note_take.false (ap (λ o. o.keeping) c.requires.book ∙ streamed) in
    let many : c.len-many.result ≡ length c.swap.new.y.items = omega (arith, c.len-many.ensures, s.held.ok.0, ap (λ (v : Vec Entry). length v.items) c.swap.ensures.y_after) in
    let index : s.index ≡ c.args.self.now.index = ap (λ v. v.index) c.self.view_is in
    subst (λ (p : ℕ × ℕ). TakesOut c.args.pass.now c.see_shard.new.pass p.0 s.before p.1) (λ i. (index i, many i))
    (takes_out_on c.args.pass.now c.note_take.new.pass c.see_shard.new.pass s.index s.before c.len-many.result took c.see_shard.ensures.more)

pub returns-clause-met : goal.returns-clause-met
returns-clause-met g c =
    let s = c.self.inside in
    rw (← c.self.view_is) (ap (part s.index) (sym (c.see_shard.ensures.same c.if-not-see_shard.false).seen) ∙ c.see_shard.ensures.stays)

pub returns-clause-gave : goal.returns-clause-gave
returns-clause-gave g c =
    let s = c.self.inside in
    let count : c.count-count.result ≡ length (part s.index s.front.seen) = c.count-count.ensures.count ∙ ap (λ v. length v.stored) (sym c.self.view_is) in
    rw (← c.self.view_is) (record {
      index = refl {a = s.index};
      max_steps = refl {a = s.max_steps};
      records = refl {a = g.T.KeyTable.records s.table};
      stored = c.see_shard.ensures.stays;
      before = count;
      held = ap (λ (v : Vec Entry). v.items) c.swap.ensures.x_after ∙ c.requires.empty;
      of = c.see_shard.ensures.front.of;
      seen = c.see_shard.ensures.front.seen;
      shown = c.see_shard.ensures.front.shown;
      told = refl {a = s.told.shown};
    })

pub returns-clause-rest : goal.returns-clause-rest
returns-clause-rest g c =
    let s = c.self.inside in
    let met : part s.index c.see_shard.new.pass.seen ≡ part s.index s.front.seen = ap (part s.index) (sym (c.see_shard.ensures.same c.if-not-see_shard.false).seen) ∙ c.see_shard.ensures.stays in
    rw (← c.self.view_is) (ap (λ (v : Vec Entry). v.items) c.swap.ensures.y_after ∙ (c.self.invariant.0.held ∙ ap (drop s.before) (sym met)))
