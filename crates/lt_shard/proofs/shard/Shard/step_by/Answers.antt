use Rattle.std.proofs.lemmas.Grind.{common_steps}
use Rattle.std.proofs.Common.{◌≡◌, ℕ, ◌<◌, Bool, List, ◌++◌, ◌∷◌, [], true, ◌∙◌, length, refl, sym, ap, subst, arith, rules, vec_capacity}
use Rattle.std.specs.Prelude.{All}
use Rattle.lt_rules.specs.Step.{step}
use Rattle.lt_rules.specs.Table.{IsStep}
use Rattle.lt_rules.specs.Memory.{HasRoom}
use Rattle.lt_rules.proofs.Rooms.{no_room_needed}
use Rattle.lt_words.specs.Takes.{taken_of}
use Rattle.lt_entry.specs.declared.entry.Entry.{Entry}
use Rattle.lt_words.specs.History.{part, shard_of}
use Rattle.lt_ids.specs.declared.ticket.Through.{Through}
use Rattle.lt_words.specs.Shown.{AreShown}
use Rattle.lt_words.specs.Row.{Opening, WakeUps, NotesEach, Reports}
use Rattle.lt_words.proofs.Prefixes.{prefix_trans}
use Rattle.lt_words.proofs.Showing.{all_shown_later}
use Rattle.lt_shard.proofs.Reporting.{reports_more}
use Rattle.lt_shard.specs.declared.making.Place.{Place}
use Rattle.lt_shard.specs.Shards.{is_pass, entry_of, is_recorded, Keeps}
use Rattle.lt_shard.proofs.Storing.{starts, has_pass, lets_of, entry_is, own, stored_more, stays_before}
use Rattle.lt_shard.proofs.shard.Shard.step_by.Goals as goal

pub publish-requires-clause-passes : goal.publish-requires-clause-passes
publish-requires-clause-passes g c =
    let e : Entry = c.in_ok-step.step.entry in
    let of = c.self.inside.start.of in
    let book : c.args.book.now ≡ of = c.requires.book ∙ (ap (λ v. v.front.of) (sym c.self.view_is) ∙ c.self.invariant.0.of) in
    let mine_is : c.args.pass.now.of ≡ of = c.requires.pass ∙ (ap (λ v. v.front.of) (sym c.self.view_is) ∙ c.self.invariant.0.of) in
    let n = c.number-number.result in
    let mine : is_pass of n ≡ true = has_pass of n c.number-number.ensures.low (omega (arith, c.number-number.ensures.high, ap (λ o. o.passes) mine_is)) in
    let all : All (λ t. is_pass of t.pass ≡ true) e.lets =
    lets_of of (g.T.KeyTable.records c.self.inside.table) (g.T.KeyTable.records c.make_step.new.table) c.args.key.now n c.args.call.now e c.passes_are_of_visits.ensures mine (c.self.invariant.0.passes c.args.key.now) c.in_ok-step.ensures.made in
    subst (λ (o : Opening). All (λ t. is_pass o t.pass ≡ true) e.lets) (sym book) all

pub invariant_of-self-2 : goal.invariant_of-self-2
invariant_of-self-2 g c =
    let s = c.self.inside in
    let e : Entry = c.in_ok-step.step.entry in
    let of = c.self.inside.start.of in
    let book : c.args.book.now ≡ of = c.requires.book ∙ (ap (λ v. v.front.of) (sym c.self.view_is) ∙ c.self.invariant.0.of) in
    let mine_is : c.args.pass.now.of ≡ of = c.requires.pass ∙ (ap (λ v. v.front.of) (sym c.self.view_is) ∙ c.self.invariant.0.of) in
    let n = c.number-number.result in
    let mine : is_pass of n ≡ true = has_pass of n c.number-number.ensures.low (omega (arith, c.number-number.ensures.high, ap (λ o. o.passes) mine_is)) in
    let many : length (part s.index s.front.seen) ≡ c.count-at.result = ap (λ v. length v.stored) c.self.view_is ∙ sym c.count-at.ensures.count in
    let room : length s.held.items < s.max_steps = omega (arith, c.if-len-self.false, c.len.ensures, s.held.ok.0) in
    let which : c.is_recorded-recorded.result ≡ is_recorded of.keeping = c.is_recorded-recorded.ensures ∙ ap is_recorded c.self.invariant.1 in
    let keeps : Keeps (is_recorded of.keeping) s.before s.held.items e c.keep.new.before c.keep.new.held.items =
    subst (λ (b : Bool). Keeps b s.before s.held.items e c.keep.new.before c.keep.new.held.items) which
    (subst (λ (hs : List Entry). Keeps c.is_recorded-recorded.result s.before hs e c.keep.new.before c.keep.new.held.items) c.make_room.ensures.items c.keep.ensures.keeps) in
    let grown : part s.index c.publish.new.front.seen ≡ part s.index s.front.seen ++ e ∷ [] =
    subst (λ (i : ℕ). part i c.publish.new.front.seen ≡ part i s.front.seen ++ e ∷ []) (ap (λ p. p.shard) c.in_ok-step.ensures.place) (c.publish.ensures.stored c.if-not-publish.false) in
    let lets : AreShown c.tell.new.told.shown e.lets =
    subst (λ (ts : List Through). AreShown ts e.lets) (sym c.tell.ensures.told) (all_shown_later e.lets c.publish.new.pass.shown c.tell.new.pass.shown c.tell.ensures.more.shown (c.publish.ensures.reports c.if-not-publish.false).lets_shown) in (
      stored_more of s.index s.max_steps (g.T.KeyTable.records s.table) (g.T.KeyTable.records c.make_step.new.table) s.before s.held.items s.front c.publish.new.front e c.keep.new.before c.keep.new.held.items s.told.shown c.tell.new.told.shown c.args.key.now n c.args.call.now c.passes_are_of_visits.ensures c.self.invariant.0
          c.in_ok-step.ensures.made c.make_step.ensures.sound mine c.in_ok-step.ensures.in_range (ap (λ v. v.index) c.self.view_is ∙ (c.requires.home ∙ ap (λ (o : Opening). shard_of c.args.key.now o.shards) (sym c.requires.book ∙ book))) room (c.publish.ensures.of ∙ book) grown (omega (arith, many, ap (λ p. p.at) c.in_ok-step.ensures.place, (c.publish.ensures.room c.if-not-publish.false))) keeps c.tell.ensures.before lets,
      c.self.invariant.1,
      c.tell.ensures.of ∙ (c.tell.ensures.more.of ∙ ((c.publish.ensures.reports c.if-not-publish.false).of ∙ mine_is)),
      c.keep.ensures.empty,
      λ unrecorded.
          let kept = c.keep.ensures.kept (which ∙ ap is_recorded unrecorded) in
          subst (HasRoom (g.T.KeyTable.records c.make_step.new.table)) (sym kept) (c.make_step.ensures.room (c.self.invariant.4 unrecorded)),
      c.self.invariant.5,
      λ streamed. c.self.invariant.6 streamed ∙ sym (stays_before of.keeping s.before s.held.items e c.keep.new.before c.keep.new.held.items streamed keeps),
    )

pub invariant_of-self-then-not-publish : goal.invariant_of-self-then-not-publish
invariant_of-self-then-not-publish g c =
    let s = c.self.inside in
    let was = c.self.invariant.0 in
    let none = c.replace.ensures.emptied (search rules) in
    let book : c.args.book.now ≡ s.start.of = c.requires.book ∙ (ap (λ v. v.front.of) (sym c.self.view_is) ∙ was.of) in
    (starts s.start.of s.index s.max_steps (g.T.KeyTable.records c.replace.new.table) c.clear-then-not-publish.new.self.items c.front.result c.front-then-not-publish.result.shown was.index was.low was.high none c.clear-then-not-publish.ensures.items (c.front.ensures.of ∙ book) c.front.ensures.seen, c.self.invariant.1, c.front-then-not-publish.ensures.of ∙ book, c.clear.ensures.items, λ unrecorded. subst (λ m. HasRoom m (vec_capacity c.clear.new.self)) (sym none) (no_room_needed (vec_capacity c.clear.new.self)), c.front-then-not-publish-2.ensures.of ∙ book, λ streamed. ap (taken_of s.index) c.front-then-not-publish-2.ensures.takes)

pub returns-clause-reports : goal.returns-clause-reports
returns-clause-reports g c =
    let s = c.self.inside in
    let e : Entry = c.in_ok-step.step.entry in
    let n = c.number-number.result in
    let all = part s.index s.front.seen in
    let same : e ≡ entry_of all c.args.pass.now.number c.args.key.now c.args.call.now =
    entry_is (g.T.KeyTable.records s.table) (g.T.KeyTable.records c.make_step.new.table) c.args.key.now n c.args.call.now e all c.self.invariant.0.replays c.in_ok-step.ensures.made
    ∙ ap (λ m. entry_of all m c.args.key.now c.args.call.now) c.number-number.ensures.number in
    let reports : Reports c.args.pass.now c.tell.new.pass s.index c.count-at.result e =
    subst (λ (p : Place). Reports c.args.pass.now c.tell.new.pass p.shard p.at e) c.in_ok-step.ensures.place
    (reports_more c.args.pass.now c.publish.new.pass c.tell.new.pass c.in_ok-step.step.place.shard c.in_ok-step.step.place.at e (c.publish.ensures.reports c.if-not-publish.false) c.tell.ensures.more) in
    rw (← c.self.view_is) (subst (λ (f : Entry). Reports c.args.pass.now c.tell.new.pass s.index c.count-at.result f) same reports)

pub returns-clause-noted : goal.returns-clause-noted
returns-clause-noted g c =
    let s = c.self.inside in
    let e : Entry = c.in_ok-step.step.entry in
    let all = part s.index s.front.seen in
    let same : e ≡ entry_of all c.args.pass.now.number c.args.key.now c.args.call.now =
    entry_is (g.T.KeyTable.records s.table) (g.T.KeyTable.records c.make_step.new.table) c.args.key.now c.number-number.result c.args.call.now e all c.self.invariant.0.replays c.in_ok-step.ensures.made
    ∙ ap (λ m. entry_of all m c.args.key.now c.args.call.now) c.number-number.ensures.number in
    let noted : NotesEach c.args.pass.now.wakes (entry_of all c.args.pass.now.number c.args.key.now c.args.call.now).lets c.publish.new.pass.wakes =
    subst (λ (ts : List Through). NotesEach c.args.pass.now.wakes ts c.publish.new.pass.wakes) (c.deref.ensures.value ∙ (c.in_ok-step.ensures.lets ∙ ap (λ (f : Entry). f.lets) same)) (c.publish.ensures.noted c.if-not-publish.false) in
    rw (← c.self.view_is) (subst (λ (w : WakeUps). NotesEach c.args.pass.now.wakes (entry_of all c.args.pass.now.number c.args.key.now c.args.call.now).lets w) (sym c.tell.ensures.more.wakes) noted)

pub returns-clause-behind : goal.returns-clause-behind
returns-clause-behind g c = prefix_trans c.publish.new.front.seen c.publish.new.pass.seen c.tell.new.pass.seen (c.publish.ensures.behind c.if-not-publish.false) c.tell.ensures.more.seen

pub returns-clause-gains : goal.returns-clause-gains
returns-clause-gains g c =
    let s = c.self.inside in
    let e : Entry = c.in_ok-step.step.entry in
    let n = c.number-number.result in
    let old = g.T.KeyTable.records s.table in
    let new = g.T.KeyTable.records c.make_step.new.table in
    let all = part s.index s.front.seen in
    let same : e ≡ entry_of all c.args.pass.now.number c.args.key.now c.args.call.now =
    entry_is old new c.args.key.now n c.args.call.now e all c.self.invariant.0.replays c.in_ok-step.ensures.made
    ∙ ap (λ m. entry_of all m c.args.key.now c.args.call.now) c.number-number.ensures.number in
    let many : length all ≡ c.count-at.result = ap (λ v. length v.stored) c.self.view_is ∙ sym c.count-at.ensures.count in
    let which : c.is_recorded-recorded.result ≡ is_recorded s.front.of.keeping = c.is_recorded-recorded.ensures ∙ ap is_recorded (c.self.invariant.1 ∙ sym (ap (λ (o : Opening). o.keeping) c.self.invariant.0.of)) in
    let keeps : Keeps (is_recorded s.front.of.keeping) s.before s.held.items e c.keep.new.before c.keep.new.held.items =
    subst (λ (b : Bool). Keeps b s.before s.held.items e c.keep.new.before c.keep.new.held.items) which
    (subst (λ (hs : List Entry). Keeps c.is_recorded-recorded.result s.before hs e c.keep.new.before c.keep.new.held.items) c.make_room.ensures.items c.keep.ensures.keeps) in
    let grown : part s.index c.publish.new.front.seen ≡ part s.index s.front.seen ++ e ∷ [] =
    subst (λ (i : ℕ). part i c.publish.new.front.seen ≡ part i s.front.seen ++ e ∷ []) (ap (λ p. p.shard) c.in_ok-step.ensures.place) (c.publish.ensures.stored c.if-not-publish.false) in
    rw (← c.self.view_is) (record {
      at_is = sym many;
      stored = grown ∙ ap (λ (f : Entry). all ++ f ∷ []) same;
      keeps = subst (λ (f : Entry). Keeps (is_recorded s.front.of.keeping) s.before s.held.items f c.keep.new.before c.keep.new.held.items) same keeps;
      index = refl {a = s.index};
      max_steps = refl {a = s.max_steps};
      records = subst (λ (f : Entry). IsStep old f.key (λ r. step r f.pass f.call) f.reply f.lets new) same (own old new c.args.key.now n c.args.call.now e c.in_ok-step.ensures.made);
      of = c.publish.ensures.of ∙ (c.requires.book ∙ ap (λ v. v.front.of) (sym c.self.view_is));
      seen = (c.publish.ensures.seen c.if-not-publish.false);
      shown = (c.publish.ensures.shown c.if-not-publish.false);
      told = c.tell.ensures.before;
    })

pub returns-clause-reply : goal.returns-clause-reply
returns-clause-reply c = grind (arith, common_steps)

pub returns-then-len-self-clause-full : goal.returns-then-len-self-clause-full
returns-then-len-self-clause-full c = search rules

pub returns-then-len-self-clause-never_full : goal.returns-then-len-self-clause-never_full
returns-then-len-self-clause-never_full c = search rules

pub returns-then-len-self-clause-no_memory : goal.returns-then-len-self-clause-no_memory
returns-then-len-self-clause-no_memory c = search rules
