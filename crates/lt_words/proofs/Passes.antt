-- A pass still fits what it has seen when its seen prefix grows.
use Rattle.std.proofs.Common.{vec_capacity, ◌≡◌, ℕ, ◌+◌, ◌<◌, List, [], ◌∷◌, ◌++◌, length, set, get_or, ◌≤◌, refl, ap, sym, subst, ◌∙◌, arith, append-nil, length-append, length-set, get_or-set_same, get_or-set_other}
use mathlib.Core.Logic.{dite}
use native.Mathlib.Decide.{ℕ_discrete}
use mathlib.Core.List.{IsPrefix}
use Rattle.lt_entry.specs.declared.entry.Entry.{Entry}
use Rattle.lt_words.specs.declared.event.Event.{Event}
use Rattle.lt_words.specs.declared.event.Event.TheVariants.{Step}
use Rattle.lt_words.specs.History.{part}
use Rattle.lt_words.specs.declared.event.Take.{Take}
use Rattle.lt_words.specs.declared.pass.PassRest.{PassRest}
use Rattle.lt_words.specs.Takes.{taken_of, AppendsTake}
use Rattle.lt_words.proofs.Taking.{taken_here, taken_later}
use Rattle.lt_words.specs.Row.{Opening, WakeUps, wake_ups, PassState, FrontState, FrontGrows, IsPass, SeesMore, MakesNoStep, TakesOut, Commits, Reports, Appends, pass_state, awoken}
use Rattle.lt_words.proofs.Prefixes.{prefix_trans, prefix_more}
use Rattle.lt_words.proofs.Histories.{part_length, part_same}
use Rattle.lt_words.proofs.Cells.{part_snoc}

-- whom a pass has to wake, by what it keeps
abbrev pub wakes_of : PassRest → WakeUps
wakes_of r = wake_ups (vec_capacity r.noted) r.noted.items r.sleepers.many r.untold.tickets.items

-- a seen prefix that grew twice grew
pub grows_on : (old mid new : FrontState) → FrontGrows old mid → FrontGrows mid new → FrontGrows old new
grows_on old mid new a b = record { of = b.of ∙ a.of; seen = prefix_trans old.seen mid.seen new.seen a.seen b.seen; shown = prefix_trans old.shown mid.shown new.shown a.shown b.shown; takes = prefix_trans old.takes mid.takes new.takes a.takes b.takes }

pub grows_self : (s : FrontState) → FrontGrows s s
grows_self s = record { of = refl; seen = ([], append-nil s.seen); shown = ([], append-nil s.shown); takes = ([], append-nil s.takes) }

pub sight_on : (n : ℕ) (old new : FrontState) (counts taken : List ℕ) (w : WakeUps) → IsPass (pass_state n old counts taken w) → FrontGrows old new → IsPass (pass_state n new counts taken w)
sight_on n old new counts taken w p more = record {
  low = p.low;
  high = omega (arith, p.high, ap (λ (o : Opening). o.passes) more.of);
  few = p.few;
  many = p.many ∙ ap (λ (o : Opening). o.shards) (sym more.of);
  within = λ s. omega (arith, p.within s, part_length s old.seen new.seen more.seen);
  many_taken = p.many_taken ∙ ap (λ (o : Opening). o.shards) (sym more.of);
  within_taken = λ s. omega (arith, p.within_taken s, taken_later s old.takes new.takes more.takes);
}

-- what a pass has seen, after its seen prefix grew
pub sees_on : (n : ℕ) (old new : FrontState) (counts taken : List ℕ) (w : WakeUps) → FrontGrows old new → SeesMore (pass_state n old counts taken w) (pass_state n new counts taken w)
sees_on n old new counts taken w more = record { of = more.of; number = refl; counts = refl; taken = refl; wakes = refl; seen = more.seen; shown = more.shown; takes = more.takes }

-- the old history is a prefix of the new one
pub goes_on : (old : List Event) (P : List Event → Type 0) (e : Event) (new : List Event) → Appends old P e new → IsPrefix old new
goes_on old P e new g = subst (λ (l : List Event). IsPrefix old l) (sym g.3) (prefix_trans old g.0 (g.0 ++ e ∷ []) g.1 (prefix_more g.0 (e ∷ [])))

-- one more step of the pass at a shard
pub sight_steps : (n : ℕ) (old new : FrontState) (counts taken : List ℕ) (w : WakeUps) (s c : ℕ) (e : Entry) (P : List Event → Type 0) → IsPass (pass_state n old counts taken w) → FrontGrows old new → s < old.of.shards → c ≡ get_or counts s 0
    → Appends old.seen P (Step s e) new.seen → IsPass (pass_state n new (set counts s (c + 1)) taken w)
sight_steps n old new counts taken w s c e P p more small is g =
    let h = g.0 in
    let inside : s < length counts = omega (arith, p.many, small) in record {
      low = p.low;
      high = omega (arith, p.high, ap (λ (o : Opening). o.passes) more.of);
      few = p.few;
      many = length-set counts s (c + 1) ∙ (p.many ∙ ap (λ (o : Opening). o.shards) (sym more.of));
      many_taken = p.many_taken ∙ ap (λ (o : Opening). o.shards) (sym more.of);
      within_taken = λ t. omega (arith, p.within_taken t, taken_later t old.takes new.takes more.takes);
      within = λ t. dite (ℕ_discrete t s)
          (λ same.
          let at : get_or (set counts s (c + 1)) t 0 ≡ c + 1 = ap (λ k. get_or (set counts s (c + 1)) k 0) same ∙ get_or-set_same counts s (c + 1) 0 inside in
          let added : length (part t new.seen) ≡ length (part s h) + 1 = ap (λ k. length (part k new.seen)) same ∙ (ap (λ l. length (part s l)) g.3 ∙ (ap length (part_snoc s h e) ∙ length-append (part s h) (e ∷ []))) in
          omega (arith, at, added, is, p.within s, part_length s old.seen h g.1))
          (λ ne. omega (arith, get_or-set_other counts s t (c + 1) 0 ne, p.within t, part_length t old.seen new.seen more.seen));
    }

-- a step after a history in which the shard has exactly the front's steps
pub committed : (old mid front new : List Event) (s count : ℕ) (e : Entry) → IsPrefix old mid → IsPrefix front mid → length (part s front) ≡ count
    → Appends mid (λ h. length (part s h) ≡ count) (Step s e) new
    → (h : List Event) × IsPrefix old h × IsPrefix front h × (part s h ≡ part s front) × (new ≡ h ++ Step s e ∷ [])
committed old mid front new s count e a b many g =
    let ahead = prefix_trans front mid g.0 b g.1 in
    (g.0, prefix_trans old mid g.0 a g.1, ahead, sym (part_same s count front g.0 ahead many g.2), g.3)

pub stored : (old front new : List Event) (s : ℕ) (e : Entry) → (h : List Event) × IsPrefix old h × IsPrefix front h × (part s h ≡ part s front) × (new ≡ h ++ Step s e ∷ []) → part s new ≡ part s front ++ e ∷ []
stored old front new s e g = ap (part s) g.4 ∙ (part_snoc s g.0 e ∙ ap (λ l. l ++ e ∷ []) g.3)

-- the pass took steps out of a shard
pub sight_takes : (n : ℕ) (old new : FrontState) (counts taken : List ℕ) (w : WakeUps) (t : Take) (c from : ℕ) → IsPass (pass_state n old counts taken w) → FrontGrows old new → t.shard < old.of.shards → c ≡ get_or taken t.shard 0
    → AppendsTake old.takes from t new.takes → IsPass (pass_state n new counts (set taken t.shard (c + t.many)) w)
sight_takes n old new counts taken w t c from p more small is a =
    let on = sight_on n old new counts taken w p more in
    let s = t.shard in
    let inside : s < length taken = omega (arith, p.many_taken, small) in record {
      low = on.low;
      high = on.high;
      few = on.few;
      many = on.many;
      within = on.within;
      many_taken = length-set taken s (c + t.many) ∙ on.many_taken;
      within_taken = λ r. dite (ℕ_discrete r s)
          (λ same.
          let at : get_or (set taken s (c + t.many)) r 0 ≡ c + t.many = ap (λ k. get_or (set taken s (c + t.many)) k 0) same ∙ get_or-set_same taken s (c + t.many) 0 inside in
          omega (arith, at, is, p.within_taken s, taken_later s old.takes a.0 a.1, taken_here a.0 t, taken_later s (a.0 ++ t ∷ []) new.takes a.3, ap (λ k. taken_of k new.takes) same))
          (λ ne. omega (arith, get_or-set_other taken s r (c + t.many) 0 ne, on.within_taken r));
    }

-- a take of the pass does not make its count too large
pub sight_room : (n : ℕ) (old : FrontState) (counts taken : List ℕ) (w : WakeUps) (t : Take) (c from : ℕ) (new : List Take) → IsPass (pass_state n old counts taken w) → c ≡ get_or taken t.shard 0 → AppendsTake old.takes from t new → c ≤ from
sight_room n old counts taken w t c from new p is a = omega (arith, is, p.within_taken t.shard, taken_later t.shard old.takes a.0 a.1, a.2)

-- a take after something that was seen later is a take after it
pub took_since : (old mid : List Take) (from : ℕ) (t : Take) (new : List Take) → IsPrefix old mid → AppendsTake mid from t new → AppendsTake old from t new
took_since old mid from t new more a = (a.0, prefix_trans old mid a.0 more a.1, a.2, a.3)

-- what a take tells its pass
pub takes_out : (n : ℕ) (old new : FrontState) (counts taken : List ℕ) (w : WakeUps) (s c from many : ℕ) → IsPass (pass_state n old counts taken w) → FrontGrows old new → s < old.of.shards → c ≡ get_or taken s 0
    → AppendsTake old.takes from (record { pass = n; shard = s; many = many }) new.takes → TakesOut (pass_state n old counts taken w) (pass_state n new counts (set taken s (c + many)) w) s from many
takes_out n old new counts taken w s c from many p more small is a =
    let inside : s < length taken = omega (arith, p.many_taken, small) in record {
      took = a;
      counted = get_or-set_same taken s (c + many) 0 inside ∙ ap (λ k. k + many) is;
      others = λ r ne. get_or-set_other taken s r (c + many) 0 ne;
      seen = more.seen;
      shown = more.shown;
      counts = refl;
      wakes = refl;
      of = more.of;
      number = refl;
    }

-- a pass that only saw more made no step
pub no_step : (old new : PassState) → SeesMore old new → MakesNoStep old new
no_step old new m = record { of = m.of; number = m.number; counts = m.counts; seen = m.seen; shown = m.shown; takes = m.takes }

-- nor did a pass that took steps out
pub take_no_step : (old new : PassState) (s from many : ℕ) → TakesOut old new s from many → MakesNoStep old new
take_no_step old new s from many t =
    let k : Take = record { pass = old.number; shard = s; many = many } in
    let ts = t.took.0 in record {
      of = t.of;
      number = t.number;
      counts = t.counts;
      seen = t.seen;
      shown = t.shown;
      takes = prefix_trans old.takes ts new.takes t.took.1 (prefix_trans ts (ts ++ k ∷ []) new.takes (prefix_more ts (k ∷ [])) t.took.3);
    }

pub no_step_on : (old mid new : PassState) → MakesNoStep old mid → MakesNoStep mid new → MakesNoStep old new
no_step_on old mid new a b = record {
  of = b.of ∙ a.of;
  number = b.number ∙ a.number;
  counts = b.counts ∙ a.counts;
  seen = prefix_trans old.seen mid.seen new.seen a.seen b.seen;
  shown = prefix_trans old.shown mid.shown new.shown a.shown b.shown;
  takes = prefix_trans old.takes mid.takes new.takes a.takes b.takes;
}

-- a take stays when more is seen afterwards
pub takes_out_on : (old mid new : PassState) (s from many : ℕ) → TakesOut old mid s from many → SeesMore mid new → TakesOut old new s from many
takes_out_on old mid new s from many t m =
    let k : Take = record { pass = old.number; shard = s; many = many } in record {
      took = (t.took.0, t.took.1, t.took.2, prefix_trans (t.took.0 ++ k ∷ []) mid.takes new.takes t.took.3 m.takes);
      counted = ap (λ (l : List ℕ). get_or l s 0) m.taken ∙ t.counted;
      others = λ r ne. ap (λ (l : List ℕ). get_or l r 0) m.taken ∙ t.others r ne;
      seen = prefix_trans old.seen mid.seen new.seen t.seen m.seen;
      shown = prefix_trans old.shown mid.shown new.shown t.shown m.shown;
      counts = m.counts ∙ t.counts;
      wakes = m.wakes ∙ t.wakes;
      of = m.of ∙ t.of;
      number = m.number ∙ t.number;
    }

-- what a commit tells the pass and the front
pub commits : (n : ℕ) (old mid new front : FrontState) (counts taken : List ℕ) (w : WakeUps) (s c count : ℕ) (e : Entry) → FrontGrows old mid → FrontGrows front mid → FrontGrows mid new → c ≡ get_or counts s 0 → length (part s front.seen) ≡ count
    → Appends mid.seen (λ h. length (part s h) ≡ count) (Step s e) new.seen → Commits (pass_state n old counts taken w) front s e (pass_state n new (set counts s (c + 1)) taken w) new
commits n old mid new front counts taken w s c count e a b more is many g =
    let grown = grows_on front mid new b more in
    let at = committed old.seen mid.seen front.seen new.seen s count e a.seen b.seen many g in record {
      same = record { of = refl; seen = refl; shown = refl; takes = refl };
      front_grows = grown;
      step = at;
      stored = stored old.seen front.seen new.seen s e at;
      shown = prefix_trans old.shown mid.shown new.shown a.shown more.shown;
      takes = prefix_trans old.takes mid.takes new.takes a.takes more.takes;
      counted = ap (λ k. set counts s (k + 1)) is;
      taken = refl;
      wakes = refl;
      of = more.of ∙ a.of;
      number = refl;
    }

-- a pass that nobody has to be woken for any more, with what it saw before
pub reports_awoken : (old new : PassState) (s at : ℕ) (e : Entry) → Reports old new s at e → Reports old (awoken new) s at e
reports_awoken old new s at e r = record { own = r.own; stands = r.stands; later = r.later; seen = r.seen; shown = r.shown; takes = r.takes; lets_shown = r.lets_shown; untold = r.untold; counted = r.counted; others = r.others; taken = r.taken; of = r.of; number = r.number }
