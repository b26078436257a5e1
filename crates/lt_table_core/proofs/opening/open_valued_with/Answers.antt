use Rattle.std.proofs.Common.{◌∙◌, ◌≤◌, ◌^◌, subst, sym}
use Rattle.lt_words.specs.Row.{Opening}
use Rattle.lt_walk.specs.declared.config.Config.{Config}
use Rattle.lt_walk.specs.Configs.{IsOpened}
use Rattle.lt_walk.proofs.Noted.{handed_are_of}
use Rattle.lt_table_core.proofs.opening.open_valued_with.Goals as goal

pub slots_over-requires-clause-many : goal.slots_over-requires-clause-many
slots_over-requires-clause-many g c = c.requires.many

pub slots_over-requires-clause-empty : goal.slots_over-requires-clause-empty
slots_over-requires-clause-empty g c = c.requires.empty

pub slots_over-requires-clause-low : goal.slots_over-requires-clause-low
slots_over-requires-clause-low g c = subst (λ (k : Config). 1 ≤ k.max_steps) (sym c.parts_of-book.ensures.config) c.parts_of-book.ensures.opened.config.some_steps

pub slots_over-requires-clause-high : goal.slots_over-requires-clause-high
slots_over-requires-clause-high g c = subst (λ (k : Config). k.max_steps ≤ 2 ^ 32) (sym c.parts_of-book.ensures.config) c.parts_of-book.ensures.opened.config.few_steps

pub slots_over-requires-clause-book : goal.slots_over-requires-clause-book
slots_over-requires-clause-book g c = c.parts_of-book.ensures.book ∙ c.requires.named

pub invariant_of-table : goal.invariant_of-table
invariant_of-table g c =
    let opened : IsOpened c.args.ready.config g.N.Name.of = subst (λ (of : Opening). IsOpened c.args.ready.config of) c.requires.named c.parts_of-book.ensures.opened in
    (subst (λ (k : Config). IsOpened k g.N.Name.of) (sym c.parts_of-book.ensures.config) opened, c.parts_of-book.ensures.book ∙ c.requires.named, c.in-Ok.ensures.many, c.in-Ok.ensures.each)

pub returns-clause-config : goal.returns-clause-config
returns-clause-config g c = c.parts_of-book.ensures.config

pub returns-clause-of : goal.returns-clause-of
returns-clause-of g c = handed_are_of c.args.ready.of g.N.Name.of c.args.ready.config.passes c.parts_of-book.result.passes.items c.parts_of-book.ensures.passes c.requires.named
