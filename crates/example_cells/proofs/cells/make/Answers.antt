use Rattle.std.proofs.Common.{◌≡◌, ◌∙◌, sym, subst, List, ℕ, cond, Some}
use Rattle.std.specs.Str.{bytes_eq}
use Rattle.example_cells.specs.Knowing.{cell_at}
use Rattle.example_cells.proofs.Knows.{none_of, made_knows}
use Rattle.example_cells.proofs.Lefts.{made_left}
use Rattle.example_cells.proofs.cells.make.Goals as goal

pub returns-in-Ok-clause-keeps : goal.returns-in-Ok-clause-keeps
returns-in-Ok-clause-keeps c =
    let none = none_of (cell_at c.args.cells.now c.args.key.now) (sym c.contains_key.ensures ∙ c.if-contains_key.false) in
    made_knows c.args.cells.now c.insert.new.self c.args.key.now c.empty.result none c.empty.ensures.owner c.empty.ensures.last
    (subst (λ k. (q : List ℕ) → cell_at c.insert.new.self q ≡ cond (bytes_eq k q) (Some c.empty.result) (cell_at c.args.cells.now q)) c.in_ok-copy.ensures.same c.in-Ok.ensures.updates.0)

pub returns-in-Ok-clause-left : goal.returns-in-Ok-clause-left
returns-in-Ok-clause-left c =
    made_left c.args.cells.now c.insert.new.self c.args.key.now c.empty.result c.empty.ensures.left
    (subst (λ k. (q : List ℕ) → cell_at c.insert.new.self q ≡ cond (bytes_eq k q) (Some c.empty.result) (cell_at c.args.cells.now q)) c.in_ok-copy.ensures.same c.in-Ok.ensures.updates.0)
