use Rattle.std.proofs.Common.{◌==◌, ◌∙◌, ap, sym}
use Rattle.std.specs.Cmp.Lexicographic.{pointwise}
use Rattle.lt_ids.specs.Bytes.{bytes_of}
use Rattle.lt_ids.proofs.key.KeyPartialEq.eq.Goals as goal

pub are_same_short-requires-clause-within : goal.are_same_short-requires-clause-within
are_same_short-requires-clause-within c = rw c.in-Short-Short.is-0 at c.self.invariant.1

pub are_same_short-requires-clause-other_within : goal.are_same_short-requires-clause-other_within
are_same_short-requires-clause-other_within c = rw c.in-Short-Short.is-1 at c.other.invariant.1

pub are_same_short-requires-clause-padded : goal.are_same_short-requires-clause-padded
are_same_short-requires-clause-padded c = rw c.in-Short-Short.is-0 at c.self.invariant.3

pub are_same_short-requires-clause-other_padded : goal.are_same_short-requires-clause-other_padded
are_same_short-requires-clause-other_padded c = rw c.in-Short-Short.is-1 at c.other.invariant.3

pub returns-in-Short-Short : goal.returns-in-Short-Short
returns-in-Short-Short c =
    let is_one = sym (ap bytes_of c.in-Short-Short.is-0) ∙ c.self.view_is in
    let is_other = sym (ap bytes_of c.in-Short-Short.is-1) ∙ c.other.view_is in
    c.are_same_short.ensures ∙ λ i. pointwise ◌==◌ (is_one i) (is_other i)
