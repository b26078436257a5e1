-- Two facts about `KeepsQueued` and `KeepsOwned`: they are transitive, and every position that exists still exists
-- afterwards.
use Rattle.std.specs.Prelude.{◌≡◌, ℕ, Option, Some, None, is_some, refl}
use Rattle.std.proofs.Common.{◌∙◌, sym, ap}
use Rattle.slab.specs.Slab.{Slab, get}
use Rattle.lt_links.specs.declared.node.Node.{Node}
use Rattle.lt_links.specs.declared.node.Heads.{Heads}
use Rattle.lt_links.specs.declared.ids.Queue.{Queue}
use Rattle.lt_links.specs.Cells.{Owners, unqueued, unowned, HasQueued, HasOwned, KeepsQueued, KeepsOwned}

pub KeepsQueued-twice : (a b c : Slab Node) (d e f : Slab Heads) → KeepsQueued a d b e → KeepsQueued b e c f → KeepsQueued a d c f
KeepsQueued-twice a b c d e f one two = record {
  nodes_kept = λ n. two.nodes_kept n ∙ one.nodes_kept n;
  heads_kept = λ id. two.heads_kept id ∙ one.heads_kept id;
  lens_kept = λ q. two.lens_kept q ∙ one.lens_kept q;
}

unqueued_there : (x : Option Node) → is_some (unqueued x) ≡ is_some x
unqueued_there None = refl
unqueued_there (Some d) = refl

pub HasQueued-kept : (a b : Slab Node) (d e : Slab Heads) (q : Queue) (at : Option ℕ) → KeepsQueued a d b e → HasQueued a d q at → HasQueued b e q at
HasQueued-kept a b d e q None keeps there = keeps.heads_kept q.id ∙ there
HasQueued-kept a b d e q (Some n) keeps there = sym (unqueued_there (get b n)) ∙ ap is_some (keeps.nodes_kept n) ∙ unqueued_there (get a n) ∙ there

pub KeepsOwned-twice : (a b c : Slab Node) (d e f : Owners) → KeepsOwned a d b e → KeepsOwned b e c f → KeepsOwned a d c f
KeepsOwned-twice a b c d e f one two = record {
  nodes_kept = λ n. two.nodes_kept n ∙ one.nodes_kept n;
  owners_kept = λ number. two.owners_kept number ∙ one.owners_kept number;
}

unowned_there : (x : Option Node) → is_some (unowned x) ≡ is_some x
unowned_there None = refl
unowned_there (Some d) = refl

pub HasOwned-kept : (a b : Slab Node) (d e : Owners) (number : ℕ) (at : Option ℕ) → KeepsOwned a d b e → HasOwned a d number at → HasOwned b e number at
HasOwned-kept a b d e number None keeps there = keeps.owners_kept number ∙ there
HasOwned-kept a b d e number (Some n) keeps there = sym (unowned_there (get b n)) ∙ ap is_some (keeps.nodes_kept n) ∙ unowned_there (get a n) ∙ there
