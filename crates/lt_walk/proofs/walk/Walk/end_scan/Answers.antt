use Rattle.std.proofs.Common.{arith, ◌≡◌, length, ap, ◌∙◌}
use Rattle.lt_walk.specs.Machine.{scan_end}
use Rattle.lt_walk.proofs.Sounds.{sound_at_end}
use Rattle.lt_walk.proofs.walk.Walk.end_scan.Goals as goal

pub invariant_of-self : goal.invariant_of-self
invariant_of-self c =
    let same_length : c.len.result ≡ length c.self.inside.keys.items = omega (arith, c.len.ensures, c.self.inside.keys.ok.0) in (
      c.self.invariant.0,
      c.self.invariant.1,
      c.self.invariant.2,
      sound_at_end _ _ _ _ (c.scan_end-ended.ensures ∙ ap (λ n. scan_end n c.self.inside.progress) same_length) c.self.invariant.3,
    )
