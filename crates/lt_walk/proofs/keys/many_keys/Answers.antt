use Rattle.std.proofs.Common.{rules, ◌≡◌, ◌++◌, map, refl}
use Rattle.lt_ids.specs.declared.request.Access.TheVariants.{Read, Write}
use Rattle.lt_walk.proofs.keys.many_keys.Goals as goal

pub only_read-requires : goal.only_read-requires
only_read-requires c = rw c.as_slice.ensures.value c.in_ok-writes.ensures

pub returns : goal.returns
returns c =
    let first : c.add_all.new.list.items ≡ c.args.list.items ++ map (λ k. (k, Write)) c.in_ok-writes.writes.items = search rules in
    let second : c.add_all-2.new.list.items ≡ c.add_all.new.list.items ++ map (λ k. (k, Read)) c.in_ok-reads.reads.items = search rules in
    record {
      writes = c.in_ok-writes.writes.items;
      reads = c.in_ok-reads.reads.items;
      written = c.in_ok-writes.ensures;
      read = c.in_ok-reads.ensures;
      joined = rw (second, first, c.requires) refl;
    }
