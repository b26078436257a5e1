use Rattle.std.proofs.Common.{◌≡◌, ◌≤◌, ◌++◌, [], map, drop}
use Rattle.std.specs.List.{flat_map}
use Rattle.lt_checker.specs.Lines.{line_text}
use Rattle.lt_checker.specs.Sorted.{lines_after}
use Rattle.lt_writer.proofs.composer.put_lines.Given as goal

abbrev pub invariant-loop-ranked : goal.invariant-loop-ranked
invariant-loop-ranked l = record {
  counted : l.index ≤ l.ranked-index;
  written : l.out.items ++ flat_map line_text (lines_after l.key l.index (map (λ e. e.entry.now) (drop l.ranked-index l.entries)))
      ≡ l.initial.out.items ++ flat_map line_text (lines_after [] 0 (map (λ e. e.entry.now) l.entries));
}
