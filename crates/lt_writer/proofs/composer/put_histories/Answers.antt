use Rattle.std.proofs.Common.{◌≡◌, ℕ, List, [], ◌++◌, map, refl, ap, ◌∙◌, append_assoc, rules}
use Rattle.lt_checker.specs.Text.{text_of, header}
use Rattle.lt_checker.specs.Sorted.{lines_after}
use Rattle.lt_checker.proofs.Grouped.{text_of_sorted, text_of_same}
use Rattle.lt_writer.proofs.Unique.{one_text}
use Rattle.lt_writer.proofs.composer.put_histories.Goals as goal

behind_header : (old headed new lines : List ℕ) → headed ≡ old ++ header → new ≡ headed ++ lines → new ≡ old ++ (header ++ lines)
behind_header old headed new lines e f = f ∙ (ap (λ (x : List ℕ). x ++ lines) e ∙ append_assoc old header lines)

pub returns-clause-text : goal.returns-clause-text
returns-clause-text c = record {
  text = text_of (lines_after [] 0 (map (λ e. e.entry.now) c.in_ok-entries.entries.items));
  is_text = text_of_same _ _ _ c.in_ok-entries.ensures.parts (text_of_sorted _ _ c.in_ok-entries.ensures.rising refl);
  joined = behind_header c.args.out.now.items c.extend_from_slice.new.self.items c.put_lines.new.out.items _ (search rules) (search rules);
}

pub returns-clause-alone : goal.returns-clause-alone
returns-clause-alone c = λ other t.
    let put = returns-clause-text c in
    put.joined ∙ ap (λ (x : List ℕ). c.args.out.now.items ++ x) (one_text _ other _ put.is_text t)
