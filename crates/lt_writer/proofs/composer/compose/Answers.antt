use Rattle.std.proofs.Common.{◌≡◌, ℕ, List, [], ◌++◌, sym, ap, subst, ◌∙◌}
use Rattle.lt_entry.specs.declared.entry.Entry.{Entry}
use Rattle.lt_checker.specs.Histories.{IsTextOf}
use Rattle.lt_writer.specs.Puts.{PutsText}
use Rattle.lt_writer.proofs.Unique.{one_text}
use Rattle.lt_writer.proofs.composer.compose.Goals as goal

behind_none : (old new : List ℕ) (es : List Entry) → old ≡ [] → PutsText old new es → IsTextOf new es
behind_none old new es none put = subst (λ (x : List ℕ). IsTextOf x es) (sym (put.joined ∙ ap (λ (x : List ℕ). x ++ put.text) none)) put.is_text

pub returns-clause-text : goal.returns-clause-text
returns-clause-text c = behind_none _ _ _ c.new-text.ensures.items c.in_ok-put_histories.ensures.text

pub returns-clause-alone : goal.returns-clause-alone
returns-clause-alone c = λ other t. one_text _ other _ (returns-clause-text c) t
