use Rattle.std.proofs.Common.{◌≡◌, ℕ, List, Option, Some, None, sym, ap, ◌∙◌, get_or}
use Rattle.std.specs.Prelude.{slice_get, IfSome}
use Rattle.std.specs.Str.{bytes_eq}
use Rattle.std.proofs.lemmas.List.Quantifiers.{position-Some}
use Rattle.std.proofs.lemmas.Option.{slice_get-get_or}
use Rattle.std.proofs.lemmas.Slice.Eq.{bytes_eq-Decides}
use Rattle.lt_ids.specs.declared.request.Access.{Access}
use Rattle.lt_ids.specs.declared.request.Access.TheVariants.{Read}
use Rattle.lt_runner.specs.Machine.{index_of}
use Rattle.lt_runner.proofs.find.index_of.Goals as goal

found : (keys : List (List ℕ × Access)) (key : List ℕ) (o : Option ℕ) → o ≡ index_of keys key → IfSome o (λ i. (a : Access) × (slice_get keys i ≡ Some (key, a)))
found keys key None e = tt
found keys key (Some i) e =
    let d : List ℕ × Access = (key, Read) in
    let at = position-Some (λ (k : List ℕ × Access). bytes_eq k.0 key) keys i d (sym e) in
    let same : (get_or keys i d).0 ≡ key = (bytes_eq-Decides (get_or keys i d).0 key).0 at.1 in
    ((get_or keys i d).1, slice_get-get_or keys i d at.0 ∙ ap (λ (k : List ℕ). Some (k, (get_or keys i d).1)) same)

pub returns-clause-found : goal.returns-clause-found
returns-clause-found c = found c.args.keys.now c.args.key.now c.find_key.result c.find_key.ensures
