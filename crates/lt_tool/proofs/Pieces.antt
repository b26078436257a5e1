-- Bytes that are read piece after piece.
use Rattle.std.proofs.Common.{◌≡◌, ℕ, ◌<◌, ◌≤◌, List, ◌++◌, length, take, Option, Some, None, sym, ap, ◌∙◌, append_assoc, arith, length-append, length-take-le}
use Rattle.std.specs.Prelude.{IfSome}
use Rattle.std.specs.Io.KnownBytes.{Consumes, IsAtEnd}
use Rattle.std.proofs.lemmas.List.{append-nil}
use Rattle.lt_tool.specs.Input.{IsPiece}

pub consumes_more : (first mid last : Option (List ℕ)) (prefix bytes : List ℕ) → Consumes first mid prefix → Consumes mid last bytes → Consumes first last (prefix ++ bytes)
consumes_more None mid last prefix bytes p q = tt
consumes_more (Some xs) None last prefix bytes p q = absurd p
consumes_more (Some xs) (Some ys) None prefix bytes p q = q
consumes_more (Some xs) (Some ys) (Some zs) prefix bytes p q = p ∙ (ap (λ (t : List ℕ). prefix ++ t) q ∙ sym (append_assoc prefix bytes zs))

pub more : (first mid last : Option (List ℕ)) (old new : List ℕ) (n : ℕ) → Consumes first mid old → IsPiece mid last old new n → Consumes first last new
more first mid last old new n h p = rw p.grown (consumes_more first mid last old p.bytes h p.taken)

at_end : (first last : Option (List ℕ)) (text : List ℕ) → Consumes first last text → IsAtEnd last → IfSome first (λ all. text ≡ all)
at_end None last text h e = tt
at_end (Some xs) None text h e = absurd h
at_end (Some xs) (Some ys) text h e = sym (h ∙ (ap (λ (t : List ℕ). text ++ t) e ∙ append-nil text))

pub whole : (first mid last : Option (List ℕ)) (old new : List ℕ) (n : ℕ) → Consumes first mid old → IsPiece mid last old new n → n ≡ 0 → IfSome first (λ all. new ≡ all)
whole first mid last old new n h p z = at_end first last new (more first mid last old new n h p) (p.at_end z)

pub too_long : (first last : Option (List ℕ)) (text : List ℕ) (n : ℕ) → Consumes first last text → n < length text → IfSome first (λ all. n < length all)
too_long None last text n h lt = tt
too_long (Some xs) None text n h lt = absurd h
too_long (Some xs) (Some ys) text n h lt = omega (arith, ap length h, length-append text ys)

pub piece : (before after : Option (List ℕ)) (old new buf : List ℕ) (n : ℕ) → Consumes before after (take n buf) → (n ≡ 0 → 0 < length buf → IsAtEnd after) → new ≡ old ++ take n buf → n ≤ length buf → 0 < length buf → IsPiece before after old new n
piece before after old new buf n taken ends grown le some = record {
  bytes = take n buf;
  grown = grown;
  count = length-take-le n buf le;
  taken = taken;
  at_end = λ z. ends z some;
}
