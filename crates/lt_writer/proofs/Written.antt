-- Bytes that are written one piece after another.
use Rattle.std.proofs.Common.{◌≡◌, ℕ, ◌≤◌, List, [], ◌∷◌, ◌++◌, length, take, drop, Option, Some, None, refl, sym, ap, ◌∙◌, append_assoc, arith}
use Rattle.std.specs.Io.KnownBytes.{Appends, Keeps}
use Rattle.std.proofs.lemmas.List.{append-nil, take-append-drop}
use Rattle.lt_writer.specs.Puts.{AppendsPrefix}

pub took_none : (old new : Option (List ℕ)) (text : List ℕ) → Appends old new (take 0 text) → Appends old new []
took_none old new [] h = h
took_none old new (b ∷ bs) h = h

pub kept : (old new : Option (List ℕ)) → Keeps old new → Appends old new []
kept None new h = tt
kept (Some xs) None h = h
kept (Some xs) (Some ys) h = h ∙ sym (append-nil xs)

appends_more : (old mid new : Option (List ℕ)) (prefix piece : List ℕ) → Appends old mid prefix → Appends mid new piece → Appends old new (prefix ++ piece)
appends_more None mid new prefix piece p q = tt
appends_more (Some xs) None new prefix piece p q = absurd p
appends_more (Some xs) (Some ys) None prefix piece p q = q
appends_more (Some xs) (Some ys) (Some zs) prefix piece p q = q ∙ (ap (λ (t : List ℕ). t ++ piece) p ∙ append_assoc xs prefix piece)

-- A prefix of the text is written, and rest is left.
pub record Written (old now : Option (List ℕ)) (text rest : List ℕ) : Type 0 where
  pub prefix : List ℕ
  pub joined : text ≡ prefix ++ rest
  pub appended : Appends old now prefix

nothing : (old : Option (List ℕ)) → Appends old old []
nothing None = tt
nothing (Some xs) = sym (append-nil xs)

pub written_none : (old : Option (List ℕ)) (text : List ℕ) → Written old old text text
written_none old text = record { prefix = []; joined = refl; appended = nothing old }

pub written_more : (old now next : Option (List ℕ)) (text rest : List ℕ) (n : ℕ) → Written old now text rest → Appends now next (take n rest) → Written old next text (drop n rest)
written_more old now next text rest n h p = record {
  prefix = h.prefix ++ take n rest;
  joined = h.joined ∙ (ap (λ (t : List ℕ). h.prefix ++ t) (sym (take-append-drop n rest)) ∙ sym (append_assoc h.prefix (take n rest) (drop n rest)));
  appended = appends_more old now next h.prefix (take n rest) h.appended p;
}

pub written_all : (old now : Option (List ℕ)) (text rest : List ℕ) → Written old now text rest → length rest ≤ 0 → Appends old now text
written_all old now text [] h e = let same = h.joined ∙ append-nil h.prefix in rw same h.appended
written_all old now text (b ∷ bs) h e = absurd (omega arith)

pub written_prefix : (old now next : Option (List ℕ)) (text rest : List ℕ) → Written old now text rest → Appends now next [] → AppendsPrefix old next text
written_prefix old now next text rest h p = record {
  prefix = h.prefix ++ [];
  rest = rest;
  joined = h.joined ∙ ap (λ (t : List ℕ). t ++ rest) (sym (append-nil h.prefix));
  appended = appends_more old now next h.prefix [] h.appended p;
}
