-- The lets of the requests that go on, as the loops over a queue append them.
use Rattle.std.proofs.Common.{◌≡◌, ◌+◌, ◌<◌, ◌≤◌, ℕ, Bool, true, false, ◌&&◌, cond, zero, suc, List, [], ◌∷◌, ◌++◌, length, map, filter, take, get_or, refl, sym, ap, ◌∙◌, arith}
use Rattle.std.specs.List.{flat_map}
use Rattle.std.proofs.lemmas.List.{length-append, append_assoc, map-append}
use Rattle.lt_ids.specs.declared.ticket.Through.{Through}
use Rattle.lt_rules.specs.declared.queued.QueuedRequest.{QueuedRequest}
use Rattle.lt_rules.specs.declared.queued.QueuedWriter.{QueuedWriter}
use Rattle.lt_rules.specs.Rules.{through_of, active_requests, is_of, leading}
use Rattle.lt_plain.specs.Plain.{front_lets, let_if}

-- the elements before one, and that one, have at most as many lets as all
few_before : {X : Type 0} (f : X → List Through) (xs : List X) (i : ℕ) (x : X) → i < length xs → x ≡ get_or xs i x → length (flat_map f (take i xs)) + length (f x) ≤ length (flat_map f xs)
few_before f [] i x lt is = absurd (omega arith)
few_before f (y ∷ ys) zero x lt is =
    let sum : length (f y ++ flat_map f ys) ≡ length (f y) + length (flat_map f ys) = length-append (f y) (flat_map f ys) in
    let same : length (f x) ≡ length (f y) = ap (λ z. length (f z)) is in
    omega (arith, sum, same)
few_before f (y ∷ ys) (suc i) x lt is =
    let rest : length (flat_map f (take i ys)) + length (f x) ≤ length (flat_map f ys) = few_before f ys i x (omega arith) is in
    let sum : length (f y ++ flat_map f ys) ≡ length (f y) + length (flat_map f ys) = length-append (f y) (flat_map f ys) in
    let part : length (f y ++ flat_map f (take i ys)) ≡ length (f y) + length (flat_map f (take i ys)) = length-append (f y) (flat_map f (take i ys)) in
    omega (arith, rest, sum, part)

-- There was no room for the lets of an element, so there is none for all lets.
pub no_room : {X : Type 0} (f : X → List Through) (xs : List X) (i : ℕ) (x : X) (start done : List Through) (first capacity : ℕ) → i < length xs → x ≡ get_or xs i x → done ≡ start ++ flat_map f (take i xs) → first ≤ capacity → capacity < length (done ++ f x) → first < length (start ++ flat_map f xs)
no_room f xs i x start done first capacity lt is at grown full =
    let few : length (flat_map f (take i xs)) + length (f x) ≤ length (flat_map f xs) = few_before f xs i x lt is in
    let all : length (start ++ flat_map f xs) ≡ length start + length (flat_map f xs) = length-append start (flat_map f xs) in
    let part : length done ≡ length start + length (flat_map f (take i xs)) = ap length at ∙ length-append start (flat_map f (take i xs)) in
    let one : length (done ++ f x) ≡ length done + length (f x) = length-append done (f x) in
    omega (arith, few, all, part, one, grown, full)

-- There was no room for a part, so there is none for all.
pub no_room_for_part : (first capacity : ℕ) (part rest all : List Through) → part ++ rest ≡ all → first ≤ capacity → capacity < length part → first < length all
no_room_for_part first capacity part rest all is grown full =
    let same : length (part ++ rest) ≡ length all = ap length is in
    let sum : length (part ++ rest) ≡ length part + length rest = length-append part rest in
    omega (arith, same, sum, grown, full)

-- ---- the same lets, in the words of the rules

sent_all : (qs : List QueuedRequest) → flat_map (λ (q : QueuedRequest). let_if true q) qs ≡ map through_of qs
sent_all [] = refl
sent_all (q ∷ qs) = ap (λ ts. through_of q ∷ ts) (sent_all qs)

pub sent_filtered : (p : QueuedRequest → Bool) (qs : List QueuedRequest) → flat_map (λ (q : QueuedRequest). let_if (p q) q) qs ≡ map through_of (filter p qs)
sent_filtered p [] = refl
sent_filtered p (q ∷ qs) =
    let rest = sent_filtered p qs in
    elim (p q) as (λ b. cond b (through_of q ∷ []) [] ++ flat_map (λ (q : QueuedRequest). let_if (p q) q) qs ≡ map through_of (cond b (q ∷ filter p qs) (filter p qs))) [
      | true ↦ ap (λ ts. through_of q ∷ ts) rest
      | false ↦ rest
    ]

sent_active : (ws : List QueuedWriter) → flat_map (λ (w : QueuedWriter). let_if w.active w.request) ws ≡ map through_of (active_requests ws)
sent_active [] = refl
sent_active (w ∷ ws) =
    let rest = sent_active ws in
    elim w.active as (λ b. cond b (through_of w.request ∷ []) [] ++ flat_map (λ (w : QueuedWriter). let_if w.active w.request) ws ≡ map through_of (map (λ w. w.request) (cond b (w ∷ filter (λ w. w.active) ws) (filter (λ w. w.active) ws)))) [
      | true ↦ ap (λ ts. through_of w.request ∷ ts) rest
      | false ↦ rest
    ]

pub sent_of : (txn : ℕ) (ws : List QueuedWriter) → flat_map (λ (w : QueuedWriter). let_if (is_of txn w && w.active) w.request) ws ≡ map through_of (active_requests (filter (is_of txn) ws))
sent_of txn [] = refl
sent_of txn (w ∷ ws) =
    let rest = sent_of txn ws in
    elim (is_of txn w) as (λ a. cond (a && w.active) (through_of w.request ∷ []) [] ++ flat_map (λ (w : QueuedWriter). let_if (is_of txn w && w.active) w.request) ws ≡ map through_of (active_requests (cond a (w ∷ filter (is_of txn) ws) (filter (is_of txn) ws)))) [
      | true ↦ elim w.active as (λ b. cond b (through_of w.request ∷ []) [] ++ flat_map (λ (w : QueuedWriter). let_if (is_of txn w && w.active) w.request) ws ≡ map through_of (map (λ w. w.request) (cond b (w ∷ filter (λ w. w.active) (filter (is_of txn) ws)) (filter (λ w. w.active) (filter (is_of txn) ws))))) [
        | true ↦ ap (λ ts. through_of w.request ∷ ts) rest
        | false ↦ rest
      ]
      | false ↦ rest
    ]

-- the readers' lets and those of the front writers `ws` are the lets of a lock that comes free
pub front_joined : (start : List Through) (readers : List QueuedRequest) (writers ws : List QueuedWriter) → ws ≡ take (suc (leading writers)) writers → (start ++ flat_map (λ (q : QueuedRequest). let_if true q) readers) ++ flat_map (λ (w : QueuedWriter). let_if w.active w.request) ws ≡ start ++ front_lets readers writers
front_joined start readers writers ws is =
    let first : List Through = flat_map (λ (q : QueuedRequest). let_if true q) readers in
    let last : List Through = flat_map (λ (w : QueuedWriter). let_if w.active w.request) ws in
    let writers_go : last ≡ map through_of (active_requests (take (suc (leading writers)) writers)) = sent_active ws ∙ ap (λ vs. map through_of (active_requests vs)) is in
    append_assoc start first last
    ∙ ap (λ ts. start ++ ts) (ap (λ ts. ts ++ last) (sent_all readers) ∙ ap (λ ts. map through_of readers ++ ts) writers_go ∙ sym (map-append through_of readers (active_requests (take (suc (leading writers)) writers))))
