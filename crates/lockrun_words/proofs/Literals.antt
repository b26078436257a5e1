-- The results that clap gives for literal words.
use Rattle.std.proofs.Common.{◌≡◌, ◌≢◌, ◌≤◌, ◌^◌, ℕ, List, [], ◌∷◌, Bool, true, false, Option, Some, None, inl, inr, refl, sym, subst, ap, ◌∙◌, codes, option_map, arith}
use Rattle.std.specs.Fmt.{decimal}
use Rattle.std.specs.Str.{bytes_eq}
use Rattle.std.proofs.lemmas.Slice.Eq.{bytes_eq-Decides}
use Rattle.clap.specs.Words.{Text, IsAmong, is_simple_and_free, is_simple}
use Rattle.clap.specs.declared.error.kind.ErrorKind.TheVariants as kind
use Rattle.clap.proofs.OnLiterals.{clap_on_literals}
use Rattle.lockrun_words.specs.Options.{default_options, joined, number_or, options_of}
use Rattle.lockrun_words.specs.Words.{run, check, upgrade, lockrun, named, faults, is_option, HasMost, IsCommand, ReadsHistories, IsOutOfRange, IsStray}
use Rattle.lockrun_words.proofs.Ranges.{digit_in_range, in_range, out_of_range, plain_decimal}

pub is_plain : is_simple_and_free lockrun ≡ true
unfolding clap_on_literals
is_plain = refl

pub is_exact : is_simple lockrun ≡ true
unfolding clap_on_literals
is_exact = refl

pub none_faults : faults [] ≡ []
unfolding clap_on_literals
none_faults = refl

pub none_named : named [] ≡ Some (run None default_options)
unfolding clap_on_literals
none_named = refl

pub run_faults : faults (codes "run" ∷ []) ≡ []
unfolding clap_on_literals
run_faults = refl

pub run_named : named (codes "run" ∷ []) ≡ Some (run None default_options)
unfolding clap_on_literals
run_named = refl

pub script_faults : (file : Text) → is_option file ≡ false → faults (codes "run" ∷ file ∷ []) ≡ []
unfolding clap_on_literals
script_faults [] e = refl
script_faults (b ∷ rest) e = rw (e, e) refl

pub script_named : (file : Text) → is_option file ≡ false → named (codes "run" ∷ file ∷ []) ≡ Some (run (Some file) default_options)
unfolding clap_on_literals
script_named [] e = refl
script_named (b ∷ rest) e = rw (e, e) refl

-- ---- the options of `run`

pub flag_faults : faults (codes "run" ∷ codes "--threads" ∷ []) ≡ []
unfolding clap_on_literals
flag_faults = refl

pub flag_named : named (codes "run" ∷ codes "--threads" ∷ []) ≡ Some (run None (record default_options { threads = true }))
unfolding clap_on_literals
flag_named = refl

pub shards_faults : (word : Text) → is_option word ≡ false → faults (codes "run" ∷ codes "--shards" ∷ word ∷ []) ≡ []
unfolding clap_on_literals
shards_faults [] e = refl
shards_faults (b ∷ rest) e = rw (e, e) refl

shards_named : (word : Text) → is_option word ≡ false → named (codes "run" ∷ codes "--shards" ∷ word ∷ []) ≡ option_map (run None) (options_of (Some word) None None None)
unfolding clap_on_literals
shards_named [] e = refl
shards_named (b ∷ rest) e = rw (e, e) refl

pub steps_faults : (word : Text) → is_option word ≡ false → faults (codes "run" ∷ codes "--steps" ∷ word ∷ []) ≡ []
unfolding clap_on_literals
steps_faults [] e = refl
steps_faults (b ∷ rest) e = rw (e, e) refl

steps_named : (word : Text) → is_option word ≡ false → named (codes "run" ∷ codes "--steps" ∷ word ∷ []) ≡ option_map (run None) (options_of None (Some word) None None)
unfolding clap_on_literals
steps_named [] e = refl
steps_named (b ∷ rest) e = rw (e, e) refl

pub turns_faults : (word : Text) → is_option word ≡ false → faults (codes "run" ∷ codes "--turns" ∷ word ∷ []) ≡ []
unfolding clap_on_literals
turns_faults [] e = refl
turns_faults (b ∷ rest) e = rw (e, e) refl

turns_named : (word : Text) → is_option word ≡ false → named (codes "run" ∷ codes "--turns" ∷ word ∷ []) ≡ option_map (run None) (options_of None None None (Some word))
unfolding clap_on_literals
turns_named [] e = refl
turns_named (b ∷ rest) e = rw (e, e) refl

pub shards_given : (n : ℕ) → 1 ≤ n → n ≤ 64 → named (codes "run" ∷ codes "--shards" ∷ decimal n ∷ []) ≡ Some (run None (record default_options { shards = n }))
shards_given n some few =
    shards_named (decimal n) (plain_decimal n 64 some few (omega arith))
    ∙ ap (λ (o : Option ℕ). option_map (run None) (joined o (Some 1000000) false (Some 1000000))) (in_range 4 64 n some few (omega arith))

pub steps_given : (n : ℕ) → 1 ≤ n → n ≤ 2 ^ 32 → named (codes "run" ∷ codes "--steps" ∷ decimal n ∷ []) ≡ Some (run None (record default_options { steps = n }))
steps_given n some few =
    steps_named (decimal n) (plain_decimal n (2 ^ 32) some few (omega arith))
    ∙ ap (λ (o : Option ℕ). option_map (run None) (joined (Some 4) o false (Some 1000000))) (in_range 1000000 (2 ^ 32) n some few (omega arith))

pub turns_given : (n : ℕ) → 1 ≤ n → n ≤ 1000000000 → named (codes "run" ∷ codes "--turns" ∷ decimal n ∷ []) ≡ Some (run None (record default_options { turns = n }))
turns_given n some few =
    turns_named (decimal n) (plain_decimal n 1000000000 some few (omega arith))
    ∙ ap (λ (o : Option ℕ). option_map (run None) (joined (Some 4) (Some 1000000) false o)) (in_range 1000000 1000000000 n some few (omega arith))

pub number_faults : (name word : Text) (most : ℕ) → HasMost name most → is_option word ≡ false → faults (codes "run" ∷ name ∷ word ∷ []) ≡ []
number_faults name word most (inl h) e = ap (λ (t : Text). faults (codes "run" ∷ t ∷ word ∷ [])) h.0 ∙ shards_faults word e
number_faults name word most (inr (inl h)) e = ap (λ (t : Text). faults (codes "run" ∷ t ∷ word ∷ [])) h.0 ∙ steps_faults word e
number_faults name word most (inr (inr h)) e = ap (λ (t : Text). faults (codes "run" ∷ t ∷ word ∷ [])) h.0 ∙ turns_faults word e

pub none_named_beyond : (name word : Text) (most : ℕ) → HasMost name most → is_option word ≡ false → IsOutOfRange word most → named (codes "run" ∷ name ∷ word ∷ []) ≡ None
none_named_beyond name word most (inl h) e beside =
    ap (λ (t : Text). named (codes "run" ∷ t ∷ word ∷ [])) h.0 ∙ (shards_named word e
    ∙ ap (λ (o : Option ℕ). option_map (run None) (joined o (Some 1000000) false (Some 1000000))) (out_of_range 4 64 word (subst (IsOutOfRange word) h.1 beside)))
none_named_beyond name word most (inr (inl h)) e beside =
    ap (λ (t : Text). named (codes "run" ∷ t ∷ word ∷ [])) h.0 ∙ (steps_named word e
    ∙ ap (λ (o : Option ℕ). option_map (run None) (joined (Some 4) o false (Some 1000000))) (out_of_range 1000000 (2 ^ 32) word (subst (IsOutOfRange word) h.1 beside)))
none_named_beyond name word most (inr (inr h)) e beside =
    ap (λ (t : Text). named (codes "run" ∷ t ∷ word ∷ [])) h.0 ∙ (turns_named word e
    ∙ ap (λ (o : Option ℕ). option_map (run None) (joined (Some 4) (Some 1000000) false o)) (out_of_range 1000000 1000000000 word (subst (IsOutOfRange word) h.1 beside)))

pub together_faults : (file : Text) → is_option file ≡ false → faults (codes "run" ∷ file ∷ codes "--shards" ∷ codes "1" ∷ codes "--steps" ∷ codes "2" ∷ []) ≡ []
unfolding clap_on_literals
together_faults [] e = refl
together_faults (b ∷ rest) e = rw (e, e) refl

together_named_of : (file : Text) → is_option file ≡ false
    → named (codes "run" ∷ file ∷ codes "--shards" ∷ codes "1" ∷ codes "--steps" ∷ codes "2" ∷ []) ≡ option_map (run (Some file)) (options_of (Some (codes "1")) (Some (codes "2")) None None)
unfolding clap_on_literals
together_named_of [] e = refl
together_named_of (b ∷ rest) e = rw (e, e) refl

pub together_named : (file : Text) → is_option file ≡ false
    → named (codes "run" ∷ file ∷ codes "--shards" ∷ codes "1" ∷ codes "--steps" ∷ codes "2" ∷ []) ≡ Some (run (Some file) (record default_options { shards = 1; steps = 2 }))
together_named file e =
    together_named_of file e
    ∙ (ap (λ (o : Option ℕ). option_map (run (Some file)) (joined o (number_or 1000000 (2 ^ 32) (Some (codes "2"))) false (Some 1000000))) (digit_in_range 4 64 1 (omega arith) (omega arith) (omega arith) (omega arith))
    ∙ ap (λ (o : Option ℕ). option_map (run (Some file)) (joined (Some 1) o false (Some 1000000))) (digit_in_range 1000000 (2 ^ 32) 2 (omega arith) (omega arith) (omega arith) (omega arith)))

pub check_option_faults : (command name word : Text) (most : ℕ) → ReadsHistories command → HasMost name most → faults (command ∷ name ∷ word ∷ []) ≡ kind.UnknownArgument ∷ []
unfolding clap_on_literals
check_option_faults command name word most (inl c) (inl h) = rw (c, h.0) refl
check_option_faults command name word most (inl c) (inr (inl h)) = rw (c, h.0) refl
check_option_faults command name word most (inl c) (inr (inr h)) = rw (c, h.0) refl
check_option_faults command name word most (inr c) (inl h) = rw (c, h.0) refl
check_option_faults command name word most (inr c) (inr (inl h)) = rw (c, h.0) refl
check_option_faults command name word most (inr c) (inr (inr h)) = rw (c, h.0) refl

pub check_faults : faults (codes "check" ∷ []) ≡ []
unfolding clap_on_literals
check_faults = refl

pub upgrade_faults : faults (codes "upgrade" ∷ []) ≡ []
unfolding clap_on_literals
upgrade_faults = refl

pub check_named : named (codes "check" ∷ []) ≡ Some (check None)
unfolding clap_on_literals
check_named = refl

pub upgrade_named : named (codes "upgrade" ∷ []) ≡ Some (upgrade None)
unfolding clap_on_literals
upgrade_named = refl

pub histories_faults : (file : Text) → is_option file ≡ false → faults (codes "check" ∷ file ∷ []) ≡ []
unfolding clap_on_literals
histories_faults [] e = refl
histories_faults (b ∷ rest) e = rw (e, e) refl

pub upgraded_faults : (file : Text) → is_option file ≡ false → faults (codes "upgrade" ∷ file ∷ []) ≡ []
unfolding clap_on_literals
upgraded_faults [] e = refl
upgraded_faults (b ∷ rest) e = rw (e, e) refl

pub histories_named : (file : Text) → is_option file ≡ false → named (codes "check" ∷ file ∷ []) ≡ Some (check (Some file))
unfolding clap_on_literals
histories_named [] e = refl
histories_named (b ∷ rest) e = rw (e, e) refl

pub upgraded_named : (file : Text) → is_option file ≡ false → named (codes "upgrade" ∷ file ∷ []) ≡ Some (upgrade (Some file))
unfolding clap_on_literals
upgraded_named [] e = refl
upgraded_named (b ∷ rest) e = rw (e, e) refl

pub help_faults : faults (codes "--help" ∷ []) ≡ kind.DisplayHelp ∷ []
unfolding clap_on_literals
help_faults = refl

pub help_of_faults : (name : Text) → IsCommand name → faults (name ∷ codes "--help" ∷ []) ≡ kind.DisplayHelp ∷ []
unfolding clap_on_literals
help_of_faults name (inl e) = rw e refl
help_of_faults name (inr (inl e)) = rw e refl
help_of_faults name (inr (inr e)) = rw e refl

pub two_faults : (name first second : Text) → IsCommand name → is_option first ≡ false → is_option second ≡ false → faults (name ∷ first ∷ second ∷ []) ≡ kind.UnknownArgument ∷ []
unfolding clap_on_literals
two_faults name [] [] (inl c) e f = rw c refl
two_faults name [] [] (inr (inl c)) e f = rw c refl
two_faults name [] [] (inr (inr c)) e f = rw c refl
two_faults name (a ∷ left) [] (inl c) e f = rw (c, e, e) refl
two_faults name (a ∷ left) [] (inr (inl c)) e f = rw (c, e, e) refl
two_faults name (a ∷ left) [] (inr (inr c)) e f = rw (c, e, e) refl
two_faults name [] (b ∷ right) (inl c) e f = rw (c, f, f) refl
two_faults name [] (b ∷ right) (inr (inl c)) e f = rw (c, f, f) refl
two_faults name [] (b ∷ right) (inr (inr c)) e f = rw (c, f, f) refl
two_faults name (a ∷ left) (b ∷ right) (inl c) e f = rw (c, e, e, f, f) refl
two_faults name (a ∷ left) (b ∷ right) (inr (inl c)) e f = rw (c, e, e, f, f) refl
two_faults name (a ∷ left) (b ∷ right) (inr (inr c)) e f = rw (c, e, e, f, f) refl

differs : (a b : Text) → a ≢ b → bytes_eq a b ≡ false
differs a b other = go (bytes_eq a b) refl
  where
    go : (t : Bool) → bytes_eq a b ≡ t → bytes_eq a b ≡ false
    go true e = absurd (other ((bytes_eq-Decides a b).0 e))
    go false e = e

stray : (word : Text) (rest : List Text) → is_option word ≡ false → bytes_eq (codes "run") word ≡ false → bytes_eq (codes "check") word ≡ false → bytes_eq (codes "upgrade") word ≡ false → bytes_eq (codes "help") word ≡ false
    → faults (word ∷ rest) ≡ kind.UnknownArgument ∷ kind.InvalidSubcommand ∷ []
unfolding clap_on_literals
stray [] rest o r c u h = refl
stray (b ∷ bs) rest o r c u h = rw (r, c, u, h, o, o) refl

pub stray_faults : (word : Text) (rest : List Text) → IsStray word → faults (word ∷ rest) ≡ kind.UnknownArgument ∷ kind.InvalidSubcommand ∷ []
stray_faults word rest s =
    stray word rest s.plain (differs (codes "run") word (λ e. s.command (inl (sym e)))) (differs (codes "check") word (λ e. s.command (inr (inl (sym e))))) (differs (codes "upgrade") word (λ e. s.command (inr (inr (sym e))))) (differs (codes "help") word (λ e. s.help (sym e)))

pub no_help_of_one : IsAmong kind.DisplayHelp (kind.UnknownArgument ∷ []) → ⊥
no_help_of_one (inl e) = cc
no_help_of_one (inr e) = e

pub no_help_of_two : IsAmong kind.DisplayHelp (kind.UnknownArgument ∷ kind.InvalidSubcommand ∷ []) → ⊥
no_help_of_two (inl e) = cc
no_help_of_two (inr (inl e)) = cc
no_help_of_two (inr (inr e)) = e
