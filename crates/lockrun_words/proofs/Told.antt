-- The job or error of a command line, from the result that clap gives for its words.
use Rattle.std.proofs.Common.{◌≡◌, ◌⊎◌, List, [], ◌∷◌, true, Option, Some, None, Result, Ok, Err, inl, inr, sym, subst, ap, ◌∙◌}
use Rattle.clap.specs.Words.{App, Text, HasKind, HasMatchesOf, IsAmong, Kinds, fault_of, is_simple_and_free, kind_of, subcommand_rows_of}
use Rattle.clap.specs.declared.error.Error.{Error}
use Rattle.clap.specs.declared.parser.matches.ArgMatches.{ArgMatches}
use Rattle.clap.specs.declared.error.kind.ErrorKind.{ErrorKind}
use Rattle.clap.specs.declared.error.kind.ErrorKind.TheVariants as kind
use Rattle.lockrun_words.proofs.Literals.{is_plain, is_exact}
use Rattle.lockrun_words.specs.declared.words.Job.{Job}
use Rattle.lockrun_words.specs.declared.words.WordsError.{WordsError}
use Rattle.lockrun_words.specs.declared.words.WordsError.TheVariants as errors
use Rattle.lockrun_words.specs.Words.{Order, order, order_of, lockrun, named, faults, IsReadOf, IsToldBy, IsJobOf, Helps, Refuses}

-- An error of clap is translated into the matching error.
pub is_told : (words : List Text) (k : ErrorKind) (e : WordsError) → IsToldBy k e → (k ≡ kind.OutOfMemory) ⊎ IsAmong k (faults words) → IsReadOf words (Err e)
is_told words k (errors.Help text) told (inl m) = let bad : kind.DisplayHelp ≡ kind.OutOfMemory = sym told ∙ m in cc
is_told words k (errors.Help text) told (inr a) = subst (λ (x : ErrorKind). IsAmong x (faults words)) told a
is_told words k errors.Refused told (inl m) = absurd (told.1 m)
is_told words k errors.Refused told (inr a) = inl (record { fault = k; among = a; other = told.0 })
is_told words k errors.Memory told a = tt

pub has_fault : (a : App) (words : List Text) (e : Error) → a ≡ lockrun → (is_simple_and_free a ≡ true → HasKind (fault_of a words) e) → (kind_of e ≡ kind.OutOfMemory) ⊎ IsAmong (kind_of e) (faults words)
has_fault a words e same h = subst (λ (x : App). is_simple_and_free x ≡ true → HasKind (fault_of x words) e) same h is_plain

-- Accepted words have no fault, and name the job that clap found.
pub found : (a : App) (words : List Text) (m : ArgMatches) (o : Option Order) → a ≡ lockrun → (is_simple_and_free a ≡ true → fault_of a words ≡ []) → HasMatchesOf a words m → o ≡ order_of (subcommand_rows_of m) → (faults words ≡ []) × (named words ≡ o)
found a words m o same h matches is_named = (
  subst (λ (x : App). is_simple_and_free x ≡ true → fault_of x words ≡ []) same h is_plain,
  sym (is_named ∙ ap order_of ((subst (λ (x : App). HasMatchesOf x words m) same matches) is_exact).1),
)

-- Words without a fault are accepted.
pub gives : (words : List Text) (r : Result Job WordsError) (o : Order) → faults words ≡ [] → named words ≡ Some o → IsReadOf words r → IsJobOf r o
gives words (Ok job) o f n read = let same : Some (order job) ≡ Some o = sym read.1 ∙ n in cc
gives words (Err (errors.Help text)) o f n read = subst (λ (kinds : Kinds). IsAmong kind.DisplayHelp kinds) f read
gives words (Err errors.Refused) o f n (inl m) = subst (λ (kinds : Kinds). IsAmong m.fault kinds) f m.among
gives words (Err errors.Refused) o f n (inr m) = let bad : None ≡ Some o = sym m.1 ∙ n in cc
gives words (Err errors.Memory) o f n read = tt

pub helps : (words : List Text) (r : Result Job WordsError) → faults words ≡ kind.DisplayHelp ∷ [] → IsReadOf words r → Helps r
helps words (Ok job) f read = let bad : kind.DisplayHelp ∷ [] ≡ [] = sym f ∙ read.0 in cc
helps words (Err (errors.Help text)) f read = tt
helps words (Err errors.Refused) f (inl m) = one (subst (λ (kinds : Kinds). IsAmong m.fault kinds) f m.among)
  where
    one : IsAmong m.fault (kind.DisplayHelp ∷ []) → ⊥
    one (inl e) = m.other e
    one (inr e) = e
helps words (Err errors.Refused) f (inr m) = let bad : kind.DisplayHelp ∷ [] ≡ [] = sym f ∙ m.0 in cc
helps words (Err errors.Memory) f read = tt

-- Words with a fault that is not a request for help are refused.
pub refuses : (words : List Text) (r : Result Job WordsError) (k : ErrorKind) (kinds : Kinds) → faults words ≡ k ∷ kinds → (IsAmong kind.DisplayHelp (k ∷ kinds) → ⊥) → IsReadOf words r → Refuses r
refuses words (Ok job) k kinds f other read = let bad : k ∷ kinds ≡ [] = sym f ∙ read.0 in cc
refuses words (Err (errors.Help text)) k kinds f other read = absurd (other (subst (λ (ks : Kinds). IsAmong kind.DisplayHelp ks) f read))
refuses words (Err errors.Refused) k kinds f other read = tt
refuses words (Err errors.Memory) k kinds f other read = tt

-- Words without a fault are refused if they name no job.
pub unnamed : (words : List Text) (r : Result Job WordsError) → faults words ≡ [] → named words ≡ None → IsReadOf words r → Refuses r
unnamed words (Ok job) f n read = let bad : None ≡ Some (order job) = sym n ∙ read.1 in cc
unnamed words (Err (errors.Help text)) f n read = subst (λ (kinds : Kinds). IsAmong kind.DisplayHelp kinds) f read
unnamed words (Err errors.Refused) f n read = tt
unnamed words (Err errors.Memory) f n read = tt
