use Rattle.std.proofs.Common.{None, inr}
use Rattle.clap.specs.Words.{app_of, kind_of}
use Rattle.lockrun_words.specs.Words.{texts}
use Rattle.lockrun_words.proofs.Told.{is_told, has_fault, found}
use Rattle.lockrun_words.proofs.words.parsed.Goals as goal

pub returns-clause-read : goal.returns-clause-read
returns-clause-read c =
    is_told (texts c.args.words.now) (kind_of c.in-Err.error) c.told.result c.told.ensures
    (has_fault (app_of c.in-Ok.command) (texts c.args.words.now) c.in-Err.error c.in-Ok.ensures c.in-Err.ensures.kinds)

pub returns-in-Ok-try_get_matches_from-clause-read : goal.returns-in-Ok-try_get_matches_from-clause-read
returns-in-Ok-try_get_matches_from-clause-read c =
    let clap = c.in-Ok-try_get_matches_from in
    inr (found (app_of c.in-Ok.command) (texts c.args.words.now) clap.matches None c.in-Ok.ensures clap.ensures.kinds clap.ensures.matches c.in-None.ensures.named)
