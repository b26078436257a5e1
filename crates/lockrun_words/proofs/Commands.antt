-- The matches of a subcommand, and the jobs that the command line names.
use Rattle.std.proofs.Common.{◌≡◌, List, Option, Some, None, refl, option_map, codes}
use Rattle.std.specs.Prelude.{Box}
use Rattle.std.specs.Box.{box_value}
use Rattle.clap.specs.Words.{Row, Text, first_value, rows_of, subcommand_rows, subcommand_rows_of}
use Rattle.clap.specs.declared.parser.matches.ArgMatches.{ArgMatches}
use Rattle.clap.specs.declared.parser.matches.ArgMatches.TheViews.{out-ArgMatches, out-SubCommand}
use Rattle.clap.specs.declared.parser.matches.Found.{Found}
use Rattle.clap.specs.declared.parser.matches.SubCommand.{SubCommand}
use Rattle.clap.proofs.WalkLemmas.{first_value-rows}
use Rattle.lockrun_words.specs.declared.options.Options.{Options}
use Rattle.lockrun_words.specs.Options.{options_of}
use Rattle.lockrun_words.specs.Words.{Order, run, check, upgrade, chosen_of, order_of, run_of}

module _ {Z : Type 0} where
  rows_met : (sub : Option (Box SubCommand Z)) (name : Text) (rows : List Row) → Some name ≡ option_map (λ b. (out-SubCommand (box_value b)).name.now) sub → Some rows ≡ option_map (λ p. p.1) (subcommand_rows sub) → subcommand_rows sub ≡ Some (name, rows)
  rows_met None name rows n r = cc
  rows_met (Some b) name rows n r = cc

named : (p : Text × List Row) (text : Text) → p.0 ≡ text → order_of (Some p) ≡ order_of (Some (text, p.1))
named p text e = rw e refl

pub runs : (m : ArgMatches) (found : Found) (name : Text) (o : Option Order) → Some name ≡ option_map (λ b. (out-SubCommand (box_value b)).name.now) (out-ArgMatches m).subcommand
    → Some (rows_of found) ≡ option_map (λ p. p.1) (subcommand_rows (out-ArgMatches m).subcommand) → name ≡ codes "run" → o ≡ run_of (rows_of found)
    → o ≡ order_of (subcommand_rows_of m)
runs m found name o n r is_name is_order =
    let met : subcommand_rows_of m ≡ Some (name, rows_of found) = rows_met (out-ArgMatches m).subcommand name (rows_of found) n r in
    rw (met, named (name, rows_of found) (codes "run") is_name, is_order) refl

pub checks : (m : ArgMatches) (found : Found) (name : Text) (file : Option Text) → Some name ≡ option_map (λ b. (out-SubCommand (box_value b)).name.now) (out-ArgMatches m).subcommand
    → Some (rows_of found) ≡ option_map (λ p. p.1) (subcommand_rows (out-ArgMatches m).subcommand) → name ≡ codes "check" → file ≡ first_value found (codes "file")
    → Some (check file) ≡ order_of (subcommand_rows_of m)
checks m found name file n r is_name is_file =
    let met : subcommand_rows_of m ≡ Some (name, rows_of found) = rows_met (out-ArgMatches m).subcommand name (rows_of found) n r in
    rw (met, named (name, rows_of found) (codes "check") is_name, is_file, first_value-rows found (codes "file")) refl

pub upgrades : (m : ArgMatches) (found : Found) (name : Text) (file : Option Text) → Some name ≡ option_map (λ b. (out-SubCommand (box_value b)).name.now) (out-ArgMatches m).subcommand
    → Some (rows_of found) ≡ option_map (λ p. p.1) (subcommand_rows (out-ArgMatches m).subcommand) → name ≡ codes "upgrade" → file ≡ first_value found (codes "file")
    → Some (upgrade file) ≡ order_of (subcommand_rows_of m)
upgrades m found name file n r is_name is_file =
    let met : subcommand_rows_of m ≡ Some (name, rows_of found) = rows_met (out-ArgMatches m).subcommand name (rows_of found) n r in
    rw (met, named (name, rows_of found) (codes "upgrade") is_name, is_file, first_value-rows found (codes "file")) refl

pub chosen : (found : Found) (shards steps threads turns : Option Text) (options : Option Options) → shards ≡ first_value found (codes "shards") → steps ≡ first_value found (codes "steps")
    → threads ≡ first_value found (codes "threads") → turns ≡ first_value found (codes "turns") → options ≡ options_of shards steps threads turns → options ≡ chosen_of (rows_of found)
chosen found shards steps threads turns options s t h u said =
    rw (said, s, t, h, u, first_value-rows found (codes "shards"), first_value-rows found (codes "steps"), first_value-rows found (codes "threads"), first_value-rows found (codes "turns")) refl

pub runs_with : (found : Found) (file : Option Text) (options : Option Options) → file ≡ first_value found (codes "file") → options ≡ chosen_of (rows_of found)
    → option_map (run file) options ≡ run_of (rows_of found)
runs_with found file options is_file said = rw (is_file, said, first_value-rows found (codes "file")) refl
