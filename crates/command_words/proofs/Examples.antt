-- What some command lines ask for, by computation.
use Rattle.std.proofs.Common.{◌≡◌, true, false, [], ◌∷◌, None, Some, codes, refl}
use Rattle.clap.proofs.OnLiterals.{clap_on_literals}
use Rattle.clap.specs.Simple.{is_simple}
use Rattle.command_words.specs.Command.{are_taken, found_in, sodac_command}
use Rattle.command_words.specs.Orders.{Asked, Origin, order_of, program, seed}
use Rattle.command_words.specs.declared.mode.Mode.{Mode}
use Rattle.command_words.specs.declared.mode.Mode.TheVariants.{Check, Plain, Plan, Compile, Sim, Selftest}

-- no flag, no option and nothing behind the origin
abbrev bare : Mode → Origin → Asked
bare mode source = record {
  mode = mode;
  share = false;
  raw = false;
  trace = false;
  params = None;
  stall = None;
  source = source;
  rows = None;
  target = None;
  names = [];
}

simple : is_simple sodac_command ≡ true
simple = refl

checked : order_of (codes "sodac" ∷ codes "check" ∷ codes "a.soda" ∷ []) ≡ Some (bare Check (program (codes "a.soda")))
unfolding clap_on_literals order_of are_taken found_in
checked = refl

flag_behind : order_of (codes "sodac" ∷ codes "plan" ∷ codes "a" ∷ codes "--share" ∷ []) ≡ Some (record (bare Plan (program (codes "a"))) { share = true })
unfolding clap_on_literals order_of are_taken found_in
flag_behind = refl

plain_order : order_of (codes "sodac" ∷ codes "--raw" ∷ codes "plain" ∷ codes "--params=p" ∷ codes "a" ∷ codes "20" ∷ codes "x" ∷ codes "y" ∷ [])
    ≡ Some (record (bare Plain (program (codes "a"))) { raw = true; params = Some (codes "p"); rows = Some 20; names = codes "x" ∷ codes "y" ∷ [] })
unfolding clap_on_literals order_of are_taken found_in
plain_order = refl

no_names : order_of (codes "sodac" ∷ codes "plain" ∷ codes "a" ∷ codes "0" ∷ []) ≡ Some (record (bare Plain (program (codes "a"))) { rows = Some 0 })
unfolding clap_on_literals order_of are_taken found_in
no_names = refl

compiled : order_of (codes "sodac" ∷ codes "compile" ∷ codes "a" ∷ codes "m" ∷ [])
    ≡ Some (record (bare Compile (program (codes "a"))) { target = Some (codes "m") })
unfolding clap_on_literals order_of are_taken found_in
compiled = refl

simulated : order_of (codes "sodac" ∷ codes "sim" ∷ codes "--trace" ∷ codes "--stall" ∷ codes "s" ∷ codes "a" ∷ codes "5" ∷ codes "--" ∷ codes "--raw" ∷ [])
    ≡ Some (record (bare Sim (program (codes "a"))) { trace = true; stall = Some (codes "s"); rows = Some 5; names = codes "--raw" ∷ [] })
unfolding clap_on_literals order_of are_taken found_in
simulated = refl

tested : order_of (codes "sodac" ∷ codes "selftest" ∷ codes "18446744073709551615" ∷ []) ≡ Some (bare Selftest (seed 18446744073709551615))
unfolding clap_on_literals order_of are_taken found_in
tested = refl

between_words : order_of (codes "sodac" ∷ codes "plain" ∷ codes "a" ∷ codes "--share" ∷ codes "5" ∷ codes "-" ∷ codes "--params" ∷ codes "p" ∷ codes "y" ∷ [])
    ≡ Some (record (bare Plain (program (codes "a"))) { share = true; params = Some (codes "p"); rows = Some 5; names = codes "-" ∷ codes "y" ∷ [] })
unfolding clap_on_literals order_of are_taken found_in
between_words = refl

dashes_first : order_of (codes "sodac" ∷ codes "--" ∷ codes "check" ∷ codes "-a" ∷ []) ≡ Some (bare Check (program (codes "-a")))
unfolding clap_on_literals order_of are_taken found_in
dashes_first = refl

flags_not_taken : (order_of (codes "sodac" ∷ codes "check" ∷ codes "--raw" ∷ codes "a" ∷ []) ≡ None)
    × (order_of (codes "sodac" ∷ codes "plain" ∷ codes "--stall" ∷ codes "s" ∷ codes "a" ∷ codes "5" ∷ []) ≡ None)
    × (order_of (codes "sodac" ∷ codes "selftest" ∷ codes "--share" ∷ codes "1" ∷ []) ≡ None)
unfolding clap_on_literals order_of are_taken found_in
flags_not_taken = (refl, refl, refl)

flag_twice : order_of (codes "sodac" ∷ codes "check" ∷ codes "--share" ∷ codes "a" ∷ codes "--share" ∷ []) ≡ None
unfolding clap_on_literals order_of are_taken found_in
flag_twice = refl

not_by_clap : (order_of (codes "sodac" ∷ codes "plain" ∷ codes "a" ∷ codes "5" ∷ codes "--params" ∷ []) ≡ None)
    × (order_of (codes "sodac" ∷ codes "plain" ∷ codes "--params" ∷ codes "--raw" ∷ codes "a" ∷ codes "5" ∷ []) ≡ None)
    × (order_of (codes "sodac" ∷ codes "check" ∷ codes "a" ∷ codes "--fast" ∷ []) ≡ None)
    × (order_of (codes "sodac" ∷ codes "check" ∷ codes "a" ∷ codes "--share=yes" ∷ []) ≡ None)
    × (order_of (codes "sodac" ∷ codes "--help" ∷ []) ≡ None)
    × (order_of (codes "sodac" ∷ codes "--share" ∷ []) ≡ None) × (order_of [] ≡ None)
unfolding clap_on_literals order_of are_taken found_in
not_by_clap = (refl, refl, refl, refl, refl, refl, refl)

words_amiss : (order_of (codes "sodac" ∷ codes "run" ∷ codes "a" ∷ []) ≡ None)
    × (order_of (codes "sodac" ∷ codes "check" ∷ codes "a" ∷ codes "b" ∷ []) ≡ None)
    × (order_of (codes "sodac" ∷ codes "plain" ∷ codes "a" ∷ codes "05" ∷ []) ≡ None)
    × (order_of (codes "sodac" ∷ codes "compile" ∷ codes "a" ∷ codes "a" ∷ []) ≡ None)
    × (order_of (codes "sodac" ∷ codes "selftest" ∷ codes "18446744073709551616" ∷ []) ≡ None)
unfolding clap_on_literals order_of are_taken found_in
words_amiss = (refl, refl, refl, refl, refl)
