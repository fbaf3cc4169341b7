-- A command without subcommands takes the words where no step of their parse has a fault.
use Rattle.std.proofs.Common.{◌≡◌, ◌∙◌, ◌≤◌, ℕ, Bool, true, false, not, ◌&&◌, ◌||◌, ◌==◌, ◌+◌, zero, suc, min, List, [], ◌∷◌, drop, length, Option, None, Some, is_some, if◌then◌else◌, refl, sym, arith, nat_le, nat_lt, codes}
use Rattle.std.specs.Prelude.{encode_utf8, slice_get}
use Rattle.std.specs.List.{list_all, list_any}
use Rattle.std.specs.Option.{option_map_or}
use Rattle.std.specs.Str.{bytes_eq, chars}
use Rattle.std.proofs.lemmas.Bool.{and_from, eqb-true, ltb-false}
use borrow.Author.Tests.{le-leb}
use Rattle.clap.specs.Facts.{explicit_source, parser_of_value, unwrap_or_range}
use Rattle.clap.specs.Faults.{action_fault, bundle_step_fault, check_fault, count_fault, defaults_fault, fault_of, flag_word_fault, flags_fault, level_fault, long_fault, option_fault, other_fault, positional_fault, react_fault, repeat_fault, set_fault, settle_fault, short_fault, step_fault, stray_fault, turn_fault, use_fault, values_fault, walk_fault, word_fault}
use Rattle.clap.specs.Kinds.{Kinds, or_else, range_kinds, value_kinds}
use Rattle.clap.specs.Lexer.{long_of, short_of}
use Rattle.clap.specs.Matches.{count_text}
use Rattle.clap.specs.Simple.{App, Shape, argument_words, built, is_simple}
use Rattle.clap.specs.Takes.{action_passes, bundle_passes, bundle_step_passes, count_passes, default_passes, flag_word_passes, flags_pass, is_given, is_valid, level_passes, long_passes, option_passes, other_passes, positional_passes, react_passes, set_passes, settle_passes, short_passes, step_passes, takes, turn_passes, use_passes, value_passes, values_pass, walk_passes, word_passes}
use Rattle.clap.specs.Values.{refused_kind}
use Rattle.clap.specs.Walk.{Held, Names, Row, Rule, Step, Text, Waiting, Walk, action_of, arg_by_id, arg_by_index, arg_by_long, arg_by_short, attached_value, count_of, finished, has_row, is_pending, most_values, next, nothing_held, reacted, settled, subcommand, subcommand_met, takes_several, takes_values, trailing, value, values_or_missing, walk, walk_from, walked, word_met}
use Rattle.clap.specs.declared.builder.action.ArgAction.{ArgAction}
use Rattle.clap.specs.declared.builder.action.ArgAction.TheVariants.{Append, Count, Help, HelpLong, HelpShort, Set, SetFalse, SetTrue, Version}
use Rattle.clap.specs.declared.error.kind.ErrorKind.{ErrorKind}
use Rattle.clap.specs.declared.error.kind.ErrorKind.TheVariants as kind
use Rattle.clap.proofs.FaultLemmas.{leaf_fault}
use Rattle.clap.proofs.TakesLemmas.{leaf_takes}

-- of two steps without a fault, neither has one
neither : (a b : Kinds) → or_else a b ≡ [] → (a ≡ []) × (b ≡ [])
neither [] b h = (refl, h)
neither (k ∷ ks) b h = cc

-- without a fault, a choice takes the side that has none
other_side : (t : Bool) (k : ErrorKind) (b : Kinds) → (if t then k ∷ [] else b) ≡ [] → (t ≡ false) × (b ≡ [])
other_side true k b h = cc
other_side false k b h = (refl, h)

-- ---- one use of an argument

value_ok : (a : Rule) (v : Text) → value_kinds a.ignore_case (parser_of_value a.parser) v ≡ [] → value_passes a v ≡ true
value_ok a v h = by (value_passes a v) h
  where
    by : (t : Bool) → (if t then [] else refused_kind (parser_of_value a.parser) ∷ []) ≡ [] → t ≡ true
    by true h = refl
    by false h = cc

values_ok : (a : Rule) (vs : List Text) → values_fault a vs ≡ [] → values_pass a vs ≡ true
values_ok a [] h = refl
values_ok a (v ∷ vs) h =
    let two = neither (value_kinds a.ignore_case (parser_of_value a.parser) v) (values_fault a vs) h in
    and_from (value_passes a v) (values_pass a vs) (value_ok a v two.0) (values_ok a vs two.1)

count_ok : (a : Rule) (vs : List Text) (rows : List Row) → count_fault a vs rows ≡ [] → count_passes a vs rows ≡ true
count_ok a [] rows h = value_ok a (count_text (min (count_of a.id rows + 1) 255)) h
count_ok a (v ∷ vs) rows h = values_ok a (v ∷ vs) h

set_ok : (again : Bool) (a : Rule) (vs : List Text) (rows : List Row) → set_fault again a vs rows ≡ [] → set_passes again a vs rows ≡ true
set_ok again a vs rows h =
    let two = neither (repeat_fault again a.id rows) (values_fault a vs) h in
    and_from (not (has_row a.id rows) || again) (values_pass a vs) (by (has_row a.id rows) again two.0) (values_ok a vs two.1)
  where
    by : (has more : Bool) → (if has && not more then kind.ArgumentConflict ∷ [] else []) ≡ [] → (not has || more) ≡ true
    by true true h = refl
    by true false h = cc
    by false more h = refl

action_ok : (x : ArgAction) (again : Bool) (a : Rule) (vs : List Text) (rows : List Row)
    → action_fault x again a vs rows ≡ [] → action_passes x again a vs rows ≡ true
action_ok Set again a vs rows h = set_ok again a vs rows h
action_ok SetTrue again a vs rows h = set_ok again a vs rows h
action_ok SetFalse again a vs rows h = set_ok again a vs rows h
action_ok Append again a vs rows h = values_ok a vs h
action_ok Count again a vs rows h = count_ok a vs rows h
action_ok Help again a vs rows h = cc
action_ok HelpShort again a vs rows h = cc
action_ok HelpLong again a vs rows h = cc
action_ok Version again a vs rows h = cc

range_ok : (least most n : ℕ) → range_kinds least most n ≡ [] → (least ≤ n) × (n ≤ most)
range_ok least most n h = by (least == most) refl (other_side (nat_lt 0 least && n == 0) kind.InvalidValue _ h).1
  where
    exactly : (t : Bool) → least ≡ most → (least == n) ≡ t → (if t then [] else kind.WrongNumberOfValues ∷ []) ≡ [] → (least ≤ n) × (n ≤ most)
    exactly true same e h = let is : least ≡ n = eqb-true least n e in (omega arith, omega arith)
    exactly false same e h = cc

    by : (t : Bool) → (least == most) ≡ t → (if t then (if least == n then [] else kind.WrongNumberOfValues ∷ [])
        else (if nat_lt n least then kind.TooFewValues ∷ [] else (if nat_lt most n then kind.TooManyValues ∷ [] else []))) ≡ [] → (least ≤ n) × (n ≤ most)
    by true e h = exactly (least == n) (eqb-true least most e) refl h
    by false e h =
        let few = other_side (nat_lt n least) kind.TooFewValues (if nat_lt most n then kind.TooManyValues ∷ [] else []) h in
        let many = other_side (nat_lt most n) kind.TooManyValues [] few.1 in
        (ltb-false n least few.0, ltb-false most n many.0)

use_ok : (again : Bool) (a : Rule) (vs : List Text) (rows : List Row) → use_fault again a vs rows ≡ [] → use_passes again a vs rows ≡ true
use_ok again a vs rows h =
    let least = (unwrap_or_range a.range).start_inclusive in
    let acts = action_passes (action_of a) again a (values_or_missing a vs) rows in
    let two = neither (range_kinds least (most_values a) (length vs)) (action_fault (action_of a) again a (values_or_missing a vs) rows) h in
    let range = range_ok least (most_values a) (length vs) two.0 in
    and_from (nat_le least (length vs)) (nat_le (length vs) (most_values a) && acts) (le-leb least (length vs) range.0)
    (and_from (nat_le (length vs) (most_values a)) acts (le-leb (length vs) (most_values a) range.1)
    (action_ok (action_of a) again a (values_or_missing a vs) rows two.1))

-- ---- one word

module _ (c : List Rule) (again : Bool) where
  settle_ok : (h : Held) → settle_fault c again h ≡ [] → settle_passes c again h ≡ true
  settle_ok h e = by h.pending e
    where
      inner : (p : Text × List Text) (o : Option Rule) → option_map_or (λ a. use_fault again a p.1 h.rows) o [] ≡ []
          → option_map_or (λ a. use_passes again a p.1 h.rows) o true ≡ true
      inner p None e = refl
      inner p (Some a) e = use_ok again a p.1 h.rows e

      by : (o : Option (Text × List Text)) → option_map_or (λ p. option_map_or (λ a. use_fault again a p.1 h.rows) (arg_by_id c p.0) []) o [] ≡ []
          → option_map_or (λ p. option_map_or (λ a. use_passes again a p.1 h.rows) (arg_by_id c p.0) true) o true ≡ true
      by None e = refl
      by (Some p) e = inner p (arg_by_id c p.0) e

  react_ok : (a : Rule) (vs : List Text) (h : Held) → react_fault c again a vs h ≡ [] → react_passes c again a vs h ≡ true
  react_ok a vs h e =
      let two = neither (settle_fault c again h) (use_fault again a vs (settled c h).rows) e in
      and_from (settle_passes c again h) (use_passes again a vs (settled c h).rows) (settle_ok h two.0) (use_ok again a vs (settled c h).rows two.1)

  option_ok : (a : Rule) (v : Option Text) (h : Held) → option_fault c again a v h ≡ [] → option_passes c again a v h ≡ true
  option_ok a (Some v) h e = react_ok a (v ∷ []) h e
  option_ok a None h e = settle_ok h e

  long_ok : (found : Option Rule) (v : Option Text) (h : Held) → long_fault c again found v h ≡ [] → long_passes c again found v h ≡ true
  long_ok None v h e = cc
  long_ok (Some a) v h e = by (takes_values a) v e
    where
      by : (t : Bool) (v : Option Text)
          → (if t then option_fault c again a v h else (if is_some v then kind.TooManyValues ∷ [] else react_fault c again a [] h)) ≡ []
          → (if t then option_passes c again a v h else (not (is_some v) && react_passes c again a [] h)) ≡ true
      by true v e = option_ok a v h e
      by false None e = react_ok a [] h e
      by false (Some v) e = cc

  short_ok : (found : Option Rule) (rest : Text) (h : Held) (f : Held → Kinds) (p : Held → Bool) → ((g : Held) → f g ≡ [] → p g ≡ true)
      → short_fault c again found rest h f ≡ [] → short_passes c again found rest h p ≡ true
  short_ok None rest h f p later e = cc
  short_ok (Some a) rest h f p later e = by (takes_values a) e
    where
      by : (t : Bool) → (if t then option_fault c again a (attached_value rest) h else or_else (react_fault c again a [] h) (f (reacted c a [] h))) ≡ []
          → (if t then option_passes c again a (attached_value rest) h else (react_passes c again a [] h && p (reacted c a [] h))) ≡ true
      by true e = option_ok a (attached_value rest) h e
      by false e =
          let two = neither (react_fault c again a [] h) (f (reacted c a [] h)) e in
          and_from (react_passes c again a [] h) (p (reacted c a [] h)) (react_ok a [] h two.0) (later (reacted c a [] h) two.1)

  step_ok : (o : Option ℕ) (flags : Text) (skip : ℕ) (h : Held) (f : Text → ℕ → Held → Kinds) (p : Text → ℕ → Held → Bool)
      → ((t : Text) (n : ℕ) (g : Held) → f t n g ≡ [] → p t n g ≡ true)
      → bundle_step_fault c again o flags skip h f ≡ [] → bundle_step_passes c again o flags skip h p ≡ true
  step_ok None flags skip h f p later e = refl
  step_ok (Some x) flags zero h f p later e =
      let rest = drop (length (encode_utf8 x)) flags in
      short_ok (arg_by_short c x) rest h (f rest 0) (p rest 0) (later rest 0) e
  step_ok (Some x) flags (suc skip) h f p later e = later (drop (length (encode_utf8 x)) flags) skip h e

  flags_ok : (k : ℕ) (flags : Text) (skip : ℕ) (h : Held) → flags_fault c again k flags skip h ≡ [] → flags_pass c again k flags skip h ≡ true
  unfolding flags_fault flags_pass
  flags_ok zero flags skip h e = refl
  flags_ok (suc k) flags skip h e =
      step_ok (slice_get (chars flags) 0) flags skip h (flags_fault c again k) (flags_pass c again k) (flags_ok k) e

  flag_word_ok : (long : Option (Text × Option Text)) (word : Text) (h : Held) → flag_word_fault c again long word h ≡ []
      → flag_word_passes c again long word h ≡ true
  flag_word_ok (Some p) word h e = long_ok (arg_by_long c p.0) p.1 h e
  flag_word_ok None word h e = by (short_of word) e
    where
      by : (o : Option Text) → option_map_or (λ flags. flags_fault c again (length flags) flags h.skip (record h { skip = 0 })) o [] ≡ []
          → option_map_or (λ flags. bundle_passes c again flags h) o true ≡ true
      by None e = refl
      by (Some flags) e = flags_ok (length flags) flags h.skip (record h { skip = 0 }) e

  positional_ok : (a : Rule) (h : Held) → positional_fault c again a h ≡ [] → positional_passes c again a h ≡ true
  positional_ok a h e = by (is_pending a h.pending && takes_several a) e
    where
      by : (t : Bool) → (if t then [] else settle_fault c again h) ≡ [] → (t || settle_passes c again h) ≡ true
      by true e = refl
      by false e = settle_ok h e

-- ---- the walk

module _ (s : Shape) (names : Names) where
  other_ok : (met : Option Text) (word : Text) (h : Held) → other_fault s met word h ≡ [] → other_passes s met word h ≡ true
  other_ok (Some name) word h e = by (bytes_eq name (codes "help")) s.disable_help_subcommand e
    where
      by : (helps without : Bool) → (if helps && not without then kind.DisplayHelp ∷ kind.InvalidSubcommand ∷ [] else []) ≡ [] → (not helps || without) ≡ true
      by true true e = refl
      by true false e = cc
      by false without e = refl
  other_ok None word h e = by (bytes_eq word (45 ∷ 45 ∷ [])) e
    where
      by : (t : Bool) → (if t then [] else flag_word_fault s.rules s.args_override_self (long_of word) word h) ≡ []
          → (t || flag_word_passes s.rules s.args_override_self (long_of word) word h) ≡ true
      by true e = refl
      by false e = flag_word_ok s.rules s.args_override_self (long_of word) word h e

  word_ok : (is_trailing : Bool) (waiting : Waiting) (word : Text) (h : Held)
      → word_fault s names is_trailing waiting word h ≡ [] → word_passes s names is_trailing waiting word h ≡ true
  word_ok true waiting word h e = refl
  word_ok false waiting word h e = other_ok (subcommand_met names waiting word) word h e

  stray : (t : Bool) → (if t then kind.UnknownArgument ∷ [] else kind.UnknownArgument ∷ kind.InvalidSubcommand ∷ []) ≡ [] → false ≡ true
  stray true e = cc
  stray false e = cc

  next_ok : (position : ℕ) (h : Held) (step : Step) → step_fault s position h step ≡ [] → step_passes s position h step ≡ true
  next_ok position h (next waiting) e = refl
  next_ok position h (trailing n) e = refl
  next_ok position h (subcommand name) e = refl
  next_ok position h value e = by (arg_by_index s.rules position) e
    where
      by : (o : Option Rule) → option_map_or (λ a. positional_fault s.rules s.args_override_self a h) o (stray_fault s) ≡ []
          → option_map_or (λ a. positional_passes s.rules s.args_override_self a h) o false ≡ true
      by None e = stray s.is_leaf e
      by (Some a) e = positional_ok s.rules s.args_override_self a h e

  turn_ok : (w : Walk) (word : Text) → turn_fault s names w word ≡ [] → turn_passes s names w word ≡ true
  turn_ok w word e = by (is_some w.stopped) (word_met s.rules names w.is_trailing w.waiting w.position word w.held) e
    where
      by : (t : Bool) (met : Held × Step)
          → (if t then [] else or_else (word_fault s names w.is_trailing w.waiting word w.held) (step_fault s w.position met.0 met.1)) ≡ []
          → (t || (word_passes s names w.is_trailing w.waiting word w.held && step_passes s w.position met.0 met.1)) ≡ true
      by true met e = refl
      by false met e =
          let two = neither (word_fault s names w.is_trailing w.waiting word w.held) (step_fault s w.position met.0 met.1) e in
          and_from (word_passes s names w.is_trailing w.waiting word w.held) (step_passes s w.position met.0 met.1)
          (word_ok w.is_trailing w.waiting word w.held two.0) (next_ok w.position met.0 met.1 two.1)

  walk_ok : (w : Walk) (words : List Text) → walk_fault s names w words ≡ [] → walk_passes s names w words ≡ true
  unfolding walk_fault walk_passes
  walk_ok w [] e = refl
  walk_ok w (word ∷ rest) e =
      let two = neither (turn_fault s names w word) (walk_fault s names (walked s.rules names w word) rest) e in
      and_from (turn_passes s names w word) (walk_passes s names (walked s.rules names w word) rest) (turn_ok w word two.0)
      (walk_ok (walked s.rules names w word) rest two.1)

  -- ---- after the walk

  all_given : (rows : List Row) (rules : List Rule) → list_any (λ a. a.required && not (is_given a.id rows)) rules ≡ false
      → list_all (λ a. not a.required || is_given a.id rows) rules ≡ true
  all_given rows [] e = refl
  all_given rows (a ∷ rest) e = by a.required (is_given a.id rows) (all_given rows rest) e
    where
      by : (required given : Bool)
          → (list_any (λ a. a.required && not (is_given a.id rows)) rest ≡ false → list_all (λ a. not a.required || is_given a.id rows) rest ≡ true)
          → (required && not given || list_any (λ a. a.required && not (is_given a.id rows)) rest) ≡ false
          → ((not required || given) && list_all (λ a. not a.required || is_given a.id rows) rest) ≡ true
      by true true later e = later e
      by true false later e = cc
      by false given later e = later e

  valid_ok : (rows : List Row) (has : Bool) → list_all (λ a. a.is_free) s.rules ≡ true → check_fault s rows has ≡ [] → is_valid s rows has ≡ true
  valid_ok rows has free e =
      let explicit = list_any (λ r. explicit_source r.source) rows in
      let wanting = list_any (λ a. a.required && not (is_given a.id rows)) s.rules in
      let complete = list_all (λ a. not a.required || is_given a.id rows) s.rules in
      let one = other_side (not has && (s.arg_required_else_help && not explicit)) kind.DisplayHelpOnMissingArgumentOrSubcommand _ e in
      let two = other_side (not has && s.subcommand_required) kind.MissingSubcommand _ one.1 in
      let three = other_side (not (s.subcommand_negates_reqs && has) && wanting) kind.MissingRequiredArgument [] two.1 in
      and_from (not s.arg_required_else_help || (has || explicit)) _ (something s.arg_required_else_help has explicit one.0)
      (and_from (not s.subcommand_required || has) _ (below s.subcommand_required has two.0)
      (and_from (list_all (λ a. a.is_free) s.rules) _ free
      (required (s.subcommand_negates_reqs && has) wanting complete (all_given rows s.rules) three.0)))
    where
      something : (wants has explicit : Bool) → (not has && (wants && not explicit)) ≡ false → (not wants || (has || explicit)) ≡ true
      something false has explicit e = refl
      something true true explicit e = refl
      something true false true e = refl
      something true false false e = cc

      below : (wants has : Bool) → (not has && wants) ≡ false → (not wants || has) ≡ true
      below false has e = refl
      below true true e = refl
      below true false e = cc

      required : (lifted wanting complete : Bool) → (wanting ≡ false → complete ≡ true) → (not lifted && wanting) ≡ false → (lifted || complete) ≡ true
      required true wanting complete means e = refl
      required false wanting complete means e = means e

  level_ok : (h : Held) (words : List Text) (has : Bool) → list_all default_passes s.rules ≡ true → list_all (λ a. a.is_free) s.rules ≡ true
      → level_fault s names h words has [] ≡ [] → level_passes s names h words has ≡ true
  level_ok h words has defaults free e =
      let end = (walk s.rules names h words).held in
      let settles = settle_fault s.rules s.args_override_self end in
      let checks = check_fault s (finished s.rules end) has in
      let adds = defaults_fault (settled s.rules end).rows s.rules in
      let one = neither (walk_fault s names (walk_from h) words) (or_else settles (or_else adds checks)) e in
      let two = neither settles (or_else adds checks) one.1 in
      let three = neither adds checks two.1 in
      and_from (walk_passes s names (walk_from h) words) _ (walk_ok (walk_from h) words one.0)
      (and_from (settle_passes s.rules s.args_override_self end) _ (settle_ok s.rules s.args_override_self end two.0)
      (and_from (list_all default_passes s.rules) _ defaults (valid_ok (finished s.rules end) has free three.1)))

-- a simple command without subcommands, of which each default passes and no argument has a rule on another
pub takes_faultless : (a : App) (words : List Text) → is_simple a ≡ true → (built a).subs ≡ []
    → list_all default_passes (built a).top.rules ≡ true → list_all (λ r. r.is_free) (built a).top.rules ≡ true
    → fault_of a words ≡ [] → takes a words ≡ true
takes_faultless a words simple leaf defaults free e =
    let level = level_ok (built a).top [] nothing_held (argument_words a words) false defaults free
    (sym (leaf_fault (built a) nothing_held (argument_words a words) leaf) ∙ e) in
    and_from (is_simple a) _ simple (leaf_takes (built a) nothing_held (argument_words a words) leaf level)
