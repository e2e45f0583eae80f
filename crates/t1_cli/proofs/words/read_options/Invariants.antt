use Rattle.std.proofs.Common.{◌≡◌, drop, map, Some}
use Rattle.std.specs.Prelude.{string_bytes}
use Rattle.t1_cli.specs.Words.{options_after, options_of}
use Rattle.t1_cli.proofs.words.read_options.Given as goal

abbrev pub invariant-loop-word : goal.invariant-loop-word
invariant-loop-word l = options_after (Some l.reading) (map string_bytes (drop l.word-index l.words)) ≡ options_of (map string_bytes l.words)
