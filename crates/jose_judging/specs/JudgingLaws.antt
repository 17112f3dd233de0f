-- The key that a reading's facts choose is one of the keys.
use Rattle.std.specs.Prelude.{◌≡◌, List}
use Rattle.json_grammar_rules.specs.Value.{Members}
use Rattle.keytable_rules.specs.Key.{Key}
use Rattle.jose_rules.specs.declared.Facts.{Facts}
use Rattle.jose_rules.specs.Facts.{facts_of}
use Rattle.jose_rules.proofs.DecisionLaws.{chosen_within}
use Rattle.jose_judging.specs.Judging.{KeyWithin}

pub key_within : (ms : Members) (ks : List Key) {f : Facts} → f ≡ facts_of ms ks → KeyWithin f ks
key_within ms ks e = record { within = λ i t. chosen_within ms ks (rw (← e) t) }
