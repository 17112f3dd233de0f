-- `judge_key`, rule by rule.
use Rattle.std.proofs.Common.{not, sym, ap, ◌∙◌}
use Rattle.jose_judging.proofs.FormatLaws.{lacks, small}
use Rattle.jose_judging.proofs.KeyRules.{key_12, key_13, key_14, key_taken}
use Rattle.jose_judging.proofs.judging.judge_key.Goals as goal

pub returns-in_default : goal.returns-in_default
returns-in_default c = key_12 _ _ c.in_default.ensures

pub key-key-requires : goal.key-key-requires
key-key-requires c = c.requires.0.within _ c.in-Some.ensures

pub returns-then-not-hs256 : goal.returns-then-not-hs256
returns-then-not-hs256 c =
    let allows = rw (c.key-key.ensures.1, c.key-key.ensures.0) at c.allows_hs256-hs256.ensures in
    key_13 _ _ c.in-Some.ensures (sym allows ∙ c.if-not-hs256.true)

pub returns-in_default-small_format : goal.returns-in_default-small_format
returns-in_default-small_format c =
    let allows = rw (c.key-key.ensures.1, c.key-key.ensures.0) at c.allows_hs256-hs256.ensures in
    key_14 _ _ c.in-Some.ensures (sym allows ∙ c.if-not-hs256.false) (lacks _ _ c.requires.1 c.in_default-small_format.ensures)

pub allows_format-requires : goal.allows_format-requires
allows_format-requires c = let format = small _ c.in-Some-small_format.ensures in (format.least, format.most)

pub returns-then-not-allows_format : goal.returns-then-not-allows_format
returns-then-not-allows_format c =
    let allows = rw (c.key-key.ensures.1, c.key-key.ensures.0) at c.allows_hs256-hs256.ensures in
    let format = small _ c.in-Some-small_format.ensures in
    let bit = rw (c.key-key.ensures.1, c.key-key.ensures.0) at c.if-not-allows_format.ensures in
    key_14 _ _ c.in-Some.ensures (sym allows ∙ c.if-not-hs256.false) (format.lacks_it _ ∙ ap not (sym bit))

pub returns : goal.returns
returns c =
    let allows = rw (c.key-key.ensures.1, c.key-key.ensures.0) at c.allows_hs256-hs256.ensures in
    let format = small _ c.in-Some-small_format.ensures in
    let bit = rw (c.key-key.ensures.1, c.key-key.ensures.0) at c.if-not-allows_format.ensures in
    key_taken _ _ c.in-Some.ensures (sym allows ∙ c.if-not-hs256.false) (format.lacks_it _ ∙ ap not (sym bit)) c.is_there.ensures format.is
