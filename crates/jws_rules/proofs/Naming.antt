-- The promises about which key is taken: the one that the header names, and none where it names none. Theorems on `verified` and `signed`, as in Promises.
use Rattle.std.specs.Prelude.{◌≡◌, refl, true, ℕ, ◌<◌, length}
use Rattle.std.proofs.Common.{ap}
use Rattle.common.specs.First.{NoneOf, earlier}
use Rattle.keytable_rules.specs.Key.{key}
use Rattle.keytable_rules.specs.Table.{keys}
use Rattle.jose_rules.specs.Rules.{terms_of}
use Rattle.jose_rules.specs.Header.{NamesKey, NamesNoKey}
use Rattle.jose_rules.proofs.NamingLaws.{kid_there_lem, names_its_key, names_one, names_some, nameless_rule}
use Rattle.jws_rules.specs.Calls.{VerifyCall, SignCall}
use Rattle.jws_rules.specs.Token.{token_of, header_of}
use Rattle.jws_rules.specs.Outcomes.{VerifyOutcome, signed_as}
use Rattle.jws_rules.specs.Rules.{verifying, signing}
use Rattle.jws_rules.specs.Tests.{token_choice, verified, verify_answer, signed, sign_answer}
use Rattle.jws_rules.proofs.RuleLaws.{verify_is}
use Rattle.jws_rules.proofs.AcceptedLaws.{accepted_only, sign_header}
use Rattle.jws_rules.proofs.Promises.{verify_first, sign_first, sign_gives_lem}

-- A TOKEN THAT NAMES NO KEY IS NEVER ACCEPTED, ..
pub nameless_refused : (q : VerifyCall) → NamesNoKey (header_of q.token) → verify_answer q ≡ 0 → ⊥
nameless_refused q n e = names_some (accepted_only q e).header n

-- .. and a header that names none is never signed, whatever the table; ..
pub nameless_unsigned : (q : SignCall) → NamesNoKey q.header → sign_answer q ≡ 0 → ⊥
nameless_unsigned q n e = names_some (sign_header q e).1 n

-- .. the answer is 12, unless a rule before it refuses.
pub nameless_12 : (q : VerifyCall) → NamesNoKey (header_of q.token) → NoneOf (earlier (verifying q) 12) → verify_answer q ≡ 12
nameless_12 q w n = (verify_first q 12 refl).1 (nameless_rule (terms_of q.table) w, n)

pub sign_nameless_12 : (q : SignCall) → NamesNoKey q.header → NoneOf (earlier (signing q) 12) → sign_answer q ≡ 12
sign_nameless_12 q w n = (sign_first q 12 refl).1 (nameless_rule (terms_of q.table) w, n)

-- WHAT IS ACCEPTED names the key whose index the record has, and the record says that `kid` is there.
pub accepted_names : (q : VerifyCall) → verify_answer q ≡ 0
    → let c = (verified q).gives.details.choice in
    NamesKey (header_of q.token) (keys q.table) c.key_index × (c.kid_present ≡ true)
accepted_names q e =
    let w = (accepted_only q e).header in
    rw (ap (λ (v : VerifyOutcome). v.gives.details) (verify_is q e)) (names_its_key w, kid_there_lem w)

-- WHAT IS SIGNED is the token under the secret of the key that the header names.
pub signed_by_name : (q : SignCall) → sign_answer q ≡ 0
    → (i : ℕ) × NamesKey q.header (keys q.table) i × (signed q ≡ signed_as (token_of (key (keys q.table) i).secret q.header q.payload) q.room)
signed_by_name q e = let g = sign_gives_lem q e in (g.0.key_index, names_its_key g.1, g.2)

-- OF TWO TABLES that have no id in common at most one accepts a token, whichever secrets they share.
pub ids_apart : (q r : VerifyCall) → q.token ≡ r.token
    → ((i j : ℕ) → i < length (keys q.table) → j < length (keys r.table) → (key (keys q.table) i).id ≡ (key (keys r.table) j).id → ⊥)
    → verify_answer q ≡ 0 → verify_answer r ≡ 0 → ⊥
ids_apart q r same apart e f =
    let a = (accepted_only q e).header in
    let b = (accepted_only r f).header in
    let named : NamesKey (header_of r.token) (keys q.table) (token_choice q).key_index = rw (← same) (names_its_key a) in
    apart _ _ a.chooses.key_is.2.within b.chooses.key_is.2.within (names_one b named)
