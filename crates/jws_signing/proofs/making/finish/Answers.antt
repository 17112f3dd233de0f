-- `finish` meets its contract: 1, then 6, then the token.
use mathlib.Core.Path.{refl, sym, ◌∙◌}
use native.Mathlib.Omega.{arith}
use lib.ListN.{length}
use Rattle.base64url_rules.proofs.LengthLaws.{encoded_length_lem}
use Rattle.jws_rules.specs.Token.{token_of}
use Rattle.jws_rules.proofs.TokenLaws.{length_token}
use Rattle.jws_signing.proofs.SignLaws.{finished_size, payload_long, too_long, too_short, fitting}
use Rattle.jws_signing.proofs.WrittenLaws.{refuse, hand}
use Rattle.jws_signing.proofs.making.finish.Goals as goal

pub returns-then-payload-gt-TOKEN_MOST : goal.returns-then-payload-gt-TOKEN_MOST
returns-then-payload-gt-TOKEN_MOST c =
    refuse 1 (too_long c.args.header.now c.args.payload.now _ _ (payload_long c.args.header.now c.args.payload.now (omega arith))) refl refl

pub overflow_add-n : goal.overflow_add-n
overflow_add-n c = omega (arith, encoded_length_lem (length c.args.header.now), encoded_length_lem (length c.args.payload.now), c.encoded_len.ensures, c.encoded_len-2.ensures)

pub overflow_add-n-2 : goal.overflow_add-n-2
overflow_add-n-2 c = omega (arith, encoded_length_lem (length c.args.header.now), encoded_length_lem (length c.args.payload.now), c.encoded_len.ensures, c.encoded_len-2.ensures)

pub returns-then-n-gt-TOKEN_MOST : goal.returns-then-n-gt-TOKEN_MOST
returns-then-n-gt-TOKEN_MOST c = let n = finished_size _ _ c.encoded_len.ensures c.encoded_len-2.ensures in refuse 1 (too_long _ _ _ _ (omega arith)) refl refl

pub returns-then-token-n : goal.returns-then-token-n
returns-then-token-n c = let n = finished_size _ _ c.encoded_len.ensures c.encoded_len-2.ensures in refuse 6 (too_short _ _ _ _ (omega arith) (omega arith)) refl refl

pub compose-requires : goal.compose-requires
compose-requires c = omega (arith, finished_size _ _ c.encoded_len.ensures c.encoded_len-2.ensures)

pub returns : goal.returns
returns c =
    let n = finished_size _ _ c.encoded_len.ensures c.encoded_len-2.ensures in
    hand (token_of c.args.secret.now c.args.header.now c.args.payload.now) (fitting c.args.header.now c.args.payload.now _ _ (omega arith) (omega arith)) c.compose.ensures
    (n ∙ sym (length_token c.args.secret.now c.args.header.now c.args.payload.now)) (omega arith) (omega (arith, c.compose.auto))
