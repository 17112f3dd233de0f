-- `encode_rest` meets its contract, by the number of bytes.
use mathlib.Core.Path.{refl}
use native.Mathlib.Omega.{arith}
use lib.ListN.{length}
use Rattle.base64url_rules.specs.Base64url.{encode}
use Rattle.base64url_rules.proofs.LengthLaws.{encoded_length_lem}
use Rattle.base64url_rules.proofs.Tables.{entries}
use Rattle.base64url_encoding.proofs.EncodeLaws.{as_listed, one_byte, two_bytes}
use Rattle.base64url_encoding.proofs.groups.encode_rest.Goals as goal

pub returns-in-empty : goal.returns-in-empty
unfolding entries encode
returns-in-empty c = as_listed c.args.bytes.now 0 c.args.out.now (omega arith) refl

pub returns-in-len1 : goal.returns-in-len1
unfolding entries
returns-in-len1 c = as_listed c.args.bytes.now 1 c.args.out.now (omega arith) (one_byte _ c.args.out.now c.encode_group.ensures (omega (arith, encoded_length_lem (length c.args.bytes.now))))

pub returns-in-len2-up : goal.returns-in-len2-up
unfolding entries
returns-in-len2-up c = as_listed c.args.bytes.now 2 c.args.out.now (omega arith) (two_bytes _ _ c.args.out.now c.encode_group-in-len2-up.ensures (omega (arith, encoded_length_lem (length c.args.bytes.now))))
