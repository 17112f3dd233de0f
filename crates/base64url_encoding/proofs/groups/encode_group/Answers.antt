-- `encode_group` meets its contract, character by character.
use Rattle.base64url_rules.specs.Base64url.{encode}
use Rattle.base64url_encoding.proofs.groups.encode_group.Goals as goal

pub returns : goal.returns
unfolding encode
returns c = cc
