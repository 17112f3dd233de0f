-- `encode_into` meets its contract: the groups, and then the rest in the part behind their text.
use Prim.Native.Nat.{◌*◌, ◌/◌}
use native.Mathlib.Omega.{arith}
use lib.ListN.{length}
use Rattle.base64url_rules.proofs.Grouping.{encode_grouping, then_rest}
use Rattle.base64url_encoding.proofs.groups.encode_into.Goals as goal

pub returns : goal.returns
returns c =
    let n = length c.args.bytes.now / 3 in
    then_rest encode_grouping c.args.bytes.now c.args.out.now (n * 3) (n * 4) (omega arith) (omega arith) (omega arith) c.encode_groups.new.out c.encode_rest.new.out c.encode_groups.ensures c.encode_rest.ensures
