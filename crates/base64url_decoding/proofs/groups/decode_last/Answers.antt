-- `decode_last` meets its contract: a group if there is one, and then the rest in the part behind its bytes.
use mathlib.Core.Path.{refl, sym, ◌∙◌}
use native.Mathlib.Omega.{arith}
use Rattle.base64url_decoding.proofs.DecodeLaws.{not_strict, group_refused, group_first, whole}
use Rattle.base64url_decoding.proofs.groups.decode_last.Goals as goal

pub returns-in_default-group : goal.returns-in_default-group
returns-in_default-group c = not_strict (group_refused c.args.text.now (omega arith) (sym c.in_default-group.is ∙ c.group.ensures))

pub returns : goal.returns
returns c =
    let d = group_first c.args.text.now c.args.out.now (omega arith) (omega arith) (sym c.in-Some.is ∙ c.group.ensures) in
    whole c.args.text.now c.args.out.now _ c.decode_rest-2.new.out 4 3 refl (omega arith) refl refl d c.decode_rest-2.ensures
