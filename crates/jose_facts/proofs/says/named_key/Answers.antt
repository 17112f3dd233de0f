-- `named_key`: the string is resolved into room for the longest id; what has no room there is no id.
use Rattle.std.proofs.Common.{refl, sym, length-take-le}
use Rattle.jose_facts.proofs.KeyNames.{resolved_within, named_found, named_long}
use Rattle.jose_facts.proofs.says.named_key.Goals as goal

pub returns-in_default : goal.returns-in_default
returns-in_default c = named_long _ _ _ _ _ _ c.resolve.ensures c.args.table.in_order refl c.in_default.is

pub slice_bounds-id-end : goal.slice_bounds-id-end
slice_bounds-id-end c = resolved_within _ _ _ _ _ c.resolve.ensures _ c.requires.1 c.in-Some.is

pub slice_bounds-find-end : goal.slice_bounds-find-end
slice_bounds-find-end c = sym (length-take-le _ _ (resolved_within _ _ _ _ _ c.resolve.ensures _ c.requires.1 c.in-Some.is))

pub returns : goal.returns
returns c = named_found _ _ _ _ _ _ c.resolve.ensures c.in-Some.is c.find.ensures
